use Rattle.std.proofs.Common.{rules}
use Rattle.wire_laws.proofs.texts.u32_text_comes_back.Goals as goal

pub returns-clause-good : goal.returns-clause-good
returns-clause-good c = search rules
