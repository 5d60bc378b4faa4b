use Rattle.std.proofs.Common.{rules}
use Rattle.wire_laws.proofs.texts.bare_text_comes_back.Goals as goal

pub returns-clause-good : goal.returns-clause-good
returns-clause-good g c = search rules
