-- Written out, so that a body that breaks it is refused at once.
use Rattle.std.proofs.Common.{arith}
use Rattle.std.proofs.lemmas.Grind.{common_steps}
use Rattle.wire_codec.proofs.codec.delivery.hand_out.Goals as goal

pub returns-clause-packet : goal.returns-clause-packet
returns-clause-packet g c = grind (arith, common_steps)
