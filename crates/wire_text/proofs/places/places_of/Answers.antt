use Rattle.std.proofs.Common.{refl}
use Rattle.wire_text.proofs.BackslashLemmas.{row_is}
use Rattle.wire_text.proofs.places.places_of.Goals as goal

pub returns : goal.returns
returns c = row_is _ c.args.escapes refl c.requires
