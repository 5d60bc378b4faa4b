use Rattle.wire_text.proofs.BackslashLemmas.{control_mask}
use Rattle.wire_text.proofs.backslashes.control_bits.Goals as goal

pub returns : goal.returns
returns c = control_mask c.args.bytes c.fits-bytes.0
