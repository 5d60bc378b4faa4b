use Rattle.wire_text.proofs.MaskLemmas.{compared}
use Rattle.wire_text.proofs.plain.others_in.Goals as goal

pub returns : goal.returns
returns c = compared c.args.bytes c.fits-bytes
