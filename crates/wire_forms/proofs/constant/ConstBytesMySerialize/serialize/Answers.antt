use Rattle.std.proofs.Common.{arith}
use Rattle.wire_forms.proofs.constant.ConstBytesMySerialize.serialize.Goals as goal

pub VALUE-requires : goal.VALUE-requires
VALUE-requires g c = omega (arith, g.T.ConstBytesValue.fits)

pub shared_whole_as_slice-append : goal.shared_whole_as_slice-append
shared_whole_as_slice-append g c = omega (arith, g.T.ConstBytesValue.fits)
