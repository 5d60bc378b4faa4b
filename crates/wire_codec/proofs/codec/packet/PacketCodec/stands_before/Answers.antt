use Rattle.std.proofs.Common.{refl}
use Rattle.wire_codec.proofs.codec.packet.PacketCodec.stands_before.Goals as goal

pub returns : goal.returns
returns c = c.stands_behind.ensures c.args.dst.now refl
