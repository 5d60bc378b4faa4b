use Rattle.std.proofs.Common.{List, ℕ, ◌↔◌, IsTrue, subst}
use Rattle.wire_codec.specs.Codec.{codec_state, Stands}
use Rattle.wire_codec.proofs.codec.packet.PacketCodec.stands_at.Goals as goal

pub returns : goal.returns
returns g c = subst (λ (z : List ℕ). IsTrue c.stands_before.result ↔ Stands (codec_state c.args.self.now z c.args.dst.now)) c.as_slice.ensures c.stands_before.ensures
