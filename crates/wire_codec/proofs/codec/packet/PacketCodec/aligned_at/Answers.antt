use Rattle.std.proofs.Common.{List, ℕ, ◌↔◌, IsTrue, subst}
use Rattle.wire_codec.specs.Codec.{codec_state}
use Rattle.wire_codec.specs.LimitedRuns.{Aligned}
use Rattle.wire_codec.proofs.codec.packet.PacketCodec.aligned_at.Goals as goal

pub returns : goal.returns
returns g c = subst (λ (z : List ℕ). IsTrue c.aligned_before.result ↔ Aligned (codec_state c.args.self.now z c.args.dst.now)) c.as_slice.ensures c.aligned_before.ensures
