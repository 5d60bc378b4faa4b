use Rattle.std.proofs.Common.{List, ℕ, ◌↔◌, subst}
use Rattle.std.specs.Option.{IsSome}
use Rattle.wire_codec.specs.Codec.{codec_state}
use Rattle.wire_codec.specs.InPlace.{HasFront}
use Rattle.wire_codec.proofs.codec.packet.PacketCodec.front_packet.Goals as goal

pub returns-clause-there : goal.returns-clause-there
returns-clause-there g c =
    subst (λ (z : List ℕ). IsSome c.front_packet_in.result ↔ HasFront (codec_state c.args.self.now z c.args.dst.now)) c.as_slice.ensures c.front_packet_in.ensures.there
