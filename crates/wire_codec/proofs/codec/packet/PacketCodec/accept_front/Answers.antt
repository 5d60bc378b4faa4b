use Rattle.std.proofs.Common.{List, ℕ, [], drop, sym, subst, Ok, true}
use Rattle.wire_codec.specs.Codec.{codec_state, DecodesStanding, ChunkChain}
use Rattle.wire_codec.specs.LimitedRuns.{DecodesAligned}
use Rattle.wire_codec.specs.GoingOn.{Decodes}
use Rattle.wire_codec.specs.InPlace.{front_payload, HasFront}
use Rattle.wire_codec.proofs.codec.packet.PacketCodec.accept_front.Goals as goal

pub accept_front_in-requires : goal.accept_front_in-requires
accept_front_in-requires g c = subst (λ (z : List ℕ). HasFront (codec_state c.args.self.now z [])) (sym c.as_slice.ensures) c.requires

pub returns-clause-decodes : goal.returns-clause-decodes
returns-clause-decodes g c =
    subst (λ (z : List ℕ). DecodesStanding (codec_state c.args.self.now z []) (Ok true) (codec_state c.accept_front_in.new.self (drop c.accept_front_in.result z) (front_payload z))) c.as_slice.ensures c.accept_front_in.ensures.decodes

pub returns-clause-aligned : goal.returns-clause-aligned
returns-clause-aligned g c =
    subst (λ (z : List ℕ). DecodesAligned (codec_state c.args.self.now z []) (Ok true) (codec_state c.accept_front_in.new.self (drop c.accept_front_in.result z) (front_payload z))) c.as_slice.ensures c.accept_front_in.ensures.aligned

pub returns-clause-on : goal.returns-clause-on
returns-clause-on g c =
    subst (λ (z : List ℕ). Decodes (codec_state c.args.self.now z []) (Ok true) (codec_state c.accept_front_in.new.self (drop c.accept_front_in.result z) (front_payload z))) c.as_slice.ensures c.accept_front_in.ensures.on

pub returns-clause-chain : goal.returns-clause-chain
returns-clause-chain g c =
    subst (λ (z : List ℕ). ChunkChain 1 (codec_state c.args.self.now z []) (Ok true) (codec_state c.accept_front_in.new.self (drop c.accept_front_in.result z) (front_payload z))) c.as_slice.ensures c.accept_front_in.ensures.chain
