use Rattle.std.proofs.Common.{List, ℕ, [], ◌∙◌, length, length-drop, sym, ap, subst, arith, Ok, true}
use Rattle.wire_codec.specs.Codec.{codec_state, Stands, DecodesPacket, ChunkChain}
use Rattle.wire_codec.specs.LimitedRuns.{DecodesAligned}
use Rattle.wire_codec.specs.GoingOn.{Decodes}
use Rattle.wire_codec.specs.InPlace.{front_payload}
use Rattle.wire_codec.proofs.codec.packet.PacketCodec.take_front.Goals as goal

pub returns-clause-decodes : goal.returns-clause-decodes
returns-clause-decodes g c =
    let before = codec_state c.args.self.now c.args.src.now.items [] in
    let payload = front_payload c.args.src.now.items in
    subst (λ (z : List ℕ). Stands before → DecodesPacket before (Ok true) (codec_state c.accept_front-chunk.new.self z payload)) (sym c.advance.ensures.items) c.accept_front-chunk.ensures.decodes

pub returns-clause-aligned : goal.returns-clause-aligned
returns-clause-aligned g c =
    let before = codec_state c.args.self.now c.args.src.now.items [] in
    let payload = front_payload c.args.src.now.items in
    subst (λ (z : List ℕ). DecodesAligned before (Ok true) (codec_state c.accept_front-chunk.new.self z payload)) (sym c.advance.ensures.items) c.accept_front-chunk.ensures.aligned

pub returns-clause-on : goal.returns-clause-on
returns-clause-on g c =
    let before = codec_state c.args.self.now c.args.src.now.items [] in
    let payload = front_payload c.args.src.now.items in
    subst (λ (z : List ℕ). Decodes before (Ok true) (codec_state c.accept_front-chunk.new.self z payload)) (sym c.advance.ensures.items) c.accept_front-chunk.ensures.on

pub returns-clause-chain : goal.returns-clause-chain
returns-clause-chain g c =
    let before = codec_state c.args.self.now c.args.src.now.items [] in
    let payload = front_payload c.args.src.now.items in
    subst (λ (z : List ℕ). ChunkChain 1 before (Ok true) (codec_state c.accept_front-chunk.new.self z payload)) (sym c.advance.ensures.items) c.accept_front-chunk.ensures.chain

pub returns-clause-shorter : goal.returns-clause-shorter
returns-clause-shorter g c =
    let chunk = c.accept_front-chunk.ensures.chunk in
    let whole = c.accept_front-chunk.ensures.whole in
    let left = ap (λ (z : List ℕ). length z) c.advance.ensures.items ∙ length-drop c.accept_front-chunk.result c.args.src.now.items in
    omega (arith, chunk, whole, left)
