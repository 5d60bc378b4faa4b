use Rattle.std.proofs.Common.{◌≡◌, ℕ, ◌<◌, List, [], ◌++◌, length, sym, ap, ◌∙◌, subst, refl, arith, rules, Option, Some, None, Ok, Err, true, false, Result, Bool}
use Rattle.wire_codec.specs.declared.codec.error.Refusal.TheVariants as refusal
use Rattle.wire_codec.specs.declared.codec.error.PacketCodecError.TheVariants.{OutOfMemory}
use Rattle.std.specs.Int.NonZero.{non_zero_usize_get}
use Rattle.wire_codec.specs.declared.codec.error.PacketCodecError.{PacketCodecError}
use Rattle.wire_codec.specs.Codec.{codec_state, header_of, ChunkChain, HasChunk, DecodesPacket, DecodesStanding, IsChain}
use Rattle.wire_codec.specs.OneChunk.{IsTakeable, DecodesChunk}
use Rattle.wire_codec.specs.GoingOn.{Decodes}
use Rattle.wire_codec.specs.Delivery.{chunk_len}
use Rattle.wire_codec.specs.Refusals.{answer_of}
use Rattle.wire_codec.specs.InPlace.{front_payload, HasFront}
use Rattle.wire_codec.proofs.AnswerLemmas.{no_ok, no_true, lacks_chain}
use Rattle.wire_codec.proofs.InPlaceLemmas.{state_of, front_len}
use Rattle.wire_codec.proofs.codec.packet.PacketCodec.decode_on.Goals as goal

-- the packet in front is a chunk that may be taken
takeable : (limit id : ℕ) (header : Option (ℕ × ℕ)) (src held : List ℕ) (needed : ℕ) → HasFront (state_of limit id header src held) → needed ≡ chunk_len src → 0 < needed
    → IsTakeable header src (length held) limit id needed
takeable limit id None src held needed (aligned, empty, long, whole, small, is, within) len some =
    (sym is, len, some, (let none = ap length empty in omega (arith, len, within, none)), omega (arith, len, whole))
takeable limit id (Some h) src held needed (aligned, empty, long, whole, small, is, within) len some =
    let s = aligned.1 in
    (sym is ∙ s.1, len ∙ s.2, some, omega (arith, len, whole))

pub lack_room-requires-clause-takeable : goal.lack_room-requires-clause-takeable
lack_room-requires-clause-takeable g c =
    let held = g.T.PacketDst.held in
    let there = c.in-Some.ensures.there.0 refl in
    let src = c.as_slice-front.result.now in
    let limit = c.args.self.now.max_allowed_packet in
    let header = header_of c.args.self.now in
    let id = c.args.self.now.seq_id in
    let needed = non_zero_usize_get c.in-Some-new.needed in
    let len : needed ≡ chunk_len src = c.in-Some-new.ensures ∙ ap length c.in-Some.ensures.packet ∙ front_len src there.3 in
    let some : 0 < needed = search rules in
    let stays : c.as_ref.result.now ≡ held c.put_whole.new.dst = c.as_ref.ensures ∙ sym (c.if-not-put_whole.ensures.refused refl) in
    subst (λ (z : List ℕ). IsTakeable header z (length (held c.put_whole.new.dst)) limit id needed) c.as_slice-front.ensures
    (subst (λ (z : List ℕ). IsTakeable header src (length z) limit id needed) stays
    (takeable limit id header src c.as_ref.result.now needed there len some))

-- the packet stands after the empty `dst`
pub returns-in-Some-new-clause-chain : goal.returns-in-Some-new-clause-chain
returns-in-Some-new-clause-chain g c =
    let held = g.T.PacketDst.held in
    let src = c.args.src.now.items in
    let payload = front_payload src in
    let empty = sym c.as_ref.ensures ∙ (c.in-Some.ensures.there.0 refl).1 in
    let filled = sym (c.if-not-put_whole.ensures.put refl ∙ ap (λ (z : List ℕ). z ++ c.in-Some.packet.now) empty ∙ c.in-Some.ensures.packet ∙ ap front_payload c.as_slice-front.ensures) in (
      1,
      subst (λ (z : List ℕ). ChunkChain 1 (codec_state c.args.self.now src (held c.args.dst.now)) (Ok true) (codec_state c.take_front.new.self c.take_front.new.src.items z)) filled
          (subst (λ (z : List ℕ). ChunkChain 1 (codec_state c.args.self.now src z) (Ok true) (codec_state c.take_front.new.self c.take_front.new.src.items payload)) (sym empty) c.take_front.ensures.chain),
    )

pub returns-then-not-put_whole-clause-on : goal.returns-then-not-put_whole-clause-on
returns-then-not-put_whole-clause-on g c =
    let held = g.T.PacketDst.held in
    let src = c.args.src.now.items in
    let stays = c.if-not-put_whole.ensures.refused refl in
    let after = codec_state c.lack_room.new.self src (held c.put_whole.new.dst) in
    subst (λ (z : List ℕ). Decodes (codec_state c.args.self.now src z) (Err OutOfMemory) after) stays c.lack_room.ensures.on

pub returns-then-not-put_whole-clause-decodes : goal.returns-then-not-put_whole-clause-decodes
returns-then-not-put_whole-clause-decodes g c =
    let held = g.T.PacketDst.held in
    let src = c.args.src.now.items in
    let stays = c.if-not-put_whole.ensures.refused refl in
    let after = codec_state c.lack_room.new.self src (held c.put_whole.new.dst) in
    subst (λ (z : List ℕ). DecodesStanding (codec_state c.args.self.now src z) (Err OutOfMemory) after) stays c.lack_room.ensures.decodes

pub returns-then-not-put_whole-clause-chain : goal.returns-then-not-put_whole-clause-chain
returns-then-not-put_whole-clause-chain g c =
    let held = g.T.PacketDst.held in
    let src = c.args.src.now.items in
    let stays = c.if-not-put_whole.ensures.refused refl in
    let limit = c.args.self.now.max_allowed_packet in
    let header = header_of c.args.self.now in
    lacks_chain (Err OutOfMemory) limit c.args.self.now.seq_id header src (held c.args.dst.now) _ _ src (held c.put_whole.new.dst) refl c.lack_room.ensures.id
    (subst (λ (z : List ℕ). DecodesChunk header src z limit (Err OutOfMemory) (header_of c.lack_room.new.self) src (held c.put_whole.new.dst)) stays c.lack_room.ensures.refused)

pub returns-then-not-put_whole-clause-memory : goal.returns-then-not-put_whole-clause-memory
returns-then-not-put_whole-clause-memory g c said =
    let held = g.T.PacketDst.held in
    subst (λ (z : List ℕ). HasChunk (codec_state c.args.self.now c.args.src.now.items z)) (c.if-not-put_whole.ensures.refused refl) c.lack_room.ensures.there

pub returns-then-not-put_whole-clause-shorter : goal.returns-then-not-put_whole-clause-shorter
returns-then-not-put_whole-clause-shorter g c said = absurd (no_ok (Err refusal.OutOfMemory) refusal.OutOfMemory _ refl said)

pub returns-in-Some-new-clause-memory : goal.returns-in-Some-new-clause-memory
returns-in-Some-new-clause-memory g c said = absurd (no_ok (Err OutOfMemory) OutOfMemory _ refl (sym said))

pub returns-in-Some-new-clause-on : goal.returns-in-Some-new-clause-on
returns-in-Some-new-clause-on g c =
    let held = g.T.PacketDst.held in
    let src = c.args.src.now.items in
    let payload = front_payload src in
    let empty = sym c.as_ref.ensures ∙ (c.in-Some.ensures.there.0 refl).1 in
    let filled = sym (c.if-not-put_whole.ensures.put refl ∙ ap (λ (z : List ℕ). z ++ c.in-Some.packet.now) empty ∙ c.in-Some.ensures.packet ∙ ap front_payload c.as_slice-front.ensures) in
    subst (λ (z : List ℕ). Decodes (codec_state c.args.self.now src (held c.args.dst.now)) (Ok true) (codec_state c.take_front.new.self c.take_front.new.src.items z)) filled
    (subst (λ (z : List ℕ). Decodes (codec_state c.args.self.now src z) (Ok true) (codec_state c.take_front.new.self c.take_front.new.src.items payload)) (sym empty) c.take_front.ensures.on)

pub returns-in-Some-new-clause-decodes : goal.returns-in-Some-new-clause-decodes
returns-in-Some-new-clause-decodes g c =
    let held = g.T.PacketDst.held in
    let src = c.args.src.now.items in
    let payload = front_payload src in
    let empty = sym c.as_ref.ensures ∙ (c.in-Some.ensures.there.0 refl).1 in
    let filled = sym (c.if-not-put_whole.ensures.put refl ∙ ap (λ (z : List ℕ). z ++ c.in-Some.packet.now) empty ∙ c.in-Some.ensures.packet ∙ ap front_payload c.as_slice-front.ensures) in
    subst (λ (z : List ℕ). DecodesStanding (codec_state c.args.self.now src (held c.args.dst.now)) (Ok true) (codec_state c.take_front.new.self c.take_front.new.src.items z)) filled
    (subst (λ (z : List ℕ). DecodesStanding (codec_state c.args.self.now src z) (Ok true) (codec_state c.take_front.new.self c.take_front.new.src.items payload)) (sym empty) c.take_front.ensures.decodes)

pub take_front-requires : goal.take_front-requires
take_front-requires g c =
    let there = c.in-Some.ensures.there.0 refl in
    subst (λ (z : List ℕ). HasFront (codec_state c.args.self.now z [])) c.as_slice-front.ensures
    (subst (λ (z : List ℕ). HasFront (codec_state c.args.self.now c.as_slice-front.result.now z)) there.1 there)

-- where it waits, nothing was changed
pub returns-then-waits_at-clause-decodes : goal.returns-then-waits_at-clause-decodes
returns-then-waits_at-clause-decodes g c stands =
    let dst = g.T.PacketDst.held c.args.dst.now in
    let before = codec_state c.args.self.now c.args.src.now.items dst in
    let waits = rw c.as_slice-front.ensures at (c.if-waits_at.ensures.decodes dst refl) in
    subst (λ (z : List ℕ). DecodesPacket before (Ok false) (codec_state c.args.self.now z dst)) (sym c.begin_block.ensures) (waits stands)

pub returns-then-waits_at-clause-on : goal.returns-then-waits_at-clause-on
returns-then-waits_at-clause-on g c =
    let dst = g.T.PacketDst.held c.args.dst.now in
    let before = codec_state c.args.self.now c.args.src.now.items dst in
    let waits = rw c.as_slice-front.ensures at (c.if-waits_at.ensures.on dst refl) in
    subst (λ (z : List ℕ). Decodes before (Ok false) (codec_state c.args.self.now z dst)) (sym c.begin_block.ensures) waits

pub returns-then-waits_at-clause-chain : goal.returns-then-waits_at-clause-chain
returns-then-waits_at-clause-chain g c =
    let dst = g.T.PacketDst.held c.args.dst.now in
    let before = codec_state c.args.self.now c.args.src.now.items dst in
    let waits = rw c.as_slice-front.ensures at (c.if-waits_at.ensures.chain dst refl) in
    (0, subst (λ (z : List ℕ). ChunkChain 0 before (Ok false) (codec_state c.args.self.now z dst)) (sym c.begin_block.ensures) waits)

pub returns-then-waits_at-clause-memory : goal.returns-then-waits_at-clause-memory
returns-then-waits_at-clause-memory g c said = absurd (no_ok (Err OutOfMemory) OutOfMemory _ refl (sym said))

pub returns-then-waits_at-clause-shorter : goal.returns-then-waits_at-clause-shorter
returns-then-waits_at-clause-shorter g c said = absurd (no_true (Ok false) refl said)

pub returns-then-waits_at-clause-limit : goal.returns-then-waits_at-clause-limit
returns-then-waits_at-clause-limit g c = refl

pub returns-then-not-put_whole-clause-limit : goal.returns-then-not-put_whole-clause-limit
returns-then-not-put_whole-clause-limit g c = c.lack_room.ensures.limit

pub returns-in-Some-new-clause-limit : goal.returns-in-Some-new-clause-limit
returns-in-Some-new-clause-limit g c = c.take_front.ensures.limit

pub returns-in-Some-new-clause-shorter : goal.returns-in-Some-new-clause-shorter
returns-in-Some-new-clause-shorter g c said = c.take_front.ensures.shorter

-- what is in front isn't a whole packet
pub returns-clause-limit : goal.returns-clause-limit
returns-clause-limit g c = c.go_on.ensures.limit

pub returns-clause-decodes : goal.returns-clause-decodes
returns-clause-decodes g c =
    let held = g.T.PacketDst.held in
    let before = codec_state c.args.self.now c.args.src.now.items (held c.args.dst.now) in
    let after = codec_state c.go_on.new.self c.go_on.new.src.items (held c.go_on.new.dst) in
    subst (λ (z : Result Bool PacketCodecError). DecodesStanding before z after) (sym c.answer.ensures) c.go_on.ensures.decodes

pub returns-clause-on : goal.returns-clause-on
returns-clause-on g c =
    let held = g.T.PacketDst.held in
    let before = codec_state c.args.self.now c.args.src.now.items (held c.args.dst.now) in
    let after = codec_state c.go_on.new.self c.go_on.new.src.items (held c.go_on.new.dst) in
    subst (λ (z : Result Bool PacketCodecError). Decodes before z after) (sym c.answer.ensures) c.go_on.ensures.on

pub returns-clause-chain : goal.returns-clause-chain
returns-clause-chain g c =
    let held = g.T.PacketDst.held in
    let before = codec_state c.args.self.now c.args.src.now.items (held c.args.dst.now) in
    let after = codec_state c.go_on.new.self c.go_on.new.src.items (held c.go_on.new.dst) in
    subst (λ (z : Result Bool PacketCodecError). IsChain before z after) (sym c.answer.ensures) c.go_on.ensures.chain

pub returns-clause-memory : goal.returns-clause-memory
returns-clause-memory g c said = c.go_on.ensures.memory (sym c.answer.ensures ∙ said)

pub returns-clause-shorter : goal.returns-clause-shorter
returns-clause-shorter g c said = c.go_on.ensures.shorter (sym c.answer.ensures ∙ ap answer_of said)
