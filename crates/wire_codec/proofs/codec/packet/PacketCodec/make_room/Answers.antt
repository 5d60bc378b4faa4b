use Rattle.std.proofs.Common.{List, ℕ, length, sym, ◌∙◌, subst, refl, Err}
use Rattle.wire_codec.specs.declared.codec.error.PacketCodecError.TheVariants.{OutOfMemory}
use Rattle.wire_codec.specs.Codec.{codec_state, header_of, DecodesStanding, HasChunk, LacksMemory}
use Rattle.std.specs.Int.NonZero.{non_zero_usize_get}
use Rattle.wire_codec.specs.OneChunk.{IsTakeable}
use Rattle.wire_codec.specs.GoingOn.{Decodes}
use Rattle.wire_codec.proofs.codec.packet.PacketCodec.make_room.Goals as goal

pub returns-else-is_ok-clause-decodes : goal.returns-else-is_ok-clause-decodes
returns-else-is_ok-clause-decodes g c =
    let src = c.args.src.now.items in
    let after = codec_state c.lack_room.new.self src (g.T.PacketDst.held c.reserve.new.self) in
    subst (λ (z : List ℕ). DecodesStanding (codec_state c.args.self.now src z) (Err OutOfMemory) after) c.reserve.ensures.held c.lack_room.ensures.decodes

pub returns-else-is_ok-clause-on : goal.returns-else-is_ok-clause-on
returns-else-is_ok-clause-on g c =
    let src = c.args.src.now.items in
    let after = codec_state c.lack_room.new.self src (g.T.PacketDst.held c.reserve.new.self) in
    subst (λ (z : List ℕ). Decodes (codec_state c.args.self.now src z) (Err OutOfMemory) after) c.reserve.ensures.held c.lack_room.ensures.on

pub returns-else-is_ok-clause-there : goal.returns-else-is_ok-clause-there
returns-else-is_ok-clause-there g c =
    subst (λ (z : List ℕ). HasChunk (codec_state c.args.self.now c.args.src.now.items z)) c.reserve.ensures.held c.lack_room.ensures.there

pub returns-in-None-clause-ok : goal.returns-in-None-clause-ok
returns-in-None-clause-ok g c = refl

pub returns-in-None-clause-refused : goal.returns-in-None-clause-refused
returns-in-None-clause-refused g c = tt

pub returns-in-None-clause-decodes : goal.returns-in-None-clause-decodes
returns-in-None-clause-decodes g c = tt

pub returns-in-None-clause-on : goal.returns-in-None-clause-on
returns-in-None-clause-on g c = tt

pub returns-in-None-clause-there : goal.returns-in-None-clause-there
returns-in-None-clause-there g c = tt

pub returns-in-None-clause-id : goal.returns-in-None-clause-id
returns-in-None-clause-id g c = refl

pub returns-in-None-clause-small : goal.returns-in-None-clause-small
returns-in-None-clause-small g c = tt

pub returns-in-None-clause-limit : goal.returns-in-None-clause-limit
returns-in-None-clause-limit g c = refl

pub returns-in-None-clause-held : goal.returns-in-None-clause-held
returns-in-None-clause-held g c = refl

pub returns-then-is_ok-clause-ok : goal.returns-then-is_ok-clause-ok
returns-then-is_ok-clause-ok g c = refl

pub returns-then-is_ok-clause-refused : goal.returns-then-is_ok-clause-refused
returns-then-is_ok-clause-refused g c = tt

pub returns-then-is_ok-clause-decodes : goal.returns-then-is_ok-clause-decodes
returns-then-is_ok-clause-decodes g c = tt

pub returns-then-is_ok-clause-on : goal.returns-then-is_ok-clause-on
returns-then-is_ok-clause-on g c = tt

pub returns-then-is_ok-clause-there : goal.returns-then-is_ok-clause-there
returns-then-is_ok-clause-there g c = tt

pub returns-then-is_ok-clause-id : goal.returns-then-is_ok-clause-id
returns-then-is_ok-clause-id g c = refl

pub returns-then-is_ok-clause-small : goal.returns-then-is_ok-clause-small
returns-then-is_ok-clause-small g c = tt

pub returns-then-is_ok-clause-limit : goal.returns-then-is_ok-clause-limit
returns-then-is_ok-clause-limit g c = refl

pub returns-then-is_ok-clause-held : goal.returns-then-is_ok-clause-held
returns-then-is_ok-clause-held g c = c.reserve.ensures.held

pub returns-else-is_ok-clause-ok : goal.returns-else-is_ok-clause-ok
returns-else-is_ok-clause-ok g c = tt

pub returns-else-is_ok-clause-refused : goal.returns-else-is_ok-clause-refused
returns-else-is_ok-clause-refused g c =
    let src = c.args.src.now.items in
    let after = codec_state c.lack_room.new.self src (g.T.PacketDst.held c.reserve.new.self) in
    subst (λ (z : List ℕ). LacksMemory (codec_state c.args.self.now src z) after) c.reserve.ensures.held c.lack_room.ensures.refused

pub returns-else-is_ok-clause-id : goal.returns-else-is_ok-clause-id
returns-else-is_ok-clause-id g c = c.lack_room.ensures.id

pub returns-else-is_ok-clause-limit : goal.returns-else-is_ok-clause-limit
returns-else-is_ok-clause-limit g c = c.lack_room.ensures.limit

pub returns-else-is_ok-clause-held : goal.returns-else-is_ok-clause-held
returns-else-is_ok-clause-held g c = c.reserve.ensures.held

pub lack_room-requires-clause-takeable : goal.lack_room-requires-clause-takeable
lack_room-requires-clause-takeable g c =
    let held = g.T.PacketDst.held in
    let limit = c.args.self.now.max_allowed_packet in
    let header = header_of c.args.self.now in
    let id = c.in-Some.seq_id in
    let needed = non_zero_usize_get c.in-Some.needed in
    subst (λ (z : List ℕ). IsTakeable header z (length (held c.reserve.new.self)) limit id needed) c.as_slice-front.ensures
    (subst (λ (z : List ℕ). IsTakeable header c.as_slice-front.result.now (length z) limit id needed) (c.as_ref-held.ensures ∙ sym c.reserve.ensures.held) c.in-Some.ensures)
