-- Written out, so that a body that breaks one of these is refused at once.
use Rattle.std.proofs.Common.{ℕ, List, Option, Some, Ok, false, subst, sym}
use Rattle.std.specs.Int.NonZero.{non_zero_usize_get}
use Rattle.wire_codec.specs.Chain.{RefusesChunk}
use Rattle.wire_codec.specs.Codec.{header_of, CodecState, DecodesStanding}
use Rattle.wire_codec.specs.GoingOn.{Decodes}
use Rattle.wire_codec.proofs.LinkLemmas.{begins_link, begins_on, begins_takes}
use Rattle.wire_codec.proofs.codec.packet.PacketCodec.begin_chunk.Goals as goal

-- a codec at these bytes, of a header that it remembers or not
abbrev at : (limit id : ℕ) (header : Option (ℕ × ℕ)) (src held : List ℕ) → CodecState
at limit id header src held = record { limit = limit; id = id; header = header; unread = src; held = held }

pub returns-clause-decodes : goal.returns-clause-decodes
returns-clause-decodes g c =
    let held = g.T.PacketDst.held c.args.dst.now in
    let src = c.args.src.now.items in
    let limit = c.args.self.now.max_allowed_packet in
    let id = c.args.self.now.seq_id in
    let header = Some (c.args.seq_id, non_zero_usize_get c.args.needed) in
    subst (λ (z : List ℕ). DecodesStanding (at limit id (header_of c.args.self.now) src held) (Ok false) (at limit id header z held)) (sym c.make_place.ensures)
    (subst (λ (h : Option (ℕ × ℕ)). DecodesStanding (at limit id h src held) (Ok false) (at limit id header src held)) (sym c.requires.none)
    (λ stands. begins_takes limit id _ _ src held c.requires.small stands c.requires.cut))

pub returns-clause-on : goal.returns-clause-on
returns-clause-on g c =
    let held = g.T.PacketDst.held c.args.dst.now in
    let src = c.args.src.now.items in
    let limit = c.args.self.now.max_allowed_packet in
    let id = c.args.self.now.seq_id in
    let header = Some (c.args.seq_id, non_zero_usize_get c.args.needed) in
    subst (λ (z : List ℕ). Decodes (at limit id (header_of c.args.self.now) src held) (Ok false) (at limit id header z held)) (sym c.make_place.ensures)
    (subst (λ (h : Option (ℕ × ℕ)). Decodes (at limit id h src held) (Ok false) (at limit id header src held)) (sym c.requires.none)
    (λ limits mark place on. begins_on limits mark place limit id _ _ src held c.requires.small on c.requires.cut))

pub returns-clause-chain : goal.returns-clause-chain
returns-clause-chain g c =
    let held = g.T.PacketDst.held c.args.dst.now in
    let src = c.args.src.now.items in
    let limit = c.args.self.now.max_allowed_packet in
    let id = c.args.self.now.seq_id in
    let header = Some (c.args.seq_id, non_zero_usize_get c.args.needed) in
    subst (λ (z : List ℕ). RefusesChunk limit id (header_of c.args.self.now) src held (Ok false) id header z held) (sym c.make_place.ensures)
    (subst (λ (h : Option (ℕ × ℕ)). RefusesChunk limit id h src held (Ok false) id header src held) (sym c.requires.none)
    (begins_link limit id _ _ src held c.requires.cut))
