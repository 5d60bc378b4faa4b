use Rattle.std.proofs.lemmas.Bool.{false≢true}
use Rattle.std.proofs.Common.{sym, refl, ◌∙◌, ◌+◌, ◌%◌, ap, arith}
use Rattle.wire_codec.specs.Codec.{expected_id}
use Rattle.wire_codec.specs.Framing.{header}
use Rattle.wire_packet_io.proofs.ReadingLemmas.{same_writing, room_for}
use Rattle.wire_packet_io.proofs.WholeLemmas.{put_is, relays_front}
use Rattle.wire_packet_io.proofs.reader.PacketReader.relay_whole.Goals as goal

pub returns-clause-relays : goal.returns-clause-relays
returns-clause-relays g c went =
    let now = c.self.inside in
    let len = c.in-Some.len in
    let id = expected_id c.args.writer_codec.now in
    let pending = c.args.writer.now.pending in
    let more = c.put_in_room.new.self.pending in
    let put = put_is pending more c.bytes-header.result c.as_slice.result.now now.input.src.items len id c.as_slice.ensures
    (c.bytes-header.ensures ∙ ap (λ i. header len i) c.sequence_id-seq_id.ensures) (c.put_in_room.ensures.put c.if-not-put_in_room.false) in
    let none = rw (← c.self.view_is) at c.requires.none in
    rw (← c.self.view_is, c.put_in_room.ensures.writer)
    (relays_front now.lent now.copied c.args.codec.now c.begin_at.new.self now.input.src.items c.advance.new.self.items (g.R.Read.remaining now.input.reader) now.input.reads
    len c.in-Some.next id (expected_id c.set_sequence_id.new.self) pending more (g.W.Write.contents c.args.writer.now.writer)
    none.0 none.1 c.in-Some.ensures c.advance.ensures.items c.begin_at.ensures.limit c.begin_at.ensures.id (omega arith)
    (c.set_sequence_id.ensures.id ∙ ap (λ i. (i + 1) % 256) c.sequence_id-seq_id.ensures) put)

pub returns-in_default-clause-relays : goal.returns-in_default-clause-relays
returns-in_default-clause-relays g c t = absurd (false≢true t)

pub returns-in_default-clause-header : goal.returns-in_default-clause-header
returns-in_default-clause-header g c t = absurd (false≢true t)

pub returns-in_default-clause-rest : goal.returns-in_default-clause-rest
returns-in_default-clause-rest g c = refl

pub returns-in_default-clause-limit : goal.returns-in_default-clause-limit
returns-in_default-clause-limit g c = refl

pub returns-in_default-clause-other : goal.returns-in_default-clause-other
returns-in_default-clause-other g c = (refl, refl)

pub returns-in_default-clause-not : goal.returns-in_default-clause-not
returns-in_default-clause-not g c f = (refl, refl, refl, refl)

pub bytes-header-requires : goal.bytes-header-requires
bytes-header-requires g c = c.in-Some.ensures.small

pub returns-then-not-put_in_room-clause-relays : goal.returns-then-not-put_in_room-clause-relays
returns-then-not-put_in_room-clause-relays g c t = absurd (false≢true t)

pub returns-then-not-put_in_room-clause-header : goal.returns-then-not-put_in_room-clause-header
returns-then-not-put_in_room-clause-header g c t = absurd (false≢true t)

pub returns-then-not-put_in_room-clause-rest : goal.returns-then-not-put_in_room-clause-rest
returns-then-not-put_in_room-clause-rest g c = refl

pub returns-then-not-put_in_room-clause-limit : goal.returns-then-not-put_in_room-clause-limit
returns-then-not-put_in_room-clause-limit g c = refl

pub returns-then-not-put_in_room-clause-other : goal.returns-then-not-put_in_room-clause-other
returns-then-not-put_in_room-clause-other g c = (refl, refl)

pub returns-then-not-put_in_room-clause-not : goal.returns-then-not-put_in_room-clause-not
returns-then-not-put_in_room-clause-not g c f = (
  refl,
  refl,
  same_writing c.put_in_room.new.self c.args.writer.now c.put_in_room.ensures.writer (c.put_in_room.ensures.full c.if-not-put_in_room.true),
  refl,
)

pub advance-requires : goal.advance-requires
advance-requires g c = c.in-Some.ensures.there

pub returns-clause-limit : goal.returns-clause-limit
returns-clause-limit g c = c.begin_at.ensures.limit

pub returns-clause-header : goal.returns-clause-header
returns-clause-header g c t = c.begin_at.ensures.header

pub returns-clause-not : goal.returns-clause-not
returns-clause-not g c f = absurd (false≢true (sym f))

pub overflow_add-payload : goal.overflow_add-payload
overflow_add-payload g c = record {
  fits = room_for c.in-Some.len c.in-Some.ensures.small;
}

pub overflow_add-len : goal.overflow_add-len
overflow_add-len g c = record {
  fits = room_for c.in-Some.len c.in-Some.ensures.small;
}
