use Rattle.std.proofs.Common.{ℕ, ◌+◌, ◌-◌, ◌%◌, length, sym, ◌∙◌, subst, arith, slice_set}
use Rattle.std.specs.Int.NonZero.{non_zero_usize_get}
use Rattle.wire_span.specs.declared.span.Place.{Place}
use Rattle.wire_span.specs.declared.span.Place.TheVariants.{InHeader, InChunk}
use Rattle.wire_span.specs.Spans.{front_bytes, place_of, AtHeader, span_state, StopsBefore}
use Rattle.wire_span.specs.Renumbering.{RenumbersFront}
use Rattle.wire_span.proofs.SpanLemmas.{at_place, front_short, stops_is}
use Rattle.wire_span.proofs.RenumberLemmas.{Passes, chunk_renumbers, part_renumbers, header_renumbers}
use Rattle.wire_span.proofs.span.renumber.Renumber.step.Goals as goal

pub returns-in-Err-open_chunk-clause-refused : goal.returns-in-Err-open_chunk-clause-refused
returns-in-Err-open_chunk-clause-refused c =
    let self = c.args.self.now.decoder in
    let P = c.args.piece.now in
    let read = c.in-Ok.found.0 in
    let whole = c.in-Ok.ensures.whole in
    subst (λ (p : Place). StopsBefore (at_place self.max_allowed_packet self.seq_id self.size (place_of p)) P c.in-Err-open_chunk.error) (sym c.in-InHeader.is)
    (stops_is c.in-Err-open_chunk.error self.max_allowed_packet self.seq_id self.size read.len read.seq_id (front_bytes c.in-InHeader.came) P c.in-Ok.found.1.now whole.0 whole.1 c.in-Err-open_chunk.ensures.byte c.in-Err-open_chunk.ensures.refused)

pub returns-in-InChunk-clause-ok : goal.returns-in-InChunk-clause-ok
returns-in-InChunk-clause-ok c =
    let self = c.args.self.now.decoder in
    let j = c.args.self.now.next_id in
    let P = c.args.piece.now in
    let count = c.min-count.result in
    let after = span_state c.pass.new.self in
    subst (λ (p : Place). RenumbersFront (at_place self.max_allowed_packet self.seq_id self.size (place_of p)) j P P count after j) (sym c.in-InChunk.is)
    (subst (λ (k : ℕ). RenumbersFront (at_place self.max_allowed_packet self.seq_id self.size (place_of (InChunk c.in-InChunk.left c.in-InChunk.is_full))) j P P count (record after { id = k }) j) (sym c.pass.ensures.id)
    (chunk_renumbers self.max_allowed_packet self.seq_id j self.size (non_zero_usize_get c.in-InChunk.left) count c.in-InChunk.is_full c.pass.result P after (omega arith)
    (subst (λ (k : ℕ). Passes self.size k c.in-InChunk.is_full count c.pass.result after) c.get-in-InChunk.ensures.value c.pass.ensures.takes)))

pub returns-in-Err-clause-ok : goal.returns-in-Err-clause-ok
returns-in-Err-clause-ok c =
    let self = c.args.self.now.decoder in
    let j = c.args.self.now.next_id in
    let P = c.args.piece.now in
    let m = front_bytes c.in-Err.more in
    subst (λ (p : Place). RenumbersFront (at_place self.max_allowed_packet self.seq_id self.size (place_of p)) j P P (length P) (at_place self.max_allowed_packet self.seq_id self.size (AtHeader m)) j) (sym c.in-InHeader.is)
    (part_renumbers self.max_allowed_packet self.seq_id j self.size (front_bytes c.in-InHeader.came) m P c.in-Err.ensures.part (front_short c.in-Err.more))

pub returns-in-Ok-open_chunk-clause-ok : goal.returns-in-Ok-open_chunk-clause-ok
returns-in-Ok-open_chunk-clause-ok c =
    let self = c.args.self.now.decoder in
    let j = c.args.self.now.next_id in
    let P = c.args.piece.now in
    let R = c.in-Ok.found.1.now in
    let read = c.in-Ok.found.0 in
    let whole = c.in-Ok.ensures.whole in
    let shorter = c.in-Ok.ensures.shorter in
    let accepted = c.in-Ok-open_chunk.ensures.ok in
    let after = span_state c.pass-in-Ok.new.self in
    let count = length P - length R in
    let Q = slice_set P (count - 1) j in
    let before = at_place self.max_allowed_packet self.seq_id self.size (place_of (InHeader c.in-InHeader.came)) in
    subst (λ (p : Place). RenumbersFront (at_place self.max_allowed_packet self.seq_id self.size (place_of p)) j P Q count after ((j + 1) % 256)) (sym c.in-InHeader.is)
    (subst (λ (k : ℕ). RenumbersFront before j P Q count (record after { id = k }) ((j + 1) % 256)) (sym (c.pass-in-Ok.ensures.id ∙ accepted.2))
    (header_renumbers c.in-InHeader.came self.max_allowed_packet self.seq_id j self.size read.len read.seq_id c.open_chunk.new.self.size (count - 1) count P R c.pass-in-Ok.result after
    whole.0 whole.1 accepted.0 c.in-Ok-open_chunk.ensures.fits accepted.1 c.pass-in-Ok.ensures.takes (omega (arith, shorter)) (omega (arith, shorter))))
