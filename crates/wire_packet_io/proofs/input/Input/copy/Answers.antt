use Rattle.std.proofs.Common.{◌∙◌, [], ap, refl, None, Ok, Err, true}
use Rattle.std.proofs.KnownBytes.{Appends-nil}
use Rattle.wire_span.specs.Spans.{span_state}
use Rattle.wire_packet_io.specs.Lending.{lender}
use Rattle.wire_packet_io.specs.Copying.{CopiesTo}
use Rattle.wire_packet_io.proofs.PacketIoLemmas.{above_zero}
use Rattle.wire_packet_io.proofs.CopyLemmas.{copied_size, copies_go, stops_by, stops_unended, reads_start, reads_read, reads_ended, reads_fail, at_end, read_nearer, read_stops, waits_still, so_far}
use Rattle.wire_packet_io.proofs.input.Input.copy.Given as given
use Rattle.wire_packet_io.proofs.input.Input.copy.Goals as goal
use Rattle.wire_packet_io.proofs.input.Input.copy.Goals.{In-Ok-false}

pub reads-init : goal.reads-init
reads-init g c = record {
  uncut = c.requires.uncut;
  limit = refl;
  held = refl;
  lost = refl;
  so_far = ([], Appends-nil _, reads_start (span_state c.args.decoder.now) c.args.self.now.src.items (g.R.Read.remaining c.args.self.now.reader) c.args.self.now.reads);
}

pub returns-in-Ok-true-clause-copies : goal.returns-in-Ok-true-clause-copies
returns-in-Ok-true-clause-copies g c =
    copies_go (Ok true) (span_state c.args.decoder.now) (span_state c.reads.decoder) (span_state c.copy_unread.new.decoder) c.args.self.now.src.items _ _ _ _ _ _ _ _ _ _ _
    c.reads.invariant.limit (ap (λ z. g.R.Read.remaining z.reader) c.copy_unread.ensures.kept.2) (ap (λ z. z.reads) c.copy_unread.ensures.kept.2) c.reads.invariant.so_far
    (rw c.in-Ok-true.field-0-test at c.in-Ok-true.ensures.goes) tt

pub returns-in-Err-clause-copies : goal.returns-in-Err-clause-copies
returns-in-Err-clause-copies g c =
    copies_go (Err c.in-Err.error) (span_state c.args.decoder.now) (span_state c.reads.decoder) (span_state c.copy_unread.new.decoder) c.args.self.now.src.items _ _ _ _ _ _ _ _ _ _ _
    c.reads.invariant.limit (ap (λ z. g.R.Read.remaining z.reader) c.copy_unread.ensures.kept.2) (ap (λ z. z.reads) c.copy_unread.ensures.kept.2) c.reads.invariant.so_far c.in-Err.ensures.goes
    (stops_unended c.in-Err.error _ _ c.reads.invariant.so_far.2.reads c.in-Err.ensures.ends)

-- what was there went, and the packet goes on
went : (g : given.Over) (c : In-Ok-false g)
    → CopiesTo g.R.Read.remaining g.W.Write.contents (span_state c.args.decoder.now) (lender None c.args.self.now) c.args.writer.now so_far
    (span_state c.copy_unread.new.decoder) (lender None c.copy_unread.new.self) c.copy_unread.new.writer
went g c =
    copies_go so_far (span_state c.args.decoder.now) (span_state c.reads.decoder) (span_state c.copy_unread.new.decoder) c.args.self.now.src.items _ _ _ _ _ _ _ _ _ _ _
    c.reads.invariant.limit (ap (λ z. g.R.Read.remaining z.reader) c.copy_unread.ensures.kept.2) (ap (λ z. z.reads) c.copy_unread.ensures.kept.2) c.reads.invariant.so_far
    (rw c.in-Ok-false.field-0-test at c.in-Ok-false.ensures.goes) tt

pub returns-in-Ok-eq0-clause-copies : goal.returns-in-Ok-eq0-clause-copies
returns-in-Ok-eq0-clause-copies g c =
    let s = went g (goal.at.returns-in-Ok-eq0-clause-copies g c).In-Ok-false in
    let waits = rw c.in-Ok-false.field-0-test at c.in-Ok-false.ensures.ends in (
      s.0,
      s.1,
      reads_ended c.at_copys_end.result _ _ _ _ _ _ _ _ _ _ _ s.0 _ s.2 waits c.in-Ok-eq0.ensures.ok (copied_size c.in-Ok-eq0.field-0 c.chunk_left.result _ c.chunk_left.ensures c.in-Ok-eq0.ensures.small) c.in-Ok-eq0.ensures.read
          c.in-Ok-eq0.field-0-test c.at_copys_end.ensures.going,
    )

pub reads-preserved : goal.reads-preserved
reads-preserved g c =
    let inv = c.reads.invariant in
    let s = went g (goal.at.reads-preserved g c).In-Ok-false in
    let waits = rw c.in-Ok-false.field-0-test at c.in-Ok-false.ensures.ends in
    record {
      uncut = c.copy_unread.ensures.kept.0;
      limit = c.copy_unread.ensures.kept.1 ∙ inv.limit;
      held = c.read_to_copy.ensures.dst ∙ ap (λ z. z.dst) c.copy_unread.ensures.kept.2 ∙ inv.held;
      lost = c.read_to_copy.ensures.lost ∙ ap (λ z. z.lost) c.copy_unread.ensures.kept.2 ∙ inv.lost;
      so_far = (s.0, s.1, reads_read _ _ _ _ _ _ _ _ _ _ _ s.0 _ s.2 waits c.in-Ok.ensures.ok (copied_size c.in-Ok.field-0 c.chunk_left.result _ c.chunk_left.ensures c.in-Ok.ensures.small) c.in-Ok.ensures.read);
    }

pub returns-in-Err-read_to_copy-clause-copies : goal.returns-in-Err-read_to_copy-clause-copies
returns-in-Err-read_to_copy-clause-copies g c =
    let s = went g (goal.at.returns-in-Err-read_to_copy-clause-copies g c).In-Ok-false in
    let waits = rw c.in-Ok-false.field-0-test at c.in-Ok-false.ensures.ends in
    let read = c.in-Err-read_to_copy.ensures in
    (s.0, s.1, reads_fail c.in-Err-read_to_copy.error _ _ _ _ _ _ _ _ _ _ _ s.0 s.2 waits read.err read.kept read.failed)

pub returns-in-Err-clause-stops : goal.returns-in-Err-clause-stops
returns-in-Err-clause-stops g c = stops_by c.in-Err.error _ _ _ c.in-Err.ensures.ends

pub returns-in-Ok-eq0-clause-stops : goal.returns-in-Ok-eq0-clause-stops
returns-in-Ok-eq0-clause-stops g c =
    at_end c.at_copys_end.result _ _ _ c.at_copys_end.ensures.stops c.at_copys_end.ensures.going c.at_copys_end.ensures.only (c.in-Ok-eq0.ensures.end c.in-Ok-eq0.field-0-test)

pub returns-in-Err-read_to_copy-clause-stops : goal.returns-in-Err-read_to_copy-clause-stops
returns-in-Err-read_to_copy-clause-stops g c =
    let waits = rw c.in-Ok-false.field-0-test at c.in-Ok-false.ensures.ends in
    read_stops c.in-Err-read_to_copy.error _ _ _ _ _ _ waits c.in-Err-read_to_copy.ensures.err c.in-Err-read_to_copy.ensures.failed

pub at_copys_end-requires : goal.at_copys_end-requires
at_copys_end-requires g c =
    waits_still (span_state c.copy_unread.new.decoder) c.copy_unread.new.self.src.items c.read_to_copy.new.self.src.items _ _ _
    (rw c.in-Ok-false.field-0-test at c.in-Ok-false.ensures.ends) c.in-Ok-eq0.ensures.ok c.in-Ok-eq0.field-0-test

pub reads-smaller : goal.reads-smaller
reads-smaller g c =
    read_nearer (span_state c.reads.decoder) (span_state c.copy_unread.new.decoder) c.reads.self.src.items c.copy_unread.new.self.src.items c.read_to_copy.new.self.src.items _ _ _
    ((rw c.in-Ok-false.field-0-test at c.in-Ok-false.ensures.fewer) refl) c.copy_unread.ensures.kept.0 (rw c.in-Ok-false.field-0-test at c.in-Ok-false.ensures.ends)
    c.in-Ok.ensures.ok (above_zero c.in-Ok.field-0 c.in-Ok.field-0-test.1)

pub copy_unread-requires : goal.copy_unread-requires
copy_unread-requires g c = record {
  uncut = c.reads.invariant.uncut;
}

pub returns-in-Ok-true-clause-kept : goal.returns-in-Ok-true-clause-kept
returns-in-Ok-true-clause-kept g c =
    let inv = c.reads.invariant in
    let kept = c.copy_unread.ensures.kept in (
      kept.0,
      ap (λ z. z.dst) kept.2 ∙ inv.held,
      ap (λ z. z.lost) kept.2 ∙ inv.lost,
      kept.1 ∙ inv.limit,
    )

pub returns-in-Err-clause-kept : goal.returns-in-Err-clause-kept
returns-in-Err-clause-kept g c =
    let inv = c.reads.invariant in
    let kept = c.copy_unread.ensures.kept in (
      kept.0,
      ap (λ z. z.dst) kept.2 ∙ inv.held,
      ap (λ z. z.lost) kept.2 ∙ inv.lost,
      kept.1 ∙ inv.limit,
    )

pub returns-in-Ok-eq0-clause-kept : goal.returns-in-Ok-eq0-clause-kept
returns-in-Ok-eq0-clause-kept g c =
    let inv = c.reads.invariant in
    let kept = c.copy_unread.ensures.kept in (
      kept.0,
      c.read_to_copy.ensures.dst ∙ ap (λ z. z.dst) kept.2 ∙ inv.held,
      c.read_to_copy.ensures.lost ∙ ap (λ z. z.lost) kept.2 ∙ inv.lost,
      kept.1 ∙ inv.limit,
    )

pub returns-in-Err-read_to_copy-clause-kept : goal.returns-in-Err-read_to_copy-clause-kept
returns-in-Err-read_to_copy-clause-kept g c =
    let inv = c.reads.invariant in
    let kept = c.copy_unread.ensures.kept in (
      kept.0,
      c.read_to_copy.ensures.dst ∙ ap (λ z. z.dst) kept.2 ∙ inv.held,
      c.read_to_copy.ensures.lost ∙ ap (λ z. z.lost) kept.2 ∙ inv.lost,
      kept.1 ∙ inv.limit,
    )
