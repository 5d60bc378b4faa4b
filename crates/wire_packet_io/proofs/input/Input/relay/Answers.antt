use Rattle.std.proofs.Common.{◌∙◌, [], ap, refl, None, Ok, Err, true}
use Rattle.wire_span.specs.Spans.{span_state}
use Rattle.wire_packet_io.specs.Lending.{lender}
use Rattle.wire_packet_io.specs.Relaying.{RelaysTo}
use Rattle.wire_packet_io.proofs.PacketIoLemmas.{above_zero}
use Rattle.wire_packet_io.proofs.CopyLemmas.{reads_start, reads_read, reads_end, reads_ended, reads_fail, read_nearer, waits_still, so_far}
use Rattle.wire_packet_io.proofs.RelayLemmas.{relays_go, gone_none, gone_out, relay_stops_by, relay_unended, write_unended, relay_write_stops, relay_read_stops, relay_at_end}
use Rattle.wire_packet_io.proofs.input.Input.relay.Given as given
use Rattle.wire_packet_io.proofs.input.Input.relay.Goals as goal
use Rattle.wire_packet_io.proofs.input.Input.relay.Goals.{After-write_pending}

pub reads-init : goal.reads-init
reads-init g c = record {
  uncut = c.requires.uncut;
  limit = refl;
  held = refl;
  lost = refl;
  so_far = (
    [],
    reads_start (span_state c.args.decoder.now) c.args.self.now.src.items (g.R.Read.remaining c.args.self.now.reader) c.args.self.now.reads,
    gone_none (span_state c.args.decoder.now) c.args.next_id.now c.args.writer.now.pending (g.W.Write.contents c.args.writer.now.writer),
  );
}

pub returns-in-Ok-true-clause-relays : goal.returns-in-Ok-true-clause-relays
returns-in-Ok-true-clause-relays g c =
    relays_go (Ok true) (span_state c.args.decoder.now) (span_state c.reads.decoder) (span_state c.relay_unread.new.decoder) _ _ _ c.args.self.now.src.items _ _ _ _ _ _ _ _ _ _ _ _ _ _
    c.reads.invariant.limit (ap (λ z. g.R.Read.remaining z.reader) c.relay_unread.ensures.kept.2) (ap (λ z. z.reads) c.relay_unread.ensures.kept.2)
    (ap (λ z. g.W.Write.contents z) c.relay_unread.ensures.kept.3) c.reads.invariant.so_far (rw c.in-Ok-true.field-0-test at c.in-Ok-true.ensures.goes) tt

pub returns-in-Err-clause-relays : goal.returns-in-Err-clause-relays
returns-in-Err-clause-relays g c =
    relays_go (Err c.in-Err.error) (span_state c.args.decoder.now) (span_state c.reads.decoder) (span_state c.relay_unread.new.decoder) _ _ _ c.args.self.now.src.items _ _ _ _ _ _ _ _ _ _ _ _ _ _
    c.reads.invariant.limit (ap (λ z. g.R.Read.remaining z.reader) c.relay_unread.ensures.kept.2) (ap (λ z. z.reads) c.relay_unread.ensures.kept.2)
    (ap (λ z. g.W.Write.contents z) c.relay_unread.ensures.kept.3) c.reads.invariant.so_far c.in-Err.ensures.goes
    (relay_unended c.in-Err.error _ _ c.reads.invariant.so_far.1.reads c.in-Err.ensures.ends)

-- what was there went after what is pending, a front of that was written, and the packet goes on
went : (g : given.Over) (c : After-write_pending g)
    → RelaysTo g.R.Read.remaining g.W.Write.contents (span_state c.args.decoder.now) (lender None c.args.self.now) c.args.next_id.now c.args.writer.now so_far
    (span_state c.relay_unread.new.decoder) (lender None c.relay_unread.new.self) c.relay_unread.new.next_id c.write_pending.new.self
went g c =
    let wrote = c.write_pending.ensures.sent in
    let s = relays_go so_far (span_state c.args.decoder.now) (span_state c.reads.decoder) (span_state c.relay_unread.new.decoder) _ _ _ c.args.self.now.src.items _ _ _ _ _ _ _ _ _ _ _ _ _ _
    c.reads.invariant.limit (ap (λ z. g.R.Read.remaining z.reader) c.relay_unread.ensures.kept.2) (ap (λ z. z.reads) c.relay_unread.ensures.kept.2)
    (ap (λ z. g.W.Write.contents z) c.relay_unread.ensures.kept.3) c.reads.invariant.so_far (rw c.in-Ok-false.field-0-test at c.in-Ok-false.ensures.goes) tt in
    (s.0, s.1, gone_out _ _ _ _ s.0 wrote.0 _ _ _ _ _ _ s.2 wrote.1 wrote.2)

pub returns-in-Err-write_pending-clause-relays : goal.returns-in-Err-write_pending-clause-relays
returns-in-Err-write_pending-clause-relays g c =
    let s = went g (goal.at.returns-in-Err-write_pending-clause-relays g c).After-write_pending in
    (s.0, reads_end (Err c.in-Err-write_pending.error) _ _ _ _ _ _ _ _ s.0 s.1 refl (write_unended c.in-Err-write_pending.error _ s.1.reads c.in-Err-write_pending.ensures.errors), s.2)

pub returns-in-Ok-eq0-clause-relays : goal.returns-in-Ok-eq0-clause-relays
returns-in-Ok-eq0-clause-relays g c =
    let s = went g (goal.at.returns-in-Ok-eq0-clause-relays g c).After-write_pending in
    let waits = rw c.in-Ok-false.field-0-test at c.in-Ok-false.ensures.ends in (
      s.0,
      reads_ended c.at_copys_end.result _ _ _ _ _ _ _ _ _ _ _ s.0 _ s.1 waits c.in-Ok-eq0.ensures.ok c.in-Ok-eq0.ensures.small c.in-Ok-eq0.ensures.read
          c.in-Ok-eq0.field-0-test c.at_copys_end.ensures.going,
      rw c.at_copys_end.ensures.going s.2,
    )

pub returns-in-Err-read_more-clause-relays : goal.returns-in-Err-read_more-clause-relays
returns-in-Err-read_more-clause-relays g c =
    let s = went g (goal.at.returns-in-Err-read_more-clause-relays g c).After-write_pending in
    let waits = rw c.in-Ok-false.field-0-test at c.in-Ok-false.ensures.ends in
    let read = c.in-Err-read_more.ensures in
    (s.0, reads_fail c.in-Err-read_more.error _ _ _ _ _ _ _ _ _ _ _ s.0 s.1 waits read.err read.kept read.failed, s.2)

pub reads-preserved : goal.reads-preserved
reads-preserved g c =
    let inv = c.reads.invariant in
    let s = went g (goal.at.reads-preserved g c).After-write_pending in
    let waits = rw c.in-Ok-false.field-0-test at c.in-Ok-false.ensures.ends in
    let read = c.in-Ok-read_more.ensures in
    record {
      uncut = c.relay_unread.ensures.kept.0;
      limit = c.relay_unread.ensures.kept.1 ∙ inv.limit;
      held = c.read_more.ensures.dst ∙ ap (λ z. z.dst) c.relay_unread.ensures.kept.2 ∙ inv.held;
      lost = c.read_more.ensures.lost ∙ ap (λ z. z.lost) c.relay_unread.ensures.kept.2 ∙ inv.lost;
      so_far = (s.0, reads_read _ _ _ _ _ _ _ _ _ _ _ s.0 _ s.1 waits read.ok read.small read.read, s.2);
    }

pub returns-in-Err-clause-stops : goal.returns-in-Err-clause-stops
returns-in-Err-clause-stops g c = relay_stops_by c.in-Err.error _ _ _ _ c.in-Err.ensures.ends

pub returns-in-Err-write_pending-clause-stops : goal.returns-in-Err-write_pending-clause-stops
returns-in-Err-write_pending-clause-stops g c =
    let waits = rw c.in-Ok-false.field-0-test at c.in-Ok-false.ensures.ends in
    relay_write_stops c.in-Err-write_pending.error _ _ _ _ waits c.in-Err-write_pending.ensures.errors

pub returns-in-Ok-eq0-clause-stops : goal.returns-in-Ok-eq0-clause-stops
returns-in-Ok-eq0-clause-stops g c =
    relay_at_end c.at_copys_end.result _ _ _ _ c.at_copys_end.ensures.stops c.at_copys_end.ensures.going c.at_copys_end.ensures.only (c.in-Ok-eq0.ensures.end c.in-Ok-eq0.field-0-test) c.in-Ok.ensures.ok

pub returns-in-Err-read_more-clause-stops : goal.returns-in-Err-read_more-clause-stops
returns-in-Err-read_more-clause-stops g c =
    let waits = rw c.in-Ok-false.field-0-test at c.in-Ok-false.ensures.ends in
    relay_read_stops c.in-Err-read_more.error _ _ _ _ _ _ _ waits c.in-Err-read_more.ensures.err c.in-Err-read_more.ensures.failed

pub at_copys_end-requires : goal.at_copys_end-requires
at_copys_end-requires g c =
    waits_still (span_state c.relay_unread.new.decoder) c.relay_unread.new.self.src.items c.read_more.new.self.src.items _ _ _
    (rw c.in-Ok-false.field-0-test at c.in-Ok-false.ensures.ends) c.in-Ok-eq0.ensures.ok c.in-Ok-eq0.field-0-test

pub reads-smaller : goal.reads-smaller
reads-smaller g c =
    read_nearer (span_state c.reads.decoder) (span_state c.relay_unread.new.decoder) c.reads.self.src.items c.relay_unread.new.self.src.items c.read_more.new.self.src.items _ _ _
    ((rw c.in-Ok-false.field-0-test at c.in-Ok-false.ensures.fewer) refl) c.relay_unread.ensures.kept.0 (rw c.in-Ok-false.field-0-test at c.in-Ok-false.ensures.ends)
    c.in-Ok-read_more.ensures.ok (above_zero c.in-Ok-read_more.field-0 c.in-Ok-read_more.field-0-test.1)

pub relay_unread-requires : goal.relay_unread-requires
relay_unread-requires g c = record {
  uncut = c.reads.invariant.uncut;
}

pub returns-in-Ok-true-clause-kept : goal.returns-in-Ok-true-clause-kept
returns-in-Ok-true-clause-kept g c =
    let inv = c.reads.invariant in
    let kept = c.relay_unread.ensures.kept in (
      kept.0,
      ap (λ z. z.dst) kept.2 ∙ inv.held,
      ap (λ z. z.lost) kept.2 ∙ inv.lost,
      kept.1 ∙ inv.limit,
    )

pub returns-in-Err-clause-kept : goal.returns-in-Err-clause-kept
returns-in-Err-clause-kept g c =
    let inv = c.reads.invariant in
    let kept = c.relay_unread.ensures.kept in (
      kept.0,
      ap (λ z. z.dst) kept.2 ∙ inv.held,
      ap (λ z. z.lost) kept.2 ∙ inv.lost,
      kept.1 ∙ inv.limit,
    )

pub returns-in-Err-write_pending-clause-kept : goal.returns-in-Err-write_pending-clause-kept
returns-in-Err-write_pending-clause-kept g c =
    let inv = c.reads.invariant in
    let kept = c.relay_unread.ensures.kept in (
      kept.0,
      ap (λ z. z.dst) kept.2 ∙ inv.held,
      ap (λ z. z.lost) kept.2 ∙ inv.lost,
      kept.1 ∙ inv.limit,
    )

pub returns-in-Ok-eq0-clause-kept : goal.returns-in-Ok-eq0-clause-kept
returns-in-Ok-eq0-clause-kept g c =
    let inv = c.reads.invariant in
    let kept = c.relay_unread.ensures.kept in (
      kept.0,
      c.read_more.ensures.dst ∙ ap (λ z. z.dst) kept.2 ∙ inv.held,
      c.read_more.ensures.lost ∙ ap (λ z. z.lost) kept.2 ∙ inv.lost,
      kept.1 ∙ inv.limit,
    )

pub returns-in-Err-read_more-clause-kept : goal.returns-in-Err-read_more-clause-kept
returns-in-Err-read_more-clause-kept g c =
    let inv = c.reads.invariant in
    let kept = c.relay_unread.ensures.kept in (
      kept.0,
      c.read_more.ensures.dst ∙ ap (λ z. z.dst) kept.2 ∙ inv.held,
      c.read_more.ensures.lost ∙ ap (λ z. z.lost) kept.2 ∙ inv.lost,
      kept.1 ∙ inv.limit,
    )
