use Rattle.std.proofs.Common.{inr, sym, ℕ, List, ◌++◌, ◌∙◌, length, refl, ap, arith}
use Rattle.wire_codec.specs.Delivery.{Waiting, TooLarge}
use Rattle.wire_packet_io.specs.Copying.{copied_to, copy_read_size}
use Rattle.wire_packet_io.specs.PacketIo.{joined_reads}
use Rattle.wire_span.specs.Spans.{SpanPlace, header_came}
use Rattle.mysql_wire_tool_commands.proofs.LongPacketLemmas.{waits_here, some_here, none_here, loses_sync, stops_large, none_copied, uncut, copied_limit}
use Rattle.mysql_wire_tool_commands.proofs.ReframeLemmas.{none_left, some_left, ends_here, at_four}
use Rattle.mysql_wire_tool_commands.proofs.long_packet.LongPacket.take.Goals as goal

pub returns-in-Ok-true-clause-takes : goal.returns-in-Ok-true-clause-takes
returns-in-Ok-true-clause-takes g c =
    let front = c.requires in
    let is = c.codec_at-codec.ensures in
    let id = c.args.seq_id in
    let limit = c.args.limit in
    let new = c.copy_packet.new.self in
    let called = (rw (none_copied _ front.not_copied, is.id, is.limit, c.in-Ok-true.field-0-test) at c.in-Ok-true.ensures.copies) (inr front.not_lost) in
    let stops = (rw c.in-Ok-true.field-0-test at c.in-Ok-true.ensures.stops) (inr front.not_lost) in
    let input : List ℕ = c.args.from.now.unread ++ joined_reads called.2.reads in
    let ended = c.in-Ok-true.ensures.ended in
    let came = rw (none_copied _ ended.0) at (c.copied_packet.ensures copy_read_size _ _ _ _ _ _ _ _ called.0 c.ranges.seq_id.fits (refl, refl) stops called.2) in
    let packet = called.1 ∙ ap (λ (z : List ℕ). z ++ called.0) c.clear.ensures.items in (
      joined_reads called.2.reads,
      called.2.consumed,
      rw packet (came.0, came.1, c.sequence_id.ensures ∙ came.2),
    )

pub returns-in-Ok-true-clause-front : goal.returns-in-Ok-true-clause-front
returns-in-Ok-true-clause-front g c = λ _.
    let front = c.requires in
    let ended = c.in-Ok-true.ensures.ended in
    let rest = c.copy_packet.ensures.rest in
    record {
      not_copied = ended.0;
      not_lost = ended.1;
      not_lent = rw rest.1 front.not_lent;
      not_held = rest.0 ∙ front.not_held;
    }

pub returns-in-Ok-false-clause-takes : goal.returns-in-Ok-false-clause-takes
returns-in-Ok-false-clause-takes g c =
    let front = c.requires in
    let is = c.codec_at-codec.ensures in
    let id = c.args.seq_id in
    let limit = c.args.limit in
    let new = c.copy_packet.new.self in
    let called = (rw (none_copied _ front.not_copied, is.id, is.limit, c.in-Ok-false.field-0-test) at c.in-Ok-false.ensures.copies) (inr front.not_lost) in
    let stops = (rw c.in-Ok-false.field-0-test at c.in-Ok-false.ensures.stops) (inr front.not_lost) in
    let input : List ℕ = c.args.from.now.unread ++ joined_reads called.2.reads in
    let after = copied_to new.copied c.copy_packet.new.codec in
    let size = ap (λ (z : List ℕ). length z) stops.1 in
    let d = waits_here c.spans_begin.ensures c.spans_deliver.ensures id limit c.ranges.seq_id.fits input called.0 new.unread after called.2.eats (ap (λ (p : SpanPlace). header_came p) stops.0.1)
    (omega (arith, size)) (λ _. stops.1) in
    let none = none_here c.spans_begin.ensures c.spans_end.ensures id limit c.ranges.seq_id.fits input called.0 new.unread after called.2.eats stops.0 stops.1 in
    (joined_reads called.2.reads, called.2.consumed, ends_here id limit 0 input _ Waiting d (λ all all_is. none_left all (all_is ∙ none)) (λ _. stops.2))

pub returns-in-Err-UnexpectedEnd-clause-takes : goal.returns-in-Err-UnexpectedEnd-clause-takes
returns-in-Err-UnexpectedEnd-clause-takes g c =
    let front = c.requires in
    let is = c.codec_at-codec.ensures in
    let id = c.args.seq_id in
    let limit = c.args.limit in
    let new = c.copy_packet.new.self in
    let called = (rw (none_copied _ front.not_copied, is.id, is.limit, c.in-Err-UnexpectedEnd.field-0-is) at c.in-Err-UnexpectedEnd.ensures.copies) (inr front.not_lost) in
    let stops = (rw c.in-Err-UnexpectedEnd.field-0-is at c.in-Err-UnexpectedEnd.ensures.stops) (inr front.not_lost) in
    let input : List ℕ = c.args.from.now.unread ++ joined_reads called.2.reads in
    let after = copied_to new.copied c.copy_packet.new.codec in
    let d = waits_here c.spans_begin.ensures c.spans_deliver.ensures id limit c.ranges.seq_id.fits input called.0 new.unread after called.2.eats (uncut c.copy_packet.new.codec new c.copy_packet.ensures.can)
    stops.0.0 stops.0.1 in
    let some = some_here c.spans_begin.ensures c.one_spanning.ensures id limit c.ranges.seq_id.fits input called.0 new.unread after called.2.eats stops.1 in
    (joined_reads called.2.reads, called.2.consumed, ends_here id limit 3 input _ Waiting d (λ all all_is. some_left all (λ none. some (sym all_is ∙ none))) (λ _. stops.2))

pub returns-in-Err-PacketTooLarge-clause-takes : goal.returns-in-Err-PacketTooLarge-clause-takes
returns-in-Err-PacketTooLarge-clause-takes g c =
    let front = c.requires in
    let is = c.codec_at-codec.ensures in
    let id = c.args.seq_id in
    let limit = c.args.limit in
    let new = c.copy_packet.new.self in
    let called = (rw (none_copied _ front.not_copied, is.id, is.limit, c.in-Err-PacketTooLarge.field-0-is) at c.in-Err-PacketTooLarge.ensures.copies) (inr front.not_lost) in
    let stops = (rw c.in-Err-PacketTooLarge.field-0-is at c.in-Err-PacketTooLarge.ensures.stops) (inr front.not_lost) in
    let input : List ℕ = c.args.from.now.unread ++ joined_reads called.2.reads in
    let after = copied_to new.copied c.copy_packet.new.codec in
    let same = copied_limit new.copied c.copy_packet.new.codec limit (c.copy_packet.ensures.rest.3 ∙ is.limit) in
    let d = stops_large c.spans_begin.ensures c.spans_stop.ensures id limit c.ranges.seq_id.fits input called.0 new.unread after called.2.eats same stops in
    (joined_reads called.2.reads, called.2.consumed, ends_here id limit 4 input _ TooLarge (called.0, d.0, d.1) (λ all all_is. refl) (at_four _))

pub returns-in-Err-PacketsOutOfSync-clause-takes : goal.returns-in-Err-PacketsOutOfSync-clause-takes
returns-in-Err-PacketsOutOfSync-clause-takes g c =
    let front = c.requires in
    let is = c.codec_at-codec.ensures in
    let id = c.args.seq_id in
    let limit = c.args.limit in
    let new = c.copy_packet.new.self in
    let called = (rw (none_copied _ front.not_copied, is.id, is.limit, c.in-Err-PacketsOutOfSync.field-0-is) at c.in-Err-PacketsOutOfSync.ensures.copies) (inr front.not_lost) in
    let stops = (rw c.in-Err-PacketsOutOfSync.field-0-is at c.in-Err-PacketsOutOfSync.ensures.stops) (inr front.not_lost) in
    let input : List ℕ = c.args.from.now.unread ++ joined_reads called.2.reads in
    let after = copied_to new.copied c.copy_packet.new.codec in
    let same = copied_limit new.copied c.copy_packet.new.codec limit (c.copy_packet.ensures.rest.3 ∙ is.limit) in
    let lost = loses_sync c.spans_begin.ensures id limit c.ranges.seq_id.fits input called.0 new.unread after called.2.eats same
    (uncut c.copy_packet.new.codec new c.copy_packet.ensures.can) stops c.bytes_to_come.result (rw c.unread.ensures at c.bytes_to_come.ensures) in
    (joined_reads called.2.reads, called.2.consumed, lost)

pub returns-in-Ok-false-clause-front : goal.returns-in-Ok-false-clause-front
returns-in-Ok-false-clause-front g c whole = absurd whole

pub returns-in-Err-UnexpectedEnd-clause-front : goal.returns-in-Err-UnexpectedEnd-clause-front
returns-in-Err-UnexpectedEnd-clause-front g c whole = absurd whole

pub returns-in-Err-PacketTooLarge-clause-front : goal.returns-in-Err-PacketTooLarge-clause-front
returns-in-Err-PacketTooLarge-clause-front g c whole = absurd whole

pub returns-in-Err-PacketsOutOfSync-clause-front : goal.returns-in-Err-PacketsOutOfSync-clause-front
returns-in-Err-PacketsOutOfSync-clause-front g c whole = absurd whole

pub returns-in-Err-OutOfMemory-clause-takes : goal.returns-in-Err-OutOfMemory-clause-takes
returns-in-Err-OutOfMemory-clause-takes g c = tt

pub returns-in-Err-OutOfMemory-clause-front : goal.returns-in-Err-OutOfMemory-clause-front
returns-in-Err-OutOfMemory-clause-front g c = tt

pub returns-in-Err-2-clause-takes : goal.returns-in-Err-2-clause-takes
returns-in-Err-2-clause-takes g c = tt

pub returns-in-Err-2-clause-front : goal.returns-in-Err-2-clause-front
returns-in-Err-2-clause-front g c = tt

pub returns-in-Err-clause-takes : goal.returns-in-Err-clause-takes
returns-in-Err-clause-takes g c = tt

pub returns-in-Err-clause-front : goal.returns-in-Err-clause-front
returns-in-Err-clause-front g c = tt
