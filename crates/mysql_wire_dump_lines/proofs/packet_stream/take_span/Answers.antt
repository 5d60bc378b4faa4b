use Rattle.std.proofs.Common.{◌≡◌, Bool, true, false, [], ◌∷◌, Ok, ap, refl, rules, subst}
use Rattle.wire_span.specs.Spans.{EatsSpans, IsBetween, span_state}
use Rattle.mysql_wire_dump_lines.specs.PacketStreams.{Collected}
use Rattle.mysql_wire_dump_lines.proofs.PacketStreamLemmas.{steps_waits, steps_goes, steps_whole, steps_loses}
use Rattle.mysql_wire_dump_lines.proofs.packet_stream.take_span.Goals as goal

pub returns-in-Ok-None-clause-steps : goal.returns-in-Ok-None-clause-steps
returns-in-Ok-None-clause-steps g c =
    let before : Collected = record { state = span_state c.args.decoder.now; len = c.args.len.now; limit = c.args.limit; held = c.args.held.now.items; unread = c.args.piece.now.now } in
    let after : Collected =
    record { state = span_state c.next_span.new.self; len = c.args.len.now; limit = c.args.limit; held = c.args.held.now.items; unread = c.next_span.new.piece.now } in
    steps_waits before after (rw c.in-Ok-None.field-0-is at c.in-Ok-None.ensures.ok)
    (c.in-Ok-None.ensures.none (ap Ok c.in-Ok-None.field-0-is)) refl refl refl

pub returns-then-not-span-clause-steps : goal.returns-then-not-span-clause-steps
returns-then-not-span-clause-steps g c =
    let before : Collected = record { state = span_state c.args.decoder.now; len = c.args.len.now; limit = c.args.limit; held = c.args.held.now.items; unread = c.args.piece.now.now } in
    let after : Collected =
    record { state = span_state c.next_span.new.self; len = c.collect.new.len; limit = c.args.limit; held = c.collect.new.held.items; unread = c.next_span.new.piece.now } in
    let span = c.in-Ok-Some.span in
    let goes : span.ends_packet ≡ false = search (rules, c.if-not-span.true) in
    steps_goes before after span.bytes.now
    (subst (λ (b : Bool). EatsSpans before.state before.unread ((span.bytes.now, b) ∷ []) after.unread after.state) goes
    (rw c.in-Ok-Some.field-0-is at c.in-Ok-Some.ensures.ok))
    c.in_ok-collect-in-Ok-Some.ensures.len refl c.in_ok-collect-in-Ok-Some.ensures.held

pub returns-then-is_between_packets-clause-steps : goal.returns-then-is_between_packets-clause-steps
returns-then-is_between_packets-clause-steps g c =
    let before : Collected = record { state = span_state c.args.decoder.now; len = c.args.len.now; limit = c.args.limit; held = c.args.held.now.items; unread = c.args.piece.now.now } in
    let after : Collected =
    record { state = span_state c.next_span.new.self; len = c.collect.new.len; limit = c.args.limit; held = c.collect.new.held.items; unread = c.next_span.new.piece.now } in
    let span = c.in-Ok-Some.span in
    let ends : span.ends_packet ≡ true = search (rules, c.if-not-span.false) in
    let between : IsBetween after.state = search (rules, c.if-is_between_packets.ensures, c.if-is_between_packets.true) in
    steps_whole c.spans_end.ensures before after span.bytes.now
    (subst (λ (b : Bool). EatsSpans before.state before.unread ((span.bytes.now, b) ∷ []) after.unread after.state) ends
    (rw c.in-Ok-Some.field-0-is at c.in-Ok-Some.ensures.ok))
    c.in_ok-collect-in-Ok-Some.ensures.len refl c.in_ok-collect-in-Ok-Some.ensures.held between

pub returns-in-Err-PacketsOutOfSync-clause-steps : goal.returns-in-Err-PacketsOutOfSync-clause-steps
returns-in-Err-PacketsOutOfSync-clause-steps g c =
    let before : Collected = record { state = span_state c.args.decoder.now; len = c.args.len.now; limit = c.args.limit; held = c.args.held.now.items; unread = c.args.piece.now.now } in
    let after : Collected =
    record { state = span_state c.next_span.new.self; len = c.args.len.now; limit = c.args.limit; held = c.args.held.now.items; unread = c.next_span.new.piece.now } in
    steps_loses before after (rw c.in-Err-PacketsOutOfSync.field-0-is at c.in-Err-PacketsOutOfSync.ensures.refused) c.in-Err-PacketsOutOfSync.ensures.err.1
