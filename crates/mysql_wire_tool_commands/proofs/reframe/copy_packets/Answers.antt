use Rattle.mysql_wire_tool_commands.proofs.ReadLemmas.{none_if}
use Rattle.std.proofs.Common.{◌≡◌, inl, inr, sym, ℕ, List, [], ◌++◌, ◌∙◌, refl, ap, arith, subst, append_assoc}
use Rattle.std.proofs.KnownBytes.{Consumes-nil, Consumes-trans}
use Rattle.std.proofs.lemmas.Bool.{false≢true}
use Rattle.wire_codec.specs.Codec.{codec_state, expected_id}
use Rattle.wire_codec.specs.Framing.{framing}
use Rattle.wire_packet_io.specs.PacketIo.{joined_reads}
use Rattle.mysql_wire_tool_commands.specs.LongPackets.{EndsLong}
use Rattle.mysql_wire_tool_commands.proofs.ReframeLemmas.{reframing_start, reframing_more, reframing_long, reframed_whole, reframed_short, reframed_too_large, reframed_out_of_sync, ended_long, dropped, none_written, sent_on, passed_on, none_left_pending, some_lent, none_lent, at_four, at_five, fits_under, begins_stands}
use Rattle.mysql_wire_tool_commands.proofs.reframe.copy_packets.Goals as goal

pub packets-init : goal.packets-init
packets-init g c =
    let decoder = c.codec_at-decoder.ensures in
    let encoder = c.codec_at-encoder.ensures in
    let reader = c.requires.reader in
    let id = decoder.id in
    record {
      front = record {
        not_copied = reader.not_copied;
        not_lost = reader.not_lost;
        not_lent = reader.not_lent;
        not_held = reader.none_held;
      };
      codec = (decoder.header, omega (arith, id));
      decoder = decoder.limit;
      encoder = encoder.limit;
      so_far = (
        [],
        [],
        reframing_start c.nothing_read.ensures c.args.limit (codec_state c.codec_at-decoder.result c.args.from.now.unread c.args.from.now.held)
            (expected_id c.codec_at-encoder.result) decoder.id decoder.header reader.none_unread reader.none_held decoder.limit encoder.id,
        Consumes-nil _,
        none_written c.args.to.now.pending.items _ c.requires.writer,
      );
    }

pub packets-preserved-in-Whole : goal.packets-preserved-in-Whole
packets-preserved-in-Whole g c =
    let inv = c.packets.invariant in
    let so = c.pass_whole.ensures.copies c.args.limit _ _ inv.so_far in
    let sent = sent_on so.1 c.pass_whole.new.to.pending.items c.send.new.self.pending.items _ _ _ so.4 c.in_ok-send.ensures.sent in
    let before = codec_state c.pass_whole.new.decoder c.pass_whole.new.from.unread c.pass_whole.new.from.held in
    let front = c.pass_whole.ensures.front in
    let codec = c.pass_whole.ensures.codec in
    let limits = c.pass_whole.ensures.limits in
    let took = rw c.in-Whole.is at c.in_ok-next.ensures.takes in
    let packet : List ℕ = c.take.new.self.bytes.items in
    let put = c.in_ok-pass_on-in-Whole.ensures in
    let first = expected_id c.pass_whole.new.encoder in
    let begun = c.begin_at.ensures in
    let next = took.2.2 in
    let taken = c.in_ok-next.ensures.front (rw c.in-Whole.is tt) in
    let passed = rw c.as_slice.ensures.value at put.sent in
    record {
      front = taken;
      codec = (begun.header, let id = begun.id in omega (arith, id, next));
      decoder = begun.limit ∙ limits.0 ∙ inv.decoder;
      encoder = put.limit ∙ limits.1 ∙ inv.encoder;
      so_far = (
        so.0 ++ took.0,
        so.1 ++ framing first packet,
        reframing_long c.joined_splits.ensures c.stream_append.ensures c.id_after_append.ensures c.between_packets.ensures c.args.limit before
            (codec_state c.begin_at.new.self c.take.new.from.unread c.take.new.from.held) first (expected_id c.pass_on.new.encoder) c.sequence_id.result so.0 so.1 took.0 packet
            so.2 (rw c.sequence_id.ensures codec.1) (sym c.sequence_id.ensures) codec.0 front.not_held (took.2.0, took.2.1, begun.id ∙ next)
            begun.header taken.not_held (begun.limit ∙ limits.0 ∙ inv.decoder) (rw c.as_slice.ensures.value at put.next),
        Consumes-trans _ _ _ so.0 took.0 so.3 took.1,
        passed_on so.1 c.send.new.self.pending.items (framing first packet) c.pass_on.new.self.pending.items _ _ _ sent passed,
      );
    }

pub returns-in-Ends : goal.returns-in-Ends
returns-in-Ends g c =
    let inv = c.packets.invariant in
    let so = c.pass_whole.ensures.copies c.args.limit _ _ inv.so_far in
    let sent = sent_on so.1 c.pass_whole.new.to.pending.items c.send.new.self.pending.items _ _ _ so.4 c.in_ok-send.ensures.sent in
    let before = codec_state c.pass_whole.new.decoder c.pass_whole.new.from.unread c.pass_whole.new.from.held in
    let front = c.pass_whole.ensures.front in
    let codec = c.pass_whole.ensures.codec in
    let went = none_left_pending so.1 c.send.new.self.pending.items _ _ sent (c.in_ok-send.ensures.idle refl) in
    let took = rw c.in-Ends.is at c.in_ok-next.ensures.takes in
    ended_long c.joined_runs.ensures c.between_packets.ensures c.args.limit before (expected_id c.pass_whole.new.encoder) _ c.sequence_id.result so.0 so.1 took.0 _ _ _ _
    so.2 (rw c.sequence_id.ensures codec.1) (sym c.sequence_id.ensures) codec.0 front.not_held took.2 (Consumes-trans _ _ _ so.0 took.0 so.3 took.1) went

pub returns-in-OutOfSync : goal.returns-in-OutOfSync
returns-in-OutOfSync g c =
    let inv = c.packets.invariant in
    let so = c.pass_whole.ensures.copies c.args.limit _ _ inv.so_far in
    let sent = sent_on so.1 c.pass_whole.new.to.pending.items c.send.new.self.pending.items _ _ _ so.4 c.in_ok-send.ensures.sent in
    let before = codec_state c.pass_whole.new.decoder c.pass_whole.new.from.unread c.pass_whole.new.from.held in
    let front = c.pass_whole.ensures.front in
    let codec = c.pass_whole.ensures.codec in
    let went = none_left_pending so.1 c.send.new.self.pending.items _ _ sent (c.in_ok-send.ensures.idle refl) in
    let took = rw c.in-OutOfSync.is at c.in_ok-next.ensures.takes in
    λ status last drops.
    let ends = dropped c.spans_stop.ensures c.sequence_id.result c.args.limit _ status _ _ last took.2 drops in
    ended_long c.joined_runs.ensures c.between_packets.ensures c.args.limit before (expected_id c.pass_whole.new.encoder) status c.sequence_id.result so.0 so.1 (took.0 ++ drops.0) _ _ _ _
    so.2 (rw c.sequence_id.ensures codec.1) (sym c.sequence_id.ensures) codec.0 front.not_held
    (subst (λ (z : List ℕ). EndsLong c.sequence_id.result c.args.limit z status last) (append_assoc before.unread took.0 drops.0) ends)
    (Consumes-trans _ _ _ so.0 (took.0 ++ drops.0) so.3 (Consumes-trans _ _ _ took.0 drops.0 took.1 drops.1)) went

pub packets-preserved : goal.packets-preserved
packets-preserved g c =
    let inv = c.packets.invariant in
    let so = c.pass_whole.ensures.copies c.args.limit _ _ inv.so_far in
    let sent = sent_on so.1 c.pass_whole.new.to.pending.items c.send.new.self.pending.items _ _ _ so.4 c.in_ok-send.ensures.sent in
    let before = codec_state c.pass_whole.new.decoder c.pass_whole.new.from.unread c.pass_whole.new.from.held in
    let front = c.pass_whole.ensures.front in
    let codec = c.pass_whole.ensures.codec in
    let after = codec_state c.fill_packet.new.codec c.fill_packet.new.self.unread c.fill_packet.new.self.held in
    let limits = c.pass_whole.ensures.limits in
    let lent = some_lent c.fill_packet.new.self.lent (c.in-Ok-true.ensures.lends.0.0 c.in-Ok-true.field-0-test) in
    let packet : List ℕ = lent.0 in
    let came = (rw lent.1 at c.in-Ok-true.ensures.fills) front.not_lost front.not_lent in
    let more : List ℕ = joined_reads came.reads in
    let put = c.in_ok-pass_on-in-Ok-true.ensures in
    let shown : c.packet.result.now ≡ packet = rw lent.1 at c.packet.ensures in
    let first = expected_id c.pass_whole.new.encoder in
    let passed = rw shown at put.sent in
    let next = rw shown at put.next in
    let taken = c.take_packet.ensures in
    let rest = c.fill_packet.ensures.rest in
    let rising = came.answers.0.2 in
    record {
      front = record {
        not_copied = rw (ap (λ z. z.copied) taken, rest.1) front.not_copied;
        not_lost = ap (λ z. z.is_lost) taken ∙ c.in-Ok-true.ensures.lends.1;
        not_lent = rw (ap (λ z. z.lent) taken) refl;
        not_held = ap (λ z. z.held) taken ∙ came.answers.1;
      };
      codec = (came.answers.0.3, omega (arith, rising));
      decoder = rest.2 ∙ limits.0 ∙ inv.decoder;
      encoder = put.limit ∙ limits.1 ∙ inv.encoder;
      so_far = rw (ap (λ z. z.unread) taken, ap (λ z. z.held) taken, ap (λ z. z.reader) taken) (
        so.0 ++ more,
        so.1 ++ framing first packet,
        reframing_more c.joined_splits.ensures c.stream_append.ensures c.id_after_append.ensures c.between_packets.ensures c.args.limit before after first (expected_id c.pass_on-in-Ok-true.new.encoder)
            so.0 so.1 more packet so.2 came.answers.0 came.answers.1 rest.2 next,
        Consumes-trans _ _ _ so.0 more so.3 came.consumed,
        passed_on so.1 c.send.new.self.pending.items (framing first packet) c.pass_on-in-Ok-true.new.self.pending.items _ _ _ sent passed,
      );
    }

pub returns-in-Ok-false : goal.returns-in-Ok-false
returns-in-Ok-false g c =
    let inv = c.packets.invariant in
    let so = c.pass_whole.ensures.copies c.args.limit _ _ inv.so_far in
    let sent = sent_on so.1 c.pass_whole.new.to.pending.items c.send.new.self.pending.items _ _ _ so.4 c.in_ok-send.ensures.sent in
    let before = codec_state c.pass_whole.new.decoder c.pass_whole.new.from.unread c.pass_whole.new.from.held in
    let front = c.pass_whole.ensures.front in
    let codec = c.pass_whole.ensures.codec in
    let went = none_left_pending so.1 c.send.new.self.pending.items _ _ sent (c.in_ok-send.ensures.idle refl) in
    let after = codec_state c.fill_packet.new.codec c.fill_packet.new.self.unread c.fill_packet.new.self.held in
    let none = none_lent c.fill_packet.new.self.lent (λ some. false≢true (sym c.in-Ok-false.field-0-test ∙ c.in-Ok-false.ensures.lends.0.1 some)) in
    let came = (rw none at c.in-Ok-false.ensures.fills) front.not_lost front.not_lent in
    let more : List ℕ = joined_reads came.reads in
    record {
      cases = inl refl;
      text = λ _. (
        so.0 ++ more,
        so.1,
        Consumes-trans _ _ _ so.0 more so.3 came.consumed,
        reframed_whole c.joined_runs.ensures c.args.limit before after (expected_id c.pass_whole.new.encoder) so.0 so.1 more so.2 came.answers.0 came.answers.1,
        went,
      );
      all_read = λ _. came.sees_end.1;
    }

pub returns-in-Err-UnexpectedEnd : goal.returns-in-Err-UnexpectedEnd
returns-in-Err-UnexpectedEnd g c =
    let inv = c.packets.invariant in
    let so = c.pass_whole.ensures.copies c.args.limit _ _ inv.so_far in
    let sent = sent_on so.1 c.pass_whole.new.to.pending.items c.send.new.self.pending.items _ _ _ so.4 c.in_ok-send.ensures.sent in
    let before = codec_state c.pass_whole.new.decoder c.pass_whole.new.from.unread c.pass_whole.new.from.held in
    let front = c.pass_whole.ensures.front in
    let codec = c.pass_whole.ensures.codec in
    let went = none_left_pending so.1 c.send.new.self.pending.items _ _ sent (c.in_ok-send.ensures.idle refl) in
    let after = codec_state c.fill_packet.new.codec c.fill_packet.new.self.unread c.fill_packet.new.self.held in
    let came = (rw c.in-Err-UnexpectedEnd.field-0-is at c.in-Err-UnexpectedEnd.ensures.fills) front.not_lost front.not_lent in
    let more : List ℕ = joined_reads came.reads in
    record {
      cases = inr (inr (inl refl));
      text = λ _. (
        so.0 ++ more,
        so.1,
        Consumes-trans _ _ _ so.0 more so.3 came.consumed,
        reframed_short c.joined_runs.ensures c.args.limit before after (expected_id c.pass_whole.new.encoder) so.0 so.1 more so.2 came.answers.0 came.answers.1,
        went,
      );
      all_read = λ _. came.sees_end.1;
    }

pub returns-in-Err-PacketTooLarge : goal.returns-in-Err-PacketTooLarge
returns-in-Err-PacketTooLarge g c =
    let inv = c.packets.invariant in
    let so = c.pass_whole.ensures.copies c.args.limit _ _ inv.so_far in
    let sent = sent_on so.1 c.pass_whole.new.to.pending.items c.send.new.self.pending.items _ _ _ so.4 c.in_ok-send.ensures.sent in
    let before = codec_state c.pass_whole.new.decoder c.pass_whole.new.from.unread c.pass_whole.new.from.held in
    let front = c.pass_whole.ensures.front in
    let codec = c.pass_whole.ensures.codec in
    let went = none_left_pending so.1 c.send.new.self.pending.items _ _ sent (c.in_ok-send.ensures.idle refl) in
    let after = codec_state c.fill_packet.new.codec c.fill_packet.new.self.unread c.fill_packet.new.self.held in
    let came = (rw c.in-Err-PacketTooLarge.field-0-is at c.in-Err-PacketTooLarge.ensures.fills) front.not_lost front.not_lent in
    let more : List ℕ = joined_reads came.reads in
    record {
      cases = inr (inr (inr (inl refl)));
      text = λ _. (
        so.0 ++ more,
        so.1,
        Consumes-trans _ _ _ so.0 more so.3 came.consumed,
        reframed_too_large c.joined_runs.ensures c.args.limit before (expected_id c.pass_whole.new.encoder) so.0 so.1 more _ _ so.2 came.answers.0,
        went,
      );
      all_read = at_four _;
    }

pub returns-in-Err-PacketsOutOfSync : goal.returns-in-Err-PacketsOutOfSync
returns-in-Err-PacketsOutOfSync g c =
    let inv = c.packets.invariant in
    let so = c.pass_whole.ensures.copies c.args.limit _ _ inv.so_far in
    let sent = sent_on so.1 c.pass_whole.new.to.pending.items c.send.new.self.pending.items _ _ _ so.4 c.in_ok-send.ensures.sent in
    let before = codec_state c.pass_whole.new.decoder c.pass_whole.new.from.unread c.pass_whole.new.from.held in
    let front = c.pass_whole.ensures.front in
    let codec = c.pass_whole.ensures.codec in
    let went = none_left_pending so.1 c.send.new.self.pending.items _ _ sent (c.in_ok-send.ensures.idle refl) in
    let after = codec_state c.fill_packet.new.codec c.fill_packet.new.self.unread c.fill_packet.new.self.held in
    let came = (rw c.in-Err-PacketsOutOfSync.field-0-is at c.in-Err-PacketsOutOfSync.ensures.fills) front.not_lost front.not_lent in
    let more : List ℕ = joined_reads came.reads in
    record {
      cases = inr (inr (inr (inr (inl refl))));
      text = λ _. (
        so.0 ++ more,
        so.1,
        Consumes-trans _ _ _ so.0 more so.3 came.consumed,
        reframed_out_of_sync c.joined_runs.ensures c.args.limit before (expected_id c.pass_whole.new.encoder) so.0 so.1 more came.answers.0 came.answers.1 so.2 came.answers.2,
        went,
      );
      all_read = at_five _;
    }

pub pass_whole-requires : goal.pass_whole-requires
pass_whole-requires g c = record {
  front = c.packets.invariant.front;
  codec = c.packets.invariant.codec;
}

pub take-requires : goal.take-requires
take-requires g c = c.pass_whole.ensures.front

pub returns-in_err-send : goal.returns-in_err-send
returns-in_err-send g c = none_if c.from_residual.result _ c.from_residual.ensures.0

pub returns-in_err-next : goal.returns-in_err-next
returns-in_err-next g c = none_if c.from_residual-in_err-next.result _ c.from_residual-in_err-next.ensures.0

pub returns-in_err-pass_on-in-Whole : goal.returns-in_err-pass_on-in-Whole
returns-in_err-pass_on-in-Whole g c = none_if c.from_residual-in_err-pass_on-in-Whole.result _ c.from_residual-in_err-pass_on-in-Whole.ensures.0

pub returns-in_err-pass_on-in-Ok-true : goal.returns-in_err-pass_on-in-Ok-true
returns-in_err-pass_on-in-Ok-true g c = none_if c.from_residual-in_err-pass_on-in-Ok-true.result _ c.from_residual-in_err-pass_on-in-Ok-true.ensures.0

pub returns-in-Err-OutOfMemory : goal.returns-in-Err-OutOfMemory
returns-in-Err-OutOfMemory g c = tt

pub returns-in-Err : goal.returns-in-Err
returns-in-Err g c = tt

pub returns : goal.returns
returns g c = tt

pub pass_on-requires : goal.pass_on-requires
pass_on-requires g c =
    let took = rw c.in-Whole.is at c.in_ok-next.ensures.takes in record {
      fits = fits_under c.as_slice.result.now c.take.new.self.bytes.items c.args.limit _ c.as_slice.ensures.value took.2.1 (c.pass_whole.ensures.limits.1 ∙ c.packets.invariant.encoder);
    }

pub fill_packet-requires : goal.fill_packet-requires
fill_packet-requires g c =
    let front = c.pass_whole.ensures.front in inr (begins_stands _ _ _ _ c.pass_whole.ensures.codec.0 front.not_held)

pub returns-then-reads-eq18446744073709551615 : goal.returns-then-reads-eq18446744073709551615
returns-then-reads-eq18446744073709551615 g c = tt
