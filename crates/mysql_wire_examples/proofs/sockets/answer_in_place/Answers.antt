use Rattle.std.proofs.Common.{◌≡◌, ◌∙◌, ℕ, List, ◌++◌, IsNone, ap, refl, sym, subst}
use Rattle.std.specs.Io.KnownBytes.{Appends}
use Rattle.mysql_wire.specs.Codec.{expected_id, header_of}
use Rattle.mysql_wire.specs.Framing.{framing}
use Rattle.mysql_wire.specs.PacketIo.{FitsAt}
use Rattle.mysql_wire.specs.Lent.{reading_state}
use Rattle.mysql_wire_examples.specs.Connection.{answer_to}
use Rattle.mysql_wire_examples.specs.Relayed.{Brings, IsNext, at_id}
use Rattle.mysql_wire_examples.proofs.RelayedLemmas.{next_lent, is_false, no_true, no_false, no_ok, no_lost, err_no_ok, err_on_ok, none_lent, all_sent, fits_with}
use Rattle.mysql_wire_examples.proofs.sockets.answer_in_place.Goals as goal

pub returns-clause-answered : goal.returns-clause-answered
returns-clause-answered g c done clear =
    let input = c.args.input.now in
    let shown = c.packet.result.now in
    let reset = c.reset_seq_id.ensures in
    let before = reading_state c.reset_seq_id.new.self input in
    let start = reading_state (at_id 0 c.args.codec.now) input in
    let is : before ≡ start = λ i. record { limit = reset.limit i; id = reset.id i; header = reset.header i; unread = input.unread; held = input.held } in
    let after = reading_state c.fill_packet.new.codec c.fill_packet.new.self in
    let from = g.R.Read.remaining input.reader in
    let left = g.R.Read.remaining c.fill_packet.new.self.reader in
    let found = is_false input.is_lost (λ lost. no_lost _ _ (c.in-Ok-true.ensures.lost lost).0) in
    let next = next_lent before after from left _ _ c.fill_packet.new.self.lent shown
    (c.in-Ok-true.ensures.lends.0.0 c.in-Ok-true.field-0-test) c.packet.ensures (c.in-Ok-true.ensures.fills found clear) in
    let output = c.args.output.now in
    let sent = c.write_pending.ensures.sent in
    record {
      packet = shown;
      behind = after;
      came = subst (λ z. Brings g.R.Read.remaining (at_id 0 c.args.codec.now) input z shown after) (sym c.take_packet.ensures)
          (subst (λ z. IsNext z from shown after left) is next);
      sent = all_sent (g.W.Write.contents output.writer) (g.W.Write.contents c.write_pending.new.self.writer) output.pending
          (framing (expected_id c.fill_packet.new.codec) (answer_to shown)) c.queue.new.self.pending sent.0 c.write_pending.new.self.pending
          (c.in_ok-queue.ensures.appended ∙ ap (λ (z : List ℕ). output.pending ++ framing (expected_id c.fill_packet.new.codec) z) c.answer_to-answer.ensures)
          sent.1 c.in_ok-write_pending.ensures.ok
          (subst (λ z. Appends (g.W.Write.contents z) (g.W.Write.contents c.write_pending.new.self.writer) sent.0) c.queue.ensures.writer sent.2);
    }

pub returns-clause-taken : goal.returns-clause-taken
returns-clause-taken g c = subst (λ z. IsNone z.lent) (sym c.take_packet.ensures) refl

pub returns-clause-ended : goal.returns-clause-ended
returns-clause-ended g c e = absurd (no_false e)

pub returns-clause-fits : goal.returns-clause-fits
returns-clause-fits g c =
    let filled = c.fill_packet.new in
    let queued = c.queue.new.codec in
    subst (λ z. FitsAt z.is_lost (reading_state queued z)) (sym c.take_packet.ensures)
    (fits_with filled.self.is_lost filled.codec.max_allowed_packet queued.max_allowed_packet (expected_id filled.codec) (expected_id queued) (header_of filled.codec) (header_of queued)
    filled.self.unread filled.self.held c.queue.ensures.limit c.queue.ensures.header c.fill_packet.ensures.fits)

pub returns-in-Ok-false : goal.returns-in-Ok-false
returns-in-Ok-false g c = record {
  answered = λ e. absurd (no_true e);
  ended = λ e. refl;
  taken = none_lent c.fill_packet.new.self.lent c.in-Ok-false.field-0 c.in-Ok-false.ensures.lends.0 c.in-Ok-false.field-0-test;
  fits = c.fill_packet.ensures.fits;
}

pub returns-in-Err : goal.returns-in-Err
returns-in-Err g c = record { answered = λ e. absurd (no_ok _ _ e); ended = λ e. absurd (no_ok _ _ e); taken = tt; fits = tt }

pub returns-in_err-queue : goal.returns-in_err-queue
returns-in_err-queue g c =
    let answer = c.from_residual.result in
    let is = c.from_residual.ensures.0 in
    record { answered = λ e. absurd (err_no_ok answer _ is e); ended = λ e. absurd (err_no_ok answer _ is e); taken = err_on_ok answer _ is; fits = err_on_ok answer _ is }

pub returns-in_err-write_pending : goal.returns-in_err-write_pending
returns-in_err-write_pending g c =
    let answer = c.from_residual-in_err-write_pending.result in
    let is = c.from_residual-in_err-write_pending.ensures.0 in
    record { answered = λ e. absurd (err_no_ok answer _ is e); ended = λ e. absurd (err_no_ok answer _ is e); taken = err_on_ok answer _ is; fits = err_on_ok answer _ is }
