use Rattle.std.proofs.Common.{◌≡◌, ◌∙◌, ℕ, List, ap, refl, subst}
use Rattle.mysql_wire.specs.Codec.{expected_id, header_of}
use Rattle.mysql_wire.specs.Framing.{framing}
use Rattle.mysql_wire.specs.Lent.{reading_state}
use Rattle.mysql_wire_examples.specs.Connection.{answer_to}
use Rattle.mysql_wire_examples.specs.Relayed.{IsNext, Sends, at_id}
use Rattle.mysql_wire_examples.proofs.RelayedLemmas.{is_false, no_true, no_false, no_ok, no_lost, err_no_ok, err_on_ok, fits_with}
use Rattle.mysql_wire_examples.proofs.sockets.answer_next.Goals as goal

pub returns-in_ok-send-in-Ok-Some-clause-answered :
    goal.returns-in_ok-send-in-Ok-Some-clause-answered
returns-in_ok-send-in-Ok-Some-clause-answered g c done clear =
    let input = c.args.input.now in
    let command = c.in-Ok-Some.command.items in
    let reset = c.reset_seq_id.ensures in
    let is : reading_state c.reset_seq_id.new.self input ≡ reading_state (at_id 0 c.args.codec.now) input =
    λ i. record { limit = reset.limit i; id = reset.id i; header = reset.header i; unread = input.unread; held = input.held } in
    let after = reading_state c.next_packet.new.codec c.next_packet.new.self in
    let found = is_false input.is_lost (λ lost. no_lost _ _ (c.in-Ok-Some.ensures.lost lost).0) in
    let next = (rw c.in-Ok-Some.field-0-is at c.in-Ok-Some.ensures.next) found clear in
    record {
      packet = command;
      behind = after;
      came = subst (λ z. IsNext z (g.R.Read.remaining input.reader) command after (g.R.Read.remaining c.next_packet.new.self.reader)) is (_, _, next);
      sent = subst (λ (z : List ℕ). Sends g.W.Write.contents c.args.output.now c.send.new.output (framing (expected_id c.next_packet.new.codec) z))
          (c.answer_to.ensures ∙ ap answer_to c.as_slice.ensures.value) c.in_ok-send-in-Ok-Some.ensures.sent;
    }

pub returns-in_ok-send-in-Ok-Some-clause-ended :
    goal.returns-in_ok-send-in-Ok-Some-clause-ended
returns-in_ok-send-in-Ok-Some-clause-ended g c e = absurd (no_false e)

pub returns-in_ok-send-in-Ok-Some-clause-fits :
    goal.returns-in_ok-send-in-Ok-Some-clause-fits
returns-in_ok-send-in-Ok-Some-clause-fits g c =
    let input = c.next_packet.new.self in
    let read = c.next_packet.new.codec in
    let sent = c.send.new.codec in
    fits_with input.is_lost read.max_allowed_packet sent.max_allowed_packet (expected_id read) (expected_id sent) (header_of read) (header_of sent) input.unread input.held
    c.send.ensures.limit c.send.ensures.header c.next_packet.ensures.fits

pub returns-in-Ok-None : goal.returns-in-Ok-None
returns-in-Ok-None g c = record { answered = λ e. absurd (no_true e); ended = λ e. refl; fits = c.next_packet.ensures.fits }

pub returns-in-Err : goal.returns-in-Err
returns-in-Err g c = record { answered = λ e. absurd (no_ok _ _ e); ended = λ e. absurd (no_ok _ _ e); fits = tt }

pub returns-in_err-send-in-Ok-Some : goal.returns-in_err-send-in-Ok-Some
returns-in_err-send-in-Ok-Some g c =
    let answer = c.from_residual.result in
    let is = c.from_residual.ensures.0 in
    record { answered = λ e. absurd (err_no_ok answer _ is e); ended = λ e. absurd (err_no_ok answer _ is e); fits = err_on_ok answer _ is }
