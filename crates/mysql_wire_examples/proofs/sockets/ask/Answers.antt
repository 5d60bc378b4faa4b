use Rattle.std.proofs.Common.{◌≡◌, ℕ, ap, refl, subst, ◌∙◌}
use Rattle.mysql_wire.specs.Framing.{framing, next_id}
use Rattle.mysql_wire.specs.Lent.{reading_state}
use Rattle.mysql_wire_examples.specs.Relayed.{IsNext, Sends, at_id}
use Rattle.mysql_wire_examples.proofs.RelayedLemmas.{is_false, no_lost}
use Rattle.mysql_wire_examples.proofs.sockets.ask.Goals as goal

pub returns-in-Ok-Some-clause-answered : goal.returns-in-Ok-Some-clause-answered
returns-in-Ok-Some-clause-answered g c clear =
    let input = c.args.input.now in
    let command = c.args.command.now in
    let reset = c.reset_seq_id.ensures in
    let sent = c.in_ok-send.ensures in
    let limit = sent.limit ∙ reset.limit in
    let id = sent.next ∙ ap (λ n. next_id n command) reset.id in
    let header = sent.header ∙ reset.header in
    let is : reading_state c.send.new.codec input ≡ reading_state (at_id (next_id 0 command) c.args.codec.now) input =
    λ i. record { limit = limit i; id = id i; header = header i; unread = input.unread; held = input.held } in
    let after = reading_state c.next_packet.new.codec c.next_packet.new.self in
    let found = is_false input.is_lost (λ lost. no_lost _ _ (c.in-Ok-Some.ensures.lost lost).0) in
    let next = (rw c.in-Ok-Some.field-0-is at c.in-Ok-Some.ensures.next) found clear in
    subst (λ z. IsNext z (g.R.Read.remaining input.reader) c.in-Ok-Some.answer.items after (g.R.Read.remaining c.next_packet.new.self.reader)) is (_, _, next)

pub returns-in-Ok-Some-clause-sent : goal.returns-in-Ok-Some-clause-sent
returns-in-Ok-Some-clause-sent g c =
    subst (λ (n : ℕ). Sends g.W.Write.contents c.args.output.now c.send.new.output (framing n c.args.command.now)) c.reset_seq_id.ensures.id c.in_ok-send.ensures.sent

pub next_packet-requires : goal.next_packet-requires
next_packet-requires g c = c.if-not-fits.ensures.0 refl

pub returns-in-Ok-None : goal.returns-in-Ok-None
returns-in-Ok-None g c = record { sent = tt; answered = tt }

pub returns-in-Err : goal.returns-in-Err
returns-in-Err g c = record { sent = tt; answered = tt }

pub returns-then-not-fits : goal.returns-then-not-fits
returns-then-not-fits g c = record { sent = tt; answered = tt }
