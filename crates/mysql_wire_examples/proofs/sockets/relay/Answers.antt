use Rattle.std.proofs.Common.{ℕ, List, refl, subst}
use Rattle.mysql_wire.specs.Codec.{expected_id}
use Rattle.mysql_wire.specs.Framing.{framing}
use Rattle.mysql_wire.specs.Lent.{reading_state}
use Rattle.mysql_wire_examples.specs.Relayed.{Sends}
use Rattle.mysql_wire_examples.proofs.RelayedLemmas.{is_false, no_true, no_false, no_ok, no_lost, err_no_ok}
use Rattle.mysql_wire_examples.proofs.sockets.relay.Goals as goal

pub returns-in-Ok-None : goal.returns-in-Ok-None
returns-in-Ok-None g c = record { passed = λ e. absurd (no_true e); ended = λ e. refl; fits = c.next_packet.ensures.fits }

pub returns-in-Err : goal.returns-in-Err
returns-in-Err g c = record { passed = λ e. absurd (no_ok _ _ e); ended = λ e. absurd (no_ok _ _ e); fits = c.next_packet.ensures.fits }

pub returns-in_err-send-in-Ok-Some : goal.returns-in_err-send-in-Ok-Some
returns-in_err-send-in-Ok-Some g c = record { passed = λ e. absurd (err_no_ok c.from_residual.result _ c.from_residual.ensures.0 e); ended = λ e. absurd (err_no_ok c.from_residual.result _ c.from_residual.ensures.0 e); fits = c.next_packet.ensures.fits }

pub returns-in_ok-send-in-Ok-Some : goal.returns-in_ok-send-in-Ok-Some
returns-in_ok-send-in-Ok-Some g c = record {
  passed = λ done clear.
      let found = is_false c.args.from.now.is_lost (λ lost. no_lost _ _ (c.in-Ok-Some.ensures.lost lost).0) in
      let next = (rw c.in-Ok-Some.field-0-is at c.in-Ok-Some.ensures.next) found clear in
      record {
        packet = c.in-Ok-Some.packet.items;
        behind = reading_state c.next_packet.new.codec c.next_packet.new.self;
        came = (_, _, next);
        sent = subst (λ (z : List ℕ). Sends g.W.Write.contents c.args.to.now c.send.new.output (framing (expected_id c.args.to_codec.now) z)) c.as_slice.ensures.value c.in_ok-send-in-Ok-Some.ensures.sent;
      };
  ended = λ e. absurd (no_false e);
  fits = c.next_packet.ensures.fits;
}
