use Rattle.std.proofs.Common.{ℕ, ◌+◌, [], ◌∷◌, ◌++◌, sym, ap, ◌∙◌, subst, length-append, IsFalse, IsNone, refl}
use Rattle.std.proofs.lemmas.List.Elements.{All-push}
use Rattle.mysql_wire.specs.Lent.{reading_state}
use Rattle.mysql_wire.specs.PacketIo.{FitsAt}
use Rattle.mysql_wire_examples.specs.Accounts.{ends_rows}
use Rattle.mysql_wire_examples.specs.Relayed.{AreNext, CountsRows}
use Rattle.mysql_wire_examples.proofs.RelayedLemmas.{next_more, next_lent, is_false, no_lost}
use Rattle.mysql_wire_examples.proofs.in_place.count_rows.Goals as goal

pub returns-then-is_last-clause-counted : goal.returns-then-is_last-clause-counted
returns-then-is_last-clause-counted g c clear less =
    let so_far = c.rows.invariant.so_far clear in
    let shown = c.packet.result.now in
    let start = reading_state c.args.codec.now c.args.input.now in
    let first = g.R.Read.remaining c.args.input.now.reader in
    let before = reading_state c.rows.codec c.rows.input in
    let after = reading_state c.fill_packet.new.codec c.fill_packet.new.self in
    let from = g.R.Read.remaining c.rows.input.reader in
    let left = g.R.Read.remaining c.fill_packet.new.self.reader in
    let found = is_false c.rows.input.is_lost (λ lost. no_lost _ _ (c.in-Ok-true.ensures.lost lost).0) in
    let next = next_lent before after from left _ _ c.fill_packet.new.self.lent shown
    (c.in-Ok-true.ensures.lends.0.0 c.in-Ok-true.field-0-test) c.packet.ensures (c.in-Ok-true.ensures.fills found so_far.0) in
    let more = next_more start before after first from left so_far.1 shown so_far.4 next in
    subst (λ z. CountsRows g.R.Read.remaining c.rows.count c.args.codec.now c.args.input.now c.fill_packet.new.codec z) (sym c.take_packet.ensures)
    (record { rows = so_far.1; last = shown; are = more; counted = so_far.2; each = so_far.3; ends = sym c.ends_rows-is_last.ensures ∙ c.if-is_last.true })

pub rows-preserved : goal.rows-preserved
rows-preserved g c = record {
  fits = subst (λ z. FitsAt z.is_lost (reading_state c.fill_packet.new.codec z)) (sym c.take_packet.ensures) c.fill_packet.ensures.fits;
  so_far = λ clear.
      let so_far = c.rows.invariant.so_far clear in
      let shown = c.packet.result.now in
      let start = reading_state c.args.codec.now c.args.input.now in
      let first = g.R.Read.remaining c.args.input.now.reader in
      let before = reading_state c.rows.codec c.rows.input in
      let after = reading_state c.fill_packet.new.codec c.fill_packet.new.self in
      let from = g.R.Read.remaining c.rows.input.reader in
      let left = g.R.Read.remaining c.fill_packet.new.self.reader in
      let found = is_false c.rows.input.is_lost (λ lost. no_lost _ _ (c.in-Ok-true.ensures.lost lost).0) in
      let next = next_lent before after from left _ _ c.fill_packet.new.self.lent shown
      (c.in-Ok-true.ensures.lends.0.0 c.in-Ok-true.field-0-test) c.packet.ensures (c.in-Ok-true.ensures.fills found so_far.0) in
      let more = next_more start before after first from left so_far.1 shown so_far.4 next in
      let push = length-append so_far.1 (shown ∷ []) in (
        subst (λ z. IsNone z.lent) (sym c.take_packet.ensures) refl,
        so_far.1 ++ shown ∷ [],
        push ∙ ap (λ (n : ℕ). n + 1) so_far.2,
        All-push (λ row. IsFalse (ends_rows row)) so_far.1 shown so_far.3 (sym c.ends_rows-is_last.ensures ∙ c.if-is_last.false),
        subst (λ z. AreNext start first (so_far.1 ++ shown ∷ []) (reading_state c.fill_packet.new.codec z) (g.R.Read.remaining z.reader)) (sym c.take_packet.ensures) more,
      );
}

pub fill_packet-requires : goal.fill_packet-requires
fill_packet-requires g c = c.rows.invariant.fits

pub returns-in-Ok-false : goal.returns-in-Ok-false
returns-in-Ok-false g c = record { counted = tt; fits = c.fill_packet.ensures.fits }

pub returns-in-Err : goal.returns-in-Err
returns-in-Err g c = record { counted = tt; fits = c.fill_packet.ensures.fits }

pub returns-then-is_last-clause-fits : goal.returns-then-is_last-clause-fits
returns-then-is_last-clause-fits g c = subst (λ z. FitsAt z.is_lost (reading_state c.fill_packet.new.codec z)) (sym c.take_packet.ensures) c.fill_packet.ensures.fits
