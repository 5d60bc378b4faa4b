use Rattle.std.proofs.Common.{◌≡◌, ℕ, List, length, All, IsNone, IsFalse}
use Rattle.mysql_wire.specs.Lent.{reading_state}
use Rattle.mysql_wire.specs.PacketIo.{FitsAt}
use Rattle.mysql_wire_examples.specs.Accounts.{ends_rows}
use Rattle.mysql_wire_examples.specs.Relayed.{AreNext}
use Rattle.mysql_wire_examples.proofs.in_place.count_rows.Given as goal

abbrev pub invariant-rows : goal.invariant-rows
invariant-rows g l = record {
  fits : FitsAt l.input.is_lost (reading_state l.codec l.input);
  so_far : IsNone l.fn.input.lent → IsNone l.input.lent
      × (rows : List (List ℕ)) × (length rows ≡ l.count) × All (λ row. IsFalse (ends_rows row)) rows
      × AreNext (reading_state l.fn.codec l.fn.input) (g.R.Read.remaining l.fn.input.reader) rows (reading_state l.codec l.input) (g.R.Read.remaining l.input.reader);
}
