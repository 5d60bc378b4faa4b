-- The counts of an `OK_Packet` are those that are read.
use Rattle.std.proofs.Common.{ℕ, drop, List, subst}
use Rattle.mysql_wire.specs.Lenenc.{IsLenencOrMark}
use Rattle.mysql_wire.specs.LenencLemmas.{IsLenencOrMark-free}
use Rattle.mysql_wire.specs.Spelling.{EatsSpelling, SpellsNothing}
use Rattle.mysql_wire.specs.SpellingLemmas.{EatsSpelling-same}
use Rattle.mysql_wire_examples.specs.OkPackets.{IsOk}

-- an `OK_Packet` whose first count isn't there, or whose second isn't
pub no_changed : (packet : List ℕ) (changed last_id : ℕ) → SpellsNothing IsLenencOrMark (drop 1 packet) → IsOk packet changed last_id → ⊥
no_changed packet changed last_id none ok = none changed ok.2 ok.4

pub no_last_id : (packet mid : List ℕ) (first changed last_id : ℕ) → EatsSpelling IsLenencOrMark (drop 1 packet) first mid → SpellsNothing IsLenencOrMark mid → IsOk packet changed last_id → ⊥
no_last_id packet mid first changed last_id read none ok =
    let same = EatsSpelling-same IsLenencOrMark IsLenencOrMark-free (drop 1 packet) changed first ok.2 mid ok.4 read in
    none last_id ok.3 (subst (λ (z : List ℕ). EatsSpelling IsLenencOrMark z last_id ok.3) same.1 ok.5)
