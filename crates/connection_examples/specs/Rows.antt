-- A value of a row, by its place.
use Rattle.std.specs.Prelude.{ℕ, ◌≡◌, ◌≤◌, ◌⊎◌, false, List, length, Some, None, Ok, Err}
use Rattle.mysql_wire_queries.specs.RowValues.{GivesAll, GivesValue}
use Rattle.mysql_wire_queries.specs.declared.text_row.TextFault.{TextFault}
use Rattle.mysql_wire_queries.specs.declared.text_row.TextValue.{TextValue}
use Rattle.mysql_wire_queries.specs.declared.text_values.TextValues.{TextValues}

-- these values stand in front of a row, one after another, and what follows is left
abbrev pub BeginsWith : List ℕ → List TextValue → TextValues → Type 0
BeginsWith payload before left =
    (all : TextValues) × (all.rest.0.now ≡ payload) × (all.has_refused ≡ false)
    × GivesAll all before left

-- this many values stand before it
abbrev pub IsTextAt : List ℕ → ℕ → TextValue → Type 0
IsTextAt payload place value =
    (before : List TextValue) × (left new : TextValues) × (length before ≡ place)
    × BeginsWith payload before left × GivesValue left (Some (Ok value)) new

-- the bytes end, or what is next is refused
abbrev pub GivesNone : TextValues → Type 0
GivesNone values =
    (new : TextValues) × (GivesValue values None new
    ⊎ ((fault : TextFault) × GivesValue values (Some (Err fault)) new))

-- at most this many values stand in front of that
abbrev pub HasNoTextAt : List ℕ → ℕ → Type 0
HasNoTextAt payload place =
    (before : List TextValue) × (left : TextValues) × (length before ≤ place)
    × BeginsWith payload before left × GivesNone left
