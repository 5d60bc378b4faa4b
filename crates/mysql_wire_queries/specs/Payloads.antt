-- What a payload is, by its first byte and what both sides can do.
use Rattle.std.specs.Prelude.{ℕ, ◌≡◌, true, false, List}
use Rattle.wire_const.specs.declared.flag_sets.capability.CapabilityFlags.{CapabilityFlags}
use Rattle.mysql_wire_parts.specs.Optional.{has_query_attributes}
use Rattle.mysql_wire_parts.specs.Places.{BeginsWith}

-- a query without attributes
abbrev pub IsPlainQuery : CapabilityFlags → List ℕ → Type 0
IsPlainQuery capabilities payload =
    BeginsWith 0x03 payload × (has_query_attributes capabilities ≡ false)

-- and with them
abbrev pub IsAttributedQuery : CapabilityFlags → List ℕ → Type 0
IsAttributedQuery capabilities payload =
    BeginsWith 0x03 payload × (has_query_attributes capabilities ≡ true)
