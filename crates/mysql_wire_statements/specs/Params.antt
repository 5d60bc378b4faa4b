-- The types of a statement's parameters.
use Rattle.std.specs.Prelude.{ℕ, ◌≡◌, ◌≢◌, ◌<◌, ◌≤◌, ◌+◌, ◌*◌, ◌⊎◌, MatchOption, slice_index, List, [], ◌∷◌, length, take, drop, Option, Some, None, Result, Ok, Err, nat_lt, if◌then◌else◌}
use Rattle.std.proofs.Common.{suc}
use Rattle.wire_buf.specs.declared.error.WireError.{WireError}
use Rattle.wire_buf.specs.declared.error.WireError.TheVariants.{UnexpectedEof, InvalidData}
use Rattle.wire_buf.specs.declared.error.InvalidReason.TheVariants.{UnknownValue}
use Rattle.wire_buf.specs.Reading.{Answers}
use Rattle.mysql_wire_statements.specs.declared.params.ParamType.{ParamType}
use Rattle.mysql_wire_statements.specs.declared.params.ParamTypes.{ParamTypes}

-- the types, if there are any
abbrev pub types_of : Option ParamTypes → Option (List ℕ)
types_of None = None
types_of (Some types) = Some types.0.now

-- the byte 0 where there are none, else the byte 1 and the types
abbrev pub types_bytes : Option (List ℕ) → List ℕ
types_bytes None = 0 ∷ []
types_bytes (Some types) = 1 ∷ types

-- two bytes for each parameter, if there are types
abbrev pub HaveTypes : ℕ → Option (List ℕ) → Type 0
HaveTypes count None = Unit {0}
HaveTypes count (Some types) = length types ≡ 2 * count

-- two bytes stand at the place, the type and its flags, or the places are at their end before it
abbrev pub HasType : ℕ → List ℕ → Option ParamType → Type 0
HasType place types answer = MatchOption answer (length types < 2 * place + 2)
    (λ param. (2 * place + 2 ≤ length types)
    × (param.column_type.0 ≡ slice_index types (2 * place))
    × (param.flags.0 ≡ slice_index types (2 * place + 1)))

-- this many bytes of types after one byte
abbrev pub types_behind : ℕ → List ℕ → Result (Option (List ℕ)) WireError × ℕ
types_behind len input = if nat_lt (length input) (suc len) then (Err UnexpectedEof, 0)
    else (Ok (Some (drop 1 (take (suc len) input))), suc len)

-- The byte is 0 where no types follow, and 1 where two bytes for each parameter do. Another is
-- refused, and so is an end of input; then nothing is eaten.
abbrev pub ReadsTypes : ℕ → List ℕ → Result (Option (List ℕ)) WireError → ℕ → Type 0
ReadsTypes count input answer eaten =
    ((take 1 input ≡ []) × Answers (Err UnexpectedEof, 0) answer eaten)
    ⊎ ((take 1 input ≡ 0 ∷ []) × Answers (Ok None, 1) answer eaten)
    ⊎ ((take 1 input ≡ 1 ∷ []) × Answers (types_behind (2 * count) input) answer eaten)
    ⊎ ((take 1 input ≢ []) × (take 1 input ≢ 0 ∷ []) × (take 1 input ≢ 1 ∷ [])
    × Answers (Err (InvalidData UnknownValue), 0) answer eaten)
