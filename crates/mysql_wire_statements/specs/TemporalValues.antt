-- Dates and times in their binary form. Each begins with the count of the bytes after it.
use Rattle.std.specs.Prelude.{ℕ, ◌≡◌, ◌≢◌, ◌⊎◌, List, [], ◌∷◌, ◌++◌, length, take, drop, slice_index, Result, Ok, Err, nat_lt, if◌then◌else◌}
use Rattle.std.proofs.Common.{suc}
use Rattle.wire_buf.specs.declared.error.WireError.{WireError}
use Rattle.wire_buf.specs.declared.error.WireError.TheVariants.{UnexpectedEof, InvalidData}
use Rattle.wire_buf.specs.declared.error.InvalidReason.TheVariants.{UnknownValue}
use Rattle.wire_buf.specs.Numbers.{le_number, le_bytes}
use Rattle.wire_buf.specs.Reading.{Answers}
use Rattle.mysql_wire_statements.specs.declared.temporal.Clock.{Clock}
use Rattle.mysql_wire_statements.specs.declared.temporal.Day.{Day}
use Rattle.mysql_wire_statements.specs.declared.temporal.Span.{Span}
use Rattle.mysql_wire_statements.specs.declared.temporal.BinaryDate.{BinaryDate}
use Rattle.mysql_wire_statements.specs.declared.temporal.BinaryDate.TheVariants as date
use Rattle.mysql_wire_statements.specs.declared.temporal.BinaryTime.{BinaryTime}
use Rattle.mysql_wire_statements.specs.declared.temporal.BinaryTime.TheVariants as time

-- ---- what is written

abbrev pub day_bytes : Day → List ℕ
day_bytes day = le_bytes 2 day.year ++ day.month ∷ day.day ∷ []

abbrev pub clock_bytes : Clock → List ℕ
clock_bytes clock = clock.hour ∷ clock.minute ∷ clock.second ∷ []

abbrev pub span_bytes : Span → List ℕ
span_bytes span = span.sign ∷ (le_bytes 4 span.days ++ clock_bytes span.clock)

abbrev pub date_bytes : BinaryDate → List ℕ
date_bytes date.Zero = 0 ∷ []
date_bytes (date.Date day) = 4 ∷ day_bytes day
date_bytes (date.Seconds day clock) = 7 ∷ (day_bytes day ++ clock_bytes clock)
date_bytes (date.Micros day clock micros) =
    11 ∷ (day_bytes day ++ (clock_bytes clock ++ le_bytes 4 micros))

abbrev pub time_bytes : BinaryTime → List ℕ
time_bytes time.Zero = 0 ∷ []
time_bytes (time.Seconds span) = 8 ∷ span_bytes span
time_bytes (time.Micros span micros) = 12 ∷ (span_bytes span ++ le_bytes 4 micros)

-- ---- what is read, of bytes that begin with their count

abbrev pub day_at : List ℕ → Day
day_at bytes = record {
  year = le_number (take 2 (drop 1 bytes));
  month = slice_index bytes 3;
  day = slice_index bytes 4;
}

-- the time of a day, from this byte on
abbrev pub clock_at : ℕ → List ℕ → Clock
clock_at at bytes = record {
  hour = slice_index bytes at;
  minute = slice_index bytes (suc at);
  second = slice_index bytes (suc (suc at));
}

abbrev pub span_at : List ℕ → Span
span_at bytes = record {
  sign = slice_index bytes 1;
  days = le_number (take 4 (drop 2 bytes));
  clock = clock_at 6 bytes;
}

-- a number of microseconds, after this many bytes
abbrev pub micros_at : ℕ → List ℕ → ℕ
micros_at at bytes = le_number (take 4 (drop at bytes))

abbrev pub seconds_at : List ℕ → BinaryDate
seconds_at bytes = date.Seconds (day_at bytes) (clock_at 5 bytes)

abbrev pub date_micros_at : List ℕ → BinaryDate
date_micros_at bytes = date.Micros (day_at bytes) (clock_at 5 bytes) (micros_at 8 bytes)

abbrev pub time_micros_at : List ℕ → BinaryTime
time_micros_at bytes = time.Micros (span_at bytes) (micros_at 9 bytes)

-- what this many bytes after the count are; fewer are an end of input, and then nothing is eaten
abbrev pub behind : {X : Type 0} → ℕ → (List ℕ → X) → List ℕ → Result X WireError × ℕ
behind count value input = if nat_lt (length input) (suc count) then (Err UnexpectedEof, 0)
    else (Ok (value (take (suc count) input)), suc count)

-- Nothing, a day, a day and its time, or these and microseconds. Another count is refused, and so
-- is an end of input; then nothing is eaten.
abbrev pub ReadsDate : List ℕ → Result BinaryDate WireError → ℕ → Type 0
ReadsDate input answer eaten =
    ((take 1 input ≡ []) × Answers (Err UnexpectedEof, 0) answer eaten)
    ⊎ ((take 1 input ≡ 0 ∷ []) × Answers (Ok date.Zero, 1) answer eaten)
    ⊎ ((take 1 input ≡ 4 ∷ []) × Answers (behind 4 (λ b. date.Date (day_at b)) input) answer eaten)
    ⊎ ((take 1 input ≡ 7 ∷ []) × Answers (behind 7 seconds_at input) answer eaten)
    ⊎ ((take 1 input ≡ 11 ∷ []) × Answers (behind 11 date_micros_at input) answer eaten)
    ⊎ ((take 1 input ≢ []) × (take 1 input ≢ 0 ∷ []) × (take 1 input ≢ 4 ∷ [])
    × (take 1 input ≢ 7 ∷ []) × (take 1 input ≢ 11 ∷ [])
    × Answers (Err (InvalidData UnknownValue), 0) answer eaten)

-- nothing, a span, or a span and microseconds, likewise
abbrev pub ReadsTime : List ℕ → Result BinaryTime WireError → ℕ → Type 0
ReadsTime input answer eaten =
    ((take 1 input ≡ []) × Answers (Err UnexpectedEof, 0) answer eaten)
    ⊎ ((take 1 input ≡ 0 ∷ []) × Answers (Ok time.Zero, 1) answer eaten)
    ⊎ ((take 1 input ≡ 8 ∷ []) × Answers (behind 8 (λ b. time.Seconds (span_at b)) input) answer
    eaten)
    ⊎ ((take 1 input ≡ 12 ∷ []) × Answers (behind 12 time_micros_at input) answer eaten)
    ⊎ ((take 1 input ≢ []) × (take 1 input ≢ 0 ∷ []) × (take 1 input ≢ 8 ∷ [])
    × (take 1 input ≢ 12 ∷ []) × Answers (Err (InvalidData UnknownValue), 0) answer eaten)
