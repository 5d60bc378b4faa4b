-- Dates and times as they are shown.
use Rattle.std.specs.Fmt.{decimal, format_spec, padded_integral}
use Rattle.std.specs.Prelude.{ℕ, ◌+◌, ◌*◌, ◌-◌, ◌^◌, ◌==◌, false, List, [], ◌++◌, codes, if◌then◌else◌}
use Rattle.mysql_wire_statements.specs.declared.temporal.Clock.{Clock}
use Rattle.mysql_wire_statements.specs.declared.temporal.Day.{Day}
use Rattle.mysql_wire_statements.specs.declared.temporal.Span.{Span}
use Rattle.mysql_wire_statements.specs.declared.temporal.BinaryDate.{BinaryDate}
use Rattle.mysql_wire_statements.specs.declared.temporal.BinaryDate.TheVariants as date
use Rattle.mysql_wire_statements.specs.declared.temporal.BinaryTime.{BinaryTime}
use Rattle.mysql_wire_statements.specs.declared.temporal.BinaryTime.TheVariants as time

-- a number in at least this many digits, zeros in front
abbrev pub zeros : ℕ → ℕ → List ℕ
zeros width number =
    padded_integral (format_spec 32 0 4 width (2 ^ 64 - 1)) false [] (decimal number)

abbrev pub day_text : Day → List ℕ
day_text day = zeros 4 day.year ++ codes "-" ++ zeros 2 day.month ++ codes "-" ++ zeros 2 day.day

abbrev pub clock_text : ℕ → Clock → List ℕ
clock_text hours clock =
    zeros 2 hours ++ codes ":" ++ zeros 2 clock.minute ++ codes ":" ++ zeros 2 clock.second

abbrev pub moment_text : Day → Clock → List ℕ
moment_text day clock = day_text day ++ codes " " ++ clock_text clock.hour clock

-- a day, with the time of day that is sent
abbrev pub date_text : BinaryDate → List ℕ
date_text date.Zero = codes "0000-00-00 00:00:00"
date_text (date.Date day) = day_text day
date_text (date.Seconds day clock) = moment_text day clock
date_text (date.Micros day clock micros) = moment_text day clock ++ codes "." ++ zeros 6 micros

-- a span in hours, of which there may be more than a day's
abbrev pub span_text : Span → List ℕ
span_text span =
    (if span.sign == 1 then codes "-" else [])
    ++ clock_text (24 * span.days + span.clock.hour) span.clock

abbrev pub time_text : BinaryTime → List ℕ
time_text time.Zero = codes "00:00:00"
time_text (time.Seconds span) = span_text span
time_text (time.Micros span micros) = span_text span ++ codes "." ++ zeros 6 micros
