use Rattle.std.proofs.Common.{◌≡◌, ◌≤◌, drop}
use Rattle.std.specs.Str.Parse.{AllDigits, digits_value, digits_value_after}
use Rattle.wire_streams.proofs.misc.version.part.Given as goal

abbrev pub invariant-loop-digit : goal.invariant-loop-digit
invariant-loop-digit l = record {
  small : l.number ≤ 255;
  value : digits_value_after 10 l.number (drop l.digit-index l.digits) ≡ digits_value 10 l.digits;
  to : AllDigits 10 l.digits → AllDigits 10 (drop l.digit-index l.digits);
  from : AllDigits 10 (drop l.digit-index l.digits) → AllDigits 10 l.digits;
}
