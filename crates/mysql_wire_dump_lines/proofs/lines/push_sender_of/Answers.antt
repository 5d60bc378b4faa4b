use Rattle.std.proofs.Common.{◌≡◌, ℕ, List, ◌∷◌, ◌++◌, arith, get_or, refl}
use Rattle.mysql_wire_session.specs.declared.side.Side.{Side}
use Rattle.mysql_wire_session.specs.declared.side.Side.TheVariants.{Client, Server}
use Rattle.mysql_wire_session.specs.Names.{side_name}
use Rattle.wire_text.proofs.FieldLemmas.{three_digits}
use Rattle.mysql_wire_dump_lines.proofs.DigitLemmas.{one_digit, tens_of}
use Rattle.mysql_wire_dump_lines.proofs.lines.push_sender_of.Goals as goal

abbrev letters : List ℕ → List ℕ → List ℕ
letters name rest = get_or name 0 0 ∷ get_or name 1 0 ∷ get_or name 2 0 ∷ get_or name 3 0 ∷ get_or name 4 0 ∷ get_or name 5 0 ∷ rest

spelled : (side : Side) (rest : List ℕ) → letters (side_name side) rest ≡ side_name side ++ rest
spelled Client rest = refl
spelled Server rest = refl

pub returns-then-id-lt10 : goal.returns-then-id-lt10
returns-then-id-lt10 g c =
    rw (one_digit c.args.id (omega (arith, c.if-id-lt10.true)), ← spelled c.args.side, ← c.letters_of.ensures.name) c.push_letters.ensures

pub returns-then-id-lt100 : goal.returns-then-id-lt100
returns-then-id-lt100 g c =
    rw (tens_of c.args.id (omega (arith, c.if-id-lt10.false)) (omega (arith, c.if-id-lt100.true)), ← spelled c.args.side, ← c.letters_of.ensures.name)
    c.push_letters-then-id-lt100.ensures

pub returns : goal.returns
returns g c =
    rw (three_digits c.args.id (omega (arith, c.if-id-lt100.false)) (omega (arith, c.ranges.id.fits)), ← spelled c.args.side, ← c.letters_of.ensures.name)
    c.push_letters-2.ensures
