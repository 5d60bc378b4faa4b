use Rattle.std.proofs.Common.{◌∙◌, ℕ, ap₂, arith, sym, [], ◌∷◌, List}
use Rattle.wire_text.proofs.FieldLemmas.{decimal_utf8, three_digits}
use Rattle.wire_text.proofs.put.push_number.Goals as goal

pub push_few-requires-then-number-lt1000 : goal.push_few-requires-then-number-lt1000
push_few-requires-then-number-lt1000 g c =
    decimal_utf8 c.args.number (c.letter_of.result ∷ c.letter_of-tens.result ∷ c.letter_of-ones.result ∷ [])
    (three_digits c.args.number (omega (arith, c.if-number-lt100.false)) (omega (arith, c.if-number-lt1000.true))
    ∙ ap₂ (λ (d : ℕ) (z : List ℕ). d ∷ z) (sym c.letter_of.ensures)
    (ap₂ (λ (d e : ℕ). d ∷ e ∷ []) (sym c.letter_of-tens.ensures) (sym c.letter_of-ones.ensures)))

pub returns-then-number-lt1000 : goal.returns-then-number-lt1000
returns-then-number-lt1000 g c =
    rw (
      three_digits c.args.number (omega (arith, c.if-number-lt100.false)) (omega (arith, c.if-number-lt1000.true)),
      ← c.letter_of.ensures,
      ← c.letter_of-tens.ensures,
      ← c.letter_of-ones.ensures,
    ) c.push_few-then-number-lt1000.ensures
