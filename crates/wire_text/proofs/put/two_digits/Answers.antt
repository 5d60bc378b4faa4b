use Rattle.std.proofs.Common.{◌∙◌, ap₂, ℕ, [], ◌∷◌, sym}
use Rattle.wire_text.proofs.FieldLemmas.{decimal_utf8, two_digits}
use Rattle.wire_text.proofs.put.two_digits.Goals as goal

pub returns-clause-is : goal.returns-clause-is
returns-clause-is c =
    ap₂ (λ (d e : ℕ). d ∷ e ∷ []) c.letter_of.ensures c.letter_of-2.ensures ∙ sym (two_digits c.args.number c.requires.0 c.requires.1)

pub returns-clause-utf8 : goal.returns-clause-utf8
returns-clause-utf8 c =
    decimal_utf8 c.args.number (c.letter_of.result ∷ c.letter_of-2.result ∷ [])
    (two_digits c.args.number c.requires.0 c.requires.1 ∙ ap₂ (λ (d e : ℕ). d ∷ e ∷ []) (sym c.letter_of.ensures) (sym c.letter_of-2.ensures))
