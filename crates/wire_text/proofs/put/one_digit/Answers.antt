use Rattle.std.proofs.Common.{◌∙◌, ℕ, [], ◌∷◌, ap, arith, sym}
use Rattle.std.proofs.lemmas.Fmt.{decimal_digit}
use Rattle.wire_text.proofs.FieldLemmas.{decimal_utf8}
use Rattle.wire_text.proofs.put.one_digit.Goals as goal

pub returns-clause-is : goal.returns-clause-is
returns-clause-is c =
    ap (λ (d : ℕ). d ∷ []) c.letter_of.ensures ∙ sym (decimal_digit c.args.number (omega (arith, c.requires)))

pub returns-clause-utf8 : goal.returns-clause-utf8
returns-clause-utf8 c =
    decimal_utf8 c.args.number (c.letter_of.result ∷ [])
    (decimal_digit c.args.number (omega (arith, c.requires)) ∙ ap (λ (d : ℕ). d ∷ []) (sym c.letter_of.ensures))
