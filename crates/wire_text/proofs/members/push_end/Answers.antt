use Rattle.std.proofs.Common.{[], ◌∷◌, ◌++◌, ◌∙◌, arith, ap, refl, subst, sym, IsUtf8, List, ℕ}
use Rattle.std.proofs.lemmas.List.{take_all}
use Rattle.std.proofs.lemmas.Str.{IsUtf8-append}
use Rattle.wire_text.proofs.FieldLemmas.{plain_utf8, utf8_if}
use Rattle.wire_text.proofs.members.push_end.Goals as goal

pub push_few-requires : goal.push_few-requires
push_few-requires g c =
    let bytes = c.args.bytes.now in
    let filled = c.fill_to_quote.ensures ∙ ap (λ (z : List ℕ). z ++ 34 ∷ []) (take_all 32 bytes (omega (arith, c.requires.long))) in
    subst IsUtf8 (sym filled) (IsUtf8-append bytes (34 ∷ []) (plain_utf8 bytes c.requires.plain) (utf8_if (34 ∷ []) refl))

pub returns : goal.returns
returns g c =
    let bytes = c.args.bytes.now in
    let filled = c.fill_to_quote.ensures ∙ ap (λ (z : List ℕ). z ++ 34 ∷ []) (take_all 32 bytes (omega (arith, c.requires.long))) in
    rw (← filled) c.push_few.ensures
