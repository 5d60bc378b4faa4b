-- A text after its length, in two puts.
use Rattle.std.proofs.Common.{◌≡◌, ℕ, ◌+◌, ◌<◌, ◌≤◌, List, ◌++◌, length, Result, Err, refl, sym, ap, ◌∙◌, subst, arith, inl, inr, append_assoc}
use Rattle.std.proofs.lemmas.List.{length-append}
use Rattle.wire_buf.specs.declared.error.WireError.{WireError}
use Rattle.wire_buf.specs.declared.error.WireError.TheVariants.{OutOfMemory}
use Rattle.wire_ext.specs.Texts.{PutsText}

pub length_refused : {X : Type 0} (result : Result X WireError) (old new : List ℕ) (room : ℕ) (spelling text : List ℕ)
    → result ≡ Err OutOfMemory → room < length spelling → new ≡ old → PutsText result old new room spelling text
length_refused {X} result old new room spelling text is short same =
    let long = length-append spelling text in
    subst (λ (r : Result X WireError). PutsText r old new room spelling text) (sym is) (refl, omega (arith, long, short), inl same)

pub text_refused : {X : Type 0} (result : Result X WireError) (old mid new : List ℕ) (room left : ℕ) (spelling text : List ℕ)
    → result ≡ Err OutOfMemory → mid ≡ old ++ spelling → room ≤ left + length spelling → left < length text → new ≡ mid
    → PutsText result old new room spelling text
text_refused {X} result old mid new room left spelling text is first used short same =
    let long = length-append spelling text in
    subst (λ (r : Result X WireError). PutsText r old new room spelling text) (sym is) (refl, omega (arith, long, used, short), inr (same ∙ first))

pub text_put : (old mid new spelling text : List ℕ) → mid ≡ old ++ spelling → new ≡ mid ++ text → new ≡ old ++ (spelling ++ text)
text_put old mid new spelling text first second = second ∙ ap (λ (z : List ℕ). z ++ text) first ∙ append_assoc old spelling text

pub spare_put : (old mid new : ℕ) (spelling text : List ℕ) → old ≤ mid + length spelling → mid ≤ new + length text → old ≤ new + length (spelling ++ text)
spare_put old mid new spelling text first second = let long = length-append spelling text in omega (arith, long, first, second)
