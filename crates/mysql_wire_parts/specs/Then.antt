-- Fields that the fields before them decide on.
use Rattle.std.specs.Prelude.{ℕ, ◌≡◌, ◌≤◌, ◌+◌, ◌⊎◌, List, ◌++◌, length, drop, Result, Ok, Err}
use Rattle.std.proofs.Common.{inl, inr, sym, ap, subst, ◌∙◌, arith}
use Rattle.std.proofs.lemmas.List.{drop_at, drop-drop, length-drop, length-append, append_assoc}
use Rattle.wire_buf.specs.declared.error.WireError.{WireError}
use Rattle.wire_repr.specs.Law.{ComesBack}
use Rattle.mysql_wire_parts.specs.InOrder.{Back}

-- the first fields are read, and then, as they say, the second in what the first left
abbrev pub ReadsThen : {A B Y : Type 0} → (Y → A) → (Y → B)
    → (List ℕ → Result A WireError → ℕ → Type 0) → (A → List ℕ → Result B WireError → ℕ → Type 0)
    → List ℕ → Result Y WireError → ℕ → Type 0
ReadsThen first second reads_first reads_second input (Ok packet) eaten =
    (taken : ℕ) × (after : ℕ) × (taken ≤ length input)
    × reads_first input (Ok (first packet)) taken
    × reads_second (first packet) (drop taken input) (Ok (second packet)) after
    × (eaten ≡ taken + after)
ReadsThen {A = A} first second reads_first reads_second input (Err error) eaten =
    reads_first input (Err error) eaten ⊎ ((before : A) × (taken : ℕ) × (after : ℕ)
    × (taken ≤ length input) × reads_first input (Ok before) taken
    × reads_second before (drop taken input) (Err error) after × (eaten ≡ taken + after))

-- ---- lemmas

-- what two readers in a row have eaten
pub both_eaten : (old mid new : List ℕ) (taken after : ℕ) → taken ≤ length old
    → mid ≡ drop taken old → after ≤ length mid → new ≡ drop after mid
    → (taken + after ≤ length old) × (new ≡ drop (taken + after) old)
both_eaten old mid new taken after there left more end =
    let behind = ap length left ∙ length-drop taken old in (
      omega (arith, there, more, behind),
      end ∙ ap (drop after) left ∙ drop-drop after taken old,
    )

-- both come back, where the second do under each first that may come back
pub then_back : {A B Y : Type 0} {kept_first : A → Type 0} {rest : List ℕ}
    (first : Y → A) (second : Y → B) (reads_first : List ℕ → Result A WireError → ℕ → Type 0)
    (reads_second : A → List ℕ → Result B WireError → ℕ → Type 0)
    (bytes_first bytes_second : List ℕ) (kept_second : B → Type 0) (kept : Y → Type 0)
    → ((packet : Y) → kept_first (first packet) → kept_second (second packet) → kept packet)
    → Back reads_first kept_first bytes_first (bytes_second ++ rest)
    → ((before : A) → kept_first before
    → Back (reads_second before) kept_second bytes_second rest)
    → (answer : Result Y WireError) (eaten : ℕ)
    → ReadsThen first second reads_first reads_second ((bytes_first ++ bytes_second) ++ rest) answer
    eaten
    → ComesBack kept ⊥ (length (bytes_first ++ bytes_second)) answer eaten
then_back {rest = rest} first second reads_first reads_second front more kept_second kept follows
    back law (Ok packet) eaten
    (taken, after, there, read, next, all) =
    let shape = append_assoc front more rest in
    let came = back.law (Ok (first packet)) taken
    (subst (λ input. reads_first input (Ok (first packet)) taken) shape read) in
    let at : drop taken ((front ++ more) ++ rest) ≡ more ++ rest = ap (drop taken) shape
    ∙ drop_at front (more ++ rest) taken (sym came.1) in
    let then = (law (first packet) came.0).law (Ok (second packet)) after
    (subst (λ input. reads_second (first packet) input (Ok (second packet)) after) at next) in (
      follows packet came.0 then.0,
      omega (arith, came.1, then.1, all, length-append front more),
    )
then_back {rest = rest} first second reads_first reads_second front more kept_second kept follows
    back law (Err error) eaten (inl read) =
    back.law (Err error) eaten (subst (λ input. reads_first input (Err error) eaten)
    (append_assoc front more rest) read)
then_back {rest = rest} first second reads_first reads_second front more kept_second kept follows
    back law (Err error) eaten
    (inr (before, taken, after, there, read, next, all)) =
    let shape = append_assoc front more rest in
    let came = back.law (Ok before) taken
    (subst (λ input. reads_first input (Ok before) taken) shape read) in
    let at : drop taken ((front ++ more) ++ rest) ≡ more ++ rest = ap (drop taken) shape
    ∙ drop_at front (more ++ rest) taken (sym came.1) in
    (law before came.0).law (Err error) after
    (subst (λ input. reads_second before input (Err error) after) at next)
