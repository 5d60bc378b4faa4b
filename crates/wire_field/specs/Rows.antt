-- One of two values, and two values one after the other.
use Rattle.std.proofs.Common.{◌≡◌, ◌≤◌, ℕ, ◌+◌, List, ◌++◌, length, drop, sym, ap, ◌∙◌, arith, Result, Ok, Err, inl, inr, ◌⊎◌, subst}
use Rattle.std.proofs.lemmas.List.{drop_at, length-append, append_assoc}
use Rattle.wire_buf.specs.declared.error.WireError.{WireError}
use Rattle.wire_field.specs.declared.row.Either.{Either}
use Rattle.wire_field.specs.declared.row.Either.TheVariants.{Left, Right}
use Rattle.wire_repr.specs.Law.{ComesBack}

-- the first value is parsed, and then the second, in what the first left
abbrev pub ReadsBoth : {A B Y : Type 0} → (Y → A) → (Y → B)
    → (List ℕ → Result A WireError → ℕ → Type 0) → (List ℕ → Result B WireError → ℕ → Type 0)
    → List ℕ → Result Y WireError → ℕ → Type 0
ReadsBoth first second reads_first reads_second input (Ok both) eaten =
    (taken : ℕ) × (after : ℕ) × (taken ≤ length input) × reads_first input (Ok (first both)) taken
    × reads_second (drop taken input) (Ok (second both)) after × (eaten ≡ taken + after)
ReadsBoth {A = A} first second reads_first reads_second input (Err error) eaten =
    reads_first input (Err error) eaten ⊎ ((before : A) × (taken : ℕ) × (after : ℕ)
    × (taken ≤ length input) × reads_first input (Ok before) taken
    × reads_second (drop taken input) (Err error) after × (eaten ≡ taken + after))

-- the context's side is read
abbrev pub ReadsEither : {C D A B : Type 0} → (C → List ℕ → Result A WireError → ℕ → Type 0)
    → (D → List ℕ → Result B WireError → ℕ → Type 0) → Either C D → List ℕ
    → Result (Either A B) WireError → ℕ → Type 0
ReadsEither reads_left reads_right (Left ctx) input (Ok (Left left)) eaten =
    reads_left ctx input (Ok left) eaten
ReadsEither reads_left reads_right (Left ctx) input (Ok (Right right)) eaten = ⊥
ReadsEither reads_left reads_right (Left ctx) input (Err error) eaten =
    reads_left ctx input (Err error) eaten
ReadsEither reads_left reads_right (Right ctx) input (Ok (Left left)) eaten = ⊥
ReadsEither reads_left reads_right (Right ctx) input (Ok (Right right)) eaten =
    reads_right ctx input (Ok right) eaten
ReadsEither reads_left reads_right (Right ctx) input (Err error) eaten =
    reads_right ctx input (Err error) eaten

-- what one makes of the value, by its side
abbrev pub by_side : {A B X : Type 0} → (A → X) → (B → X) → Either A B → X
by_side of_left of_right (Left left) = of_left left
by_side of_left of_right (Right right) = of_right right

-- what is said of the value, by its side
abbrev pub OnSide : {A B : Type 0} → (A → Type 0) → (B → Type 0) → Either A B → Type 0
OnSide of_left of_right (Left left) = of_left left
OnSide of_left of_right (Right right) = of_right right

-- two of one side, of which this is said
abbrev pub SameSide : {A B C D : Type 0} → (A → C → Type 0) → (B → D → Type 0) → Either A B
    → Either C D → Type 0
SameSide of_left of_right (Left left) (Left other) = of_left left other
SameSide of_left of_right (Left left) (Right other) = ⊥
SameSide of_left of_right (Right right) (Left other) = ⊥
SameSide of_left of_right (Right right) (Right other) = of_right right other

abbrev pub IsLeft : {A B : Type 0} → Either A B → Type 0
IsLeft (Left left) = Unit {0}
IsLeft (Right right) = ⊥

abbrev pub IsRight : {A B : Type 0} → Either A B → Type 0
IsRight (Left left) = ⊥
IsRight (Right right) = Unit {0}

-- ---- lemmas

-- both values come back
pub both-back : {A B Y : Type 0} (first : Y → A) (second : Y → B)
    (reads_a : List ℕ → Result A WireError → ℕ → Type 0)
    (reads_b : List ℕ → Result B WireError → ℕ → Type 0)
    (kept_a : A → Type 0) (kept_b : B → Type 0) (memory_a memory_b : Type 0)
    (bytes_a bytes_b rest : List ℕ)
    → ((answer : Result A WireError) (eaten : ℕ)
    → reads_a (bytes_a ++ (bytes_b ++ rest)) answer eaten
    → ComesBack kept_a memory_a (length bytes_a) answer eaten)
    → ((answer : Result B WireError) (eaten : ℕ) → reads_b (bytes_b ++ rest) answer eaten
    → ComesBack kept_b memory_b (length bytes_b) answer eaten)
    → (answer : Result Y WireError) (eaten : ℕ)
    → ReadsBoth first second reads_a reads_b ((bytes_a ++ bytes_b) ++ rest) answer eaten
    → ComesBack (λ both. kept_a (first both) × kept_b (second both)) (memory_a ⊎ memory_b)
    (length (bytes_a ++ bytes_b)) answer eaten
both-back first second reads_a reads_b kept_a kept_b memory_a memory_b bytes_a bytes_b rest law_a
    law_b (Ok both) eaten (taken, after, fits, read_a, read_b, all) =
    let shape : (bytes_a ++ bytes_b) ++ rest ≡ bytes_a ++ (bytes_b ++ rest) =
    append_assoc bytes_a bytes_b rest in
    let back_a = law_a (Ok (first both)) taken
    (subst (λ input. reads_a input (Ok (first both)) taken) shape read_a) in
    let at : drop taken ((bytes_a ++ bytes_b) ++ rest) ≡ bytes_b ++ rest =
    ap (drop taken) shape ∙ drop_at bytes_a (bytes_b ++ rest) taken (sym back_a.1) in
    let back_b = law_b (Ok (second both)) after
    (subst (λ input. reads_b input (Ok (second both)) after) at read_b) in
    ((back_a.0, back_b.0), omega (arith, back_a.1, back_b.1, all, length-append bytes_a bytes_b))
both-back first second reads_a reads_b kept_a kept_b memory_a memory_b bytes_a bytes_b rest law_a
    law_b (Err error) eaten (inl read_a) =
    let shape : (bytes_a ++ bytes_b) ++ rest ≡ bytes_a ++ (bytes_b ++ rest) =
    append_assoc bytes_a bytes_b rest in
    let back_a = law_a (Err error) eaten
    (subst (λ input. reads_a input (Err error) eaten) shape read_a) in
    (back_a.0, inl back_a.1)
both-back first second reads_a reads_b kept_a kept_b memory_a memory_b bytes_a bytes_b rest law_a
    law_b (Err error) eaten (inr (before, taken, after, fits, read_a, read_b, all)) =
    let shape : (bytes_a ++ bytes_b) ++ rest ≡ bytes_a ++ (bytes_b ++ rest) =
    append_assoc bytes_a bytes_b rest in
    let back_a = law_a (Ok before) taken
    (subst (λ input. reads_a input (Ok before) taken) shape read_a) in
    let at : drop taken ((bytes_a ++ bytes_b) ++ rest) ≡ bytes_b ++ rest =
    ap (drop taken) shape ∙ drop_at bytes_a (bytes_b ++ rest) taken (sym back_a.1) in
    let back_b = law_b (Err error) after
    (subst (λ input. reads_b input (Err error) after) at read_b) in
    (back_b.0, inr back_b.1)

-- the value of the context's side comes back
pub either-back : {C D A B : Type 0} (reads_a : C → List ℕ → Result A WireError → ℕ → Type 0)
    (reads_b : D → List ℕ → Result B WireError → ℕ → Type 0)
    (is_a : A → Type 0) (is_b : B → Type 0) (good_a : C → A → Type 0) (good_b : D → B → Type 0)
    (kept_a : A → A → Type 0) (kept_b : B → B → Type 0) (memory_a memory_b : Type 0)
    (bytes_a : A → List ℕ) (bytes_b : B → List ℕ) (rest : List ℕ)
    → ((ctx : C) (left : A) (answer : Result A WireError) (eaten : ℕ) → is_a left → good_a ctx left
    → reads_a ctx (bytes_a left ++ rest) answer eaten
    → ComesBack (kept_a left) memory_a (length (bytes_a left)) answer eaten)
    → ((ctx : D) (right : B) (answer : Result B WireError) (eaten : ℕ) → is_b right
    → good_b ctx right → reads_b ctx (bytes_b right ++ rest) answer eaten
    → ComesBack (kept_b right) memory_b (length (bytes_b right)) answer eaten)
    → (ctx : Either C D) (either : Either A B) (answer : Result (Either A B) WireError) (eaten : ℕ)
    → OnSide is_a is_b either → SameSide good_a good_b ctx either
    → ReadsEither reads_a reads_b ctx (by_side bytes_a bytes_b either ++ rest) answer eaten
    → ComesBack (SameSide kept_a kept_b either) (memory_a ⊎ memory_b)
    (length (by_side bytes_a bytes_b either)) answer eaten
either-back reads_a reads_b is_a is_b good_a good_b kept_a kept_b memory_a memory_b bytes_a bytes_b
    rest law_a law_b (Left ctx) (Left left) (Ok (Left answered)) eaten value good read =
    law_a ctx left (Ok answered) eaten value good read
either-back reads_a reads_b is_a is_b good_a good_b kept_a kept_b memory_a memory_b bytes_a bytes_b
    rest law_a law_b (Left ctx) (Left left) (Ok (Right answered)) eaten value good read =
    absurd read
either-back reads_a reads_b is_a is_b good_a good_b kept_a kept_b memory_a memory_b bytes_a bytes_b
    rest law_a law_b (Left ctx) (Left left) (Err error) eaten value good read =
    let back = law_a ctx left (Err error) eaten value good read in
    (back.0, inl back.1)
either-back reads_a reads_b is_a is_b good_a good_b kept_a kept_b memory_a memory_b bytes_a bytes_b
    rest law_a law_b (Left ctx) (Right right) answer eaten value good read = absurd good
either-back reads_a reads_b is_a is_b good_a good_b kept_a kept_b memory_a memory_b bytes_a bytes_b
    rest law_a law_b (Right ctx) (Left left) answer eaten value good read = absurd good
either-back reads_a reads_b is_a is_b good_a good_b kept_a kept_b memory_a memory_b bytes_a bytes_b
    rest law_a law_b (Right ctx) (Right right) (Ok (Left answered)) eaten value good read =
    absurd read
either-back reads_a reads_b is_a is_b good_a good_b kept_a kept_b memory_a memory_b bytes_a bytes_b
    rest law_a law_b (Right ctx) (Right right) (Ok (Right answered)) eaten value good read =
    law_b ctx right (Ok answered) eaten value good read
either-back reads_a reads_b is_a is_b good_a good_b kept_a kept_b memory_a memory_b bytes_a bytes_b
    rest law_a law_b (Right ctx) (Right right) (Err error) eaten value good read =
    let back = law_b ctx right (Err error) eaten value good read in
    (back.0, inr back.1)
