-- Numbers in so many digits, zeros in front.
use Rattle.std.proofs.Common.{◌≡◌, ◌∙◌, ℕ, zero, suc, ◌+◌, ◌-◌, ◌/◌, ◌%◌, ◌^◌, ◌<◌, ◌≤◌, List, [], ◌∷◌, ◌++◌, length, replicate, refl, sym, ap, ap₂, append_assoc, append-nil, arith, inl, inr, Result, Ok, Err, if◌then◌else◌}
use Rattle.std.proofs.lemmas.Bool.{cases_lt, eqb-true}
use Rattle.wire_text.proofs.FieldLemmas.{is_false}
use Rattle.std.proofs.lemmas.Fmt.{decimal_digit, decimal_step}
use Rattle.std.proofs.lemmas.List.{length-append}
use Rattle.std.specs.Fmt.{char_count, decimal, padded_integral}
use Rattle.std.specs.Prelude.{◌==◌, OnOk, codes}
use Rattle.std.specs.Result.{is_ok}
use Rattle.mysql_wire_dump_lines.specs.TemporalTexts.{zeros}

abbrev noughts : ℕ → List ℕ
noughts n = replicate n 48

abbrev padded : ℕ → List ℕ → List ℕ
padded width digits = noughts (width - length digits) ++ digits

zeros_are : (width number : ℕ) → zeros width number ≡ padded width (decimal number)
unfolding padded_integral char_count
zeros_are width number =
    let digits = decimal number in
    let same : width - length digits - 0 - 0 ≡ width - length digits = omega arith in
    simp append-nil (ap (λ (n : ℕ). noughts n ++ digits) same)

more_zeros : (n : ℕ) → noughts (suc n) ≡ noughts n ++ 48 ∷ []
more_zeros zero = refl
more_zeros (suc n) = ap (λ (z : List ℕ). 48 ∷ z) (more_zeros n)

-- one digit more
one_more : (width number : ℕ) → number < 2 ^ 64 → padded (suc (suc width)) (decimal number) ≡ padded (suc width) (decimal (number / 10)) ++ (48 + number % 10) ∷ []
one_more width number below = elim (cases_lt number 10) [
  | inl one ↦ (
      let here : number % 10 ≡ number = omega (arith, one) in
      let none : number / 10 ≡ 0 = omega (arith, one) in
      let all : suc (suc width) - 1 ≡ suc width = omega arith in
      let others : suc width - 1 ≡ width = omega arith in
      rw (decimal_digit number one, here, none, decimal_digit 0 (omega arith), all, others) (ap (λ (z : List ℕ). z ++ (48 + number) ∷ []) (more_zeros width)))
  | inr more ↦ (
      let front = decimal (number / 10) in
      let same : suc (suc width) - (length front + 1) ≡ suc width - length front = omega arith in
      rw (decimal_step number more below, length-append front ((48 + number % 10) ∷ []), same) (sym (append_assoc (noughts (suc width - length front)) front ((48 + number % 10) ∷ []))))
]

one_digit : (number : ℕ) → number < 10 → padded 1 (decimal number) ≡ (48 + number) ∷ []
one_digit number small = rw (decimal_digit number small) refl

pub zeros_two : (number : ℕ) → number < 100 → zeros 2 number ≡ (48 + number / 10) ∷ (48 + number % 10) ∷ []
zeros_two number small =
    zeros_are 2 number ∙ one_more 0 number (omega (arith, small)) ∙ ap (λ (z : List ℕ). z ++ (48 + number % 10) ∷ []) (one_digit (number / 10) (omega (arith, small)))

-- a number of more digits
pub zeros_past_two : (number : ℕ) → 100 ≤ number → number < 2 ^ 64 → zeros 2 number ≡ decimal number
zeros_past_two number many below =
    let last = decimal_step number (omega (arith, many)) below in
    let others = decimal_step (number / 10) (omega (arith, many)) (omega (arith, below)) in
    let long : 2 ≤ length (decimal number) =
    omega (arith, ap length last, length-append (decimal (number / 10)) ((48 + number % 10) ∷ []), ap length others, length-append (decimal (number / 10 / 10)) ((48 + number / 10 % 10) ∷ [])) in
    let none : 2 - length (decimal number) ≡ 0 = omega (arith, long) in
    zeros_are 2 number ∙ ap (λ (n : ℕ). noughts n ++ decimal number) none

three : (number : ℕ) → number < 1000 → padded 3 (decimal number) ≡ (48 + number / 100) ∷ (48 + number / 10 % 10) ∷ (48 + number % 10) ∷ []
three number small =
    let tens : number / 10 / 10 ≡ number / 100 = omega arith in
    one_more 1 number (omega (arith, small)) ∙ ap (λ (z : List ℕ). z ++ (48 + number % 10) ∷ []) (sym (zeros_are 2 (number / 10)) ∙ zeros_two (number / 10) (omega (arith, small)))
    ∙ ap (λ (n : ℕ). (48 + n) ∷ (48 + number / 10 % 10) ∷ (48 + number % 10) ∷ []) tens

pub zeros_four : (number : ℕ) → number < 10000 → zeros 4 number ≡ (48 + number / 1000) ∷ (48 + number / 100 % 10) ∷ (48 + number / 10 % 10) ∷ (48 + number % 10) ∷ []
zeros_four number small =
    let tens : number / 10 / 10 ≡ number / 100 = omega arith in
    let hundreds : number / 10 / 100 ≡ number / 1000 = omega arith in
    zeros_are 4 number ∙ one_more 2 number (omega (arith, small)) ∙ ap (λ (z : List ℕ). z ++ (48 + number % 10) ∷ []) (three (number / 10) (omega (arith, small)))
    ∙ ap₂ (λ (a b : ℕ). (48 + a) ∷ (48 + b % 10) ∷ (48 + number / 10 % 10) ∷ (48 + number % 10) ∷ []) hundreds tens

five : (number : ℕ) → number < 100000
    → padded 5 (decimal number) ≡ (48 + number / 10000) ∷ (48 + number / 1000 % 10) ∷ (48 + number / 100 % 10) ∷ (48 + number / 10 % 10) ∷ (48 + number % 10) ∷ []
five number small =
    let tens : number / 10 / 10 ≡ number / 100 = omega arith in
    let hundreds : number / 10 / 100 ≡ number / 1000 = omega arith in
    let thousands : number / 10 / 1000 ≡ number / 10000 = omega arith in
    one_more 3 number (omega (arith, small)) ∙ ap (λ (z : List ℕ). z ++ (48 + number % 10) ∷ []) (sym (zeros_are 4 (number / 10)) ∙ zeros_four (number / 10) (omega (arith, small)))
    ∙ ap₂ (λ (a b : ℕ). (48 + a) ∷ (48 + b % 10) ∷ (48 + number / 10 / 10 % 10) ∷ (48 + number / 10 % 10) ∷ (48 + number % 10) ∷ []) thousands hundreds
    ∙ ap (λ (n : ℕ). (48 + number / 10000) ∷ (48 + number / 1000 % 10) ∷ (48 + n % 10) ∷ (48 + number / 10 % 10) ∷ (48 + number % 10) ∷ []) tens

pub zeros_six : (number : ℕ) → number < 1000000
    → zeros 6 number ≡ (48 + number / 100000) ∷ (48 + number / 10000 % 10) ∷ (48 + number / 1000 % 10) ∷ (48 + number / 100 % 10) ∷ (48 + number / 10 % 10) ∷ (48 + number % 10) ∷ []
zeros_six number small =
    let tens : number / 10 / 10 ≡ number / 100 = omega arith in
    let hundreds : number / 10 / 100 ≡ number / 1000 = omega arith in
    let thousands : number / 10 / 1000 ≡ number / 10000 = omega arith in
    let others : number / 10 / 10000 ≡ number / 100000 = omega arith in
    zeros_are 6 number ∙ one_more 4 number (omega (arith, small)) ∙ ap (λ (z : List ℕ). z ++ (48 + number % 10) ∷ []) (five (number / 10) (omega (arith, small)))
    ∙ ap₂ (λ (a b : ℕ). (48 + a) ∷ (48 + b % 10) ∷ (48 + number / 10 / 100 % 10) ∷ (48 + number / 10 / 10 % 10) ∷ (48 + number / 10 % 10) ∷ (48 + number % 10) ∷ []) others thousands
    ∙ ap₂ (λ (a b : ℕ). (48 + number / 100000) ∷ (48 + number / 10000 % 10) ∷ (48 + a % 10) ∷ (48 + b % 10) ∷ (48 + number / 10 % 10) ∷ (48 + number % 10) ∷ []) hundreds tens

-- a word that was appended
pub pushed : {T E : Type 0} (result : Result T E) (old new word : List ℕ) → new ≡ (if is_ok result then old ++ word else old) → OnOk result (new ≡ old ++ word)
pushed (Ok done) old new word is = is
pushed (Err error) old new word is = tt

-- a part, and then a mark and one more
pub pushed_behind : {T E : Type 0} (result : Result T E) (old between new part mark more : List ℕ) → between ≡ old ++ part
    → OnOk result (new ≡ between ++ (mark ++ more)) → OnOk result (new ≡ old ++ (part ++ mark ++ more))
pushed_behind (Ok done) old between new part mark more first is =
    is ∙ ap (λ (z : List ℕ). z ++ (mark ++ more)) first ∙ append_assoc old part (mark ++ more) ∙ ap (λ (z : List ℕ). old ++ z) (sym (append_assoc part mark more))
pushed_behind (Err error) old between new part mark more first is = tt

-- the same, the mark by a call of its own
pub pushed_three : {T E : Type 0} (result : Result T E) (old one two new part mark more : List ℕ) → one ≡ old ++ part → two ≡ one ++ mark
    → OnOk result (new ≡ two ++ more) → OnOk result (new ≡ old ++ (part ++ mark ++ more))
pushed_three (Ok done) old one two new part mark more first second is =
    is ∙ ap (λ (z : List ℕ). z ++ more) (second ∙ ap (λ (z : List ℕ). z ++ mark) first ∙ append_assoc old part mark) ∙ append_assoc old (part ++ mark) more
pushed_three (Err error) old one two new part mark more first second is = tt

-- hours, with a sign in front where the span has one
pub pushed_signed : {T E : Type 0} (result : Result T E) (sign : ℕ) (old mark between new hours : List ℕ) → sign ≡ 1 → mark ≡ old ++ codes "-" → between ≡ mark
    → OnOk result (new ≡ between ++ hours) → OnOk result (new ≡ old ++ ((if sign == 1 then codes "-" else []) ++ hours))
pushed_signed (Ok done) sign old mark between new hours negative first same is =
    rw negative (is ∙ ap (λ (z : List ℕ). z ++ hours) (same ∙ first) ∙ append_assoc old (codes "-") hours)
pushed_signed (Err error) sign old mark between new hours negative first same is = tt

pub pushed_unsigned : {T E : Type 0} (result : Result T E) (sign : ℕ) (old new hours : List ℕ) → (sign ≡ 1 → ⊥)
    → OnOk result (new ≡ old ++ hours) → OnOk result (new ≡ old ++ ((if sign == 1 then codes "-" else []) ++ hours))
pushed_unsigned (Ok done) sign old new hours positive is = rw (is_false (sign == 1) (λ same. positive (eqb-true sign 1 same))) is
pushed_unsigned (Err error) sign old new hours positive is = tt
