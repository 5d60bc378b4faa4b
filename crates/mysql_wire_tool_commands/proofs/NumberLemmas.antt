-- A word's number, as `parse` reads it.
use Rattle.std.proofs.Common.{◌≡◌, ◌==◌, false, ◌^◌, ◌<◌, ℕ, List, slice_index, cond, drop, Result, Ok, Err, OkIff, subst}
use Rattle.std.specs.Str.Parse.{IsNumeral, ParsesUnsigned, digits_value}

-- without a plus in front all of the word is read
read_whole : (E : Type 0) (word : List ℕ) (result : Result ℕ E) → (slice_index word 0 == 43) ≡ false → ParsesUnsigned 64 10 word result → OkIff result (IsNumeral 10 word × (digits_value 10 word < 2 ^ 64)) (digits_value 10 word)
read_whole E word result plain read =
    subst (λ b. OkIff result (IsNumeral 10 (drop (cond b 1 0) word) × (digits_value 10 (drop (cond b 1 0) word) < 2 ^ 64)) (digits_value 10 (drop (cond b 1 0) word))) plain read

-- what is read of it
pub read_number : {E : Type 0} (word : List ℕ) (result : Result ℕ E) (number : ℕ) → (slice_index word 0 == 43) ≡ false → ParsesUnsigned 64 10 word result → result ≡ Ok number → IsNumeral 10 word × (number ≡ digits_value 10 word)
read_number {E} word result number plain read is =
    let known = subst (λ r. OkIff r (IsNumeral 10 word × (digits_value 10 word < 2 ^ 64)) (digits_value 10 word)) is (read_whole E word result plain read) in (known.0.0, known.1)

-- and a word that is not read is no number
pub no_number : {E : Type 0} (word : List ℕ) (result : Result ℕ E) (error : E) → (slice_index word 0 == 43) ≡ false → ParsesUnsigned 64 10 word result → result ≡ Err error → ¬ (IsNumeral 10 word × (digits_value 10 word < 2 ^ 64))
no_number {E} word result error plain read is =
    subst (λ r. OkIff r (IsNumeral 10 word × (digits_value 10 word < 2 ^ 64)) (digits_value 10 word)) is (read_whole E word result plain read)
