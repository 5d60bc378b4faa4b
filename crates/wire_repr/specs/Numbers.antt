-- Numbers of a fixed size are read back.
use Rattle.std.specs.Prelude.{ℕ, ℤ, ◌≡◌, ◌<◌, ◌-◌, ◌*◌, ◌/◌, ◌%◌, ◌^◌, List, [], ◌∷◌, ◌++◌, length, Result, Ok}
use Rattle.std.proofs.Common.{refl, ap, ◌∙◌, arith}
use Rattle.wire_buf.specs.declared.error.WireError.{WireError}
use Rattle.wire_buf.specs.Numbers.{le_number, le_bytes, signed_number, signed_le_number}
use Rattle.wire_buf.specs.NumberLemmas.{length-le_bytes, le_number-le_bytes, le_number-le_bytes_fits}
use Rattle.wire_buf.specs.Reading.{Answers}
use Rattle.wire_repr.specs.Law.{ReadsFixed, ReadsFixed-back}

-- a number of this many bytes that fits them
pub le_bytes-back : (count n : ℕ) (rest : List ℕ) → n < 256 ^ count
    → (answer : Result ℕ WireError) (eaten : ℕ)
    → ReadsFixed count le_number (le_bytes count n ++ rest) answer eaten
    → Answers (Ok n, length (le_bytes count n)) answer eaten
le_bytes-back count n rest fits =
    ReadsFixed-back count le_number (le_bytes count n) rest n (length-le_bytes count n)
    (le_number-le_bytes_fits count n fits)

-- and one that is cut to them
pub le_bytes-back_cut : (count n : ℕ) (rest : List ℕ)
    → (answer : Result ℕ WireError) (eaten : ℕ)
    → ReadsFixed count le_number (le_bytes count n ++ rest) answer eaten
    → Answers (Ok (n % 256 ^ count), length (le_bytes count n)) answer eaten
le_bytes-back_cut count n rest =
    ReadsFixed-back count le_number (le_bytes count n) rest (n % 256 ^ count)
    (length-le_bytes count n) (le_number-le_bytes count n)

-- a signed number that is cut
pub signed_bytes-back_cut : (count n : ℕ) (rest : List ℕ)
    → (answer : Result ℤ WireError) (eaten : ℕ)
    → ReadsFixed count (signed_le_number count) (le_bytes count n ++ rest) answer eaten
    → Answers (Ok (signed_number count (n % 256 ^ count)), length (le_bytes count n)) answer eaten
signed_bytes-back_cut count n rest =
    ReadsFixed-back count (signed_le_number count) (le_bytes count n) rest
    (signed_number count (n % 256 ^ count)) (length-le_bytes count n)
    (ap (signed_number count) (le_number-le_bytes count n))

-- and one that fits
pub signed_bytes-back : (count n : ℕ) (z : ℤ) (rest : List ℕ) → n < 256 ^ count
    → signed_number count n ≡ z
    → (answer : Result ℤ WireError) (eaten : ℕ)
    → ReadsFixed count (signed_le_number count) (le_bytes count n ++ rest) answer eaten
    → Answers (Ok z, length (le_bytes count n)) answer eaten
signed_bytes-back count n z rest fits is =
    ReadsFixed-back count (signed_le_number count) (le_bytes count n) rest z
    (length-le_bytes count n) (ap (signed_number count) (le_number-le_bytes_fits count n fits)
    ∙ is)

-- the upper half
pub upper_half-back : (v : ℕ) (rest : List ℕ) → v < 2 ^ 32
    → (answer : Result ℕ WireError) (eaten : ℕ)
    → ReadsFixed 2 (λ bytes. 65536 * le_number bytes) (le_bytes 2 (v / 65536) ++ rest) answer eaten
    → Answers (Ok (v - v % 65536), length (le_bytes 2 (v / 65536))) answer eaten
upper_half-back v rest fits =
    let half : le_number (le_bytes 2 (v / 65536)) ≡ v / 65536 =
    le_number-le_bytes_fits 2 (v / 65536) (omega arith) in
    let is : 65536 * le_number (le_bytes 2 (v / 65536)) ≡ v - v % 65536 = omega (arith, half) in
    ReadsFixed-back 2 (λ bytes. 65536 * le_number bytes) (le_bytes 2 (v / 65536)) rest
    (v - v % 65536) (length-le_bytes 2 (v / 65536)) is

-- one byte
pub byte-back : (byte : ℕ) (rest : List ℕ)
    → (answer : Result ℕ WireError) (eaten : ℕ)
    → ReadsFixed 1 le_number (byte ∷ [] ++ rest) answer eaten
    → Answers (Ok byte, length (byte ∷ [])) answer eaten
byte-back byte rest = ReadsFixed-back 1 le_number (byte ∷ []) rest byte refl (omega arith)
