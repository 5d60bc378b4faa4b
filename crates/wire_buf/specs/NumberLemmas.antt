-- What was written as a number reads back, for every width.
use Rattle.std.proofs.Common.{◌≡◌, ◌≤◌, ◌<◌, ℕ, zero, suc, ◌+◌, ◌*◌, ◌/◌, ◌%◌, ◌^◌, List, [], ◌∷◌, ◌++◌, length, take, reverse, refl, sym, ap, ◌∙◌, arith}
use Rattle.std.proofs.lemmas.List.{take_all, append-nil, reverse-reverse}
use Rattle.std.proofs.Math.Nat.{pow-suc, pow-succ', div-div-eq-div-mul, div-one, mod-eq_of_lt}
use Rattle.std.specs.Int.{byte_at, bytes_low_first}
use Rattle.byteorder.specs.Endian.{little_from}
use Rattle.byteorder.specs.Numbers.{little_from-cons, little_from-bytes}
use Rattle.wire_buf.specs.Numbers.{le_number, le_bytes, be_number, IsBytes}

-- there are as many bytes as asked for
pub length-le_bytes : (count n : ℕ) → length (le_bytes count n) ≡ count
length-le_bytes zero n = refl
length-le_bytes (suc count) n = let more = length-le_bytes count (n / 256) in omega arith

-- a byte of a number, by its place
byte_at-pow : (place n : ℕ) → byte_at place n ≡ n / 256 ^ place % 256
byte_at-pow zero n = ap (λ (m : ℕ). m % 256) (sym (div-one n))
byte_at-pow (suc place) n = refl

bytes_low_first-from : (place count n : ℕ)
    → bytes_low_first place count n ≡ le_bytes count (n / 256 ^ place)
bytes_low_first-from place zero n = refl
bytes_low_first-from place (suc count) n =
    let more = bytes_low_first-from (suc place) count n in
    let shift : n / 256 ^ suc place ≡ n / 256 ^ place / 256 =
    ap (λ p. n / p) (pow-suc 256 place) ∙ sym (div-div-eq-div-mul n (256 ^ place) 256) in
    rw (byte_at-pow place n, more, shift) refl

-- the bytes that std writes are these
pub bytes_low_first-is : (count n : ℕ) → bytes_low_first 0 count n ≡ le_bytes count n
bytes_low_first-is count n = bytes_low_first-from 0 count n ∙ ap (le_bytes count) (div-one n)

-- the number that `byteorder` reads is this one
pub little_from-is : (count : ℕ) (bytes : List ℕ) → count ≤ length bytes
    → little_from 0 count bytes ≡ le_number (take count bytes)
little_from-is zero bytes h = refl
little_from-is (suc count) [] h = absurd (omega arith)
little_from-is (suc count) (byte ∷ bytes) h =
    let moved = little_from-cons 0 count byte bytes in
    let more = little_from-is count bytes (omega arith) in
    rw (moved, more) refl

-- a number reads back up to its width
pub le_number-le_bytes : (count n : ℕ) → le_number (le_bytes count n) ≡ n % 256 ^ count
le_number-le_bytes count n =
    let len = length-le_bytes count n in
    let whole : le_number (take count (le_bytes count n)) ≡ le_number (le_bytes count n) =
    ap le_number (take_all count (le_bytes count n) (omega (arith, len))) in
    let read = little_from-is count (le_bytes count n) (omega (arith, len)) in
    let spelled : bytes_low_first 0 count n ++ [] ≡ le_bytes count n =
    append-nil (bytes_low_first 0 count n) ∙ bytes_low_first-is count n in
    sym whole ∙ sym read ∙ sym (ap (little_from 0 count) spelled) ∙ little_from-bytes count 0 n []
    ∙ ap (λ m. m % 256 ^ count) (div-one n)

-- a number that fits reads back
pub le_number-le_bytes_fits : (count n : ℕ) → n < 256 ^ count → le_number (le_bytes count n) ≡ n
le_number-le_bytes_fits count n fits = le_number-le_bytes count n ∙ mod-eq_of_lt fits

-- the same for the most significant byte first
pub be_number-reverse : (bytes : List ℕ) → be_number (reverse bytes) ≡ le_number bytes
be_number-reverse bytes = ap le_number (reverse-reverse bytes)

-- a number of this many bytes fits them
pub le_number-lt : (bytes : List ℕ) → IsBytes bytes → le_number bytes < 256 ^ length bytes
le_number-lt [] are = omega arith
le_number-lt (byte ∷ bytes) are =
    let more = le_number-lt bytes (λ i. are (suc i)) in
    let first = are 0 in
    rw (pow-succ' 256 (length bytes)) (omega arith)

-- bytes are those of their number
pub le_bytes-le_number : (bytes : List ℕ) → IsBytes bytes
    → le_bytes (length bytes) (le_number bytes) ≡ bytes
le_bytes-le_number [] are = refl
le_bytes-le_number (byte ∷ bytes) are =
    let more = le_bytes-le_number bytes (λ i. are (suc i)) in
    let first = are 0 in
    let low : (byte + 256 * le_number bytes) % 256 ≡ byte = omega arith in
    let high : (byte + 256 * le_number bytes) / 256 ≡ le_number bytes = omega arith in
    rw (low, high, more) refl

-- what is written are bytes
pub IsBytes-nil : IsBytes []
IsBytes-nil i = omega arith

pub IsBytes-cons : (byte : ℕ) (bytes : List ℕ) → byte < 256 → IsBytes bytes → IsBytes (byte ∷ bytes)
IsBytes-cons byte bytes low are zero = low
IsBytes-cons byte bytes low are (suc i) = are i

pub IsBytes-le_bytes : (count n : ℕ) → IsBytes (le_bytes count n)
IsBytes-le_bytes zero n = IsBytes-nil
IsBytes-le_bytes (suc count) n =
    IsBytes-cons (n % 256) (le_bytes count (n / 256)) (omega arith)
    (IsBytes-le_bytes count (n / 256))

-- the low bytes of more
pub take-le_bytes : (count more n : ℕ) → count ≤ more
    → take count (le_bytes more n) ≡ le_bytes count n
take-le_bytes zero more n h = refl
take-le_bytes (suc count) zero n h = absurd (omega arith)
take-le_bytes (suc count) (suc more) n h =
    ap (λ l. n % 256 ∷ l) (take-le_bytes count more (n / 256) (omega arith))
