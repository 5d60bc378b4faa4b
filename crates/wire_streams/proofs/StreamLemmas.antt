-- What a reader's calls read of its known bytes.
use Rattle.std.proofs.Common.{◌≡◌, ◌≤◌, ◌<◌, ℕ, List, [], ◌∷◌, ◌++◌, length, take, drop, Option, Some, None, inl, refl, sym, ap, ◌∙◌, arith}
use Rattle.std.proofs.lemmas.List.{length-take-le, take-append-drop}
use Rattle.byteorder.specs.Endian.{ReadsNumber, big_number, little_number}
use Rattle.wire_buf.specs.Numbers.{le_number}
use Rattle.wire_buf.specs.NumberLemmas.{little_from-is}
use Rattle.wire_buf.specs.Spelling.{IsBehind}
use Rattle.wire_buf.specs.Lenenc.{IsLenenc}
use Rattle.wire_streams.specs.Streams.{ConsumesSpelling}

-- one byte
first_byte : (old new : List ℕ) (byte : ℕ) → 1 ≤ length old → byte ≡ big_number 1 old
    → new ≡ drop 1 old → old ≡ byte ∷ new
first_byte [] new byte there value left = absurd (omega arith)
first_byte (x ∷ xs) new byte there value left =
    let same : byte ≡ x = omega (arith, value) in
    λ j. sym same j ∷ sym left j

-- is an integer below 251
pub reads_byte : (old new : Option (List ℕ)) (byte : ℕ) → ReadsNumber big_number 1 old new byte
    → byte < 251 → ConsumesSpelling IsLenenc old byte new
reads_byte None new byte read low = tt
reads_byte (Some xs) None byte read low = absurd read
reads_byte (Some xs) (Some ys) byte (there, value, left) low =
    (byte ∷ [], inl (refl, low), first_byte xs ys byte there value left)

-- and otherwise says how many bytes are after it
pub reads_behind : (first count : ℕ) (old mid new : Option (List ℕ)) (byte n : ℕ)
    → ReadsNumber big_number 1 old mid byte → byte ≡ first
    → ((n : ℕ) (bytes : List ℕ) → IsBehind first count n bytes → IsLenenc n bytes)
    → ReadsNumber little_number count mid new n → ConsumesSpelling IsLenenc old n new
reads_behind first count None mid new byte n read is form more = tt
reads_behind first count (Some xs) None new byte n read is form more = absurd read
reads_behind first count (Some xs) (Some ys) None byte n read is form more = absurd more
reads_behind first count (Some xs) (Some ys) (Some zs) byte n (one, at, behind) is form
    (there, value, left) =
    let spelled : n ≡ le_number (take count ys) = value ∙ little_from-is count ys there in
    let whole : xs ≡ first ∷ ys = first_byte xs ys byte one at behind ∙ ap (λ b. b ∷ ys) is in (
      first ∷ take count ys,
      form n (first ∷ take count ys) (take count ys, refl, length-take-le count ys there, spelled),
      whole ∙ ap (λ l. first ∷ l)
          (sym (ap (λ l. take count ys ++ l) left ∙ take-append-drop count ys)),
    )
