-- Places that are filled with vectors.
use Rattle.std.proofs.Common.{◌≡◌, ◌+◌, ℕ, List, [], ◌∷◌, ◌++◌, refl, ap, arith, length}
use lib.Lanes.{put_chunk}
use lib.ListN.{set}

put_all : (place bytes : List ℕ) → length place ≡ length bytes → put_chunk 0 place bytes ≡ bytes
put_all [] [] is = refl
put_all [] (byte ∷ bytes) is = absurd (omega (arith, is))
put_all (old ∷ place) [] is = absurd (omega (arith, is))
put_all (old ∷ place) (byte ∷ bytes) is = ap (λ (z : List ℕ). byte ∷ z) (put_all place bytes (omega (arith, is)))

-- behind others
pub put_behind : (front place bytes : List ℕ) → length place ≡ length bytes → put_chunk (length front) (front ++ place) bytes ≡ front ++ bytes
put_behind [] place bytes is = put_all place bytes is
put_behind (letter ∷ front) place bytes is = ap (λ (z : List ℕ). letter ∷ z) (put_behind front place bytes is)

-- and a byte behind them
pub put_before : (place bytes : List ℕ) (last : ℕ) → length place ≡ length bytes + 1
    → set (put_chunk 0 place bytes) (length bytes) last ≡ bytes ++ last ∷ []
put_before [] bytes last is = absurd (omega (arith, is))
put_before (old ∷ []) [] last is = refl
put_before (old ∷ other ∷ place) [] last is = absurd (omega (arith, is))
put_before (old ∷ place) (byte ∷ bytes) last is = ap (λ (z : List ℕ). byte ∷ z) (put_before place bytes last (omega (arith, is)))
