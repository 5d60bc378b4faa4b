-- The front of bytes.
use Rattle.std.specs.Prelude.{ℕ, List, [], ◌∷◌, take}
use Rattle.std.proofs.Common.{zero, suc, arith}
use Rattle.wire_buf.specs.Numbers.{IsBytes}

-- ---- lemmas

pub take_are : (count : ℕ) (bytes : List ℕ) → IsBytes bytes → IsBytes (take count bytes)
take_are zero bytes are i = omega arith
take_are (suc count) [] are i = omega arith
take_are (suc count) (byte ∷ bytes) are zero = are 0
take_are (suc count) (byte ∷ bytes) are (suc i) = take_are count bytes (λ k. are (suc k)) i
