-- What comes back of two values in a row, and of one of two.
use Rattle.std.specs.Prelude.{ℕ, ◌≡◌, List, ◌++◌, Option, Result}
use Rattle.wire_buf.specs.declared.error.WireError.{WireError}
use Rattle.wire_buf.specs.declared.io.ParseBuf.{ParseBuf}
use Rattle.wire_field.specs.Rows.{OnSide, SameSide, by_side}
use Rattle.wire_field.specs.declared.row.Both.{Both}
use Rattle.wire_field.specs.declared.row.Either.{Either}
use Rattle.wire_repr.specs.Law.{GoodBefore, LeavesRestOf}

-- two values in a row are good: the first before the second and the rest, the second before the
-- rest
abbrev pub GoodInRow : {C D A B : Type 0} → Option ℕ → Option ℕ → (C → A → List ℕ → Type 0)
    → (D → B → List ℕ → Type 0) → (B → List ℕ) → C × D → A → B → List ℕ → Type 0
GoodInRow size_a size_b good_a good_b bytes_b ctx first second rest =
    GoodBefore size_a good_a (bytes_b second ++ rest) ctx.0 first
    × GoodBefore size_b good_b rest ctx.1 second

-- both come back, where they are good
abbrev pub BothComeBack : {C D A B : Type 0} → Option ℕ → Option ℕ → (A → Type 0) → (B → Type 0)
    → (C → A → List ℕ → Type 0) → (D → B → List ℕ → Type 0) → (A → List ℕ) → (B → List ℕ)
    → (A → A → Type 0) → (B → B → Type 0) → Type 0 → C × D → ParseBuf
    → Result (Both A B) WireError → ParseBuf → Type 0
BothComeBack {A = A} {B = B} size_a size_b is_a is_b good_a good_b bytes_a bytes_b kept_a kept_b
    takes_memory ctx old answer new =
    (first : A) (second : B) (rest : List ℕ) → is_a first → is_b second
    → GoodInRow size_a size_b good_a good_b bytes_b ctx first second rest
    → LeavesRestOf (bytes_a first ++ bytes_b second) rest
    (λ back. kept_a first back.0 × kept_b second back.1) takes_memory answer old new

-- one of two values comes back on its side, where it is good there
abbrev pub EitherComesBack : {C D A B : Type 0} → Option ℕ → Option ℕ → (A → Type 0) → (B → Type 0)
    → (C → A → List ℕ → Type 0) → (D → B → List ℕ → Type 0) → (A → List ℕ) → (B → List ℕ)
    → (A → A → Type 0) → (B → B → Type 0) → Type 0 → Either C D → ParseBuf
    → Result (Either A B) WireError → ParseBuf → Type 0
EitherComesBack {A = A} {B = B} size_a size_b is_a is_b good_a good_b bytes_a bytes_b kept_a kept_b
    takes_memory ctx old answer new =
    (value : Either A B) (rest : List ℕ) → OnSide is_a is_b value
    → SameSide (GoodBefore size_a good_a rest) (GoodBefore size_b good_b rest) ctx value
    → LeavesRestOf (by_side bytes_a bytes_b value) rest (SameSide kept_a kept_b value) takes_memory
    answer old new
