-- What is known of an input that was read to its end.
use Rattle.std.proofs.Common.{◌≡◌, ◌⊎◌, inl, inr, ◌++◌, ◌∙◌, ℕ, List, Option, Some, None, IfSome, append-nil, ap, sym, subst}
use Rattle.std.specs.Io.KnownBytes.{Consumes, IsAtEnd}

pub read_whole-known : (P : List ℕ → Type 0) (unread left : Option (List ℕ)) (whole : List ℕ) → Consumes unread left whole → IsAtEnd left → P whole → IfSome unread P
read_whole-known P None left whole consumed at_end holds = tt
read_whole-known P (Some input) None whole consumed at_end holds = absurd consumed
read_whole-known P (Some input) (Some rest) whole consumed at_end holds =
    subst P (sym (consumed ∙ ap (λ (z : List ℕ). whole ++ z) at_end ∙ append-nil whole)) holds

-- a status of a chunk, as one of the command's
pub shown_cases : (status : ℕ) → (status ≡ 0) ⊎ (status ≡ 3) → (status ≡ 0) ⊎ (status ≡ 2) ⊎ (status ≡ 3) ⊎ (status ≡ 6)
shown_cases status (inl none) = inl none
shown_cases status (inr part) = inr (inr (inl part))
