-- The last bytes of a row, in front of others.
use Rattle.std.proofs.Common.{◌≡◌, ◌≤◌, ◌⊎◌, inl, inr, ◌+◌, ◌-◌, ◌∙◌, ℕ, List, ◌++◌, length, take, drop, ap, sym, subst, arith}
use Rattle.std.proofs.Math.Seq.{drop-append-add}
use Rattle.std.proofs.lemmas.Bool.{cases_lt}
use Rattle.std.proofs.lemmas.List.{drop-append-le, drop-drop, drop_all, length-drop, take-append-le, take_all}
use Rattle.mysql_wire_dump_lines.specs.RowEnds.{EndsIn, IsBehind, IsEndOf}
use Rattle.mysql_wire_dump_lines.specs.declared.show.row_end.RowEnd.{RowEnd}

-- what is left after some bytes, counted from the end
from_end : (n : ℕ) (bytes : List ℕ) → drop (length bytes - length (drop n bytes)) bytes ≡ drop n bytes
from_end n bytes = elim (cases_lt n (length bytes)) [
  | inl less ↦ ap (λ (k : ℕ). drop k bytes) (omega (arith, less, length-drop n bytes))
  | inr more ↦
      drop_all (length bytes - length (drop n bytes)) bytes (omega (arith, more, length-drop n bytes))
      ∙ sym (drop_all n bytes (omega (arith, more)))
]

-- some bytes of the last, with what is after them
last_part : (r : ℕ) (payload part behind : List ℕ) → part ≡ drop (length payload - length part) payload → r ≤ length part
    → drop (length part - r) (part ++ behind) ≡ drop (length payload - r) payload ++ behind
last_part r payload part behind part_is less =
    let long = ap length part_is ∙ length-drop (length payload - length part) payload in
    drop-append-le (length part - r) part behind (omega arith)
    ∙ ap (λ (z : List ℕ). z ++ behind)
    (ap (drop (length part - r)) part_is ∙ drop-drop (length part - r) (length payload - length part) payload
    ∙ ap (λ (k : ℕ). drop k payload) (omega (arith, long, less)))

-- all bytes of a row, or its last 32, end at the 32nd: what is left of the row stands there
pub stands_at_end : (payload front part behind all : List ℕ) → all ≡ front ++ (part ++ behind)
    → length front + length part ≡ 32 → part ≡ drop (length payload - length part) payload
    → (length part ≡ 32) ⊎ (length payload ≤ length part) → (n : ℕ) → length (drop n payload) ≤ 32
    → take (length (drop n payload)) (drop (32 - length (drop n payload)) all) ≡ drop n payload
stands_at_end payload front part behind all is whole part_is most n few =
    let r = length (drop n payload) in
    let less : r ≤ length part = elim most [ inl full ↦ omega (arith, full, few) | inr short ↦ omega (arith, short, length-drop n payload) ] in
    let place : 32 - r ≡ length front + (length part - r) = omega (arith, whole, less) in
    let left : drop (32 - r) all ≡ drop n payload ++ behind =
    ap (drop (32 - r)) is ∙ ap (λ (k : ℕ). drop k (front ++ (part ++ behind))) place ∙ drop-append-add front (part ++ behind) (length part - r)
    ∙ last_part r payload part behind part_is less ∙ ap (λ (z : List ℕ). z ++ behind) (from_end n payload) in
    ap (take r) left ∙ take-append-le r (drop n payload) behind (omega arith) ∙ take_all r (drop n payload) (omega arith)

-- they are the end of what is behind some bytes, too
pub is_end_behind : (end : RowEnd) (eaten : ℕ) (bytes behind : List ℕ) → behind ≡ drop eaten bytes → IsEndOf end bytes → IsEndOf end behind
is_end_behind end eaten bytes behind is ends n =
    subst (EndsIn end) (sym (ap (drop n) is ∙ drop-drop n eaten bytes)) (ends (eaten + n))

-- what is left behind some bytes of what is left
pub further : (payload rest behind : List ℕ) (eaten : ℕ) → behind ≡ drop eaten rest → IsBehind payload rest → IsBehind payload behind
further payload rest behind eaten is before =
    (before.0 + eaten, is ∙ ap (drop eaten) before.1 ∙ drop-drop eaten before.0 payload)
