-- The types of parameters are read back, and written as they stood.
use Rattle.std.specs.Prelude.{ℕ, ◌≡◌, ◌≤◌, ◌<◌, ◌*◌, List, [], ◌∷◌, ◌++◌, length, take, drop, Option, Some, None, Result, Ok, Err}
use Rattle.std.proofs.Common.{suc, inl, inr, refl, sym, ap, subst, ◌∙◌, arith}
use Rattle.std.proofs.lemmas.Bool.{cases_lt, le-ltb, lt-ltb}
use Rattle.std.proofs.lemmas.List.{length-append, take_at, take-take, take-append-drop}
use Rattle.wire_buf.specs.declared.error.WireError.{WireError}
use Rattle.wire_buf.specs.declared.error.WireError.TheVariants.{UnexpectedEof, InvalidData}
use Rattle.wire_buf.specs.declared.error.InvalidReason.TheVariants.{UnknownValue}
use Rattle.wire_repr.specs.Law.{Through-back}
use Rattle.wire_buf.specs.Reading.{Answers, Through}
use Rattle.mysql_wire_parts.specs.InOrder.{Back}
use Rattle.mysql_wire_statements.specs.Again.{Again}
use Rattle.mysql_wire_statements.specs.Params.{types_bytes, HaveTypes, types_behind, ReadsTypes}

-- ---- lemmas

heads : (a b : ℕ) → a ∷ [] ≡ b ∷ [] → a ≡ b
heads a b is = cc is

empty_head : (a : ℕ) → a ∷ [] ≡ [] → ⊥
empty_head a is = cc is

behind_there : (len : ℕ) (types rest : List ℕ) → length types ≡ len
    → types_behind len ((1 ∷ types) ++ rest) ≡ (Ok (Some types), suc len)
behind_there len types rest is =
    let whole : length (1 ∷ types) ≡ suc len = ap suc is in
    let there : suc len ≤ length ((1 ∷ types) ++ rest) =
    omega (arith, whole, length-append (1 ∷ types) rest) in
    rw (le-ltb (length ((1 ∷ types) ++ rest)) (suc len) there, take_at types rest len is) refl

-- what was written of the types comes back
types-back : (count : ℕ) (types : Option (List ℕ)) (rest : List ℕ) → HaveTypes count types
    → (answer : Result (Option (List ℕ)) WireError) (eaten : ℕ)
    → ReadsTypes count (types_bytes types ++ rest) answer eaten
    → Answers (Ok types, length (types_bytes types)) answer eaten
types-back count None rest have answer eaten (inl (at, _)) = absurd (empty_head 0 at)
types-back count None rest have answer eaten (inr (inl (at, read))) = read
types-back count None rest have answer eaten (inr (inr (inl (at, _)))) =
    absurd (omega (arith, heads 0 1 at))
types-back count None rest have answer eaten (inr (inr (inr (some, none, one, _)))) =
    absurd (none refl)
types-back count (Some types) rest have answer eaten (inl (at, _)) = absurd (empty_head 1 at)
types-back count (Some types) rest have answer eaten (inr (inl (at, _))) =
    absurd (omega (arith, heads 1 0 at))
types-back count (Some types) rest have answer eaten (inr (inr (inl (at, read)))) =
    let is : length (1 ∷ types) ≡ suc (2 * count) = ap suc have in
    let (answered, ate) = subst (λ outcome. Answers outcome answer eaten)
    (behind_there (2 * count) types rest have) read in
    (answered, ate ∙ sym is)
types-back count (Some types) rest have answer eaten (inr (inr (inr (some, none, one, _)))) =
    absurd (one refl)

pub types_field : {Y : Type 0} {rest : List ℕ} (part : Y → Option (List ℕ)) (count : ℕ)
    (types : Option (List ℕ)) → HaveTypes count types
    → Back (λ input. Through part (ReadsTypes count input)) (λ y. part y ≡ types)
    (types_bytes types) rest
types_field {rest = rest} part count types have = record {
  law = Through-back part (ReadsTypes count (types_bytes types ++ rest)) types
      (length (types_bytes types)) (types-back count types rest have);
}

-- what was read of them is written as it stood
behind_short : (len : ℕ) (input : List ℕ) (types : Option (List ℕ)) (eaten : ℕ)
    → length input < suc len → Answers (types_behind len input) (Ok types) eaten → ⊥
behind_short len input types eaten short read =
    let (answered, ate) = rw (lt-ltb (length input) (suc len) short) at read in
    let is : ◌≡◌ {A = Result (Option (List ℕ)) WireError} (Ok types) (Err UnexpectedEof) = answered
    in
    cc is

behind_whole : (len : ℕ) (input : List ℕ) (types : Option (List ℕ)) (eaten : ℕ)
    → take 1 input ≡ 1 ∷ [] → suc len ≤ length input
    → Answers (types_behind len input) (Ok types) eaten → types_bytes types ≡ take eaten input
behind_whole len input types eaten at there read =
    let (answered, ate) = rw (le-ltb (length input) (suc len) there) at read in
    let is : types ≡ Some (drop 1 (take (suc len) input)) = cc answered in
    let front : take 1 (take (suc len) input) ≡ 1 ∷ [] =
    take-take 1 (suc len) input (omega arith) ∙ at in
    let whole : take 1 (take (suc len) input) ++ drop 1 (take (suc len) input)
    ≡ take (suc len) input = take-append-drop 1 (take (suc len) input) in
    let joined : (1 ∷ []) ++ drop 1 (take (suc len) input) ≡ take (suc len) input =
    subst (λ head. head ++ drop 1 (take (suc len) input) ≡ take (suc len) input) front whole in
    ap types_bytes is ∙ (joined ∙ ap (λ n. take n input) (sym ate))

behind_again : (len : ℕ) (input : List ℕ) (types : Option (List ℕ)) (eaten : ℕ)
    → take 1 input ≡ 1 ∷ [] → Answers (types_behind len input) (Ok types) eaten
    → types_bytes types ≡ take eaten input
behind_again len input types eaten at read = elim (cases_lt (length input) (suc len)) [
  | inl short ↦ absurd (behind_short len input types eaten short read)
  | inr there ↦ behind_whole len input types eaten at there read
]

types_law : (count : ℕ) (input : List ℕ) (types : Option (List ℕ)) (eaten : ℕ)
    → ReadsTypes count input (Ok types) eaten → types_bytes types ≡ take eaten input
types_law count input types eaten (inl (at, (answered, ate))) =
    let is : ◌≡◌ {A = Result (Option (List ℕ)) WireError} (Ok types) (Err UnexpectedEof) = answered
    in
    cc is
types_law count input types eaten (inr (inl (at, (answered, ate)))) =
    let is : types ≡ None = cc answered in
    ap types_bytes is ∙ (sym at ∙ ap (λ n. take n input) (sym ate))
types_law count input types eaten (inr (inr (inl (at, read)))) =
    behind_again (2 * count) input types eaten at read
types_law count input types eaten (inr (inr (inr (some, none, one, (answered, ate))))) =
    let is : ◌≡◌ {A = Result (Option (List ℕ)) WireError} (Ok types) (Err (InvalidData UnknownValue))
    = answered in
    cc is

pub types_again : {Y : Type 0} (part : Y → Option (List ℕ)) (count : ℕ)
    → Again (λ input. Through part (ReadsTypes count input)) (λ y. types_bytes (part y))
types_again part count = record {
  law = λ input value eaten are read. types_law count input (part value) eaten read;
}
