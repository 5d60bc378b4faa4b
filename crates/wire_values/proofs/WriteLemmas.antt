-- Values that are put one after another are there whole.
use Rattle.std.proofs.Common.{ℕ, ◌≡◌, ◌≤◌, ◌<◌, ◌+◌, suc, Bool, false, List, [], ◌∷◌, ◌++◌, length, take, get_or, Result, Ok, Err, OnOk, sym, ap, ◌∙◌, arith}
use Rattle.std.proofs.Math.Seq.{take-suc}
use Rattle.std.proofs.lemmas.Grind.{flat_map-append}
use Rattle.std.proofs.lemmas.List.{append_assoc, append-nil, take_all}
use Rattle.std.specs.List.{flat_map}
use Rattle.std.specs.Result.{is_err}
use Rattle.wire_buf.specs.declared.error.WireError.{WireError}
use Rattle.wire_repr.proofs.PutLemmas.{contradicts}

next-value : {X : Type 0} (bytes : X → List ℕ) (values : List X) (i : ℕ) (value : X)
    → i < length values → value ≡ get_or values i value
    → flat_map bytes (take (i + 1) values) ≡ flat_map bytes (take i values) ++ bytes value
next-value bytes values i value below is =
    let next : i + 1 ≡ suc i = omega arith in
    let one : take (i + 1) values ≡ take i values ++ (value ∷ []) =
    ap (λ k. take k values) next ∙ take-suc values i value below
    ∙ ap (λ x. take i values ++ (x ∷ [])) (sym is) in
    ap (flat_map bytes) one ∙ flat_map-append bytes (take i values) (value ∷ [])
    ∙ ap (λ l. flat_map bytes (take i values) ++ l) (append-nil (bytes value))

pub none-written : (old : List ℕ) → old ≡ old ++ []
none-written old = sym (append-nil old)

pub more-written : {X : Type 0} (bytes : X → List ℕ) (values : List X) (i : ℕ) (value : X)
    (put : Result (Unit {0}) WireError) (refused : Bool) (old mid new : List ℕ)
    → i < length values → value ≡ get_or values i value
    → mid ≡ old ++ flat_map bytes (take i values) → refused ≡ is_err put → refused ≡ false
    → OnOk put (new ≡ mid ++ bytes value)
    → new ≡ old ++ flat_map bytes (take (i + 1) values)
more-written bytes values i value (Ok _) refused old mid new below at so_far is not puts =
    puts ∙ ap (λ start. start ++ bytes value) so_far
    ∙ append_assoc old (flat_map bytes (take i values)) (bytes value)
    ∙ ap (λ l. old ++ l) (sym (next-value bytes values i value below at))
more-written bytes values i value (Err error) refused old mid new below at so_far is not puts =
    absurd (contradicts refused is not)

pub all-written : {X : Type 0} (bytes : X → List ℕ) (values : List X) (i : ℕ) (old new : List ℕ)
    → length values ≤ i → new ≡ old ++ flat_map bytes (take i values)
    → new ≡ old ++ flat_map bytes values
all-written bytes values i old new all so_far =
    so_far ∙ ap (λ l. old ++ flat_map bytes l) (take_all i values all)
