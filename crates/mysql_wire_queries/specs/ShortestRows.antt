-- Of the values of a row, what is read is written again as the bytes that were eaten, where these
-- spell each length in the shortest form.
use Rattle.std.proofs.Common.{zero, suc, inl, inr, refl, sym, ap, subst, ◌∙◌, arith}
use Rattle.std.proofs.Math.Seq.{take-add}
use Rattle.std.specs.List.{flat_map}
use Rattle.std.specs.Prelude.{ℕ, ◌≡◌, ◌+◌, List, [], ◌∷◌, ◌++◌, take, drop, Option, Some, None, Result, Ok, Err}
use Rattle.wire_values.specs.Elements.{ReadsEach, behind}
use Rattle.wire_buf.specs.Numbers.{IsBytes}
use Rattle.wire_buf.specs.Reading.{Through}
use Rattle.wire_buf.specs.declared.error.WireError.TheVariants.{Other}
use Rattle.wire_buf.specs.declared.error.WireError.{WireError}
use Rattle.mysql_wire_parts.specs.Again.{IsBytes-drop}
use Rattle.mysql_wire_parts.specs.Shortest.{Shortest, IsNoLonger, no_longer_if_same, told_both, text_law}
use Rattle.mysql_wire_queries.specs.TextValues.{ReadsValue, value_bytes}

-- a value of a row
value_law : (value : Option (List ℕ)) (input : List ℕ) → IsBytes input → (eaten : ℕ)
    → ReadsValue input (Ok value) eaten
    → IsNoLonger (value_bytes value) (take eaten input)
value_law None input are eaten (inl (at, (answered, all))) =
    no_longer_if_same (0xfb ∷ []) (take eaten input) (sym at ∙ ap (λ n. take n input) (sym all))
value_law (Some text) input are eaten (inl (at, (answered, all))) =
    let differs : ◌≡◌ {A = Result (Option (List ℕ)) WireError} (Ok (Some text)) (Ok None) =
    answered in
    absurd (cc differs)
value_law value input are eaten (inr (inl (at, (answered, all)))) =
    let failed : ◌≡◌ {A = Result (Option (List ℕ)) WireError} (Ok value) (Err (Other (record {})))
    = answered in
    absurd (cc failed)
value_law None input are eaten (inr (inr (apart, differs, read))) = absurd read
value_law (Some text) input are eaten (inr (inr (apart, differs, read))) =
    text_law text input are eaten read

pub value_shortest : {Y : Type 0} (part : Y → Option (List ℕ))
    → Shortest (λ input. Through part (ReadsValue input)) (λ y. value_bytes (part y))
value_shortest part = record {
  law = λ input are y eaten read. value_law (part y) input are eaten read;
}

-- ---- values one after another

each_next : {X : Type 0} (reads : List ℕ → Result X WireError → ℕ → Type 0) (bytes : X → List ℕ)
    → Shortest reads bytes
    → (input : List ℕ) → IsBytes input → (value : X) (taken after eaten : ℕ)
    → (others : Result (List X) WireError) (values : List X)
    → ((more : List X) → others ≡ Ok more
    → IsNoLonger (flat_map bytes more) (take after (drop taken input)))
    → reads input (Ok value) taken → Ok values ≡ behind (value ∷ []) others
    → eaten ≡ taken + after → IsNoLonger (flat_map bytes values) (take eaten input)
each_next reads bytes law input are value taken after eaten (Ok more) values told read answered all =
    let same : values ≡ value ∷ more = cc answered in
    let shape : take eaten input ≡ take taken input ++ take after (drop taken input) =
    ap (λ count. take count input) all ∙ take-add taken after input in
    subst (λ values. IsNoLonger (flat_map bytes values) (take eaten input)) (sym same)
    (subst (IsNoLonger (bytes value ++ flat_map bytes more)) (sym shape)
    (told_both (bytes value) (flat_map bytes more) (take taken input)
    (take after (drop taken input)) (law.law input are value taken read) (told more refl)))
each_next {X = X} reads bytes law input are value taken after eaten (Err error) values told read
    answered all =
    let failed : ◌≡◌ {A = Result (List X) WireError} (Ok values) (Err error) = answered in
    absurd (cc failed)

each_law : {X : Type 0} (reads : List ℕ → Result X WireError → ℕ → Type 0) (bytes : X → List ℕ)
    → Shortest reads bytes → (count : ℕ) (input : List ℕ) → IsBytes input → (values : List X)
    (eaten : ℕ) (answer : Result (List X) WireError) → answer ≡ Ok values
    → ReadsEach (Unit {0}) reads count input answer eaten
    → IsNoLonger (flat_map bytes values) (take eaten input)
each_law reads bytes law zero input are values eaten answer is (answered, none) =
    let same : values ≡ [] = cc (is, answered) in
    no_longer_if_same (flat_map bytes values) (take eaten input)
    (ap (flat_map bytes) same ∙ ap (λ n. take n input) (sym none))
each_law reads bytes law (suc count) input are values eaten answer is (inl (_, failed, _)) =
    absurd (cc (is, failed))
each_law reads bytes law (suc count) input are values eaten answer is (inr (inl (_, failed, _))) =
    absurd (cc (is, failed))
each_law reads bytes law (suc count) input are values eaten answer is
    (inr (inr (value, taken, after, others, fits, read, rest, answered, all))) =
    each_next reads bytes law input are value taken after eaten others values
    (λ more same. each_law reads bytes law count (drop taken input) (IsBytes-drop taken input are)
    more after others same rest)
    read (sym is ∙ answered) all

-- the values of a row
pub row_law : {X : Type 0} {reads : List ℕ → Result X WireError → ℕ → Type 0} {bytes : X → List ℕ}
    (count : ℕ) → Shortest reads bytes → (values : List X) (input : List ℕ) → IsBytes input
    → (eaten : ℕ)
    → ((taken : ℕ) × ReadsEach (Unit {0}) reads count input (Ok values) taken × (eaten ≡ 0 + taken))
    → IsNoLonger (flat_map bytes values) (take eaten input)
row_law {reads = reads} {bytes = bytes} count law values input are eaten (taken, read, all) =
    let same : taken ≡ eaten = omega (arith, all) in
    subst (λ n. IsNoLonger (flat_map bytes values) (take n input)) same
    (each_law reads bytes law count input are values taken (Ok values) refl read)
