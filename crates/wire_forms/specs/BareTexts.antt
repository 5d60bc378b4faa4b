-- Texts whose end is not in their bytes are read back.
use Rattle.std.proofs.Common.{ℕ, ◌≡◌, ◌≤◌, ◌-◌, List, [], ◌++◌, length, take, min, Result, Ok, refl, sym, ap, subst, ◌∙◌, arith}
use Rattle.std.specs.Prelude.{replicate}
use Rattle.std.proofs.lemmas.List.{take_at, length-append, append-nil, length-take, length-replicate}
use Rattle.std.proofs.lemmas.Bool.{le-ltb}
use Rattle.wire_buf.specs.declared.error.WireError.{WireError}
use Rattle.wire_buf.specs.Reading.{Answers, front_at}
use Rattle.wire_repr.specs.Law.{ReadsFixed, ReadsFixed-back}

-- the first bytes of a text, and zeros, this many together
abbrev pub padded : ℕ → List ℕ → List ℕ
padded count text = take count text ++ replicate (count - length text) 0

-- ---- lemmas

pub all-back : (text rest : List ℕ) → rest ≡ [] → (answer : Result (List ℕ) WireError) (eaten : ℕ)
    → Answers (Ok (text ++ rest), length (text ++ rest)) answer eaten
    → Answers (Ok text, length text) answer eaten
all-back text rest none answer eaten (answered, ate) =
    let whole : text ++ rest ≡ text = ap (λ r. text ++ r) none ∙ append-nil text in
    (answered ∙ ap Ok whole, ate ∙ ap length whole)

front_at-back : (count : ℕ) (text rest : List ℕ) → count ≡ length text
    → front_at count (text ++ rest) ≡ (Ok text, length text)
front_at-back count text rest is =
    let there : count ≤ length (text ++ rest) = omega (arith, is, length-append text rest) in
    rw (le-ltb (length (text ++ rest)) count there, take_at text rest count (sym is), is) refl

pub front-back : (most count : ℕ) (text rest : List ℕ) → count ≡ min (length text) most
    → (answer : Result (List ℕ) WireError) (eaten : ℕ)
    → Answers (front_at count (take most text ++ rest)) answer eaten
    → Answers (Ok (take most text), length (take most text)) answer eaten
front-back most count text rest is answer eaten read =
    let len : count ≡ length (take most text) = grind (arith, is, length-take most text) in
    subst (λ outcome. Answers outcome answer eaten) (front_at-back count (take most text) rest len)
    read

pub length-padded : (count : ℕ) (text : List ℕ) → length (padded count text) ≡ count
length-padded count text = grind (
  arith,
  length-append (take count text) (replicate (count - length text) 0),
  length-take count text,
  length-replicate {A = ℕ} (count - length text) 0,
)

pub padded-back : (count : ℕ) (text rest : List ℕ)
    → (answer : Result (List ℕ) WireError) (eaten : ℕ)
    → ReadsFixed count (λ bytes. bytes) (padded count text ++ rest) answer eaten
    → Answers (Ok (padded count text), length (padded count text)) answer eaten
padded-back count text rest = ReadsFixed-back count (λ bytes. bytes) (padded count text) rest
    (padded count text) (length-padded count text) refl
