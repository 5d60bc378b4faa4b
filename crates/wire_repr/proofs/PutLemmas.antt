-- What is put behind another part is there whole with it, or both are taken away again.
use Rattle.std.proofs.Common.{ℕ, ◌≡◌, Bool, true, false, List, ◌++◌, length, take, Result, Ok, Err, OnOk, IfErr, sym, ap, ◌∙◌}
use Rattle.std.proofs.lemmas.List.{append_assoc, take_at}
use Rattle.std.specs.Result.{is_err}
use Rattle.wire_buf.specs.declared.error.WireError.{WireError}
use Rattle.wire_buf.specs.declared.error.WireError.TheVariants.{OutOfMemory}

-- what a `serialize` ensures
abbrev pub Appended : Result (Unit {0}) WireError → List ℕ → List ℕ → List ℕ → Type 0
Appended answer old new bytes = OnOk answer (new ≡ old ++ bytes)
    × IfErr answer (λ error. (error ≡ OutOfMemory) × (new ≡ old))

pub contradicts : (refused : Bool) → refused ≡ true → refused ≡ false → ⊥
contradicts refused is not = cc (sym is ∙ not)

pub put-behind : (put : Result (Unit {0}) WireError) (refused : Bool)
    (old mid new front bytes : List ℕ) → refused ≡ is_err put → refused ≡ false
    → mid ≡ old ++ front → OnOk put (new ≡ mid ++ bytes) → Appended put old new (front ++ bytes)
put-behind (Ok _) refused old mid new front bytes is not half puts =
    (puts ∙ ap (λ start. start ++ bytes) half ∙ append_assoc old front bytes, tt)
put-behind (Err error) refused old mid new front bytes is not half puts =
    absurd (contradicts refused is not)

pub taken-back : (put : Result (Unit {0}) WireError) (refused : Bool) (at : ℕ)
    (old mid late new front bytes : List ℕ) → refused ≡ is_err put → refused ≡ true
    → at ≡ length old → mid ≡ old ++ front
    → IfErr put (λ error. (error ≡ OutOfMemory) × (late ≡ mid)) → new ≡ take at late
    → Appended put old new bytes
taken-back (Ok _) refused at old mid late new front bytes is told start half left cut =
    absurd (contradicts refused told is)
taken-back (Err error) refused at old mid late new front bytes is told start half left cut = (
  tt,
  (left.0, cut ∙ ap (take at) (left.1 ∙ half) ∙ take_at old front at (sym start)),
)
