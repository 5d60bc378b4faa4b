-- A text that was put after its length is there whole, or is taken away again.
use Rattle.std.proofs.Common.{ℕ, ◌≡◌, Bool, List, ◌++◌, length, take, Result, Ok, Err, OnOk, IfErr, IsTrue, IsFalse, is_ok, ◌⊎◌, inl, inr, arith, refl, sym, ap, subst, ◌∙◌}
use Rattle.std.proofs.lemmas.List.{append_assoc, take_at, take_all}
use Rattle.wire_buf.specs.declared.error.WireError.{WireError}
use Rattle.wire_buf.specs.declared.error.WireError.TheVariants.{OutOfMemory}
use Rattle.wire_ext.specs.Texts.{PutsText}

-- what a `serialize` ensures
abbrev pub Appended : Result (Unit {0}) WireError → List ℕ → List ℕ → List ℕ → Type 0
Appended answer old new bytes = OnOk answer (new ≡ old ++ bytes)
    × IfErr answer (λ error. (error ≡ OutOfMemory) × (new ≡ old))

pub kept : (answer : Result (Unit {0}) WireError) (old mid new bytes : List ℕ)
    → mid ≡ old ++ bytes → (answer ≡ Ok tt) × (new ≡ mid) → Appended answer old new bytes
kept answer old mid new bytes is (answered, same) =
    subst (λ outcome. Appended outcome old new bytes) (sym answered) (same ∙ is, tt)

pub taken_away : (answer : Result (Unit {0}) WireError) (at : ℕ) (old mid new bytes : List ℕ)
    → take at mid ≡ old → (answer ≡ Err OutOfMemory) × (new ≡ take at mid)
    → Appended answer old new bytes
taken_away answer at old mid new bytes is (answered, cut) =
    subst (λ outcome. Appended outcome old new bytes) (sym answered) (tt, (refl, cut ∙ is))

-- the put left nothing or the length alone
cut-is : (at : ℕ) (old mid spelling : List ℕ) → at ≡ length old
    → (mid ≡ old) ⊎ (mid ≡ old ++ spelling) → take at mid ≡ old
cut-is at old mid spelling is (inl same) =
    ap (take at) same ∙ take_all at old (omega (arith, is))
cut-is at old mid spelling is (inr half) =
    ap (take at) half ∙ take_at old spelling at (sym is)

pub put-whole : (put answer : Result (Unit {0}) WireError) (all : Bool) (at room : ℕ)
    (old mid new spelling text : List ℕ) → at ≡ length old
    → PutsText put old mid room spelling text → all ≡ is_ok put
    → (IsTrue all → (answer ≡ Ok tt) × (new ≡ mid))
    → (IsFalse all → (answer ≡ Err OutOfMemory) × (new ≡ take at mid))
    → Appended answer old new (spelling ++ text)
put-whole (Ok _) answer all at room old mid new spelling text is puts put_is whole nothing =
    kept answer old mid new (spelling ++ text) puts (whole put_is)
put-whole (Err error) answer all at room old mid new spelling text is puts put_is whole nothing =
    taken_away answer at old mid new (spelling ++ text) (cut-is at old mid spelling is puts.2)
    (nothing put_is)

-- the length was put, and the text alone is refused
pub behind-whole : (put answer : Result (Unit {0}) WireError) (all : Bool) (at : ℕ)
    (old mid late new spelling text : List ℕ) → at ≡ length old → mid ≡ old ++ spelling
    → OnOk put (late ≡ mid ++ text)
    → IfErr put (λ error. (error ≡ OutOfMemory) × (late ≡ mid)) → all ≡ is_ok put
    → (IsTrue all → (answer ≡ Ok tt) × (new ≡ late))
    → (IsFalse all → (answer ≡ Err OutOfMemory) × (new ≡ take at late))
    → Appended answer old new (spelling ++ text)
behind-whole (Ok _) answer all at old mid late new spelling text is half puts _ put_is whole
    nothing =
    kept answer old late new (spelling ++ text)
    (puts ∙ ap (λ front. front ++ text) half ∙ append_assoc old spelling text) (whole put_is)
behind-whole (Err error) answer all at old mid late new spelling text is half _ left put_is whole
    nothing =
    taken_away answer at old late new (spelling ++ text)
    (cut-is at old late spelling is (inr (left.1 ∙ half))) (nothing put_is)
