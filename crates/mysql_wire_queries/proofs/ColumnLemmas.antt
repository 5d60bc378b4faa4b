-- A definition that is put part by part is there whole, or is taken away again.
use Rattle.std.proofs.Common.{ℕ, ◌≡◌, Bool, List, ◌++◌, length, take, Result, Ok, Err, OnOk, IfErr, IsTrue, IsFalse, is_ok, refl, sym, ap, subst, ◌∙◌}
use Rattle.std.proofs.lemmas.List.{append_assoc, take_at}
use Rattle.std.specs.Result.{IsErr}
use Rattle.std.proofs.lemmas.Bool.{false≢true}
use Rattle.wire_buf.specs.declared.error.WireError.{WireError}
use Rattle.wire_buf.specs.declared.error.WireError.TheVariants.{OutOfMemory}
use Rattle.mysql_wire_queries.specs.Columns.{PutsAfter}

-- after another part
pub puts_next : {X Y : Type 0} (result : Result X Y) (old mid new front back : List ℕ) → mid ≡ old ++ front → PutsAfter result mid new back → PutsAfter result old new (front ++ back)
puts_next (Ok _) old mid new front back mid_is new_is = new_is ∙ ap (λ (z : List ℕ). z ++ back) mid_is ∙ append_assoc old front back
puts_next (Err _) old mid new front back mid_is (part, new_is) = (front ++ part, new_is ∙ ap (λ (z : List ℕ). z ++ part) mid_is ∙ append_assoc old front part)

-- a part, where memory was refused
pub puts_part : {X Y : Type 0} (result : Result X Y) (old new bytes : List ℕ) → IsErr result → (part : List ℕ) × (new ≡ old ++ part) → PutsAfter result old new bytes
puts_part (Ok _) old new bytes failed part = absurd (false≢true failed)
puts_part (Err _) old new bytes failed part = part

-- of what stands after another part
pub part_next : (old mid new front : List ℕ) → mid ≡ old ++ front → (part : List ℕ) × (new ≡ mid ++ part) → (part : List ℕ) × (new ≡ old ++ part)
part_next old mid new front mid_is (part, new_is) = (front ++ part, new_is ∙ ap (λ (z : List ℕ). z ++ part) mid_is ∙ append_assoc old front part)

-- all of it, or nothing
pub put_whole : {X Y : Type 0} (put : Result X Y) (answer : Result (Unit {0}) WireError) (all : Bool) (at : ℕ) (old mid new bytes : List ℕ)
    → at ≡ length old → PutsAfter put old mid bytes → all ≡ is_ok put
    → (IsTrue all → (answer ≡ Ok tt) × (new ≡ mid)) → (IsFalse all → (answer ≡ Err OutOfMemory) × (new ≡ take at mid))
    → OnOk answer (new ≡ old ++ bytes) × IfErr answer (λ error. (error ≡ OutOfMemory) × (new ≡ old))
put_whole (Ok _) answer all at old mid new bytes is puts put_is whole nothing =
    let told = whole put_is in
    subst (λ (outcome : Result (Unit {0}) WireError). OnOk outcome (new ≡ old ++ bytes) × IfErr outcome (λ error. (error ≡ OutOfMemory) × (new ≡ old))) (sym told.0) (told.1 ∙ puts, tt)
put_whole (Err _) answer all at old mid new bytes is (part, puts) put_is whole nothing =
    let told = nothing put_is in
    subst (λ (outcome : Result (Unit {0}) WireError). OnOk outcome (new ≡ old ++ bytes) × IfErr outcome (λ error. (error ≡ OutOfMemory) × (new ≡ old))) (sym told.0)
    (tt, (refl, told.1 ∙ ap (take at) puts ∙ take_at old part at (sym is)))
