-- What is put after what was put before, and what is taken back.
use Rattle.std.proofs.Common.{◌≡◌, ◌∙◌, ℕ, List, ◌++◌, length, take, true, false, if◌then◌else◌, Result, Ok, Err, OnOk, IfErr, sym, ap, append_assoc}
use Rattle.std.proofs.Math.Seq.{take-append_seam}
use Rattle.std.proofs.lemmas.Bool.{false≢true}
use Rattle.std.specs.Result.{is_ok, is_err}
use Rattle.mysql_wire.specs.WireError.{WireError}
use Rattle.mysql_wire.specs.WireError.TheVariants.{OutOfMemory}

pub all_put : {E : Type 0} (answer : Result (Unit {0}) E) (old new more : List ℕ) → false ≡ is_err answer → new ≡ (if is_ok answer then old ++ more else old) → new ≡ old ++ more
all_put (Ok done) old new more fine at = at
all_put (Err error) old new more fine at = absurd (false≢true fine)

pub none_put : {E : Type 0} (answer : Result (Unit {0}) E) (old new more : List ℕ) → true ≡ is_err answer → new ≡ (if is_ok answer then old ++ more else old) → new ≡ old
none_put (Ok done) old new more bad at = absurd (false≢true (sym bad))
none_put (Err error) old new more bad at = at

pub put_back : (at : ℕ) (old more mid new : List ℕ) → at ≡ length old → mid ≡ old ++ more → new ≡ take at mid → new ≡ old
put_back at old more mid new there is taken =
    taken ∙ ap (λ (n : ℕ). take n mid) there ∙ ap (λ (z : List ℕ). take (length old) z) is ∙ take-append_seam old more

pub text_put : (answer : Result (Unit {0}) WireError) (old mid new front text : List ℕ) → mid ≡ old ++ front → OnOk answer (new ≡ mid ++ text) → OnOk answer (new ≡ old ++ (front ++ text))
text_put (Ok done) old mid new front text is at = at ∙ ap (λ (z : List ℕ). z ++ text) is ∙ append_assoc old front text
text_put (Err error) old mid new front text is at = tt

pub no_fault : (answer : Result (Unit {0}) WireError) (P : WireError → Type 0) → false ≡ is_err answer → IfErr answer P
no_fault (Ok done) P fine = tt
no_fault (Err error) P fine = absurd (false≢true fine)

pub no_text_put : (answer : Result (Unit {0}) WireError) (P : Type 0) → true ≡ is_err answer → OnOk answer P
no_text_put (Ok done) P bad = absurd (false≢true (sym bad))
no_text_put (Err error) P bad = tt

pub fault_back : (answer : Result (Unit {0}) WireError) (at : ℕ) (old front mid new back : List ℕ) → at ≡ length old → mid ≡ old ++ front
    → IfErr answer (λ error. (error ≡ OutOfMemory) × (new ≡ mid)) → back ≡ take at new → IfErr answer (λ error. (error ≡ OutOfMemory) × (back ≡ old))
fault_back (Ok done) at old front mid new back there is told taken = tt
fault_back (Err error) at old front mid new back there is told taken = (told.0, put_back at old front new back there (told.1 ∙ is) taken)
