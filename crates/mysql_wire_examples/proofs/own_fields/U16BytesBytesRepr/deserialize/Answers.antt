use Rattle.std.proofs.Common.{◌≡◌, ◌≤◌, ◌<◌, ◌∙◌, ℕ, List, length, take, drop, Result, Err, ap, sym, refl, arith}
use Rattle.std.proofs.lemmas.Bool.{lt-ltb, le-ltb}
use Rattle.mysql_wire.specs.Numbers.{be_number}
use Rattle.mysql_wire.specs.Reading.{Answers}
use Rattle.mysql_wire.specs.WireError.{WireError}
use Rattle.mysql_wire.specs.WireError.TheVariants.{UnexpectedEof}
use Rattle.mysql_wire_examples.specs.OwnFields.{u16_text_at}
use Rattle.mysql_wire_examples.proofs.own_fields.U16BytesBytesRepr.deserialize.Goals as goal

abbrev Eats : List ℕ → List ℕ → Result (List ℕ) WireError → Type 0
Eats old new answer = (n : ℕ) × (n ≤ length old) × (new ≡ drop n old) × Answers (u16_text_at old) answer n

eats : (old new : List ℕ) (answer : Result (List ℕ) WireError) (n : ℕ) → u16_text_at old ≡ (answer, n) → n ≤ length old → new ≡ drop n old → Eats old new answer
eats old new answer n is fits at = (n, fits, at, (ap (λ z. z.0) (sym is), ap (λ z. z.1) (sym is)))

-- no length is there
no_length : (old new : List ℕ) → length old < 2 → new ≡ old → Eats old new (Err UnexpectedEof)
no_length old new short same = eats old new (Err UnexpectedEof) 0 (rw (lt-ltb (length old) 2 short) refl) (omega arith) same

-- not all of the text is there
no_text : (old mid new : List ℕ) (len : ℕ) → 2 ≤ length old → len ≡ be_number (take 2 old) → mid ≡ drop 2 old → length mid < len → new ≡ mid → Eats old new (Err UnexpectedEof)
no_text old mid new len there is at short same =
    eats old new (Err UnexpectedEof) 2 (rw (le-ltb (length old) 2 there, sym is, sym at, lt-ltb (length mid) len short) refl) there (same ∙ at)

pub returns-in-None : goal.returns-in-None
returns-in-None g c =
    let length_read = c.in-Some.ensures in
    let refused = c.in-None.ensures in
    no_text c.args.buf.now.0.now _ c.checked_eat.new.self.0.now c.in-Some.len length_read.0 length_read.1 length_read.2 refused.0 refused.1

pub returns-in_default : goal.returns-in_default
returns-in_default g c = no_length c.args.buf.now.0.now _ c.in_default.ensures.0 c.in_default.ensures.1
