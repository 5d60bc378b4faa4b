-- Places in bytes.
use Rattle.std.proofs.Common.{◌≡◌, ℕ, ◌+◌, ◌-◌, ◌≤◌, List, [], ◌∷◌, ◌++◌, length, take, drop, sym, ap, ap₂, ◌∙◌, arith, inl, inr, length-drop, append_assoc, slice_get}
use Rattle.std.proofs.lemmas.List.{length-append, length-take-le, drop-drop}
use Rattle.std.proofs.Math.Seq.{take-append_seam, drop-append_seam}
use Rattle.wire_buf.specs.Spelling.{EatsSpelling}
use Rattle.wire_buf.specs.Lenenc.{IsLenenc, IsLenencOrMark}
use Rattle.mysql_wire_c_calls.specs.Fields.{IsMark, ReadsAt, WritesAt}

-- a number whose first byte is no mark
pub unmarked : (old : List ℕ) (n : ℕ) (new : List ℕ) → (IsMark old → ⊥)
    → EatsSpelling IsLenencOrMark old n new → EatsSpelling IsLenenc old n new
unmarked old n new none (spelling, inl is, whole) = (spelling, is, whole)
unmarked old n new none (spelling, inr (zero_is, inl is), whole) =
    absurd (none (inl (ap (λ l. slice_get l 0) (whole ∙ ap (λ l. l ++ new) is))))
unmarked old n new none (spelling, inr (zero_is, inr is), whole) =
    absurd (none (inr (ap (λ l. slice_get l 0) (whole ∙ ap (λ l. l ++ new) is))))

-- where a rest begins
place_of : (bytes : List ℕ) (at : ℕ) (eaten new : List ℕ) → at ≤ length bytes
    → drop at bytes ≡ eaten ++ new
    → (drop (length bytes - length new) bytes ≡ new) × (at ≤ length bytes - length new)
place_of bytes at eaten new fits whole =
    let len : length bytes - at ≡ length eaten + length new =
    sym (length-drop at bytes) ∙ ap length whole ∙ length-append eaten new in
    let place : length bytes - length new ≡ at + length eaten = omega (arith, len) in (
      ap (λ n. drop n bytes) place ∙ sym (drop-drop (length eaten) at bytes)
          ∙ ap (drop (length eaten)) whole ∙ drop-append_seam eaten new,
      omega (arith, place),
    )

pub reads_at : (bytes : List ℕ) (at n : ℕ) (new : List ℕ) → at ≤ length bytes
    → EatsSpelling IsLenenc (drop at bytes) n new
    → ReadsAt IsLenenc bytes at n (length bytes - length new)
reads_at bytes at n new fits (spelling, is, whole) =
    let place = place_of bytes at spelling new fits whole in
    ((spelling, is, whole ∙ ap (λ l. spelling ++ l) (sym place.0)), place.1, omega arith)

-- bytes written one after the other
pub writes_on : (old : List ℕ) (at : ℕ) (a mid : List ℕ) (m : ℕ) (b new : List ℕ) (end : ℕ)
    → WritesAt old at a mid m → WritesAt mid m b new end → WritesAt old at (a ++ b) new end
writes_on old at a mid m b new end (mid_is, m_is, m_fits) (new_is, end_is, end_fits) =
    let front : List ℕ = take at old ++ a in
    let front_len : length front ≡ m =
    length-append (take at old) a ∙ ap (λ n. n + length a) (length-take-le at old (omega arith))
    ∙ sym m_is in
    let len : length mid ≡ length old =
    ap length mid_is ∙ length-append front (drop m old)
    ∙ ap₂ (λ x y. x + y) front_len (length-drop m old) ∙ omega (arith, m_fits) in
    let head : take m mid ≡ front =
    ap₂ (λ n l. take n l) (sym front_len) mid_is ∙ take-append_seam front (drop m old) in
    let tail : drop end mid ≡ drop end old =
    ap (λ n. drop n mid) end_is ∙ sym (drop-drop (length b) m mid)
    ∙ ap (λ l. drop (length b) l) (ap₂ (λ n l. drop n l) (sym front_len) mid_is
    ∙ drop-append_seam front (drop m old)) ∙ drop-drop (length b) m old
    ∙ ap (λ n. drop n old) (sym end_is) in (
      new_is ∙ ap₂ (λ x y. x ++ b ++ y) head tail
          ∙ ap (λ x. x ++ drop end old) (append_assoc (take at old) a b),
      end_is ∙ omega (arith, length-append a b, m_is),
      omega (arith, len, end_fits),
    )

-- how long a text is without its end
pub without_end : (n m : ℕ) (bytes text : List ℕ) → bytes ≡ text ++ 0 ∷ [] → n ≡ length bytes → m ≡ n - 1 → m ≡ length text
without_end n m bytes text is len left =
    let e = ap (λ (l : List ℕ). length l) is ∙ length-append text (0 ∷ []) in
    omega (arith, e, len, left)
