-- Fields that are lent from a payload are read back.
use Rattle.std.specs.Prelude.{ℕ, ◌≡◌, List, [], ◌++◌, length, Ok}
use Rattle.wire_repr.specs.Law.{Through-back}
use Rattle.wire_buf.specs.Reading.{Answers, Through, front_at}
use Rattle.wire_forms.specs.BareTexts.{all-back}
use Rattle.wire_field.specs.Borrowed.{front-through}
use Rattle.mysql_wire_parts.specs.InOrder.{Back}

-- ---- lemmas

-- what stands up to the end
pub rest_of : {Y : Type 0} {rest : List ℕ} (part : Y → List ℕ) (text : List ℕ) → rest ≡ []
    → Back (λ input. Through part (Answers (Ok input, length input))) (λ y. part y ≡ text) text rest
rest_of {rest = rest} part text none = record {
  law = Through-back part (Answers (Ok (text ++ rest), length (text ++ rest))) text (length text)
      (all-back text rest none);
}

-- this many bytes
pub slice_of : {Y : Type 0} {rest : List ℕ} (part : Y → List ℕ) (count : ℕ) (bytes : List ℕ)
    → count ≡ length bytes
    → Back (λ input. Through part (Answers (front_at count input))) (λ y. part y ≡ bytes) bytes rest
slice_of {rest = rest} part count bytes is = record {
  law = front-through part count bytes rest is;
}
