-- A text after four bytes of length: what is written of it is read back, and what is read of it is
-- written as it stood.
use Rattle.std.specs.Prelude.{ℕ, ◌≡◌, ◌<◌, ◌≤◌, ◌^◌, List, ◌++◌, length, take, drop, Ok}
use Rattle.std.proofs.Common.{refl, sym, ap, subst, ◌∙◌, arith}
use Rattle.std.proofs.lemmas.List.{append_assoc, length-append, length-drop, take_all, take_at}
use Rattle.std.specs.Cow.{cow_slice_items}
use Rattle.std.specs.declared.borrow.CowSlice.{CowSlice}
use Rattle.std.specs.declared.borrow.CowSlice.TheVariants.{Borrowed, Owned}
use Rattle.wire_buf.specs.NumberLemmas.{le_bytes-le_number, le_number-lt}
use Rattle.wire_buf.specs.Numbers.{IsBytes, le_bytes, le_number}
use Rattle.wire_buf.specs.Spelling.{IsFixed}
use Rattle.wire_ext.specs.Texts.{u32_max}
use Rattle.wire_repr.specs.Texts.{Borrows, Borrows-back, IsBorrowedText}
use Rattle.wire_forms.specs.PrefixedTexts.{fixed_text-back_4}
use Rattle.wire_forms.specs.Spelled.{Leaves, NumberOrEof, TextBehind}
use Rattle.mysql_wire_parts.specs.Again.{Again, IsBytes-take}
use Rattle.mysql_wire_parts.specs.InOrder.{Back}

-- of a longer text its first 4294967295 bytes
abbrev pub u32_cut : {Z : Type 0} → CowSlice ℕ Z → List ℕ
u32_cut text = take u32_max (cow_slice_items text)

abbrev pub u32_text_bytes : {Z : Type 0} → CowSlice ℕ Z → List ℕ
u32_text_bytes text = le_bytes 4 (length (u32_cut text)) ++ u32_cut text

-- ---- lemmas

pub u32_text : {Y Z : Type 0} {rest : List ℕ} (part : Y → CowSlice ℕ Z) (text : List ℕ)
    → Back (λ input. Borrows part (Leaves (TextBehind (NumberOrEof (IsFixed 4) 0)) input))
    (λ y. IsBorrowedText (part y) (take u32_max text))
    (le_bytes 4 (length (take u32_max text)) ++ take u32_max text) rest
u32_text {rest = rest} part text =
    let bytes = le_bytes 4 (length (take u32_max text)) ++ take u32_max text in
    record {
      law = Borrows-back part (Leaves (TextBehind (NumberOrEof (IsFixed 4) 0)) (bytes ++ rest))
          (take u32_max text) (length bytes) (fixed_text-back_4 text rest);
    }

u32_max_is : u32_max ≡ 4294967295
unfolding u32_max
u32_max_is = refl

-- what is eaten of such a text
text_front : (spelling text mid input : List ℕ) (eaten : ℕ) → eaten ≤ length input
    → input ≡ spelling ++ mid → mid ≡ text ++ drop eaten input
    → take eaten input ≡ spelling ++ text
text_front spelling text mid input eaten there whole parts =
    let rest = drop eaten input in
    let front = spelling ++ text in
    let shape : input ≡ front ++ rest = whole ∙ ap (λ m. spelling ++ m) parts
    ∙ sym (append_assoc spelling text rest) in
    let len : length front ≡ eaten = omega (
      arith,
      there,
      ap length shape,
      length-append front rest,
      length-drop eaten input,
    ) in
    ap (take eaten) shape ∙ take_at front rest eaten len

-- four bytes are those of their number, which is below 2^32
four_again : (spelling : List ℕ) → length spelling ≡ 4 → IsBytes spelling
    → (le_bytes 4 (le_number spelling) ≡ spelling) × (le_number spelling < 2 ^ 32)
four_again spelling len are = (
  subst (λ n. le_bytes n (le_number spelling) ≡ spelling) len (le_bytes-le_number spelling are),
  subst (λ n. le_number spelling < 256 ^ n) len (le_number-lt spelling are),
)

text_law : (text spelling mid input : List ℕ) (eaten : ℕ) → IsBytes input → eaten ≤ length input
    → IsFixed 4 (length text) spelling → input ≡ spelling ++ mid → mid ≡ text ++ drop eaten input
    → le_bytes 4 (length (take u32_max text)) ++ take u32_max text ≡ take eaten input
text_law text spelling mid input eaten are there spells whole parts =
    let front = text_front spelling text mid input eaten there whole parts in
    let bytes : IsBytes spelling = subst IsBytes
    (ap (take (length spelling)) whole ∙ take_at spelling mid (length spelling) refl)
    (IsBytes-take (length spelling) input are) in
    let back = four_again spelling spells.0 bytes in
    let told : le_bytes 4 (length text) ≡ spelling = ap (le_bytes 4) spells.1 ∙ back.0 in
    let cut : take u32_max text ≡ text =
    take_all u32_max text (omega (arith, u32_max_is, spells.1, back.1)) in
    ap (λ t. le_bytes 4 (length t) ++ t) cut ∙ ap (λ s. s ++ text) told ∙ sym front

u32_text_law : {Z : Type 0} (text : CowSlice ℕ Z) (input : List ℕ) → IsBytes input → (eaten : ℕ)
    → Borrows (λ (c : CowSlice ℕ Z). c) (Leaves (TextBehind (NumberOrEof (IsFixed 4) 0)) input)
    (Ok text) eaten
    → u32_text_bytes text ≡ take eaten input
u32_text_law (Borrowed text) input are eaten (there, (mid, (spelling, spells, whole), parts)) =
    text_law text.now spelling mid input eaten are there spells whole parts
u32_text_law (Owned text) input are eaten read = absurd read

pub u32_text_again : {Y Z : Type 0} (part : Y → CowSlice ℕ Z)
    → Again (λ input. Borrows part (Leaves (TextBehind (NumberOrEof (IsFixed 4) 0)) input))
    (λ y. u32_text_bytes (part y))
u32_text_again part = record {
  law = λ input are y eaten read. u32_text_law (part y) input are eaten read;
}
