-- Texts after their length are read back.
use Rattle.std.proofs.Common.{ℕ, ◌≡◌, ◌≤◌, ◌<◌, ◌+◌, ◌-◌, ◌^◌, List, ◌++◌, length, take, drop, Result, Ok, Err, None, inl, inr, refl, sym, ap, subst, ◌∙◌, arith}
use Rattle.std.specs.declared.borrow.CowSlice.{CowSlice}
use Rattle.std.specs.declared.borrow.CowSlice.TheVariants as slice
use Rattle.std.proofs.lemmas.List.{length-drop, drop-drop, length-take, length-take-le, take-append-drop, append_assoc}
use Rattle.wire_buf.specs.declared.error.WireError.{WireError}
use Rattle.wire_buf.specs.declared.error.WireError.TheVariants.{UnexpectedEof}
use Rattle.wire_buf.specs.Lenenc.{IsLenencOrMark, lenenc_bytes}
use Rattle.wire_buf.specs.NumberLemmas.{length-le_bytes, le_number-le_bytes_fits}
use Rattle.wire_buf.specs.Numbers.{le_bytes}
use Rattle.wire_buf.specs.Reading.{Reads, Answers}
use Rattle.wire_buf.specs.Spelling.{IsFixed, EatsSpelling, EatsText, ReadsText}
use Rattle.wire_buf.specs.SpellingLemmas.{IsFixed-free}
use Rattle.wire_ext.specs.Texts.{u8_max, u32_max}
use Rattle.wire_forms.specs.Groups.{ReadsGroups, groups_bytes}
use Rattle.wire_forms.specs.GroupsLemmas.{groups_bytes-told}
use Rattle.wire_forms.specs.Lenenc.{lenenc_bytes-told}
use Rattle.wire_forms.specs.Spelled.{Leaves, NumberOrEof, TextBehind, Leaves-back, NumberOrEof-back, NumberOrEof-left, Reads-left, TextBehind-back}
use Rattle.wire_repr.specs.Texts.{IsText, IsBorrowedText, BorrowsIn}

pub lenenc_text-back : (text rest : List ℕ) → IsText text
    → (answer : Result (List ℕ) WireError) (eaten : ℕ)
    → Leaves (TextBehind (NumberOrEof IsLenencOrMark 1))
    ((lenenc_bytes (length text) ++ text) ++ rest) answer eaten
    → Answers (Ok text, length (lenenc_bytes (length text) ++ text)) answer eaten
lenenc_text-back text rest is =
    let tells = NumberOrEof IsLenencOrMark 1 in
    let front = lenenc_bytes (length text) in
    Leaves-back (TextBehind tells) (front ++ text) text
    (TextBehind-back tells front text (lenenc_bytes-told (length text) is.1)) rest

-- a length of this many bytes
fixed_text-back : (count : ℕ) (text rest : List ℕ) → length text < 256 ^ count
    → (answer : Result (List ℕ) WireError) (eaten : ℕ)
    → Leaves (TextBehind (NumberOrEof (IsFixed count) 0))
    ((le_bytes count (length text) ++ text) ++ rest) answer eaten
    → Answers (Ok text, length (le_bytes count (length text) ++ text)) answer eaten
fixed_text-back count text rest few =
    let tells = NumberOrEof (IsFixed count) 0 in
    let front = le_bytes count (length text) in
    let told = NumberOrEof-back (IsFixed count) (IsFixed-free count) 0 (length text) front
    (length-le_bytes count (length text), sym (le_number-le_bytes_fits count (length text) few))
    in
    Leaves-back (TextBehind tells) (front ++ text) text (TextBehind-back tells front text told) rest

u8_max_is : u8_max ≡ 255
unfolding u8_max
u8_max_is = refl

u32_max_is : u32_max ≡ 4294967295
unfolding u32_max
u32_max_is = refl

few_1 : (text : List ℕ) → length (take u8_max text) < 256 ^ 1
few_1 text = omega (arith, u8_max_is, length-take u8_max text)

few_4 : (text : List ℕ) → length (take u32_max text) < 256 ^ 4
few_4 text = omega (arith, u32_max_is, length-take u32_max text)

pub fixed_text-back_1 : (text rest : List ℕ) → (answer : Result (List ℕ) WireError) (eaten : ℕ)
    → Leaves (TextBehind (NumberOrEof (IsFixed 1) 0))
    ((le_bytes 1 (length (take u8_max text)) ++ take u8_max text) ++ rest) answer eaten
    → Answers (
      Ok (take u8_max text),
      length (le_bytes 1 (length (take u8_max text)) ++ take u8_max text),
    ) answer eaten
fixed_text-back_1 text rest = fixed_text-back 1 (take u8_max text) rest (few_1 text)

pub fixed_text-back_4 : (text rest : List ℕ) → (answer : Result (List ℕ) WireError) (eaten : ℕ)
    → Leaves (TextBehind (NumberOrEof (IsFixed 4) 0))
    ((le_bytes 4 (length (take u32_max text)) ++ take u32_max text) ++ rest) answer eaten
    → Answers (
      Ok (take u32_max text),
      length (le_bytes 4 (length (take u32_max text)) ++ take u32_max text),
    ) answer eaten
fixed_text-back_4 text rest = fixed_text-back 4 (take u32_max text) rest (few_4 text)

pub groups_text-back : (text rest : List ℕ) → (answer : Result (List ℕ) WireError) (eaten : ℕ)
    → Leaves (TextBehind ReadsGroups)
    ((groups_bytes (length (take u32_max text)) ++ take u32_max text) ++ rest) answer eaten
    → Answers (
      Ok (take u32_max text),
      length (groups_bytes (length (take u32_max text)) ++ take u32_max text),
    ) answer eaten
groups_text-back text rest =
    let cut = take u32_max text in
    let front = groups_bytes (length cut) in
    Leaves-back (TextBehind ReadsGroups) (front ++ cut) cut
    (TextBehind-back ReadsGroups front cut (groups_bytes-told (length cut) (few_4 text))) rest

-- ---- by a reader, who has read the length

-- or was refused it
pub TextBehind-refused : (tells : List ℕ → Result ℕ WireError → List ℕ → Type 0) (old : List ℕ)
    (error : WireError) (new : List ℕ)
    → Reads (Leaves tells) old (Err error) new
    → Reads (Leaves (TextBehind tells)) old (Err error) new
TextBehind-refused tells old error new (eaten, there, left, (still, told)) =
    (eaten, there, left, (still, inl told))

pub read_text : (tells : List ℕ → Result ℕ WireError → List ℕ → Type 0) (old mid new text : List ℕ)
    (len : ℕ) → Reads (Leaves tells) old (Ok len) mid
    → len ≤ length mid → text ≡ take len mid → new ≡ drop len mid
    → Reads (Leaves (TextBehind tells)) old (Ok text) new
read_text tells old mid new text len (eaten, there, left, (still, told)) enough is rest =
    let behind : length mid ≡ length old - eaten = ap length left ∙ length-drop eaten old in
    let all : eaten + len ≤ length old = omega (arith, there, enough, behind) in
    let over : drop len mid ≡ drop (eaten + len) old =
    ap (drop len) left ∙ drop-drop len eaten old in
    let as_long : len ≡ length text = sym (ap length is ∙ length-take-le len mid enough) in
    let parts : mid ≡ text ++ new =
    sym (ap (λ l. l ++ new) is ∙ ap (λ l. take len mid ++ l) rest ∙ take-append-drop len mid) in
    let told_mid : tells old (Ok (length text)) mid =
    subst (λ n. tells old (Ok n) mid) as_long (subst (tells old (Ok len)) (sym left) told) in
    let answer : TextBehind tells old (Ok text) new = (mid, told_mid, parts) in (
      eaten + len,
      all,
      rest ∙ over,
      (all, subst (TextBehind tells old (Ok text)) (rest ∙ over) answer),
    )

pub short_text : (tells : List ℕ → Result ℕ WireError → List ℕ → Type 0) (old mid new : List ℕ)
    (len : ℕ) (error : WireError) → Reads (Leaves tells) old (Ok len) mid
    → error ≡ UnexpectedEof → length mid < len → new ≡ mid
    → Reads (Leaves (TextBehind tells)) old (Err error) new
short_text tells old mid new len error (eaten, there, left, (still, told)) is short same =
    let few : length (drop eaten old) < len = omega (arith, short, ap length left) in
    (eaten, there, same ∙ left, (still, inr (len, told, few, is)))

-- by a reader that answers a text behind such a length, or none
pub text_told : (spells : ℕ → List ℕ → Type 0) (lost : ℕ) (old text new : List ℕ)
    → EatsText spells old text new
    → Reads (Leaves (TextBehind (NumberOrEof spells lost))) old (Ok text) new
text_told spells lost old text new told =
    Reads-left (TextBehind (NumberOrEof spells lost)) old (Ok text) new (told.0 ++ text)
    (told.2 ∙ sym (append_assoc told.0 text new)) (text ++ new, told, refl)

pub text_missing : (spells : ℕ → List ℕ → Type 0) (lost : ℕ) (old new : List ℕ)
    → ReadsText spells lost old None new
    → Reads (Leaves (TextBehind (NumberOrEof spells lost))) old (Err UnexpectedEof) new
text_missing spells lost old new (inl nothing) =
    TextBehind-refused (NumberOrEof spells lost) old UnexpectedEof new
    (NumberOrEof-left spells lost old (Err UnexpectedEof) new (refl, nothing))
text_missing spells lost old new (inr (len, told, short)) =
    short_text (NumberOrEof spells lost) old new new len UnexpectedEof
    (NumberOrEof-left spells lost old (Ok len) new told) refl short refl

-- ---- for who reads one field after another

-- the text that was answered stood after its length, at the front
pub eaten_text : {Z : Type 0} (spells : ℕ → List ℕ → Type 0) (lost : ℕ) (text : CowSlice ℕ Z)
    (old : List ℕ) (eaten : ℕ)
    → BorrowsIn text (Leaves (TextBehind (NumberOrEof spells lost)) old) eaten
    → (bytes : List ℕ) × (rest : List ℕ) × IsBorrowedText text bytes
    × EatsText spells old bytes rest
eaten_text spells lost (slice.Borrowed r) old eaten (there, (mid, told, is)) =
    (r.now, drop eaten old, refl, subst (EatsSpelling spells old (length r.now)) is told)
eaten_text spells lost (slice.Owned v) old eaten read = absurd read
