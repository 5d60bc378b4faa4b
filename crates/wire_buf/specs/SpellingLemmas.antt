-- What follows of spellings, whatever the format.
use Rattle.std.proofs.Common.{◌≡◌, ◌≤◌, ◌<◌, ℕ, List, ◌++◌, length, take, drop, Option, Some, None, MatchOption, option_map, Bor, refl, sym, ap, subst, ◌∙◌, arith, inl, inr}
use Rattle.std.proofs.lemmas.List.{take_at, drop_at, length-append, length-take-le, take-append-drop}
use Rattle.wire_buf.specs.Numbers.{le_number}
use Rattle.wire_buf.specs.Reading.{Eats, EatsIfThere}
use Rattle.wire_buf.specs.Spelling.{IsFixed, EatsSpelling, ReadsNumber, EatsText, HoldsText, ReadsText, IsSpelling}

-- two parts of one list, where the first ones are as long
pub same_parts : (a b x y : List ℕ) → a ++ x ≡ b ++ y → length a ≡ length b → (a ≡ b) × (x ≡ y)
same_parts a b x y whole len = (
  sym (take_at a x (length a) refl) ∙ ap (take (length a)) whole ∙ take_at b y (length a) (sym len),
  sym (drop_at a x (length a) refl) ∙ ap (drop (length a)) whole ∙ drop_at b y (length a) (sym len),
)

-- at most one front of any bytes is a spelling, and of one number
abbrev pub IsPrefixFree : (ℕ → List ℕ → Type 0) → Type 0
IsPrefixFree spells = (n m : ℕ) (a b x y : List ℕ) → spells n a → spells m b → a ++ x ≡ b ++ y
    → (n ≡ m) × (x ≡ y)

-- so what is eaten is determined
pub EatsSpelling-same : (spells : ℕ → List ℕ → Type 0) → IsPrefixFree spells
    → (old : List ℕ) (n m : ℕ) (x y : List ℕ)
    → EatsSpelling spells old n x → EatsSpelling spells old m y → (n ≡ m) × (x ≡ y)
EatsSpelling-same spells free old n m x y (a, is_a, left) (b, is_b, right) =
    free n m a b x y is_a is_b (sym left ∙ right)

-- and so is the answer
pub ReadsNumber-same : (spells : ℕ → List ℕ → Type 0) → IsPrefixFree spells
    → (lost : ℕ) (old : List ℕ) (a b : Option ℕ) (x y : List ℕ)
    → ReadsNumber spells lost old a x → ReadsNumber spells lost old b y → (a ≡ b) × (x ≡ y)
ReadsNumber-same spells free lost old None None x y (nothing, left) (_, right) =
    (refl, left ∙ sym right)
ReadsNumber-same spells free lost old None (Some m) x y (nothing, left) read =
    absurd (nothing m y read)
ReadsNumber-same spells free lost old (Some n) None x y read (nothing, right) =
    absurd (nothing n x read)
ReadsNumber-same spells free lost old (Some n) (Some m) x y left right =
    let same = EatsSpelling-same spells free old n m x y left right in
    (ap Some same.0, same.1)

-- also of a text
pub ReadsText-same : (spells : ℕ → List ℕ → Type 0) → IsPrefixFree spells
    → (lost : ℕ) (old : List ℕ) (a b : Option (List ℕ)) (x y : List ℕ)
    → ReadsText spells lost old a x → ReadsText spells lost old b y → (a ≡ b) × (x ≡ y)
ReadsText-same spells free lost old None None x y (inl (_, left)) (inl (_, right)) =
    (refl, left ∙ sym right)
ReadsText-same spells free lost old None None x y (inl (nothing, _)) (inr (len, read, _)) =
    absurd (nothing len y read)
ReadsText-same spells free lost old None None x y (inr (len, read, _)) (inl (nothing, _)) =
    absurd (nothing len x read)
ReadsText-same spells free lost old None None x y (inr (n, left, _)) (inr (m, right, _)) =
    (refl, (EatsSpelling-same spells free old n m x y left right).1)
ReadsText-same spells free lost old None (Some b) x y (inl (nothing, _)) read =
    absurd (nothing (length b) (b ++ y) read)
ReadsText-same spells free lost old None (Some b) x y (inr (n, left, short)) read =
    let same = EatsSpelling-same spells free old n (length b) x (b ++ y) left read in
    absurd (omega (arith, short, same.0, ap length same.1, length-append b y))
ReadsText-same spells free lost old (Some a) None x y read (inl (nothing, _)) =
    absurd (nothing (length a) (a ++ x) read)
ReadsText-same spells free lost old (Some a) None x y read (inr (m, right, short)) =
    let same = EatsSpelling-same spells free old (length a) m (a ++ x) y read right in
    absurd (omega (arith, short, same.0, ap length same.1, length-append a x))
ReadsText-same spells free lost old (Some a) (Some b) x y left right =
    let same = EatsSpelling-same spells free old (length a) (length b) (a ++ x) (b ++ y) left right
    in
    let parts = same_parts a b x y same.1 same.0 in
    (ap Some parts.0, parts.1)

-- each spelling is read back, whatever follows
pub IsSpelling-from : (spells : ℕ → List ℕ → Type 0) → IsPrefixFree spells
    → (n : ℕ) (bytes : List ℕ) → spells n bytes → IsSpelling spells n bytes
IsSpelling-from spells free n bytes is = (
  is,
  λ rest m new read. EatsSpelling-same spells free (bytes ++ rest) m n new rest read
      (bytes, is, refl),
)

-- a number of this many bytes
pub IsFixed-free : (count : ℕ) → IsPrefixFree (IsFixed count)
IsFixed-free count n m a b x y is_a is_b whole =
    let same = same_parts a b x y whole (is_a.0 ∙ sym is_b.0) in
    (is_a.1 ∙ ap le_number same.0 ∙ sym is_b.1, same.1)

-- is eaten by a reader of its width
pub ReadsNumber-fixed : (count : ℕ) (old : List ℕ) (answer : Option ℕ) (new : List ℕ)
    → EatsIfThere count le_number old answer new → ReadsNumber (IsFixed count) 0 old answer new
ReadsNumber-fixed count old None new (short, kept) = (
  λ n rest (spelling, is, whole).
      omega (arith, is.0, short, ap length whole, length-append spelling rest),
  kept,
)
ReadsNumber-fixed count old (Some n) new (there, value, left) = (
  take count old,
  (length-take-le count old there, value),
  sym (ap (λ l. take count old ++ l) left ∙ take-append-drop count old),
)

-- a text after its length
pub EatsText-take : (spells : ℕ → List ℕ → Type 0) (old mid text new : List ℕ) (len : ℕ)
    → EatsSpelling spells old len mid
    → len ≤ length mid → text ≡ take len mid → new ≡ drop len mid → EatsText spells old text new
EatsText-take spells old mid text new len (spelling, is, whole) there front rest =
    let as_long : len ≡ length text = sym (ap length front ∙ length-take-le len mid there) in
    let parts : mid ≡ text ++ new =
    sym (ap (λ l. l ++ new) front ∙ ap (λ l. take len mid ++ l) rest ∙ take-append-drop len mid) in
    (spelling, subst (λ n. spells n spelling) as_long is, whole ∙ ap (λ l. spelling ++ l) parts)

-- ---- by a reader of a text, who has read its length

-- where a text is there, as many bytes are left
pub text_there : (spells : ℕ → List ℕ → Type 0) → IsPrefixFree spells → (old mid : List ℕ) (len : ℕ)
    → HoldsText spells old → EatsSpelling spells old len mid → len ≤ length mid
text_there spells free old mid len (text, rest, holds) read =
    let same = EatsSpelling-same spells free old len (length text) mid (text ++ rest) read holds in
    omega (arith, same.0, ap length same.1, length-append text rest)

-- a length of this many bytes
pub eats_fixed : (count : ℕ) (old mid : List ℕ) (len : ℕ) → HoldsText (IsFixed count) old
    → Eats count le_number old len mid → EatsSpelling (IsFixed count) old len mid
eats_fixed count old mid len (text, rest, (spelling, is, whole)) (value, left) =
    let there : count ≤ length old =
    omega (arith, is.0, ap length whole, length-append spelling (text ++ rest)) in
    ReadsNumber-fixed count old (Some len) mid (there, value, left)

-- this many bytes are the text
pub eats_text : (spells : ℕ → List ℕ → Type 0) → IsPrefixFree spells
    → (old mid text new : List ℕ) (len : ℕ) → HoldsText spells old → EatsSpelling spells old len mid
    → text ≡ take len mid → new ≡ drop len mid → EatsText spells old text new
eats_text spells free old mid text new len holds read front rest =
    EatsText-take spells old mid text new len read (text_there spells free old mid len holds read)
    front rest

-- if they are there
pub reads_text : (spells : ℕ → List ℕ → Type 0) (lost : ℕ) (old mid new : List ℕ) (len : ℕ)
    (text : Option (Bor (List ℕ))) → EatsSpelling spells old len mid
    → MatchOption text ((length mid < len) × (new ≡ mid))
    (λ front. (len ≤ length mid) × (front.now ≡ take len mid) × (new ≡ drop len mid))
    → ReadsText spells lost old (option_map (λ front. front.now) text) new
reads_text spells lost old mid new len None read (short, kept) =
    inr (
      len,
      subst (EatsSpelling spells old len) (sym kept) read,
      omega (arith, short, ap length kept),
    )
reads_text spells lost old mid new len (Some front) read (there, value, left) =
    EatsText-take spells old mid front.now new len read there value left
