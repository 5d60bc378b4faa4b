-- What the readers of length-encoded integers and of texts answer, as functions of the bytes: the
-- answer, and how many bytes are eaten. They are for whoever needs the answer as a value; that the
-- readers answer so is below.
use Rattle.std.proofs.Common.{◌≡◌, ◌≢◌, ◌≤◌, ◌<◌, ℕ, suc, ◌+◌, List, [], ◌∷◌, ◌++◌, length, take, drop, Option, Some, None, inl, inr, ◌⊎◌, refl, sym, ap, subst, ◌∙◌, arith, nat_eq, nat_lt, if◌then◌else◌}
use Rattle.std.proofs.lemmas.Bool.{cases_lt, cases_eq, lt-ltb, le-ltb, eq-eqb, ne_eqb}
use Rattle.std.proofs.lemmas.List.{drop-drop, length-drop}
use Rattle.wire_buf.specs.Numbers.{le_number}
use Rattle.wire_buf.specs.Spelling.{IsBehind, IsFixed, EatsSpelling, SpellsNothing, ReadsNumber, ReadsText}
use Rattle.wire_buf.specs.SpellingLemmas.{IsPrefixFree, ReadsNumber-same, ReadsText-same, ReadsNumber-fixed, EatsText-take}
use Rattle.wire_buf.specs.Lenenc.{IsLenenc, IsLenencOrMark}
use Rattle.wire_buf.specs.LenencLemmas.{count_behind, IsLenencOrMark-free, nothing_in-nil, reads_behind, reads_byte, reads_mark}

-- count bytes, or nothing
abbrev pub fixed_at : ℕ → List ℕ → Option ℕ × ℕ
fixed_at count old = if nat_lt (length old) count then (None, 0)
    else (Some (le_number (take count old)), count)

-- count bytes after the first one, or that one alone
abbrev pub behind_at : ℕ → List ℕ → Option ℕ × ℕ
behind_at count rest = if nat_lt (length rest) count then (None, 1)
    else (Some (le_number (take count rest)), 1 + count)

abbrev pub lenenc_at : List ℕ → Option ℕ × ℕ
lenenc_at [] = (None, 0)
lenenc_at (first ∷ rest) =
    if nat_lt first 251 then (Some first, 1)
    else (if nat_eq first 0xfc then behind_at 2 rest
    else (if nat_eq first 0xfd then behind_at 3 rest
    else (if nat_eq first 0xfe then behind_at 8 rest
    else (if nat_eq first 0xfb then (Some 0, 1)
    else (if nat_eq first 0xff then (Some 0, 1) else (None, 1))))))

-- a text after a length that was answered so
abbrev pub text_behind : Option ℕ × ℕ → List ℕ → Option (List ℕ) × ℕ
text_behind (None, eaten) old = (None, eaten)
text_behind (Some len, eaten) old =
    if nat_lt (length (drop eaten old)) len then (None, eaten)
    else (Some (take len (drop eaten old)), eaten + len)

-- the outcome is one that a reader may have
abbrev pub Outcome : (List ℕ → Option ℕ → List ℕ → Type 0) → List ℕ → Option ℕ × ℕ → Type 0
Outcome reads old (answer, eaten) = (eaten ≤ length old) × reads old answer (drop eaten old)

behind_at-is : (first count : ℕ) (rest : List ℕ) → count_behind first ≡ count
    → ((n : ℕ) (bytes : List ℕ) → IsBehind first count n bytes → IsLenenc n bytes)
    → Outcome (ReadsNumber IsLenencOrMark 1) (first ∷ rest) (behind_at count rest)
behind_at-is first count rest behind form = elim (cases_lt (length rest) count) [
  | inl short ↦
      rw (lt-ltb (length rest) count short) (
        omega arith,
        reads_behind first count (first ∷ rest) rest None rest refl behind form (short, refl),
      )
  | inr there ↦
      let place : suc count ≡ 1 + count = omega arith in
      rw (le-ltb (length rest) count there) (
        omega (arith, there),
        subst (λ n. EatsSpelling IsLenencOrMark (first ∷ rest) (le_number (take count rest))
            (drop n (first ∷ rest))) place
            (reads_behind first count (first ∷ rest) rest (Some (le_number (take count rest)))
            (drop count rest) refl behind form (there, refl, refl)),
      )
]

-- the first bytes of spellings
abbrev IsFirst : ℕ → Type 0
IsFirst first = (first < 251) ⊎ (first ≡ 0xfc) ⊎ (first ≡ 0xfd) ⊎ (first ≡ 0xfe) ⊎ (first ≡ 0xfb)
    ⊎ (first ≡ 0xff)

is_first : (n : ℕ) (bytes : List ℕ) → IsLenencOrMark n bytes
    → (first : ℕ) × (rest : List ℕ) × (bytes ≡ first ∷ rest) × IsFirst first
is_first n bytes (inl (inl (is, low))) = (n, [], is, inl low)
is_first n bytes (inl (inr (inl (rest, is, _, _)))) = (0xfc, rest, is, inr (inl refl))
is_first n bytes (inl (inr (inr (inl (rest, is, _, _))))) = (0xfd, rest, is, inr (inr (inl refl)))
is_first n bytes (inl (inr (inr (inr (rest, is, _, _))))) =
    (0xfe, rest, is, inr (inr (inr (inl refl))))
is_first n bytes (inr (_, inl is)) = (0xfb, [], is, inr (inr (inr (inr (inl refl)))))
is_first n bytes (inr (_, inr is)) = (0xff, [], is, inr (inr (inr (inr (inr refl)))))

no_first : (first : ℕ) → 251 ≤ first → first ≢ 0xfc → first ≢ 0xfd → first ≢ 0xfe → first ≢ 0xfb
    → first ≢ 0xff → ¬ IsFirst first
no_first first high a b c d e (inl low) = omega (arith, high, low)
no_first first high a b c d e (inr (inl is)) = a is
no_first first high a b c d e (inr (inr (inl is))) = b is
no_first first high a b c d e (inr (inr (inr (inl is)))) = c is
no_first first high a b c d e (inr (inr (inr (inr (inl is))))) = d is
no_first first high a b c d e (inr (inr (inr (inr (inr is))))) = e is

nothing_at : (first : ℕ) (rest : List ℕ) → ¬ IsFirst first
    → SpellsNothing IsLenencOrMark (first ∷ rest)
nothing_at first rest none n new (spelling, is, whole) =
    let (f, s, left, begins) = is_first n spelling is in
    let e : first ∷ rest ≡ f ∷ (s ++ new) = whole ∙ ap (λ l. l ++ new) left in
    let same : f ≡ first = sym (cc e) in
    none (subst IsFirst same begins)

-- so a reader may answer
pub lenenc_at-is : (old : List ℕ) → Outcome (ReadsNumber IsLenencOrMark 1) old (lenenc_at old)
lenenc_at-is [] = (omega arith, (nothing_in-nil, refl))
lenenc_at-is (first ∷ rest) = elim (cases_lt first 251) [
  | inl low ↦ rw (lt-ltb first 251 low) (omega arith, reads_byte (first ∷ rest) first rest refl low)
  | inr high ↦ elim (cases_eq first 0xfc) [
    | inl a ↦ rw (le-ltb first 251 high, eq-eqb first 0xfc a)
        (behind_at-is first 2 rest (ap count_behind a)
        (λ n bytes form. inr (inl (subst (λ f. IsBehind f 2 n bytes) a form))))
    | inr a ↦ elim (cases_eq first 0xfd) [
      | inl b ↦ rw (le-ltb first 251 high, ne_eqb first 0xfc a, eq-eqb first 0xfd b)
          (behind_at-is first 3 rest (ap count_behind b)
          (λ n bytes form. inr (inr (inl (subst (λ f. IsBehind f 3 n bytes) b form)))))
      | inr b ↦ elim (cases_eq first 0xfe) [
        | inl c ↦ rw (
          le-ltb first 251 high,
          ne_eqb first 0xfc a,
          ne_eqb first 0xfd b,
          eq-eqb first 0xfe c,
        )
            (behind_at-is first 8 rest (ap count_behind c)
            (λ n bytes form. inr (inr (inr (subst (λ f. IsBehind f 8 n bytes) c form)))))
        | inr c ↦ elim (cases_eq first 0xfb) [
          | inl d ↦ rw (
            le-ltb first 251 high,
            ne_eqb first 0xfc a,
            ne_eqb first 0xfd b,
            ne_eqb first 0xfe c,
            eq-eqb first 0xfb d,
          )
              (omega arith, reads_mark (first ∷ rest) first rest refl (inl d))
          | inr d ↦ elim (cases_eq first 0xff) [
            | inl e ↦ rw (
              le-ltb first 251 high,
              ne_eqb first 0xfc a,
              ne_eqb first 0xfd b,
              ne_eqb first 0xfe c,
              ne_eqb first 0xfb d,
              eq-eqb first 0xff e,
            )
                (omega arith, reads_mark (first ∷ rest) first rest refl (inr e))
            | inr e ↦ rw (
              le-ltb first 251 high,
              ne_eqb first 0xfc a,
              ne_eqb first 0xfd b,
              ne_eqb first 0xfe c,
              ne_eqb first 0xfb d,
              ne_eqb first 0xff e,
            )
                (omega arith, (nothing_at first rest (no_first first high a b c d e), refl))
          ]
        ]
      ]
    ]
  ]
]

pub fixed_at-is : (count : ℕ) (old : List ℕ)
    → Outcome (ReadsNumber (IsFixed count) 0) old (fixed_at count old)
fixed_at-is count old = elim (cases_lt (length old) count) [
  | inl short ↦ rw (lt-ltb (length old) count short)
      (omega arith, ReadsNumber-fixed count old None old (short, refl))
  | inr there ↦ rw (le-ltb (length old) count there) (
    there,
    ReadsNumber-fixed count old (Some (le_number (take count old))) (drop count old)
        (there, refl, refl),
  )
]

-- and of a text
text_behind-from : (spells : ℕ → List ℕ → Type 0) (lost : ℕ) (old : List ℕ) (len : Option ℕ)
    (eaten : ℕ)
    → Outcome (ReadsNumber spells lost) old (len, eaten)
    → ((text_behind (len, eaten) old).1 ≤ length old)
    × ReadsText spells lost old (text_behind (len, eaten) old).0
    (drop (text_behind (len, eaten) old).1 old)
text_behind-from spells lost old None eaten (fits, read) = (fits, inl read)
text_behind-from spells lost old (Some len) eaten (fits, read) =
    elim (cases_lt (length (drop eaten old)) len) [
      | inl short ↦ rw (lt-ltb (length (drop eaten old)) len short) (fits, inr (len, read, short))
      | inr there ↦
          let rest : drop len (drop eaten old) ≡ drop (eaten + len) old = drop-drop len eaten old in
          rw (le-ltb (length (drop eaten old)) len there) (
            omega (arith, fits, there, length-drop eaten old),
            EatsText-take spells old (drop eaten old) (take len (drop eaten old))
                (drop (eaten + len) old) len read there refl (sym rest),
          )
    ]

pub text_behind-is : (spells : ℕ → List ℕ → Type 0) (lost : ℕ) (old : List ℕ)
    (outcome : Option ℕ × ℕ)
    → Outcome (ReadsNumber spells lost) old outcome
    → ((text_behind outcome old).1 ≤ length old)
    × ReadsText spells lost old (text_behind outcome old).0 (drop (text_behind outcome old).1 old)
text_behind-is spells lost old (len, eaten) is = text_behind-from spells lost old len eaten is

-- ---- and no reader may answer otherwise

pub lenenc_at-only : (old : List ℕ) (answer : Option ℕ) (new : List ℕ)
    → ReadsNumber IsLenencOrMark 1 old answer new
    → (answer ≡ (lenenc_at old).0) × (new ≡ drop (lenenc_at old).1 old)
lenenc_at-only old answer new read =
    ReadsNumber-same IsLenencOrMark IsLenencOrMark-free 1 old answer (lenenc_at old).0 new
    (drop (lenenc_at old).1 old) read (lenenc_at-is old).1

pub text_behind-only : (spells : ℕ → List ℕ → Type 0) → IsPrefixFree spells
    → (lost : ℕ) (old : List ℕ) (outcome : Option ℕ × ℕ)
    → Outcome (ReadsNumber spells lost) old outcome → (answer : Option (List ℕ)) (new : List ℕ)
    → ReadsText spells lost old answer new
    → (answer ≡ (text_behind outcome old).0) × (new ≡ drop (text_behind outcome old).1 old)
text_behind-only spells free lost old outcome is answer new read =
    ReadsText-same spells free lost old answer (text_behind outcome old).0 new
    (drop (text_behind outcome old).1 old) read (text_behind-is spells lost old outcome is).1
