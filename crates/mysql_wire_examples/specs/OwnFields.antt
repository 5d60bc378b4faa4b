-- A number and a text in representations of one's own, and that they are read back.
use Rattle.std.specs.Prelude.{ℕ, ◌≡◌, ◌≤◌, ◌<◌, ◌+◌, ◌^◌, List, ◌++◌, length, take, drop, reverse, Result, Ok, Err, nat_lt, if◌then◌else◌}
use Rattle.std.proofs.Common.{refl, ap, subst, ◌∙◌, arith}
use Rattle.std.proofs.lemmas.List.{take_at, drop_at, append_assoc, length-append, length-take, length-reverse}
use Rattle.std.proofs.lemmas.Bool.{le-ltb}
use Rattle.mysql_wire.specs.WireError.{WireError}
use Rattle.mysql_wire.specs.WireError.TheVariants.{UnexpectedEof}
use Rattle.mysql_wire.specs.Law.{ReadsFixed, ReadsFixed-back}
use Rattle.mysql_wire.specs.Numbers.{le_bytes, be_number}
use Rattle.mysql_wire.specs.NumberLemmas.{length-le_bytes, le_number-le_bytes_fits, be_number-reverse}
use Rattle.mysql_wire.specs.Reading.{Answers}

-- the two bytes of a number, the most significant first
abbrev pub be_u16_bytes : ℕ → List ℕ
be_u16_bytes n = reverse (le_bytes 2 n)

-- a text of at most 65535 bytes after its length, and of a longer one this many
abbrev pub u16_text_bytes : List ℕ → List ℕ
u16_text_bytes text = be_u16_bytes (length (take 65535 text)) ++ take 65535 text

-- What is answered where this stands after a length, and how many bytes are eaten, those of the
-- length with them.
abbrev pub text_behind_u16 : ℕ → List ℕ → Result (List ℕ) WireError × ℕ
text_behind_u16 len rest =
    if nat_lt (length rest) len then (Err UnexpectedEof, 2) else (Ok (take len rest), 2 + len)

-- what is answered to an input, and how many bytes of it are eaten
abbrev pub u16_text_at : List ℕ → Result (List ℕ) WireError × ℕ
u16_text_at input = if nat_lt (length input) 2 then (Err UnexpectedEof, 0) else text_behind_u16
    (be_number (take 2 input)) (drop 2 input)

-- ---- lemmas

pub length-be_u16_bytes : (n : ℕ) → length (be_u16_bytes n) ≡ 2
length-be_u16_bytes n = length-reverse (le_bytes 2 n) ∙ length-le_bytes 2 n

be_number-be_u16_bytes : (n : ℕ) → n < 2 ^ 16 → be_number (be_u16_bytes n) ≡ n
be_number-be_u16_bytes n fits = be_number-reverse (le_bytes 2 n) ∙ le_number-le_bytes_fits 2 n fits

pub be_u16_bytes-back : (n : ℕ) (rest : List ℕ) → n < 2 ^ 16
    → (answer : Result ℕ WireError) (eaten : ℕ)
    → ReadsFixed 2 be_number (be_u16_bytes n ++ rest) answer eaten
    → Answers (Ok n, length (be_u16_bytes n)) answer eaten
be_u16_bytes-back n rest fits =
    ReadsFixed-back 2 be_number (be_u16_bytes n) rest n (length-be_u16_bytes n)
    (be_number-be_u16_bytes n fits)

text_behind_u16-back : (text rest : List ℕ)
    → text_behind_u16 (length text) (text ++ rest) ≡ (Ok text, 2 + length text)
text_behind_u16-back text rest =
    let there : length text ≤ length (text ++ rest) = omega (arith, length-append text rest) in
    rw (le-ltb (length (text ++ rest)) (length text) there, take_at text rest (length text) refl)
    refl

u16_text_at-back : (front text rest : List ℕ) → length front ≡ 2 → be_number front ≡ length text
    → u16_text_at (front ++ (text ++ rest)) ≡ (Ok text, length (front ++ text))
u16_text_at-back front text rest two is =
    let there : 2 ≤ length (front ++ (text ++ rest)) =
    omega (arith, two, length-append front (text ++ rest)) in
    let all : 2 + length text ≡ length (front ++ text) =
    omega (arith, two, length-append front text) in
    rw (
      le-ltb (length (front ++ (text ++ rest))) 2 there,
      take_at front
          (text ++ rest) 2 two,
      drop_at front (text ++ rest) 2 two,
      is,
    )
    (text_behind_u16-back text rest ∙ ap (λ count. (Ok text, count)) all)

pub u16_text_bytes-back : (text rest : List ℕ) → (answer : Result (List ℕ) WireError) (eaten : ℕ)
    → Answers (u16_text_at (u16_text_bytes text ++ rest)) answer eaten
    → Answers (Ok (take 65535 text), length (u16_text_bytes text)) answer eaten
u16_text_bytes-back text rest answer eaten read =
    let cut = take 65535 text in
    let front = be_u16_bytes (length cut) in
    let few : length cut < 2 ^ 16 = omega (arith, length-take 65535 text) in
    let back = ap u16_text_at (append_assoc front cut rest) ∙ u16_text_at-back front cut rest
    (length-be_u16_bytes (length cut)) (be_number-be_u16_bytes (length cut) few) in
    subst (λ outcome. Answers outcome answer eaten) back read
