-- Dates and times are read back, and written as they stood.
use Rattle.std.specs.Prelude.{ℕ, ◌≡◌, ◌≤◌, ◌<◌, ◌^◌, List, [], ◌∷◌, ◌++◌, length, take, drop, slice_index, Result, Ok, Err}
use Rattle.std.proofs.Common.{zero, suc, inl, inr, refl, sym, ap, subst, ◌∙◌, arith}
use Rattle.std.proofs.lemmas.Bool.{cases_lt, le-ltb, lt-ltb}
use Rattle.std.proofs.lemmas.List.{length-append, length-take-le, take_at, take-take}
use Rattle.wire_buf.specs.declared.error.WireError.{WireError}
use Rattle.wire_buf.specs.declared.error.WireError.TheVariants.{UnexpectedEof, InvalidData}
use Rattle.wire_buf.specs.declared.error.InvalidReason.TheVariants.{UnknownValue}
use Rattle.wire_repr.specs.Law.{ComesBack}
use Rattle.wire_buf.specs.Numbers.{le_bytes, IsBytes}
use Rattle.wire_buf.specs.NumberLemmas.{le_bytes-le_number, le_number-le_bytes_fits, IsBytes-cons, IsBytes-nil}
use Rattle.wire_buf.specs.Reading.{Answers}
use Rattle.mysql_wire_statements.specs.Fronts.{take_are}
use Rattle.mysql_wire_statements.specs.TemporalValues.{behind, clock_bytes, date_bytes, date_micros_at, day_at, micros_at, day_bytes, seconds_at, span_at, span_bytes, time_bytes, time_micros_at, ReadsDate, ReadsTime}
use Rattle.mysql_wire_statements.specs.declared.temporal.Day.{Day}
use Rattle.mysql_wire_statements.specs.declared.temporal.Span.{Span}
use Rattle.mysql_wire_statements.specs.declared.temporal.BinaryDate.{BinaryDate}
use Rattle.mysql_wire_statements.specs.declared.temporal.BinaryDate.TheVariants as date
use Rattle.mysql_wire_statements.specs.declared.temporal.BinaryTime.{BinaryTime}
use Rattle.mysql_wire_statements.specs.declared.temporal.BinaryTime.TheVariants as time

-- the numbers are those of their types
abbrev pub IsDate : BinaryDate → Type 0
IsDate date.Zero = Unit {0}
IsDate (date.Date day) = day.year < 2 ^ 16
IsDate (date.Seconds day clock) = day.year < 2 ^ 16
IsDate (date.Micros day clock micros) = (day.year < 2 ^ 16) × (micros < 2 ^ 32)

abbrev pub IsTime : BinaryTime → Type 0
IsTime time.Zero = Unit {0}
IsTime (time.Seconds span) = span.days < 2 ^ 32
IsTime (time.Micros span micros) = (span.days < 2 ^ 32) × (micros < 2 ^ 32)

-- ---- lemmas

-- what is answered where the bytes are there, and where they are not
pub behind_ok : {X : Type 0} (count : ℕ) (value : List ℕ → X) (input : List ℕ) (x : X)
    → suc count ≤ length input → x ≡ value (take (suc count) input)
    → Answers (behind count value input) (Ok x) (suc count)
behind_ok count value input x there is =
    rw (le-ltb (length input) (suc count) there) (ap Ok is, refl)

pub behind_none : {X : Type 0} (count : ℕ) (value : List ℕ → X) (input : List ℕ)
    → length input < suc count → Answers (behind count value input) (Err UnexpectedEof) 0
behind_none count value input short = rw (lt-ltb (length input) (suc count) short) (refl, refl)

pub heads : (a b : ℕ) → a ∷ [] ≡ b ∷ [] → a ≡ b
heads a b is = cc is

pub empty_head : (a : ℕ) → a ∷ [] ≡ [] → ⊥
empty_head a is = cc is

pub one_there : (input : List ℕ) (a : ℕ) → take 1 input ≡ a ∷ [] → 1 ≤ length input
one_there [] a is = cc is
one_there (x ∷ xs) a is = omega arith

-- where the value of the bytes that are written is this one, it is answered
behind-back : {X : Type 0} (count : ℕ) (value : List ℕ → X) (bytes rest : List ℕ) (x : X)
    → length bytes ≡ suc count → value bytes ≡ x → (answer : Result X WireError) (eaten : ℕ)
    → Answers (behind count value (bytes ++ rest)) answer eaten
    → Answers (Ok x, length bytes) answer eaten
behind-back count value bytes rest x len is answer eaten read =
    let there : suc count ≤ length (bytes ++ rest) =
    omega (arith, len, length-append bytes rest) in
    let (answered, ate) = rw (
      le-ltb (length (bytes ++ rest)) (suc count) there,
      take_at bytes rest (suc count) len,
    ) at read in
    (answered ∙ ap Ok is, ate ∙ sym len)

day-back : (day : Day) (mark : ℕ) (more : List ℕ) → day.year < 2 ^ 16
    → day_at (mark ∷ (day_bytes day ++ more)) ≡ day
day-back day mark more fits =
    ap (λ year. record { year = year; month = day.month; day = day.day })
    (le_number-le_bytes_fits 2 day.year fits)

-- the one that is answered is the one that comes back
answered-back : {X : Type 0} (x : X) (len : ℕ) (answer : Result X WireError) (eaten : ℕ)
    → Answers (Ok x, len) answer eaten → ComesBack (λ back. back ≡ x) ⊥ len answer eaten
answered-back x len (Ok back) eaten (answered, ate) =
    let is : back ≡ x = cc answered in
    (is, ate)
answered-back {X = X} x len (Err error) eaten (answered, ate) =
    let is : ◌≡◌ {A = Result X WireError} (Err error) (Ok x) = answered in
    cc is

-- a date comes back
date_answers : (date : BinaryDate) (rest : List ℕ) → IsDate date
    → (answer : Result BinaryDate WireError) (eaten : ℕ)
    → ReadsDate (date_bytes date ++ rest) answer eaten
    → Answers (Ok date, length (date_bytes date)) answer eaten
date_answers date.Zero rest is answer eaten (inl (at, _)) = absurd (empty_head 0 at)
date_answers date.Zero rest is answer eaten (inr (inl (at, read))) = read
date_answers date.Zero rest is answer eaten (inr (inr (inl (at, _)))) = absurd (omega (arith, heads 0 4 at))
date_answers date.Zero rest is answer eaten (inr (inr (inr (inl (at, _))))) = absurd (omega (arith, heads 0 7 at))
date_answers date.Zero rest is answer eaten (inr (inr (inr (inr (inl (at, _)))))) = absurd (omega (arith, heads 0 11 at))
date_answers date.Zero rest is answer eaten (inr (inr (inr (inr (inr (some, not_0, not_4, not_7, not_11, _)))))) = absurd (not_0 refl)
date_answers (date.Date day) rest is answer eaten (inl (at, _)) = absurd (empty_head 4 at)
date_answers (date.Date day) rest is answer eaten (inr (inl (at, _))) = absurd (omega (arith, heads 4 0 at))
date_answers (date.Date day) rest is answer eaten (inr (inr (inl (at, read)))) = behind-back 4 (λ b. date.Date (day_at b)) (date_bytes (date.Date day)) rest (date.Date day) refl (ap date.Date (day-back day 4 [] is)) answer eaten read
date_answers (date.Date day) rest is answer eaten (inr (inr (inr (inl (at, _))))) = absurd (omega (arith, heads 4 7 at))
date_answers (date.Date day) rest is answer eaten (inr (inr (inr (inr (inl (at, _)))))) = absurd (omega (arith, heads 4 11 at))
date_answers (date.Date day) rest is answer eaten (inr (inr (inr (inr (inr (some, not_0, not_4, not_7, not_11, _)))))) = absurd (not_4 refl)
date_answers (date.Seconds day clock) rest is answer eaten (inl (at, _)) = absurd (empty_head 7 at)
date_answers (date.Seconds day clock) rest is answer eaten (inr (inl (at, _))) = absurd (omega (arith, heads 7 0 at))
date_answers (date.Seconds day clock) rest is answer eaten (inr (inr (inl (at, _)))) = absurd (omega (arith, heads 7 4 at))
date_answers (date.Seconds day clock) rest is answer eaten (inr (inr (inr (inl (at, read))))) = behind-back 7 seconds_at (date_bytes (date.Seconds day clock)) rest (date.Seconds day clock) refl (ap (λ day. date.Seconds day clock) (day-back day 7 (clock_bytes clock) is)) answer eaten read
date_answers (date.Seconds day clock) rest is answer eaten (inr (inr (inr (inr (inl (at, _)))))) = absurd (omega (arith, heads 7 11 at))
date_answers (date.Seconds day clock) rest is answer eaten (inr (inr (inr (inr (inr (some, not_0, not_4, not_7, not_11, _)))))) = absurd (not_7 refl)
date_answers (date.Micros day clock micros) rest is answer eaten (inl (at, _)) = absurd (empty_head 11 at)
date_answers (date.Micros day clock micros) rest is answer eaten (inr (inl (at, _))) = absurd (omega (arith, heads 11 0 at))
date_answers (date.Micros day clock micros) rest is answer eaten (inr (inr (inl (at, _)))) = absurd (omega (arith, heads 11 4 at))
date_answers (date.Micros day clock micros) rest is answer eaten (inr (inr (inr (inl (at, _))))) = absurd (omega (arith, heads 11 7 at))
date_answers (date.Micros day clock micros) rest is answer eaten (inr (inr (inr (inr (inl (at, read)))))) = behind-back 11 date_micros_at (date_bytes (date.Micros day clock micros)) rest (date.Micros day clock micros) refl (ap (λ day. date.Micros day clock (micros_at 8 (date_bytes (date.Micros day clock micros)))) (day-back day 11 (clock_bytes clock ++ le_bytes 4 micros) is.0) ∙ ap (λ micros. date.Micros day clock micros) (le_number-le_bytes_fits 4 micros is.1)) answer eaten read
date_answers (date.Micros day clock micros) rest is answer eaten (inr (inr (inr (inr (inr (some, not_0, not_4, not_7, not_11, _)))))) = absurd (not_11 refl)

pub date-back : (date : BinaryDate) (rest : List ℕ) → IsDate date
    → (answer : Result BinaryDate WireError) (eaten : ℕ)
    → ReadsDate (date_bytes date ++ rest) answer eaten
    → ComesBack (λ back. back ≡ date) ⊥ (length (date_bytes date)) answer eaten
date-back date rest is answer eaten read = answered-back date (length (date_bytes date)) answer eaten
    (date_answers date rest is answer eaten read)

-- a time comes back
span-back : (span : Span) (mark : ℕ) (more : List ℕ) → span.days < 2 ^ 32
    → span_at (mark ∷ (span_bytes span ++ more)) ≡ span
span-back span mark more fits =
    ap (λ days. record { sign = span.sign; days = days; clock = span.clock })
    (le_number-le_bytes_fits 4 span.days fits)

time_answers : (time : BinaryTime) (rest : List ℕ) → IsTime time
    → (answer : Result BinaryTime WireError) (eaten : ℕ)
    → ReadsTime (time_bytes time ++ rest) answer eaten
    → Answers (Ok time, length (time_bytes time)) answer eaten
time_answers time.Zero rest is answer eaten (inl (at, _)) = absurd (empty_head 0 at)
time_answers time.Zero rest is answer eaten (inr (inl (at, read))) = read
time_answers time.Zero rest is answer eaten (inr (inr (inl (at, _)))) = absurd (omega (arith, heads 0 8 at))
time_answers time.Zero rest is answer eaten (inr (inr (inr (inl (at, _))))) = absurd (omega (arith, heads 0 12 at))
time_answers time.Zero rest is answer eaten (inr (inr (inr (inr (some, not_0, not_8, not_12, _))))) = absurd (not_0 refl)
time_answers (time.Seconds span) rest is answer eaten (inl (at, _)) = absurd (empty_head 8 at)
time_answers (time.Seconds span) rest is answer eaten (inr (inl (at, _))) = absurd (omega (arith, heads 8 0 at))
time_answers (time.Seconds span) rest is answer eaten (inr (inr (inl (at, read)))) = behind-back 8 (λ b. time.Seconds (span_at b)) (time_bytes (time.Seconds span)) rest (time.Seconds span) refl (ap time.Seconds (span-back span 8 [] is)) answer eaten read
time_answers (time.Seconds span) rest is answer eaten (inr (inr (inr (inl (at, _))))) = absurd (omega (arith, heads 8 12 at))
time_answers (time.Seconds span) rest is answer eaten (inr (inr (inr (inr (some, not_0, not_8, not_12, _))))) = absurd (not_8 refl)
time_answers (time.Micros span micros) rest is answer eaten (inl (at, _)) = absurd (empty_head 12 at)
time_answers (time.Micros span micros) rest is answer eaten (inr (inl (at, _))) = absurd (omega (arith, heads 12 0 at))
time_answers (time.Micros span micros) rest is answer eaten (inr (inr (inl (at, _)))) = absurd (omega (arith, heads 12 8 at))
time_answers (time.Micros span micros) rest is answer eaten (inr (inr (inr (inl (at, read))))) = behind-back 12 time_micros_at (time_bytes (time.Micros span micros)) rest (time.Micros span micros) refl (ap (λ span. time.Micros span (micros_at 9 (time_bytes (time.Micros span micros)))) (span-back span 12 (le_bytes 4 micros) is.0) ∙ ap (λ micros. time.Micros span micros) (le_number-le_bytes_fits 4 micros is.1)) answer eaten read
time_answers (time.Micros span micros) rest is answer eaten (inr (inr (inr (inr (some, not_0, not_8, not_12, _))))) = absurd (not_12 refl)

pub time-back : (time : BinaryTime) (rest : List ℕ) → IsTime time
    → (answer : Result BinaryTime WireError) (eaten : ℕ)
    → ReadsTime (time_bytes time ++ rest) answer eaten
    → ComesBack (λ back. back ≡ time) ⊥ (length (time_bytes time)) answer eaten
time-back time rest is answer eaten read = answered-back time (length (time_bytes time)) answer eaten
    (time_answers time rest is answer eaten read)

-- ---- what was read is written as it stood

behind_short : {X : Type 0} (count : ℕ) (value : List ℕ → X) (input : List ℕ) (x : X) (eaten : ℕ)
    → length input < suc count → Answers (behind count value input) (Ok x) eaten → ⊥
behind_short {X = X} count value input x eaten short read =
    let (answered, ate) = rw (lt-ltb (length input) (suc count) short) at read in
    let is : ◌≡◌ {A = Result X WireError} (Ok x) (Err UnexpectedEof) = answered in
    cc is

behind_there : {X : Type 0} (count : ℕ) (value : List ℕ → X) (input : List ℕ) (x : X) (eaten : ℕ)
    → suc count ≤ length input → Answers (behind count value input) (Ok x) eaten
    → (suc count ≤ length input) × (x ≡ value (take (suc count) input)) × (eaten ≡ suc count)
behind_there count value input x eaten there read =
    let (answered, ate) = rw (le-ltb (length input) (suc count) there) at read in
    let is : x ≡ value (take (suc count) input) = cc answered in
    (there, is, ate)

behind_read : {X : Type 0} (count : ℕ) (value : List ℕ → X) (input : List ℕ) (x : X) (eaten : ℕ)
    → Answers (behind count value input) (Ok x) eaten
    → (suc count ≤ length input) × (x ≡ value (take (suc count) input)) × (eaten ≡ suc count)
behind_read count value input x eaten read = elim (cases_lt (length input) (suc count)) [
  | inl short ↦ absurd (behind_short count value input x eaten short read)
  | inr there ↦ behind_there count value input x eaten there read
]

-- the items of a list of this many
abbrev listed : ℕ → List ℕ → List ℕ
listed zero items = []
listed (suc count) items = slice_index items 0 ∷ listed count (drop 1 items)

listed-is : (count : ℕ) (items : List ℕ) → length items ≡ count → items ≡ listed count items
listed-is zero [] len = refl
listed-is zero (item ∷ items) len = absurd (omega (arith, len))
listed-is (suc count) [] len = absurd (omega (arith, len))
listed-is (suc count) (item ∷ items) len =
    ap (λ items. item ∷ items) (listed-is count items (omega (arith, len)))

two_are : (a b : ℕ) → a < 256 → b < 256 → IsBytes (a ∷ b ∷ [])
two_are a b is_a is_b = IsBytes-cons a (b ∷ []) is_a (IsBytes-cons b [] is_b IsBytes-nil)

four_are : (a b c d : ℕ) → a < 256 → b < 256 → c < 256 → d < 256 → IsBytes (a ∷ b ∷ c ∷ d ∷ [])
four_are a b c d is_a is_b is_c is_d = IsBytes-cons a (b ∷ c ∷ d ∷ []) is_a
    (IsBytes-cons b (c ∷ d ∷ []) is_b (two_are c d is_c is_d))

day_again : (a b c d e : ℕ) (more : List ℕ) → IsBytes (a ∷ b ∷ c ∷ d ∷ e ∷ more)
    → day_bytes (day_at (a ∷ b ∷ c ∷ d ∷ e ∷ more)) ≡ b ∷ c ∷ d ∷ e ∷ []
day_again a b c d e more are = ap (λ year. year ++ d ∷ e ∷ [])
    (le_bytes-le_number (b ∷ c ∷ []) (two_are b c (are 1) (are 2)))

date_again : (a b c d e : ℕ) → IsBytes (a ∷ b ∷ c ∷ d ∷ e ∷ []) → a ∷ [] ≡ 4 ∷ []
    → date_bytes (date.Date (day_at (a ∷ b ∷ c ∷ d ∷ e ∷ []))) ≡ a ∷ b ∷ c ∷ d ∷ e ∷ []
date_again a b c d e are at = ap (λ day. 4 ∷ day) (day_again a b c d e [] are)
    ∙ ap (λ mark. mark ∷ b ∷ c ∷ d ∷ e ∷ []) (sym (heads a 4 at))

seconds_again : (a b c d e f g h : ℕ) → IsBytes (a ∷ b ∷ c ∷ d ∷ e ∷ f ∷ g ∷ h ∷ [])
    → a ∷ [] ≡ 7 ∷ []
    → date_bytes (seconds_at (a ∷ b ∷ c ∷ d ∷ e ∷ f ∷ g ∷ h ∷ []))
    ≡ a ∷ b ∷ c ∷ d ∷ e ∷ f ∷ g ∷ h ∷ []
seconds_again a b c d e f g h are at =
    ap (λ day. 7 ∷ (day ++ f ∷ g ∷ h ∷ [])) (day_again a b c d e (f ∷ g ∷ h ∷ []) are)
    ∙ ap (λ mark. mark ∷ b ∷ c ∷ d ∷ e ∷ f ∷ g ∷ h ∷ []) (sym (heads a 7 at))

date_micros_again : (a b c d e f g h i j k l : ℕ)
    → IsBytes (a ∷ b ∷ c ∷ d ∷ e ∷ f ∷ g ∷ h ∷ i ∷ j ∷ k ∷ l ∷ []) → a ∷ [] ≡ 11 ∷ []
    → date_bytes (date_micros_at (a ∷ b ∷ c ∷ d ∷ e ∷ f ∷ g ∷ h ∷ i ∷ j ∷ k ∷ l ∷ []))
    ≡ a ∷ b ∷ c ∷ d ∷ e ∷ f ∷ g ∷ h ∷ i ∷ j ∷ k ∷ l ∷ []
date_micros_again a b c d e f g h i j k l are at =
    let micros = le_bytes-le_number (i ∷ j ∷ k ∷ l ∷ [])
    (four_are i j k l (are 8) (are 9) (are 10) (are 11)) in
    let day = day_again a b c d e (f ∷ g ∷ h ∷ i ∷ j ∷ k ∷ l ∷ []) are in
    ap (λ micros. 11 ∷ (day_bytes (day_at (a ∷ b ∷ c ∷ d ∷ e ∷ []))
    ++ (f ∷ g ∷ h ∷ [] ++ micros))) micros
    ∙ (ap (λ day. 11 ∷ (day ++ f ∷ g ∷ h ∷ i ∷ j ∷ k ∷ l ∷ [])) day
    ∙ ap (λ mark. mark ∷ b ∷ c ∷ d ∷ e ∷ f ∷ g ∷ h ∷ i ∷ j ∷ k ∷ l ∷ []) (sym (heads a 11 at)))

span_again : (a b c d e f g h i : ℕ) (more : List ℕ)
    → IsBytes (a ∷ b ∷ c ∷ d ∷ e ∷ f ∷ g ∷ h ∷ i ∷ more)
    → span_bytes (span_at (a ∷ b ∷ c ∷ d ∷ e ∷ f ∷ g ∷ h ∷ i ∷ more))
    ≡ b ∷ c ∷ d ∷ e ∷ f ∷ g ∷ h ∷ i ∷ []
span_again a b c d e f g h i more are = ap (λ days. b ∷ (days ++ g ∷ h ∷ i ∷ []))
    (le_bytes-le_number (c ∷ d ∷ e ∷ f ∷ []) (four_are c d e f (are 2) (are 3) (are 4) (are 5)))

time_again : (a b c d e f g h i : ℕ) → IsBytes (a ∷ b ∷ c ∷ d ∷ e ∷ f ∷ g ∷ h ∷ i ∷ [])
    → a ∷ [] ≡ 8 ∷ []
    → time_bytes (time.Seconds (span_at (a ∷ b ∷ c ∷ d ∷ e ∷ f ∷ g ∷ h ∷ i ∷ [])))
    ≡ a ∷ b ∷ c ∷ d ∷ e ∷ f ∷ g ∷ h ∷ i ∷ []
time_again a b c d e f g h i are at =
    ap (λ span. 8 ∷ span) (span_again a b c d e f g h i [] are)
    ∙ ap (λ mark. mark ∷ b ∷ c ∷ d ∷ e ∷ f ∷ g ∷ h ∷ i ∷ []) (sym (heads a 8 at))

time_micros_again : (a b c d e f g h i j k l m : ℕ)
    → IsBytes (a ∷ b ∷ c ∷ d ∷ e ∷ f ∷ g ∷ h ∷ i ∷ j ∷ k ∷ l ∷ m ∷ []) → a ∷ [] ≡ 12 ∷ []
    → time_bytes (time_micros_at (a ∷ b ∷ c ∷ d ∷ e ∷ f ∷ g ∷ h ∷ i ∷ j ∷ k ∷ l ∷ m ∷ []))
    ≡ a ∷ b ∷ c ∷ d ∷ e ∷ f ∷ g ∷ h ∷ i ∷ j ∷ k ∷ l ∷ m ∷ []
time_micros_again a b c d e f g h i j k l m are at =
    let micros = le_bytes-le_number (j ∷ k ∷ l ∷ m ∷ [])
    (four_are j k l m (are 9) (are 10) (are 11) (are 12)) in
    let span = span_again a b c d e f g h i (j ∷ k ∷ l ∷ m ∷ []) are in
    ap (λ micros. 12 ∷ (span_bytes (span_at (a ∷ b ∷ c ∷ d ∷ e ∷ f ∷ g ∷ h ∷ i ∷ [])) ++ micros))
    micros
    ∙ (ap (λ span. 12 ∷ (span ++ j ∷ k ∷ l ∷ m ∷ [])) span
    ∙ ap (λ mark. mark ∷ b ∷ c ∷ d ∷ e ∷ f ∷ g ∷ h ∷ i ∷ j ∷ k ∷ l ∷ m ∷ [])
    (sym (heads a 12 at)))

-- what was read of this many bytes is written as these, where it is for each list of this many
whole_again : {X : Type 0} (count mark : ℕ) (value : List ℕ → X) (bytes : X → List ℕ)
    (input : List ℕ) (x : X) (eaten : ℕ) → IsBytes input → take 1 input ≡ mark ∷ []
    → Answers (behind count value input) (Ok x) eaten
    → ((w : List ℕ) → length w ≡ suc count → IsBytes w → take 1 w ≡ mark ∷ []
    → bytes (value w) ≡ w)
    → bytes x ≡ take eaten input
whole_again count mark value bytes input x eaten are at read law =
    let (there, is, ate) = behind_read count value input x eaten read in
    let front : take 1 (take (suc count) input) ≡ mark ∷ [] =
    take-take 1 (suc count) input (omega arith) ∙ at in
    ap bytes is ∙ (law (take (suc count) input) (length-take-le (suc count) input there)
    (take_are (suc count) input are) front ∙ ap (λ n. take n input) (sym ate))

at_list : (count : ℕ) (P : List ℕ → Type 0) (w : List ℕ) → length w ≡ count → P (listed count w)
    → P w
at_list count P w len holds = subst P (sym (listed-is count w len)) holds

wholes_date : (w : List ℕ) → length w ≡ 5 → IsBytes w → take 1 w ≡ 4 ∷ []
    → date_bytes (date.Date (day_at w)) ≡ w
wholes_date w len =
    at_list 5 (λ w. IsBytes w → take 1 w ≡ 4 ∷ [] → date_bytes (date.Date (day_at w)) ≡ w) w len
    (date_again _ _ _ _ _)

wholes_seconds : (w : List ℕ) → length w ≡ 8 → IsBytes w → take 1 w ≡ 7 ∷ []
    → date_bytes (seconds_at w) ≡ w
wholes_seconds w len =
    at_list 8 (λ w. IsBytes w → take 1 w ≡ 7 ∷ [] → date_bytes (seconds_at w) ≡ w) w len
    (seconds_again _ _ _ _ _ _ _ _)

wholes_date_micros : (w : List ℕ) → length w ≡ 12 → IsBytes w → take 1 w ≡ 11 ∷ []
    → date_bytes (date_micros_at w) ≡ w
wholes_date_micros w len =
    at_list 12 (λ w. IsBytes w → take 1 w ≡ 11 ∷ [] → date_bytes (date_micros_at w) ≡ w) w len
    (date_micros_again _ _ _ _ _ _ _ _ _ _ _ _)

wholes_time : (w : List ℕ) → length w ≡ 9 → IsBytes w → take 1 w ≡ 8 ∷ []
    → time_bytes (time.Seconds (span_at w)) ≡ w
wholes_time w len =
    at_list 9 (λ w. IsBytes w → take 1 w ≡ 8 ∷ [] → time_bytes (time.Seconds (span_at w)) ≡ w) w len
    (time_again _ _ _ _ _ _ _ _ _)

wholes_time_micros : (w : List ℕ) → length w ≡ 13 → IsBytes w → take 1 w ≡ 12 ∷ []
    → time_bytes (time_micros_at w) ≡ w
wholes_time_micros w len =
    at_list 13 (λ w. IsBytes w → take 1 w ≡ 12 ∷ [] → time_bytes (time_micros_at w) ≡ w) w len
    (time_micros_again _ _ _ _ _ _ _ _ _ _ _ _ _)

refused : {X : Type 0} (x : X) (error : WireError) → ◌≡◌ {A = Result X WireError} (Ok x) (Err error) → ⊥
refused x error is = cc is

zero_law : {X : Type 0} (x zero_x : X) (bytes : X → List ℕ) (input : List ℕ) (eaten : ℕ)
    → bytes zero_x ≡ 0 ∷ [] → take 1 input ≡ 0 ∷ []
    → Answers {X = X} (Ok zero_x, 1) (Ok x) eaten → bytes x ≡ take eaten input
zero_law x zero_x bytes input eaten written at (answered, ate) =
    let is : x ≡ zero_x = cc answered in
    ap bytes is ∙ (written ∙ (sym at ∙ ap (λ n. take n input) (sym ate)))

pub date_law : (input : List ℕ) (x : BinaryDate) (eaten : ℕ) → IsBytes input
    → ReadsDate input (Ok x) eaten → date_bytes x ≡ take eaten input
date_law input x eaten are (inl (_, (answered, _))) = absurd (refused x UnexpectedEof answered)
date_law input x eaten are (inr (inl (at, read))) =
    zero_law x date.Zero date_bytes input eaten refl at read
date_law input x eaten are (inr (inr (inl (at, read)))) =
    whole_again 4 4 (λ b. date.Date (day_at b)) date_bytes input x eaten are at read wholes_date
date_law input x eaten are (inr (inr (inr (inl (at, read))))) =
    whole_again 7 7 seconds_at date_bytes input x eaten are at read wholes_seconds
date_law input x eaten are (inr (inr (inr (inr (inl (at, read)))))) =
    whole_again 11 11 date_micros_at date_bytes input x eaten are at read wholes_date_micros
date_law input x eaten are (inr (inr (inr (inr (inr (_, _, _, _, _, (answered, _))))))) =
    absurd (refused x (InvalidData UnknownValue) answered)

pub time_law : (input : List ℕ) (x : BinaryTime) (eaten : ℕ) → IsBytes input
    → ReadsTime input (Ok x) eaten → time_bytes x ≡ take eaten input
time_law input x eaten are (inl (_, (answered, _))) = absurd (refused x UnexpectedEof answered)
time_law input x eaten are (inr (inl (at, read))) =
    zero_law x time.Zero time_bytes input eaten refl at read
time_law input x eaten are (inr (inr (inl (at, read)))) =
    whole_again 8 8 (λ b. time.Seconds (span_at b)) time_bytes input x eaten are at read wholes_time
time_law input x eaten are (inr (inr (inr (inl (at, read))))) =
    whole_again 12 12 time_micros_at time_bytes input x eaten are at read wholes_time_micros
time_law input x eaten are (inr (inr (inr (inr (_, _, _, _, (answered, _)))))) =
    absurd (refused x (InvalidData UnknownValue) answered)
