-- What a payload is, by the byte that stands first.
use Rattle.std.proofs.Common.{ℕ, ◌≡◌, Bool, true, false, List, [], ◌∷◌, Option, Some, None, Result, Ok, Err, nat_eq, refl, take, rules, arith}
use Rattle.std.specs.List.{slice_get}
use Rattle.wire_buf.specs.Reading.{Parses}
use Rattle.wire_forms.specs.Constants.{ReadsConst}
use Rattle.mysql_wire_parts.specs.Places.{BeginsWith, IsOther, ReadsWhole, is_among}
use Rattle.mysql_wire_parts.specs.declared.places.PayloadError.{PayloadError}
use Rattle.mysql_wire_parts.specs.declared.places.PayloadError.TheVariants.{Refused, Trailing, OtherHeader, OtherSpelling}
use Rattle.wire_buf.specs.declared.error.WireError.TheVariants.{UnexpectedEof}

-- the byte that stands first is the one that the payload begins with
pub one_first : (payload : List ℕ) {byte : ℕ} (a : ℕ) → Some byte ≡ slice_get payload 0
    → BeginsWith a payload → byte ≡ a
one_first [] a first at = search rules
one_first (x ∷ xs) a first at = search rules

pub first_begins : (payload : List ℕ) {byte : ℕ} (a : ℕ) → Some byte ≡ slice_get payload 0
    → byte ≡ a → BeginsWith a payload
first_begins [] a first is = search rules
first_begins (x ∷ xs) a first is = search rules

-- so it begins with no other byte
pub other_first : {X : Type 0} (payload : List ℕ) {byte n : ℕ} (a : ℕ)
    → Some byte ≡ slice_get payload 0 → byte ≡ n → nat_eq n a ≡ false → BeginsWith a payload → X
other_first payload {byte = byte} a first is differs at =
    let same : byte ≡ a = one_first payload a first at in grind (arith, same)

-- where none stands first the payload is empty, and begins with no byte
pub no_first : (payload : List ℕ) → ◌≡◌ {A = Option ℕ} None (slice_get payload 0)
    → take 1 payload ≡ []
no_first [] first = refl
no_first (x ∷ xs) first = search rules

pub none_first : {X : Type 0} (payload : List ℕ) (a : ℕ)
    → ◌≡◌ {A = Option ℕ} None (slice_get payload 0) → BeginsWith a payload → X
none_first [] a first at = search rules
none_first (x ∷ xs) a first at = search rules

-- one of the headers stands first, which asks for no refusal
pub header_first : {Y : Type 0} (payload : List ℕ) {byte n : ℕ} (headers : List ℕ)
    (result : Result Y PayloadError) → Some byte ≡ slice_get payload 0 → byte ≡ n
    → is_among n headers ≡ true → IsOther headers payload result
header_first [] headers result first is among = search rules
header_first (x ∷ xs) headers result first is among = λ other. search rules

-- another byte stands first, and is refused
pub no_header_first : {Y : Type 0} (payload : List ℕ) {byte : ℕ} (headers : List ℕ)
    → Some byte ≡ slice_get payload 0 → (result : Result Y PayloadError)
    → result ≡ Err (OtherHeader byte) → IsOther headers payload result
no_header_first [] headers first result is = search rules
no_header_first (x ∷ xs) headers first result is = λ other. search rules

-- none does, and the end is refused
pub no_byte_first : {Y : Type 0} (payload : List ℕ) (headers : List ℕ)
    → ◌≡◌ {A = Option ℕ} None (slice_get payload 0) → (result : Result Y PayloadError)
    → result ≡ Err (Refused UnexpectedEof) → IsOther headers payload result
no_byte_first [] headers first result is = is
no_byte_first (x ∷ xs) headers first result is = search rules

-- a packet that is one byte is read as well from all of the payload, where the byte stands first
pub one_byte : {X : Type 0} (payload : List ℕ) {byte : ℕ} (a : ℕ) (result : Result X PayloadError)
    → Some byte ≡ slice_get payload 0 → byte ≡ a
    → ReadsWhole (Parses (Some 1) (ReadsConst 1 (a ∷ []))) payload result
    → ReadsWhole (ReadsConst 1 (a ∷ [])) payload result
one_byte payload a (Ok packet) first is read =
    let begins = first_begins payload a first is in search (rules, begins)
one_byte payload a (Err (Refused error)) first is read =
    let begins = first_begins payload a first is in search (rules, begins)
one_byte payload a (Err (Trailing count)) first is read =
    let begins = first_begins payload a first is in search (rules, begins)
one_byte payload a (Err (OtherHeader other)) first is read = absurd read
one_byte payload a (Err OtherSpelling) first is read = absurd read

-- the first where the test holds, and else the second
abbrev pub When : Bool → Type 0 → Type 0 → Type 0
When true A B = A
When false A B = B
