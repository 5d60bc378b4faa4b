-- A payload at a place of a connection.
use Rattle.std.specs.Prelude.{ℕ, ◌≡◌, ◌≢◌, ◌⊎◌, ◌<◌, ◌≤◌, ◌-◌, Bool, true, false, if◌then◌else◌, nat_lt, nat_eq, List, [], ◌∷◌, length, take, Result, Ok, Err}
use Rattle.wire_const.specs.FlagSets.{capability_flags_bits}
use Rattle.wire_const.specs.declared.flag_sets.capability.CapabilityFlags.{CapabilityFlags}
use Rattle.wire_buf.specs.declared.error.WireError.{WireError}
use Rattle.wire_buf.specs.declared.error.WireError.TheVariants.{UnexpectedEof, OutOfMemory}
use Rattle.mysql_wire_parts.specs.declared.places.PayloadError.{PayloadError}
use Rattle.mysql_wire_parts.specs.declared.places.PayloadError.TheVariants.{Refused, Trailing, OtherHeader, OtherSpelling}

-- the payload is one packet, read whole; or the packet's type refuses it; or bytes stand after it
abbrev pub ReadsWhole : {X : Type 0} → (List ℕ → Result X WireError → ℕ → Type 0) → List ℕ
    → Result X PayloadError → Type 0
ReadsWhole reads payload (Ok packet) = reads payload (Ok packet) (length payload)
ReadsWhole reads payload (Err (Refused error)) =
    (eaten : ℕ) × (eaten ≤ length payload) × reads payload (Err error) eaten
ReadsWhole {X = X} reads payload (Err (Trailing count)) = (packet : X) × (0 < count)
    × (count ≤ length payload) × reads payload (Ok packet) (length payload - count)
ReadsWhole reads payload (Err (OtherHeader byte)) = ⊥
ReadsWhole reads payload (Err OtherSpelling) = ⊥

-- the payload is one packet, and the bytes that this is written as; or it is one that is written as
-- others; or memory for these is refused; or it is refused as no packet
abbrev pub ReadsExact : {X : Type 0} → (List ℕ → Result X WireError → ℕ → Type 0) → (X → List ℕ)
    → List ℕ → Result X PayloadError → Type 0
ReadsExact reads bytes payload (Ok packet) =
    ReadsWhole reads payload (Ok packet) × (bytes packet ≡ payload)
ReadsExact {X = X} reads bytes payload (Err OtherSpelling) = (packet : X)
    × ReadsWhole reads payload (Ok packet) × (bytes packet ≢ payload)
ReadsExact {X = X} reads bytes payload (Err (Refused OutOfMemory)) =
    ((packet : X) × ReadsWhole reads payload (Ok packet))
    ⊎ ReadsWhole reads payload (Err (Refused OutOfMemory))
ReadsExact reads bytes payload (Err error) = ReadsWhole reads payload (Err error)

-- what is answered is made of such a packet
abbrev pub WrapsBy : {X Y : Type 0} → (X → Y → Type 0) → (Result X PayloadError → Type 0)
    → Result Y PayloadError → Type 0
WrapsBy {X = X} makes says (Ok answer) = (packet : X) × makes packet answer × says (Ok packet)
WrapsBy makes says (Err error) = says (Err error)

-- what is answered is such a packet, as this variant
abbrev pub Wraps : {X Y : Type 0} → (X → Y) → (Result X PayloadError → Type 0)
    → Result Y PayloadError → Type 0
Wraps {X = X} variant says (Ok answer) = (packet : X) × (answer ≡ variant packet)
    × says (Ok packet)
Wraps variant says (Err error) = says (Err error)

-- the payload is one such packet, which is answered as this variant
abbrev pub ReadsAs : {X Y : Type 0} → (X → Y) → (List ℕ → Result X WireError → ℕ → Type 0) → List ℕ
    → Result Y PayloadError → Type 0
ReadsAs variant reads payload = Wraps variant (ReadsWhole reads payload)

-- the same where no capabilities are in force
abbrev pub ReadsUnderNone : {X Y : Type 0} → (X → Y)
    → (CapabilityFlags → List ℕ → Result X WireError → ℕ → Type 0) → List ℕ
    → Result Y PayloadError → Type 0
ReadsUnderNone variant reads payload result = (none : CapabilityFlags)
    × (capability_flags_bits none ≡ 0) × ReadsAs variant (reads none) payload result

-- the payload's first byte is this one
abbrev pub BeginsWith : ℕ → List ℕ → Type 0
BeginsWith byte payload = take 1 payload ≡ byte ∷ []

-- or none of these
abbrev pub BeginsWithNone : List ℕ → List ℕ → Type 0
BeginsWithNone [] payload = Unit {0}
BeginsWithNone (byte ∷ bytes) payload = (¬ BeginsWith byte payload) × BeginsWithNone bytes payload

-- a payload that begins with fe is too short for a row
abbrev pub is_short : Bool → ℕ → Bool
is_short true len = nat_lt len 0xffffff
is_short false len = nat_lt len 9

-- the byte is one of the headers
abbrev pub is_among : ℕ → List ℕ → Bool
is_among byte [] = false
is_among byte (header ∷ headers) = if nat_eq byte header then true else is_among byte headers

-- an empty payload is refused as one that ends early, and one with another first byte by this byte
abbrev pub IsOther : {Y : Type 0} → List ℕ → List ℕ → Result Y PayloadError → Type 0
IsOther headers [] result = result ≡ Err (Refused UnexpectedEof)
IsOther headers (byte ∷ bytes) result =
    is_among byte headers ≡ false → result ≡ Err (OtherHeader byte)
