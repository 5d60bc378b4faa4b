-- That what packets are written as is what the grammar has.
use Rattle.std.proofs.Common.{◌≡◌, ◌≢◌, ◌⊎◌, ◌∙◌, ◌<◌, ◌≤◌, ◌-◌, ◌^◌, ◌/◌, ◌%◌, ℕ, inl, inr, false, List, [], ◌∷◌, ◌++◌, length, refl, ap, sym, subst, Option, Some, None, Result, Ok, Err, arith, append-nil}
use Rattle.std.proofs.lemmas.Bool.{cases_eq, cases_lt, le-ltb, lt-ltb, ne_eqb}
use Rattle.std.proofs.lemmas.List.{length-append}
use Rattle.wire_buf.specs.Lenenc.{lenenc_bytes}
use Rattle.wire_buf.specs.Numbers.{le_bytes}
use Rattle.wire_buf.specs.Reading.{Parses}
use Rattle.wire_buf.specs.declared.error.WireError.{WireError}
use Rattle.wire_buf.specs.declared.error.WireError.TheVariants.{OutOfMemory}
use Rattle.wire_repr.specs.Law.{ComesBack, Parses-back, seen}
use Rattle.mysql_wire_packets.specs.Oks.{counts_bytes}
use Rattle.mysql_wire_parts.specs.Optional.{BothIf, bytes_if, has}
use Rattle.mysql_wire_parts.specs.Places.{ReadsWhole}
use Rattle.mysql_wire_parts.specs.declared.places.PayloadError.{PayloadError}
use Rattle.mysql_wire_parts.specs.declared.places.PayloadError.TheVariants as payload
use Rattle.mysql_wire_connection.specs.declared.handshake_response.HandshakeResponse41.{HandshakeResponse41}
use Rattle.mysql_wire_queries.specs.TextValues.{row_bytes, value_bytes, value_of}
use Rattle.mysql_wire_queries.specs.declared.text_row.TextValue.{TextValue}
use Rattle.mysql_wire_queries.specs.declared.column_count.ColumnCount.{ColumnCount}
use Rattle.mysql_wire_session.specs.Advance.{is_zero, mariadb_of}
use Rattle.mysql_wire_session.specs.Grammar.{Agreed, Agrees, IsColumnCount, IsDefinition, IsReadAs, IsRow, from_server}
use Rattle.mysql_wire_session.specs.Kinds.{first_byte, is_report}
use Rattle.mysql_wire_queries.specs.contracts.payload.ColumnCountPayload.TheImpl as count_type
use Rattle.mysql_wire_session.specs.declared.packet_kind.PacketKind.TheVariants as kind
use Rattle.mysql_wire_session.specs.Refusals.{refusal_of}
use Rattle.mysql_wire_session.specs.declared.refusal.Refusal.{Refusal}

none_seen : (stated : Option ℕ) → seen stated [] ≡ []
none_seen None = refl
none_seen (Some size) = refl

-- a refusal of memory is none of a payload
no_refusal : (error : WireError) (refusal : Refusal) → error ≡ OutOfMemory → refusal_of (payload.Refused error) ≡ Ok refusal → ⊥
no_refusal error refusal is refuses = subst (λ (e : WireError). refusal_of (payload.Refused e) ≡ Ok refusal → ⊥) (sym is) (λ same. cc) refuses

-- bytes that come back where nothing follows are read so as a payload
read_whole_is : {X : Type 0} (parses : List ℕ → Result X WireError → ℕ → Type 0) (kept : X → Type 0) (takes_memory : Type 0) (bytes : List ℕ)
    → ((answer : Result X WireError) (eaten : ℕ) → parses bytes answer eaten → ComesBack kept takes_memory (length bytes) answer eaten)
    → IsReadAs (ReadsWhole parses bytes) kept
read_whole_is parses kept takes_memory bytes back (Ok value) read = (back (Ok value) (length bytes) read).0
read_whole_is parses kept takes_memory bytes back (Err (payload.Refused error)) (eaten, there, read) =
    λ refusal. no_refusal error refusal (back (Err error) eaten read).0
read_whole_is parses kept takes_memory bytes back (Err (payload.Trailing count)) (value, some, there, read) =
    let ate = (back (Ok value) (length bytes - count) read).1 in
    λ refusal refuses. absurd (omega (arith, ate, some, there))
read_whole_is parses kept takes_memory bytes back (Err (payload.OtherHeader byte)) read = absurd read
read_whole_is parses kept takes_memory bytes back (Err payload.OtherSpelling) read = absurd read

pub read_back_is : {X : Type 0} (stated : Option ℕ) (reads : List ℕ → Result X WireError → ℕ → Type 0) (kept : X → Type 0) (takes_memory : Type 0) (bytes : List ℕ)
    → ((size : ℕ) → stated ≡ Some size → length bytes ≡ size)
    → ((answer : Result X WireError) (eaten : ℕ) → reads (bytes ++ []) answer eaten → ComesBack kept takes_memory (length bytes) answer eaten)
    → IsReadAs (ReadsWhole (Parses stated reads) bytes) kept
read_back_is stated reads kept takes_memory bytes of_size law =
    read_whole_is (Parses stated reads) kept takes_memory bytes (λ answer eaten read.
    Parses-back stated reads kept takes_memory bytes [] of_size
    (λ answer eaten seen_read. law answer eaten (subst (λ (rest : List ℕ). reads (bytes ++ rest) answer eaten) (none_seen stated) seen_read))
    answer eaten (subst (λ (all : List ℕ). Parses stated reads all answer eaten) (sym (append-nil bytes)) read))

-- what holds of what is kept holds of what is read
pub holds_of_kept : {X : Type 0} (reads : Result X PayloadError → Type 0) (kept holds : X → Type 0) → IsReadAs reads kept → ((read : X) → kept read → holds read) → IsReadAs reads holds
holds_of_kept reads kept holds all then (Ok value) read = then value (all (Ok value) read)
holds_of_kept reads kept holds all then (Err error) read = all (Err error) read

-- ---- first bytes

-- a number is written with another first byte than fb and ff, and only 0 with 00
lenenc_first : (n : ℕ) (rest : List ℕ) → (first : ℕ) × (first_byte (lenenc_bytes n ++ rest) ≡ Some first) × (first ≢ 0xfb) × (first ≢ 0xff) × (0 < n → first ≢ 0x00) × (first ≡ 0xfe → 0xffffff ≤ n)
lenenc_first n rest = elim (cases_lt n 251) [
  | inl a ↦ rw (lt-ltb n 251 a) (n, refl, (λ same. omega (arith, a, same)), (λ same. omega (arith, a, same)), (λ some same. omega (arith, some, same)), (λ same. omega (arith, a, same)))
  | inr a ↦ elim (cases_lt n (256 ^ 2)) [
    | inl b ↦ rw (le-ltb n 251 a, lt-ltb n (256 ^ 2) b) (0xfc, refl, (λ same. omega (arith, same)), (λ same. omega (arith, same)), (λ some same. omega (arith, same)), (λ same. omega (arith, same)))
    | inr b ↦ elim (cases_lt n (256 ^ 3)) [
      | inl c ↦ rw (le-ltb n 251 a, le-ltb n (256 ^ 2) b, lt-ltb n (256 ^ 3) c) (0xfd, refl, (λ same. omega (arith, same)), (λ same. omega (arith, same)), (λ some same. omega (arith, same)), (λ same. omega (arith, same)))
      | inr c ↦ rw (le-ltb n 251 a, le-ltb n (256 ^ 2) b, le-ltb n (256 ^ 3) c) (0xfe, refl, (λ same. omega (arith, same)), (λ same. omega (arith, same)), (λ some same. omega (arith, same)), (λ same. omega (arith, c)))
    ]
  ]
]

-- it is some bytes
lenenc_some : (n : ℕ) → 1 ≤ length (lenenc_bytes n)
lenenc_some n = elim (cases_lt n 251) [
  | inl a ↦ rw (lt-ltb n 251 a) (omega arith)
  | inr a ↦ elim (cases_lt n (256 ^ 2)) [
    | inl b ↦ rw (le-ltb n 251 a, lt-ltb n (256 ^ 2) b) (omega arith)
    | inr b ↦ elim (cases_lt n (256 ^ 3)) [
      | inl c ↦ rw (le-ltb n 251 a, le-ltb n (256 ^ 2) b, lt-ltb n (256 ^ 3) c) (omega arith)
      | inr c ↦ rw (le-ltb n 251 a, le-ltb n (256 ^ 2) b, le-ltb n (256 ^ 3) c) (omega arith)
    ]
  ]
]

-- an OK has 7 bytes at least
pub ok_is_long : (header rows id status warnings : ℕ) (words : List ℕ) → 7 ≤ length (counts_bytes header rows id status warnings ++ words)
ok_is_long header rows id status warnings words =
    omega (
      arith,
      lenenc_some rows,
      lenenc_some id,
      length-append (counts_bytes header rows id status warnings) words,
      length-append (lenenc_bytes rows) (lenenc_bytes id ++ (le_bytes 2 status ++ le_bytes 2 warnings)),
      length-append (lenenc_bytes id) (le_bytes 2 status ++ le_bytes 2 warnings),
    )

-- the number 65535 alone is that of reports
pub no_report_of : (code : ℕ) (rest : List ℕ) → code < 2 ^ 16 → code ≢ 65535 → is_report (0xff ∷ (le_bytes 2 code ++ rest)) ≡ false
no_report_of code rest fits other = elim (cases_eq (code % 256) 255) [
  | inl low ↦ elim (cases_eq (code / 256 % 256) 255) [
    | inl high ↦ absurd (other (omega (arith, low, high, fits)))
    | inr high ↦ rw (low, ne_eqb 255 (code / 256 % 256) (λ same. high (sym same))) refl
  ]
  | inr low ↦ rw (ne_eqb 255 (code % 256) (λ same. low (sym same))) refl
]

-- ---- a count, and a definition

count_first : (follows : Option ℕ) (columns : ℕ) (rest : List ℕ) → 0 < columns → (follows ≡ None) ⊎ (follows ≡ Some 1)
    → (first : ℕ) × (first_byte (bytes_if (λ follows. follows ∷ []) follows ++ (lenenc_bytes columns ++ rest)) ≡ Some first) × (first ≢ 0x00) × (first ≢ 0xfb) × (first ≢ 0xff)
count_first follows columns rest some (inl none) =
    let is = lenenc_first columns rest in rw none (is.0, is.1, is.4 some, is.2, is.3)
count_first follows columns rest some (inr one) =
    rw one (1, refl, (λ same. omega (arith, same)), (λ same. omega (arith, same)), (λ same. omega (arith, same)))

follows_kept : (old back : Option ℕ) → (old ≡ None) ⊎ (old ≡ Some 1) → BothIf (λ old back. back ≡ old) old back → is_zero back ≡ false
follows_kept None None is kept = refl
follows_kept None (Some b) is kept = absurd kept
follows_kept (Some a) None is kept = absurd kept
follows_kept (Some a) (Some b) (inl none) kept = cc none
follows_kept (Some a) (Some b) (inr one) kept = let same : a ≡ 1 = cc one in rw (kept, same) refl

zero_kept : (old back : Option ℕ) → BothIf (λ old back. back ≡ old) old back → is_zero back ≡ is_zero old
zero_kept None None kept = refl
zero_kept None (Some b) kept = absurd kept
zero_kept (Some a) None kept = absurd kept
zero_kept (Some a) (Some b) kept = rw kept refl

-- what is kept of a count
abbrev KeepsCount : ColumnCount → ColumnCount → Type 0
KeepsCount count back = BothIf (λ old back. back ≡ old) count.metadata_follows back.metadata_follows
    × (back.column_count ≡ count.column_count)
    × BothIf (λ old back. back ≡ old) count.mariadb_metadata_follows back.mariadb_metadata_follows

abbrev count_bytes : ColumnCount → List ℕ
count_bytes count = bytes_if (λ follows. follows ∷ []) count.metadata_follows
    ++ (lenenc_bytes count.column_count ++ bytes_if (λ follows. follows ∷ []) count.mariadb_metadata_follows)

pub count_in_grammar : (id : ℕ) (agreed : Agreed) (count : ColumnCount) → 0 < count.column_count → (count.metadata_follows ≡ None) ⊎ (count.metadata_follows ≡ Some 1)
    → IsReadAs (count_type.ghosts.reads_whole (agreed.capabilities, agreed.mariadb) (count_bytes count)) (KeepsCount count)
    → IsColumnCount agreed (is_zero count.mariadb_metadata_follows) count.column_count (from_server id kind.ColumnCount (count_bytes count))
count_in_grammar id agreed count some follows read =
    let begins = count_first count.metadata_follows count.column_count (bytes_if (λ follows. follows ∷ []) count.mariadb_metadata_follows) some follows in record {
      first = begins.0;
      is = record { side = refl; first_is = begins.1; kind_is = refl };
      is_no_ok = begins.2;
      is_no_file = begins.3;
      is_no_error = begins.4;
      reads = holds_of_kept _ (KeepsCount count) _ read (λ back kept. record {
        columns_are = kept.1;
        has_definitions = follows_kept count.metadata_follows back.metadata_follows follows kept.0;
        are_left_out = zero_kept count.mariadb_metadata_follows back.mariadb_metadata_follows kept.2;
      });
    }

first_stays : (bytes rest : List ℕ) (first : ℕ) → first_byte bytes ≡ Some first → first_byte (bytes ++ rest) ≡ Some first
first_stays [] rest first none = cc none
first_stays (byte ∷ bytes) rest first is = is

-- a definition begins with a text
pub definition_in_grammar : (id : ℕ) (text a b c : List ℕ) → IsDefinition (from_server id kind.Column ((((lenenc_bytes (length text) ++ text) ++ a) ++ b) ++ c))
definition_in_grammar id text a b c =
    let begins = lenenc_first (length text) text in
    let front = lenenc_bytes (length text) ++ text in record {
      first = begins.0;
      is = record {
        side = refl;
        first_is = first_stays ((front ++ a) ++ b) c begins.0 (first_stays (front ++ a) b begins.0 (first_stays front a begins.0 begins.1));
        kind_is = refl;
      };
      is_no_error = begins.3;
    }

-- ---- rows

value_begins : (id : ℕ) (value : Option (List ℕ)) (rest : List ℕ) → IsRow false (from_server id kind.Row (value_bytes value ++ rest))
value_begins id None rest = record {
  first = 0xfb;
  is = record { side = refl; first_is = refl; kind_is = refl };
  is_no_error = λ same. omega (arith, same);
  is_no_end = λ same. omega (arith, same);
}
value_begins id (Some text) rest =
    let begins = lenenc_first (length text) text in
    let front = lenenc_bytes (length text) ++ text in record {
      first = begins.0;
      is = record { side = refl; first_is = first_stays front rest begins.0 begins.1; kind_is = refl };
      is_no_error = begins.3;
      is_no_end = λ same. omega (arith, begins.5 same, length-append front rest, length-append (lenenc_bytes (length text)) text);
    }

pub text_row_in_grammar : (id : ℕ) (values : List TextValue) → values ≢ [] → IsRow false (from_server id kind.Row (row_bytes values))
text_row_in_grammar id [] some = absurd (some refl)
text_row_in_grammar id (value ∷ more) some = value_begins id (value_of value) (row_bytes more)

-- ---- a login, and a request for TLS

-- what is kept of a login agrees on the same
pub agrees_kept : (agreed : Agreed) (login back : HandshakeResponse41) → Agrees agreed login → back.client_flag.0 ≡ login.client_flag.0
    → back.mariadb_capabilities.0 ≡ login.mariadb_capabilities.0 → Agrees agreed back
agrees_kept agreed login back agrees flags maria = record {
  flags = agrees.flags ∙ ap (λ (n : ℕ). record { 0 = n }) (sym flags);
  eof = agrees.eof ∙ ap (λ (n : ℕ). has n 0x1000000) (sym flags);
  maria = agrees.maria ∙ ap (λ (n : ℕ). mariadb_of n login.mariadb_capabilities.0 (record { 0 = 0 })) (sym flags)
      ∙ ap (λ (n : ℕ). mariadb_of back.client_flag.0 n (record { 0 = 0 })) (sym maria);
}

pub request_len : (flags size set : ℕ) (filler : List ℕ) (mariadb : ℕ) → length filler ≡ 19
    → length (le_bytes 4 flags ++ (le_bytes 4 size ++ set ∷ (filler ++ le_bytes 4 mariadb))) ≡ 32
request_len flags size set filler mariadb len = omega (arith, len, length-append filler (le_bytes 4 mariadb))
