-- What stands after the warnings of an OK packet.
use Rattle.std.specs.Prelude.{ℕ, ◌≡◌, Bool, true, false, List, [], ◌∷◌, ◌++◌, if◌then◌else◌, Option, None}
use Rattle.wire_const.specs.FlagSets.{capability_flags_bits}
use Rattle.wire_const.specs.declared.flag_sets.capability.CapabilityFlags.{CapabilityFlags}
use Rattle.wire_buf.specs.Lenenc.{lenenc_bytes}
use Rattle.wire_buf.specs.Numbers.{le_bytes}
use Rattle.wire_field.specs.declared.row.Either.{Either}
use Rattle.std.proofs.Common.{refl}
use Rattle.std.specs.Cow.{cow_slice_items}
use Rattle.wire_field.specs.Rows.{by_side}
use Rattle.mysql_wire_parts.specs.InOrder.{text_bytes}
use Rattle.mysql_wire_parts.specs.Optional.{bytes_if, has, side}
use Rattle.mysql_wire_packets.specs.declared.ok_packet.OkForm.{OkForm}
use Rattle.mysql_wire_packets.specs.declared.ok_packet.InfoForm.{InfoForm}
use Rattle.mysql_wire_packets.specs.declared.ok_packet.InfoForm.TheVariants.{LengthEncoded, SessionTrack, ToTheEnd}

-- bytes are left
abbrev pub is_more : List ℕ → Bool
is_more [] = false
is_more (byte ∷ bytes) = true

-- the form that servers use under the capabilities
abbrev pub form_of : ℕ → InfoForm
form_of capabilities = if has capabilities 0x800000 then SessionTrack else LengthEncoded

abbrev pub ok_form : CapabilityFlags → InfoForm
ok_form capabilities = form_of (capability_flags_bits capabilities)

-- the info stands after its length
abbrev pub is_lenenc : InfoForm → Bool
is_lenenc LengthEncoded = true
is_lenenc SessionTrack = true
is_lenenc ToTheEnd = false

-- the changes of the session stand after the info, where bytes are left
abbrev pub has_state : InfoForm → ℕ → Bool → Bool
has_state LengthEncoded status more = false
has_state SessionTrack status true = has status 0x4000
has_state SessionTrack status false = false
has_state ToTheEnd status more = false

-- which of both are read, before what is left
abbrev pub words_ctx : InfoForm → ℕ → List ℕ
    → Either (Either (Unit {0}) (Unit {0})) (Unit {0}) × Either (Unit {0}) (Unit {0})
words_ctx form status input = (
  side (side tt (is_lenenc form)) (is_more input),
  side tt (has_state form status (is_more input)),
)

-- what is written up to the warnings
abbrev pub counts_bytes : ℕ → ℕ → ℕ → ℕ → ℕ → List ℕ
counts_bytes header affected_rows last_insert_id status warnings = header
    ∷ (lenenc_bytes affected_rows ++ (lenenc_bytes last_insert_id
    ++ (le_bytes 2 status ++ le_bytes 2 warnings)))

-- and after them
abbrev pub words_bytes : {header : ℕ} → OkForm header → List ℕ
words_bytes ok = bytes_if (by_side (λ text. text_bytes text.0) (λ text. cow_slice_items text.0)) ok.info
    ++ bytes_if (λ state. text_bytes state.0) ok.session_state

-- ---- lemmas

-- nothing stands after an info to the end
pub none_behind : {V : Type 0} (state : Option V) (rest : List ℕ) (bytes : V → List ℕ)
    → (state ≡ None) × (rest ≡ []) → bytes_if bytes state ++ rest ≡ []
none_behind state rest bytes (missing, end) = rw (missing, end) refl
