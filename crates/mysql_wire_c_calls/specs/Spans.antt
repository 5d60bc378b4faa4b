-- Packets that come in spans, with the place in their stream in a record of the caller's.
use Rattle.std.specs.Prelude.{◌≡◌, ◌≢◌, ℕ, ℤ, ◌+◌, ◌-◌, ◌<◌, ◌≤◌, ◌==◌, ◌⊎◌, ◌↔◌, List, [], ◌∷◌, length, take, drop}
use Rattle.wire_span.specs.declared.span.SpanError.{SpanError}
use Rattle.wire_span.specs.declared.span.SpanError.TheVariants.{PacketTooLarge, PacketsOutOfSync}
use Rattle.wire_span.specs.declared.span.parts.SpanParts.{SpanParts}
use Rattle.wire_span.specs.Parts.{parts_state, IsTidy, CanStand}
use Rattle.wire_span.specs.Spans.{SpanState, header_came, SpansOn, StopsBefore}
use Rattle.wire_span.specs.Renumbering.{RenumbersFront}
use Rattle.mysql_wire_c_calls.specs.declared.codes.TheConstants.{WAITS, SPAN, TOO_LARGE, OUT_OF_SYNC, INVALID_STATE}
use Rattle.mysql_wire_c_calls.specs.declared.spans.Spans.{Spans}

abbrev pub parts_of : Spans → SpanParts
parts_of spans =
    record {
      max_allowed_packet = spans.limit;
      size = spans.size;
      left = spans.left;
      header = spans.header;
      header_len = spans.header_len;
      seq_id = spans.id;
    }

-- the decoder that the record stands for
abbrev pub state_of : Spans → SpanState
state_of spans = parts_state (parts_of spans)

-- it stands for one: a decoder stands so after some stream
abbrev pub IsValid : Spans → Type 0
IsValid spans = IsTidy (parts_of spans) × CanStand (state_of spans)

-- the code of a refusal
abbrev pub error_code : SpanError → ℤ
error_code PacketTooLarge = TOO_LARGE
error_code PacketsOutOfSync = OUT_OF_SYNC

-- this many bytes were eaten, and their last ones are a span
pub record NextSpan (bytes : List ℕ) (used len ends : ℕ) (answer : ℤ)
    (before after : Spans) : Type 0 where
  pub span : answer ≡ SPAN → SpansOn (state_of before) (take used bytes)
      ((take len (drop (used - len) bytes), ends == 1) ∷ []) (state_of after)
  -- in front of it is at most a header, and one of no bytes is the end of a packet
  pub eaten : answer ≡ SPAN → (0 < used) × (used ≤ length bytes) × (len ≤ used) × (used ≤ len + 4)
      × ((0 < len) ⊎ (ends ≡ 1))
  pub waits : answer ≡ WAITS → (used ≡ length bytes)
      × SpansOn (state_of before) bytes [] (state_of after)
  pub too_large : answer ≡ TOO_LARGE → StopsBefore (state_of before) bytes PacketTooLarge
  pub lost : answer ≡ OUT_OF_SYNC → StopsBefore (state_of before) bytes PacketsOutOfSync
  pub invalid : (answer ≡ INVALID_STATE) ↔ (IsValid before → ⊥)
  pub refused : (answer ≡ SPAN) ⊎ (answer ≡ WAITS) ⊎ ((after ≡ before) × (used ≡ 0))
  pub none : (answer ≡ SPAN) ⊎ ((len ≡ 0) × (ends ≡ 0))
  pub flag : ends ≤ 1
  pub valid : IsValid before → IsValid after
  pub settings : (after.limit ≡ before.limit) × (after.next_id ≡ before.next_id)
      × (after.reserved ≡ before.reserved)
  pub answers : (answer ≡ SPAN) ⊎ (answer ≡ WAITS) ⊎ (answer ≡ TOO_LARGE)
      ⊎ (answer ≡ OUT_OF_SYNC) ⊎ (answer ≡ INVALID_STATE)

-- this many bytes went, with other ids
pub record Renumbers (old new : List ℕ) (used : ℕ) (answer : ℤ)
    (before after : Spans) : Type 0 where
  pub went : answer ≢ INVALID_STATE → RenumbersFront (state_of before) before.next_id old new used
      (state_of after) after.next_id
  pub waits : answer ≡ WAITS → used ≡ length old
  pub too_large : answer ≡ TOO_LARGE
      → StopsBefore (state_of after) (drop used new) PacketTooLarge
  pub lost : answer ≡ OUT_OF_SYNC
      → StopsBefore (state_of after) (drop used new) PacketsOutOfSync
  -- the header that is refused begins there, or these bytes go on with it
  pub place : (answer ≡ WAITS) ⊎ (used ≡ 0) ⊎ (header_came (state_of after).place ≡ [])
  pub invalid : (answer ≡ INVALID_STATE) ↔ (IsValid before → ⊥)
  pub refused : answer ≡ INVALID_STATE → (after ≡ before) × (new ≡ old) × (used ≡ 0)
  pub same_length : length new ≡ length old
  pub valid : IsValid before → IsValid after
  pub settings : (after.limit ≡ before.limit) × (after.reserved ≡ before.reserved)
  pub answers : (answer ≡ WAITS) ⊎ (answer ≡ TOO_LARGE) ⊎ (answer ≡ OUT_OF_SYNC)
      ⊎ (answer ≡ INVALID_STATE)
