-- Where a reader is in a packet that it copies.
use Rattle.std.proofs.Common.{◌≡◌, ◌⊎◌, ℕ, List, [], refl, ap, inl, inr, Option, Some, None, IsSome, IsNone, MatchOption, Result, Bool, true, false, IsTrue, IsFalse, Ok, Err, IfOk, sym, ◌∙◌}
use Rattle.std.proofs.lemmas.Bool.{false≢true}
use Rattle.wire_span.specs.declared.span.SpanDecoder.{SpanDecoder}
use Rattle.wire_span.specs.Spans.{IsBetween, SpanState}
use Rattle.wire_codec.specs.declared.codec.packet.skip.Skipped.{Skipped}
use Rattle.wire_packet_io.specs.declared.error.PacketIoError.{PacketIoError}
use Rattle.wire_packet_io.specs.PacketIo.{Writing}
use Rattle.wire_packet_io.specs.Lending.{Reading}
use Rattle.wire_packet_io.specs.Relaying.{RelaysTo, RelayStops}
use Rattle.wire_packet_io.specs.Copying.{Copies}
use Rattle.wire_packet_io.proofs.CopyLemmas.{copied_none}
use Rattle.std.proofs.KnownBytes.{Appends-nil}

-- a lost reader has none, but in the midst of a packet
pub has_no_place : (copied : Option SpanDecoder) (lost : Bool) → IsNone copied → lost ≡ true → IsSome copied ⊎ IsFalse lost → ⊥
has_no_place None lost none e (inl some) = absurd cc
has_no_place None lost none e (inr found) = absurd cc
has_no_place (Some decoder) lost none e place = absurd cc

-- it holds and lends nothing
pub nothing_held : (S : Type 0) (T : SpanDecoder → Type 0) (copied : Option SpanDecoder) (lost : Bool) (held : List ℕ) (lent : Option (List ℕ))
    → IsSome copied ⊎ IsFalse lost → MatchOption copied (IsTrue lost ⊎ (S × (held ≡ []) × IsNone lent)) (λ decoder. T decoder × (held ≡ []) × IsNone lent)
    → (held ≡ []) × IsNone lent
nothing_held S T None lost held lent (inl some) can = absurd cc
nothing_held S T None lost held lent (inr found) (inl is) = absurd cc
nothing_held S T None lost held lent (inr found) (inr stands) = (stands.1, stands.2)
nothing_held S T (Some decoder) lost held lent place can = (can.1, can.2)

pub none_is : (a : Option (List ℕ)) → IsNone a → a ≡ None
none_is None e = refl
none_is (Some a) e = absurd cc

pub none_same : (a b : Option (List ℕ)) → IsNone a → IsNone b → a ≡ b
none_same None None e f = refl
none_same None (Some b) e f = absurd cc
none_same (Some a) b e f = absurd cc

-- no bytes are copied
pub copies_none : (before : SpanState) (unread : List ℕ) (held : Option (List ℕ)) → Copies false before unread held before unread held
copies_none before unread held = ([], copied_none before unread, Appends-nil held)

-- two of them that agree
pub same_reading : {R : Type 0} (r s : R) (unread h k : List ℕ) (l m : Option (List ℕ)) (lost : Bool) (skipped : Option Skipped) (copied : Option SpanDecoder) (n o : ℕ)
    → r ≡ s → h ≡ k → l ≡ m → n ≡ o
    → ◌≡◌ {A = Reading R} (record { reader = r; unread = unread; held = h; lent = l; is_lost = lost; skipped = skipped; copied = copied; reads = n })
    (record { reader = s; unread = unread; held = k; lent = m; is_lost = lost; skipped = skipped; copied = copied; reads = o })
same_reading r s unread h k l m lost skipped copied n o a b c d = rw (a, b, c, d) refl

-- a packet that is passed on, between states that agree with these
pub relays_as : {R W : Type 0} (remaining : R → Option (List ℕ)) (contents : W → Option (List ℕ)) (before start after last : SpanState) (old from new : Reading R) (to : Reading R)
    (id first next end : ℕ) (held kept more : Writing W) (result : Result Bool PacketIoError)
    → start ≡ before → from ≡ old → first ≡ id → kept ≡ held → last ≡ after → to ≡ record new { copied = to.copied; is_lost = to.is_lost } → end ≡ next
    → RelaysTo remaining contents start from first kept result after new next more → RelaysTo remaining contents before old id held result last to end more
relays_as {R = R} remaining contents before start after last old from new to id first next end held kept more result a b c d e f h goes =
    rw (← a, ← b, ← c, ← d, e, h, ap (λ (z : Reading R). z.unread) f, ap (λ (z : Reading R). z.reader) f, ap (λ (z : Reading R). z.reads) f) goes

-- it is lost where a packet is under way, and where the call says so
pub loses_by : (lost matched : Bool) (copied : Option SpanDecoder) (P : Type 0) → (IsTrue lost → IsSome copied ⊎ IsTrue matched) × (IsSome copied ⊎ IsTrue matched → IsTrue lost)
    → (IsTrue matched → P) × (P → IsTrue matched) → (IsTrue lost → IsSome copied ⊎ P) × (IsSome copied ⊎ P → IsTrue lost)
loses_by lost matched copied P is same = (
  λ t. elim (is.0 t) [ inl some ↦ inl some | inr e ↦ inr (same.0 e) ],
  λ why. elim why [ inl some ↦ is.1 (inl some) | inr p ↦ is.1 (inr (same.1 p)) ],
)

-- and found where it ended
found_by : (lost matched : Bool) (copied : Option SpanDecoder) → IsNone copied → (IsTrue matched → ⊥) → (IsTrue lost → IsSome copied ⊎ IsTrue matched) → IsFalse lost
found_by false matched copied none apart is = refl
found_by true matched copied none apart is = elim (is refl) [ inl some ↦ absurd (false≢true (sym none ∙ some)) | inr e ↦ absurd (apart e) ]

pub ended_by : (result : Result Bool PacketIoError) (lost matched : Bool) (copied : Option SpanDecoder) (why : PacketIoError) → IfOk result (λ _. IsNone copied)
    → (IsTrue lost → IsSome copied ⊎ IsTrue matched) → (IsTrue matched → result ≡ Err why) → IfOk result (λ _. IsNone copied × IsFalse lost)
ended_by (Ok ended) lost matched copied why none is says = (none, found_by lost matched copied none (λ t. let e = says t in absurd cc) is)
ended_by (Err error) lost matched copied why none is says = tt

-- a call that ended is between packets
pub relay_between : (result : Result Bool PacketIoError) (state : SpanState) (unread : List ℕ) (left : Option (List ℕ)) (pending : List ℕ) (P : Type 0)
    → RelayStops result state unread left pending → (IsBetween state → P) → IfOk result (λ _. P)
relay_between (Ok true) state unread left pending P stops gives = gives stops
relay_between (Ok false) state unread left pending P stops gives = gives stops.0
relay_between (Err error) state unread left pending P stops gives = tt

-- one that ended is not lost
pub ended_loses : (lost : Bool) (copied : Option SpanDecoder) (why : PacketIoError) → IsNone copied → IsFalse lost
    → (IsTrue lost → IsSome copied ⊎ ◌≡◌ {A = Result Bool PacketIoError} (Ok true) (Err why)) × (IsSome copied ⊎ ◌≡◌ {A = Result Bool PacketIoError} (Ok true) (Err why) → IsTrue lost)
ended_loses lost copied why none found = (
  λ t. absurd (false≢true (sym found ∙ t)),
  λ w. elim w [ inl some ↦ absurd (false≢true (sym none ∙ some)) | inr e ↦ absurd cc ],
)
