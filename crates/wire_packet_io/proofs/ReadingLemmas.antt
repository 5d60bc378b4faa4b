-- What is known of a reader of packets by its fields.
use Rattle.std.proofs.Common.{◌≡◌, ◌↔◌, ◌⊎◌, ◌<◌, ◌≤◌, ◌+◌, ◌^◌, [], arith, inl, inr, IfOk, ap, ap₂, ℕ, List, refl, sym, ◌∙◌, IsSome, IsNone, IsTrue, IsFalse, Vec, Option, Some, None, Ok, Err, Result, Bool, true, false}
use Rattle.std.proofs.lemmas.Bool.{false≢true}
use Rattle.std.specs.Option.{is_some}
use Rattle.wire_packet_io.specs.declared.input.Found.{Found}
use Rattle.wire_packet_io.specs.declared.input.Found.TheVariants.{InFront, Copied}
use Rattle.wire_codec.specs.declared.codec.packet.PacketCodec.{PacketCodec}
use Rattle.wire_packet_io.specs.declared.error.PacketIoError.{PacketIoError}
use Rattle.wire_packet_io.specs.declared.error.PacketIoError.TheVariants.{OutOfMemory, PacketsOutOfSync}
use Rattle.wire_span.specs.Spans.{IsBetween}
use Rattle.wire_span.specs.declared.span.SpanDecoder.{SpanDecoder}
use Rattle.wire_packet_io.specs.Copying.{copied_to}
use Rattle.wire_codec.specs.Framing.{max_payload, max_payload_is}
use Rattle.wire_packet_io.specs.PacketIo.{Answer, FitsAt, Writing}
use Rattle.wire_packet_io.specs.Lending.{HandsOutLent, IsThere, Reading, answer_of, packet_of, reading_state}

-- an answer is no refusal
pub answered : {A E : Type 0} (answer : A) (error : E) → Ok answer ≡ Err error → ⊥
answered answer error is = cc

-- not both true and false
pub is_true : (now was : Bool) → now ≡ was → now ≡ true → was ≡ false → ⊥
is_true now was same t f = false≢true (sym f ∙ sym same ∙ t)

pub is_not : (now was : Bool) → now ≡ was → now ≡ false → was ≡ true → ⊥
is_not now was same f t = false≢true (sym f ∙ same ∙ t)

-- a packet that was found is lent
pub some_lent : {A : Type 0} (lent : Option (Found A)) (src : List ℕ) (is : Bool) → is ≡ is_some lent → is ≡ true → IsSome (packet_of lent src)
some_lent None src is e f = absurd (false≢true (sym e ∙ f))
some_lent (Some (InFront chunk)) src is e f = refl
some_lent (Some (Copied packet)) src is e f = refl

-- none was found
pub unlent_there : {A : Type 0} (lent : Option (Found A)) (src : List ℕ) (is : Bool) → is ≡ is_some lent → is ≡ false → IsThere lent src
unlent_there None src is e f = tt
unlent_there (Some found) src is e f = absurd (false≢true (sym f ∙ e))

pub unlent : {A : Type 0} (lent : Option (Found A)) (src : List ℕ) (is : Bool) → is ≡ is_some lent → is ≡ false → IsNone (packet_of lent src)
unlent None src is e f = refl
unlent (Some found) src is e f = absurd (false≢true (sym f ∙ e))

-- a packet that was handed out, or not
pub hands_fits : {R : Type 0} (codec : PacketCodec) (answer : Answer) (old new : Reading R) → HandsOutLent answer old new → FitsAt old.is_lost (reading_state codec old)
    → FitsAt new.is_lost (reading_state codec new)
hands_fits codec (Ok packet) old new hands fits = rw hands.1 fits
hands_fits codec (Err OutOfMemory) old new hands fits = rw hands fits
hands_fits codec (Err other) old new hands fits = absurd hands

pub hands_loses : {R B : Type 0} (result : Result (Option (Vec ℕ B)) PacketIoError) (old new : Reading R) → HandsOutLent (answer_of result) old new → IsFalse old.is_lost
    → IsTrue new.is_lost ↔ (result ≡ Err PacketsOutOfSync)
hands_loses (Ok None) old new hands found = (λ lost. absurd (is_true _ _ (ap (λ z. z.is_lost) hands.1) lost found), λ is. absurd cc)
hands_loses (Ok (Some packet)) old new hands found = (λ lost. absurd (is_true _ _ (ap (λ z. z.is_lost) hands.1) lost found), λ is. absurd cc)
hands_loses (Err OutOfMemory) old new hands found = (λ lost. absurd (is_true _ _ (ap (λ z. z.is_lost) hands) lost found), λ is. absurd cc)
hands_loses (Err other) old new hands found = absurd hands

pub hands_rest : {R : Type 0} (answer : Answer) (old new : Reading R) → HandsOutLent answer old new → (new.skipped ≡ old.skipped) × (new.copied ≡ old.copied)
hands_rest (Ok packet) old new hands = (ap (λ z. z.skipped) hands.1, ap (λ z. z.copied) hands.1)
hands_rest (Err OutOfMemory) old new hands = (ap (λ z. z.skipped) hands, ap (λ z. z.copied) hands)
hands_rest (Err other) old new hands = absurd hands

-- a writer by its parts
pub same_writing : {W : Type 0} (a b : Writing W) → a.writer ≡ b.writer → a.pending ≡ b.pending → a ≡ b
same_writing a b w p = ap₂ (λ x y. record { writer = x; pending = y }) w p

-- no packet is under way
pub none_between : (copied : Option SpanDecoder) (codec : PacketCodec) → IsNone copied → IsBetween (copied_to copied codec)
none_between None codec none = (refl, refl)
none_between (Some decoder) codec none = absurd (false≢true (sym none))

-- a packet that is skipped is under way, or has ended
pub not_ended : {B E : Type 0} (result : Result Bool E) (held : ℕ) (begun : Option B) (P : Type 0) → IfOk result (λ _. (held ≡ 0) × (begun ≡ None)) → (0 < held) ⊎ IsSome begun
    → IfOk result (λ _. P)
not_ended (Ok more) held begun P ended under = absurd (elim under [ inl some ↦ (let none = ended.0 in omega arith) | inr some ↦ false≢true (sym (ap is_some ended.1) ∙ some) ])
not_ended (Err error) held begun P ended under = tt

pub whole_ended : {S E : Type 0} (result : Result Bool E) (lost : Bool) (skipped : Option S) (held : List ℕ) (why : E) (N : Type 0) → (IsTrue lost → result ≡ Err why) → IsNone skipped
    → held ≡ [] → IfOk result (λ _. N → IsNone skipped × IsFalse lost × (held ≡ []))
whole_ended (Ok more) false skipped held why N loses none empty = λ n. (none, refl, empty)
whole_ended (Ok more) true skipped held why N loses none empty = absurd (answered more why (loses refl))
whole_ended (Err error) lost skipped held why N loses none empty = tt

-- a refusal by its name
pub error_loses : {S E : Type 0} (error why : E) (lost : Bool) (copied : Option S) → IsTrue lost ↔ (IsSome copied ⊎ (error ≡ why))
    → IsTrue lost ↔ (IsSome copied ⊎ ◌≡◌ {A = Result Bool E} (Err error) (Err why))
error_loses error why lost copied is = (
  λ t. elim (is.0 t) [ inl some ↦ inl some | inr e ↦ inr (ap (λ z. Err z) e) ],
  λ w. elim w [ inl some ↦ is.1 (inl some) | inr e ↦ is.1 (inr cc) ],
)

pub is_refused : {A E : Type 0} (error : E) (answer : A) → Err error ≡ Ok answer → ⊥
is_refused error answer is = cc

pub not_ended_yet : {E : Type 0} → ◌≡◌ {A = Result Bool E} (Ok true) (Ok false) → ⊥
not_ended_yet is = cc

-- it is lent where it was found, and the reader isn't lost
pub lends_found : {A : Type 0} (found : Option (Found A)) (src : List ℕ) (is : Bool) → is ≡ is_some found → IsTrue is ↔ IsSome (packet_of found src)
lends_found None src is e = (λ t. sym e ∙ t, λ some. e ∙ some)
lends_found (Some (InFront chunk)) src is e = (λ t. refl, λ some. e)
lends_found (Some (Copied packet)) src is e = (λ t. refl, λ some. e)

pub not_lost : {A E : Type 0} (answer : A) (lost : Bool) (why : E) → (IsTrue lost → Ok answer ≡ Err why) → IsFalse lost
not_lost answer false why loses = refl
not_lost answer true why loses = absurd (answered answer why (loses refl))

-- a refusal in an answer of another kind
pub refused_loses : {A B E : Type 0} (error why : E) (lost : Bool) → IsTrue lost ↔ ◌≡◌ {A = Result A E} (Err error) (Err why) → IsTrue lost ↔ ◌≡◌ {A = Result B E} (Err error) (Err why)
refused_loses error why lost is = (λ t. let e = is.0 t in cc, λ e. is.1 cc)

-- a chunk's length fits
pub room_for : (len : ℕ) → len ≤ max_payload → 4 + len < 2 ^ 64
room_for len small = omega (arith, max_payload_is)
