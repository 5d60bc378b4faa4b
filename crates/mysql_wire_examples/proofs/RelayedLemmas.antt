-- One packet more.
use Rattle.std.proofs.Common.{◌≡◌, ◌↔◌, ℕ, List, [], ◌∷◌, ◌++◌, Option, Some, None, Result, Ok, Err, Bool, true, false, IsTrue, IsFalse, IsSome, IsNone, MatchOption, OnOk, IfOk, refl, sym, ap, ◌∙◌, subst, append-nil}
use Rattle.std.specs.Io.KnownBytes.{Appends}
use Rattle.std.specs.Result.{IsErr}
use Rattle.mysql_wire.specs.PacketIo.{NextPacket, FitsAt}
use Rattle.mysql_wire.specs.PacketIoError.{PacketIoError}
use Rattle.mysql_wire.specs.Codec.{CodecState}
use Rattle.mysql_wire_examples.specs.Relayed.{IsNext, AreNext}

pub next_more : (before mid after : CodecState) (unread behind left : Option (List ℕ)) (packets : List (List ℕ)) (packet : List ℕ)
    → AreNext before unread packets mid behind → IsNext mid behind packet after left → AreNext before unread (packets ++ packet ∷ []) after left
next_more before mid after unread behind left [] packet (same, rest) next = (
  after,
  left,
  subst (λ (z : CodecState). IsNext z unread packet after left) same (subst (λ (z : Option (List ℕ)). IsNext mid z packet after left) rest next),
  (refl, refl),
)
next_more before mid after unread behind left (first ∷ packets) packet (state, from, came, more) next =
    (state, from, came, next_more state mid after from behind left packets packet more next)

-- a packet that is lent is the next one
pub next_lent : (before after : CodecState) (unread left : Option (List ℕ)) (old_reads new_reads : ℕ) (lent : Option (List ℕ)) (shown : List ℕ) → IsSome lent
    → MatchOption lent (shown ≡ []) (λ packet. shown ≡ packet) → NextPacket before unread left old_reads new_reads (Ok lent) after → IsNext before unread shown after left
next_lent before after unread left old_reads new_reads None shown some same next = absurd cc
next_lent before after unread left old_reads new_reads (Some packet) shown some same next =
    (old_reads, new_reads, subst (λ (z : List ℕ). NextPacket before unread left old_reads new_reads (Ok (Some z)) after) (sym same) next)

pub is_false : (lost : Bool) → (IsTrue lost → ⊥) → IsFalse lost
is_false true not = absurd (not refl)
is_false false not = refl

-- one answer isn't another
pub no_true : ◌≡◌ {A = Result Bool PacketIoError} (Ok false) (Ok true) → ⊥
no_true e = cc

pub no_false : ◌≡◌ {A = Result Bool PacketIoError} (Ok true) (Ok false) → ⊥
no_false e = cc

pub no_ok : (error : PacketIoError) (whole : Bool) → ◌≡◌ {A = Result Bool PacketIoError} (Err error) (Ok whole) → ⊥
no_ok error whole e = cc

pub no_lost : {X : Type 0} (x : X) (error : PacketIoError) → ◌≡◌ {A = Result X PacketIoError} (Ok x) (Err error) → ⊥
no_lost x error e = cc

-- nothing is lent where no packet stands ready
pub none_lent : (lent : Option (List ℕ)) (ready : Bool) → (IsTrue ready ↔ IsSome lent) → ready ≡ false → IsNone lent
none_lent None ready lends is = refl
none_lent (Some packet) true lends is = absurd cc
none_lent (Some packet) false lends is = absurd (let e = lends.1 refl in cc)

-- all that was queued is sent
pub all_sent : (start end : Option (List ℕ)) (pending bytes queued sent left : List ℕ) → queued ≡ pending ++ bytes → queued ≡ sent ++ left → left ≡ [] → Appends start end sent → Appends start end (pending ++ bytes)
all_sent start end pending bytes queued sent left is split none appends =
    subst (λ (z : List ℕ). Appends start end z) (sym (append-nil sent) ∙ ap (λ (z : List ℕ). sent ++ z) (sym none) ∙ sym split ∙ is) appends

-- what an error says
pub err_no_ok : (answer : Result Bool PacketIoError) (whole : Bool) → IsErr answer → answer ≡ Ok whole → ⊥
err_no_ok (Ok done) whole is e = absurd (let f = is in cc)
err_no_ok (Err error) whole is e = cc

pub err_on_ok : {X E : Type 0} (answer : Result X E) (P : Type 0) → IsErr answer → OnOk answer P
err_on_ok (Ok done) P is = absurd (let f = is in cc)
err_on_ok (Err error) P is = tt

pub err_if_ok : {X E : Type 0} (answer : Result X E) (P : X → Type 0) → IsErr answer → IfOk answer P
err_if_ok (Ok done) P is = absurd (let f = is in cc)
err_if_ok (Err error) P is = tt

-- another id changes nothing of whether a codec fits
pub fits_with : (lost : Bool) (limit new_limit id new_id : ℕ) (header new_header : Option (ℕ × ℕ)) (unread held : List ℕ) → new_limit ≡ limit → new_header ≡ header
    → FitsAt lost (record { limit = limit; id = id; header = header; unread = unread; held = held })
    → FitsAt lost (record { limit = new_limit; id = new_id; header = new_header; unread = unread; held = held })
fits_with lost limit new_limit id new_id header new_header unread held same also fits =
    subst (λ (h : Option (ℕ × ℕ)). FitsAt lost (record { limit = new_limit; id = new_id; header = h; unread = unread; held = held })) (sym also)
    (subst (λ (n : ℕ). FitsAt lost (record { limit = n; id = new_id; header = header; unread = unread; held = held })) (sym same) fits)
