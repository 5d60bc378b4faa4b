-- What `next` answers, where a packet is lent.
use Rattle.std.proofs.Common.{◌≡◌, ℕ, ℤ, ◌<◌, Option, Some, None, IsSome, IfSome, List, ◌++◌, length, take, drop, refl, sym, subst, arith, inl, inr, ap, true≢false}
use Rattle.std.proofs.lemmas.List.{length-append}
use Rattle.std.proofs.Math.Seq.{take-append_seam, drop-append_seam}
use Rattle.wire_codec.specs.Codec.{CodecState}
use Rattle.mysql_wire_c_calls.specs.declared.codes.TheConstants.{PACKET, ROOM_TOO_SMALL}
use Rattle.mysql_wire_c_calls.specs.Side.{Side}
use Rattle.mysql_wire_c_calls.specs.Answers.{IsNextPacket}
use Rattle.mysql_wire_c_calls.specs.SideCalls.{Peeks, CopiesNext}

-- the packet that is shown is the one that is lent
shown_is : (lent : Option (List ℕ)) (packet : List ℕ) (before : Side) (state : CodecState) → IsSome lent
    → IfSome lent (λ p. IsNextPacket before p state) → IfSome lent (λ p. packet ≡ p) → IsNextPacket before packet state
shown_is None packet before state some hands shown = absurd (true≢false (sym some))
shown_is (Some lent) packet before state some hands shown = subst (λ (p : List ℕ). IsNextPacket before p state) (sym shown) hands

-- it is copied, and taken
pub next_copies : (old_room front packet : List ℕ) (answer : ℤ) (before between after : Side) → Peeks answer before between → answer ≡ PACKET
    → IfSome between.lent (λ lent. packet ≡ lent) → front ≡ packet → after ≡ record between { lent = None }
    → CopiesNext old_room (front ++ drop (length packet) old_room) (length packet) PACKET before after
next_copies old_room front packet answer before between after peeks is shown same taken =
    let rest = drop (length packet) old_room in
    let all : take (length packet) (packet ++ rest) ≡ packet = take-append_seam packet rest in
    let long = length-append packet rest in
    let here : IsNextPacket before packet between.state = shown_is between.lent packet before between.state (peeks.lent is).0 (peeks.packet is) shown in
    let copied : CopiesNext old_room (packet ++ rest) (length packet) PACKET before (record between { lent = None }) = record {
      packet = λ _. (refl, (peeks.lent is).1, omega (arith, long), subst (λ (p : List ℕ). IsNextPacket before p between.state) (sym all) here);
      small = λ no. absurd (cc);
      lent = λ no. absurd (cc);
      found = λ _. inl refl;
      waits = λ no. absurd (cc);
      too_large = λ no. absurd (cc);
      memory = λ no. absurd (cc);
      lost = λ no. absurd (cc);
      answers = inl refl;
      stays_lost = λ gone. absurd (let lost = peeks.stays_lost gone in cc);
      empty = inl refl;
      limit = peeks.limit;
      pending = peeks.pending;
      same_room = inl refl;
      rest_of_room = λ _. drop-append_seam packet rest;
    } in
    subst (λ (s : Side). CopiesNext old_room (front ++ rest) (length packet) PACKET before s) (sym taken)
    (subst (λ (f : List ℕ). CopiesNext old_room (f ++ rest) (length packet) PACKET before (record between { lent = None })) (sym same) copied)

-- it is longer than the room
lent_small : (lent : Option (List ℕ)) (packet room : List ℕ) (before : Side) (state : CodecState) → IfSome lent (λ p. IsNextPacket before p state)
    → IfSome lent (λ p. packet ≡ p) → length room < length packet
    → IfSome lent (λ p. IsNextPacket before p state × (length packet ≡ length p) × (length room < length packet))
lent_small None packet room before state hands shown short = hands
lent_small (Some lent) packet room before state hands shown short = (hands, ap length shown, short)

pub next_small : (room packet : List ℕ) (answer : ℤ) (before between : Side) → Peeks answer before between → answer ≡ PACKET
    → IfSome between.lent (λ lent. packet ≡ lent) → length room < length packet
    → CopiesNext room room (length packet) ROOM_TOO_SMALL before between
next_small room packet answer before between peeks is shown short = record {
  packet = λ no. absurd (cc);
  small = λ _. lent_small between.lent packet room before between.state (peeks.packet is) shown short;
  lent = λ _. peeks.lent is;
  found = λ _. inr refl;
  waits = λ no. absurd (cc);
  too_large = λ no. absurd (cc);
  memory = λ no. absurd (cc);
  lost = λ no. absurd (cc);
  answers = inr (inl refl);
  stays_lost = λ gone. absurd (let lost = peeks.stays_lost gone in cc);
  empty = inr (inl refl);
  limit = peeks.limit;
  pending = peeks.pending;
  same_room = inr refl;
  rest_of_room = λ no. absurd (cc);
}
