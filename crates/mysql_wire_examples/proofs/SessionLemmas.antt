-- A limit that changes once.
use Rattle.std.proofs.Common.{◌≡◌, ℕ, ◌+◌, ◌<◌, ◌≤◌, List, [], ◌∷◌, ◌++◌, length, max, arith, ap, sym, subst, append-nil, Option, Some, None, MatchOption, IsSome, Result, Ok, OnOk, Bool, true, false, if◌then◌else◌, nat_lt}
use Rattle.std.proofs.lemmas.Bool.{lt-ltb, le-ltb}
use Rattle.std.specs.Borrow.{Bor}
use Rattle.mysql_wire.specs.Codec.{CodecState, Stands, StandsAt, first_id, input_of}
use Rattle.mysql_wire.specs.Delivery.{Waiting}
use Rattle.mysql_wire.specs.Framing.{max_payload}
use Rattle.mysql_wire.specs.GoingOn.{GoesOn, HavePieceLimits, RunsOn}
use Rattle.mysql_wire.specs.Laws.{AlignedGoesOn, EmptyGoesOn, empty_state}
use Rattle.mysql_wire.specs.Limited.{Allows, AreAtMost, DeliversUnder}
use Rattle.mysql_wire.specs.LimitedRuns.{Aligned, AlignedAt, WasAllowed, unread_place}
use Rattle.mysql_wire.specs.PacketCodecError.{PacketCodecError}
use Rattle.mysql_wire_examples.specs.Session.{session_limits}

-- before the place, and from there on
before_place : (limit later at place : ℕ) → place < at → session_limits limit later at place ≡ Some limit
before_place limit later at place inside = ap (λ (t : Bool). Some (if t then limit else later)) (lt-ltb place at inside)

from_place : (limit later at place : ℕ) → at ≤ place → session_limits limit later at place ≡ Some later
from_place limit later at place behind = ap (λ (t : Bool). Some (if t then limit else later)) (le-ltb place at behind)

one_of : (limit later : ℕ) (t : Bool) → MatchOption (Some (if t then limit else later)) ⊥ (λ n. n ≤ max limit later)
one_of limit later true = omega arith
one_of limit later false = omega arith

pub session_at_most : (limit later at : ℕ) → AreAtMost (max limit later) (session_limits limit later at)
session_at_most limit later at place = one_of limit later (nat_lt place at)

-- where a codec stands it is aligned
stands_aligned : (limit : ℕ) (header : Option (ℕ × ℕ)) (src held : List ℕ) → StandsAt limit header src held → AlignedAt header src held
stands_aligned limit None src held stands = (stands.0, tt)
stands_aligned limit (Some h) src held stands = (stands.0, (stands.1.0, stands.1.1, stands.1.2, stands.1.3))

pub aligned_where_it_stands : (state : CodecState) → Stands state → Aligned state
aligned_where_it_stands state stands = stands_aligned state.limit state.header state.unread state.held stands

-- the bytes that it has are before the place
has_limits : (later at limit : ℕ) (header : Option (ℕ × ℕ)) (src held : List ℕ) → at ≡ unread_place 0 held + length src → StandsAt limit header src held
    → ((i : ℕ) → (IsSome header → 4 ≤ i) → i < length src → session_limits limit later at (unread_place 0 held + i) ≡ Some limit)
    × WasAllowed (session_limits limit later at) 0 header held
has_limits later at limit None src held is stands = (λ i _ inside. before_place limit later at (unread_place 0 held + i) (omega arith), tt)
has_limits later at limit (Some h) src held is stands = (
  λ i _ inside. before_place limit later at (unread_place 0 held + i) (omega arith),
  (let long = stands.1.0 in let fits = stands.1.4 in
      subst (λ (b : Option ℕ). Allows b (length held + h.1)) (sym (before_place limit later at (unread_place 0 held + 3) (omega arith))) fits),
)

pub goes_on_in_session : AlignedGoesOn → (later : ℕ) (state : CodecState) → Stands state
    → (mark : ℕ) × GoesOn (session_limits state.limit later (length (input_of state))) mark 0 state
goes_on_in_session goes later state stands =
    let at : ℕ = length (input_of state) in
    let limits = session_limits state.limit later at in
    let known = goes limits 0 state (aligned_where_it_stands state stands) in
    known.1 (has_limits later at state.limit state.header state.unread state.held (omega (arith, known.0)) stands)

-- a piece that comes after the place
pub piece_behind : (limit later at : ℕ) (piece : Bor (List ℕ)) → HavePieceLimits (session_limits limit later at) (0 + at) ((later, piece) ∷ [])
piece_behind limit later at piece = (λ i inside. from_place limit later at (0 + at + i) (omega arith), tt)

-- what a run over that piece hands out
pub delivers_piece : (before after : CodecState) (later : ℕ) (piece : Bor (List ℕ)) (count : ℕ) (answer : Result (Unit {0}) PacketCodecError) (gained : List (List ℕ))
    → answer ≡ Ok tt → OnOk answer (count ≡ 1)
    → RunsOn (session_limits before.limit later (length (input_of before))) 0 before ((later, piece) ∷ []) count answer gained after
    → DeliversUnder (session_limits before.limit later (length (input_of before))) 0 before.held (input_of before ++ piece.now) (first_id before) gained Waiting after.held after.unread
delivers_piece before after later piece count answer gained ok all run =
    let limits = session_limits before.limit later (length (input_of before)) in
    let one : count ≡ 1 = subst (λ (z : Result (Unit {0}) PacketCodecError). OnOk z (count ≡ 1)) ok all in
    let known : RunsOn limits 0 before ((later, piece) ∷ []) 1 (Ok tt) gained after =
    subst (λ (n : ℕ). RunsOn limits 0 before ((later, piece) ∷ []) n (Ok tt) gained after) one
    (subst (λ (z : Result (Unit {0}) PacketCodecError). RunsOn limits 0 before ((later, piece) ∷ []) count z gained after) ok run) in
    subst (λ (z : List ℕ). DeliversUnder limits 0 before.held (input_of before ++ z) (first_id before) gained Waiting after.held after.unread) (append-nil piece.now) known.0.0

-- a whole session from a new codec
pub goes_on_from_start : EmptyGoesOn → (limit later at : ℕ) (before : CodecState) → before ≡ empty_state 0 limit → GoesOn (session_limits limit later at) 0 0 before
goes_on_from_start goes limit later at before is =
    subst (λ (z : CodecState). GoesOn (session_limits limit later at) 0 0 z) (sym is) (goes (session_limits limit later at) 0 0 limit)

pub both_pieces : (limit later : ℕ) (login session : Bor (List ℕ)) (before : CodecState) → before ≡ empty_state 0 limit
    → HavePieceLimits (session_limits limit later (length login.now)) (0 + length (input_of before)) ((limit, login) ∷ (later, session) ∷ [])
unfolding max_payload
both_pieces limit later login session before is =
    subst (λ (z : CodecState). HavePieceLimits (session_limits limit later (length login.now)) (0 + length (input_of z)) ((limit, login) ∷ (later, session) ∷ [])) (sym is) (
      λ i inside. before_place limit later (length login.now) (0 + 0 + i) (omega arith),
      (λ i inside. from_place limit later (length login.now) (0 + 0 + length login.now + i) (omega arith), tt),
    )

pub delivers_session : (limit later : ℕ) (login session : Bor (List ℕ)) (before after : CodecState) (count : ℕ) (answer : Result (Unit {0}) PacketCodecError) (gained : List (List ℕ))
    → before ≡ empty_state 0 limit → answer ≡ Ok tt → OnOk answer (count ≡ 2)
    → RunsOn (session_limits limit later (length login.now)) 0 before ((limit, login) ∷ (later, session) ∷ []) count answer gained after
    → DeliversUnder (session_limits limit later (length login.now)) 0 [] (login.now ++ session.now) 0 gained Waiting after.held after.unread
unfolding max_payload
delivers_session limit later login session before after count answer gained is ok all run =
    let limits = session_limits limit later (length login.now) in
    let pieces : List (ℕ × Bor (List ℕ)) = (limit, login) ∷ (later, session) ∷ [] in
    let two : count ≡ 2 = subst (λ (z : Result (Unit {0}) PacketCodecError). OnOk z (count ≡ 2)) ok all in
    let known : RunsOn limits 0 (empty_state 0 limit) pieces 2 (Ok tt) gained after =
    subst (λ (z : CodecState). RunsOn limits 0 z pieces 2 (Ok tt) gained after) is
    (subst (λ (n : ℕ). RunsOn limits 0 before pieces n (Ok tt) gained after) two
    (subst (λ (z : Result (Unit {0}) PacketCodecError). RunsOn limits 0 before pieces count z gained after) ok run)) in
    subst (λ (z : List ℕ). DeliversUnder limits 0 [] (login.now ++ z) 0 gained Waiting after.held after.unread) (append-nil session.now) known.0.0
