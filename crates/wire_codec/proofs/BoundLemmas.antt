-- How many bytes a delivery that waits holds, and where a codec goes on.
use Rattle.std.proofs.Common.{◌≡◌, ℕ, ◌+◌, ◌/◌, ◌<◌, ◌≤◌, List, [], ◌∷◌, length, arith, inl, inr, max, Option, Some, None, MatchOption, Result, Ok, Bool, false, IsSome}
use Rattle.wire_codec.specs.declared.codec.error.PacketCodecError.{PacketCodecError}
use Rattle.wire_codec.specs.Framing.{max_payload}
use Rattle.wire_codec.specs.Delivery.{chunk_len, IsWholeChunks, IsWaiting, IsBounded}
use Rattle.wire_codec.specs.Limited.{Limits, AreAtMost, bound, limit_at, framed_size, place_after, AreUnder, rest_limit}
use Rattle.wire_codec.specs.LimitedRuns.{AlignedAt, WasAllowed, unread_place}
use Rattle.wire_codec.specs.GoingOn.{GoesOnAt}
use Rattle.wire_codec.specs.Codec.{first_id, DecodesFrom}
use Rattle.wire_codec.specs.Laws.{AlignedGoesOn, BoundedDelivery, BoundedLimitedDelivery}
use Rattle.wire_codec.proofs.ChunkLemmas.{nothing_whole}
use Rattle.wire_codec.proofs.ConstantLimit.{one, one_delivers}
use Rattle.wire_codec.proofs.LimitedLemmas.{under_most}
use Rattle.wire_codec.proofs.GoingOnLemmas.{length-input}

-- with what waits after it, it is at most the rest of a header more
waiting_bounded : (limit most : ℕ) (unfinished rest : List ℕ) → length unfinished ≤ most → limit ≤ most
    → IsWaiting limit unfinished rest → length unfinished + length rest ≤ most + 3
waiting_bounded limit most unfinished rest few less (inl short) = omega arith
waiting_bounded limit most unfinished rest few less (inr waits) = let fits = waits.1 in let part = waits.2 in omega arith

bound_at_most : (most : ℕ) (limit : Option ℕ) (size : ℕ) → MatchOption limit ⊥ (λ n. n ≤ most) → bound limit size ≤ most
bound_at_most most None size is = absurd is
bound_at_most most (Some limit) size is = is

unfinished_under : (limits : Limits) (most place : ℕ) (held : List ℕ) (payloads : List (List ℕ)) (unfinished : List ℕ)
    → AreAtMost most limits → IsWholeChunks held → AreUnder limits place held payloads unfinished → length unfinished ≤ max most (length held)
unfinished_under limits most place held [] unfinished few whole within = under_most limits most place held unfinished few whole within
unfinished_under limits most place held (payload ∷ payloads) unfinished few whole within =
    let fits = unfinished_under limits most (place + framed_size payload) [] payloads unfinished few nothing_whole within.1 in omega arith

pub bounded_limited_delivery_is : BoundedLimitedDelivery
bounded_limited_delivery_is limits most place held input open_id payloads unfinished rest few d =
    let splits = d.splits in
    let fits = unfinished_under limits most place held payloads unfinished few splits.held_whole splits.within in
    let at = limit_at limits (place_after place payloads) (length unfinished / max_payload) in
    let less = bound_at_most most at (length unfinished + chunk_len rest) (few _) in
    (fits, waiting_bounded (rest_limit limits (place_after place payloads) unfinished rest) (max most (length held)) unfinished rest fits (omega arith) d.ends)

pub bounded_delivery_is : BoundedDelivery
bounded_delivery_is held input open_id limit payloads unfinished rest d =
    bounded_limited_delivery_is (one limit) limit 0 held input open_id payloads unfinished rest (λ place. omega arith) (one_delivers 0 d)

-- a call that waits, and a run
pub decoded_bounded : (answer : Result Bool PacketCodecError) (first : ℕ) (input held : List ℕ) (limit id : ℕ) (header : Option (ℕ × ℕ)) (src dst : List ℕ)
    → answer ≡ Ok false → DecodesFrom first input held limit answer id header src dst → IsBounded limit held dst src
decoded_bounded answer first input held limit id header src dst waits d =
    bounded_delivery_is held input first limit [] dst src (rw waits at d).0

-- the bytes that a codec has stand in the stream
goes_on_at : (limits : Limits) (place limit : ℕ) (header : Option (ℕ × ℕ)) (src held : List ℕ) → AlignedAt header src held
    → ((i : ℕ) → (IsSome header → 4 ≤ i) → i < length src → limits (unread_place place held + i) ≡ Some limit)
    → WasAllowed limits place header held
    → (mark : ℕ) × GoesOnAt limits mark place limit header src held
goes_on_at limits place limit None src held aligned same allowed =
    (0, record { aligned = aligned; marked = omega arith; same = λ i low high. same i (λ none. absurd cc) high })
goes_on_at limits place limit (Some h) src held aligned same allowed =
    (unread_place place held + 4, record { aligned = aligned; marked = (allowed, omega arith); same = λ i low high. same i (λ some. omega arith) high })

pub aligned_goes_on_is : AlignedGoesOn
aligned_goes_on_is limits place state aligned = (
  (let here = length-input (first_id state) state.unread state.held in omega arith),
  λ has. goes_on_at limits place state.limit state.header state.unread state.held aligned has.0 has.1,
)
