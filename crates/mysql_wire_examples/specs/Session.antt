-- A connection whose limit changes once.
use Rattle.std.specs.Prelude.{ℕ, List, [], ◌++◌, length, nat_lt, if◌then◌else◌, Some}
use Rattle.std.specs.Borrow.{Bor}
use Rattle.mysql_wire.specs.Codec.{CodecState, first_id, input_of}
use Rattle.mysql_wire.specs.Delivery.{Waiting}
use Rattle.mysql_wire.specs.Limited.{Limits, DeliversUnder}

-- the limit of the bytes before a place, and that of those from there on
abbrev pub session_limits : ℕ → ℕ → ℕ → Limits
session_limits limit later at place = Some (if nat_lt place at then limit else later)

-- what had come under the codec's own limit, and after it a piece under this one, deliver these
-- payloads, and wait
abbrev pub GoesOnUnder : ℕ → CodecState → List ℕ → List (List ℕ) → CodecState → Type 0
GoesOnUnder limit before piece gained after =
    DeliversUnder (session_limits before.limit limit (length (input_of before))) 0
    before.held (input_of before ++ piece) (first_id before) gained Waiting after.held after.unread

-- the bytes of a login and those of the session after it, each under its limit, deliver these
-- payloads, and wait
abbrev pub DeliversSession : ℕ × Bor (List ℕ) → ℕ × Bor (List ℕ) → List (List ℕ) → Type 0
DeliversSession login session payloads =
    (unfinished : List ℕ) × (rest : List ℕ)
    × DeliversUnder (session_limits login.0 session.0 (length login.1.now)) 0
    [] (login.1.now ++ session.1.now) 0 payloads Waiting unfinished rest
