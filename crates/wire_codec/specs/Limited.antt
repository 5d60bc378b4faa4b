-- What stands at the front of a stream whose bytes came under different limits, and where it stops.
-- Nothing here knows of pieces, of a remembered header or of a loop.
use Rattle.std.specs.Prelude.{◌≡◌, ℕ, ◌+◌, ◌*◌, ◌/◌, ◌<◌, ◌≤◌, List, [], ◌∷◌, ◌++◌, length, take, min, Option, Some, None, MatchOption, ⊤}
use Rattle.wire_codec.specs.Framing.{max_payload, front, stream, id_after}
use Rattle.wire_codec.specs.Delivery.{chunk_len, IsWholeChunks, Ending, Ends}

-- the limit of each byte of a stream, by its place; where there is none, nothing is judged
abbrev pub Limits : Type 0
Limits = ℕ → Option ℕ

-- a packet of this many bytes is within this limit
abbrev pub Allows : Option ℕ → ℕ → Type 0
Allows None size = ⊤
Allows (Some limit) size = size ≤ limit

-- each byte has a limit, and none is above this one
abbrev pub AreAtMost : ℕ → Limits → Type 0
AreAtMost most limits = (place : ℕ) → MatchOption (limits place) ⊥ (λ limit. limit ≤ most)

-- what a packet of this many bytes is compared with
abbrev pub bound : Option ℕ → ℕ → ℕ
bound None size = size
bound (Some limit) size = limit

-- where the chunk of this number begins, of a payload that is framed from this place on
abbrev pub chunk_place : ℕ → ℕ → ℕ
chunk_place place index = place + (index * max_payload + 4 * index)

-- how many bytes a payload has when it is framed
abbrev pub framed_size : List ℕ → ℕ
framed_size payload = length payload + 4 * (length payload / max_payload + 1)

-- the place after these payloads, framed from this place on
abbrev pub place_after : ℕ → List (List ℕ) → ℕ
place_after place [] = place
place_after place (payload ∷ payloads) = place_after (place + framed_size payload) payloads

-- the limit by which the chunk of this number is judged: that of the fourth byte of its header
abbrev pub limit_at : Limits → ℕ → ℕ → Option ℕ
limit_at limits place index = limits (chunk_place place index + 3)

-- a payload that is framed from this place on begins with what is held, and with each chunk after
-- that it is within that chunk's limit
pub record ContinuesUnder (limits : Limits) (place : ℕ) (held payload : List ℕ) : Type 0 where
  pub begins : take (length held) payload ≡ held
  pub small : (index : ℕ) → length held ≤ index * max_payload → index * max_payload < length payload
      → Allows (limit_at limits place index) (min (length payload)
      (index * max_payload + max_payload))

-- the first payload, or else what is unfinished, continues what is held, and each is within its
-- limits
abbrev pub AreUnder : Limits → ℕ → List ℕ → List (List ℕ) → List ℕ → Type 0
AreUnder limits place held [] unfinished = ContinuesUnder limits place held unfinished
AreUnder limits place held (payload ∷ payloads) unfinished =
    ContinuesUnder limits place held payload × AreUnder limits (place + framed_size payload) []
    payloads unfinished

-- the input, which begins at this place, is these payloads framed, the full chunks of an unfinished
-- one, and a rest
pub record SplitsUnder (limits : Limits) (place : ℕ) (held input : List ℕ) (open_id : ℕ)
    (payloads : List (List ℕ)) (unfinished rest : List ℕ) : Type 0 where
  pub is : input ≡ stream open_id payloads ++ (front (id_after open_id payloads) unfinished ++ rest)
  pub held_whole : IsWholeChunks held
  pub unfinished_whole : IsWholeChunks unfinished
  pub within : AreUnder limits place held payloads unfinished

-- the limit of the fourth byte of the rest, after the full chunks of a payload that is framed from
-- this place on
abbrev pub rest_limit : Limits → ℕ → List ℕ → List ℕ → ℕ
rest_limit limits place unfinished rest = bound
    (limit_at limits place (length unfinished / max_payload)) (length unfinished + chunk_len rest)

-- the input is these payloads framed, and then stops this way
pub record DeliversUnder (limits : Limits) (place : ℕ) (held input : List ℕ) (open_id : ℕ)
    (payloads : List (List ℕ)) (ending : Ending) (unfinished rest : List ℕ) : Type 0 where
  pub splits : SplitsUnder limits place held input open_id payloads unfinished rest
  pub ends : Ends ending (id_after open_id payloads)
      (rest_limit limits (place_after place payloads) unfinished rest) unfinished rest
