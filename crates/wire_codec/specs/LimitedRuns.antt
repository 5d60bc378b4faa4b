-- Runs of decodes over pieces that each have a limit.
use Rattle.std.specs.Prelude.{◌≡◌, ℕ, ◌+◌, ◌-◌, ◌/◌, ◌<◌, ◌≤◌, ◌↔◌, ◌⊎◌, ◌==◌, nat_lt, if◌then◌else◌, List, [], ◌∷◌, ◌++◌, length, take, drop, slice_index, Option, Some, None, MatchOption, IsSome, Result, Ok, Err, Bool, true, false, ⊤}
use Rattle.std.specs.List.{flat_map}
use Rattle.std.specs.Borrow.{Bor}
use Rattle.wire_codec.specs.declared.codec.error.PacketCodecError.{PacketCodecError}
use Rattle.wire_codec.specs.declared.codec.error.PacketCodecError.TheVariants.{PacketTooLarge, OutOfMemory, PacketsOutOfSync, Io}
use Rattle.wire_codec.specs.Framing.{max_payload, framing, next_id, id_after}
use Rattle.wire_codec.specs.Delivery.{chunk_len, id_at, IsWholeChunks, Waiting, TooLarge, OutOfSync}
use Rattle.wire_codec.specs.Codec.{CodecState, open_id, first_id, input_of}
use Rattle.wire_codec.specs.Limited.{Limits, Allows, chunk_place, place_after, limit_at, ContinuesUnder, SplitsUnder, DeliversUnder}

-- what is held are full chunks, and a remembered header is the one at the front of what is to be
-- read
abbrev pub AlignedAt : Option (ℕ × ℕ) → List ℕ → List ℕ → Type 0
AlignedAt header src held =
    IsWholeChunks held
    × MatchOption header ⊤ (λ h. (4 ≤ length src) × (slice_index src 3 ≡ h.0)
    × (chunk_len src ≡ h.1) × (0 < h.1))

-- the codec goes on at its buffers, whatever its limit
abbrev pub Aligned : CodecState → Type 0
Aligned state = AlignedAt state.header state.unread state.held

-- the place at which the bytes to be read begin, after the full chunks of a payload that is framed
-- from this place on
abbrev pub unread_place : ℕ → List ℕ → ℕ
unread_place place held = chunk_place place (length held / max_payload)

-- this place is where the fourth byte stands of a header that is remembered
abbrev pub header_ends_at : Option (ℕ × ℕ) → ℕ → ℕ → Bool
header_ends_at None end place = false
header_ends_at (Some header) end place = place == end

-- the byte at this place, counted from where the unfinished packet began, is the fourth of a header
-- that the codec remembers
abbrev pub is_remembered : CodecState → ℕ → Bool
is_remembered state place = header_ends_at state.header (unread_place 0 state.held + 3) place

-- the limit of a byte of pieces, by its place in them; past them, that of the last piece
abbrev pub piece_limit : ℕ → List (ℕ × Bor (List ℕ)) → ℕ → ℕ
piece_limit last [] place = last
piece_limit last (piece ∷ pieces) place =
    if nat_lt place (length piece.1.now) then piece.0 else piece_limit piece.0 pieces
    (place - length piece.1.now)

-- the limits of a run: the codec's for the bytes that it has, and each piece's for its own. A
-- header that is remembered was judged before, and is not judged again
abbrev pub run_limits : CodecState → List (ℕ × Bor (List ℕ)) → Limits
run_limits state pieces place =
    if is_remembered state place then None
    else Some (if nat_lt place (length (input_of state)) then state.limit else piece_limit
    state.limit pieces (place - length (input_of state)))

-- the limit of the last of these pieces, or else this one
abbrev pub last_limit : ℕ → List (ℕ × Bor (List ℕ)) → ℕ
last_limit last [] = last
last_limit last (piece ∷ pieces) = last_limit piece.0 pieces

-- the pieces, one after another
abbrev pub limited_bytes : List (ℕ × Bor (List ℕ)) → List ℕ
limited_bytes pieces = flat_map (λ piece. piece.1.now) pieces

-- a header that is remembered is within the limit of its fourth byte
abbrev pub WasAllowed : Limits → ℕ → Option (ℕ × ℕ) → List ℕ → Type 0
WasAllowed limits place header held = MatchOption header ⊤
    (λ h. Allows (limit_at limits place (length held / max_payload)) (length held + h.1))

-- a run over this input, which begins at this place, handed out these payloads and answered so
abbrev pub RunsUnder : Limits → ℕ → ℕ → List ℕ → List ℕ → Result (Unit {0}) PacketCodecError
    → List (List ℕ) → ℕ → Option (ℕ × ℕ) → List ℕ → List ℕ → Type 0
RunsUnder limits place first input held (Ok _) gained id header src dst =
    DeliversUnder limits place held input first gained Waiting dst src
    × (id ≡ id_at (id_after first gained) dst)
    × AlignedAt header src dst × (IsSome header ↔ (4 ≤ length src))
RunsUnder limits place first input held (Err PacketTooLarge) gained id header src dst =
    DeliversUnder limits place held input first gained TooLarge dst src
    × (id ≡ id_at (id_after first gained) dst) × (header ≡ None)
-- the chunk of another id is taken, and its bytes stand after what is held
RunsUnder limits place first input held (Err PacketsOutOfSync) gained id header src dst =
    (unfinished : List ℕ) × (rest : List ℕ) × DeliversUnder limits place held input first gained
    OutOfSync unfinished rest
    × (dst ≡ unfinished ++ take (chunk_len rest) (drop 4 rest))
    × (src ≡ drop (4 + chunk_len rest) rest)
    × (id ≡ id_at (id_after first gained) unfinished) × (header ≡ None)
-- nothing is lost
RunsUnder limits place first input held (Err OutOfMemory) gained id header src dst =
    SplitsUnder limits place held input first gained dst src
    × (open_id id dst ≡ id_after first gained)
    × AlignedAt header src dst × WasAllowed limits (place_after place gained) header dst
RunsUnder limits place first input held (Err (Io error)) gained id header src dst = ⊥

-- what one call of `decode` makes of it
abbrev pub DecodesUnder : Limits → ℕ → ℕ → List ℕ → List ℕ → Result Bool PacketCodecError → ℕ
    → Option (ℕ × ℕ) → List ℕ → List ℕ → Type 0
-- the packet was framed at the front of the input
DecodesUnder limits place first input held (Ok true) id header src packet =
    (input ≡ framing first packet ++ src) × ContinuesUnder limits place held packet
    × (id ≡ next_id first packet) × (header ≡ None)
DecodesUnder limits place first input held (Ok false) id header src dst = RunsUnder limits place
    first input held (Ok tt) [] id header src dst
DecodesUnder limits place first input held (Err PacketTooLarge) id header src dst = RunsUnder limits
    place first input held (Err PacketTooLarge) [] id header src dst
DecodesUnder limits place first input held (Err PacketsOutOfSync) id header src dst = RunsUnder
    limits place first input held (Err PacketsOutOfSync) [] id header src dst
-- nothing is lost
DecodesUnder limits place first input held (Err OutOfMemory) id header src dst =
    SplitsUnder limits place held input first [] dst src × (id ≡ id_at first dst)
    × AlignedAt header src dst × WasAllowed limits place header dst × IsSome header
DecodesUnder limits place first input held (Err (Io error)) id header src dst = ⊥

-- what one call of `decode` makes of a codec that is aligned
abbrev pub DecodesAligned : CodecState → Result Bool PacketCodecError → CodecState → Type 0
DecodesAligned before answer after =
    DecodesUnder (run_limits before []) 0 (first_id before) (input_of before) before.held answer
    after.id after.header after.unread after.held

abbrev pub DecodesWhereAligned : CodecState → Result Bool PacketCodecError → CodecState → Type 0
DecodesWhereAligned before answer after = Aligned before → DecodesAligned before answer after

-- the same run over a longer input, of which these bytes are left after what `src` holds
abbrev pub LeavesUnder : Limits → ℕ → ℕ → List ℕ → List ℕ → Result (Unit {0}) PacketCodecError
    → List (List ℕ) → List ℕ → List ℕ → List ℕ → Type 0
LeavesUnder limits place first input held (Ok _) gained src left dst = DeliversUnder limits place
    held input first gained Waiting dst (src ++ left)
LeavesUnder limits place first input held (Err PacketTooLarge) gained src left dst = DeliversUnder
    limits place held input first gained TooLarge dst (src ++ left)
LeavesUnder limits place first input held (Err PacketsOutOfSync) gained src left dst =
    (unfinished : List ℕ) × (rest : List ℕ) × DeliversUnder limits place held input first gained
    OutOfSync unfinished rest
    × (dst ≡ unfinished ++ take (chunk_len rest) (drop 4 rest))
    × (src ++ left ≡ drop (4 + chunk_len rest) rest)
LeavesUnder limits place first input held (Err OutOfMemory) gained src left dst = SplitsUnder limits
    place held input first gained dst (src ++ left)
LeavesUnder limits place first input held (Err (Io error)) gained src left dst = ⊥

-- a run over this input waits for more
abbrev pub WaitsUnder : Limits → ℕ → List ℕ → List ℕ → Type 0
WaitsUnder limits first input held = (gained : List (List ℕ)) × (unfinished : List ℕ)
    × (rest : List ℕ) × DeliversUnder limits 0 held input first gained Waiting unfinished rest

-- over the first pieces, this many of them, a run from this state only waits
abbrev pub WaitsLimited : CodecState → List (ℕ × Bor (List ℕ)) → ℕ → Type 0
WaitsLimited before pieces count = WaitsUnder (run_limits before pieces) (first_id before)
    (input_of before ++ limited_bytes (take count pieces)) before.held

-- a header in front that was remembered at the start, or whose fourth byte came before the last of
-- the pieces did, is remembered
abbrev pub RemembersLimited : CodecState → List (ℕ × Bor (List ℕ)) → ℕ → List (List ℕ)
    → Option (ℕ × ℕ) → List ℕ → List ℕ → Type 0
RemembersLimited before pieces count gained header src dst =
    4 ≤ length src
    → (IsSome before.header × (unread_place (place_after 0 gained) dst
    ≡ unread_place 0 before.held))
    ⊎ ((0 < count) × (unread_place (place_after 0 gained) dst + 3 < length (input_of before
    ++ limited_bytes (take (count - 1) pieces))))
    → IsSome header

-- a run from this state over all these pieces, of which the first `count` were appended: the
-- answer, the payloads handed out, and what stands afterwards
abbrev pub RunsLimited : CodecState → List (ℕ × Bor (List ℕ)) → ℕ
    → Result (Unit {0}) PacketCodecError → List (List ℕ) → CodecState → Type 0
RunsLimited before pieces count answer gained after =
    RunsUnder (run_limits before pieces) 0 (first_id before) (input_of before
    ++ limited_bytes (take count pieces)) before.held
    answer gained after.id after.header after.unread after.held
    × LeavesUnder (run_limits before pieces) 0 (first_id before) (input_of before
    ++ limited_bytes pieces) before.held
    answer gained after.unread (limited_bytes (drop count pieces)) after.held
    × (answer ≡ Err OutOfMemory → RemembersLimited before pieces count gained after.header
    after.unread after.held)

-- the same run, and what was made of the payloads
abbrev pub TakesLimited : CodecState → List (ℕ × Bor (List ℕ)) → ℕ
    → Result (Unit {0}) PacketCodecError → CodecState → (List (List ℕ) → Type 0) → Type 0
TakesLimited before pieces count answer after makes =
    (gained : List (List ℕ)) × makes gained × RunsLimited before pieces count answer gained after
