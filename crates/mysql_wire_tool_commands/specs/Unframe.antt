-- What `unframe` writes.
use Rattle.std.specs.Io.KnownBytes.{Appends, Consumes, IsAtEnd}
use Rattle.std.specs.List.{flat_map}
use Rattle.std.specs.Prelude.{◌≡◌, ◌==◌, ◌⊎◌, ◌+◌, ◌*◌, ◌/◌, ◌<◌, ◌≤◌, nat_lt, ℕ, List, [], ◌++◌, length, take, if◌then◌else◌, codes, Option, Some, None}
use Rattle.wire_codec.specs.Framing.{front, id_after, max_payload}
use Rattle.wire_codec.specs.Delivery.{Ending, Waiting, TooLarge, OutOfSync, Delivers, id_at}
use Rattle.wire_codec.specs.Codec.{CodecState, codec_state, expected_id, first_id, header_of, input_of}
use Rattle.wire_codec.specs.Limited.{Limits, place_after, DeliversUnder}
use Rattle.wire_codec.specs.LimitedRuns.{WaitsUnder}
use Rattle.wire_codec.specs.GoingOn.{GoesOn}
use Rattle.mysql_wire_tool_commands.specs.declared.traced_read.OneRead.{OneRead}
use Rattle.mysql_wire_tool_commands.specs.declared.unframe.Verdict.{Verdict}
use Rattle.mysql_wire_tool_commands.specs.declared.unframe.Verdict.TheVariants as verdict
use Rattle.mysql_wire_tool_commands.specs.declared.unframe.Run.{Run}
use Rattle.mysql_wire_tool_commands.specs.Reads.{ReadsWhile}
use Rattle.mysql_wire_tool_commands.specs.Texts.{payload_line, rest_line}

-- a line for each packet
abbrev pub packet_lines : List (List ℕ) → List ℕ
packet_lines payloads = flat_map payload_line payloads

-- the last line: how many bytes are after the last whole packet, or why the packets stop
abbrev pub ending_line : Ending → ℕ → List ℕ
ending_line Waiting left = rest_line left
ending_line TooLarge left = codes "too large\n"
ending_line OutOfSync left = codes "out of sync\n"

abbrev pub ending_status : Ending → ℕ → ℕ
ending_status Waiting left = if left == 0 then 0 else 3
ending_status TooLarge left = 4
ending_status OutOfSync left = 5

-- what `unframe` writes of the bytes it reads under a limit, and its status: what these bytes
-- deliver, from id 0
pub record Unframed (limit : ℕ) (input : List ℕ) (status : ℕ) (text : List ℕ) : Type 0 where
  pub payloads : List (List ℕ)
  pub ending : Ending
  pub unfinished : List ℕ
  pub rest : List ℕ
  pub delivered : Delivers [] input 0 limit payloads ending unfinished rest
  pub is : text ≡ packet_lines payloads
      ++ ending_line ending (length (front (id_after 0 payloads) unfinished ++ rest))
  pub ends : status ≡ ending_status ending (length (front (id_after 0 payloads) unfinished ++ rest))

-- `unframe` ended with this status, where readers and writers tell their bytes: at 0, 3, 4 and 5
-- the text of what was read was written, and at 0 and 3 all input was read
pub record UnframeEnds (limit status : ℕ) (unread left written now : Option (List ℕ)) : Type 0 where
  pub cases : (status ≡ 0) ⊎ (status ≡ 2) ⊎ (status ≡ 3) ⊎ (status ≡ 4) ⊎ (status ≡ 5)
      ⊎ (status ≡ 6)
  pub text : (status ≡ 0) ⊎ (status ≡ 3) ⊎ (status ≡ 4) ⊎ (status ≡ 5)
      → (input : List ℕ) × (text : List ℕ) × Consumes unread left input
      × Unframed limit input status text × Appends written now text
  pub all_read : (status ≡ 0) ⊎ (status ≡ 3) → IsAtEnd left

-- the limit of each byte of an input: one up to a place, counted from 0, and another from there on
abbrev pub place_limits : ℕ → ℕ → ℕ → Limits
place_limits limit later at place = Some (if nat_lt place at then limit else later)

-- the same where each byte has its limit
pub record UnframedUnder (limits : Limits) (input : List ℕ) (status : ℕ) (text : List ℕ) : Type 0
  where
    pub payloads : List (List ℕ)
    pub ending : Ending
    pub unfinished : List ℕ
    pub rest : List ℕ
    pub delivered : DeliversUnder limits 0 [] input 0 payloads ending unfinished rest
    pub is : text ≡ packet_lines payloads
        ++ ending_line ending (length (front (id_after 0 payloads) unfinished ++ rest))
    pub ends : status ≡ ending_status ending (length (front (id_after 0 payloads) unfinished
        ++ rest))

-- as no read goes past this place from before it, bytes after it were read only where those before
-- it need more
abbrev pub StopsAt : Limits → ℕ → List ℕ → Type 0
StopsAt limits at input = (length input ≤ at) ⊎ WaitsUnder limits 0 (take at input) []

-- `unframe` ended with this status, under limits that change at this place
pub record UnframeUnderEnds (limits : Limits) (at status : ℕ)
    (unread left written now : Option (List ℕ)) : Type 0 where
  pub cases : (status ≡ 0) ⊎ (status ≡ 2) ⊎ (status ≡ 3) ⊎ (status ≡ 4) ⊎ (status ≡ 5)
      ⊎ (status ≡ 6)
  pub text : (status ≡ 0) ⊎ (status ≡ 3) ⊎ (status ≡ 4) ⊎ (status ≡ 5)
      → (input : List ℕ) × (text : List ℕ) × Consumes unread left input
      × UnframedUnder limits input status text × Appends written now text
      × StopsAt limits at input
  pub all_read : (status ≡ 0) ⊎ (status ≡ 3) → IsAtEnd left

-- `unframe` ended so under one limit up to this place, and another from there on
abbrev pub UnframeLimitedEnds : ℕ → ℕ → ℕ → ℕ → Option (List ℕ) → Option (List ℕ)
    → Option (List ℕ) → Option (List ℕ) → Type 0
UnframeLimitedEnds limit later at status unread left written now =
    UnframeUnderEnds (place_limits limit later at) at status unread left written now

-- and so under all limits that are the same byte by byte
abbrev pub UnframeEndsOver : ℕ → ℕ → ℕ → ℕ → Option (List ℕ) → Option (List ℕ)
    → Option (List ℕ) → Option (List ℕ) → Type 0
UnframeEndsOver limit later at status unread left written now =
    (limits : Limits) → ((place : ℕ) → limits place ≡ place_limits limit later at place)
    → UnframeUnderEnds limits at status unread left written now

-- no byte was asked for after a fault: each read was made where the bytes before it only wait,
-- under all limits that are the same byte by byte
abbrev pub StopsOver : ℕ → ℕ → ℕ → Option (List OneRead) → Option (List OneRead)
    → Option (List ℕ) → Type 0
StopsOver limit later at old new unread =
    (limits : Limits) → ((place : ℕ) → limits place ≡ place_limits limit later at place)
    → ReadsWhile (λ front. WaitsUnder limits 0 front []) old new unread

-- so far these bytes were read and this text was written, and the codec waits for more
pub record Unframing (limits : Limits) (at : ℕ) (state : CodecState) (input text : List ℕ) :
    Type 0 where
  pub payloads : List (List ℕ)
  pub delivered : DeliversUnder limits 0 [] input 0 payloads Waiting state.held state.unread
  pub first : first_id state ≡ id_after 0 payloads
  pub mark : ℕ
  pub goes_on : GoesOn limits mark (place_after 0 payloads) state
  pub apart : StopsAt limits at input
  pub is : text ≡ packet_lines payloads

-- what one piece makes of it: the codec waits, or packets stop
abbrev pub TakesUnder : Limits → ℕ → CodecState → List ℕ → Verdict → List (List ℕ) → CodecState
    → Type 0
TakesUnder limits place before piece verdict.Waits gained after =
    DeliversUnder limits place before.held (input_of before ++ piece) (first_id before) gained
    Waiting after.held after.unread
    × (after.id ≡ id_at (id_after (first_id before) gained) after.held)
    × (mark : ℕ) × GoesOn limits mark (place_after place gained) after
TakesUnder limits place before piece verdict.TooLarge gained after =
    (unfinished : List ℕ) × (rest : List ℕ) × DeliversUnder limits place before.held
    (input_of before ++ piece) (first_id before) gained TooLarge unfinished rest
TakesUnder limits place before piece verdict.OutOfSync gained after =
    (unfinished : List ℕ) × (rest : List ℕ) × DeliversUnder limits place before.held
    (input_of before ++ piece) (first_id before) gained OutOfSync unfinished rest

-- and the lines of the packets that it brings
abbrev pub TakesLines : Limits → ℕ → CodecState → List ℕ → Verdict → List ℕ → CodecState → Type 0
TakesLines limits place before piece verdict text after = (gained : List (List ℕ))
    × (text ≡ packet_lines gained) × TakesUnder limits place before piece verdict gained after

-- what a piece under this limit makes of it, in every place of a stream
abbrev pub TakesPiece : CodecState → ℕ → List ℕ → Verdict → List ℕ → CodecState → Type 0
TakesPiece before limit piece verdict text after =
    (limits : Limits) (mark place : ℕ) → GoesOn limits mark place before
    → ((i : ℕ) → i < length piece → limits (place + length (input_of before) + i) ≡ Some limit)
    → TakesLines limits place before piece verdict text after

-- the lines for it
abbrev pub verdict_line : Verdict → List ℕ
verdict_line verdict.Waits = []
verdict_line verdict.TooLarge = codes "too large\n"
verdict_line verdict.OutOfSync = codes "out of sync\n"

-- a run's codec and buffers
abbrev pub run_state : {A : Type 0} → Run A → CodecState
run_state run = codec_state run.codec run.src.items run.dst.items

-- how many bytes came after the last whole packet: the full chunks of an unfinished one, with
-- their headers, and the bytes unread
abbrev pub bytes_left : CodecState → ℕ
bytes_left state =
    length state.held + 4 * (length state.held / max_payload) + length state.unread

-- the limit of the next bytes
abbrev pub next_limit : {A : Type 0} → Run A → ℕ
next_limit run = if nat_lt 0 run.ahead then run.limit else run.later

-- a run takes a part of a piece under this limit, and the lines of what it makes of it are written
abbrev pub WritesPart : {A : Type 0} → ℕ → Run A → Run A → List ℕ → Verdict → Option (List ℕ)
    → Option (List ℕ) → Type 0
WritesPart limit old new part verdict written now = (text : List ℕ)
    × TakesPiece (run_state old) limit part verdict text (run_state new)
    × Appends written now (text ++ verdict_line verdict)

-- the same of one piece, under the limit of the next bytes
abbrev pub WritesPiece : {A : Type 0} → Run A → Run A → List ℕ → Verdict → Option (List ℕ)
    → Option (List ℕ) → Type 0
WritesPiece old new piece verdict written now =
    WritesPart (next_limit old) old new piece verdict written now

-- `unframe` ended so from where this run starts
abbrev pub RunEnds : {A : Type 0} → Run A → ℕ → Option (List ℕ) → Option (List ℕ)
    → Option (List ℕ) → Option (List ℕ) → Type 0
RunEnds run status unread left written now =
    UnframeEndsOver run.limit run.later run.ahead status unread left written now

-- and no byte was asked for after a fault
abbrev pub RunStops : {A : Type 0} → Run A → Option (List OneRead) → Option (List OneRead)
    → Option (List ℕ) → Type 0
RunStops run old new unread = StopsOver run.limit run.later run.ahead old new unread

-- a run at the start of a stream
pub record StartsRun (limit later at : ℕ) {A : Type 0} (run : Run A) : Type 0 where
  pub id : expected_id run.codec ≡ 0
  pub header : header_of run.codec ≡ None
  pub nothing_unread : run.src.items ≡ []
  pub nothing_held : run.dst.items ≡ []
  pub limit_is : run.limit ≡ limit
  pub later_is : run.later ≡ later
  pub ahead_is : run.ahead ≡ at
