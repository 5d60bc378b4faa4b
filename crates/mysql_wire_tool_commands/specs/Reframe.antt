-- What `reframe` writes.
use Rattle.std.specs.Io.KnownBytes.{Appends, Consumes, IsAtEnd}
use Rattle.std.specs.Prelude.{◌≡◌, ◌⊎◌, ◌<◌, ◌≤◌, ℕ, List, [], ◌++◌, length, take, drop, Option, IsNone, IsFalse, Result, Ok, Err}
use Rattle.wire_codec.specs.Framing.{front, stream, id_after}
use Rattle.wire_codec.specs.Delivery.{Ending, Delivers, Splits}
use Rattle.wire_codec.specs.Codec.{CodecState, codec_state, first_id, expected_id, Stands}
use Rattle.wire_codec.specs.declared.codec.packet.PacketCodec.{PacketCodec}
use Rattle.wire_packet_io.specs.Lending.{Reading, reading_state}
use Rattle.mysql_wire_tool_commands.specs.declared.reframe.Ended.{Ended}
use Rattle.mysql_wire_tool_commands.specs.declared.reframe.Ended.TheVariants.{At, OutOfSync}
use Rattle.mysql_wire_tool_commands.specs.declared.sender.Sender.{Sender}
use Rattle.wire_text.specs.declared.stop.Stop.{Stop}
use Rattle.mysql_wire_tool_commands.specs.LongPackets.{IsAtHeader}
use Rattle.mysql_wire_tool_commands.specs.Unframe.{ending_status}

-- what `reframe` writes of the bytes it reads under a limit, and its status: the packets that these
-- bytes deliver from id 0, framed from id 0
pub record Reframed (limit : ℕ) (input : List ℕ) (status : ℕ) (text : List ℕ) : Type 0 where
  pub payloads : List (List ℕ)
  pub ending : Ending
  pub unfinished : List ℕ
  pub rest : List ℕ
  pub delivered : Delivers [] input 0 limit payloads ending unfinished rest
  pub is : text ≡ stream 0 payloads
  pub ends : status ≡ ending_status ending (length (front (id_after 0 payloads) unfinished ++ rest))

-- `reframe` ended with this status, where readers and writers tell their bytes: at 0, 3, 4 and 5
-- the packets of what was read were written, and at 0 and 3 all input was read
pub record ReframeEnds (limit status : ℕ) (unread left written now : Option (List ℕ)) : Type 0 where
  pub cases : (status ≡ 0) ⊎ (status ≡ 2) ⊎ (status ≡ 3) ⊎ (status ≡ 4) ⊎ (status ≡ 5)
      ⊎ (status ≡ 6)
  pub text : (status ≡ 0) ⊎ (status ≡ 3) ⊎ (status ≡ 4) ⊎ (status ≡ 5)
      → (input : List ℕ) × (text : List ℕ) × Consumes unread left input
      × Reframed limit input status text × Appends written now text
  pub all_read : (status ≡ 0) ⊎ (status ≡ 3) → IsAtEnd left

-- a reader that has read nothing
pub record StartsReading {R : Type 0} (reading : Reading R) : Type 0 where
  pub none_unread : reading.unread ≡ []
  pub none_held : reading.held ≡ []
  pub not_lent : IsNone reading.lent
  pub not_copied : IsNone reading.copied
  pub not_lost : IsFalse reading.is_lost

-- of what was pending a front was written
abbrev pub Sends : Option (List ℕ) → Option (List ℕ) → List ℕ → List ℕ → Type 0
Sends written now pending left = (sent : List ℕ) × (pending ≡ sent ++ left)
    × Appends written now sent

-- so far these bytes were read and this text was written, and what is unread goes on with a packet
pub record Reframing (limit : ℕ) (state : CodecState) (encodes : ℕ) (input text : List ℕ) : Type 0
  where
    pub payloads : List (List ℕ)
    pub split : Splits [] input 0 limit payloads state.held state.unread
    pub goes_on : first_id state ≡ id_after 0 payloads
    pub stands : Stands state
    pub same_limit : state.limit ≡ limit
    pub numbered : encodes ≡ id_after 0 payloads
    pub is : text ≡ stream 0 payloads

-- where copying is: the decoder at what is unread, what is left to read, the id of the next packet
-- that is framed, what is pending, and what was written
pub record CopyPlace : Type 0 where
  pub state : CodecState
  pub left : Option (List ℕ)
  pub encodes : ℕ
  pub pending : List ℕ
  pub now : Option (List ℕ)

abbrev pub place_of : {R W A : Type 0} → (R → Option (List ℕ)) → (W → Option (List ℕ)) → Reading R
    → PacketCodec → Sender W A → PacketCodec → CopyPlace
place_of remaining contents from decoder to encoder =
    record {
      state = reading_state decoder from;
      left = remaining from.reader;
      encodes = expected_id encoder;
      pending = to.pending.items;
      now = contents to.chunks.writer;
    }

-- so far: the packets of what was read were written, but for what is pending
abbrev pub Copying : ℕ → Option (List ℕ) → Option (List ℕ) → CopyPlace → Type 0
Copying limit unread written place =
    (input : List ℕ) × (text : List ℕ) × Reframing limit place.state place.encodes input text
    × Consumes unread place.left input × Sends written place.now text place.pending

-- the input ended, or the chunk had come, once so many bytes were dropped
abbrev pub Drops : ℕ → ℕ → Option (List ℕ) → Option (List ℕ) → Type 0
Drops count status left last =
    (gone : List ℕ) × Consumes left last gone
    × (((status ≡ 5) × (length gone ≡ count))
    ⊎ ((status ≡ 3) × (length gone < count) × IsAtEnd last))

-- how it ended; where the chunk in front is of another id, once the rest of it was dropped
abbrev pub EndsCopying : ℕ → Ended → Option (List ℕ) → Option (List ℕ) → Option (List ℕ)
    → Option (List ℕ) → Type 0
EndsCopying limit (At status) unread left written now =
    ReframeEnds limit status unread left written now
EndsCopying limit (OutOfSync lacking) unread left written now =
    (status : ℕ) (last : Option (List ℕ)) → Drops lacking status left last
    → ReframeEnds limit status unread last written now

-- the exit status, once what has not come of the chunk was dropped
abbrev pub Finishes : Result Ended Stop → ℕ → Option (List ℕ) → Option (List ℕ) → Type 0
Finishes (Ok (At expected)) status left last = (status ≡ expected) × (last ≡ left)
Finishes (Ok (OutOfSync lacking)) status left last = Drops lacking status left last
Finishes (Err why) status left last = ⊥

-- wherever it began, what is so far at one place is so far at the other
abbrev pub CopiesOn : CopyPlace → CopyPlace → Type 0
CopiesOn before after =
    (limit : ℕ) (unread written : Option (List ℕ)) → Copying limit unread written before
    → Copying limit unread written after

-- packets that lie in front of these bytes are passed over: so many bytes are theirs, and the codec
-- is after them
abbrev pub PassesWhole : PacketCodec → List ℕ → ℕ → PacketCodec → Type 0
PassesWhole codec unread len after =
    (len ≤ length unread) × IsAtHeader after
    × ((limit : ℕ) (input text : List ℕ)
    → Reframing limit (codec_state codec unread []) (expected_id codec) input text
    → Reframing limit (codec_state after (drop len unread) []) (expected_id after) input
    (text ++ take len unread))
