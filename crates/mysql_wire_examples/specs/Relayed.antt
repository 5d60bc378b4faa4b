-- Packets that are read one after another, and what is sent for them.
use Rattle.std.specs.Prelude.{◌≡◌, ℕ, List, [], ◌∷◌, ◌++◌, length, All, Option, Some, Ok, IsTrue, IsFalse}
use Rattle.std.specs.Io.KnownBytes.{Appends}
use Rattle.mysql_wire.specs.Codec.{CodecState}
use Rattle.mysql_wire.specs.Framing.{framing}
use Rattle.mysql_wire.specs.Lent.{Reading, reading_state}
use Rattle.mysql_wire.specs.PacketCodec.{PacketCodec}
use Rattle.mysql_wire.specs.PacketIo.{NextPacket, Writing}
use Rattle.mysql_wire_examples.specs.Accounts.{ends_rows}

-- this packet is the next one, whatever the count of reads
abbrev pub IsNext : CodecState → Option (List ℕ) → List ℕ → CodecState → Option (List ℕ) → Type 0
IsNext before unread packet after left =
    (old_reads : ℕ) × (new_reads : ℕ)
    × NextPacket before unread left old_reads new_reads (Ok (Some packet)) after

-- these packets are the next ones
abbrev pub AreNext : CodecState → Option (List ℕ) → List (List ℕ) → CodecState → Option (List ℕ)
    → Type 0
AreNext before unread [] after left = (after ≡ before) × (left ≡ unread)
AreNext before unread (packet ∷ packets) after left =
    (mid : CodecState) × (behind : Option (List ℕ))
    × IsNext before unread packet mid behind × AreNext mid behind packets after left

-- the same codec at an id
abbrev pub at_id : ℕ → PacketCodec → PacketCodec
at_id id codec = record codec { seq_id = id }

-- at this codec a reader brings this packet next, which leaves the codec here
abbrev pub Brings : {R : Type 0} → (R → Option (List ℕ)) → PacketCodec → Reading R → Reading R
    → List ℕ → CodecState → Type 0
Brings remaining codec old new packet behind =
    IsNext (reading_state codec old) (remaining old.reader) packet behind (remaining new.reader)

-- a writer sends these bytes after what was pending
abbrev pub Sends : {W : Type 0} → (W → Option (List ℕ)) → Writing W → Writing W → List ℕ → Type 0
Sends contents old new bytes =
    Appends (contents old.writer) (contents new.writer) (old.pending ++ bytes)

-- a packet is brought, and what answers it is sent, numbered on from where that leaves the codec
pub record IsAnswered (answer : List ℕ → List ℕ) (brings : List ℕ → CodecState → Type 0)
    (sends : List ℕ → Type 0) : Type 0 where
  pub packet : List ℕ
  pub behind : CodecState
  pub came : brings packet behind
  pub sent : sends (framing behind.id (answer packet))

-- a packet is brought, and sent on, numbered from an id
pub record IsRelayed (id : ℕ) (brings : List ℕ → CodecState → Type 0)
    (sends : List ℕ → Type 0) : Type 0 where
  pub packet : List ℕ
  pub behind : CodecState
  pub came : brings packet behind
  pub sent : sends (framing id packet)

-- from this codec and reader to those, this many rows came, and then a packet that ends them
pub record CountsRows {R : Type 0} (remaining : R → Option (List ℕ)) (count : ℕ)
    (codec : PacketCodec) (old : Reading R) (behind : PacketCodec) (new : Reading R) : Type 0 where
  pub rows : List (List ℕ)
  pub last : List ℕ
  pub are : AreNext (reading_state codec old) (remaining old.reader) (rows ++ last ∷ [])
      (reading_state behind new) (remaining new.reader)
  pub counted : length rows ≡ count
  pub each : All (λ row. IsFalse (ends_rows row)) rows
  pub ends : IsTrue (ends_rows last)
