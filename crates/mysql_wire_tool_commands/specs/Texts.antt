-- What the program writes, from the bytes that it reads.
use Rattle.std.specs.Fmt.{decimal}
use Rattle.std.specs.Io.KnownBytes.{Appends, IsAtEnd}
use Rattle.std.specs.Prelude.{◌≡◌, ℕ, ◌⊎◌, List, [], ◌∷◌, ◌++◌, length, if◌then◌else◌, ◌==◌, codes, Option, Some, None, Ok, IfSome}
use Rattle.hex.specs.Hex.{encode_lower}
use Rattle.wire_codec.specs.declared.codec.chunk.ChunkInfo.{ChunkInfo}
use Rattle.wire_codec.specs.declared.codec.chunk.ChunkInfo.TheVariants.{Middle, Last}
use Rattle.wire_codec.specs.Framing.{framing, max_payload}
use Rattle.wire_codec.specs.OneChunk.{ChunkState, ChunkStep}

-- two digits a byte, in lower case, or a dash for no bytes
abbrev pub hex_or_dash : List ℕ → List ℕ
hex_or_dash [] = codes "-"
hex_or_dash (byte ∷ bytes) = encode_lower (byte ∷ bytes)

-- a payload on a line: how many bytes it has, and their digits
abbrev pub payload_line : List ℕ → List ℕ
payload_line payload = decimal (length payload) ++ codes " " ++ hex_or_dash payload ++ codes "\n"

-- how many bytes are left
abbrev pub rest_line : ℕ → List ℕ
rest_line count = codes "rest " ++ decimal count ++ codes "\n"

-- what `frame` writes of a payload: its framing
abbrev pub Framed : ℕ → List ℕ → List ℕ → Type 0
Framed first_id payload text = text ≡ framing first_id payload

-- the line for one chunk, or for none
abbrev pub chunk_line : Option ChunkInfo → List ℕ → List ℕ
chunk_line None payload = codes "none\n"
chunk_line (Some (Middle id)) payload =
    codes "middle " ++ decimal id ++ codes " " ++ payload_line payload
chunk_line (Some (Last id)) payload =
    codes "last " ++ decimal id ++ codes " " ++ payload_line payload

-- the status of `chunk`: bytes that hold no whole chunk are an error, no bytes are none
abbrev pub chunk_status : Option ChunkInfo → List ℕ → ℕ
chunk_status (Some info) rest = 0
chunk_status None rest = if length rest == 0 then 0 else 3

-- what `chunk` writes of the bytes it reads, and its status: one chunk decoded by a new decoder,
-- with nothing held before it
pub record Shown (input : List ℕ) (status : ℕ) (text : List ℕ) : Type 0 where
  pub info : Option ChunkInfo
  pub after : ChunkState
  pub decoded : ChunkStep max_payload (record { header = None; unread = input; held = [] })
      (Ok info) after
  pub is : text ≡ chunk_line info after.held ++ rest_line (length after.unread)
  pub ends : status ≡ chunk_status info after.unread

-- `frame` ended with this status, where readers and writers tell their bytes: at 0 all input was
-- read, and its framing was written
pub record FrameEnds (first_id status : ℕ) (unread left written now : Option (List ℕ)) :
    Type 0 where
  pub cases : (status ≡ 0) ⊎ (status ≡ 2) ⊎ (status ≡ 6)
  pub text : status ≡ 0
      → IfSome unread (λ input. (text : List ℕ) × Framed first_id input text
      × Appends written now text)
  pub all_read : status ≡ 0 → IsAtEnd left

-- `chunk` ended with this status: at 0 and 3 all input was read, and what it shows was written
pub record ChunkEnds (status : ℕ) (unread left written now : Option (List ℕ)) : Type 0 where
  pub cases : (status ≡ 0) ⊎ (status ≡ 2) ⊎ (status ≡ 3) ⊎ (status ≡ 6)
  pub text : (status ≡ 0) ⊎ (status ≡ 3)
      → IfSome unread (λ input. (text : List ℕ) × Shown input status text
      × Appends written now text)
  pub all_read : (status ≡ 0) ⊎ (status ≡ 3) → IsAtEnd left
