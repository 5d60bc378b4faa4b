-- What the words on the command line ask for.
use Rattle.std.specs.Prelude.{◌≡◌, ◌<◌, ℕ, List, [], ◌∷◌, codes, Option, Some, IfSome}
use Rattle.std.specs.Str.Parse.{digits_value}
use Rattle.mysql_wire_tool_commands.specs.declared.arguments.Request.{Request}
use Rattle.mysql_wire_tool_commands.specs.declared.arguments.Request.TheVariants.{Frame, Chunk, Unframe, UnframeLimited, Reframe}
use Rattle.mysql_wire_tool_commands.specs.Numbers.{IsNumber}
use Rattle.mysql_wire_tool_commands.specs.Texts.{FrameEnds, ChunkEnds}
use Rattle.mysql_wire_tool_commands.specs.Reframe.{ReframeEnds}
use Rattle.mysql_wire_tool_commands.specs.Unframe.{UnframeEnds, UnframeLimitedEnds}

-- these words ask for this
abbrev pub Asks : List (List ℕ) → Request → Type 0
Asks words (Frame id) =
    (word : List ℕ) × (words ≡ codes "frame" ∷ word ∷ []) × IsNumber word 255
    × (digits_value 10 word ≡ id)
Asks words Chunk = words ≡ codes "chunk" ∷ []
Asks words (Reframe limit) =
    (word : List ℕ) × (words ≡ codes "reframe" ∷ word ∷ []) × IsNumber word 4294967295
    × (digits_value 10 word ≡ limit)
Asks words (Unframe step limit) =
    (first : List ℕ) × (second : List ℕ) × (words ≡ codes "unframe" ∷ first ∷ second ∷ [])
    × IsNumber first 65536 × (digits_value 10 first ≡ step) × (0 < step)
    × IsNumber second 4294967295 × (digits_value 10 second ≡ limit)
Asks words (UnframeLimited step limit later at) =
    (first : List ℕ) × (second : List ℕ) × (third : List ℕ) × (fourth : List ℕ)
    × (words ≡ codes "unframe" ∷ first ∷ second ∷ third ∷ fourth ∷ [])
    × IsNumber first 65536 × (digits_value 10 first ≡ step) × (0 < step)
    × IsNumber second 4294967295 × (digits_value 10 second ≡ limit)
    × IsNumber third 4294967295 × (digits_value 10 third ≡ later)
    × IsNumber fourth 4294967295 × (digits_value 10 fourth ≡ at)

-- these words ask for this, where they ask for anything
pub record Asked (words : List (List ℕ)) (answer : Option Request) : Type 0 where
  pub asked : IfSome answer (Asks words)
  pub exact : (request : Request) → Asks words request → answer ≡ Some request

-- this command ended with this status, where readers and writers tell their bytes
abbrev pub RequestEnds : Request → ℕ → Option (List ℕ) → Option (List ℕ) → Option (List ℕ)
    → Option (List ℕ) → Type 0
RequestEnds (Frame id) status unread left written now = FrameEnds id status unread left written now
RequestEnds Chunk status unread left written now = ChunkEnds status unread left written now
RequestEnds (Unframe step limit) status unread left written now =
    UnframeEnds limit status unread left written now
RequestEnds (UnframeLimited step limit later at) status unread left written now =
    UnframeLimitedEnds limit later at status unread left written now
RequestEnds (Reframe limit) status unread left written now =
    ReframeEnds limit status unread left written now
