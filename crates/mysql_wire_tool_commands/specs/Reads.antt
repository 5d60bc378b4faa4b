-- What reads are asked for.
use Rattle.std.specs.Prelude.{◌≡◌, ◌⊎◌, ◌+◌, ◌<◌, ◌≤◌, ℕ, List, [], ◌∷◌, ◌++◌, length, take, ⊤, All, Option, Some, IfSome}
use Rattle.mysql_wire_tool_commands.specs.declared.traced_read.OneRead.{OneRead}

-- where all reads are known, they are those known before, and these after them
abbrev pub Makes : Option (List OneRead) → Option (List OneRead) → List OneRead → Type 0
Makes old new made =
    IfSome new (λ all. (before : List OneRead) × (old ≡ Some before) × (all ≡ before ++ made))

-- a read at this place of the input, counted from 0, is asked for this many bytes: for `step`, and
-- where it begins before the place `at`, for none past that
pub record AskedFor (step at place asked : ℕ) : Type 0 where
  pub some : 0 < asked
  pub at_most : asked ≤ step
  pub apart : place < at → place + asked ≤ at
  pub no_less : (asked ≡ step) ⊎ (place + asked ≡ at)

-- each of these reads is, the first of them at this place, and each other after what came before
abbrev pub EachAskedFor : ℕ → ℕ → ℕ → List OneRead → Type 0
EachAskedFor step at place [] = ⊤
EachAskedFor step at place (read ∷ reads) =
    AskedFor step at place read.asked × EachAskedFor step at (place + read.came) reads

-- each read that was made since is asked for `step` bytes, but for none past the place `at` from
-- before it
pub record AsksUpTo (step at : ℕ) (old new : Option (List OneRead)) : Type 0 where
  pub made : List OneRead
  pub makes : Makes old new made
  pub each : EachAskedFor step at 0 made

-- each read that was made since is asked for `step` bytes
pub record AsksStep (step : ℕ) (old new : Option (List OneRead)) : Type 0 where
  pub made : List OneRead
  pub makes : Makes old new made
  pub each : All (λ read. read.asked ≡ step) made

-- how many bytes came by these reads
abbrev pub came : List OneRead → ℕ
came [] = 0
came (read ∷ reads) = read.came + came reads

-- where a reader tells its bytes, each read that was made since was made where this holds of the
-- bytes that had come before it
pub record ReadsWhile (waits : List ℕ → Type 0) (old new : Option (List OneRead))
    (unread : Option (List ℕ)) : Type 0 where
  pub made : List OneRead
  pub makes : Makes old new made
  pub each : IfSome unread (λ bytes. (index : ℕ) → index < length made
      → waits (take (came (take index made)) bytes))
