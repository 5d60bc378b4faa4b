-- What the words on the command line ask for.
use Rattle.std.specs.Prelude.{◌≡◌, ◌≢◌, ◌≤◌, ◌⊎◌, ℕ, List, [], ◌∷◌, ◌++◌, length, codes, ⊤, All, Bool, true, false, if◌then◌else◌, fold, flat_map, Option, None, Some, IfSome, MatchOption, option_copied, option_to_list}
use Rattle.std.specs.List.{list_any}
use Rattle.std.specs.Str.Parse.{IsNumeral, digits_value}
use denote.Ref.{Bor}
use Rattle.mysql_wire_dump_lines.specs.declared.arguments.Asked.{Asked}
use Rattle.mysql_wire_dump_lines.specs.declared.arguments.Asked.TheVariants as asked
use Rattle.mysql_wire_dump_lines.specs.declared.arguments.Request.{Request}
use Rattle.mysql_wire_dump_lines.specs.declared.lines.LineForm.TheVariants as form
use Rattle.mysql_wire_dump_lines.specs.declared.options.Options.{Options}
use Rattle.mysql_wire_dump_lines.specs.declared.options.Sides.{Sides}
use Rattle.mysql_wire_dump_lines.specs.declared.options.Sides.TheVariants as sides

-- one to ten decimal digits
abbrev pub IsNumber : List ℕ → Type 0
IsNumber word = IsNumeral 10 word × (length word ≤ 10)

-- a part of a command line: an option, or a direction's file
pub data Part : Type 0 where
  Fields : Part
  Json : Part
  Limit : List ℕ → Part
  Client : List ℕ → Part
  Server : List ℕ → Part

-- its words
abbrev pub words_of : Part → List (List ℕ)
words_of Fields = codes "--fields" ∷ []
words_of Json = codes "--json" ∷ []
words_of (Limit number) = codes "--limit" ∷ number ∷ []
words_of (Client file) = codes "client" ∷ file ∷ []
words_of (Server file) = codes "server" ∷ file ∷ []

abbrev pub is_fields : Part → Bool
is_fields Fields = true
is_fields other = false

abbrev pub is_json : Part → Bool
is_json Json = true
is_json other = false

-- a limit is a number
abbrev pub IsValid : Part → Type 0
IsValid (Limit number) = IsNumber number
IsValid other = ⊤

-- the limit from here on
abbrev pub limit_behind : ℕ → Part → ℕ
limit_behind limit (Limit number) = digits_value 10 number
limit_behind limit other = limit

-- the file of a direction, where this part names it
abbrev pub client_of : Part → List (List ℕ)
client_of (Client file) = file ∷ []
client_of other = []

abbrev pub server_of : Part → List (List ℕ)
server_of (Server file) = file ∷ []
server_of other = []

-- a session to be shown: how, and the names of its files
pub record Session : Type 0 where
  pub options : Options
  pub client : Option (List ℕ)
  pub server : Option (List ℕ)

-- these parts say this: the last limit counts, and each direction has at most one file
pub record Says (parts : List Part) (session : Session) : Type 0 where
  pub valid : All IsValid parts
  pub form : session.options.form ≡ (if list_any is_json parts then form.Json else form.Text)
  pub has_fields : session.options.has_fields ≡ list_any is_fields parts
  pub limit : session.options.limit ≡ fold limit_behind 4194304 parts
  pub client : option_to_list session.client ≡ flat_map client_of parts
  pub server : option_to_list session.server ≡ flat_map server_of parts

-- what a command line asks for
pub data Command : Type 0 where
  Help : Command
  Dump : Session → Command

-- these words ask for this: `--help` alone, or they are the words of parts, one after another,
-- which say this and name a file
abbrev pub Asks : List (List ℕ) → Command → Type 0
Asks words Help = words ≡ codes "--help" ∷ []
Asks words (Dump session) =
    (parts : List Part) × (words ≡ flat_map words_of parts) × Says parts session
    × ((session.client ≢ None) ⊎ (session.server ≢ None))

-- these words ask for this and nothing else, where they ask for anything
pub record IsAsked (words : List (List ℕ)) (answer : Option Command) : Type 0 where
  pub asked : IfSome answer (Asks words)
  pub exact : (command : Command) → Asks words command → answer ≡ Some command

abbrev pub session_of : Request → Session
session_of request = record {
  options = request.options;
  client = option_copied request.client;
  server = option_copied request.server;
}

-- the directions that have files
abbrev pub sides_of : {X : Type 0} → Option X → Option X → Option Sides
sides_of (Some client) (Some server) = Some sides.Both
sides_of (Some client) None = Some sides.Client
sides_of None (Some server) = Some sides.Server
sides_of None None = None

abbrev pub command_of : Asked → Command
command_of asked.Help = Help
command_of (asked.Dump request) = Dump (session_of request)

-- ---- as the words are read, from the first

-- with this part more, wherever it stood
abbrev pub Grows : Part → Request → Request → Type 0
Grows part old new =
    (parts : List Part) → Says parts (session_of old)
    → Says (parts ++ part ∷ []) (session_of new)

-- whatever stands after it, this part can't be the next
abbrev pub Bars : Part → Request → Type 0
Bars part request =
    (parts others : List Part) (session : Session) → Says parts (session_of request)
    → ¬ (Says (parts ++ part ∷ others) session)

-- a part more, or it is refused
abbrev pub AddsPart : Part → Request → Option Request → Type 0
AddsPart part old result = MatchOption result (Bars part old) (Grows part old)

-- the words of an option or a file
abbrev pub TakesWords : List (List ℕ) → Request → Option Request → Type 0
TakesWords words old result =
    MatchOption result ((part : Part) → words_of part ≡ words → Bars part old)
    (λ new. (part : Part) × (words_of part ≡ words) × Grows part old new)

-- an option by itself, or the word is none
abbrev pub TakesAlone : List ℕ → Request → Option Request → Type 0
TakesAlone word old result =
    MatchOption result ((part : Part) → words_of part ≢ word ∷ [])
    (λ new. (part : Part) × (words_of part ≡ word ∷ []) × Grows part old new)

-- these words were read, of which the last may wait for its value
pub record Reads (words : List (List ℕ)) (request : Request) (waits : Option (List ℕ)) : Type 0 where
  pub parts : List Part
  pub are : words ≡ flat_map words_of parts ++ option_to_list waits
  pub says : Says parts (session_of request)
  pub waiting : IfSome waits (λ word. (part : Part) → words_of part ≢ word ∷ [])

-- a word more, or no words that go on so ask for a session
abbrev pub Steps : List ℕ → Request → Option (List ℕ)
    → Option (Request × Option (Bor (List ℕ))) → Type 0
Steps word old waits result =
    (words : List (List ℕ)) → Reads words old waits
    → MatchOption result
    ((others : List (List ℕ)) (session : Session)
    → ¬ (Asks (words ++ word ∷ others) (Dump session)))
    (λ new. Reads (words ++ word ∷ []) new.0 (option_copied new.1))
