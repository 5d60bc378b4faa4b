-- What the program makes of words.
use Rattle.std.proofs.Common.{◌≡◌, ◌≢◌, ℕ, List, [], Option, Some, None, Result, Ok, Err, MatchResult, ◌++◌, codes, IsErr, IfSome, option_map, ◌↔◌, arith, ap, sym, ◌∙◌, subst, refl, inl, inr, ◌⊎◌}
use Rattle.std.specs.Io.KnownBytes.{Appends, Keeps}
use Rattle.mysql_wire_dump_lines.specs.declared.arguments.Request.{Request}
use Rattle.mysql_wire_dump_lines.specs.declared.options.Sides.{Sides}
use Rattle.mysql_wire_dump_lines.specs.declared.options.Sides.TheVariants as sides
use Rattle.mysql_wire_dump_lines.specs.declared.packet_stream.End.{End}
use Rattle.mysql_wire_dump_lines.specs.declared.packet_stream.End.TheVariants.{Between, Unfinished, OutOfSync, Encrypted}
use Rattle.mysql_wire_dump_lines.specs.Arguments.{Asks, Command, Help, Dump, IsAsked, session_of, sides_of}
use Rattle.wire_text.specs.declared.stop.Stop.{Stop}
use Rattle.wire_text.specs.declared.stop.Stop.TheVariants.{Io, Memory}
use Rattle.mysql_wire_dump_lines.specs.Status.{end_status, usage}
use Rattle.wire_text.specs.Stops.{exit_status_of}
use Rattle.mysql_wire_dump_lines.specs.Dumped.{status_of}
use Rattle.mysql_wire_dump.specs.Files.{CommandEnds, FilesEnd}

-- no dump ends with the status of words that ask for nothing
no_end : (end : End) → end_status end ≢ 1
no_end Between is = absurd (omega (arith, is))
no_end Unfinished is = absurd (omega (arith, is))
no_end OutOfSync is = absurd (omega (arith, is))
no_end Encrypted is = absurd (omega (arith, is))

not_one : (shown : Sides) (client server : End) → status_of shown client server ≢ 1
not_one sides.Client client server is = no_end client is
not_one sides.Server client server is = no_end server is
not_one sides.Both client server is = absurd (omega (arith, is, no_end client, no_end server))

command_not_one : (command : Command) (written now : Option (List ℕ)) (status : ℕ) → CommandEnds command written now status → status ≢ 1
command_not_one Help written now status (inl ends) one = absurd (omega (arith, ends.0, one))
command_not_one Help written now status (inr failed) one = absurd (omega (arith, failed, one))
command_not_one (Dump session) written now status ends one = elim ends.ends [
  | inl failed ↦ absurd (omega (arith, failed, one))
  | inr (inl refused) ↦ absurd (omega (arith, refused, one))
  | inr (inr dumps) ↦ not_one ends.sides dumps.client_end dumps.server_end (sym dumps.dumped.ends ∙ one)
]

-- a session that is asked for has sides
pub asked_sides : {X : Type 0} (f : X → List ℕ) (client server : Option X) → (option_map f client ≢ None) ⊎ (option_map f server ≢ None) → sides_of client server ≢ None
asked_sides f None None some none = elim some [ inl one ↦ one refl | inr one ↦ one refl ]
asked_sides f None (Some server) some none = cc
asked_sides f (Some client) None some none = cc
asked_sides f (Some client) (Some server) some none = cc

-- what a command line makes of a writer that tells its bytes
abbrev pub Runs : List (List ℕ) → Option (List ℕ) → Option (List ℕ) → ℕ → Type 0
Runs words written now status =
    ((command : Command) → Asks words command → CommandEnds command written now status)
    × ((status ≡ 1) ↔ ((command : Command) → ¬ (Asks words command))) × (status ≡ 1 → Keeps written now)

pub runs_command : (words : List (List ℕ)) (command : Command) (written now : Option (List ℕ)) (status : ℕ) → IsAsked words (Some command) → CommandEnds command written now status
    → Runs words written now status
runs_command words command written now status told ends =
    let other = command_not_one command written now status ends in (
      λ same asks. subst (λ (z : Option Command). IfSome z (λ one. CommandEnds one written now status)) (told.exact same asks) ends,
      (λ one. absurd (other one), λ none. absurd (none command told.asked)),
      λ one. absurd (other one),
    )

nothing_is_something : (command : Command) → None ≢ Some command
nothing_is_something command is = cc

pub runs_nothing : (words : List (List ℕ)) (written now : Option (List ℕ)) (status : ℕ) → IsAsked words None → status ≡ 1 → Keeps written now → Runs words written now status
runs_nothing words written now status told one keeps = (
  λ command asks. absurd (nothing_is_something command (told.exact command asks)),
  (λ _ command asks. nothing_is_something command (told.exact command asks), λ _. one),
  λ _. keeps,
)

same_sides : {X : Type 0} (f : X → List ℕ) (client server : Option X) → sides_of (option_map f client) (option_map f server) ≡ sides_of client server
same_sides f None None = refl
same_sides f None (Some server) = refl
same_sides f (Some client) None = refl
same_sides f (Some client) (Some server) = refl

stopped : (result : Result ℕ Stop) → IsErr result → (exit_status_of result ≡ 2) ⊎ (exit_status_of result ≡ 6)
stopped (Ok status) err = cc
stopped (Err Io) err = inl refl
stopped (Err Memory) err = inr refl

-- a file was not opened
pub gives_up : (request : Request) (shown : Sides) (written now : Option (List ℕ)) (result : Result ℕ Stop) → sides_of request.client request.server ≡ Some shown → IsErr result
    → FilesEnd (session_of request) written now (exit_status_of result)
gives_up request shown written now result are err = record {
  sides = shown;
  client = Some [];
  client_left = None;
  server = Some [];
  server_left = None;
  sides_are = same_sides (λ name. name.now) request.client request.server ∙ are;
  no_client = λ none. refl;
  no_server = λ none. refl;
  ends = elim (stopped result err) [ inl failed ↦ inl failed | inr refused ↦ inr (inl refused) ];
}

-- help was written, or a write failed
pub help_ends : (result : Result ℕ Stop) (written now : Option (List ℕ)) → MatchResult result (λ status. (status ≡ 0) × Appends written now (usage ++ codes "\n")) (λ stop. stop ≡ Io)
    → CommandEnds Help written now (exit_status_of result)
help_ends (Ok status) written now told = inl told
help_ends (Err stop) written now told = inr (ap (λ (s : Stop). exit_status_of (Err s)) told)
