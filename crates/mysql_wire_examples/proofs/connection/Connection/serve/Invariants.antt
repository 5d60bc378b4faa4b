use Rattle.std.proofs.Common.{◌≡◌, ℕ, List, ◌++◌, length}
use Rattle.mysql_wire.specs.Codec.{input_of}
use Rattle.mysql_wire_examples.specs.Connection.{AwaitsCommand, answers_framed, commands_framed, state_of}
use Rattle.mysql_wire_examples.proofs.connection.Connection.serve.Given as goal

abbrev pub invariant-commands : goal.invariant-commands
invariant-commands g l = record {
  awaits : AwaitsCommand l.self;
  so_far : (commands : List (List ℕ))
      × (input_of (state_of l.initial.self) ≡ commands_framed commands ++ input_of (state_of l.self))
      × (l.output.items ≡ l.initial.output.items ++ answers_framed commands);
}

abbrev pub decreases-commands : goal.decreases-commands
decreases-commands g l = length l.self.input.items
