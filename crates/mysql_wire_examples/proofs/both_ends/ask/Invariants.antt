use Rattle.std.proofs.Common.{◌≡◌, ◌%◌, List, ℕ, [], ◌∷◌, ◌++◌, take, map}
use Rattle.mysql_wire.specs.Codec.{expected_id}
use Rattle.mysql_wire.specs.Runs.{payloads}
use Rattle.mysql_wire_examples.specs.BothEnds.{InStep, points}
use Rattle.mysql_wire_examples.proofs.BothEndsLemmas.{count_after}
use Rattle.mysql_wire_examples.proofs.both_ends.ask.Given as goal

abbrev pub invariant-answers : goal.invariant-answers
invariant-answers g l =
    let command : List ℕ = l.fn.exchange.command.packet.now in
    let passed : List (List ℕ) = map (λ sent. sent.packet.now) (take l.sent-index l.answer) in
    record {
      step : InStep l.server l.client;
      commands : payloads l.heard.commands.items ≡ payloads l.fn.heard.commands.items ++ command ∷ [];
      answers : payloads l.heard.answers.items ≡ payloads l.fn.heard.answers.items ++ passed;
      ids : l.heard.ids.items ≡ l.fn.heard.ids.items ++ points 0 (command ∷ passed);
      id : expected_id l.server.codec ≡ count_after 0 (command ∷ passed) % 256;
    }
