use Rattle.std.proofs.Common.{◌≡◌, ◌++◌, take}
use Rattle.mysql_wire.specs.Runs.{payloads}
use Rattle.mysql_wire_examples.specs.BothEnds.{InStep, answers_of, commands_of, ids_of}
use Rattle.mysql_wire_examples.proofs.both_ends.converse.Given as goal

abbrev pub invariant-exchanges : goal.invariant-exchanges
invariant-exchanges g l = record {
  step : InStep l.client l.server;
  commands : payloads l.heard.commands.items ≡ payloads l.fn.heard.commands.items ++ commands_of (take l.exchange-index l.exchanges);
  answers : payloads l.heard.answers.items ≡ payloads l.fn.heard.answers.items ++ answers_of (take l.exchange-index l.exchanges);
  ids : l.heard.ids.items ≡ l.fn.heard.ids.items ++ ids_of (take l.exchange-index l.exchanges);
}
