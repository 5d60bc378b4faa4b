use Rattle.std.proofs.Common.{◌∷◌, [], List, ℕ, ap, sym}
use Rattle.mysql_wire_dump_lines.specs.Arguments.{Limit, Client, Server}
use Rattle.mysql_wire_dump_lines.proofs.ArgumentLemmas.{takes_one}
use Rattle.mysql_wire_dump_lines.proofs.arguments.Request.with_pair.Goals as goal

pub returns-in-text : goal.returns-in-text
returns-in-text c = takes_one (Limit c.args.value.now) _ c.args.self c.with_limit.result (ap (λ (z : List ℕ). z ∷ c.args.value.now ∷ []) (sym c.in-text.is)) c.with_limit.ensures

pub returns-in-client : goal.returns-in-client
returns-in-client c = takes_one (Client c.args.value.now) _ c.args.self c.with_client.result (ap (λ (z : List ℕ). z ∷ c.args.value.now ∷ []) (sym c.in-client.is)) c.with_client.ensures

pub returns-in-server : goal.returns-in-server
returns-in-server c = takes_one (Server c.args.value.now) _ c.args.self c.with_server.result (ap (λ (z : List ℕ). z ∷ c.args.value.now ∷ []) (sym c.in-server.is)) c.with_server.ensures
