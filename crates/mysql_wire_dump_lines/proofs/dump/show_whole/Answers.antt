use Rattle.std.proofs.Common.{◌++◌, ◌∙◌, ℕ, ap₂, rules, string_bytes}
use Rattle.mysql_wire_dump_lines.specs.Dumped.{ending_lines}
use Rattle.mysql_wire_dump_lines.proofs.DumpLemmas.{begins_so, dumps_all}
use Rattle.mysql_wire_dump_lines.proofs.dump.show_whole.Goals as goal

pub returns : goal.returns
returns g c starts =
    let client = g.R.Read.remaining c.args.client.now in
    let server = g.S.Read.remaining c.args.server.now in
    let written = g.W.Write.contents c.args.output.now in
    let shown = c.show_all.new.dump in
    let all = c.in_ok-show_all.ensures.goes client server written (begins_so c.args.options c.args.dump.now client server written starts) in
    dumps_all c.args.options c.args.sides shown c.in-Some.client_end c.in-Some.server_end c.as_bytes.result.now c.status_of.result client
    (g.R.Read.remaining c.show_all.new.client) server (g.S.Read.remaining c.show_all.new.server) written (g.W.Write.contents c.show_all.new.output)
    (g.W.Write.contents c.flush.new.self) all (c.in_ok-show_all.ensures.options ∙ starts.options_are)
    (search (rules, c.in-Some.ensures)) (search (rules, c.in-Some.ensures))
    (c.as_bytes.ensures.value ∙ c.in_ok-push_endings.ensures
    ∙ ap₂ (λ (at other : ℕ). string_bytes shown.lines.text ++ ending_lines c.args.options.form c.args.sides c.in-Some.client_end at c.in-Some.server_end other) c.place.ensures c.place-2.ensures)
    (search (rules, c.in_ok-write_all.ensures.bytes, c.in_ok-flush.ensures.bytes)) c.status_of.ensures
