use Rattle.std.proofs.Common.{rules, ◌∙◌, sym}
use Rattle.mysql_wire_dump_lines.proofs.DumpLemmas.{both_looked, one_shown, much_written, no_turn, none_left, rest_hidden}
use Rattle.mysql_wire_dump_lines.proofs.dump.show_next.Goals as goal

pub returns-in_default-clause-goes : goal.returns-in_default-clause-goes
returns-in_default-clause-goes g c all_client all_server before going =
    let both = both_looked c.args.dump.now c.peek.new.self c.peek-2.new.self all_client (g.R.Read.remaining c.args.client.now) (g.R.Read.remaining c.peek.new.input)
    all_server (g.S.Read.remaining c.args.server.now) (g.S.Read.remaining c.peek-2.new.input) before (g.W.Write.contents c.args.output.now) going.so_far
    c.in_ok-peek.ensures.looks c.in_ok-peek.ensures.kept c.in_ok-peek.ensures.end c.in_ok-peek.ensures.seen c.in_ok-peek.ensures.limit
    c.in_ok-peek-2.ensures.looks c.in_ok-peek-2.ensures.kept c.in_ok-peek-2.ensures.end c.in_ok-peek-2.ensures.seen c.in_ok-peek-2.ensures.limit in
    let none = no_turn c.args.dump.now.lines.session.phase c.args.dump.now.lines.session.next_id c.peek.new.self.next c.peek-2.new.self.next (sym c.next_sender.ensures ∙ c.in_default.is)
    c.in_ok-peek.ensures.next c.in_ok-peek-2.ensures.next in
    none_left _ all_client (g.R.Read.remaining c.peek.new.input) all_server (g.S.Read.remaining c.peek-2.new.input) before (g.W.Write.contents c.args.output.now) both going.is_open none.0 none.1

pub returns-then-eq-clause-goes : goal.returns-then-eq-clause-goes
returns-then-eq-clause-goes g c all_client all_server before going =
    let both = both_looked c.args.dump.now c.peek.new.self c.peek-2.new.self all_client (g.R.Read.remaining c.args.client.now) (g.R.Read.remaining c.peek.new.input)
    all_server (g.S.Read.remaining c.args.server.now) (g.S.Read.remaining c.peek-2.new.input) before (g.W.Write.contents c.args.output.now) going.so_far
    c.in_ok-peek.ensures.looks c.in_ok-peek.ensures.kept c.in_ok-peek.ensures.end c.in_ok-peek.ensures.seen c.in_ok-peek.ensures.limit
    c.in_ok-peek-2.ensures.looks c.in_ok-peek-2.ensures.kept c.in_ok-peek-2.ensures.end c.in_ok-peek-2.ensures.seen c.in_ok-peek-2.ensures.limit in
    let shown = one_shown c.in-Some.side _ c.show.new.self all_client (g.R.Read.remaining c.peek.new.input) all_server (g.S.Read.remaining c.peek-2.new.input)
    before (g.W.Write.contents c.args.output.now) (g.W.Write.contents c.show.new.output) both going.is_open c.in_ok-show.ensures (sym c.next_sender.ensures ∙ c.in-Some.is) (c.in_ok-peek.ensures.next, c.in_ok-peek-2.ensures.next) in
    let much = c.in_ok-write_much.ensures in
    let written = much_written c.show.new.self c.write_much.new.self much.0 all_client (g.R.Read.remaining c.peek.new.input) all_server (g.S.Read.remaining c.peek-2.new.input)
    before (g.W.Write.contents c.show.new.output) (g.W.Write.contents c.write_much.new.output) shown much.1 much.2 much.3 in
    rest_hidden c.write_much.new.self c.hide.new.self c.hide-then-eq.new.self all_client (g.R.Read.remaining c.peek.new.input) all_server (g.S.Read.remaining c.peek-2.new.input)
    before (g.W.Write.contents c.write_much.new.output) written (search (rules, c.phase.ensures, c.eq.ensures, c.if-eq.true, c.if-eq.ensures)) c.hide.ensures.stands c.hide-then-eq.ensures.stands c.hide.ensures.next c.hide-then-eq.ensures.next

pub returns-clause-goes : goal.returns-clause-goes
returns-clause-goes g c all_client all_server before going =
    let both = both_looked c.args.dump.now c.peek.new.self c.peek-2.new.self all_client (g.R.Read.remaining c.args.client.now) (g.R.Read.remaining c.peek.new.input)
    all_server (g.S.Read.remaining c.args.server.now) (g.S.Read.remaining c.peek-2.new.input) before (g.W.Write.contents c.args.output.now) going.so_far
    c.in_ok-peek.ensures.looks c.in_ok-peek.ensures.kept c.in_ok-peek.ensures.end c.in_ok-peek.ensures.seen c.in_ok-peek.ensures.limit
    c.in_ok-peek-2.ensures.looks c.in_ok-peek-2.ensures.kept c.in_ok-peek-2.ensures.end c.in_ok-peek-2.ensures.seen c.in_ok-peek-2.ensures.limit in
    let shown = one_shown c.in-Some.side _ c.show.new.self all_client (g.R.Read.remaining c.peek.new.input) all_server (g.S.Read.remaining c.peek-2.new.input)
    before (g.W.Write.contents c.args.output.now) (g.W.Write.contents c.show.new.output) both going.is_open c.in_ok-show.ensures (sym c.next_sender.ensures ∙ c.in-Some.is) (c.in_ok-peek.ensures.next, c.in_ok-peek-2.ensures.next) in
    let much = c.in_ok-write_much.ensures in
    record {
      so_far = much_written c.show.new.self c.write_much.new.self much.0 all_client (g.R.Read.remaining c.peek.new.input) all_server (g.S.Read.remaining c.peek-2.new.input)
          before (g.W.Write.contents c.show.new.output) (g.W.Write.contents c.write_much.new.output) shown much.1 much.2 much.3;
      is_open = search (rules, c.phase.ensures, c.eq.ensures, c.if-eq.false, c.if-eq.ensures);
    }
