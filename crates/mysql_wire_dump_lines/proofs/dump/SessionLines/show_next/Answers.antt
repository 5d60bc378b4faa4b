use Rattle.std.proofs.Common.{sym, ◌∙◌}
use Rattle.mysql_wire_dump_lines.proofs.DumpLemmas.{packet_of}
use Rattle.mysql_wire_dump_lines.proofs.LineLemmas.{next_passed, next_read}
use Rattle.mysql_wire_dump_lines.proofs.dump.SessionLines.show_next.Goals as goal

pub returns-in-Some-payload : goal.returns-in-Some-payload
returns-in-Some-payload g c =
    let source = c.args.source.now in
    next_read c.show_read.result c.args.side source c.args.self.now c.show_read.new.self c.in-Some.id c.payload_len-len.result c.in-Some-payload.payload.now
    (g.W.Write.contents c.args.output.now) (g.W.Write.contents c.show_read.new.output)
    (packet_of source.next c.in-Some.id (sym c.next_id.ensures ∙ c.in-Some.is)) c.payload_len-len.ensures c.in-Some-payload.ensures.0 c.in-Some-payload.ensures.1 c.show_read.ensures

pub returns-in_ok-push_passed-in-None : goal.returns-in_ok-push_passed-in-None
returns-in_ok-push_passed-in-None g c =
    let source = c.args.source.now in
    next_passed c.args.side source c.args.self.now c.push_passed.new.self c.in-Some.id c.payload_len-len.result (g.W.Write.contents c.args.output.now)
    (packet_of source.next c.in-Some.id (sym c.next_id.ensures ∙ c.in-Some.is)) c.payload_len-len.ensures c.in-None.ensures c.in_ok-push_passed-in-None.ensures.goes c.in_ok-push_passed-in-None.ensures.line c.in_ok-push_passed-in-None.ensures.options
