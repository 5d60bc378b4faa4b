use Rattle.std.proofs.Common.{rules}
use Rattle.wire_text.proofs.PartLemmas.{parts_more, parts_none}
use Rattle.wire_text.proofs.long.write_parts.Goals as goal

pub parts-init : goal.parts-init
parts-init g c = parts_none c.args.form c.args.bytes.now (g.W.Write.contents c.args.output.now)

pub parts-preserved : goal.parts-preserved
parts-preserved g c =
    let split = c.split_at.ensures in
    parts_more c.args.form c.min.result c.args.bytes.now c.parts.rest.now c.split_at.result.0.now c.split_at.result.1.now c.as_slice.result.now
    (g.W.Write.contents c.args.output.now) (g.W.Write.contents c.parts.output) (g.W.Write.contents c.write_all.new.self) c.parts.invariant split.front split.back
    (search (rules, c.as_slice.ensures.value, c.in_ok-push_part.ensures, c.clear.ensures.items)) c.in_ok-write_all.ensures.bytes
