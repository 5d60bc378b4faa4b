use Rattle.std.proofs.Common.{Vec, rules, ◌*◌, ◌<◌, length}
use Rattle.std.specs.Vec.{vec_capacity, vec_len}
use Rattle.wire_buf.specs.Reading.{Parses}
use Rattle.wire_values.proofs.ReadLemmas.{has-all, too-few, block-read, eats-short_block}
use Rattle.wire_values.proofs.read.read_block.Goals as goal

pub returns : goal.returns
returns g c = block-read (λ values. values.items) (vec_capacity c.reserve.new.self < c.args.count)
    (Parses g.T.Size.ReadSize.SIZE (g.T.MyDeserialize.reads tt)) c.args.size c.args.count
    c.in-Some.len c.len.result c.args.buf.now.0.now c.eat_buf-block.result.0.now
    c.eat_buf-block.new.self.0.now c.read_each.result c.read_each.new.buf.0.now
    (has-all (vec_len c.reserve.new.self) (vec_capacity c.reserve.new.self) c.args.count
    c.in_ok-reserve.ensures.ok)
    c.requires c.in-Some.ensures.1 c.len.ensures c.if-len.false c.eat_buf-block.ensures.eaten
    c.eat_buf-block.ensures.rest c.read_each.ensures

pub returns-then-len : goal.returns-then-len
returns-then-len g c = eats-short_block {V = Vec g.row.T.Denot g.row.A.Denot} (λ values. values.items)
    (Parses g.T.Size.ReadSize.SIZE (g.T.MyDeserialize.reads tt)) c.args.size c.args.count
    c.args.buf.now.0.now c.requires
    (too-few c.args.size c.args.count c.in-Some.len c.len.result (length c.args.buf.now.0.now)
    c.in-Some.ensures.1 c.len.ensures c.if-len.true)

pub returns-in_default : goal.returns-in_default
returns-in_default g c =
    let few : length c.args.buf.now.0.now < c.args.size * c.args.count = search rules in
    eats-short_block {V = Vec g.row.T.Denot g.row.A.Denot} (λ values. values.items)
    (Parses g.T.Size.ReadSize.SIZE (g.T.MyDeserialize.reads tt)) c.args.size c.args.count
    c.args.buf.now.0.now c.requires few
