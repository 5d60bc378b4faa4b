use Rattle.std.proofs.Common.{arith, refl, rules}
use Rattle.mysql_wire_c_calls.proofs.DecodingLemmas.{fill_step}
use Rattle.mysql_wire_c_calls.proofs.connection.fill.Goals as goal

pub pieces-preserved : goal.pieces-preserved
pieces-preserved c = record {
  bound = omega arith;
  so_far = fill_step c.args.bytes.now _ c.pieces.used c.min-count.result c.peek.result c.feed.result c.args.connection.now.side c.pieces.connection.side c.peek.new.self.side c.feed.new.self.side
      c.if-used-bytes.true refl c.peek.ensures.peeks (search rules) c.feed.ensures (search rules) c.pieces.invariant.so_far;
}
