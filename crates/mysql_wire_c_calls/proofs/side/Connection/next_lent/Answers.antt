use Rattle.std.proofs.Common.{rules, ◌≡◌}
use Rattle.mysql_wire_c_calls.specs.declared.codes.TheConstants.{PACKET}
use Rattle.mysql_wire_c_calls.proofs.NextLemmas.{next_copies, next_small}
use Rattle.mysql_wire_c_calls.proofs.side.Connection.next_lent.Goals as goal

pub returns-then-code-ne-PACKET : goal.returns-then-code-ne-PACKET
returns-then-code-ne-PACKET c = search rules

pub returns-then-room-count : goal.returns-then-room-count
returns-then-room-count c =
    let is : c.peek-code.result ≡ PACKET = search rules in
    next_small c.args.room.now c.packet-packet.result.now c.peek-code.result c.args.self.now.side c.peek-code.new.self.side
    c.peek-code.ensures.peeks is c.packet-packet.ensures c.if-room-count.true

pub returns : goal.returns
returns c =
    let is : c.peek-code.result ≡ PACKET = search rules in
    next_copies c.args.room.now c.copy_from_slice.new.self c.packet-packet.result.now c.peek-code.result c.args.self.now.side
    c.peek-code.new.self.side c.take_lent.new.self.side c.peek-code.ensures.peeks is c.packet-packet.ensures c.copy_from_slice.ensures.after c.take_lent.ensures
