use Rattle.std.proofs.Common.{refl}
use Rattle.mysql_wire_tool_commands.proofs.UnframeLemmas.{moved_lines, visited_lines}
use Rattle.mysql_wire_tool_commands.proofs.unframe.Run.deliver.Goals as goal

pub returns-then-is_small-clause-runs : goal.returns-then-is_small-clause-runs
returns-then-is_small-clause-runs g c =
    let runs = rw c.make_room.ensures at c.deliver_each_limited.ensures.runs in
    (runs.0, visited_lines c.clear.new.self runs.0 c.deliver_each_limited.new.visitor c.clear.ensures runs.1, runs.2)

pub returns-then-is_small-clause-on : goal.returns-then-is_small-clause-on
returns-then-is_small-clause-on g c limits mark place goes_on known =
    let on = (rw c.make_room.ensures at c.deliver_each_limited.ensures.on) limits mark place goes_on known in
    (on.0, visited_lines c.clear.new.self on.0 c.deliver_each_limited.new.visitor c.clear.ensures on.1, on.2)

pub returns-else-is_small-clause-runs : goal.returns-else-is_small-clause-runs
returns-else-is_small-clause-runs g c =
    let runs = rw c.make_room.ensures at c.deliver_limited.ensures.runs in
    (runs.0, moved_lines c.clear.new.self record c.clear.new.self { packets = c.deliver_limited.new.out } runs.0 c.clear.ensures refl runs.1, runs.2)

pub returns-else-is_small-clause-on : goal.returns-else-is_small-clause-on
returns-else-is_small-clause-on g c limits mark place goes_on known =
    let on = (rw c.make_room.ensures at c.deliver_limited.ensures.on) limits mark place goes_on known in
    (on.0, moved_lines c.clear.new.self record c.clear.new.self { packets = c.deliver_limited.new.out } on.0 c.clear.ensures refl on.1, on.2)

pub returns-then-is_small-clause-all : goal.returns-then-is_small-clause-all
returns-then-is_small-clause-all g c = c.deliver_each_limited.ensures.all

pub returns-then-is_small-clause-limits : goal.returns-then-is_small-clause-limits
returns-then-is_small-clause-limits g c = (refl, refl, refl)

pub returns-else-is_small-clause-all : goal.returns-else-is_small-clause-all
returns-else-is_small-clause-all g c = c.deliver_limited.ensures.all

pub returns-else-is_small-clause-limits : goal.returns-else-is_small-clause-limits
returns-else-is_small-clause-limits g c = (refl, refl, refl)

pub returns-then-is_small-clause-aligned : goal.returns-then-is_small-clause-aligned
returns-then-is_small-clause-aligned g c = c.deliver_each_limited.ensures.aligned

pub returns-else-is_small-clause-aligned : goal.returns-else-is_small-clause-aligned
returns-else-is_small-clause-aligned g c = c.deliver_limited.ensures.aligned

pub deliver_each_limited-requires : goal.deliver_each_limited-requires
deliver_each_limited-requires g c = rw c.make_room.ensures c.requires

pub deliver_limited-requires : goal.deliver_limited-requires
deliver_limited-requires g c = rw c.make_room.ensures c.requires
