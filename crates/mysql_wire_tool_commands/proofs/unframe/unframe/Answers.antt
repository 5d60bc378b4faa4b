use Rattle.mysql_wire_tool_commands.proofs.ReadLemmas.{none_if}
use Rattle.std.proofs.Common.{refl}
use Rattle.mysql_wire_tool_commands.proofs.unframe.unframe.Goals as goal

pub take_pieces-requires-clause-starts : goal.take_pieces-requires-clause-starts
take_pieces-requires-clause-starts g c =
    let new = c.new-run.ensures in
    record {
      id = new.id;
      header = new.header;
      nothing_unread = new.nothing_unread;
      nothing_held = new.nothing_held;
      limit_is = refl;
      later_is = refl;
      ahead_is = refl;
    }

pub returns-clause-ended : goal.returns-clause-ended
returns-clause-ended g c = let new = c.new-run.ensures in rw (new.limit_is, new.later_is, new.ahead_is) at c.take_pieces.ensures.ended

pub returns-clause-reads : goal.returns-clause-reads
returns-clause-reads g c = let new = c.new-run.ensures in rw (new.limit_is, new.later_is, new.ahead_is) at c.take_pieces.ensures.reads

pub returns-in_err-piece-clause-ended : goal.returns-in_err-piece-clause-ended
returns-in_err-piece-clause-ended g c = none_if c.from_residual.result _ c.from_residual.ensures.0
