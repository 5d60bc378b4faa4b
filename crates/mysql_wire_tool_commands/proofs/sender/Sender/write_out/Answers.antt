use Rattle.mysql_wire_tool_commands.proofs.SenderLemmas.{flushed}
use Rattle.mysql_wire_tool_commands.proofs.sender.Sender.write_out.Goals as goal

pub returns-clause-sent : goal.returns-clause-sent
returns-clause-sent g c =
    flushed c.args.self.now.pending.items _ _ _ (rw c.as_slice.ensures at c.in_ok-write_bytes.ensures.written) c.in_ok-flush.ensures.kept
