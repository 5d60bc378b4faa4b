use Rattle.std.proofs.Common.{ap, sym}
use Rattle.mysql_wire_tool_commands.proofs.ReframeLemmas.{reframe_status}
use Rattle.mysql_wire_tool_commands.proofs.reframe.run_reframe.Goals as goal

pub returns : goal.returns
returns g c =
    let ended = reframe_status c.args.limit c.copy_packets-ended.result c.finish.result _ _ _ _ _ c.copy_packets-ended.ensures (rw c.into_inner-input.ensures at c.finish.ensures) in
    rw (
      ap (λ z. z.reader) c.in-Ok.ensures.new,
      c.new-to.ensures.writer,
      sym c.into_inner-output.ensures,
      sym c.exit_status-status.ensures,
    ) at ended
