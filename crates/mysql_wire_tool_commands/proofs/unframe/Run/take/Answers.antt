use Rattle.mysql_wire_tool_commands.specs.declared.unframe.Verdict.TheVariants as verdict
use Rattle.std.proofs.Common.{rules, ◌≡◌}
use Rattle.mysql_wire_tool_commands.specs.Unframe.{run_state}
use Rattle.mysql_wire_tool_commands.proofs.UnframeLemmas.{not_lost, piece_waits, piece_too_large, piece_out_of_sync}
use Rattle.mysql_wire_tool_commands.proofs.unframe.Run.take.Goals as goal

pub returns-in-Ok-clause-takes : goal.returns-in-Ok-clause-takes
returns-in-Ok-clause-takes g c limits mark place goes_on known =
    let call = c.deliver-result in
    let after = run_state call.new.self in
    let told = call.ensures.on limits mark place goes_on (known, tt) in
    piece_waits limits place (run_state c.args.self.now) c.args.limit c.args.part call.result.0 call.result.1 call.new.self.lines after c.if-self.false c.in-Ok.is call.ensures.all told

pub returns-in-Err-PacketTooLarge-clause-takes : goal.returns-in-Err-PacketTooLarge-clause-takes
returns-in-Err-PacketTooLarge-clause-takes g c limits mark place goes_on known =
    let call = c.deliver-result in
    let after = run_state call.new.self in
    let told = call.ensures.on limits mark place goes_on (known, tt) in
    piece_too_large limits place (run_state c.args.self.now) c.args.limit c.args.part call.result.0 call.result.1 call.new.self.lines after c.if-self.false (search rules) told

pub returns-in-Err-PacketsOutOfSync-clause-takes : goal.returns-in-Err-PacketsOutOfSync-clause-takes
returns-in-Err-PacketsOutOfSync-clause-takes g c limits mark place goes_on known =
    let call = c.deliver-result in
    let after = run_state call.new.self in
    let told = call.ensures.on limits mark place goes_on (known, tt) in
    piece_out_of_sync limits place (run_state c.args.self.now) c.args.limit c.args.part call.result.0 call.result.1 call.new.self.lines after c.if-self.false (search rules) told

pub returns-in-Ok-clause-aligned : goal.returns-in-Ok-clause-aligned
returns-in-Ok-clause-aligned g c waits = c.deliver-result.ensures.aligned (not_lost c.deliver-result.result.1 c.in-Ok.is)

pub returns-then-self-clause-limits : goal.returns-then-self-clause-limits
returns-then-self-clause-limits g c = c.deliver-result.ensures.limits

pub returns-in-Ok-clause-limits : goal.returns-in-Ok-clause-limits
returns-in-Ok-clause-limits g c = c.deliver-result.ensures.limits

pub returns-in-Err-PacketTooLarge-clause-limits : goal.returns-in-Err-PacketTooLarge-clause-limits
returns-in-Err-PacketTooLarge-clause-limits g c = c.deliver-result.ensures.limits

pub returns-in-Err-PacketsOutOfSync-clause-limits : goal.returns-in-Err-PacketsOutOfSync-clause-limits
returns-in-Err-PacketsOutOfSync-clause-limits g c = c.deliver-result.ensures.limits

pub returns-in-Err-OutOfMemory-clause-limits : goal.returns-in-Err-OutOfMemory-clause-limits
returns-in-Err-OutOfMemory-clause-limits g c = c.deliver-result.ensures.limits

pub returns-then-self-clause-takes : goal.returns-then-self-clause-takes
returns-then-self-clause-takes g c = tt

pub returns-then-self-clause-aligned : goal.returns-then-self-clause-aligned
returns-then-self-clause-aligned g c = tt

pub returns-in-Err-OutOfMemory-clause-takes : goal.returns-in-Err-OutOfMemory-clause-takes
returns-in-Err-OutOfMemory-clause-takes g c = tt

pub returns-in-Err-OutOfMemory-clause-aligned : goal.returns-in-Err-OutOfMemory-clause-aligned
returns-in-Err-OutOfMemory-clause-aligned g c = tt

pub deliver-result-requires : goal.deliver-result-requires
deliver-result-requires g c = c.requires

too_large_waits : verdict.TooLarge ≡ verdict.Waits → ⊥
too_large_waits is = cc

out_of_sync_waits : verdict.OutOfSync ≡ verdict.Waits → ⊥
out_of_sync_waits is = cc

pub returns-in-Err-PacketTooLarge-clause-aligned : goal.returns-in-Err-PacketTooLarge-clause-aligned
returns-in-Err-PacketTooLarge-clause-aligned g c is = absurd (too_large_waits is)

pub returns-in-Err-PacketsOutOfSync-clause-aligned : goal.returns-in-Err-PacketsOutOfSync-clause-aligned
returns-in-Err-PacketsOutOfSync-clause-aligned g c is = absurd (out_of_sync_waits is)
