use Rattle.std.proofs.Common.{string_bytes, arith}
use Rattle.mysql_wire_tool_commands.proofs.ArgumentLemmas.{reframe_asked, reframe_refused, reframe_count, map_one}
use Rattle.mysql_wire_tool_commands.proofs.arguments.Request.reframe.Goals as goal

pub returns-in_ok-limit_number-in-len1 : goal.returns-in_ok-limit_number-in-len1
returns-in_ok-limit_number-in-len1 g c =
    let known = c.in_ok-limit_number-in-len1.ensures in
    reframe_asked _ c.as_str.result.now _ (map_one string_bytes c.args.words.now c.limit-item.result _ c.in-len1.len_at_least c.in-len1.len_below c.limit-item.is c.as_str.ensures.value) known.0 known.1

pub returns-in_err-limit_number-in-len1 : goal.returns-in_err-limit_number-in-len1
returns-in_err-limit_number-in-len1 g c =
    rw c.from_residual.ensures (reframe_refused _ c.as_str.result.now (map_one string_bytes c.args.words.now c.limit-item.result _ c.in-len1.len_at_least c.in-len1.len_below c.limit-item.is c.as_str.ensures.value) c.in_err-limit_number-in-len1.ensures)

pub returns-in_default : goal.returns-in_default
returns-in_default g c = reframe_count string_bytes c.args.words.now (omega arith)

pub returns-in_default-2 : goal.returns-in_default-2
returns-in_default-2 g c = reframe_count string_bytes c.args.words.now (omega arith)
