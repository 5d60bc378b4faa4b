use Rattle.std.proofs.Common.{string_bytes, arith}
use Rattle.mysql_wire_tool_commands.proofs.ArgumentLemmas.{unframe_count, of_two, of_four}
use Rattle.mysql_wire_tool_commands.proofs.arguments.Request.unframe.Goals as goal

pub returns-in_default : goal.returns-in_default
returns-in_default g c = unframe_count string_bytes c.args.words.now (omega arith) (omega arith)

pub returns-in_default-2 : goal.returns-in_default-2
returns-in_default-2 g c = unframe_count string_bytes c.args.words.now (omega arith) (omega arith)

pub returns-in_default-3 : goal.returns-in_default-3
returns-in_default-3 g c = unframe_count string_bytes c.args.words.now (omega arith) (omega arith)

pub returns-in-len2 : goal.returns-in-len2
returns-in-len2 g c =
    of_two string_bytes c.args.words.now c.step-item.result c.limit-item.result _ _ _ c.in-len2.len_at_least c.in-len2.len_below c.step-item.is c.limit-item.is
    c.as_str.ensures.value c.as_str-in-len2.ensures.value c.unframe_under.ensures

pub returns-in-len4 : goal.returns-in-len4
returns-in-len4 g c =
    of_four string_bytes c.args.words.now c.step-item-then-words-lt5.result c.limit-item-then-words-lt5.result c.later-item.result c.at-item.result _ _ _ _ _
    c.in-len4.len_at_least c.in-len4.len_below c.step-item-then-words-lt5.is c.limit-item-then-words-lt5.is c.later-item.is c.at-item.is
    c.as_str-in-len4.ensures.value c.as_str-in-len4-2.ensures.value c.as_str-in-len4-3.ensures.value c.as_str-in-len4-4.ensures.value c.unframe_limited.ensures
