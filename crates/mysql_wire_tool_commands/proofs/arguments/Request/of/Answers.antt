use Rattle.std.proofs.Common.{string_bytes}
use Rattle.mysql_wire_tool_commands.proofs.ArgumentLemmas.{named, nothing_named, other_name}
use Rattle.mysql_wire_tool_commands.proofs.arguments.Request.of.Goals as goal

pub returns-in_default : goal.returns-in_default
returns-in_default g c = nothing_named string_bytes c.args.words.now c.in_default.len_below

pub returns-in-frame : goal.returns-in-frame
returns-in-frame g c = named string_bytes c.args.words.now c.name-item.result _ _ _ c.in-len1-up.len_at_least c.name-item.is c.as_str.ensures.value c.in-frame.is c.frame.ensures

pub returns-in-chunk : goal.returns-in-chunk
returns-in-chunk g c = named string_bytes c.args.words.now c.name-item.result _ _ _ c.in-len1-up.len_at_least c.name-item.is c.as_str.ensures.value c.in-chunk.is c.chunk.ensures

pub returns-in-reframe : goal.returns-in-reframe
returns-in-reframe g c = named string_bytes c.args.words.now c.name-item.result _ _ _ c.in-len1-up.len_at_least c.name-item.is c.as_str.ensures.value c.in-reframe.is c.reframe.ensures

pub returns-in-unframe : goal.returns-in-unframe
returns-in-unframe g c = named string_bytes c.args.words.now c.name-item.result _ _ _ c.in-len1-up.len_at_least c.name-item.is c.as_str.ensures.value c.in-unframe.is c.unframe.ensures

pub returns-in_default-as_str : goal.returns-in_default-as_str
returns-in_default-as_str g c =
    let no = c.in_default-as_str in
    other_name string_bytes c.args.words.now c.name-item.result _ c.in-len1-up.len_at_least c.name-item.is c.as_str.ensures.value no.not-frame no.not-chunk no.not-reframe no.not-unframe
