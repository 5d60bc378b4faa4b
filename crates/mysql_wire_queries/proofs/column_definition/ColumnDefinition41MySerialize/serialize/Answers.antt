use Rattle.std.proofs.Common.{◌∙◌}
use Rattle.mysql_wire_queries.proofs.ColumnLemmas.{put_whole}
use Rattle.mysql_wire_queries.proofs.column_definition.ColumnDefinition41MySerialize.serialize.Goals as goal

pub returns : goal.returns
returns g c =
    let both = put_whole c.put_definition.result c.all_or_nothing.result c.is_ok-put.result c.len-at.result c.args.buf.now.items c.put_definition.new.buf.items c.all_or_nothing.new.buf.items _
    (c.len-at.ensures ∙ c.args.buf.now.ok.0) c.put_definition.ensures c.is_ok-put.ensures.value c.all_or_nothing.ensures.all c.all_or_nothing.ensures.nothing in
    record { ok = both.0; err = both.1 }
