use Rattle.std.proofs.Common.{[], refl, ◌∙◌}
use Rattle.wire_codec.specs.Codec.{codec_state}
use Rattle.mysql_wire_tool_commands.proofs.ReframeLemmas.{passed_more}
use Rattle.mysql_wire_tool_commands.proofs.reframe.whole_packets.Goals as goal

pub packets-preserved : goal.packets-preserved
packets-preserved c =
    let inv = c.packets.invariant in
    let at = inv.passes.1 in
    let accepts = c.accept_front_in-len.ensures in
    let rest = c.split_at.result.1.now in
    let stands = (c.between_packets.ensures (codec_state c.packets.codec rest []) at.1 at.0 refl).0 in
    record {
      passes = passed_more c.joined_splits.ensures c.stream_append.ensures c.id_after_append.ensures c.between_packets.ensures
          c.args.codec.now c.packets.codec c.accept_front_in-len.new.self c.args.unread.now _ c.packets.len c.accept_front_in-len.result inv.passes
          (rw (c.split_at.ensures.back) at accepts.whole) (rw (c.split_at.ensures.back) at (accepts.decodes stands)) accepts.limit;
      limit = accepts.limit ∙ inv.limit;
    }
