use Rattle.mysql_wire_tool_commands.proofs.RoomLemmas.{front_there, front_len, front_fits, put_back}
use Rattle.mysql_wire_tool_commands.proofs.room.make_room.Goals as goal

pub slice_bounds-bytes-end-2 : goal.slice_bounds-bytes-end-2
slice_bounds-bytes-end-2 g c = front_there c.len-unread.result c.copy_from_slice.new.self _ c.copy_from_slice.ensures.len c.if-unread-gt-FEW.false

pub slice_bounds-extend_reserved-end : goal.slice_bounds-extend_reserved-end
slice_bounds-extend_reserved-end g c = front_len c.len-unread.result c.copy_from_slice.new.self _ c.copy_from_slice.ensures.len c.if-unread-gt-FEW.false

pub extend_reserved-requires : goal.extend_reserved-requires
extend_reserved-requires g c =
    front_fits c.len-unread.result c.copy_from_slice.new.self _ c.args.src.now.items _ _ c.copy_from_slice.ensures.len c.if-unread-gt-FEW.false c.len-unread.ensures.value c.clear.ensures.spare

pub returns : goal.returns
returns g c =
    put_back c.len-unread.result c.copy_from_slice.new.self _ c.args.src.now.items c.as_slice.result.now c.clear.new.self.items c.extend_reserved.new.self.items
    c.copy_from_slice.ensures.len c.if-unread-gt-FEW.false c.clear.ensures.items c.extend_reserved.ensures.items c.copy_from_slice.ensures.after c.as_slice.ensures
