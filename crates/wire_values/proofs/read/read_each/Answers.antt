use Rattle.std.proofs.Common.{◌<◌, ◌∙◌, ap, length}
use Rattle.std.proofs.lemmas.Result.{err_from_is_err_and}
use Rattle.std.specs.Vec.{vec_capacity, vec_len}
use Rattle.wire_buf.specs.Reading.{Parses}
use Rattle.wire_values.proofs.ReadLemmas.{short-is, one-more, room-stays, same-room, has-room, start-at, refused-at, failed-at, more-at, done-at}
use Rattle.wire_values.proofs.read.read_each.Goals as goal

pub returns-in_err-reserve : goal.returns-in_err-reserve
returns-in_err-reserve g c =
    let p = err_from_is_err_and c.from_residual.result c.from_residual.ensures.1 in
    rw (p.1, p.2) (refused-at (vec_capacity c.args.start < c.args.count)
    (Parses g.T.Size.ReadSize.SIZE (g.T.MyDeserialize.reads tt)) c.args.count
    c.args.buf.now.0.now c.loop-i.items.items c.loop-i.i c.loop-i.buf.0.now c.loop-i-test.true
    (short-is (vec_capacity c.args.start) (vec_capacity c.loop-i.items) (vec_len c.loop-i.items)
    c.loop-i.i c.args.count c.loop-i.invariant.room c.loop-i.invariant.len c.loop-i-test.true
    c.in_err-reserve.ensures.full)
    c.loop-i.invariant.so_far)

pub returns-in_err-item : goal.returns-in_err-item
returns-in_err-item g c =
    let p = err_from_is_err_and c.from_residual-in_err-item.result
    c.from_residual-in_err-item.ensures.1 in
    rw (p.1, p.2) (failed-at (vec_capacity c.args.start < c.args.count)
    (Parses g.T.Size.ReadSize.SIZE (g.T.MyDeserialize.reads tt)) c.args.count
    c.args.buf.now.0.now c.loop-i.items.items c.loop-i.i c.loop-i.buf.0.now
    c.in_err-item.field-0.0 c.parse_in.new.self.0.now c.loop-i-test.true
    c.loop-i.invariant.so_far c.in_err-item.ensures)

pub loop-i-preserved : goal.loop-i-preserved
loop-i-preserved g c = record {
  so_far = more-at (vec_capacity c.args.start < c.args.count)
      (Parses g.T.Size.ReadSize.SIZE (g.T.MyDeserialize.reads tt)) c.args.count
      c.args.buf.now.0.now c.loop-i.items.items c.reserve.new.self.items c.push_reserved.new.self.items
      c.loop-i.i c.loop-i.buf.0.now c.in_ok-item.item c.parse_in.new.self.0.now
      c.loop-i-test.true c.loop-i.invariant.so_far c.in_ok-item.ensures c.reserve.ensures.items
      c.push_reserved.ensures.items;
  len = one-more (vec_len c.push_reserved.new.self) (vec_len c.reserve.new.self) (vec_len c.loop-i.items)
      c.loop-i.i c.push_reserved.ensures.len c.reserve.ensures.len c.loop-i.invariant.len;
  room = room-stays (vec_capacity c.args.start) (vec_capacity c.loop-i.items)
      (vec_capacity c.reserve.new.self) (vec_capacity c.push_reserved.new.self) c.loop-i.invariant.room
      c.reserve.ensures.capacity c.push_reserved.ensures.capacity;
}

pub push_reserved-requires : goal.push_reserved-requires
push_reserved-requires g c =
    has-room (vec_len c.reserve.new.self) (vec_capacity c.reserve.new.self) c.in_ok-reserve.ensures.ok

pub loop-i-init : goal.loop-i-init
loop-i-init g c = record {
  so_far = start-at (vec_capacity c.args.start < c.args.count)
      (Parses g.T.Size.ReadSize.SIZE (g.T.MyDeserialize.reads tt)) c.args.count
      c.args.buf.now.0.now c.args.start.items c.requires;
  len = c.args.start.ok.0 ∙ ap length c.requires;
  room = same-room (vec_capacity c.args.start);
}

pub returns : goal.returns
returns g c = done-at (vec_capacity c.args.start < c.args.count)
    (Parses g.T.Size.ReadSize.SIZE (g.T.MyDeserialize.reads tt)) c.args.count
    c.args.buf.now.0.now c.loop-i.items.items c.loop-i.i c.loop-i.buf.0.now c.loop-i-test.false
    c.loop-i.invariant.so_far
