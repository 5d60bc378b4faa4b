use Rattle.std.proofs.Common.{◌<◌, arith}
use Rattle.std.specs.Int.NonZero.{non_zero_usize_get}
use Rattle.wire_codec.proofs.SkipLemmas.{may_skip_closed, may_skip_open}
use Rattle.wire_codec.proofs.codec.packet.PacketCodec.may_skip.Goals as goal

pub returns-in-Some : goal.returns-in-Some
returns-in-Some c =
    let some : 0 < non_zero_usize_get c.in-Some.begun.left = omega (arith, c.in-Some.begun.left.ok) in
    may_skip_open c.is_behind.result c.args.skipped.now c.in-Some.begun c.args.self.now c.args.unread.now c.in-Some.is c.is_behind.ensures.id some c.is_behind.ensures.behind

pub returns-in-None : goal.returns-in-None
returns-in-None c =
    may_skip_closed c.stands_behind.result c.args.skipped.now c.args.self.now c.args.unread.now c.in-None.is c.stands_behind.ensures
