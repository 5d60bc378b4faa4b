use Rattle.std.proofs.Common.{◌∙◌, ap, Ok, false}
use Rattle.wire_packet_io.proofs.LendingLemmas.{decoded}
use Rattle.wire_packet_io.proofs.input.Input.decode.Goals as goal

pub returns-in-Ok-false-clause-takes : goal.returns-in-Ok-false-clause-takes
returns-in-Ok-false-clause-takes g c =
    let now = c.args.self.now in
    let there = c.make_room.new.self in
    let rest = c.make_room.ensures.rest in (
      decoded c.args.codec.now c.decode.new.self now.src.items there.src.items now.dst.items there.dst.items c.decode.new.src.items c.decode.new.dst.items (Ok false)
          (ap (λ z. z.src.items) rest) c.make_room.ensures.held (rw c.in-Ok-false.field-0-test at c.in-Ok-false.ensures.decodes) c.requires.stands,
      ap (λ z. z.lost) rest ∙ c.requires.found,
    )

pub returns-in-Ok-false-clause-apart : goal.returns-in-Ok-false-clause-apart
returns-in-Ok-false-clause-apart g c = tt

pub returns-in-Err-clause-apart : goal.returns-in-Err-clause-apart
returns-in-Err-clause-apart g c = tt
