use Rattle.std.proofs.Common.{rules, arith, length, ◌≤◌, ◌-◌, inl, inr}
use Rattle.mysql_wire_c_calls.specs.Fields.{WritesAt}
use Rattle.mysql_wire_c_calls.proofs.FieldLemmas.{writes_on}
use Rattle.mysql_wire_c_calls.proofs.fields.write_both.Goals as goal

pub returns-clause-written : goal.returns-clause-written
returns-clause-written c ok =
    let front_fits : length c.args.front.now ≤ length c.args.room.now - c.args.at.now =
    c.if-room-at-2.false in
    let first : WritesAt c.args.room.now c.args.at.now c.args.front.now c.write.new.room c.write.new.at =
    elim c.write.ensures.answers [
      | inl done ↦ c.write.ensures.written done
      | inr less ↦ absurd (let short = c.write.ensures.small less in let fits = c.if-room-at.false in omega (arith, short, front_fits, fits))
    ] in
    writes_on c.args.room.now c.args.at.now c.args.front.now c.write.new.room c.write.new.at
    c.args.back.now c.write-2.new.room c.write-2.new.at first
    (c.write-2.ensures.written (search rules))
