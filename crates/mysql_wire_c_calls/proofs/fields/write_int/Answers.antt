use Rattle.std.proofs.Common.{rules, ◌≡◌, ◌∙◌, ap, subst, List, ℕ, take}
use Rattle.wire_buf.specs.Numbers.{le_bytes}
use Rattle.wire_buf.specs.NumberLemmas.{bytes_low_first-is, take-le_bytes}
use Rattle.mysql_wire_c_calls.specs.Fields.{WritesAt}
use Rattle.mysql_wire_c_calls.proofs.fields.write_int.Goals as goal

pub returns-clause-written : goal.returns-clause-written
returns-clause-written c ok =
    let low : take c.args.width c.to_le_bytes.result ≡ le_bytes c.args.width c.args.value =
    ap (take c.args.width) (c.to_le_bytes.ensures ∙ bytes_low_first-is 8 c.args.value)
    ∙ take-le_bytes c.args.width 8 c.args.value c.if-width-gt8.false in
    subst (λ (bytes : List ℕ). WritesAt c.args.room.now c.args.at.now bytes c.write.new.room c.write.new.at) low
    (c.write.ensures.written (search rules))
