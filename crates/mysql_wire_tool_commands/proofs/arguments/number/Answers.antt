use Rattle.std.proofs.Common.{rules, arith, sym, ◌∙◌}
use Rattle.mysql_wire_tool_commands.proofs.NumberLemmas.{read_number, no_number}
use Rattle.mysql_wire_tool_commands.proofs.arguments.number.Goals as goal

pub returns-then-word-gt10 : goal.returns-then-word-gt10
returns-then-word-gt10 c = search (rules, arith)

pub returns-in-Ok : goal.returns-in-Ok
returns-in-Ok c =
    let plain = sym (c.starts_with.ensures.byte (omega arith) (omega arith) (λ w o h. h)) ∙ c.if-starts_with.false in
    let read = read_number c.args.word.now c.parse.result c.in-Ok.number plain c.parse.ensures.value.0 c.in-Ok.is in
    ((read.0, search (rules, arith), omega (arith, read.1, c.if-number-most.true)), read.1)

pub returns-in_default : goal.returns-in_default
returns-in_default c is =
    let plain = sym (c.starts_with.ensures.byte (omega arith) (omega arith) (λ w o h. h)) ∙ c.if-starts_with.false in
    let read = read_number c.args.word.now c.parse.result c.in-Ok.number plain c.parse.ensures.value.0 c.in-Ok.is in
    absurd (omega (arith, read.1, c.if-number-most.false, is.2))

pub returns-in_default-2 : goal.returns-in_default-2
returns-in_default-2 c is =
    let plain = sym (c.starts_with.ensures.byte (omega arith) (omega arith) (λ w o h. h)) ∙ c.if-starts_with.false in
    no_number c.args.word.now c.parse.result c.in_default.field-0 plain c.parse.ensures.value.0 c.in_default.is (is.0, omega (arith, is.2, c.ranges.most.fits))
