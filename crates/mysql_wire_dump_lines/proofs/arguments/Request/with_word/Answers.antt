use Rattle.std.proofs.Common.{None, Some}
use Rattle.mysql_wire_dump_lines.proofs.ArgumentLemmas.{reads_name, reads_part, refused}
use Rattle.mysql_wire_dump_lines.proofs.arguments.Request.with_word.Goals as goal

pub returns-in_err-with_pair-in-Some : goal.returns-in_err-with_pair-in-Some
returns-in_err-with_pair-in-Some c words reads =
    rw c.from_residual.ensures (refused words c.in-Some.name.now c.args.word.now c.args.self c.in_err-with_pair-in-Some.ensures (rw c.in-Some.is at reads))

pub returns-in_ok-with_pair-in-Some : goal.returns-in_ok-with_pair-in-Some
returns-in_ok-with_pair-in-Some c words reads =
    let part = c.in_ok-with_pair-in-Some.ensures in
    reads_part part.0 words (Some c.in-Some.name.now) c.args.word.now c.args.self _ part.1 part.2 (rw c.in-Some.is at reads)

pub returns-in-Some-with_option : goal.returns-in-Some-with_option
returns-in-Some-with_option c words reads =
    let part = c.in-Some-with_option.ensures in
    reads_part part.0 words None c.args.word.now c.args.self c.in-Some-with_option.with part.1 part.2 (rw c.in-None.is at reads)

pub returns-in-None-with_option : goal.returns-in-None-with_option
returns-in-None-with_option c words reads =
    reads_name words c.args.word.now c.args.self c.in-None-with_option.ensures (rw c.in-None.is at reads)
