use Rattle.std.proofs.Common.{◌/◌, ◌^◌, refl}
use Rattle.wire_text.proofs.StandLemmas.{no_run_ends, run_ends}
use Rattle.wire_text.proofs.escapes.run_from.Goals as goal

pub returns-then-left-eq0 : goal.returns-then-left-eq0
returns-then-left-eq0 c = λ block long is. no_run_ends c.args.escapes (c.args.escapes / 2 ^ c.args.done) c.args.done block refl c.if-left-eq0.true long is

pub returns-else-left-eq0 : goal.returns-else-left-eq0
returns-else-left-eq0 c = λ block long is. run_ends c.args.escapes (c.args.escapes / 2 ^ c.args.done) c.args.done block refl c.if-left-eq0.false long is
