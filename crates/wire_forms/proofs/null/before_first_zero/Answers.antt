use Rattle.std.proofs.Common.{sym}
use Rattle.wire_forms.specs.NullTextLemmas.{found_at, found_none}
use Rattle.wire_forms.proofs.null.before_first_zero.Goals as goal

pub returns-in-Some : goal.returns-in-Some
returns-in-Some c = sym (found_at c.args.text.now c.in-Some.end c.in-Some.ensures).3

pub returns-in-None : goal.returns-in-None
returns-in-None c = sym (found_none c.args.text.now c.in-None.ensures).1
