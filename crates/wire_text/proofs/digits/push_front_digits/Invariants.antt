use Rattle.std.proofs.Common.{◌+◌, ◌*◌, ◌≤◌, length, vec_len, vec_capacity}
use Rattle.wire_text.specs.Digits.{Pushed}
use Rattle.wire_text.proofs.digits.push_front_digits.Given as goal

abbrev pub invariant-loop-block : goal.invariant-loop-block
invariant-loop-block g l = Pushed l.bytes l.rest l.fn.text.items l.text.items × (vec_len l.text + 2 * length l.rest ≤ vec_capacity l.text)

abbrev pub decreases-loop-block : goal.decreases-loop-block
decreases-loop-block g l = length l.rest
