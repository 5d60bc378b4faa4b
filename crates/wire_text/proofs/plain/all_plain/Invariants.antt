use Rattle.std.proofs.Common.{◌≡◌, take}
use Rattle.wire_text.specs.Fields.{all_plain}
use Rattle.wire_text.proofs.plain.all_plain.Given as goal

abbrev pub invariant-bytes : goal.invariant-bytes
invariant-bytes l = l.all ≡ all_plain (take l.byte-index l.words)
