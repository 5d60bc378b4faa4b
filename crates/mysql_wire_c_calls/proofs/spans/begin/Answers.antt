use Rattle.std.proofs.Common.{refl, inl, arith}
use Rattle.mysql_wire_c_calls.proofs.SpanLemmas.{begins_valid}
use Rattle.mysql_wire_c_calls.proofs.spans.begin.Goals as goal

pub returns-clause-valid : goal.returns-clause-valid
returns-clause-valid c = ((omega arith, refl, inl refl), begins_valid c.args.limit c.args.id _ c.ranges.id.fits refl refl (refl, refl) c.spans_begin.ensures)
