use Rattle.std.proofs.Common.{refl}
use Rattle.mysql_wire_dump_lines.proofs.GivenLemmas.{given_refusal}
use Rattle.mysql_wire_dump_lines.proofs.show.values.put_other.Goals as goal

pub returns-in-Some-Err : goal.returns-in-Some-Err
returns-in-Some-Err g c = (
  given_refusal c.args.rest.now.0.now c.new-values.result c.next.new.self c.in-Some-Err.fault c.refusal_of.result c.new-values.ensures.rest
      (rw (c.in-Some-Err.field-0-is) at c.in-Some-Err.ensures.steps) c.refusal_of.ensures,
  refl,
)
