use Rattle.std.proofs.Common.{rules, refl, length}
use Rattle.std.proofs.lemmas.Option.{slice_get_read}
use Rattle.mysql_wire_statements.proofs.binary_values.BinaryValuesIterator.next.Goals as goal

pub returns-in-Err-clause-steps : goal.returns-in-Err-clause-steps
returns-in-Err-clause-steps c =
    let column_type = c.in_ok-column_type.field-0.now in
    let types = c.args.self.now.types.now in
    let there = slice_get_read types (length types) c.args.self.now.column column_type refl
    (search rules) (search rules) in
    (column_type, (there, search rules), (_, c.in-Err.ensures), refl)
