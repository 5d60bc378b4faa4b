use Rattle.mysql_wire_statements.proofs.ColumnLemmas.{given_columns, read_columns}
use Rattle.mysql_wire_statements.proofs.binary_values.values_are_of_the_columns.Goals as goal

pub returns-clause-given : goal.returns-clause-given
returns-clause-given c = λ values left came given. given_columns came values left given

pub returns-clause-read : goal.returns-clause-read
returns-clause-read c = λ values came rest begun read. read_columns came values begun rest read
