-- Why the bytes of a value are refused.
use Rattle.std.specs.Prelude.{Result, Ok, Err}
use Rattle.wire_buf.specs.declared.error.WireError.{WireError}
use Rattle.wire_buf.specs.declared.error.WireError.TheVariants.{UnexpectedEof, InvalidData, Other}
use Rattle.wire_buf.specs.declared.error.InvalidReason.TheVariants.{UnknownValue}
use Rattle.mysql_wire_statements.specs.declared.binary_fault.BinaryFault.{BinaryFault}
use Rattle.mysql_wire_statements.specs.declared.binary_fault.BinaryFault.TheVariants as fault

-- the error that a refusal is
abbrev pub error_of : BinaryFault → WireError
error_of fault.UnexpectedEof = UnexpectedEof
error_of fault.InvalidLength = Other (record {})
error_of fault.UnknownValue = InvalidData UnknownValue

-- what a reader of the type answers
abbrev pub told : {X : Type 0} → Result X BinaryFault → Result X WireError
told (Ok value) = Ok value
told (Err fault) = Err (error_of fault)
