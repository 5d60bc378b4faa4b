use Rattle.std.proofs.Common.{take}
use Rattle.wire_text.specs.Fields.{Puts}
use Rattle.wire_text.specs.FieldTables.{members_of}
use Rattle.wire_text.proofs.fields.Fields.put_all.Given as goal

abbrev pub invariant-fields : goal.invariant-fields
invariant-fields g l = Puts (members_of (take l.field-index l.fields)) l.fn.self l.self
