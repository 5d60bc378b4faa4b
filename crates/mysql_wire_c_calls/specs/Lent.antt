-- How a `Handle` lends its connection.
use Rattle.std.specs.Borrow.{Lends, MutBor, Fml}
use Rattle.std.specs.declared.option.Option.TheVariants.{Some}
use Rattle.mysql_wire_c_calls.specs.declared.side.Connection.{Connection}
use Rattle.mysql_wire_c_calls.specs.declared.handle.Handle.{Handle}
use Rattle.mysql_wire_c_calls.specs.contracts.side.Connection as connection
use Rattle.mysql_wire_c_calls.specs.contracts.handle.Handle as handle

-- h after `*h.connection() = w`
abbrev pub with_connection : Handle → Connection → Handle
with_connection h w = record { at = h.at; alloc = h.alloc; connection = Some w }

-- once the borrow r ends, the connection after h is the last value written through r
abbrev pub lends_connection : MutBor Handle → MutBor Connection → Fml
lends_connection h r = Lends handle.the_row connection.the_row h r (with_connection h.now)
