-- What a `Handle` owns.
use base.Fml.{Fml, feq}
use base.Stored.{Coded}
use denote.RawPtr.{Ptr, null_ptr}
use Rattle.std.specs.Coded.{coded_option}
use Rattle.std.specs.Box.Ownership.{box_owns}
use Rattle.std.specs.Global.{Global}
use Rattle.std.specs.declared.option.Option.{Option}
use Rattle.std.specs.declared.option.Option.TheVariants.{Some, None}
use Rattle.std_heap.specs.contracts.GlobalAllocator.TheImpl.{ghosts}
use Rattle.mysql_wire_c_calls.specs.contracts.side.Connection.{the_row}

-- what a `Box<Connection>` of x owns, or that p is null
abbrev pub handle_owns : Global → Ptr → Option the_row.Denot → Fml
handle_owns alloc p (Some x) = box_owns (ghosts.dealloc_token alloc) the_row p x
handle_owns alloc p None = feq Ptr p null_ptr

abbrev pub connection_coded : Coded (Option the_row.Denot)
connection_coded = coded_option the_row.coded
