-- How a program ends.
use Rattle.std.specs.Prelude.{ℕ, List, [], codes, ◌==◌, if◌then◌else◌, Result, Ok, Err}
use Rattle.wire_text.specs.declared.stop.Stop.{Stop}
use Rattle.wire_text.specs.declared.stop.Stop.TheVariants.{Io, Memory}

-- the exit status: a program's own, or that of why it gave up
abbrev pub exit_status_of : Result ℕ Stop → ℕ
exit_status_of (Ok status) = status
exit_status_of (Err Io) = 2
exit_status_of (Err Memory) = 6

-- the words on standard error, of a program that is called so
abbrev pub fault_line : List ℕ → ℕ → List ℕ
fault_line usage status =
    if status == 1 then usage
    else if status == 2 then codes "input or output failed"
    else if status == 6 then codes "out of memory"
    else []
