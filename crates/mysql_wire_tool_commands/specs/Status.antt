-- How the program ends.
use Rattle.std.specs.Prelude.{ℕ, List, codes}
use Rattle.wire_text.specs.Stops

-- the commands, in one line
abbrev pub usage : List ℕ
usage = codes
    "usage: mysql_wire_tool frame ID | chunk | unframe STEP LIMIT [LATER AT] | reframe LIMIT"

-- the words on standard error
abbrev pub fault_line : ℕ → List ℕ
fault_line = Stops.fault_line usage
