use Rattle.std.proofs.Common.{ℕ, List, [], ◌++◌, take, arith, length-append, length-take}
use Rattle.std.proofs.KnownBytes.{Consumes-nil, Consumes-trans}
use Rattle.std.proofs.lemmas.List.{length-take-le}
use Rattle.mysql_wire_tool_commands.proofs.reframe.drop_bytes.Goals as goal

pub reads-init : goal.reads-init
reads-init g c = ([], Consumes-nil _, omega arith)

pub reads-preserved : goal.reads-preserved
reads-preserved g c =
    let gone = c.reads.invariant in
    let came : List ℕ = take c.in-Ok.came c.read.new.buf in
    let bound = c.in-Ok.ensures.bound.0 in
    let both = length-append gone.0 came in
    let size = length-take-le c.in-Ok.came c.read.new.buf bound in
    let most = c.min-most.ensures in
    let all = gone.2 in
    (gone.0 ++ came, Consumes-trans _ _ _ gone.0 came gone.1 c.in-Ok.ensures.bytes.0, let room = c.read.auto.buf in let short = length-take c.min-most.result c.reads.piece in omega (arith, both, size, most, all, bound, room, short))
