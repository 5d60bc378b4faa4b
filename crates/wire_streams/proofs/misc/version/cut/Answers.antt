use Rattle.wire_streams.specs.Version.{is_dot}
use Rattle.wire_streams.proofs.VersionLemmas.{position-none}
use Rattle.wire_streams.proofs.misc.version.cut.Goals as goal

pub returns-in_err-dot : goal.returns-in_err-dot
returns-in_err-dot c = rw c.from_residual.ensures
    (position-none is_dot c.args.text.now c.in_err-dot.ensures)
