use Rattle.wire_forms.specs.GroupsLemmas.{groups_bytes-shortest}
use Rattle.wire_forms.proofs.varlen.VarLenIntRepr.serialize.Goals as goal

pub returns-in_err-put_groups-clause-shortest : goal.returns-in_err-put_groups-clause-shortest
returns-in_err-put_groups-clause-shortest g c = groups_bytes-shortest c.args.val c.ranges.val.fits

pub returns-clause-shortest : goal.returns-clause-shortest
returns-clause-shortest g c = groups_bytes-shortest c.args.val c.ranges.val.fits
