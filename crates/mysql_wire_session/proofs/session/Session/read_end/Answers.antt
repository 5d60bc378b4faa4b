use Rattle.std.proofs.Common.{◌∙◌, Bool, subst, sym}
use Rattle.mysql_wire_session.specs.Readings.{EndGives}
use Rattle.mysql_wire_session.proofs.session.Session.read_end.Goals as goal

pub returns-then-is_ended_by_ok : goal.returns-then-is_ended_by_ok
returns-then-is_ended_by_ok g c =
    subst (λ (by_ok : Bool). EndGives by_ok c.args.self.now.capabilities c.args.payload.now c.read_as.result)
    (sym c.if-is_ended_by_ok.true ∙ c.is_ended_by_ok.ensures) (rw c.of-form.ensures at c.read_as.ensures)
