use Rattle.std.proofs.Common.{List, subst, sym}
use Rattle.wire_text.specs.Fields.{Member, Puts}
use Rattle.wire_text.specs.declared.fields.Field.TheVariants.{Missing}
use Rattle.wire_text.proofs.FieldLemmas.{members_more, puts_then}
use Rattle.wire_text.proofs.fields.Fields.put_all.Goals as goal

pub fields-preserved : goal.fields-preserved
fields-preserved g c =
    subst (λ (members : List Member). Puts members c.args.self.now c.put_field.new.self)
    (sym (members_more c.args.fields.now c.fields.field-index Missing c.fields-test.true))
    (puts_then c.fields.invariant c.in_ok-put_field.ensures)
