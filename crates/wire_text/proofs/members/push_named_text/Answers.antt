use Rattle.wire_text.proofs.FieldLemmas.{standing_member}
use Rattle.wire_text.proofs.members.push_named_text.Goals as goal

pub returns-in-Some : goal.returns-in-Some
returns-in-Some g c =
    rw (
      standing_member c.args.form c.args.is_first c.args.name.now c.args.bytes.now c.in-Some.ensures.stands.1 c.in-Some.ensures.stands.2,
      ← c.in-Some.ensures.stands.0,
    ) c.push_plain.ensures
