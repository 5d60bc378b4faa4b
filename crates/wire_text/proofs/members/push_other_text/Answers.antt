use Rattle.wire_text.proofs.FieldLemmas.{joined, member_named}
use Rattle.wire_text.proofs.members.push_other_text.Goals as goal

pub returns : goal.returns
returns g c = joined c.push_words.result _ _ _ _ _ _ c.in_ok-push_name.ensures c.push_words.ensures (member_named c.args.form c.args.is_first c.args.name.now _)
