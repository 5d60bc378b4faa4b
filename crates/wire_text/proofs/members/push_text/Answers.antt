use Rattle.wire_text.proofs.FieldLemmas.{standing_words}
use Rattle.wire_text.proofs.members.push_text.Goals as goal

pub returns-in-Some : goal.returns-in-Some
returns-in-Some g c =
    rw (standing_words c.args.form c.args.bytes.now c.in-Some.ensures.stands.1 c.in-Some.ensures.stands.2, ← c.in-Some.ensures.stands.0) c.push_in_quotes.ensures
