use Rattle.wire_text.proofs.members.push_text_far.Goals as goal

pub returns : goal.returns
returns g c = rw (← c.format.ensures.text) c.push_named_text.ensures
