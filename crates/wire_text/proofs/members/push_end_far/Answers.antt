use Rattle.wire_text.proofs.FieldLemmas.{plain_utf8}
use Rattle.wire_text.proofs.members.push_end_far.Goals as goal

pub push_few-requires : goal.push_few-requires
push_few-requires g c = plain_utf8 c.args.bytes.now c.requires
