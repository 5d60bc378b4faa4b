use Rattle.wire_text.proofs.FieldLemmas.{letters_utf8}
use Rattle.wire_text.proofs.put.push_letters.Goals as goal

pub push_few-requires : goal.push_few-requires
push_few-requires g c = letters_utf8 c.args.letters.now c.requires
