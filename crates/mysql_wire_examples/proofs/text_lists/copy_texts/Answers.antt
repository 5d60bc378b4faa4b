use Rattle.std.specs.Cow.{cow_slice_items}
use Rattle.std.proofs.lemmas.Result.{IfOk-weaker}
use Rattle.mysql_wire_examples.proofs.TextListLemmas.{same_bytes, copied_texts}
use Rattle.mysql_wire_examples.proofs.text_lists.copy_texts.Goals as goal

pub returns-clause-ok : goal.returns-clause-ok
returns-clause-ok c =
    IfOk-weaker c.clone.result _ _ (λ copy is. copied_texts (λ text. cow_slice_items text.0) _
    c.args.list.now.0 copy.0 is (λ value copy is. same_bytes value.0 copy.0 is.0)) c.clone.ensures.ok
