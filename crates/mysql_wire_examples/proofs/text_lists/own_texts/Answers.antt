use Rattle.std.specs.Cow.{cow_slice_items}
use Rattle.std.proofs.lemmas.Result.{IfOk-weaker}
use Rattle.mysql_wire_examples.proofs.TextListLemmas.{same_bytes, owned_texts}
use Rattle.mysql_wire_examples.proofs.text_lists.own_texts.Goals as goal

pub returns-clause-ok : goal.returns-clause-ok
returns-clause-ok c =
    IfOk-weaker c.into_owned.result _ _ (λ owned is. (
      is.0,
      owned_texts
          (λ text. cow_slice_items text.0) _ c.args.list.0 (cow_slice_items owned.0) is.1
          (λ value copy is. same_bytes value.0 copy.0 is.0),
    )) c.into_owned.ensures.ok
