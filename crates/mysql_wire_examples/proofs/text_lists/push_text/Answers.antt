use Rattle.std.proofs.Common.{◌≡◌, [], ◌∷◌, ◌++◌, map, subst, OnOk}
use Rattle.std.proofs.lemmas.Result.{on_ok_weaker}
use Rattle.std.specs.Cow.{cow_slice_items}
use Rattle.mysql_wire_examples.proofs.TextListLemmas.{borrowed_text, same_bytes, pushed_texts}
use Rattle.mysql_wire_examples.proofs.text_lists.push_text.Goals as goal

pub returns-clause-ok : goal.returns-clause-ok
returns-clause-ok c =
    subst (λ pushed. OnOk c.push.result
    (map (λ text. cow_slice_items text.0) (cow_slice_items c.push.new.self.0)
    ≡ map (λ text. cow_slice_items text.0) (cow_slice_items c.args.list.now.0) ++ pushed ∷ []))
    (borrowed_text c.from.result.0 c.args.text.now c.from.ensures)
    (on_ok_weaker c.push.result (λ gains. pushed_texts (λ text. cow_slice_items text.0) _
    c.args.list.now.0 c.push.new.self.0 c.from.result gains
    (λ value copy is. same_bytes value.0 copy.0 is.0)) c.push.ensures.ok)
