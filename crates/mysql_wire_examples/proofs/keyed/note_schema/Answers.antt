use Rattle.std.proofs.Common.{◌≡◌, subst}
use Rattle.std.specs.BTreeMap as tree
use Rattle.std.specs.Cmp.Lexicographic.{slice_cmp}
use Rattle.std.specs.Cow.{cow_slice_items}
use Rattle.std.specs.Ordering.{nat_cmp}
use Rattle.std.specs.declared.borrow.CowSlice.TheVariants as slice
use Rattle.mysql_wire_examples.proofs.KeyedLemmas.{one_order, texts_apart}
use Rattle.mysql_wire_examples.proofs.keyed.note_schema.Goals as goal
use Rattle.mysql_wire_examples.proofs.keyed.note_schema.Goals.{in-Ok, in-Err}

pub returns-clause-others : goal.returns-clause-others
returns-clause-others c = elim c.match-insert.branch [
  | in-Ok w ↦ rw w.result-is (λ other apart. subst
      (λ order. tree.get_by order c.insert.new.self ≡ tree.get_by order c.args.schemas.now)
      (one_order (λ key. slice_cmp nat_cmp other (cow_slice_items key.0)))
      (w.in-Ok.ensures.updates.2
      (record { 0 = slice.Borrowed (record { ref_ptr = (0, 0); now = other }); 1 = record {} })
      (texts_apart (cow_slice_items c.args.name.0) other apart)))
  | in-Err w ↦ rw w.result-is tt
]
