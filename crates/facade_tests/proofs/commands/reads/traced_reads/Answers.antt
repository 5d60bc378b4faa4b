use Rattle.std.proofs.Common.{◌≡◌, ◌∙◌, ℕ, List, [], ◌++◌, Some, None, Bool, true, false, if◌then◌else◌, IsFalse, sym, ap, subst}
use Rattle.mysql_wire_tool_commands.specs.declared.traced_read.OneRead.{OneRead}
use Rattle.mysql_wire_tool_commands.specs.Reads.{EachAskedFor, AsksUpTo}
use Rattle.facade_tests.proofs.commands.reads.traced_reads.Goals as goal

-- of a reader that had no reads, those that it has are those made since
all_made : (step at : ℕ) (old new : List OneRead) → old ≡ [] → AsksUpTo step at (Some old) (Some new) → EachAskedFor step at 0 new
all_made step at old new none asked =
    let (before, same, split) = asked.makes in
    let e : before ≡ [] = cc in
    subst (λ (z : List OneRead). EachAskedFor step at 0 z) (sym (split ∙ ap (λ (z : List OneRead). z ++ asked.made) e)) asked.each

-- where it kept them all
kept_all : (step at : ℕ) (old new : List OneRead) (was is : Bool) → IsFalse was → is ≡ false → old ≡ []
    → AsksUpTo step at (if was then None else Some old) (if is then None else Some new) → EachAskedFor step at 0 new
kept_all step at old new false false first last none asked = all_made step at old new none asked
kept_all step at old new true is first last none asked = absurd cc
kept_all step at old new false true first last none asked = absurd cc

pub returns : goal.returns
returns c = kept_all c.args.step c.args.at _ _ _ _ c.reader-input.ensures.kept c.if-lost.false c.reader-input.ensures.none c.run_unframe_limited-status.ensures.asked
