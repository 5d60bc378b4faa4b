use Rattle.wire_text.proofs.FieldLemmas.{none_put}
use Rattle.wire_text.proofs.EscapeLemmas.{block_escaped, held_first, none_escaped, all_done, done_first}
use Rattle.wire_text.proofs.quoted.push_escaped.Goals as goal
use Rattle.std.proofs.Common.{refl, ◌∙◌}
use Rattle.json.specs.Print.{escape}

pub rounds-preserved : goal.rounds-preserved
rounds-preserved g c =
    let split = c.in-Some.ensures.cases in
    block_escaped 64 c.args.words.now c.rounds.rest.now _ c.in-Some.after.now c.args.text.now.items c.rounds.text.items _
    c.rounds.invariant refl split.1 c.in_ok-push_block.ensures.ok

pub returns-in_err-push_block-clause-front : goal.returns-in_err-push_block-clause-front
returns-in_err-push_block-clause-front g c =
    held_first c.args.text.now.items (escape c.rounds.invariant.0) c.push_block.new.text.items (c.in_err-push_block.ensures.err ∙ c.rounds.invariant.2)

pub rounds-init : goal.rounds-init
rounds-init g c = none_escaped c.args.text.now.items c.args.words.now

pub returns-clause-ok : goal.returns-clause-ok
returns-clause-ok g c =
    all_done c.push_last.result c.args.words.now c.rounds.rest.now c.args.text.now.items c.rounds.text.items _ c.rounds.invariant c.push_last.ensures.ok

pub returns-clause-front : goal.returns-clause-front
returns-clause-front g c =
    done_first c.push_last.result c.args.words.now c.rounds.rest.now c.args.text.now.items c.rounds.text.items _ c.rounds.invariant c.push_last.ensures.ok c.push_last.ensures.err

pub returns-in_err-push_block-clause-ok : goal.returns-in_err-push_block-clause-ok
returns-in_err-push_block-clause-ok g c = none_put c.from_residual.result _ c.from_residual.ensures.0
