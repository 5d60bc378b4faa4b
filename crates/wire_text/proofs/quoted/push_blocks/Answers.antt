use Rattle.wire_text.proofs.FieldLemmas.{none_put}
use Rattle.std.proofs.Common.{ℕ, List, [], ◌∷◌, ◌++◌, ap, sym, ◌∙◌, append-nil, append_assoc}
use Rattle.std.specs.Result.{is_ok}
use Rattle.json.specs.Print.{escape}
use Rattle.wire_text.proofs.EscapeLemmas.{held_first, still_first, first_either, all_quoted}
use Rattle.wire_text.proofs.quoted.push_blocks.Goals as goal

pub returns-in_err-push-clause-front : goal.returns-in_err-push-clause-front
returns-in_err-push-clause-front g c =
    let old = c.args.text.now.items in
    held_first old [] c.push.new.self.items (c.in_err-push.ensures.items ∙ sym (append-nil old))

pub returns-in_err-push_escaped-clause-front : goal.returns-in_err-push_escaped-clause-front
returns-in_err-push_escaped-clause-front g c =
    still_first c.args.text.now.items (34 ∷ []) c.push.new.self.items c.push_escaped.new.text.items c.in_ok-push.ensures.items c.in_err-push_escaped.ensures.front

pub returns-clause-front : goal.returns-clause-front
returns-clause-front g c =
    let old = c.args.text.now.items in
    let words = escape c.args.words.now in
    let filled = c.in_ok-push_escaped.ensures.ok ∙ ap (λ (z : List ℕ). z ++ words) c.in_ok-push.ensures.items ∙ append_assoc old (34 ∷ []) words in
    first_either (is_ok c.extend_from_slice.result) old ((34 ∷ []) ++ words) c.push_escaped.new.text.items (34 ∷ []) c.extend_from_slice.new.self.items filled c.extend_from_slice.ensures.items

pub returns-clause-ok : goal.returns-clause-ok
returns-clause-ok g c =
    let filled = c.in_ok-push_escaped.ensures.ok ∙ ap (λ (z : List ℕ). z ++ escape c.args.words.now) c.in_ok-push.ensures.items
    ∙ append_assoc c.args.text.now.items (34 ∷ []) (escape c.args.words.now) in
    all_quoted c.extend_from_slice.result c.args.words.now c.args.text.now.items c.push_escaped.new.text.items _ filled c.extend_from_slice.ensures.items

pub returns-in_err-push-clause-ok : goal.returns-in_err-push-clause-ok
returns-in_err-push-clause-ok g c = none_put c.from_residual.result _ c.from_residual.ensures.0

pub returns-in_err-push_escaped-clause-ok : goal.returns-in_err-push_escaped-clause-ok
returns-in_err-push_escaped-clause-ok g c =
    none_put c.from_residual-in_err-push_escaped.result _ c.from_residual-in_err-push_escaped.ensures.0
