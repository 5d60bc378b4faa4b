use Rattle.std.proofs.Common.{ap, refl, ◌≡◌, ◌++◌, ◌∙◌, List, ℕ}
use Rattle.std.proofs.lemmas.Str.{is_utf8-from_IsUtf8}
use Rattle.std.specs.Fmt.{decimal}
use Rattle.json.specs.Print.{quoted}
use Rattle.wire_text.specs.Fields.{Words, name_part, value_text}
use Rattle.wire_text.proofs.FieldLemmas.{joined, member_named, utf8_if}
use Rattle.wire_text.proofs.members.push_longer_escaped.Goals as goal

pub from_utf8_unchecked-requires : goal.from_utf8_unchecked-requires
from_utf8_unchecked-requires g c = utf8_if c.args.bytes.now c.requires.ascii

pub push_few_escaped-requires : goal.push_few_escaped-requires
push_few_escaped-requires g c = rw c.from_utf8_unchecked.ensures c.requires.long

pub returns : goal.returns
returns g c =
    let words = c.args.bytes.now in
    let name = decimal c.args.place in
    let text : value_text c.args.form (Words words) ≡ quoted words = rw (is_utf8-from_IsUtf8 words (utf8_if words c.requires.ascii)) refl in
    joined c.push_few_escaped.result _ _ _ _ _ _ c.in_ok-push_name_at.ensures (rw c.from_utf8_unchecked.ensures at c.push_few_escaped.ensures)
    (member_named c.args.form c.args.is_first name (Words words) ∙ ap (λ (z : List ℕ). name_part c.args.form c.args.is_first name ++ z) text)
