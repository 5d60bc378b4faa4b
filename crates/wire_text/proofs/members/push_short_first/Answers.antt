use Rattle.std.proofs.Common.{[], ◌∷◌, ◌≡◌, ◌++◌, ◌∙◌, List, OnOk, codes, refl, string_bytes, subst, take, ℕ}
use Rattle.wire_text.proofs.FieldLemmas.{joined, one_between, one_of, none_put}
use Rattle.wire_text.proofs.members.push_short_first.Goals as goal

pub push_with_front-requires-clause-letters : goal.push_with_front-requires-clause-letters
push_with_front-requires-clause-letters g c =
    one_between (44 ∷ 34 ∷ 102 ∷ 105 ∷ 101 ∷ 108 ∷ 100 ∷ 115 ∷ 34 ∷ 58 ∷ 123 ∷ 34 ∷ []) (34 ∷ 58 ∷ 34 ∷ []) c.as_bytes.result.now refl refl c.as_bytes.ensures.utf8 c.in-len1.len_at_least c.in-len1.len_below

pub returns-in-len1 : goal.returns-in-len1
returns-in-len1 g c =
    let words = take c.args.len c.args.bytes in
    let is = one_of c.as_bytes.result.now c.in-len1.len_at_least c.in-len1.len_below ∙ c.as_bytes.ensures.value in
    subst (λ (z : List ℕ). OnOk c.push_with_front.result (string_bytes c.push_with_front.new.text ≡ string_bytes c.args.text.now
    ++ ((codes ",\"fields\":{\"" ++ z ++ codes "\":\"") ++ words))) is c.push_with_front.ensures

pub returns-in_ok-push_between-in_default : goal.returns-in_ok-push_between-in_default
returns-in_ok-push_between-in_default g c =
    let words = take c.args.len c.args.bytes in
    let front = codes ",\"fields\":{\"" ++ c.args.name.now ++ codes "\":\"" in
    joined c.push_with_front-in_default.result (string_bytes c.args.text.now) (string_bytes c.push_between.new.text) (string_bytes c.push_with_front-in_default.new.text)
    front words (front ++ words) c.in_ok-push_between-in_default.ensures c.push_with_front-in_default.ensures refl

pub returns-in_err-push_between-in_default : goal.returns-in_err-push_between-in_default
returns-in_err-push_between-in_default g c = none_put c.from_residual.result _ c.from_residual.ensures.0

pub push_with_front-requires-clause-within : goal.push_with_front-requires-clause-within
push_with_front-requires-clause-within g c = c.requires.within

pub push_with_front-requires-clause-words : goal.push_with_front-requires-clause-words
push_with_front-requires-clause-words g c = c.requires.words

pub push_with_front-requires-clause-behind : goal.push_with_front-requires-clause-behind
push_with_front-requires-clause-behind g c = c.requires.behind

pub push_with_front-requires-in_default-clause-within : goal.push_with_front-requires-in_default-clause-within
push_with_front-requires-in_default-clause-within g c = c.requires.within

pub push_with_front-requires-in_default-clause-words : goal.push_with_front-requires-in_default-clause-words
push_with_front-requires-in_default-clause-words g c = c.requires.words

pub push_with_front-requires-in_default-clause-behind : goal.push_with_front-requires-in_default-clause-behind
push_with_front-requires-in_default-clause-behind g c = c.requires.behind
