use Rattle.std.proofs.Common.{[], ◌∷◌, refl, ◌++◌, take}
use Rattle.wire_text.proofs.FieldLemmas.{one_between, two_between, joined, none_put, one_put, two_put}
use Rattle.wire_text.proofs.members.push_short_pair.Goals as goal

pub push_with_front-requires-clause-letters : goal.push_with_front-requires-clause-letters
push_with_front-requires-clause-letters g c =
    one_between (44 ∷ 34 ∷ []) (34 ∷ 58 ∷ 34 ∷ []) c.as_bytes.result.now refl refl c.as_bytes.ensures.utf8 c.in-len1.len_at_least c.in-len1.len_below

pub push_with_front-requires-in-len2-clause-letters :
    goal.push_with_front-requires-in-len2-clause-letters
push_with_front-requires-in-len2-clause-letters g c =
    two_between (44 ∷ 34 ∷ []) (34 ∷ 58 ∷ 34 ∷ []) c.as_bytes.result.now refl refl c.as_bytes.ensures.utf8 c.in-len2.len_at_least c.in-len2.len_below

pub returns-in-len1 : goal.returns-in-len1
returns-in-len1 g c =
    one_put c.push_with_front.result (44 ∷ 34 ∷ []) (34 ∷ 58 ∷ 34 ∷ []) c.as_bytes.result.now c.args.name.now (take c.args.len c.args.bytes) _ _ c.as_bytes.ensures.value c.in-len1.len_at_least c.in-len1.len_below c.push_with_front.ensures

pub returns-in-len2 : goal.returns-in-len2
returns-in-len2 g c =
    two_put c.push_with_front-in-len2.result (44 ∷ 34 ∷ []) (34 ∷ 58 ∷ 34 ∷ []) c.as_bytes.result.now c.args.name.now (take c.args.len c.args.bytes) _ _ c.as_bytes.ensures.value c.in-len2.len_at_least c.in-len2.len_below c.push_with_front-in-len2.ensures

pub returns-in_ok-push_between-in_default : goal.returns-in_ok-push_between-in_default
returns-in_ok-push_between-in_default g c =
    joined c.push_with_front-in_default.result _ _ _ ((44 ∷ 34 ∷ []) ++ (c.args.name.now ++ (34 ∷ 58 ∷ 34 ∷ []))) (take c.args.len c.args.bytes) _ c.in_ok-push_between-in_default.ensures c.push_with_front-in_default.ensures refl

pub returns-in_err-push_between-in_default : goal.returns-in_err-push_between-in_default
returns-in_err-push_between-in_default g c = none_put c.from_residual.result _ c.from_residual.ensures.0

pub push_with_front-requires-clause-within : goal.push_with_front-requires-clause-within
push_with_front-requires-clause-within g c = c.requires.within

pub push_with_front-requires-clause-words : goal.push_with_front-requires-clause-words
push_with_front-requires-clause-words g c = c.requires.words

pub push_with_front-requires-clause-behind : goal.push_with_front-requires-clause-behind
push_with_front-requires-clause-behind g c = c.requires.behind

pub push_with_front-requires-in-len2-clause-within : goal.push_with_front-requires-in-len2-clause-within
push_with_front-requires-in-len2-clause-within g c = c.requires.within

pub push_with_front-requires-in-len2-clause-words : goal.push_with_front-requires-in-len2-clause-words
push_with_front-requires-in-len2-clause-words g c = c.requires.words

pub push_with_front-requires-in-len2-clause-behind : goal.push_with_front-requires-in-len2-clause-behind
push_with_front-requires-in-len2-clause-behind g c = c.requires.behind

pub push_with_front-requires-in_default-clause-within : goal.push_with_front-requires-in_default-clause-within
push_with_front-requires-in_default-clause-within g c = c.requires.within

pub push_with_front-requires-in_default-clause-words : goal.push_with_front-requires-in_default-clause-words
push_with_front-requires-in_default-clause-words g c = c.requires.words

pub push_with_front-requires-in_default-clause-behind : goal.push_with_front-requires-in_default-clause-behind
push_with_front-requires-in_default-clause-behind g c = c.requires.behind
