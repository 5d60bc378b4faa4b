use Rattle.std.proofs.Common.{[], ◌∷◌, ◌≡◌, ◌++◌, List, OnOk, ℕ, refl, string_bytes, subst}
use Rattle.wire_text.proofs.FieldLemmas.{first_front, one_between, two_between, line_of_one, line_of_two, line_put, pair_of_one, pair_of_two, pair_put}
use Rattle.wire_text.proofs.members.push_plain_front.Goals as goal

pub push_few-requires : goal.push_few-requires
push_few-requires g c =
    one_between (10 ∷ 32 ∷ 32 ∷ []) (32 ∷ 34 ∷ []) c.as_bytes.result.now refl refl c.as_bytes.ensures.utf8 c.in-len1.len_at_least c.in-len1.len_below

pub push_few-requires-in-len2 : goal.push_few-requires-in-len2
push_few-requires-in-len2 g c =
    two_between (10 ∷ 32 ∷ 32 ∷ []) (32 ∷ 34 ∷ []) c.as_bytes.result.now refl refl c.as_bytes.ensures.utf8 c.in-len2.len_at_least c.in-len2.len_below

pub push_few-requires-in-len1-as_bytes : goal.push_few-requires-in-len1-as_bytes
push_few-requires-in-len1-as_bytes g c =
    one_between (44 ∷ 34 ∷ []) (34 ∷ 58 ∷ 34 ∷ []) c.as_bytes-in-Json-2.result.now refl refl c.as_bytes-in-Json-2.ensures.utf8 c.in-len1-as_bytes.len_at_least c.in-len1-as_bytes.len_below

pub push_few-requires-in-len2-as_bytes : goal.push_few-requires-in-len2-as_bytes
push_few-requires-in-len2-as_bytes g c =
    two_between (44 ∷ 34 ∷ []) (34 ∷ 58 ∷ 34 ∷ []) c.as_bytes-in-Json-2.result.now refl refl c.as_bytes-in-Json-2.ensures.utf8 c.in-len2-as_bytes.len_at_least c.in-len2-as_bytes.len_below

pub returns-in-Json : goal.returns-in-Json
returns-in-Json g c =
    subst (λ (z : List ℕ). OnOk c.push_between-in-Json.result (string_bytes c.push_between-in-Json.new.text ≡ string_bytes c.args.text.now ++ z))
    (first_front c.args.form c.args.is_first c.args.name.now c.in-Json.is c.if-is_first.true) c.push_between-in-Json.ensures

pub returns-in-len1 : goal.returns-in-len1
returns-in-len1 g c =
    line_of_one c.push_few.result c.args.form c.args.is_first c.as_bytes.result.now c.args.name.now (34 ∷ []) _ _ _ c.in-Text.is c.as_bytes.ensures.value c.in-len1.len_at_least c.in-len1.len_below refl c.push_few.ensures

pub returns-in-len2 : goal.returns-in-len2
returns-in-len2 g c =
    line_of_two c.push_few-in-len2.result c.args.form c.args.is_first c.as_bytes.result.now c.args.name.now (34 ∷ []) _ _ _ c.in-Text.is c.as_bytes.ensures.value c.in-len2.len_at_least c.in-len2.len_below refl c.push_few-in-len2.ensures

pub returns-in_default : goal.returns-in_default
returns-in_default g c =
    line_put c.push_between.result c.args.form c.args.is_first c.args.name.now (34 ∷ []) _ _ _ c.in-Text.is refl c.push_between.ensures

pub returns-in-len1-as_bytes : goal.returns-in-len1-as_bytes
returns-in-len1-as_bytes g c =
    pair_of_one c.push_few-in-len1-as_bytes.result c.args.form c.args.is_first c.as_bytes-in-Json-2.result.now c.args.name.now (34 ∷ []) _ _ _ c.in-Json-2.is c.if-is_first.false c.as_bytes-in-Json-2.ensures.value c.in-len1-as_bytes.len_at_least c.in-len1-as_bytes.len_below refl c.push_few-in-len1-as_bytes.ensures

pub returns-in-len2-as_bytes : goal.returns-in-len2-as_bytes
returns-in-len2-as_bytes g c =
    pair_of_two c.push_few-in-len2-as_bytes.result c.args.form c.args.is_first c.as_bytes-in-Json-2.result.now c.args.name.now (34 ∷ []) _ _ _ c.in-Json-2.is c.if-is_first.false c.as_bytes-in-Json-2.ensures.value c.in-len2-as_bytes.len_at_least c.in-len2-as_bytes.len_below refl c.push_few-in-len2-as_bytes.ensures

pub returns-in_default-as_bytes : goal.returns-in_default-as_bytes
returns-in_default-as_bytes g c =
    pair_put c.push_between-in_default-as_bytes.result c.args.form c.args.is_first c.args.name.now (34 ∷ []) _ _ _ c.in-Json-2.is c.if-is_first.false refl c.push_between-in_default-as_bytes.ensures
