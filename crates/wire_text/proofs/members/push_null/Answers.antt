use Rattle.wire_text.specs.Fields.{Null}
use Rattle.std.proofs.Common.{[], ◌∷◌, refl, false, sym}
use Rattle.wire_text.proofs.FieldLemmas.{one_between, two_between, line_of_one, line_of_two, line_put, member_named, pair_of_one, pair_of_two, pair_put}
use Rattle.wire_text.proofs.members.push_null.Goals as goal

pub push_few-requires : goal.push_few-requires
push_few-requires g c =
    one_between (10 ∷ 32 ∷ 32 ∷ []) (32 ∷ 110 ∷ 117 ∷ 108 ∷ 108 ∷ []) c.as_bytes.result.now refl refl c.as_bytes.ensures.utf8 c.in-Text-len1.len_at_least c.in-Text-len1.len_below

pub push_few-requires-in-Text-len2 : goal.push_few-requires-in-Text-len2
push_few-requires-in-Text-len2 g c =
    two_between (10 ∷ 32 ∷ 32 ∷ []) (32 ∷ 110 ∷ 117 ∷ 108 ∷ 108 ∷ []) c.as_bytes.result.now refl refl c.as_bytes.ensures.utf8 c.in-Text-len2.len_at_least c.in-Text-len2.len_below

pub push_few-requires-in-Json-len1 : goal.push_few-requires-in-Json-len1
push_few-requires-in-Json-len1 g c =
    one_between (44 ∷ 34 ∷ []) (34 ∷ 58 ∷ 110 ∷ 117 ∷ 108 ∷ 108 ∷ []) c.as_bytes.result.now refl refl c.as_bytes.ensures.utf8 c.in-Json-len1.len_at_least c.in-Json-len1.len_below

pub push_few-requires-in-Json-len2 : goal.push_few-requires-in-Json-len2
push_few-requires-in-Json-len2 g c =
    two_between (44 ∷ 34 ∷ []) (34 ∷ 58 ∷ 110 ∷ 117 ∷ 108 ∷ 108 ∷ []) c.as_bytes.result.now refl refl c.as_bytes.ensures.utf8 c.in-Json-len2.len_at_least c.in-Json-len2.len_below

pub returns-in-Text-len1 : goal.returns-in-Text-len1
returns-in-Text-len1 g c =
    line_of_one c.push_few.result c.args.form false c.as_bytes.result.now c.args.name.now (110 ∷ 117 ∷ 108 ∷ 108 ∷ []) _ _ _ c.in-Text-len1.is-0 c.as_bytes.ensures.value c.in-Text-len1.len_at_least c.in-Text-len1.len_below
    (sym (member_named c.args.form false c.args.name.now Null)) c.push_few.ensures

pub returns-in-Text-len2 : goal.returns-in-Text-len2
returns-in-Text-len2 g c =
    line_of_two c.push_few-in-Text-len2.result c.args.form false c.as_bytes.result.now c.args.name.now (110 ∷ 117 ∷ 108 ∷ 108 ∷ []) _ _ _ c.in-Text-len2.is-0 c.as_bytes.ensures.value c.in-Text-len2.len_at_least c.in-Text-len2.len_below
    (sym (member_named c.args.form false c.args.name.now Null)) c.push_few-in-Text-len2.ensures

pub returns-in-Text-default : goal.returns-in-Text-default
returns-in-Text-default g c =
    line_put c.push_between.result c.args.form false c.args.name.now (110 ∷ 117 ∷ 108 ∷ 108 ∷ []) _ _ _ c.in-Text-default.is-0 (sym (member_named c.args.form false c.args.name.now Null)) c.push_between.ensures

pub returns-in-Json-len1 : goal.returns-in-Json-len1
returns-in-Json-len1 g c =
    pair_of_one c.push_few-in-Json-len1.result c.args.form false c.as_bytes.result.now c.args.name.now (110 ∷ 117 ∷ 108 ∷ 108 ∷ []) _ _ _ c.in-Json-len1.is-0 refl c.as_bytes.ensures.value c.in-Json-len1.len_at_least c.in-Json-len1.len_below
    (sym (member_named c.args.form false c.args.name.now Null)) c.push_few-in-Json-len1.ensures

pub returns-in-Json-len2 : goal.returns-in-Json-len2
returns-in-Json-len2 g c =
    pair_of_two c.push_few-in-Json-len2.result c.args.form false c.as_bytes.result.now c.args.name.now (110 ∷ 117 ∷ 108 ∷ 108 ∷ []) _ _ _ c.in-Json-len2.is-0 refl c.as_bytes.ensures.value c.in-Json-len2.len_at_least c.in-Json-len2.len_below
    (sym (member_named c.args.form false c.args.name.now Null)) c.push_few-in-Json-len2.ensures

pub returns-in-Json-default : goal.returns-in-Json-default
returns-in-Json-default g c =
    pair_put c.push_between-in-Json-default.result c.args.form false c.args.name.now (110 ∷ 117 ∷ 108 ∷ 108 ∷ []) _ _ _ c.in-Json-default.is-0 refl (sym (member_named c.args.form false c.args.name.now Null)) c.push_between-in-Json-default.ensures
