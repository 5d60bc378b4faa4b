use Rattle.std.proofs.Common.{refl, sym, ◌∙◌, inl, inr, arith}
use Rattle.mysql_wire_parts.specs.FirstBytes.{first_begins, no_first, one_first}
use Rattle.mysql_wire_statements.specs.TemporalValuesBack.{empty_head}
use Rattle.mysql_wire_statements.proofs.prepare_answer.PrepareAnswerMyDeserializeGlobal.deserialize.Goals as goal

pub returns-in-Ok : goal.returns-in-Ok
returns-in-Ok c =
    let begins = first_begins c.args.buf.now.0.now 0x00 c.in-Some-eq0.ensures.value
    c.in-Some-eq0.field-0-test in
    let (eaten, there, left, read) = c.in-Ok.ensures in
    (eaten, there, left, inr (inl (begins, read)))

pub returns-in-Err : goal.returns-in-Err
returns-in-Err c =
    let begins = first_begins c.args.buf.now.0.now 0x00 c.in-Some-eq0.ensures.value
    c.in-Some-eq0.field-0-test in
    let (eaten, there, left, read) = c.in-Err.ensures in
    (eaten, there, left, inr (inl (begins, read)))

pub returns-in-Ok-parse : goal.returns-in-Ok-parse
returns-in-Ok-parse c =
    let begins = first_begins c.args.buf.now.0.now 0xff c.in-Some-eq255.ensures.value
    c.in-Some-eq255.field-0-test in
    let (eaten, there, left, read) = c.in-Ok-parse.ensures in
    (eaten, there, left, inr (inr (inl (begins, read))))

pub returns-in-Err-parse : goal.returns-in-Err-parse
returns-in-Err-parse c =
    let begins = first_begins c.args.buf.now.0.now 0xff c.in-Some-eq255.ensures.value
    c.in-Some-eq255.field-0-test in
    let (eaten, there, left, read) = c.in-Err-parse.ensures in
    (eaten, there, left, inr (inr (inl (begins, read))))

pub returns-in-None : goal.returns-in-None
returns-in-None c =
    (0, omega arith, refl, inl (no_first c.args.buf.now.0.now c.in-None.ensures.value, (refl, refl)))

pub returns-in-Some : goal.returns-in-Some
returns-in-Some c =
    let old = c.args.buf.now.0.now in
    let first = c.in-Some.ensures.value in
    let others = c.in-Some.field-0-test in (
      0,
      omega arith,
      refl,
      inr (inr (inr (
        λ none. empty_head _ (sym (first_begins old _ first refl) ∙ none),
        λ same. others.0.1 (one_first old 0x00 first same),
        λ same. others.1 (one_first old 0xff first same),
        (refl, refl),
      ))),
    )
