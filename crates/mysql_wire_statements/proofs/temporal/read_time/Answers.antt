use Rattle.std.proofs.Common.{◌∷◌, [], take, ap, sym, ◌∙◌, inl, inr, refl, arith}
use Rattle.mysql_wire_statements.specs.TemporalValues.{micros_at, span_at, time_micros_at}
use Rattle.mysql_wire_statements.specs.TemporalValuesBack.{behind_none, behind_ok, empty_head, heads, one_there}
use Rattle.mysql_wire_statements.specs.declared.temporal.BinaryTime.TheVariants as time
use Rattle.mysql_wire_statements.proofs.temporal.read_time.Goals as goal

pub returns-in-Some-checked_eat : goal.returns-in-Some-checked_eat
returns-in-Some-checked_eat c =
    let at = c.in-Some-eq8.ensures ∙ ap (λ n. n ∷ []) c.in-Some-eq8.field-0-test in
    let (there, is, left) = c.in-Some-checked_eat.ensures in
    let same = c.eat_span.ensures ∙ ap span_at is in (
      9,
      there,
      left,
      inr (inr (inl (
        at,
        behind_ok 8 (λ b. time.Seconds (span_at b)) c.args.buf.now.0.now _ there
            (ap time.Seconds same),
      ))),
    )

pub returns-in-Some-checked_eat-2 : goal.returns-in-Some-checked_eat-2
returns-in-Some-checked_eat-2 c =
    let at = c.in-Some-eq12.ensures ∙ ap (λ n. n ∷ []) c.in-Some-eq12.field-0-test in
    let (there, is, left) = c.in-Some-checked_eat-2.ensures in
    let span = c.eat_span-in-Some-checked_eat-2.ensures ∙ ap span_at is in
    let micros = c.eat_micros.ensures ∙ ap (micros_at 9) is in (
      13,
      there,
      left,
      inr (inr (inr (inl (
        at,
        behind_ok 12 time_micros_at c.args.buf.now.0.now _ there
            (ap (λ span. time.Micros span c.eat_micros.result) span
            ∙ ap (time.Micros (span_at (take 13 c.args.buf.now.0.now))) micros),
      )))),
    )

pub returns-in-None : goal.returns-in-None
returns-in-None c = (0, omega arith, refl, inl (c.in-None.ensures, (refl, refl)))

pub returns-in-Some-eq0 : goal.returns-in-Some-eq0
returns-in-Some-eq0 c =
    let at = c.in-Some-eq0.ensures ∙ ap (λ n. n ∷ []) c.in-Some-eq0.field-0-test in
    (1, one_there c.args.buf.now.0.now 0 at, c.skip.ensures, inr (inl (at, (refl, refl))))

pub returns-in-None-checked_eat : goal.returns-in-None-checked_eat
returns-in-None-checked_eat c =
    let at = c.in-Some-eq8.ensures ∙ ap (λ n. n ∷ []) c.in-Some-eq8.field-0-test in
    let (few, left) = c.in-None-checked_eat.ensures in
    (0, omega arith, left, inr (inr (inl (at, behind_none 8 (λ b. time.Seconds (span_at b)) c.args.buf.now.0.now few))))

pub returns-in-None-checked_eat-2 : goal.returns-in-None-checked_eat-2
returns-in-None-checked_eat-2 c =
    let at = c.in-Some-eq12.ensures ∙ ap (λ n. n ∷ []) c.in-Some-eq12.field-0-test in
    let (few, left) = c.in-None-checked_eat-2.ensures in
    (0, omega arith, left, inr (inr (inr (inl (at, behind_none 12 time_micros_at c.args.buf.now.0.now few)))))

pub returns-in-Some : goal.returns-in-Some
returns-in-Some c =
    let is = sym c.in-Some.ensures in
    let others = c.in-Some.field-0-test in (
      0,
      omega arith,
      refl,
      inr (inr (inr (inr (
        λ none. empty_head _ (is ∙ none),
        λ same. others.0.0.1 (heads _ 0 (is ∙ same)),
        λ same. others.0.1 (heads _ 8 (is ∙ same)),
        λ same. others.1 (heads _ 12 (is ∙ same)),
        (refl, refl),
      )))),
    )
