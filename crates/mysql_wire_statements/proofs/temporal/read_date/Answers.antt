use Rattle.std.proofs.Common.{◌∷◌, [], take, ap, sym, ◌∙◌, inl, inr, refl, arith}
use Rattle.mysql_wire_statements.specs.TemporalValues.{clock_at, date_micros_at, day_at, micros_at, seconds_at}
use Rattle.mysql_wire_statements.specs.TemporalValuesBack.{behind_none, behind_ok, empty_head, heads, one_there}
use Rattle.mysql_wire_statements.specs.declared.temporal.BinaryDate.TheVariants as date
use Rattle.mysql_wire_statements.proofs.temporal.read_date.Goals as goal

pub returns-in-Some-checked_eat : goal.returns-in-Some-checked_eat
returns-in-Some-checked_eat c =
    let at = c.in-Some-eq4.ensures ∙ ap (λ n. n ∷ []) c.in-Some-eq4.field-0-test in
    let (there, is, left) = c.in-Some-checked_eat.ensures in
    let same = c.eat_day.ensures ∙ ap day_at is in (
      5,
      there,
      left,
      inr (inr (inl (
        at,
        behind_ok 4 (λ b. date.Date (day_at b)) c.args.buf.now.0.now _ there (ap date.Date same),
      ))),
    )

pub returns-in-Some-checked_eat-2 : goal.returns-in-Some-checked_eat-2
returns-in-Some-checked_eat-2 c =
    let at = c.in-Some-eq7.ensures ∙ ap (λ n. n ∷ []) c.in-Some-eq7.field-0-test in
    let (there, is, left) = c.in-Some-checked_eat-2.ensures in
    let day = c.eat_day-in-Some-checked_eat-2.ensures ∙ ap day_at is in
    let clock = c.eat_clock.ensures ∙ ap (clock_at 5) is in (
      8,
      there,
      left,
      inr (inr (inr (inl (
        at,
        behind_ok 7 seconds_at c.args.buf.now.0.now _ there
            (ap (λ day. date.Seconds day c.eat_clock.result) day
            ∙ ap (date.Seconds (day_at (take 8 c.args.buf.now.0.now))) clock),
      )))),
    )

pub returns-in-Some-checked_eat-3 : goal.returns-in-Some-checked_eat-3
returns-in-Some-checked_eat-3 c =
    let old = c.args.buf.now.0.now in
    let at = c.in-Some-eq11.ensures ∙ ap (λ n. n ∷ []) c.in-Some-eq11.field-0-test in
    let (there, is, left) = c.in-Some-checked_eat-3.ensures in
    let day = c.eat_day-in-Some-checked_eat-3.ensures ∙ ap day_at is in
    let clock = c.eat_clock-in-Some-checked_eat-3.ensures ∙ ap (clock_at 5) is in
    let micros = c.eat_micros.ensures ∙ ap (micros_at 8) is in (
      12,
      there,
      left,
      inr (inr (inr (inr (inl (
        at,
        behind_ok 11 date_micros_at old _ there
            (ap (λ day. date.Micros day c.eat_clock-in-Some-checked_eat-3.result c.eat_micros.result)
            day ∙ (ap (λ clock. date.Micros (day_at (take 12 old)) clock c.eat_micros.result) clock
            ∙ ap (date.Micros (day_at (take 12 old)) (clock_at 5 (take 12 old))) micros)),
      ))))),
    )

pub returns-in-None : goal.returns-in-None
returns-in-None c = (0, omega arith, refl, inl (c.in-None.ensures, (refl, refl)))

pub returns-in-Some-eq0 : goal.returns-in-Some-eq0
returns-in-Some-eq0 c =
    let at = c.in-Some-eq0.ensures ∙ ap (λ n. n ∷ []) c.in-Some-eq0.field-0-test in
    (1, one_there c.args.buf.now.0.now 0 at, c.skip.ensures, inr (inl (at, (refl, refl))))

pub returns-in-None-checked_eat : goal.returns-in-None-checked_eat
returns-in-None-checked_eat c =
    let at = c.in-Some-eq4.ensures ∙ ap (λ n. n ∷ []) c.in-Some-eq4.field-0-test in
    let (few, left) = c.in-None-checked_eat.ensures in
    (0, omega arith, left, inr (inr (inl (at, behind_none 4 (λ b. date.Date (day_at b)) c.args.buf.now.0.now few))))

pub returns-in-None-checked_eat-2 : goal.returns-in-None-checked_eat-2
returns-in-None-checked_eat-2 c =
    let at = c.in-Some-eq7.ensures ∙ ap (λ n. n ∷ []) c.in-Some-eq7.field-0-test in
    let (few, left) = c.in-None-checked_eat-2.ensures in
    (0, omega arith, left, inr (inr (inr (inl (at, behind_none 7 seconds_at c.args.buf.now.0.now few)))))

pub returns-in-None-checked_eat-3 : goal.returns-in-None-checked_eat-3
returns-in-None-checked_eat-3 c =
    let at = c.in-Some-eq11.ensures ∙ ap (λ n. n ∷ []) c.in-Some-eq11.field-0-test in
    let (few, left) = c.in-None-checked_eat-3.ensures in (
      0,
      omega arith,
      left,
      inr (inr (inr (inr (inl (at, behind_none 11 date_micros_at c.args.buf.now.0.now few))))),
    )

pub returns-in-Some : goal.returns-in-Some
returns-in-Some c =
    let is = sym c.in-Some.ensures in
    let others = c.in-Some.field-0-test in (
      0,
      omega arith,
      refl,
      inr (inr (inr (inr (inr (
        λ none. empty_head _ (is ∙ none),
        λ same. others.0.0.0.1 (heads _ 0 (is ∙ same)),
        λ same. others.0.0.1 (heads _ 4 (is ∙ same)),
        λ same. others.0.1 (heads _ 7 (is ∙ same)),
        λ same. others.1 (heads _ 11 (is ∙ same)),
        (refl, refl),
      ))))),
    )
