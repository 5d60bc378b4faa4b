use Rattle.std.proofs.Common.{refl, sym, ◌∙◌, inl, inr, arith}
use Rattle.mysql_wire_parts.specs.FirstBytes.{first_begins, no_first, one_first}
use Rattle.mysql_wire_statements.specs.TemporalValuesBack.{empty_head, one_there}
use Rattle.mysql_wire_statements.proofs.params.BoundTypesMyDeserialize.deserialize.Goals as goal

pub returns-in-None : goal.returns-in-None
returns-in-None g c =
    (0, omega arith, refl, inl (no_first c.args.buf.now.0.now c.in-None.ensures.value, (refl, refl)))

pub returns-in-Some-eq0 : goal.returns-in-Some-eq0
returns-in-Some-eq0 g c =
    let old = c.args.buf.now.0.now in
    let at = first_begins old 0 c.in-Some-eq0.ensures.value c.in-Some-eq0.field-0-test in
    (1, one_there old 0 at, c.skip.ensures, inr (inl (at, (refl, refl))))

pub returns-in-Some : goal.returns-in-Some
returns-in-Some g c =
    let old = c.args.buf.now.0.now in
    let first = c.in-Some.ensures.value in
    let others = c.in-Some.field-0-test in (
      0,
      omega arith,
      refl,
      inr (inr (inr (
        λ none. empty_head _ (sym (first_begins old _ first refl) ∙ none),
        λ same. others.0.1 (one_first old 0 first same),
        λ same. others.1 (one_first old 1 first same),
        (refl, refl),
      ))),
    )
