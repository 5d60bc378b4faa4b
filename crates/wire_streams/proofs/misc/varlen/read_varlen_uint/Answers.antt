use Rattle.std.proofs.Common.{rules, ◌≡◌, ℕ, List, ◌∷◌, ◌++◌, drop, take-append-drop, refl, sym, ap₂, ◌∙◌}
use Rattle.wire_streams.proofs.VarlenLemmas.{nothing_in_short}
use Rattle.wire_streams.proofs.misc.varlen.read_varlen_uint.Goals as goal

pub returns-in-None-clause-err : goal.returns-in-None-clause-err
returns-in-None-clause-err c =
    let old = c.args.buf.now.0.now in
    let whole : old ≡ c.in-Some.first.now ∷ drop 1 old = search rules in
    let short = c.in-None.ensures in (
      refl,
      nothing_in_short _ c.in-Some.first.now old (drop 1 old) whole c.size_behind.ensures.low
          c.size_behind.ensures.mark short.0,
      short.1,
    )

pub returns-in-Some-checked_eat-clause-err : goal.returns-in-Some-checked_eat-clause-err
returns-in-Some-checked_eat-clause-err c = search rules

pub returns-in-Some-checked_eat-clause-ok : goal.returns-in-Some-checked_eat-clause-ok
returns-in-Some-checked_eat-clause-ok c =
    let old = c.args.buf.now.0.now in
    let is = c.in-Some-checked_eat.ensures in (
      c.in-Some-checked_eat.spelling.now,
      c.value_of.ensures,
      sym (take-append-drop c.size_behind.result old) ∙ ap₂ (λ (a b : List ℕ). a ++ b) (sym is.1) (sym is.2),
    )
