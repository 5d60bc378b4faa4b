use Rattle.std.proofs.Common.{◌≡◌, refl, sym, ap, ◌∙◌, inl, inr, drop, arith}
use Rattle.mysql_wire_queries.proofs.RowLemmas.{failed_each, given_each, read_each, refused_is, refuses, why_each}
use Rattle.mysql_wire_queries.proofs.text_values.values_are_of_a_row.Goals as goal

pub returns-clause-given : goal.returns-clause-given
returns-clause-given c = λ row values left own given.
    let (eaten, rest, each) = given_each _ values left given in
    (eaten, rest, (own, (eaten, each, omega arith)))

pub returns-clause-read : goal.returns-clause-read
returns-clause-read c = λ row values count eaten begun read.
    let (own, (taken, each, all)) = read in
    let (left, given, counted, at) = read_each count values begun _ taken _ refl each in
    let same : eaten ≡ taken = omega (arith, all) in
    (left, given, counted, at ∙ sym (ap (λ n. drop n values.rest.0.now) same))

pub returns-clause-refused : goal.returns-clause-refused
returns-clause-refused c = λ before values left error count given refused few.
    let (gone, read) = refused_is left error refused in
    let (eaten, each) = failed_each before count values left error gone given read few in
    (eaten, (eaten, each, omega arith))

pub returns-clause-why : goal.returns-clause-why
returns-clause-why c = λ values error count eaten begun read.
    let (taken, each, all) = read in
    elim (why_each count values begun error taken _ refl each) [
      | inl memory ↦ inl memory
      | inr (before, left, few, given, standing, gone, refused) ↦
          inr (before, left, few, given, refuses left standing error gone refused)
    ]
