use Rattle.wire_laws.proofs.rows.both.Goals as goal

pub returns-clause-back : goal.returns-clause-back
returns-clause-back g c =
    λ first second rest is_first is_second good at.
    c.parse_back.ensures.back (record { 0 = first; 1 = second }) rest (is_first, is_second) good at
