use Rattle.wire_laws.proofs.converted.constant.Goals as goal

pub returns-clause-back : goal.returns-clause-back
returns-clause-back g c =
    λ val (is, good) rest at.
    c.parse_back.ensures.back (record { 0 = val; 1 = record {} }) rest is good at
