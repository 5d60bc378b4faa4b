use Rattle.wire_values.proofs.field_laws.raw_flags.Goals as goal

pub returns-clause-back : goal.returns-clause-back
returns-clause-back g c =
    λ bits is rest at.
    c.parse_back.ensures.back (record { 0 = bits; 1 = record {} }) rest is tt at
