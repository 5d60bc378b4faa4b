use Rattle.wire_laws.proofs.constants.const_u32.Goals as goal

pub returns-clause-back : goal.returns-clause-back
returns-clause-back g c = λ rest at. c.parse_back.ensures.back (record { 0 = record {} }) rest tt tt at
