use Rattle.wire_laws.proofs.constants.skipped.Goals as goal

pub returns-clause-back : goal.returns-clause-back
returns-clause-back g c = λ rest at. c.parse_back.ensures.back (record {}) rest tt tt at
