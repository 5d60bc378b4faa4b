use Rattle.wire_laws.proofs.rows.slice.Goals as goal

pub returns-clause-back : goal.returns-clause-back
returns-clause-back c =
    λ bytes count rest at.
    c.parse_back.ensures.back (record { 0 = record { ref_ptr = (0, 0); now = bytes } }) rest tt
    count at
