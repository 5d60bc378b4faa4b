use Rattle.std.proofs.Common.{◌≡◌, ◌++◌, ℕ, List, OnOk, take, ap, subst, ◌∙◌}
use Rattle.wire_buf.specs.Numbers.{le_bytes}
use Rattle.wire_buf.specs.NumberLemmas.{bytes_low_first-is, take-le_bytes}
use Rattle.wire_repr.proofs.append.append_le.Goals as goal

pub returns-clause-ok : goal.returns-clause-ok
returns-clause-ok g c =
    let low : take c.args.count c.to_le_bytes.result ≡ le_bytes c.args.count c.args.number =
    ap (take c.args.count) (c.to_le_bytes.ensures ∙ bytes_low_first-is 8 c.args.number)
    ∙ take-le_bytes c.args.count 8 c.args.number c.requires in
    subst (λ (bytes : List ℕ). OnOk c.append.result
    (c.append.new.buf.items ≡ c.args.buf.now.items ++ bytes)) low c.append.ensures.ok
