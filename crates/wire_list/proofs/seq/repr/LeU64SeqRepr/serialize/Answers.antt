use Rattle.std.proofs.Common.{◌≡◌, ◌++◌, length, min, ◌∙◌, arith, subst}
use Rattle.std.specs.Prelude.{OnOk}
use Rattle.std.specs.List.{flat_map}
use Rattle.std.proofs.lemmas.List.{take_all}
use Rattle.wire_buf.specs.NumberLemmas.{bytes_low_first-is}
use Rattle.wire_list.proofs.seq.repr.LeU64SeqRepr.serialize.Goals as goal

pub returns-clause-ok : goal.returns-clause-ok
returns-clause-ok g c =
    let n = length c.args.seq.now in
    let whole = take_all 0xffff_ffff_ffff_ffff c.args.seq.now (omega arith) in
    let least : min n 0xffff_ffff_ffff_ffff ≡ n = omega arith in
    let bytes = c.to_le_bytes.ensures ∙ bytes_low_first-is 8 n in
    rw (whole, least) (subst (λ b. OnOk c.write_counted.result
    (c.write_counted.new.buf.items ≡ c.args.buf.now.items ++
    (b ++ flat_map g.T.MySerialize.bytes c.args.seq.now))) bytes c.write_counted.ensures.ok)
