use Rattle.std.proofs.Common.{◌∙◌, ℕ, List, ◌++◌, length, ap, refl, append_assoc}
use Rattle.mysql_wire_examples.specs.OwnFields.{be_u16_bytes}
use Rattle.mysql_wire_examples.proofs.PutLemmas.{all_put, none_put, put_back}
use Rattle.mysql_wire_examples.proofs.own_fields.U16BytesBytesRepr.serialize.Goals as goal

pub returns : goal.returns
returns g c =
    let old = c.args.buf.now.items in
    let cut = c.first_bytes-cut.result.now in
    record {
      ok = all_put c.extend_from_slice.result c.serialize.new.buf.items c.extend_from_slice.new.self.items cut c.if-is_err.ensures.value c.extend_from_slice.ensures.items
          ∙ ap (λ (z : List ℕ). z ++ cut) c.in_ok-serialize.ensures.ok ∙ append_assoc old (be_u16_bytes (length cut)) cut
          ∙ ap (λ (z : List ℕ). old ++ (be_u16_bytes (length z) ++ z)) c.first_bytes-cut.ensures.first;
      err = tt;
    }

pub returns-then-is_err : goal.returns-then-is_err
returns-then-is_err g c =
    let cut = c.first_bytes-cut.result.now in
    record {
      ok = tt;
      err = (
        refl,
        put_back c.len-at.result c.args.buf.now.items (be_u16_bytes (length cut)) c.extend_from_slice.new.self.items c.truncate.new.self.items (c.len-at.ensures ∙ c.args.buf.now.ok.0)
            (none_put c.extend_from_slice.result c.serialize.new.buf.items c.extend_from_slice.new.self.items cut c.if-is_err.ensures.value c.extend_from_slice.ensures.items
            ∙ c.in_ok-serialize.ensures.ok) c.truncate.ensures.items,
      );
    }
