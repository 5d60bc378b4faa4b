use Rattle.std.proofs.Common.{rules, ◌≡◌, ◌≤◌, ◌++◌, take, sym, ap, subst, ◌∙◌, arith}
use Rattle.wire_buf.specs.Numbers.{le_bytes}
use Rattle.wire_buf.specs.NumberLemmas.{take-le_bytes}
use Rattle.wire_streams.specs.Varlen.{IsVarlenSize, varlen_bytes}
use Rattle.wire_streams.proofs.VarlenLemmas.{varlen_bytes-below, varlen_bytes-shortest}
use Rattle.wire_streams.proofs.misc.varlen.write_varlen_uint.Goals as goal

pub returns-in_ok-extend_from_slice-clause-ok : goal.returns-in_ok-extend_from_slice-clause-ok
returns-in_ok-extend_from_slice-clause-ok g c =
    let sized : IsVarlenSize c.args.value 9 =
    subst (IsVarlenSize c.args.value) c.if-size-eq9.true c.size_of-size.ensures in
    let shortest = varlen_bytes-shortest 9 c.args.value (omega arith) sized in
    (varlen_bytes 9 c.args.value, shortest.0, search rules)

pub returns-in_ok-extend_from_slice-2-clause-ok : goal.returns-in_ok-extend_from_slice-2-clause-ok
returns-in_ok-extend_from_slice-2-clause-ok g c =
    let size = c.size_of-size.result in
    let number = c.marked.result in
    let high : size ≤ 8 = omega (arith, c.size_of-size.ensures.high, c.if-size-eq9.false) in
    let shortest = varlen_bytes-shortest size c.args.value (omega arith) c.size_of-size.ensures in
    let all : c.to_le_bytes.result ≡ le_bytes 8 number = search rules in
    let front : take size c.to_le_bytes.result ≡ varlen_bytes size c.args.value =
    ap (take size) all ∙ take-le_bytes size 8 number high ∙ ap (le_bytes size) c.marked.ensures
    ∙ sym (varlen_bytes-below size c.args.value high) in
    let put : c.extend_from_slice-else-size-eq9.new.self.items ≡ c.args.buf.now.items
    ++ take size c.to_le_bytes.result = search rules in
    (varlen_bytes size c.args.value, shortest.0, put ∙ ap (λ l. c.args.buf.now.items ++ l) front)
