use Rattle.std.proofs.Common.{sym, subst, List, ℕ, ◌-◌, length}
use Rattle.wire_buf.specs.Spelling.{EatsSpelling, SpellsNothing}
use Rattle.wire_buf.specs.Lenenc.{IsLenenc, IsLenencOrMark}
use Rattle.mysql_wire_c_calls.specs.Fields.{ReadsAt}
use Rattle.mysql_wire_c_calls.proofs.FieldLemmas.{unmarked, reads_at}
use Rattle.mysql_wire_c_calls.proofs.fields.read_lenenc_int.Goals as goal

pub returns-in-Some-checked_eat_lenenc_int-clause-read :
    goal.returns-in-Some-checked_eat_lenenc_int-clause-read
returns-in-Some-checked_eat_lenenc_int-clause-read c ok =
    let n : ℕ = c.in-Some-checked_eat_lenenc_int.n in
    let left : List ℕ = c.checked_eat_lenenc_int.new.self.0.now in
    let eats = unmarked c.in-Some.buf.0.now n left
    (λ mark. absurd (let t = c.if-is_mark.ensures.1 mark in cc))
    c.in-Some-checked_eat_lenenc_int.ensures in
    subst (λ (count : ℕ). ReadsAt IsLenenc c.args.bytes.now c.args.at.now n (length c.args.bytes.now - count))
    (sym c.len.ensures)
    (reads_at c.args.bytes.now c.args.at.now n left c.in-Some.ensures.0
    (subst (λ (old : List ℕ). EatsSpelling IsLenenc old n left) c.in-Some.ensures.1 eats))

pub returns-in-None-clause-missing : goal.returns-in-None-clause-missing
returns-in-None-clause-missing c ok =
    subst (λ (old : List ℕ). SpellsNothing IsLenencOrMark old) c.in-Some.ensures.1 c.in-None.ensures.0
