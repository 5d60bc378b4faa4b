use Rattle.std.proofs.Common.{◌∷◌, [], ◌∙◌, ℕ, List, arith, ap, drop, length, Ok, subst, sym, take}
use Rattle.std.proofs.lemmas.List.{take-take}
use Rattle.std.specs.Fmt.{decimal}
use Rattle.wire_text.specs.Fields.{Puts, Words}
use Rattle.mysql_wire_dump_lines.specs.RowEnds.{EndsIn}
use Rattle.mysql_wire_dump_lines.proofs.ShortLemmas.{short_text}
use Rattle.mysql_wire_dump_lines.proofs.show.values.put_last.Goals as goal

pub widened-requires : goal.widened-requires
widened-requires g c =
    subst (λ (z : List ℕ). EndsIn c.args.end.now z) (ap (drop 1) c.in-Some.ensures.cases.0) (c.requires.end 1)

pub returns-clause-put : goal.returns-clause-put
returns-clause-put g c is =
    let put = c.in_ok-put_short_in.ensures in
    let len = c.in-Some.len.now in
    let left = c.in-Some.left.now in
    let same = sym (take-take len (length left) c.widened.result.now c.if-len-left.false) ∙ ap (take len) c.widened.ensures in (
      (decimal c.args.place, Words (take len left)),
      (
        short_text c.args.place len c.args.rest.now.0.now left c.in-Some.ensures.cases.0 (omega (arith, c.if-len-left.false, c.if-left-ge32.false)) c.if-len-left.false,
        subst (λ (z : List ℕ). Puts ((decimal c.args.place, Words z) ∷ []) c.args.fields.now c.put_short_in.new.self) same
            (put.put (ap Ok c.if-not-branch.false)),
      ),
    )
