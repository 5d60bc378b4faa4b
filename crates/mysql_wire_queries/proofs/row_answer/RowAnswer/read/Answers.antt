use Rattle.std.proofs.Common.{ℕ, ◌≡◌, Bool, true, false, List, Some, length, refl, rules, subst, sym}
use Rattle.std.specs.List.{slice_get}
use denote.Param.{number}
use Rattle.mysql_wire_parts.specs.Optional.{deprecates_eof}
use Rattle.mysql_wire_parts.specs.Places.{BeginsWith, ReadsAs, is_short}
use Rattle.mysql_wire_packets.specs.contracts.ok_packet.OkFormMyDeserializeGlobal.TheImpl as ok
use Rattle.mysql_wire_queries.specs.RowPlaces.{EndsRows, IsRow}
use Rattle.mysql_wire_queries.specs.declared.row_answer.RowAnswer.TheVariants as variants
use Rattle.mysql_wire_parts.specs.FirstBytes.{When, first_begins, other_first}
use Rattle.mysql_wire_queries.proofs.row_answer.RowAnswer.read.Goals.{in_default-via-in-Some-eq254+else-is_end, in_default-via-in-Some+in_default, in_default-via-in_default}
use Rattle.mysql_wire_queries.proofs.row_answer.RowAnswer.read.Goals as goal

-- of an error all clauses hold
failed : {Failed Eof End Row : Type 0} (payload : List ℕ) {byte : ℕ} (deprecated : Bool)
    → Some byte ≡ slice_get payload 0 → byte ≡ 0xff → Failed
    → record {
      failed : BeginsWith 0xff payload → Failed;
      eof : EndsRows false payload → deprecated ≡ false → Eof;
      end : EndsRows true payload → deprecated ≡ true → End;
      row : IsRow deprecated payload → Row;
    }
failed payload deprecated first is said = record {
  failed = λ _. said;
  eof = λ ends _. other_first payload 0xfe first is refl ends.0;
  end = λ ends _. other_first payload 0xfe first is refl ends.0;
  row = λ row. absurd (row.0 (first_begins payload 0xff first is));
}

-- of an end
ended : {Failed Eof End Row : Type 0} (payload : List ℕ) {byte : ℕ} (deprecated now : Bool)
    → deprecated ≡ now → Some byte ≡ slice_get payload 0 → byte ≡ 0xfe
    → true ≡ is_short now (length payload) → When now End Eof
    → record {
      failed : BeginsWith 0xff payload → Failed;
      eof : EndsRows false payload → deprecated ≡ false → Eof;
      end : EndsRows true payload → deprecated ≡ true → End;
      row : IsRow deprecated payload → Row;
    }
ended payload deprecated now same first is short said =
    let begins = first_begins payload 0xfe first is in record {
      failed = other_first payload 0xff first is refl;
      eof = λ _ not. rw (sym same, not) at said;
      end = λ _ so. rw (sym same, so) at said;
      row = λ row. let long = row.1 begins in search (rules, same, long, short);
    }

-- and of a row
rowed : {Failed Eof End Row : Type 0} (payload : List ℕ) (deprecated : Bool)
    → IsRow deprecated payload → Row
    → record {
      failed : BeginsWith 0xff payload → Failed;
      eof : EndsRows false payload → deprecated ≡ false → Eof;
      end : EndsRows true payload → deprecated ≡ true → End;
      row : IsRow deprecated payload → Row;
    }
rowed payload deprecated is said = record {
  failed = λ begins. absurd (is.0 begins);
  eof = λ ends not. let long = is.1 ends.0 in search (rules, not, long, ends.1);
  end = λ ends so. let long = is.1 ends.0 in search (rules, so, long, ends.1);
  row = λ _. said;
}

pub returns-in-Some-eq255 : goal.returns-in-Some-eq255
returns-in-Some-eq255 c = failed c.args.payload.now (deprecates_eof c.args.capabilities)
    c.in-Some-eq255.ensures.value c.in-Some-eq255.field-0-test c.read_as.ensures

pub returns-then-is_deprecated : goal.returns-then-is_deprecated
returns-then-is_deprecated c = ended c.args.payload.now (deprecates_eof c.args.capabilities) true
    (search (rules, c.if-is_deprecated.true, c.contains-is_deprecated.ensures))
    c.in-Some-eq254.ensures.value c.in-Some-eq254.field-0-test
    (rw c.if-is_deprecated.true at c.if-is_end.ensures)
    (subst (λ form. ReadsAs variants.End ((ok.ghosts (number 0xfe)).reads form) c.args.payload.now
    c.read_as-then-is_deprecated.result) c.of-form.ensures c.read_as-then-is_deprecated.ensures)

pub returns-in-Ok : goal.returns-in-Ok
returns-in-Ok c = ended c.args.payload.now (deprecates_eof c.args.capabilities) false
    (search (rules, c.if-is_deprecated.false, c.contains-is_deprecated.ensures))
    c.in-Some-eq254.ensures.value c.in-Some-eq254.field-0-test
    (rw c.if-is_deprecated.false at c.if-is_end.ensures) (search (rules, c.in-Ok.ensures))

pub returns-in-Err : goal.returns-in-Err
returns-in-Err c = ended c.args.payload.now (deprecates_eof c.args.capabilities) false
    (search (rules, c.if-is_deprecated.false, c.contains-is_deprecated.ensures))
    c.in-Some-eq254.ensures.value c.in-Some-eq254.field-0-test
    (rw c.if-is_deprecated.false at c.if-is_end.ensures) (search (rules, c.in-Err.ensures))

pub returns-in_default : goal.returns-in_default
returns-in_default c =
    let same : c.contains-is_deprecated.result ≡ deprecates_eof c.args.capabilities =
    search (rules, c.contains-is_deprecated.ensures) in
    let is : IsRow c.contains-is_deprecated.result c.args.payload.now = elim c.in_default.branch [
      | in_default-via-in-Some-eq254+else-is_end w ↦ (
        other_first c.args.payload.now 0xff w.in-Some-eq254.ensures.value w.in-Some-eq254.field-0-test refl,
        λ _. search (rules, w.if-is_end, w.is_end.ensures),
      )
      | in_default-via-in-Some+in_default w ↦ search (rules, w.in_default, c.first.ensures)
      | in_default-via-in_default w ↦ search (rules, w.in_default, c.first.ensures)
    ] in rowed c.args.payload.now (deprecates_eof c.args.capabilities) (rw same at is) c.read_as-in_default.ensures
