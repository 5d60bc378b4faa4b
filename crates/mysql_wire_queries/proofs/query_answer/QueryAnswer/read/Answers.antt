use Rattle.std.proofs.Common.{ℕ, ◌≡◌, List, [], ◌∷◌, Some, nat_eq, rules, subst, sym, ◌∙◌}
use Rattle.std.specs.List.{slice_get}
use denote.Param.{number}
use Rattle.mysql_wire_parts.specs.Places.{BeginsWith, BeginsWithNone, ReadsAs}
use Rattle.mysql_wire_packets.specs.contracts.ok_packet.OkFormMyDeserializeGlobal.TheImpl as ok
use Rattle.mysql_wire_queries.specs.declared.query_answer.QueryAnswer.TheVariants as variants
use Rattle.mysql_wire_parts.specs.FirstBytes.{When, first_begins, one_first}
use Rattle.mysql_wire_queries.proofs.query_answer.QueryAnswer.read.Goals.{in_default-via-in-Some+in_default, in_default-via-in_default}
use Rattle.mysql_wire_queries.proofs.query_answer.QueryAnswer.read.Goals as goal

abbrev headers : List ℕ
headers = 0x00 ∷ 0xff ∷ 0xfb ∷ []

-- what is said of an answer with this header
abbrev Headed : (Done Failed File : Type 0) → ℕ → Type 0
Headed Done Failed File header =
    When (nat_eq header 0x00) Done (When (nat_eq header 0xff) Failed File)

-- of a payload with this header all clauses hold
headed : {Done Failed File Columns : Type 0} (payload : List ℕ) {byte : ℕ} (header : ℕ)
    → Some byte ≡ slice_get payload 0 → byte ≡ header
    → (BeginsWith header payload → ¬ BeginsWithNone headers payload)
    → Headed Done Failed File header
    → record {
      done : BeginsWith 0x00 payload → Done;
      failed : BeginsWith 0xff payload → Failed;
      file : BeginsWith 0xfb payload → File;
      columns : BeginsWithNone headers payload → Columns;
    }
headed {Done = Done} {Failed = Failed} {File = File} payload header first is among said =
    let at = λ (a : ℕ) (begins : BeginsWith a payload).
    subst (Headed Done Failed File) (sym is ∙ one_first payload a first begins) said in
    record {
      done = λ begins. at 0x00 begins;
      failed = λ begins. at 0xff begins;
      file = λ begins. at 0xfb begins;
      columns = λ none. absurd (among (first_begins payload header first is) none);
    }

-- and of one with none of them
columns : {Done Failed File Columns : Type 0} (payload : List ℕ)
    → BeginsWithNone headers payload → Columns
    → record {
      done : BeginsWith 0x00 payload → Done;
      failed : BeginsWith 0xff payload → Failed;
      file : BeginsWith 0xfb payload → File;
      columns : BeginsWithNone headers payload → Columns;
    }
columns payload none said = record {
  done = λ begins. absurd (none.0 begins);
  failed = λ begins. absurd (none.1.0 begins);
  file = λ begins. absurd (none.1.1.0 begins);
  columns = λ _. said;
}

pub returns-in-Some-eq0 : goal.returns-in-Some-eq0
returns-in-Some-eq0 c = headed c.args.payload.now 0x00 c.in-Some-eq0.ensures.value
    c.in-Some-eq0.field-0-test (λ begins none. none.0 begins)
    (subst (λ form. ReadsAs variants.Done ((ok.ghosts (number 0x00)).reads form) c.args.payload.now
    c.read_as.result) c.of-form.ensures c.read_as.ensures)

pub returns-in-Some-eq255 : goal.returns-in-Some-eq255
returns-in-Some-eq255 c = headed c.args.payload.now 0xff c.in-Some-eq255.ensures.value
    c.in-Some-eq255.field-0-test (λ begins none. none.1.0 begins) c.read_as-in-Some-eq255.ensures

pub returns-in-Some-eq251 : goal.returns-in-Some-eq251
returns-in-Some-eq251 c = headed c.args.payload.now 0xfb c.in-Some-eq251.ensures.value
    c.in-Some-eq251.field-0-test (λ begins none. none.1.1.0 begins) c.read_as-in-Some-eq251.ensures

pub returns-in-Ok : goal.returns-in-Ok
returns-in-Ok c =
    let none : BeginsWithNone headers c.args.payload.now = elim c.in_default.branch [
      | in_default-via-in-Some+in_default w ↦ search (rules, w.in_default, c.first.ensures)
      | in_default-via-in_default w ↦ search (rules, w.in_default, c.first.ensures)
    ] in columns c.args.payload.now none (search (rules, c.in-Ok.ensures))

pub returns-in-Err : goal.returns-in-Err
returns-in-Err c =
    let none : BeginsWithNone headers c.args.payload.now = elim c.in_default.branch [
      | in_default-via-in-Some+in_default w ↦ search (rules, w.in_default, c.first.ensures)
      | in_default-via-in_default w ↦ search (rules, w.in_default, c.first.ensures)
    ] in columns c.args.payload.now none (search (rules, c.in-Err.ensures))
