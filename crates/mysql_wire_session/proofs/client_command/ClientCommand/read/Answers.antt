use Rattle.std.proofs.Common.{ℕ, ◌≡◌, true, false, List, [], ◌∷◌, Some, Result, Ok, Err, nat_eq, refl, subst, sym, ◌∙◌}
use Rattle.std.specs.List.{slice_get}
use Rattle.wire_const.specs.declared.flag_sets.capability.CapabilityFlags.{CapabilityFlags}
use Rattle.mysql_wire_parts.specs.Optional.{has_query_attributes}
use Rattle.mysql_wire_parts.specs.Places.{BeginsWith, IsOther, is_among}
use Rattle.mysql_wire_parts.specs.declared.places.PayloadError.{PayloadError}
use Rattle.mysql_wire_session.specs.declared.client_command.ClientCommand.{ClientCommand}
use Rattle.mysql_wire_queries.specs.Payloads.{IsAttributedQuery, IsPlainQuery}
use Rattle.mysql_wire_parts.specs.FirstBytes.{When, one_first, none_first, one_byte, header_first, no_header_first, no_byte_first}
use Rattle.mysql_wire_session.proofs.client_command.ClientCommand.read.Goals as goal

abbrev headers : List ℕ
headers = 0x01 ∷ 0x02 ∷ 0x03 ∷ 0x0e ∷ 0x11 ∷ []

-- what is said of a command with this number
abbrev Numbered : (Quit InitDb Query Ping ChangeUser : Type 0) → ℕ → Type 0
Numbered Quit InitDb Query Ping ChangeUser number =
    When (nat_eq number 0x01) Quit (When (nat_eq number 0x02) InitDb
    (When (nat_eq number 0x03) Query (When (nat_eq number 0x0e) Ping ChangeUser)))

-- of a payload with this number all clauses hold
numbered : {Quit InitDb Plain Attributed Ping ChangeUser : Type 0} (payload : List ℕ) {byte : ℕ}
    (capabilities : CapabilityFlags) (result : Result ClientCommand PayloadError) (number : ℕ)
    → Some byte ≡ slice_get payload 0 → byte ≡ number → is_among number headers ≡ true
    → Numbered Quit InitDb ((has_query_attributes capabilities ≡ false → Plain)
    × (has_query_attributes capabilities ≡ true → Attributed)) Ping ChangeUser number
    → record {
      quit : BeginsWith 0x01 payload → Quit;
      init_db : BeginsWith 0x02 payload → InitDb;
      query : IsPlainQuery capabilities payload → Plain;
      attributed : IsAttributedQuery capabilities payload → Attributed;
      ping : BeginsWith 0x0e payload → Ping;
      change_user : BeginsWith 0x11 payload → ChangeUser;
      other : IsOther headers payload result;
    }
numbered {Quit = Quit} {InitDb = InitDb} {Plain = Plain} {Attributed = Attributed} {Ping = Ping}
    {ChangeUser = ChangeUser} payload capabilities result number first is among said =
    let Said = Numbered Quit InitDb ((has_query_attributes capabilities ≡ false → Plain)
    × (has_query_attributes capabilities ≡ true → Attributed)) Ping ChangeUser in
    let at = λ (a : ℕ) (begins : BeginsWith a payload). subst Said (sym is ∙ one_first payload a first begins) said in
    record {
      quit = λ begins. at 0x01 begins;
      init_db = λ begins. at 0x02 begins;
      query = λ plain. (at 0x03 plain.0).0 plain.1;
      attributed = λ attributed. (at 0x03 attributed.0).1 attributed.1;
      ping = λ begins. at 0x0e begins;
      change_user = λ begins. at 0x11 begins;
      other = header_first payload headers result first is among;
    }

pub returns-in-Ok : goal.returns-in-Ok
returns-in-Ok c = numbered c.args.payload.now c.args.capabilities _ 0x01 c.in-Some-eq1.ensures.value
    c.in-Some-eq1.field-0-test refl (c.in-Ok.command, refl, one_byte c.args.payload.now 0x01 (Ok _) c.in-Some-eq1.ensures.value c.in-Some-eq1.field-0-test c.in-Ok.ensures)

pub returns-in-Err : goal.returns-in-Err
returns-in-Err c = numbered c.args.payload.now c.args.capabilities _ 0x01 c.in-Some-eq1.ensures.value
    c.in-Some-eq1.field-0-test refl (one_byte c.args.payload.now 0x01 (Err _) c.in-Some-eq1.ensures.value c.in-Some-eq1.field-0-test c.in-Err.ensures)

pub returns-in-Some-eq2 : goal.returns-in-Some-eq2
returns-in-Some-eq2 c = numbered c.args.payload.now c.args.capabilities _ 0x02 c.in-Some-eq2.ensures.value
    c.in-Some-eq2.field-0-test refl c.read_as.ensures

pub returns-in-Some-eq3 : goal.returns-in-Some-eq3
returns-in-Some-eq3 c = numbered c.args.payload.now c.args.capabilities _ 0x03 c.in-Some-eq3.ensures.value
    c.in-Some-eq3.field-0-test refl (c.read_query.ensures.plain, c.read_query.ensures.attributed)

pub returns-in-Ok-read_whole : goal.returns-in-Ok-read_whole
returns-in-Ok-read_whole c = numbered c.args.payload.now c.args.capabilities _ 0x0e c.in-Some-eq14.ensures.value
    c.in-Some-eq14.field-0-test refl (c.in-Ok-read_whole.command, refl, one_byte c.args.payload.now 0x0e (Ok _) c.in-Some-eq14.ensures.value c.in-Some-eq14.field-0-test c.in-Ok-read_whole.ensures)

pub returns-in-Err-read_whole : goal.returns-in-Err-read_whole
returns-in-Err-read_whole c = numbered c.args.payload.now c.args.capabilities _ 0x0e c.in-Some-eq14.ensures.value
    c.in-Some-eq14.field-0-test refl (one_byte c.args.payload.now 0x0e (Err _) c.in-Some-eq14.ensures.value c.in-Some-eq14.field-0-test c.in-Err-read_whole.ensures)

pub returns-in-Some-eq17 : goal.returns-in-Some-eq17
returns-in-Some-eq17 c = numbered c.args.payload.now c.args.capabilities _ 0x11 c.in-Some-eq17.ensures.value
    c.in-Some-eq17.field-0-test refl c.read_as-in-Some-eq17.ensures

pub returns-in-Some : goal.returns-in-Some
returns-in-Some c = let first = c.in-Some.ensures.value in let others = c.in-Some.byte-test in record {
  quit = λ begins. others.0.0.0.0.1 (one_first c.args.payload.now 0x01 first begins);
  init_db = λ begins. others.0.0.0.1 (one_first c.args.payload.now 0x02 first begins);
  query = λ plain. others.0.0.1 (one_first c.args.payload.now 0x03 first plain.0);
  attributed = λ attributed. others.0.0.1 (one_first c.args.payload.now 0x03 first attributed.0);
  ping = λ begins. others.0.1 (one_first c.args.payload.now 0x0e first begins);
  change_user = λ begins. others.1 (one_first c.args.payload.now 0x11 first begins);
  other = no_header_first c.args.payload.now headers first _ refl;
}

pub returns-in-None : goal.returns-in-None
returns-in-None c = let first = c.in-None.ensures.value in record {
  quit = none_first c.args.payload.now 0x01 first;
  init_db = none_first c.args.payload.now 0x02 first;
  query = λ plain. none_first c.args.payload.now 0x03 first plain.0;
  attributed = λ attributed. none_first c.args.payload.now 0x03 first attributed.0;
  ping = none_first c.args.payload.now 0x0e first;
  change_user = none_first c.args.payload.now 0x11 first;
  other = no_byte_first c.args.payload.now headers first _ refl;
}
