use Rattle.std.proofs.Common.{ℕ, ◌≡◌, true, List, [], ◌∷◌, Some, Result, nat_eq, refl, subst, sym, ◌∙◌}
use Rattle.std.specs.List.{slice_get}
use denote.Param.{number}
use Rattle.mysql_wire_parts.specs.FirstBytes.{When, one_first, none_first, header_first, no_header_first, no_byte_first}
use Rattle.mysql_wire_parts.specs.Places.{BeginsWith, IsOther, ReadsAs, is_among}
use Rattle.mysql_wire_parts.specs.declared.places.PayloadError.{PayloadError}
use Rattle.mysql_wire_packets.specs.contracts.ok_packet.OkFormMyDeserializeGlobal.TheImpl as ok
use Rattle.mysql_wire_connection.specs.declared.auth_answer.AuthAnswer.{AuthAnswer}
use Rattle.mysql_wire_connection.specs.declared.auth_answer.AuthAnswer.TheVariants as variants
use Rattle.mysql_wire_connection.proofs.auth_answer.AuthAnswer.read.Goals as goal

abbrev headers : List ℕ
headers = 0x00 ∷ 0xff ∷ 0xfe ∷ 0x01 ∷ []

-- what is said of an answer with this header
abbrev Headed : (Done Failed Switch MoreData : Type 0) → ℕ → Type 0
Headed Done Failed Switch MoreData header = When (nat_eq header 0x00) Done
    (When (nat_eq header 0xff) Failed (When (nat_eq header 0xfe) Switch MoreData))

-- of a payload with this header all clauses hold
headed : {Done Failed Switch MoreData : Type 0} (payload : List ℕ) {byte : ℕ}
    (result : Result AuthAnswer PayloadError) (header : ℕ) → Some byte ≡ slice_get payload 0
    → byte ≡ header → is_among header headers ≡ true → Headed Done Failed Switch MoreData header
    → record {
      done : BeginsWith 0x00 payload → Done;
      failed : BeginsWith 0xff payload → Failed;
      switch : BeginsWith 0xfe payload → Switch;
      more : BeginsWith 0x01 payload → MoreData;
      other : IsOther headers payload result;
    }
headed {Done = Done} {Failed = Failed} {Switch = Switch} {MoreData = MoreData} payload result
    header first is among said =
    let at = λ (a : ℕ) (begins : BeginsWith a payload).
    subst (Headed Done Failed Switch MoreData) (sym is ∙ one_first payload a first begins) said in
    record {
      done = λ begins. at 0x00 begins;
      failed = λ begins. at 0xff begins;
      switch = λ begins. at 0xfe begins;
      more = λ begins. at 0x01 begins;
      other = header_first payload headers result first is among;
    }

pub returns-in-Some-eq0 : goal.returns-in-Some-eq0
returns-in-Some-eq0 c = headed c.args.payload.now _ 0x00 c.in-Some-eq0.ensures.value
    c.in-Some-eq0.field-0-test refl
    (subst (λ form. ReadsAs variants.Done ((ok.ghosts (number 0x00)).reads form)
    c.args.payload.now c.read_as.result) c.of-form.ensures c.read_as.ensures)

pub returns-in-Some-eq255 : goal.returns-in-Some-eq255
returns-in-Some-eq255 c = headed c.args.payload.now _ 0xff c.in-Some-eq255.ensures.value
    c.in-Some-eq255.field-0-test refl c.read_as-in-Some-eq255.ensures

pub returns-in-Some-eq254 : goal.returns-in-Some-eq254
returns-in-Some-eq254 c = headed c.args.payload.now _ 0xfe c.in-Some-eq254.ensures.value
    c.in-Some-eq254.field-0-test refl c.read_as-in-Some-eq254.ensures

pub returns-in-Some-eq1 : goal.returns-in-Some-eq1
returns-in-Some-eq1 c = headed c.args.payload.now _ 0x01 c.in-Some-eq1.ensures.value
    c.in-Some-eq1.field-0-test refl c.read_as-in-Some-eq1.ensures

pub returns-in-Some : goal.returns-in-Some
returns-in-Some c = let first = c.in-Some.ensures.value in let others = c.in-Some.byte-test in
    let payload = c.args.payload.now in record {
      done = λ begins. others.0.0.0.1 (one_first payload 0x00 first begins);
      failed = λ begins. others.0.0.1 (one_first payload 0xff first begins);
      switch = λ begins. others.0.1 (one_first payload 0xfe first begins);
      more = λ begins. others.1 (one_first payload 0x01 first begins);
      other = no_header_first payload headers first _ refl;
    }

pub returns-in-None : goal.returns-in-None
returns-in-None c = let first = c.in-None.ensures.value in
    let payload = c.args.payload.now in record {
      done = none_first payload 0x00 first;
      failed = none_first payload 0xff first;
      switch = none_first payload 0xfe first;
      more = none_first payload 0x01 first;
      other = no_byte_first payload headers first _ refl;
    }
