use Rattle.std.proofs.Common.{ℕ, List, [], ◌∷◌, refl}
use Rattle.mysql_wire_parts.specs.FirstBytes.{one_first, other_first, none_first, header_first, no_header_first, no_byte_first}
use Rattle.mysql_wire_connection.proofs.first_packet.ServerFirst.read.Goals as goal

abbrev headers : List ℕ
headers = 0x0a ∷ 0xff ∷ []

pub returns-in-Some-eq10 : goal.returns-in-Some-eq10
returns-in-Some-eq10 c =
    let first = c.in-Some-eq10.ensures.value in
    let is = c.in-Some-eq10.field-0-test in
    let payload = c.args.payload.now in record {
      greeting = λ _. c.read_as.ensures;
      failed = other_first payload 0xff first is refl;
      other = header_first payload headers _ first is refl;
    }

pub returns-in-Some-eq255 : goal.returns-in-Some-eq255
returns-in-Some-eq255 c =
    let first = c.in-Some-eq255.ensures.value in
    let is = c.in-Some-eq255.field-0-test in
    let payload = c.args.payload.now in record {
      greeting = other_first payload 0x0a first is refl;
      failed = λ _. (c.empty-none.result, c.empty-none.ensures cc, c.read_as-in-Some-eq255.ensures);
      other = header_first payload headers _ first is refl;
    }

pub returns-in-Some : goal.returns-in-Some
returns-in-Some c =
    let first = c.in-Some.ensures.value in
    let payload = c.args.payload.now in record {
      greeting = λ begins. c.in-Some.byte-test.0.1 (one_first payload 0x0a first begins);
      failed = λ begins. absurd (c.in-Some.byte-test.1 (one_first payload 0xff first begins));
      other = no_header_first payload headers first _ refl;
    }

pub returns-in-None : goal.returns-in-None
returns-in-None c =
    let first = c.in-None.ensures.value in
    let payload = c.args.payload.now in record {
      greeting = none_first payload 0x0a first;
      failed = none_first payload 0xff first;
      other = no_byte_first payload headers first _ refl;
    }
