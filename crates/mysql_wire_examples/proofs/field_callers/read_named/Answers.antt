use Rattle.std.proofs.Common.{ℕ, List, subst}
use Rattle.mysql_wire.specs.Law.{ReadsFixed}
use Rattle.mysql_wire.specs.Lenenc.{IsLenencOrMark}
use Rattle.mysql_wire.specs.Numbers.{le_number}
use Rattle.mysql_wire.specs.PrefixedTexts.{eaten_text}
use Rattle.mysql_wire.specs.RawTexts.{IsBorrowedText}
use Rattle.mysql_wire.specs.Reading.{Through}
use Rattle.mysql_wire.specs.ReadingLemmas.{parsed_fixed}
use Rattle.mysql_wire.specs.Spelling.{EatsText}
use Rattle.mysql_wire_examples.proofs.field_callers.read_named.Goals as goal

pub returns-clause-name : goal.returns-clause-name
returns-clause-name c =
    let mid = c.parse.new.self.0.now in
    let name = c.in_ok-name.name.0 in
    let id = parsed_fixed (λ input. Through (λ int. int.0) (ReadsFixed 2 le_number input)) 2 c.args.payload.now mid c.in_ok-id.id c.in_ok-id.ensures in
    let (eaten, there, _, read) = c.in_ok-name.ensures in
    subst (λ old. (text : List ℕ) × (rest : List ℕ) × IsBorrowedText name text × EatsText IsLenencOrMark old text rest) id.1
    (eaten_text IsLenencOrMark 1 name mid eaten read)
