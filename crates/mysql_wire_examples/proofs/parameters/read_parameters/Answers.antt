use Rattle.std.proofs.Common.{[], ◌≤◌, ◌++◌, length, sym, ap, ◌∙◌, arith}
use Rattle.std.specs.declared.borrow.CowSlice.TheVariants as slice
use Rattle.mysql_wire.specs.CountedLists.{whole-list}
use Rattle.mysql_wire_examples.specs.Parameters.{parameter_bytes}
use Rattle.mysql_wire_examples.proofs.parameters.read_parameters.Goals as goal

pub returns-clause-back : goal.returns-clause-back
returns-clause-back c =
    λ parameters (are, count, fits) rest at. (
    let few : length parameters ≤ 0xffff_ffff_ffff_ffff = omega arith in
    let whole = whole-list 0xffff_ffff_ffff_ffff (λ _. []) parameter_bytes parameters few in
    c.parse_back.ensures.back
    (record { 0 = slice.Borrowed (record { ref_ptr = (0, 0); now = parameters }); 1 = record {} })
    rest (fits, are) (count, λ index default below more. tt)
    (at ∙ sym (ap (λ bytes. bytes ++ rest) whole)))
