use Rattle.std.proofs.Common.{length, refl}
use Rattle.wire_text.proofs.FieldLemmas.{none_put}
use Rattle.wire_text.proofs.DigitLemmas.{last_pushed, part_of_block, whole_block, block_digits}
use Rattle.wire_text.proofs.digits.push_last_digits.Goals as goal

pub returns-clause-ok : goal.returns-clause-ok
returns-clause-ok g c =
    last_pushed c.args.bytes.now c.copy_from_slice.new.self _ c.digits_of.result c.args.text.now.items _ c.copy_from_slice.ensures.after c.digits_of.ensures
    c.in_ok-extend_from_slice.ensures.items

pub returns-clause-full : goal.returns-clause-full
returns-clause-full g c = tt

pub returns-in_err-extend_from_slice-clause-ok : goal.returns-in_err-extend_from_slice-clause-ok
returns-in_err-extend_from_slice-clause-ok g c = none_put c.from_residual.result _ c.from_residual.ensures.0

pub copy_from_slice-requires : goal.copy_from_slice-requires
copy_from_slice-requires g c = part_of_block (length c.args.bytes.now) _ refl c.requires

pub digits_of-requires : goal.digits_of-requires
digits_of-requires g c =
    whole_block c.args.bytes.now c.copy_from_slice.new.self _ c.copy_from_slice.ensures.after refl c.requires

pub slice_bounds-extend_from_slice-end : goal.slice_bounds-extend_from_slice-end
slice_bounds-extend_from_slice-end g c =
    block_digits (length c.args.bytes.now) _ c.digits_of.result c.digits_of.ensures
    (whole_block c.args.bytes.now c.copy_from_slice.new.self _ c.copy_from_slice.ensures.after refl c.requires) c.requires
