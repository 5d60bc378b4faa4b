use Rattle.wire_text.specs.Fields.{begins_three, goes_on}
use Rattle.wire_text.proofs.PlainLemmas.{bits_of_block}
use Rattle.wire_text.proofs.wide.bits_of_both.Goals as goal

pub returns : goal.returns
returns c =
    let front = c.split_at.ensures.front in
    let back = c.split_at.ensures.back in (
      bits_of_block begins_three c.args.block.now _ _ _ _ c.requires front back c.lead_bits.ensures c.lead_bits-2.ensures,
      bits_of_block goes_on c.args.block.now _ _ _ _ c.requires front back c.going_bits.ensures c.going_bits-2.ensures,
    )
