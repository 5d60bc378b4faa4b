use Rattle.wire_text.proofs.WideLemmas.{few_wide}
use Rattle.wire_text.proofs.wide.are_few_wide.Goals as goal

pub returns : goal.returns
returns c = λ is.
    few_wide c.args.words.now c.copy_from_slice.new.self _ c.copy_from_slice.ensures.after c.requires.0 c.requires.1 (c.is_wide_front.ensures is)
