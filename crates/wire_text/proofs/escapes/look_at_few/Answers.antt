use Rattle.std.proofs.Common.{length, ◌∙◌}
use Rattle.wire_text.proofs.StandLemmas.{filled_ascii, filled_stands}
use Rattle.wire_text.proofs.escapes.look_at_few.Goals as goal

pub returns : goal.returns
returns c = (
  c.look_at_block.ensures.0 ∙ filled_ascii (length c.args.words.now) c.args.words.now c.copy_from_slice.new.self c.copy_from_slice.ensures.after,
  c.look_at_block.ensures.1 ∙ filled_stands (length c.args.words.now) c.args.words.now c.copy_from_slice.new.self c.copy_from_slice.ensures.after,
)
