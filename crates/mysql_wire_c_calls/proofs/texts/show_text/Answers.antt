use Rattle.std.proofs.Common.{ℤ, [], ◌∷◌, ◌++◌, ap, ◌∙◌, to_z-of_z}
use Rattle.mysql_wire_c_calls.specs.Messages.{message}
use Rattle.mysql_wire_c_calls.proofs.FieldLemmas.{without_end}
use Rattle.mysql_wire_c_calls.proofs.texts.show_text.Goals as goal

pub returns : goal.returns
returns c =
    without_end c.show.new.self.len c.saturating_sub-shown.result c.text.result.now (message c.args.code)
    (c.text.ensures ∙ ap (λ (n : ℤ). message n ++ 0 ∷ []) (to_z-of_z c.ranges.code)) c.show.ensures c.saturating_sub-shown.ensures
