use Rattle.std.proofs.Common.{ℕ, List, ◌++◌, ap, subst, ◌∙◌}
use Rattle.std.specs.Io.KnownBytes.{Appends}
use Rattle.mysql_wire_tool_commands.specs.Texts.{rest_line}
use Rattle.mysql_wire_tool_commands.proofs.unframe.write_rest.Goals as goal

pub returns-clause-text : goal.returns-clause-text
returns-clause-text g c =
    subst (λ (z : List ℕ). Appends (g.W.Write.contents c.args.output.now) (g.W.Write.contents c.write_whole.new.output) z)
    (c.as_bytes.ensures.value ∙ c.in_ok-push_rest.ensures ∙ ap (λ (z : List ℕ). z ++ rest_line c.bytes_left-count.result) c.new-text.ensures.bytes
    ∙ ap (λ (n : ℕ). rest_line n) c.bytes_left-count.ensures)
    c.in_ok-write_whole.ensures
