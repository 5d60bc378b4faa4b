use Rattle.std.proofs.Common.{ℕ, List, string_bytes, subst}
use Rattle.std.specs.Io.KnownBytes.{Appends}
use Rattle.mysql_wire_tool_commands.specs.Texts.{Shown}
use Rattle.mysql_wire_tool_commands.proofs.InputLemmas.{read_whole-known, shown_cases}
use Rattle.mysql_wire_tool_commands.proofs.chunk.chunk.Goals as goal

pub returns : goal.returns
returns g c = record {
  cases = shown_cases c.in_ok-text.status c.in_ok-text.ensures.cases;
  text = λ _. read_whole-known
      (λ (input : List ℕ). (text : List ℕ) × Shown input c.in_ok-text.status text × Appends (g.W.Write.contents c.args.output.now) (g.W.Write.contents c.write_whole.new.output) text)
      _ _ c.in_ok-whole.whole.items c.in_ok-whole.ensures.bytes c.in_ok-whole.ensures.end (
        string_bytes c.in_ok-text.text,
        c.in_ok-text.ensures.shown,
        subst (λ (z : List ℕ). Appends (g.W.Write.contents c.args.output.now) (g.W.Write.contents c.write_whole.new.output) z) c.as_bytes.ensures.value c.in_ok-write_whole.ensures,
      );
  all_read = λ _. c.in_ok-whole.ensures.end;
}
