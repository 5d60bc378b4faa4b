use Rattle.mysql_wire_tool_commands.proofs.ReadLemmas.{none_if}
use Rattle.std.proofs.Common.{ℕ, List, ◌++◌, ap, subst, ◌∙◌}
use Rattle.std.specs.Io.KnownBytes.{Appends}
use Rattle.wire_codec.specs.Runs.{payloads}
use Rattle.mysql_wire_tool_commands.specs.PieceLines.{pending_lines}
use Rattle.mysql_wire_tool_commands.specs.Unframe.{packet_lines, verdict_line}
use Rattle.mysql_wire_tool_commands.proofs.PacketLineLemmas.{all_written}
use Rattle.mysql_wire_tool_commands.proofs.unframe.take_part.Goals as goal

pub returns-clause-takes : goal.returns-clause-takes
returns-clause-takes g c = (
  pending_lines c.take.new.self.lines,
  c.in_ok-verdict.ensures.takes,
  subst (λ (z : List ℕ). Appends (g.W.Write.contents c.args.output.now) (g.W.Write.contents c.write_whole.new.output) z)
      (ap (λ z. c.take.new.self.lines.text.items ++ packet_lines (payloads z) ++ verdict_line c.in_ok-verdict.verdict) c.as_slice.ensures.value)
      (all_written c.take.new.self.lines.text.items (packet_lines (payloads c.as_slice.result.now)) _ (verdict_line c.in_ok-verdict.verdict) _ _ _ _ c.in_ok-write_packets.ensures
      (c.as_slice-2.ensures.value ∙ c.in_ok-extend_from_slice.ensures.items
      ∙ ap (λ (z : List ℕ). c.write_packets.new.text.items ++ z) (c.as_bytes.ensures.value ∙ c.verdict_text.ensures))
      c.in_ok-write_whole.ensures),
)

pub returns-clause-aligned : goal.returns-clause-aligned
returns-clause-aligned g c = c.in_ok-verdict.ensures.aligned

pub returns-clause-limits : goal.returns-clause-limits
returns-clause-limits g c = c.take.ensures.limits

pub returns-in_err-verdict-clause-limits : goal.returns-in_err-verdict-clause-limits
returns-in_err-verdict-clause-limits g c = c.take.ensures.limits

pub returns-in_err-write_packets-clause-limits : goal.returns-in_err-write_packets-clause-limits
returns-in_err-write_packets-clause-limits g c = c.take.ensures.limits

pub returns-in_err-extend_from_slice-clause-limits : goal.returns-in_err-extend_from_slice-clause-limits
returns-in_err-extend_from_slice-clause-limits g c = c.take.ensures.limits

pub returns-in_err-write_whole-clause-limits : goal.returns-in_err-write_whole-clause-limits
returns-in_err-write_whole-clause-limits g c = c.take.ensures.limits

pub take-requires : goal.take-requires
take-requires g c = c.requires

pub returns-in_err-verdict-clause-takes : goal.returns-in_err-verdict-clause-takes
returns-in_err-verdict-clause-takes g c = none_if c.from_residual.result _ c.from_residual.ensures.0

pub returns-in_err-verdict-clause-aligned : goal.returns-in_err-verdict-clause-aligned
returns-in_err-verdict-clause-aligned g c = none_if c.from_residual.result _ c.from_residual.ensures.0

pub returns-in_err-write_packets-clause-takes : goal.returns-in_err-write_packets-clause-takes
returns-in_err-write_packets-clause-takes g c =
    none_if c.from_residual-in_err-write_packets.result _ c.from_residual-in_err-write_packets.ensures.0

pub returns-in_err-write_packets-clause-aligned : goal.returns-in_err-write_packets-clause-aligned
returns-in_err-write_packets-clause-aligned g c =
    none_if c.from_residual-in_err-write_packets.result _ c.from_residual-in_err-write_packets.ensures.0

pub returns-in_err-extend_from_slice-clause-takes : goal.returns-in_err-extend_from_slice-clause-takes
returns-in_err-extend_from_slice-clause-takes g c =
    none_if c.from_residual-in_err-extend_from_slice.result _ c.from_residual-in_err-extend_from_slice.ensures.0

pub returns-in_err-extend_from_slice-clause-aligned : goal.returns-in_err-extend_from_slice-clause-aligned
returns-in_err-extend_from_slice-clause-aligned g c =
    none_if c.from_residual-in_err-extend_from_slice.result _ c.from_residual-in_err-extend_from_slice.ensures.0

pub returns-in_err-write_whole-clause-takes : goal.returns-in_err-write_whole-clause-takes
returns-in_err-write_whole-clause-takes g c =
    none_if c.from_residual-in_err-write_whole.result _ c.from_residual-in_err-write_whole.ensures.0

pub returns-in_err-write_whole-clause-aligned : goal.returns-in_err-write_whole-clause-aligned
returns-in_err-write_whole-clause-aligned g c =
    none_if c.from_residual-in_err-write_whole.result _ c.from_residual-in_err-write_whole.ensures.0
