use Rattle.std.proofs.Common.{rules, List, [], ℕ, ◌++◌, refl, sym, subst, ap, ap₂, ◌∙◌, append-nil, append_assoc, take-append-drop}
use Rattle.hex.specs.Hex.{encode_lower}
use Rattle.mysql_wire_tool_commands.specs.PacketLines.{Goes}
use Rattle.mysql_wire_tool_commands.proofs.PacketLineLemmas.{digits_begin, digits_on, no_bytes}
use Rattle.mysql_wire_tool_commands.proofs.packet_lines.write_digits.Goals as goal

pub loop-rest-init : goal.loop-rest-init
loop-rest-init g c = ([], refl, digits_begin c.args.text.now.items (g.W.Write.contents c.args.output.now))

pub loop-rest-preserved : goal.loop-rest-preserved
loop-rest-preserved g c =
    let old = c.loop-rest.invariant in
    let split = c.split_at.ensures in (
      old.0 ++ c.split_at.result.0.now,
      append_assoc old.0 c.split_at.result.0.now c.split_at.result.1.now
          ∙ ap (λ (z : List ℕ). old.0 ++ z) (ap₂ (λ (a b : List ℕ). a ++ b) split.front split.back ∙ take-append-drop c.min.result c.loop-rest.rest.now)
          ∙ old.1,
      digits_on _ old.0 c.split_at.result.0.now _ _ _ _ _ _ old.2 c.in_ok-push_digits.ensures.ok c.in_ok-write_long.ensures,
    )

pub returns : goal.returns
returns g c =
    let old = c.loop-rest.invariant in
    let empty = no_bytes c.loop-rest.rest.now (search rules) in
    subst (λ z. Goes c.args.text.now.items (encode_lower z) c.loop-rest.text.items (g.W.Write.contents c.args.output.now) (g.W.Write.contents c.loop-rest.output))
    (sym (append-nil old.0) ∙ ap (λ (z : List ℕ). old.0 ++ z) (sym empty) ∙ old.1) old.2
