use Rattle.std.proofs.Common.{rules, ℕ, List, [], ◌++◌, take, drop, refl, sym, ap, subst, ◌∙◌, append_assoc, append-nil, take-append-drop}
use Rattle.std.specs.Io.KnownBytes.{Appends}
use Rattle.std.proofs.KnownBytes.{Appends-nil, Appends-trans}
use Rattle.mysql_wire_tool_commands.proofs.PacketLineLemmas.{no_bytes}
use Rattle.mysql_wire_tool_commands.proofs.sender.write_bytes.Goals as goal

pub writes-init : goal.writes-init
writes-init g c = ([], refl, Appends-nil (g.W.Write.contents c.args.writer.now))

pub writes-preserved : goal.writes-preserved
writes-preserved g c =
    let inv = c.writes.invariant in
    let took : List ℕ = take c.in-Ok.count c.writes.rest.now in (
      inv.0 ++ took,
      inv.1 ∙ ap (λ (z : List ℕ). inv.0 ++ z) (sym (take-append-drop c.in-Ok.count c.writes.rest.now)) ∙ sym (append_assoc inv.0 took (drop c.in-Ok.count c.writes.rest.now))
          ∙ ap (λ (z : List ℕ). (inv.0 ++ took) ++ z) (sym c.split_at.ensures.back),
      Appends-trans _ _ _ inv.0 took inv.2 c.in-Ok.ensures.bytes,
    )

pub returns-clause-written : goal.returns-clause-written
returns-clause-written g c =
    let inv = c.writes.invariant in
    let empty = no_bytes c.writes.rest.now (search rules) in
    subst (λ (z : List ℕ). Appends (g.W.Write.contents c.args.writer.now) (g.W.Write.contents c.writes.writer) z)
    (sym (inv.1 ∙ ap (λ (z : List ℕ). inv.0 ++ z) empty ∙ append-nil inv.0)) inv.2
