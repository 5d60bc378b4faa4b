use Rattle.mysql_wire_tool_commands.proofs.ReadLemmas.{none_if}
use Rattle.std.proofs.Common.{rules, ◌≡◌, ℕ, Option, List, [], ◌++◌, refl, sym, ap, ap₂, ◌∙◌, subst, append-nil, append_assoc, take, drop, take-append-drop}
use Rattle.std.proofs.KnownBytes.{Appends-nil, Appends-trans}
use Rattle.std.specs.Io.KnownBytes.{Appends}
use Rattle.wire_codec.specs.Codec.{CodecState}
use Rattle.mysql_wire_tool_commands.specs.declared.unframe.Verdict.{Verdict}
use Rattle.mysql_wire_tool_commands.specs.declared.unframe.Verdict.TheVariants as verdict
use Rattle.mysql_wire_tool_commands.specs.Unframe.{TakesPiece, next_limit, run_state, verdict_line}
use Rattle.mysql_wire_tool_commands.proofs.PacketLineLemmas.{no_bytes}
use Rattle.mysql_wire_tool_commands.proofs.PartLemmas.{parts_join, too_large_part, out_of_sync_part}
use Rattle.mysql_wire_tool_commands.proofs.unframe.take_piece.Goals as goal

-- what was written so far, and what a part makes of it
so_written : (before middle after : CodecState) (limit next : ℕ) (piece rest text more : List ℕ) (ends : Verdict) (old between new : Option (List ℕ)) → limit ≡ next
    → ((verdict : Verdict) (lines : List ℕ) (last : CodecState) → TakesPiece middle limit rest verdict lines last → TakesPiece before limit piece verdict (text ++ lines) last)
    → Appends old between text → TakesPiece middle limit rest ends more after → Appends between new (more ++ verdict_line ends)
    → (all : List ℕ) × TakesPiece before next piece ends all after × Appends old new (all ++ verdict_line ends)
so_written before middle after limit next piece rest text more ends old between new is goes written takes last = (
  text ++ more,
  subst (λ (n : ℕ). TakesPiece before n piece ends (text ++ more) after) is (goes ends more after takes),
  subst (λ (z : List ℕ). Appends old new z) (sym (append_assoc text more (verdict_line ends))) (Appends-trans old between new text (more ++ verdict_line ends) written last),
)

pub parts-init : goal.parts-init
parts-init g c =
    let begun = c.begin_piece-limit.ensures.rest in
    record {
      aligned = rw begun c.requires;
      limits = rw begun (refl, refl, refl);
      so_far = ([], Appends-nil _, λ ends more after takes. rw begun at takes);
    }

-- the parts of what is left
both_parts : (front back rest : List ℕ) (n : ℕ) → front ≡ take n rest → back ≡ drop n rest → front ++ back ≡ rest
both_parts front back rest n front_is back_is = ap₂ (λ (a b : List ℕ). a ++ b) front_is back_is ∙ take-append-drop n rest

pub returns-in-TooLarge-clause-takes : goal.returns-in-TooLarge-clause-takes
returns-in-TooLarge-clause-takes g c =
    let old = c.parts.invariant.so_far in
    let split = c.split_at.ensures in
    let part = rw c.in-TooLarge.is at c.in_ok-take_part.ensures.takes in
    let limit : ℕ = c.begin_piece-limit.result in
    let before : CodecState = run_state c.parts.run in
    let after : CodecState = run_state c.take_part.new.run in
    so_written (run_state c.args.run.now) before after limit (next_limit c.args.run.now) c.args.piece.now c.parts.rest.now old.0 part.0 verdict.TooLarge _ _ _ c.begin_piece-limit.ensures.limit old.2 old.1
    (subst (λ (z : List ℕ). TakesPiece before limit z verdict.TooLarge part.0 after) (both_parts _ _ c.parts.rest.now c.part_len.result split.front split.back)
    (too_large_part before after limit c.split_at.result.0.now c.split_at.result.1.now part.0 part.1))
    part.2

pub returns-in-OutOfSync-clause-takes : goal.returns-in-OutOfSync-clause-takes
returns-in-OutOfSync-clause-takes g c =
    let old = c.parts.invariant.so_far in
    let split = c.split_at.ensures in
    let part = rw c.in-OutOfSync.is at c.in_ok-take_part.ensures.takes in
    let limit : ℕ = c.begin_piece-limit.result in
    let before : CodecState = run_state c.parts.run in
    let after : CodecState = run_state c.take_part.new.run in
    so_written (run_state c.args.run.now) before after limit (next_limit c.args.run.now) c.args.piece.now c.parts.rest.now old.0 part.0 verdict.OutOfSync _ _ _ c.begin_piece-limit.ensures.limit old.2 old.1
    (subst (λ (z : List ℕ). TakesPiece before limit z verdict.OutOfSync part.0 after) (both_parts _ _ c.parts.rest.now c.part_len.result split.front split.back)
    (out_of_sync_part before after limit c.split_at.result.0.now c.split_at.result.1.now part.0 part.1))
    part.2

pub returns-then-is_empty-clause-takes : goal.returns-then-is_empty-clause-takes
returns-then-is_empty-clause-takes g c =
    let old = c.parts.invariant.so_far in
    let split = c.split_at.ensures in
    let part = rw c.in-Waits.is at c.in_ok-take_part.ensures.takes in
    let limit : ℕ = c.begin_piece-limit.result in
    let before : CodecState = run_state c.parts.run in
    let after : CodecState = run_state c.take_part.new.run in
    let all : c.split_at.result.0.now ≡ c.parts.rest.now =
    sym (append-nil c.split_at.result.0.now) ∙ ap (λ (z : List ℕ). c.split_at.result.0.now ++ z) (sym (no_bytes c.split_at.result.1.now (search rules)))
    ∙ both_parts _ _ c.parts.rest.now c.part_len.result split.front split.back in
    so_written (run_state c.args.run.now) before after limit (next_limit c.args.run.now) c.args.piece.now c.parts.rest.now old.0 part.0 verdict.Waits _ _ _ c.begin_piece-limit.ensures.limit old.2 old.1
    (subst (λ (z : List ℕ). TakesPiece before limit z verdict.Waits part.0 after) all part.1)
    part.2

pub parts-preserved : goal.parts-preserved
parts-preserved g c =
    let old = c.parts.invariant.so_far in
    let split = c.split_at.ensures in
    let part = rw c.in-Waits.is at c.in_ok-take_part.ensures.takes in
    let same = c.take_part.ensures.limits in
    let was = c.parts.invariant.limits in
    let limit : ℕ = c.begin_piece-limit.result in
    let before : CodecState = run_state c.parts.run in
    let middle : CodecState = run_state c.take_part.new.run in
    let front : List ℕ = c.split_at.result.0.now in
    let back : List ℕ = c.split_at.result.1.now in
    let written = subst (λ (z : List ℕ). Appends (g.W.Write.contents c.parts.output) (g.W.Write.contents c.take_part.new.output) z) (append-nil part.0) part.2 in
    record {
      aligned = c.in_ok-take_part.ensures.aligned c.in-Waits.is;
      limits = (same.0 ∙ was.0, same.1 ∙ was.1, same.2 ∙ was.2);
      so_far = (
        old.0 ++ part.0,
        Appends-trans _ _ _ old.0 part.0 old.1 written,
        λ ends more after takes.
            let whole = subst (λ (z : List ℕ). TakesPiece before limit z ends (part.0 ++ more) after) (both_parts front back c.parts.rest.now c.part_len.result split.front split.back)
            (parts_join c.framed_length.ensures c.joined_limited_runs.ensures before middle after limit front back part.0 more ends part.1 takes) in
            subst (λ (z : List ℕ). TakesPiece (run_state c.args.run.now) limit c.args.piece.now ends z after) (sym (append_assoc old.0 part.0 more))
            (old.2 ends (part.0 ++ more) after whole),
      );
    }

pub take_part-requires : goal.take_part-requires
take_part-requires g c = c.parts.invariant.aligned

pub split_at-requires : goal.split_at-requires
split_at-requires g c = c.part_len.ensures.within

pub returns-in_err-take_part-clause-takes : goal.returns-in_err-take_part-clause-takes
returns-in_err-take_part-clause-takes g c = none_if c.from_residual.result _ c.from_residual.ensures.0

pub returns-in_err-take_part-clause-aligned : goal.returns-in_err-take_part-clause-aligned
returns-in_err-take_part-clause-aligned g c = none_if c.from_residual.result _ c.from_residual.ensures.0

pub returns-in_err-take_part-clause-limits : goal.returns-in_err-take_part-clause-limits
returns-in_err-take_part-clause-limits g c =
    let same = c.take_part.ensures.limits in
    let was = c.parts.invariant.limits in
    (same.0 ∙ was.0, same.1 ∙ was.1, same.2 ∙ was.2)

pub returns-in-TooLarge-clause-limits : goal.returns-in-TooLarge-clause-limits
returns-in-TooLarge-clause-limits g c =
    let same = c.take_part.ensures.limits in
    let was = c.parts.invariant.limits in
    (same.0 ∙ was.0, same.1 ∙ was.1, same.2 ∙ was.2)

pub returns-in-OutOfSync-clause-limits : goal.returns-in-OutOfSync-clause-limits
returns-in-OutOfSync-clause-limits g c =
    let same = c.take_part.ensures.limits in
    let was = c.parts.invariant.limits in
    (same.0 ∙ was.0, same.1 ∙ was.1, same.2 ∙ was.2)

pub returns-then-is_empty-clause-limits : goal.returns-then-is_empty-clause-limits
returns-then-is_empty-clause-limits g c =
    let same = c.take_part.ensures.limits in
    let was = c.parts.invariant.limits in
    (same.0 ∙ was.0, same.1 ∙ was.1, same.2 ∙ was.2)

too_large_waits : verdict.TooLarge ≡ verdict.Waits → ⊥
too_large_waits is = cc

out_of_sync_waits : verdict.OutOfSync ≡ verdict.Waits → ⊥
out_of_sync_waits is = cc

pub returns-in-TooLarge-clause-aligned : goal.returns-in-TooLarge-clause-aligned
returns-in-TooLarge-clause-aligned g c is = absurd (too_large_waits is)

pub returns-in-OutOfSync-clause-aligned : goal.returns-in-OutOfSync-clause-aligned
returns-in-OutOfSync-clause-aligned g c is = absurd (out_of_sync_waits is)

pub returns-then-is_empty-clause-aligned : goal.returns-then-is_empty-clause-aligned
returns-then-is_empty-clause-aligned g c = λ _. c.in_ok-take_part.ensures.aligned c.in-Waits.is
