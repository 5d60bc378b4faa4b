use Rattle.std.proofs.Common.{rules, ◌≡◌, List, ℕ, ◌++◌, ◌+◌, take, drop, length, length-drop, ◌-◌, ◌≤◌, Result, Ok, Err, OnOk, arith, ap, sym, subst, inr, refl, ◌∙◌}
use Rattle.std.proofs.Math.Seq.{take-add}
use Rattle.std.proofs.lemmas.List.{append_assoc, take_rest}
use Rattle.std.proofs.lemmas.Grind.{flat_map-append}
use Rattle.mysql_wire.specs.Codec.{codec_state}
use Rattle.mysql_wire.specs.PacketCodecError.{PacketCodecError}
use Rattle.mysql_wire.specs.PacketCodecError.TheVariants.{OutOfMemory}
use Rattle.mysql_wire.specs.Runs.{joined, RunsTo}
use Rattle.mysql_wire_examples.proofs.again.deliver_again.Goals as goal

-- the pieces that were not appended are all that were left
all_more : (answer : Result (Unit {0}) PacketCodecError) (count more left all : ℕ) → count ≤ all → left ≡ all - count → OnOk answer (more ≡ left) → OnOk answer (count + more ≡ all)
all_more (Ok done) count more left all fits is told = omega arith
all_more (Err error) count more left all fits is told = tt

pub runs-preserved : goal.runs-preserved
runs-preserved g c =
    let pieces = c.args.pieces.now in
    let count = c.runs.count in
    let more = c.deliver-more.result.0 in
    let before = codec_state c.args.codec.now c.args.src.now.items c.args.dst.now.items in
    let between = codec_state c.runs.codec c.runs.src.items c.runs.dst.items in
    let after = codec_state c.deliver-more.new.codec c.deliver-more.new.src.items c.deliver-more.new.dst.items in
    let old = c.runs.invariant.so_far in
    let new = c.deliver-more.ensures.runs in
    let is_refused : c.runs.answer ≡ Err OutOfMemory = search rules in
    let stopped : RunsTo before (joined (take count pieces)) (Err OutOfMemory) old.0 between =
    rw is_refused at old.2 in
    let over : RunsTo between (joined (take more (drop count pieces))) c.deliver-more.result.1 new.0 after =
    subst (λ (z : List _). RunsTo between (joined (take more z)) c.deliver-more.result.1 new.0 after)
    (take_rest pieces count) new.2 in
    let all = c.run_goes_on.ensures before between after (joined (take count pieces)) (joined (take more (drop count pieces)))
    (Err OutOfMemory) c.deliver-more.result.1 old.0 new.0 (inr refl) stopped c.runs.invariant.limited over in
    let bytes : joined (take count pieces) ++ joined (take more (drop count pieces)) ≡ joined (take (count + more) pieces) =
    sym (ap joined (take-add count more pieces) ∙ flat_map-append _ (take count pieces) (take more (drop count pieces))) in
    record {
      counted = search rules;
      all = all_more c.deliver-more.result.1 count more _ (length pieces) c.runs.invariant.counted (ap (λ (z : List _). length z) (take_rest pieces count) ∙ length-drop count pieces) c.deliver-more.ensures.all;
      limited = c.deliver-more.ensures.limit ∙ c.runs.invariant.limited;
      stands = c.deliver-more.ensures.stands;
      so_far = (
        old.0 ++ new.0,
        new.1 ∙ ap (λ (z : List (List ℕ)). z ++ new.0) old.1 ∙ append_assoc _ old.0 new.0,
        subst (λ (z : List ℕ). RunsTo before z c.deliver-more.result.1 (old.0 ++ new.0) after) bytes all,
      );
    }

pub returns : goal.returns
returns g c =
    let old = c.runs.invariant in
    record { runs = old.so_far; count = old.counted; all = old.all; stands = old.stands; limit = old.limited }

pub returns-in_default : goal.returns-in_default
returns-in_default g c =
    let old = c.runs.invariant in
    record { runs = old.so_far; count = old.counted; all = old.all; stands = old.stands; limit = old.limited }
