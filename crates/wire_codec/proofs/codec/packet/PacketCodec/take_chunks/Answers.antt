use Rattle.std.proofs.Common.{subst, refl, sym, inl, inr, ap, arith, ◌∙◌, ℕ, true, false, zero, suc, Ok, Err}
use Rattle.wire_codec.specs.declared.codec.error.PacketCodecError.TheVariants.{OutOfMemory}
use Rattle.wire_codec.specs.declared.codec.packet.Progress.{Progress}
use Rattle.wire_codec.specs.declared.codec.packet.Progress.TheVariants.{Whole, Starved, More}
use Rattle.wire_codec.specs.Chain.{ChainFrom}
use Rattle.wire_codec.specs.Codec.{open_id, codec_state, expected_id, LinksChain}
use Rattle.wire_codec.specs.Refusals.{error_of}
use Rattle.wire_codec.proofs.CodecLemmas.{splits_here, open_at_id, open_small, stands_without}
use Rattle.wire_codec.proofs.AnswerLemmas.{no_true, no_ok}
use Rattle.wire_codec.proofs.ChainLemmas.{chain_had_chunk}
use Rattle.wire_codec.proofs.GoingOnLemmas.{splits_here_under}
use Rattle.wire_codec.proofs.LoopLemmas.{step_takes, step_takes_under}
use Rattle.wire_codec.proofs.codec.packet.PacketCodec.take_chunks.Goals as goal

pub returns-in-Err-clause-decodes : goal.returns-in-Err-clause-decodes
returns-in-Err-clause-decodes g c stands =
    let held = g.T.PacketDst.held in
    let start = codec_state c.args.self.now c.args.src.now.items (held c.args.dst.now) in
    let before = codec_state c.chunks.self c.chunks.src.items (held c.chunks.dst) in
    let after = codec_state c.take_chunk.new.self c.take_chunk.new.src.items (held c.take_chunk.new.dst) in
    step_takes (Err (error_of c.in-Err.refusal)) start before after c.chunks.invariant.same (c.chunks.invariant.runs stands) (c.in-Err.ensures.takes)

pub returns-in-Err-clause-on : goal.returns-in-Err-clause-on
returns-in-Err-clause-on g c limits mark place at =
    let held = g.T.PacketDst.held in
    let start = codec_state c.args.self.now c.args.src.now.items (held c.args.dst.now) in
    let before = codec_state c.chunks.self c.chunks.src.items (held c.chunks.dst) in
    let after = codec_state c.take_chunk.new.self c.take_chunk.new.src.items (held c.take_chunk.new.dst) in
    step_takes_under (Err (error_of c.in-Err.refusal)) limits mark place start before after c.chunks.invariant.same (c.chunks.invariant.on limits mark place at) (c.in-Err.ensures.on)

pub returns-in-Ok-Whole-clause-decodes : goal.returns-in-Ok-Whole-clause-decodes
returns-in-Ok-Whole-clause-decodes g c stands =
    let held = g.T.PacketDst.held in
    let start = codec_state c.args.self.now c.args.src.now.items (held c.args.dst.now) in
    let before = codec_state c.chunks.self c.chunks.src.items (held c.chunks.dst) in
    let after = codec_state c.take_chunk.new.self c.take_chunk.new.src.items (held c.take_chunk.new.dst) in
    step_takes (Ok Whole) start before after c.chunks.invariant.same (c.chunks.invariant.runs stands) (rw c.in-Ok-Whole.field-0-is at c.in-Ok-Whole.ensures.takes)

pub returns-in-Ok-Whole-clause-on : goal.returns-in-Ok-Whole-clause-on
returns-in-Ok-Whole-clause-on g c limits mark place at =
    let held = g.T.PacketDst.held in
    let start = codec_state c.args.self.now c.args.src.now.items (held c.args.dst.now) in
    let before = codec_state c.chunks.self c.chunks.src.items (held c.chunks.dst) in
    let after = codec_state c.take_chunk.new.self c.take_chunk.new.src.items (held c.take_chunk.new.dst) in
    step_takes_under (Ok Whole) limits mark place start before after c.chunks.invariant.same (c.chunks.invariant.on limits mark place at) (rw c.in-Ok-Whole.field-0-is at c.in-Ok-Whole.ensures.on)

pub returns-in-Ok-Starved-clause-decodes : goal.returns-in-Ok-Starved-clause-decodes
returns-in-Ok-Starved-clause-decodes g c stands =
    let held = g.T.PacketDst.held in
    let start = codec_state c.args.self.now c.args.src.now.items (held c.args.dst.now) in
    let before = codec_state c.chunks.self c.chunks.src.items (held c.chunks.dst) in
    let after = codec_state c.take_chunk.new.self c.take_chunk.new.src.items (held c.take_chunk.new.dst) in
    step_takes (Ok Starved) start before after c.chunks.invariant.same (c.chunks.invariant.runs stands) (rw c.in-Ok-Starved.field-0-is at c.in-Ok-Starved.ensures.takes)

pub returns-in-Ok-Starved-clause-on : goal.returns-in-Ok-Starved-clause-on
returns-in-Ok-Starved-clause-on g c limits mark place at =
    let held = g.T.PacketDst.held in
    let start = codec_state c.args.self.now c.args.src.now.items (held c.args.dst.now) in
    let before = codec_state c.chunks.self c.chunks.src.items (held c.chunks.dst) in
    let after = codec_state c.take_chunk.new.self c.take_chunk.new.src.items (held c.take_chunk.new.dst) in
    step_takes_under (Ok Starved) limits mark place start before after c.chunks.invariant.same (c.chunks.invariant.on limits mark place at) (rw c.in-Ok-Starved.field-0-is at c.in-Ok-Starved.ensures.on)

pub chunks-init : goal.chunks-init
chunks-init g c =
    let held = g.T.PacketDst.held c.args.dst.now in
    record {
      chain = λ n a i h r f t. (n, t);
      shorter = omega arith;
      same = refl;
      runs = λ stands. (splits_here (open_id (expected_id c.args.self.now) held) c.args.self.now.max_allowed_packet held c.args.src.now.items stands.0, stands, refl);
      on = λ limits mark place on. (splits_here_under limits place (open_id (expected_id c.args.self.now) held) held c.args.src.now.items on.aligned.0, on, refl);
    }

pub chunks-preserved : goal.chunks-preserved
chunks-preserved g c =
    let held = g.T.PacketDst.held in
    let start = codec_state c.args.self.now c.args.src.now.items (held c.args.dst.now) in
    let before = codec_state c.chunks.self c.chunks.src.items (held c.chunks.dst) in
    let after = codec_state c.take_chunk.new.self c.take_chunk.new.src.items (held c.take_chunk.new.dst) in
    let links = subst (λ (z : ℕ). LinksChain z before.id before.header before.unread before.held (Ok More) after.id after.header after.unread after.held) c.chunks.invariant.same (rw c.in-Ok-More.field-0-is at c.in-Ok-More.ensures.links) in
    let takes = rw c.in-Ok-More.field-0-is at c.in-Ok-More.ensures.takes in
    let takes_on = rw c.in-Ok-More.field-0-is at c.in-Ok-More.ensures.on in
    record {
      chain = λ n a i h r f t. c.chunks.invariant.chain (suc n) a i h r f
          (inr (after.header, after.unread, after.held, links.0, links.1, subst (λ (z : ℕ). ChainFrom n start.limit z after.header after.unread after.held a i h r f) links.2 t));
      shorter = (let m = c.take_chunk.ensures.more (c.in-Ok-More.is ∙ ap (λ (z : Progress). Ok z) c.in-Ok-More.field-0-is) in omega arith);
      same = c.take_chunk.ensures.limit ∙ c.chunks.invariant.same;
      runs = λ stands.
          let on = step_takes (Ok More) start before after c.chunks.invariant.same (c.chunks.invariant.runs stands) takes in (
            on.0,
            stands_without start.limit after.unread after.held after.header on.0.unfinished_whole on.2,
            ap (λ (n : ℕ). open_id n after.held) on.1 ∙ open_at_id _ after.held (open_small start.id start.held),
          );
      on = λ limits mark place at.
          let on = step_takes_under (Ok More) limits mark place start before after c.chunks.invariant.same (c.chunks.invariant.on limits mark place at) takes_on in
          (on.0, on.2, ap (λ (n : ℕ). open_id n after.held) on.1 ∙ open_at_id _ after.held (open_small start.id start.held));
    }

pub returns-in-Ok-Whole-clause-chain : goal.returns-in-Ok-Whole-clause-chain
returns-in-Ok-Whole-clause-chain g c =
    let held = g.T.PacketDst.held in
    let before = codec_state c.chunks.self c.chunks.src.items (held c.chunks.dst) in
    let after = codec_state c.take_chunk.new.self c.take_chunk.new.src.items (held c.take_chunk.new.dst) in
    let links = subst (λ (z : ℕ). LinksChain z before.id before.header before.unread before.held (Ok Whole) after.id after.header after.unread after.held) c.chunks.invariant.same (rw c.in-Ok-Whole.field-0-is at c.in-Ok-Whole.ensures.links) in
    c.chunks.invariant.chain (suc zero) (Ok true) after.id after.header after.unread after.held (inl (refl, links))

pub returns-in-Ok-Starved-clause-chain : goal.returns-in-Ok-Starved-clause-chain
returns-in-Ok-Starved-clause-chain g c =
    let held = g.T.PacketDst.held in
    let before = codec_state c.chunks.self c.chunks.src.items (held c.chunks.dst) in
    let after = codec_state c.take_chunk.new.self c.take_chunk.new.src.items (held c.take_chunk.new.dst) in
    let links = subst (λ (z : ℕ). LinksChain z before.id before.header before.unread before.held (Ok Starved) after.id after.header after.unread after.held) c.chunks.invariant.same (rw c.in-Ok-Starved.field-0-is at c.in-Ok-Starved.ensures.links) in
    elim links [
      | inl accepted ↦ c.chunks.invariant.chain (suc zero) (Ok false) after.id after.header after.unread after.held (inl (refl, accepted))
      | inr refused ↦ c.chunks.invariant.chain zero (Ok false) after.id after.header after.unread after.held refused
    ]

pub returns-in-Err-clause-chain : goal.returns-in-Err-clause-chain
returns-in-Err-clause-chain g c =
    let held = g.T.PacketDst.held in
    let before = codec_state c.chunks.self c.chunks.src.items (held c.chunks.dst) in
    let after = codec_state c.take_chunk.new.self c.take_chunk.new.src.items (held c.take_chunk.new.dst) in
    let links = subst (λ (z : ℕ). LinksChain z before.id before.header before.unread before.held (Err (error_of c.in-Err.refusal)) after.id after.header after.unread after.held) c.chunks.invariant.same (c.in-Err.ensures.links) in
    c.chunks.invariant.chain zero (Err (error_of c.in-Err.refusal)) after.id after.header after.unread after.held links

pub returns-in-Err-clause-memory : goal.returns-in-Err-clause-memory
returns-in-Err-clause-memory g c refused =
    let all = returns-in-Err-clause-chain g c in
    chain_had_chunk _ _ _ _ _ _ _ _ _ _ (rw refused at all.1)

pub returns-in-Ok-Whole-clause-shorter : goal.returns-in-Ok-Whole-clause-shorter
returns-in-Ok-Whole-clause-shorter g c said =
    let less = c.take_chunk.ensures.whole (c.in-Ok-Whole.is ∙ ap (λ (p : Progress). Ok p) c.in-Ok-Whole.field-0-is) in
    let left = c.chunks.invariant.shorter in
    omega (arith, less, left)

pub returns-in-Ok-Starved-clause-shorter : goal.returns-in-Ok-Starved-clause-shorter
returns-in-Ok-Starved-clause-shorter g c said = absurd (no_true (Ok false) refl said)

pub returns-in-Err-clause-shorter : goal.returns-in-Err-clause-shorter
returns-in-Err-clause-shorter g c said = absurd (no_ok (Err c.in-Err.refusal) c.in-Err.refusal _ refl said)

pub returns-in-Err-clause-limit : goal.returns-in-Err-clause-limit
returns-in-Err-clause-limit g c = c.take_chunk.ensures.limit ∙ c.chunks.invariant.same

pub returns-in-Ok-Whole-clause-limit : goal.returns-in-Ok-Whole-clause-limit
returns-in-Ok-Whole-clause-limit g c = c.take_chunk.ensures.limit ∙ c.chunks.invariant.same

pub returns-in-Ok-Starved-clause-limit : goal.returns-in-Ok-Starved-clause-limit
returns-in-Ok-Starved-clause-limit g c = c.take_chunk.ensures.limit ∙ c.chunks.invariant.same

pub returns-in-Ok-Whole-clause-memory : goal.returns-in-Ok-Whole-clause-memory
returns-in-Ok-Whole-clause-memory g c said = absurd (no_ok (Err OutOfMemory) OutOfMemory _ refl (sym said))

pub returns-in-Ok-Starved-clause-memory : goal.returns-in-Ok-Starved-clause-memory
returns-in-Ok-Starved-clause-memory g c said = absurd (no_ok (Err OutOfMemory) OutOfMemory _ refl (sym said))
