use Rattle.std.proofs.Common.{ℕ, [], sym, subst, ◌∙◌, true}
use Rattle.wire_codec.specs.Codec.{expected_id, header_of, StandsAt}
use Rattle.wire_codec.specs.LimitedRuns.{run_limits}
use Rattle.wire_codec.specs.Refusals.{answer_of}
use Rattle.wire_codec.proofs.GoingOnLemmas.{start_mark, goes_on_start}
use Rattle.wire_codec.proofs.AnswerLemmas.{decoded_stands, is_ok}
use Rattle.wire_codec.proofs.BoundLemmas.{decoded_bounded}
use Rattle.wire_codec.proofs.codec.packet.PacketCodec.decode.Goals as goal

pub returns-clause-aligned : goal.returns-clause-aligned
returns-clause-aligned g c aligned =
    let held = g.T.PacketDst.held c.args.dst.now in
    let src = c.args.src.now.items in
    let limit = c.args.self.now.max_allowed_packet in
    let header = header_of c.args.self.now in
    let id = expected_id c.args.self.now in
    let limits = run_limits (record { limit = limit; id = id; header = header; unread = src; held = held }) [] in
    let start = goes_on_start limit id header src held [] aligned in
    rw c.answered.ensures (c.decode_on.ensures.on limits (start_mark header held) 0 start).0

pub returns-clause-bounded : goal.returns-clause-bounded
returns-clause-bounded g c stands waits = decoded_bounded (answer_of c.decode_on.result) _ _ _ _ _ _ _ _ (sym c.answered.ensures ∙ waits) (c.decode_on.ensures.decodes stands)

pub returns-clause-stands : goal.returns-clause-stands
returns-clause-stands g c stands part sync =
    let after = c.decode_on.new.self in
    subst (λ (n : ℕ). StandsAt n (header_of after) c.decode_on.new.src.items (g.T.PacketDst.held c.decode_on.new.dst)) (sym c.decode_on.ensures.limit)
    (decoded_stands (answer_of c.decode_on.result) _ _ _ _ _ _ _ _ (λ is. part (c.answered.ensures ∙ is)) (λ is. sync (c.answered.ensures ∙ is)) (c.decode_on.ensures.decodes stands))

pub returns-clause-decodes : goal.returns-clause-decodes
returns-clause-decodes g c stands = rw c.answered.ensures (c.decode_on.ensures.decodes stands)

pub returns-clause-chain : goal.returns-clause-chain
returns-clause-chain g c = rw c.answered.ensures c.decode_on.ensures.chain

pub returns-clause-memory : goal.returns-clause-memory
returns-clause-memory g c said = c.decode_on.ensures.memory (sym c.answered.ensures ∙ said)

pub returns-clause-shorter : goal.returns-clause-shorter
returns-clause-shorter g c said = c.decode_on.ensures.shorter (is_ok c.decode_on.result true (sym c.answered.ensures ∙ said))
