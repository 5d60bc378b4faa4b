use Rattle.std.proofs.Common.{ℕ, List, ◌++◌, ◌∙◌, sym, ap, take, refl, subst, ◌<◌, ◌≤◌, length}
use Rattle.wire_codec.specs.Codec.{codec_state, expected_id}
use Rattle.mysql_wire_tool_commands.proofs.ReframeLemmas.{renumbered, begun_again, more_sends}
use Rattle.mysql_wire_tool_commands.proofs.reframe.pass_whole.Goals as goal

pub returns-clause-copies : goal.returns-clause-copies
returns-clause-copies g c = λ limit unread written so.
    let front = c.requires.front in
    let codec = c.requires.codec in
    let all = c.args.from.now.unread in
    let len = c.whole_packets-len.result in
    let before = codec_state c.args.decoder.now all c.args.from.now.held in
    let begun = c.codec_at-behind.ensures in
    let here = renumbered c.between_packets.ensures limit before (expected_id c.args.encoder.now) so.0 so.1 codec.1 codec.0 front.not_held so.2 in
    let again = begun_again limit c.args.decoder.now c.codec_at-behind.result all c.args.from.now.held so.0 so.1
    (begun.id ∙ c.sequence_id.ensures) (begun.header ∙ sym codec.0) begun.limit front.not_held here in
    let now = (rw (c.unread-unread.ensures) at c.whole_packets-len.ensures.passes).2 limit so.0 so.1 again in
    let more = more_sends so.1 c.args.to.now.pending.items (take len all) _ _ so.4 in
    let id = c.set_sequence_id.ensures.id ∙ c.sequence_id-2.ensures in
    let put = c.in-Ok.ensures.ok ∙ ap (λ (z : List ℕ). c.args.to.now.pending.items ++ z) (c.split_at.ensures.front ∙ ap (λ (z : List ℕ). take len z) c.unread-unread.ensures) in
    rw (c.consume.ensures, front.not_held, id, put) (so.0, so.1 ++ take len all, now, so.3, more)

pub returns-in_default-clause-front : goal.returns-in_default-clause-front
returns-in_default-clause-front g c = c.requires.front

pub returns-in_default-clause-codec : goal.returns-in_default-clause-codec
returns-in_default-clause-codec g c = c.requires.codec

pub returns-in_default-clause-limits : goal.returns-in_default-clause-limits
returns-in_default-clause-limits g c = (refl, refl)

pub returns-clause-front : goal.returns-clause-front
returns-clause-front g c =
    let front = c.requires.front in
    rw c.consume.ensures (record {
      not_copied = front.not_copied;
      not_lost = front.not_lost;
      not_lent = front.not_lent;
      not_held = front.not_held;
    })

pub returns-clause-limits : goal.returns-clause-limits
returns-clause-limits g c =
    (c.whole_packets-len.ensures.limit ∙ c.codec_at-behind.ensures.limit, c.set_sequence_id.ensures.limit)

pub whole_packets-len-requires : goal.whole_packets-len-requires
whole_packets-len-requires g c =
    let id = c.codec_at-behind.ensures.id ∙ c.sequence_id.ensures in record {
      codec = (c.codec_at-behind.ensures.header, subst (λ (n : ℕ). n < 256) (sym id) c.requires.codec.1);
    }

pub returns-clause-codec : goal.returns-clause-codec
returns-clause-codec g c = c.whole_packets-len.ensures.passes.1

pub split_at-requires : goal.split_at-requires
split_at-requires g c = c.whole_packets-len.ensures.passes.0

pub consume-requires : goal.consume-requires
consume-requires g c =
    record {
      count = subst (λ (z : List ℕ). c.whole_packets-len.result ≤ length z) c.unread-unread.ensures c.whole_packets-len.ensures.passes.0;
      none = c.requires.front.not_lent;
    }
