use Rattle.std.proofs.Common.{◌≡◌, ℕ, ◌+◌, ◌/◌, ◌%◌, ◌++◌, length, min, drop, sym, ap, ◌∙◌, arith, add-one, refl, None}
use Rattle.wire_codec.specs.Framing.{max_payload, max_payload_is, chunks}
use Rattle.wire_codec.proofs.ChunkLemmas.{left_more, chunk_behind, length-framing}
use Rattle.wire_codec.proofs.codec.framing.packet_to_slice.Goals as goal

pub put_chunk_at-requires-clause-small : goal.put_chunk_at-requires-clause-small
put_chunk_at-requires-clause-small c =
    let size = c.split_at.ensures.front_len in
    let is = c.min.ensures in
    omega (arith, max_payload_is, size, is)

pub put_chunk_at-requires-clause-room : goal.put_chunk_at-requires-clause-room
put_chunk_at-requires-clause-room c =
    let same : length c.args.packet.now / max_payload ≡ length c.args.packet.now / 16777215 = ap (λ (n : ℕ). length c.args.packet.now / n) max_payload_is in
    let size = c.split_at.ensures.front_len in
    let is = c.min.ensures in
    let inv = c.loop.invariant in
    omega (arith, same, size, is, inv.count, inv.size, c.if-room-needed.false, c.in_ok-needed.ensures)

pub loop-preserved : goal.loop-preserved
loop-preserved c =
    let inv = c.loop.invariant in
    let rest = c.loop.rest.now in
    let is_len : c.min.result ≡ min (length rest) max_payload = c.min.ensures ∙ ap (λ (n : ℕ). min (length rest) n) (sym max_payload_is) in
    let step = chunk_behind c.args.room.now c.loop.room c.put_chunk_at.new.room c.args.packet.now rest c.split_at.result.0.now c.loop.at c.loop.counter c.args.seq_id c.loop.next c.min.result
    inv.written inv.ended c.put_chunk_at.ensures c.split_at.ensures.front inv.left inv.id is_len in
    let front_len = c.split_at.ensures.front_len in
    let back_len = c.split_at.ensures.back_len in
    record {
      id = let old = inv.id in omega (arith, old);
      written = step.0;
      ended = step.1;
      left = c.split_at.ensures.back ∙ left_more rest c.args.packet.now c.loop.counter c.min.result inv.left is_len;
      count = omega (arith, inv.count, front_len, back_len);
      size = c.put_chunk_at.auto.room ∙ inv.size;
    }

pub returns-in_err-needed-clause-small : goal.returns-in_err-needed-clause-small
returns-in_err-needed-clause-small c =
    let none : c.from_residual.result ≡ None = c.from_residual.ensures in
    let len = length-framing c.args.seq_id c.args.packet.now in
    let above = c.in_err-needed.ensures in
    rw none (refl, omega (arith, len, above))

pub returns-then-room-needed-clause-small : goal.returns-then-room-needed-clause-small
returns-then-room-needed-clause-small c =
    let len = length-framing c.args.seq_id c.args.packet.now in
    (refl, omega (arith, len, c.if-room-needed.true, c.in_ok-needed.ensures))

pub returns : goal.returns
returns c =
    let p = c.args.packet.now in
    let inv = c.loop.invariant in
    let same : length p / max_payload ≡ length p / 16777215 = ap (λ (n : ℕ). length p / n) max_payload_is in
    let all : c.loop.counter ≡ length p / max_payload + 1 = omega arith in
    let count = all ∙ add-one (length p / max_payload) in
    record {
      written = (
        omega (arith, inv.count, all, c.if-room-needed.false, c.in_ok-needed.ensures),
        inv.written ∙ ap (λ (n : ℕ). chunks n c.args.seq_id p ++ drop c.loop.at c.args.room.now) count,
      );
      len = sym inv.ended ∙ ap (λ (n : ℕ). length (chunks n c.args.seq_id p)) count;
      next = inv.id ∙ ap (λ (n : ℕ). n % 256) (omega (arith, all));
      small = tt;
    }
