use Rattle.std.proofs.Common.{ℕ, ◌<◌, ◌∙◌, refl, sym, subst}
use Rattle.std.proofs.lemmas.Bool.{false≢true}
use Rattle.wire_codec.proofs.codec.packet.PacketCodec.aligned_before.Goals as goal

pub returns-then-not-is_full_chunks : goal.returns-then-not-is_full_chunks
returns-then-not-is_full_chunks c = (
  λ e. absurd (false≢true e),
  λ aligned. absurd (false≢true (sym c.if-not-is_full_chunks.true ∙ c.is_full_chunks.ensures.1 aligned.0)),
)

pub returns-in-Idle : goal.returns-in-Idle
returns-in-Idle c =
    let whole = c.is_full_chunks.ensures.0 c.if-not-is_full_chunks.false in
    (λ e. rw c.in-Idle.is (whole, tt), λ aligned. refl)

pub returns-in-Chunk : goal.returns-in-Chunk
returns-in-Chunk c =
    let whole = c.is_full_chunks.ensures.0 c.if-not-is_full_chunks.false in
    let value = c.get.ensures.value in
    let some = subst (λ (n : ℕ). 0 < n) value c.get.ensures.nonzero in (
      λ e.
          let there = c.has_header.ensures.0 e in
          rw c.in-Chunk.is (whole, (there.0, there.1, there.2 ∙ value, some)),
      λ aligned.
          let s = rw c.in-Chunk.is at aligned in
          c.has_header.ensures.1 (s.1.0, s.1.1, s.1.2 ∙ sym value),
    )
