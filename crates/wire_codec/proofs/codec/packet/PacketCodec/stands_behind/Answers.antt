use Rattle.std.proofs.Common.{ℕ, ◌%◌, ◌<◌, ◌∙◌, refl, sym, ap, subst, arith}
use Rattle.std.proofs.lemmas.Bool.{false≢true}
use Rattle.wire_codec.specs.Framing.{max_payload}
use Rattle.wire_codec.proofs.codec.packet.PacketCodec.stands_behind.Goals as goal

pub returns-then-not-is_full_chunks : goal.returns-then-not-is_full_chunks
returns-then-not-is_full_chunks c dst same = (
  λ e. absurd (false≢true e),
  λ stands. absurd (false≢true (sym c.if-not-is_full_chunks.true ∙ c.is_full_chunks.ensures.1 (ap (λ (n : ℕ). n % max_payload) (sym same) ∙ stands.0))),
)

pub returns-in-Idle : goal.returns-in-Idle
returns-in-Idle c dst same =
    let whole = ap (λ (n : ℕ). n % max_payload) same ∙ c.is_full_chunks.ensures.0 c.if-not-is_full_chunks.false in
    (λ e. rw c.in-Idle.is (whole, tt), λ stands. refl)

pub returns-else-has_header : goal.returns-else-has_header
returns-else-has_header c dst same = (
  λ e. absurd (false≢true (sym c.if-has_header.false ∙ e)),
  λ stands.
      let s = rw c.in-Chunk.is at stands in
      c.has_header.ensures.1 (s.1.0, s.1.1, s.1.2 ∙ sym c.get.ensures.value),
)

pub returns-then-has_header : goal.returns-then-has_header
returns-then-has_header c dst same =
    let whole = ap (λ (n : ℕ). n % max_payload) same ∙ c.is_full_chunks.ensures.0 c.if-not-is_full_chunks.false in
    let there = c.has_header.ensures.0 c.if-has_header.true in
    let value = c.get-then-has_header.ensures.value in
    let some = subst (λ (n : ℕ). 0 < n) value c.get-then-has_header.ensures.nonzero in (
      λ fit. rw c.in-Chunk.is (whole, (there.0, there.1, there.2 ∙ c.get.ensures.value, some, let within = c.fits.ensures.0 fit in omega (arith, within, same, value))),
      λ stands.
          let s = rw c.in-Chunk.is at stands in
          c.fits.ensures.1 (let within = s.1.4 in omega (arith, within, same, value)),
    )
