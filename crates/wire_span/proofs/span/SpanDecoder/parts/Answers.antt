use Rattle.std.proofs.Common.{sym, ◌∙◌, ap, subst, ℕ, List, length, take, ◌-◌, ◌≡◌}
use Rattle.wire_span.specs.declared.span.Place.{Place}
use Rattle.std.specs.Int.NonZero.{non_zero_usize_get}
use Rattle.wire_span.specs.declared.span.HeaderFront.{HeaderFront}
use Rattle.wire_span.specs.Spans.{front_bytes, SpanPlace, place_of}
use Rattle.wire_span.specs.Parts.{CanStand}
use Rattle.wire_span.proofs.PartLemmas.{state_at, header_back, chunk_back, padded_front}
use Rattle.wire_span.proofs.span.SpanDecoder.parts.Goals.{in-InHeader, in-InChunk}
use Rattle.wire_span.proofs.span.SpanDecoder.parts.Goals as goal

pub returns-clause-state : goal.returns-clause-state
returns-clause-state c = λ stands.
    let self = c.args.self.now in
    let at : ℕ × HeaderFront = c.match-self.left in
    let bytes : List ℕ = take c.len.result c.padded.result in
    let came : bytes ≡ front_bytes at.1 = padded_front (front_bytes at.1) c.padded.result (3 - length (front_bytes at.1)) c.len.result c.padded.ensures c.len.ensures in
    ap (λ (p : SpanPlace). state_at self.max_allowed_packet self.seq_id self.size p) (elim c.match-self.branch [
      | in-InHeader w ↦
          header_back self.size at.0 (front_bytes w.in-InHeader.came) bytes
          (ap (λ (x : ℕ × HeaderFront). x.0) w.left-is)
          (came ∙ ap (λ (x : ℕ × HeaderFront). front_bytes x.1) w.left-is)
          ∙ sym (ap place_of w.in-InHeader.is)
      | in-InChunk w ↦
          chunk_back self.max_allowed_packet self.seq_id self.size at.0 (non_zero_usize_get w.in-InChunk.left) w.in-InChunk.is_full bytes
          (ap (λ (x : ℕ × HeaderFront). x.0) w.left-is ∙ w.get.ensures.value)
          (subst (λ (p : Place). CanStand (state_at self.max_allowed_packet self.seq_id self.size (place_of p))) w.in-InChunk.is stands)
          ∙ sym (ap place_of w.in-InChunk.is)
    ])
