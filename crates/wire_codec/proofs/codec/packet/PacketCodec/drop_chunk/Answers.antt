use Rattle.std.proofs.Common.{◌<◌, ◌∙◌, ℕ, length, sym, ap, arith, eqb-true, min}
use Rattle.wire_codec.specs.Framing.{max_payload_is}
use Rattle.wire_codec.proofs.SkipLemmas.{all_came, dropped_part, dropped_other, dropped_last, dropped_middle, dropped_alone, came_whole}
use Rattle.wire_codec.proofs.codec.packet.PacketCodec.drop_chunk.Goals as goal

pub returns-in-Some-clause-drops : goal.returns-in-Some-clause-drops
returns-in-Some-clause-drops g c full at =
    let counted = c.min-count.ensures ∙ ap (λ (n : ℕ). min c.args.left n) c.len.ensures.value in
    let more : 0 < c.in-Some.left.value = omega (arith, c.in-Some.left.ok) in
    dropped_part c.in-Some.left (omega (arith, c.requires)) at c.advance.ensures.items counted c.in-Some.ensures more

pub returns-then-header-expected-clause-drops : goal.returns-then-header-expected-clause-drops
returns-then-header-expected-clause-drops g c full at =
    let counted = c.min-count.ensures ∙ ap (λ (n : ℕ). min c.args.left n) c.len.ensures.value in
    let came = all_came (omega (arith, c.requires)) at counted c.in_default.ensures c.advance.ensures.items in
    dropped_other came (λ e. c.if-header-expected.true (e ∙ sym c.requires))

pub returns-then-header-lt-MAX_PAYLOAD_LEN-clause-drops : goal.returns-then-header-lt-MAX_PAYLOAD_LEN-clause-drops
returns-then-header-lt-MAX_PAYLOAD_LEN-clause-drops g c full at =
    let counted = c.min-count.ensures ∙ ap (λ (n : ℕ). min c.args.left n) c.len.ensures.value in
    let came = all_came (omega (arith, c.requires)) at counted c.in_default.ensures c.advance.ensures.items in
    rw c.requires (dropped_last came (c.if-header-expected.false ∙ c.requires) (omega (arith, max_payload_is, c.if-header-lt-MAX_PAYLOAD_LEN.true)))

pub returns-then-is_empty-clause-drops : goal.returns-then-is_empty-clause-drops
returns-then-is_empty-clause-drops g c full at =
    let counted = c.min-count.ensures ∙ ap (λ (n : ℕ). min c.args.left n) c.len.ensures.value in
    let came = all_came (omega (arith, c.requires)) at counted c.in_default.ensures c.advance.ensures.items in
    rw c.requires (dropped_alone c.min.result came (c.if-header-expected.false ∙ c.requires) (omega (arith, max_payload_is, c.if-header-lt-MAX_PAYLOAD_LEN.false))
    (c.min.ensures ∙ ap (λ (n : ℕ). min n c.args.self.now.max_allowed_packet) c.saturating_add-held.ensures) (omega arith)
    (eqb-true (length c.advance.new.self.items) 0 (sym c.is_empty.ensures ∙ c.if-is_empty.true)))

pub returns-else-is_empty-clause-drops : goal.returns-else-is_empty-clause-drops
returns-else-is_empty-clause-drops g c full at =
    let counted = c.min-count.ensures ∙ ap (λ (n : ℕ). min c.args.left n) c.len.ensures.value in
    let came = all_came (omega (arith, c.requires)) at counted c.in_default.ensures c.advance.ensures.items in
    rw c.requires (dropped_middle c.min.result came (c.if-header-expected.false ∙ c.requires) (omega (arith, max_payload_is, c.if-header-lt-MAX_PAYLOAD_LEN.false))
    (c.min.ensures ∙ ap (λ (n : ℕ). min n c.args.self.now.max_allowed_packet) c.saturating_add-held.ensures) (omega arith))

pub returns-then-is_empty-clause-more : goal.returns-then-is_empty-clause-more
returns-then-is_empty-clause-more g c said =
    came_whole c.args.left c.min-count.result c.args.src.now.items c.advance.new.self.items (c.min-count.ensures ∙ ap (λ (n : ℕ). min c.args.left n) c.len.ensures.value) c.in_default.ensures c.advance.ensures.items

pub returns-else-is_empty-clause-more : goal.returns-else-is_empty-clause-more
returns-else-is_empty-clause-more g c said =
    came_whole c.args.left c.min-count.result c.args.src.now.items c.advance.new.self.items (c.min-count.ensures ∙ ap (λ (n : ℕ). min c.args.left n) c.len.ensures.value) c.in_default.ensures c.advance.ensures.items
