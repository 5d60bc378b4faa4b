use Rattle.std.proofs.Common.{◌≡◌, ℕ, ◌+◌, ◌-◌, ◌<◌, ◌≤◌, ◌==◌, List, take, drop, ap, length, slice_index, sym, ◌∙◌, refl, subst, arith, eqb-true, MatchOption}
use Rattle.std.proofs.lemmas.Bool.{false≢true}
use Rattle.wire_codec.specs.Delivery.{chunk_len}
use Rattle.wire_codec.specs.Framing.{max_payload, max_payload_is}
use Rattle.wire_codec.specs.Codec.{header_of, expected_id}
use Rattle.wire_codec.proofs.InPlaceLemmas.{front_passes, front_there, front_decodes_at}
use Rattle.wire_codec.proofs.codec.packet.PacketCodec.front_packet_in.Goals as goal

less_four : (n : ℕ) → 4 + n - 4 ≡ n
less_four n = omega arith

pub returns-clause-there : goal.returns-clause-there
returns-clause-there c =
    let src = c.args.front.now in
    let limit = c.args.self.now.max_allowed_packet in
    let header = header_of c.args.self.now in
    let len : c.in-Some.header.len ≡ chunk_len src = c.in-Some.ensures.len in
    let id : c.in-Some.header.seq_id ≡ slice_index src 3 = c.in-Some.ensures.id in
    let long : 4 ≤ length src = c.in-Some.ensures.there.0 refl in
    let empty : length c.args.dst.now ≡ 0 = eqb-true (length c.args.dst.now) 0 (sym c.is_empty.ensures ∙ c.if-not-is_empty.false) in
    let passes = c.passes.ensures.0 c.if-not-passes.false in
    let passes' : MatchOption header (chunk_len src ≤ limit) (λ h. (slice_index src 3 ≡ h.0) × (chunk_len src ≡ h.1) × (0 < h.1)) =
    subst (λ (n : ℕ). MatchOption header (n ≤ limit) (λ h. (slice_index src 3 ≡ h.0) × (n ≡ h.1) × (0 < h.1))) len
    (subst (λ (n : ℕ). MatchOption header (c.in-Some.header.len ≤ limit) (λ h. (n ≡ h.0) × (c.in-Some.header.len ≡ h.1) × (0 < h.1))) id passes) in
    let part : chunk_len src < max_payload = let n = c.if-header-eq-MAX_PAYLOAD_LEN.false in let m = c.in-Some.ensures.small in omega (arith, n, m, len, max_payload_is) in
    let room : chunk_len src ≤ length src - 4 = let r = c.if-front-header.false in omega (arith, r, len) in
    (λ e. front_there limit (expected_id c.args.self.now) header src c.args.dst.now empty long passes' (sym id ∙ c.if-header-self.false) part room, λ e. refl)

pub returns-clause-decodes : goal.returns-clause-decodes
returns-clause-decodes c some stands =
    let src = c.args.front.now in
    let limit = c.args.self.now.max_allowed_packet in
    let header = header_of c.args.self.now in
    let len : c.in-Some.header.len ≡ chunk_len src = c.in-Some.ensures.len in
    let id : c.in-Some.header.seq_id ≡ slice_index src 3 = c.in-Some.ensures.id in
    let long : 4 ≤ length src = c.in-Some.ensures.there.0 refl in
    let empty : length c.args.dst.now ≡ 0 = eqb-true (length c.args.dst.now) 0 (sym c.is_empty.ensures ∙ c.if-not-is_empty.false) in
    let passes = c.passes.ensures.0 c.if-not-passes.false in
    let passes' : MatchOption header (chunk_len src ≤ limit) (λ h. (slice_index src 3 ≡ h.0) × (chunk_len src ≡ h.1) × (0 < h.1)) =
    subst (λ (n : ℕ). MatchOption header (n ≤ limit) (λ h. (slice_index src 3 ≡ h.0) × (n ≡ h.1) × (0 < h.1))) len
    (subst (λ (n : ℕ). MatchOption header (c.in-Some.header.len ≤ limit) (λ h. (n ≡ h.0) × (c.in-Some.header.len ≡ h.1) × (0 < h.1))) id passes) in
    let part : chunk_len src < max_payload = let n = c.if-header-eq-MAX_PAYLOAD_LEN.false in let m = c.in-Some.ensures.small in omega (arith, n, m, len, max_payload_is) in
    let room : chunk_len src ≤ length src - 4 = let r = c.if-front-header.false in omega (arith, r, len) in
    front_decodes_at limit (expected_id c.args.self.now) header src c.args.dst.now (omega arith) c.in-Some.ensures.spelled
    (front_there limit (expected_id c.args.self.now) header src c.args.dst.now empty long passes' (sym id ∙ c.if-header-self.false) part room) stands

pub returns-then-header-eq-MAX_PAYLOAD_LEN-clause-there : goal.returns-then-header-eq-MAX_PAYLOAD_LEN-clause-there
returns-then-header-eq-MAX_PAYLOAD_LEN-clause-there c =
    let len : c.in-Some.header.len ≡ chunk_len c.args.front.now = c.in-Some.ensures.len in
    (λ e. absurd (false≢true e), λ there. absurd (let part = there.4 in let full = c.if-header-eq-MAX_PAYLOAD_LEN.true in omega (arith, part, full, len, max_payload_is)))

pub returns-then-not-is_empty-clause-there : goal.returns-then-not-is_empty-clause-there
returns-then-not-is_empty-clause-there c =
    (λ e. absurd (false≢true e), λ there. absurd (false≢true (sym c.if-not-is_empty.true ∙ c.is_empty.ensures ∙ ap (λ (z : List ℕ). length z == 0) there.1)))

pub returns-in_default-clause-there : goal.returns-in_default-clause-there
returns-in_default-clause-there c =
    (λ e. absurd (false≢true e), λ there. absurd (false≢true (c.in_default.ensures.there.1 there.2)))

pub returns-then-header-self-clause-there : goal.returns-then-header-self-clause-there
returns-then-header-self-clause-there c =
    (λ e. absurd (false≢true e), λ there. absurd (c.if-header-self.true (c.in-Some.ensures.id ∙ there.5)))

pub returns-then-not-passes-clause-there : goal.returns-then-not-passes-clause-there
returns-then-not-passes-clause-there c = (
  λ e. absurd (false≢true e),
  λ there. absurd (false≢true (sym c.if-not-passes.true
      ∙ c.passes.ensures.1 (front_passes c.args.self.now.max_allowed_packet (header_of c.args.self.now) c.args.front.now _ _ c.in-Some.ensures.len c.in-Some.ensures.id there.0.1 there.6))),
)

pub returns-then-front-header-clause-there : goal.returns-then-front-header-clause-there
returns-then-front-header-clause-there c =
    (λ e. absurd (false≢true e), λ there. absurd (let whole = there.3 in let less = c.if-front-header.true in let len = c.in-Some.ensures.len in omega (arith, whole, less, len)))

pub returns-in_default-clause-packet : goal.returns-in_default-clause-packet
returns-in_default-clause-packet c = tt

pub returns-in_default-clause-decodes : goal.returns-in_default-clause-decodes
returns-in_default-clause-decodes c some = absurd (false≢true some)

pub returns-then-not-passes-clause-packet : goal.returns-then-not-passes-clause-packet
returns-then-not-passes-clause-packet c = tt

pub returns-then-not-passes-clause-decodes : goal.returns-then-not-passes-clause-decodes
returns-then-not-passes-clause-decodes c some = absurd (false≢true some)

pub returns-then-header-self-clause-packet : goal.returns-then-header-self-clause-packet
returns-then-header-self-clause-packet c = tt

pub returns-then-header-self-clause-decodes : goal.returns-then-header-self-clause-decodes
returns-then-header-self-clause-decodes c some = absurd (false≢true some)

pub returns-then-not-is_empty-clause-packet : goal.returns-then-not-is_empty-clause-packet
returns-then-not-is_empty-clause-packet c = tt

pub returns-then-not-is_empty-clause-decodes : goal.returns-then-not-is_empty-clause-decodes
returns-then-not-is_empty-clause-decodes c some = absurd (false≢true some)

pub returns-then-front-header-clause-packet : goal.returns-then-front-header-clause-packet
returns-then-front-header-clause-packet c = tt

pub returns-then-front-header-clause-decodes : goal.returns-then-front-header-clause-decodes
returns-then-front-header-clause-decodes c some = absurd (false≢true some)

pub returns-then-header-eq-MAX_PAYLOAD_LEN-clause-packet : goal.returns-then-header-eq-MAX_PAYLOAD_LEN-clause-packet
returns-then-header-eq-MAX_PAYLOAD_LEN-clause-packet c = tt

pub returns-then-header-eq-MAX_PAYLOAD_LEN-clause-decodes : goal.returns-then-header-eq-MAX_PAYLOAD_LEN-clause-decodes
returns-then-header-eq-MAX_PAYLOAD_LEN-clause-decodes c some = absurd (false≢true some)

pub returns-clause-packet : goal.returns-clause-packet
returns-clause-packet c = ap (λ (n : ℕ). take n (drop 4 c.args.front.now)) (less_four c.in-Some.header.len ∙ c.in-Some.ensures.len)
