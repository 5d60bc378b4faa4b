use Rattle.std.proofs.Common.{◌≡◌, [], IsNone, subst, ◌∙◌, ap, refl, sym, inl, inr, not, rules, Err, IsTrue}
use Rattle.std.proofs.lemmas.Bool.{false≢true}
use Rattle.wire_packet_io.specs.declared.error.PacketIoError.TheVariants.{PacketsOutOfSync}
use Rattle.wire_codec.specs.Codec.{Stands}
use Rattle.wire_span.specs.Spans.{header_came, span_state}
use Rattle.wire_packet_io.specs.Lending.{reading_state}
use Rattle.wire_packet_io.specs.Copying.{copied_to, HasPlace}
use Rattle.wire_packet_io.proofs.CopyLemmas.{can_after}
use Rattle.wire_packet_io.proofs.WholeLemmas.{limit_is}
use Rattle.wire_packet_io.proofs.PlaceLemmas.{loses_by, ended_by, relay_between, has_no_place, nothing_held, none_same, relays_as}
use Rattle.wire_packet_io.proofs.reader.PacketReader.relay_by_steps.Given as given
use Rattle.wire_packet_io.proofs.reader.PacketReader.relay_by_steps.Goals as goal
use Rattle.wire_packet_io.proofs.reader.PacketReader.relay_by_steps.Goals.{Then-is_none, After-copied_so_far-decoder, Joined-matches, in-Err-PacketsOutOfSync, in_default, in_default-2, else-self-via-then-self+else-is_none, else-self-via-else-self}

-- a lost reader has no place
unplaced : (g : given.Over) (c : Then-is_none g) → HasPlace c.args.self.now → ⊥
unplaced g c place =
    has_no_place c.self.inside.copied c.self.inside.input.lost (c.is_none.ensures ∙ ap not c.if-is_none.true) c.if-self.true (rw (← c.self.view_is) at place)

pub returns-then-is_none-clause-relays : goal.returns-then-is_none-clause-relays
returns-then-is_none-clause-relays g c place = absurd (unplaced g (goal.at.returns-then-is_none-clause-relays g c).Then-is_none place)

pub returns-then-is_none-clause-stops : goal.returns-then-is_none-clause-stops
returns-then-is_none-clause-stops g c place = absurd (unplaced g (goal.at.returns-then-is_none-clause-stops g c).Then-is_none place)

pub returns-then-is_none-clause-loses : goal.returns-then-is_none-clause-loses
returns-then-is_none-clause-loses g c = (λ lost. inr refl, λ why. rw (← c.self.view_is) c.if-self.true)

-- past there it has one
placed : (g : given.Over) (c : After-copied_so_far-decoder g) → HasPlace c.args.self.now
placed g c = rw (← c.self.view_is) (elim c.else-self.branch [
  | else-self-via-then-self+else-is_none w ↦ inl (w.is_none.ensures ∙ ap not w.if-is_none.false)
  | else-self-via-else-self w ↦ inr w.if-self.false
])

pub keep_place-requires : goal.keep_place-requires
keep_place-requires g c = record {
  limit = c.go_on_relaying-result.ensures.limit ∙ ap (λ s. s.limit) c.copied_so_far-decoder.ensures ∙ limit_is c.args.self.now.copied c.args.codec.now;
}

pub returns-clause-relays : goal.returns-clause-relays
returns-clause-relays g c place =
    let went = c.go_on_relaying-result in
    let kept = c.keep_place.ensures in
    relays_as g.R.Read.remaining g.W.Write.contents (copied_to c.args.self.now.copied c.args.codec.now) (span_state c.copied_so_far-decoder.result) (span_state went.new.decoder) _
    c.args.self.now c.args.self.now went.new.self c.keep_place.new.self _ c.sequence_id-next_id.result went.new.next_id _ c.args.writer.now c.args.writer.now went.new.writer went.result
    c.copied_so_far-decoder.ensures refl (c.sequence_id-next_id.ensures ∙ cc) refl kept.place kept.rest c.set_sequence_id.ensures.id went.ensures.relays

-- the reader holds and lends nothing
empty : (g : given.Over) (c : After-copied_so_far-decoder g) → (c.args.self.now.held ≡ []) × IsNone c.args.self.now.lent
empty g c =
    let now = c.args.self.now in
    nothing_held (Stands (reading_state c.args.codec.now now)) (λ decoder. header_came (span_state decoder).place ≡ []) now.copied now.is_lost now.held now.lent (placed g c) c.requires

pub go_on_relaying-result-requires-clause-none : goal.go_on_relaying-result-requires-clause-none
go_on_relaying-result-requires-clause-none g c =
    (empty g (goal.at.go_on_relaying-result-requires-clause-none g c).After-copied_so_far-decoder).1

pub go_on_relaying-result-requires-clause-held : goal.go_on_relaying-result-requires-clause-held
go_on_relaying-result-requires-clause-held g c =
    (empty g (goal.at.go_on_relaying-result-requires-clause-held g c).After-copied_so_far-decoder).0

pub returns-clause-lost : goal.returns-clause-lost
returns-clause-lost g c none lost =
    absurd (has_no_place c.args.self.now.copied c.args.self.now.is_lost none lost (placed g (goal.at.returns-clause-lost g c).After-copied_so_far-decoder))

pub returns-clause-rest : goal.returns-clause-rest
returns-clause-rest g c =
    let at = (goal.at.returns-clause-rest g c).After-copied_so_far-decoder in
    let went = c.go_on_relaying-result in
    let kept = c.keep_place.ensures in (
      ap (λ z. z.held) kept.rest ∙ went.ensures.rest.0,
      ap (λ z. z.lent) kept.rest ∙ none_same went.new.self.lent c.args.self.now.lent went.ensures.none (empty g at).1,
      ap (λ z. z.skipped) kept.rest ∙ went.ensures.rest.1,
      kept.limit,
    )

pub returns-clause-can : goal.returns-clause-can
returns-clause-can g c =
    let kept = c.keep_place.ensures in
    let went = c.go_on_relaying-result in
    let now = c.keep_place.new.self in
    can_after now.copied now.is_lost c.keep_place.new.codec now.unread now.held now.lent went.new.decoder
    (subst (λ z. IsNone z) (sym (ap (λ z. z.lent) kept.rest)) went.ensures.none) (ap (λ z. z.held) kept.rest ∙ went.ensures.held)
    kept.header kept.kept went.ensures.uncut

-- whether the call says that it is lost
says : (g : given.Over) (c : Joined-matches g) → (IsTrue c.match-matches.matches → c.go_on_relaying-result.result ≡ Err PacketsOutOfSync)
    × (c.go_on_relaying-result.result ≡ Err PacketsOutOfSync → IsTrue c.match-matches.matches)
says g c = elim c.match-matches.branch [
  | in-Err-PacketsOutOfSync w ↦ (λ t. search rules, λ e. w.matches-is)
  | in_default w ↦ (λ t. absurd (false≢true (sym w.matches-is ∙ t)), λ e. search rules)
  | in_default-2 w ↦ (λ t. absurd (false≢true (sym w.matches-is ∙ t)), λ e. search rules)
]

pub returns-clause-loses : goal.returns-clause-loses
returns-clause-loses g c =
    loses_by c.keep_place.new.self.is_lost c.match-matches.matches c.keep_place.new.self.copied (c.go_on_relaying-result.result ≡ Err PacketsOutOfSync)
    c.keep_place.ensures.lost (says g (goal.at.returns-clause-loses g c).Joined-matches)

pub returns-clause-ended : goal.returns-clause-ended
returns-clause-ended g c =
    let went = c.go_on_relaying-result in
    let kept = c.keep_place.ensures in
    let now = c.keep_place.new.self in
    ended_by went.result now.is_lost c.match-matches.matches now.copied PacketsOutOfSync
    (relay_between went.result (span_state went.new.decoder) _ _ _ (IsNone now.copied) went.ensures.stops kept.between.1)
    kept.lost.0 (says g (goal.at.returns-clause-ended g c).Joined-matches).0

pub returns-then-is_none-clause-lost : goal.returns-then-is_none-clause-lost
returns-then-is_none-clause-lost g c none lost = (refl, refl, refl, refl)

pub returns-then-is_none-clause-lost_other : goal.returns-then-is_none-clause-lost_other
returns-then-is_none-clause-lost_other g c none lost = refl

pub returns-then-is_none-clause-ended : goal.returns-then-is_none-clause-ended
returns-then-is_none-clause-ended g c = tt

pub returns-then-is_none-clause-header : goal.returns-then-is_none-clause-header
returns-then-is_none-clause-header g c place = absurd (unplaced g (goal.at.returns-then-is_none-clause-header g c).Then-is_none place)

pub returns-then-is_none-clause-under_way : goal.returns-then-is_none-clause-under_way
returns-then-is_none-clause-under_way g c some = refl

pub returns-then-is_none-clause-rest : goal.returns-then-is_none-clause-rest
returns-then-is_none-clause-rest g c = (refl, refl, refl, refl)

pub returns-then-is_none-clause-can : goal.returns-then-is_none-clause-can
returns-then-is_none-clause-can g c = c.requires

pub returns-then-is_none-clause-other : goal.returns-then-is_none-clause-other
returns-then-is_none-clause-other g c = (refl, refl)

pub returns-clause-lost_other : goal.returns-clause-lost_other
returns-clause-lost_other g c none lost =
    absurd (has_no_place c.args.self.now.copied c.args.self.now.is_lost none lost (placed g (goal.at.returns-clause-lost_other g c).After-copied_so_far-decoder))

pub returns-clause-header : goal.returns-clause-header
returns-clause-header g c place = c.keep_place.ensures.header

pub returns-clause-under_way : goal.returns-clause-under_way
returns-clause-under_way g c = c.keep_place.ensures.under_way

pub returns-clause-other : goal.returns-clause-other
returns-clause-other g c = (c.set_sequence_id.ensures.header, c.set_sequence_id.ensures.limit)
