use Rattle.std.proofs.Common.{◌≡◌, ◌∙◌, IsNone, IsFalse, ap, not, subst, sym, rules}
use Rattle.std.proofs.lemmas.Bool.{false≢true}
use Rattle.wire_packet_io.specs.declared.error.PacketIoError.TheVariants.{PacketsOutOfSync}
use Rattle.wire_packet_io.proofs.PlaceLemmas.{ended_loses}
use Rattle.wire_packet_io.proofs.ReadingLemmas.{is_not, none_between}
use Rattle.wire_packet_io.proofs.WholeLemmas.{not_lent}
use Rattle.wire_packet_io.proofs.reader.PacketReader.relay_packet.Given as given
use Rattle.wire_packet_io.proofs.reader.PacketReader.relay_packet.Goals as goal
use Rattle.wire_packet_io.proofs.reader.PacketReader.relay_packet.Goals.{Then-relay_whole, After-relay_by_steps, else-not-self-via-then-not-self+then-is_none+else-relay_whole, else-not-self-via-then-not-self+else-is_none, else-not-self-via-else-not-self}

pub relay_whole-requires : goal.relay_whole-requires
relay_whole-requires g c =
    let now = c.self.inside in
    let alone : IsNone now.copied = c.is_none.ensures ∙ ap not c.if-is_none.true in
    record {
      none = rw (← c.self.view_is) (not_lent _ _ _ now.copied now.input.lost _ (rw (← c.self.view_is) at c.requires) (λ none. c.if-not-self.true) alone, alone);
    }

pub returns-then-relay_whole-clause-lost : goal.returns-then-relay_whole-clause-lost
returns-then-relay_whole-clause-lost g c = search rules

pub returns-then-relay_whole-clause-lost_other : goal.returns-then-relay_whole-clause-lost_other
returns-then-relay_whole-clause-lost_other g c none lost = absurd (is_not _ _ (ap (λ z. z.is_lost) c.self.view_is) c.if-not-self.true lost)

pub returns-then-relay_whole-clause-relays : goal.returns-then-relay_whole-clause-relays
returns-then-relay_whole-clause-relays g c place = c.relay_whole.ensures.relays c.if-relay_whole.true

pub returns-then-relay_whole-clause-stops : goal.returns-then-relay_whole-clause-stops
returns-then-relay_whole-clause-stops g c place =
    none_between c.relay_whole.new.self.copied c.relay_whole.new.codec
    (subst (λ z. IsNone z) (ap (λ z. z.copied) c.self.view_is ∙ sym (ap (λ z. z.copied) c.relay_whole.ensures.rest)) (c.is_none.ensures ∙ ap not c.if-is_none.true))

-- it is between two packets then
between : (g : given.Over) (c : Then-relay_whole g) → IsNone c.relay_whole.new.self.copied × IsFalse c.relay_whole.new.self.is_lost
between g c =
    let rest = c.relay_whole.ensures.rest in (
      subst (λ z. IsNone z) (ap (λ z. z.copied) c.self.view_is ∙ sym (ap (λ z. z.copied) rest)) (c.is_none.ensures ∙ ap not c.if-is_none.true),
      ap (λ z. z.is_lost) rest ∙ sym (ap (λ z. z.is_lost) c.self.view_is) ∙ c.if-not-self.true,
    )

pub returns-then-relay_whole-clause-ended : goal.returns-then-relay_whole-clause-ended
returns-then-relay_whole-clause-ended g c = between g c

pub returns-then-relay_whole-clause-header : goal.returns-then-relay_whole-clause-header
returns-then-relay_whole-clause-header g c place none = c.relay_whole.ensures.header c.if-relay_whole.true

pub returns-then-relay_whole-clause-under_way : goal.returns-then-relay_whole-clause-under_way
returns-then-relay_whole-clause-under_way g c some = absurd (false≢true (sym (between g c).0 ∙ some))

pub returns-then-relay_whole-clause-loses : goal.returns-then-relay_whole-clause-loses
returns-then-relay_whole-clause-loses g c =
    let ended = between g c in
    ended_loses c.relay_whole.new.self.is_lost c.relay_whole.new.self.copied PacketsOutOfSync ended.0 ended.1

pub returns-then-relay_whole-clause-rest : goal.returns-then-relay_whole-clause-rest
returns-then-relay_whole-clause-rest g c =
    let rest = c.relay_whole.ensures.rest in
    (ap (λ z. z.held) rest, ap (λ z. z.lent) rest, ap (λ z. z.skipped) rest, c.relay_whole.ensures.limit)

pub returns-then-relay_whole-clause-other : goal.returns-then-relay_whole-clause-other
returns-then-relay_whole-clause-other g c = c.relay_whole.ensures.other

-- nothing changed before
same : (g : given.Over) (c : After-relay_by_steps g)
    → (c.else-not-self.self ≡ c.args.self.now) × (c.else-not-self.codec ≡ c.args.codec.now) × (c.else-not-self.writer ≡ c.args.writer.now) × (c.else-not-self.writer_codec ≡ c.args.writer_codec.now)
same g c = elim c.else-not-self.branch [
  | else-not-self-via-then-not-self+then-is_none+else-relay_whole w ↦
      let kept = w.relay_whole.ensures.not w.if-relay_whole.false in
      (w.self-is ∙ kept.0, w.codec-is ∙ kept.1, w.writer-is ∙ kept.2, w.writer_codec-is ∙ kept.3)
  | else-not-self-via-then-not-self+else-is_none w ↦ (w.self-is, w.codec-is, w.writer-is, w.writer_codec-is)
  | else-not-self-via-else-not-self w ↦ (w.self-is, w.codec-is, w.writer-is, w.writer_codec-is)
]

pub returns-clause-lost : goal.returns-clause-lost
returns-clause-lost g c = let s = same g c in rw (s.0, s.1, s.2) at c.relay_by_steps.ensures.lost

pub returns-clause-lost_other : goal.returns-clause-lost_other
returns-clause-lost_other g c = let s = same g c in rw (s.0, s.3) at c.relay_by_steps.ensures.lost_other

pub returns-clause-relays : goal.returns-clause-relays
returns-clause-relays g c = let s = same g c in rw (s.0, s.1, s.2, s.3) at c.relay_by_steps.ensures.relays

pub returns-clause-stops : goal.returns-clause-stops
returns-clause-stops g c = let s = same g c in rw s.0 at c.relay_by_steps.ensures.stops

pub returns-clause-ended : goal.returns-clause-ended
returns-clause-ended g c = c.relay_by_steps.ensures.ended

pub returns-clause-header : goal.returns-clause-header
returns-clause-header g c = let s = same g c in rw s.0 at c.relay_by_steps.ensures.header

pub returns-clause-under_way : goal.returns-clause-under_way
returns-clause-under_way g c = let s = same g c in rw s.1 at c.relay_by_steps.ensures.under_way

pub returns-clause-loses : goal.returns-clause-loses
returns-clause-loses g c = c.relay_by_steps.ensures.loses

pub returns-clause-rest : goal.returns-clause-rest
returns-clause-rest g c = let s = same g c in rw (s.0, s.1) at c.relay_by_steps.ensures.rest

pub returns-clause-can : goal.returns-clause-can
returns-clause-can g c = c.relay_by_steps.ensures.can

pub returns-clause-other : goal.returns-clause-other
returns-clause-other g c = let s = same g c in rw s.3 at c.relay_by_steps.ensures.other
