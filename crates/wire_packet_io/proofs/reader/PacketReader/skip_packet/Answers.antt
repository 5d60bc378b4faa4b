use Rattle.std.proofs.Common.{◌≡◌, ◌∙◌, ap, sym, subst, refl, inl, inr, IsNone, IsSome}
use Rattle.std.proofs.lemmas.Bool.{false≢true}
use Rattle.std.specs.Option.{is_some}
use Rattle.wire_packet_io.specs.declared.error.PacketIoError.TheVariants.{PacketsOutOfSync}
use Rattle.wire_codec.specs.declared.codec.packet.skip.Skipped.{Skipped}
use Rattle.wire_codec.specs.Skipping.{MaySkip, WouldStand}
use Rattle.wire_packet_io.specs.Lending.{reading_state}
use Rattle.wire_packet_io.specs.Skips.{SkipsNext, skipped_at, skipping}
use Rattle.wire_packet_io.proofs.LendingLemmas.{lent_not, lent_some, of_none}
use Rattle.wire_packet_io.proofs.ReadingLemmas.{not_ended, whole_ended}
use Rattle.wire_packet_io.proofs.SkipLemmas.{lent_none, may_skip, fresh_would, left_under_way, left_whole, not_under_way, nothing_is, can_fit}
use Rattle.wire_packet_io.proofs.reader.PacketReader.skip_packet.Given as given
use Rattle.wire_packet_io.proofs.reader.PacketReader.skip_packet.Goals as goal
use Rattle.wire_packet_io.proofs.reader.PacketReader.skip_packet.Goals.{Then-is_some, Else-is_some, After-skipped_so_far-skipped, Else-is_under_way}

-- the packet may be skipped from here
may : (g : given.Over) (c : After-skipped_so_far-skipped g) → IsNone c.args.self.now.lent → MaySkip c.skipped_so_far-skipped.result c.args.codec.now c.args.self.now.unread
may g c none =
    let now = c.args.self.now in
    rw c.skipped_so_far-skipped.ensures (may_skip now.skipped now.is_lost c.args.codec.now now.unread now.held (c.requires none)
    (λ lost closed. false≢true (sym c.if-is_stuck.false ∙ c.is_stuck.ensures.1 (lost, closed))))

pub go_on_skipping-result-requires-clause-may : goal.go_on_skipping-result-requires-clause-may
go_on_skipping-result-requires-clause-may g c =
    may g (goal.at.go_on_skipping-result-requires-clause-may g c).After-skipped_so_far-skipped
    (subst (λ z. IsNone z.lent) c.self.view_is (lent_none c.self.inside.lent c.self.inside.input.src.items c.is_some.result c.is_some.ensures c.if-is_some.false))

pub returns-then-is_under_way-clause-skips : goal.returns-then-is_under_way-clause-skips
returns-then-is_under_way-clause-skips g c none closed found =
    let now = c.args.self.now in
    let out = c.go_on_skipping-result in
    let would = fresh_would now.skipped now.is_lost c.args.codec.now now.unread now.held (c.requires none) closed found in
    subst (λ z. SkipsNext g.R.Read.remaining (reading_state c.args.codec.now now) now out.result out.new.codec (skipping out.new.skipped z)) (sym c.self-2.view_is)
    (out.ensures.skips (reading_state c.args.codec.now now) (rw c.skipped_so_far-skipped.ensures would))

pub returns-then-is_under_way-clause-goes_on : goal.returns-then-is_under_way-clause-goes_on
returns-then-is_under_way-clause-goes_on g c none some full w =
    let out = c.go_on_skipping-result in
    subst (λ z. SkipsNext g.R.Read.remaining full c.args.self.now out.result out.new.codec (skipping out.new.skipped z)) (sym c.self-2.view_is)
    (out.ensures.skips full (rw c.skipped_so_far-skipped.ensures w))

pub returns-then-is_under_way-clause-can : goal.returns-then-is_under_way-clause-can
returns-then-is_under_way-clause-can g c none =
    let out = c.go_on_skipping-result in
    let can = may g (goal.at.returns-then-is_under_way-clause-can g c).After-skipped_so_far-skipped none in
    let k = out.ensures.skips can.0 can.1 in
    (k.1, subst (λ z. WouldStand out.new.skipped out.new.codec z.unread k.1) (sym c.self-2.view_is) (left_under_way out.result out.new.skipped out.new.codec out.new.self.unread k.1 k.4 (c.if-is_under_way.ensures.0 refl)))

-- nothing of a packet is gone
whole : (g : given.Over) (c : Else-is_under_way g) → c.go_on_skipping-result.new.skipped ≡ skipped_at c.go_on_skipping-result.new.self
whole g c =
    let out = c.go_on_skipping-result in
    let clean = not_under_way out.new.skipped c.is_under_way.result c.is_under_way.ensures.1 c.if-is_under_way.false in
    nothing_is out.new.skipped out.new.self.skipped out.new.self.held out.ensures.whole out.ensures.held clean.0 clean.1

pub returns-else-is_under_way-clause-skips : goal.returns-else-is_under_way-clause-skips
returns-else-is_under_way-clause-skips g c none closed found =
    let now = c.args.self.now in
    let out = c.go_on_skipping-result in
    let would = fresh_would now.skipped now.is_lost c.args.codec.now now.unread now.held (c.requires none) closed found in
    subst (λ (z : Skipped). SkipsNext g.R.Read.remaining (reading_state c.args.codec.now now) now out.result out.new.codec (skipping z out.new.self))
    (whole g (goal.at.returns-else-is_under_way-clause-skips g c).Else-is_under_way) (out.ensures.skips (reading_state c.args.codec.now now) (rw c.skipped_so_far-skipped.ensures would))

pub returns-else-is_under_way-clause-goes_on : goal.returns-else-is_under_way-clause-goes_on
returns-else-is_under_way-clause-goes_on g c none some full w =
    let out = c.go_on_skipping-result in
    subst (λ (z : Skipped). SkipsNext g.R.Read.remaining full c.args.self.now out.result out.new.codec (skipping z out.new.self))
    (whole g (goal.at.returns-else-is_under_way-clause-goes_on g c).Else-is_under_way) (out.ensures.skips full (rw c.skipped_so_far-skipped.ensures w))

pub returns-else-is_under_way-clause-can : goal.returns-else-is_under_way-clause-can
returns-else-is_under_way-clause-can g c none =
    let out = c.go_on_skipping-result in
    let can = may g (goal.at.returns-else-is_under_way-clause-can g c).After-skipped_so_far-skipped none in
    let clean = not_under_way out.new.skipped c.is_under_way.result c.is_under_way.ensures.1 c.if-is_under_way.false in
    can_fit out.new.self.skipped out.new.self.is_lost out.new.codec out.new.self.unread out.new.self.held out.ensures.whole out.ensures.held
    (left_whole out.result out.new.self.is_lost can.0 _ _ _ _ out.new.skipped out.new.codec out.new.self.unread (out.ensures.skips can.0 can.1) clean.0 clean.1 out.ensures.loses.1)

-- a packet is lent
lends : (g : given.Over) (c : Then-is_some g) → IsNone c.args.self.now.lent → ⊥
lends g c none =
    let now = c.self.inside in
    lent_some now.lent now.input.src.items c.is_some.result c.is_some.ensures c.if-is_some.true (rw (← c.self.view_is) at none)

pub returns-then-is_some-clause-lost : goal.returns-then-is_some-clause-lost
returns-then-is_some-clause-lost g c none = absurd (lends g (goal.at.returns-then-is_some-clause-lost g c).Then-is_some none)

pub returns-then-is_some-clause-goes_on : goal.returns-then-is_some-clause-goes_on
returns-then-is_some-clause-goes_on g c none = absurd (lends g (goal.at.returns-then-is_some-clause-goes_on g c).Then-is_some none)

pub returns-then-is_some-clause-under_way : goal.returns-then-is_some-clause-under_way
returns-then-is_some-clause-under_way g c none = absurd (lends g (goal.at.returns-then-is_some-clause-under_way g c).Then-is_some none)

pub returns-then-is_some-clause-ended : goal.returns-then-is_some-clause-ended
returns-then-is_some-clause-ended g c none = absurd (lends g (goal.at.returns-then-is_some-clause-ended g c).Then-is_some none)

pub returns-then-is_some-clause-loses : goal.returns-then-is_some-clause-loses
returns-then-is_some-clause-loses g c none = absurd (lends g (goal.at.returns-then-is_some-clause-loses g c).Then-is_some none)

pub returns-then-is_some-clause-can : goal.returns-then-is_some-clause-can
returns-then-is_some-clause-can g c none = absurd (lends g (goal.at.returns-then-is_some-clause-can g c).Then-is_some none)

-- none is
unlent : (g : given.Over) (c : Else-is_some g) → IsSome c.args.self.now.lent → ⊥
unlent g c some =
    let now = c.self.inside in
    lent_not now.lent now.input.src.items c.is_some.result c.is_some.ensures c.if-is_some.false (rw (← c.self.view_is) at some)

pub returns-then-is_stuck-clause-lent : goal.returns-then-is_stuck-clause-lent
returns-then-is_stuck-clause-lent g c some = absurd (unlent g (goal.at.returns-then-is_stuck-clause-lent g c).Else-is_some some)

pub returns-then-is_stuck-clause-under_way : goal.returns-then-is_stuck-clause-under_way
returns-then-is_stuck-clause-under_way g c none = of_none c.args.self.now.skipped _ (c.is_stuck.ensures.0 c.if-is_stuck.true).1

pub returns-then-is_stuck-clause-loses : goal.returns-then-is_stuck-clause-loses
returns-then-is_stuck-clause-loses g c none = (λ lost. inr refl, λ why. (c.is_stuck.ensures.0 c.if-is_stuck.true).0)

pub returns-then-is_under_way-clause-lent : goal.returns-then-is_under_way-clause-lent
returns-then-is_under_way-clause-lent g c some = absurd (unlent g (goal.at.returns-then-is_under_way-clause-lent g c).Else-is_some some)

pub returns-else-is_under_way-clause-lent : goal.returns-else-is_under_way-clause-lent
returns-else-is_under_way-clause-lent g c some = absurd (unlent g (goal.at.returns-else-is_under_way-clause-lent g c).Else-is_some some)

pub returns-else-is_under_way-clause-under_way : goal.returns-else-is_under_way-clause-under_way
returns-else-is_under_way-clause-under_way g c none = of_none c.go_on_skipping-result.new.self.skipped _ c.go_on_skipping-result.ensures.whole

pub returns-then-is_some-clause-lent : goal.returns-then-is_some-clause-lent
returns-then-is_some-clause-lent g c some = (refl, c.take_packet.ensures, refl)

pub returns-then-is_some-clause-skips : goal.returns-then-is_some-clause-skips
returns-then-is_some-clause-skips g c none closed found = absurd (lends g (goal.at.returns-then-is_some-clause-skips g c).Then-is_some none)

pub returns-then-is_some-clause-taken : goal.returns-then-is_some-clause-taken
returns-then-is_some-clause-taken g c = ap (λ z. is_some z.lent) c.take_packet.ensures

pub returns-then-is_some-clause-rest : goal.returns-then-is_some-clause-rest
returns-then-is_some-clause-rest g c = (ap (λ z. z.copied) c.take_packet.ensures, refl)

pub returns-then-is_stuck-clause-lost : goal.returns-then-is_stuck-clause-lost
returns-then-is_stuck-clause-lost g c none closed lost = (refl, refl, refl)

pub returns-then-is_stuck-clause-skips : goal.returns-then-is_stuck-clause-skips
returns-then-is_stuck-clause-skips g c none closed found = absurd (false≢true (sym found ∙ (c.is_stuck.ensures.0 c.if-is_stuck.true).0))

pub returns-then-is_stuck-clause-goes_on : goal.returns-then-is_stuck-clause-goes_on
returns-then-is_stuck-clause-goes_on g c none some = absurd (false≢true (sym (c.is_stuck.ensures.0 c.if-is_stuck.true).1 ∙ some))

pub returns-then-is_stuck-clause-ended : goal.returns-then-is_stuck-clause-ended
returns-then-is_stuck-clause-ended g c = tt

pub returns-then-is_stuck-clause-taken : goal.returns-then-is_stuck-clause-taken
returns-then-is_stuck-clause-taken g c =
    subst (λ z. IsNone z.lent) c.self.view_is (lent_none c.self.inside.lent c.self.inside.input.src.items c.is_some.result c.is_some.ensures c.if-is_some.false)

pub returns-then-is_stuck-clause-can : goal.returns-then-is_stuck-clause-can
returns-then-is_stuck-clause-can g c none = c.requires none

pub returns-then-is_stuck-clause-rest : goal.returns-then-is_stuck-clause-rest
returns-then-is_stuck-clause-rest g c = (refl, refl)

pub go_on_skipping-result-requires-clause-none : goal.go_on_skipping-result-requires-clause-none
go_on_skipping-result-requires-clause-none g c =
    subst (λ z. IsNone z.lent) c.self.view_is (lent_none c.self.inside.lent c.self.inside.input.src.items c.is_some.result c.is_some.ensures c.if-is_some.false)

pub returns-then-is_under_way-clause-lost : goal.returns-then-is_under_way-clause-lost
returns-then-is_under_way-clause-lost g c none closed lost = absurd (false≢true (sym c.if-is_stuck.false ∙ c.is_stuck.ensures.1 (lost, closed)))

pub returns-then-is_under_way-clause-under_way : goal.returns-then-is_under_way-clause-under_way
returns-then-is_under_way-clause-under_way g c none = (c.is_under_way.ensures.0 c.if-is_under_way.true, refl)

pub returns-then-is_under_way-clause-ended : goal.returns-then-is_under_way-clause-ended
returns-then-is_under_way-clause-ended g c =
    not_ended c.go_on_skipping-result.result c.go_on_skipping-result.new.skipped.held c.go_on_skipping-result.new.skipped.begun _ c.go_on_skipping-result.ensures.ended (c.is_under_way.ensures.0 c.if-is_under_way.true)

pub returns-then-is_under_way-clause-loses : goal.returns-then-is_under_way-clause-loses
returns-then-is_under_way-clause-loses g c none = (λ lost. inl refl, λ why. refl)

pub returns-then-is_under_way-clause-taken : goal.returns-then-is_under_way-clause-taken
returns-then-is_under_way-clause-taken g c = rw (← c.self-2.view_is) at c.go_on_skipping-result.ensures.none

pub returns-then-is_under_way-clause-rest : goal.returns-then-is_under_way-clause-rest
returns-then-is_under_way-clause-rest g c = (ap (λ z. z.copied) c.self-2.view_is ∙ c.go_on_skipping-result.ensures.copied, c.go_on_skipping-result.ensures.limit)

pub returns-else-is_under_way-clause-lost : goal.returns-else-is_under_way-clause-lost
returns-else-is_under_way-clause-lost g c none closed lost = absurd (false≢true (sym c.if-is_stuck.false ∙ c.is_stuck.ensures.1 (lost, closed)))

pub returns-else-is_under_way-clause-ended : goal.returns-else-is_under_way-clause-ended
returns-else-is_under_way-clause-ended g c =
    let out = c.go_on_skipping-result in
    whole_ended out.result out.new.self.is_lost out.new.self.skipped out.new.self.held PacketsOutOfSync _ out.ensures.loses.0 out.ensures.whole out.ensures.held

pub returns-else-is_under_way-clause-loses : goal.returns-else-is_under_way-clause-loses
returns-else-is_under_way-clause-loses g c none =
    let out = c.go_on_skipping-result in
    (λ lost. inr (out.ensures.loses.0 lost), λ why. elim why [ inl some ↦ absurd (false≢true (sym out.ensures.whole ∙ some)) | inr is ↦ out.ensures.loses.1 is ])

pub returns-else-is_under_way-clause-taken : goal.returns-else-is_under_way-clause-taken
returns-else-is_under_way-clause-taken g c = c.go_on_skipping-result.ensures.none

pub returns-else-is_under_way-clause-rest : goal.returns-else-is_under_way-clause-rest
returns-else-is_under_way-clause-rest g c = (c.go_on_skipping-result.ensures.copied, c.go_on_skipping-result.ensures.limit)
