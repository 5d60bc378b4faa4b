use Rattle.std.proofs.Common.{refl, ap}
use Rattle.wire_packet_io.specs.declared.error.PacketIoError.TheVariants.{PacketsOutOfSync}
use Rattle.wire_packet_io.specs.Lending.{found_in}
use Rattle.wire_packet_io.proofs.LendingLemmas.{fits_apart, lent_not, lent_some, reads_apart, stands_unlent}
use Rattle.wire_packet_io.proofs.ReadingLemmas.{hands_fits, hands_loses, hands_rest, is_not, is_true, some_lent, unlent, unlent_there}
use Rattle.wire_packet_io.specs.Lending.{answer_of}
use Rattle.wire_packet_io.proofs.reader.PacketReader.next_packet.Goals as goal

pub next-requires-clause-stands : goal.next-requires-clause-stands
next-requires-clause-stands g c =
    let now = c.self.inside in
    stands_unlent now.lent c.is_some.result now.input.lost c.args.codec.now now.input.src.items now.input.dst.items c.is_some.ensures c.if-is_some.false c.if-self.false
    (rw (← c.self.view_is) at c.requires)

pub returns-clause-next : goal.returns-clause-next
returns-clause-next g c found none =
    let now = c.self.inside in
    let new = c.next.new.self in
    rw (← c.self.view_is)
    (reads_apart now.lent c.next.result c.is_some.result c.args.codec.now c.next.new.codec now.input.src.items now.input.dst.items new.src.items new.dst.items _ _ _ _ _
    c.is_some.ensures c.if-is_some.false (c.next.ensures.there.1 refl) (c.apart.ensures.packet new.src.items) c.next.ensures.next)

pub returns-clause-fits : goal.returns-clause-fits
returns-clause-fits g c =
    let new = c.next.new.self in
    fits_apart c.self.inside.lent (found_in c.next.result) c.is_some.result new.lost c.next.new.codec new.src.items new.dst.items
    c.is_some.ensures c.if-is_some.false (c.next.ensures.there.1 refl) c.next.ensures.fits.0

pub returns-clause-loses : goal.returns-clause-loses
returns-clause-loses g c =
    let same = c.apart.ensures.refused PacketsOutOfSync in
    let loses = c.next.ensures.loses in
    (λ lost. same.1 (loses.0 lost), λ is. loses.1 (same.0 is))

pub returns-then-self-clause-next : goal.returns-then-self-clause-next
returns-then-self-clause-next g c found none = absurd (is_true _ _ (ap (λ z. z.is_lost) c.self.view_is) c.if-self.true found)

pub returns-then-self-clause-lent : goal.returns-then-self-clause-lent
returns-then-self-clause-lent g c found some = absurd (is_true _ _ (ap (λ z. z.is_lost) c.self.view_is) c.if-self.true found)

pub returns-then-self-clause-taken : goal.returns-then-self-clause-taken
returns-then-self-clause-taken g c none = none

pub returns-then-self-clause-lost : goal.returns-then-self-clause-lost
returns-then-self-clause-lost g c lost = (refl, refl, refl)

pub returns-then-self-clause-fits : goal.returns-then-self-clause-fits
returns-then-self-clause-fits g c = c.requires

pub returns-then-self-clause-loses : goal.returns-then-self-clause-loses
returns-then-self-clause-loses g c = (λ lost. refl, λ is. rw (← c.self.view_is) c.if-self.true)

pub returns-then-self-clause-rest : goal.returns-then-self-clause-rest
returns-then-self-clause-rest g c = (refl, refl, refl)

pub hand_out-requires : goal.hand_out-requires
hand_out-requires g c =
    let now = c.self.inside in
    rw (← c.self.view_is) (some_lent now.lent now.input.src.items c.is_some.result c.is_some.ensures c.if-is_some.true)

pub returns-then-is_some-clause-next : goal.returns-then-is_some-clause-next
returns-then-is_some-clause-next g c found none =
    let now = c.self.inside in
    absurd (lent_some now.lent now.input.src.items c.is_some.result c.is_some.ensures c.if-is_some.true (rw (← c.self.view_is) at none))

pub returns-then-is_some-clause-lent : goal.returns-then-is_some-clause-lent
returns-then-is_some-clause-lent g c found some = (c.hand_out.ensures, refl)

pub returns-then-is_some-clause-taken : goal.returns-then-is_some-clause-taken
returns-then-is_some-clause-taken g c none =
    let now = c.self.inside in
    absurd (lent_some now.lent now.input.src.items c.is_some.result c.is_some.ensures c.if-is_some.true (rw (← c.self.view_is) at none))

pub returns-then-is_some-clause-lost : goal.returns-then-is_some-clause-lost
returns-then-is_some-clause-lost g c lost = absurd (is_not _ _ (ap (λ z. z.is_lost) c.self.view_is) c.if-self.false lost)

pub returns-then-is_some-clause-fits : goal.returns-then-is_some-clause-fits
returns-then-is_some-clause-fits g c = hands_fits c.args.codec.now (answer_of c.hand_out.result) c.args.self.now c.hand_out.new.self c.hand_out.ensures c.requires

pub returns-then-is_some-clause-loses : goal.returns-then-is_some-clause-loses
returns-then-is_some-clause-loses g c =
    hands_loses c.hand_out.result c.args.self.now c.hand_out.new.self c.hand_out.ensures (rw (← c.self.view_is) c.if-self.false)

pub returns-then-is_some-clause-rest : goal.returns-then-is_some-clause-rest
returns-then-is_some-clause-rest g c =
    let rest = hands_rest (answer_of c.hand_out.result) c.args.self.now c.hand_out.new.self c.hand_out.ensures in
    (rest.0, rest.1, refl)

pub next-requires-clause-found : goal.next-requires-clause-found
next-requires-clause-found g c = c.if-self.false

pub apart-requires : goal.apart-requires
apart-requires g c = c.next.ensures.there.1 refl

pub invariant_of-self : goal.invariant_of-self
invariant_of-self g c = unlent_there c.self.inside.lent c.next.new.self.src.items c.is_some.result c.is_some.ensures c.if-is_some.false

pub returns-clause-lent : goal.returns-clause-lent
returns-clause-lent g c found some =
    let now = c.self.inside in
    absurd (lent_not now.lent now.input.src.items c.is_some.result c.is_some.ensures c.if-is_some.false (rw (← c.self.view_is) at some))

pub returns-clause-taken : goal.returns-clause-taken
returns-clause-taken g c none = unlent c.self.inside.lent c.next.new.self.src.items c.is_some.result c.is_some.ensures c.if-is_some.false

pub returns-clause-lost : goal.returns-clause-lost
returns-clause-lost g c lost = absurd (is_not _ _ (ap (λ z. z.is_lost) c.self.view_is) c.if-self.false lost)

pub returns-clause-rest : goal.returns-clause-rest
returns-clause-rest g c = (ap (λ z. z.skipped) c.self.view_is, ap (λ z. z.copied) c.self.view_is, c.next.ensures.fits.1)
