use Rattle.std.proofs.Common.{ℕ, refl, ap, subst, None, Some, Ok, sym, ◌∙◌, drop}
use Rattle.std.proofs.lemmas.Bool.{false≢true}
use Rattle.wire_codec.specs.Codec.{codec_state}
use Rattle.wire_codec.specs.InPlace.{front_payload}
use Rattle.wire_packet_io.specs.Lending.{input_state}
use Rattle.wire_packet_io.specs.PacketIo.{FitsAt}
use Rattle.wire_packet_io.proofs.LendingLemmas.{lent_not, lent_some, reads_front, stands_unlent, takes_fits}
use Rattle.wire_packet_io.proofs.ReadingLemmas.{answered, is_not, is_true, some_lent}
use Rattle.wire_packet_io.proofs.reader.PacketReader.fill_packet.Goals as goal

pub returns-then-self-clause-fills : goal.returns-then-self-clause-fills
returns-then-self-clause-fills g c found none = absurd (is_true _ _ (ap (λ z. z.is_lost) c.self.view_is) c.if-self.true found)

pub returns-then-self-clause-again : goal.returns-then-self-clause-again
returns-then-self-clause-again g c found some = absurd (is_true _ _ (ap (λ z. z.is_lost) c.self.view_is) c.if-self.true found)

pub returns-then-self-clause-lends : goal.returns-then-self-clause-lends
returns-then-self-clause-lends g c = tt

pub returns-then-self-clause-refused : goal.returns-then-self-clause-refused
returns-then-self-clause-refused g c = refl

pub returns-then-self-clause-lost : goal.returns-then-self-clause-lost
returns-then-self-clause-lost g c lost = (refl, refl, refl)

pub returns-then-self-clause-fits : goal.returns-then-self-clause-fits
returns-then-self-clause-fits g c = c.requires

pub returns-then-self-clause-loses : goal.returns-then-self-clause-loses
returns-then-self-clause-loses g c = (λ lost. refl, λ is. rw (← c.self.view_is) c.if-self.true)

pub returns-then-self-clause-rest : goal.returns-then-self-clause-rest
returns-then-self-clause-rest g c = (refl, refl, refl)

pub returns-then-is_some-clause-fills : goal.returns-then-is_some-clause-fills
returns-then-is_some-clause-fills g c found none =
    let now = c.self.inside in
    absurd (lent_some now.lent now.input.src.items c.is_some.result c.is_some.ensures c.if-is_some.true (rw (← c.self.view_is) at none))

pub returns-then-is_some-clause-again : goal.returns-then-is_some-clause-again
returns-then-is_some-clause-again g c found some = (refl, refl, refl)

pub returns-then-is_some-clause-lends : goal.returns-then-is_some-clause-lends
returns-then-is_some-clause-lends g c =
    let now = c.self.inside in
    rw (← c.self.view_is) ((λ t. some_lent now.lent now.input.src.items c.is_some.result c.is_some.ensures c.if-is_some.true, λ some. refl), c.if-self.false)

pub returns-then-is_some-clause-refused : goal.returns-then-is_some-clause-refused
returns-then-is_some-clause-refused g c = tt

pub returns-then-is_some-clause-lost : goal.returns-then-is_some-clause-lost
returns-then-is_some-clause-lost g c lost = absurd (is_not _ _ (ap (λ z. z.is_lost) c.self.view_is) c.if-self.false lost)

pub returns-then-is_some-clause-fits : goal.returns-then-is_some-clause-fits
returns-then-is_some-clause-fits g c = c.requires

pub returns-then-is_some-clause-loses : goal.returns-then-is_some-clause-loses
returns-then-is_some-clause-loses g c = (λ lost. absurd (is_not _ _ (ap (λ z. z.is_lost) c.self.view_is) c.if-self.false lost), λ is. absurd (answered _ _ is))

pub returns-then-is_some-clause-rest : goal.returns-then-is_some-clause-rest
returns-then-is_some-clause-rest g c = (refl, refl, refl)

pub find_front-requires-clause-stands : goal.find_front-requires-clause-stands
find_front-requires-clause-stands g c =
    let now = c.self.inside in
    stands_unlent now.lent c.is_some.result now.input.lost c.args.codec.now now.input.src.items now.input.dst.items c.is_some.ensures c.if-is_some.false c.if-self.false
    (rw (← c.self.view_is) at c.requires)

pub find_front-requires-clause-found : goal.find_front-requires-clause-found
find_front-requires-clause-found g c = c.if-self.false

pub returns-in-Some-clause-fills : goal.returns-in-Some-clause-fills
returns-in-Some-clause-fills g c found none =
    let now = c.self.inside in
    rw (← c.self.view_is)
    (reads_front now.lent c.is_some.result now.input.lost c.args.codec.now c.find_front.new.codec now.input.src.items now.input.dst.items _ c.in-Some.chunk _ _
    c.is_some.ensures c.if-is_some.false c.if-self.false (rw (← c.self.view_is) at c.requires) c.in-Some.ensures.chunk c.in-Some.ensures.takes)

pub returns-in-Some-clause-again : goal.returns-in-Some-clause-again
returns-in-Some-clause-again g c found some =
    let now = c.self.inside in
    absurd (lent_not now.lent now.input.src.items c.is_some.result c.is_some.ensures c.if-is_some.false (rw (← c.self.view_is) at some))

pub returns-in-Some-clause-lends : goal.returns-in-Some-clause-lends
returns-in-Some-clause-lends g c = ((λ t. refl, λ some. refl), c.if-self.false)

pub returns-in-Some-clause-refused : goal.returns-in-Some-clause-refused
returns-in-Some-clause-refused g c = tt

pub returns-in-Some-clause-lost : goal.returns-in-Some-clause-lost
returns-in-Some-clause-lost g c lost = absurd (is_not _ _ (ap (λ z. z.is_lost) c.self.view_is) c.if-self.false lost)

pub returns-in-Some-clause-fits : goal.returns-in-Some-clause-fits
returns-in-Some-clause-fits g c =
    let now = c.self.inside in
    subst (λ (n : ℕ). FitsAt now.input.lost (codec_state c.find_front.new.codec (drop n now.input.src.items) now.input.dst.items)) c.in-Some.ensures.chunk
    (takes_fits (Ok (Some (front_payload now.input.src.items))) now.input.lost (input_state c.args.codec.now None now.input)
    (codec_state c.find_front.new.codec (drop c.in-Some.chunk now.input.src.items) now.input.dst.items) c.find_front.ensures.limit c.in-Some.ensures.takes)

pub returns-in-Some-clause-loses : goal.returns-in-Some-clause-loses
returns-in-Some-clause-loses g c = (λ lost. absurd (false≢true (sym c.if-self.false ∙ lost)), λ is. absurd (answered _ _ is))

pub returns-in-Some-clause-rest : goal.returns-in-Some-clause-rest
returns-in-Some-clause-rest g c = (ap (λ z. z.skipped) c.self.view_is, ap (λ z. z.copied) c.self.view_is, c.find_front.ensures.limit)

pub returns-clause-again : goal.returns-clause-again
returns-clause-again g c found some =
    let now = c.self.inside in
    absurd (lent_not now.lent now.input.src.items c.is_some.result c.is_some.ensures c.if-is_some.false (rw (← c.self.view_is) at some))

pub returns-clause-lost : goal.returns-clause-lost
returns-clause-lost g c lost = absurd (is_not _ _ (ap (λ z. z.is_lost) c.self.view_is) c.if-self.false lost)

pub returns-clause-lends : goal.returns-clause-lends
returns-clause-lends g c = c.fill_by_reads.ensures.lends

pub returns-clause-fits : goal.returns-clause-fits
returns-clause-fits g c = c.fill_by_reads.ensures.fits

pub returns-clause-loses : goal.returns-clause-loses
returns-clause-loses g c = c.fill_by_reads.ensures.loses

pub returns-clause-rest : goal.returns-clause-rest
returns-clause-rest g c =
    let rest = c.fill_by_reads.ensures.rest in
    (rest.0, rest.1, rest.2 ∙ c.find_front.ensures.limit)

pub invariant_of-self : goal.invariant_of-self
invariant_of-self g c = (c.in-Some.ensures.chunk, c.in-Some.ensures.whole)
