use Rattle.wire_packet_io.specs.declared.error.PacketIoError.TheVariants.{PacketsOutOfSync}
use Rattle.wire_packet_io.proofs.ReadingLemmas.{answered, lends_found, not_lost, refused_loses, unlent, unlent_there}
use Rattle.std.proofs.Common.{refl, false, None, Err, ap}
use Rattle.wire_packet_io.proofs.LendingLemmas.{fits_apart, is_unlent, reads_apart, reads_unlent, stands_unlent}
use Rattle.wire_packet_io.proofs.reader.PacketReader.fill_by_reads.Goals as goal

pub next-requires-clause-stands : goal.next-requires-clause-stands
next-requires-clause-stands g c =
    let now = c.self.inside in
    (stands_unlent now.lent false now.input.lost c.args.codec.now now.input.src.items now.input.dst.items (is_unlent now.lent now.input.src.items (rw (← c.self.view_is) at c.requires.none)) refl (rw (← c.self.view_is) at c.requires.found)
    (rw (← c.self.view_is) at c.requires.fits))

pub returns-in-Ok-clause-fills : goal.returns-in-Ok-clause-fills
returns-in-Ok-clause-fills g c =
    let now = c.self.inside in
    rw (← c.self.view_is)
    (reads_unlent now.lent false c.args.codec.now now.input.src.items now.input.dst.items _ _ _ _ _ _ (is_unlent now.lent now.input.src.items (rw (← c.self.view_is) at c.requires.none)) refl
    c.in-Ok.ensures.next)

pub returns-in-Ok-clause-fits : goal.returns-in-Ok-clause-fits
returns-in-Ok-clause-fits g c = c.in-Ok.ensures.fits.0

pub returns-in-Err-clause-fills : goal.returns-in-Err-clause-fills
returns-in-Err-clause-fills g c =
    let now = c.self.inside in
    let new = c.next.new.self in
    rw (← c.self.view_is)
    (reads_apart now.lent (Err c.in-Err.error) false c.args.codec.now c.next.new.codec now.input.src.items now.input.dst.items new.src.items new.dst.items _ _ _ _ _
    (is_unlent now.lent now.input.src.items (rw (← c.self.view_is) at c.requires.none)) refl tt refl c.in-Err.ensures.next)

pub returns-in-Err-clause-fits : goal.returns-in-Err-clause-fits
returns-in-Err-clause-fits g c =
    let now = c.self.inside in
    let new = c.next.new.self in
    fits_apart now.lent None false new.lost c.next.new.codec new.src.items new.dst.items (is_unlent now.lent now.input.src.items (rw (← c.self.view_is) at c.requires.none)) refl tt c.in-Err.ensures.fits.0

pub next-requires-clause-found : goal.next-requires-clause-found
next-requires-clause-found g c = rw (← c.self.view_is) at c.requires.found

pub invariant_of-self : goal.invariant_of-self
invariant_of-self g c = c.in-Ok.ensures.there.0

pub invariant_of-self-in-Err : goal.invariant_of-self-in-Err
invariant_of-self-in-Err g c =
    let now = c.self.inside in
    unlent_there now.lent c.next.new.self.src.items false (is_unlent now.lent now.input.src.items (rw (← c.self.view_is) at c.requires.none)) refl

pub returns-in-Ok-clause-lends : goal.returns-in-Ok-clause-lends
returns-in-Ok-clause-lends g c =
    let new = c.next.new.self in (
      lends_found c.in-Ok.found new.src.items c.is_some.result c.is_some.ensures,
      not_lost c.in-Ok.found new.lost PacketsOutOfSync c.in-Ok.ensures.loses.0,
    )

pub returns-in-Ok-clause-refused : goal.returns-in-Ok-clause-refused
returns-in-Ok-clause-refused g c = tt

pub returns-in-Ok-clause-loses : goal.returns-in-Ok-clause-loses
returns-in-Ok-clause-loses g c = (λ lost. absurd (answered _ _ (c.in-Ok.ensures.loses.0 lost)), λ is. absurd (answered _ _ is))

pub returns-in-Ok-clause-rest : goal.returns-in-Ok-clause-rest
returns-in-Ok-clause-rest g c = (ap (λ z. z.skipped) c.self.view_is, ap (λ z. z.copied) c.self.view_is, c.in-Ok.ensures.fits.1)

pub returns-in-Err-clause-lends : goal.returns-in-Err-clause-lends
returns-in-Err-clause-lends g c = tt

pub returns-in-Err-clause-refused : goal.returns-in-Err-clause-refused
returns-in-Err-clause-refused g c =
    let now = c.self.inside in
    unlent now.lent c.next.new.self.src.items false (is_unlent now.lent now.input.src.items (rw (← c.self.view_is) at c.requires.none)) refl

pub returns-in-Err-clause-loses : goal.returns-in-Err-clause-loses
returns-in-Err-clause-loses g c = refused_loses c.in-Err.error PacketsOutOfSync c.next.new.self.lost c.in-Err.ensures.loses

pub returns-in-Err-clause-rest : goal.returns-in-Err-clause-rest
returns-in-Err-clause-rest g c = (ap (λ z. z.skipped) c.self.view_is, ap (λ z. z.copied) c.self.view_is, c.in-Err.ensures.fits.1)
