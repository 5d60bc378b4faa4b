use Rattle.std.proofs.Common.{◌∙◌, [], ap, refl, subst, sym, IsNone, Ok, Err, true, not, inr}
use Rattle.wire_packet_io.specs.declared.error.PacketIoError.TheVariants.{PacketsOutOfSync}
use Rattle.wire_packet_io.proofs.PlaceLemmas.{ended_loses, has_no_place}
use Rattle.std.proofs.KnownBytes.{Appends-nil}
use Rattle.wire_span.specs.Spans.{span_state}
use Rattle.wire_packet_io.specs.Copying.{copied_to, HasPlace}
use Rattle.wire_packet_io.proofs.CopyLemmas.{can_after, copies_before, copies_go, reads_start, stops_unended}
use Rattle.wire_packet_io.proofs.ReadingLemmas.{error_loses, none_between}
use Rattle.wire_packet_io.proofs.WholeLemmas.{limit_is}
use Rattle.wire_packet_io.proofs.reader.PacketReader.copy_packet.Given as given
use Rattle.wire_packet_io.proofs.reader.PacketReader.copy_packet.Goals as goal
use Rattle.wire_packet_io.proofs.reader.PacketReader.copy_packet.Goals.{Then-is_none}

pub returns-in-Ok-true-clause-copies : goal.returns-in-Ok-true-clause-copies
returns-in-Ok-true-clause-copies g c place =
    let old = c.args.self.now in
    let new = c.copy_begin.new.self in
    let a = copied_to old.copied c.args.codec.now in
    let rest = c.copy_begin.ensures.rest.0 in
    copies_go (Ok true) a a (copied_to new.copied c.copy_begin.new.codec) old.unread old.unread _ _ _ _ _ _ _ _ _ _
    refl (ap (λ z. g.R.Read.remaining z.reader) rest) (ap (λ z. z.reads) rest)
    ([], Appends-nil _, reads_start a old.unread (g.R.Read.remaining old.reader) old.reads)
    (rw c.in-Ok-true.field-0-test at c.in-Ok-true.ensures.goes) tt

pub returns-in-Err-clause-copies : goal.returns-in-Err-clause-copies
returns-in-Err-clause-copies g c place =
    let old = c.args.self.now in
    let new = c.copy_begin.new.self in
    let a = copied_to old.copied c.args.codec.now in
    let rest = c.copy_begin.ensures.rest.0 in
    copies_go (Err c.in-Err.error) a a (copied_to new.copied c.copy_begin.new.codec) old.unread old.unread _ _ _ _ _ _ _ _ _ _
    refl (ap (λ z. g.R.Read.remaining z.reader) rest) (ap (λ z. z.reads) rest)
    ([], Appends-nil _, reads_start a old.unread (g.R.Read.remaining old.reader) old.reads)
    c.in-Err.ensures.goes (stops_unended c.in-Err.error _ _ _ c.in-Err.ensures.stops)

pub returns-clause-copies : goal.returns-clause-copies
returns-clause-copies g c place =
    let old = c.args.self.now in
    let mid = c.copy_begin.new.self in
    let rest = c.copy_begin.ensures.rest in
    let went = c.go_on_copying-result in
    let kept = c.keep_place.ensures in
    let limit = limit_is mid.copied c.copy_begin.new.codec ∙ rest.1 ∙ sym (limit_is old.copied c.args.codec.now) in
    rw (kept.place, ap (λ z. z.unread) kept.rest, ap (λ z. z.reader) kept.rest, ap (λ z. z.reads) kept.rest)
    (copies_before went.result (copied_to old.copied c.args.codec.now) (copied_to mid.copied c.copy_begin.new.codec) (span_state went.new.decoder)
    old.unread mid.unread _ _ _ _ _ _ _ _ _ _ limit (ap (λ z. g.R.Read.remaining z.reader) rest.0) (ap (λ z. z.reads) rest.0)
    (rw c.in-Ok-false.field-0-test at c.in-Ok-false.ensures.goes) (rw c.copied_so_far-decoder.ensures at went.ensures.copies))

pub returns-clause-can : goal.returns-clause-can
returns-clause-can g c =
    let kept = c.keep_place.ensures in
    let went = c.go_on_copying-result in
    let now = c.keep_place.new.self in
    can_after now.copied now.is_lost c.keep_place.new.codec now.unread now.held now.lent went.new.decoder
    (subst (λ z. IsNone z) (sym (ap (λ z. z.lent) kept.rest)) went.ensures.none) (ap (λ z. z.held) kept.rest ∙ went.ensures.held)
    kept.header kept.kept went.ensures.uncut

-- a lost reader has no place
unplaced : (g : given.Over) (c : Then-is_none g) → HasPlace c.args.self.now → ⊥
unplaced g c place =
    has_no_place c.self.inside.copied c.self.inside.input.lost (c.is_none.ensures ∙ ap not c.if-is_none.true) c.if-self.true (rw (← c.self.view_is) at place)

pub returns-then-is_none-clause-copies : goal.returns-then-is_none-clause-copies
returns-then-is_none-clause-copies g c place = absurd (unplaced g (goal.at.returns-then-is_none-clause-copies g c).Then-is_none place)

pub returns-then-is_none-clause-stops : goal.returns-then-is_none-clause-stops
returns-then-is_none-clause-stops g c place = absurd (unplaced g (goal.at.returns-then-is_none-clause-stops g c).Then-is_none place)

pub returns-then-is_none-clause-loses : goal.returns-then-is_none-clause-loses
returns-then-is_none-clause-loses g c = (λ lost. inr refl, λ why. rw (← c.self.view_is) c.if-self.true)

pub returns-in-Ok-true-clause-loses : goal.returns-in-Ok-true-clause-loses
returns-in-Ok-true-clause-loses g c =
    let ended = c.in-Ok-true.ensures.ended c.in-Ok-true.field-0-test in
    ended_loses c.copy_begin.new.self.is_lost c.copy_begin.new.self.copied PacketsOutOfSync ended.0 ended.1

pub keep_place-requires : goal.keep_place-requires
keep_place-requires g c = record {
  limit = c.go_on_copying-result.ensures.limit ∙ ap (λ s. s.limit) c.copied_so_far-decoder.ensures ∙ limit_is c.copy_begin.new.self.copied c.copy_begin.new.codec;
}

pub returns-then-is_none-clause-lost : goal.returns-then-is_none-clause-lost
returns-then-is_none-clause-lost g c none lost = (refl, refl, refl, refl)

pub returns-then-is_none-clause-ended : goal.returns-then-is_none-clause-ended
returns-then-is_none-clause-ended g c = tt

pub returns-then-is_none-clause-header : goal.returns-then-is_none-clause-header
returns-then-is_none-clause-header g c place = absurd (unplaced g (goal.at.returns-then-is_none-clause-header g c).Then-is_none place)

pub returns-then-is_none-clause-under_way : goal.returns-then-is_none-clause-under_way
returns-then-is_none-clause-under_way g c some = refl

pub returns-then-is_none-clause-rest : goal.returns-then-is_none-clause-rest
returns-then-is_none-clause-rest g c = (refl, refl, refl, refl)

pub returns-then-is_none-clause-can : goal.returns-then-is_none-clause-can
returns-then-is_none-clause-can g c = c.requires

pub copy_begin-requires-clause-can : goal.copy_begin-requires-clause-can
copy_begin-requires-clause-can g c = c.requires

pub returns-in-Ok-true-clause-stops : goal.returns-in-Ok-true-clause-stops
returns-in-Ok-true-clause-stops g c place =
    none_between c.copy_begin.new.self.copied c.copy_begin.new.codec (c.in-Ok-true.ensures.ended c.in-Ok-true.field-0-test).0

pub returns-in-Ok-true-clause-ended : goal.returns-in-Ok-true-clause-ended
returns-in-Ok-true-clause-ended g c = c.in-Ok-true.ensures.ended c.in-Ok-true.field-0-test

pub returns-in-Ok-true-clause-header : goal.returns-in-Ok-true-clause-header
returns-in-Ok-true-clause-header g c place = c.copy_begin.ensures.header

pub returns-in-Ok-true-clause-under_way : goal.returns-in-Ok-true-clause-under_way
returns-in-Ok-true-clause-under_way g c = c.copy_begin.ensures.under_way

pub returns-in-Ok-true-clause-rest : goal.returns-in-Ok-true-clause-rest
returns-in-Ok-true-clause-rest g c =
    let rest = c.copy_begin.ensures.rest in
    (ap (λ z. z.held) rest.0, ap (λ z. z.lent) rest.0, ap (λ z. z.skipped) rest.0, rest.1)

pub returns-in-Ok-true-clause-can : goal.returns-in-Ok-true-clause-can
returns-in-Ok-true-clause-can g c = c.copy_begin.ensures.can

pub returns-in-Err-clause-ended : goal.returns-in-Err-clause-ended
returns-in-Err-clause-ended g c = tt

pub returns-in-Err-clause-header : goal.returns-in-Err-clause-header
returns-in-Err-clause-header g c place = c.copy_begin.ensures.header

pub returns-in-Err-clause-under_way : goal.returns-in-Err-clause-under_way
returns-in-Err-clause-under_way g c = c.copy_begin.ensures.under_way

pub returns-in-Err-clause-loses : goal.returns-in-Err-clause-loses
returns-in-Err-clause-loses g c = error_loses c.in-Err.error PacketsOutOfSync c.copy_begin.new.self.is_lost c.copy_begin.new.self.copied c.in-Err.ensures.loses

pub returns-in-Err-clause-rest : goal.returns-in-Err-clause-rest
returns-in-Err-clause-rest g c =
    let rest = c.copy_begin.ensures.rest in
    (ap (λ z. z.held) rest.0, ap (λ z. z.lent) rest.0, ap (λ z. z.skipped) rest.0, rest.1)

pub returns-in-Err-clause-can : goal.returns-in-Err-clause-can
returns-in-Err-clause-can g c = c.copy_begin.ensures.can

pub returns-clause-header : goal.returns-clause-header
returns-clause-header g c place = c.keep_place.ensures.header
