use Rattle.std.proofs.Common.{◌≡◌, ◌∙◌, [], ap, refl, sym, subst, inr, true, false, IsNone}
use Rattle.wire_span.specs.Spans.{header_came, span_state}
use Rattle.wire_packet_io.specs.Copying.{copied_to}
use Rattle.wire_packet_io.specs.Lending.{packet_of}
use Rattle.wire_packet_io.proofs.CopyLemmas.{can_after}
use Rattle.wire_packet_io.proofs.PlaceLemmas.{copies_none, none_is, nothing_held, same_reading}
use Rattle.std.proofs.lemmas.Bool.{false≢true}
use Rattle.wire_packet_io.proofs.ReadingLemmas.{is_refused, not_ended_yet}
use Rattle.wire_packet_io.proofs.WholeLemmas.{begins_front, behind_is, midst_is, not_lent}
use Rattle.wire_packet_io.proofs.reader.PacketReader.copy_begin.Given as given
use Rattle.wire_packet_io.proofs.reader.PacketReader.copy_begin.Goals as goal
use Rattle.wire_packet_io.proofs.reader.PacketReader.copy_begin.Goals.{Else-is_some}

pub returns-in-Ok-true-clause-goes : goal.returns-in-Ok-true-clause-goes
returns-in-Ok-true-clause-goes g c =
    let now = c.self.inside in
    let after = span_state c.copy_begin.new.decoder in
    let alone : IsNone now.copied = sym c.is_some.ensures ∙ c.if-is_some.false in
    let can = rw (← c.self.view_is) at c.requires.can in
    let place = rw (← c.self.view_is) at c.requires.place in
    let none : IsNone (packet_of now.lent now.input.src.items) = not_lent _ _ _ now.copied now.input.lost _ can place alone in
    let limit = c.copy_begin.ensures.kept.1 ∙ ap (λ s. s.limit) c.in_front_of-decoder.ensures in
    let end = behind_is now.copied c.begin_at.new.self after alone (c.in-Ok-true.ensures.ends c.in-Ok-true.field-0-test) (c.begin_at.ensures.limit ∙ sym limit) (c.begin_at.ensures.id ∙ c.sequence_id.ensures) in
    rw (← c.self.view_is)
    (begins_front now.lent now.copied c.args.codec.now true (span_state c.in_front_of-decoder.result) after (copied_to now.copied c.begin_at.new.self) now.input.src.items c.copy_begin.new.self.src.items _ _ _
    none alone c.in_front_of-decoder.ensures end refl (rw c.in-Ok-true.field-0-test at c.in-Ok-true.ensures.goes))

pub returns-in-Ok-false-clause-goes : goal.returns-in-Ok-false-clause-goes
returns-in-Ok-false-clause-goes g c =
    let now = c.self.inside in
    let after = span_state c.copy_begin.new.decoder in
    let alone : IsNone now.copied = sym c.is_some.ensures ∙ c.if-is_some.false in
    let can = rw (← c.self.view_is) at c.requires.can in
    let place = rw (← c.self.view_is) at c.requires.place in
    let none : IsNone (packet_of now.lent now.input.src.items) = not_lent _ _ _ now.copied now.input.lost _ can place alone in
    let limit = c.copy_begin.ensures.kept.1 ∙ ap (λ s. s.limit) c.in_front_of-decoder.ensures in
    let end = midst_is c.copy_begin.new.decoder c.args.codec.now limit in
    rw (← c.self.view_is)
    (begins_front now.lent now.copied c.args.codec.now false (span_state c.in_front_of-decoder.result) after _ now.input.src.items c.copy_begin.new.self.src.items _ _ _
    none alone c.in_front_of-decoder.ensures end refl (rw c.in-Ok-false.field-0-test at c.in-Ok-false.ensures.goes))

pub returns-after-matches-clause-goes : goal.returns-after-matches-clause-goes
returns-after-matches-clause-goes g c =
    let now = c.self.inside in
    let after = span_state c.copy_begin.new.decoder in
    let alone : IsNone now.copied = sym c.is_some.ensures ∙ c.if-is_some.false in
    let can = rw (← c.self.view_is) at c.requires.can in
    let place = rw (← c.self.view_is) at c.requires.place in
    let none : IsNone (packet_of now.lent now.input.src.items) = not_lent _ _ _ now.copied now.input.lost _ can place alone in
    rw (← c.self.view_is)
    (begins_front now.lent now.copied c.args.codec.now false (span_state c.in_front_of-decoder.result) after _ now.input.src.items c.copy_begin.new.self.src.items _ _ _
    none alone c.in_front_of-decoder.ensures c.keep_place.ensures.place (ap (λ z. z.unread) c.keep_place.ensures.rest) c.in-Err.ensures.goes)

pub returns-then-is_some-clause-goes : goal.returns-then-is_some-clause-goes
returns-then-is_some-clause-goes g c = copies_none (copied_to c.args.self.now.copied c.args.codec.now) c.args.self.now.unread (g.W.Write.contents c.args.writer.now)

-- it held nothing, and lent nothing
empty : (g : given.Over) (c : Else-is_some g) → (c.self.inside.input.dst.items ≡ []) × IsNone (packet_of c.self.inside.lent c.self.inside.input.src.items)
empty g c =
    let now = c.self.inside in
    let can = rw (← c.self.view_is) at c.requires.can in
    let place = rw (← c.self.view_is) at c.requires.place in
    nothing_held _ (λ decoder. header_came (span_state decoder).place ≡ []) now.copied now.input.lost now.input.dst.items (packet_of now.lent now.input.src.items)
    (inr (place (sym c.is_some.ensures ∙ c.if-is_some.false))) can

pub returns-after-matches-clause-can : goal.returns-after-matches-clause-can
returns-after-matches-clause-can g c =
    let kept = c.keep_place.ensures in
    let now = c.keep_place.new.self in
    can_after now.copied now.is_lost c.keep_place.new.codec now.unread now.held now.lent c.copy_begin.new.decoder
    (subst (λ z. IsNone z) (sym (ap (λ z. z.lent) kept.rest)) refl)
    (ap (λ z. z.held) kept.rest ∙ ap (λ z. z.dst.items) c.copy_begin.ensures.kept.2 ∙ (empty g (goal.at.returns-after-matches-clause-can g c).Else-is_some).0)
    kept.header kept.kept c.copy_begin.ensures.kept.0

pub returns-in-Ok-true-clause-rest : goal.returns-in-Ok-true-clause-rest
returns-in-Ok-true-clause-rest g c =
    let now = c.self.inside in
    let new = c.copy_begin.new.self in
    let kept = c.copy_begin.ensures.kept.2 in
    rw (← c.self.view_is) (
      same_reading new.reader now.input.reader new.src.items new.dst.items now.input.dst.items _ _ new.lost now.skipped now.copied new.reads now.input.reads
          (ap (λ z. z.reader) kept) (ap (λ z. z.dst.items) kept) (sym (none_is (packet_of now.lent now.input.src.items) (empty g (goal.at.returns-in-Ok-true-clause-rest g c).Else-is_some).1)) (ap (λ z. z.reads) kept),
      c.begin_at.ensures.limit,
    )

pub returns-in-Ok-false-clause-rest : goal.returns-in-Ok-false-clause-rest
returns-in-Ok-false-clause-rest g c =
    let now = c.self.inside in
    let new = c.copy_begin.new.self in
    let kept = c.copy_begin.ensures.kept.2 in
    rw (← c.self.view_is) (
      same_reading new.reader now.input.reader new.src.items new.dst.items now.input.dst.items _ _ new.lost now.skipped _ new.reads now.input.reads
          (ap (λ z. z.reader) kept) (ap (λ z. z.dst.items) kept) (sym (none_is (packet_of now.lent now.input.src.items) (empty g (goal.at.returns-in-Ok-false-clause-rest g c).Else-is_some).1)) (ap (λ z. z.reads) kept),
      refl,
    )

pub returns-then-is_some-clause-ended : goal.returns-then-is_some-clause-ended
returns-then-is_some-clause-ended g c t = absurd (false≢true t)

pub returns-then-is_some-clause-going : goal.returns-then-is_some-clause-going
returns-then-is_some-clause-going g c is = rw (← c.self.view_is) (sym c.is_some.ensures ∙ c.if-is_some.true)

pub returns-then-is_some-clause-stops : goal.returns-then-is_some-clause-stops
returns-then-is_some-clause-stops g c = tt

pub returns-then-is_some-clause-loses : goal.returns-then-is_some-clause-loses
returns-then-is_some-clause-loses g c = tt

pub returns-then-is_some-clause-header : goal.returns-then-is_some-clause-header
returns-then-is_some-clause-header g c none =
    let closed = rw (← c.self.view_is) at none in
    absurd (false≢true (sym closed ∙ sym c.is_some.ensures ∙ c.if-is_some.true))

pub returns-then-is_some-clause-under_way : goal.returns-then-is_some-clause-under_way
returns-then-is_some-clause-under_way g c some = refl

pub returns-then-is_some-clause-can : goal.returns-then-is_some-clause-can
returns-then-is_some-clause-can g c = c.requires.can

pub returns-then-is_some-clause-rest : goal.returns-then-is_some-clause-rest
returns-then-is_some-clause-rest g c = (refl, refl)

pub copy_begin-requires : goal.copy_begin-requires
copy_begin-requires g c = record {
  uncut = ap (λ s. header_came s.place) c.in_front_of-decoder.ensures;
}

pub invariant_of-self : goal.invariant_of-self
invariant_of-self g c = tt

pub invariant_of-self-in-Ok-false : goal.invariant_of-self-in-Ok-false
invariant_of-self-in-Ok-false g c = tt

pub invariant_of-self-in-Err : goal.invariant_of-self-in-Err
invariant_of-self-in-Err g c = tt

pub keep_place-requires : goal.keep_place-requires
keep_place-requires g c = record {
  limit = c.copy_begin.ensures.kept.1 ∙ ap (λ s. s.limit) c.in_front_of-decoder.ensures;
}

pub returns-in-Ok-true-clause-ended : goal.returns-in-Ok-true-clause-ended
returns-in-Ok-true-clause-ended g c t =
    let alone : IsNone c.self.inside.copied = sym c.is_some.ensures ∙ c.if-is_some.false in
    let place = rw (← c.self.view_is) at c.requires.place in
    (alone, ap (λ z. z.lost) c.copy_begin.ensures.kept.2 ∙ place alone)

pub returns-in-Ok-true-clause-going : goal.returns-in-Ok-true-clause-going
returns-in-Ok-true-clause-going g c is = absurd (not_ended_yet is)

pub returns-in-Ok-true-clause-stops : goal.returns-in-Ok-true-clause-stops
returns-in-Ok-true-clause-stops g c = tt

pub returns-in-Ok-true-clause-loses : goal.returns-in-Ok-true-clause-loses
returns-in-Ok-true-clause-loses g c = tt

pub returns-in-Ok-true-clause-header : goal.returns-in-Ok-true-clause-header
returns-in-Ok-true-clause-header g c none = c.begin_at.ensures.header

pub returns-in-Ok-true-clause-under_way : goal.returns-in-Ok-true-clause-under_way
returns-in-Ok-true-clause-under_way g c some = absurd (false≢true (sym c.if-is_some.false ∙ c.is_some.ensures ∙ some))

pub returns-in-Ok-false-clause-ended : goal.returns-in-Ok-false-clause-ended
returns-in-Ok-false-clause-ended g c t = absurd (false≢true t)

pub returns-in-Ok-false-clause-going : goal.returns-in-Ok-false-clause-going
returns-in-Ok-false-clause-going g c is = refl

pub returns-in-Ok-false-clause-stops : goal.returns-in-Ok-false-clause-stops
returns-in-Ok-false-clause-stops g c = tt

pub returns-in-Ok-false-clause-loses : goal.returns-in-Ok-false-clause-loses
returns-in-Ok-false-clause-loses g c = tt

pub returns-in-Ok-false-clause-header : goal.returns-in-Ok-false-clause-header
returns-in-Ok-false-clause-header g c none = absurd (false≢true (sym none))

pub returns-in-Ok-false-clause-under_way : goal.returns-in-Ok-false-clause-under_way
returns-in-Ok-false-clause-under_way g c some = refl

pub returns-in-Ok-false-clause-can : goal.returns-in-Ok-false-clause-can
returns-in-Ok-false-clause-can g c = (
  c.copy_begin.ensures.kept.0,
  ap (λ z. z.dst.items) c.copy_begin.ensures.kept.2 ∙ (empty g (goal.at.returns-in-Ok-false-clause-can g c).Else-is_some).0,
  refl,
)

pub returns-after-matches-clause-ended : goal.returns-after-matches-clause-ended
returns-after-matches-clause-ended g c = tt

pub returns-after-matches-clause-going : goal.returns-after-matches-clause-going
returns-after-matches-clause-going g c is = absurd (is_refused _ _ is)

pub returns-after-matches-clause-header : goal.returns-after-matches-clause-header
returns-after-matches-clause-header g c = c.keep_place.ensures.header

pub returns-after-matches-clause-under_way : goal.returns-after-matches-clause-under_way
returns-after-matches-clause-under_way g c = c.keep_place.ensures.under_way
