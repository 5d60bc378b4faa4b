use Rattle.wire_packet_io.proofs.ReadingLemmas.{answered}
use Rattle.std.proofs.lemmas.Bool.{false≢true}
use Rattle.std.proofs.Common.{◌<◌, ◌∙◌, ℕ, sym, ap, refl, false, subst, ◌++◌}
use Rattle.wire_codec.specs.Codec.{CodecState}
use Rattle.wire_codec.specs.Skipping.{WouldStand}
use Rattle.wire_codec.specs.declared.codec.packet.skip.Skipped.{Skipped}
use Rattle.wire_packet_io.proofs.PacketIoLemmas.{above_zero, Waited, starts, to_go, waited, goes_on, smaller}
use Rattle.wire_packet_io.proofs.SkipLemmas.{skip_to_go, skip_to_go_is, would_stand_more, skip_found, skip_refused, skip_failed, skip_ended}
use Rattle.wire_packet_io.proofs.input.Input.skip.Given as given
use Rattle.wire_packet_io.proofs.input.Input.skip.Goals as goal
use Rattle.wire_packet_io.proofs.input.Input.skip.Goals.{In-Ok-false}

pub skips-init : goal.skips-init
skips-init g c = record {
  found = c.requires.found;
  held = refl;
  same = refl;
  so_far = λ full w. (full, w, starts full (g.R.Read.remaining c.args.self.now.reader) c.args.self.now.reads w.stands);
}

pub returns-in-Ok-true-clause-skips : goal.returns-in-Ok-true-clause-skips
returns-in-Ok-true-clause-skips g c full w =
    let inv = c.skips.invariant.so_far full w in
    skip_found full inv.0 _ _ _ _ c.skip.new.skipped c.skip.new.self c.skip.new.src.items inv.2 ((rw c.in-Ok-true.field-0-test at c.in-Ok-true.ensures.skips) inv.0 inv.1)

pub returns-in-Err-clause-skips : goal.returns-in-Err-clause-skips
returns-in-Err-clause-skips g c full w =
    let inv = c.skips.invariant.so_far full w in
    rw c.refuse.ensures.rest (skip_refused c.in-Err.error c.refuse.result full inv.0 _ _ _ _ c.skip.new.skipped c.skip.new.self c.skip.new.src.items
    inv.2 (c.in-Err.ensures.skips inv.0 inv.1) c.refuse.ensures.name)

-- what was there didn't end the packet
waits : (g : given.Over) (c : In-Ok-false g) (full : CodecState) → WouldStand c.args.skipped.now c.args.codec.now c.args.self.now.src.items full
    → (after : CodecState) × WouldStand c.skip.new.skipped c.skip.new.self c.skip.new.src.items after
    × Waited full after (g.R.Read.remaining c.args.self.now.reader) (g.R.Read.remaining c.skips.self.reader) c.args.self.now.reads c.skips.self.reads
waits g c full w =
    let inv = c.skips.invariant.so_far full w in
    let k = (rw c.in-Ok-false.field-0-test at c.in-Ok-false.ensures.skips) inv.0 inv.1 in
    (k.0, k.2, waited false full inv.0 k.0 _ _ _ _ _ _ inv.2 refl refl (k.2.limit ∙ c.skip.ensures.limit ∙ sym inv.1.limit) (k.1, refl))

pub returns-in-Ok-eq0-clause-skips : goal.returns-in-Ok-eq0-clause-skips
returns-in-Ok-eq0-clause-skips g c full w =
    let k = waits g (goal.at.returns-in-Ok-eq0-clause-skips g c).In-Ok-false full w in
    let read = c.in-Ok-eq0.ensures in
    skip_ended c.at_skips_end.result full k.0 _ _ _ _ _ _ _ _ _ _ _ k.2 k.1 read.ok c.in-Ok-eq0.field-0-test (read.end c.in-Ok-eq0.field-0-test) read.read
    c.at_skips_end.ensures.clean c.at_skips_end.ensures.inside

pub skips-smaller : goal.skips-smaller
skips-smaller g c =
    let w = c.requires.may.1 in
    let full = c.requires.may.0 in
    let inv = c.skips.invariant.so_far full w in
    let k = (rw c.in-Ok-false.field-0-test at c.in-Ok-false.ensures.skips) inv.0 inv.1 in
    let piece = c.in-Ok.ensures.ok in
    let stands = would_stand_more c.skip.new.skipped c.skip.new.self c.skip.new.src.items piece.0 c.read_more.new.self.src.items k.0 k.2 piece.2 in
    let less = smaller false full inv.0 k.0 _ _ _ _ (k.0.unread ++ piece.0) k.0.held _ _ _ inv.2 (k.1, refl) refl (piece.0, piece.1, refl, piece.3) (above_zero c.in-Ok.field-0 c.in-Ok.field-0-test.1) in
    subst (λ (n : ℕ). n < skip_to_go c.args.codec.now.max_allowed_packet c.args.skipped.now.held c.skips.skipped c.skips.self.src.items)
    (skip_to_go_is full (record k.0 { unread = k.0.unread ++ piece.0 }) c.args.skipped.now c.skip.new.skipped c.args.codec.now c.skip.new.self c.args.self.now.src.items c.read_more.new.self.src.items w stands)
    (subst (λ (n : ℕ). to_go full k.0.held (k.0.unread ++ piece.0) < n)
    (skip_to_go_is full inv.0 c.args.skipped.now c.skips.skipped c.args.codec.now c.skips.codec c.args.self.now.src.items c.skips.self.src.items w inv.1) less)

pub skips-preserved : goal.skips-preserved
skips-preserved g c = record {
  found = c.read_more.ensures.lost ∙ c.skips.invariant.found;
  held = c.read_more.ensures.dst ∙ c.skips.invariant.held;
  same = c.skip.ensures.limit ∙ c.skips.invariant.same;
  so_far = λ full w.
      let k = waits g (goal.at.skips-preserved g c).In-Ok-false full w in
      let read = c.in-Ok.ensures in
      let piece = read.ok in (
        record k.0 { unread = k.0.unread ++ piece.0 },
        would_stand_more c.skip.new.skipped c.skip.new.self c.skip.new.src.items piece.0 c.read_more.new.self.src.items k.0 k.1 piece.2,
        goes_on full k.0 _ _ _ _ _ _ (k.0.unread ++ piece.0) k.0.held _ k.2 refl (piece.0, piece.1, refl, piece.3) (above_zero c.in-Ok.field-0 c.in-Ok.field-0-test.1) read.small read.read,
      );
}

pub returns-in-Err-read_more-clause-skips : goal.returns-in-Err-read_more-clause-skips
returns-in-Err-read_more-clause-skips g c full w =
    let k = waits g (goal.at.returns-in-Err-read_more-clause-skips g c).In-Ok-false full w in
    let read = c.in-Err-read_more.ensures in
    skip_failed c.in-Err-read_more.error full k.0 _ _ _ _ _ _ _ _ _ _ k.2 k.1 read.err read.kept read.failed

pub returns-in-Ok-true-clause-ended : goal.returns-in-Ok-true-clause-ended
returns-in-Ok-true-clause-ended g c =
    let inv = c.skips.invariant.so_far c.requires.may.0 c.requires.may.1 in
    let k = (rw c.in-Ok-true.field-0-test at c.in-Ok-true.ensures.skips) inv.0 inv.1 in
    (ap (λ (z : Skipped). z.held) k.2.0, ap (λ (z : Skipped). z.begun) k.2.0)

pub returns-in-Ok-true-clause-loses : goal.returns-in-Ok-true-clause-loses
returns-in-Ok-true-clause-loses g c = (λ lost. absurd (false≢true (sym c.skips.invariant.found ∙ lost)), λ is. absurd (answered _ _ is))

pub returns-in-Ok-true-clause-kept : goal.returns-in-Ok-true-clause-kept
returns-in-Ok-true-clause-kept g c = (c.skips.invariant.held, c.skip.ensures.limit ∙ c.skips.invariant.same)

pub returns-in-Err-clause-ended : goal.returns-in-Err-clause-ended
returns-in-Err-clause-ended g c = tt

pub returns-in-Err-clause-kept : goal.returns-in-Err-clause-kept
returns-in-Err-clause-kept g c = (ap (λ z. z.dst) c.refuse.ensures.rest ∙ c.skips.invariant.held, c.skip.ensures.limit ∙ c.skips.invariant.same)

pub returns-in-Ok-eq0-clause-kept : goal.returns-in-Ok-eq0-clause-kept
returns-in-Ok-eq0-clause-kept g c = (c.read_more.ensures.dst ∙ c.skips.invariant.held, c.skip.ensures.limit ∙ c.skips.invariant.same)

pub returns-in-Err-read_more-clause-ended : goal.returns-in-Err-read_more-clause-ended
returns-in-Err-read_more-clause-ended g c = tt

pub returns-in-Err-read_more-clause-kept : goal.returns-in-Err-read_more-clause-kept
returns-in-Err-read_more-clause-kept g c = (c.read_more.ensures.dst ∙ c.skips.invariant.held, c.skip.ensures.limit ∙ c.skips.invariant.same)
