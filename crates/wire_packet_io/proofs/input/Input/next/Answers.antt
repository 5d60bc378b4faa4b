use Rattle.std.proofs.Common.{◌≡◌, false, List, ℕ, sym, ap, ◌∙◌, subst, None, Some, Ok, Err}
use Rattle.wire_codec.specs.Codec.{codec_state}
use Rattle.wire_packet_io.specs.PacketIo.{FitsAt, NextPacket}
use Rattle.wire_packet_io.specs.Lending.{answer_over, found_in, input_state}
use Rattle.wire_packet_io.proofs.PacketIoLemmas.{above_zero, Waited, starts, ends_by, found_ends, apart_unread, waited, ended, failed, goes_on, smaller}
use Rattle.wire_packet_io.proofs.LendingLemmas.{fits_more, takes_fits}
use Rattle.wire_packet_io.proofs.input.Input.next.Given as given
use Rattle.wire_packet_io.proofs.input.Input.next.Goals as goal
use Rattle.wire_packet_io.proofs.input.Input.next.Goals.{In-Ok-None}

pub reads-init : goal.reads-init
reads-init g c = record {
  found = c.requires.found;
  so_far = starts (input_state c.args.codec.now None c.args.self.now) (g.R.Read.remaining c.args.self.now.reader) c.args.self.now.reads c.requires.stands;
}

pub returns-in-Ok-Some-clause-next : goal.returns-in-Ok-Some-clause-next
returns-in-Ok-Some-clause-next g c =
    let found = c.in-Ok-Some.found in
    let src = c.find_next.new.self.src.items in
    ends_by (answer_over (Ok (Some found)) src) c.find_next.new.self.lost (input_state c.args.codec.now None c.args.self.now) (input_state c.reads.codec None c.reads.self)
    (input_state c.find_next.new.codec (Some found) c.find_next.new.self) _ _ _ _ _ _ c.reads.invariant.so_far (ap (λ z. g.R.Read.remaining z) c.find_next.ensures.kept.0) c.find_next.ensures.kept.1
    (found_ends found src) (rw c.in-Ok-Some.field-0-is at c.in-Ok-Some.ensures.takes)

pub returns-in-Err-clause-next : goal.returns-in-Err-clause-next
returns-in-Err-clause-next g c =
    ends_by (Err c.in-Err.error) c.find_next.new.self.lost (input_state c.args.codec.now None c.args.self.now) (input_state c.reads.codec None c.reads.self)
    (input_state c.find_next.new.codec None c.find_next.new.self) _ _ _ _ _ _ c.reads.invariant.so_far (ap (λ z. g.R.Read.remaining z) c.find_next.ensures.kept.0) c.find_next.ensures.kept.1
    (λ e. absurd cc) c.in-Err.ensures.takes

-- what was there had no packet
waits : (g : given.Over) (c : In-Ok-None g)
    → Waited (input_state c.args.codec.now None c.args.self.now) (input_state c.find_next.new.codec None c.find_next.new.self)
    (g.R.Read.remaining c.args.self.now.reader) (g.R.Read.remaining c.find_next.new.self.reader) c.args.self.now.reads c.find_next.new.self.reads
waits g c =
    waited c.find_next.new.self.lost (input_state c.args.codec.now None c.args.self.now) (input_state c.reads.codec None c.reads.self) (input_state c.find_next.new.codec None c.find_next.new.self) _ _ _ _ _ _
    c.reads.invariant.so_far (ap (λ z. g.R.Read.remaining z) c.find_next.ensures.kept.0) c.find_next.ensures.kept.1 c.find_next.ensures.kept.2 (rw c.in-Ok-None.field-0-is at c.in-Ok-None.ensures.takes)

pub returns-in-Ok-eq0-clause-next : goal.returns-in-Ok-eq0-clause-next
returns-in-Ok-eq0-clause-next g c =
    let read = c.in-Ok-eq0.ensures in
    let now = c.read_more.new.self in
    let answer = answer_over c.at_end.result now.src.items in
    subst (λ (z : List ℕ). NextPacket (input_state c.args.codec.now None c.args.self.now) (g.R.Read.remaining c.args.self.now.reader) (g.R.Read.remaining now.reader) c.args.self.now.reads now.reads answer
    (codec_state c.find_next.new.codec z now.dst.items)) (sym (apart_unread (found_in c.at_end.result) now.src.items c.at_end.ensures.none))
    (ended answer _ (input_state c.find_next.new.codec None c.find_next.new.self) _ _ _ _ _ _ now.src.items now.dst.items _ (waits g (goal.at.returns-in-Ok-eq0-clause-next g c).In-Ok-None)
    (ap (λ z. z.items) c.read_more.ensures.dst) read.ok c.in-Ok-eq0.field-0-test (read.end c.in-Ok-eq0.field-0-test) read.read c.at_end.ensures.ends)

pub reads-smaller : goal.reads-smaller
reads-smaller g c =
    smaller c.find_next.new.self.lost (input_state c.args.codec.now None c.args.self.now) (input_state c.reads.codec None c.reads.self) (input_state c.find_next.new.codec None c.find_next.new.self) _ _ _ _
    c.read_more.new.self.src.items c.read_more.new.self.dst.items _ _ _ c.reads.invariant.so_far (rw c.in-Ok-None.field-0-is at c.in-Ok-None.ensures.takes)
    (ap (λ z. z.items) c.read_more.ensures.dst) c.in-Ok.ensures.ok (above_zero c.in-Ok.field-0 c.in-Ok.field-0-test.1)

pub reads-preserved : goal.reads-preserved
reads-preserved g c =
    let read = c.in-Ok.ensures in
    let takes = rw c.in-Ok-None.field-0-is at c.in-Ok-None.ensures.takes in
    record {
      found = c.read_more.ensures.lost ∙ takes.1;
      so_far = goes_on _ (input_state c.find_next.new.codec None c.find_next.new.self) _ _ _ _ _ _ c.read_more.new.self.src.items c.read_more.new.self.dst.items _
          (waits g (goal.at.reads-preserved g c).In-Ok-None) (ap (λ z. z.items) c.read_more.ensures.dst) read.ok (above_zero c.in-Ok.field-0 c.in-Ok.field-0-test.1) read.small read.read;
    }

pub returns-in-Err-read_more-clause-next : goal.returns-in-Err-read_more-clause-next
returns-in-Err-read_more-clause-next g c =
    let read = c.in-Err-read_more.ensures in
    failed c.in-Err-read_more.error _ (input_state c.find_next.new.codec None c.find_next.new.self) _ _ _ _ _ _ c.read_more.new.self.src.items c.read_more.new.self.dst.items
    (waits g (goal.at.returns-in-Err-read_more-clause-next g c).In-Ok-None) (ap (λ z. z.items) c.read_more.ensures.dst) read.err read.kept read.failed

pub returns-in-Ok-Some-clause-fits : goal.returns-in-Ok-Some-clause-fits
returns-in-Ok-Some-clause-fits g c =
    let found = c.in-Ok-Some.found in (
      takes_fits (answer_over (Ok (Some found)) c.find_next.new.self.src.items) c.find_next.new.self.lost (input_state c.reads.codec None c.reads.self) (input_state c.find_next.new.codec (Some found) c.find_next.new.self)
          c.find_next.ensures.kept.2 (rw c.in-Ok-Some.field-0-is at c.in-Ok-Some.ensures.takes),
      c.find_next.ensures.kept.2 ∙ c.reads.invariant.so_far.limit,
    )

pub returns-in-Err-clause-fits : goal.returns-in-Err-clause-fits
returns-in-Err-clause-fits g c = (
  takes_fits (Err c.in-Err.error) c.find_next.new.self.lost (input_state c.reads.codec None c.reads.self) (input_state c.find_next.new.codec None c.find_next.new.self) c.find_next.ensures.kept.2 c.in-Err.ensures.takes,
  c.find_next.ensures.kept.2 ∙ c.reads.invariant.so_far.limit,
)

-- the codec stands at what was there
pub stands_there : (g : given.Over) (c : In-Ok-None g) → (c.find_next.new.self.lost ≡ false) × FitsAt c.find_next.new.self.lost (input_state c.find_next.new.codec None c.find_next.new.self)
stands_there g c =
    let takes = rw c.in-Ok-None.field-0-is at c.in-Ok-None.ensures.takes in
    (takes.1, takes_fits (Ok None) c.find_next.new.self.lost (input_state c.reads.codec None c.reads.self) (input_state c.find_next.new.codec None c.find_next.new.self) c.find_next.ensures.kept.2 takes)

pub returns-in-Ok-eq0-clause-fits : goal.returns-in-Ok-eq0-clause-fits
returns-in-Ok-eq0-clause-fits g c =
    let now = c.read_more.new.self in
    let there = stands_there g (goal.at.returns-in-Ok-eq0-clause-fits g c).In-Ok-None in (
      subst (λ (z : List ℕ). FitsAt now.lost (codec_state c.find_next.new.codec z now.dst.items)) (sym (apart_unread (found_in c.at_end.result) now.src.items c.at_end.ensures.none))
          (fits_more _ now.lost c.find_next.new.codec c.find_next.new.self.src.items now.src.items c.find_next.new.self.dst.items now.dst.items _ _ _ there.0 there.1 (ap (λ z. z.items) c.read_more.ensures.dst) c.in-Ok-eq0.ensures.ok),
      c.find_next.ensures.kept.2 ∙ c.reads.invariant.so_far.limit,
    )

pub returns-in-Err-read_more-clause-fits : goal.returns-in-Err-read_more-clause-fits
returns-in-Err-read_more-clause-fits g c =
    let now = c.read_more.new.self in
    let there = stands_there g (goal.at.returns-in-Err-read_more-clause-fits g c).In-Ok-None in (
      rw (c.read_more.ensures.dst, c.in-Err-read_more.ensures.err, c.read_more.ensures.lost) there.1,
      c.find_next.ensures.kept.2 ∙ c.reads.invariant.so_far.limit,
    )

pub find_next-requires-clause-found : goal.find_next-requires-clause-found
find_next-requires-clause-found g c = c.reads.invariant.found

pub returns-in-Err-clause-there : goal.returns-in-Err-clause-there
returns-in-Err-clause-there g c = (tt, λ apart. tt)

pub returns-in-Err-read_more-clause-there : goal.returns-in-Err-read_more-clause-there
returns-in-Err-read_more-clause-there g c = (tt, λ apart. tt)
