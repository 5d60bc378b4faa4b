use Rattle.std.proofs.Common.{◌≡◌, ◌∙◌, ℕ, List, [], sym, ap, refl, subst, Ok, Err, Bool, false}
use Rattle.wire_codec.specs.Codec.{codec_state}
use Rattle.wire_codec.specs.InPlace.{front_payload, HasFront}
use Rattle.wire_codec.specs.Refusals.{error_of}
use Rattle.wire_codec.proofs.AnswerLemmas.{no_true, no_ok}
use Rattle.wire_codec.proofs.TakingLemmas.{stopped_next}
use Rattle.wire_codec.proofs.codec.each.VisitSinkPacketSink.take_next.Goals as goal

pub returns-in-Some-clause-takes : goal.returns-in-Some-clause-takes
returns-in-Some-clause-takes g c limits mark place at =
    let empty : c.args.dst.now.items ≡ [] = sym c.as_slice.ensures.value ∙ (c.in-Some.ensures.there.0 refl).1 in (
      front_payload c.args.src.now.items,
      (c.visit.new.self, rw c.in-Some.ensures.packet at c.visit.ensures, refl),
      rw empty (c.take_front.ensures.on limits mark place (rw empty at at)),
      empty,
    )

pub returns-in-Ok-true-clause-takes : goal.returns-in-Ok-true-clause-takes
returns-in-Ok-true-clause-takes g c limits mark place at = (
  c.decode_on.new.dst.items,
  (c.visit-in-Ok-true.new.self, rw c.as_slice-in-Ok-true.ensures.value at c.visit-in-Ok-true.ensures, refl),
  rw c.in-Ok-true.field-0-test at (c.in-Ok-true.ensures.on limits mark place at),
  c.clear.ensures.items,
)

pub returns-in-Ok-false-clause-takes : goal.returns-in-Ok-false-clause-takes
returns-in-Ok-false-clause-takes g c limits mark place at =
    let known = rw c.in-Ok-false.field-0-test at (c.in-Ok-false.ensures.on limits mark place at) in
    (refl, known.0)

pub returns-in-Err-clause-takes : goal.returns-in-Err-clause-takes
returns-in-Err-clause-takes g c limits mark place at =
    let before = codec_state c.args.codec.now c.args.src.now.items c.args.dst.now.items in
    let after = codec_state c.decode_on.new.self c.decode_on.new.src.items c.decode_on.new.dst.items in
    let stop = stopped_next (error_of c.in-Err.refusal) limits mark place before after c.decode_on.ensures.limit at (c.in-Err.ensures.on limits mark place at) in
    (refl, stop.0, stop.1)

pub take_front-requires : goal.take_front-requires
take_front-requires g c =
    let there = c.in-Some.ensures.there.0 refl in
    subst (λ (z : List ℕ). HasFront (codec_state c.args.codec.now c.args.src.now.items z)) there.1 there

pub returns-in-Ok-true-clause-shorter : goal.returns-in-Ok-true-clause-shorter
returns-in-Ok-true-clause-shorter g c said = c.decode_on.ensures.shorter (c.in-Ok-true.is ∙ ap (λ (b : Bool). Ok b) c.in-Ok-true.field-0-test)

pub returns-in-Ok-false-clause-shorter : goal.returns-in-Ok-false-clause-shorter
returns-in-Ok-false-clause-shorter g c said = absurd (no_true (Ok false) refl said)

pub returns-in-Err-clause-shorter : goal.returns-in-Err-clause-shorter
returns-in-Err-clause-shorter g c said = absurd (no_ok (Err c.in-Err.refusal) c.in-Err.refusal _ refl said)
