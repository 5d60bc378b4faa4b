use Rattle.std.proofs.Common.{◌∙◌, List, ℕ, [], ◌∷◌, ◌++◌, ap, sym, refl, append-nil, Ok, Err, Bool, false}
use Rattle.wire_codec.specs.declared.codec.error.Refusal.TheVariants.{OutOfMemory}
use Rattle.wire_codec.specs.Codec.{codec_state}
use Rattle.wire_codec.specs.Runs.{payloads}
use Rattle.wire_codec.specs.Refusals.{error_of}
use Rattle.wire_codec.proofs.AnswerLemmas.{no_true, no_ok}
use Rattle.wire_codec.proofs.TakingLemmas.{refused_next, stopped_next}
use Rattle.wire_codec.proofs.codec.delivery.CollectSinkPacketSinkVecVecU8.take_next.Goals as goal

pub returns-then-is_err-clause-takes : goal.returns-then-is_err-clause-takes
returns-then-is_err-clause-takes g c limits mark place at =
    let before = codec_state c.args.codec.now c.args.src.now.items c.args.dst.now.items in
    (ap payloads c.reserve.ensures.items ∙ sym (append-nil (payloads c.args.out.now.items)), refused_next limits mark place before at, λ e. at)

pub returns-in-Ok-true-clause-takes : goal.returns-in-Ok-true-clause-takes
returns-in-Ok-true-clause-takes g c limits mark place at =
    let packet = c.decode_on.new.dst.items in (
      packet,
      c.hand_out.ensures.packet ∙ ap (λ (z : List (List ℕ)). z ++ packet ∷ []) (ap payloads c.reserve.ensures.items),
      rw c.in-Ok-true.field-0-test at (c.in-Ok-true.ensures.on limits mark place at),
      c.hand_out.ensures.empty,
    )

pub returns-in-Ok-false-clause-takes : goal.returns-in-Ok-false-clause-takes
returns-in-Ok-false-clause-takes g c limits mark place at =
    let known = rw c.in-Ok-false.field-0-test at (c.in-Ok-false.ensures.on limits mark place at) in
    (ap payloads c.reserve.ensures.items ∙ sym (append-nil (payloads c.args.out.now.items)), known.0)

pub returns-in-Err-clause-takes : goal.returns-in-Err-clause-takes
returns-in-Err-clause-takes g c limits mark place at =
    let before = codec_state c.args.codec.now c.args.src.now.items c.args.dst.now.items in
    let after = codec_state c.decode_on.new.self c.decode_on.new.src.items c.decode_on.new.dst.items in
    let stop = stopped_next (error_of c.in-Err.refusal) limits mark place before after c.decode_on.ensures.limit at (c.in-Err.ensures.on limits mark place at) in
    (ap payloads c.reserve.ensures.items ∙ sym (append-nil (payloads c.args.out.now.items)), stop.0, stop.1)

pub returns-in-Ok-true-clause-shorter : goal.returns-in-Ok-true-clause-shorter
returns-in-Ok-true-clause-shorter g c said = c.decode_on.ensures.shorter (c.in-Ok-true.is ∙ ap (λ (b : Bool). Ok b) c.in-Ok-true.field-0-test)

pub returns-in-Ok-false-clause-shorter : goal.returns-in-Ok-false-clause-shorter
returns-in-Ok-false-clause-shorter g c said = absurd (no_true (Ok false) refl said)

pub returns-in-Err-clause-shorter : goal.returns-in-Err-clause-shorter
returns-in-Err-clause-shorter g c said = absurd (no_ok (Err c.in-Err.refusal) c.in-Err.refusal _ refl said)

pub returns-then-is_err-clause-shorter : goal.returns-then-is_err-clause-shorter
returns-then-is_err-clause-shorter g c said = absurd (no_ok (Err OutOfMemory) OutOfMemory _ refl said)

pub returns-then-is_err-clause-limit : goal.returns-then-is_err-clause-limit
returns-then-is_err-clause-limit g c = refl

pub returns-in-Ok-true-clause-limit : goal.returns-in-Ok-true-clause-limit
returns-in-Ok-true-clause-limit g c = c.decode_on.ensures.limit

pub returns-in-Ok-false-clause-limit : goal.returns-in-Ok-false-clause-limit
returns-in-Ok-false-clause-limit g c = c.decode_on.ensures.limit

pub returns-in-Err-clause-limit : goal.returns-in-Err-clause-limit
returns-in-Err-clause-limit g c = c.decode_on.ensures.limit
