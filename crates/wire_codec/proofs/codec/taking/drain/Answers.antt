use Rattle.std.proofs.Common.{◌≡◌, ◌∙◌, [], refl, append-nil, ap, arith, Result, Ok, Err, Bool, true}
use Rattle.wire_codec.specs.declared.codec.error.PacketCodecError.{PacketCodecError}
use Rattle.wire_codec.specs.Codec.{codec_state, first_id}
use Rattle.wire_codec.specs.Limited.{place_after}
use Rattle.wire_codec.specs.Refusals.{error_of}
use Rattle.wire_codec.proofs.GoingOnLemmas.{splits_here_under}
use Rattle.wire_codec.proofs.TakingLemmas.{has_taken_more, has_taken_all}
use Rattle.wire_codec.proofs.codec.taking.drain.Goals as goal

no_err : (answer : Result (Unit {0}) PacketCodecError) (error : PacketCodecError) → answer ≡ Ok tt → answer ≡ Err error → ⊥
no_err answer error ok err = cc

same_error : (answer : Result (Unit {0}) PacketCodecError) (one other : PacketCodecError) → answer ≡ Err one → answer ≡ Err other → one ≡ other
same_error answer one other is also = cc

pub packets-init : goal.packets-init
packets-init g c = record {
  same = refl;
  on = λ limits mark place at. (
    [],
    g.met.K.PacketSink.none c.args.out.now,
    splits_here_under limits place (first_id (codec_state c.args.codec.now c.args.src.now.items c.args.dst.now.items)) c.args.dst.now.items c.args.src.now.items at.aligned.0,
    at,
    refl,
  );
}

pub packets-preserved : goal.packets-preserved
packets-preserved g c =
    let before = codec_state c.packets.codec c.packets.src.items c.packets.dst.items in
    let after = codec_state c.take_next.new.codec c.take_next.new.src.items c.take_next.new.dst.items in
    let said : c.take_next.result ≡ Ok true = c.in-Ok-true.is ∙ ap (λ (b : Bool). Ok b) c.in-Ok-true.field-0-test in
    record {
      same = c.take_next.ensures.limit ∙ c.packets.invariant.same;
      on = λ limits mark place at.
          has_taken_more g.K.PacketSink.took g.met.K.PacketSink.joins limits mark place _ _ _ c.args.out.now c.packets.out c.take_next.new.out before after
          (c.packets.invariant.on limits mark place at)
          (λ there here. rw c.in-Ok-true.field-0-test at (c.in-Ok-true.ensures.takes limits mark there here))
          (let less = c.take_next.ensures.shorter said in omega arith) c.take_next.ensures.limit;
    }

pub returns-in-Ok-false-clause-on : goal.returns-in-Ok-false-clause-on
returns-in-Ok-false-clause-on g c limits mark place at =
    let before = codec_state c.packets.codec c.packets.src.items c.packets.dst.items in
    let after = codec_state c.take_next.new.codec c.take_next.new.src.items c.take_next.new.dst.items in
    let run = c.packets.invariant.on limits mark place at in
    let next = rw c.in-Ok-false.field-0-test at (c.in-Ok-false.ensures.takes limits mark (place_after place run.0) run.3) in (
      run.0,
      rw (append-nil run.0) at (g.met.K.PacketSink.joins c.args.out.now c.packets.out c.take_next.new.out run.0 [] run.1 next.0),
      has_taken_all g.K.PacketSink.took limits mark place _ _ _ c.args.out.now c.packets.out before after (Ok tt) run next.1,
      λ e. absurd (no_err (Ok tt) _ refl e),
    )

pub returns-in-Err-clause-on : goal.returns-in-Err-clause-on
returns-in-Err-clause-on g c limits mark place at =
    let before = codec_state c.packets.codec c.packets.src.items c.packets.dst.items in
    let after = codec_state c.take_next.new.codec c.take_next.new.src.items c.take_next.new.dst.items in
    let run = c.packets.invariant.on limits mark place at in
    let next = c.in-Err.ensures.takes limits mark (place_after place run.0) run.3 in (
      run.0,
      rw (append-nil run.0) at (g.met.K.PacketSink.joins c.args.out.now c.packets.out c.take_next.new.out run.0 [] run.1 next.0),
      has_taken_all g.K.PacketSink.took limits mark place _ _ _ c.args.out.now c.packets.out before after (Err (error_of c.in-Err.refusal)) run next.1,
      λ e. next.2 (same_error (Err (error_of c.in-Err.refusal)) (error_of c.in-Err.refusal) _ refl e),
    )
