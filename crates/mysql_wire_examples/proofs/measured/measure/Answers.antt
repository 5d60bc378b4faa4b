use Rattle.std.proofs.Common.{rules, ◌≡◌, ◌≤◌, ◌<◌, ◌+◌, ℕ, List, [], ◌++◌, take, drop, get_or, refl, sym, ap, ◌∙◌, subst, append-nil, append_assoc, arith, Bor}
use Rattle.std.proofs.lemmas.List.{take_all}
use Rattle.mysql_wire.specs.Delivery.{Splits}
use Rattle.mysql_wire.specs.Framing.{id_after}
use Rattle.mysql_wire.specs.Runs.{joined}
use Rattle.mysql_wire.specs.Spans.{SpanState, CameTo, Refuses, place_of, span_state, packets_of, opened_after}
use Rattle.mysql_wire_examples.proofs.MeasuredLemmas.{measured, joined_more, joined_at}
use Rattle.mysql_wire_examples.proofs.measured.measure.Goals as goal

pub loop-piece-init : goal.loop-piece-init
loop-piece-init c =
    let decoder = c.default-decoder.result in
    let start = c.default-decoder.ensures in
    let state : SpanState = record { limit = c.args.limit; id = decoder.seq_id; size = decoder.size; place = place_of decoder.place } in
    let small : decoder.seq_id < 256 = let zero = start.1 in omega arith in
    record {
      same = refl;
      came = (
        [],
        [],
        subst (λ (n : ℕ). CameTo n c.args.limit [] [] [] state) start.1 (c.spans_begin.ensures state c.args.limit small start.0),
        (refl, refl),
      );
    }

pub loop-piece-preserved : goal.loop-piece-preserved
loop-piece-preserved c =
    let inv = c.loop-piece.invariant in
    let far = inv.came in
    let limit = c.args.limit in
    let pieces = c.args.pieces.now in
    let i = c.loop-piece.piece-index in
    let none : Bor (List ℕ) = record { ref_ptr = (0, 0); now = [] } in
    let input = joined (take i pieces) in
    let visit = c.visit_spans.ensures in
    let spans = visit.spans.0 in
    let eats = visit.spans.2 in
    let whole : (get_or pieces i none).now ≡ eats.0 = eats.1 ∙ ap (λ (z : List ℕ). eats.0 ++ z) c.in-Ok.ensures.ok ∙ append-nil eats.0 in
    let within : c.loop-piece.decoder.max_allowed_packet ≤ limit = let same = inv.same in omega arith in
    record {
      same = visit.limit ∙ inv.same;
      came = (
        far.0 ++ packets_of far.1 spans,
        opened_after far.1 spans,
        subst (λ (z : List ℕ). CameTo 0 limit z (far.0 ++ packets_of far.1 spans) (opened_after far.1 spans) (span_state c.visit_spans.new.decoder))
            (ap (λ (z : List ℕ). input ++ z) (sym whole) ∙ joined_more pieces i none c.loop-piece-test.true)
            (eats.2 0 limit input far.0 far.1 within far.2),
        measured c.loop-piece.size c.visit_spans.new.visitor far.0 far.1 spans far.3 visit.spans.1,
      );
    }

pub returns-in-Err-clause-refused : goal.returns-in-Err-clause-refused
returns-in-Err-clause-refused c =
    let inv = c.loop-piece.invariant in
    let far = inv.came in
    let limit = c.args.limit in
    let pieces = c.args.pieces.now in
    let i = c.loop-piece.piece-index in
    let none : Bor (List ℕ) = record { ref_ptr = (0, 0); now = [] } in
    let input = joined (take i pieces) in
    let piece = (get_or pieces i none).now in
    let visit = c.visit_spans.ensures in
    let spans = visit.spans.0 in
    let eats = visit.spans.2 in
    let left = c.visit_spans.new.piece.now in
    let packets = far.0 ++ packets_of far.1 spans in
    let opened = opened_after far.1 spans in
    let within : c.loop-piece.decoder.max_allowed_packet ≤ limit = let same = inv.same in omega arith in
    let still : c.visit_spans.new.decoder.max_allowed_packet ≤ limit = let same = visit.limit ∙ inv.same in omega arith in
    let stop = c.in-Err.ensures.refused 0 limit (input ++ eats.0) packets opened still (eats.2 0 limit input far.0 far.1 within far.2) in (
      input ++ piece,
      joined (drop (i + 1) pieces),
      joined_at pieces i none c.loop-piece-test.true,
      packets,
      opened,
      stop.0,
      subst (λ (z : List ℕ). Splits [] z 0 limit packets opened stop.0)
          (append_assoc input eats.0 left ∙ ap (λ (z : List ℕ). input ++ z) (sym eats.1)) stop.1,
      subst (λ (n : ℕ). Refuses c.in-Err.error (id_after 0 packets) n opened stop.0) (visit.limit ∙ inv.same) stop.2,
    )

pub returns-clause-came : goal.returns-clause-came
returns-clause-came c =
    let far = c.loop-piece.invariant.came in (
      far.0,
      far.1,
      span_state c.loop-piece.decoder,
      subst (λ (z : List (Bor (List ℕ))). CameTo 0 c.args.limit (joined z) far.0 far.1 (span_state c.loop-piece.decoder))
          (take_all c.loop-piece.piece-index c.args.pieces.now (search rules)) far.2,
      far.3,
    )
