use Rattle.std.proofs.Common.{refl, ◌∙◌}
use Rattle.wire_span.specs.Spans.{span_state}
use Rattle.mysql_wire_c_calls.proofs.SpanLemmas.{renumbered, renumber_stops, code_back}
use Rattle.mysql_wire_c_calls.proofs.spans.renumber.Goals.{in-Ok, in-Err}
use Rattle.mysql_wire_c_calls.proofs.spans.renumber.Goals as goal

pub returns : goal.returns
returns c =
    let old = c.in-Some.ensures in
    let set = c.set.ensures in
    elim c.match-renumber.branch [
      | in-Ok w ↦
          let new = w.in-Ok.ensures in
          renumbered c.args.bytes.now c.renumber.new.piece c.match-renumber.used _ c.args.spans.now _ (span_state c.in-Some.decoder) (span_state c.renumber.new.self.decoder)
          (w.used-is ∙ new.same_length) w.code-is old.some (old.exact.0 refl) c.spans_stand.ensures new.ok
          new.limit (set.tidy, set.state) set.settings.1 new.same_length
      | in-Err w ↦
          let new = w.in-Err.ensures in
          renumber_stops w.in-Err.error c.args.bytes.now c.renumber.new.piece c.match-renumber.used w.in-Err.count _ c.args.spans.now _ (span_state c.in-Some.decoder) (span_state c.renumber.new.self.decoder)
          w.used-is (w.code-is ∙ code_back w.in-Err.error w.code_of-code.result w.code_of-code.ensures) old.some (old.exact.0 refl) c.spans_stand.ensures new.err
          new.refused new.place new.limit (set.tidy, set.state) set.settings.1 new.same_length
    ]
