use Rattle.std.proofs.Common.{ℕ, ◌+◌, ◌≤◌, ◌∙◌, sym, refl, subst, [], ◌++◌}
use Rattle.wire_span.specs.Spans.{SpanPlace, place_of, StopsBefore, span_state}
use Rattle.wire_codec.specs.Framing.{header}
use Rattle.wire_span.proofs.SpanLemmas.{at_place, stops_is}
use Rattle.wire_span.proofs.PassingLemmas.{at_header, header_passes, header_fewer, at_most}
use Rattle.wire_span.proofs.span.SpanDecoder.pass_header.Goals as goal

pub returns-in-Err-clause-refused : goal.returns-in-Err-clause-refused
returns-in-Err-clause-refused c more =
    let self = c.args.self.now in
    let read = c.args.header in
    let at = at_header self.place c.requires.place c.requires.uncut in
    subst (λ (p : SpanPlace). StopsBefore (at_place self.max_allowed_packet self.seq_id self.size p) (header read.len read.seq_id ++ more) c.in-Err.error) (sym at)
    (stops_is c.in-Err.error self.max_allowed_packet self.seq_id self.size read.len read.seq_id [] (header read.len read.seq_id ++ more) more refl c.requires.small c.in-Err.ensures.byte c.in-Err.ensures.refused)

pub returns-clause-came : goal.returns-clause-came
returns-clause-came c =
    let self = c.args.self.now in
    let at = at_header self.place c.requires.place c.requires.uncut in
    header_passes self.max_allowed_packet self.size c.args.header.len c.open_chunk.new.self.size (place_of self.place) c.pass.result (span_state c.pass.new.self)
    at c.requires.small c.in-Ok.ensures.fits c.in-Ok.ensures.ok.1 c.pass.ensures.takes

pub returns-clause-fewer : goal.returns-clause-fewer
returns-clause-fewer c goes =
    let self = c.args.self.now in
    let at = at_header self.place c.requires.place c.requires.uncut in
    subst (λ (n : ℕ). 4 + at_most (place_of c.pass.new.self.place) n c.pass.new.self.size ≤ at_most (place_of self.place) self.max_allowed_packet self.size)
    (sym (c.pass.ensures.limit ∙ c.open_chunk.ensures.limit))
    (header_fewer self.max_allowed_packet self.size c.args.header.len c.pass.new.self.size (place_of self.place) (place_of c.pass.new.self.place) c.pass.result
    at c.in-Ok.ensures.fits (c.pass.ensures.size goes ∙ c.in-Ok.ensures.ok.1) c.pass.ensures.fewer c.pass.ensures.last goes)
