use Rattle.std.proofs.Common.{rules, ◌∙◌, ap, inl, List, ℕ}
use Rattle.wire_codec.specs.Codec.{codec_state}
use Rattle.mysql_wire_c_calls.specs.Side.{Side, ConnectionState, side_of}
use Rattle.mysql_wire_c_calls.proofs.StateLemmas.{side_of-appended, found, fed}
use Rattle.mysql_wire_c_calls.proofs.side.Connection.feed.Goals as goal
use Rattle.mysql_wire_c_calls.proofs.side.Connection.feed.Goals.{in-Ok, in-Err}

pub returns : goal.returns
returns c = elim c.match-extend_from_slice.branch [
  | in-Ok w ↦
      let fields = c.self.inside in
      let view = ap (λ (s : ConnectionState). s.side) c.self.view_is in
      let old = codec_state fields.codec fields.src.items fields.dst.items in
      let at : List ℕ → Side = λ src. side_of fields.front (codec_state fields.codec src fields.dst.items) fields.output.items in
      record {
        fed = λ ok. (
          found fields.front old fields.output.items c.args.self.now.side c.in_default.not-Lost view,
          ap at w.in-Ok.ensures.ok
              ∙ side_of-appended fields.front old c.args.bytes.now fields.output.items c.self.invariant
              ∙ ap (λ (s : Side). fed s c.args.bytes.now) view,
        );
        stays_lost = λ lost. absurd (
            let is = found fields.front old fields.output.items c.args.self.now.side c.in_default.not-Lost view in
            cc
            );
        refused = inl w.result-is;
        lost = search rules;
        answers = inl w.result-is;
      }
  | in-Err w ↦ search rules
]
