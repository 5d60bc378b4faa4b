use Rattle.std.proofs.Common.{◌≡◌, ◌∙◌, List, ℕ, ap, ap₂, refl, rules, subst}
use Rattle.wire_codec.specs.Codec.{CodecState, codec_state}
use Rattle.mysql_wire_c_calls.specs.Side.{ConnectionState, connection_of}
use Rattle.mysql_wire_c_calls.proofs.side.Connection.next.Goals as goal
use Rattle.mysql_wire_c_calls.proofs.side.Connection.next.Goals.{in-Unfinished+in_default-move_front, in_default}

pub returns : goal.returns
returns c = elim c.match-self.branch [
  | in-Unfinished+in_default-move_front w ↦
      let (codec, src, room) = w.in_default-move_front.ensures.stays refl in
      let fields = c.self.inside in
      let state = ap₂ (λ k s. codec_state k s.items fields.dst.items) codec src in
      let same : c.match-self.self ≡ c.args.self.now = w.self-is ∙ ap (λ (s : CodecState). connection_of fields.front s fields.output.items) state ∙ c.self.view_is in
      let old_room = w.room-is ∙ room in
      search rules
  | in_default w ↦ search rules
]
