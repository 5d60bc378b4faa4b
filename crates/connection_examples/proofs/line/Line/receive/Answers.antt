use Rattle.std.proofs.Common.{arith, ◌<◌, ◌++◌, ℕ, List, [], drop, refl, sym, ap, ◌∙◌}
use Rattle.mysql_wire.specs.Codec.{codec_state, expected_id}
use Rattle.mysql_wire.specs.Framing.{framing}
use Rattle.mysql_wire.specs.InPlace.{front_payload}
use Rattle.connection_examples.proofs.line.Line.receive.Goals as goal

pub returns-clause-framed : goal.returns-clause-framed
returns-clause-framed c =
    let unread : List ℕ = c.args.input.now.0.now in
    let small : expected_id c.args.self.now.codec < 256 = let is = c.sequence_id-id.ensures in let fits = c.sequence_id-id.type_inv in omega (arith, is, fits) in
    let between = c.between_packets.ensures (codec_state c.args.self.now.codec unread []) small c.args.self.now.idle refl in
    let took = c.accept_front_in-count.ensures.decodes between.0 in
    sym between.2 ∙ took.0
    ∙ ap (λ (n : ℕ). framing n (front_payload unread) ++ drop c.accept_front_in-count.result unread) between.1
    ∙ ap (λ (z : List ℕ). framing (expected_id c.args.self.now.codec) (front_payload unread) ++ z) (sym c.skip.ensures)
