use Rattle.std.proofs.Common.{arith, inr, refl, [], ◌+◌, ◌∙◌, length}
use Rattle.std.proofs.lemmas.List.{length-set}
use Rattle.wire_codec.specs.Codec.{codec_state}
use Rattle.wire_codec.specs.Laws.{empty_state}
use Rattle.mysql_wire_c_calls.specs.declared.fields.Span.{Span}
use Rattle.mysql_wire_c_calls.proofs.DecodingLemmas.{codec_step, none_alone}
use Rattle.mysql_wire_c_calls.proofs.connection.lend_all.Goals as goal

pub packets-preserved : goal.packets-preserved
packets-preserved c =
    let old = c.packets.invariant in
    let lent = c.in-Some.packet.now in
    let span : Span = record { at = c.packets.used + 4; len = length lent } in
    let took = c.accept_front_in.ensures in
    let step = codec_step c.args.bytes.now lent c.packets.spans c.args.spans.now c.packets.count c.packets.used c.accept_front_in.result span
    (empty_state c.args.id c.args.limit) (codec_state c.packets.codec [] []) (codec_state c.accept_front_in.new.self [] [])
    old.bound c.packets-test.true refl refl old.so_far refl refl refl refl (c.in-Some.ensures.there.0 refl) c.in-Some.ensures.packet took.chunk took.aligned took.rest old.rest in
    let same = length-set c.packets.spans c.packets.count span in
    let test = c.packets-test.true in
    record {
      bound = step.0;
      room = omega (arith, same, test);
      limit = took.limit ∙ old.limit;
      header = step.3;
      so_far = step.1;
      rest = step.2;
    }

pub returns-in_default-clause-all : goal.returns-in_default-clause-all
returns-in_default-clause-all c =
    let old = c.packets.invariant in
    inr (none_alone c.front_packet_in.result c.packets.codec c.sequence_id.result c.args.limit c.packets.used c.args.bytes.now c.sequence_id.ensures old.limit old.header
    c.front_packet_in.ensures.there.1 c.in_default.not-Some)
