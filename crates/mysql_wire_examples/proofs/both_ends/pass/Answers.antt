use Rattle.std.proofs.Common.{rules, ◌≡◌, ℕ, List, ◌++◌, ap, sym, ◌∙◌, length, ◌≤◌, arith}
use Rattle.mysql_wire.specs.Codec.{CodecState, codec_state, expected_id}
use Rattle.mysql_wire.specs.Framing.{framing, next_id}
use Rattle.mysql_wire.specs.Runs.{joined, payloads}
use Rattle.mysql_wire_examples.proofs.BothEndsLemmas.{idle_stands, encoded_fits, takes_pieces, counts_on}
use Rattle.mysql_wire_examples.proofs.CallerLemmas.{on_ok}
use Rattle.mysql_wire_examples.proofs.RelayedLemmas.{err_on_ok}
use Rattle.mysql_wire_examples.proofs.both_ends.pass.Goals as goal

pub deliver-result-requires : goal.deliver-result-requires
deliver-result-requires g c = idle_stands c.requires.id c.args.to.now c.between_packets.ensures c.requires.second

pub returns : goal.returns
returns g c =
    let step = c.requires in
    let id : ℕ = step.id in
    let packet : List ℕ = c.args.sent.packet.now in
    let call = c.deliver-result in
    let put = c.encode.ensures in
    let after : CodecState = codec_state call.new.codec call.new.src.items call.new.dst.items in
    let fits : length packet ≤ c.args.to.now.codec.max_allowed_packet =
    (let small = encoded_fits c.encode.result c.args.from.now.codec.max_allowed_packet (length packet) (search rules) put.too_large in omega (arith, small, step.limit)) in
    let wire : c.as_slice.result.now ≡ framing id packet =
    c.as_slice.ensures ∙ c.in_ok-encode.ensures.appended ∙ ap (λ (z : List ℕ). z ++ framing (expected_id c.args.from.now.codec) packet) c.new-wire.ensures.items
    ∙ ap (λ (n : ℕ). framing n packet) step.first.id_is in
    let cut : joined c.as_slice-2.result.now ≡ framing id packet = ap joined c.as_slice-2.ensures.value ∙ c.in_ok-pieces.ensures ∙ wire in
    let runs = call.ensures.runs in
    record {
      handed = on_ok call.result.1 _ (λ ok.
          let takes = takes_pieces c.between_packets.ensures c.encoded_first.ensures c.nothing_read.ensures c.one_delivery.ensures id c.args.to.now packet c.as_slice-2.result.now
          call.result.0 call.result.1 runs.0 after step.second cut fits ok call.ensures.all runs.2 in
          runs.1 ∙ ap (λ (z : List (List ℕ)). payloads c.args.packets.now.items ++ z) takes.gained_is);
      in_step = on_ok call.result.1 _ (λ ok.
          let takes = takes_pieces c.between_packets.ensures c.encoded_first.ensures c.nothing_read.ensures c.one_delivery.ensures id c.args.to.now packet c.as_slice-2.result.now
          call.result.0 call.result.1 runs.0 after step.second cut fits ok call.ensures.all runs.2 in
          record {
            id = next_id id packet;
            first = record {
              small = omega arith;
              id_is = c.in_ok-encode.ensures.next ∙ ap (λ (n : ℕ). next_id n packet) step.first.id_is;
              header = put.header ∙ step.first.header;
              nothing_unread = step.first.nothing_unread;
              nothing_held = step.first.nothing_held;
            };
            second = record {
              small = omega arith;
              id_is = takes.id_is;
              header = takes.header;
              nothing_unread = takes.nothing_unread;
              nothing_held = takes.nothing_held;
            };
            limit = put.limit ∙ step.limit ∙ sym call.ensures.limit;
          });
      counted = on_ok call.result.1 _ (λ ok count here. counts_on c.chunks_counted.ensures packet count (expected_id c.args.from.now.codec) (expected_id c.encode.new.self) here c.in_ok-encode.ensures.next);
    }

pub returns-in_err-encode : goal.returns-in_err-encode
returns-in_err-encode g c =
    let answer = c.from_residual.result in
    let is = c.from_residual.ensures.0 in
    record { handed = err_on_ok answer _ is; in_step = err_on_ok answer _ is; counted = err_on_ok answer _ is }

pub returns-in_err-pieces : goal.returns-in_err-pieces
returns-in_err-pieces g c =
    let answer = c.from_residual-in_err-pieces.result in
    let is = c.from_residual-in_err-pieces.ensures.0 in
    record { handed = err_on_ok answer _ is; in_step = err_on_ok answer _ is; counted = err_on_ok answer _ is }
