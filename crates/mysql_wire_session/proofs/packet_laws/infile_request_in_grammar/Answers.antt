use Rattle.std.proofs.Common.{refl}
use Rattle.mysql_wire_session.proofs.PacketLemmas.{holds_of_kept}
use Rattle.mysql_wire_session.proofs.packet_laws.infile_request_in_grammar.Goals as goal

pub returns : goal.returns
returns c = λ id. record {
  is = record { side = refl; first_is = refl; kind_is = refl };
  reads = holds_of_kept _ _ _ (c.payload_back.ensures tt c.args.request.now c.known.ensures refl) (λ read kept. tt);
}
