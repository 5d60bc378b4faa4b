use Rattle.std.proofs.Common.{refl}
use Rattle.mysql_wire_session.proofs.PacketLemmas.{agrees_kept, holds_of_kept}
use Rattle.mysql_wire_session.proofs.packet_laws.login_in_grammar.Goals as goal

pub returns : goal.returns
returns c = λ id agreed later agrees good other. record {
  is = record { side = refl; later = later; no_tls = other; kind_is = refl };
  reads = holds_of_kept _ _ _ (c.payload_back.ensures tt c.args.login.now c.known.ensures good)
      (λ read kept. agrees_kept agreed c.args.login.now read agrees kept.client_flag kept.mariadb_capabilities);
}
