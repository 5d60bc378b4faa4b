use Rattle.std.proofs.Common.{ℕ, ap, refl}
use Rattle.mysql_wire_packets.specs.Oks.{ok_form}
use Rattle.mysql_wire_parts.specs.Optional.{has}
use Rattle.mysql_wire_session.proofs.PacketLemmas.{holds_of_kept}
use Rattle.mysql_wire_session.proofs.packet_laws.ok_packet_in_grammar.Goals as goal

pub returns-clause-done : goal.returns-clause-done
returns-clause-done c = λ id agreed good. record {
  is = record { side = refl; first_is = refl; kind_is = refl };
  reads = holds_of_kept _ _ _ (c.payload_back.ensures (ok_form agreed.capabilities) c.args.ok.now c.known.ensures good)
      (λ read kept. ap (λ (flags : ℕ). has flags 0x8) kept.status_flags);
}

pub returns-clause-enters : goal.returns-clause-enters
returns-clause-enters c = λ id agreed good. record {
  is = record { side = refl; first_is = refl; kind_is = refl };
  reads = holds_of_kept _ _ _ (c.payload_back.ensures (ok_form agreed.capabilities) c.args.ok.now c.known.ensures good) (λ read kept. tt);
}
