use Rattle.std.proofs.Common.{◌++◌, ◌∷◌, List, ℕ, false, refl, subst, sym}
use Rattle.std.specs.Cow.{cow_slice_items}
use Rattle.mysql_wire_parts.specs.Optional.{IsThere, bytes_if}
use Rattle.mysql_wire_packets.specs.declared.err_packet.ErrPacket.{ErrPacket}
use Rattle.mysql_wire_session.proofs.PacketLemmas.{holds_of_kept, no_report_of}
use Rattle.mysql_wire_session.proofs.packet_laws.err_packet_in_grammar.Goals as goal

-- what is written after its number
abbrev rest_of : ErrPacket → List ℕ
rest_of error = bytes_if (λ state. 0x23 ∷ state) error.sql_state ++ cow_slice_items error.error_message.0

pub returns-clause-later : goal.returns-clause-later
returns-clause-later c = λ id other. record {
  is = record { side = refl; first_is = refl; kind_is = refl };
  is_no_report = no_report_of c.args.error.now.error_code (rest_of c.args.error.now) c.known.ensures.0 other;
}

pub returns-clause-first : goal.returns-clause-first
returns-clause-first c = λ other none. record {
  is = record {
    is = record { side = refl; first_is = refl; kind_is = refl };
    is_no_report = no_report_of c.args.error.now.error_code (rest_of c.args.error.now) c.known.ensures.0 other;
  };
  begins = refl;
  reads = holds_of_kept _ _ _ (c.payload_back.ensures (record { 0 = 0 }) c.args.error.now c.known.ensures
      (subst (IsThere false) (sym none) tt, refl)) (λ read kept. tt);
}
