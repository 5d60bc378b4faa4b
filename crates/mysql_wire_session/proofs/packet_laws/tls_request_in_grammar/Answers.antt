use Rattle.std.proofs.Common.{◌∙◌, ℕ, ap, refl}
use Rattle.mysql_wire_parts.specs.Optional.{has}
use Rattle.mysql_wire_session.proofs.PacketLemmas.{holds_of_kept, request_len}
use Rattle.mysql_wire_session.proofs.packet_laws.tls_request_in_grammar.Goals as goal

pub returns : goal.returns
returns c = λ id later flag. record {
  side = refl;
  later = later;
  is_tls = request_len c.args.request.now.client_flag.0 c.args.request.now.max_packet_size c.args.request.now.character_set c.args.request.now.filler c.args.request.now.mariadb_capabilities.0
      c.known.ensures.filler;
  kind_is = refl;
  reads = holds_of_kept _ _ _ (c.payload_back.ensures tt c.args.request.now c.known.ensures tt)
      (λ read kept. ap (λ (flags : ℕ). has flags 0x800) kept.client_flag ∙ flag);
}
