use Rattle.std.proofs.Common.{ℕ, ap, refl}
use Rattle.mysql_wire_packets.specs.Oks.{ok_form, words_bytes}
use Rattle.mysql_wire_parts.specs.Optional.{has}
use Rattle.mysql_wire_session.proofs.PacketLemmas.{holds_of_kept, ok_is_long}
use Rattle.mysql_wire_session.proofs.packet_laws.rows_end_in_grammar.Goals as goal

pub returns : goal.returns
returns c = λ id agreed good fits. record {
  is = record { side = refl; first_is = refl; kind_is = refl };
  is_long = ok_is_long 0xfe c.args.end.now.affected_rows c.args.end.now.last_insert_id c.args.end.now.status_flags.0 c.args.end.now.warnings (words_bytes c.args.end.now);
  is_short = fits;
  reads = holds_of_kept _ _ _ (c.payload_back.ensures (ok_form agreed.capabilities) c.args.end.now c.known.ensures good)
      (λ read kept. ap (λ (flags : ℕ). has flags 0x8) kept.status_flags);
}
