use Rattle.std.proofs.Common.{◌∙◌, ℕ, ap, refl}
use Rattle.mysql_wire_session.specs.State.{statement_of}
use Rattle.mysql_wire_session.proofs.PacketLemmas.{holds_of_kept}
use Rattle.mysql_wire_session.proofs.packet_laws.fetch_in_grammar.Goals as goal

pub returns : goal.returns
returns c = λ statements statement known. record {
  is = record { side = refl; begins = refl; first_is = refl; kind_is = refl };
  reads = holds_of_kept _ _ _ (c.payload_back.ensures tt c.args.fetch.now c.known.ensures tt)
      (λ read kept. (statement, ap (λ (number : ℕ). statement_of number statements) kept.0 ∙ known));
}
