use Rattle.std.specs.Prelude.{[]}
use Rattle.mysql_wire_session.proofs.PacketLemmas.{read_back_is}
use Rattle.mysql_wire_session.proofs.packet_laws.payload_back.Goals as goal

pub returns : goal.returns
returns g c =
    let claim : g.claim c.lifetimes = assumption tt in
    let met = g.met.T.Wire c.lifetimes claim in
    λ ctx value is good. read_back_is g.T.Size.ReadSize.SIZE (g.T.MyDeserialize.reads ctx) (g.T.Wire.kept value) g.T.Wire.takes_memory (g.T.MySerialize.bytes value)
    (λ size stated. met.of_size value size is stated)
    (λ answer eaten read. met.comes_back ctx value [] answer eaten is good read)
