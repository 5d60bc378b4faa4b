use Rattle.wire_repr.specs.Law.{seen}
use Rattle.wire_laws.specs.PayloadsBack.{payload-back}
use Rattle.wire_laws.proofs.payloads.packet_back.Goals as goal

pub returns-clause-back : goal.returns-clause-back
returns-clause-back g c =
    let claim : g.claim c.lifetimes = assumption tt in
    let met = g.met.T.Wire c.lifetimes claim in
    λ value rest is good at. payload-back g.T.Size.ReadSize.SIZE
    (g.T.MyDeserialize.reads c.args.ctx) (g.T.Wire.kept value) g.T.Wire.takes_memory
    (g.T.MySerialize.bytes value) rest c.args.payload.now
    (λ size stated. met.of_size value size is stated)
    (λ answer eaten read. met.comes_back c.args.ctx value (seen g.T.Size.ReadSize.SIZE rest) answer
    eaten is good read)
    at c.parse_packet_in.result c.parse_packet_in.ensures
