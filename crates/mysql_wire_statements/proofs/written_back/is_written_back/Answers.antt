use Rattle.wire_buf.specs.Reading.{Parses}
use Rattle.mysql_wire_statements.proofs.WrittenBackLemmas.{again_of}
use Rattle.mysql_wire_statements.proofs.written_back.is_written_back.Goals as goal

pub returns-clause-again : goal.returns-clause-again
returns-clause-again g c =
    let claim : g.claim c.lifetimes = assumption tt in
    let met = g.met.T.WrittenBack c.lifetimes claim in
    again_of (Parses g.T.Size.ReadSize.SIZE (g.T.MyDeserialize.reads c.args.ctx)) (g.T.MySerialize.bytes) (g.T.WrittenBack.shortest c.args.ctx c.args.buf.now.0.now)
    c.args.buf.now.0.now c.parse_in.new.self.0.now c.parse_in.result c.parse_in.ensures
    (λ value eaten short read. met.again c.args.ctx c.args.buf.now.0.now value eaten
    c.known_bytes.ensures short read)
