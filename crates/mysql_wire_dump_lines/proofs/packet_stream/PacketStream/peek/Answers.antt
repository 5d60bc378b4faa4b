use Rattle.mysql_wire_dump_lines.proofs.PacketStreamLemmas.{idle, looked, looked_before}
use Rattle.mysql_wire_dump_lines.proofs.packet_stream.PacketStream.peek.Goals as goal

pub returns-in_ok-self-clause-looks : goal.returns-in_ok-self-clause-looks
returns-in_ok-self-clause-looks g c packets came stands =
    looked c.args.self.now c.find.new.self c.in_ok-self.field-0 packets came (g.R.Read.remaining c.args.input.now) (g.R.Read.remaining c.find.new.input) stands c.in-Unread.is c.in_ok-self.ensures.kept.2
    (c.in_ok-self.ensures.found (idle c.args.self.now packets came c.in-Unread.is stands))

pub returns-in_default-clause-looks : goal.returns-in_default-clause-looks
returns-in_default-clause-looks g c packets came stands =
    looked_before c.args.self.now packets came (g.R.Read.remaining c.args.input.now) stands
