use Rattle.std.proofs.Common.{arith, refl}
use Rattle.wire_codec.specs.Framing.{max_payload_is}
use Rattle.mysql_wire_dump_lines.proofs.PacketStreamLemmas.{found_whole}
use Rattle.mysql_wire_dump_lines.proofs.packet_stream.PacketStream.lend_whole.Goals as goal

pub overflow_add-count : goal.overflow_add-count
overflow_add-count g c = omega (arith, c.requires.short, max_payload_is)

pub returns-clause-found : goal.returns-clause-found
returns-clause-found g c known =
    found_whole c.args.header c.args.self.now _ known c.requires refl refl refl c.set_sequence_id.ensures refl refl refl
