-- Written out, so that a body that breaks one of these is refused at once.
use Rattle.std.proofs.Common.{rules, Err, sym}
use Rattle.wire_codec.specs.declared.codec.error.PacketCodecError.TheVariants.{OutOfMemory}
use Rattle.wire_codec.specs.Codec.{open_id, header_of}
use Rattle.wire_codec.proofs.CodecLemmas.{id_at_open, outcome_of, chunk_failed}
use Rattle.wire_codec.proofs.GoingOnLemmas.{failed_under, outcome_under}
use Rattle.wire_codec.proofs.codec.packet.PacketCodec.lack_room.Goals as goal

pub returns-clause-refused : goal.returns-clause-refused
returns-clause-refused g c = search rules

pub returns-clause-id : goal.returns-clause-id
returns-clause-id g c = search rules

pub returns-clause-decodes : goal.returns-clause-decodes
returns-clause-decodes g c stands =
    let held = g.T.PacketDst.held c.args.dst.now in
    let src = c.args.src.now.items in
    let limit = c.args.self.now.max_allowed_packet in
    let id = c.args.self.now.seq_id in
    let at = sym (id_at_open id held c.requires.small) in
    chunk_failed OutOfMemory (open_id id held) id limit src held _ src _ stands.0 at (outcome_of (header_of c.args.self.now) limit src held (Err OutOfMemory) _ src _ stands (returns-clause-refused g c))

pub returns-clause-on : goal.returns-clause-on
returns-clause-on g c limits mark place on =
    let held = g.T.PacketDst.held c.args.dst.now in
    failed_under OutOfMemory (open_id c.args.self.now.seq_id held) _ c.args.src.now.items _ on (sym (id_at_open c.args.self.now.seq_id held c.requires.small))
    (outcome_under (Err OutOfMemory) _ c.args.src.now.items _ on (returns-clause-refused g c))
