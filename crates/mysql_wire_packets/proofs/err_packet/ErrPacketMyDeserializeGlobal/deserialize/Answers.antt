use Rattle.mysql_wire_packets.proofs.err_packet.ErrPacketMyDeserializeGlobal.deserialize.Goals as goal

pub returns-in-Err : goal.returns-in-Err
returns-in-Err c = rw (c.under-state.ensures, c.bits.ensures) at c.in-Err.ensures
