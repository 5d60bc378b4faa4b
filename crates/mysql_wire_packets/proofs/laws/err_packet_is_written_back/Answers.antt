use Rattle.wire_const.specs.FlagSets.{capability_flags_bits}
use Rattle.mysql_wire_parts.specs.Again.{array_again, both_again, both_again_of, const_again, eof_text_again, number_again, optional_again_of, packet_again}
use Rattle.mysql_wire_parts.specs.Optional.{has, side}
use Rattle.mysql_wire_packets.proofs.laws.err_packet_is_written_back.Goals as goal

pub returns : goal.returns
returns c = λ capabilities input packet eaten is read. (both_again_of
    (packet_again (λ err. _) (const_again 0xff))
    (both_again_of (packet_again (λ err. err.error_code) (number_again (λ n. n) 2))
    (both_again_of (optional_again_of (λ err. err.sql_state) (λ state. (_, state)) _
    (λ ctx. both_again (const_again 0x23) (array_again 5))
    (side (tt, tt) (has (capability_flags_bits capabilities) 0x200)))
    (packet_again (λ err. err.error_message) (eof_text_again (λ text. text.0)))))).law input is
    packet eaten read
