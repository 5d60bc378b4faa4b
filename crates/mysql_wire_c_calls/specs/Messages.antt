-- The texts for the codes.
use Rattle.std.specs.Prelude.{ℕ, ℤ, List, codes, if◌then◌else◌}
use Rattle.std.specs.Ordering.{int_eq}
use Rattle.mysql_wire_c_calls.specs.declared.codes.TheConstants.{OK, PACKET, TOO_LARGE, OUT_OF_SYNC, NO_MEMORY, ROOM_TOO_SMALL, CLOSED, IS_OPEN, PACKET_WAITS, NO_PACKET, MISSING_BYTES, NOT_A_NUMBER, SPAN, NULL, INVALID_STATE, NEEDS_WHOLE, REFUSED, NOT_A_SIDE, NOT_A_FRONT, NO_STATEMENT}

abbrev pub message : ℤ → List ℕ
message code =
    if int_eq code OK then codes "done, or more bytes are needed"
    else if int_eq code PACKET then codes "a packet stands whole"
    else if int_eq code SPAN then codes "bytes of a packet"
    else if int_eq code NULL then codes "the text is NULL"
    else if int_eq code NEEDS_WHOLE then codes "the whole packet is needed"
    else if int_eq code REFUSED then codes "the payload is no packet of its kind"
    else if int_eq code TOO_LARGE then codes "the packet is above the limit"
    else if int_eq code OUT_OF_SYNC then codes "a packet bears another number than the expected one"
    else if int_eq code NO_MEMORY then codes "out of memory"
    else if int_eq code ROOM_TOO_SMALL then codes "the room is too small"
    else if int_eq code CLOSED then codes "the connection, or the session, is closed"
    else if int_eq code IS_OPEN then codes "the connection, or the session, is open already"
    else if int_eq code PACKET_WAITS then codes "a packet is to be taken first"
    else if int_eq code NO_PACKET then codes "there is no packet to take"
    else if int_eq code MISSING_BYTES then codes "the bytes end inside a field"
    else if int_eq code NOT_A_NUMBER then codes "no number begins here, or no number has this width"
    else if int_eq code INVALID_STATE then codes "the record is of no stream"
    else if int_eq code NOT_A_SIDE then codes "no side has this number"
    else if int_eq code NOT_A_FRONT
    then codes "these are not the first bytes of a payload, three or more, or all"
    else if int_eq code NO_STATEMENT then codes "no statement of this number is known"
    else codes "unknown code"
