-- What is known where a packet is read that may stand where an EOF would.
use Rattle.mysql_wire_session.specs.State.{SessionState}
use Rattle.mysql_wire_session.specs.declared.session.read.Opened.{Opened}

abbrev pub opened_state : Opened → SessionState → SessionState
opened_state opened state =
    record state { phase = opened.phase; is_eof_deprecated = opened.is_eof_deprecated }
