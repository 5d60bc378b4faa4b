use Rattle.mysql_wire_session.proofs.AnswerLemmas.{session_is_followed}
use Rattle.mysql_wire_session.proofs.laws.session_is_followed.Goals as goal

pub returns : goal.returns
returns c = session_is_followed
