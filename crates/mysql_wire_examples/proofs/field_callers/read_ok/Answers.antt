use Rattle.mysql_wire_examples.proofs.OkPacketLemmas.{no_changed, no_last_id}
use Rattle.mysql_wire_examples.proofs.field_callers.read_ok.Goals as goal

pub returns-in_default-clause-none : goal.returns-in_default-clause-none
returns-in_default-clause-none c e changed last_id ok =
    no_changed c.args.payload.now changed last_id (rw c.eat_u8.ensures.1 at c.in_default.ensures.0) ok

pub returns-in_default-checked_eat_lenenc_int-clause-none :
    goal.returns-in_default-checked_eat_lenenc_int-clause-none
returns-in_default-checked_eat_lenenc_int-clause-none c e changed last_id ok =
    no_last_id c.args.payload.now _ _ changed last_id (rw c.eat_u8.ensures.1 at c.in-Some.ensures) c.in_default-checked_eat_lenenc_int.ensures.0 ok
