use Rattle.mysql_wire_examples.proofs.AccountLemmas.{no_name, no_mail}
use Rattle.mysql_wire_examples.proofs.in_place.read_account.Goals as goal

pub returns-in_default-clause-none : goal.returns-in_default-clause-none
returns-in_default-clause-none c e name mail there = no_name c.args.row.now _ name mail c.in_default.ensures there

pub returns-in_default-checked_eat_lenenc_str-clause-none :
    goal.returns-in_default-checked_eat_lenenc_str-clause-none
returns-in_default-checked_eat_lenenc_str-clause-none c e name mail there =
    no_mail c.args.row.now _ _ _ name mail c.in-Some.ensures c.in_default-checked_eat_lenenc_str.ensures there
