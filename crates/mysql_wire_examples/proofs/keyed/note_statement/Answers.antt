use Rattle.std.proofs.Common.{◌≡◌, subst, nat_eq}
use Rattle.std.specs.HashMap as hash
use Rattle.mysql_wire_examples.proofs.KeyedLemmas.{one_test, numbers_apart}
use Rattle.mysql_wire_examples.proofs.keyed.note_statement.Goals as goal

pub returns-in-Ok-clause-others : goal.returns-in-Ok-clause-others
returns-in-Ok-clause-others c =
    λ other apart. subst
    (λ test. hash.get_by test c.insert.new.self ≡ hash.get_by test c.args.statements.now)
    (one_test (λ key. nat_eq other key.0))
    (c.in-Ok.ensures.updates.2 (record { 0 = other; 1 = record {} })
    (numbers_apart c.args.id.0 other apart))
