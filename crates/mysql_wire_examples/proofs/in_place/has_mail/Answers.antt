use Rattle.std.proofs.Common.{◌↔◌, ℕ, List, IsTrue, refl, sym, subst}
use Rattle.std.proofs.lemmas.Bool.{false≢true}
use Rattle.mysql_wire_examples.specs.Accounts.{IsAccount}
use Rattle.mysql_wire_examples.proofs.in_place.has_mail.Goals as goal

pub returns-clause-has : goal.returns-clause-has
returns-clause-has g c =
    subst (λ z. IsTrue c.is_mail-has.result ↔ (name : List ℕ) × IsAccount z name c.args.mail.now) c.in_ok-row.ensures.packet c.is_mail-has.ensures

pub returns-clause-there : goal.returns-clause-there
returns-clause-there g c = c.in_ok-row.ensures.there

pub returns-clause-kept : goal.returns-clause-kept
returns-clause-kept g c e = absurd (false≢true (sym e))

pub take_front-requires : goal.take_front-requires
take_front-requires g c = c.in_ok-row.ensures.there.0 refl

pub returns-clause-taken : goal.returns-clause-taken
returns-clause-taken g c e = c.take_front.ensures.rest
