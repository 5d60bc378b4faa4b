use Rattle.std.proofs.Common.{List, ℕ, refl, subst}
use Rattle.mysql_wire_examples.specs.Accounts.{IsAccount}
use Rattle.mysql_wire_examples.proofs.AccountLemmas.{one_account}
use Rattle.mysql_wire_examples.proofs.in_place.is_mail.Goals as goal

pub returns-in-Some : goal.returns-in-Some
returns-in-Some c =
    let row = c.args.row.now in
    let account = c.in-Some.account in
    let there = c.in-Some.ensures.there in (
      λ yes. (account.name.now, subst (λ (z : List ℕ). IsAccount row account.name.now z) (c.is_same.ensures.0 yes) there),
      λ has. c.is_same.ensures.1 (one_account row account.name.now has.0 account.mail.now c.args.mail.now there has.1).1,
    )

pub returns-in-None : goal.returns-in-None
returns-in-None c = (λ e. absurd cc, λ there. absurd (c.in-None.ensures.none refl there.0 c.args.mail.now there.1))
