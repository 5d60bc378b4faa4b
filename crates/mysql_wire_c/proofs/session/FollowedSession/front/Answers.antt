use Rattle.std.proofs.Common.{◌≡◌, ◌∙◌, sym, subst, true, length, rules, ℤ, to_z-of_z, w32}
use Rattle.mysql_wire_c.proofs.SessionLemmas.{answered_front}
use Rattle.mysql_wire_c.specs.Calls.{FollowsFront, is_front}
use Rattle.mysql_wire_session.specs.State.{SessionState, state_of}
use Rattle.mysql_wire_c.proofs.session.FollowedSession.front.Goals as goal

pub returns : goal.returns
returns c =
    let front_is : is_front c.args.len (length c.args.front.now) ≡ true = search (rules, c.if-not-is_front.false, c.is_front.ensures) in
    let answered = answered_front c.args.side c.args.id c.args.len c.args.front.now c.take_front.new.kind c.take_front.result (state_of c.self.inside.session) (state_of c.take_front.new.session) c.in-Some.side
    (sym c.side_of.ensures ∙ c.in-Some.is) front_is c.take_front.ensures.takes c.take_front.ensures.needs c.take_front.ensures.memory c.take_front.ensures.stays c.take_front.ensures.none c.take_front.ensures.answers in
    subst (λ (answer : ℤ). FollowsFront c.args.side c.args.id c.args.len c.args.front.now c.take_front.new.kind answer c.args.self.now (state_of c.take_front.new.session)) (sym (to_z-of_z {w = w32} (record { sfits = c.take_front.type_inv })))
    (subst (λ (before : SessionState). FollowsFront c.args.side c.args.id c.args.len c.args.front.now c.take_front.new.kind c.take_front.result before (state_of c.take_front.new.session)) c.self.view_is answered)
