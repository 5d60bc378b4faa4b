use Rattle.std.proofs.Common.{◌≡◌, ◌∙◌, ◌≤◌, ℕ, false, length, rules, subst, sym}
use Rattle.mysql_wire_session.proofs.FrontLemmas.{execution_told, front_told, quiet_there}
use Rattle.mysql_wire_session.specs.Fronts.{TakesFront}
use Rattle.mysql_wire_session.specs.State.{state_of}
use Rattle.mysql_wire_session.specs.declared.packet_kind.PacketKind.{PacketKind}
use Rattle.mysql_wire_session.proofs.session.Session.advance_front.Goals as goal

pub returns-then-not-says_more-clause-takes : goal.returns-then-not-says_more-clause-takes
returns-then-not-says_more-clause-takes g c =
    let none : c.says_more.result ≡ false = search (rules, c.if-not-says_more.true) in
    front_told c.args.side c.args.id c.args.len c.args.front.now (state_of c.args.self.now) (state_of c.advance_by_kind.new.self) c.classify-kind.result c.classify-kind.ensures
    (quiet_there c.says_more.result c.classify-kind.result c.args.len (state_of c.args.self.now) c.opened.result c.says_more.ensures none c.opened.ensures)
    c.advance_by_kind.ensures

pub returns-in-Ok-clause-takes : goal.returns-in-Ok-clause-takes
returns-in-Ok-clause-takes g c =
    let all : length c.args.front.now ≡ c.args.len = search (rules, c.if-front-len.false) in
    subst (λ (n : ℕ). TakesFront c.args.side c.args.id n c.args.front.now (state_of c.args.self.now) (state_of c.take_whole.new.self) c.in-Ok.kind) all c.in-Ok.ensures.takes

pub returns-clause-takes : goal.returns-clause-takes
returns-clause-takes g c =
    let six : 6 ≤ length c.args.front.now = search (rules, c.if-front-ge6.true) in
    subst (λ (k : PacketKind). TakesFront c.args.side c.args.id c.args.len c.args.front.now (state_of c.args.self.now) (state_of c.advance_execution.new.self) k) (sym c.in-Execute.is)
    (execution_told c.args.side c.args.id c.args.len c.args.front.now (state_of c.args.self.now) (state_of c.advance_execution.new.self)
    (sym c.in-Execute.is ∙ c.classify-kind.ensures) six c.advance_execution.ensures)
