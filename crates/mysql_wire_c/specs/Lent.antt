-- How a `SessionHandle` lends its session.
use Rattle.std.specs.Borrow.{Lends, MutBor, Fml}
use Rattle.std.specs.declared.option.Option.TheVariants.{Some}
use Rattle.mysql_wire_c.specs.declared.session.FollowedSession.{FollowedSession}
use Rattle.mysql_wire_c.specs.declared.handle.SessionHandle.{SessionHandle}
use Rattle.mysql_wire_c.specs.contracts.session.FollowedSession as session
use Rattle.mysql_wire_c.specs.contracts.handle.SessionHandle as handle

-- h after `*h.session() = w`
abbrev pub with_session : SessionHandle → FollowedSession → SessionHandle
with_session h w = record { at = h.at; alloc = h.alloc; session = Some w }

-- once the borrow r ends, the session after h is the last value written through r
abbrev pub lends_session : MutBor SessionHandle → MutBor FollowedSession → Fml
lends_session h r = Lends handle.the_row session.the_row h r (with_session h.now)
