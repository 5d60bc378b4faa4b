-- What the calls of a session make of what it answers.
use Rattle.std.proofs.Common.{◌≡◌, ◌⊎◌, ℕ, ℤ, true, List, length, Option, Some, Result, Ok, Err, rules, subst, sym}
use Rattle.std.specs.Prelude.{IfOk, IfSome, OnOk}
use Rattle.mysql_wire_session.specs.Readings.{Receives, advanced}
use Rattle.mysql_wire_session.specs.State.{SessionState}
use Rattle.mysql_wire_session.specs.declared.packet.Received.{Received}
use Rattle.mysql_wire_session.specs.declared.refusal.SessionError.{SessionError}
use Rattle.mysql_wire_session.specs.declared.side.Side.{Side}
use Rattle.mysql_wire_c_calls.specs.declared.codes.TheConstants.{NEEDS_WHOLE, NO_MEMORY, OK}
use Rattle.mysql_wire_c.specs.Calls.{FollowsFront, Took, TookFront, WantsWhole, is_front, is_refused}
use Rattle.mysql_wire_c.specs.Numbers.{kind_number, side_of}
use Rattle.mysql_wire_c.specs.declared.session.Taken.{Taken}

pub taken_past : (side : Side) (id : ℕ) (payload : List ℕ) (state next : SessionState) (received : Received) (result : Result Taken SessionError)
    → Receives side id payload state received
    → IfOk result (λ taken. (taken.kind ≡ kind_number received.kind) × (taken.is_refused ≡ is_refused received.packet))
    → OnOk result (next ≡ advanced received state)
    → IfOk result (λ taken. Took side id payload taken.kind taken.is_refused state next)
taken_past side id payload state next received (Ok taken) came told goes = (received, came, goes, told.0, told.1)
taken_past side id payload state next received (Err error) came told goes = tt

-- what was answered of a front, by the side that its number names
pub answered_front : (number id len : ℕ) (front : List ℕ) (kind : ℕ) (answer : ℤ) (before after : SessionState) (side : Side)
    → side_of number ≡ Some side → is_front len (length front) ≡ true
    → (answer ≡ OK → TookFront side id len front kind before after)
    → (answer ≡ NEEDS_WHOLE → WantsWhole side id len front kind before)
    → (answer ≡ NO_MEMORY → length front ≡ len)
    → (answer ≡ OK) ⊎ (after ≡ before)
    → (answer ≡ OK) ⊎ (answer ≡ NEEDS_WHOLE) ⊎ (kind ≡ 0)
    → (answer ≡ OK) ⊎ (answer ≡ NEEDS_WHOLE) ⊎ (answer ≡ NO_MEMORY)
    → FollowsFront number id len front kind answer before after
answered_front number id len front kind answer before after side side_is has_front takes needs memory stays none answers =
    record {
      takes = λ is. subst (λ (o : Option Side). IfSome o (λ s. TookFront s id len front kind before after)) (sym side_is) (takes is);
      needs = λ is. subst (λ (o : Option Side). IfSome o (λ s. WantsWhole s id len front kind before)) (sym side_is) (needs is);
      memory = memory;
      front_is = λ is. search (rules, answers, is);
      has_front = search (rules, has_front);
      side = search (rules, answers, side_is);
      stays = stays;
      none = none;
      answers = search (rules, answers);
    }
