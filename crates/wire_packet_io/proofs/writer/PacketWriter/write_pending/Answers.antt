use Rattle.std.proofs.Common.{◌≡◌, ◌==◌, ℕ, Bool, true, List, [], ◌∷◌, ◌++◌, length, arith, take, drop, sym, ap, subst, ◌∙◌, append_assoc, take-append-drop}
use Rattle.std.specs.Io.KnownBytes.{Appends}
use Rattle.std.proofs.KnownBytes.{Appends-kept, Appends-nil, Appends-trans}
use Rattle.wire_packet_io.proofs.writer.PacketWriter.write_pending.Goals as goal

-- a write took the front of what is pending
pub taken_more : (all sent pending left : List ℕ) (count : ℕ) → all ≡ sent ++ pending → left ≡ drop count pending → all ≡ (sent ++ take count pending) ++ left
taken_more all sent pending left count is rest =
    is ∙ ap (λ (z : List ℕ). sent ++ z) (sym (take-append-drop count pending)) ∙ sym (append_assoc sent (take count pending) (drop count pending))
    ∙ ap (λ (z : List ℕ). (sent ++ take count pending) ++ z) (sym rest)

pub writes-init : goal.writes-init
writes-init g c = (
  [],
  sym (ap (λ z. z.pending) c.self.view_is),
  subst (λ z. Appends (g.W.Write.contents z.writer) (g.W.Write.contents c.self.inside.writer) []) c.self.view_is (Appends-nil _),
)

pub writes-preserved : goal.writes-preserved
writes-preserved g c =
    let inv = c.writes.invariant in
    let took : List ℕ = take c.in-Ok.count c.writes.self-inside.pending.items in
    (inv.0 ++ took, taken_more _ inv.0 _ _ c.in-Ok.count inv.1 c.advance.ensures.items, Appends-trans _ _ _ inv.0 took inv.2 (rw c.as_slice.ensures at c.in-Ok.ensures.bytes))

-- all of it went
pub all_sent : (all sent pending left : List ℕ) (is : Bool) → all ≡ sent ++ pending → is ≡ (length pending == 0) → is ≡ true → left ≡ [] → all ≡ sent ++ left
all_sent all sent [] left is e none f nothing = e ∙ ap (λ (z : List ℕ). sent ++ z) (sym nothing)
all_sent all sent (byte ∷ pending) left is e none f nothing = let h = none in grind arith

pub returns-clause-sent : goal.returns-clause-sent
returns-clause-sent g c =
    let inv = c.writes.invariant in
    (inv.0, all_sent _ inv.0 c.writes.self-inside.pending.items _ c.is_empty.result inv.1 c.is_empty.ensures c.writes-test.false c.clear.ensures.items, Appends-kept _ _ _ inv.0 inv.2 c.flush.ensures.bytes)
