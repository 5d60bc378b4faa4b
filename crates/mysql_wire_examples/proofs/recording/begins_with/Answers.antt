use Rattle.std.proofs.Common.{◌≡◌, ◌↔◌, ℕ, List, ◌++◌, length, take, drop, IsTrue, Bool, ap, sym, ◌∙◌, refl, take-append-drop}
use Rattle.std.proofs.lemmas.List.{take_at}
use Rattle.mysql_wire.specs.Framing.{framing}
use Rattle.mysql_wire.specs.Laws.{UniqueFraming}
use Rattle.mysql_wire_examples.proofs.recording.begins_with.Goals as goal

-- the bytes of the one packet stand in front where the other is that one
begins : UniqueFraming → (id : ℕ) (payload packet rest wire front : List ℕ) (answer : Bool)
    → front ≡ framing id packet → wire ≡ framing id payload ++ rest → (IsTrue answer ↔ (take (length front) wire ≡ front))
    → IsTrue answer ↔ (payload ≡ packet)
begins unique id payload packet rest wire front answer framed is told = (
  λ yes.
      let split : wire ≡ front ++ drop (length front) wire =
      sym (take-append-drop (length front) wire) ∙ ap (λ (z : List ℕ). z ++ drop (length front) wire) (told.0 yes) in
      let both : framing id payload ++ rest ≡ framing id packet ++ drop (length front) wire =
      sym is ∙ split ∙ ap (λ (z : List ℕ). z ++ drop (length front) wire) framed in
      (unique id payload packet rest (drop (length front) wire) both).0,
  λ same.
      let there : wire ≡ front ++ rest = is ∙ ap (λ (z : List ℕ). framing id z ++ rest) same ∙ ap (λ (z : List ℕ). z ++ rest) (sym framed) in
      told.1 (ap (λ (z : List ℕ). take (length front) z) there ∙ take_at front rest (length front) refl),
)

pub returns : goal.returns
returns g c payload rest is =
    let id = c.args.id in
    let packet : List ℕ = c.args.packet.now in
    let framed : c.as_slice.result.now ≡ framing id packet =
    c.as_slice.ensures ∙ c.in_ok-packet_to_chunks.ensures.appended ∙ ap (λ (z : List ℕ). z ++ framing id packet) c.new-framed.ensures.items in
    begins c.unique_framing.ensures id payload packet rest c.args.wire.now c.as_slice.result.now c.has_front.result framed is c.has_front.ensures
