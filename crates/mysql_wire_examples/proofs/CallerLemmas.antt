-- Runs from a new codec.
use Rattle.std.proofs.Common.{◌≡◌, ℕ, List, [], ◌∷◌, ◌++◌, length, refl, arith, subst, Option, Some, None, IfSome, Result, Ok, Err, OnOk, append-nil, ap, sym, ◌∙◌}
use Rattle.std.specs.Io.KnownBytes.{Consumes, IsAtEnd}
use Rattle.mysql_wire.specs.Framing.{max_payload}
use Rattle.mysql_wire.specs.Delivery.{Delivers, Waiting}
use Rattle.mysql_wire.specs.Codec.{CodecState}
use Rattle.mysql_wire.specs.Laws.{empty_state}
use Rattle.mysql_wire.specs.Runs.{RunsTo, RunsOver}
use Rattle.mysql_wire.specs.LimitedRuns.{RunsLimited}
use Rattle.mysql_wire.specs.PacketCodecError.{PacketCodecError}
use Rattle.std.specs.Borrow.{Bor}

pub nil_of_length : (xs : List ℕ) → length xs ≡ 0 → xs ≡ []
nil_of_length [] none = refl
nil_of_length (x ∷ xs) none = absurd (omega arith)

-- what a run over all that a reader had has handed out
pub delivers_all : (limit : ℕ) (unread left : Option (List ℕ)) (read : List ℕ) (gained : List (List ℕ)) (after : CodecState)
    → Consumes unread left read → IsAtEnd left → RunsTo (empty_state 0 limit) read (Ok tt) gained after
    → IfSome unread (λ input. (unfinished : List ℕ) × (rest : List ℕ) × Delivers [] input 0 limit gained Waiting unfinished rest)
unfolding max_payload
delivers_all limit None left read gained after consumed ended run = tt
delivers_all limit (Some input) None read gained after consumed ended run = absurd consumed
delivers_all limit (Some input) (Some rest) read gained after consumed ended run =
    let all : read ≡ input = sym (consumed ∙ ap (λ (z : List ℕ). read ++ z) ended ∙ append-nil read) in
    subst (λ (z : List ℕ). (unfinished : List ℕ) × (more : List ℕ) × Delivers [] z 0 limit gained Waiting unfinished more) all
    (after.held, after.unread, run.0)

-- a run over two pieces from a new codec, in the words of its start
pub two_pieces : (start before after : CodecState) (pieces : List (ℕ × Bor (List ℕ))) (count : ℕ) (answer : Result (Unit {0}) PacketCodecError) (gained old out : List (List ℕ))
    → before ≡ start → count ≡ 2 → answer ≡ Ok tt → old ≡ [] → out ≡ old ++ gained
    → RunsLimited before pieces count answer gained after → RunsLimited start pieces 2 (Ok tt) out after
two_pieces start before after pieces count answer gained old out is two ok none at run =
    let same : gained ≡ out = sym (at ∙ ap (λ (z : List (List ℕ)). z ++ gained) none) in
    subst (λ z. RunsLimited z pieces 2 (Ok tt) out after) is
    (subst (λ z. RunsLimited before pieces z (Ok tt) out after) two
    (subst (λ z. RunsLimited before pieces count z out after) ok
    (subst (λ z. RunsLimited before pieces count answer z after) same run)))

-- a run over all pieces from a new codec, in the words of its start
pub fresh_run : (before after : CodecState) (limit : ℕ) (input left : List ℕ) (answer : Result (Unit {0}) PacketCodecError) (gained : List (List ℕ))
    → before ≡ empty_state 0 limit → answer ≡ Ok tt → RunsOver before input answer gained after left → RunsOver (empty_state 0 limit) input (Ok tt) gained after left
fresh_run before after limit input left answer gained is ok run =
    subst (λ z. RunsOver z input (Ok tt) gained after left) is (subst (λ z. RunsOver before input z gained after left) ok run)

pub fresh_delivers : (before after : CodecState) (limit : ℕ) (input left : List ℕ) (answer : Result (Unit {0}) PacketCodecError) (gained : List (List ℕ))
    → before ≡ empty_state 0 limit → answer ≡ Ok tt → RunsOver before input answer gained after left
    → Delivers [] input 0 limit gained Waiting after.held (after.unread ++ left)
unfolding max_payload
fresh_delivers before after limit input left answer gained is ok run = fresh_run before after limit input left answer gained is ok run

-- where a new codec is after a stream that waits
abbrev pub waiting_state : ℕ → List ℕ → List ℕ → CodecState
waiting_state limit unfinished rest = record (empty_state 0 limit) { unread = rest; held = unfinished }

-- what is delivered of a stream so far, as a run of a new codec over all of it
pub run_so_far : (limit : ℕ) (input unfinished rest : List ℕ) (gained : List (List ℕ))
    → Delivers [] input 0 limit gained Waiting unfinished rest
    → RunsOver (empty_state 0 limit) input (Ok tt) gained (waiting_state limit unfinished rest) []
unfolding max_payload
run_so_far limit input unfinished rest gained delivers =
    subst (λ (z : List ℕ). Delivers [] input 0 limit gained Waiting unfinished z) (sym (append-nil rest)) delivers

-- what is said where a call succeeds
pub on_ok : (answer : Result (Unit {0}) PacketCodecError) (P : Type 0) → (answer ≡ Ok tt → P) → OnOk answer P
on_ok (Ok done) P gives = gives refl
on_ok (Err error) P gives = tt
