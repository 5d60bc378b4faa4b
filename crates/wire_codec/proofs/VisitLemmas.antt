-- Packets that are visited, one after another.
use Rattle.std.proofs.Common.{◌≡◌, ℕ, List, ◌++◌, ◌+◌, ◌≢◌, take, drop, refl, sym, ap, ap₂, ◌∙◌, Result, Ok, Err}
use Rattle.wire_codec.proofs.Declared.{PacketCodecError, PacketTooLarge, OutOfMemory, PacketsOutOfSync, Io}
use Rattle.wire_codec.specs.Delivery.{chunk_len, Ending, Waiting, TooLarge, OutOfSync, Delivers}
use Rattle.wire_codec.specs.Runs.{LeavesFrom}
use Rattle.wire_codec.proofs.ConstantLimit.{one_delivery_is}
use Rattle.wire_codec.specs.Codec.{first_id, input_of}
use Rattle.wire_codec.specs.Laws.{OneRun}

-- how a run ends, and what it leaves, by how its delivery ends
abbrev answer_of : Ending → Result (Unit {0}) PacketCodecError
answer_of Waiting = Ok tt
answer_of TooLarge = Err PacketTooLarge
answer_of OutOfSync = Err PacketsOutOfSync

abbrev held_of : Ending → List ℕ → List ℕ → List ℕ
held_of Waiting unfinished rest = unfinished
held_of TooLarge unfinished rest = unfinished
held_of OutOfSync unfinished rest = unfinished ++ take (chunk_len rest) (drop 4 rest)

abbrev left_of : Ending → List ℕ → List ℕ
left_of Waiting rest = rest
left_of TooLarge rest = rest
left_of OutOfSync rest = drop (4 + chunk_len rest) rest

delivered : (answer : Result (Unit {0}) PacketCodecError) (held input : List ℕ) (first limit : ℕ) (gained : List (List ℕ)) (src left dst : List ℕ) → answer ≢ Err OutOfMemory
    → LeavesFrom first input held limit answer gained src left dst
    → (ending : Ending) × (unfinished : List ℕ) × (rest : List ℕ) × Delivers held input first limit gained ending unfinished rest
    × (answer ≡ answer_of ending) × (dst ≡ held_of ending unfinished rest) × (src ++ left ≡ left_of ending rest)
delivered (Ok tt) held input first limit gained src left dst some d = (Waiting, dst, src ++ left, d, refl, refl, refl)
delivered (Err PacketTooLarge) held input first limit gained src left dst some d = (TooLarge, dst, src ++ left, d, refl, refl, refl)
delivered (Err PacketsOutOfSync) held input first limit gained src left dst some (unfinished, rest, d, kept, goes) = (OutOfSync, unfinished, rest, d, refl, kept, goes)
delivered (Err OutOfMemory) held input first limit gained src left dst some d = absurd (some refl)
delivered (Err (Io error)) held input first limit gained src left dst some d = absurd d

-- runs from one state over the same bytes are one run
pub one_run_is : OneRun
one_run_is before after other_after more answer other gained others left other_left some some_other run other_run =
    let a = delivered answer before.held (input_of before ++ more) (first_id before) before.limit gained after.unread left after.held some run in
    let b = delivered other before.held (input_of before ++ more) (first_id before) before.limit others other_after.unread other_left other_after.held some_other other_run in
    let one = one_delivery_is before.held (input_of before ++ more) (first_id before) before.limit gained others a.0 b.0 a.1 b.1 a.2 b.2 a.3 b.3 in (
      one.0,
      a.4 ∙ ap (λ z. answer_of z) one.1 ∙ sym b.4,
      a.5 ∙ ap (λ z. held_of z a.1 a.2) one.1 ∙ ap₂ (λ u v. held_of b.0 u v) one.2 one.3 ∙ sym b.5,
      a.6 ∙ ap (λ z. left_of z a.2) one.1 ∙ ap (λ z. left_of b.0 z) one.3 ∙ sym b.6,
    )
