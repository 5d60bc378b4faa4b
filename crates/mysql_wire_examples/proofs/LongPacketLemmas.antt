-- Where nothing more can go of a piece, all of it went.
use Rattle.std.proofs.Common.{◌≡◌, ℕ, ◌+◌, ◌<◌, ◌≤◌, List, [], ◌∷◌, ◌++◌, length, refl, sym, ap, ap₂, ◌∙◌, subst, arith, append-nil, length-append, ◌⊎◌, inl, inr, Option, Result, Ok, Err, append_assoc}
use Rattle.std.specs.Prelude.{unwrap_or, OnOk, OnErr}
use Rattle.mysql_wire.specs.Framing.{framing, next_id}
use Rattle.mysql_wire.specs.FrameLaws.{FramedPacket, JoinedFrames}
use Rattle.mysql_wire.specs.UnfinishedPacket.{UnfinishedPacket}
use Rattle.mysql_wire.specs.Framed.{FrameState, begun, payload_left, IsBetweenPackets, FramesOn}

-- what `next_part` leaves where it answers `None`
abbrev pub NoneGoes : FrameState → List ℕ → Type 0
NoneGoes state rest = IsBetweenPackets state ⊎ ((0 < state.chunk_left) × (rest ≡ []))

none_left : (a : FrameState) → IsBetweenPackets a → payload_left a ≡ 0
none_left a between = ap₂ (λ (k : ℕ) (b : Option ℕ). k + unwrap_or b 0) between.0 between.1

no_bytes : (r : List ℕ) → length r ≡ 0 → r ≡ []
no_bytes [] e = refl
no_bytes (x ∷ r) e = absurd (omega arith)

pub all_went : (a b : FrameState) (P x r o : List ℕ) → FramesOn a x o b → P ≡ x ++ r → length P ≤ payload_left a → NoneGoes b r → FramesOn a P o b
all_went a b P x r o f e fits none =
    let left = f.left in
    let size : length P ≡ length x + length r = ap (λ (z : List ℕ). length z) e ∙ length-append x r in
    let nothing : r ≡ [] = elim none [
      | inl between ↦ no_bytes r (let k = none_left b between in omega arith)
      | inr inside ↦ inside.1
    ] in
    subst (λ (z : List ℕ). FramesOn a z o b) (sym (e ∙ ap (λ (z : List ℕ). x ++ z) nothing ∙ append-nil x)) f

pub whole_went : (b : FrameState) (r : List ℕ) → NoneGoes b r → payload_left b ≡ 0 → IsBetweenPackets b
whole_went b r none empty = elim none [
  | inl between ↦ between
  | inr inside ↦ absurd (let k = inside.0 in omega arith)
]

-- between two packets one is begun
pub begun_is : (r : Result (Unit {0}) UnfinishedPacket) (a b : FrameState) (id len : ℕ) → a.id ≡ id → IsBetweenPackets a
    → OnOk r ((b ≡ begun a.id len) × IsBetweenPackets a) → OnErr r ((b ≡ a) × (¬ IsBetweenPackets a)) → b ≡ begun id len
begun_is (Ok u) a b id len e between ok err = ok.0 ∙ ap (λ (k : ℕ). begun k len) e
begun_is (Err error) a b id len e between ok err = absurd (err.1 between)

-- a packet that went in two pieces
pub two_went : JoinedFrames → FramedPacket → (id : ℕ) (a m z : FrameState) (x y o p before between after : List ℕ)
    → a ≡ begun id (length x + length y) → FramesOn a x o m → FramesOn m y p z → (payload_left z ≡ 0 → IsBetweenPackets z)
    → between ≡ before ++ o → after ≡ between ++ p
    → (after ≡ before ++ framing id (x ++ y)) × (z.id ≡ next_id id (x ++ y))
two_went joins frames id a m z x y o p before between after is f g whole first second =
    let len : ℕ = length x + length y in
    let start : payload_left a ≡ len = ap (λ (s : FrameState). payload_left s) is ∙ omega arith in
    let left = f.left in
    let more = g.left in
    let both : FramesOn (begun id len) (x ++ y) (o ++ p) z = subst (λ (s : FrameState). FramesOn s (x ++ y) (o ++ p) z) is (joins a m z x o y p f g) in
    let framed = frames id len (x ++ y) (o ++ p) z both (whole (omega arith)) in (
      second ∙ ap (λ (w : List ℕ). w ++ p) first ∙ append_assoc before o p ∙ ap (λ (w : List ℕ). before ++ w) framed.1,
      framed.2,
    )
