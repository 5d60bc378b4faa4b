-- What went out of a packet that is written from where it lies.
use Rattle.std.proofs.Common.{◌≡◌, ℕ, ◌+◌, ◌<◌, ◌≤◌, List, [], ◌∷◌, ◌++◌, length, refl, sym, ap, ap₂, ◌∙◌, subst, arith, append-nil, length-append, ◌⊎◌, inl, inr, Option, Result, Ok, Err}
use Rattle.std.specs.Prelude.{unwrap_or, OnOk, OnErr}
use Rattle.std.specs.Io.KnownBytes.{Appends}
use Rattle.std.proofs.KnownBytes.{Appends-nil, Appends-trans}
use Rattle.wire_codec.specs.Framing.{framing, next_id}
use Rattle.wire_span.specs.FrameLaws.{FramedPacket}
use Rattle.wire_span.specs.declared.frame.UnfinishedPacket.{UnfinishedPacket}
use Rattle.wire_span.specs.Framed.{FrameState, begun, payload_left, IsBetweenPackets, FramesOn}
use Rattle.mysql_wire_tool_commands.specs.Reframe.{Sends}

-- what `next_part` leaves where it answers `None`
abbrev pub NoneGoes : FrameState → List ℕ → Type 0
NoneGoes state rest = IsBetweenPackets state ⊎ ((0 < state.chunk_left) × (rest ≡ []))

none_left : (a : FrameState) → IsBetweenPackets a → payload_left a ≡ 0
none_left a between = ap₂ (λ (k : ℕ) (b : Option ℕ). k + unwrap_or b 0) between.0 between.1

no_bytes : (r : List ℕ) → length r ≡ 0 → r ≡ []
no_bytes [] e = refl
no_bytes (x ∷ r) e = absurd (omega arith)

pub all_went : (a b : FrameState) (P x r o : List ℕ) → FramesOn a x o b → P ≡ x ++ r → length P ≤ payload_left a → NoneGoes b r → FramesOn a P o b
all_went a b P x r o f e fits none =
    let left = f.left in
    let size : length P ≡ length x + length r = ap (λ (z : List ℕ). length z) e ∙ length-append x r in
    let nothing : r ≡ [] = elim none [
      | inl between ↦ no_bytes r (let k = none_left b between in omega arith)
      | inr inside ↦ inside.1
    ] in
    subst (λ (z : List ℕ). FramesOn a z o b) (sym (e ∙ ap (λ (z : List ℕ). x ++ z) nothing ∙ append-nil x)) f

pub whole_went : (b : FrameState) (r : List ℕ) → NoneGoes b r → payload_left b ≡ 0 → IsBetweenPackets b
whole_went b r none empty = elim none [
  | inl between ↦ between
  | inr inside ↦ absurd (let k = inside.0 in omega arith)
]

-- between two packets one is begun
pub begun_is : (r : Result (Unit {0}) UnfinishedPacket) (a b : FrameState) (id len : ℕ) → a.id ≡ id → IsBetweenPackets a
    → OnOk r ((b ≡ begun a.id len) × IsBetweenPackets a) → OnErr r ((b ≡ a) × (¬ IsBetweenPackets a)) → b ≡ begun id len
begun_is (Ok u) a b id len e between ok err = ok.0 ∙ ap (λ (k : ℕ). begun k len) e
begun_is (Err error) a b id len e between ok err = absurd (err.1 between)

-- a packet that went in one piece
pub one_went : FramedPacket → (id : ℕ) (a z : FrameState) (x o : List ℕ) → a ≡ begun id (length x) → FramesOn a x o z → (payload_left z ≡ 0 → IsBetweenPackets z)
    → (o ≡ framing id x) × (z.id ≡ next_id id x)
one_went frames id a z x o is f whole =
    let start : payload_left a ≡ length x = ap (λ (s : FrameState). payload_left s) is ∙ omega arith in
    let left = f.left in
    let framed = frames id (length x) x o z (subst (λ (s : FrameState). FramesOn s x o z) is f) (whole (omega arith)) in
    (framed.1, framed.2)

-- a flush writes nothing
pub flushed : (bytes : List ℕ) (a b c : Option (List ℕ)) → Appends a b bytes → Appends b c [] → Appends a c bytes
flushed bytes a b c goes none = subst (λ (z : List ℕ). Appends a c z) (append-nil bytes) (Appends-trans a b c bytes [] goes none)

-- all that was pending went, and these bytes after it
pub all_written : (pending left out : List ℕ) (a b c d : Option (List ℕ)) → Sends a b pending left → left ≡ [] → Appends b c out → Appends c d []
    → Appends a d (pending ++ out)
all_written pending left out a b c d sends none goes none_more =
    let before : Appends a b pending =
    subst (λ (z : List ℕ). Appends a b z) (sym (sends.1 ∙ ap (λ (z : List ℕ). sends.0 ++ z) none ∙ append-nil sends.0)) sends.2 in
    Appends-trans a b d pending out before (flushed out b c d goes none_more)

-- a packet more is pending, and nothing was written
pub more_pending : (all left : List ℕ) (now : Option (List ℕ)) → left ≡ all → Sends now now all left
more_pending all left now is = ([], sym is, Appends-nil now)

-- all of it was written
pub none_pending : (all left : List ℕ) (before now : Option (List ℕ)) → Appends before now all → left ≡ [] → Sends before now all left
none_pending all left before now goes none = (all, sym (ap (λ (z : List ℕ). all ++ z) none ∙ append-nil all), goes)
