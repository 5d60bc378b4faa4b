-- A chunk of another id, told by its header.
use Rattle.std.proofs.Common.{◌≡◌, ◌≢◌, ℕ, ◌+◌, ◌<◌, ◌≤◌, List, length, sym, ap, ◌∙◌, arith, inl, inr, ◌⊎◌, slice_index, zero, suc, if◌then◌else◌, Option, Some, None, Result, Ok, Err, Bool, true, false, refl}
use Rattle.std.proofs.lemmas.Bool.{cases_lt}
use Rattle.wire_codec.proofs.Declared.{ChunkInfo, Middle, Last, PacketCodecError, PacketTooLarge, OutOfMemory, PacketsOutOfSync}
use Rattle.wire_codec.specs.Delivery.{chunk_len}
use Rattle.wire_codec.specs.OneChunk.{Answer, DecodesChunk, FinishesChunk, info_of}
use Rattle.wire_codec.specs.Chain.{ChainFrom, StopsBy, id_of}
use Rattle.wire_codec.specs.Codec.{HasChunkAt}
use Rattle.wire_codec.specs.LimitedRuns.{AlignedAt}
use Rattle.wire_codec.specs.Early.{EarlyJudgement, IsOutOfStep}

-- a chunk is in front, with this id, and a step takes it
abbrev TakesId : List ℕ → Answer → Type 0
TakesId src answer = (info : ChunkInfo) × (answer ≡ Ok (Some info)) × (id_of info ≡ slice_index src 3) × (4 ≤ length src)

id_of_either : (id : ℕ) (is_full : Bool) → id_of (if is_full then Middle id else Last id) ≡ id
id_of_either id true = refl
id_of_either id false = refl

finishes : (id needed : ℕ) (src dst : List ℕ) (answer : Answer) (header : Option (ℕ × ℕ)) (rest filled : List ℕ) → 4 ≤ length src → slice_index src 3 ≡ id
    → FinishesChunk id needed src dst answer header rest filled
    → ((answer ≡ Ok None) × (length src < 4 + needed)) ⊎ (answer ≡ Err OutOfMemory) ⊎ TakesId src answer
finishes id needed src dst answer header rest filled long is f =
    elim (cases_lt (length src) (4 + needed)) [
      | inl less ↦ inl ((f.waits less).0, less)
      | inr whole ↦ elim (f.takes whole) [
        | inl t ↦ inr (inr (info_of id filled, t.0, id_of_either id _ ∙ sym is, long))
        | inr r ↦ inr (inl r.0)
      ]
    ]

-- what a step says; one that takes no chunk lacks memory, or has none before it
says : (h : Option (ℕ × ℕ)) (limit : ℕ) (src dst : List ℕ) (answer : Answer) (header : Option (ℕ × ℕ)) (rest filled : List ℕ) → AlignedAt h src dst
    → DecodesChunk h src dst limit answer header rest filled
    → (((answer ≡ Ok None) ⊎ (answer ≡ Err PacketTooLarge)) × (HasChunkAt h src (length dst) limit → ⊥)) ⊎ (answer ≡ Err OutOfMemory) ⊎ TakesId src answer
says None limit src dst answer header rest filled aligned d =
    elim (cases_lt (length src) 4) [
      | inl short ↦ inl (inl (d.short short).0, λ has. let whole = has.2 in omega (arith, short, whole))
      | inr long ↦ elim (cases_lt 0 (chunk_len src)) [
        | inr none ↦ let e = d.empty long (omega arith) in inr (inr (Last (slice_index src 3), e.0, refl, long))
        | inl some ↦ elim (cases_lt limit (length dst + chunk_len src)) [
          | inl more ↦ inl (inr (d.large long some more).0, λ has. let small = has.1 in omega (arith, more, small))
          | inr small ↦ elim (finishes (slice_index src 3) (chunk_len src) src dst answer header rest filled long refl (d.begins long some small)) [
            | inl waits ↦ inl (inl waits.0, λ has. let whole = has.2 in let less = waits.1 in omega (arith, less, whole))
            | inr other ↦ inr other
          ]
        ]
      ]
    ]
says (Some h) limit src dst answer header rest filled aligned d =
    elim (finishes h.0 h.1 src dst answer header rest filled aligned.1.0 aligned.1.1 d) [
      | inl waits ↦ inl (inl waits.0, λ has. let less = waits.1 in omega (arith, less, has))
      | inr other ↦ inr other
    ]

-- a chunk that is taken bears the id of its header
taken_id : (h : Option (ℕ × ℕ)) (limit : ℕ) (src dst : List ℕ) (info : ChunkInfo) (header : Option (ℕ × ℕ)) (rest filled : List ℕ) → AlignedAt h src dst
    → DecodesChunk h src dst limit (Ok (Some info)) header rest filled → (id_of info ≡ slice_index src 3) × (4 ≤ length src)
taken_id h limit src dst info header rest filled aligned d =
    elim (says h limit src dst (Ok (Some info)) header rest filled aligned d) [
      | inl (inl none, _) ↦ absurd cc
      | inl (inr large, _) ↦ absurd cc
      | inr (inl memory) ↦ absurd cc
      | inr (inr (other, same, is, long)) ↦ (let same_info : info ≡ other = cc in ap id_of same_info ∙ is, long)
    ]

stopped : (said : Answer) (answer : Result Bool PacketCodecError) (h : Option (ℕ × ℕ)) (limit id : ℕ) (src dst : List ℕ) (header : Option (ℕ × ℕ)) (rest filled : List ℕ)
    → AlignedAt h src dst → StopsBy said id answer → DecodesChunk h src dst limit said header rest filled
    → (answer ≢ Ok true) × (HasChunkAt h src (length dst) limit → (answer ≡ Err PacketsOutOfSync) ⊎ (answer ≡ Err OutOfMemory))
stopped (Ok None) answer h limit id src dst header rest filled aligned stops d = (
  λ e. absurd cc,
  λ has. elim (says h limit src dst (Ok None) header rest filled aligned d) [
    | inl (_, none) ↦ absurd (none has)
    | inr (inl memory) ↦ absurd cc
    | inr (inr (info, same, _, _)) ↦ absurd cc
  ],
)
stopped (Ok (Some info)) answer h limit id src dst header rest filled aligned stops d = (λ e. absurd (let said = stops.1 in cc), λ has. inl stops.1)
stopped (Err error) answer h limit id src dst header rest filled aligned stops d = (
  λ e. absurd cc,
  λ has. elim (says h limit src dst (Err error) header rest filled aligned d) [
    | inl (_, none) ↦ absurd (none has)
    | inr (inl memory) ↦ inr (let is : error ≡ OutOfMemory = cc in stops ∙ ap (λ (e : PacketCodecError). Err e) is)
    | inr (inr (info, same, _, _)) ↦ absurd cc
  ],
)

refuses : (count : ℕ) (answer : Result Bool PacketCodecError) (limit id : ℕ) (h : Option (ℕ × ℕ)) (src dst : List ℕ) (new_id : ℕ) (header : Option (ℕ × ℕ)) (rest filled : List ℕ)
    → AlignedAt h src dst → slice_index src 3 ≢ id → ChainFrom count limit id h src dst answer new_id header rest filled
    → (answer ≢ Ok true) × (HasChunkAt h src (length dst) limit → (answer ≡ Err PacketsOutOfSync) ⊎ (answer ≡ Err OutOfMemory))
refuses zero answer limit id h src dst new_id header rest filled aligned other r = stopped r.said answer h limit id src dst header rest filled aligned r.stops r.chunk
refuses (suc count) answer limit id h src dst new_id header rest filled aligned other (inl (_, a)) =
    let is = taken_id h limit src dst a.info header rest filled aligned a.chunk in
    absurd (other (sym is.0 ∙ a.expected))
refuses (suc count) answer limit id h src dst new_id header rest filled aligned other (inr (mid_header, mid_src, mid_dst, chunk, _, _)) =
    let is = taken_id h limit src dst (Middle id) mid_header mid_src mid_dst aligned chunk in
    absurd (other (sym is.0))

told : (said : Answer) (h : Option (ℕ × ℕ)) (limit id : ℕ) (src dst : List ℕ) (header : Option (ℕ × ℕ)) (rest filled : List ℕ)
    → AlignedAt h src dst → StopsBy said id (Err PacketsOutOfSync) → DecodesChunk h src dst limit said header rest filled → IsOutOfStep id src
told (Ok None) h limit id src dst header rest filled aligned stops d = absurd cc
told (Ok (Some info)) h limit id src dst header rest filled aligned stops d =
    let is = taken_id h limit src dst info header rest filled aligned d in (is.1, λ same. stops.0 (is.0 ∙ same))
told (Err error) h limit id src dst header rest filled aligned stops d =
    elim (says h limit src dst (Err error) header rest filled aligned d) [
      | inl (inl none, _) ↦ absurd cc
      | inl (inr large, _) ↦ absurd cc
      | inr (inl memory) ↦ absurd cc
      | inr (inr (info, same, _, _)) ↦ absurd cc
    ]

pub early_judgement_is : EarlyJudgement
early_judgement_is = (
  λ before answer after aligned out chain. refuses chain.0 answer before.limit before.id before.header before.unread before.held after.id after.header after.unread after.held
      aligned out.1 chain.1,
  λ before after aligned r. told r.said before.header before.limit before.id before.unread before.held after.header after.unread after.held aligned r.stops r.chunk,
)
