-- One chunk of a stream, and what a step makes of it.
use Rattle.std.proofs.Common.{◌≡◌, ℕ, ◌+◌, ◌/◌, ◌%◌, ◌<◌, ◌≤◌, ◌⊎◌, List, ◌++◌, length, take, drop, suc, refl, sym, ap, ap₂, ◌∙◌, arith, append_assoc, append-nil, length-append, length-drop, length-take, drop-drop, inl, inr, take-append-drop, slice_index, Option, Some, None, IsSome, Ok, Err, Bool, eq-eqb, ne_eqb, if◌then◌else◌}
use Rattle.std.proofs.lemmas.List.{length-take-le, take-take}
use Rattle.wire_buf.specs.Numbers.{le_number, le_bytes}
use Rattle.std.proofs.lemmas.Bool.{cases_lt}
use Rattle.wire_codec.proofs.Declared.{ChunkInfo, Middle, Last, PacketTooLarge, OutOfMemory}
use Rattle.wire_codec.specs.Framing.{max_payload, max_payload_is, header, chunk, chunks, front}
use Rattle.wire_codec.specs.Delivery.{chunk_len, IsSpelled, id_at, IsWholeChunks}
use Rattle.wire_codec.specs.OneChunk.{info_of, Answer, FinishesChunk, DecodesChunk}
use Rattle.wire_codec.specs.Chain.{id_of}
use Rattle.wire_codec.specs.Codec.{StandsAt, open_id}
use Rattle.wire_codec.proofs.ChunkLemmas.{blocks_whole, chunk-mod, chunks-push}

-- ids
pub id_at_open : (id : ℕ) (held : List ℕ) → id < 256 → id_at (open_id id held) held ≡ id
id_at_open id held h = omega arith

pub open_at_id : (first : ℕ) (held : List ℕ) → first < 256 → open_id (id_at first held) held ≡ first
open_at_id first held h = omega arith

pub open_small : (id : ℕ) (held : List ℕ) → open_id id held < 256
open_small id held = omega arith

-- numbers of whole chunks
pub whole_more : (d l : ℕ) → d % max_payload ≡ 0 → l ≡ max_payload → ((d + l) % max_payload ≡ 0) × ((d + l) / max_payload ≡ d / max_payload + 1)
unfolding max_payload
whole_more d l h e = (omega arith, omega arith)

pub part_more : (d l : ℕ) → d % max_payload ≡ 0 → l < max_payload → ((d + l) % max_payload ≡ l) × ((d + l) / max_payload ≡ d / max_payload)
unfolding max_payload
part_more d l h e = (omega arith, omega arith)

pub chunk_len_small : (src : List ℕ) → IsSpelled src → 4 ≤ length src → chunk_len src ≤ max_payload
chunk_len_small src b h =
    let spelled : chunk_len src ≡ le_number (le_bytes 3 (chunk_len src)) = ap le_number (sym (take-take 3 4 src (omega arith))) ∙ ap (λ (z : List ℕ). le_number (take 3 z)) (b h) in
    omega (arith, spelled, max_payload_is)

-- the bytes in front are the chunk that their header states
pub chunk_in_front : (src : List ℕ) → IsSpelled src → 4 + chunk_len src ≤ length src
    → src ≡ chunk (slice_index src 3) (take (chunk_len src) (drop 4 src)) ++ drop (4 + chunk_len src) src
unfolding chunk
chunk_in_front src b h =
    let i : ℕ = slice_index src 3 in
    let c : List ℕ = take (chunk_len src) (drop 4 src) in
    let rest : List ℕ = drop (4 + chunk_len src) src in
    let len : length c ≡ chunk_len src = length-take-le (chunk_len src) (drop 4 src) (rw length-drop (omega arith)) in
    let behind : drop 4 src ≡ c ++ rest = sym (take-append-drop (chunk_len src) (drop 4 src)) ∙ ap (λ (z : List ℕ). c ++ z) (drop-drop (chunk_len src) 4 src) in
    sym (take-append-drop 4 src) ∙ ap₂ (λ (u v : List ℕ). u ++ v) (b (omega arith) ∙ ap (λ (n : ℕ). header n i) (sym len)) behind ∙ sym (append_assoc (header (length c) i) c rest)

-- a chunk that is taken, whatever it holds
pub record Taken (limit : ℕ) (src held : List ℕ) (info : ChunkInfo) (header : Option (ℕ × ℕ)) (rest dst : List ℕ) : Type 0 where
  pub whole : 4 + chunk_len src ≤ length src
  pub fits : (chunk_len src ≡ 0) ⊎ (length held + chunk_len src ≤ limit)
  pub none : header ≡ None
  pub rest_is : rest ≡ drop (4 + chunk_len src) src
  pub dst_is : dst ≡ held ++ take (chunk_len src) (drop 4 src)
  pub kind : chunk_len src ≤ max_payload
      → ((chunk_len src ≡ max_payload) × (info ≡ Middle (slice_index src 3))) ⊎ ((chunk_len src < max_payload) × (info ≡ Last (slice_index src 3)))

-- what one chunk makes of a codec that stands: more has to come, it is taken, or it is refused
abbrev pub Outcome : ℕ → List ℕ → List ℕ → Answer → Option (ℕ × ℕ) → List ℕ → List ℕ → Type 0
Outcome limit src held (Ok None) header rest dst =
    (rest ≡ src) × (dst ≡ held)
    × (((length src < 4) × (header ≡ None))
    ⊎ ((4 ≤ length src) × (0 < chunk_len src) × (length held + chunk_len src ≤ limit) × (length src < 4 + chunk_len src) × (header ≡ Some (slice_index src 3, chunk_len src))))
Outcome limit src held (Ok (Some info)) header rest dst = Taken limit src held info header rest dst
Outcome limit src held (Err error) header rest dst =
    (rest ≡ src) × (dst ≡ held) × (4 ≤ length src) × (0 < chunk_len src)
    × (((error ≡ PacketTooLarge) × (limit < length held + chunk_len src) × (header ≡ None))
    ⊎ ((error ≡ OutOfMemory) × (length held + chunk_len src ≤ limit) × (header ≡ Some (slice_index src 3, chunk_len src))))

pub len_taken : (src held : List ℕ) → 4 + chunk_len src ≤ length src → length (held ++ take (chunk_len src) (drop 4 src)) ≡ length held + chunk_len src
len_taken src held h =
    let room : chunk_len src ≤ length (drop 4 src) = rw length-drop (omega arith) in
    length-append held (take (chunk_len src) (drop 4 src)) ∙ ap (λ (n : ℕ). length held + n) (length-take-le (chunk_len src) (drop 4 src) room)

pub taken_len : {limit : ℕ} {src held : List ℕ} {info : ChunkInfo} {header : Option (ℕ × ℕ)} {rest dst : List ℕ} → Taken limit src held info header rest dst
    → length dst ≡ length held + chunk_len src
taken_len {src = src} {held = held} t = ap (λ (z : List ℕ). length z) t.dst_is ∙ len_taken src held t.whole

pub taken_id : {limit : ℕ} {src held : List ℕ} {info : ChunkInfo} {header : Option (ℕ × ℕ)} {rest dst : List ℕ} → IsSpelled src → Taken limit src held info header rest dst
    → slice_index src 3 ≡ id_of info
taken_id {src = src} b t = elim (t.kind (chunk_len_small src b (omega (arith, t.whole)))) [ inl full ↦ sym (ap id_of full.1) | inr part ↦ sym (ap id_of part.1) ]

pub info_kind : (i l : ℕ) (held dst : List ℕ) → IsWholeChunks held → length dst ≡ length held + l → 0 < l → l ≤ max_payload
    → ((l ≡ max_payload) × (info_of i dst ≡ Middle i)) ⊎ ((l < max_payload) × (info_of i dst ≡ Last i))
info_kind i l held dst whole len some small =
    elim (cases_lt l max_payload) [
      | inl less ↦
          let e : length dst % max_payload ≡ l = ap (λ (n : ℕ). n % max_payload) len ∙ (part_more (length held) l whole less).0 in
          let ne : length dst % max_payload ≡ 0 → ⊥ = λ z. absurd (omega arith) in
          inr (less, ap (λ (t : Bool). if t then Middle i else Last i) (ne_eqb (length dst % max_payload) 0 ne))
      | inr full ↦
          let is : l ≡ max_payload = omega arith in
          let e : length dst % max_payload ≡ 0 = ap (λ (n : ℕ). n % max_payload) len ∙ (whole_more (length held) l whole is).0 in
          inl (is, ap (λ (t : Bool). if t then Middle i else Last i) (eq-eqb (length dst % max_payload) 0 e))
    ]

pub outcome_finished : (limit : ℕ) (src held : List ℕ) (answer : Answer) (header : Option (ℕ × ℕ)) (rest dst : List ℕ)
    → IsWholeChunks held → 4 ≤ length src → 0 < chunk_len src → length held + chunk_len src ≤ limit
    → FinishesChunk (slice_index src 3) (chunk_len src) src held answer header rest dst → Outcome limit src held answer header rest dst
outcome_finished limit src held answer header rest dst all long some small f =
    elim (cases_lt (length src) (4 + chunk_len src)) [
      | inl less ↦ let w = f.waits less in rw w.0 (w.2, w.3, inr (long, some, small, less, w.1))
      | inr whole ↦ elim (f.takes whole) [
        | inl t ↦ rw t.0 (record {
          whole = whole;
          fits = inr small;
          none = t.1;
          rest_is = t.2;
          dst_is = t.3;
          kind = info_kind (slice_index src 3) (chunk_len src) held dst all (ap (λ (z : List ℕ). length z) t.3 ∙ len_taken src held whole) some;
        })
        | inr r ↦ rw r.0 (r.2, r.3, long, some, inr (refl, small, r.1))
      ]
    ]

pub outcome_of : (h : Option (ℕ × ℕ)) (limit : ℕ) (src held : List ℕ) (answer : Answer) (header : Option (ℕ × ℕ)) (rest dst : List ℕ)
    → StandsAt limit h src held → DecodesChunk h src held limit answer header rest dst → Outcome limit src held answer header rest dst
outcome_of None limit src held answer header rest dst stands d =
    elim (cases_lt (length src) 4) [
      | inl less ↦ let w = d.short less in rw w.0 (w.2, w.3, inl (less, w.1))
      | inr long ↦ elim (cases_lt 0 (chunk_len src)) [
        | inr none ↦
            let zero' : chunk_len src ≡ 0 = omega arith in
            let w = d.empty long zero' in
            rw w.0 (record {
              whole = omega arith;
              fits = inl zero';
              none = w.1;
              rest_is = w.2 ∙ ap (λ (n : ℕ). drop (4 + n) src) (sym zero');
              dst_is = w.3 ∙ sym (append-nil held) ∙ ap (λ (n : ℕ). held ++ take n (drop 4 src)) (sym zero');
              kind = λ small. inr (omega (arith, max_payload_is), refl);
            })
        | inl some ↦ elim (cases_lt limit (length held + chunk_len src)) [
          | inl more ↦ let w = d.large long some more in rw w.0 (w.2, w.3, long, some, inl (refl, more, w.1))
          | inr small ↦ outcome_finished limit src held answer header rest dst stands.0 long some small (d.begins long some small)
        ]
      ]
    ]
outcome_of (Some (id, needed)) limit src held answer header rest dst stands d =
    let s = stands.1 in
    outcome_finished limit src held answer header rest dst stands.0 s.0 (omega (arith, s.2, s.3)) (omega (arith, s.2, s.4)) (rw (s.1, s.2) d)

-- the taken chunk joins the full ones
pub chunk_joins : (first limit : ℕ) (src held : List ℕ) (info : ChunkInfo) (header : Option (ℕ × ℕ)) (rest dst : List ℕ)
    → IsSpelled src → IsWholeChunks held → slice_index src 3 ≡ id_at first held → Taken limit src held info header rest dst
    → front first held ++ src ≡ chunks (suc (length held / max_payload)) first dst ++ rest
chunk_joins first limit src held info header rest dst b whole id t =
    let k : ℕ = length held / max_payload in
    let c : List ℕ = take (chunk_len src) (drop 4 src) in
    let small : length c ≤ max_payload = let e = length-take (chunk_len src) (drop 4 src) in let h = chunk_len_small src b (omega (arith, t.whole)) in omega arith in
    let in_front : src ≡ chunk (slice_index src 3) c ++ rest = chunk_in_front src b t.whole ∙ ap (λ (z : List ℕ). chunk (slice_index src 3) c ++ z) (sym t.rest_is) in
    let same : chunk (slice_index src 3) c ≡ chunk (first + k) c = ap (λ (n : ℕ). chunk n c) id ∙ chunk-mod (first + k) c in
    ap (λ (z : List ℕ). front first held ++ z) (in_front ∙ ap (λ (z : List ℕ). z ++ rest) same)
    ∙ sym (append_assoc (front first held) (chunk (first + k) c) rest)
    ∙ ap (λ (z : List ℕ). z ++ rest) (sym (chunks-push k first held c (blocks_whole (length held) whole) small) ∙ ap (λ (z : List ℕ). chunks (suc k) first z) (sym t.dst_is))

-- no header is remembered
pub none_some : IsSome {T = ℕ × ℕ} None → ⊥
none_some s = cc
