-- Streams joined, and where a reading of one stops.
use Rattle.std.proofs.Common.{◌≡◌, ℕ, ◌+◌, ◌-◌, ◌*◌, ◌/◌, ◌%◌, ◌<◌, ◌≤◌, ◌⊎◌, List, [], ◌∷◌, ◌++◌, length, suc, refl, sym, ap, ◌∙◌, arith, append_assoc, length-append, length-drop, length-take, take_all, inl, inr, All, max, min, slice_index, mul-le-mul_right, le_of_lt}
use Rattle.std.proofs.lemmas.List.Elements.{All-nil, All-cons, All-head, All-tail}
use Rattle.std.proofs.lemmas.Bool.{cases_lt}
use Rattle.wire_codec.specs.Framing.{max_payload, max_payload_is, chunk, chunks, framing, next_id, stream, id_after}
use Rattle.wire_codec.specs.Delivery.{chunk_len, id_at, Continues, AreWithin, Ending, Waiting, TooLarge, OutOfSync, Ends}
use Rattle.wire_codec.specs.Laws.{StreamAppend, IdAfterAppend}
use Rattle.wire_codec.proofs.ChunkLemmas.{blocks_below, whole_blocks, le_number-le_bytes, block, length-block, next_chunk, chunks_cancel, framing_ends}

-- streams joined
pub stream-append : StreamAppend
stream-append s [] qs = refl
stream-append s (p ∷ ps) qs = ap (λ (z : List ℕ). framing s p ++ z) (stream-append (next_id s p) ps qs) ∙ sym (append_assoc (framing s p) (stream (next_id s p) ps) (stream (id_after (next_id s p) ps) qs))

pub id_after-append : IdAfterAppend
id_after-append s [] qs = refl
id_after-append s (p ∷ ps) qs = id_after-append (next_id s p) ps qs

-- the two, as tactics take them
pub ruleset stream_laws = (stream-append, id_after-append)

pub continues_nothing : (L : ℕ) (p : List ℕ) → length p ≤ L → Continues [] L p
continues_nothing L p h = record { begins = refl; small = omega arith }

-- past the first payload each is within the limit
pub within_rest : (L : ℕ) (ps : List (List ℕ)) (q : List ℕ) → All (λ (o : List ℕ). length o ≤ L) ps → length q ≤ L → AreWithin [] L ps q
within_rest L [] q a h = continues_nothing L q h
within_rest L (p ∷ ps) q a h =
    (continues_nothing L p (All-head (λ (o : List ℕ). length o ≤ L) p ps a), All-tail (λ (o : List ℕ). length o ≤ L) p ps a, h)

-- the same the other way
pub rest_within : (L : ℕ) (d : List ℕ) (ps : List (List ℕ)) (q : List ℕ) → length d ≤ L → AreWithin d L ps q → All (λ (o : List ℕ). length o ≤ L) ps × (length q ≤ L)
rest_within L d [] q h w = let small : length q ≤ max L (length d) = w.small in (All-nil (λ (o : List ℕ). length o ≤ L), omega arith)
rest_within L d (p ∷ ps) q h w =
    let small : length p ≤ max L (length d) = w.0.small in
    let ok : length p ≤ L = omega arith in
    (All-cons (λ (o : List ℕ). length o ≤ L) p ps ok w.1, w.2)

-- a chunk that is to be accepted is no end
pub no_end : (e : Ending) (s L l : ℕ) (q W : List ℕ) → chunk_len W ≡ l → 4 + l ≤ length W → (l ≡ 0) ⊎ (length q + l ≤ L) → slice_index W 3 ≡ id_at s q
    → Ends e s L q W → ⊥
no_end Waiting s L l q W len long fits id h = grind (arith, long, len, fits, h)
no_end TooLarge s L l q W len long fits id h = grind (arith, len, fits, h)
no_end OutOfSync s L l q W len long fits id h = h.2 id

-- the three ends exclude each other
pub one_ending : (e f : Ending) (s L : ℕ) (q W : List ℕ) → Ends e s L q W → Ends f s L q W → e ≡ f
one_ending Waiting Waiting s L q W h g = refl
one_ending TooLarge TooLarge s L q W h g = refl
one_ending OutOfSync OutOfSync s L q W h g = refl
one_ending Waiting TooLarge s L q W h g = grind (arith, h, g)
one_ending Waiting OutOfSync s L q W h g = grind (arith, h, g.0)
one_ending TooLarge Waiting s L q W h g = grind (arith, h, g)
one_ending OutOfSync Waiting s L q W h g = grind (arith, h.0, g)
one_ending TooLarge OutOfSync s L q W h g = grind (arith, h, g.1)
one_ending OutOfSync TooLarge s L q W h g = grind (arith, h.1, g)

-- what a header says
pub chunk_len-chunk : (i : ℕ) (c r : List ℕ) → length c ≤ max_payload → chunk_len (chunk i c ++ r) ≡ length c
unfolding chunk
chunk_len-chunk i c r h = le_number-le_bytes (length c) (omega (arith, max_payload_is))

pub id-chunk : (i : ℕ) (c r : List ℕ) → slice_index (chunk i c ++ r) 3 ≡ i % 256
unfolding chunk
id-chunk i c r = refl

pub length-chunk : (i : ℕ) (c r : List ℕ) → length (chunk i c ++ r) ≡ 4 + length c + length r
unfolding chunk
length-chunk i c r = simp length-append (omega arith)

-- the chunk of this number of the payload is within the limit, where it is not empty and stands
-- after the bytes that come before it
abbrev pub FitsAt : ℕ → ℕ → List ℕ → List ℕ → List ℕ → Type 0
FitsAt limit index before rest payload =
    index * max_payload < length payload → length before + chunk_len rest ≡ min (length payload) (index * max_payload + max_payload) → length before + chunk_len rest ≤ limit

-- what the header after full chunks of a longer payload says
pub next_len : (s a more : ℕ) (q p W y : List ℕ) → length q ≡ a * max_payload → a * max_payload ≤ length p
    → chunks a s q ++ W ≡ chunks (suc a + more) s p ++ y → chunk_len W ≡ min max_payload (length p - a * max_payload)
next_len s a more q p W y len_q long same =
    let len : length (block a p) ≡ min max_payload (length p - a * max_payload) = rw (length-take, length-drop) refl in
    ap (λ (z : List ℕ). chunk_len z) (next_chunk s a more q p W y (omega arith) long same).1 ∙ chunk_len-chunk (s + a) (block a p) _ (length-block a p) ∙ len

-- where a longer payload goes on, no end stands
pub front_goes_on : (e : Ending) (s L a more : ℕ) (q p W y : List ℕ) → length q ≡ a * max_payload → a * max_payload ≤ length p → FitsAt L a q W p
    → chunks a s q ++ W ≡ chunks (suc a + more) s p ++ y → Ends e s L q W → ⊥
front_goes_on e s L a more q p W y len_q long allowed same ends =
    let is = (next_chunk s a more q p W y (omega arith) long same).1 in
    let at : length q / max_payload ≡ a = (whole_blocks a (length q) len_q).1 in
    let len : length (block a p) ≡ min max_payload (length p - a * max_payload) = rw (length-take, length-drop) refl in
    let says : chunk_len W ≡ length (block a p) = next_len s a more q p W y len_q long same ∙ sym len in
    no_end e s L (length (block a p)) q W says
    (rw is (rw length-chunk (omega arith)))
    (elim (cases_lt 0 (length (block a p))) [ inl some ↦ inr (let h = allowed (omega arith) (omega arith) in omega arith) | inr none ↦ inl (omega arith) ])
    (ap (λ (z : List ℕ). slice_index z 3) is ∙ id-chunk (s + a) (block a p) _ ∙ ap (λ (n : ℕ). (s + n) % 256) (sym at))
    ends

goes_past : (e : Ending) (s L a b : ℕ) (q r W V : List ℕ) → length q ≡ a * max_payload → length r ≡ b * max_payload → FitsAt L a q W r
    → chunks a s q ++ W ≡ chunks b s r ++ V → Ends e s L q W → a < b → ⊥
goes_past e s L a b q r W V len_q len_r fits same ends short =
    let count : b ≡ suc a + (b - suc a) = omega arith in
    let room : a * max_payload ≤ b * max_payload = mul-le-mul_right max_payload (le_of_lt short) in
    front_goes_on e s L a (b - suc a) q r W V len_q (omega arith) fits (same ∙ ap (λ (k : ℕ). chunks k s r ++ V) count) ends

-- unfinished payloads: two readings that stop before the first whole payload are one
pub stops_once : (e f : Ending) (s L M a b : ℕ) (q r W V : List ℕ) → length q ≡ a * max_payload → length r ≡ b * max_payload
    → FitsAt L a q W r → FitsAt M b r V q
    → chunks a s q ++ W ≡ chunks b s r ++ V → Ends e s L q W → Ends f s M r V → (q ≡ r) × (W ≡ V)
stops_once e f s L M a b q r W V len_q len_r fits_r fits_q same eq er =
    elim (cases_lt a b) [
      | inl short ↦ absurd (goes_past e s L a b q r W V len_q len_r fits_r same eq short)
      | inr long ↦ elim (cases_lt b a) [
        | inl short ↦ absurd (goes_past f s M b a r q V W len_r len_q fits_q (sym same) er short)
        | inr other ↦
            let ab : a ≡ b = omega arith in
            let same' : chunks a s q ++ W ≡ chunks a s r ++ V = same ∙ ap (λ (k : ℕ). chunks k s r ++ V) (sym ab) in
            let len_r' : length r ≡ a * max_payload = len_r ∙ ap (λ (k : ℕ). k * max_payload) (sym ab) in
            let parts = chunks_cancel a s q r W V (omega arith) (omega arith) same' in
            let all : q ≡ r = sym (take_all (a * max_payload) q (omega arith)) ∙ parts.0 ∙ take_all (a * max_payload) r (omega arith) in
            (all, parts.1)
      ]
    ]

-- a whole payload is no place to stop
pub not_whole : (e : Ending) (s L a : ℕ) (q p W y : List ℕ) → length q ≡ a * max_payload → FitsAt L a q W p
    → chunks a s q ++ W ≡ framing s p ++ y → Ends e s L q W → ⊥
not_whole e s L a q p W y len_q fits same ends =
    elim (cases_lt (length p / max_payload) a) [
      | inl short ↦ framing_ends s a p q y W short (omega arith) (sym same)
      | inr long ↦
          let b : ℕ = length p / max_payload in
          let more : ℕ = b - a in
          let count : suc b ≡ suc a + more = omega arith in
          let room : a * max_payload ≤ b * max_payload = mul-le-mul_right max_payload long in
          let below : b * max_payload ≤ length p = blocks_below (length p) in
          front_goes_on e s L a more q p W y len_q (omega arith) fits
          (same ∙ ap (λ (k : ℕ). chunks k s p ++ y) count) ends
    ]
