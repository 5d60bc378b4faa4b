-- Chunks of a payload: how they are cut, joined and told apart.
use Rattle.std.proofs.Common.{◌≡◌, ℕ, ◌+◌, ◌-◌, ◌*◌, ◌/◌, ◌%◌, ◌<◌, ◌≤◌, List, [], ◌++◌, length, take, drop, zero, suc, refl, sym, ap, ap₂, ◌∙◌, subst, arith, append_assoc, append-nil, length-append, length-drop, length-take, drop-drop, take_all, take_at, drop_at, drop_of_length-le, add-suc, add-one, add-zero, zero-mul, mul-le-mul_right, inl, inr, take-append-drop, min}
use Rattle.std.proofs.lemmas.Bool.{cases_lt}
use Rattle.std.proofs.Math.Seq.{take-add}
use Rattle.std.proofs.lemmas.List.{take-append-le, drop-append-le, length-take-le, take_min, drop_min}
use Rattle.std.proofs.Math.Nat.{min_comm}
use Rattle.wire_buf.specs.Numbers.{le_number, le_bytes}
use Rattle.wire_codec.specs.Delivery.{IsWholeChunks}
use Rattle.wire_codec.specs.Framing.{max_payload, max_payload_is, header, chunk, chunks, framing}
use Rattle.wire_codec.specs.Laws.{UniqueFraming, FramedLength}

-- whole chunks in n bytes, and what is over
pub blocks_below : (n : ℕ) → n / max_payload * max_payload ≤ n
unfolding max_payload
blocks_below n = omega arith

pub blocks_above : (n : ℕ) → n < n / max_payload * max_payload + max_payload
unfolding max_payload
blocks_above n = omega arith

pub blocks_whole : (n : ℕ) → n % max_payload ≡ 0 → n ≡ n / max_payload * max_payload
unfolding max_payload
blocks_whole n h = omega arith

pub whole_blocks : (k n : ℕ) → n ≡ k * max_payload → (n % max_payload ≡ 0) × (n / max_payload ≡ k)
unfolding max_payload
whole_blocks k n h = (omega arith, omega arith)

pub nothing_whole : IsWholeChunks []
unfolding max_payload
nothing_whole = refl

pub same_block : (i k : ℕ) → k * max_payload ≤ i * max_payload → i * max_payload < k * max_payload + max_payload → i ≡ k
unfolding max_payload
same_block i k low high = omega arith

pub place_same : (i k : ℕ) → i * max_payload + 4 * i ≡ k * max_payload + 4 * k → i ≡ k
unfolding max_payload
place_same i k e = omega arith

pub block_below : (a i n : ℕ) → a * max_payload < n → n ≤ i * max_payload + max_payload → a ≤ i
unfolding max_payload
block_below a i n low high = omega arith

pub more_blocks : (k b : ℕ) → k * max_payload < b * max_payload → suc k ≤ b
unfolding max_payload
more_blocks k b h = omega arith

-- the last chunk that isn't empty
pub last_block : (n : ℕ) → 0 < n → (i : ℕ) × (i * max_payload < n) × (n ≤ i * max_payload + max_payload)
unfolding max_payload
last_block n some = ((n - 1) / max_payload, omega arith, omega arith)

-- what ends with full chunks, and a chunk in it, or after it
pub whole_end : (i n : ℕ) → n % max_payload ≡ 0 → i * max_payload < n → i * max_payload + max_payload ≤ n
unfolding max_payload
whole_end i n whole inside = omega arith

pub whole_below : (i n m : ℕ) → n % max_payload ≡ 0 → n < m → m ≤ i * max_payload + max_payload → n ≤ i * max_payload
unfolding max_payload
whole_below i n m whole longer high = omega arith

-- three bytes spell each number below 2 ^ 24
pub le_number-le_bytes : (n : ℕ) → n < 16777216 → le_number (le_bytes 3 n) ≡ n
le_number-le_bytes n h = omega arith

-- a chunk is told apart from what follows it
pub chunk_cancel : (i j : ℕ) (c d x y : List ℕ) → length c ≤ max_payload → length d ≤ max_payload
    → chunk i c ++ x ≡ chunk j d ++ y → (i % 256 ≡ j % 256) × (c ≡ d) × (x ≡ y)
unfolding chunk
chunk_cancel i j c d x y hc hd e =
    let same : le_bytes 3 (length c) ≡ le_bytes 3 (length d) = cc in
    let long : length c ≡ length d = sym (le_number-le_bytes (length c) (omega (arith, max_payload_is))) ∙ ap le_number same ∙ le_number-le_bytes (length d) (omega (arith, max_payload_is)) in
    let ids : i % 256 ≡ j % 256 = cc in
    let tails : c ++ x ≡ d ++ y = cc in
    let fronts : c ≡ d = sym (take_at c x (length c) refl) ∙ ap (λ z. take (length c) z) tails ∙ take_at d y (length c) (sym long) in
    let rests : x ≡ y = sym (drop_at c x (length c) refl) ∙ ap (λ z. drop (length c) z) tails ∙ drop_at d y (length c) (sym long) in
    (ids, fronts, rests)

-- the first chunks, and then the others
pub chunks-add : (a b s : ℕ) (p : List ℕ) → chunks (a + b) s p ≡ chunks a s p ++ chunks b (s + a) (drop (a * max_payload) p)
chunks-add a zero s p = rw add-zero (sym (append-nil (chunks a s p)))
chunks-add a (suc b) s p =
    let at : drop ((a + b) * max_payload) p ≡ drop (b * max_payload) (drop (a * max_payload) p) = rw drop-drop (ap (λ (n : ℕ). drop n p) (omega arith)) in
    let ids : s + (a + b) ≡ s + a + b = omega arith in
    rw (add-suc, chunks-add a b s p, at, ids) (append_assoc (chunks a s p) (chunks b (s + a) (drop (a * max_payload) p)) (chunk (s + a + b) (take max_payload (drop (b * max_payload) (drop (a * max_payload) p)))))

-- what comes after the bytes of the first chunks doesn't matter to them
pub chunks-append_le : (n s : ℕ) (p r : List ℕ) → n * max_payload ≤ length p → chunks n s (p ++ r) ≡ chunks n s p
chunks-append_le zero s p r h = refl
chunks-append_le (suc n) s p r h =
    let before : n * max_payload ≤ length p = omega arith in
    let room : max_payload ≤ length (drop (n * max_payload) p) = rw length-drop (omega arith) in
    let e : take max_payload (drop (n * max_payload) (p ++ r)) ≡ take max_payload (drop (n * max_payload) p) =
    ap (λ z. take max_payload z) (drop-append-le (n * max_payload) p r before) ∙ take-append-le max_payload (drop (n * max_payload) p) r room in
    rw (chunks-append_le n s p r before, e) refl

-- one more chunk after full ones
pub chunks-push : (k s : ℕ) (q c : List ℕ) → length q ≡ k * max_payload → length c ≤ max_payload
    → chunks (suc k) s (q ++ c) ≡ chunks k s q ++ chunk (s + k) c
chunks-push k s q c hq hc =
    let below : k * max_payload ≤ length q = omega arith in
    let e : take max_payload (drop (k * max_payload) (q ++ c)) ≡ c = ap (λ z. take max_payload z) (drop_at q c (k * max_payload) hq) ∙ take_all max_payload c hc in
    rw (chunks-append_le k s q c below, e) refl

-- ids count modulo 256
pub chunks-mod : (n s : ℕ) (p : List ℕ) → chunks n (s % 256) p ≡ chunks n s p
unfolding chunk
chunks-mod zero s p = refl
chunks-mod (suc n) s p =
    let ids : (s % 256 + n) % 256 ≡ (s + n) % 256 = omega arith in
    rw (chunks-mod n s p, ids) refl

-- full chunks are told apart from what follows them
pub chunks_cancel : (a s : ℕ) (q p x y : List ℕ) → a * max_payload ≤ length q → a * max_payload ≤ length p
    → chunks a s q ++ x ≡ chunks a s p ++ y → (take (a * max_payload) q ≡ take (a * max_payload) p) × (x ≡ y)
chunks_cancel zero s q p x y hq hp e = (rw zero-mul refl, e)
chunks_cancel (suc a) s q p x y hq hp e =
    let c : List ℕ = take max_payload (drop (a * max_payload) q) in
    let d : List ℕ = take max_payload (drop (a * max_payload) p) in
    let small_c : length c ≤ max_payload = rw length-take (omega arith) in
    let small_d : length d ≤ max_payload = rw length-take (omega arith) in
    let e' : chunks a s q ++ (chunk (s + a) c ++ x) ≡ chunks a s p ++ (chunk (s + a) d ++ y) =
    sym (append_assoc (chunks a s q) (chunk (s + a) c) x) ∙ e ∙ append_assoc (chunks a s p) (chunk (s + a) d) y in
    let before = chunks_cancel a s q p (chunk (s + a) c ++ x) (chunk (s + a) d ++ y) (omega arith) (omega arith) e' in
    let last = chunk_cancel (s + a) (s + a) c d x y small_c small_d before.1 in
    let count : suc a * max_payload ≡ a * max_payload + max_payload = omega arith in
    (rw (count, take-add (a * max_payload) max_payload q, take-add (a * max_payload) max_payload p) (ap₂ (λ (u v : List ℕ). u ++ v) before.0 last.1), last.2)

-- a block past full ones
abbrev pub block : ℕ → List ℕ → List ℕ
block n p = take max_payload (drop (n * max_payload) p)

pub length-block : (n : ℕ) (p : List ℕ) → length (block n p) ≤ max_payload
length-block n p = rw length-take (omega arith)

-- after full chunks of a longer payload stands its next one
pub next_chunk : (s a more : ℕ) (q p W y : List ℕ) → a * max_payload ≤ length q → a * max_payload ≤ length p → chunks a s q ++ W ≡ chunks (suc a + more) s p ++ y
    → (take (a * max_payload) q ≡ take (a * max_payload) p) × (W ≡ chunk (s + a) (block a p) ++ (chunks more (s + suc a) (drop (suc a * max_payload) p) ++ y))
next_chunk s a more q p W y long_q long_p same =
    let others : List ℕ = chunks more (s + suc a) (drop (suc a * max_payload) p) in
    chunks_cancel a s q p W (chunk (s + a) (block a p) ++ (others ++ y)) long_q long_p
    (same ∙ ap (λ (z : List ℕ). z ++ y) (chunks-add (suc a) more s p) ∙ append_assoc (chunks a s p ++ chunk (s + a) (block a p)) others y
    ∙ append_assoc (chunks a s p) (chunk (s + a) (block a p)) (others ++ y))

-- a whole payload's framing is no front of a longer one's full chunks
pub framing_ends : (s n : ℕ) (p q x y : List ℕ) → length p / max_payload < n → n * max_payload ≤ length q
    → framing s p ++ x ≡ chunks n s q ++ y → ⊥
framing_ends s n p q x y short long e =
    let b : ℕ = length p / max_payload in
    let count : n ≡ suc b + (n - suc b) = omega arith in
    let longer : suc b * max_payload ≤ n * max_payload = mul-le-mul_right max_payload short in
    let low = blocks_below (length p) in
    let high = blocks_above (length p) in
    let last = (next_chunk s b (n - suc b) p q (chunk (s + b) (block b p) ++ x) y low (omega arith)
    (sym (append_assoc (chunks b s p) (chunk (s + b) (block b p)) x) ∙ e ∙ ap (λ (k : ℕ). chunks k s q ++ y) count)).1 in
    let same : block b p ≡ block b q = (chunk_cancel (s + b) (s + b) (block b p) (block b q) x _ (length-block b p) (length-block b q) last).1 in
    let len_p : length (block b p) < max_payload = rw (length-take, length-drop) (omega arith) in
    let len_q : length (block b q) ≡ max_payload = rw (length-take, length-drop) (omega arith) in
    absurd (omega (arith, ap (λ (z : List ℕ). length z) same))

-- one payload alone has this framing
last_block_is : (b : ℕ) (p : List ℕ) → length p < b * max_payload + max_payload → take (b * max_payload) p ++ block b p ≡ p
last_block_is b p high =
    ap (λ (z : List ℕ). take (b * max_payload) p ++ z) (take_all max_payload (drop (b * max_payload) p) (rw length-drop (omega arith))) ∙ take-append-drop (b * max_payload) p

framing_cancel_same : (s : ℕ) (p q x y : List ℕ) → length p / max_payload ≡ length q / max_payload
    → framing s p ++ x ≡ framing s q ++ y → (p ≡ q) × (x ≡ y)
framing_cancel_same s p q x y same e =
    let b : ℕ = length p / max_payload in
    let count : suc (length q / max_payload) ≡ suc b + 0 = omega arith in
    let low : b * max_payload ≤ length q = rw same (blocks_below (length q)) in
    let high : length q < b * max_payload + max_payload = rw same (blocks_above (length q)) in
    let parts = next_chunk s b 0 p q (chunk (s + b) (block b p) ++ x) y (blocks_below (length p)) low
    (sym (append_assoc (chunks b s p) (chunk (s + b) (block b p)) x) ∙ e ∙ ap (λ (k : ℕ). chunks k s q ++ y) count) in
    let last = chunk_cancel (s + b) (s + b) (block b p) (block b q) x y (length-block b p) (length-block b q) parts.1 in
    (sym (last_block_is b p (blocks_above (length p))) ∙ ap₂ (λ (u v : List ℕ). u ++ v) parts.0 last.1 ∙ last_block_is b q high, last.2)

-- a framing is told apart from what follows it
framing_apart : (s : ℕ) (p q x y : List ℕ) → length p / max_payload < length q / max_payload → framing s p ++ x ≡ framing s q ++ y → ⊥
framing_apart s p q x y short e =
    let b : ℕ = length q / max_payload in
    framing_ends s b p q x (chunk (s + b) (block b q) ++ y) short (blocks_below (length q)) (e ∙ append_assoc (chunks b s q) (chunk (s + b) (block b q)) y)

pub framing_cancel : UniqueFraming
framing_cancel s p q x y e =
    elim (cases_lt (length p / max_payload) (length q / max_payload)) [
      | inl short ↦ absurd (framing_apart s p q x y short e)
      | inr long ↦ elim (cases_lt (length q / max_payload) (length p / max_payload)) [
        | inl short ↦ absurd (framing_apart s q p y x short (sym e))
        | inr other ↦ framing_cancel_same s p q x y (omega arith) e
      ]
    ]

-- the last byte of a header counts modulo 256
pub chunk-mod : (n : ℕ) (c : List ℕ) → chunk (n % 256) c ≡ chunk n c
unfolding chunk
chunk-mod n c = let e : n % 256 % 256 ≡ n % 256 = omega arith in rw e refl

-- one more chunk written from what is left of a payload
pub chunks_more : (written old left_bytes payload : List ℕ) (count first id len : ℕ)
    → left_bytes ≡ drop (count * max_payload) payload → id ≡ (first + count) % 256 → len ≡ min (length left_bytes) max_payload
    → written ≡ old ++ chunks count first payload
    → written ++ chunk id (take len left_bytes) ≡ old ++ chunks (count + 1) first payload
chunks_more written old left_bytes payload count first id len is_left is_id is_len before =
    let part : take len left_bytes ≡ take max_payload (drop (count * max_payload) payload) =
    ap (λ (n : ℕ). take n left_bytes) (is_len ∙ min_comm (length left_bytes) max_payload) ∙ take_min max_payload left_bytes ∙ ap (λ (z : List ℕ). take max_payload z) is_left in
    let piece : chunk id (take len left_bytes) ≡ chunk (first + count) (take max_payload (drop (count * max_payload) payload)) =
    ap₂ (λ (n : ℕ) (z : List ℕ). chunk n z) is_id part ∙ chunk-mod (first + count) (take max_payload (drop (count * max_payload) payload)) in
    ap₂ (λ (u v : List ℕ). u ++ v) before piece
    ∙ append_assoc old (chunks count first payload) (chunk (first + count) (take max_payload (drop (count * max_payload) payload)))
    ∙ ap (λ (n : ℕ). old ++ chunks n first payload) (sym (add-one count))

-- what is left after it
pub left_more : (left_bytes payload : List ℕ) (count len : ℕ)
    → left_bytes ≡ drop (count * max_payload) payload → len ≡ min (length left_bytes) max_payload
    → drop len left_bytes ≡ drop ((count + 1) * max_payload) payload
left_more left_bytes payload count len is_left is_len =
    ap (λ (n : ℕ). drop n left_bytes) (is_len ∙ min_comm (length left_bytes) max_payload) ∙ drop_min max_payload left_bytes
    ∙ ap (λ (z : List ℕ). drop max_payload z) is_left ∙ drop-drop max_payload (count * max_payload) payload
    ∙ ap (λ (n : ℕ). drop n payload) (omega arith)

-- nothing is left after the last chunk
pub left_nothing : (left_bytes payload : List ℕ) (count : ℕ)
    → left_bytes ≡ drop (count * max_payload) payload → count ≡ length payload / max_payload + 1 → left_bytes ≡ []
left_nothing left_bytes payload count is_left all =
    is_left ∙ drop_of_length-le payload {i = count * max_payload}
    (let above : length payload < length payload / max_payload * max_payload + max_payload = blocks_above (length payload) in
    let e : count * max_payload ≡ length payload / max_payload * max_payload + max_payload = ap (λ (n : ℕ). n * max_payload) all ∙ omega arith in omega arith)

-- a payload shorter than a full chunk is one chunk
pub no_blocks : (n : ℕ) → n < max_payload → n / max_payload ≡ 0
unfolding max_payload
no_blocks n short = omega arith

pub framing_short : (s : ℕ) (p : List ℕ) → length p < max_payload → framing s p ≡ chunk s p
framing_short s p short =
    let first : 0 * max_payload ≡ 0 = zero-mul max_payload in
    ap (λ (n : ℕ). chunks (suc n) s p) (no_blocks (length p) short)
    ∙ ap₂ (λ (n : ℕ) (z : List ℕ). chunk n (take max_payload z)) (omega arith) (ap (λ (n : ℕ). drop n p) first)
    ∙ ap (λ (z : List ℕ). chunk s z) (take_all max_payload p (omega arith))

-- a payload that lies in one piece, put after its header
pub piece_framed : (old hdr piece new payload : List ℕ) (id len : ℕ) → len ≡ length payload → len < max_payload
    → length piece ≡ len → take (length piece) payload ≡ piece → hdr ≡ header len id → new ≡ (old ++ hdr) ++ piece
    → new ≡ old ++ framing id payload
unfolding chunk
piece_framed old hdr piece new payload id len is_len short whole front is put =
    let same : piece ≡ payload = sym front ∙ take_all (length piece) payload (omega (arith, whole, is_len)) in
    let alone : framing id payload ≡ chunk id payload = framing_short id payload (omega (arith, is_len, short)) in
    put ∙ append_assoc old hdr piece
    ∙ ap₂ (λ (u v : List ℕ). old ++ (u ++ v)) (is ∙ ap (λ (n : ℕ). header n id) is_len) same
    ∙ ap (λ (z : List ℕ). old ++ z) (sym alone)

-- how long chunks are
length-chunk_alone : (i : ℕ) (c : List ℕ) → length (chunk i c) ≡ 4 + length c
unfolding chunk
length-chunk_alone i c = omega arith

pub length-chunks : (n s : ℕ) (p : List ℕ) → n * max_payload ≤ length p → length (chunks n s p) ≡ n * max_payload + 4 * n
length-chunks zero s p h = omega (arith, zero-mul max_payload)
length-chunks (suc n) s p h =
    let room : max_payload ≤ length (drop (n * max_payload) p) = rw length-drop (omega arith) in
    let last : length (take max_payload (drop (n * max_payload) p)) ≡ max_payload = length-take-le max_payload (drop (n * max_payload) p) room in
    length-append (chunks n s p) (chunk (s + n) (take max_payload (drop (n * max_payload) p)))
    ∙ (let a = length-chunks n s p (omega arith) in let b = length-chunk_alone (s + n) (take max_payload (drop (n * max_payload) p)) in omega arith)

-- n bytes framed are n + 4 * (n / MAX + 1) bytes
pub length-framing : FramedLength
length-framing s p =
    let b : ℕ = length p / max_payload in
    let low : b * max_payload ≤ length p = blocks_below (length p) in
    let high : length p < b * max_payload + max_payload = blocks_above (length p) in
    let last : length (take max_payload (drop (b * max_payload) p)) ≡ length p - b * max_payload = rw (length-take, length-drop) (omega arith) in
    length-append (chunks b s p) (chunk (s + b) (take max_payload (drop (b * max_payload) p)))
    ∙ (let a = length-chunks b s p low in let e = length-chunk_alone (s + b) (take max_payload (drop (b * max_payload) p)) in omega arith)

pub ruleset framing_laws = (length-framing)

-- bytes written at a place, and others after them
pub put_twice : (old mid new a b : List ℕ) (at : ℕ) → at + length a ≤ length old → mid ≡ take at old ++ a ++ drop (at + length a) old
    → new ≡ take (at + length a) mid ++ b ++ drop (at + length a + length b) mid
    → new ≡ take at old ++ (a ++ b) ++ drop (at + length a + length b) old
put_twice old mid new a b at fits mid_is new_is =
    let m : ℕ = at + length a in
    let front : List ℕ = take at old ++ a in
    let front_len : length front ≡ m = length-append (take at old) a ∙ ap (λ (n : ℕ). n + length a) (length-take-le at old (omega arith)) in
    let head : take m mid ≡ front = ap (λ (z : List ℕ). take m z) mid_is ∙ take_at front (drop m old) m front_len in
    let tail : drop (m + length b) mid ≡ drop (m + length b) old =
    sym (drop-drop (length b) m mid) ∙ ap (λ (z : List ℕ). drop (length b) z) (ap (λ (z : List ℕ). drop m z) mid_is ∙ drop_at front (drop m old) m front_len) ∙ drop-drop (length b) m old in
    new_is ∙ ap₂ (λ (u v : List ℕ). u ++ b ++ v) head tail ∙ ap (λ (z : List ℕ). z ++ drop (m + length b) old) (append_assoc (take at old) a b)

-- a chunk written at a place
pub put_chunk_there : (old mid new hdr bytes : List ℕ) (at id : ℕ) → length hdr ≡ 4 → hdr ≡ header (length bytes) id → at + 4 + length bytes ≤ length old
    → mid ≡ take at old ++ hdr ++ drop (at + length hdr) old → new ≡ take (at + 4) mid ++ bytes ++ drop (at + 4 + length bytes) mid
    → new ≡ take at old ++ chunk id bytes ++ drop (at + 4 + length bytes) old
unfolding chunk
put_chunk_there old mid new hdr bytes at id four is fits mid_is new_is =
    let e : at + length hdr ≡ at + 4 = ap (λ (n : ℕ). at + n) four in
    let both = put_twice old mid new hdr bytes at (omega (arith, fits, e)) mid_is
    (subst (λ (n : ℕ). new ≡ take n mid ++ bytes ++ drop (n + length bytes) mid) (sym e) new_is) in
    both ∙ ap₂ (λ (u : List ℕ) (n : ℕ). take at old ++ (u ++ bytes) ++ drop (n + length bytes) old) is e

-- one chunk more of a payload, written after the others
pub chunk_behind : (old room new packet rest bytes : List ℕ) (at count first id len : ℕ) → room ≡ chunks count first packet ++ drop at old
    → length (chunks count first packet) ≡ at → new ≡ take at room ++ chunk id bytes ++ drop (at + 4 + length bytes) room → bytes ≡ take len rest
    → rest ≡ drop (count * max_payload) packet → id ≡ (first + count) % 256 → len ≡ min (length rest) max_payload
    → (new ≡ chunks (count + 1) first packet ++ drop (at + (4 + length bytes)) old)
    × (length (chunks (count + 1) first packet) ≡ at + (4 + length bytes))
chunk_behind old room new packet rest bytes at count first id len room_is size new_is is left id_is len_is =
    let C : List ℕ = chunks count first packet in
    let more : C ++ chunk id bytes ≡ chunks (count + 1) first packet =
    ap (λ (z : List ℕ). C ++ chunk id z) is ∙ chunks_more C [] rest packet count first id len left id_is len_is refl in
    let head : take at room ≡ C = ap (λ (z : List ℕ). take at z) room_is ∙ take_at C (drop at old) at size in
    let behind : drop at room ≡ drop at old = ap (λ (z : List ℕ). drop at z) room_is ∙ drop_at C (drop at old) at size in
    let place : at + 4 + length bytes ≡ at + (4 + length bytes) = omega arith in
    let tail : drop (at + 4 + length bytes) room ≡ drop (at + (4 + length bytes)) old =
    ap (λ (n : ℕ). drop n room) place ∙ sym (drop-drop (4 + length bytes) at room) ∙ ap (λ (z : List ℕ). drop (4 + length bytes) z) behind
    ∙ drop-drop (4 + length bytes) at old in (
      new_is ∙ ap₂ (λ (u v : List ℕ). u ++ chunk id bytes ++ v) head tail ∙ ap (λ (z : List ℕ). z ++ drop (at + (4 + length bytes)) old) more,
      ap (λ (z : List ℕ). length z) (sym more) ∙ length-append C (chunk id bytes) ∙ ap₂ (λ (m n : ℕ). m + n) size (length-chunk_alone id bytes),
    )
