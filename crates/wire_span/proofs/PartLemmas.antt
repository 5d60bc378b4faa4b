-- A decoder's state in plain numbers: which numbers are those of a decoder.
use Rattle.std.proofs.Common.{◌≡◌, ◌≢◌, ℕ, ◌+◌, ◌-◌, ◌/◌, ◌%◌, ◌<◌, ◌≤◌, ◌==◌, nat_eq, zero, suc, List, [], ◌++◌, length, take, replicate, refl, sym, ap, ap₂, ◌∙◌, arith, inl, inr, ◌⊎◌, Bool, true, false, eqb-true, length-append}
use Rattle.std.proofs.lemmas.Bool.{cases_lt, eq-eqb}
use Rattle.std.proofs.lemmas.List.{length-replicate}
use Rattle.std.proofs.lemmas.List.Elements.{All-nil}
use Rattle.wire_codec.specs.Framing.{max_payload, max_payload_is, header, front, id_after}
use Rattle.wire_codec.specs.Delivery.{id_at}
use Rattle.wire_span.specs.Spans.{SpanPlace, AtHeader, Within, SpanState, InOpenChunk, SpansOn, packets_of, opened_after}
use Rattle.wire_span.specs.Parts.{place_at, IsPlace, CanStand}
use Rattle.wire_span.proofs.RenumberLemmas.{take_front}

bool_same : (x y : Bool) → (x ≡ true → y ≡ true) → (y ≡ true → x ≡ true) → x ≡ y
bool_same true true f g = refl
bool_same true false f g = sym (f refl)
bool_same false true f g = g refl
bool_same false false f g = refl

-- a packet's place by its numbers
pub no_chunk : (size left : ℕ) (came : List ℕ) → left ≡ 0 → size % 16777215 ≡ 0 → IsPlace size left × ((left ≡ 0) ⊎ (came ≡ []))
unfolding max_payload
no_chunk size zero came e f = (f, inl refl)
no_chunk size (suc less) came e f = absurd (omega arith)

pub some_chunk_left : (size left : ℕ) → left ≡ 0 → (size % 16777215 ≢ 0) → IsPlace size left → ⊥
unfolding max_payload
some_chunk_left size zero e f h = f h
some_chunk_left size (suc less) e f h = absurd (omega arith)

pub within_is : (size left n : ℕ) (came : List ℕ) → n ≡ left → 0 < n → Within n (nat_eq (size % 16777215) 0) ≡ place_at size left came
unfolding max_payload
within_is size zero n came e f = absurd (omega arith)
within_is size (suc less) n came e f = ap (λ (k : ℕ). Within k (nat_eq (size % 16777215) 0)) e

pub full_chunk : max_payload ≡ 16777215
full_chunk = max_payload_is

-- where a stream came to
open_size : (held part len left n opened : ℕ) → opened ≡ held + part → len ≡ part + left → n ≡ opened + left → n ≡ held + len
open_size held part len left n opened a b c = omega arith

mod_full : (held len n : ℕ) → n ≡ held + len → held % max_payload ≡ 0 → max_payload ≤ len → len ≤ max_payload → (n % max_payload ≡ 0)
unfolding max_payload
mod_full held len n a b c d = omega arith

mod_part : (held len n : ℕ) → n ≡ held + len → held % max_payload ≡ 0 → len < max_payload → (n % max_payload ≡ len)
unfolding max_payload
mod_part held len n a b c = omega arith

chunk_size : (s L i n left : ℕ) (full : Bool) (o b : List ℕ) → (h : InOpenChunk s L i n left full o b) → n ≡ length h.held + h.len
chunk_size s L i n left full o b h =
    open_size (length h.held) (length h.part) h.len left n (length o)
    (ap (λ (z : List ℕ). length z) h.opened_is ∙ length-append h.held h.part) h.len_is h.size_is

chunk_place : (s L i n left : ℕ) (full : Bool) (o b : List ℕ) → 0 < left → InOpenChunk s L i n left full o b → IsPlace n left
chunk_place s L i n zero full o b some h = absurd (omega arith)
chunk_place s L i n (suc less) full o b some h =
    let size = chunk_size s L i n (suc less) full o b h in
    let long = h.len_is in
    let small = h.small in
    elim (cases_lt h.len max_payload) [
      | inl part ↦ let last = mod_part (length h.held) h.len n size h.held_whole part in inr (omega (arith, last, long))
      | inr whole ↦ inl (mod_full (length h.held) h.len n size h.held_whole whole small, omega (arith, long, small), omega (arith, long, size))
    ]

chunk_full_is : (s L i n left : ℕ) (full : Bool) (o b : List ℕ) → 0 < left → InOpenChunk s L i n left full o b → full ≡ (n % max_payload == 0)
chunk_full_is s L i n left full o b some h =
    let size = chunk_size s L i n left full o b h in
    let long = h.len_is in
    let small = h.small in
    h.full_is ∙ elim (cases_lt h.len max_payload) [
      | inl part ↦
          let last = mod_part (length h.held) h.len n size h.held_whole part in
          bool_same (h.len == max_payload) (n % max_payload == 0)
          (λ e. let f = eqb-true h.len max_payload e in absurd (omega arith))
          (λ e. let f = eqb-true (n % max_payload) 0 e in absurd (omega (arith, last, long)))
      | inr whole ↦
          eq-eqb h.len max_payload (omega (arith, whole, small))
          ∙ sym (eq-eqb (n % max_payload) 0 (mod_full (length h.held) h.len n size h.held_whole whole small))
    ]

abbrev pub state_at : ℕ → ℕ → ℕ → SpanPlace → SpanState
state_at limit id size place = record { limit = limit; id = id; size = size; place = place }

pub stands_place : (limit id size left : ℕ) (came : List ℕ) → CanStand (state_at limit id size (place_at size left came)) → IsPlace size left
stands_place limit id size zero came (s, L, S, ps, o, le, (b, is, all, h)) = ap (λ (k : ℕ). k % max_payload) h.size_is ∙ h.opened_whole
stands_place limit id size (suc less) came (s, L, S, ps, o, le, (b, is, all, (some, h))) =
    chunk_place (id_after s ps) L id size (suc less) (size % max_payload == 0) o b some h

-- the place of a decoder is that of its numbers
pub header_back : (size left : ℕ) (came bytes : List ℕ) → left ≡ 0 → bytes ≡ came → place_at size left bytes ≡ AtHeader came
header_back size zero came bytes e f = ap (λ (z : List ℕ). AtHeader z) f
header_back size (suc less) came bytes e f = absurd (omega arith)

pub chunk_back : (limit id size left n : ℕ) (full : Bool) (bytes : List ℕ) → left ≡ n → CanStand (state_at limit id size (Within n full))
    → place_at size left bytes ≡ Within n full
chunk_back limit id size zero n full bytes e (s, L, S, ps, o, le, (b, is, all, (some, h))) = absurd (omega (arith, some))
chunk_back limit id size (suc less) n full bytes e (s, L, S, ps, o, le, (b, is, all, (some, h))) =
    ap₂ (λ (k : ℕ) (f : Bool). Within k f) e (sym (chunk_full_is (id_after s ps) L id size n full o b some h))

pub padded_front : (came bytes : List ℕ) (zeros len : ℕ) → bytes ≡ came ++ replicate zeros 0 → len ≡ length came → take len bytes ≡ came
padded_front came bytes zeros len e f =
    ap₂ (λ (k : ℕ) (z : List ℕ). take k z) f e ∙ take_front came (replicate zeros 0)

-- and so it stands after some stream: one of zeros
id_back : (id count : ℕ) → id < 256 → id ≡ ((id + (256 - count % 256)) % 256 + count) % 256
id_back id count small = omega arith

next_id_back : (id count : ℕ) → id < 256 → id ≡ (((id + 255 + (256 - count % 256)) % 256 + count) % 256 + 1) % 256
next_id_back id count small = omega arith

header_stands : (limit id size : ℕ) (came : List ℕ) → id < 256 → length came < 4 → size % max_payload ≡ 0
    → CanStand (state_at limit id size (AtHeader came))
header_stands limit id size came small short whole =
    let o : List ℕ = replicate size 0 in
    let long : length o ≡ size = length-replicate size 0 in
    let first : ℕ = (id + (256 - size / max_payload % 256)) % 256 in (
      first,
      size + limit,
      front first o ++ came,
      [],
      o,
      omega arith,
      (
        front first o ++ came,
        refl,
        All-nil (λ (p : List ℕ). length p ≤ size + limit),
        record {
          opened_whole = ap (λ (k : ℕ). k % max_payload) long ∙ whole;
          begun_is = refl;
          not_whole = short;
          id_is = id_back id (size / max_payload) small ∙ ap (λ (k : ℕ). (first + k / max_payload) % 256) (sym long);
          size_is = sym long;
          within = omega arith;
        },
      ),
    )

chunk_stands : (limit id size left len held : ℕ) (full : Bool) → id < 256 → 0 < left → left ≤ len → len ≤ max_payload
    → size ≡ held + len → held % max_payload ≡ 0 → full ≡ (len == max_payload)
    → CanStand (state_at limit id size (Within left full))
chunk_stands limit id size left len held full small some within room is whole is_full =
    let h : List ℕ = replicate held 0 in
    let p : List ℕ = replicate (len - left) 0 in
    let long : length h ≡ held = length-replicate held 0 in
    let part : length p ≡ len - left = length-replicate (len - left) 0 in
    let both : length (h ++ p) ≡ length h + length p = length-append h p in
    let first : ℕ = (id + 255 + (256 - held / max_payload % 256)) % 256 in
    let begun : List ℕ = front first h ++ (header len (id_at first h) ++ p) in (
      first,
      size + limit,
      begun,
      [],
      h ++ p,
      omega arith,
      (
        begun,
        refl,
        All-nil (λ (q : List ℕ). length q ≤ size + limit),
        (
          some,
          record {
            held = h;
            part = p;
            len = len;
            opened_is = refl;
            held_whole = ap (λ (k : ℕ). k % max_payload) long ∙ whole;
            begun_is = refl;
            len_is = omega (arith, part, within);
            small = room;
            full_is = is_full;
            id_is = next_id_back id (held / max_payload) small ∙ ap (λ (k : ℕ). ((first + k / max_payload) % 256 + 1) % 256) (sym long);
            size_is = omega (arith, both, long, part, within, is);
            within = omega arith;
          },
        ),
      ),
    )

full_mod : (size left : ℕ) → size % max_payload ≡ 0 → 0 < left → left ≤ size → (size - max_payload) % max_payload ≡ 0
unfolding max_payload
full_mod size left e some h = omega arith

full_long : (size left : ℕ) → size % max_payload ≡ 0 → 0 < left → left ≤ size → size ≡ (size - max_payload) + max_payload
unfolding max_payload
full_long size left e some h = omega arith

part_mod : (size : ℕ) → (size - size % max_payload) % max_payload ≡ 0
unfolding max_payload
part_mod size = omega arith

part_long : (size : ℕ) → size ≡ (size - size % max_payload) + size % max_payload
unfolding max_payload
part_long size = omega arith

part_small : (size : ℕ) → size % max_payload < max_payload
unfolding max_payload
part_small size = omega arith

pub place_stands : (limit id size left : ℕ) (came : List ℕ) → id < 256 → length came < 4 → IsPlace size left
    → CanStand (state_at limit id size (place_at size left came))
place_stands limit id size zero came small short h = header_stands limit id size came small short h
place_stands limit id size (suc less) came small short (inl (whole, room, within)) =
    chunk_stands limit id size (suc less) max_payload (size - max_payload) (size % max_payload == 0) small (omega arith) room (omega arith)
    (full_long size (suc less) whole (omega arith) within) (full_mod size (suc less) whole (omega arith) within)
    (eq-eqb (size % max_payload) 0 whole ∙ sym (eq-eqb max_payload max_payload refl))
place_stands limit id size (suc less) came small short (inr room) =
    let last : ℕ = size % max_payload in
    let below : last < max_payload = part_small size in
    chunk_stands limit id size (suc less) last (size - last) (last == 0) small (omega arith) room (omega (arith, below))
    (part_long size) (part_mod size)
    (bool_same (last == 0) (last == max_payload)
    (λ e. let f = eqb-true last 0 e in absurd (omega (arith, f, room)))
    (λ e. let f = eqb-true last max_payload e in absurd (omega (arith, f, below))))

pub spans_stand_is : (before after : SpanState) (eaten : List ℕ) (spans : List (List ℕ × Bool)) → after.limit ≤ before.limit
    → CanStand before → SpansOn before eaten spans after → CanStand after
spans_stand_is before after eaten spans less (s, L, S, ps, o, le, came) on =
    (s, L, S ++ eaten, ps ++ packets_of o spans, opened_after o spans, omega (arith, less, le), on s L S ps o le came)
