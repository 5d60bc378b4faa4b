-- A stream whose chunks get other ids on the way.
use Rattle.std.proofs.Common.{◌≡◌, ℕ, ◌+◌, ◌%◌, ◌<◌, ◌≤◌, ◌==◌, List, [], ◌∷◌, ◌++◌, length, take, drop, ◌-◌, suc, zero, refl, sym, ap, ◌∙◌, subst, arith, length-append, append_assoc, append-nil, ◌⊎◌, slice_set, Bool, take-append-drop}
use borrow.Rule.Slice.PartMut.{put_mid}
use Rattle.wire_span.specs.declared.span.HeaderFront.{HeaderFront}
use Rattle.wire_span.specs.declared.span.HeaderFront.TheVariants.{Empty, One, Two, Three}
use Rattle.wire_buf.specs.Numbers.{le_bytes}
use Rattle.wire_codec.specs.Framing.{max_payload, header, stream, front, id_after, next_id}
use Rattle.wire_codec.specs.Delivery.{id_at}
use Rattle.wire_span.specs.Spans.{front_bytes, AtHeader, Within, SpanState, InNextHeader, Begins, CameTo, IsBetween, SpanPlace, packets_of, opened_after, SpansOn}
use Rattle.wire_span.specs.SpanSteps.{TakesSpan}
use Rattle.wire_span.specs.Renumbering.{sent, RenumbersFront}
use Rattle.wire_span.proofs.SpanLemmas.{at_place, came_header, header_then, joined_spans_is, nothing_came, spans_begin_is, id_at-nil}
use Rattle.wire_codec.proofs.RunLemmas.{front-nil}

-- bytes of the open chunk, with the id that a side has
pub chunk_on : (limit i n left : ℕ) (full : Bool) (x : List ℕ) (spans : List (List ℕ × Bool)) (after : SpanState)
    → TakesSpan i n left full x spans after → SpansOn (at_place limit i n (Within left full)) x spans after
chunk_on limit i n left full x spans after takes s L S ps o le h = takes s L S ps o (h.0, h.1, h.2, h.3.1)

abbrev pub Passes : ℕ → ℕ → Bool → ℕ → Bool → SpanState → Type 0
Passes n left full count ends after =
    (id : ℕ) (eaten : List ℕ) → length eaten ≡ count → TakesSpan id n left full eaten ((eaten, ends) ∷ []) (record after { id = id })

length_take : (n : ℕ) (xs : List ℕ) → n ≤ length xs → length (take n xs) ≡ n
length_take zero xs h = refl
length_take (suc n) [] h = absurd (omega arith)
length_take (suc n) (x ∷ xs) h = ap (λ (k : ℕ). suc k) (length_take n xs (omega arith))

pub chunk_renumbers : (limit i j n left count : ℕ) (full ends : Bool) (P : List ℕ) (after : SpanState)
    → count ≤ length P → Passes n left full count ends after
    → RenumbersFront (at_place limit i n (Within left full)) j P P count (record after { id = i }) j
chunk_renumbers limit i j n left count full ends P after some passes =
    let x : List ℕ = take count P in
    let size : length x ≡ count = length_take count P some in (
      x,
      x,
      drop count P,
      (x, ends) ∷ [],
      sym (take-append-drop count P),
      sym (take-append-drop count P),
      size,
      size,
      chunk_on limit i n left full x ((x, ends) ∷ []) (record after { id = i }) (passes i x size),
      chunk_on limit j n left full x ((x, ends) ∷ []) (record after { id = j }) (passes j x size),
    )

-- bytes of a header, and no more
pub part_on : (limit i n : ℕ) (c m x : List ℕ) → m ≡ c ++ x → length m < 4
    → SpansOn (at_place limit i n (AtHeader c)) x [] (at_place limit i n (AtHeader m))
part_on limit i n c m x e short s L S ps o le h =
    subst (λ (z : List ℕ). CameTo s L (S ++ x) (ps ++ []) o (at_place limit i n (AtHeader z))) (sym e)
    (came_header limit s L S ps o c x i n h (subst (λ (z : List ℕ). length z < 4) e short))

pub part_renumbers : (limit i j n : ℕ) (c m P : List ℕ) → m ≡ c ++ P → length m < 4
    → RenumbersFront (at_place limit i n (AtHeader c)) j P P (length P) (at_place limit i n (AtHeader m)) j
part_renumbers limit i j n c m P e short =
    (P, P, [], [], sym (append-nil P), sym (append-nil P), refl, refl, part_on limit i n c m P e short, part_on limit j n c m P e short)

-- the part of a header that the piece brought, and the same with another id
pub other_header : (came : HeaderFront) (P R : List ℕ) (len id j : ℕ) → front_bytes came ++ P ≡ header len id ++ R
    → (x : List ℕ) × (y : List ℕ) × (P ≡ x ++ R) × (slice_set P (length x - 1) j ≡ y ++ R)
    × (front_bytes came ++ x ≡ header len id) × (j < 256 → front_bytes came ++ y ≡ header len j)
    × (length y ≡ length x) × (0 < length x)
other_header Empty P R len id j e = (
  header len id,
  le_bytes 3 len ++ j ∷ [],
  e,
  ap (λ (z : List ℕ). slice_set z 3 j) e,
  refl,
  λ small. let says : j ≡ j % 256 = omega arith in ap (λ (k : ℕ). le_bytes 3 len ++ k ∷ []) says,
  refl,
  omega arith,
)
other_header (One a) P R len id j e = (
  drop 1 (header len id),
  drop 1 (le_bytes 3 len) ++ j ∷ [],
  ap (λ (z : List ℕ). drop 1 z) e,
  ap (λ (z : List ℕ). slice_set (drop 1 z) 2 j) e,
  ap (λ (z : List ℕ). take 1 z ++ drop 1 (header len id)) e,
  λ small. let says : j ≡ j % 256 = omega arith in
      ap (λ (z : List ℕ). take 1 z ++ (drop 1 (le_bytes 3 len) ++ j ∷ [])) e ∙ ap (λ (k : ℕ). le_bytes 3 len ++ k ∷ []) says,
  refl,
  omega arith,
)
other_header (Two a b) P R len id j e = (
  drop 2 (header len id),
  drop 2 (le_bytes 3 len) ++ j ∷ [],
  ap (λ (z : List ℕ). drop 2 z) e,
  ap (λ (z : List ℕ). slice_set (drop 2 z) 1 j) e,
  ap (λ (z : List ℕ). take 2 z ++ drop 2 (header len id)) e,
  λ small. let says : j ≡ j % 256 = omega arith in
      ap (λ (z : List ℕ). take 2 z ++ (drop 2 (le_bytes 3 len) ++ j ∷ [])) e ∙ ap (λ (k : ℕ). le_bytes 3 len ++ k ∷ []) says,
  refl,
  omega arith,
)
other_header (Three a b c) P R len id j e = (
  drop 3 (header len id),
  j ∷ [],
  ap (λ (z : List ℕ). drop 3 z) e,
  ap (λ (z : List ℕ). slice_set (drop 3 z) 0 j) e,
  ap (λ (z : List ℕ). take 3 z ++ drop 3 (header len id)) e,
  λ small. let says : j ≡ j % 256 = omega arith in
      ap (λ (z : List ℕ). take 3 z ++ j ∷ []) e ∙ ap (λ (k : ℕ). le_bytes 3 len ++ k ∷ []) says,
  refl,
  omega arith,
)

id_small : (s L i n : ℕ) (c o b : List ℕ) → InNextHeader s L i n c o b → i < 256
id_small s L i n c o b h = let k = h.id_is in omega arith

-- a header that is accepted
pub header_on : (limit i n len id size : ℕ) (c x : List ℕ) (ends : Bool) (after : SpanState)
    → (i < 256 → c ++ x ≡ header len id) → len ≤ max_payload → id ≡ i → (len ≡ 0) ⊎ (n + len ≤ limit) → size ≡ n + len
    → Passes size len (len == 16777215) 0 ends after
    → SpansOn (at_place limit i n (AtHeader c)) x (([], ends) ∷ []) (record after { id = (i + 1) % 256 })
header_on limit i n len id size c x ends after e small same fits is_size passes s L S ps o le h =
    subst (λ (z : List ℕ). CameTo s L (S ++ z) (ps ++ packets_of o (([], ends) ∷ [])) (opened_after o (([], ends) ∷ [])) (record after { id = (i + 1) % 256 })) (append-nil x)
    (header_then limit s L S ps o c x [] i n len id ((i + 1) % 256) size (([], ends) ∷ []) (record after { id = (i + 1) % 256 })
    h (e (id_small _ L i n c o h.0 h.3)) small same le fits is_size refl (passes ((i + 1) % 256) [] refl))

pub header_renumbers : (came : HeaderFront) (limit i j n len id size at count : ℕ) (P R : List ℕ) (ends : Bool) (after : SpanState)
    → front_bytes came ++ P ≡ header len id ++ R → len ≤ max_payload → id ≡ i → (len ≡ 0) ⊎ (n + len ≤ limit) → size ≡ n + len
    → Passes size len (len == 16777215) 0 ends after → count + length R ≡ length P → at + 1 ≡ count
    → RenumbersFront (at_place limit i n (AtHeader (front_bytes came))) j P (slice_set P at j) count (record after { id = (i + 1) % 256 }) ((j + 1) % 256)
header_renumbers came limit i j n len id size at count P R ends after e small same fits is_size passes behind last =
    let other = other_header came P R len id j e in
    let x = other.0 in
    let y = other.1 in
    let whole : length P ≡ length x + length R = ap (λ (w : List ℕ). length w) other.2 ∙ length-append x R in
    let long : length x ≡ count = omega (arith, whole, behind) in
    let place : at ≡ length x - 1 = omega (arith, long, last) in (
      x,
      y,
      R,
      ([], ends) ∷ [],
      other.2,
      ap (λ (k : ℕ). slice_set P k j) place ∙ other.3,
      long,
      other.6 ∙ long,
      header_on limit i n len id size (front_bytes came) x ends after (λ k. other.4) small same fits is_size passes,
      header_on limit j n len j size (front_bytes came) y ends after (λ k. other.5 k) small refl fits is_size passes,
    )

pub take_front : (xs ys : List ℕ) → take (length xs) (xs ++ ys) ≡ xs
take_front [] ys = refl
take_front (x ∷ xs) ys = ap (λ (z : List ℕ). x ∷ z) (take_front xs ys)

drop_front : (xs ys : List ℕ) → drop (length xs) (xs ++ ys) ≡ ys
drop_front [] ys = refl
drop_front (x ∷ xs) ys = drop_front xs ys

-- one step after others
pub renumbers_more : (a m z : SpanState) (i j k at count : ℕ) (P Q A B : List ℕ) → m.limit ≡ a.limit
    → RenumbersFront a i P Q at m j → A ≡ drop at Q → RenumbersFront m j A B count z k
    → RenumbersFront a i P (take at Q ++ B) (at + count) z k
renumbers_more a m z i j k at count P Q A B same f is g =
    let eaten = f.0 in
    let out = f.1 in
    let rest = f.2 in
    let front : take at Q ≡ out = ap (λ (w : List ℕ). take at w) f.5 ∙ ap (λ (n : ℕ). take n (out ++ rest)) (sym f.7) ∙ take_front out rest in
    let back : rest ≡ g.0 ++ g.2 =
    sym (is ∙ ap (λ (w : List ℕ). drop at w) f.5 ∙ ap (λ (n : ℕ). drop n (out ++ rest)) (sym f.7) ∙ drop_front out rest) ∙ g.4 in (
      eaten ++ g.0,
      out ++ g.1,
      g.2,
      f.3 ++ g.3,
      f.4 ∙ ap (λ (w : List ℕ). eaten ++ w) back ∙ sym (append_assoc eaten g.0 g.2),
      ap (λ (w : List ℕ). w ++ B) front ∙ ap (λ (w : List ℕ). out ++ w) g.5 ∙ sym (append_assoc out g.1 g.2),
      rw length-append (let x = f.6 in let y = g.6 in omega arith),
      rw length-append (let x = f.7 in let y = g.7 in omega arith),
      joined_spans_is a m z eaten g.0 f.3 g.3 same f.8 g.8,
      joined_spans_is (sent a i) (sent m j) (sent z k) out g.1 f.3 g.3 same f.9 g.9,
    )

pub renumbers_none : (a : SpanState) (i : ℕ) (P : List ℕ) → RenumbersFront a i P P 0 a i
renumbers_none a i P = ([], [], P, [], refl, refl, refl, refl, nothing_came a, nothing_came (sent a i))

pub renumbers_length : (a z : SpanState) (i k at : ℕ) (P Q : List ℕ) → RenumbersFront a i P Q at z k → (at ≤ length Q) × (length Q ≡ length P)
renumbers_length a z i k at P Q f =
    let p : length P ≡ length f.0 + length f.2 = ap (λ (w : List ℕ). length w) f.4 ∙ length-append f.0 f.2 in
    let q : length Q ≡ length f.1 + length f.2 = ap (λ (w : List ℕ). length w) f.5 ∙ length-append f.1 f.2 in
    let x = f.6 in
    let y = f.7 in (omega (arith, p, q, x, y), omega (arith, p, q, x, y))

-- the piece from a place on, lent and given back
drop_all : (xs : List ℕ) → drop (length xs) xs ≡ []
drop_all [] = refl
drop_all (x ∷ xs) = drop_all xs

take_all : (xs : List ℕ) → take (length xs) xs ≡ xs
take_all [] = refl
take_all (x ∷ xs) = ap (λ (z : List ℕ). x ∷ z) (take_all xs)

rest_none : (at : ℕ) (xs : List ℕ) → at ≤ length xs → drop (length xs - at) (drop at xs) ≡ []
rest_none zero xs h = let e : length xs - 0 ≡ length xs = omega arith in ap (λ (n : ℕ). drop n xs) e ∙ drop_all xs
rest_none (suc at) [] h = absurd (omega arith)
rest_none (suc at) (x ∷ xs) h = let e : length (x ∷ xs) - suc at ≡ length xs - at = omega arith in ap (λ (n : ℕ). drop n (drop at xs)) e ∙ rest_none at xs (omega arith)

pub rest_all : (at : ℕ) (xs : List ℕ) → at ≤ length xs → take (length xs - at) (drop at xs) ≡ drop at xs
rest_all zero xs h = let e : length xs - 0 ≡ length xs = omega arith in ap (λ (n : ℕ). take n xs) e ∙ take_all xs
rest_all (suc at) [] h = absurd (omega arith)
rest_all (suc at) (x ∷ xs) h = let e : length (x ∷ xs) - suc at ≡ length xs - at = omega arith in ap (λ (n : ℕ). take n (drop at xs)) e ∙ rest_all at xs (omega arith)

put_rest : (at : ℕ) (xs ys : List ℕ) → at ≤ length xs → put_mid at (length xs - at) xs ys ≡ take at xs ++ ys
put_rest at xs ys h = ap (λ (z : List ℕ). take at xs ++ (ys ++ z)) (rest_none at xs h) ∙ ap (λ (z : List ℕ). take at xs ++ z) (append-nil ys)

pub put_same_rest : (at : ℕ) (xs ys : List ℕ) → at ≤ length xs → ys ≡ drop at xs → put_mid at (length xs - at) xs ys ≡ xs
put_same_rest at xs ys h e = put_rest at xs ys h ∙ ap (λ (z : List ℕ). take at xs ++ z) e ∙ take-append-drop at xs

pub step_more : (a m z : SpanState) (i j k at count : ℕ) (P Q A B : List ℕ) → m.limit ≡ a.limit
    → RenumbersFront a i P Q at m j → A ≡ take (length Q - at) (drop at Q) → RenumbersFront m j A B count z k
    → RenumbersFront a i P (put_mid at (length Q - at) Q B) (at + count) z k
step_more a m z i j k at count P Q A B same f is g =
    let within = (renumbers_length a m i j at P Q f).0 in
    subst (λ (w : List ℕ). RenumbersFront a i P w (at + count) z k) (sym (put_rest at Q B within))
    (renumbers_more a m z i j k at count P Q A B same f (is ∙ rest_all at Q within) g)

pub nothing_long : (xs : List ℕ) → length xs ≡ 0 → xs ≡ []
nothing_long [] e = refl
nothing_long (x ∷ xs) e = absurd (omega arith)

no_rest : (P x r : List ℕ) → P ≡ x ++ r → length x ≡ length P → r ≡ []
no_rest P x r e long = let p : length P ≡ length x + length r = ap (λ (w : List ℕ). length w) e ∙ length-append x r in nothing_long r (omega arith)

whole_is : (P x r : List ℕ) → P ≡ x ++ r → r ≡ [] → P ≡ x
whole_is P x r e none = e ∙ ap (λ (w : List ℕ). x ++ w) none ∙ append-nil x

pub joined_renumberings_is : (a m z : SpanState) (i j k count : ℕ) (P Q R T : List ℕ) → m.limit ≡ a.limit
    → RenumbersFront a i P Q (length P) m j → RenumbersFront m j R T count z k
    → RenumbersFront a i (P ++ R) (Q ++ T) (length P + count) z k
joined_renumberings_is a m z i j k count P Q R T same f g =
    let none = no_rest P f.0 f.2 f.4 f.6 in
    let p = whole_is P f.0 f.2 f.4 none in
    let q = whole_is Q f.1 f.2 f.5 none in (
      f.0 ++ g.0,
      f.1 ++ g.1,
      g.2,
      f.3 ++ g.3,
      ap (λ (w : List ℕ). w ++ R) p ∙ ap (λ (w : List ℕ). f.0 ++ w) g.4 ∙ sym (append_assoc f.0 g.0 g.2),
      ap (λ (w : List ℕ). w ++ T) q ∙ ap (λ (w : List ℕ). f.1 ++ w) g.5 ∙ sym (append_assoc f.1 g.1 g.2),
      rw length-append (let x = f.6 in let y = g.6 in omega arith),
      rw length-append (let x = f.7 in let y = g.7 in omega arith),
      joined_spans_is a m z f.0 g.0 f.3 g.3 same f.8 g.8,
      joined_spans_is (sent a i) (sent m j) (sent z k) f.1 g.1 f.3 g.3 same f.9 g.9,
    )

-- what came between two packets
id_after_small : (s : ℕ) (ps : List (List ℕ)) → s < 256 → id_after s ps < 256
id_after_small s [] small = small
id_after_small s (p ∷ ps) small = id_after_small (next_id s p) ps (omega arith)

pub came_between : (s L i : ℕ) (S : List ℕ) (ps : List (List ℕ)) (o : List ℕ) → s < 256 → CameTo s L S ps o (at_place L i 0 (AtHeader []))
    → (S ≡ stream s ps) × (i ≡ id_after s ps)
came_between s L i S ps o small h =
    let t : ℕ = id_after s ps in
    let none : o ≡ [] = nothing_long o (sym h.3.size_is) in
    let begun : h.0 ≡ [] = h.3.begun_is ∙ append-nil (front t o) ∙ ap (λ (w : List ℕ). front t w) none ∙ front-nil t in (
      h.1 ∙ ap (λ (w : List ℕ). stream s ps ++ w) begun ∙ append-nil (stream s ps),
      h.3.id_is ∙ ap (λ (w : List ℕ). id_at t w) none ∙ id_at-nil t (id_after_small s ps small),
    )

side_between : (a z : SpanState) (x : List ℕ) (spans : List (List ℕ × Bool)) → a.id < 256 → IsBetween a → IsBetween z → SpansOn a x spans z
    → (x ≡ stream a.id (packets_of [] spans)) × (z.id ≡ id_after a.id (packets_of [] spans))
side_between a z x spans small begins ends on =
    let came : CameTo a.id a.limit x (packets_of [] spans) (opened_after [] spans) z = on a.id a.limit [] [] [] (omega arith) (spans_begin_is a a.limit small begins) in
    came_between a.id a.limit z.id x (packets_of [] spans) (opened_after [] spans) small (
      came.0,
      came.1,
      came.2,
      subst (λ (p : SpanPlace). Begins (id_after a.id (packets_of [] spans)) a.limit z.id 0 p (opened_after [] spans) came.0) ends.1
          (subst (λ (n : ℕ). Begins (id_after a.id (packets_of [] spans)) a.limit z.id n z.place (opened_after [] spans) came.0) ends.0 came.3),
    )

pub renumbered_stream_is : (a z : SpanState) (i k : ℕ) (P Q : List ℕ) → a.id < 256 → i < 256 → IsBetween a → IsBetween z
    → RenumbersFront a i P Q (length P) z k
    → (payloads : List (List ℕ)) × (P ≡ stream a.id payloads) × (Q ≡ stream i payloads)
    × (z.id ≡ id_after a.id payloads) × (k ≡ id_after i payloads)
renumbered_stream_is a z i k P Q small other begins ends f =
    let none = no_rest P f.0 f.2 f.4 f.6 in
    let came = side_between a z f.0 f.3 small begins ends f.8 in
    let went = side_between (sent a i) (sent z k) f.1 f.3 other begins ends f.9 in
    (packets_of [] f.3, whole_is P f.0 f.2 f.4 none ∙ came.0, whole_is Q f.1 f.2 f.5 none ∙ went.0, came.1, went.1)
