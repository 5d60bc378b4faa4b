-- A packet's bytes that go by, some at a time.
use Rattle.std.proofs.Common.{◌≡◌, ℕ, ◌+◌, ◌%◌, ◌<◌, ◌≤◌, ◌==◌, List, [], ◌∷◌, ◌++◌, refl, sym, ap, subst, arith, append_assoc, ◌⊎◌, Bool, true, false, inl, inr, IsTrue, IsFalse, eqb-true, ◌*◌, ◌-◌}
use Rattle.wire_span.specs.declared.span.Place.{Place}
use Rattle.wire_span.specs.declared.span.Place.TheVariants.{InHeader, InChunk}
use Rattle.wire_codec.specs.Framing.{max_payload, header}
use Rattle.wire_span.specs.Spans.{SpanPlace, AtHeader, SpanState, CameTo, SpansOn, place_of, header_came}
use Rattle.wire_span.specs.Renumbering.{sent}
use Rattle.wire_span.specs.Passing.{left_in, most_here}
use Rattle.wire_span.proofs.SpanLemmas.{at_place, joined_spans_is}
use Rattle.wire_span.proofs.RenumberLemmas.{Passes, header_on}

-- a span that ends no packet, and the one after it, are one
pub merged_spans : (a m z : SpanState) (x y b c : List ℕ) (ends : Bool) → m.limit ≡ a.limit
    → SpansOn a x ((b, false) ∷ []) m → SpansOn m y ((c, ends) ∷ []) z → SpansOn a (x ++ y) ((b ++ c, ends) ∷ []) z
merged_spans a m z x y b c true same f g s L S ps o le h =
    subst (λ (w : List ℕ). CameTo s L (S ++ (x ++ y)) (ps ++ w ∷ []) [] z) (append_assoc o b c)
    (joined_spans_is a m z x y ((b, false) ∷ []) ((c, true) ∷ []) same f g s L S ps o le h)
merged_spans a m z x y b c false same f g s L S ps o le h =
    subst (λ (w : List ℕ). CameTo s L (S ++ (x ++ y)) (ps ++ []) w z) (append_assoc o b c)
    (joined_spans_is a m z x y ((b, false) ∷ []) ((c, false) ∷ []) same f g s L S ps o le h)

-- in front of a header
pub at_header : (place : Place) → left_in (place_of place) ≡ 0 → header_came (place_of place) ≡ [] → place_of place ≡ AtHeader []
at_header (InHeader came) none uncut = ap (λ (z : List ℕ). AtHeader z) uncut
at_header (InChunk left full) none uncut = absurd (let k = left.ok in omega (arith, k, none))

-- a header that is accepted, whatever the id on this side
pub header_passes : (limit n len size : ℕ) (place : SpanPlace) (ends : Bool) (after : SpanState)
    → place ≡ AtHeader [] → len ≤ max_payload → (len ≡ 0) ⊎ (n + len ≤ limit) → size ≡ n + len
    → Passes size len (len == 16777215) 0 ends after → (j : ℕ) → j < 256
    → SpansOn (at_place limit j n place) (header len j) (([], ends) ∷ []) (sent after ((j + 1) % 256))
header_passes limit n len size place ends after is small fits is_size passes j less =
    subst (λ (p : SpanPlace). SpansOn (at_place limit j n p) (header len j) (([], ends) ∷ []) (sent after ((j + 1) % 256))) (sym is)
    (header_on limit j n len j size [] (header len j) ends after (λ k. refl) small refl fits is_size passes)

abbrev pub at_most : SpanPlace → ℕ → ℕ → ℕ
at_most place limit size = most_here place + 5 * (limit - size)

-- after a header that ends no packet fewer bytes are to come
pub header_fewer : (limit n len size : ℕ) (old new : SpanPlace) (ends : Bool)
    → old ≡ AtHeader [] → (len ≡ 0) ⊎ (n + len ≤ limit) → size ≡ n + len
    → (IsFalse ends → most_here new + 0 ≡ len + 4) → (IsFalse ends → (0 < len) ⊎ IsTrue (len == 16777215)) → IsFalse ends
    → 4 + at_most new limit size ≤ at_most old limit n
header_fewer limit n len size old new ends is fits is_size here last goes =
    let whole : most_here old ≡ 4 = ap (λ (p : SpanPlace). most_here p) is in
    let left = here goes in
    elim (last goes) [
      | inl some ↦ elim fits [ inl none ↦ absurd (omega (arith, none, some)) | inr room ↦ omega (arith, whole, left, room, is_size, some) ]
      | inr full ↦ (let e = eqb-true len 16777215 full in elim fits [ inl none ↦ absurd (omega (arith, none, e)) | inr room ↦ omega (arith, whole, left, room, is_size, e) ])
    ]
