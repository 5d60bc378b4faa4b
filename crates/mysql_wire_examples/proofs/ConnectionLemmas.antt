-- One command after another.
use Rattle.std.proofs.Common.{ℕ, ◌≡◌, List, [], ◌∷◌, ◌++◌, ap, ◌∙◌, sym, append-nil, append_assoc}
use Rattle.std.specs.List.{flat_map}
use Rattle.std.proofs.lemmas.Grind.{flat_map-append}

pub flat_map-one_more : {X Y : Type 0} (f : X → List Y) (items : List X) (item : X)
    → flat_map f (items ++ item ∷ []) ≡ flat_map f items ++ f item
flat_map-one_more f items item =
    flat_map-append f items (item ∷ []) ∙ ap (λ last. flat_map f items ++ last) (append-nil (f item))

-- what is after one more item
pub flat_map-on : (f : List ℕ → List ℕ) (items : List (List ℕ)) (item all before after : List ℕ)
    → all ≡ flat_map f items ++ before → before ≡ f item ++ after → all ≡ flat_map f (items ++ item ∷ []) ++ after
flat_map-on f items item all before after so_far next =
    so_far ∙ ap (λ bytes. flat_map f items ++ bytes) next ∙ sym (append_assoc (flat_map f items) (f item) after)
    ∙ ap (λ bytes. bytes ++ after) (sym (flat_map-one_more f items item))

-- the same in front of nothing
pub flat_map-out : (f : List ℕ → List ℕ) (items : List (List ℕ)) (item start before after : List ℕ)
    → before ≡ start ++ flat_map f items → after ≡ before ++ f item → after ≡ start ++ flat_map f (items ++ item ∷ [])
flat_map-out f items item start before after so_far next =
    next ∙ ap (λ bytes. bytes ++ f item) so_far ∙ append_assoc start (flat_map f items) (f item)
    ∙ ap (λ bytes. start ++ bytes) (sym (flat_map-one_more f items item))
