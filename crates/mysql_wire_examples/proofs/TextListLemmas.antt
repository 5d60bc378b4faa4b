-- A list whose values are clones has the same texts, where a clone has the text of its value.
use Rattle.std.proofs.Common.{◌≡◌, ℕ, List, [], ◌∷◌, ◌++◌, map, refl, ap, ◌∙◌, ◌⊎◌, inl, inr}
use Rattle.std.specs.Cow.{cow_slice_items}
use Rattle.std.specs.List.{AllZip, each_same}
use Rattle.std.specs.declared.borrow.CowSlice.{CowSlice}
use Rattle.std.specs.declared.borrow.CowSlice.TheVariants as slice
use Rattle.mysql_wire.specs.RawTexts.{IsBorrowedText}
use Rattle.mysql_wire.specs.Copies.{IsCopy, OwnsAs, GainsValue}

-- a text that is borrowed is that text
pub borrowed_text : {Z : Type 0} (c : CowSlice ℕ Z) (text : List ℕ) → IsBorrowedText c text
    → cow_slice_items c ≡ text
borrowed_text (slice.Borrowed r) text is = is
borrowed_text (slice.Owned v) text is = absurd is

-- a clone of bytes is the same bytes
pub same_bytes : {Z : Type 0} (c copy : CowSlice ℕ Z)
    → (cow_slice_items copy ≡ cow_slice_items c) ⊎ AllZip (λ x y. y ≡ x) (cow_slice_items c) (cow_slice_items copy)
    → cow_slice_items copy ≡ cow_slice_items c
same_bytes c copy (inl is) = is
same_bytes c copy (inr are) = each_same (cow_slice_items c) (cow_slice_items copy) are

-- every clone has the text of its value
abbrev pub Keeps : {X : Type 0} → (X → List ℕ) → (X → X → Type 0) → Type 0
Keeps {X = X} text is_clone = (value copy : X) → is_clone value copy → text copy ≡ text value

module _ {X : Type 0} (text : X → List ℕ) (is_clone : X → X → Type 0) where
  each_kept : (values copies : List X) → AllZip is_clone values copies → Keeps text is_clone
      → map text copies ≡ map text values
  each_kept [] [] are keeps = refl
  each_kept [] (y ∷ ys) are keeps = absurd are
  each_kept (x ∷ xs) [] are keeps = absurd are
  each_kept (x ∷ xs) (y ∷ ys) are keeps =
      λ i. keeps x y are.0 i ∷ each_kept xs ys are.1 keeps i

  map-push : (values : List X) (value : X)
      → map text (values ++ value ∷ []) ≡ map text values ++ text value ∷ []
  map-push [] value = refl
  map-push (x ∷ xs) value = ap (λ texts. text x ∷ texts) (map-push xs value)

  pub owned_texts : {Z : Type 0} (old : CowSlice X Z) (items : List X) → OwnsAs is_clone old items
      → Keeps text is_clone → map text items ≡ map text (cow_slice_items old)
  owned_texts (slice.Borrowed r) items are keeps = each_kept r.now items are keeps
  owned_texts (slice.Owned v) items are keeps = ap (map text) are

  pub copied_texts : {Z : Type 0} (old copy : CowSlice X Z) → IsCopy is_clone old copy
      → Keeps text is_clone → map text (cow_slice_items copy) ≡ map text (cow_slice_items old)
  copied_texts (slice.Borrowed r) (slice.Borrowed s) is keeps = ap (map text) is
  copied_texts (slice.Borrowed r) (slice.Owned w) is keeps = absurd is
  copied_texts (slice.Owned v) (slice.Borrowed s) is keeps = absurd is
  copied_texts (slice.Owned v) (slice.Owned w) is keeps = each_kept v.items w.items is keeps

  pub pushed_texts : {Z : Type 0} (old new : CowSlice X Z) (value : X)
      → GainsValue is_clone old value new → Keeps text is_clone
      → map text (cow_slice_items new) ≡ map text (cow_slice_items old) ++ text value ∷ []
  pushed_texts old new value gains keeps =
      let items = gains.1.0 in
      ap (map text) gains.1.2 ∙ map-push items value
      ∙ ap (λ texts. texts ++ text value ∷ []) (owned_texts old items gains.1.1 keeps)
