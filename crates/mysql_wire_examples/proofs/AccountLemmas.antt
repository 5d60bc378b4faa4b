-- The columns of a row are those that are read.
use Rattle.std.proofs.Common.{◌≡◌, ℕ, List, Some, None, sym, subst}
use Rattle.mysql_wire.specs.Lenenc.{IsLenencOrMark}
use Rattle.mysql_wire.specs.LenencLemmas.{IsLenencOrMark-free}
use Rattle.mysql_wire.specs.Spelling.{EatsText, ReadsText}
use Rattle.mysql_wire.specs.SpellingLemmas.{ReadsText-same}
use Rattle.mysql_wire_examples.specs.Accounts.{IsAccount}

some_same : (a b : List ℕ) → Some a ≡ Some b → a ≡ b
some_same a b e = cc

-- one text alone begins there
pub one_text : (old a b x y : List ℕ) → EatsText IsLenencOrMark old a x → EatsText IsLenencOrMark old b y → (a ≡ b) × (x ≡ y)
one_text old a b x y left right =
    let same = ReadsText-same IsLenencOrMark IsLenencOrMark-free 1 old (Some a) (Some b) x y left right in
    (some_same a b same.0, same.1)

-- no text begins there
pub no_text : (old b x y : List ℕ) → ReadsText IsLenencOrMark 1 old None x → EatsText IsLenencOrMark old b y → ⊥
no_text old b x y left right =
    let same = ReadsText-same IsLenencOrMark IsLenencOrMark-free 1 old None (Some b) x y left right in
    absurd (let e = same.0 in cc)

pub one_account : (row a b x y : List ℕ) → IsAccount row a x → IsAccount row b y → (a ≡ b) × (x ≡ y)
one_account row a b x y left right =
    let names = one_text row a b left.0 right.0 left.2 right.2 in
    let mails = one_text left.0 x y left.1 right.1 left.3
    (subst (λ (z : List ℕ). EatsText IsLenencOrMark z y right.1) (sym names.1) right.3) in
    (names.0, mails.0)

-- a row whose first column isn't there, or whose second isn't
pub no_name : (row after name mail : List ℕ) → ReadsText IsLenencOrMark 1 row None after → IsAccount row name mail → ⊥
no_name row after name mail none there = no_text row name after there.0 none there.2

pub no_mail : (row first mid after name mail : List ℕ) → EatsText IsLenencOrMark row first mid → ReadsText IsLenencOrMark 1 mid None after → IsAccount row name mail → ⊥
no_mail row first mid after name mail read none there =
    let names = one_text row first name mid there.0 read there.2 in
    no_text mid mail after there.1 none (subst (λ (z : List ℕ). EatsText IsLenencOrMark z mail there.1) (sym names.1) there.3)
