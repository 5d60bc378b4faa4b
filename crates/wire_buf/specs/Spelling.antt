-- Numbers that bytes spell, and texts after their length. A spelling is an encoding: bytes that
-- stand for a number. A format is given by its relation `spells` of a number and its spellings.
use Rattle.std.specs.Prelude.{ℕ, ◌≡◌, ◌<◌, ◌≤◌, List, ◌∷◌, ◌++◌, length, drop, Option, Some, None, ◌⊎◌}
use Rattle.wire_buf.specs.Numbers.{le_number, IsBytes}

-- this first byte, and after it count bytes whose number is n
abbrev pub IsBehind : ℕ → ℕ → ℕ → List ℕ → Type 0
IsBehind first count n bytes = (rest : List ℕ) × (bytes ≡ first ∷ rest) × (length rest ≡ count)
    × (n ≡ le_number rest)

-- count bytes whose number is n
abbrev pub IsFixed : ℕ → ℕ → List ℕ → Type 0
IsFixed count n bytes = (length bytes ≡ count) × (n ≡ le_number bytes)

-- the old bytes are a spelling of the number, followed by the new ones
abbrev pub EatsSpelling : (ℕ → List ℕ → Type 0) → List ℕ → ℕ → List ℕ → Type 0
EatsSpelling spells old n new = (spelling : List ℕ) × spells n spelling × (old ≡ spelling ++ new)

-- a front of the bytes spells a number
abbrev pub HoldsNumber : (ℕ → List ℕ → Type 0) → List ℕ → Type 0
HoldsNumber spells bytes = (n : ℕ) × (rest : List ℕ) × EatsSpelling spells bytes n rest

-- no front of the bytes spells a number
abbrev pub SpellsNothing : (ℕ → List ℕ → Type 0) → List ℕ → Type 0
SpellsNothing spells bytes = (n : ℕ) (rest : List ℕ) → ¬ EatsSpelling spells bytes n rest

-- A number is answered where a front of the bytes spells one, and that front is eaten. Otherwise so
-- many bytes are, where there are this many.
abbrev pub ReadsNumber : (ℕ → List ℕ → Type 0) → ℕ → List ℕ → Option ℕ → List ℕ → Type 0
ReadsNumber spells lost old None new = SpellsNothing spells old × (new ≡ drop lost old)
ReadsNumber spells lost old (Some n) new = EatsSpelling spells old n new

-- the old bytes are a spelling of the text's length and the text, followed by the new ones
abbrev pub EatsText : (ℕ → List ℕ → Type 0) → List ℕ → List ℕ → List ℕ → Type 0
EatsText spells old text new = EatsSpelling spells old (length text) (text ++ new)

-- a front of the bytes is a text after its length
abbrev pub HoldsText : (ℕ → List ℕ → Type 0) → List ℕ → Type 0
HoldsText spells bytes = (text : List ℕ) × (rest : List ℕ) × EatsText spells bytes text rest

-- A text is answered where its length is there, and this many bytes after it. Where the length is
-- cut short, what `ReadsNumber` says is eaten, and where the text is, its length.
abbrev pub ReadsText : (ℕ → List ℕ → Type 0) → ℕ → List ℕ → Option (List ℕ) → List ℕ → Type 0
ReadsText spells lost old (Some text) new = EatsText spells old text new
ReadsText spells lost old None new =
    (SpellsNothing spells old × (new ≡ drop lost old))
    ⊎ ((len : ℕ) × EatsSpelling spells old len new × (length new < len))

-- Whatever follows these bytes, the number is read from them, and no other from any front.
abbrev pub IsSpelling : (ℕ → List ℕ → Type 0) → ℕ → List ℕ → Type 0
IsSpelling spells n bytes =
    spells n bytes
    × ((rest : List ℕ) (m : ℕ) (new : List ℕ) → EatsSpelling spells (bytes ++ rest) m new
    → (m ≡ n) × (new ≡ rest))

-- and no spelling of the number has fewer bytes
abbrev pub IsShortest : (ℕ → List ℕ → Type 0) → ℕ → List ℕ → Type 0
IsShortest spells n bytes =
    IsBytes bytes × IsSpelling spells n bytes
    × ((other : List ℕ) → IsBytes other → spells n other → length bytes ≤ length other)
