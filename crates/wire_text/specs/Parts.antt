-- Fields of which a part is written before the others are put.
use Rattle.std.specs.Io.KnownBytes.{Appends}
use Rattle.std.specs.Prelude.{◌≡◌, ◌≢◌, ℕ, List, [], ◌∷◌, ◌++◌, Bool, true, false, Option}
use Rattle.hex.specs.Hex.{encode_lower}
use Rattle.json.specs.Print.{escape}
use Rattle.wire_text.specs.Fields.{Member, Written, put}
use Rattle.wire_text.specs.declared.long.PartForm.{PartForm}
use Rattle.wire_text.specs.declared.long.PartForm.TheVariants.{Escaped, Digits}

abbrev pub part_text : PartForm → List ℕ → List ℕ
part_text Escaped bytes = escape bytes
part_text Digits bytes = encode_lower bytes

-- more was appended to a text, and all was written but this end
pub record WritesSome (more text left : List ℕ) (before now : Option (List ℕ)) : Type 0 where
  pub written : List ℕ
  pub appended : Appends before now written
  pub are : written ++ left ≡ text ++ more
  pub some : left ≢ []

abbrev pub is_none : List ℕ → Bool
is_none [] = true
is_none (byte ∷ text) = false

-- these fields, and the text before them, are the end of others: those bytes were written
pub record IsEnd (written : List ℕ) (whole end : Written) : Type 0 where
  pub form : end.form ≡ whole.form
  pub bytes : written ++ (end.before ++ end.text) ≡ whole.before ++ whole.text
  pub none : is_none end.text ≡ is_none whole.text

-- one field more was put, and all may have been written but an end
pub record WritesMember (one : Member) (old new : Written) (before now : Option (List ℕ)) : Type 0
  where
    pub written : List ℕ
    pub appended : Appends before now written
    pub ends : (earlier : List ℕ) (whole : Written) → IsEnd earlier whole old
        → IsEnd (earlier ++ written) (put whole one) new
