use Rattle.std.proofs.Common.{◌+◌, ◌++◌, ◌≡◌, ◌∙◌, ℕ, ap, ap₂, arith, length, length-append, subst, string_bytes, sym, take, take-append-drop, drop, IsUtf8, List}
use Rattle.std.proofs.Math.Seq.{take-append-add}
use Rattle.std.proofs.lemmas.Str.{IsUtf8-append, IsUtf8-string_bytes}
use Rattle.wire_text.proofs.FieldLemmas.{cut_place, utf8_if}
use Rattle.wire_text.proofs.members.push_with_front.Goals as goal

pub push_few-requires : goal.push_few-requires
push_few-requires g c =
    let bytes = c.args.bytes in
    let len = c.args.len in
    subst IsUtf8 (sym c.fill_with.ensures)
    (IsUtf8-append c.args.letters.now bytes c.requires.letters
    (subst IsUtf8 (take-append-drop len bytes) (IsUtf8-append (take len bytes) (drop len bytes) c.requires.words (utf8_if (drop len bytes) c.requires.behind))))

-- the letters and the first of those behind them, after what stood there
cut : (len end : ℕ) (old letters bytes all : List ℕ) → end ≡ length old + (length letters + len) → all ≡ old ++ (letters ++ bytes)
    → take end all ≡ old ++ (letters ++ take len bytes)
cut len end old letters bytes all end_is all_is =
    ap₂ (λ (n : ℕ) (z : List ℕ). take n z) end_is all_is ∙ take-append-add old (letters ++ bytes) (length letters + len)
    ∙ ap (λ (z : List ℕ). old ++ z) (take-append-add letters bytes len)

pub truncate-requires : goal.truncate-requires
truncate-requires g c _ =
    let old = string_bytes c.args.text.now in
    let letters = c.args.letters.now in
    let bytes = c.args.bytes in
    let end = c.len.result + length letters + c.args.len in
    let all = c.in_ok-push_few.ensures ∙ ap (λ (z : List ℕ). old ++ z) c.fill_with.ensures in
    let kept = cut c.args.len end old letters bytes _ (omega (arith, c.len.ensures)) all in
    cut_place (string_bytes c.push_few.new.text) end (IsUtf8-string_bytes c.push_few.new.text)
    (omega (arith, c.len.ensures, c.requires.within, ap length all, length-append old (letters ++ bytes), length-append letters bytes, c.fits-bytes.0))
    (subst IsUtf8 (sym kept) (IsUtf8-append old (letters ++ take c.args.len bytes) (IsUtf8-string_bytes c.args.text.now)
    (IsUtf8-append letters (take c.args.len bytes) c.requires.letters c.requires.words)))

pub returns : goal.returns
returns g c =
    let old = string_bytes c.args.text.now in
    c.truncate.ensures.bytes
    ∙ cut c.args.len (c.len.result + length c.args.letters.now + c.args.len) old c.args.letters.now c.args.bytes _ (omega (arith, c.len.ensures))
    (c.in_ok-push_few.ensures ∙ ap (λ (z : List ℕ). old ++ z) c.fill_with.ensures)
