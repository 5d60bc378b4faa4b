-- Short texts of a row.
use Rattle.std.proofs.Common.{◌≡◌, ◌<◌, ◌≤◌, ◌+◌, ◌-◌, ℕ, suc, List, [], ◌∷◌, ◌++◌, length, take, drop, take-append-drop, refl, sym, ap, ◌∙◌, inl, inr, arith, Some, Ok}
use Rattle.std.proofs.lemmas.List.{length-drop, length-take-le, take_all}
use Rattle.std.specs.Fmt.{decimal}
use Rattle.mysql_wire_queries.specs.TextValues.{ReadsValue}
use Rattle.mysql_wire_dump_lines.specs.ValueFields.{IsTextAt}
use Rattle.wire_text.specs.Fields.{Words}

suc_is : (n : ℕ) → 1 + n ≡ suc n
suc_is n = omega arith

drop_behind : (n byte : ℕ) (bytes : List ℕ) → drop (1 + n) (byte ∷ bytes) ≡ drop n bytes
drop_behind n byte bytes = ap (λ (m : ℕ). drop m (byte ∷ bytes)) (suc_is n)

no_mark : (n mark : ℕ) (behind : List ℕ) → n < 251 → 250 < mark → take 1 (n ∷ behind) ≡ mark ∷ [] → ⊥
no_mark n mark behind below above is =
    let same : n ≡ mark = cc is in
    absurd (omega (arith, below, above, same))

-- a length below 251 and as many bytes after it are a text
short_reads : (n : ℕ) (behind : List ℕ) → n < 251 → n ≤ length behind → ReadsValue (n ∷ behind) (Ok (Some (take n behind))) (1 + n)
short_reads n behind below there =
    let long = length-take-le n behind there in
    inr (inr (
      no_mark n 0xfb behind below (omega arith),
      no_mark n 0xff behind below (omega arith),
      (
        omega (arith, there),
        (
          behind,
          (n ∷ [], inl (inl (ap (λ (m : ℕ). m ∷ []) (sym long), omega (arith, long, below))), refl),
          sym (ap (λ (z : List ℕ). take n behind ++ z) (drop_behind n n behind) ∙ take-append-drop n behind),
        ),
      ),
    ))

pub short_text : (place n : ℕ) (bytes behind : List ℕ) → bytes ≡ n ∷ behind → n < 251 → n ≤ length behind
    → IsTextAt place bytes (decimal place, Words (take n behind)) (take (length behind - n) (drop n behind))
short_text place n bytes behind bytes_are below there = record {
  value = Some (take n behind);
  eaten = 1 + n;
  reads = rw (bytes_are) (short_reads n behind below there);
  behind_is = take_all (length behind - n) (drop n behind) (omega (arith, length-drop n behind)) ∙ sym (ap (drop (1 + n)) bytes_are ∙ drop_behind n n behind);
  member_is = refl;
}
