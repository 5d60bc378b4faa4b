-- A call of a decoder of spans, and of a renumbering, over a record.
use Rattle.std.proofs.Common.{rules, to_z, of_z, w32, ◌≡◌, ℕ, ℤ, pos, ◌+◌, ◌-◌, ◌<◌, ◌≤◌, ◌==◌, ◌⊎◌, List, [], ◌∷◌, ◌++◌, length, take, drop, refl, sym, ap, ap₂, ◌∙◌, subst, arith, inl, inr, Bool, true, false, length-append, append-nil}
use mir.Val.{bool_byte}
use Rattle.wire_span.specs.declared.span.SpanError.{SpanError}
use Rattle.wire_span.specs.declared.span.SpanError.TheVariants.{PacketTooLarge, PacketsOutOfSync}
use Rattle.wire_span.specs.Parts.{IsTidy, CanStand, SpansStand}
use Rattle.wire_span.specs.Spans.{SpanState, header_came, EatsSpans, SpansOn, StopsBefore, IsBetween}
use Rattle.wire_span.specs.SpanLaws.{SpansBegin}
use Rattle.wire_span.specs.Renumbering.{RenumbersFront}
use Rattle.mysql_wire_c_calls.specs.declared.spans.Spans.{Spans}
use Rattle.mysql_wire_c_calls.specs.Spans.{parts_of, state_of, IsValid, error_code, NextSpan, Renumbers}

take_front : (xs ys : List ℕ) → take (length xs) (xs ++ ys) ≡ xs
take_front [] ys = refl
take_front (x ∷ xs) ys = ap (λ (z : List ℕ). x ∷ z) (take_front xs ys)

drop_front : (xs ys : List ℕ) → drop (length xs) (xs ++ ys) ≡ ys
drop_front [] ys = refl
drop_front (x ∷ xs) ys = drop_front xs ys

-- where the parts of a piece stand
take_eaten : (B e R : List ℕ) → B ≡ e ++ R → take (length B - length R) B ≡ e
take_eaten B e R is =
    let long : length B ≡ length e + length R = ap (λ (z : List ℕ). length z) is ∙ length-append e R in
    let at : length B - length R ≡ length e = omega (arith, long) in
    ap₂ (λ (k : ℕ) (z : List ℕ). take k z) at is ∙ take_front e R

span_there : (B f s R : List ℕ) (len : ℕ) → B ≡ f ++ (s ++ R) → len ≡ length s → take len (drop (length B - length R - len) B) ≡ s
span_there B f s R len is same =
    let long : length B ≡ length f + (length s + length R) = ap (λ (z : List ℕ). length z) is ∙ length-append f (s ++ R) ∙ ap (λ (k : ℕ). length f + k) (length-append s R) in
    let at : length B - length R - len ≡ length f = omega (arith, long, same) in
    ap₂ (λ (k : ℕ) (z : List ℕ). take k z) same (ap₂ (λ (k : ℕ) (z : List ℕ). drop k z) at is ∙ drop_front f (s ++ R)) ∙ take_front s R

is_end : (b : Bool) → (bool_byte b == 1) ≡ b
is_end true = refl
is_end false = refl

end_is : (b : Bool) → b ≡ true → bool_byte b ≡ 1
end_is true e = refl
end_is false e = absurd (cc)

flag_is : (b : Bool) → bool_byte b ≤ 1
flag_is true = omega arith
flag_is false = omega arith

-- a record that a call leaves
abbrev Sets : Spans → SpanState → Type 0
Sets after d = IsTidy (parts_of after) × (CanStand d → state_of after ≡ d)

abbrev Stands : SpanState → SpanState → Type 0
Stands d e = CanStand d → CanStand e

stands_on : (d e : SpanState) (eaten : List ℕ) (spans : List (List ℕ × Bool)) → SpansStand → e.limit ≡ d.limit → SpansOn d eaten spans e → Stands d e
stands_on d e eaten spans law same on can = law d e eaten spans (omega (arith, same)) can on

is_set : (before after : Spans) (d e : SpanState) → d ≡ state_of before → IsValid before → Stands d e → Sets after e → state_of after ≡ e
is_set before after d e was valid on set = set.1 (on (subst (λ (x : SpanState). CanStand x) (sym was) valid.1))

is_valid : (before after : Spans) (d e : SpanState) → d ≡ state_of before → IsValid before → Stands d e → Sets after e → IsValid after
is_valid before after d e was valid on set =
    (set.0, subst (λ (x : SpanState). CanStand x) (sym (is_set before after d e was valid on set)) (on (subst (λ (x : SpanState). CanStand x) (sym was) valid.1)))

limit_is : (before after : Spans) (d e : SpanState) → d ≡ state_of before → state_of after ≡ e → e.limit ≡ d.limit → after.limit ≡ before.limit
limit_is before after d e was is same = ap (λ (x : SpanState). x.limit) is ∙ same ∙ ap (λ (x : SpanState). x.limit) was

pub span_taken : (B s R : List ℕ) (len : ℕ) (ends : Bool) (before after : Spans) (d e : SpanState)
    → d ≡ state_of before → IsValid before → SpansStand → EatsSpans d B ((s, ends) ∷ []) R e → length R < length B
    → (f : List ℕ) × (B ≡ f ++ (s ++ R)) × (length f ≤ 4) → (0 < length s) ⊎ (ends ≡ true) → len ≡ length s
    → e.limit ≡ d.limit → Sets after e → (after.next_id ≡ before.next_id) × (after.reserved ≡ before.reserved)
    → NextSpan B (length B - length R) len (bool_byte ends) (pos 2) before after
span_taken B s R len ends before after d e was valid law (eaten, piece, on) shorter (f, split, short) some same limit set kept =
    let stands = stands_on d e eaten ((s, ends) ∷ []) law limit on in
    let is = is_set before after d e was valid stands set in
    let long : length B ≡ length f + (length s + length R) = ap (λ (z : List ℕ). length z) split ∙ length-append f (s ++ R) ∙ ap (λ (k : ℕ). length f + k) (length-append s R) in
    record {
      span = λ _.
          subst (λ (x : SpanState). SpansOn x (take (length B - length R) B) ((take len (drop (length B - length R - len) B), bool_byte ends == 1) ∷ []) (state_of after)) was
          (subst (λ (x : SpanState). SpansOn d (take (length B - length R) B) ((take len (drop (length B - length R - len) B), bool_byte ends == 1) ∷ []) x) (sym is)
          (subst (λ (x : List ℕ). SpansOn d x ((take len (drop (length B - length R - len) B), bool_byte ends == 1) ∷ []) e) (sym (take_eaten B eaten R piece))
          (subst (λ (x : List ℕ). SpansOn d eaten ((x, bool_byte ends == 1) ∷ []) e) (sym (span_there B f s R len split same))
          (subst (λ (x : Bool). SpansOn d eaten ((s, x) ∷ []) e) (sym (is_end ends)) on))));
      eaten = λ _. (
        omega (arith, shorter),
        omega arith,
        omega (arith, long, same),
        omega (arith, long, same, short),
        elim some [
          | inl more ↦ inl (omega (arith, more, same))
          | inr last ↦ inr (end_is ends last)
        ],
      );
      waits = search rules;
      too_large = search rules;
      lost = search rules;
      invalid = (λ x. absurd (cc), λ no. absurd (no valid));
      refused = inl refl;
      none = inl refl;
      flag = flag_is ends;
      valid = λ _. is_valid before after d e was valid stands set;
      settings = (limit_is before after d e was is limit, kept.0, kept.1);
      answers = inl refl;
    }

pub span_waits : (B R : List ℕ) (len : ℕ) (before after : Spans) (d e : SpanState)
    → d ≡ state_of before → IsValid before → SpansStand → EatsSpans d B [] R e → R ≡ [] → len ≡ 0
    → e.limit ≡ d.limit → Sets after e → (after.next_id ≡ before.next_id) × (after.reserved ≡ before.reserved)
    → NextSpan B (length B) len 0 (pos 0) before after
span_waits B R len before after d e was valid law (eaten, piece, on) all none limit set kept =
    let stands = stands_on d e eaten [] law limit on in
    let is = is_set before after d e was valid stands set in
    let whole : B ≡ eaten = piece ∙ ap (λ (z : List ℕ). eaten ++ z) all ∙ append-nil eaten in
    record {
      span = search rules;
      eaten = search rules;
      waits = λ _. (
        refl,
        subst (λ (x : SpanState). SpansOn x B [] (state_of after)) was
            (subst (λ (x : SpanState). SpansOn d B [] x) (sym is)
            (subst (λ (x : List ℕ). SpansOn d x [] e) (sym whole) on)),
      );
      too_large = search rules;
      lost = search rules;
      invalid = (λ x. absurd (cc), λ no. absurd (no valid));
      refused = inr (inl refl);
      none = inr (none, refl);
      flag = omega arith;
      valid = λ _. is_valid before after d e was valid stands set;
      settings = (limit_is before after d e was is limit, kept.0, kept.1);
      answers = inr (inl refl);
    }

span_stops_at : (error : SpanError) (B : List ℕ) (len : ℕ) (before : Spans) → IsValid before → StopsBefore (state_of before) B error → len ≡ 0
    → NextSpan B 0 len 0 (error_code error) before before
span_stops_at PacketTooLarge B len before valid stops none = record {
  span = search rules;
  eaten = search rules;
  waits = search rules;
  too_large = λ _. stops;
  lost = search rules;
  invalid = (λ x. absurd (cc), λ no. absurd (no valid));
  refused = inr (inr (refl, refl));
  none = inr (none, refl);
  flag = omega arith;
  valid = λ _. valid;
  settings = (refl, refl, refl);
  answers = inr (inr (inl refl));
}
span_stops_at PacketsOutOfSync B len before valid stops none = record {
  span = search rules;
  eaten = search rules;
  waits = search rules;
  too_large = search rules;
  lost = λ _. stops;
  invalid = (λ x. absurd (cc), λ no. absurd (no valid));
  refused = inr (inr (refl, refl));
  none = inr (none, refl);
  flag = omega arith;
  valid = λ _. valid;
  settings = (refl, refl, refl);
  answers = inr (inr (inr (inl refl)));
}

pub span_stops : (error : SpanError) (code : ℤ) (B : List ℕ) (len : ℕ) (before : Spans) (d : SpanState) → code ≡ error_code error
    → d ≡ state_of before → IsValid before → StopsBefore d B error → len ≡ 0
    → NextSpan B 0 len 0 code before before
span_stops error code B len before d is was valid stops none =
    subst (λ (x : ℤ). NextSpan B 0 len 0 x before before) (sym is)
    (span_stops_at error B len before valid (subst (λ (x : SpanState). StopsBefore x B error) was stops) none)

-- the state between two packets
pub begins_valid : (limit id : ℕ) (d : SpanState) → id < 256 → d.id ≡ id → d.limit ≡ limit → IsBetween d → SpansBegin → CanStand d
begins_valid limit id d small is same between law =
    (d.id, d.limit, [], [], [], omega arith, law d d.limit (omega (arith, small, is)) between)

pub code_back : (error : SpanError) (x : ℤ) → x ≡ error_code error → to_z w32 (of_z w32 x) ≡ error_code error
code_back PacketTooLarge x e = ap (λ (z : ℤ). to_z w32 (of_z w32 z)) e
code_back PacketsOutOfSync x e = ap (λ (z : ℤ). to_z w32 (of_z w32 z)) e

-- a renumbering, by the spans that it went past
renumber_stands : (d e : SpanState) (i j count : ℕ) (old new : List ℕ) → SpansStand → e.limit ≡ d.limit → RenumbersFront d i old new count e j → Stands d e
renumber_stands d e i j count old new law same (eaten, out, rest, spans, a, b, x, y, on, off) = stands_on d e eaten spans law same on

went_at : (old new : List ℕ) (used i : ℕ) (before after : Spans) (d e : SpanState) → d ≡ state_of before → state_of after ≡ e
    → RenumbersFront d before.next_id old new used e i → RenumbersFront (state_of before) before.next_id old new used (state_of after) i
went_at old new used i before after d e was is went =
    subst (λ (x : SpanState). RenumbersFront x before.next_id old new used (state_of after) i) was
    (subst (λ (x : SpanState). RenumbersFront d before.next_id old new used x i) (sym is) went)

all_renumbered : (old new : List ℕ) (before after : Spans) (d e : SpanState)
    → d ≡ state_of before → IsValid before → SpansStand → RenumbersFront d before.next_id old new (length old) e after.next_id
    → e.limit ≡ d.limit → Sets after e → after.reserved ≡ before.reserved → length new ≡ length old
    → Renumbers old new (length old) (pos 0) before after
all_renumbered old new before after d e was valid law went limit set kept long =
    let stands = renumber_stands d e before.next_id after.next_id (length old) old new law limit went in
    let is = is_set before after d e was valid stands set in
    record {
      went = λ _. went_at old new (length old) after.next_id before after d e was is went;
      waits = λ _. refl;
      too_large = search rules;
      lost = search rules;
      place = inl refl;
      invalid = (λ x. absurd (cc), λ no. absurd (no valid));
      refused = search rules;
      same_length = long;
      valid = λ _. is_valid before after d e was valid stands set;
      settings = (limit_is before after d e was is limit, kept);
      answers = inl refl;
    }

pub renumbered : (old new : List ℕ) (used : ℕ) (code : ℤ) (before after : Spans) (d e : SpanState) → used ≡ length old → code ≡ pos 0
    → d ≡ state_of before → IsValid before → SpansStand → RenumbersFront d before.next_id old new (length old) e after.next_id
    → e.limit ≡ d.limit → Sets after e → after.reserved ≡ before.reserved → length new ≡ length old
    → Renumbers old new used code before after
renumbered old new used code before after d e all done was valid law went limit set kept long =
    subst (λ (k : ℕ). Renumbers old new k code before after) (sym all)
    (subst (λ (x : ℤ). Renumbers old new (length old) x before after) (sym done) (all_renumbered old new before after d e was valid law went limit set kept long))

part_renumbered : (error : SpanError) (old new : List ℕ) (used : ℕ) (before after : Spans) (d e : SpanState)
    → d ≡ state_of before → IsValid before → SpansStand → RenumbersFront d before.next_id old new used e after.next_id
    → StopsBefore e (drop used new) error → (used ≡ 0) ⊎ (header_came e.place ≡ [])
    → e.limit ≡ d.limit → Sets after e → after.reserved ≡ before.reserved → length new ≡ length old
    → Renumbers old new used (error_code error) before after
part_renumbered PacketTooLarge old new used before after d e was valid law went stops place limit set kept long =
    let stands = renumber_stands d e before.next_id after.next_id used old new law limit went in
    let is = is_set before after d e was valid stands set in
    record {
      went = λ _. went_at old new used after.next_id before after d e was is went;
      waits = search rules;
      too_large = λ _. subst (λ (x : SpanState). StopsBefore x (drop used new) PacketTooLarge) (sym is) stops;
      lost = search rules;
      place = inr (subst (λ (x : SpanState). (used ≡ 0) ⊎ (header_came x.place ≡ [])) (sym is) place);
      invalid = (λ x. absurd (cc), λ no. absurd (no valid));
      refused = search rules;
      same_length = long;
      valid = λ _. is_valid before after d e was valid stands set;
      settings = (limit_is before after d e was is limit, kept);
      answers = inr (inl refl);
    }
part_renumbered PacketsOutOfSync old new used before after d e was valid law went stops place limit set kept long =
    let stands = renumber_stands d e before.next_id after.next_id used old new law limit went in
    let is = is_set before after d e was valid stands set in
    record {
      went = λ _. went_at old new used after.next_id before after d e was is went;
      waits = search rules;
      too_large = search rules;
      lost = λ _. subst (λ (x : SpanState). StopsBefore x (drop used new) PacketsOutOfSync) (sym is) stops;
      place = inr (subst (λ (x : SpanState). (used ≡ 0) ⊎ (header_came x.place ≡ [])) (sym is) place);
      invalid = (λ x. absurd (cc), λ no. absurd (no valid));
      refused = search rules;
      same_length = long;
      valid = λ _. is_valid before after d e was valid stands set;
      settings = (limit_is before after d e was is limit, kept);
      answers = inr (inr (inl refl));
    }

pub renumber_stops : (error : SpanError) (old new : List ℕ) (used count : ℕ) (code : ℤ) (before after : Spans) (d e : SpanState)
    → used ≡ count → code ≡ error_code error
    → d ≡ state_of before → IsValid before → SpansStand → RenumbersFront d before.next_id old new count e after.next_id
    → StopsBefore e (drop count new) error → (count ≡ 0) ⊎ (header_came e.place ≡ [])
    → e.limit ≡ d.limit → Sets after e → after.reserved ≡ before.reserved → length new ≡ length old
    → Renumbers old new used code before after
renumber_stops error old new used count code before after d e so done was valid law went stops place limit set kept long =
    subst (λ (k : ℕ). Renumbers old new k code before after) (sym so)
    (subst (λ (x : ℤ). Renumbers old new count x before after) (sym done)
    (part_renumbered error old new count before after d e was valid law went stops place limit set kept long))
