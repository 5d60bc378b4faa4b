-- One read after another.
use Rattle.std.proofs.Common.{◌≡◌, ◌⊎◌, ◌+◌, ◌-◌, ◌<◌, ◌≤◌, ℕ, List, [], ◌∷◌, ◌++◌, ◌∙◌, All, Option, Some, None, IfSome, IfOk, OnOk, Result, Ok, Err, length, take, refl, sym, ap, subst, arith, inl, inr, append_assoc, append-nil}
use Rattle.std.proofs.lemmas.Bool.{cases_lt, false≢true}
use Rattle.std.proofs.lemmas.List.{take-append-le, take_at, length-append}
use Rattle.std.proofs.lemmas.List.Elements.{All-nil, All-cons}
use Rattle.std.specs.Io.KnownBytes.{Consumes}
use Rattle.std.specs.Result.{IsErr}
use Rattle.mysql_wire_tool_commands.specs.declared.traced_read.OneRead.{OneRead}
use Rattle.mysql_wire_tool_commands.specs.Reads.{Makes, AskedFor, EachAskedFor, AsksUpTo, AsksStep, came, ReadsWhile}

-- a refusal is no answer
pub none_if : {T E : Type 0} (result : Result T E) (P : T → Type 0) → IsErr result → IfOk result P
none_if (Ok _) P is = absurd (false≢true is)
none_if (Err _) P is = tt

pub none_on : {T E : Type 0} (result : Result T E) (P : Type 0) → IsErr result → OnOk result P
none_on (Ok _) P is = absurd (false≢true is)
none_on (Err _) P is = tt

-- so far this many bytes came
pub record Asking (step at place : ℕ) (old new : Option (List OneRead)) : Type 0 where
  pub made : List OneRead
  pub makes : Makes old new made
  pub each : EachAskedFor step at 0 made
  pub place_is : came made ≡ place

makes_nothing : (old : Option (List OneRead)) → Makes old old []
makes_nothing None = tt
makes_nothing (Some all) = (all, refl, sym (append-nil all))

makes_more : (old new later : Option (List OneRead)) (made more : List OneRead) → Makes old new made → Makes new later more → Makes old later (made ++ more)
makes_more old new None made more first second = tt
makes_more old None (Some all) made more first (before, is, split) = absurd cc
makes_more old (Some middle) (Some all) made more (before, is, split) (between, same, last) = (before, is, (let e : middle ≡ between = cc in last ∙ ap (λ (z : List OneRead). z ++ more) (sym e ∙ split) ∙ append_assoc before made more))

each_more : (step at place : ℕ) (made : List OneRead) (read : OneRead) → EachAskedFor step at place made → AskedFor step at (place + came made) read.asked
    → EachAskedFor step at place (made ++ read ∷ [])
each_more step at place [] read each one = (subst (λ (n : ℕ). AskedFor step at n read.asked) (omega arith) one, tt)
each_more step at place (first ∷ made) read each one =
    (each.0, each_more step at (place + first.came) made read each.1 (subst (λ (n : ℕ). AskedFor step at n read.asked) (omega arith) one))

came_more : (made : List OneRead) (read : OneRead) → came (made ++ read ∷ []) ≡ came made + read.came
came_more [] read = omega arith
came_more (first ∷ made) read = let rest = came_more made read in omega arith

-- no read yet
pub asking_start : (step at : ℕ) (old : Option (List OneRead)) → Asking step at 0 old old
asking_start step at old = record {
  made = [];
  makes = makes_nothing old;
  each = tt;
  place_is = refl;
}

-- a read more, of what is asked for with this many bytes left up to the place `at`
pub asking_more : (step at place ahead : ℕ) (old new later : Option (List OneRead)) (read : OneRead) → Asking step at place old new → ahead ≡ at - place
    → 0 < read.asked → read.asked ≤ step → (0 < ahead → read.asked ≤ ahead) → (read.asked ≡ step) ⊎ (read.asked ≡ ahead)
    → Makes new later (read ∷ []) → Asking step at (place + read.came) old later
asking_more step at place ahead old new later read so_far left some at_most apart no_less makes = record {
  made = so_far.made ++ read ∷ [];
  makes = makes_more old new later so_far.made (read ∷ []) so_far.makes makes;
  each = each_more step at 0 so_far.made read so_far.each (record {
    some = some;
    at_most = at_most;
    apart = λ before. (let e = so_far.place_is in let h = apart (omega arith) in omega arith);
    no_less = (let e = so_far.place_is in elim no_less [
      | inl whole ↦ inl whole
      | inr less ↦ inr (omega arith)
    ]);
  });
  place_is = came_more so_far.made read ∙ ap (λ (n : ℕ). n + read.came) so_far.place_is;
}

pub asked_more : (step at place ahead : ℕ) (old new later : Option (List OneRead)) (read : OneRead) → Asking step at place old new → ahead ≡ at - place
    → 0 < read.asked → read.asked ≤ step → (0 < ahead → read.asked ≤ ahead) → (read.asked ≡ step) ⊎ (read.asked ≡ ahead)
    → Makes new later (read ∷ []) → AsksUpTo step at old later
asked_more step at place ahead old new later read so_far left some at_most apart no_less makes =
    let here = asking_more step at place ahead old new later read so_far left some at_most apart no_less makes in
    record {
      made = here.made;
      makes = here.makes;
      each = here.each;
    }

-- from the place on, each read is asked for a step
each_step : (step place : ℕ) (made : List OneRead) → EachAskedFor step 0 place made → All (λ (read : OneRead). read.asked ≡ step) made
each_step step place [] each = All-nil (λ (read : OneRead). read.asked ≡ step)
each_step step place (read ∷ made) each =
    let whole : read.asked ≡ step = elim each.0.no_less [
      | inl same ↦ same
      | inr less ↦ (let some = each.0.some in absurd (omega arith))
    ] in
    All-cons (λ (read : OneRead). read.asked ≡ step) read made whole (each_step step (place + read.came) made each.1)

pub asked_step : (step : ℕ) (old new : Option (List OneRead)) → AsksUpTo step 0 old new → AsksStep step old new
asked_step step old new asked = record {
  made = asked.made;
  makes = asked.makes;
  each = each_step step 0 asked.made asked.each;
}

-- so far this held before each read, and this many bytes came
pub record Waited (waits : List ℕ → Type 0) (place : ℕ) (old new : Option (List OneRead)) (unread : Option (List ℕ)) : Type 0 where
  pub made : List OneRead
  pub makes : Makes old new made
  pub each : IfSome unread (λ bytes. (index : ℕ) → index < length made → waits (take (came (take index made)) bytes))
  pub place_is : came made ≡ place

-- no read yet
pub waited_start : (waits : List ℕ → Type 0) (old : Option (List OneRead)) (unread : Option (List ℕ)) → Waited waits 0 old old unread
waited_start waits old None = record { made = []; makes = makes_nothing old; each = tt; place_is = refl }
waited_start waits old (Some bytes) = record { made = []; makes = makes_nothing old; each = λ index none. absurd (omega arith); place_is = refl }

-- before one read more, after which no other has come
each_more_waited : (waits : List ℕ → Type 0) (made : List OneRead) (read : OneRead) (bytes input rest : List ℕ)
    → ((index : ℕ) → index < length made → waits (take (came (take index made)) bytes))
    → came made ≡ length input → bytes ≡ input ++ rest → waits input
    → (index : ℕ) → index < length (made ++ read ∷ []) → waits (take (came (take index (made ++ read ∷ []))) bytes)
each_more_waited waits made read bytes input rest each place is now index inside =
    elim (cases_lt index (length made)) [
      | inl before ↦
          subst (λ (z : List OneRead). waits (take (came z) bytes)) (sym (take-append-le index made (read ∷ []) (omega arith))) (each index before)
      | inr last ↦
          let here : index ≡ length made = let len = length-append made (read ∷ []) in omega arith in
          let all : take index (made ++ read ∷ []) ≡ made = take_at made (read ∷ []) index (sym here) in
          let front : take (came made) bytes ≡ input = ap (λ (z : List ℕ). take (came made) z) is ∙ take_at input rest (came made) (sym place) in
          subst (λ (z : List OneRead). waits (take (came z) bytes)) (sym all) (subst waits (sym front) now)
    ]

pub waited_more : (waits : List ℕ → Type 0) (place : ℕ) (input : List ℕ) (old new later : Option (List OneRead)) (unread left : Option (List ℕ)) (read : OneRead)
    → Waited waits place old new unread → place ≡ length input → Consumes unread left input → waits input → Makes new later (read ∷ [])
    → Waited waits (place + read.came) old later unread
waited_more waits place input old new later None left read so_far is consumed now makes = record {
  made = so_far.made ++ read ∷ [];
  makes = makes_more old new later so_far.made (read ∷ []) so_far.makes makes;
  each = tt;
  place_is = came_more so_far.made read ∙ ap (λ (n : ℕ). n + read.came) so_far.place_is;
}
waited_more waits place input old new later (Some bytes) None read so_far is consumed now makes = absurd consumed
waited_more waits place input old new later (Some bytes) (Some rest) read so_far is consumed now makes = record {
  made = so_far.made ++ read ∷ [];
  makes = makes_more old new later so_far.made (read ∷ []) so_far.makes makes;
  each = each_more_waited waits so_far.made read bytes input rest so_far.each (so_far.place_is ∙ is) consumed now;
  place_is = came_more so_far.made read ∙ ap (λ (n : ℕ). n + read.came) so_far.place_is;
}

pub waited : (waits : List ℕ → Type 0) (place : ℕ) (old new : Option (List OneRead)) (unread : Option (List ℕ)) → Waited waits place old new unread → ReadsWhile waits old new unread
waited waits place old new unread so_far = record { made = so_far.made; makes = so_far.makes; each = so_far.each }

-- and so where what holds says something else
pub while_alike : (waits other : List ℕ → Type 0) (old new : Option (List OneRead)) (unread : Option (List ℕ)) → ((front : List ℕ) → waits front → other front)
    → ReadsWhile waits old new unread → ReadsWhile other old new unread
while_alike waits other old new None gives told = record { made = told.made; makes = told.makes; each = tt }
while_alike waits other old new (Some bytes) gives told = record { made = told.made; makes = told.makes; each = λ index inside. gives _ (told.each index inside) }
