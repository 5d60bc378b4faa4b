-- A few bytes that go into an array, and back.
use Rattle.std.proofs.Common.{◌≡◌, ℕ, ◌+◌, ◌≤◌, List, [], ◌++◌, length, take, drop, length-append, length-take, take_at, sym, ap, ◌∙◌, arith}

-- they are in front of what was there
pub front_there : (n : ℕ) (new old : List ℕ) → length new ≡ length (take n old) → n ≤ length old → n ≤ length (new ++ drop n old)
front_there n new old same h = let all = length-append new (drop n old) in let len = length-take n old in omega arith

front_is : (n : ℕ) (new old : List ℕ) → length new ≡ length (take n old) → n ≤ length old → take n (new ++ drop n old) ≡ new
front_is n new old same h = take_at new (drop n old) n (let len = length-take n old in omega arith)

pub front_len : (n : ℕ) (new old : List ℕ) → length new ≡ length (take n old) → n ≤ length old → n ≡ length (take n (new ++ drop n old))
front_len n new old same h = sym (ap (λ (z : List ℕ). length z) (front_is n new old same h) ∙ (let len = length-take n old in omega arith))

-- there is room for as many as were there
pub front_fits : (n : ℕ) (new old bytes : List ℕ) (spare room : ℕ) → length new ≡ length (take n old) → n ≤ length old → n ≡ length bytes → length bytes + spare ≤ room
    → length (take n (new ++ drop n old)) ≤ room
front_fits n new old bytes spare room same h is fits = let len = front_len n new old same h in omega arith

-- and they are the same again
pub put_back : (n : ℕ) (new old bytes slice cleared items : List ℕ) → length new ≡ length (take n old) → n ≤ length old → cleared ≡ [] → items ≡ cleared ++ take n (new ++ drop n old)
    → new ≡ slice → slice ≡ bytes → items ≡ bytes
put_back n new old bytes slice cleared items same h none put is slice_is =
    put ∙ ap (λ (z : List ℕ). z ++ take n (new ++ drop n old)) none ∙ front_is n new old same h ∙ is ∙ slice_is
