-- What words on the command line ask for.
use Rattle.std.proofs.Common.{◌≡◌, ◌<◌, ◌≤◌, ◌-◌, ℕ, List, [], ◌∷◌, length, map, get_or, drop, take, codes, Option, Some, None, IfSome, ◌↔◌, arith, ap, ap₂, sym, ◌∙◌, subst, refl, inl, inr, ◌⊎◌, ◌≢◌}
use Rattle.std.proofs.lemmas.List.{length-map, take_all}
use Rattle.std.specs.Str.Parse.{digits_value}
use Rattle.mysql_wire_tool_commands.specs.declared.arguments.Request.{Request}
use Rattle.mysql_wire_tool_commands.specs.declared.arguments.Request.TheVariants.{Frame, Chunk, Unframe, UnframeLimited, Reframe}
use Rattle.mysql_wire_tool_commands.specs.Numbers.{IsNumber, IsStep}
use Rattle.mysql_wire_tool_commands.specs.Arguments.{Asks, Asked, RequestEnds}
use Rattle.std.specs.Io.KnownBytes.{Keeps}

-- the letter that the words begin with: no two names have the same
abbrev letter : List (List ℕ) → ℕ
letter [] = 0
letter ([] ∷ words) = 0
letter ((first ∷ word) ∷ words) = first

abbrev behind : List (List ℕ) → List (List ℕ)
behind [] = []
behind (name ∷ words) = words

-- one word, which writes a number of at most this much
abbrev One : List (List ℕ) → ℕ → (ℕ → Request) → Request → Type 0
One words most made request = (word : List ℕ) × (words ≡ word ∷ []) × IsNumber word most × (request ≡ made (digits_value 10 word))

asks_frame : (words : List (List ℕ)) (request : Request) → Asks (codes "frame" ∷ words) request → One words 255 (λ id. Frame id) request
asks_frame words (Frame id) asks = (asks.0, ap behind asks.1, asks.2, ap (λ (n : ℕ). Frame n) (sym asks.3))
asks_frame words Chunk asks = absurd (omega (arith, ap letter asks))
asks_frame words (Unframe step limit) asks = absurd (omega (arith, ap letter asks.2))
asks_frame words (UnframeLimited step limit later at) asks = absurd (omega (arith, ap letter asks.4))
asks_frame words (Reframe limit) asks = absurd (omega (arith, ap letter asks.1))

asks_reframe : (words : List (List ℕ)) (request : Request) → Asks (codes "reframe" ∷ words) request → One words 4294967295 (λ limit. Reframe limit) request
asks_reframe words (Frame id) asks = absurd (omega (arith, ap letter asks.1))
asks_reframe words Chunk asks = absurd (omega (arith, ap letter asks))
asks_reframe words (Unframe step limit) asks = absurd (omega (arith, ap letter asks.2))
asks_reframe words (UnframeLimited step limit later at) asks = absurd (omega (arith, ap letter asks.4))
asks_reframe words (Reframe limit) asks = (asks.0, ap behind asks.1, asks.2, ap (λ (n : ℕ). Reframe n) (sym asks.3))

asks_chunk : (words : List (List ℕ)) (request : Request) → Asks (codes "chunk" ∷ words) request → (words ≡ []) × (request ≡ Chunk)
asks_chunk words (Frame id) asks = absurd (omega (arith, ap letter asks.1))
asks_chunk words Chunk asks = (ap behind asks, refl)
asks_chunk words (Unframe step limit) asks = absurd (omega (arith, ap letter asks.2))
asks_chunk words (UnframeLimited step limit later at) asks = absurd (omega (arith, ap letter asks.4))
asks_chunk words (Reframe limit) asks = absurd (omega (arith, ap letter asks.1))

-- a step and a limit, and then another limit and a place
abbrev Two : List (List ℕ) → Request → Type 0
Two words request =
    (first : List ℕ) × (second : List ℕ) × (words ≡ first ∷ second ∷ []) × IsStep first × IsNumber second 4294967295
    × (request ≡ Unframe (digits_value 10 first) (digits_value 10 second))

abbrev Four : List (List ℕ) → Request → Type 0
Four words request =
    (first : List ℕ) × (second : List ℕ) × (third : List ℕ) × (fourth : List ℕ) × (words ≡ first ∷ second ∷ third ∷ fourth ∷ [])
    × IsStep first × IsNumber second 4294967295 × IsNumber third 4294967295 × IsNumber fourth 4294967295
    × (request ≡ UnframeLimited (digits_value 10 first) (digits_value 10 second) (digits_value 10 third) (digits_value 10 fourth))

asks_unframe : (words : List (List ℕ)) (request : Request) → Asks (codes "unframe" ∷ words) request → Two words request ⊎ Four words request
asks_unframe words (Frame id) asks = absurd (omega (arith, ap letter asks.1))
asks_unframe words Chunk asks = absurd (omega (arith, ap letter asks))
asks_unframe words (Unframe step limit) asks =
    inl (asks.0, asks.1, ap behind asks.2, (asks.3, omega (arith, asks.4, asks.5)), asks.6, ap₂ (λ (a b : ℕ). Unframe a b) (sym asks.4) (sym asks.7))
asks_unframe words (UnframeLimited step limit later at) asks = inr (
  asks.0,
  asks.1,
  asks.2,
  asks.3,
  ap behind asks.4,
  (asks.5, omega (arith, asks.6, asks.7)),
  asks.8,
  asks.10,
  asks.12,
  ap₂ (λ (a b : ℕ). UnframeLimited a b later at) (sym asks.6) (sym asks.9) ∙ ap₂ (λ (a b : ℕ). UnframeLimited (digits_value 10 asks.0) (digits_value 10 asks.1) a b) (sym asks.11) (sym asks.13),
)
asks_unframe words (Reframe limit) asks = absurd (omega (arith, ap letter asks.1))

-- each request has a name
asks_named : (words : List (List ℕ)) (request : Request) → Asks words request
    → ((rest : List (List ℕ)) × (words ≡ codes "frame" ∷ rest)) ⊎ ((rest : List (List ℕ)) × (words ≡ codes "chunk" ∷ rest))
    ⊎ ((rest : List (List ℕ)) × (words ≡ codes "reframe" ∷ rest)) ⊎ ((rest : List (List ℕ)) × (words ≡ codes "unframe" ∷ rest))
asks_named words (Frame id) asks = inl (_, asks.1)
asks_named words Chunk asks = inr (inl (_, asks))
asks_named words (Unframe step limit) asks = inr (inr (inr (_, asks.2)))
asks_named words (UnframeLimited step limit later at) asks = inr (inr (inr (_, asks.4)))
asks_named words (Reframe limit) asks = inr (inr (inl (_, asks.1)))

-- the same words have the same numbers
first_word : (words : List (List ℕ)) (a b : List ℕ) → words ≡ a ∷ [] → words ≡ b ∷ [] → a ≡ b
first_word words a b is same = ap (λ (z : List (List ℕ)). get_or z 0 []) (sym is ∙ same)

pub frame_asked : (words : List (List ℕ)) (word : List ℕ) (id : ℕ) → words ≡ word ∷ [] → IsNumber word 255 → id ≡ digits_value 10 word → Asked (codes "frame" ∷ words) (Some (Frame id))
frame_asked words word id is fits value = record {
  asked = (word, ap (λ (z : List (List ℕ)). codes "frame" ∷ z) is, fits, sym value);
  exact = λ request asks. let known = asks_frame words request asks in
      ap (λ (r : Request). Some r) (ap (λ (n : ℕ). Frame n) (value ∙ ap (digits_value 10) (first_word words word known.0 is known.1)) ∙ sym known.3);
}

pub reframe_asked : (words : List (List ℕ)) (word : List ℕ) (limit : ℕ) → words ≡ word ∷ [] → IsNumber word 4294967295 → limit ≡ digits_value 10 word
    → Asked (codes "reframe" ∷ words) (Some (Reframe limit))
reframe_asked words word limit is fits value = record {
  asked = (word, ap (λ (z : List (List ℕ)). codes "reframe" ∷ z) is, fits, sym value);
  exact = λ request asks. let known = asks_reframe words request asks in
      ap (λ (r : Request). Some r) (ap (λ (n : ℕ). Reframe n) (value ∙ ap (digits_value 10) (first_word words word known.0 is known.1)) ∙ sym known.3);
}

pub frame_refused : (words : List (List ℕ)) (word : List ℕ) → words ≡ word ∷ [] → ¬ (IsNumber word 255) → Asked (codes "frame" ∷ words) None
frame_refused words word is unfit = record {
  asked = tt;
  exact = λ request asks. let known = asks_frame words request asks in
      absurd (unfit (subst (λ (z : List ℕ). IsNumber z 255) (first_word words known.0 word known.1 is) known.2));
}

pub reframe_refused : (words : List (List ℕ)) (word : List ℕ) → words ≡ word ∷ [] → ¬ (IsNumber word 4294967295) → Asked (codes "reframe" ∷ words) None
reframe_refused words word is unfit = record {
  asked = tt;
  exact = λ request asks. let known = asks_reframe words request asks in
      absurd (unfit (subst (λ (z : List ℕ). IsNumber z 4294967295) (first_word words known.0 word known.1 is) known.2));
}

-- as many words as no command of this name takes
pub frame_count : {X : Type 0} (f : X → List ℕ) (words : List X) → length words ≢ 1 → Asked (codes "frame" ∷ map f words) None
frame_count f words other = record {
  asked = tt;
  exact = λ request asks. let known = asks_frame (map f words) request asks in
      absurd (other (sym (length-map words f) ∙ ap (λ (z : List (List ℕ)). length z) known.1));
}

pub reframe_count : {X : Type 0} (f : X → List ℕ) (words : List X) → length words ≢ 1 → Asked (codes "reframe" ∷ map f words) None
reframe_count f words other = record {
  asked = tt;
  exact = λ request asks. let known = asks_reframe (map f words) request asks in
      absurd (other (sym (length-map words f) ∙ ap (λ (z : List (List ℕ)). length z) known.1));
}

chunk_alone : (words : List (List ℕ)) → words ≡ [] → Asked (codes "chunk" ∷ words) (Some Chunk)
chunk_alone words is = record {
  asked = ap (λ (z : List (List ℕ)). codes "chunk" ∷ z) is;
  exact = λ request asks. ap (λ (r : Request). Some r) (sym (asks_chunk words request asks).1);
}

pub chunk_asked : {X : Type 0} (f : X → List ℕ) (words : List X) → length words < 1 → Asked (codes "chunk" ∷ map f words) (Some Chunk)
chunk_asked f [] none = chunk_alone [] refl
chunk_asked f (word ∷ words) none = absurd (omega arith)

pub chunk_count : {X : Type 0} (f : X → List ℕ) (words : List X) → length words ≢ 0 → Asked (codes "chunk" ∷ map f words) None
chunk_count f words other = record {
  asked = tt;
  exact = λ request asks.
      absurd (other (sym (length-map words f) ∙ ap (λ (z : List (List ℕ)). length z) (asks_chunk (map f words) request asks).0));
}

pub unframe_count : {X : Type 0} (f : X → List ℕ) (words : List X) → length words ≢ 2 → length words ≢ 4 → Asked (codes "unframe" ∷ map f words) None
unframe_count f words two four = record {
  asked = tt;
  exact = λ request asks. absurd (elim (asks_unframe (map f words) request asks) [
    | inl known ↦ two (sym (length-map words f) ∙ ap (λ (z : List (List ℕ)). length z) known.2)
    | inr known ↦ four (sym (length-map words f) ∙ ap (λ (z : List (List ℕ)). length z) known.4)
  ]);
}

pub two_asked : (first second : List ℕ) (step limit : ℕ) → IsStep first → IsNumber second 4294967295 → step ≡ digits_value 10 first → limit ≡ digits_value 10 second
    → Asked (codes "unframe" ∷ first ∷ second ∷ []) (Some (Unframe step limit))
two_asked first second step limit is_step is_limit s l = record {
  asked = (first, second, refl, is_step.0, sym s, omega (arith, s, is_step.1), is_limit, sym l);
  exact = λ request asks. ap (λ (r : Request). Some r) (elim (asks_unframe (first ∷ second ∷ []) request asks) [
    | inl known ↦
        ap₂ (λ (a b : ℕ). Unframe a b) (s ∙ ap (λ (z : List (List ℕ)). digits_value 10 (get_or z 0 [])) known.2) (l ∙ ap (λ (z : List (List ℕ)). digits_value 10 (get_or z 1 [])) known.2)
        ∙ sym known.5
    | inr known ↦ absurd (omega (arith, ap (λ (z : List (List ℕ)). length z) known.4))
  ]);
}

pub two_refused : (first second : List ℕ) → ¬ (IsStep first × IsNumber second 4294967295) → Asked (codes "unframe" ∷ first ∷ second ∷ []) None
two_refused first second unfit = record {
  asked = tt;
  exact = λ request asks. absurd (elim (asks_unframe (first ∷ second ∷ []) request asks) [
    | inl known ↦ unfit (subst (λ (z : List (List ℕ)). IsStep (get_or z 0 []) × IsNumber (get_or z 1 []) 4294967295) (sym known.2) (known.3, known.4))
    | inr known ↦ omega (arith, ap (λ (z : List (List ℕ)). length z) known.4)
  ]);
}

pub four_asked : (first second third fourth : List ℕ) (step limit later at : ℕ) → IsStep first → IsNumber second 4294967295 → IsNumber third 4294967295 → IsNumber fourth 4294967295
    → step ≡ digits_value 10 first → limit ≡ digits_value 10 second → later ≡ digits_value 10 third → at ≡ digits_value 10 fourth
    → Asked (codes "unframe" ∷ first ∷ second ∷ third ∷ fourth ∷ []) (Some (UnframeLimited step limit later at))
four_asked first second third fourth step limit later at is_step is_limit is_later is_place s l m p = record {
  asked = (first, second, third, fourth, refl, is_step.0, sym s, omega (arith, s, is_step.1), is_limit, sym l, is_later, sym m, is_place, sym p);
  exact = λ request asks. ap (λ (r : Request). Some r) (elim (asks_unframe (first ∷ second ∷ third ∷ fourth ∷ []) request asks) [
    | inl known ↦ absurd (omega (arith, ap (λ (z : List (List ℕ)). length z) known.2))
    | inr known ↦
        ap₂ (λ (a b : ℕ). UnframeLimited a b later at) s l ∙ ap₂ (λ (a b : ℕ). UnframeLimited (digits_value 10 first) (digits_value 10 second) a b) m p
        ∙ ap (λ (z : List (List ℕ)). UnframeLimited (digits_value 10 (get_or z 0 [])) (digits_value 10 (get_or z 1 [])) (digits_value 10 (get_or z 2 [])) (digits_value 10 (get_or z 3 []))) known.4
        ∙ sym known.9
  ]);
}

pub four_refused : (first second third fourth : List ℕ) → ¬ (IsStep first × IsNumber second 4294967295 × IsNumber third 4294967295 × IsNumber fourth 4294967295)
    → Asked (codes "unframe" ∷ first ∷ second ∷ third ∷ fourth ∷ []) None
four_refused first second third fourth unfit = record {
  asked = tt;
  exact = λ request asks. absurd (elim (asks_unframe (first ∷ second ∷ third ∷ fourth ∷ []) request asks) [
    | inl known ↦ omega (arith, ap (λ (z : List (List ℕ)). length z) known.2)
    | inr known ↦ unfit (subst (λ (z : List (List ℕ)). IsStep (get_or z 0 []) × IsNumber (get_or z 1 []) 4294967295 × IsNumber (get_or z 2 []) 4294967295 × IsNumber (get_or z 3 []) 4294967295)
        (sym known.4) (known.5, known.6, known.7, known.8))
  ]);
}

-- a list of a few words
pub map_one : {X : Type 0} (f : X → List ℕ) (xs : List X) (x : X) (a : List ℕ) → 1 ≤ length xs → length xs < 2 → x ≡ get_or xs 0 x → a ≡ f x → map f xs ≡ a ∷ []
map_one f [] x a low high first is = absurd (omega arith)
map_one f (y ∷ []) x a low high first is = cc
map_one f (y ∷ z ∷ xs) x a low high first is = absurd (omega arith)

map_two : {X : Type 0} (f : X → List ℕ) (xs : List X) (x y : X) → 2 ≤ length xs → length xs < 3 → x ≡ get_or xs 0 x → y ≡ get_or xs 1 y → map f xs ≡ f x ∷ f y ∷ []
map_two f [] x y low high first second = absurd (omega arith)
map_two f (a ∷ []) x y low high first second = absurd (omega arith)
map_two f (a ∷ b ∷ []) x y low high first second = cc
map_two f (a ∷ b ∷ d ∷ xs) x y low high first second = absurd (omega arith)

map_four : {X : Type 0} (f : X → List ℕ) (xs : List X) (w x y z : X) → 4 ≤ length xs → length xs < 5 → w ≡ get_or xs 0 w → x ≡ get_or xs 1 x → y ≡ get_or xs 2 y → z ≡ get_or xs 3 z
    → map f xs ≡ f w ∷ f x ∷ f y ∷ f z ∷ []
map_four f [] w x y z low high first second third fourth = absurd (omega arith)
map_four f (a ∷ []) w x y z low high first second third fourth = absurd (omega arith)
map_four f (a ∷ b ∷ []) w x y z low high first second third fourth = absurd (omega arith)
map_four f (a ∷ b ∷ d ∷ []) w x y z low high first second third fourth = absurd (omega arith)
map_four f (a ∷ b ∷ d ∷ e ∷ []) w x y z low high first second third fourth = cc
map_four f (a ∷ b ∷ d ∷ e ∷ h ∷ xs) w x y z low high first second third fourth = absurd (omega arith)

-- what they ask for, told of their texts
pub of_two : {X : Type 0} (f : X → List ℕ) (xs : List X) (x y : X) (a b : List ℕ) (answer : Option Request) → 2 ≤ length xs → length xs < 3 → x ≡ get_or xs 0 x → y ≡ get_or xs 1 y
    → a ≡ f x → b ≡ f y → Asked (codes "unframe" ∷ a ∷ b ∷ []) answer → Asked (codes "unframe" ∷ map f xs) answer
of_two f xs x y a b answer low high first second is_a is_b told =
    subst (λ (z : List (List ℕ)). Asked (codes "unframe" ∷ z) answer) (ap₂ (λ (v w : List ℕ). v ∷ w ∷ []) is_a is_b ∙ sym (map_two f xs x y low high first second)) told

pub of_four : {X : Type 0} (f : X → List ℕ) (xs : List X) (w x y z : X) (a b d e : List ℕ) (answer : Option Request) → 4 ≤ length xs → length xs < 5
    → w ≡ get_or xs 0 w → x ≡ get_or xs 1 x → y ≡ get_or xs 2 y → z ≡ get_or xs 3 z → a ≡ f w → b ≡ f x → d ≡ f y → e ≡ f z
    → Asked (codes "unframe" ∷ a ∷ b ∷ d ∷ e ∷ []) answer → Asked (codes "unframe" ∷ map f xs) answer
of_four f xs w x y z a b d e answer low high first second third fourth is_a is_b is_d is_e told =
    subst (λ (l : List (List ℕ)). Asked (codes "unframe" ∷ l) answer)
    (ap₂ (λ (s t : List ℕ). s ∷ t ∷ d ∷ e ∷ []) is_a is_b ∙ ap₂ (λ (s t : List ℕ). f w ∷ f x ∷ s ∷ t ∷ []) is_d is_e ∙ sym (map_four f xs w x y z low high first second third fourth)) told

-- a name, and the words after it
pub named : {X : Type 0} (f : X → List ℕ) (xs : List X) (x : X) (name text : List ℕ) (answer : Option Request) → 1 ≤ length xs → x ≡ get_or xs 0 x → name ≡ f x → name ≡ text
    → Asked (text ∷ map f (take (length xs - 1) (drop 1 xs))) answer → Asked (map f xs) answer
named f [] x name text answer some first is same told = absurd (omega arith)
named {X} f (y ∷ xs) x name text answer some first is same told =
    let other = take_all (length (y ∷ xs) - 1) xs (omega arith) in
    let read : f y ≡ text = ap f (sym first) ∙ sym is ∙ same in
    subst (λ (z : List ℕ). Asked (z ∷ map f xs) answer) (sym read) (subst (λ (z : List X). Asked (text ∷ map f z) answer) other told)

-- no name
none_named : Asked [] None
none_named = record {
  asked = tt;
  exact = λ request asks. absurd (elim (asks_named [] request asks) [
    | inl frame ↦ omega (arith, ap letter frame.1)
    | inr (inl chunk) ↦ omega (arith, ap letter chunk.1)
    | inr (inr (inl reframe)) ↦ omega (arith, ap letter reframe.1)
    | inr (inr (inr unframe)) ↦ omega (arith, ap letter unframe.1)
  ]);
}

pub nothing_named : {X : Type 0} (f : X → List ℕ) (words : List X) → length words < 1 → Asked (map f words) None
nothing_named f [] none = none_named
nothing_named f (word ∷ words) none = absurd (omega arith)

-- a name of none
another_name : (name : List ℕ) (rest : List (List ℕ)) → name ≢ codes "frame" → name ≢ codes "chunk" → name ≢ codes "reframe" → name ≢ codes "unframe" → Asked (name ∷ rest) None
another_name name rest no_frame no_chunk no_reframe no_unframe = record {
  asked = tt;
  exact = λ request asks. absurd (elim (asks_named (name ∷ rest) request asks) [
    | inl known ↦ no_frame (ap (λ (z : List (List ℕ)). get_or z 0 []) known.1)
    | inr (inl known) ↦ no_chunk (ap (λ (z : List (List ℕ)). get_or z 0 []) known.1)
    | inr (inr (inl known)) ↦ no_reframe (ap (λ (z : List (List ℕ)). get_or z 0 []) known.1)
    | inr (inr (inr known)) ↦ no_unframe (ap (λ (z : List (List ℕ)). get_or z 0 []) known.1)
  ]);
}

pub other_name : {X : Type 0} (f : X → List ℕ) (xs : List X) (x : X) (name : List ℕ) → 1 ≤ length xs → x ≡ get_or xs 0 x → name ≡ f x
    → name ≢ codes "frame" → name ≢ codes "chunk" → name ≢ codes "reframe" → name ≢ codes "unframe" → Asked (map f xs) None
other_name f [] x name some first is no_frame no_chunk no_reframe no_unframe = absurd (omega arith)
other_name f (y ∷ xs) x name some first is no_frame no_chunk no_reframe no_unframe =
    subst (λ (z : List ℕ). Asked (z ∷ map f xs) None) (is ∙ ap f first) (another_name name (map f xs) no_frame no_chunk no_reframe no_unframe)

abbrev request_of : Option Request → Request → Request
request_of None other = other
request_of (Some request) other = request

nothing_is_something : (request : Request) → None ≢ Some request
nothing_is_something request is = cc

-- what a command line makes of readers and writers that tell their bytes
abbrev pub Runs : List (List ℕ) → ℕ → Option (List ℕ) → Option (List ℕ) → Option (List ℕ) → Option (List ℕ) → Type 0
Runs words status unread left written now =
    ((request : Request) → Asks words request → RequestEnds request status unread left written now) × ((status ≡ 1) ↔ ((request : Request) → ¬ (Asks words request)))
    × (status ≡ 1 → Keeps unread left × Keeps written now)

-- words that ask for this
pub runs_request : (words : List (List ℕ)) (answer : Option Request) (request : Request) (status : ℕ) (unread left written now : Option (List ℕ))
    → Asked words answer → answer ≡ Some request → status ≢ 1 → RequestEnds request status unread left written now → Runs words status unread left written now
runs_request words answer request status unread left written now told is other ends =
    let asks : Asks words request = subst (λ (z : Option Request). IfSome z (Asks words)) is told.asked in (
      λ r a. subst (λ (z : Request). RequestEnds z status unread left written now) (ap (λ (z : Option Request). request_of z request) (sym is ∙ told.exact r a)) ends,
      (λ one. absurd (other one), λ none. absurd (none request asks)),
      λ one. absurd (other one),
    )

-- words that ask for nothing
pub runs_nothing : (words : List (List ℕ)) (answer : Option Request) (status : ℕ) (unread left written now : Option (List ℕ)) → Asked words answer → answer ≡ None → status ≡ 1
    → Keeps unread left → Keeps written now → Runs words status unread left written now
runs_nothing words answer status unread left written now told is one read write = (
  λ r a. absurd (nothing_is_something r (sym is ∙ told.exact r a)),
  (λ _ r a. nothing_is_something r (sym is ∙ told.exact r a), λ _. one),
  λ _. (read, write),
)
