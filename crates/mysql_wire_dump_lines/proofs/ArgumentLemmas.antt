-- What words on the command line ask for.
use Rattle.std.proofs.Common.{◌≡◌, ◌≢◌, ◌+◌, Bool, All, true, false, MatchBool, ◌==◌, ◌<◌, ◌≤◌, ℕ, List, [], ◌∷◌, ◌++◌, length, map, get_or, drop, take, codes, Option, Some, None, if◌then◌else◌, option_to_list, option_copied, option_map, flat_map, arith, ap, ap₂, sym, ◌∙◌, subst, refl, inl, inr, ◌⊎◌, append_assoc, append-nil}
use Rattle.std.specs.Bool.{Decides}
use Rattle.std.proofs.lemmas.Bool.{false≢true}
use Rattle.std.proofs.lemmas.Grind.{flat_map-append}
use Rattle.std.proofs.lemmas.List.{length-append, length-map, map-append, take_all, take_more, take-append-drop}
use Rattle.std.proofs.Math.Seq.{get_or-append_seam}
use Rattle.mysql_wire_dump_lines.specs.declared.arguments.Request.{Request}
use Rattle.mysql_wire_dump_lines.specs.declared.lines.LineForm.{LineForm}
use Rattle.mysql_wire_dump_lines.specs.declared.options.Options.{Options}
use Rattle.mysql_wire_dump_lines.specs.declared.options.Sides.{Sides}
use Rattle.mysql_wire_dump_lines.specs.Arguments.{AddsPart, Asks, Bars, Command, Dump, Help, Grows, IsAsked, IsNumber, IsValid, Part, Fields, Json, Limit, Client, Server, Reads, Says, Session, TakesWords, session_of, sides_of, words_of}

-- ---- the words of parts tell the parts

abbrev third : List (List ℕ) → ℕ
third words = get_or (get_or words 0 []) 2 0

-- the part in front, and the words after it
abbrev first_part : List (List ℕ) → Part × List (List ℕ)
first_part words =
    if third words == 102 then (Fields, drop 1 words) else if third words == 106 then (Json, drop 1 words) else if third words == 108 then (Limit (get_or words 1 []), drop 2 words)
    else if third words == 105 then (Client (get_or words 1 []), drop 2 words) else (Server (get_or words 1 []), drop 2 words)

first_is : (part : Part) (rest : List (List ℕ)) → first_part (words_of part ++ rest) ≡ (part, rest)
first_is Fields rest = refl
first_is Json rest = refl
first_is (Limit number) rest = refl
first_is (Client file) rest = refl
first_is (Server file) rest = refl

same_first : (a b : Part) (p q : List (List ℕ)) → words_of a ++ p ≡ words_of b ++ q → (a ≡ b) × (p ≡ q)
same_first a b p q is =
    let both = sym (first_is a p) ∙ ap first_part is ∙ first_is b q in
    (ap (λ (z : Part × List (List ℕ)). z.0) both, ap (λ (z : Part × List (List ℕ)). z.1) both)

same_part : (a b : Part) → words_of a ≡ words_of b → a ≡ b
same_part a b is = (same_first a b [] [] (ap (λ (z : List (List ℕ)). z ++ []) is)).0

no_words : (part : Part) (rest : List (List ℕ)) → words_of part ++ rest ≢ []
no_words Fields rest is = absurd (omega (arith, ap length is))
no_words Json rest is = absurd (omega (arith, ap length is))
no_words (Limit number) rest is = absurd (omega (arith, ap length is))
no_words (Client file) rest is = absurd (omega (arith, ap length is))
no_words (Server file) rest is = absurd (omega (arith, ap length is))

-- parts that begin with these words begin with these parts
behind : (a b : List Part) (rest : List (List ℕ)) → flat_map words_of a ++ rest ≡ flat_map words_of b
    → (others : List Part) × (b ≡ a ++ others) × (rest ≡ flat_map words_of others)
behind [] b rest is = (b, refl, is)
behind (x ∷ a) [] rest is = absurd (no_words x (flat_map words_of a ++ rest) (sym (append_assoc (words_of x) (flat_map words_of a) rest) ∙ is))
behind (x ∷ a) (y ∷ b) rest is =
    let same = same_first x y (flat_map words_of a ++ rest) (flat_map words_of b) (sym (append_assoc (words_of x) (flat_map words_of a) rest) ∙ is) in
    let more = behind a b rest same.1 in
    (more.0, ap₂ (λ (p : Part) (ps : List Part). p ∷ ps) (sym same.0) more.1, more.2)

-- a part has one word or two
one_or_two : (part : Part) (name word : List ℕ) (p q : List (List ℕ)) → name ∷ word ∷ p ≡ words_of part ++ q
    → (words_of part ≡ name ∷ []) ⊎ (words_of part ≡ name ∷ word ∷ [])
one_or_two Fields name word p q is = inl (sym (ap (take 1) is))
one_or_two Json name word p q is = inl (sym (ap (take 1) is))
one_or_two (Limit number) name word p q is = inr (sym (ap (take 2) is))
one_or_two (Client file) name word p q is = inr (sym (ap (take 2) is))
one_or_two (Server file) name word p q is = inr (sym (ap (take 2) is))

one_word : (part : Part) (name : List ℕ) (q : List (List ℕ)) → name ∷ [] ≡ words_of part ++ q → words_of part ≡ name ∷ []
one_word Fields name q is = sym (ap (take 1) is)
one_word Json name q is = sym (ap (take 1) is)
one_word (Limit number) name q is = absurd (omega (arith, ap length is))
one_word (Client file) name q is = absurd (omega (arith, ap length is))
one_word (Server file) name q is = absurd (omega (arith, ap length is))

no_help : (part : Part) (q : List (List ℕ)) → codes "--help" ∷ [] ≢ words_of part ++ q
no_help Fields q is = absurd (omega (arith, ap third is))
no_help Json q is = absurd (omega (arith, ap third is))
no_help (Limit number) q is = absurd (omega (arith, ap third is))
no_help (Client file) q is = absurd (omega (arith, ap third is))
no_help (Server file) q is = absurd (omega (arith, ap third is))

-- ---- a part more

pub takes_one : (part : Part) (words : List (List ℕ)) (old : Request) (result : Option Request) → words_of part ≡ words → AddsPart part old result → TakesWords words old result
takes_one part words old None is bars = λ other same. subst (λ (p : Part). Bars p old) (same_part part other (is ∙ sym same)) bars
takes_one part words old (Some new) is grows = (part, is, grows)

-- each part is valid, and so the next
next_valid : (parts others : List Part) (part : Part) → All IsValid (parts ++ part ∷ others) → IsValid part
next_valid parts others part all = subst IsValid (get_or-append_seam parts part others part) (all (length parts) part (omega (arith, length-append parts (part ∷ others))))

pub no_limit : (word : List ℕ) (old : Request) → ¬ (IsNumber word) → Bars (Limit word) old
no_limit word old unfit parts others session says all = unfit (next_valid parts others (Limit word) all.valid)

words_more : (parts : List Part) (part : Part) (words waiting : List (List ℕ)) (word : List ℕ) → words ≡ flat_map words_of parts ++ waiting → words_of part ≡ waiting ++ word ∷ []
    → words ++ word ∷ [] ≡ flat_map words_of (parts ++ part ∷ []) ++ []
words_more parts part words waiting word are is =
    ap (λ (z : List (List ℕ)). z ++ word ∷ []) are ∙ append_assoc (flat_map words_of parts) waiting (word ∷ [])
    ∙ ap (λ (z : List (List ℕ)). flat_map words_of parts ++ z) (sym is ∙ sym (append-nil (words_of part)))
    ∙ sym (flat_map-append words_of parts (part ∷ []))
    ∙ sym (append-nil (flat_map words_of (parts ++ part ∷ [])))

pub reads_part : (part : Part) (words : List (List ℕ)) (waits : Option (List ℕ)) (word : List ℕ) (old new : Request) → words_of part ≡ option_to_list waits ++ word ∷ [] → Grows part old new
    → Reads words old waits → Reads (words ++ word ∷ []) new None
reads_part part words waits word old new is grows reads = record {
  parts = reads.parts ++ part ∷ [];
  are = words_more reads.parts part words (option_to_list waits) word reads.are is;
  says = grows reads.parts reads.says;
  waiting = tt;
}

pub reads_name : (words : List (List ℕ)) (word : List ℕ) (request : Request) → ((part : Part) → words_of part ≢ word ∷ []) → Reads words request None
    → Reads (words ++ word ∷ []) request (Some word)
reads_name words word request alone reads = record {
  parts = reads.parts;
  are = ap (λ (z : List (List ℕ)). z ++ word ∷ []) (reads.are ∙ append-nil (flat_map words_of reads.parts));
  says = reads.says;
  waiting = alone;
}

-- what words ask that begin with words that were read
goes_on : (parts : List Part) (words rest : List (List ℕ)) (session : Session) → words ≡ flat_map words_of parts ++ rest → Asks words (Dump session)
    → (others : List Part) × Says (parts ++ others) session × (rest ≡ flat_map words_of others)
goes_on parts words rest session are asks =
    let found = behind parts asks.0 rest (sym are ∙ asks.1) in
    (found.0, subst (λ (z : List Part). Says z session) found.1 asks.2, found.2)

barred : (parts others : List Part) (name word : List ℕ) (more : List (List ℕ)) (request : Request) (session : Session)
    → ((part : Part) → words_of part ≢ name ∷ []) → ((part : Part) → words_of part ≡ name ∷ word ∷ [] → Bars part request)
    → Says parts (session_of request) → Says (parts ++ others) session → name ∷ word ∷ more ≢ flat_map words_of others
barred parts [] name word more request session alone bars says all is = absurd (omega (arith, ap length is))
barred parts (part ∷ others) name word more request session alone bars says all is =
    elim (one_or_two part name word more (flat_map words_of others) is) [
      | inl one ↦ alone part one
      | inr two ↦ bars part two parts others session says all
    ]

pub refused : (words : List (List ℕ)) (name word : List ℕ) (request : Request) → ((part : Part) → words_of part ≡ name ∷ word ∷ [] → Bars part request)
    → Reads words request (Some name) → (others : List (List ℕ)) (session : Session) → ¬ (Asks (words ++ word ∷ others) (Dump session))
refused words name word request bars reads others session asks =
    let found = goes_on reads.parts (words ++ word ∷ others) (name ∷ word ∷ others) session
    (ap (λ (z : List (List ℕ)). z ++ word ∷ others) reads.are ∙ append_assoc (flat_map words_of reads.parts) (name ∷ []) (word ∷ others)) asks in
    barred reads.parts found.0 name word others request session reads.waiting bars reads.says found.1 found.2

-- ---- at the end

waiting_alone : (others : List Part) (name : List ℕ) → ((part : Part) → words_of part ≢ name ∷ []) → name ∷ [] ≢ flat_map words_of others
waiting_alone [] name alone is = absurd (omega (arith, ap length is))
waiting_alone (part ∷ others) name alone is = alone part (one_word part name (flat_map words_of others) is)

pub ends_waiting : (words : List (List ℕ)) (name : List ℕ) (request : Request) → Reads words request (Some name) → (session : Session) → ¬ (Asks words (Dump session))
ends_waiting words name request reads session asks =
    let found = goes_on reads.parts words (name ∷ []) session reads.are asks in
    waiting_alone found.0 name reads.waiting found.2

same_option : (a b : Option (List ℕ)) → option_to_list a ≡ option_to_list b → a ≡ b
same_option None None is = refl
same_option None (Some y) is = absurd (omega (arith, ap length is))
same_option (Some x) None is = absurd (omega (arith, ap length is))
same_option (Some x) (Some y) is = ap (λ (z : List (List ℕ)). Some (get_or z 0 [])) is

abbrev options_of : LineForm → Bool → ℕ → Options
options_of form has_fields limit = record { form = form; has_fields = has_fields; limit = limit }

abbrev session_with : Options → Option (List ℕ) → Option (List ℕ) → Session
session_with options client server = record { options = options; client = client; server = server }

said_once : (parts : List Part) (a b : Session) → Says parts a → Says parts b → a ≡ b
said_once parts a b says same =
    let form = says.form ∙ sym same.form in
    let fields = says.has_fields ∙ sym same.has_fields in
    let limit = says.limit ∙ sym same.limit in
    let client = same_option a.client b.client (says.client ∙ sym same.client) in
    let server = same_option a.server b.server (says.server ∙ sym same.server) in
    let options : a.options ≡ b.options = ap₂ (λ (f : LineForm) (h : Bool). options_of f h a.options.limit) form fields ∙ ap (λ (l : ℕ). options_of b.options.form b.options.has_fields l) limit in
    ap₂ (λ (o : Options) (c : Option (List ℕ)). session_with o c a.server) options client ∙ ap (λ (z : Option (List ℕ)). session_with b.options b.client z) server

no_parts : (parts others : List Part) (session : Session) → [] ≡ flat_map words_of others → Says (parts ++ others) session → Says parts session
no_parts parts [] session is says = subst (λ (z : List Part). Says z session) (append-nil parts) says
no_parts parts (part ∷ others) session is says = absurd (no_words part (flat_map words_of others) (sym is))

ends_so : (parts : List Part) (words : List (List ℕ)) (a b : Session) → words ≡ flat_map words_of parts ++ [] → Says parts a → Asks words (Dump b) → a ≡ b
ends_so parts words a b are says asks =
    let found = goes_on parts words [] b are asks in
    said_once parts a b says (no_parts parts found.0 b found.2 found.1)

ends_without : (words : List (List ℕ)) (request : Request) → Reads words request None → option_copied request.client ≡ None → option_copied request.server ≡ None
    → (session : Session) → ¬ (Asks words (Dump session))
ends_without words request reads client server session asks =
    let same = ends_so reads.parts words (session_of request) session reads.are reads.says asks in
    elim asks.3 [
      | inl some ↦ some (sym (ap (λ (s : Session). s.client) same) ∙ client)
      | inr some ↦ some (sym (ap (λ (s : Session). s.server) same) ∙ server)
    ]

no_sides : {X : Type 0} (f : X → List ℕ) (client server : Option X) → sides_of client server ≡ None → (option_map f client ≡ None) × (option_map f server ≡ None)
no_sides f None None none = (refl, refl)
no_sides f None (Some server) none = cc
no_sides f (Some client) None none = cc
no_sides f (Some client) (Some server) none = cc

some_sides : {X : Type 0} (f : X → List ℕ) (client server : Option X) (sides : Sides) → sides_of client server ≡ Some sides → (option_map f client ≢ None) ⊎ (option_map f server ≢ None)
some_sides f None None sides some = cc
some_sides f None (Some server) sides some = inr (λ none. cc)
some_sides f (Some client) None sides some = inl (λ none. cc)
some_sides f (Some client) (Some server) sides some = inl (λ none. cc)

pub ends_sideless : (words : List (List ℕ)) (request : Request) → Reads words request None → sides_of request.client request.server ≡ None → (session : Session) → ¬ (Asks words (Dump session))
ends_sideless words request reads none =
    let without = no_sides (λ name. name.now) request.client request.server none in
    ends_without words request reads without.0 without.1

pub ends_asking : (words : List (List ℕ)) (request : Request) (sides : Sides) → Reads words request None → sides_of request.client request.server ≡ Some sides → Asks words (Dump (session_of request))
ends_asking words request sides reads some =
    (reads.parts, reads.are ∙ append-nil (flat_map words_of reads.parts), reads.says, some_sides (λ name. name.now) request.client request.server sides some)

-- ---- words ask for one thing

help_alone : (parts : List Part) → codes "--help" ∷ [] ≢ flat_map words_of parts
help_alone [] is = absurd (omega (arith, ap length is))
help_alone (part ∷ parts) is = no_help part (flat_map words_of parts) is

asks_once : (words : List (List ℕ)) (a b : Command) → Asks words a → Asks words b → a ≡ b
asks_once words Help Help asks same = refl
asks_once words Help (Dump b) asks same = absurd (help_alone same.0 (sym asks ∙ same.1))
asks_once words (Dump a) Help asks same = absurd (help_alone asks.0 (sym same ∙ asks.1))
asks_once words (Dump a) (Dump b) asks same =
    ap (λ (s : Session). Dump s) (ends_so asks.0 words a b (asks.1 ∙ sym (append-nil (flat_map words_of asks.0))) asks.2 same)

pub is_asked : (words : List (List ℕ)) (command : Command) → Asks words command → IsAsked words (Some command)
is_asked words command asks = record {
  asked = asks;
  exact = λ other same. ap (λ (c : Command). Some c) (asks_once words command other asks same);
}

none_asked : (words : List (List ℕ)) (command : Command) → words ≢ codes "--help" ∷ [] → ((session : Session) → ¬ (Asks words (Dump session))) → ¬ (Asks words command)
none_asked words Help help session asks = help asks
none_asked words (Dump session) help sessions asks = sessions session asks

pub nothing_asked : (words : List (List ℕ)) → words ≢ codes "--help" ∷ [] → ((session : Session) → ¬ (Asks words (Dump session))) → IsAsked words None
nothing_asked words help sessions = record {
  asked = tt;
  exact = λ command asks. absurd (none_asked words command help sessions asks);
}

-- ---- words of texts

pub words_here : {X : Type 0} (f : X → List ℕ) (xs : List X) (i : ℕ) (x : X) (word : List ℕ) → i < length xs → x ≡ get_or xs i x → word ≡ f x
    → map f (take i xs) ++ word ∷ [] ≡ map f (take (i + 1) xs)
words_here {X} f xs i x word low is text =
    ap (λ (z : List ℕ). map f (take i xs) ++ z ∷ []) (text ∙ ap f is) ∙ sym (ap (map f) (take_more xs i x low) ∙ map-append f (take i xs) (get_or xs i x ∷ []))

-- the words up to here, this one, and those after it
pub words_split : {X : Type 0} (f : X → List ℕ) (xs : List X) (i : ℕ) (x : X) (word : List ℕ) → i < length xs → x ≡ get_or xs i x → word ≡ f x
    → map f xs ≡ map f (take i xs) ++ word ∷ map f (drop (i + 1) xs)
words_split f xs i x word low is text =
    ap (map f) (sym (take-append-drop (i + 1) xs)) ∙ map-append f (take (i + 1) xs) (drop (i + 1) xs) ∙ ap (λ (z : List (List ℕ)). z ++ map f (drop (i + 1) xs)) (sym (words_here f xs i x word low is text))
    ∙ append_assoc (map f (take i xs)) (word ∷ []) (map f (drop (i + 1) xs))

pub all_words : {X : Type 0} (f : X → List ℕ) (xs : List X) (i : ℕ) → length xs ≤ i → map f (take i xs) ≡ map f xs
all_words f xs i all = ap (map f) (take_all i xs all)

pub one_word_is : {X : Type 0} (f : X → List ℕ) (xs : List X) (x : X) (word : List ℕ) → 1 ≤ length xs → length xs < 2 → x ≡ get_or xs 0 x → word ≡ f x → map f xs ≡ word ∷ []
one_word_is f [] x word low high first is = absurd (omega arith)
one_word_is f (y ∷ []) x word low high first is = cc
one_word_is f (y ∷ z ∷ xs) x word low high first is = absurd (omega arith)

pub no_one_word : {X : Type 0} (f : X → List ℕ) (xs : List X) (word : List ℕ) → length xs ≢ 1 → map f xs ≢ word ∷ []
no_one_word f xs word other is = other (sym (length-map xs f) ∙ ap (λ (z : List (List ℕ)). length z) is)

pub word_decides : (words : List (List ℕ)) (word text : List ℕ) (same : Bool) → words ≡ word ∷ [] → Decides same (word ≡ text) → MatchBool same (words ≡ text ∷ []) (words ≢ text ∷ [])
word_decides words word text true are told = are ∙ ap (λ (z : List ℕ). z ∷ []) (told.0 refl)
word_decides words word text false are told = λ is. false≢true (told.1 (ap (λ (z : List (List ℕ)). get_or z 0 []) (sym are ∙ is)))
