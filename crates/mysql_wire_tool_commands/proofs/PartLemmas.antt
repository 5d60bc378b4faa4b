-- One part of a piece after another.
use Rattle.std.proofs.Common.{◌≡◌, ℕ, ◌+◌, ◌≤◌, List, ◌++◌, length, refl, sym, ap, ap₂, ◌∙◌, subst, arith, append_assoc, length-append}
use Rattle.std.proofs.lemmas.Grind.{flat_map-append}
use Rattle.std.proofs.lemmas.List.{get_or_append_left, take-append-le}
use Rattle.wire_codec.specs.Framing.{front, id_after, stream}
use Rattle.wire_codec.specs.Delivery.{chunk_len, id_at, Ending, Waiting, TooLarge, OutOfSync, Ends}
use Rattle.wire_codec.specs.Codec.{CodecState, open_id, first_id, input_of}
use Rattle.wire_codec.specs.Limited.{Limits, place_after, rest_limit, DeliversUnder}
use Rattle.wire_codec.specs.GoingOn.{GoesOn}
use Rattle.wire_codec.specs.Laws.{JoinedLimitedRuns, FramedLength}
use Rattle.mysql_wire_tool_commands.specs.declared.unframe.Verdict.{Verdict}
use Rattle.mysql_wire_tool_commands.specs.declared.unframe.Verdict.TheVariants as verdict
use Rattle.mysql_wire_tool_commands.specs.Texts.{payload_line}
use Rattle.mysql_wire_tool_commands.specs.Unframe.{TakesPiece, TakesUnder}
use Rattle.mysql_wire_tool_commands.proofs.UnframeLemmas.{id_after-append, id_after_small, open_at_id, place_after-append, length-stream}

-- the packet after these payloads began with the id after them
first_after : (before after : CodecState) (gained : List (List ℕ)) → after.id ≡ id_at (id_after (first_id before) gained) after.held
    → first_id after ≡ id_after (first_id before) gained
first_after before after gained is =
    ap (λ (z : ℕ). open_id z after.held) is
    ∙ open_at_id (id_after (first_id before) gained) after.held (id_after_small (first_id before) gained (omega arith))

-- what a part and the bytes after it deliver, where the part waits
joined_parts : JoinedLimitedRuns → (limits : Limits) (place : ℕ) (before middle : CodecState) (part behind : List ℕ) (gained others : List (List ℕ)) (ending : Ending) (unfinished rest : List ℕ)
    → DeliversUnder limits place before.held (input_of before ++ part) (first_id before) gained Waiting middle.held middle.unread
    → first_id middle ≡ id_after (first_id before) gained
    → DeliversUnder limits (place_after place gained) middle.held (input_of middle ++ behind) (first_id middle) others ending unfinished rest
    → DeliversUnder limits place before.held (input_of before ++ (part ++ behind)) (first_id before) (gained ++ others) ending unfinished rest
joined_parts joined limits place before middle part behind gained others ending unfinished rest first is second =
    let s : ℕ = id_after (first_id before) gained in
    let p : ℕ = place_after place gained in
    let here : DeliversUnder limits p middle.held (front s middle.held ++ middle.unread ++ behind) s others ending unfinished rest =
    subst (λ (z : ℕ). DeliversUnder limits p middle.held (front z middle.held ++ middle.unread ++ behind) z others ending unfinished rest) is second in
    subst (λ (z : List ℕ). DeliversUnder limits place before.held z (first_id before) (gained ++ others) ending unfinished rest)
    (append_assoc (input_of before) part behind)
    (joined limits place before.held (input_of before ++ part) (first_id before) gained middle.held middle.unread behind others ending unfinished rest first.splits
    (subst (λ (z : List ℕ). DeliversUnder limits p middle.held z s others ending unfinished rest) (append_assoc (front s middle.held) middle.unread behind) here))

-- the place after a part
part_place : FramedLength → (limits : Limits) (place : ℕ) (before middle : CodecState) (part : List ℕ) (gained : List (List ℕ))
    → DeliversUnder limits place before.held (input_of before ++ part) (first_id before) gained Waiting middle.held middle.unread
    → first_id middle ≡ id_after (first_id before) gained
    → place_after place gained + length (input_of middle) ≡ place + length (input_of before) + length part
part_place framed limits place before middle part gained delivered is =
    let came : List ℕ = stream (first_id before) gained in
    let left : List ℕ = front (id_after (first_id before) gained) middle.held ++ middle.unread in
    let e = ap (λ (z : List ℕ). length z) delivered.splits.is in
    let f = length-append came left in
    let g = length-stream framed (first_id before) place gained in
    let h = ap (λ (n : ℕ). length (front n middle.held ++ middle.unread)) is in
    let i = length-append (input_of before) part in
    omega arith

-- where the first part waits, what the next makes of it is what both make
under_joined : JoinedLimitedRuns → (limits : Limits) (place : ℕ) (before middle after : CodecState) (part behind : List ℕ) (ends : Verdict) (gained others : List (List ℕ))
    → TakesUnder limits place before part verdict.Waits gained middle → TakesUnder limits (place_after place gained) middle behind ends others after
    → TakesUnder limits place before (part ++ behind) ends (gained ++ others) after
under_joined joined limits place before middle after part behind verdict.Waits gained others first second =
    let is = first_after before middle gained first.1 in (
      joined_parts joined limits place before middle part behind gained others Waiting after.held after.unread first.0 is second.0,
      second.1 ∙ ap (λ (n : ℕ). id_at n after.held) (ap (λ (n : ℕ). id_after n others) is ∙ sym (id_after-append (first_id before) gained others)),
      second.2,
      subst (λ (n : ℕ). GoesOn limits second.2 n after) (sym (place_after-append place gained others)) second.3,
    )
under_joined joined limits place before middle after part behind verdict.TooLarge gained others first second = (
  second.0,
  second.1,
  joined_parts joined limits place before middle part behind gained others TooLarge second.0 second.1 first.0 (first_after before middle gained first.1) second.2,
)
under_joined joined limits place before middle after part behind verdict.OutOfSync gained others first second = (
  second.0,
  second.1,
  joined_parts joined limits place before middle part behind gained others OutOfSync second.0 second.1 first.0 (first_after before middle gained first.1) second.2,
)

pub parts_join : FramedLength → JoinedLimitedRuns → (before middle after : CodecState) (limit : ℕ) (part behind text more : List ℕ) (ends : Verdict)
    → TakesPiece before limit part verdict.Waits text middle → TakesPiece middle limit behind ends more after → TakesPiece before limit (part ++ behind) ends (text ++ more) after
parts_join framed joined before middle after limit part behind text more ends first second limits mark place goes_on known =
    let both = length-append part behind in
    let one = first limits mark place goes_on (λ i inside. known i (omega arith)) in
    let gained = one.0 in
    let here = part_place framed limits place before middle part gained one.2.0 (first_after before middle gained one.2.1) in
    let two = second limits one.2.2 (place_after place gained) one.2.3
    (λ i inside. ap limits (let at : place_after place gained + length (input_of middle) + i ≡ place + length (input_of before) + (length part + i) = omega (arith, here) in at) ∙ known (length part + i) (omega arith)) in (
      gained ++ two.0,
      ap₂ (λ (a b : List ℕ). a ++ b) one.1 two.1 ∙ sym (flat_map-append payload_line gained two.0),
      under_joined joined limits place before middle after part behind ends gained two.0 one.2 two.2,
    )

-- the chunk in front is the same with more bytes after it
same_chunk : (rest more : List ℕ) → 4 ≤ length rest → chunk_len (rest ++ more) ≡ chunk_len rest
same_chunk rest more there = rw (take-append-le 3 rest more (omega arith)) refl

-- where packets stop, they stop with more bytes after them
stops_longer : (limits : Limits) (place : ℕ) (held input : List ℕ) (opened : ℕ) (payloads : List (List ℕ)) (ending : Ending) (unfinished rest more : List ℕ)
    → DeliversUnder limits place held input opened payloads ending unfinished rest
    → Ends ending (id_after opened payloads) (rest_limit limits (place_after place payloads) unfinished (rest ++ more)) unfinished (rest ++ more)
    → DeliversUnder limits place held (input ++ more) opened payloads ending unfinished (rest ++ more)
stops_longer limits place held input opened payloads ending unfinished rest more stops ends =
    let front_of : List ℕ = front (id_after opened payloads) unfinished in
    record {
      splits = record {
        is = ap (λ (z : List ℕ). z ++ more) stops.splits.is ∙ append_assoc (stream opened payloads) (front_of ++ rest) more
            ∙ ap (λ (z : List ℕ). stream opened payloads ++ z) (append_assoc front_of rest more);
        held_whole = stops.splits.held_whole;
        unfinished_whole = stops.splits.unfinished_whole;
        within = stops.splits.within;
      };
      ends = ends;
    }

too_large_longer : (limits : Limits) (place : ℕ) (held input : List ℕ) (opened : ℕ) (payloads : List (List ℕ)) (unfinished rest more : List ℕ)
    → DeliversUnder limits place held input opened payloads TooLarge unfinished rest
    → DeliversUnder limits place held (input ++ more) opened payloads TooLarge unfinished (rest ++ more)
too_large_longer limits place held input opened payloads unfinished rest more stops =
    let len = length-append rest more in
    let same = same_chunk rest more stops.ends.0 in
    stops_longer limits place held input opened payloads TooLarge unfinished rest more stops (rw same ((omega (arith, len, stops.ends.0)), stops.ends.1, stops.ends.2))

out_of_sync_longer : (limits : Limits) (place : ℕ) (held input : List ℕ) (opened : ℕ) (payloads : List (List ℕ)) (unfinished rest more : List ℕ)
    → DeliversUnder limits place held input opened payloads OutOfSync unfinished rest
    → DeliversUnder limits place held (input ++ more) opened payloads OutOfSync unfinished (rest ++ more)
out_of_sync_longer limits place held input opened payloads unfinished rest more stops =
    let len = length-append rest more in
    let there : 4 ≤ length rest = omega (arith, stops.ends.0) in
    let same = same_chunk rest more there in
    let id = get_or_append_left rest more 0 3 (omega (arith, there)) in
    stops_longer limits place held input opened payloads OutOfSync unfinished rest more stops
    (rw (same, id) ((omega (arith, len, stops.ends.0)), stops.ends.1, stops.ends.2))

pub too_large_part : (before after : CodecState) (limit : ℕ) (part behind text : List ℕ) → TakesPiece before limit part verdict.TooLarge text after
    → TakesPiece before limit (part ++ behind) verdict.TooLarge text after
too_large_part before after limit part behind text takes limits mark place goes_on known =
    let both = length-append part behind in
    let one = takes limits mark place goes_on (λ i inside. known i (omega arith)) in (
      one.0,
      one.1,
      (
        one.2.0,
        one.2.1 ++ behind,
        subst (λ (z : List ℕ). DeliversUnder limits place before.held z (first_id before) one.0 TooLarge one.2.0 (one.2.1 ++ behind))
            (append_assoc (input_of before) part behind)
            (too_large_longer limits place before.held (input_of before ++ part) (first_id before) one.0 one.2.0 one.2.1 behind one.2.2),
      ),
    )

pub out_of_sync_part : (before after : CodecState) (limit : ℕ) (part behind text : List ℕ) → TakesPiece before limit part verdict.OutOfSync text after
    → TakesPiece before limit (part ++ behind) verdict.OutOfSync text after
out_of_sync_part before after limit part behind text takes limits mark place goes_on known =
    let both = length-append part behind in
    let one = takes limits mark place goes_on (λ i inside. known i (omega arith)) in (
      one.0,
      one.1,
      (
        one.2.0,
        one.2.1 ++ behind,
        subst (λ (z : List ℕ). DeliversUnder limits place before.held z (first_id before) one.0 OutOfSync one.2.0 (one.2.1 ++ behind))
            (append_assoc (input_of before) part behind)
            (out_of_sync_longer limits place before.held (input_of before ++ part) (first_id before) one.0 one.2.0 one.2.1 behind one.2.2),
      ),
    )
