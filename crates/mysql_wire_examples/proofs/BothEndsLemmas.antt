-- A packet from one end to the other.
use Rattle.std.proofs.Common.{◌≡◌, ℕ, ◌+◌, ◌%◌, ◌<◌, ◌≤◌, ◌↔◌, List, [], ◌∷◌, ◌++◌, length, take, arith, ap, sym, subst, ◌∙◌, append-nil, append_assoc, refl, Option, Some, None, IsSome, Result, Ok, OnOk, Err, inl, inr, take_all}
use Rattle.std.proofs.lemmas.Bool.{cases_lt}
use Rattle.std.proofs.lemmas.List.Elements.{All-nil, All-cons}
use Rattle.std.specs.Borrow.{Bor}
use Rattle.mysql_wire.specs.Codec.{CodecState, Stands, codec_state, first_id, input_of}
use Rattle.mysql_wire.specs.Counted.{Encoded}
use Rattle.mysql_wire.specs.Delivery.{Delivers, Waiting, id_at}
use Rattle.mysql_wire.specs.Framing.{max_payload, framing, next_id, stream, id_after}
use Rattle.mysql_wire.specs.Laws.{BetweenPackets, ChunksCounted, EncodedFirst, NothingRead, OneDelivery, empty_state}
use Rattle.mysql_wire.specs.PacketCodecError.{PacketCodecError}
use Rattle.mysql_wire.specs.PacketCodecError.TheVariants.{PacketTooLarge}
use Rattle.mysql_wire.specs.Runs.{RunsTo, joined}
use Rattle.mysql_wire_examples.specs.BothEnds.{IsIdle, InStep, chunks_in, points}
use Rattle.mysql_wire_examples.specs.declared.both_ends.End.{End}

-- an end to which nothing is on its way
pub idle_state : {A : Type 0} (id : ℕ) (end : End A) → IsIdle id end → codec_state end.codec end.input.items end.unfinished.items ≡ empty_state id end.codec.max_allowed_packet
idle_state id end idle =
    λ i. record { limit = end.codec.max_allowed_packet; id = idle.id_is i; header = idle.header i; unread = idle.nothing_unread i; held = idle.nothing_held i }

pub idle_stands : {A : Type 0} (id : ℕ) (end : End A) → BetweenPackets → IsIdle id end → Stands (codec_state end.codec end.input.items end.unfinished.items)
idle_stands id end between idle =
    subst Stands (sym (idle_state id end idle)) (between (empty_state id end.codec.max_allowed_packet) idle.small refl refl).0

-- where nothing is unread no header is remembered
no_header : (header : Option (ℕ × ℕ)) (src : List ℕ) → src ≡ [] → (IsSome header ↔ (4 ≤ length src)) → header ≡ None
no_header None src none told = refl
no_header (Some h) src none told = absurd (let long = told.0 refl in let len = ap (λ (z : List ℕ). length z) none in omega arith)

id_of_nothing : (first : ℕ) → first < 256 → id_at first [] ≡ first
unfolding max_payload
id_of_nothing first small = omega arith

-- what the other end makes of one packet's framing
pub record Takes (id : ℕ) (packet : List ℕ) (gained : List (List ℕ)) (after : CodecState) : Type 0 where
  pub gained_is : gained ≡ packet ∷ []
  pub id_is : after.id ≡ next_id id packet
  pub header : after.header ≡ None
  pub nothing_unread : after.unread ≡ []
  pub nothing_held : after.held ≡ []

pub takes_packet : BetweenPackets → EncodedFirst → NothingRead → OneDelivery → (id limit : ℕ) (packet : List ℕ) (gained : List (List ℕ)) (after : CodecState)
    → id < 256 → length packet ≤ limit → RunsTo (empty_state id limit) (framing id packet) (Ok tt) gained after → Takes id packet gained after
takes_packet between encoded nothing one id limit packet gained after small fits run =
    let next : ℕ = next_id id packet in
    let here = between (empty_state id limit) small refl refl in
    let there = between (empty_state next limit) (omega arith) refl refl in
    let input : input_of (empty_state id limit) ++ framing id packet ≡ stream id (packet ∷ []) ++ [] =
    ap (λ (z : List ℕ). z ++ framing id packet) here.2 ∙ sym (append-nil (framing id packet)) ∙ sym (append-nil (framing id packet ++ [])) in
    let delivered : Delivers [] (stream id (packet ∷ []) ++ []) id limit gained Waiting after.held after.unread =
    subst (λ (z : List ℕ). Delivers [] z id limit gained Waiting after.held after.unread) input
    (subst (λ (n : ℕ). Delivers [] (input_of (empty_state id limit) ++ framing id packet) n limit gained Waiting after.held after.unread) here.1 run.0) in
    let split = encoded id limit (packet ∷ []) gained [] Waiting after.held after.unread
    (All-cons (λ (payload : List ℕ). length payload ≤ limit) packet [] fits (All-nil (λ (payload : List ℕ). length payload ≤ limit))) delivered in
    let empty : Delivers [] [] next limit [] Waiting [] [] =
    subst (λ (z : List ℕ). Delivers [] z next limit [] Waiting [] []) (append-nil (input_of (empty_state next limit)) ∙ there.2)
    (subst (λ (n : ℕ). Delivers [] (input_of (empty_state next limit) ++ []) n limit [] Waiting [] []) there.1 (nothing next limit (omega arith)).0) in
    let none = one [] [] next limit split.0 [] Waiting Waiting after.held [] after.unread [] split.2 empty in
    let all : gained ≡ packet ∷ [] = split.1 ∙ ap (λ (z : List (List ℕ)). packet ∷ z) none.0 in
    record {
      gained_is = all;
      id_is =
          run.1 ∙ ap (λ (z : List (List ℕ)). id_at (id_after (first_id (empty_state id limit)) z) after.held) all
          ∙ ap (λ (n : ℕ). id_at (next_id n packet) after.held) here.1
          ∙ ap (λ (z : List ℕ). id_at next z) none.2 ∙ id_of_nothing next (omega arith);
      header = no_header after.header after.unread none.3 run.3;
      nothing_unread = none.3;
      nothing_held = none.2;
    }

-- a packet that was encoded is within the limit
pub encoded_fits : (answer : Result (Unit {0}) PacketCodecError) (limit len : ℕ) → answer ≡ Ok tt → ((answer ≡ Err PacketTooLarge) ↔ (limit < len)) → len ≤ limit
encoded_fits answer limit len ok told =
    elim (cases_lt limit len) [
      | inl more ↦ absurd (let e = told.1 more in cc)
      | inr fits ↦ fits
    ]

-- the sender's id, by the count of chunks
pub counts_on : ChunksCounted → (packet : List ℕ) (count id new : ℕ) → id ≡ count % 256 → new ≡ next_id id packet → new ≡ (count + chunks_in packet) % 256
counts_on counted packet count id new here next = counted (Encoded packet ∷ []) count id new here (new, next, refl)

-- the other way round
pub in_step_back : {A : Type 0} (one other : End A) → InStep one other → InStep other one
in_step_back one other step = record { id = step.id; first = step.second; second = step.first; limit = sym step.limit }

-- the chunks of packets
abbrev pub count_after : ℕ → List (List ℕ) → ℕ
count_after count [] = count
count_after count (packet ∷ packets) = count_after (count + chunks_in packet) packets

pub points-more : (count : ℕ) (packets : List (List ℕ)) (packet : List ℕ)
    → points count (packets ++ packet ∷ [])
    ≡ points count packets ++ ((count_after count packets + chunks_in packet) % 256, (count_after count packets + chunks_in packet) % 256) ∷ []
points-more count [] packet = refl
points-more count (first ∷ packets) packet =
    ap (λ (z : List (ℕ × ℕ)). ((count + chunks_in first) % 256, (count + chunks_in first) % 256) ∷ z) (points-more (count + chunks_in first) packets packet)

pub count_after-more : (count : ℕ) (packets : List (List ℕ)) (packet : List ℕ) → count_after count (packets ++ packet ∷ []) ≡ count_after count packets + chunks_in packet
count_after-more count [] packet = refl
count_after-more count (first ∷ packets) packet = count_after-more (count + chunks_in first) packets packet

-- what the other end makes of it, cut into these pieces
pub takes_pieces : {A : Type 0} → BetweenPackets → EncodedFirst → NothingRead → OneDelivery → (id : ℕ) (end : End A) (packet : List ℕ) (pieces : List (Bor (List ℕ)))
    (count : ℕ) (answer : Result (Unit {0}) PacketCodecError) (gained : List (List ℕ)) (after : CodecState)
    → IsIdle id end → joined pieces ≡ framing id packet → length packet ≤ end.codec.max_allowed_packet → answer ≡ Ok tt → OnOk answer (count ≡ length pieces)
    → RunsTo (codec_state end.codec end.input.items end.unfinished.items) (joined (take count pieces)) answer gained after
    → Takes id packet gained after
takes_pieces between encoded nothing one id end packet pieces count answer gained after idle cut fits ok all run =
    let limit : ℕ = end.codec.max_allowed_packet in
    let whole : count ≡ length pieces = subst (λ (z : Result (Unit {0}) PacketCodecError). OnOk z (count ≡ length pieces)) ok all in
    let bytes : joined (take count pieces) ≡ framing id packet = ap joined (take_all count pieces (omega arith)) ∙ cut in
    let known : RunsTo (empty_state id limit) (framing id packet) (Ok tt) gained after =
    subst (λ (z : CodecState). RunsTo z (framing id packet) (Ok tt) gained after) (idle_state id end idle)
    (subst (λ (z : List ℕ). RunsTo (codec_state end.codec end.input.items end.unfinished.items) z (Ok tt) gained after) bytes
    (subst (λ (z : Result (Unit {0}) PacketCodecError). RunsTo (codec_state end.codec end.input.items end.unfinished.items) (joined (take count pieces)) z gained after) ok run)) in
    takes_packet between encoded nothing one id limit packet gained after idle.small fits known

pub noted_more : (start old new : List (ℕ × ℕ)) (count id : ℕ) (packets : List (List ℕ)) (packet : List ℕ) → old ≡ start ++ points count packets
    → id ≡ (count_after count packets + chunks_in packet) % 256 → new ≡ old ++ (id, id) ∷ [] → new ≡ start ++ points count (packets ++ packet ∷ [])
noted_more start old new count id packets packet so_far is next =
    let now : ℕ = (count_after count packets + chunks_in packet) % 256 in
    next ∙ ap (λ (n : ℕ). old ++ (n, n) ∷ []) is ∙ ap (λ (z : List (ℕ × ℕ)). z ++ (now, now) ∷ []) so_far
    ∙ append_assoc start (points count packets) ((now, now) ∷ []) ∙ ap (λ (z : List (ℕ × ℕ)). start ++ z) (sym (points-more count packets packet))

pub handed_more : (start old new passed all : List (List ℕ)) (packet : List ℕ) → old ≡ start ++ passed → all ≡ passed ++ packet ∷ [] → new ≡ old ++ packet ∷ [] → new ≡ start ++ all
handed_more start old new passed all packet so_far is next =
    next ∙ ap (λ (z : List (List ℕ)). z ++ packet ∷ []) so_far ∙ append_assoc start passed (packet ∷ []) ∙ ap (λ (z : List (List ℕ)). start ++ z) (sym is)
