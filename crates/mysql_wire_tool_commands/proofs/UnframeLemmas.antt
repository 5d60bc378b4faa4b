-- One piece after another.
use Rattle.std.proofs.Common.{◌≡◌, ℕ, ◌+◌, ◌*◌, ◌/◌, ◌%◌, ◌<◌, ◌≤◌, ◌-◌, ◌⊎◌, List, [], ◌∷◌, ◌++◌, length, take, drop, refl, sym, ap, ◌∙◌, subst, arith, inl, inr, append_assoc, append-nil, length-append, length-take, drop_of_length-le, take_all, Option, Some, None, Ok, Err, OnOk, Result, Bool, true, false, if◌then◌else◌, ◌==◌, nat_lt, Bor, ap₂, IsFalse}
use Rattle.std.proofs.Math.Seq.{take-nil}
use Rattle.std.proofs.lemmas.Bool.{cases_lt, lt-ltb, le-ltb}
use Rattle.std.proofs.lemmas.Grind.{flat_map-append}
use Rattle.std.proofs.lemmas.List.{take-append-le}
use Rattle.std.proofs.lemmas.List.Elements.{All-nil}
use Rattle.wire_codec.specs.declared.codec.error.PacketCodecError.{PacketCodecError}
use Rattle.wire_codec.specs.declared.codec.error.PacketCodecError.TheVariants.{PacketTooLarge, PacketsOutOfSync}
use Rattle.wire_codec.specs.Framing.{max_payload, chunk, framing, front, next_id, id_after, stream}
use Rattle.wire_codec.specs.Delivery.{id_at, IsWholeChunks, Ending, Waiting, TooLarge, OutOfSync}
use Rattle.wire_codec.specs.Codec.{CodecState, open_id, first_id, input_of}
use Rattle.wire_codec.specs.Limited.{Limits, framed_size, place_after, DeliversUnder}
use Rattle.wire_codec.specs.LimitedRuns.{run_limits, limited_bytes, WaitsUnder}
use Rattle.wire_codec.specs.GoingOn.{GoesOn, RunsOn}
use Rattle.wire_codec.specs.Runs.{RunsTo, WaitsFrom, payloads}
use Rattle.wire_codec.specs.Laws.{JoinedLimitedRuns, EmptyGoesOn, EqualLimits, FramedLength, NothingRead, empty_state}
use Rattle.mysql_wire_tool_commands.specs.Texts.{payload_line}
use Rattle.std.specs.Result.{IfOk}
use Rattle.wire_text.specs.declared.stop.Stop.{Stop}
use Rattle.wire_text.specs.declared.stop.Stop.TheVariants.{Io, Memory}
use Rattle.wire_text.specs.Stops.{exit_status_of}
use Rattle.mysql_wire_tool_commands.specs.declared.unframe.Verdict.TheVariants as verdict
use Rattle.std.specs.List.{FoldsTo}
use Rattle.mysql_wire_tool_commands.specs.declared.piece_lines.PieceLines.{PieceLines}
use Rattle.mysql_wire_tool_commands.specs.PieceLines.{GainsLine, HoldsLines, pending_lines}
use Rattle.mysql_wire_tool_commands.specs.Unframe.{packet_lines, ending_line, ending_status, place_limits, StopsAt, TakesLines, Unframing, Unframed, UnframedUnder, UnframeEnds, UnframeEndsOver, UnframeLimitedEnds, UnframeUnderEnds}

-- what one call makes of one piece
abbrev pub CallRuns : {A : Type 0} → Limits → ℕ → CodecState → ℕ → Bor (List ℕ) → ℕ → Result (Unit {0}) PacketCodecError → PieceLines A → CodecState → Type 0
CallRuns limits place before limit piece count answer lines after =
    (gained : List (List ℕ)) × HoldsLines lines gained × RunsOn limits place before ((limit, piece) ∷ []) count answer gained after

-- packets that are visited one after another, where no memory was refused
lines_gained : {A : Type 0} (old : PieceLines A) (gained : List (List ℕ)) (new : PieceLines A) → FoldsTo GainsLine old gained new → IsFalse new.is_refused
    → IsFalse old.is_refused × (pending_lines new ≡ pending_lines old ++ packet_lines gained)
lines_gained old [] new same fine = (
  subst (λ z. IsFalse z.is_refused) (sym same) fine,
  ap (λ z. pending_lines z) (sym same) ∙ sym (append-nil (pending_lines old)),
)
lines_gained old (packet ∷ packets) new (next, step, steps) fine =
    let more = lines_gained next packets new steps fine in
    let one = step more.0 in (
      one.0,
      more.1 ∙ ap (λ (z : List ℕ). z ++ packet_lines packets) one.1 ∙ append_assoc (pending_lines old) (payload_line packet) (packet_lines packets),
    )

pub visited_lines : {A : Type 0} (old : PieceLines A) (gained : List (List ℕ)) (new : PieceLines A) → pending_lines old ≡ [] → FoldsTo GainsLine old gained new → HoldsLines new gained
visited_lines old gained new none steps fine = (lines_gained old gained new steps fine).1 ∙ ap (λ (z : List ℕ). z ++ packet_lines gained) none

-- packets that are moved
pub moved_lines : {A : Type 0} (old new : PieceLines A) (gained : List (List ℕ)) → pending_lines old ≡ [] → new.text.items ≡ old.text.items → payloads new.packets.items ≡ payloads old.packets.items ++ gained → HoldsLines new gained
moved_lines old new gained none same moved fine =
    let before : List (List ℕ) = payloads old.packets.items in
    ap₂ (λ (a : List ℕ) (b : List (List ℕ)). a ++ packet_lines b) same moved
    ∙ ap (λ (z : List ℕ). old.text.items ++ z) (flat_map-append payload_line before gained)
    ∙ sym (append_assoc old.text.items (packet_lines before) (packet_lines gained))
    ∙ ap (λ (z : List ℕ). z ++ packet_lines gained) none

-- the answer is known
call_known : {A : Type 0} (limits : Limits) (place : ℕ) (before : CodecState) (limit : ℕ) (piece : Bor (List ℕ)) (count : ℕ) (answer known : Result (Unit {0}) PacketCodecError) (lines : PieceLines A) (after : CodecState)
    → IsFalse lines.is_refused → answer ≡ known → CallRuns limits place before limit piece count answer lines after
    → (gained : List (List ℕ)) × (pending_lines lines ≡ packet_lines gained) × RunsOn limits place before ((limit, piece) ∷ []) count known gained after
call_known limits place before limit piece count answer known lines after fine is (gained, shows, run) = (
  gained,
  shows fine,
  subst (λ (z : Result (Unit {0}) PacketCodecError). RunsOn limits place before ((limit, piece) ∷ []) count z gained after) is run,
)

-- it waits
pub piece_waits : {A : Type 0} (limits : Limits) (place : ℕ) (before : CodecState) (limit : ℕ) (piece : Bor (List ℕ)) (count : ℕ) (answer : Result (Unit {0}) PacketCodecError) (lines : PieceLines A) (after : CodecState)
    → IsFalse lines.is_refused → answer ≡ Ok tt → OnOk answer (count ≡ 1) → CallRuns limits place before limit piece count answer lines after
    → TakesLines limits place before piece.now verdict.Waits (pending_lines lines) after
piece_waits limits place before limit piece count answer lines after fine is all call =
    let one : count ≡ 1 = subst (λ (z : Result (Unit {0}) PacketCodecError). OnOk z (count ≡ 1)) is all in
    let known = call_known limits place before limit piece count answer (Ok tt) lines after fine is call in
    let run : RunsOn limits place before ((limit, piece) ∷ []) 1 (Ok tt) known.0 after =
    subst (λ (n : ℕ). RunsOn limits place before ((limit, piece) ∷ []) n (Ok tt) known.0 after) one known.2 in
    let on = run.2 (inl refl) in (
      known.0,
      known.1,
      (
        subst (λ (z : List ℕ). DeliversUnder limits place before.held (input_of before ++ z) (first_id before) known.0 Waiting after.held after.unread) (append-nil piece.now) run.0.0,
        run.0.1,
        on.0,
        on.1,
      ),
    )

pub not_lost : (answer : Result (Unit {0}) PacketCodecError) → answer ≡ Ok tt → answer ≡ Err PacketsOutOfSync → ⊥
not_lost answer is lost = (let e = sym is ∙ lost in cc)

-- it ends at a packet past the limit
pub piece_too_large : {A : Type 0} (limits : Limits) (place : ℕ) (before : CodecState) (limit : ℕ) (piece : Bor (List ℕ)) (count : ℕ) (answer : Result (Unit {0}) PacketCodecError) (lines : PieceLines A) (after : CodecState)
    → IsFalse lines.is_refused → answer ≡ Err PacketTooLarge → CallRuns limits place before limit piece count answer lines after
    → TakesLines limits place before piece.now verdict.TooLarge (pending_lines lines) after
piece_too_large limits place before limit piece count answer lines after fine is call =
    let known = call_known limits place before limit piece count answer (Err PacketTooLarge) lines after fine is call in
    let left : List ℕ = after.unread ++ limited_bytes (drop count ((limit, piece) ∷ [])) in (
      known.0,
      known.1,
      (
        after.held,
        left,
        subst (λ (z : List ℕ). DeliversUnder limits place before.held (input_of before ++ z) (first_id before) known.0 TooLarge after.held left) (append-nil piece.now) known.2.1,
      ),
    )

-- it ends at a chunk of another id
pub piece_out_of_sync : {A : Type 0} (limits : Limits) (place : ℕ) (before : CodecState) (limit : ℕ) (piece : Bor (List ℕ)) (count : ℕ) (answer : Result (Unit {0}) PacketCodecError) (lines : PieceLines A) (after : CodecState)
    → IsFalse lines.is_refused → answer ≡ Err PacketsOutOfSync → CallRuns limits place before limit piece count answer lines after
    → TakesLines limits place before piece.now verdict.OutOfSync (pending_lines lines) after
piece_out_of_sync limits place before limit piece count answer lines after fine is call =
    let known = call_known limits place before limit piece count answer (Err PacketsOutOfSync) lines after fine is call in
    let left = known.2.1 in (
      known.0,
      known.1,
      (
        left.0,
        left.1,
        subst (λ (z : List ℕ). DeliversUnder limits place before.held (input_of before ++ z) (first_id before) known.0 OutOfSync left.0 left.1) (append-nil piece.now) left.2,
      ),
    )

-- nothing read yet
empty_delivers : (limits : Limits) → DeliversUnder limits 0 [] [] 0 [] Waiting [] []
unfolding max_payload
empty_delivers limits = record {
  splits = record {
    is = refl;
    held_whole = refl;
    unfinished_whole = refl;
    within = record { begins = refl; small = λ index from some. absurd (omega arith) };
  };
  ends = inl (omega arith);
}

pub unframing_start : EmptyGoesOn → (limits : Limits) (at : ℕ) (state : CodecState) → state.id ≡ 0 → state.header ≡ None → state.unread ≡ [] → state.held ≡ [] → Unframing limits at state [] []
unfolding max_payload
unframing_start empty limits at state id header unread held = record {
  payloads = [];
  delivered = rw (unread, held) (empty_delivers limits);
  first = rw (id, held) refl;
  mark = 0;
  goes_on = rw (header, unread, held) (empty limits 0 0 state.limit);
  apart = inl (omega arith);
  is = refl;
}

-- ids and places after two lists of payloads
pub id_after-append : (s : ℕ) (ps qs : List (List ℕ)) → id_after s (ps ++ qs) ≡ id_after (id_after s ps) qs
id_after-append s [] qs = refl
id_after-append s (p ∷ ps) qs = id_after-append (next_id s p) ps qs

pub id_after_small : (s : ℕ) (ps : List (List ℕ)) → s < 256 → id_after s ps < 256
id_after_small s [] h = h
id_after_small s (p ∷ ps) h = id_after_small (next_id s p) ps (omega arith)

pub open_at_id : (s : ℕ) (held : List ℕ) → s < 256 → open_id (id_at s held) held ≡ s
open_at_id s held h = omega arith

pub place_after-append : (place : ℕ) (ps qs : List (List ℕ)) → place_after place (ps ++ qs) ≡ place_after (place_after place ps) qs
place_after-append place [] qs = refl
place_after-append place (p ∷ ps) qs = place_after-append (place + framed_size p) ps qs

pub length-stream : FramedLength → (s place : ℕ) (ps : List (List ℕ)) → place + length (stream s ps) ≡ place_after place ps
length-stream framed s place [] = omega arith
length-stream framed s place (p ∷ ps) =
    let e = length-append (framing s p) (stream (next_id s p) ps) in
    let f = framed s p in
    let more = length-stream framed (next_id s p) (place + framed_size p) ps in
    omega arith

-- the place after all that was read
read_place : FramedLength → (limits : Limits) (at : ℕ) (state : CodecState) (input text : List ℕ) (u : Unframing limits at state input text)
    → place_after 0 u.payloads + length (input_of state) ≡ length input
read_place framed limits at state input text u =
    let came : List ℕ = stream 0 u.payloads in
    let left : List ℕ = front (id_after 0 u.payloads) state.held ++ state.unread in
    let e = ap (λ (z : List ℕ). length z) u.delivered.splits.is in
    let f = length-append came left in
    let g = length-stream framed 0 0 u.payloads in
    let h = ap (λ (n : ℕ). length (front n state.held ++ state.unread)) u.first in
    omega arith

-- the limit of the bytes to be read
pub limits_here : FramedLength → (limits : Limits) (limit later at ahead next : ℕ) (state : CodecState) (input text piece : List ℕ) (u : Unframing limits at state input text)
    → ((place : ℕ) → limits place ≡ place_limits limit later at place) → ahead ≡ at - length input → next ≡ (if nat_lt 0 ahead then limit else later)
    → (0 < ahead → length piece ≤ ahead)
    → (i : ℕ) → i < length piece → limits (place_after 0 u.payloads + length (input_of state) + i) ≡ Some next
limits_here framed limits limit later at ahead next state input text piece u known is gives apart i inside =
    let e = read_place framed limits at state input text u in
    let place : ℕ = place_after 0 u.payloads + length (input_of state) + i in
    known place ∙ ap (λ (n : ℕ). Some n) (elim (cases_lt 0 ahead) [
      | inl some ↦
          let inner = apart some in
          ap (λ (t : Bool). if t then limit else later) (lt-ltb place at (omega arith))
          ∙ sym (ap (λ (t : Bool). if t then limit else later) (lt-ltb 0 ahead some)) ∙ sym gives
      | inr none ↦
          ap (λ (t : Bool). if t then limit else later) (le-ltb place at (omega arith))
          ∙ sym (ap (λ (t : Bool). if t then limit else later) (le-ltb 0 ahead (omega arith))) ∙ sym gives
    ])

-- where reads stop
stops_more : (limits : Limits) (at ahead : ℕ) (state : CodecState) (input text piece : List ℕ) → Unframing limits at state input text
    → ahead ≡ at - length input → (0 < ahead → length piece ≤ ahead) → StopsAt limits at (input ++ piece)
stops_more limits at ahead state input text piece u is apart =
    let e = length-append input piece in
    elim (cases_lt (length input) at) [
      | inl less ↦ let inner = apart (omega arith) in inl (omega arith)
      | inr more ↦
          let front : take at (input ++ piece) ≡ take at input = take-append-le at input piece (omega arith) in
          inr (subst (λ (z : List ℕ). WaitsUnder limits 0 z []) (sym front) (elim u.apart [
            | inl short ↦ subst (λ (z : List ℕ). WaitsUnder limits 0 z []) (sym (take_all at input (omega arith))) (u.payloads, state.held, state.unread, u.delivered)
            | inr waits ↦ waits
          ]))
    ]

-- what all the bytes deliver, once one more piece has come
joined_delivery : JoinedLimitedRuns → (limits : Limits) (at : ℕ) (before : CodecState) (input text piece : List ℕ) (u : Unframing limits at before input text)
    (gained : List (List ℕ)) (ending : Ending) (unfinished rest : List ℕ)
    → DeliversUnder limits (place_after 0 u.payloads) before.held (input_of before ++ piece) (first_id before) gained ending unfinished rest
    → DeliversUnder limits 0 [] (input ++ piece) 0 (u.payloads ++ gained) ending unfinished rest
joined_delivery joined limits at before input text piece u gained ending unfinished rest d =
    let s : ℕ = id_after 0 u.payloads in
    let p : ℕ = place_after 0 u.payloads in
    let here : DeliversUnder limits p before.held (front s before.held ++ before.unread ++ piece) s gained ending unfinished rest =
    subst (λ (z : ℕ). DeliversUnder limits p before.held (front z before.held ++ before.unread ++ piece) z gained ending unfinished rest) u.first d in
    joined limits 0 [] input 0 u.payloads before.held before.unread piece gained ending unfinished rest u.delivered.splits
    (subst (λ (z : List ℕ). DeliversUnder limits p before.held z s gained ending unfinished rest) (append_assoc (front s before.held) before.unread piece) here)

-- a piece after which more bytes are needed
pub unframing_more : JoinedLimitedRuns → (limits : Limits) (at ahead : ℕ) (before after : CodecState) (input text piece lines : List ℕ)
    (u : Unframing limits at before input text) → ahead ≡ at - length input → (0 < ahead → length piece ≤ ahead)
    → TakesLines limits (place_after 0 u.payloads) before piece verdict.Waits lines after → Unframing limits at after (input ++ piece) (text ++ lines)
unframing_more joined limits at ahead before after input text piece lines u is apart (gained, said_is, run) =
    let s : ℕ = id_after (first_id before) gained in
    let small : first_id before < 256 = omega arith in
    record {
      payloads = u.payloads ++ gained;
      delivered = joined_delivery joined limits at before input text piece u gained Waiting after.held after.unread run.0;
      first =
          ap (λ (z : ℕ). open_id z after.held) run.1 ∙ open_at_id s after.held (id_after_small (first_id before) gained small)
          ∙ ap (λ (z : ℕ). id_after z gained) u.first ∙ sym (id_after-append 0 u.payloads gained);
      mark = run.2;
      goes_on = subst (λ (n : ℕ). GoesOn limits run.2 n after) (sym (place_after-append 0 u.payloads gained)) run.3;
      apart = stops_more limits at ahead before input text piece u is apart;
      is = ap₂ (λ (a b : List ℕ). a ++ b) u.is said_is ∙ sym (flat_map-append payload_line u.payloads gained);
    }

blocks : (n : ℕ) → n % max_payload ≡ 0 → n ≤ n / max_payload * max_payload
unfolding max_payload
blocks n h = omega arith

-- how many bytes came after the last whole packet
length-front : FramedLength → (s : ℕ) (held : List ℕ) → IsWholeChunks held → length (front s held) ≡ length held + 4 * (length held / max_payload)
unfolding chunk
length-front framed s held whole =
    let k : ℕ = length held / max_payload in
    let all : drop (k * max_payload) held ≡ [] = drop_of_length-le held {i = k * max_payload} (blocks (length held) whole) in
    let last : length (chunk (s + k) (take max_payload (drop (k * max_payload) held))) ≡ 4 =
    ap (λ (z : List ℕ). length (chunk (s + k) (take max_payload z))) all ∙ ap (λ (z : List ℕ). length (chunk (s + k) z)) (take-nil max_payload) in
    let sum : length (framing s held) ≡ length (front s held) + length (chunk (s + k) (take max_payload (drop (k * max_payload) held))) =
    length-append (front s held) (chunk (s + k) (take max_payload (drop (k * max_payload) held))) in
    let len = framed s held in
    omega arith

-- the end of the input
pub unframing_ended : FramedLength → (limits : Limits) (at : ℕ) (state : CodecState) (input text : List ℕ) → Unframing limits at state input text
    → UnframedUnder limits input (ending_status Waiting (length state.held + 4 * (length state.held / max_payload) + length state.unread))
    (text ++ ending_line Waiting (length state.held + 4 * (length state.held / max_payload) + length state.unread))
unframing_ended framed limits at state input text u =
    let s : ℕ = id_after 0 u.payloads in
    let count : length (front s state.held ++ state.unread) ≡ length state.held + 4 * (length state.held / max_payload) + length state.unread =
    length-append (front s state.held) state.unread
    ∙ ap (λ (n : ℕ). n + length state.unread) (length-front framed s state.held u.delivered.splits.unfinished_whole) in
    record {
      payloads = u.payloads;
      ending = Waiting;
      unfinished = state.held;
      rest = state.unread;
      delivered = u.delivered;
      is = rw count (ap (λ (z : List ℕ). z ++ ending_line Waiting (length state.held + 4 * (length state.held / max_payload) + length state.unread)) u.is);
      ends = rw count refl;
    }

text_joins : (ps gained : List (List ℕ)) (text lines line : List ℕ) → text ≡ packet_lines ps → lines ≡ packet_lines gained → text ++ (lines ++ line) ≡ packet_lines (ps ++ gained) ++ line
text_joins ps gained text lines line is more =
    sym (append_assoc text lines line)
    ∙ ap (λ (z : List ℕ). z ++ line) (ap₂ (λ (a b : List ℕ). a ++ b) is more ∙ sym (flat_map-append payload_line ps gained))

-- a packet past the limit
pub unframing_too_large : JoinedLimitedRuns → (limits : Limits) (at ahead : ℕ) (before after : CodecState) (input text piece lines : List ℕ)
    (u : Unframing limits at before input text) → ahead ≡ at - length input → (0 < ahead → length piece ≤ ahead)
    → TakesLines limits (place_after 0 u.payloads) before piece verdict.TooLarge lines after
    → UnframedUnder limits (input ++ piece) 4 (text ++ (lines ++ ending_line TooLarge 0)) × StopsAt limits at (input ++ piece)
unframing_too_large joined limits at ahead before after input text piece lines u is apart (gained, said_is, run) = (
  record {
    payloads = u.payloads ++ gained;
    ending = TooLarge;
    unfinished = run.0;
    rest = run.1;
    delivered = joined_delivery joined limits at before input text piece u gained TooLarge run.0 run.1 run.2;
    is = text_joins u.payloads gained text lines (ending_line TooLarge 0) u.is said_is;
    ends = refl;
  },
  stops_more limits at ahead before input text piece u is apart,
)

-- a chunk of another id
pub unframing_out_of_sync : JoinedLimitedRuns → (limits : Limits) (at ahead : ℕ) (before after : CodecState) (input text piece lines : List ℕ)
    (u : Unframing limits at before input text) → ahead ≡ at - length input → (0 < ahead → length piece ≤ ahead)
    → TakesLines limits (place_after 0 u.payloads) before piece verdict.OutOfSync lines after
    → UnframedUnder limits (input ++ piece) 5 (text ++ (lines ++ ending_line OutOfSync 0)) × StopsAt limits at (input ++ piece)
unframing_out_of_sync joined limits at ahead before after input text piece lines u is apart (gained, said_is, run) = (
  record {
    payloads = u.payloads ++ gained;
    ending = OutOfSync;
    unfinished = run.0;
    rest = run.1;
    delivered = joined_delivery joined limits at before input text piece u gained OutOfSync run.0 run.1 run.2;
    is = text_joins u.payloads gained text lines (ending_line OutOfSync 0) u.is said_is;
    ends = refl;
  },
  stops_more limits at ahead before input text piece u is apart,
)

-- the statuses at the end of the input
ended_cases : (none_left : Bool) (status : ℕ) → status ≡ (if none_left then 0 else 3)
    → (status ≡ 0) ⊎ (status ≡ 2) ⊎ (status ≡ 3) ⊎ (status ≡ 4) ⊎ (status ≡ 5) ⊎ (status ≡ 6)
ended_cases true status is = inl is
ended_cases false status is = inr (inr (inl is))

pub rest_cases : (status left : ℕ) → status ≡ ending_status Waiting left
    → (status ≡ 0) ⊎ (status ≡ 2) ⊎ (status ≡ 3) ⊎ (status ≡ 4) ⊎ (status ≡ 5) ⊎ (status ≡ 6)
rest_cases status left is = ended_cases (left == 0) status is

-- a command that gave up promises nothing of what was written
pub unframe_status : (limits : Limits) (at : ℕ) (answer : Result ℕ Stop) (unread left written now : Option (List ℕ))
    → IfOk answer (λ status. UnframeUnderEnds limits at status unread left written now) → UnframeUnderEnds limits at (exit_status_of answer) unread left written now
unframe_status limits at (Ok status) unread left written now is = is
unframe_status limits at (Err Io) unread left written now is = record {
  cases = inr (inl refl);
  text = λ h. absurd (omega (arith, h));
  all_read = λ h. absurd (omega (arith, h));
}
unframe_status limits at (Err Memory) unread left written now is = record {
  cases = inr (inr (inr (inr (inr refl))));
  text = λ h. absurd (omega (arith, h));
  all_read = λ h. absurd (omega (arith, h));
}

-- and so under limits that are these
ended_over : (limit later at : ℕ) (answer : Result ℕ Stop) (unread left written now : Option (List ℕ)) (limits : Limits) → ((place : ℕ) → limits place ≡ place_limits limit later at place)
    → IfOk answer (λ status. UnframeEndsOver limit later at status unread left written now) → IfOk answer (λ status. UnframeUnderEnds limits at status unread left written now)
ended_over limit later at (Ok status) unread left written now limits known over = over limits known
ended_over limit later at (Err stop) unread left written now limits known over = tt

pub unframe_limited : (limit later at : ℕ) (answer : Result ℕ Stop) (unread left written now : Option (List ℕ))
    → IfOk answer (λ status. UnframeEndsOver limit later at status unread left written now) → UnframeLimitedEnds limit later at (exit_status_of answer) unread left written now
unframe_limited limit later at answer unread left written now over =
    unframe_status (place_limits limit later at) at answer unread left written now
    (ended_over limit later at answer unread left written now (place_limits limit later at) (λ place. refl) over)

-- one limit for all bytes
same_both : (b : Bool) (n : ℕ) → (if b then n else n) ≡ n
same_both true n = refl
same_both false n = refl

pub one_limit : (limit place : ℕ) → run_limits (empty_state 0 limit) [] place ≡ place_limits limit limit 0 place
one_limit limit place =
    ap (λ (n : ℕ). Some n) (same_both (nat_lt place (length (input_of (empty_state 0 limit)))) limit ∙ sym (same_both (nat_lt place 0) limit))

pub waits_alike : EqualLimits → NothingRead → (limit : ℕ) (input : List ℕ) → WaitsUnder (run_limits (empty_state 0 limit) []) 0 input [] → WaitsFrom 0 input [] limit
unfolding max_payload
waits_alike equal nothing limit input (payloads, unfinished, rest, delivered) =
    let empty : RunsTo (empty_state 0 limit) [] (Ok tt) [] (empty_state 0 limit) = nothing 0 limit (omega arith) in
    (payloads, unfinished, rest, (equal (empty_state 0 limit) [] input payloads Waiting unfinished rest empty.2 (All-nil (λ (piece : ℕ × Bor (List ℕ)). piece.0 ≡ limit))).0 delivered)

unframed_alike : EqualLimits → NothingRead → (limit : ℕ) (input : List ℕ) (status : ℕ) (text : List ℕ)
    → UnframedUnder (run_limits (empty_state 0 limit) []) input status text → Unframed limit input status text
unfolding max_payload
unframed_alike equal nothing limit input status text u =
    let empty : RunsTo (empty_state 0 limit) [] (Ok tt) [] (empty_state 0 limit) = nothing 0 limit (omega arith) in
    record {
      payloads = u.payloads;
      ending = u.ending;
      unfinished = u.unfinished;
      rest = u.rest;
      delivered = (equal (empty_state 0 limit) [] input u.payloads u.ending u.unfinished u.rest empty.2 (All-nil (λ (piece : ℕ × Bor (List ℕ)). piece.0 ≡ limit))).0 u.delivered;
      is = u.is;
      ends = u.ends;
    }

pub unframe_alike : EqualLimits → NothingRead → (limit : ℕ) (answer : Result ℕ Stop) (unread left written now : Option (List ℕ))
    → IfOk answer (λ status. UnframeEndsOver limit limit 0 status unread left written now) → UnframeEnds limit (exit_status_of answer) unread left written now
unframe_alike equal nothing limit answer unread left written now over =
    let limits : Limits = run_limits (empty_state 0 limit) [] in
    let ends = unframe_status limits 0 answer unread left written now (ended_over limit limit 0 answer unread left written now limits (one_limit limit) over) in
    record {
      cases = ends.cases;
      text = λ promised. let told = ends.text promised in (told.0, told.1, told.2, unframed_alike equal nothing limit told.0 (exit_status_of answer) told.1 told.3, told.4);
      all_read = ends.all_read;
    }

-- no bytes are taken past the place where the limit changes
pub take_apart : (n most ahead : ℕ) (bytes : List ℕ) → n ≤ most → (0 < ahead → most ≤ ahead) → 0 < ahead → length (take n bytes) ≤ ahead
take_apart n most ahead bytes h apart some = let len = length-take n bytes in let k = apart some in omega arith

-- what is ahead after them
pub nothing_behind : (n : ℕ) → n ≡ n - 0
nothing_behind n = omega arith
