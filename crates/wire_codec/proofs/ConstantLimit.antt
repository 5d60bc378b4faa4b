-- One limit, as limits that are all the same: what holds under limits holds under one.
use Rattle.std.proofs.Common.{ℕ, ◌+◌, ◌*◌, ◌/◌, ◌≤◌, List, [], ◌∷◌, ◌++◌, length, min, refl, sym, ap, ap₂, ◌∙◌, arith, append_assoc, inl, inr, Option, Some, None, Result, Ok, Err, Bool, true, false}
use Rattle.std.proofs.lemmas.List.Elements.{All-head, All-tail}
use Rattle.wire_codec.proofs.Declared.{PacketCodecError, PacketTooLarge, OutOfMemory, PacketsOutOfSync, Io}
use Rattle.wire_codec.specs.Framing.{max_payload, framing, front, next_id, stream, id_after}
use Rattle.wire_codec.specs.Delivery.{IsWholeChunks, Continues, AreWithin, IsWaiting, Splits, Ending, Delivers}
use Rattle.wire_codec.specs.Limited.{Limits, framed_size, place_after, ContinuesUnder, AreUnder, SplitsUnder, DeliversUnder}
use Rattle.wire_codec.specs.LimitedRuns.{AlignedAt, WasAllowed, RunsUnder, LeavesUnder, DecodesUnder}
use Rattle.wire_codec.specs.Codec.{StandsAt, DecodesFrom}
use Rattle.wire_codec.specs.Runs.{RunsFrom, LeavesFrom}
use Rattle.wire_codec.specs.GoingOn.{GoesOnAt}
use Rattle.wire_codec.specs.Laws.{OneDelivery, JoinedRuns, JoinedSplits, EncodedFirst}
use Rattle.wire_codec.proofs.ChunkLemmas.{blocks_whole, framing_cancel, nothing_whole}
use Rattle.wire_codec.proofs.DeliveryLemmas.{not_whole, rest_within, within_rest}
use Rattle.wire_codec.proofs.LimitedLemmas.{splits_more, splits_trans, delivers_join_under, one_delivery_under_is, under_most}

abbrev pub one : ℕ → Limits
one limit place = Some limit

-- payloads
pub continues_one : {limit place : ℕ} {held payload : List ℕ} → IsWholeChunks held → ContinuesUnder (one limit) place held payload → Continues held limit payload
continues_one {limit = limit} {place = place} {held = held} {payload = payload} whole c =
    record { begins = c.begins; small = under_most (one limit) limit place held payload (λ x. omega arith) whole c }

pub one_continues : (place : ℕ) {limit : ℕ} {held payload : List ℕ} → Continues held limit payload → ContinuesUnder (one limit) place held payload
one_continues place {limit = limit} {payload = payload} c = record {
  begins = c.begins;
  small = λ index from some. let fits : min (length payload) (index * max_payload + max_payload) ≤ limit = let small = c.small in omega arith in fits;
}

within_one : (limit place : ℕ) (held : List ℕ) (ps : List (List ℕ)) (q : List ℕ) → IsWholeChunks held → AreUnder (one limit) place held ps q → AreWithin held limit ps q
within_one limit place held [] q whole a = continues_one whole a
within_one limit place held (p ∷ ps) q whole a =
    let rest = rest_within limit [] ps q (omega arith) (within_one limit (place + framed_size p) [] ps q nothing_whole a.1) in
    (continues_one whole a.0, rest.0, rest.1)

one_within : (limit place : ℕ) (held : List ℕ) (ps : List (List ℕ)) (q : List ℕ) → AreWithin held limit ps q → AreUnder (one limit) place held ps q
one_within limit place held [] q a = one_continues place a
one_within limit place held (p ∷ ps) q a = (one_continues place a.0, one_within limit (place + framed_size p) [] ps q (within_rest limit ps q a.1 a.2))

-- runs
pub splits_one : {limit place : ℕ} {held input : List ℕ} {s : ℕ} {ps : List (List ℕ)} {q W : List ℕ} → SplitsUnder (one limit) place held input s ps q W → Splits held input s limit ps q W
splits_one {limit = limit} {place = place} {held = held} {ps = ps} {q = q} a =
    record { is = a.is; held_whole = a.held_whole; unfinished_whole = a.unfinished_whole; within = within_one limit place held ps q a.held_whole a.within }

pub one_splits : (place : ℕ) {limit : ℕ} {held input : List ℕ} {s : ℕ} {ps : List (List ℕ)} {q W : List ℕ} → Splits held input s limit ps q W → SplitsUnder (one limit) place held input s ps q W
one_splits place {limit = limit} {held = held} {ps = ps} {q = q} a =
    record { is = a.is; held_whole = a.held_whole; unfinished_whole = a.unfinished_whole; within = one_within limit place held ps q a.within }

pub delivers_one : {limit place : ℕ} {held input : List ℕ} {s : ℕ} {ps : List (List ℕ)} {e : Ending} {q W : List ℕ}
    → DeliversUnder (one limit) place held input s ps e q W → Delivers held input s limit ps e q W
delivers_one a = record { splits = splits_one a.splits; ends = a.ends }

pub one_delivers : (place : ℕ) {limit : ℕ} {held input : List ℕ} {s : ℕ} {ps : List (List ℕ)} {e : Ending} {q W : List ℕ}
    → Delivers held input s limit ps e q W → DeliversUnder (one limit) place held input s ps e q W
one_delivers place a = record { splits = one_splits place a.splits; ends = a.ends }

-- the laws
pub splits_join : JoinedSplits
splits_join held input s limit ps q W x qs r V a b = splits_one (splits_trans (splits_more x (one_splits 0 a)) (one_splits (place_after 0 ps) b))

pub delivers_join : JoinedRuns
delivers_join held input s limit ps q W x qs e r V a b =
    delivers_one (delivers_join_under (one limit) 0 held input s ps q W x qs e r V (one_splits 0 a) (one_delivers (place_after 0 ps) b))

pub one_delivery_is : OneDelivery
one_delivery_is held input s limit ps qs e f q r W V a b =
    one_delivery_under_is (one limit) 0 held input s ps qs e f q r W V (one_delivers 0 a) (one_delivers 0 b)

-- what a stream of payloads within the limit, with anything after it, delivers: these payloads first
pub encoded_first_is : EncodedFirst
encoded_first_is s L [] qs x e q W small d = (qs, refl, d)
encoded_first_is s L (p ∷ ps) [] x e q W small d =
    absurd (not_whole e s L (length q / max_payload) q p W (stream (next_id s p) ps ++ x) (blocks_whole (length q) d.splits.unfinished_whole)
    (λ some size. let fits = All-head (λ (o : List ℕ). length o ≤ L) p ps small in omega arith)
    (sym d.splits.is ∙ append_assoc (framing s p) (stream (next_id s p) ps) x) d.ends)
encoded_first_is s L (p ∷ ps) (o ∷ qs) x e q W small d =
    let X : List ℕ = stream (next_id s p) ps ++ x in
    let Y : List ℕ → List ℕ = λ (z : List ℕ). stream (next_id s z) qs ++ (front (id_after (next_id s z) qs) q ++ W) in
    let parts = framing_cancel s p o X (Y o)
    (sym (append_assoc (framing s p) (stream (next_id s p) ps) x) ∙ d.splits.is
    ∙ append_assoc (framing s o) (stream (next_id s o) qs) (front (id_after (next_id s o) qs) q ++ W)) in
    let here : Delivers [] X (next_id s p) L qs e q W = record {
      splits = record {
        is = parts.1 ∙ ap (λ (z : List ℕ). Y z) (sym parts.0);
        held_whole = d.splits.held_whole;
        unfinished_whole = d.splits.unfinished_whole;
        within = within_rest L qs q d.splits.within.1 d.splits.within.2;
      };
      ends = rw (sym parts.0) at d.ends;
    } in
    let more = encoded_first_is (next_id s p) L ps qs x e q W (All-tail (λ (o : List ℕ). length o ≤ L) p ps small) here in
    (more.0, ap₂ (λ (u : List ℕ) (v : List (List ℕ)). u ∷ v) (sym parts.0) more.1, more.2)

-- a codec that stands, as one that goes on
pub stands_on : (limit place : ℕ) (header : Option (ℕ × ℕ)) (src held : List ℕ) → StandsAt limit header src held → GoesOnAt (one limit) 0 place limit header src held
stands_on limit place None src held s = record { aligned = s; marked = omega arith; same = λ i low high. refl }
stands_on limit place (Some h) src held s =
    let t = s.1 in
    record { aligned = (s.0, (t.0, t.1, t.2, t.3)); marked = (t.4, omega arith); same = λ i low high. refl }

-- a header that is remembered is within the limit
waiting_stands : (limit : ℕ) (header : Option (ℕ × ℕ)) (src held : List ℕ) → AlignedAt header src held → IsWaiting limit held src → StandsAt limit header src held
waiting_stands limit None src held a w = a
waiting_stands limit (Some h) src held (whole, (long, id, len, some)) (inl short) = absurd (omega arith)
waiting_stands limit (Some h) src held (whole, (long, id, len, some)) (inr w) = (whole, (long, id, len, some, (let fits = w.1 in omega arith)))

allowed_stands : (limit place : ℕ) (header : Option (ℕ × ℕ)) (src held : List ℕ) → AlignedAt header src held → WasAllowed (one limit) place header held → StandsAt limit header src held
allowed_stands limit place None src held a allowed = a
allowed_stands limit place (Some h) src held (whole, (long, id, len, some)) allowed = (whole, (long, id, len, some, allowed))

-- what a call of `decode` makes of it, and a run
pub decodes_one : (answer : Result Bool PacketCodecError) (limit first : ℕ) (input held : List ℕ) (id : ℕ) (header : Option (ℕ × ℕ)) (src dst : List ℕ) → IsWholeChunks held
    → DecodesUnder (one limit) 0 first input held answer id header src dst → DecodesFrom first input held limit answer id header src dst
decodes_one (Ok true) limit first input held id header src dst whole d = (d.0, continues_one whole d.1, d.2, d.3)
decodes_one (Ok false) limit first input held id header src dst whole d = (delivers_one d.0, d.1, waiting_stands limit header src dst d.2 d.0.ends, d.3)
decodes_one (Err PacketTooLarge) limit first input held id header src dst whole d = (delivers_one d.0, d.1, d.2)
decodes_one (Err PacketsOutOfSync) limit first input held id header src dst whole d = (d.0, d.1, delivers_one d.2, d.3, d.4, d.5, d.6)
decodes_one (Err OutOfMemory) limit first input held id header src dst whole d = (splits_one d.0, d.1, allowed_stands limit 0 header src dst d.2 d.3, d.4)
decodes_one (Err (Io e)) limit first input held id header src dst whole d = absurd d

pub runs_one : (answer : Result (Unit {0}) PacketCodecError) (limit first : ℕ) (input held : List ℕ) (ps : List (List ℕ)) (id : ℕ) (header : Option (ℕ × ℕ)) (src dst : List ℕ)
    → RunsUnder (one limit) 0 first input held answer ps id header src dst → RunsFrom first input held limit answer ps id header src dst
runs_one (Ok u) limit first input held ps id header src dst r = (delivers_one r.0, r.1, waiting_stands limit header src dst r.2 r.0.ends, r.3)
runs_one (Err PacketTooLarge) limit first input held ps id header src dst r = (delivers_one r.0, r.1, r.2)
runs_one (Err PacketsOutOfSync) limit first input held ps id header src dst r = (r.0, r.1, delivers_one r.2, r.3, r.4, r.5, r.6)
runs_one (Err OutOfMemory) limit first input held ps id header src dst r = (splits_one r.0, r.1, allowed_stands limit (place_after 0 ps) header src dst r.2 r.3)
runs_one (Err (Io e)) limit first input held ps id header src dst r = absurd r

pub leaves_one : (answer : Result (Unit {0}) PacketCodecError) (limit first : ℕ) (input held : List ℕ) (ps : List (List ℕ)) (src left dst : List ℕ)
    → LeavesUnder (one limit) 0 first input held answer ps src left dst → LeavesFrom first input held limit answer ps src left dst
leaves_one (Ok u) limit first input held ps src left dst r = delivers_one r
leaves_one (Err PacketTooLarge) limit first input held ps src left dst r = delivers_one r
leaves_one (Err PacketsOutOfSync) limit first input held ps src left dst r = (r.0, r.1, delivers_one r.2, r.3, r.4)
leaves_one (Err OutOfMemory) limit first input held ps src left dst r = splits_one r
leaves_one (Err (Io e)) limit first input held ps src left dst r = absurd r
