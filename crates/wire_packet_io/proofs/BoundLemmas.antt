-- How many bytes a reader of packets keeps.
use Rattle.std.proofs.Common.{ℕ, ◌+◌, ◌<◌, ◌≤◌, List, [], ◌∷◌, ◌++◌, length, take, drop, ap, ◌∙◌, arith, append-nil, length-append, max, All, Option, Some, None, Ok, Err, ◌≢◌, refl}
use Rattle.std.proofs.lemmas.List.{length-take, length-drop}
use Rattle.std.proofs.lemmas.List.Elements.{All-head, All-tail}
use Rattle.wire_codec.specs.Framing.{front, framing}
use Rattle.wire_codec.specs.Delivery.{Splits, Delivers, Waiting, chunk_len}
use Rattle.wire_codec.specs.Codec.{CodecState, first_id, input_of}
use Rattle.wire_codec.proofs.BoundLemmas.{bounded_delivery_is}
use Rattle.wire_codec.proofs.ChunkLemmas.{blocks_whole}
use Rattle.wire_codec.proofs.LimitedLemmas.{length-front_under}
use Rattle.wire_codec.proofs.RunLemmas.{front-nil}
use Rattle.wire_packet_io.specs.declared.error.PacketIoError.TheVariants.{Io, UnexpectedEnd, WriteZero, PacketTooLarge, PacketsOutOfSync, OutOfMemory}
use Rattle.wire_packet_io.specs.PacketIo.{Answer, NextPacket, ReadsTo, WaitsAlone, joined_reads, read_size}
use Rattle.wire_packet_io.specs.Bounds.{most_read, most_kept}
use Rattle.wire_packet_io.proofs.PacketIoLemmas.{blocks_up, length-split}

-- the bytes of a run that waits
waiting_len : (held S : List ℕ) (first limit : ℕ) (q W : List ℕ) → Delivers held S first limit [] Waiting q W
    → length S + read_size ≤ most_read (max limit (length held))
waiting_len held S first limit q W d =
    let few = bounded_delivery_is held S first limit [] q W d in
    let size = length-split held S first limit q W d.splits in
    let blocks = blocks_up (length q) (max limit (length held)) few.0 in
    let all = few.1 in
    omega arith

-- the last of some reads has at most the bytes of one
last_read : (read : List ℕ) (reads : List (List ℕ)) → All (λ (read : List ℕ). length read ≤ read_size) (read ∷ reads)
    → length (joined_reads (read ∷ reads)) ≤ length (joined_reads (take (length reads) (read ∷ reads))) + read_size
last_read read [] small = let e = ap (λ (z : List ℕ). length z) (append-nil read) in let few = All-head (λ (read : List ℕ). length read ≤ read_size) read [] small in omega arith
last_read read (next ∷ reads) small =
    let rest = last_read next reads (All-tail (λ (read : List ℕ). length read ≤ read_size) read (next ∷ reads) small) in
    let e = length-append read (joined_reads (next ∷ reads)) in
    let f = length-append read (joined_reads (take (length reads) (next ∷ reads))) in
    omega arith

-- all that came, with what was there
came_len : (before : CodecState) (reads : List (List ℕ))
    → ((j : ℕ) → j < length reads → WaitsAlone before (joined_reads (take j reads))) → All (λ (read : List ℕ). length read ≤ read_size) reads
    → length (input_of before ++ joined_reads reads) ≤ most_kept before
came_len before [] waits small = let e = ap (λ (z : List ℕ). length z) (append-nil (input_of before)) in omega arith
came_len before (read ∷ reads) waits small =
    let init : List ℕ = joined_reads (take (length reads) (read ∷ reads)) in
    let wait = waits (length reads) (omega arith) in
    let few = waiting_len before.held (input_of before ++ init) (first_id before) before.limit _ _ wait.1.0 in
    let last = last_read read reads small in
    let e = length-append (input_of before) init in
    let f = length-append (input_of before) (joined_reads (read ∷ reads)) in
    omega arith

-- what is held and unread, with the headers of what is held
split_len : (answer : Answer) (first : ℕ) (S held : List ℕ) (limit id : ℕ) (q W : List ℕ) → Splits held S first limit [] q W
    → (length q + length W ≤ length S) × (answer ≢ Err PacketsOutOfSync → length (front id q ++ W) ≤ length S)
split_len answer first S held limit id q W s =
    let size = length-split held S first limit q W s in
    let f = length-append (front id q) W in
    let g = length-front_under id q in
    let h = blocks_whole (length q) s.unfinished_whole in
    (omega arith, λ _. omega arith)

-- what stands after a call
left_len : (answer : Answer) (before after : CodecState) (more : List ℕ) → ReadsTo before more answer after
    → (length after.held + length after.unread ≤ length (input_of before ++ more))
    × (answer ≢ Err PacketsOutOfSync → length (input_of after) ≤ length (input_of before ++ more))
left_len (Ok (Some packet)) before after more t =
    let is = ap (λ (z : List ℕ). length z) t.0.0 in
    let all = length-append (framing (first_id before) packet) after.unread in
    let none = ap (λ (z : List ℕ). length z) t.1 in
    let all' = ap (λ (z : List ℕ). front (first_id after) z ++ after.unread) t.1 ∙ ap (λ (z : List ℕ). z ++ after.unread) (front-nil (first_id after)) in
    let len = ap (λ (z : List ℕ). length z) all' in
    (omega arith, λ _. omega arith)
left_len (Ok None) before after more t = split_len (Ok None) (first_id before) (input_of before ++ more) before.held before.limit (first_id after) after.held after.unread t.0.0.splits
left_len (Err UnexpectedEnd) before after more t = split_len (Err UnexpectedEnd) (first_id before) (input_of before ++ more) before.held before.limit (first_id after) after.held after.unread t.0.0.splits
left_len (Err (Io error)) before after more t = split_len (Err (Io error)) (first_id before) (input_of before ++ more) before.held before.limit (first_id after) after.held after.unread t.0.splits
left_len (Err PacketTooLarge) before after more t = split_len (Err PacketTooLarge) (first_id before) (input_of before ++ more) before.held before.limit (first_id after) after.held after.unread t.0.splits
left_len (Err OutOfMemory) before after more t = split_len (Err OutOfMemory) (first_id before) (input_of before ++ more) before.held before.limit (first_id after) after.held after.unread t.0
left_len (Err PacketsOutOfSync) before after more t =
    let unfinished : List ℕ = t.0 in
    let rest : List ℕ = t.1 in
    let n = chunk_len rest in
    let s = split_len (Ok None) (first_id before) (input_of before ++ more) before.held before.limit 0 unfinished rest t.2.splits in
    let few = s.0 in
    let dst = ap (λ (z : List ℕ). length z) t.3 ∙ length-append unfinished (take n (drop 4 rest)) in
    let some = length-take n (drop 4 rest) in
    let behind = length-drop 4 rest in
    let src = ap (λ (z : List ℕ). length z) t.4 ∙ length-drop (4 + n) rest in
    (omega arith, λ other. absurd (other refl))
left_len (Err WriteZero) before after more t = absurd t

pub bounded_reads_is : (before after : CodecState) (unread left : Option (List ℕ)) (old_reads new_reads : ℕ) (answer : Answer)
    → NextPacket before unread left old_reads new_reads answer after
    → (length after.held + length after.unread ≤ most_kept before)
    × (answer ≢ Err PacketsOutOfSync → length (input_of after) ≤ most_kept before)
bounded_reads_is before after unread left old_reads new_reads answer n =
    let came = came_len before n.reads n.waits n.small in
    let stands = left_len answer before after (joined_reads n.reads) n.answers in (
      let few = stands.0 in omega arith,
      λ other. let few = stands.1 other in omega arith,
    )
