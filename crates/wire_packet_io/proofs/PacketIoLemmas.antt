-- Reads, one after another.
use Rattle.std.proofs.Common.{◌≡◌, ℕ, ◌+◌, ◌-◌, ◌*◌, ◌/◌, ◌<◌, ◌≤◌, List, [], ◌∷◌, ◌++◌, length, take, refl, sym, ap, ap₂, ◌∙◌, subst, arith, append_assoc, append-nil, length-append, take-take, take_at, drop_at, inl, inr, max, All, Option, Some, None, Result, Ok, Err, Bool, true, false, min, ◌^◌, ◌≢◌, zero-le}
use Rattle.std.proofs.Math.Seq.{take-add}
use Rattle.std.proofs.lemmas.List.{take-append-le}
use Rattle.std.proofs.lemmas.Grind.{flat_map-append}
use Rattle.std.proofs.lemmas.Bool.{cases_lt}
use Rattle.std.proofs.lemmas.List.Elements.{All-push, All-nil}
use Rattle.wire_codec.specs.Framing.{max_payload, front}
use Rattle.wire_codec.specs.Delivery.{Splits, Delivers, Waiting}
use Rattle.wire_codec.specs.declared.codec.error.PacketCodecError.{PacketCodecError}
use Rattle.wire_codec.specs.declared.codec.error.PacketCodecError.TheVariants as codec
use Rattle.wire_packet_io.specs.declared.error.PacketIoError.{PacketIoError}
use Rattle.wire_packet_io.specs.declared.error.PacketIoError.TheVariants.{Io, UnexpectedEnd, PacketTooLarge, PacketsOutOfSync, OutOfMemory}
use Rattle.std.proofs.KnownBytes.{Consumes-nil, Consumes-trans, Consumes-kept}
use Rattle.std.specs.Io.KnownBytes.{Consumes, IsAtEnd, Keeps}
use Rattle.wire_codec.specs.Codec.{CodecState, first_id, input_of, open_id, StandsAt, Stands, DecodesFrom}
use Rattle.wire_codec.specs.Runs.{RunsTo}
use Rattle.wire_packet_io.specs.PacketIo.{Answer, joined_reads, read_size, WaitsAlone, most_reads, CountsUp, ReadsTo, EndsEmpty, SeesEnd, NextPacket, ReadFails, TakesPacket, EndsAt, FitsAt}
use Rattle.wire_packet_io.specs.Lending.{IsCopied, answer_over, unread_behind}
use Rattle.wire_packet_io.specs.declared.input.Found.{Found}
use Rattle.wire_packet_io.specs.declared.input.Found.TheVariants.{InFront, Copied}
use Rattle.wire_codec.proofs.CodecLemmas.{decodes_later, open_at_id, open_small, splits_here}
use Rattle.wire_codec.proofs.RunLemmas.{front-nil, splits_extend, stands_append}
use Rattle.wire_codec.proofs.ChunkLemmas.{blocks_whole}
use Rattle.wire_codec.proofs.LimitedLemmas.{length-front_under}

-- what a read put after the bytes that were there
pub read_taken : (n count room : ℕ) (all old now buf rest more : List ℕ) → n ≡ length old → take n now ≡ old → count ≤ length buf → n + count ≤ room
    → all ≡ take (n + count) (take room ((take n now ++ (buf ++ rest)) ++ more)) → all ≡ old ++ take count buf
read_taken n count room all old now buf rest more len front fits small is =
    let there : length (take n now) ≡ n = ap (λ (z : List ℕ). length z) front ∙ sym len in
    let tail : List ℕ = buf ++ (rest ++ more) in
    is ∙ take-take (n + count) room ((take n now ++ (buf ++ rest)) ++ more) small
    ∙ ap (λ (z : List ℕ). take (n + count) z) (append_assoc (take n now) (buf ++ rest) more ∙ ap (λ (z : List ℕ). take n now ++ z) (append_assoc buf rest more))
    ∙ take-add n count (take n now ++ tail)
    ∙ ap₂ (λ (u v : List ℕ). u ++ take count v) (take_at (take n now) tail n there ∙ front) (drop_at (take n now) tail n there)
    ∙ ap (λ (z : List ℕ). old ++ z) (take-append-le count buf (rest ++ more) fits)

-- blocks in more bytes are no fewer
pub blocks_up : (a b : ℕ) → a ≤ b → a / max_payload ≤ b / max_payload
unfolding max_payload
blocks_up a b h = omega arith

-- how many bytes there are where a run waits
pub waiting_few : (held S : List ℕ) (first L : ℕ) (q W : List ℕ) (n : ℕ) → Delivers held S first L [] Waiting q W
    → n + (length held + 4 * (length held / max_payload)) ≤ length q + 4 * (length q / max_payload) + length W → n + 1 ≤ most_reads L
waiting_few held S first L q W n d some =
    let small : length q ≤ max L (length held) = d.splits.within.small in
    elim (cases_lt L (length q)) [
      | inl more ↦ elim d.ends [
        | inl less ↦ (let e = blocks_up (length q) (length held) (omega arith) in omega arith)
        | inr waits ↦ absurd (let h = waits.1 in omega arith)
      ]
      | inr fits ↦ elim d.ends [
        | inl less ↦ (let e = blocks_up (length q) L (omega arith) in omega arith)
        | inr waits ↦ (let e = blocks_up (length q) L (omega arith) in let h = waits.1 in let i = waits.2 in omega arith)
      ]
    ]

-- how long all is
pub length-split : (held S : List ℕ) (first L : ℕ) (q W : List ℕ) → Splits held S first L [] q W → length S ≡ length q + 4 * (length q / max_payload) + length W
length-split held S first L q W s =
    let e = ap (λ (z : List ℕ). length z) s.is in
    let f = length-append (front first q) W in
    let g = length-front_under first q in
    let h = blocks_whole (length q) s.unfinished_whole in
    omega arith

-- one read more
pub reads_more : (reads : List (List ℕ)) (piece : List ℕ) → joined_reads (reads ++ piece ∷ []) ≡ joined_reads reads ++ piece
reads_more reads piece = flat_map-append (λ (z : List ℕ). z) reads (piece ∷ []) ∙ ap (λ (z : List ℕ). joined_reads reads ++ z) (append-nil piece)

pub each_more : (P : List (List ℕ) → Type 0) (reads : List (List ℕ)) (piece : List ℕ) → ((j : ℕ) → j < length reads → P (take j reads)) → P reads
    → (j : ℕ) → j < length (reads ++ piece ∷ []) → P (take j (reads ++ piece ∷ []))
each_more P reads piece old new j less =
    let e = length-append reads (piece ∷ []) in
    elim (cases_lt j (length reads)) [
      | inl inside ↦ subst (λ (z : List (List ℕ)). P z) (sym (take-append-le j reads (piece ∷ []) (omega arith))) (old j inside)
      | inr last ↦
          let is : length reads ≡ j = omega arith in
          subst (λ (z : List (List ℕ)). P z) (sym (take_at reads (piece ∷ []) j is)) new
    ]

-- what a decode does, in the run of the whole call
pub ran : (answer : Result Bool PacketCodecError) (before mid : CodecState) (more : List ℕ) (id : ℕ) (header : Option (ℕ × ℕ)) (src dst : List ℕ)
    → Splits before.held (input_of before ++ more) (first_id before) before.limit [] mid.held mid.unread → mid.limit ≡ before.limit → first_id mid ≡ first_id before
    → DecodesFrom (first_id mid) (input_of mid) mid.held mid.limit answer id header src dst
    → DecodesFrom (first_id before) (input_of before ++ more) before.held before.limit answer id header src dst
ran answer before mid more id header src dst s l f d =
    decodes_later answer (first_id before) before.limit before.held (input_of before ++ more) mid.held mid.unread id header src dst s
    (subst (λ (n : ℕ). DecodesFrom (first_id before) (front (first_id before) mid.held ++ mid.unread) mid.held n answer id header src dst) l
    (subst (λ (n : ℕ). DecodesFrom n (front n mid.held ++ mid.unread) mid.held mid.limit answer id header src dst) f d))

-- the reads of a call, of which each waited
pub record Made (before : CodecState) (unread left : Option (List ℕ)) (old_reads new_reads : ℕ) : Type 0 where
  pub reads : List (List ℕ)
  pub consumed : Consumes unread left (joined_reads reads)
  pub waits : (j : ℕ) → j < length reads → WaitsAlone before (joined_reads (take j reads))
  pub counted : CountsUp old_reads new_reads (length reads)
  pub few : length reads ≤ most_reads before.limit
  pub small : All (λ (read : List ℕ). length read ≤ read_size) reads

-- those so far, and what stands after them
pub record SoFar (before now : CodecState) (unread left : Option (List ℕ)) (old_reads new_reads : ℕ) : Type 0 where
  pub made : Made before unread left old_reads new_reads
  pub splits : Splits before.held (input_of before ++ joined_reads made.reads) (first_id before) before.limit [] now.held now.unread
  pub limit : now.limit ≡ before.limit
  pub stands : StandsAt before.limit now.header now.unread now.held
  pub first : first_id now ≡ first_id before
  pub some : length made.reads ≤ length (joined_reads made.reads)

-- where a call begins
pub is_standing : (lost : Bool) (before : CodecState) → lost ≡ false → FitsAt lost before → Stands before
is_standing true before e f = absurd cc
is_standing false before e (inl h) = absurd cc
is_standing false before e (inr h) = h

pub starts : (before : CodecState) (unread : Option (List ℕ)) (reads : ℕ) → Stands before → SoFar before before unread unread reads reads
starts before unread reads stands = record {
  made = record {
    reads = [];
    consumed = Consumes-nil unread;
    waits = λ j less. absurd (omega arith);
    counted = (λ none. refl, λ some. absurd (omega arith));
    few = zero-le;
    small = All-nil (λ (read : List ℕ). length read ≤ read_size);
  };
  splits = subst (λ (z : List ℕ). Splits before.held z (first_id before) before.limit [] before.held before.unread) (sym (append-nil (input_of before)))
      (splits_here (first_id before) before.limit before.held before.unread stands.0);
  limit = refl;
  stands = stands;
  first = refl;
  some = zero-le;
}

-- a packet that is found, or a fault, ends the call
pub answers_by : (answer : Answer) (lost : Bool) (before mid after : CodecState) (more : List ℕ)
    → Splits before.held (input_of before ++ more) (first_id before) before.limit [] mid.held mid.unread → mid.limit ≡ before.limit → first_id mid ≡ first_id before
    → answer ≢ Ok None → TakesPacket mid answer lost after → ReadsTo before more answer after
answers_by (Ok (Some packet)) lost before mid after more s l f some t = (ran (Ok true) before mid more after.id after.header after.unread packet s l f t.0, t.1)
answers_by (Ok None) lost before mid after more s l f some t = absurd (some refl)
answers_by (Err PacketTooLarge) lost before mid after more s l f some t = ran (Err codec.PacketTooLarge) before mid more after.id after.header after.unread after.held s l f t.0
answers_by (Err PacketsOutOfSync) lost before mid after more s l f some t = ran (Err codec.PacketsOutOfSync) before mid more after.id after.header after.unread after.held s l f t.0
answers_by (Err OutOfMemory) lost before mid after more s l f some t =
    let r = ran (Err codec.OutOfMemory) before mid more after.id after.header after.unread after.held s l f t.0 in
    (r.0, ap (λ (n : ℕ). open_id n after.held) r.1 ∙ open_at_id (first_id before) after.held (open_small before.id before.held), r.2)
answers_by other lost before mid after more s l f some t = absurd t

no_end_seen : (answer : Answer) (lost : Bool) (mid after : CodecState) (reads : List (List ℕ)) (left : Option (List ℕ)) → answer ≢ Ok None → TakesPacket mid answer lost after → SeesEnd answer reads left
no_end_seen (Ok None) lost mid after reads left some t = absurd (some refl)
no_end_seen (Err UnexpectedEnd) lost mid after reads left some t = absurd t
no_end_seen other lost mid after reads left some t = tt

-- a call of these reads
next_packet : (answer : Answer) (before after : CodecState) (unread left : Option (List ℕ)) (old_reads new_reads : ℕ) (m : Made before unread left old_reads new_reads)
    → ReadsTo before (joined_reads m.reads) answer after → SeesEnd answer m.reads left → NextPacket before unread left old_reads new_reads answer after
next_packet answer before after unread left old_reads new_reads m t seen =
    record { reads = m.reads; consumed = m.consumed; answers = t; sees_end = seen; waits = m.waits; counted = m.counted; few = m.few; small = m.small }

pub ends_by : (answer : Answer) (lost : Bool) (before mid after : CodecState) (unread left last : Option (List ℕ)) (old_reads new_reads all : ℕ)
    → SoFar before mid unread left old_reads new_reads → last ≡ left → all ≡ new_reads → answer ≢ Ok None → TakesPacket mid answer lost after
    → NextPacket before unread last old_reads all answer after
ends_by answer lost before mid after unread left last old_reads new_reads all s same count some t =
    rw (same, count) (next_packet answer before after unread left old_reads new_reads s.made
    (answers_by answer lost before mid after (joined_reads s.made.reads) s.splits s.limit s.first some t) (no_end_seen answer lost mid after s.made.reads left some t))

-- what was found is no end
pub found_ends : {A : Type 0} (found : Found A) (src : List ℕ) → answer_over (Ok (Some found)) src ≢ Ok None
found_ends (InFront chunk) src e = absurd cc
found_ends (Copied packet) src e = absurd cc

pub apart_unread : {A : Type 0} (found : Option (Found A)) (src : List ℕ) → IsCopied found → unread_behind found src ≡ src
apart_unread (Some (InFront chunk)) src h = absurd h
apart_unread found src h = refl

pub above_zero : (n : ℕ) → n ≢ 0 → 0 < n
above_zero n some = omega arith

pub length-zero : (bytes : List ℕ) → length bytes ≡ 0 → bytes ≡ []
length-zero [] h = refl
length-zero (byte ∷ bytes) h = absurd (omega arith)

front-empty : (first : ℕ) (held : List ℕ) → length held ≡ 0 → front first held ≡ []
front-empty first held h = ap (λ (z : List ℕ). front first z) (length-zero held h) ∙ front-nil first

-- what the end of the input means
end_answers : (answer : Answer) (before after : CodecState) (more : List ℕ)
    → RunsTo before more (Ok tt) [] after → EndsAt answer (length after.unread) (length after.held) → ReadsTo before more answer after
end_answers (Ok None) before after more run ends =
    (run, run.0.splits.is ∙ ap₂ (λ (u v : List ℕ). u ++ v) (front-empty (first_id before) after.held ends.1) (length-zero after.unread ends.0))
end_answers (Err UnexpectedEnd) before after more run ends =
    let size = length-split before.held (input_of before ++ more) (first_id before) before.limit after.held after.unread run.0.splits in
    (run, λ e. let none = ap (λ (z : List ℕ). length z) e in absurd (omega (arith, ends)))
end_answers other before after more run ends = absurd ends

end_seen : (answer : Answer) (reads : List (List ℕ)) (left : Option (List ℕ)) → EndsEmpty reads → IsAtEnd left → SeesEnd answer reads left
end_seen (Ok None) reads left empty h = (empty, h)
end_seen (Err UnexpectedEnd) reads left empty h = (empty, h)
end_seen other reads left empty h = tt

-- where a call waits, with this many reads made
pub record Waited (before after : CodecState) (unread left : Option (List ℕ)) (old_reads new_reads : ℕ) : Type 0 where
  pub made : Made before unread left old_reads new_reads
  pub run : RunsTo before (joined_reads made.reads) (Ok tt) [] after
  pub limit : after.limit ≡ before.limit
  pub some : length made.reads ≤ length (joined_reads made.reads)

pub waited : (lost : Bool) (before mid after : CodecState) (unread left last : Option (List ℕ)) (old_reads new_reads all : ℕ)
    → SoFar before mid unread left old_reads new_reads → last ≡ left → all ≡ new_reads → after.limit ≡ mid.limit → TakesPacket mid (Ok None) lost after
    → Waited before after unread last old_reads all
waited lost before mid after unread left last old_reads new_reads all s same count limit t =
    rw (same, count) (record {
      made = s.made;
      run = ran (Ok false) before mid (joined_reads s.made.reads) after.id after.header after.unread after.held s.splits s.limit s.first t.0;
      limit = limit ∙ s.limit;
      some = s.some;
    })

-- one more read is among the few
one_more : (before after : CodecState) (unread left : Option (List ℕ)) (old_reads new_reads : ℕ) (w : Waited before after unread left old_reads new_reads) → length w.made.reads + 1 ≤ most_reads before.limit
one_more before after unread left old_reads new_reads w =
    let d = w.run.0 in
    let more = joined_reads w.made.reads in
    let size = length-split before.held (input_of before ++ more) (first_id before) before.limit after.held after.unread d.splits in
    let e = length-append (input_of before) more in
    let f = length-append (front (first_id before) before.held) before.unread in
    let g = length-front_under (first_id before) before.held in
    let h = blocks_whole (length before.held) d.splits.held_whole in
    let some = w.some in
    waiting_few before.held (input_of before ++ more) (first_id before) before.limit after.held after.unread (length w.made.reads) d (omega arith)

pub counted_more : (a b c n m : ℕ) → CountsUp a b n → c ≡ min (b + 1) (2 ^ 64 - 1) → m ≡ n + 1 → CountsUp a c m
counted_more a b c n m e f g = (
  λ none. absurd (omega arith),
  λ some. elim (cases_lt 0 n) [
    | inl more ↦ (let h = e.1 more in omega arith)
    | inr none ↦ (let h = e.0 (omega arith) in omega arith)
  ],
)

pub length-push : (reads : List (List ℕ)) (piece : List ℕ) → length (reads ++ piece ∷ []) ≡ length reads + 1
length-push reads piece = length-append reads (piece ∷ [])

-- one read more
abbrev made_more : (before after : CodecState) (unread left last : Option (List ℕ)) (old_reads new_reads all : ℕ) (piece : List ℕ)
    → Waited before after unread left old_reads new_reads → Consumes left last piece → all ≡ min (new_reads + 1) (2 ^ 64 - 1) → length piece ≤ read_size
    → Made before unread last old_reads all
made_more before after unread left last old_reads new_reads all piece w took count most = record {
  reads = w.made.reads ++ piece ∷ [];
  consumed = subst (λ (z : List ℕ). Consumes unread last z) (sym (reads_more w.made.reads piece)) (Consumes-trans unread left last (joined_reads w.made.reads) piece w.made.consumed took);
  waits = each_more (λ (z : List (List ℕ)). WaitsAlone before (joined_reads z)) w.made.reads piece w.made.waits (after, w.run);
  counted = counted_more old_reads new_reads all (length w.made.reads) _ w.made.counted count (length-push w.made.reads piece);
  few = let m = one_more before after unread left old_reads new_reads w in let e = length-push w.made.reads piece in omega arith;
  small = All-push (λ (read : List ℕ). length read ≤ read_size) w.made.reads piece w.made.small most;
}

-- that gave nothing
pub last_empty : (reads : List (List ℕ)) (piece : List ℕ) → length piece ≡ 0 → EndsEmpty (reads ++ piece ∷ [])
last_empty reads piece none = (reads, ap (λ (z : List ℕ). reads ++ z ∷ []) (length-zero piece none))

run_kept : (before after : CodecState) (reads : List (List ℕ)) (src piece : List ℕ) → RunsTo before (joined_reads reads) (Ok tt) [] after → length piece ≡ 0 → src ≡ after.unread ++ piece
    → RunsTo before (joined_reads (reads ++ piece ∷ [])) (Ok tt) [] (record after { unread = src })
run_kept before after reads src piece run none is =
    let nothing : piece ≡ [] = length-zero piece none in
    let same : src ≡ after.unread = is ∙ ap (λ (z : List ℕ). after.unread ++ z) nothing ∙ append-nil after.unread in
    let joined : joined_reads (reads ++ piece ∷ []) ≡ joined_reads reads = reads_more reads piece ∙ ap (λ (z : List ℕ). joined_reads reads ++ z) nothing ∙ append-nil (joined_reads reads) in
    subst (λ (z : List ℕ). RunsTo before z (Ok tt) [] (record after { unread = src })) (sym joined)
    (subst (λ (z : List ℕ). RunsTo before (joined_reads reads) (Ok tt) [] (record after { unread = z })) (sym same) run)

-- at the end
pub ended : (answer : Answer) (before after : CodecState) (unread left last : Option (List ℕ)) (old_reads new_reads all : ℕ) (src dst : List ℕ) (n : ℕ)
    → Waited before after unread left old_reads new_reads → dst ≡ after.held → (came : List ℕ) × (length came ≡ n) × (src ≡ after.unread ++ came) × Consumes left last came
    → n ≡ 0 → IsAtEnd last → all ≡ min (new_reads + 1) (2 ^ 64 - 1) → EndsAt answer (length src) (length dst)
    → NextPacket before unread last old_reads all answer (record after { unread = src; held = dst })
ended answer before after unread left last old_reads new_reads all src dst n w same (piece, size, is, took) none at_end count ends =
    let m = made_more before after unread left last old_reads new_reads all piece w took count (omega arith) in
    let run = run_kept before after w.made.reads src piece w.run (size ∙ none) is in
    subst (λ (z : List ℕ). NextPacket before unread last old_reads all answer (record after { unread = src; held = z })) (sym same)
    (next_packet answer before (record after { unread = src }) unread last old_reads all m
    (end_answers answer before (record after { unread = src }) (joined_reads m.reads) run (subst (λ (z : List ℕ). EndsAt answer (length src) (length z)) same ends)) (end_seen answer m.reads last (last_empty w.made.reads piece (size ∙ none)) at_end))

-- a read that failed, or that memory was refused for
pub failed : (error : PacketIoError) (before after : CodecState) (unread left last : Option (List ℕ)) (old_reads new_reads all : ℕ) (src dst : List ℕ)
    → Waited before after unread left old_reads new_reads → dst ≡ after.held → src ≡ after.unread → Keeps left last → ReadFails error new_reads all
    → NextPacket before unread last old_reads all (Err error) (record after { unread = src; held = dst })
failed (Io error) before after unread left last old_reads new_reads all src dst w held is kept count =
    let m = made_more before after unread left last old_reads new_reads all [] w (Consumes-kept left left last [] (Consumes-nil left) kept) count (omega arith) in
    subst (λ (z : List ℕ). NextPacket before unread last old_reads all (Err (Io error)) (record after { unread = src; held = z })) (sym held)
    (next_packet (Err (Io error)) before (record after { unread = src }) unread last old_reads all m (run_kept before after w.made.reads src [] w.run refl (is ∙ sym (append-nil after.unread))) tt)
failed OutOfMemory before after unread left last old_reads new_reads all src dst w held is kept count =
    let m = w.made in
    let r = w.run in
    let refused : RunsTo before (joined_reads m.reads) (Err codec.OutOfMemory) [] after =
    (r.0.splits, ap (λ (n : ℕ). open_id n after.held) r.1 ∙ open_at_id (first_id before) after.held (open_small before.id before.held), r.2) in
    let consumed = Consumes-kept unread left last (joined_reads m.reads) m.consumed kept in
    rw (held, is, count)
    (next_packet (Err OutOfMemory) before after unread last old_reads new_reads (record { reads = m.reads; consumed = consumed; waits = m.waits; counted = m.counted; few = m.few; small = m.small }) refused tt)
failed other before after unread left last old_reads new_reads all src dst w held is kept count = absurd count

-- one read more, that gave bytes
pub goes_on : (before after : CodecState) (unread left last : Option (List ℕ)) (old_reads new_reads all : ℕ) (src dst : List ℕ) (n : ℕ)
    → Waited before after unread left old_reads new_reads → dst ≡ after.held → (came : List ℕ) × (length came ≡ n) × (src ≡ after.unread ++ came) × Consumes left last came
    → 0 < n → n ≤ read_size → all ≡ min (new_reads + 1) (2 ^ 64 - 1) → SoFar before (record after { unread = src; held = dst }) unread last old_reads all
goes_on before after unread left last old_reads new_reads all src dst n w same (piece, size, is, took) some most count =
    let joined = reads_more w.made.reads piece in
    let all_in : (input_of before ++ joined_reads w.made.reads) ++ piece ≡ input_of before ++ joined_reads (w.made.reads ++ piece ∷ []) =
    append_assoc (input_of before) (joined_reads w.made.reads) piece ∙ ap (λ (z : List ℕ). input_of before ++ z) (sym joined) in
    let push = length-push w.made.reads piece in
    subst (λ (z : List ℕ). SoFar before (record after { unread = src; held = z }) unread last old_reads all) (sym same) (record {
      made = made_more before after unread left last old_reads new_reads all piece w took count (omega arith);
      splits = subst (λ (z : List ℕ). Splits before.held z (first_id before) before.limit [] after.held src) all_in
          (subst (λ (z : List ℕ). Splits before.held ((input_of before ++ joined_reads w.made.reads) ++ piece) (first_id before) before.limit [] after.held z) (sym is)
          (splits_extend before.held (input_of before ++ joined_reads w.made.reads) (first_id before) before.limit [] after.held after.unread piece w.run.0.splits));
      limit = w.limit;
      stands = subst (λ (z : List ℕ). StandsAt before.limit after.header z after.held) (sym is) (stands_append before.limit after.header after.unread piece after.held w.run.2);
      first = ap (λ (n : ℕ). open_id n after.held) w.run.1 ∙ open_at_id (first_id before) after.held (open_small before.id before.held);
      some = let e = ap (λ (z : List ℕ). length z) joined in let f = length-append (joined_reads w.made.reads) piece in let h = w.some in omega arith;
    })

-- how far a call may still be from its end
abbrev pub to_go : CodecState → List ℕ → List ℕ → ℕ
to_go before held unread =
    (most_reads before.limit + (length before.held + 4 * (length before.held / max_payload))) - (length held + 4 * (length held / max_payload) + length unread)

-- and it comes nearer to that
pub smaller : (lost : Bool) (before mid after : CodecState) (unread left : Option (List ℕ)) (old_reads new_reads : ℕ) (src dst : List ℕ) (n : ℕ) (from last : Option (List ℕ))
    → SoFar before mid unread left old_reads new_reads → TakesPacket mid (Ok None) lost after → dst ≡ after.held
    → (came : List ℕ) × (length came ≡ n) × (src ≡ after.unread ++ came) × Consumes from last came → 0 < n → to_go before dst src < to_go before mid.held mid.unread
smaller lost before mid after unread left old_reads new_reads src dst n from last s t same (piece, size, is, took) some =
    let more = joined_reads s.made.reads in
    let run = ran (Ok false) before mid more after.id after.header after.unread after.held s.splits s.limit s.first t.0 in
    let a = length-split before.held (input_of before ++ more) (first_id before) before.limit mid.held mid.unread s.splits in
    let b = length-split before.held (input_of before ++ more) (first_id before) before.limit after.held after.unread run.0.splits in
    let e = ap (λ (z : List ℕ). length z) is in
    let f = length-append after.unread piece in
    let came : ℕ = length (input_of before ++ more) - (length before.held + 4 * (length before.held / max_payload)) in
    let all = length-append (input_of before) more in
    let start = length-append (front (first_id before) before.held) before.unread in
    let g = length-front_under (first_id before) before.held in
    let h = blocks_whole (length before.held) run.0.splits.held_whole in
    let few = waiting_few before.held (input_of before ++ more) (first_id before) before.limit after.held after.unread came run.0 (omega arith) in
    subst (λ (z : List ℕ). to_go before z src < to_go before mid.held mid.unread) (sym same) (omega arith)
