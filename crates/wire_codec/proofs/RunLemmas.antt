-- Runs of decodes, joined.
use Rattle.std.proofs.Common.{◌≡◌, ℕ, ◌<◌, ◌≤◌, List, [], ◌∷◌, ◌++◌, length, refl, sym, ap, ◌∙◌, arith, append_assoc, append-nil, length-append, inl, inr, ◌⊎◌, slice_index, Option, Some, None, Result, Ok, Err, ◌≢◌}
use Rattle.std.proofs.lemmas.List.{take-append-le, get_or_append_left}
use Rattle.wire_buf.specs.Numbers.{le_number}
use Rattle.wire_codec.proofs.Declared.{PacketCodecError, PacketTooLarge, OutOfMemory, PacketsOutOfSync, Io}
use Rattle.wire_codec.specs.Framing.{max_payload, front, next_id, id_after}
use Rattle.wire_codec.specs.Delivery.{chunk_len, id_at, Splits}
use Rattle.wire_codec.specs.Codec.{StandsAt, open_id, first_id, input_of}
use Rattle.wire_codec.specs.Runs.{RunsFrom}
use Rattle.wire_codec.specs.Laws.{AppendedRun, BetweenPackets, NothingRead, RunGoesOn}
use Rattle.wire_codec.proofs.DeliveryLemmas.{id_after-append}
use Rattle.wire_codec.proofs.ConstantLimit.{splits_join, delivers_join, splits_one, one_splits}
use Rattle.wire_codec.proofs.LimitedLemmas.{splits_more}
pub use Rattle.wire_codec.proofs.ChunkLemmas.{nothing_whole}
use Rattle.wire_codec.proofs.CodecLemmas.{open_at_id, open_small, splits_here, stands_without}

-- nothing unfinished
pub front-nil : (s : ℕ) → front s [] ≡ []
unfolding max_payload
front-nil s = refl

pub id_after_small : (s : ℕ) (ps : List (List ℕ)) → s < 256 → id_after s ps < 256
id_after_small s [] h = h
id_after_small s (p ∷ ps) h = id_after_small (next_id s p) ps (omega arith)

-- the next packet of a run
pub next_open : (s : ℕ) (ps : List (List ℕ)) (id : ℕ) (p : List ℕ) → id ≡ next_id (id_after s ps) p → id < 256 → open_id id [] ≡ id_after s (ps ++ p ∷ [])
unfolding max_payload
next_open s ps id p e h = (omega arith) ∙ e ∙ sym (id_after-append s ps (p ∷ []))

-- more bytes after change nothing of what is there
pub chunk_len_append : (W x : List ℕ) → 4 ≤ length W → chunk_len (W ++ x) ≡ chunk_len W
chunk_len_append W x h = ap le_number (take-append-le 3 W x (omega arith))

pub id_append : (W x : List ℕ) → 4 ≤ length W → slice_index (W ++ x) 3 ≡ slice_index W 3
id_append W x h = get_or_append_left W x 0 3 (omega arith)

pub stands_append : (limit : ℕ) (header : Option (ℕ × ℕ)) (src x held : List ℕ) → StandsAt limit header src held → StandsAt limit header (src ++ x) held
stands_append limit None src x held s = s
stands_append limit (Some h) src x held s =
    let t = s.1 in
    (s.0, (rw length-append (omega (arith, t.0)), id_append src x t.0 ∙ t.1, chunk_len_append src x t.0 ∙ t.2, t.3, t.4))

-- a run, and then one over what came since
pub runs_join : (answer : Result (Unit {0}) PacketCodecError) (d S : List ℕ) (s L : ℕ) (ps : List (List ℕ)) (q W x : List ℕ) (qs : List (List ℕ)) (id : ℕ) (header : Option (ℕ × ℕ)) (src dst : List ℕ)
    → Splits d S s L ps q W → RunsFrom (id_after s ps) (front (id_after s ps) q ++ (W ++ x)) q L answer qs id header src dst
    → RunsFrom s (S ++ x) d L answer (ps ++ qs) id header src dst
runs_join (Ok u) d S s L ps q W x qs id header src dst a b = (delivers_join _ _ _ _ _ _ _ _ _ _ _ _ a b.0, rw (id_after-append s ps qs) b.1, b.2, b.3)
runs_join (Err PacketTooLarge) d S s L ps q W x qs id header src dst a b = (delivers_join _ _ _ _ _ _ _ _ _ _ _ _ a b.0, rw (id_after-append s ps qs) b.1, b.2)
runs_join (Err PacketsOutOfSync) d S s L ps q W x qs id header src dst a b =
    (b.0, b.1, delivers_join _ _ _ _ _ _ _ _ _ _ _ _ a b.2, b.3, b.4, rw (id_after-append s ps qs) b.5, b.6)
runs_join (Err OutOfMemory) d S s L ps q W x qs id header src dst a b = (splits_join _ _ _ _ _ _ _ _ _ _ _ a b.0, rw (id_after-append s ps qs) b.1, b.2)
runs_join (Err (Io e)) d S s L ps q W x qs id header src dst a b = b

-- the whole input, of which a part is left
pub splits_extend : (d S : List ℕ) (s L : ℕ) (ps : List (List ℕ)) (q W x : List ℕ) → Splits d S s L ps q W → Splits d (S ++ x) s L ps q (W ++ x)
splits_extend d S s L ps q W x a = splits_one (splits_more x (one_splits 0 a))

-- after everything but a lost sync the codec stands
pub runs_stand : (answer : Result (Unit {0}) PacketCodecError) (first : ℕ) (input held : List ℕ) (limit now : ℕ) (gained : List (List ℕ)) (id : ℕ) (header : Option (ℕ × ℕ)) (src dst : List ℕ)
    → now ≡ limit → RunsFrom first input held limit answer gained id header src dst → answer ≢ Err PacketsOutOfSync → StandsAt now header src dst
runs_stand (Ok u) first input held limit now gained id header src dst n r other = rw n r.2
runs_stand (Err PacketTooLarge) first input held limit now gained id header src dst n r other = stands_without now src dst header r.0.splits.unfinished_whole r.2
runs_stand (Err PacketsOutOfSync) first input held limit now gained id header src dst n r other = absurd (other refl)
runs_stand (Err OutOfMemory) first input held limit now gained id header src dst n r other = rw n r.2
runs_stand (Err (Io e)) first input held limit now gained id header src dst n r other = absurd r

-- the open id of a codec that waits
pub open_waiting : (s : ℕ) (ps : List (List ℕ)) (id : ℕ) (dst : List ℕ) → s < 256 → id ≡ id_at (id_after s ps) dst → open_id id dst ≡ id_after s ps
open_waiting s ps id dst h e = ap (λ (n : ℕ). open_id n dst) e ∙ open_at_id (id_after s ps) dst (id_after_small s ps h)

-- bytes appended to what is to be read
pub appended_run_is : AppendedRun
appended_run_is before after more answer gained =
    let first : ℕ = first_id before in
    let chunks : List ℕ = front first before.held in (
      λ stands. stands_append before.limit before.header before.unread more before.held stands,
      λ run. rw (append-nil (chunks ++ (before.unread ++ more)), sym (append_assoc chunks before.unread more)) at run,
    )

-- between two packets
pub between_packets_is : BetweenPackets
unfolding max_payload
between_packets_is state small header held = rw (header, held) ((refl, tt), omega arith, refl)

-- from empty buffers nothing is delivered yet
pub nothing_read_is : NothingRead
unfolding max_payload
nothing_read_is id limit small =
    let splits = splits_here (open_id id []) limit [] [] refl in
    (record { splits = splits; ends = inl (omega arith) }, omega arith, (refl, tt), (λ some. cc, λ long. absurd (omega arith)))

-- a run that stopped here, and could go on
stopped_splits : (stopped : Result (Unit {0}) PacketCodecError) (d S : List ℕ) (s L : ℕ) (ps : List (List ℕ)) (id : ℕ) (header : Option (ℕ × ℕ)) (src dst : List ℕ)
    → s < 256 → (stopped ≡ Ok tt) ⊎ (stopped ≡ Err OutOfMemory) → RunsFrom s S d L stopped ps id header src dst
    → Splits d S s L ps dst src × (open_id id dst ≡ id_after s ps)
stopped_splits (Ok u) d S s L ps id header src dst small h r = (r.0.splits, open_waiting s ps id dst small r.1)
stopped_splits (Err OutOfMemory) d S s L ps id header src dst small h r = (r.0, r.1)
stopped_splits (Err PacketTooLarge) d S s L ps id header src dst small h r = elim h [ inl e ↦ absurd cc | inr e ↦ absurd cc ]
stopped_splits (Err PacketsOutOfSync) d S s L ps id header src dst small h r = elim h [ inl e ↦ absurd cc | inr e ↦ absurd cc ]
stopped_splits (Err (Io e)) d S s L ps id header src dst small h r = absurd r

pub run_goes_on_is : RunGoesOn
run_goes_on_is before between after more next stopped answer gained others could run same on =
    let s : ℕ = first_id before in
    let S : List ℕ = input_of before ++ more in
    let t : ℕ = id_after s gained in
    let here = stopped_splits stopped before.held S s before.limit gained between.id between.header between.unread between.held (open_small before.id before.held) could run in
    rw (append_assoc (input_of before) more next) at (runs_join answer before.held S s before.limit gained between.held between.unread next others after.id after.header after.unread after.held here.0
    (rw (here.1, same, append_assoc (front t between.held) between.unread next) at on))
