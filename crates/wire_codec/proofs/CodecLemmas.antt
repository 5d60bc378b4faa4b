-- One chunk of a stream, as a codec that stands takes it.
use Rattle.std.proofs.Common.{◌≡◌, ℕ, List, [], ◌++◌, ◌∙◌, subst, Option, None, Result, Ok, Err, Bool, true, false}
use Rattle.wire_codec.proofs.Declared.{PacketCodecError, PacketTooLarge, OutOfMemory, PacketsOutOfSync, Io, Progress, Whole, Starved, More}
use Rattle.wire_codec.specs.Framing.{front}
use Rattle.wire_codec.specs.Delivery.{IsWholeChunks, id_at, Splits, Ending, Delivers}
use Rattle.wire_codec.specs.Codec.{StandsAt, DecodesFrom, TakesChunk}
use Rattle.wire_codec.proofs.LimitedLemmas.{under_trans, splits_trans, delivers_trans}
use Rattle.wire_codec.proofs.ConstantLimit.{one, continues_one, one_continues, splits_one, one_splits, delivers_one, one_delivers, stands_on, decodes_one}
use Rattle.wire_codec.proofs.GoingOnLemmas.{splits_here_under, failed_under}
use Rattle.wire_codec.proofs.TakenChunk.{Outcome}
pub use Rattle.wire_codec.proofs.TakenChunk.{id_at_open, open_at_id, open_small, outcome_of}

pub stands_without : (limit : ℕ) (src held : List ℕ) (header : Option (ℕ × ℕ)) → IsWholeChunks held → header ≡ None → StandsAt limit header src held
stands_without limit src held header whole x = rw x (whole, tt)

-- what is held and what is to be read are where a run stands
pub splits_here : (first limit : ℕ) (held src : List ℕ) → IsWholeChunks held → Splits held (front first held ++ src) first limit [] held src
splits_here first limit held src whole = splits_one (splits_here_under (one limit) 0 first held src whole)

-- the chunk is refused, or no memory is found
pub chunk_failed : (error : PacketCodecError) (first id limit : ℕ) (src held : List ℕ) (header : Option (ℕ × ℕ)) (rest dst : List ℕ)
    → IsWholeChunks held → id ≡ id_at first held → Outcome limit src held (Err error) header rest dst
    → DecodesFrom first (front first held ++ src) held limit (Err error) id header rest dst
chunk_failed error first id limit src held header rest dst whole at o =
    decodes_one (Err error) limit first _ held id header rest dst whole (failed_under error first header rest dst (stands_on limit 0 None src held (whole, tt)) at o).0

-- what was held before, and what is held now
splits_on : {first limit : ℕ} {before input held src q W : List ℕ}
    → Splits before input first limit [] held src → Splits held (front first held ++ src) first limit [] q W → Splits before input first limit [] q W
splits_on s t = splits_one (splits_trans (one_splits 0 s) (one_splits 0 t))

delivers_on : {first limit : ℕ} {before input held src : List ℕ} {e : Ending} {q W : List ℕ}
    → Splits before input first limit [] held src → Delivers held (front first held ++ src) first limit [] e q W → Delivers before input first limit [] e q W
delivers_on s t = delivers_one (delivers_trans (one_splits 0 s) (one_delivers 0 t))

pub decodes_later : (answer : Result Bool PacketCodecError) (first limit : ℕ) (before input held src : List ℕ) (id : ℕ) (header : Option (ℕ × ℕ)) (rest dst : List ℕ)
    → Splits before input first limit [] held src → DecodesFrom first (front first held ++ src) held limit answer id header rest dst
    → DecodesFrom first input before limit answer id header rest dst
decodes_later (Ok true) first limit before input held src id header rest dst s d =
    (s.is ∙ d.0, continues_one s.held_whole (under_trans s.unfinished_whole (one_continues 0 s.within) (one_continues 0 d.1)), d.2, d.3)
decodes_later (Ok false) first limit before input held src id header rest dst s d = (delivers_on s d.0, d.1, d.2, d.3)
decodes_later (Err PacketTooLarge) first limit before input held src id header rest dst s d = (delivers_on s d.0, d.1, d.2)
decodes_later (Err PacketsOutOfSync) first limit before input held src id header rest dst s d = (d.0, d.1, delivers_on s d.2, d.3, d.4, d.5, d.6)
decodes_later (Err OutOfMemory) first limit before input held src id header rest dst s d = (splits_on s d.0, d.1, d.2, d.3)
decodes_later (Err (Io e)) first limit before input held src id header rest dst s d = d

-- one chunk more in a call
pub takes_later : (answer : Result Progress PacketCodecError) (opened first now limit : ℕ) (before input held src : List ℕ) (id : ℕ) (header : Option (ℕ × ℕ)) (rest dst : List ℕ)
    → opened ≡ first → now ≡ limit → Splits before input first limit [] held src
    → TakesChunk opened (front opened held ++ src) held now answer id header rest dst
    → TakesChunk first input before limit answer id header rest dst
takes_later (Ok Whole) opened first now limit before input held src id header rest dst o n s t = decodes_later (Ok true) first limit before input held src id header rest dst s (rw (o, n) at t)
takes_later (Ok Starved) opened first now limit before input held src id header rest dst o n s t = decodes_later (Ok false) first limit before input held src id header rest dst s (rw (o, n) at t)
takes_later (Ok More) opened first now limit before input held src id header rest dst o n s t = let u = rw (o, n) at t in (splits_on s u.0, u.1, u.2)
takes_later (Err e) opened first now limit before input held src id header rest dst o n s t =
    decodes_later (Err e) first limit before input held src id header rest dst s
    (subst (λ (z : ℕ). DecodesFrom first (front first held ++ src) held z (Err e) id header rest dst) n
    (subst (λ (z : ℕ). DecodesFrom z (front z held ++ src) held now (Err e) id header rest dst) o t))
