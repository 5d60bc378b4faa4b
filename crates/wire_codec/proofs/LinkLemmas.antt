-- What one link of a chain makes of a codec that stands, or goes on under limits.
use Rattle.std.proofs.Common.{◌≡◌, ℕ, refl, arith, MatchOption, ◌+◌, ◌%◌, ◌<◌, List, ◌++◌, length, ap₂, sym, ◌∙◌, inl, inr, Option, Some, None, Result, Ok, Err, Bool, true, false}
use Rattle.wire_codec.proofs.Declared.{ChunkInfo, Middle, Last, PacketCodecError, Progress, Whole, Starved, More}
use Rattle.wire_codec.specs.Framing.{front}
use Rattle.wire_codec.specs.Delivery.{IsSpelled}
use Rattle.wire_codec.specs.OneChunk.{Answer, DecodesChunk, IsCut}
use Rattle.wire_codec.specs.Chain.{id_of, StopsBy, EndsBy, RefusesChunk}
use Rattle.wire_codec.specs.Codec.{StandsAt, open_id, DecodesFrom, TakesChunk, LinksChain}
use Rattle.wire_codec.specs.Limited.{Limits}
use Rattle.wire_codec.specs.GoingOn.{GoesOnAt, DecodesOn, TakesOn}
use Rattle.wire_codec.proofs.ChainLemmas.{taken_shorter}
use Rattle.wire_codec.proofs.ConstantLimit.{one, splits_one, decodes_one, stands_on}
use Rattle.wire_codec.proofs.GoingOnLemmas.{outcome_under, other_under, failed_under, awaited_under, last_under, middle_under, alone_under}
use Rattle.wire_codec.proofs.TakenChunk.{id_at_open}

-- the last chunk of a call is accepted
accepts : (info : ChunkInfo) {limits : Limits} {mark place limit : ℕ} (id : ℕ) {h : Option (ℕ × ℕ)} {src held : List ℕ} (answer : Result Bool PacketCodecError) (new : ℕ) (header : Option (ℕ × ℕ)) (rest dst : List ℕ)
    → id < 256 → IsSpelled src → GoesOnAt limits mark place limit h src held
    → DecodesChunk h src held limit (Ok (Some info)) header rest dst → id_of info ≡ id → EndsBy info rest answer → new ≡ (id + 1) % 256
    → DecodesOn limits mark place (open_id id held) (front (open_id id held) held ++ src) held answer new header rest dst
accepts (Last i) id {held = held} answer new header rest dst byte b on d is ends rises =
    rw (ends, rises) (last_under (open_id id held) on b (sym (id_at_open id held byte)) (outcome_under (Ok (Some (Last id))) header rest dst on (rw is at d)))
accepts (Middle i) id {src = src} {held = held} answer new header rest dst byte b on d is ends rises =
    rw (ends.1, rises) (alone_under src ends.0 (middle_under (open_id id held) on b (sym (id_at_open id held byte)) (outcome_under (Ok (Some (Middle id))) header rest dst on (rw is at d))))

-- no chunk is accepted
refuses : (said : Answer) {limits : Limits} {mark place limit : ℕ} (id : ℕ) {h : Option (ℕ × ℕ)} {src held : List ℕ} (answer : Result Bool PacketCodecError) (new : ℕ) (header : Option (ℕ × ℕ)) (rest dst : List ℕ)
    → id < 256 → IsSpelled src → GoesOnAt limits mark place limit h src held → DecodesChunk h src held limit said header rest dst → StopsBy said id answer → new ≡ id
    → DecodesOn limits mark place (open_id id held) (front (open_id id held) held ++ src) held answer new header rest dst
refuses (Ok None) id {held = held} answer new header rest dst byte b on d stops stays =
    rw (stops, stays) (awaited_under (open_id id held) header rest dst on (sym (id_at_open id held byte)) (outcome_under (Ok None) header rest dst on d))
refuses (Ok (Some info)) id {held = held} answer new header rest dst byte b on d stops stays =
    rw (stops.1, stays) (other_under (open_id id held) info on b (sym (id_at_open id held byte)) stops.0 (outcome_under (Ok (Some info)) header rest dst on d))
refuses (Err error) id {held = held} answer new header rest dst byte b on d stops stays =
    rw (stops, stays) (failed_under error (open_id id held) header rest dst on (sym (id_at_open id held byte)) (outcome_under (Err error) header rest dst on d))

pub link_on : (answer : Result Progress PacketCodecError) (limits : Limits) (mark place limit id : ℕ) (h : Option (ℕ × ℕ)) (src held : List ℕ) (new : ℕ) (header : Option (ℕ × ℕ)) (rest dst : List ℕ)
    → id < 256 → IsSpelled src → GoesOnAt limits mark place limit h src held → LinksChain limit id h src held answer new header rest dst
    → TakesOn limits mark place limit (open_id id held) (front (open_id id held) held ++ src) held answer new header rest dst
link_on (Ok More) limits mark place limit id h src held new header rest dst byte b on l =
    let m = middle_under (open_id id held) on b (sym (id_at_open id held byte)) (outcome_under (Ok (Some (Middle id))) header rest dst on l.0) in
    (m.0, l.2 ∙ m.1, m.2)
link_on (Ok Whole) limits mark place limit id h src held new header rest dst byte b on l = accepts l.info id _ _ _ _ _ byte b on l.chunk l.expected l.ends l.id_rises
link_on (Ok Starved) limits mark place limit id h src held new header rest dst byte b on (inl l) = accepts l.info id _ _ _ _ _ byte b on l.chunk l.expected l.ends l.id_rises
link_on (Ok Starved) limits mark place limit id h src held new header rest dst byte b on (inr l) = refuses l.said id _ _ _ _ _ byte b on l.chunk l.stops l.id_stays
link_on (Err error) limits mark place limit id h src held new header rest dst byte b on l = refuses l.said id _ _ _ _ _ byte b on l.chunk l.stops l.id_stays

pub link_takes : (answer : Result Progress PacketCodecError) (limit id : ℕ) (h : Option (ℕ × ℕ)) (src held : List ℕ) (new : ℕ) (header : Option (ℕ × ℕ)) (rest dst : List ℕ)
    → id < 256 → IsSpelled src → StandsAt limit h src held → LinksChain limit id h src held answer new header rest dst
    → TakesChunk (open_id id held) (front (open_id id held) held ++ src) held limit answer new header rest dst
link_takes (Ok More) limit id h src held new header rest dst byte b s l =
    let on = stands_on limit 0 h src held s in
    let m = middle_under (open_id id held) on b (sym (id_at_open id held byte)) (outcome_under (Ok (Some (Middle id))) header rest dst on l.0) in
    (splits_one m.0, l.2 ∙ m.1, m.3)
link_takes (Ok Whole) limit id h src held new header rest dst byte b s l =
    decodes_one (Ok true) limit _ _ held new header rest dst s.0 (link_on (Ok Whole) (one limit) 0 0 limit id h src held new header rest dst byte b (stands_on limit 0 h src held s) l).0
link_takes (Ok Starved) limit id h src held new header rest dst byte b s l =
    decodes_one (Ok false) limit _ _ held new header rest dst s.0 (link_on (Ok Starved) (one limit) 0 0 limit id h src held new header rest dst byte b (stands_on limit 0 h src held s) l).0
link_takes (Err error) limit id h src held new header rest dst byte b s l =
    decodes_one (Err error) limit _ _ held new header rest dst s.0 (link_on (Err error) (one limit) 0 0 limit id h src held new header rest dst byte b (stands_on limit 0 h src held s) l).0

-- fewer bytes than a header has
pub few_of_none : (header : Option (ℕ × ℕ)) (src : List ℕ) → length src < 4 → MatchOption header (length src < 4) (λ h. length src < 4 + h.1)
few_of_none None src few = few
few_of_none (Some h) src few = omega (arith, few)

-- of the chunk in front bytes are seen to lack
awaits : (limit : ℕ) (header : Option (ℕ × ℕ)) (src held : List ℕ) → MatchOption header (length src < 4) (λ h. length src < 4 + h.1)
    → DecodesChunk header src held limit (Ok None) header src held
awaits limit None src held few = record {
  short = λ _. (refl, refl, refl, refl);
  empty = λ long _. absurd (omega (arith, few, long));
  large = λ long _ _. absurd (omega (arith, few, long));
  begins = λ long _ _. absurd (omega (arith, few, long));
}
awaits limit (Some h) src held few = record {
  waits = λ _. (refl, refl, refl, refl);
  takes = λ long. absurd (omega (arith, few, long));
}

pub awaits_link : (limit id : ℕ) (header : Option (ℕ × ℕ)) (src held : List ℕ) → MatchOption header (length src < 4) (λ h. length src < 4 + h.1)
    → RefusesChunk limit id header src held (Ok false) id header src held
awaits_link limit id header src held few = record { said = Ok None; chunk = awaits limit header src held few; stops = refl; id_stays = refl }

pub awaits_on : (limits : Limits) (mark place limit id : ℕ) (h : Option (ℕ × ℕ)) (src held : List ℕ) → id < 256 → GoesOnAt limits mark place limit h src held
    → MatchOption h (length src < 4) (λ header. length src < 4 + header.1)
    → DecodesOn limits mark place (open_id id held) (front (open_id id held) held ++ src) held (Ok false) id h src held
awaits_on limits mark place limit id h src held byte on few =
    awaited_under (open_id id held) h src held on (sym (id_at_open id held byte)) (outcome_under (Ok None) h src held on (awaits limit h src held few))

pub awaits_takes : (limit id : ℕ) (h : Option (ℕ × ℕ)) (src held : List ℕ) → id < 256 → StandsAt limit h src held
    → MatchOption h (length src < 4) (λ header. length src < 4 + header.1)
    → DecodesFrom (open_id id held) (front (open_id id held) held ++ src) held limit (Ok false) id h src held
awaits_takes limit id h src held byte s few =
    decodes_one (Ok false) limit _ _ held id h src held s.0 (awaits_on (one limit) 0 0 limit id h src held byte (stands_on limit 0 h src held s) few).0

-- of the chunk in front, whose header is seen for the first time, bytes lack
begins : (limit id len : ℕ) (src held : List ℕ) → IsCut src (length held) limit id len → DecodesChunk None src held limit (Ok None) (Some (id, len)) src held
begins limit id len src held cut =
    let size = cut.1 in
    record {
      short = λ few. absurd (omega (arith, few, cut.4));
      empty = λ _ none. absurd (omega (arith, none, size, cut.2));
      large = λ _ _ past. absurd (omega (arith, past, size, cut.3));
      begins = λ _ _ _. record {
        waits = λ _. (refl, ap₂ (λ (a b : ℕ). Some (a, b)) cut.0 size, refl, refl);
        takes = λ whole. absurd (omega (arith, whole, size, cut.5));
      };
    }

pub begins_link : (limit id seq len : ℕ) (src held : List ℕ) → IsCut src (length held) limit seq len
    → RefusesChunk limit id None src held (Ok false) id (Some (seq, len)) src held
begins_link limit id seq len src held cut = record { said = Ok None; chunk = begins limit seq len src held cut; stops = refl; id_stays = refl }

pub begins_on : (limits : Limits) (mark place limit id seq len : ℕ) (src held : List ℕ) → id < 256 → GoesOnAt limits mark place limit None src held
    → IsCut src (length held) limit seq len
    → DecodesOn limits mark place (open_id id held) (front (open_id id held) held ++ src) held (Ok false) id (Some (seq, len)) src held
begins_on limits mark place limit id seq len src held byte on cut =
    awaited_under (open_id id held) (Some (seq, len)) src held on (sym (id_at_open id held byte)) (outcome_under (Ok None) (Some (seq, len)) src held on (begins limit seq len src held cut))

pub begins_takes : (limit id seq len : ℕ) (src held : List ℕ) → id < 256 → StandsAt limit None src held
    → IsCut src (length held) limit seq len
    → DecodesFrom (open_id id held) (front (open_id id held) held ++ src) held limit (Ok false) id (Some (seq, len)) src held
begins_takes limit id seq len src held byte s cut =
    decodes_one (Ok false) limit _ _ held id (Some (seq, len)) src held s.0 (begins_on (one limit) 0 0 limit id seq len src held byte (stands_on limit 0 None src held s) cut).0

-- what is unread is shorter where a chunk was taken
pub more_shorter : (answer : Result Progress PacketCodecError) (limit id : ℕ) (h : Option (ℕ × ℕ)) (src held : List ℕ) (new : ℕ) (header : Option (ℕ × ℕ)) (rest dst : List ℕ)
    → answer ≡ Ok More → LinksChain limit id h src held answer new header rest dst → length rest < length src
more_shorter answer limit id h src held new header rest dst said l = taken_shorter h limit src held (Middle id) header rest dst (rw said at l).0

pub whole_shorter : (answer : Result Progress PacketCodecError) (limit id : ℕ) (h : Option (ℕ × ℕ)) (src held : List ℕ) (new : ℕ) (header : Option (ℕ × ℕ)) (rest dst : List ℕ)
    → answer ≡ Ok Whole → LinksChain limit id h src held answer new header rest dst → length rest < length src
whole_shorter answer limit id h src held new header rest dst said l =
    let taken = rw said at l in
    taken_shorter h limit src held taken.info header rest dst taken.chunk
