-- A packet whose bytes are dropped as they come.
use Rattle.std.proofs.Common.{◌≡◌, ◌≢◌, ℕ, ◌+◌, ◌-◌, ◌%◌, ◌<◌, ◌≤◌, ◌⊎◌, ◌↔◌, ◌^◌, Bool, true, false, IsTrue, replicate, min, List, [], ◌++◌, length, take, drop, refl, sym, ap, ap₂, ◌∙◌, arith, append_assoc, length-append, length-drop, IsSome, drop-drop, drop_at, take-append-drop, slice_index, inl, inr, Some, None, Option, Result, Ok, Err}
use Rattle.std.proofs.lemmas.List.{length-replicate, length-take-le}
use Rattle.std.proofs.lemmas.Bool.{cases_lt, false≢true}
use Rattle.std.specs.Int.NonZero.{non_zero_usize_get}
use Rattle.std.specs.declared.num.NonZeroUsize.{NonZeroUsize}
use Rattle.wire_codec.specs.declared.codec.chunk.ChunkDecoder.TheVariants.{Idle}
use Rattle.wire_codec.proofs.Declared.{ChunkInfo, Middle, Last, PacketCodecError, PacketTooLarge, PacketsOutOfSync, Progress, Whole, Starved, More}
use Rattle.wire_codec.specs.declared.codec.header.Header.{Header}
use Rattle.wire_codec.specs.declared.codec.packet.PacketCodec.{PacketCodec}
use Rattle.wire_codec.specs.declared.codec.packet.skip.OpenChunk.{OpenChunk}
use Rattle.wire_codec.specs.declared.codec.packet.skip.Skipped.{Skipped}
use Rattle.wire_codec.specs.Framing.{max_payload, max_payload_is, header}
use Rattle.wire_codec.specs.Delivery.{chunk_len, id_at, IsWholeChunks, Splits}
use Rattle.wire_codec.specs.Chain.{id_of}
use Rattle.wire_codec.specs.GoingOn.{GoesOnAt}
use Rattle.wire_codec.specs.Limited.{SplitsUnder}
use Rattle.wire_codec.specs.Codec.{CodecState, codec_state, expected_id, header_of, open_id, first_id, input_of, Stands, StandsAt}
use Rattle.wire_codec.specs.Skipping.{nothing_skipped, header_at, IsGone, WouldStand, AtChunk, DropsChunk, MaySkip}
use Rattle.wire_codec.proofs.ChunkLemmas.{le_number-le_bytes}
use Rattle.wire_codec.proofs.CodecLemmas.{open_at_id, open_small, splits_here, chunk_failed, stands_without, takes_later}
use Rattle.wire_codec.proofs.ConstantLimit.{one, splits_one, stands_on, decodes_one}
use Rattle.wire_codec.proofs.GoingOnLemmas.{awaited_under, other_under, last_under, middle_under, alone_under}
use Rattle.wire_codec.proofs.TakenChunk.{id_at_open, chunk_len_small, Taken, len_taken}

-- where the codec is, in its packet
at_id : (header : Header) (left held : ℕ) (codec : PacketCodec) (src : List ℕ) (full : CodecState)
    → codec.seq_id < 256 → AtChunk header left held codec src full → codec.seq_id ≡ id_at (first_id full) full.held
at_id header left held codec src full small a =
    sym a.id ∙ sym (id_at_open full.id full.held (rw a.id small))

-- it goes on under its limit, with no header remembered
open_on : (full : CodecState) → IsWholeChunks full.held → GoesOnAt (one full.limit) 0 0 full.limit None full.unread full.held
open_on full whole = stands_on full.limit 0 None full.unread full.held (whole, tt)

-- a part of a chunk came
pub dropped_part : {header : Header} {left held count : ℕ} (more : NonZeroUsize) {codec : PacketCodec} {src rest : List ℕ} {full : CodecState}
    → codec.seq_id < 256 → AtChunk header left held codec src full → rest ≡ drop count src → count ≡ min left (length src)
    → non_zero_usize_get more ≡ left - count → 0 < non_zero_usize_get more
    → DropsChunk (Ok Starved) full (record { held = held; begun = Some (record { header = header; left = more }) }) (record codec { decoder = Idle }) rest
dropped_part {header = header} {left = left} {held = held} {count = count} more {codec = codec} {src = src} {full = full} small a is counted remains some_more =
    let all : length full.unread ≡ length a.gone + length src = ap (λ (z : List ℕ). length z) a.unread_is ∙ length-append a.gone src in
    let came : count ≡ length src = omega (arith, counted, remains, some_more) in
    let less : length full.unread < 4 + chunk_len full.unread = omega (arith, all, came, counted, remains, some_more, a.left_is, a.len_is) in
    let some : 0 < chunk_len full.unread = omega (arith, less, a.there) in
    let within : length full.held + chunk_len full.unread ≤ full.limit =
    elim a.fits [ inl none ↦ absurd (omega (arith, none, some, a.len_is)) | inr fits ↦ omega (arith, fits, a.len_is) ] in
    let spelling : Option (ℕ × ℕ) = Some (slice_index full.unread 3, chunk_len full.unread) in
    let at : full.id ≡ id_at (first_id full) full.held = a.id ∙ at_id header left held codec src full small a in
    let waits = decodes_one (Ok false) full.limit _ _ full.held full.id spelling full.unread full.held a.whole
    (awaited_under (first_id full) spelling full.unread full.held (open_on full a.whole) at (refl, refl, inr (a.there, some, within, less, refl))).0 in
    let taken : length (take count src) ≡ count = length-take-le count src (omega (arith, came)) in
    let gone : length (a.gone ++ take count src) ≡ length a.gone + count = length-append a.gone (take count src) ∙ ap (λ (n : ℕ). length a.gone + n) taken in (
      record full { header = spelling },
      waits,
      record {
        limit = a.limit;
        id = a.id;
        header = ap₂ (λ (i n : ℕ). Some (i, n)) a.id_is a.len_is;
        gone = a.gone ++ take count src;
        gone_is = (omega (arith, gone, all, came, a.there), some_more, omega (arith, gone, came, counted, remains, some_more, a.left_is), a.spelled);
        unread_is = a.unread_is ∙ ap (λ (z : List ℕ). a.gone ++ z) (sym (take-append-drop count src)) ∙ sym (append_assoc a.gone (take count src) (drop count src))
            ∙ ap (λ (z : List ℕ). (a.gone ++ take count src) ++ z) (sym is);
        held_is = a.held_is;
        stands = waits.2;
      },
    )

-- the payload of the open chunk, after the full ones
abbrev pub joined_held : CodecState → List ℕ
joined_held full = full.held ++ take (chunk_len full.unread) (drop 4 full.unread)

-- what has come of a chunk, of which all has come
pub record Came (header : Header) (left held : ℕ) (codec : PacketCodec) (src rest : List ℕ) (full : CodecState) : Type 0 where
  at : AtChunk header left held codec src full
  id : codec.seq_id ≡ id_at (first_id full) full.held
  long : left ≤ length src
  is : rest ≡ drop left src
  small : header.len ≤ max_payload

pub came_whole : (left count : ℕ) (src rest : List ℕ) → count ≡ min left (length src) → left - count ≡ 0 → rest ≡ drop count src → length rest + left ≡ length src
came_whole left count src rest counted all is =
    let len : length rest ≡ length src - count = ap (λ (z : List ℕ). length z) is ∙ length-drop count src in
    omega (arith, counted, all, len)

-- a header that is remembered has come whole
stands_long : (limit : ℕ) (header : Option (ℕ × ℕ)) (src held : List ℕ) → IsSome header → StandsAt limit header src held → 4 ≤ length src
stands_long limit None src held some s = absurd (false≢true some)
stands_long limit (Some h) src held some s = s.1.0

pub all_came : {header : Header} {left held count : ℕ} {codec : PacketCodec} {src rest : List ℕ} {full : CodecState} → codec.seq_id < 256 → AtChunk header left held codec src full
    → count ≡ min left (length src) → left - count ≡ 0 → rest ≡ drop count src → Came header left held codec src rest full
all_came {header = header} {left = left} {held = held} {count = count} {codec = codec} {src = src} {full = full} small a counted all is = record {
  at = a;
  id = at_id header left held codec src full small a;
  long = omega arith;
  is = is ∙ ap (λ (n : ℕ). drop n src) (omega (arith, counted, all));
  small = rw a.len_is at (chunk_len_small full.unread a.spelled a.there);
}

taken_whole : {header : Header} {left held : ℕ} {codec : PacketCodec} {src rest : List ℕ} {full : CodecState} (info : ChunkInfo) → Came header left held codec src rest full
    → ((header.len ≡ max_payload) × (info ≡ Middle header.seq_id)) ⊎ ((header.len < max_payload) × (info ≡ Last header.seq_id))
    → Taken full.limit full.unread full.held info None rest (joined_held full)
taken_whole {header = header} {left = left} {src = src} {full = full} info c kind =
    let all : length full.unread ≡ length c.at.gone + length src = ap (λ (z : List ℕ). length z) c.at.unread_is ∙ length-append c.at.gone src in
    let size : length c.at.gone + left ≡ 4 + chunk_len full.unread = omega (arith, c.at.left_is, c.at.len_is) in
    record {
      whole = omega (arith, all, size, c.long);
      fits = elim c.at.fits [ inl none ↦ inl (c.at.len_is ∙ none) | inr fits ↦ inr (omega (arith, fits, c.at.len_is)) ];
      none = refl;
      rest_is = c.is ∙ ap (λ (z : List ℕ). drop left z) (sym (drop_at c.at.gone src (length c.at.gone) refl)) ∙ drop-drop left (length c.at.gone) (c.at.gone ++ src)
          ∙ ap₂ (λ (n : ℕ) (z : List ℕ). drop n z) size (sym c.at.unread_is);
      dst_is = refl;
      kind = λ _. elim kind [
        | inl full ↦ inl (c.at.len_is ∙ full.0, full.1 ∙ ap (λ (n : ℕ). Middle n) (sym c.at.id_is))
        | inr part ↦ inr (rw c.at.len_is part.0, part.1 ∙ ap (λ (n : ℕ). Last n) (sym c.at.id_is))
      ];
    }

-- it bore another id
pub dropped_other : {header : Header} {left held : ℕ} {codec : PacketCodec} {src rest : List ℕ} {full : CodecState} → Came header left held codec src rest full
    → header.seq_id ≢ codec.seq_id → DropsChunk (Err PacketsOutOfSync) full nothing_skipped (record codec { decoder = Idle }) rest
dropped_other {header = header} {codec = codec} {rest = rest} {full = full} c apart =
    let other = λ (info : ChunkInfo) (bears : id_of info ≡ header.seq_id) (t : Taken full.limit full.unread full.held info None rest (joined_held full)).
    decodes_one (Err PacketsOutOfSync) full.limit _ _ full.held _ None rest (joined_held full) c.at.whole
    (other_under (first_id full) info (open_on full c.at.whole) c.at.spelled c.id (λ e. apart (sym bears ∙ e)) t).0 in (
      codec_state (record codec { decoder = Idle }) rest (joined_held full),
      elim (cases_lt header.len max_payload) [
        | inl less ↦ other (Last header.seq_id) refl (taken_whole (Last header.seq_id) c (inr (less, refl)))
        | inr more ↦ other (Middle header.seq_id) refl (taken_whole (Middle header.seq_id) c (inl ((let most = c.small in omega (arith, most, more)), refl)))
      ],
      (refl, refl),
    )

-- it was the packet's last one
pub dropped_last : {header : Header} {left held : ℕ} {codec : PacketCodec} {src rest : List ℕ} {full : CodecState} → Came header left held codec src rest full
    → header.seq_id ≡ codec.seq_id → header.len < max_payload
    → DropsChunk (Ok Whole) full nothing_skipped (record codec { decoder = Idle; seq_id = (codec.seq_id + 1) % 256 }) rest
dropped_last {codec = codec} {rest = rest} {full = full} c same less = (
  codec_state (record codec { decoder = Idle; seq_id = (codec.seq_id + 1) % 256 }) rest (joined_held full),
  decodes_one (Ok true) full.limit _ _ full.held _ None rest (joined_held full) c.at.whole (last_under (first_id full) (open_on full c.at.whole) c.at.spelled c.id
      (taken_whole (Last codec.seq_id) c (inr (less, ap (λ (n : ℕ). Last n) (sym same))))).0,
  (refl, refl),
)

-- the packet goes on
abbrev behind : PacketCodec → PacketCodec
behind codec = record codec { decoder = Idle; seq_id = (codec.seq_id + 1) % 256 }

went_on : {header : Header} {left held : ℕ} (new : ℕ) {codec : PacketCodec} {src rest : List ℕ} {full : CodecState} → Came header left held codec src rest full
    → header.seq_id ≡ codec.seq_id → max_payload ≤ header.len → new ≡ min (min (held + header.len) (2 ^ 64 - 1)) codec.max_allowed_packet → codec.max_allowed_packet < 2 ^ 64
    → (SplitsUnder (one full.limit) 0 full.held (input_of full) (first_id full) [] (joined_held full) rest × ((codec.seq_id + 1) % 256 ≡ id_at (first_id full) (joined_held full))
    × GoesOnAt (one full.limit) 0 0 full.limit None rest (joined_held full) × (◌≡◌ {A = Option (ℕ × ℕ)} None None))
    × WouldStand (record { held = new; begun = None }) (behind codec) rest (codec_state (behind codec) rest (joined_held full))
went_on {header = header} new {codec = codec} {src = src} {rest = rest} {full = full} c same more is most =
    let a = c.at in
    let top = c.small in
    let some : 0 < header.len = omega (arith, more, max_payload_is) in
    let all : length full.unread ≡ length a.gone + length src = ap (λ (z : List ℕ). length z) a.unread_is ∙ length-append a.gone src in
    let size : length (joined_held full) ≡ length full.held + chunk_len full.unread = len_taken full.unread full.held (omega (arith, all, c.long, a.left_is, a.len_is)) in
    let within : length full.held + header.len ≤ codec.max_allowed_packet =
    elim a.fits [ inl none ↦ absurd (omega (arith, none, some)) | inr fits ↦ omega (arith, fits, a.limit) ] in
    let takes = middle_under (first_id full) (open_on full a.whole) a.spelled c.id
    (taken_whole (Middle codec.seq_id) c (inl (omega (arith, top, more), ap (λ (n : ℕ). Middle n) (sym same)))) in (
      takes,
      record {
        limit = refl;
        id = refl;
        header = refl;
        gone = [];
        gone_is = refl;
        unread_is = refl;
        held_is = omega (arith, size, is, within, most, a.held_is, a.len_is);
        stands = stands_without codec.max_allowed_packet rest (joined_held full) None takes.0.unfinished_whole refl;
      },
    )

pub dropped_middle : {header : Header} {left held : ℕ} (new : ℕ) {codec : PacketCodec} {src rest : List ℕ} {full : CodecState} → Came header left held codec src rest full
    → header.seq_id ≡ codec.seq_id → max_payload ≤ header.len → new ≡ min (min (held + header.len) (2 ^ 64 - 1)) codec.max_allowed_packet → codec.max_allowed_packet < 2 ^ 64
    → DropsChunk (Ok More) full (record { held = new; begun = None }) (record codec { decoder = Idle; seq_id = (codec.seq_id + 1) % 256 }) rest
dropped_middle new {codec = codec} {rest = rest} {full = full} c same more count most =
    let on = went_on new c same more count most in
    (codec_state (behind codec) rest (joined_held full), (splits_one on.0.0, on.0.1, refl), (on.1, refl))

pub dropped_alone : {header : Header} {left held : ℕ} (new : ℕ) {codec : PacketCodec} {src rest : List ℕ} {full : CodecState} → Came header left held codec src rest full
    → header.seq_id ≡ codec.seq_id → max_payload ≤ header.len → new ≡ min (min (held + header.len) (2 ^ 64 - 1)) codec.max_allowed_packet → codec.max_allowed_packet < 2 ^ 64
    → length rest ≡ 0 → DropsChunk (Ok Starved) full (record { held = new; begun = None }) (record codec { decoder = Idle; seq_id = (codec.seq_id + 1) % 256 }) rest
dropped_alone new {codec = codec} {rest = rest} {full = full} c same more count most none =
    let on = went_on new c same more count most in
    let waits = decodes_one (Ok false) full.limit _ _ full.held _ None rest (joined_held full) c.at.whole (alone_under full.unread none on.0).0 in
    (codec_state (behind codec) rest (joined_held full), waits, on.1)

-- a header that has not come whole
pub waits_header : (skipped : Skipped) (codec : PacketCodec) (src : List ℕ) (full : CodecState) → codec.seq_id < 256 → skipped.begun ≡ None → WouldStand skipped codec src full
    → length src < 4 → DropsChunk (Ok Starved) full skipped codec src
waits_header skipped codec src full small closed w short =
    let none_gone : w.gone ≡ [] = rw closed at w.gone_is in
    let same : full.unread ≡ src = w.unread_is ∙ ap (λ (z : List ℕ). z ++ src) none_gone in
    let at : full.id ≡ id_at (first_id full) full.held = sym (id_at_open full.id full.held (rw w.id small)) in
    let less : length full.unread < 4 = rw same short in (
      full,
      (
        record { splits = splits_here (first_id full) full.limit full.held full.unread w.stands.0; ends = inl less },
        at,
        w.stands,
        (λ some. stands_long full.limit full.header full.unread full.held some w.stands, λ long. absurd (omega (arith, less, long))),
      ),
      w,
    )

-- a header that is past the limit, and isn't dropped
pub refused_header : (skipped : Skipped) (codec : PacketCodec) (src : List ℕ) (full : CodecState) (error : PacketCodecError)
    → codec.seq_id < 256 → skipped.begun ≡ None → WouldStand skipped codec src full
    → error ≡ PacketTooLarge → header_of codec ≡ None → 4 ≤ length src → 0 < chunk_len src → codec.max_allowed_packet < skipped.held + chunk_len src
    → DropsChunk (Err error) full skipped codec src
refused_header skipped codec src full error small closed w is none long some more =
    let none_gone : w.gone ≡ [] = rw closed at w.gone_is in
    let same : full.unread ≡ src = w.unread_is ∙ ap (λ (z : List ℕ). z ++ src) none_gone in
    let at : full.id ≡ id_at (first_id full) full.held = sym (id_at_open full.id full.held (rw w.id small)) in
    let len : chunk_len full.unread ≡ chunk_len src = ap (λ (z : List ℕ). chunk_len z) same in
    let past : full.limit < length full.held + chunk_len full.unread = omega (arith, more, len, w.limit, w.held_is) in
    rw is (
      full,
      chunk_failed PacketTooLarge (first_id full) full.id full.limit full.unread full.held full.header full.unread full.held w.stands.0 at
          (refl, refl, rw same long, rw same some, inl (refl, past, w.header ∙ ap (λ (b : Option OpenChunk). header_at b (header_of codec)) closed ∙ none)),
      w,
    )

-- full chunks were dropped in a call that began with this packet
abbrev pub HasSkipped : Skipped → PacketCodec → List ℕ → CodecState → Type 0
HasSkipped skipped codec unread full =
    (mid : CodecState) × WouldStand skipped codec unread mid
    × Splits full.held (input_of full) (first_id full) full.limit [] mid.held mid.unread × (first_id mid ≡ first_id full)

pub skips_later : (answer : Result Progress PacketCodecError) {start : Skipped} {first : PacketCodec} {whole : List ℕ} {skipped : Skipped} {codec : PacketCodec} {src : List ℕ}
    (new : Skipped) (after : PacketCodec) (rest : List ℕ) {full : CodecState} → WouldStand start first whole full → HasSkipped skipped codec src full
    → codec.max_allowed_packet ≡ first.max_allowed_packet → ((mid : CodecState) → WouldStand skipped codec src mid → DropsChunk answer mid new after rest)
    → DropsChunk answer full new after rest
skips_later answer new after rest {full = full} w run same drops =
    let mid = run.0 in
    let d = drops mid run.1 in
    let takes = takes_later answer (first_id mid) (first_id full) mid.limit full.limit full.held (input_of full) mid.held mid.unread d.0.id d.0.header d.0.unread d.0.held
    run.3 (run.1.limit ∙ same ∙ sym w.limit) run.2 d.1 in
    (d.0, takes, d.2)

pub has_skipped_more : (skipped : Skipped) (codec : PacketCodec) (unread : List ℕ) (full : CodecState) → DropsChunk (Ok More) full skipped codec unread → HasSkipped skipped codec unread full
has_skipped_more skipped codec unread full d =
    (d.0, d.2.0, d.1.0, ap (λ (n : ℕ). open_id n d.0.held) d.1.1 ∙ open_at_id (first_id full) d.0.held (open_small full.id full.held))

-- what a codec needs to go on with a packet of which full chunks were dropped
pub may_skip_closed : (answer : Bool) (skipped : Skipped) (codec : PacketCodec) (unread : List ℕ) → skipped.begun ≡ None
    → ((dst : List ℕ) → length dst ≡ skipped.held → (IsTrue answer ↔ Stands (codec_state codec unread dst)))
    → (IsTrue answer ↔ MaySkip skipped codec unread)
may_skip_closed answer skipped codec unread closed test =
    let zeros : List ℕ = replicate skipped.held 0 in
    let long : length zeros ≡ skipped.held = length-replicate skipped.held 0 in (
      λ yes. (
        codec_state codec unread zeros,
        record {
          limit = refl;
          id = refl;
          header = rw closed refl;
          gone = [];
          gone_is = rw closed refl;
          unread_is = refl;
          held_is = long;
          stands = (test zeros long).0 yes;
        },
      ),
      λ may.
          let full = may.0 in
          let w = may.1 in
          let none_gone : w.gone ≡ [] = rw closed at w.gone_is in
          let same : full.unread ≡ unread = w.unread_is ∙ ap (λ (z : List ℕ). z ++ unread) none_gone in
          let header : full.header ≡ header_of codec = w.header ∙ ap (λ (b : Option OpenChunk). header_at b (header_of codec)) closed in
          (test full.held w.held_is).1 (rw (w.limit, header, same) at w.stands),
    )

-- a header and zeros, as what was dropped of an open chunk
would_skip : (skipped : Skipped) (begun : OpenChunk) (codec : PacketCodec) (unread : List ℕ) → skipped.begun ≡ Some begun
    → begun.header.seq_id < 256 → 0 < non_zero_usize_get begun.left
    → (skipped.held % max_payload ≡ 0) × (non_zero_usize_get begun.left ≤ begun.header.len) × (begun.header.len ≤ max_payload)
    × (skipped.held + begun.header.len ≤ codec.max_allowed_packet)
    → MaySkip skipped codec unread
would_skip skipped begun codec unread opened small some numbers =
    let len : ℕ = begun.header.len in
    let id : ℕ = begun.header.seq_id in
    let left : ℕ = non_zero_usize_get begun.left in
    let zeros : List ℕ = replicate (len - left) 0 in
    let gone : List ℕ = header len id ++ zeros in
    let held : List ℕ = replicate skipped.held 0 in
    let long : length held ≡ skipped.held = length-replicate skipped.held 0 in
    let many : length zeros ≡ len - left = length-replicate (len - left) 0 in
    let size : length gone ≡ 4 + length zeros = length-append (header len id) zeros in
    let all : length (gone ++ unread) ≡ length gone + length unread = length-append gone unread in
    let says : chunk_len (gone ++ unread) ≡ len = le_number-le_bytes len (omega (arith, numbers.2, max_payload_is)) in
    let bears : slice_index (gone ++ unread) 3 ≡ id = omega (arith, small) in
    let four : 4 ≤ length (gone ++ unread) = omega (arith, all, size) in (
      record { limit = codec.max_allowed_packet; id = expected_id codec; header = Some (id, len); unread = gone ++ unread; held = held },
      record {
        limit = refl;
        id = refl;
        header = rw opened refl;
        gone = gone;
        gone_is = rw opened (omega (arith, size), some, omega (arith, size, many, numbers.1), λ more. ap₂ header (sym says) (sym bears));
        unread_is = refl;
        held_is = long;
        stands = (rw long numbers.0, (four, bears, says, omega (arith, some, numbers.1), omega (arith, long, numbers.3)));
      },
    )

-- and of which a part of one was
pub may_skip_open : (answer : Bool) (skipped : Skipped) (begun : OpenChunk) (codec : PacketCodec) (unread : List ℕ) → skipped.begun ≡ Some begun
    → begun.header.seq_id < 256 → 0 < non_zero_usize_get begun.left
    → (IsTrue answer ↔ ((skipped.held % max_payload ≡ 0) × (non_zero_usize_get begun.left ≤ begun.header.len) × (begun.header.len ≤ max_payload)
    × (skipped.held + begun.header.len ≤ codec.max_allowed_packet)))
    → (IsTrue answer ↔ MaySkip skipped codec unread)
may_skip_open answer skipped begun codec unread opened small some test = (
  λ yes. would_skip skipped begun codec unread opened small some (test.0 yes),
  λ may.
      let full = may.0 in
      let w = may.1 in
      let gone : IsGone (Some begun) w.gone full.unread = rw opened at w.gone_is in
      let header : full.header ≡ Some (begun.header.seq_id, begun.header.len) = w.header ∙ ap (λ (b : Option OpenChunk). header_at b (header_of codec)) opened in
      let at : StandsAt full.limit (Some (begun.header.seq_id, begun.header.len)) full.unread full.held = rw header at w.stands in
      let little = chunk_len_small full.unread gone.3 at.1.0 in
      test.1 (
        rw w.held_is at at.0,
        omega (arith, gone.0, gone.2),
        omega (arith, little, at.1.2),
        omega (arith, at.1.4, w.held_is, w.limit),
      ),
)
