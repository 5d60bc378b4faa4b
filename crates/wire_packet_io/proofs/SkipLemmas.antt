-- A packet that a reader skips.
use Rattle.std.proofs.Common.{◌≡◌, ◌⊎◌, ℕ, ◌+◌, ◌-◌, ◌*◌, ◌/◌, ◌<◌, ◌≤◌, List, [], ◌∷◌, ◌++◌, length, refl, sym, ap, ap₂, ◌∙◌, subst, arith, append_assoc, length-append, inl, inr, Option, Some, None, MatchOption, IsNone, IsSome, IfOk, IfErr, IsTrue, IsFalse, Result, Ok, Err, Bool, true, false, min, ◌^◌}
use Rattle.std.specs.Option.{is_some}
use Rattle.std.proofs.lemmas.Bool.{cases_lt}
use Rattle.std.specs.Int.NonZero.{non_zero_usize_get}
use Rattle.std.specs.Io.KnownBytes.{Consumes, IsAtEnd, Keeps}
use Rattle.wire_codec.specs.Framing.{max_payload}
use Rattle.wire_codec.specs.Delivery.{IsSpelled}
use Rattle.wire_codec.specs.Codec.{CodecState, codec_state, header_of, Stands, StandsAt}
use Rattle.wire_codec.specs.Skipping.{nothing_skipped, header_at, IsGone, WouldStand, MaySkip, SkipsPacket}
use Rattle.wire_codec.specs.declared.codec.packet.PacketCodec.{PacketCodec}
use Rattle.wire_codec.specs.declared.codec.packet.skip.OpenChunk.{OpenChunk}
use Rattle.wire_codec.specs.declared.codec.packet.skip.Skipped.{Skipped}
use Rattle.wire_codec.specs.declared.codec.error.PacketCodecError.{PacketCodecError}
use Rattle.wire_codec.specs.declared.codec.error.PacketCodecError.TheVariants as codec
use Rattle.wire_codec.proofs.RunLemmas.{nothing_whole, stands_append}
use Rattle.wire_codec.proofs.CodecLemmas.{stands_without}
use Rattle.wire_packet_io.specs.declared.error.PacketIoError.{PacketIoError}
use Rattle.wire_packet_io.specs.declared.error.PacketIoError.TheVariants.{Io, UnexpectedEnd, PacketTooLarge, PacketsOutOfSync, OutOfMemory}
use Rattle.wire_packet_io.specs.Lending.{packet_of, unread_behind}
use Rattle.wire_packet_io.specs.declared.input.Found.{Found}
use Rattle.wire_packet_io.specs.declared.input.Found.TheVariants.{InFront, Copied}
use Rattle.wire_packet_io.specs.PacketIo.{Answer, FitsAt, NextPacket, ReadFails, most_reads}
use Rattle.wire_packet_io.specs.Skips.{LeavesNext, SkipsFor, skipped_or, IsRefusal}
use Rattle.wire_packet_io.proofs.PacketIoLemmas.{length-zero, is_standing, SoFar, Waited, ends_by, ended, failed, to_go}

-- a packet is skipped, by what is left below and how many reads were made
abbrev pub Skips : CodecState → Option (List ℕ) → Option (List ℕ) → ℕ → ℕ → Result Bool PacketIoError → Skipped → PacketCodec → List ℕ → Type 0
Skips full unread left old_reads new_reads result skipped codec src =
    (answer : Answer) × (after : CodecState) × SkipsFor result answer
    × NextPacket full unread left old_reads new_reads answer after × LeavesNext result skipped codec src after

-- how many bytes of the open chunk were dropped
abbrev pub gone_len : Option OpenChunk → ℕ
gone_len None = 0
gone_len (Some begun) = 4 + begun.header.len - non_zero_usize_get begun.left

-- how far a call may still be from its end
abbrev pub skip_to_go : ℕ → ℕ → Skipped → List ℕ → ℕ
skip_to_go limit held skipped src =
    (most_reads limit + (held + 4 * (held / max_payload)))
    - (skipped.held + 4 * (skipped.held / max_payload) + (gone_len skipped.begun + length src))

gone_is : (begun : Option OpenChunk) (gone unread : List ℕ) → IsGone begun gone unread → length gone ≡ gone_len begun
gone_is None gone unread g = ap (λ (z : List ℕ). length z) g
gone_is (Some begun) gone unread g = omega (arith, g.1, g.2)

pub skip_to_go_is : (full mid : CodecState) (first skipped : Skipped) (start codec : PacketCodec) (old src : List ℕ)
    → WouldStand first start old full → WouldStand skipped codec src mid
    → to_go full mid.held mid.unread ≡ skip_to_go start.max_allowed_packet first.held skipped src
skip_to_go_is full mid first skipped start codec old src w v =
    let gone = gone_is skipped.begun v.gone mid.unread v.gone_is in
    let all : length mid.unread ≡ gone_len skipped.begun + length src =
    ap (λ (z : List ℕ). length z) v.unread_is ∙ length-append v.gone src ∙ ap (λ (n : ℕ). n + length src) gone in
    ap₂ (λ (n m : ℕ). (most_reads full.limit + (length full.held + 4 * (length full.held / max_payload))) - (n + 4 * (n / max_payload) + m)) v.held_is all
    ∙ ap₂ (λ (n m : ℕ). (most_reads n + (m + 4 * (m / max_payload))) - (skipped.held + 4 * (skipped.held / max_payload) + (gone_len skipped.begun + length src))) w.limit w.held_is

-- more bytes after what is to be read
spelled_more : (bytes more : List ℕ) → 4 ≤ length bytes → IsSpelled bytes → IsSpelled (bytes ++ more)
spelled_more (a ∷ b ∷ c ∷ d ∷ bytes) more long s = λ h. s long
spelled_more bytes more long s = absurd (omega arith)

gone_more : (begun : Option OpenChunk) (gone unread src more : List ℕ) → unread ≡ gone ++ src → IsGone begun gone unread → IsGone begun gone (unread ++ more)
gone_more None gone unread src more is g = g
gone_more (Some begun) gone unread src more is g =
    let all : length unread ≡ length gone + length src = ap (λ (z : List ℕ). length z) is ∙ length-append gone src in
    (g.0, g.1, g.2, spelled_more unread more (omega (arith, all, g.0)) g.3)

pub would_stand_more : (skipped : Skipped) (codec : PacketCodec) (src more all : List ℕ) (after : CodecState)
    → WouldStand skipped codec src after → all ≡ src ++ more → WouldStand skipped codec all (record after { unread = after.unread ++ more })
would_stand_more skipped codec src more all after w is = record {
  limit = w.limit;
  id = w.id;
  header = w.header;
  gone = w.gone;
  gone_is = gone_more skipped.begun w.gone after.unread src more w.unread_is w.gone_is;
  unread_is = ap (λ (z : List ℕ). z ++ more) w.unread_is ∙ append_assoc w.gone src more ∙ ap (λ (z : List ℕ). w.gone ++ z) (sym is);
  held_is = w.held_is;
  stands = stands_append after.limit after.header after.unread more after.held w.stands;
}

-- the packet ended
pub skip_found : (full mid : CodecState) (unread left : Option (List ℕ)) (old_reads new_reads : ℕ) (skipped : Skipped) (codec : PacketCodec) (src : List ℕ)
    → SoFar full mid unread left old_reads new_reads → SkipsPacket mid (Ok true) skipped codec src
    → Skips full unread left old_reads new_reads (Ok true) skipped codec src
skip_found full mid unread left old_reads new_reads skipped codec src s k =
    let packet : List ℕ = k.0.held in (
      Ok (Some packet),
      record k.0 { held = [] },
      (packet, refl),
      ends_by (Ok (Some packet)) false full mid (record k.0 { held = [] }) unread left left old_reads new_reads new_reads s refl refl (λ e. absurd cc) (k.1, refl, refl),
      (k.2.0, ap (λ (z : CodecState). record z { held = [] }) k.2.1),
    )

-- the codec refused
pub skip_refused : (error : PacketCodecError) (named : PacketIoError) (full mid : CodecState) (unread left : Option (List ℕ)) (old_reads new_reads : ℕ)
    (skipped : Skipped) (codec : PacketCodec) (src : List ℕ)
    → SoFar full mid unread left old_reads new_reads → SkipsPacket mid (Err error) skipped codec src → IsRefusal error named
    → Skips full unread left old_reads new_reads (Err named) skipped codec src
skip_refused codec.PacketTooLarge named full mid unread left old_reads new_reads skipped codec src s k is =
    rw is (Err PacketTooLarge, k.0, refl, ends_by (Err PacketTooLarge) false full mid k.0 unread left left old_reads new_reads new_reads s refl refl (λ e. absurd cc) (k.1, refl), k.2)
skip_refused codec.PacketsOutOfSync named full mid unread left old_reads new_reads skipped codec src s k is =
    rw is (Err PacketsOutOfSync, k.0, refl, ends_by (Err PacketsOutOfSync) true full mid k.0 unread left left old_reads new_reads new_reads s refl refl (λ e. absurd cc) (k.1, refl), k.2)
skip_refused other named full mid unread left old_reads new_reads skipped codec src s k is = absurd k.2

leaves_failed : (error : PacketIoError) (old_reads new_reads : ℕ) (skipped : Skipped) (codec : PacketCodec) (src : List ℕ) (after : CodecState)
    → ReadFails error old_reads new_reads → WouldStand skipped codec src after → LeavesNext (Err error) skipped codec src after
leaves_failed (Io error) old_reads new_reads skipped codec src after failed v = v
leaves_failed OutOfMemory old_reads new_reads skipped codec src after failed v = v
leaves_failed other old_reads new_reads skipped codec src after failed v = absurd failed

-- a read failed
pub skip_failed : (error : PacketIoError) (full after : CodecState) (unread left last : Option (List ℕ)) (old_reads new_reads all : ℕ)
    (skipped : Skipped) (codec : PacketCodec) (src now : List ℕ)
    → Waited full after unread left old_reads new_reads → WouldStand skipped codec src after → now ≡ src → Keeps left last → ReadFails error new_reads all
    → Skips full unread last old_reads all (Err error) skipped codec now
skip_failed error full after unread left last old_reads new_reads all skipped codec src now w v is kept fails =
    subst (λ (z : List ℕ). Skips full unread last old_reads all (Err error) skipped codec z) (sym is) (
      Err error,
      after,
      refl,
      failed error full after unread left last old_reads new_reads all after.unread after.held w refl refl kept fails,
      leaves_failed error new_reads all skipped codec src after fails v,
    )

begun_long : (begun : Option OpenChunk) (gone unread : List ℕ) → IsSome begun → IsGone begun gone unread → 4 ≤ length gone
begun_long None gone unread some g = absurd cc
begun_long (Some begun) gone unread some g = g.0

-- the input ended
pub skip_ended : (result : Result Bool PacketIoError) (full after : CodecState) (unread left last : Option (List ℕ)) (old_reads new_reads all : ℕ)
    (skipped : Skipped) (codec : PacketCodec) (src now : List ℕ) (n : ℕ)
    → Waited full after unread left old_reads new_reads → WouldStand skipped codec src after
    → (came : List ℕ) × (length came ≡ n) × (now ≡ src ++ came) × Consumes left last came → n ≡ 0 → IsAtEnd last → all ≡ min (new_reads + 1) (2 ^ 64 - 1)
    → IfOk result (λ more. (more ≡ false) × (length now ≡ 0) × (skipped.held ≡ 0) × (skipped.begun ≡ None))
    → IfErr result (λ error. (error ≡ UnexpectedEnd) × ((0 < length now) ⊎ ((0 < skipped.held) ⊎ IsSome skipped.begun)))
    → Skips full unread last old_reads all result skipped codec now
skip_ended (Ok more) full after unread left last old_reads new_reads all skipped codec src now n w v (piece, long, is, took) none at_end count clean inside =
    let stands = would_stand_more skipped codec src piece now after v is in
    let gone = gone_is skipped.begun v.gone after.unread v.gone_is ∙ ap (λ (b : Option OpenChunk). gone_len b) clean.3 in
    let size = ap (λ (z : List ℕ). length z) v.unread_is ∙ length-append v.gone src in
    let whole = ap (λ (z : List ℕ). length z) is ∙ length-append src piece in
    let more_size = length-append after.unread piece in
    subst (λ (b : Bool). Skips full unread last old_reads all (Ok b) skipped codec now) (sym clean.0) (
      Ok None,
      record after { unread = after.unread ++ piece },
      refl,
      ended (Ok None) full after unread left last old_reads new_reads all (after.unread ++ piece) after.held n w refl (piece, long, refl, took) none at_end count
          (omega (arith, more_size, size, gone, whole, long, none, clean.1), v.held_is ∙ clean.2),
      stands,
    )
skip_ended (Err error) full after unread left last old_reads new_reads all skipped codec src now n w v (piece, long, is, took) none at_end count clean inside =
    let stands = would_stand_more skipped codec src piece now after v is in
    let gone = gone_is skipped.begun v.gone after.unread v.gone_is in
    let size = ap (λ (z : List ℕ). length z) v.unread_is ∙ length-append v.gone src in
    let whole = ap (λ (z : List ℕ). length z) is ∙ length-append src piece in
    let more_size = length-append after.unread piece in
    let some : 0 < length (after.unread ++ piece) + length after.held = elim inside.1 [
      | inl bytes ↦ omega (arith, bytes, more_size, size, whole)
      | inr kept ↦ elim kept [
        | inl held ↦ omega (arith, held, v.held_is)
        | inr begun ↦ (let long = begun_long skipped.begun v.gone after.unread begun v.gone_is in omega (arith, long, more_size, size))
      ]
    ] in
    subst (λ (e : PacketIoError). Skips full unread last old_reads all (Err e) skipped codec now) (sym inside.0) (
      Err UnexpectedEnd,
      record after { unread = after.unread ++ piece },
      refl,
      ended (Err UnexpectedEnd) full after unread left last old_reads new_reads all (after.unread ++ piece) after.held n w refl (piece, long, refl, took) none at_end count some,
      stands,
    )

-- a packet of which nothing was dropped, or full chunks that were held
pub would_begin : (codec : PacketCodec) (src held : List ℕ) → Stands (codec_state codec src held)
    → WouldStand (record { held = length held; begun = None }) codec src (codec_state codec src held)
would_begin codec src held stands =
    record { limit = refl; id = refl; header = refl; gone = []; gone_is = refl; unread_is = refl; held_is = refl; stands = stands }

pub may_skip : (skipped : Option Skipped) (lost : Bool) (codec : PacketCodec) (src held : List ℕ)
    → MatchOption skipped (FitsAt lost (codec_state codec src held)) (λ k. MaySkip k codec src)
    → (IsTrue lost → IsNone skipped → ⊥) → MaySkip (skipped_or skipped (length held)) codec src
may_skip None true codec src held can stuck = absurd (stuck refl refl)
may_skip None false codec src held can stuck =
    (codec_state codec src held, would_begin codec src held (is_standing false (codec_state codec src held) refl can))
may_skip (Some k) lost codec src held can stuck = can

-- a part of a packet is gone
not_behind : (skipped : Skipped) → skipped ≡ nothing_skipped → (0 < skipped.held) ⊎ IsSome skipped.begun → ⊥
not_behind skipped is more =
    subst (λ (z : Skipped). (0 < z.held) ⊎ IsSome z.begun → ⊥) (sym is) (λ m. elim m [ inl held ↦ omega arith | inr begun ↦ cc ]) more

pub left_under_way : (result : Result Bool PacketIoError) (skipped : Skipped) (codec : PacketCodec) (src : List ℕ) (after : CodecState)
    → LeavesNext result skipped codec src after → (0 < skipped.held) ⊎ IsSome skipped.begun → WouldStand skipped codec src after
left_under_way (Ok true) skipped codec src after left more = absurd (not_behind skipped left.0 more)
left_under_way (Err PacketsOutOfSync) skipped codec src after left more = absurd (not_behind skipped left.0 more)
left_under_way other skipped codec src after left more = left

-- or none, and the codec stands there
whole_stands : (skipped : Skipped) (codec : PacketCodec) (src : List ℕ) (after : CodecState)
    → WouldStand skipped codec src after → skipped.held ≡ 0 → skipped.begun ≡ None → Stands (codec_state codec src [])
whole_stands skipped codec src after w held none =
    let gone : w.gone ≡ [] = subst (λ (b : Option OpenChunk). IsGone b w.gone after.unread) none w.gone_is in
    let unread : after.unread ≡ src = w.unread_is ∙ ap (λ (z : List ℕ). z ++ src) gone in
    let header = w.header ∙ ap (λ (b : Option OpenChunk). header_at b (header_of codec)) none in
    let nothing : after.held ≡ [] = length-zero after.held (w.held_is ∙ held) in
    subst (λ (n : ℕ). StandsAt n (header_of codec) src []) w.limit
    (subst (λ (h : Option (ℕ × ℕ)). StandsAt after.limit h src []) header
    (subst (λ (z : List ℕ). StandsAt after.limit after.header z []) unread
    (subst (λ (z : List ℕ). StandsAt after.limit after.header after.unread z) nothing w.stands)))

pub left_whole : (result : Result Bool PacketIoError) (lost : Bool) (full : CodecState) (unread left : Option (List ℕ)) (old_reads new_reads : ℕ)
    (skipped : Skipped) (codec : PacketCodec) (src : List ℕ)
    → Skips full unread left old_reads new_reads result skipped codec src → skipped.held ≡ 0 → skipped.begun ≡ None
    → (result ≡ Err PacketsOutOfSync → IsTrue lost) → FitsAt lost (codec_state codec src [])
left_whole (Ok true) lost full unread left old_reads new_reads skipped codec src k held none lose =
    let next = subst (λ (a : Answer). NextPacket full unread left old_reads new_reads a k.1) k.2.1 k.3 in
    let header : header_of codec ≡ None = sym (ap (λ (z : CodecState). z.header) k.4.1) ∙ next.answers.0.3 in
    inr (stands_without codec.max_allowed_packet src [] (header_of codec) nothing_whole header)
left_whole (Err PacketsOutOfSync) lost full unread left old_reads new_reads skipped codec src k held none lose = inl (lose refl)
left_whole other lost full unread left old_reads new_reads skipped codec src k held none lose = inr (whole_stands skipped codec src k.1 k.4 held none)

-- no packet is lent
pub unlent : {A : Type 0} (found : Option (Found A)) (src : List ℕ) → IsNone (packet_of found src) → unread_behind found src ≡ src
unlent (Some (InFront chunk)) src h = absurd cc
unlent (Some (Copied packet)) src h = absurd cc
unlent None src h = refl

pub lent_none : {A : Type 0} (found : Option (Found A)) (src : List ℕ) (lent : Bool) → lent ≡ is_some found → lent ≡ false → IsNone (packet_of found src)
lent_none None src lent e f = refl
lent_none found src lent e f = absurd cc

-- at the start of a packet
pub fresh_would : (skipped : Option Skipped) (lost : Bool) (codec : PacketCodec) (src held : List ℕ)
    → MatchOption skipped (FitsAt lost (codec_state codec src held)) (λ k. MaySkip k codec src) → IsNone skipped → IsFalse lost
    → WouldStand (skipped_or skipped (length held)) codec src (codec_state codec src held)
fresh_would None false codec src held can none found = would_begin codec src held (is_standing false (codec_state codec src held) refl can)
fresh_would skipped lost codec src held can none found = absurd cc

-- nothing was dropped
begun_none : (begun : Option OpenChunk) → (IsSome begun → ⊥) → begun ≡ None
begun_none None never = refl
begun_none (Some begun) never = absurd (never refl)

pub not_under_way : (skipped : Skipped) (way : Bool) → ((0 < skipped.held) ⊎ IsSome skipped.begun → IsTrue way) → way ≡ false
    → (skipped.held ≡ 0) × (skipped.begun ≡ None)
not_under_way skipped way on e = (
  elim (cases_lt 0 skipped.held) [ inl more ↦ absurd (let t = on (inl more) in cc) | inr none ↦ omega arith ],
  begun_none skipped.begun (λ some. let t = on (inr some) in cc),
)

pub nothing_is : (skipped : Skipped) (now : Option Skipped) (held : List ℕ) → IsNone now → held ≡ [] → skipped.held ≡ 0 → skipped.begun ≡ None
    → skipped ≡ skipped_or now (length held)
nothing_is skipped None held none empty zero_held zero_begun =
    ap₂ (λ (n : ℕ) (b : Option OpenChunk). record { held = n; begun = b }) (zero_held ∙ sym (ap (λ (z : List ℕ). length z) empty)) zero_begun
nothing_is skipped (Some k) held none empty zero_held zero_begun = absurd cc

pub can_fit : (now : Option Skipped) (lost : Bool) (codec : PacketCodec) (src held : List ℕ) → IsNone now → held ≡ [] → FitsAt lost (codec_state codec src [])
    → MatchOption now (FitsAt lost (codec_state codec src held)) (λ k. MaySkip k codec src)
can_fit None lost codec src held none empty fits = subst (λ (z : List ℕ). FitsAt lost (codec_state codec src z)) (sym empty) fits
can_fit (Some k) lost codec src held none empty fits = absurd cc
