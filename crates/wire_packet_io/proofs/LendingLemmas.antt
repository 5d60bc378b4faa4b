-- A reader of packets that lends nothing when it is called.
use Rattle.std.proofs.Common.{◌≡◌, ◌⊎◌, ◌+◌, [], IfSome, ℕ, ◌++◌, List, length, drop, refl, rules, sym, ◌∙◌, subst, inl, inr, IsNone, IsSome, Option, Some, None, Result, Ok, Err, Bool, true, false}
use Rattle.std.specs.Option.{is_some}
use Rattle.std.specs.Io.KnownBytes.{Consumes}
use Rattle.wire_codec.specs.declared.codec.packet.PacketCodec.{PacketCodec}
use Rattle.std.proofs.lemmas.Bool.{false≢true}
use Rattle.wire_codec.specs.declared.codec.error.PacketCodecError.{PacketCodecError}
use Rattle.wire_codec.specs.Codec.{CodecState, codec_state, DecodesPacket, Stands}
use Rattle.wire_codec.specs.InPlace.{HasFront, behind_front}
use Rattle.wire_codec.specs.Delivery.{chunk_len}
use Rattle.wire_codec.proofs.RunLemmas.{stands_append}
use Rattle.wire_packet_io.specs.declared.error.PacketIoError.{PacketIoError}
use Rattle.wire_packet_io.specs.declared.error.PacketIoError.TheVariants.{PacketTooLarge, PacketsOutOfSync, OutOfMemory}
use Rattle.wire_packet_io.specs.declared.input.Found.{Found}
use Rattle.wire_packet_io.specs.declared.input.Found.TheVariants.{InFront, Copied}
use Rattle.wire_packet_io.specs.PacketIo.{Answer, FitsAt, NextPacket, TakesPacket}
use Rattle.wire_packet_io.specs.Lending.{IsCopied, answer_over, found_in, packet_of, unread_behind}
use Rattle.wire_packet_io.proofs.PacketIoLemmas.{apart_unread, ends_by, is_standing, starts}

-- it goes on where the codec stands
pub stands_unlent : {A : Type 0} (lent : Option (Found A)) (is lost : Bool) (codec : PacketCodec) (src held : List ℕ) → is ≡ is_some lent → is ≡ false → lost ≡ false
    → FitsAt lost (codec_state codec (unread_behind lent src) held) → Stands (codec_state codec src held)
stands_unlent None is lost codec src held e f found fits = is_standing lost (codec_state codec src held) found fits
stands_unlent (Some packet) is lost codec src held e f found fits = absurd cc

-- it lends nothing
pub is_unlent : {A : Type 0} (lent : Option (Found A)) (src : List ℕ) → IsNone (packet_of lent src) → false ≡ is_some lent
is_unlent None src e = refl
is_unlent (Some (InFront chunk)) src e = absurd (false≢true (sym e))
is_unlent (Some (Copied packet)) src e = absurd (false≢true (sym e))

-- what is read is read from what is unread
pub reads_unlent : {A : Type 0} (lent : Option (Found A)) (is : Bool) (codec : PacketCodec) (src held : List ℕ) (unread left : Option (List ℕ)) (old_reads new_reads : ℕ) (answer : Answer) (after : CodecState)
    → is ≡ is_some lent → is ≡ false → NextPacket (codec_state codec src held) unread left old_reads new_reads answer after
    → NextPacket (codec_state codec (unread_behind lent src) held) unread left old_reads new_reads answer after
reads_unlent None is codec src held unread left old_reads new_reads answer after e f next = next
reads_unlent (Some packet) is codec src held unread left old_reads new_reads answer after e f next = absurd cc

-- a packet that lies in front is read at once
pub reads_front : {A : Type 0} (lent : Option (Found A)) (is lost : Bool) (codec behind : PacketCodec) (src held packet : List ℕ) (chunk reads : ℕ) (unread : Option (List ℕ))
    → is ≡ is_some lent → is ≡ false → lost ≡ false → FitsAt lost (codec_state codec (unread_behind lent src) held) → chunk ≡ 4 + chunk_len src
    → TakesPacket (codec_state codec src held) (Ok (Some packet)) lost (codec_state behind (drop chunk src) held)
    → NextPacket (codec_state codec (unread_behind lent src) held) unread unread reads reads (Ok (Some packet)) (codec_state behind (drop (4 + chunk_len src) src) held)
reads_front lent is lost codec behind src held packet chunk reads unread e f found fits there takes =
    let before = codec_state codec src held in
    let begun = starts before unread reads (stands_unlent lent is lost codec src held e f found fits) in
    let next = ends_by (Ok (Some packet)) lost before before (codec_state behind (drop chunk src) held) unread unread unread reads reads reads begun refl refl (λ same. absurd cc) takes in
    reads_unlent lent is codec src held unread unread reads reads (Ok (Some packet)) _ e f (rw (there) at next)

-- and a packet that was put together is before what is unread then
pub reads_apart : {A : Type 0} (lent : Option (Found A)) (found : Result (Option (Found A)) PacketIoError) (is : Bool) (codec behind : PacketCodec) (src held new kept : List ℕ)
    (unread left : Option (List ℕ)) (old_reads new_reads : ℕ) (packet : Answer)
    → is ≡ is_some lent → is ≡ false → IsCopied (found_in found) → packet ≡ answer_over found new
    → NextPacket (codec_state codec src held) unread left old_reads new_reads (answer_over found new) (codec_state behind (unread_behind (found_in found) new) kept)
    → NextPacket (codec_state codec (unread_behind lent src) held) unread left old_reads new_reads packet (codec_state behind (unread_behind lent new) kept)
reads_apart None found is codec behind src held new kept unread left old_reads new_reads packet e f apart same next =
    subst (λ (a : Answer). NextPacket (codec_state codec src held) unread left old_reads new_reads a (codec_state behind new kept)) (sym same)
    (subst (λ (z : List ℕ). NextPacket (codec_state codec src held) unread left old_reads new_reads (answer_over found new) (codec_state behind z kept)) (apart_unread (found_in found) new apart) next)
reads_apart (Some lends) found is codec behind src held new kept unread left old_reads new_reads packet e f apart same next = absurd cc

-- the codec fits then
pub fits_apart : {A : Type 0} (lent found : Option (Found A)) (is lost : Bool) (codec : PacketCodec) (src held : List ℕ) → is ≡ is_some lent → is ≡ false → IsCopied found
    → FitsAt lost (codec_state codec (unread_behind found src) held) → FitsAt lost (codec_state codec (unread_behind lent src) held)
fits_apart None found is lost codec src held e f apart fits = subst (λ (z : List ℕ). FitsAt lost (codec_state codec z held)) (apart_unread found src apart) fits
fits_apart (Some packet) found is lost codec src held e f apart fits = absurd cc

-- a decode leaves the codec where it fits
pub takes_fits : (answer : Answer) (lost : Bool) (before after : CodecState) → after.limit ≡ before.limit → TakesPacket before answer lost after → FitsAt lost after
takes_fits (Ok (Some packet)) lost before after limit t = search rules
takes_fits (Ok None) lost before after limit t = search rules
takes_fits (Err PacketTooLarge) lost before after limit t = search rules
takes_fits (Err PacketsOutOfSync) lost before after limit t = inl t.1
takes_fits (Err OutOfMemory) lost before after limit t = search rules
takes_fits (Err other) lost before after limit t = absurd t

-- and more bytes do
pub fits_more : (was lost : Bool) (codec : PacketCodec) (src new held dst : List ℕ) (n : ℕ) (from last : Option (List ℕ)) → was ≡ false → FitsAt was (codec_state codec src held) → dst ≡ held
    → (came : List ℕ) × (length came ≡ n) × (new ≡ src ++ came) × Consumes from last came → FitsAt lost (codec_state codec new dst)
fits_more was lost codec src new held dst n from last found fits same (came, size, is, took) =
    let stands = is_standing was (codec_state codec src held) found fits in
    let state = codec_state codec src held in
    inr (rw (same, is) (stands_append state.limit state.header src came held stands))

-- a lost reader is not ready
pub lost_unready : (lost : Bool) (P : Type 0) → lost ≡ true → (false ≡ true → (lost ≡ false) × P) × ((lost ≡ false) × P → false ≡ true)
lost_unready true P e = (λ f. absurd (false≢true f), λ w. sym w.0)
lost_unready false P e = absurd (false≢true e)

-- one that lends is
pub lent_ready : {A : Type 0} (lent : Option (Found A)) (found : Found A) (src : List ℕ) (lost : Bool) (P : Type 0) → lent ≡ Some found → lost ≡ false
    → (true ≡ true → (lost ≡ false) × (IsSome (packet_of lent src) ⊎ P)) × ((lost ≡ false) × (IsSome (packet_of lent src) ⊎ P) → true ≡ true)
lent_ready None found src lost P e here = absurd cc
lent_ready (Some (InFront chunk)) found src lost P e here = (λ f. (here, inl refl), λ w. refl)
lent_ready (Some (Copied packet)) found src lost P e here = (λ f. (here, inl refl), λ w. refl)

-- and one with a packet in front
pub front_ready : {A B : Type 0} (lent : Option (Found A)) (front : Option B) (is lost : Bool) (codec : PacketCodec) (src held dst : List ℕ)
    → lent ≡ None → lost ≡ false → is ≡ is_some front → dst ≡ held
    → (IsSome front → HasFront (codec_state codec src dst)) × (HasFront (codec_state codec src dst) → IsSome front)
    → (is ≡ true → (lost ≡ false) × (IsSome (packet_of lent src) ⊎ HasFront (codec_state codec (unread_behind lent src) held)))
    × ((lost ≡ false) × (IsSome (packet_of lent src) ⊎ HasFront (codec_state codec (unread_behind lent src) held)) → is ≡ true)
front_ready None front is lost codec src held dst none here same e there = (
  λ t. (here, inr (subst (λ (z : List ℕ). HasFront (codec_state codec src z)) e (there.0 (sym same ∙ t)))),
  λ w. elim w.1 [ inl some ↦ absurd (false≢true some) | inr front ↦ same ∙ there.1 (subst (λ (z : List ℕ). HasFront (codec_state codec src z)) (sym e) front) ],
)
front_ready (Some found) front is lost codec src held dst none here same e there = absurd cc

-- which is what a decode gives
pub front_decodes : {A B : Type 0} (lent : Option (Found A)) (front : Option B) (is : Bool) (codec : PacketCodec) (src held dst : List ℕ)
    → lent ≡ None → is ≡ is_some front → dst ≡ held
    → (IsSome front → Stands (codec_state codec src dst) → DecodesPacket (codec_state codec src dst) (Ok true) (behind_front (codec_state codec src dst)))
    → is ≡ true → Stands (codec_state codec (unread_behind lent src) held)
    → DecodesPacket (codec_state codec (unread_behind lent src) held) (Ok true) (behind_front (codec_state codec (unread_behind lent src) held))
front_decodes None front is codec src held dst none same e decodes t stands =
    subst (λ (z : List ℕ). DecodesPacket (codec_state codec src z) (Ok true) (behind_front (codec_state codec src z))) e
    (decodes (sym same ∙ t) (subst (λ (z : List ℕ). Stands (codec_state codec src z)) (sym e) stands))
front_decodes (Some found) front is codec src held dst none same e decodes t stands = absurd cc

-- a packet in front is there with nothing held
pub front_alone : (codec : PacketCodec) (src held : List ℕ) → HasFront (codec_state codec src held) → HasFront (codec_state codec src [])
front_alone codec src held front = subst (λ (z : List ℕ). HasFront (codec_state codec src z)) front.1 front

-- what is decoded in the same bytes
pub decoded : (codec behind : PacketCodec) (src from held kept new dst : List ℕ) (answer : Result Bool PacketCodecError) → from ≡ src → kept ≡ held
    → (Stands (codec_state codec from kept) → DecodesPacket (codec_state codec from kept) answer (codec_state behind new dst))
    → Stands (codec_state codec src held) → DecodesPacket (codec_state codec src held) answer (codec_state behind new dst)
decoded codec behind src from held kept new dst answer a b decodes stands = rw (← a, ← b) (decodes (rw (a, b) stands))

-- a packet is lent
pub lent_some : {A : Type 0} (lent : Option (Found A)) (src : List ℕ) (is : Bool) → is ≡ is_some lent → is ≡ true → IsNone (packet_of lent src) → ⊥
lent_some None src is e f none = false≢true (sym e ∙ f)
lent_some (Some (InFront chunk)) src is e f none = false≢true (sym none)
lent_some (Some (Copied packet)) src is e f none = false≢true (sym none)

pub lent_not : {A : Type 0} (lent : Option (Found A)) (src : List ℕ) (is : Bool) → is ≡ is_some lent → is ≡ false → IsSome (packet_of lent src) → ⊥
lent_not None src is e f some = false≢true some
lent_not (Some found) src is e f some = false≢true (sym f ∙ e)

pub of_none : {A : Type 0} (o : Option A) (P : A → Type 0) → IsNone o → IfSome o P
of_none None P e = tt
of_none (Some x) P e = absurd (false≢true (sym e))
