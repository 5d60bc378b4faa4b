-- More bytes after what is to be read.
use Rattle.std.proofs.Common.{◌≡◌, ℕ, ◌+◌, ◌≤◌, List, ◌++◌, length, take, drop, refl, sym, ap, ap₂, ◌∙◌, arith, Some, false, length-drop}
use Rattle.std.proofs.lemmas.List.{take-append-le, drop-append-le}
use Rattle.wire_buf.specs.Numbers.{le_number}
use Rattle.wire_codec.specs.Delivery.{chunk_len}
use Rattle.wire_codec.specs.Codec.{CodecState}
use Rattle.wire_codec.specs.InPlace.{front_payload, behind_front}
use Rattle.wire_codec.specs.Laws.{appended}
use Rattle.mysql_wire_c_calls.specs.declared.side.Front.{Front}
use Rattle.mysql_wire_c_calls.specs.declared.side.Front.TheVariants.{Unfinished, InPlace, Copied, Lost}
use Rattle.mysql_wire_c_calls.specs.Side.{Side, side_of, IsReady, emptied}

chunk_len-more : (src more : List ℕ) → 4 ≤ length src → chunk_len (src ++ more) ≡ chunk_len src
chunk_len-more src more long = ap le_number (take-append-le 3 src more (omega arith))

payload-more : (src more : List ℕ) → 4 ≤ length src → 4 + chunk_len src ≤ length src
    → front_payload (src ++ more) ≡ front_payload src
payload-more src more long whole =
    let room : chunk_len src ≤ length (drop 4 src) = rw length-drop (omega arith) in
    ap₂ (λ (n : ℕ) (l : List ℕ). take n l) (chunk_len-more src more long) (drop-append-le 4 src more long)
    ∙ take-append-le (chunk_len src) (drop 4 src) more room

rest-more : (src more : List ℕ) → 4 ≤ length src → 4 + chunk_len src ≤ length src
    → drop (4 + chunk_len (src ++ more)) (src ++ more) ≡ drop (4 + chunk_len src) src ++ more
rest-more src more long whole =
    ap (λ (n : ℕ). drop (4 + n) (src ++ more)) (chunk_len-more src more long)
    ∙ drop-append-le (4 + chunk_len src) src more whole

-- a connection with these bytes after
abbrev pub fed : Side → List ℕ → Side
fed side more = record side { state = appended side.state more }

-- one whose packet lies in front
abbrev side_at : CodecState → List ℕ → List ℕ → List ℕ → Side
side_at state pending packet unread = record {
  is_lost = (side_of InPlace state pending).is_lost;
  lent = Some packet;
  state = record (emptied (behind_front state)) { unread = unread };
  pending = pending;
}

pub side_of-appended : (front : Front) (state : CodecState) (more pending : List ℕ)
    → IsReady front state
    → side_of front (appended state more) pending ≡ fed (side_of front state pending) more
side_of-appended Unfinished state more pending ready = refl
side_of-appended InPlace state more pending (aligned, empty, long, whole, small, is, within) =
    ap₂ (side_at state pending) (payload-more state.unread more long whole)
    (rest-more state.unread more long whole)
side_of-appended Copied state more pending ready = refl
side_of-appended Lost state more pending ready = refl

-- a connection at its buffers that isn't lost
pub found : (front : Front) (state : CodecState) (pending : List ℕ) (side : Side)
    → (front ≡ Lost → ⊥) → side_of front state pending ≡ side → side.is_lost ≡ false
found Unfinished state pending side other is = ap (λ (s : Side). s.is_lost) (sym is)
found InPlace state pending side other is = ap (λ (s : Side). s.is_lost) (sym is)
found Copied state pending side other is = ap (λ (s : Side). s.is_lost) (sym is)
found Lost state pending side other is = absurd (other refl)
