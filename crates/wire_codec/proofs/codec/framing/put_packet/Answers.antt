use Rattle.std.proofs.Common.{◌≡◌, ℕ, ◌%◌, ◌<◌, List, [], ◌++◌, length, drop, refl, ap, ◌∙◌, arith}
use Rattle.std.proofs.lemmas.List.{drop_all}
use Rattle.wire_codec.specs.Framing.{max_payload, max_payload_is}
use Rattle.wire_codec.proofs.ChunkLemmas.{piece_framed, no_blocks}
use Rattle.wire_codec.proofs.codec.framing.put_packet.Goals as goal

all_dropped : (len : ℕ) (bytes : List ℕ) → len ≡ length bytes → drop len bytes ≡ []
all_dropped len bytes is = drop_all len bytes (omega (arith, is))

pub bytes-requires : goal.bytes-requires
bytes-requires g c = omega (arith, max_payload_is)

pub returns-clause-appended : goal.returns-clause-appended
returns-clause-appended g c =
    let payload = g.T.Buf.unread c.args.packet.now in
    let old : List ℕ = c.args.dst.now.items in
    let hdr : List ℕ = c.bytes.result in
    let piece : List ℕ = c.chunk-piece.result.now in
    let short : c.remaining-len.result < max_payload = omega (arith, max_payload_is) in
    let whole : length piece ≡ c.remaining-len.result = omega arith in
    piece_framed old hdr piece c.extend_reserved-2.new.self.items payload c.args.seq_id c.remaining-len.result c.remaining-len.ensures short whole c.chunk-piece.ensures.front c.bytes.ensures
    (c.extend_reserved-2.ensures.items ∙ ap (λ (z : List ℕ). z ++ piece) (c.extend_reserved.ensures.items ∙ ap (λ (z : List ℕ). z ++ hdr) c.reserve.ensures.items))

pub returns-clause-next : goal.returns-clause-next
returns-clause-next g c =
    let payload = g.T.Buf.unread c.args.packet.now in
    let short : length payload < max_payload = omega (arith, max_payload_is, c.remaining-len.ensures) in
    let none = no_blocks (length payload) short in
    ap (λ (n : ℕ). n % 256) (omega (arith, none))

pub returns-then-is_err-clause-appended : goal.returns-then-is_err-clause-appended
returns-then-is_err-clause-appended g c = tt

pub returns-then-is_err-clause-emptied : goal.returns-then-is_err-clause-emptied
returns-then-is_err-clause-emptied g c = tt

pub returns-then-is_err-clause-next : goal.returns-then-is_err-clause-next
returns-then-is_err-clause-next g c = tt

pub returns-then-is_err-clause-kept : goal.returns-then-is_err-clause-kept
returns-then-is_err-clause-kept g c = refl

pub returns-then-is_err-clause-err : goal.returns-then-is_err-clause-err
returns-then-is_err-clause-err g c = (refl, c.reserve.ensures.items)

-- several chunks, or several pieces
pub returns-then-len-ge-MAX_PAYLOAD_LEN-clause-appended : goal.returns-then-len-ge-MAX_PAYLOAD_LEN-clause-appended
returns-then-len-ge-MAX_PAYLOAD_LEN-clause-appended g c = c.put_chunks.ensures.appended

pub returns-then-len-ge-MAX_PAYLOAD_LEN-clause-emptied : goal.returns-then-len-ge-MAX_PAYLOAD_LEN-clause-emptied
returns-then-len-ge-MAX_PAYLOAD_LEN-clause-emptied g c = c.put_chunks.ensures.emptied

pub returns-then-len-ge-MAX_PAYLOAD_LEN-clause-next : goal.returns-then-len-ge-MAX_PAYLOAD_LEN-clause-next
returns-then-len-ge-MAX_PAYLOAD_LEN-clause-next g c = c.put_chunks.ensures.next

pub returns-then-len-ge-MAX_PAYLOAD_LEN-clause-kept : goal.returns-then-len-ge-MAX_PAYLOAD_LEN-clause-kept
returns-then-len-ge-MAX_PAYLOAD_LEN-clause-kept g c = c.put_chunks.ensures.kept

pub returns-then-len-ge-MAX_PAYLOAD_LEN-clause-err : goal.returns-then-len-ge-MAX_PAYLOAD_LEN-clause-err
returns-then-len-ge-MAX_PAYLOAD_LEN-clause-err g c = c.put_chunks.ensures.err

pub returns-clause-err : goal.returns-clause-err
returns-clause-err g c = tt

pub returns-clause-kept : goal.returns-clause-kept
returns-clause-kept g c = c.advance.ensures.kept

pub returns-clause-emptied : goal.returns-clause-emptied
returns-clause-emptied g c = c.advance.ensures.value ∙ all_dropped c.remaining-len.result (g.T.Buf.unread c.args.packet.now) c.remaining-len.ensures
