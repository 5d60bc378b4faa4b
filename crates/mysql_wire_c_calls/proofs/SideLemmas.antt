-- What is unread, and packets of one chunk.
use Rattle.std.proofs.Common.{◌≡◌, ℕ, ◌+◌, ◌-◌, ◌*◌, ◌/◌, ◌%◌, ◌<◌, ◌≤◌, List, ◌++◌, length, take, take_all, drop, suc, zero-mul, add-zero, refl, sym, ap, ap₂, ◌∙◌, arith, subst, IfSome, length-drop, inl, rules, ◌≢◌}
use Rattle.std.proofs.lemmas.List.{length-take-le}
use Rattle.wire_codec.specs.Framing.{max_payload, max_payload_is, header, chunk, chunks, framing, next_id}
use Rattle.wire_codec.specs.Delivery.{chunk_len}
use Rattle.wire_codec.specs.declared.codec.packet.PacketCodec.{PacketCodec}
use Rattle.wire_codec.specs.Codec.{CodecState, codec_state, expected_id, header_of}
use Rattle.wire_codec.specs.InPlace.{HasFront, front_payload}
use Rattle.mysql_wire_c_calls.specs.declared.side.Front.{Front}
use Rattle.mysql_wire_c_calls.specs.declared.side.Front.TheVariants.{Unfinished, InPlace, Copied, Lost}
use Rattle.mysql_wire_c_calls.specs.declared.codes.TheConstants.{OK}
use Rattle.mysql_wire_c_calls.specs.Side.{Side, side_of, is_lost_at, lent_at, behind_lent, IsReady}
use Rattle.mysql_wire_c_calls.specs.Calls.{EncodesHeader, EncodesTo}

-- what is unread after a packet that lies in front
abbrev Unread : CodecState → Side → List ℕ → Type 0
Unread state side packet =
    (4 + length packet ≤ length state.unread)
    × (length state.unread - (4 + length packet) ≡ length side.state.unread + length side.state.held)

unread_here : (state : CodecState) (pending packet : List ℕ) → HasFront state
    → packet ≡ front_payload state.unread → Unread state (side_of InPlace state pending) packet
unread_here state pending packet (aligned, empty, long, whole, small, is, within) same =
    let room : chunk_len state.unread ≤ length (drop 4 state.unread) = rw length-drop (omega arith) in
    let len : length packet ≡ chunk_len state.unread =
    ap length same ∙ length-take-le (chunk_len state.unread) (drop 4 state.unread) room in
    let left : length (drop (4 + chunk_len state.unread) state.unread) ≡ length state.unread - (4 + chunk_len state.unread) = length-drop (4 + chunk_len state.unread) state.unread in
    (omega (arith, len), omega (arith, len, left))

pub unread_behind : (front : Front) (state : CodecState) (pending : List ℕ) (side : Side) (packet : List ℕ)
    → front ≡ InPlace → IsReady front state → side_of front state pending ≡ side
    → IfSome side.lent (λ lent. packet ≡ lent) → Unread state side packet
unread_behind front state pending side packet is ready view =
    subst (λ (s : Side). IfSome s.lent (λ lent. packet ≡ lent) → Unread state s packet) view
    (subst (λ (f : Front). IsReady f state → IfSome (side_of f state pending).lent (λ lent. packet ≡ lent) → Unread state (side_of f state pending) packet)
    (sym is) (λ r lent. unread_here state pending packet r lent) ready)

-- how many bytes a full chunk carries
pub full_chunk : max_payload ≡ 16777215
full_chunk = max_payload_is

pub is_short : (n : ℕ) → n < 16777215 → n < max_payload
is_short n small = rw full_chunk small

pub no_full_chunk : (n : ℕ) → n < max_payload → n / max_payload ≡ 0
unfolding max_payload
no_full_chunk n small = omega arith

chunk_opened : (id : ℕ) (payload : List ℕ) → chunk id payload ≡ header (length payload) id ++ payload
unfolding chunk
chunk_opened id payload = refl

-- a payload of one chunk is framed as its header, and the payload
pub framed_short : (id : ℕ) (payload : List ℕ) → length payload < max_payload → framing id payload ≡ header (length payload) id ++ payload
framed_short id payload small =
    let none : length payload / max_payload ≡ 0 = no_full_chunk (length payload) small in
    let all : take max_payload (drop (0 * max_payload) payload) ≡ payload = rw zero-mul (take_all max_payload payload (omega (arith, small))) in
    ap (λ (n : ℕ). chunks (suc n) id payload) none ∙ ap₂ (λ (i : ℕ) (p : List ℕ). chunk i p) (add-zero id) all ∙ chunk_opened id payload

-- the header of a packet that is to follow
pub header_is : (len : ℕ) (old_header new_header : List ℕ) (before after : Side) → len ≤ before.state.limit → len < max_payload → new_header ≡ header len before.state.id
    → after ≡ record before { state = record before.state { id = (before.state.id + 1) % 256 } }
    → EncodesHeader len old_header new_header OK before after
header_is len old_header new_header before after within small spelled set = record {
  encoded = λ ok payload long. (
    framed_short before.state.id payload (omega (arith, small, long))
        ∙ ap (λ (n : ℕ). header n before.state.id ++ payload) long ∙ ap (λ (h : List ℕ). h ++ payload) (sym spelled),
    let none = no_full_chunk (length payload) (omega (arith, small, long)) in
        let next : before.state.id + 1 ≡ before.state.id + length payload / max_payload + 1 = omega (arith, none) in
        set ∙ ap (λ (n : ℕ). record before { state = record before.state { id = n % 256 } }) next,
  );
  next = λ ok. set;
  fits = λ ok. (within, small);
  too_large = search rules;
  memory = search rules;
  refused = inl refl;
  answers = inl refl;
}

-- one side, of two connections that agree
pub side_kept : (front old : Front) (state was : CodecState) (pending : List ℕ) (before : Side) → is_lost_at front ≡ is_lost_at old → lent_at front state ≡ lent_at old was
    → behind_lent front state ≡ behind_lent old was → side_of old was pending ≡ before → side_of front state pending ≡ before
side_kept front old state was pending before lost lent behind view = rw (lost, lent, behind) view

-- its limit
pub limit_of : (front : Front) (state : CodecState) (pending : List ℕ) (before : Side) → side_of front state pending ≡ before → state.limit ≡ before.state.limit
limit_of Unfinished state pending before view = ap (λ (s : Side). s.state.limit) view
limit_of InPlace state pending before view = ap (λ (s : Side). s.state.limit) view
limit_of Copied state pending before view = ap (λ (s : Side). s.state.limit) view
limit_of Lost state pending before view = ap (λ (s : Side). s.state.limit) view

-- its number, where nothing is lent in front
pub number_of : (front : Front) (state : CodecState) (pending : List ℕ) (before : Side) → front ≢ InPlace → side_of front state pending ≡ before → state.id ≡ before.state.id
number_of Unfinished state pending before apart view = ap (λ (s : Side). s.state.id) view
number_of InPlace state pending before apart view = absurd (apart refl)
number_of Copied state pending before apart view = ap (λ (s : Side). s.state.id) view
number_of Lost state pending before apart view = ap (λ (s : Side). s.state.id) view

-- and another one
pub renumbered : (front : Front) (codec behind : PacketCodec) (src dst pending : List ℕ) (before : Side) (next : ℕ) → front ≢ InPlace → side_of front (codec_state codec src dst) pending ≡ before
    → expected_id behind ≡ next → header_of behind ≡ header_of codec → behind.max_allowed_packet ≡ codec.max_allowed_packet
    → side_of front (codec_state behind src dst) pending ≡ record before { state = record before.state { id = next } }
renumbered Unfinished codec behind src dst pending before next apart view id header limit = rw (id, header, limit) (ap (λ (s : Side). record s { state = record s.state { id = next } }) view)
renumbered InPlace codec behind src dst pending before next apart view id header limit = absurd (apart refl)
renumbered Copied codec behind src dst pending before next apart view id header limit = rw (id, header, limit) (ap (λ (s : Side). record s { state = record s.state { id = next } }) view)
renumbered Lost codec behind src dst pending before next apart view id header limit = rw (id, header, limit) (ap (λ (s : Side). record s { state = record s.state { id = next } }) view)

-- a packet is framed at the front of the room
pub encodes_there : (payload old_room room : List ℕ) (written n id next : ℕ) (before after : Side) → id ≡ before.state.id → room ≡ framing id payload ++ drop n old_room
    → after ≡ record before { state = record before.state { id = next } } → next ≡ next_id id payload → n ≡ written → written ≡ length (framing id payload)
    → length payload ≤ before.state.limit → written ≤ length old_room → EncodesTo payload old_room room written OK before after
encodes_there payload old_room room written n id next before after number put goes next_is same len within fits = record {
  encoded = λ ok. (
    put ∙ ap₂ (λ (i k : ℕ). framing i payload ++ drop k old_room) number same,
    goes ∙ ap (λ (k : ℕ). record before { state = record before.state { id = k } }) (next_is ∙ ap (λ (i : ℕ). next_id i payload) number),
  );
  len = λ ok. len ∙ ap (λ (i : ℕ). length (framing i payload)) number;
  fits = λ ok. (within, fits);
  small = search rules;
  too_large = search rules;
  refused = inl refl;
  none = inl refl;
  answers = inl refl;
}

-- of one chunk
pub short_len : (payload : List ℕ) (written : ℕ) → length payload < max_payload → written ≡ length payload + 4 * (length payload / max_payload + 1) → 4 + length payload ≡ written
short_len payload written small is = let none = no_full_chunk (length payload) small in omega arith

pub short_next : (id : ℕ) (payload : List ℕ) → length payload < max_payload → (id + 1) % 256 ≡ next_id id payload
short_next id payload small = ap (λ (n : ℕ). n % 256) (let none = no_full_chunk (length payload) small in omega arith)
