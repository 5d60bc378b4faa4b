-- How a dump goes from packet to packet.
use Rattle.std.proofs.Common.{◌≡◌, ◌≢◌, ◌↔◌, ℕ, ◌≤◌, ◌<◌, Bool, true, false, if◌then◌else◌, List, [], ◌∷◌, ◌++◌, length, refl, sym, ap, ap₂, ◌∙◌, subst, append-nil, append_assoc, inl, inr, arith, Option, Some, None, string_bytes, rules}
use Rattle.std.proofs.KnownBytes.{Consumes-trans, Appends-trans}
use Rattle.std.proofs.lemmas.Bool.{cases_lt, cond_above, cond_below}
use Rattle.std.specs.Io.KnownBytes.{Appends, Consumes}
use Rattle.std.proofs.lemmas.Grind.{flat_map-append}
use Rattle.std.proofs.lemmas.List.Elements.{All-append, All-cons, All-nil}
use Rattle.mysql_wire_dump_lines.specs.declared.dump.Dump.{Dump}
use Rattle.mysql_wire_dump_lines.specs.declared.options.Options.{Options}
use Rattle.mysql_wire_dump_lines.specs.declared.options.Sides.{Sides}
use Rattle.mysql_wire_session.specs.declared.packet_kind.PacketKind.{PacketKind}
use Rattle.mysql_wire_session.specs.declared.packet_kind.PacketKind.TheVariants.{TooLarge}
use Rattle.mysql_wire_dump_lines.specs.declared.lines.LineForm.{LineForm}
use Rattle.mysql_wire_dump_lines.specs.declared.lines.Seen.{Seen}
use Rattle.mysql_wire_session.specs.declared.phase.Phase.{Phase}
use Rattle.mysql_wire_session.specs.declared.phase.Phase.TheVariants as phase
use Rattle.mysql_wire_session.specs.declared.side.Side.{Side}
use Rattle.mysql_wire_session.specs.declared.side.Side.TheVariants.{Client, Server}
use Rattle.mysql_wire_dump_lines.specs.declared.packet_stream.End.{End}
use Rattle.mysql_wire_dump_lines.specs.declared.packet_stream.End.TheVariants.{Encrypted}
use Rattle.mysql_wire_dump_lines.specs.declared.packet_stream.Next.{Next}
use Rattle.mysql_wire_dump_lines.specs.declared.packet_stream.Next.TheVariants.{Unread, Packet, Ended}
use Rattle.mysql_wire_dump_lines.specs.declared.packet_stream.PacketStream.{PacketStream}
use Rattle.mysql_wire_dump_lines.specs.Dumped.{AreShown, AreVisible, HidesAt, field_form, Dumps, InOrder, IsShown, Shown, SideEnds, ending_lines, first_of, is_of, known_after, known_behind, lines_of, packets_of, status_of}
use Rattle.mysql_wire_dump_lines.specs.Dumping.{Dumping, Goes, Going, IsLooked, IsTurn, NamesOne, PassesOver, Pends, ShowsPacket, ShowsAll, SoFar, StartsDump, id_behind}
use Rattle.mysql_wire_session.specs.State.{SessionState, state_of, initial_state}
use Rattle.mysql_wire_session.specs.Advance.{id_after}
use Rattle.mysql_wire_session.specs.Readings.{passed}
use Rattle.mysql_wire_session.specs.declared.packet.Packet.{Packet as AnyPacket}
use Rattle.mysql_wire_session.specs.declared.packet.Packet.TheVariants as packet
use Rattle.mysql_wire_dump_lines.specs.Lines.{bytes_part, line_end, packet_front, packet_line}
use Rattle.mysql_wire_dump_lines.specs.PacketStreams.{AtEnd, HasPacket, Stands, StandsNext, collected, id_of, payload_of, unread_of}
use Rattle.mysql_wire_dump_lines.proofs.PacketStreamLemmas.{consumes_none}
use Rattle.mysql_wire_dump_lines.specs.NextSenders.{next_sender}

-- one packet more, of one side
pub packets_of_more : (side : Side) (shown : List Shown) (one : Shown) → packets_of side (shown ++ one ∷ []) ≡ packets_of side shown ++ packets_of side (one ∷ [])
packets_of_more side [] one = refl
packets_of_more side (first ∷ shown) one =
    let rest = packets_of_more side shown one in
    elim (is_of side first.seen.side) as (λ (b : Bool). (if b then (first.seen.id, first.payload) ∷ packets_of side (shown ++ one ∷ []) else packets_of side (shown ++ one ∷ []))
    ≡ (if b then (first.seen.id, first.payload) ∷ packets_of side shown else packets_of side shown) ++ packets_of side (one ∷ [])) [
      | true ↦ ap (λ (z : List (ℕ × List ℕ)). (first.seen.id, first.payload) ∷ z) rest
      | false ↦ rest
    ]

pub first_of_more : (side : Side) (shown others : List Shown) (behind : Option ℕ) → first_of side (shown ++ others) behind ≡ first_of side shown (first_of side others behind)
first_of_more side [] others behind = refl
first_of_more side (first ∷ shown) others behind =
    let rest = first_of_more side shown others behind in
    elim (is_of side first.seen.side) as (λ (b : Bool). (if b then Some first.seen.id else first_of side (shown ++ others) behind)
    ≡ (if b then Some first.seen.id else first_of side shown (first_of side others behind))) [
      | true ↦ refl
      | false ↦ rest
    ]

pub id_behind_more : (next : ℕ) (shown : List Shown) (one : Shown) → id_behind next (shown ++ one ∷ []) ≡ id_after one.seen.id (length one.payload)
id_behind_more next [] one = refl
id_behind_more next (first ∷ shown) one = id_behind_more (id_after first.seen.id (length first.payload)) shown one

pub known_after_more : (options : Options) (known : SessionState) (shown : List Shown) (one : Shown)
    → known_after options known (shown ++ one ∷ []) ≡ known_behind options one
known_after_more options known [] one = refl
known_after_more options known (first ∷ shown) one = known_after_more options (known_behind options first) shown one

-- one packet more is shown, where this is known after those before it
pub shown_more : (options : Options) (known : SessionState) (shown : List Shown) (one : Shown) → AreShown options known shown
    → one.at ≡ known_after options known shown → IsShown options one → AreShown options known (shown ++ one ∷ [])
shown_more options known [] one are at is = (at, is, tt)
shown_more options known (first ∷ shown) one are at is =
    (are.0, are.1, shown_more options (known_behind options first) shown one are.2 at is)

-- one packet more, whose turn it is
pub in_order_more : (next : ℕ) (shown : List Shown) (one : Shown) (client server client_next server_next : Option ℕ)
    → InOrder next shown client server → next_sender one.at.phase (id_behind next shown) client server ≡ Some one.seen.side
    → first_of Client (one ∷ []) client_next ≡ client → first_of Server (one ∷ []) server_next ≡ server
    → InOrder next (shown ++ one ∷ []) client_next server_next
in_order_more next [] one client server client_next server_next ordered is_turn client_is server_is =
    (ap₂ (λ (c s : Option ℕ). next_sender one.at.phase next c s) client_is server_is ∙ is_turn, tt)
in_order_more next (first ∷ shown) one client server client_next server_next ordered is_turn client_is server_is = (
  ap₂ (λ (c s : Option ℕ). next_sender first.at.phase next c s)
      (first_of_more Client (first ∷ shown) (one ∷ []) client_next ∙ ap (λ (c : Option ℕ). first_of Client (first ∷ shown) c) client_is)
      (first_of_more Server (first ∷ shown) (one ∷ []) server_next ∙ ap (λ (s : Option ℕ). first_of Server (first ∷ shown) s) server_is)
      ∙ ordered.0,
  in_order_more (id_after first.seen.id (length first.payload)) shown one client server client_next server_next ordered.1 is_turn client_is server_is,
)

-- what stands next, where it was looked at
pub pends_is : (next : Next) (id : Option ℕ) → next ≢ Unread → Pends next id → id ≡ id_of next
pends_is Unread id looked pends = absurd (looked refl)
pends_is (Packet number) id looked pends = pends
pends_is (Ended end) id looked pends = pends

pub pends_so : (next : Next) → Pends next (id_of next)
pends_so Unread = tt
pends_so (Packet number) = refl
pends_so (Ended end) = refl

-- one line more
pub lines_of_more : (form : LineForm) (shown : List Shown) (one : Shown)
    → lines_of form (shown ++ one ∷ []) ≡ lines_of form shown ++ packet_line form one.seen one.payload one.fields
lines_of_more form shown one =
    let line : Shown → List ℕ = λ one. packet_line form one.seen one.payload one.fields in
    flat_map-append line shown (one ∷ []) ∙ ap (λ (z : List ℕ). lines_of form shown ++ z) (append-nil (line one))

-- the line is that of the payload, which is not shown where it is too large
pub same_line : (form : LineForm) (seen : Seen) (shown payload fields : List ℕ) (limit : ℕ) → (seen.len ≤ limit → shown ≡ payload)
    → (limit < seen.len → seen.kind ≡ TooLarge) → packet_line form seen shown fields ≡ packet_line form seen payload fields
same_line form seen shown payload fields limit same large =
    elim (cases_lt limit seen.len) [
      | inl above ↦ ap (λ (z : List ℕ). packet_front form seen ++ z ++ fields ++ line_end form)
          (ap (λ (k : PacketKind). bytes_part form k shown) (large above) ∙ sym (ap (λ (k : PacketKind). bytes_part form k payload) (large above)))
      | inr within ↦ ap (λ (z : List ℕ). packet_line form seen z fields) (same within)
    ]

-- a packet that was named and read, or passed over, as it is shown, and what is known after it
abbrev shown_as : Seen → List ℕ → List ℕ → SessionState → AnyPacket → Shown
shown_as seen payload fields known one =
    record { seen = seen; payload = payload; packet = one; fields = fields; at = known }

one_told : (options : Options) (seen : Seen) (payload held fields : List ℕ) (known next : SessionState) (limit : ℕ) → limit ≡ options.limit
    → seen.len ≡ length payload → (seen.len ≤ limit → held ≡ payload)
    → (limit < seen.len → PassesOver (field_form options) seen.side seen.id seen.len known next fields seen.kind)
    → (seen.len ≤ limit → NamesOne (field_form options) seen.side seen.id held known next fields seen.kind)
    → (one : AnyPacket) × IsShown options (shown_as seen payload fields known one)
    × (next ≡ known_behind options (shown_as seen payload fields known one))
    × (next.next_id ≡ id_after seen.id (length payload))
one_told options seen payload held fields known next limit limit_is len_is held_is large named =
    elim (cases_lt limit seen.len) [
      | inl above ↦ (let over = large above in (
        packet.TooLarge,
        record {
          len = len_is;
          large = λ is. (refl, over.1);
          reads = λ within. absurd (omega (arith, len_is, limit_is, above, within));
        },
        over.0 ∙ ap (λ (n : ℕ). passed seen.side seen.id n known) len_is ∙ cond_below options.limit (length payload) _ _ (omega (arith, len_is, limit_is, above)),
        ap (λ (k : SessionState). k.next_id) over.0 ∙ ap (λ (n : ℕ). id_after seen.id n) len_is,
      ))
      | inr within ↦ (let one : NamesOne (field_form options) seen.side seen.id payload known next fields seen.kind =
          subst (λ (bytes : List ℕ). NamesOne (field_form options) seen.side seen.id bytes known next fields seen.kind) (held_is within) (named within) in (
            one.packet,
            record {
              len = len_is;
              large = λ above. absurd (omega (arith, len_is, limit_is, above, within));
              reads = λ below. (one.reads, one.fields_are);
            },
            cond_above options.limit (length payload) _ _ next (omega (arith, len_is, limit_is, within)) one.goes_on,
            ap (λ (k : SessionState). k.next_id) one.goes_on,
          ))
    ]

-- the client's next packet is shown
pub client_shown : {A : Type 0} (old new : Dump A) (middle : SessionState) (id : ℕ) (kind : PacketKind) (bytes fields part : List ℕ) → old.client.next ≡ Packet id
    → (old.client.limit < old.client.len → PassesOver (field_form old.lines.options) Client id old.client.len (state_of old.lines.session) middle fields kind)
    → (old.client.len ≤ old.client.limit
    → NamesOne (field_form old.lines.options) Client id (payload_of old.client) (state_of old.lines.session) middle fields kind)
    → (old.client.len ≤ old.client.limit → bytes ≡ payload_of old.client)
    → part ++ string_bytes new.lines.text ≡ string_bytes old.lines.text ++ packet_line old.lines.options.form (record { side = Client; id = id; len = old.client.len; kind = kind }) bytes fields
    → state_of new.lines.session ≡ middle → new.lines.options ≡ old.lines.options → new.server ≡ old.server
    → new.client.limit ≡ old.client.limit
    → ((packets : List (ℕ × List ℕ)) (came : List ℕ) (number : ℕ) → old.client.next ≡ Packet number → (stands : Stands packets came old.client)
    → (payload : List ℕ) × HasPacket number payload stands.begun (collected old.client) × Stands (packets ++ (number, payload) ∷ []) came new.client)
    → (shown : List Shown) (client server written : List ℕ) → Dumping shown client server written old → IsTurn Client old → IsLooked old
    → (one : Shown) × Dumping (shown ++ one ∷ []) client server (written ++ part) new
client_shown {A = A} old new middle id kind bytes fields part is large named same text known_is options other_same limit passes shown client server written dumping is_turn looked =
    let pass = passes (packets_of Client shown) client id is dumping.clients in
    let payload : List ℕ = pass.0 in
    let has = pass.1 in
    let seen : Seen = record { side = Client; id = id; len = old.client.len; kind = kind } in
    let limit_is : old.client.limit ≡ old.lines.options.limit = dumping.client_limit in
    let it = one_told old.lines.options seen payload (payload_of old.client) fields (state_of old.lines.session) middle old.client.limit limit_is has.len has.held large named in
    let one : Shown = shown_as seen payload fields (state_of old.lines.session) it.0 in
    let here : Pends old.client.next (Some id) = subst (λ (n : Next). Pends n (Some id)) (sym is) refl in
    let turn_is : next_sender old.lines.session.phase (id_behind 0 shown) (Some id) (id_of old.server.next) ≡ Some Client =
    ap₂ (λ (n : ℕ) (c : Option ℕ). next_sender old.lines.session.phase n c (id_of old.server.next)) (sym dumping.behind) (sym (ap id_of is)) ∙ is_turn in
    let other_is : (number : Option ℕ) → Pends new.server.next number → number ≡ id_of old.server.next =
    λ number pends. pends_is old.server.next number looked.1 (subst (λ (source : PacketStream A). Pends source.next number) other_same pends) in (
      one,
      record {
        are_shown = subst (λ (o : Options). AreShown o initial_state (shown ++ one ∷ [])) (sym options)
            (shown_more old.lines.options initial_state shown one dumping.are_shown dumping.known it.1);
        known = subst (λ (o : Options). state_of new.lines.session ≡ known_after o initial_state (shown ++ one ∷ [])) (sym options)
            (known_is ∙ it.2 ∙ sym (known_after_more old.lines.options initial_state shown one));
        clients = subst (λ (z : List (ℕ × List ℕ)). Stands z client new.client) (sym (packets_of_more Client shown one)) pass.2;
        servers = subst (λ (source : PacketStream A). Stands (packets_of Server (shown ++ one ∷ [])) server source) (sym other_same)
            (subst (λ (z : List (ℕ × List ℕ)). Stands z server old.server) (sym (packets_of_more Server shown one ∙ append-nil (packets_of Server shown))) dumping.servers);
        client_limit = limit ∙ limit_is ∙ ap (λ (o : Options). o.limit) (sym options);
        server_limit = ap (λ (source : PacketStream A). source.limit) other_same ∙ dumping.server_limit ∙ ap (λ (o : Options). o.limit) (sym options);
        behind = ap (λ (k : SessionState). k.next_id) known_is ∙ it.3 ∙ sym (id_behind_more 0 shown one);
        ordered = λ client_next server_next client_pends server_pends.
            in_order_more 0 shown one (Some id) (id_of old.server.next) client_next server_next (dumping.ordered (Some id) (id_of old.server.next) here (pends_so old.server.next)) turn_is refl (other_is server_next server_pends);
        lines = append_assoc written part (string_bytes new.lines.text) ∙ ap (λ (z : List ℕ). written ++ z) text ∙ sym (append_assoc written (string_bytes old.lines.text) (packet_line old.lines.options.form seen bytes fields))
            ∙ ap (λ (z : List ℕ). z ++ packet_line old.lines.options.form seen bytes fields) dumping.lines
            ∙ ap (λ (z : List ℕ). lines_of old.lines.options.form shown ++ z)
            (same_line old.lines.options.form seen bytes payload fields old.client.limit (λ within. same within ∙ has.held within) (λ above. (large above).1.has.0))
            ∙ sym (lines_of_more old.lines.options.form shown one) ∙ ap (λ (o : Options). lines_of o.form (shown ++ one ∷ [])) (sym options);
      },
    )

-- the server's next packet is shown
pub server_shown : {A : Type 0} (old new : Dump A) (middle : SessionState) (id : ℕ) (kind : PacketKind) (bytes fields part : List ℕ) → old.server.next ≡ Packet id
    → (old.server.limit < old.server.len → PassesOver (field_form old.lines.options) Server id old.server.len (state_of old.lines.session) middle fields kind)
    → (old.server.len ≤ old.server.limit
    → NamesOne (field_form old.lines.options) Server id (payload_of old.server) (state_of old.lines.session) middle fields kind)
    → (old.server.len ≤ old.server.limit → bytes ≡ payload_of old.server)
    → part ++ string_bytes new.lines.text ≡ string_bytes old.lines.text ++ packet_line old.lines.options.form (record { side = Server; id = id; len = old.server.len; kind = kind }) bytes fields
    → state_of new.lines.session ≡ middle → new.lines.options ≡ old.lines.options → new.client ≡ old.client
    → new.server.limit ≡ old.server.limit
    → ((packets : List (ℕ × List ℕ)) (came : List ℕ) (number : ℕ) → old.server.next ≡ Packet number → (stands : Stands packets came old.server)
    → (payload : List ℕ) × HasPacket number payload stands.begun (collected old.server) × Stands (packets ++ (number, payload) ∷ []) came new.server)
    → (shown : List Shown) (client server written : List ℕ) → Dumping shown client server written old → IsTurn Server old → IsLooked old
    → (one : Shown) × Dumping (shown ++ one ∷ []) client server (written ++ part) new
server_shown {A = A} old new middle id kind bytes fields part is large named same text known_is options other_same limit passes shown client server written dumping is_turn looked =
    let pass = passes (packets_of Server shown) server id is dumping.servers in
    let payload : List ℕ = pass.0 in
    let has = pass.1 in
    let seen : Seen = record { side = Server; id = id; len = old.server.len; kind = kind } in
    let limit_is : old.server.limit ≡ old.lines.options.limit = dumping.server_limit in
    let it = one_told old.lines.options seen payload (payload_of old.server) fields (state_of old.lines.session) middle old.server.limit limit_is has.len has.held large named in
    let one : Shown = shown_as seen payload fields (state_of old.lines.session) it.0 in
    let here : Pends old.server.next (Some id) = subst (λ (n : Next). Pends n (Some id)) (sym is) refl in
    let turn_is : next_sender old.lines.session.phase (id_behind 0 shown) (id_of old.client.next) (Some id) ≡ Some Server =
    ap₂ (λ (n : ℕ) (c : Option ℕ). next_sender old.lines.session.phase n (id_of old.client.next) c) (sym dumping.behind) (sym (ap id_of is)) ∙ is_turn in
    let other_is : (number : Option ℕ) → Pends new.client.next number → number ≡ id_of old.client.next =
    λ number pends. pends_is old.client.next number looked.0 (subst (λ (source : PacketStream A). Pends source.next number) other_same pends) in (
      one,
      record {
        are_shown = subst (λ (o : Options). AreShown o initial_state (shown ++ one ∷ [])) (sym options)
            (shown_more old.lines.options initial_state shown one dumping.are_shown dumping.known it.1);
        known = subst (λ (o : Options). state_of new.lines.session ≡ known_after o initial_state (shown ++ one ∷ [])) (sym options)
            (known_is ∙ it.2 ∙ sym (known_after_more old.lines.options initial_state shown one));
        servers = subst (λ (z : List (ℕ × List ℕ)). Stands z server new.server) (sym (packets_of_more Server shown one)) pass.2;
        clients = subst (λ (source : PacketStream A). Stands (packets_of Client (shown ++ one ∷ [])) client source) (sym other_same)
            (subst (λ (z : List (ℕ × List ℕ)). Stands z client old.client) (sym (packets_of_more Client shown one ∙ append-nil (packets_of Client shown))) dumping.clients);
        server_limit = limit ∙ limit_is ∙ ap (λ (o : Options). o.limit) (sym options);
        client_limit = ap (λ (source : PacketStream A). source.limit) other_same ∙ dumping.client_limit ∙ ap (λ (o : Options). o.limit) (sym options);
        behind = ap (λ (k : SessionState). k.next_id) known_is ∙ it.3 ∙ sym (id_behind_more 0 shown one);
        ordered = λ client_next server_next client_pends server_pends.
            in_order_more 0 shown one (id_of old.client.next) (Some id) client_next server_next (dumping.ordered (id_of old.client.next) (Some id) (pends_so old.client.next) here) turn_is (other_is client_next client_pends) refl;
        lines = append_assoc written part (string_bytes new.lines.text) ∙ ap (λ (z : List ℕ). written ++ z) text ∙ sym (append_assoc written (string_bytes old.lines.text) (packet_line old.lines.options.form seen bytes fields))
            ∙ ap (λ (z : List ℕ). z ++ packet_line old.lines.options.form seen bytes fields) dumping.lines
            ∙ ap (λ (z : List ℕ). lines_of old.lines.options.form shown ++ z)
            (same_line old.lines.options.form seen bytes payload fields old.server.limit (λ within. same within ∙ has.held within) (λ above. (large above).1.has.0))
            ∙ sym (lines_of_more old.lines.options.form shown one) ∙ ap (λ (o : Options). lines_of o.form (shown ++ one ∷ [])) (sym options);
      },
    )

-- nothing is appended
pub appends_none : (known : Option (List ℕ)) → Appends known known []
appends_none None = tt
appends_none (Some bytes) = sym (append-nil bytes)

-- what was not looked at is not hidden
pub unread_seen : (next : Next) → next ≡ Unread → next ≡ Ended Encrypted → ⊥
unread_seen next is hidden = (let e = sym is ∙ hidden in cc)

greeting_open : phase.Greeting ≡ phase.Encrypted → ⊥
greeting_open same = cc

pub begins_so : {A : Type 0} (options : Options) (dump : Dump A) (client server written : Option (List ℕ)) → StartsDump options dump
    → Going dump client client server server written written
begins_so options dump client server written starts = record {
  so_far = record {
    shown = [];
    of_client = [];
    of_server = [];
    text = [];
    client_consumed = consumes_none client;
    server_consumed = consumes_none server;
    appended = appends_none written;
    dumping = starts.dumps;
    visible = All-nil (λ (one : Shown). one.at.phase ≢ phase.Encrypted);
    client_seen = λ is. unread_seen _ starts.client_next is;
    server_seen = λ is. unread_seen _ starts.server_next is;
    client_end = subst (λ (n : Next). AtEnd n client) (sym starts.client_next) tt;
    server_end = subst (λ (n : Next). AtEnd n server) (sym starts.server_next) tt;
  };
  is_open = λ is. greeting_open (sym (ap (λ (k : SessionState). k.phase) starts.dumps.known) ∙ is);
}

-- what was looked at stays
still_pends : (old new : Next) (id : Option ℕ) → (old ≢ Unread → new ≡ old) → Pends new id → Pends old id
still_pends Unread new id kept pends = tt
still_pends (Packet number) new id kept pends = subst (λ (n : Next). Pends n id) (kept (λ e. cc)) pends
still_pends (Ended end) new id kept pends = subst (λ (n : Next). Pends n id) (kept (λ e. cc)) pends

-- the client's next packet was looked for
client_looked : {A : Type 0} (dump : Dump A) (source : PacketStream A) (client client_left left server server_left written now : Option (List ℕ))
    → SoFar dump client client_left server server_left written now
    → ((packets : List (ℕ × List ℕ)) (came : List ℕ) → Stands packets came dump.client → (more : List ℕ) × Consumes client_left left more × Stands packets (came ++ more) source)
    → (dump.client.next ≢ Unread → source.next ≡ dump.client.next) → (AtEnd dump.client.next client_left → AtEnd source.next left)
    → (dump.client.next ≢ Ended Encrypted → source.next ≢ Ended Encrypted) → source.limit ≡ dump.client.limit
    → SoFar (record dump { client = source }) client left server server_left written now
client_looked dump source client client_left left server server_left written now so_far looks kept ended seen limit =
    let was = so_far.dumping in
    let peek = looks (packets_of Client so_far.shown) so_far.of_client was.clients in
    record {
      shown = so_far.shown;
      of_client = so_far.of_client ++ peek.0;
      of_server = so_far.of_server;
      text = so_far.text;
      client_consumed = Consumes-trans client client_left left so_far.of_client peek.0 so_far.client_consumed peek.1;
      server_consumed = so_far.server_consumed;
      appended = so_far.appended;
      dumping = record {
        are_shown = was.are_shown;
        known = was.known;
        clients = peek.2;
        servers = was.servers;
        client_limit = limit ∙ was.client_limit;
        server_limit = was.server_limit;
        behind = was.behind;
        ordered = λ client_next server_next client_pends server_pends.
            was.ordered client_next server_next (still_pends dump.client.next source.next client_next kept client_pends) server_pends;
        lines = was.lines;
      };
      visible = so_far.visible;
      client_seen = seen so_far.client_seen;
      server_seen = so_far.server_seen;
      client_end = ended so_far.client_end;
      server_end = so_far.server_end;
    }

server_looked : {A : Type 0} (dump : Dump A) (source : PacketStream A) (client client_left server server_left left written now : Option (List ℕ))
    → SoFar dump client client_left server server_left written now
    → ((packets : List (ℕ × List ℕ)) (came : List ℕ) → Stands packets came dump.server → (more : List ℕ) × Consumes server_left left more × Stands packets (came ++ more) source)
    → (dump.server.next ≢ Unread → source.next ≡ dump.server.next) → (AtEnd dump.server.next server_left → AtEnd source.next left)
    → (dump.server.next ≢ Ended Encrypted → source.next ≢ Ended Encrypted) → source.limit ≡ dump.server.limit
    → SoFar (record dump { server = source }) client client_left server left written now
server_looked dump source client client_left server server_left left written now so_far looks kept ended seen limit =
    let was = so_far.dumping in
    let peek = looks (packets_of Server so_far.shown) so_far.of_server was.servers in
    record {
      shown = so_far.shown;
      of_client = so_far.of_client;
      of_server = so_far.of_server ++ peek.0;
      text = so_far.text;
      client_consumed = so_far.client_consumed;
      server_consumed = Consumes-trans server server_left left so_far.of_server peek.0 so_far.server_consumed peek.1;
      appended = so_far.appended;
      dumping = record {
        are_shown = was.are_shown;
        known = was.known;
        clients = was.clients;
        servers = peek.2;
        client_limit = was.client_limit;
        server_limit = limit ∙ was.server_limit;
        behind = was.behind;
        ordered = λ client_next server_next client_pends server_pends.
            was.ordered client_next server_next client_pends (still_pends dump.server.next source.next server_next kept server_pends);
        lines = was.lines;
      };
      visible = so_far.visible;
      client_seen = so_far.client_seen;
      server_seen = seen so_far.server_seen;
      client_end = so_far.client_end;
      server_end = ended so_far.server_end;
    }

-- both sides' next packets were looked for
pub both_looked : {A : Type 0} (dump : Dump A) (client_source server_source : PacketStream A)
    (client client_left client_now server server_left server_now written now : Option (List ℕ))
    → SoFar dump client client_left server server_left written now
    → ((packets : List (ℕ × List ℕ)) (came : List ℕ) → Stands packets came dump.client → (more : List ℕ) × Consumes client_left client_now more × Stands packets (came ++ more) client_source)
    → (dump.client.next ≢ Unread → client_source.next ≡ dump.client.next) → (AtEnd dump.client.next client_left → AtEnd client_source.next client_now)
    → (dump.client.next ≢ Ended Encrypted → client_source.next ≢ Ended Encrypted) → client_source.limit ≡ dump.client.limit
    → ((packets : List (ℕ × List ℕ)) (came : List ℕ) → Stands packets came dump.server → (more : List ℕ) × Consumes server_left server_now more × Stands packets (came ++ more) server_source)
    → (dump.server.next ≢ Unread → server_source.next ≡ dump.server.next) → (AtEnd dump.server.next server_left → AtEnd server_source.next server_now)
    → (dump.server.next ≢ Ended Encrypted → server_source.next ≢ Ended Encrypted) → server_source.limit ≡ dump.server.limit
    → SoFar (record dump { client = client_source; server = server_source }) client client_now server server_now written now
both_looked dump client_source server_source client client_left client_now server server_left server_now written now so_far client_looks client_kept client_ended client_seen client_limit
    server_looks server_kept server_ended server_seen server_limit =
    server_looked (record dump { client = client_source }) server_source client client_now server server_left server_now written now
    (client_looked dump client_source client client_left client_now server server_left written now so_far client_looks client_kept client_ended client_seen client_limit)
    server_looks server_kept server_ended server_seen server_limit

-- what was known at the last of these
last_at : (options : Options) (known : SessionState) (shown : List Shown) (one : Shown) → AreShown options known (shown ++ one ∷ []) → one.at ≡ known_after options known shown
last_at options known [] one are = are.0
last_at options known (first ∷ shown) one are = last_at options (known_behind options first) shown one are.2

visible_more : (shown : List Shown) (one : Shown) → AreVisible shown → one.at.phase ≢ phase.Encrypted → AreVisible (shown ++ one ∷ [])
visible_more shown one are is =
    let P : Shown → Type 0 = λ any. any.at.phase ≢ phase.Encrypted in
    All-append P shown (one ∷ []) are (All-cons P one [] is (All-nil P))

-- a packet was shown
pub one_shown : {A : Type 0} (side : Side) (old new : Dump A) (client client_left server server_left written now later : Option (List ℕ))
    → SoFar old client client_left server server_left written now → old.lines.session.phase ≢ phase.Encrypted → ShowsPacket side old new now later → IsTurn side old → IsLooked old
    → SoFar new client client_left server server_left written later
one_shown side old new client client_left server server_left written now later so_far is_open shows is_turn looked =
    let more = shows.more so_far.shown so_far.of_client so_far.of_server so_far.text so_far.dumping is_turn looked in
    let here : more.0.at ≡ state_of old.lines.session =
    last_at new.lines.options initial_state so_far.shown more.0 more.1.are_shown
    ∙ ap (λ (o : Options). known_after o initial_state so_far.shown) shows.options_are ∙ sym so_far.dumping.known in
    record {
      shown = so_far.shown ++ more.0 ∷ [];
      of_client = so_far.of_client;
      of_server = so_far.of_server;
      text = so_far.text ++ shows.part;
      client_consumed = so_far.client_consumed;
      server_consumed = so_far.server_consumed;
      appended = Appends-trans written now later so_far.text shows.part so_far.appended shows.appended;
      dumping = more.1;
      visible = visible_more so_far.shown more.0 so_far.visible (λ is. is_open (sym (ap (λ (k : SessionState). k.phase) here) ∙ is));
      client_seen = shows.client_seen so_far.client_seen;
      server_seen = shows.server_seen so_far.server_seen;
      client_end = shows.client_end client_left so_far.client_end;
      server_end = shows.server_end server_left so_far.server_end;
    }

-- a part of the text was written
pub much_written : {A : Type 0} (old new : Dump A) (part : List ℕ) (client client_left server server_left written now later : Option (List ℕ))
    → SoFar old client client_left server server_left written now → Appends now later part
    → string_bytes old.lines.text ≡ part ++ string_bytes new.lines.text → new ≡ record old { lines = record old.lines { text = new.lines.text } }
    → SoFar new client client_left server server_left written later
much_written {A = A} old new part client client_left server server_left written now later so_far appended text same =
    let was = so_far.dumping in
    subst (λ (dump : Dump A). SoFar dump client client_left server server_left written later) (sym same) (record {
      shown = so_far.shown;
      of_client = so_far.of_client;
      of_server = so_far.of_server;
      text = so_far.text ++ part;
      client_consumed = so_far.client_consumed;
      server_consumed = so_far.server_consumed;
      appended = Appends-trans written now later so_far.text part so_far.appended appended;
      dumping = record {
        are_shown = was.are_shown;
        known = was.known;
        clients = was.clients;
        servers = was.servers;
        client_limit = was.client_limit;
        server_limit = was.server_limit;
        behind = was.behind;
        ordered = was.ordered;
        lines = append_assoc so_far.text part (string_bytes new.lines.text) ∙ ap (λ (z : List ℕ). so_far.text ++ z) (sym text) ∙ was.lines;
      };
      visible = so_far.visible;
      client_seen = so_far.client_seen;
      server_seen = so_far.server_seen;
      client_end = so_far.client_end;
      server_end = so_far.server_end;
    })

-- no packet is left
pub none_left : {A : Type 0} (dump : Dump A) (client client_left server server_left written now : Option (List ℕ))
    → SoFar dump client client_left server server_left written now → dump.lines.session.phase ≢ phase.Encrypted → Pends dump.client.next None → Pends dump.server.next None
    → ShowsAll dump client client_left server server_left written now
none_left dump client client_left server server_left written now so_far is_open client_none server_none =
    let was = so_far.dumping in
    record {
      shown = so_far.shown;
      of_client = so_far.of_client;
      of_server = so_far.of_server;
      text = so_far.text;
      client_consumed = so_far.client_consumed;
      server_consumed = so_far.server_consumed;
      appended = so_far.appended;
      are_shown = was.are_shown;
      visible = so_far.visible;
      known = was.known;
      client_hides = ((λ hidden. absurd (so_far.client_seen hidden)), (λ is. absurd (is_open is)));
      server_hides = ((λ hidden. absurd (so_far.server_seen hidden)), (λ is. absurd (is_open is)));
      clients = was.clients;
      servers = was.servers;
      client_next = None;
      server_next = None;
      ordered = was.ordered None None client_none server_none;
      none_left = inr (refl, refl);
      lines = was.lines;
      client_end = so_far.client_end;
      server_end = so_far.server_end;
    }

-- what is left is hidden
pub rest_hidden : {A : Type 0} (dump : Dump A) (client_source server_source : PacketStream A) (client client_left server server_left written now : Option (List ℕ))
    → SoFar dump client client_left server server_left written now → dump.lines.session.phase ≡ phase.Encrypted
    → ((packets : List (ℕ × List ℕ)) (came : List ℕ) → Stands packets came dump.client → Stands packets came client_source)
    → ((packets : List (ℕ × List ℕ)) (came : List ℕ) → Stands packets came dump.server → Stands packets came server_source)
    → client_source.next ≡ Ended Encrypted → server_source.next ≡ Ended Encrypted
    → ShowsAll (record dump { client = client_source; server = server_source }) client client_left server server_left written now
rest_hidden dump client_source server_source client client_left server server_left written now so_far at_tls hides_client hides_server client_is server_is =
    let was = so_far.dumping in
    record {
      shown = so_far.shown;
      of_client = so_far.of_client;
      of_server = so_far.of_server;
      text = so_far.text;
      client_consumed = so_far.client_consumed;
      server_consumed = so_far.server_consumed;
      appended = so_far.appended;
      are_shown = was.are_shown;
      visible = so_far.visible;
      known = was.known;
      client_hides = ((λ hidden. at_tls), (λ is. client_is));
      server_hides = ((λ hidden. at_tls), (λ is. server_is));
      clients = hides_client (packets_of Client so_far.shown) so_far.of_client was.clients;
      servers = hides_server (packets_of Server so_far.shown) so_far.of_server was.servers;
      client_next = id_of dump.client.next;
      server_next = id_of dump.server.next;
      ordered = was.ordered (id_of dump.client.next) (id_of dump.server.next) (pends_so dump.client.next) (pends_so dump.server.next);
      none_left = inl client_is;
      lines = was.lines;
      client_end = subst (λ (n : Next). AtEnd n client_left) (sym client_is) tt;
      server_end = subst (λ (n : Next). AtEnd n server_left) (sym server_is) tt;
    }

some_none : (side : Side) → Some side ≡ None → ⊥
some_none side same = cc

-- where it is no side's turn, no packet stands next
pub no_turn : (at : Phase) (next : ℕ) (client server : Next) → next_sender at next (id_of client) (id_of server) ≡ None → client ≢ Unread → server ≢ Unread
    → Pends client None × Pends server None
no_turn at next Unread server none looked other_looked = absurd (looked refl)
no_turn at next (Packet id) Unread none looked other_looked = absurd (other_looked refl)
no_turn at next (Packet id) (Packet other) none looked other_looked = absurd (some_none _ none)
no_turn at next (Packet id) (Ended end) none looked other_looked = absurd (some_none _ none)
no_turn at next (Ended end) Unread none looked other_looked = absurd (other_looked refl)
no_turn at next (Ended end) (Packet id) none looked other_looked = absurd (some_none _ none)
no_turn at next (Ended end) (Ended other) none looked other_looked = (refl, refl)

-- an id stands next where a packet does
pub packet_of : (next : Next) (id : ℕ) → id_of next ≡ Some id → next ≡ Packet id
packet_of Unread id is = cc
packet_of (Packet number) id is = cc
packet_of (Ended end) id is = cc

-- a turn, and what goes on from there
pub goes_on : {A : Type 0} (more : Bool) (first middle last : Dump A)
    (client client_between client_left server server_between server_left written between now : Option (List ℕ))
    → Goes first middle client client_between server server_between written between true
    → Goes middle last client_between client_left server_between server_left between now more
    → Goes first last client client_left server server_left written now more
goes_on more first middle last client client_between client_left server server_between server_left written between now begins goes =
    λ all_client all_server before so_far. goes all_client all_server before (begins all_client all_server before so_far)

-- how a side ends
side_ends : {A : Type 0} (source : PacketStream A) (packets : List (ℕ × List ℕ)) (bytes : List ℕ) (end : End) → Stands packets bytes source → source.next ≡ Ended end
    → SideEnds bytes packets end
side_ends source packets bytes end stands is = record {
  rest = stands.begun ++ unread_of source;
  is = stands.is;
  ends = subst (λ (n : Next). StandsNext n stands.begun (collected source)) is stands.next;
}

ended_so : (end other : End) → Ended end ≡ Ended other → end ≡ other
ended_so end other is = search (rules, is)

-- a side that is hidden says so
hides_at : (next : Next) (end : End) (at known : Phase) → next ≡ Ended end → at ≡ known → (next ≡ Ended Encrypted) ↔ (at ≡ phase.Encrypted) → HidesAt known end
hides_at next end at known is same hides =
    ((λ hidden. sym same ∙ hides.0 (is ∙ ap (λ (e : End). Ended e) hidden)), (λ tls. ended_so end Encrypted (sym is ∙ hides.1 (same ∙ tls))))

-- all is shown, and how the sides end is written after it
pub dumps_all : {A : Type 0} (options : Options) (sides : Sides) (dump : Dump A) (client_end server_end : End) (last : List ℕ) (status : ℕ)
    (client client_left server server_left written now later : Option (List ℕ))
    → ShowsAll dump client client_left server server_left written now → dump.lines.options ≡ options
    → dump.client.next ≡ Ended client_end → dump.server.next ≡ Ended server_end
    → last ≡ string_bytes dump.lines.text ++ ending_lines options.form sides client_end dump.client.at server_end dump.server.at
    → Appends now later last → status ≡ status_of sides client_end server_end
    → Dumps options sides client client_left server server_left written later status
dumps_all options sides dump client_end server_end last status client client_left server server_left written now later all options_are client_is server_is last_is appended status_is =
    let known_is : state_of dump.lines.session ≡ known_after options initial_state all.shown =
    all.known ∙ ap (λ (o : Options). known_after o initial_state all.shown) options_are in
    let endings : ℕ → ℕ → List ℕ = λ client_at server_at. ending_lines options.form sides client_end client_at server_end server_at in
    record {
      of_client = all.of_client;
      of_server = all.of_server;
      text = all.text ++ last;
      client_end = client_end;
      server_end = server_end;
      client_consumed = all.client_consumed;
      server_consumed = all.server_consumed;
      appended = Appends-trans written now later all.text last all.appended appended;
      dumped = record {
        shown = all.shown;
        are_shown = subst (λ (o : Options). AreShown o initial_state all.shown) options_are all.are_shown;
        clients = side_ends dump.client (packets_of Client all.shown) all.of_client client_end all.clients client_is;
        servers = side_ends dump.server (packets_of Server all.shown) all.of_server server_end all.servers server_is;
        client_next = all.client_next;
        server_next = all.server_next;
        ordered = all.ordered;
        visible = all.visible;
        client_hides = hides_at dump.client.next client_end _ _ client_is (ap (λ (k : SessionState). k.phase) known_is) all.client_hides;
        server_hides = hides_at dump.server.next server_end _ _ server_is (ap (λ (k : SessionState). k.phase) known_is) all.server_hides;
        none_left = elim all.none_left [
          | inl hidden ↦ inl (ended_so client_end Encrypted (sym client_is ∙ hidden))
          | inr none ↦ inr none
        ];
        is = ap (λ (z : List ℕ). all.text ++ z) last_is
            ∙ sym (append_assoc all.text (string_bytes dump.lines.text) (endings dump.client.at dump.server.at))
            ∙ ap₂ (λ (lines ends : List ℕ). lines ++ ends) (all.lines ∙ ap (λ (o : Options). lines_of o.form all.shown) options_are)
            (ap₂ (λ (c s : ℕ). endings c s) all.clients.at all.servers.at);
        ends = status_is;
      };
      client_whole = subst (λ (n : Next). AtEnd n client_left) client_is all.client_end;
      server_whole = subst (λ (n : Next). AtEnd n server_left) server_is all.server_end;
    }
