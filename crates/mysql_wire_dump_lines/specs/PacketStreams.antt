-- The packets of one direction.
use Rattle.std.specs.Io.KnownBytes.{Consumes, IsAtEnd}
use Rattle.std.specs.Prelude.{◌≡◌, ℕ, ◌+◌, ◌<◌, ◌≤◌, ◌⊎◌, List, [], ◌∷◌, ◌++◌, length, take, drop, ⊤, Option, Some, None}
use Rattle.wire_codec.specs.Framing.{framing, header, max_payload, next_id}
use Rattle.wire_codec.specs.declared.codec.header.Header.{Header}
use Rattle.wire_codec.specs.Delivery.{Delivers, Splits, Waiting}
use Rattle.wire_span.specs.Spans.{SpanState, CameTo, IsBetween, IsOfAnotherId, span_state}
use Rattle.wire_span.specs.declared.span.SpanDecoder.{SpanDecoder}
use Rattle.mysql_wire_dump_lines.specs.declared.packet_stream.End.{End}
use Rattle.mysql_wire_dump_lines.specs.declared.packet_stream.End.TheVariants.{Between, Unfinished, OutOfSync, Encrypted}
use Rattle.mysql_wire_dump_lines.specs.declared.packet_stream.Next.{Next}
use Rattle.mysql_wire_dump_lines.specs.declared.packet_stream.Next.TheVariants.{Unread, Packet, Ended}
use Rattle.mysql_wire_dump_lines.specs.declared.packet_stream.PacketStream.{PacketStream}
use Rattle.mysql_wire_dump_lines.specs.declared.packet_stream.Step.{Step}
use Rattle.mysql_wire_dump_lines.specs.declared.packet_stream.Step.TheVariants.{Waits, Goes, Whole, LosesSync}

-- packets one after another, each numbered from an id of its own
abbrev pub framed : List (ℕ × List ℕ) → List ℕ
framed [] = []
framed (packet ∷ packets) = framing packet.0 packet.1 ++ framed packets

-- the most payload bytes that a length counts
abbrev pub most : ℕ
most = 18446744073709551615

-- a header stands in front of these bytes, and bears this id
abbrev pub BeginsWith : ℕ → List ℕ → Type 0
BeginsWith id bytes =
    (a : ℕ) × (b : ℕ) × (c : ℕ) × (more : List ℕ) × (bytes ≡ a ∷ b ∷ c ∷ id ∷ more)

-- why no whole packet stands in front of these bytes, which are all that came
abbrev pub EndsAs : End → List ℕ → Type 0
EndsAs Between bytes = bytes ≡ []
EndsAs Unfinished bytes =
    (length bytes < 4) ⊎ ((id : ℕ) × BeginsWith id bytes × ((unfinished : List ℕ)
    × (rest : List ℕ) × Delivers [] bytes id most [] Waiting unfinished rest))
EndsAs OutOfSync bytes =
    (id : ℕ) × BeginsWith id bytes × ((opened : List ℕ) × (rest : List ℕ)
    × Splits [] bytes id most [] opened rest × IsOfAnotherId id most opened rest)
EndsAs Encrypted bytes = ⊤

-- what a source has of its next packet: where its decoder is, how many payload bytes came, the
-- limit, the bytes that are held, and those that were read and not taken yet
pub record Collected : Type 0 where
  pub state : SpanState
  pub len : ℕ
  pub limit : ℕ
  pub held : List ℕ
  pub unread : List ℕ

abbrev pub collects : SpanDecoder → ℕ → ℕ → List ℕ → List ℕ → Collected
collects decoder len limit held unread =
    record { state = span_state decoder; len = len; limit = limit; held = held; unread = unread }

-- the next packet's bytes: where it is lent, they lie in front of what was read, in a chunk of this
-- many bytes, and else they were put together
abbrev pub payload_in : Option ℕ → List ℕ → List ℕ → List ℕ
payload_in None src held = held
payload_in (Some chunk) src held = drop 4 (take chunk src)

-- the bytes after it, of those that were read
abbrev pub behind_lent : Option ℕ → List ℕ → List ℕ
behind_lent None src = src
behind_lent (Some chunk) src = drop chunk src

abbrev pub payload_of : {A : Type 0} → PacketStream A → List ℕ
payload_of source = payload_in source.lent source.src.items source.held.items

abbrev pub unread_of : {A : Type 0} → PacketStream A → List ℕ
unread_of source = behind_lent source.lent source.src.items

abbrev pub collected : {A : Type 0} → PacketStream A → Collected
collected source =
    collects source.decoder source.len source.limit (payload_of source) (unread_of source)

-- the same of a source that lends nothing
abbrev pub collecting : {A : Type 0} → PacketStream A → Collected
collecting source =
    collects source.decoder source.len source.limit source.held.items source.src.items

-- a packet of this id comes: `begun` of its framing, and `opened` of its payload
pub record Collects (id : ℕ) (begun opened : List ℕ) (has : Collected) : Type 0 where
  pub came : CameTo id most begun [] opened has.state
  pub small : id < 256
  pub len : has.len ≡ length opened
  pub held : has.len ≤ has.limit → has.held ≡ opened
  pub begins : BeginsWith id (begun ++ has.unread)

-- a packet of this id has come, with this payload
pub record HasPacket (id : ℕ) (payload begun : List ℕ) (has : Collected) : Type 0 where
  pub begun_is : begun ≡ framing id payload
  pub len : has.len ≡ length payload
  pub held : has.len ≤ has.limit → has.held ≡ payload
  pub between : IsBetween has.state
  pub behind : has.state.id ≡ next_id id payload

-- nothing of the next packet was looked at
pub record IsFresh (begun : List ℕ) (has : Collected) : Type 0 where
  pub begun_is : begun ≡ []
  pub len : has.len ≡ 0
  pub held : has.held ≡ []
  pub between : IsBetween has.state

-- what stands next, where this many bytes of it were taken
abbrev pub StandsNext : Next → List ℕ → Collected → Type 0
StandsNext Unread begun has = IsFresh begun has
StandsNext (Packet id) begun has = (payload : List ℕ) × HasPacket id payload begun has
StandsNext (Ended end) begun has = EndsAs end (begun ++ has.unread)

-- of this input, these packets came before the next
pub record Stands {A : Type 0} (packets : List (ℕ × List ℕ)) (input : List ℕ)
    (source : PacketStream A) : Type 0 where
  pub begun : List ℕ
  pub is : input ≡ framed packets ++ (begun ++ unread_of source)
  pub at : source.at ≡ length (framed packets)
  pub taken : source.taken ≡ length begun
  pub most_is : source.decoder.max_allowed_packet ≡ most
  pub next : StandsNext source.next begun (collected source)
  pub lends : source.next ≡ Unread → source.lent ≡ None

-- more of the input is read, and the packets before the next stay the same
abbrev pub LooksOn : {A : Type 0} → Option (List ℕ) → Option (List ℕ) → PacketStream A → PacketStream A
    → Type 0
LooksOn unread left old new = (packets : List (ℕ × List ℕ)) (came : List ℕ)
    → Stands packets came old → (more : List ℕ) × Consumes unread left more
    × Stands packets (came ++ more) new

-- the next is a packet, and is now one of those before the next
abbrev pub PassesPacket : {A : Type 0} → PacketStream A → PacketStream A → Type 0
PassesPacket old new = (packets : List (ℕ × List ℕ)) (came : List ℕ) (id : ℕ)
    → old.next ≡ Packet id → (stands : Stands packets came old)
    → (payload : List ℕ) × HasPacket id payload stands.begun (collected old)
    × Stands (packets ++ (id, payload) ∷ []) came new

-- where a side's packets end with its bytes, all of them were read
abbrev pub ReadWhole : End → Option (List ℕ) → Type 0
ReadWhole Between left = IsAtEnd left
ReadWhole Unfinished left = IsAtEnd left
ReadWhole OutOfSync left = ⊤
ReadWhole Encrypted left = ⊤

abbrev pub AtEnd : Next → Option (List ℕ) → Type 0
AtEnd Unread left = ⊤
AtEnd (Packet id) left = ⊤
AtEnd (Ended end) left = ReadWhole end left

-- how a packet goes on, where this many bytes of it were taken
abbrev pub TookAs : Step → ℕ → List ℕ → Collected → Type 0
TookAs Waits id begun has =
    (has.unread ≡ []) × ((opened : List ℕ) × Collects id begun opened has)
TookAs Goes id begun has = (opened : List ℕ) × Collects id begun opened has
TookAs Whole id begun has = (payload : List ℕ) × HasPacket id payload begun has
TookAs LosesSync id begun has = EndsAs OutOfSync (begun ++ has.unread)

-- so it goes on from where a packet comes
abbrev pub Steps : Step → Collected → Collected → Type 0
Steps step before after =
    (id : ℕ) (begun opened : List ℕ) → before.state.limit ≡ most → Collects id begun opened before
    → (eaten : List ℕ) × (before.unread ≡ eaten ++ after.unread)
    × TookAs step id (begun ++ eaten) after

-- what is next bears this id, where it is a packet
abbrev pub id_of : Next → Option ℕ
id_of Unread = None
id_of (Packet id) = Some id
id_of (Ended end) = None

-- what was read was taken on by a step
pub record Took {A : Type 0} (step : Step) (old new : PacketStream A) : Type 0 where
  pub eats : (id : ℕ) (begun opened : List ℕ) → old.decoder.max_allowed_packet ≡ most
      → Collects id begun opened (collecting old)
      → (eaten : List ℕ) × (old.src.items ≡ eaten ++ new.src.items)
      × (new.taken ≡ old.taken + length eaten) × TookAs step id (begun ++ eaten) (collecting new)
  pub most_is : new.decoder.max_allowed_packet ≡ old.decoder.max_allowed_packet
  pub at : new.at ≡ old.at
  pub limit : new.limit ≡ old.limit
  pub next : new.next ≡ old.next
  pub lent : new.lent ≡ old.lent

-- how a packet goes on, where no more is to be read for it
abbrev pub SteppedAs : Step → ℕ → List ℕ → Collected → Type 0
SteppedAs Waits id begun has = EndsAs Unfinished (begun ++ has.unread)
SteppedAs Goes id begun has = TookAs Goes id begun has
SteppedAs Whole id begun has = TookAs Whole id begun has
SteppedAs LosesSync id begun has = TookAs LosesSync id begun has

-- what was read, or is read then, was taken on by a step; where it waits, the input has ended
pub record Stepped {A : Type 0} (step : Step) (old new : PacketStream A) (unread left : Option (List ℕ)) :
    Type 0 where
  pub came : List ℕ
  pub consumed : Consumes unread left came
  pub eats : (id : ℕ) (begun opened : List ℕ) → old.decoder.max_allowed_packet ≡ most
      → Collects id begun opened (collecting old)
      → (eaten : List ℕ) × (old.src.items ++ came ≡ eaten ++ new.src.items)
      × (new.taken ≡ old.taken + length eaten) × SteppedAs step id (begun ++ eaten) (collecting new)
  pub most_is : new.decoder.max_allowed_packet ≡ old.decoder.max_allowed_packet
  pub at : new.at ≡ old.at
  pub limit : new.limit ≡ old.limit
  pub next : new.next ≡ old.next
  pub lent : new.lent ≡ old.lent
  pub end : step ≡ Waits → IsAtEnd left

-- nothing was taken of the next packet
pub record IsIdle {A : Type 0} (source : PacketStream A) : Type 0 where
  pub most_is : source.decoder.max_allowed_packet ≡ most
  pub taken : source.taken ≡ 0
  pub lends_none : source.lent ≡ None
  pub fresh : IsFresh [] (collecting source)

-- and its header, which bears this id, is there
abbrev pub IsReady : {A : Type 0} → ℕ → PacketStream A → Type 0
IsReady id source = IsIdle source × BeginsWith id source.src.items

-- a packet of one chunk, which has this header, stands whole in front of these bytes
pub record LiesWhole (front : Header) (bytes : List ℕ) : Type 0 where
  pub short : front.len < max_payload
  pub there : 4 + front.len ≤ length bytes
  pub spelled : take 4 bytes ≡ header front.len front.seq_id

-- what stands next was found in what was there and what was read then
pub record Found {A : Type 0} (next : Next) (old new : PacketStream A) (unread left : Option (List ℕ)) :
    Type 0 where
  pub came : List ℕ
  pub begun : List ℕ
  pub consumed : Consumes unread left came
  pub split : old.src.items ++ came ≡ begun ++ unread_of new
  pub taken : new.taken ≡ length begun
  pub most_is : new.decoder.max_allowed_packet ≡ most
  pub at : new.at ≡ old.at
  pub limit : new.limit ≡ old.limit
  pub next_is : StandsNext next begun (collected new)
