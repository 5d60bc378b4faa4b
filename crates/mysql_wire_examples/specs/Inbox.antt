-- How much a connection holds.
use Rattle.std.specs.Prelude.{◌+◌, ℕ, [], length}
use Rattle.mysql_wire.specs.Codec.{CodecState, Stands, codec_state}
use Rattle.mysql_wire.specs.Delivery.{IsBounded}
use Rattle.mysql_wire_examples.specs.declared.inbox.Inbox.{Inbox}

abbrev pub inbox_state : {A : Type 0} → Inbox A → CodecState
inbox_state inbox = codec_state inbox.codec inbox.src.items inbox.dst.items

-- the bytes of an unfinished packet, and those unread
abbrev pub held_bytes : {A : Type 0} → Inbox A → ℕ
held_bytes inbox = length inbox.dst.items + length inbox.src.items

-- its codec stands, and holds no more than one does that began with nothing
abbrev pub HoldsFew : {A : Type 0} → Inbox A → Type 0
HoldsFew inbox =
    Stands (inbox_state inbox)
    × IsBounded inbox.codec.max_allowed_packet [] inbox.dst.items inbox.src.items
