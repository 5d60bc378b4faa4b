-- How many bytes a reader of packets keeps.
use Rattle.std.specs.Prelude.{◌≢◌, ℕ, ◌+◌, ◌*◌, ◌/◌, ◌≤◌, List, length, max, Option, Err}
use Rattle.wire_codec.specs.Framing.{max_payload}
use Rattle.wire_codec.specs.Codec.{CodecState, input_of}
use Rattle.wire_packet_io.specs.declared.error.PacketIoError.TheVariants.{PacketsOutOfSync}
use Rattle.wire_packet_io.specs.PacketIo.{Answer, NextPacket, read_size}

-- an unfinished packet of at most this many bytes, with the headers of its full chunks, less than a
-- header of the next one, and one read
abbrev pub most_read : ℕ → ℕ
most_read most = most + 4 * (most / max_payload) + 3 + read_size

-- what a call keeps: no more than was there, or than it reads where it waits
abbrev pub most_kept : CodecState → ℕ
most_kept before =
    max (length (input_of before)) (most_read (max before.limit (length before.held)))

-- whatever a call of `next_packet` or `fill_packet` answers, and whatever comes, it keeps no more;
-- but for a stream that is lost, counted with the headers of what is held
abbrev pub BoundedReads : Type 0
BoundedReads = (before after : CodecState) (unread left : Option (List ℕ)) (old_reads new_reads : ℕ)
    (answer : Answer) → NextPacket before unread left old_reads new_reads answer after
    → (length after.held + length after.unread ≤ most_kept before)
    × (answer ≢ Err PacketsOutOfSync → length (input_of after) ≤ most_kept before)
