-- The lines that are written.
use Rattle.std.specs.Fmt.{decimal}
use Rattle.std.specs.Prelude.{ℕ, nat_lt, List, [], ◌++◌, length, take, if◌then◌else◌, codes}
use Rattle.hex.specs.Hex.{encode_lower}
use Rattle.mysql_wire_session.specs.declared.packet_kind.PacketKind.{PacketKind}
use Rattle.mysql_wire_session.specs.declared.packet_kind.PacketKind.TheVariants.{Refused}
use Rattle.mysql_wire_dump_lines.specs.declared.lines.LineForm.{LineForm}
use Rattle.mysql_wire_dump_lines.specs.declared.lines.LineForm.TheVariants.{Text, Json}
use Rattle.mysql_wire_dump_lines.specs.declared.lines.Seen.{Seen}
use Rattle.mysql_wire_session.specs.declared.side.Side.{Side}
use Rattle.mysql_wire_dump_lines.specs.declared.packet_stream.End.{End}
use Rattle.mysql_wire_dump_lines.specs.Names.{end_name}
use Rattle.mysql_wire_session.specs.Names.{side_name, kind_name, refusal_name}

-- at most 32 bytes in digits, and two dots for those after them
unfoldable pub shown_bytes : List ℕ → List ℕ
shown_bytes payload =
    if nat_lt 32 (length payload) then encode_lower (take 32 payload) ++ codes ".."
    else encode_lower payload

-- who sent a packet, the id of its first chunk, its length, and what it is
abbrev pub packet_front : LineForm → Seen → List ℕ
packet_front Text seen =
    side_name seen.side ++ codes " " ++ decimal seen.id ++ codes " " ++ decimal seen.len
    ++ codes " " ++ kind_name seen.kind
packet_front Json seen =
    codes "{\"from\":\"" ++ side_name seen.side ++ codes "\",\"id\":" ++ decimal seen.id
    ++ codes ",\"length\":" ++ decimal seen.len ++ codes ",\"packet\":\"" ++ kind_name seen.kind
    ++ codes "\""

-- the digits of a payload's bytes, and the name of a refusal
abbrev pub refused_words : LineForm → List ℕ → List ℕ → List ℕ
refused_words Text digits name = codes " " ++ digits ++ codes " " ++ name
refused_words Json digits name =
    codes ",\"bytes\":\"" ++ digits ++ codes "\",\"refusal\":\"" ++ name ++ codes "\""

-- the bytes of a payload that its place's type refuses, and why
abbrev pub bytes_part : LineForm → PacketKind → List ℕ → List ℕ
bytes_part form (Refused refusal) payload =
    refused_words form (shown_bytes payload) (refusal_name refusal)
bytes_part form _ payload = []

abbrev pub line_end : LineForm → List ℕ
line_end Text = codes "\n"
line_end Json = codes "}\n"

-- a packet's line as far as its fields
abbrev pub packet_head : LineForm → Seen → List ℕ → List ℕ
packet_head form seen payload = packet_front form seen ++ bytes_part form seen.kind payload

-- a packet's line, with its fields
abbrev pub packet_line : LineForm → Seen → List ℕ → List ℕ → List ℕ
packet_line form seen payload fields =
    packet_front form seen ++ bytes_part form seen.kind payload ++ fields ++ line_end form

-- how a direction ends, and how many bytes its packets have
abbrev pub ending_line : LineForm → Side → End → ℕ → List ℕ
ending_line Text side end at =
    side_name side ++ codes " " ++ end_name end ++ codes " at " ++ decimal at ++ codes "\n"
ending_line Json side end at =
    codes "{\"from\":\"" ++ side_name side ++ codes "\",\"end\":\"" ++ end_name end
    ++ codes "\",\"at\":" ++ decimal at ++ codes "}\n"
