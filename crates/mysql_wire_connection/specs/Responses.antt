-- The client's answer to the initial handshake.
use Rattle.std.specs.Prelude.{ℕ, List, [], ◌∷◌, ◌++◌}
use Rattle.wire_buf.specs.Numbers.{le_bytes}
use Rattle.wire_field.specs.declared.row.Both.{Both}
use Rattle.wire_field.specs.declared.row.Either.{Either}
use Rattle.wire_field.specs.Rows.{by_side}
use Rattle.wire_forms.specs.declared.lenenc.LenEnc.{LenEnc}
use Rattle.wire_forms.specs.declared.null.NullBytes.{NullBytes}
use Rattle.wire_forms.specs.declared.prefixed.U8Bytes.{U8Bytes}
use Rattle.mysql_wire_parts.specs.Fields.{Optional, Text}
use Rattle.mysql_wire_parts.specs.InOrder.{text_bytes, u8_text_bytes}
use Rattle.mysql_wire_parts.specs.NullTexts.{clean}
use Rattle.mysql_wire_parts.specs.Optional.{bytes_if, field}
use Rattle.mysql_wire_connection.specs.declared.handshake_response.HandshakeResponse41.{HandshakeResponse41}

-- what is written up to the name of the user
abbrev pub client_bytes : HandshakeResponse41 → List ℕ
client_bytes h = le_bytes 4 h.client_flag.0 ++ (le_bytes 4 h.max_packet_size
    ++ h.character_set ∷ ((h.filler ++ le_bytes 4 h.mariadb_capabilities.0)
    ++ (clean h.username.0 ++ 0 ∷ [])))

-- its fields up to there, in order
abbrev pub client_fields : HandshakeResponse41
    → Both ℕ (Both ℕ (Both ℕ (Both (Both (List ℕ) ℕ) (Text NullBytes))))
client_fields h = (
  h.client_flag.0,
  (
    h.max_packet_size,
    (h.character_set, ((h.filler, h.mariadb_capabilities.0), h.username)),
  ),
)

-- and after it
abbrev pub answer_bytes : HandshakeResponse41 → List ℕ
answer_bytes h = by_side (λ text. text_bytes text.0) (λ text. u8_text_bytes text.0) h.auth_response
    ++ (bytes_if (λ name. clean name.0 ++ 0 ∷ []) h.database
    ++ (bytes_if (λ name. clean name.0 ++ 0 ∷ []) h.client_plugin_name
    ++ (bytes_if (λ attrs. text_bytes attrs.0) h.connect_attrs
    ++ bytes_if (λ level. level ∷ []) h.zstd_compression_level)))

-- and those after it
abbrev pub answer_fields : HandshakeResponse41
    → Both (Either (Text LenEnc) (Text U8Bytes)) (Both (Optional (Text NullBytes))
    (Both (Optional (Text NullBytes)) (Both (Optional (Text LenEnc)) (Optional ℕ))))
answer_fields h = (
  h.auth_response,
  (
    field (λ name. name) _ h.database,
    (
      field (λ name. name) _ h.client_plugin_name,
      (
        field (λ attrs. attrs) _ h.connect_attrs,
        field (λ level. level) _ h.zstd_compression_level,
      ),
    ),
  ),
)
