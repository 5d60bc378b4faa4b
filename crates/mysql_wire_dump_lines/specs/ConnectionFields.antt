-- The fields of the packets that a connection begins with, by MySQL's names.
use Rattle.std.specs.Cow.{cow_slice_items}
use Rattle.std.specs.Prelude.{List, [], ◌∷◌, ◌++◌, bit_or, codes}
use Rattle.wire_field.specs.Rows.{by_side}
use Rattle.mysql_wire_connection.specs.declared.auth_more_data.AuthMoreData.{AuthMoreData}
use Rattle.mysql_wire_connection.specs.declared.auth_switch.AuthSwitchRequest.{AuthSwitchRequest}
use Rattle.mysql_wire_connection.specs.declared.auth_switch_response.AuthSwitchResponse.{AuthSwitchResponse}
use Rattle.mysql_wire_connection.specs.declared.handshake.HandshakeV10.{HandshakeV10}
use Rattle.mysql_wire_connection.specs.declared.handshake_response.HandshakeResponse41.{HandshakeResponse41}
use Rattle.mysql_wire_connection.specs.declared.ssl_request.SslRequest.{SslRequest}
use Rattle.wire_text.specs.FieldTables.{row_if}
use Rattle.wire_text.specs.Fields.{Flags, Member, Number, Octets, Words}

abbrev pub greeting_fields : HandshakeV10 → List Member
greeting_fields packet =
    (codes "server_version", Words (cow_slice_items packet.server_version.0))
    ∷ (codes "thread_id", Number packet.thread_id)
    ∷ (codes "auth_plugin_data_part_1", Octets packet.auth_plugin_data_part_1)
    ∷ (codes "capability_flags", Flags (bit_or packet.capability_flags_1.0 packet.capability_flags_2.0))
    ∷ (codes "character_set", Number packet.character_set)
    ∷ (codes "status_flags", Flags packet.status_flags.0)
    ∷ (codes "auth_plugin_data_len", Number packet.auth_plugin_data_len)
    ∷ (codes "mariadb_capabilities", Flags packet.mariadb_capabilities.0)
    ∷ (codes "auth_plugin_data_part_2", Octets (cow_slice_items packet.auth_plugin_data_part_2.0))
    ∷ row_if (λ name. (
      codes "auth_plugin_name",
      Words (by_side (λ text. cow_slice_items text.0) (λ text. cow_slice_items text.0) name),
    ))
    packet.auth_plugin_name

abbrev pub tls_request_fields : SslRequest → List Member
tls_request_fields packet =
    (codes "client_flag", Flags packet.client_flag.0)
    ∷ (codes "max_packet_size", Number packet.max_packet_size)
    ∷ (codes "character_set", Number packet.character_set)
    ∷ (codes "mariadb_capabilities", Flags packet.mariadb_capabilities.0)
    ∷ []

-- those under a capability
abbrev pub login_options : HandshakeResponse41 → List Member
login_options packet =
    row_if (λ text. (codes "database", Words (cow_slice_items text.0))) packet.database
    ++ (row_if (λ text. (codes "client_plugin_name", Words (cow_slice_items text.0)))
    packet.client_plugin_name
    ++ (row_if (λ text. (codes "connect_attrs", Octets (cow_slice_items text.0)))
    packet.connect_attrs
    ++ row_if (λ level. (codes "zstd_compression_level", Number level))
    packet.zstd_compression_level))

abbrev pub login_fields : HandshakeResponse41 → List Member
login_fields packet =
    (codes "client_flag", Flags packet.client_flag.0)
    ∷ (codes "max_packet_size", Number packet.max_packet_size)
    ∷ (codes "character_set", Number packet.character_set)
    ∷ (codes "mariadb_capabilities", Flags packet.mariadb_capabilities.0)
    ∷ (codes "username", Words (cow_slice_items packet.username.0))
    ∷ (
      codes "auth_response",
      Octets (by_side (λ text. cow_slice_items text.0)
          (λ text. cow_slice_items text.0) packet.auth_response),
    )
    ∷ login_options packet

abbrev pub auth_switch_fields : AuthSwitchRequest → List Member
auth_switch_fields packet =
    (codes "plugin_name", Words (cow_slice_items packet.plugin_name.0))
    ∷ (codes "plugin_data", Octets (cow_slice_items packet.plugin_data.0))
    ∷ []

abbrev pub auth_more_data_fields : AuthMoreData → List Member
auth_more_data_fields packet = (codes "data", Octets (cow_slice_items packet.data.0)) ∷ []

abbrev pub auth_answer_fields : AuthSwitchResponse → List Member
auth_answer_fields packet = (codes "data", Octets (cow_slice_items packet.data.0)) ∷ []
