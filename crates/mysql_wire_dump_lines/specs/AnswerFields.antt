-- The fields of answers to commands, by MySQL's names.
use Rattle.std.specs.Cow.{cow_slice_items}
use Rattle.std.specs.Prelude.{ℕ, List, [], ◌∷◌, ◌++◌, codes}
use Rattle.wire_field.specs.Rows.{by_side}
use Rattle.mysql_wire_packets.specs.declared.eof_packet.EofPacket.{EofPacket}
use Rattle.mysql_wire_packets.specs.declared.err_packet.ErrPacket.{ErrPacket}
use Rattle.mysql_wire_packets.specs.declared.ok_packet.OkForm.{OkForm}
use Rattle.mysql_wire_packets.specs.declared.progress_report.ProgressReport.{ProgressReport}
use Rattle.mysql_wire_queries.specs.declared.column_count.ColumnCount.{ColumnCount}
use Rattle.mysql_wire_queries.specs.declared.column_definition.ColumnDefinition41.{ColumnDefinition41}
use Rattle.mysql_wire_queries.specs.declared.local_infile.LocalInfileRequest.{LocalInfileRequest}
use Rattle.mysql_wire_statements.specs.declared.com_stmt_prepare_ok.ComStmtPrepareOk.{ComStmtPrepareOk}
use Rattle.wire_text.specs.FieldTables.{row_if}
use Rattle.wire_text.specs.Fields.{Flags, Member, Number, Octets, Words}

abbrev pub ok_fields : {header : ℕ} → OkForm header → List Member
ok_fields packet =
    (codes "affected_rows", Number packet.affected_rows)
    ∷ (codes "last_insert_id", Number packet.last_insert_id)
    ∷ (codes "status_flags", Flags packet.status_flags.0)
    ∷ (codes "warnings", Number packet.warnings)
    ∷ row_if (λ info. (
      codes "info",
      Words (by_side (λ text. cow_slice_items text.0) (λ text. cow_slice_items text.0) info),
    ))
    packet.info
    ++ row_if (λ text. (codes "session_state_info", Octets (cow_slice_items text.0)))
    packet.session_state

abbrev pub error_fields : ErrPacket → List Member
error_fields packet =
    (codes "error_code", Number packet.error_code)
    ∷ row_if (λ state. (codes "sql_state", Words state)) packet.sql_state
    ++ (codes "error_message", Words (cow_slice_items packet.error_message.0))
    ∷ []

abbrev pub progress_fields : ProgressReport → List Member
progress_fields packet =
    (codes "strings", Number packet.strings)
    ∷ (codes "stage", Number packet.stage)
    ∷ (codes "max_stage", Number packet.max_stage)
    ∷ (codes "progress", Number packet.progress)
    ∷ (codes "info", Words (cow_slice_items packet.info.0))
    ∷ []

abbrev pub eof_fields : EofPacket → List Member
eof_fields packet =
    (codes "warnings", Number packet.warnings)
    ∷ (codes "status_flags", Flags packet.status_flags.0)
    ∷ []

abbrev pub local_infile_fields : LocalInfileRequest → List Member
local_infile_fields packet =
    (codes "filename", Words (cow_slice_items packet.file_name.0)) ∷ []

abbrev pub column_count_fields : ColumnCount → List Member
column_count_fields packet =
    row_if (λ follows. (codes "metadata_follows", Number follows)) packet.metadata_follows
    ++ (codes "column_count", Number packet.column_count)
    ∷ row_if (λ follows. (codes "mariadb_metadata_follows", Number follows))
    packet.mariadb_metadata_follows

abbrev pub column_names : ColumnDefinition41 → List Member
column_names packet =
    (codes "catalog", Words (cow_slice_items packet.catalog.0))
    ∷ (codes "schema", Words (cow_slice_items packet.schema.0))
    ∷ (codes "table", Words (cow_slice_items packet.table.0))
    ∷ (codes "org_table", Words (cow_slice_items packet.org_table.0))
    ∷ (codes "name", Words (cow_slice_items packet.name.0))
    ∷ (codes "org_name", Words (cow_slice_items packet.org_name.0))
    ∷ []

abbrev pub column_fields : ColumnDefinition41 → List Member
column_fields packet =
    column_names packet
    ++ row_if (λ text. (codes "extended_metadata", Octets (cow_slice_items text.0)))
    packet.extended_metadata
    ++ (codes "character_set", Number packet.character_set)
    ∷ (codes "column_length", Number packet.column_length)
    ∷ (codes "type", Number packet.column_type.0)
    ∷ (codes "flags", Flags packet.flags.0)
    ∷ (codes "decimals", Number packet.decimals)
    ∷ []

abbrev pub prepared_fields : ComStmtPrepareOk → List Member
prepared_fields packet =
    (codes "statement_id", Number packet.statement_id)
    ∷ (codes "num_columns", Number packet.num_columns)
    ∷ (codes "num_params", Number packet.num_params)
    ∷ (codes "warning_count", Number packet.warning_count)
    ∷ []
