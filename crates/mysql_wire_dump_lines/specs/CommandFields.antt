-- The fields of commands, by MySQL's names.
use Rattle.std.specs.Cow.{cow_slice_items}
use Rattle.std.specs.Prelude.{ℕ, List, [], ◌∷◌, ◌++◌, codes, ◌==◌, if◌then◌else◌, Option, Some, None}
use Rattle.mysql_wire_session.specs.declared.client_command.ClientCommand.{ClientCommand}
use Rattle.mysql_wire_session.specs.declared.client_command.ClientCommand.TheVariants as command
use Rattle.mysql_wire_utility.specs.declared.com_change_user.ComChangeUser.{ComChangeUser}
use Rattle.mysql_wire_queries.specs.declared.com_query_attributes.ComQueryWithAttributes.{ComQueryWithAttributes}
use Rattle.mysql_wire_statements.specs.declared.com_stmt_execute.ComStmtExecute.{ComStmtExecute}
use Rattle.mysql_wire_statements.specs.declared.com_stmt_fetch.ComStmtFetch.{ComStmtFetch}
use Rattle.mysql_wire_statements.specs.declared.com_stmt_prepare.ComStmtPrepare.{ComStmtPrepare}
use Rattle.mysql_wire_statements.specs.declared.com_stmt_send_long_data.ComStmtSendLongData.{ComStmtSendLongData}
use Rattle.mysql_wire_statements.specs.declared.params.StmtParams.{StmtParams}
use Rattle.wire_text.specs.FieldTables.{row_if}
use Rattle.wire_text.specs.Fields.{Flags, Member, Number, Octets, Words}

-- without parameters the query stands alone
abbrev pub attributes_and_query : ComQueryWithAttributes → Member
attributes_and_query packet =
    if packet.parameter_count == 0
    then (codes "query", Words (cow_slice_items packet.attributes_and_query.0))
    else (codes "attributes_and_query", Octets (cow_slice_items packet.attributes_and_query.0))

abbrev pub attributed_query_fields : ComQueryWithAttributes → List Member
attributed_query_fields packet =
    (codes "parameter_count", Number packet.parameter_count)
    ∷ (codes "parameter_set_count", Number packet.parameter_set_count)
    ∷ attributes_and_query packet
    ∷ []

abbrev pub change_user_options : ComChangeUser → List Member
change_user_options packet =
    row_if (λ number. (codes "character_set", Number number)) packet.character_set
    ++ (row_if (λ text. (codes "auth_plugin_name", Words (cow_slice_items text.0)))
    packet.auth_plugin_name
    ++ row_if (λ text. (codes "connect_attrs", Octets (cow_slice_items text.0)))
    packet.connect_attrs)

abbrev pub change_user_fields : ComChangeUser → List Member
change_user_fields packet =
    (codes "user", Words (cow_slice_items packet.user.0))
    ∷ (codes "auth_plugin_data", Octets (cow_slice_items packet.auth_plugin_data.0))
    ∷ (codes "database", Words (cow_slice_items packet.database.0))
    ∷ change_user_options packet

-- those of a command without prepared statements
abbrev pub plain_fields : ClientCommand → List Member
plain_fields (command.Quit packet) = []
plain_fields (command.InitDb packet) =
    (codes "schema", Words (cow_slice_items packet.schema.0)) ∷ []
plain_fields (command.Query packet) =
    (codes "query", Words (cow_slice_items packet.query.0)) ∷ []
plain_fields (command.AttributedQuery packet) = attributed_query_fields packet
plain_fields (command.Ping packet) = []
plain_fields (command.ChangeUser packet) = change_user_fields packet

-- a statement that is prepared
abbrev pub prepare_fields : ComStmtPrepare → List Member
prepare_fields packet = (codes "query", Words packet.query.now) ∷ []

abbrev pub number_fields : ℕ → List Member
number_fields statement_id = (codes "statement_id", Number statement_id) ∷ []

abbrev pub param_fields : StmtParams → List Member
param_fields params =
    (codes "null_bitmap", Octets params.nulls.0.now)
    ∷ row_if (λ types. (codes "parameter_type", Octets types.0.now)) params.types
    ++ (codes "parameter_values", Octets params.values.now)
    ∷ []

abbrev pub params_fields : Option StmtParams → List Member
params_fields None = []
params_fields (Some params) = param_fields params

abbrev pub execute_fields : ComStmtExecute → List Member
execute_fields packet =
    (codes "statement_id", Number packet.statement_id)
    ∷ (codes "flags", Flags packet.flags.0)
    ∷ (codes "iteration_count", Number packet.iteration_count)
    ∷ params_fields packet.params

abbrev pub long_data_fields : ComStmtSendLongData → List Member
long_data_fields packet =
    (codes "statement_id", Number packet.statement_id)
    ∷ (codes "param_id", Number packet.param_id)
    ∷ (codes "data", Octets packet.data.now)
    ∷ []

abbrev pub fetch_fields : ComStmtFetch → List Member
fetch_fields packet =
    (codes "statement_id", Number packet.statement_id)
    ∷ (codes "num_rows", Number packet.num_rows)
    ∷ []
