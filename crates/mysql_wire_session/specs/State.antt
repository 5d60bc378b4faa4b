-- What a session knows: what both sides have sent so far.
use Rattle.std.specs.List.{find}
use Rattle.std.specs.Prelude.{ℕ, ◌==◌, Bool, false, List, [], Option}
use Rattle.wire_const.specs.declared.flag_sets.capability.CapabilityFlags.{CapabilityFlags}
use Rattle.wire_const.specs.declared.flag_sets.mariadb.MariadbCapabilities.{MariadbCapabilities}
use Rattle.wire_const.specs.declared.flag_sets.status.StatusFlags.{StatusFlags}
use Rattle.mysql_wire_statements.specs.declared.com_stmt_prepare_ok.ComStmtPrepareOk.{ComStmtPrepareOk}
use Rattle.mysql_wire_session.specs.declared.classify.Expectation.{Expectation}
use Rattle.mysql_wire_session.specs.declared.phase.Phase.{Phase}
use Rattle.mysql_wire_session.specs.declared.phase.Phase.TheVariants.{Greeting}
use Rattle.mysql_wire_session.specs.declared.phase.RowForm.{RowForm}
use Rattle.mysql_wire_session.specs.declared.phase.RowForm.TheVariants.{Unknown}
use Rattle.mysql_wire_session.specs.declared.session.Session.{Session}

-- what is waited for; the id that follows the last packet's; whether rows begin with no EOF after
-- the definitions of columns, and how their values are written; whether the last command is an
-- execution that asks for a cursor; the capabilities, and MariaDB's; the
-- status that the last OK or EOF told; how many columns the last answer has, and the types of those
-- that were defined since; and the statements that were prepared, the newest first
pub record SessionState : Type 0 where
  pub phase : Phase
  pub next_id : ℕ
  pub is_eof_deprecated : Bool
  pub row_form : RowForm
  pub wants_cursor : Bool
  pub capabilities : CapabilityFlags
  pub mariadb : MariadbCapabilities
  pub status : StatusFlags
  pub columns : ℕ
  pub types : List ℕ
  pub statements : List ComStmtPrepareOk

abbrev pub state_of : {A : Type 0} → Session A → SessionState
state_of session =
    record {
      phase = session.phase;
      next_id = session.next_id;
      is_eof_deprecated = session.is_eof_deprecated;
      row_form = session.row_form;
      wants_cursor = session.wants_cursor;
      capabilities = session.capabilities;
      mariadb = session.mariadb;
      status = session.status;
      columns = session.columns;
      types = session.types.items;
      statements = session.statements.known.items;
    }

-- what names the next packet
abbrev pub expectation_of : SessionState → Expectation
expectation_of state =
    record {
      phase = state.phase;
      next_id = state.next_id;
      is_eof_deprecated = state.is_eof_deprecated;
      row_form = state.row_form;
    }

-- until the client has said what it can do, CLIENT_PROTOCOL_41 alone is taken to be in force
abbrev pub initial_state : SessionState
initial_state =
    record {
      phase = Greeting;
      next_id = 0;
      is_eof_deprecated = false;
      row_form = Unknown;
      wants_cursor = false;
      capabilities = record { 0 = 0x200 };
      mariadb = record { 0 = 0 };
      status = record { 0 = 0 };
      columns = 0;
      types = [];
      statements = [];
    }

-- the newest statement of this number
abbrev pub statement_of : ℕ → List ComStmtPrepareOk → Option ComStmtPrepareOk
statement_of number statements = find (λ statement. statement.statement_id == number) statements
