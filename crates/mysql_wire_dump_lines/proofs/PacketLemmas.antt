-- The fields of packets.
use Rattle.std.proofs.Common.{◌≡◌, ◌++◌, ℕ, List, [], refl, subst, inl, inr, Option, Result, Ok, Err}
use Rattle.std.proofs.KnownBytes.{Appends-nil}
use Rattle.std.specs.Prelude.{IfOk, OnOk}
use Rattle.mysql_wire_dump_lines.specs.Packets.{HasOwnFields, PutsOwn, PutsRowFields, WritesRowFields, packet_fields, row_kind, shown_kind}
use Rattle.mysql_wire_dump_lines.specs.ValueFields.{AreRowFields, PutsRow, PutsTexts, WritesTexts, rest_if, row_bytes_fields}
use Rattle.mysql_wire_session.specs.declared.packet.Packet.{Packet}
use Rattle.mysql_wire_session.specs.declared.packet.Packet.TheVariants as packet
use Rattle.mysql_wire_session.specs.declared.packet.Row.{Row}
use Rattle.mysql_wire_session.specs.declared.packet.Row.TheVariants as row
use Rattle.mysql_wire_session.specs.declared.packet_kind.PacketKind.{PacketKind}
use Rattle.mysql_wire_session.specs.declared.refusal.Refusal.{Refusal}
use Rattle.mysql_wire_statements.specs.declared.binary_row.BinaryRow.{BinaryRow}
use Rattle.wire_text.specs.Fields.{Member, Puts, Written}
use Rattle.wire_text.proofs.PartLemmas.{end_itself}
use denote.Bor.{Bor}

-- what was put is these fields
pub puts_are : {X E : Type 0} (result : Result X E) (members : List Member) (wanted : List Member)
    (old new : Written) → OnOk result (Puts members old new) → members ≡ wanted
    → OnOk result (Puts wanted old new)
puts_are (Ok done) members wanted old new put is =
    subst (λ (these : List Member). Puts these old new) is put
puts_are (Err error) members wanted old new put is = tt

-- the fields of a row of this many columns were put
pub puts_row : (columns : ℕ) (types : List ℕ) (row : BinaryRow) (refusal : Option Refusal) (old new : Written) → PutsRow columns types row refusal old new
    → (members : List Member) × AreRowFields columns types row refusal members × Puts members old new
puts_row columns types row refusal old new (inl read) =
    (read.1.members ++ rest_if refusal read.1.rest, inl (read.0, (read.1.members, (read.1.rest, (read.1.are, refl)))), read.1.puts)
puts_row columns types row refusal old new (inr other) = (row_bytes_fields row, inr (other.0, (other.1.0, refl)), other.1.1)

-- a packet that is no row of values has its own fields
pub own_fields : (types : List ℕ) (wanted : PacketKind) (shown : Packet)
    → ((row : Row) → shown ≡ packet.Row row → ⊥)
    → HasOwnFields types wanted shown (shown_kind wanted shown) (packet_fields shown)
own_fields types wanted (packet.Row row) not_row = absurd (not_row row refl)
own_fields types wanted (packet.Greeting one) not_row = (refl, refl)
own_fields types wanted (packet.TlsRequest one) not_row = (refl, refl)
own_fields types wanted (packet.Login one) not_row = (refl, refl)
own_fields types wanted (packet.AuthSwitch one) not_row = (refl, refl)
own_fields types wanted (packet.AuthMoreData one) not_row = (refl, refl)
own_fields types wanted (packet.AuthAnswer one) not_row = (refl, refl)
own_fields types wanted (packet.Ok one) not_row = (refl, refl)
own_fields types wanted (packet.RowsEnd one) not_row = (refl, refl)
own_fields types wanted (packet.Error one) not_row = (refl, refl)
own_fields types wanted (packet.Progress one) not_row = (refl, refl)
own_fields types wanted (packet.Eof one) not_row = (refl, refl)
own_fields types wanted (packet.ColumnCount one) not_row = (refl, refl)
own_fields types wanted (packet.Column one) not_row = (refl, refl)
own_fields types wanted (packet.TableColumn one) not_row = (refl, refl)
own_fields types wanted (packet.LocalInfile one) not_row = (refl, refl)
own_fields types wanted (packet.File one) not_row = (refl, refl)
own_fields types wanted (packet.Prepared one) not_row = (refl, refl)
own_fields types wanted (packet.Statistics one) not_row = (refl, refl)
own_fields types wanted (packet.BinaryLogEvent one) not_row = (refl, refl)
own_fields types wanted (packet.Command one) not_row = (refl, refl)
own_fields types wanted (packet.Prepare one) not_row = (refl, refl)
own_fields types wanted (packet.Execute one) not_row = (refl, refl)
own_fields types wanted (packet.ExecuteUnknown one) not_row = (refl, refl)
own_fields types wanted (packet.LongData one) not_row = (refl, refl)
own_fields types wanted (packet.CloseStatement one) not_row = (refl, refl)
own_fields types wanted (packet.ResetStatement one) not_row = (refl, refl)
own_fields types wanted (packet.Fetch one) not_row = (refl, refl)
own_fields types wanted (packet.FieldList one) not_row = (refl, refl)
own_fields types wanted (packet.SetOption one) not_row = (refl, refl)
own_fields types wanted (packet.StatisticsRequest one) not_row = (refl, refl)
own_fields types wanted (packet.ResetConnection one) not_row = (refl, refl)
own_fields types wanted (packet.ProcessKill one) not_row = (refl, refl)
own_fields types wanted (packet.Debug one) not_row = (refl, refl)
own_fields types wanted (packet.RegisterSlave one) not_row = (refl, refl)
own_fields types wanted (packet.BinlogDump one) not_row = (refl, refl)
own_fields types wanted (packet.BinlogDumpGtid one) not_row = (refl, refl)
own_fields types wanted (packet.OtherCommand one) not_row = (refl, refl)
own_fields types wanted packet.TooLarge not_row = (refl, refl)
own_fields types wanted (packet.Refused one) not_row = (refl, refl)

-- a row's fields are its packet's
pub row_put : {E : Type 0} (result : Result PacketKind E) (types : List ℕ) (wanted : PacketKind) (row : Row) (old new : Written)
    → IfOk result (PutsRowFields types wanted row old new) → IfOk result (PutsOwn types wanted (packet.Row row) old new)
row_put (Ok named) types wanted row old new put = record { members = put.members; has = put.has; puts = put.puts }
row_put (Err error) types wanted row old new put = tt

-- a row of texts that were put
pub texts_put : (columns : ℕ) (types : List ℕ) (wanted named : PacketKind) (values : Bor (List ℕ)) (refusal : Option Refusal) (old new : Written)
    → named ≡ row_kind wanted refusal → PutsTexts columns values.now refusal old new → PutsRowFields types wanted (row.Text columns values) old new named
texts_put columns types wanted named values refusal old new is put = record {
  members = put.members;
  has = (refusal, is, (put.rest, put.are, put.ends));
  puts = put.puts;
}

-- one of which all but an end may have been written
pub texts_written : (columns : ℕ) (types : List ℕ) (wanted named : PacketKind) (values : Bor (List ℕ)) (refusal : Option Refusal) (old new : Written) (before now : Option (List ℕ))
    → named ≡ row_kind wanted refusal → WritesTexts columns values.now refusal old new before now → WritesRowFields types wanted (row.Text columns values) old new before now named
texts_written columns types wanted named values refusal old new before now is put = record {
  whole = put.whole;
  written = put.written;
  puts = texts_put columns types wanted named values refusal old put.whole is put.puts;
  appended = put.appended;
  ends = put.ends;
}

-- a row of which nothing was written
pub none_written : {E : Type 0} (result : Result PacketKind E) (types : List ℕ) (wanted : PacketKind) (read : Row) (old new : Written) (before : Option (List ℕ))
    → IfOk result (PutsRowFields types wanted read old new) → IfOk result (WritesRowFields types wanted read old new before before)
none_written (Ok named) types wanted read old new before put =
    record { whole = new; written = []; puts = put; appended = Appends-nil before; ends = end_itself new }
none_written (Err error) types wanted read old new before put = tt
