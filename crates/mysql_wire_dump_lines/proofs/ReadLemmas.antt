-- The fields of a packet as text.
use Rattle.std.proofs.Common.{◌≡◌, ◌∙◌, ℕ, List, [], ◌∷◌, length, refl, sym, ap, subst, inl, inr, ◌⊎◌, Option, Result, Ok, Err}
use Rattle.std.specs.Prelude.{IfOk, OnOk}
use Rattle.mysql_wire_dump_lines.specs.Dumped.{AreFields}
use Rattle.mysql_wire_dump_lines.specs.Dumping.{NamesOne, PassesOver, ShowsFields, Tells, TellsRow, WritesFields, WritesRow}
use Rattle.mysql_wire_dump_lines.specs.Packets.{PutsPacket, PutsRowFields, WritesRowFields}
use Rattle.mysql_wire_session.specs.Readings.{ReadsAs, Receives, RowReads, advanced, after_kind, after_packet, kind_of, passed}
use Rattle.mysql_wire_session.specs.Advance.{opened, without_eof}
use Rattle.mysql_wire_session.specs.declared.packet.Row.{Row}
use Rattle.mysql_wire_session.specs.declared.phase.Phase.{Phase}
use Rattle.mysql_wire_session.specs.declared.phase.Phase.TheVariants as phase
use Rattle.wire_text.specs.declared.stop.Stop.{Stop}
use Rattle.mysql_wire_session.specs.State.{SessionState}
use Rattle.mysql_wire_session.specs.declared.packet.Packet.TheVariants as packet
use Rattle.mysql_wire_session.specs.declared.packet.Received.{Received}
use Rattle.mysql_wire_session.specs.declared.packet_kind.PacketKind.{PacketKind}
use Rattle.mysql_wire_session.specs.declared.packet_kind.PacketKind.TheVariants.{TooLarge}
use Rattle.mysql_wire_session.specs.declared.packet_kind.PacketKind.TheVariants as kind
use Rattle.mysql_wire_session.specs.declared.side.Side.{Side}
use Rattle.mysql_wire_session.proofs.FrontLemmas.{came_so}
use Rattle.wire_text.proofs.FieldLemmas.{fields_text-is}
use Rattle.wire_text.proofs.PartLemmas.{end_ended}
use Rattle.wire_text.specs.Fields.{Member, Written, ended, nothing_after, put, puts}
use Rattle.wire_text.specs.declared.fields.FieldForm.{FieldForm}
use Rattle.wire_text.specs.declared.fields.FieldForm.TheVariants.{Hidden, Text, Json}

-- no fields were put
no_fields : (form : FieldForm) (types : List ℕ) → AreFields form types TooLarge [] packet.TooLarge TooLarge []
no_fields Hidden types = record { members = []; has = (refl, refl); is = refl }
no_fields Text types = record { members = []; has = (refl, refl); is = refl }
no_fields Json types = record { members = []; has = (refl, refl); is = refl }

-- a packet was passed over
pub passed_over : (form : FieldForm) (side : Side) (id len : ℕ) (known next : SessionState)
    → next ≡ passed side id len known → PassesOver form side id len known next [] TooLarge
passed_over form side id len known next goes_on = (goes_on, no_fields form known.types)

-- a packet that came was read and shown
pub came_and_shown : (side : Side) (id : ℕ) (payload : List ℕ) (known next : SessionState) (received : Received) (old new : Written) (result : Result PacketKind Stop)
    → Receives side id payload known received → IfOk result (PutsPacket known.types received.kind received.payload.now received.packet old new) → OnOk result (next ≡ advanced received known)
    → IfOk result (Tells side id payload known next old new)
came_and_shown side id payload known next received old new (Ok named) came put goes_on = record {
  packet = received.packet;
  reads = came.reads;
  puts = subst (λ (k : PacketKind). PutsPacket known.types k payload received.packet old new named) came.kind_is
      (subst (λ (p : List ℕ). PutsPacket known.types received.kind p received.packet old new named) came.payload_is put);
  goes_on = goes_on ∙ came_so side id payload known received came;
}
came_and_shown side id payload known next received old new (Err stop) came put goes_on = tt

-- one of both kinds of rows
abbrev IsRow : PacketKind → Type 0
IsRow called = (called ≡ kind.Row) ⊎ (called ≡ kind.BinaryRow)

-- a row is read where no EOF stood before it as where one did
text_opens : (at : Phase) (payload : List ℕ) (known : SessionState) (read : Row) → RowReads known kind.Row payload read
    → RowReads (without_eof at known) kind.Row payload read
text_opens phase.Greeting payload known read reads = reads
text_opens phase.Login payload known read reads = reads
text_opens phase.Authentication payload known read reads = reads
text_opens phase.Command payload known read reads = reads
text_opens phase.Answer payload known read reads = reads
text_opens phase.PrepareAnswer payload known read reads = reads
text_opens phase.OptionAnswer payload known read reads = reads
text_opens phase.Statistics payload known read reads = reads
text_opens phase.FieldList payload known read reads = reads
text_opens phase.BinaryLog payload known read reads = reads
text_opens (phase.Columns left following) payload known read reads = reads
text_opens (phase.ColumnsEnd following) payload known read reads = reads
text_opens phase.Rows payload known read reads = reads
text_opens phase.File payload known read reads = reads
text_opens phase.Closed payload known read reads = reads
text_opens phase.Encrypted payload known read reads = reads

binary_opens : (at : Phase) (payload : List ℕ) (known : SessionState) (read : Row) → RowReads known kind.BinaryRow payload read
    → RowReads (without_eof at known) kind.BinaryRow payload read
binary_opens phase.Greeting payload known read reads = reads
binary_opens phase.Login payload known read reads = reads
binary_opens phase.Authentication payload known read reads = reads
binary_opens phase.Command payload known read reads = reads
binary_opens phase.Answer payload known read reads = reads
binary_opens phase.PrepareAnswer payload known read reads = reads
binary_opens phase.OptionAnswer payload known read reads = reads
binary_opens phase.Statistics payload known read reads = reads
binary_opens phase.FieldList payload known read reads = reads
binary_opens phase.BinaryLog payload known read reads = reads
binary_opens (phase.Columns left following) payload known read reads = reads
binary_opens (phase.ColumnsEnd following) payload known read reads = reads
binary_opens phase.Rows payload known read reads = reads
binary_opens phase.File payload known read reads = reads
binary_opens phase.Closed payload known read reads = reads
binary_opens phase.Encrypted payload known read reads = reads

row_reads : (called : PacketKind) (payload : List ℕ) (known : SessionState) (read : Row) → IsRow called → RowReads known called payload read
    → ReadsAs (opened called (length payload) known) called payload (packet.Row read)
row_reads called payload known read (inl is) reads =
    subst (λ (k : PacketKind). ReadsAs (opened k (length payload) known) k payload (packet.Row read)) (sym is)
    (read, text_opens known.phase payload known read (subst (λ (k : PacketKind). RowReads known k payload read) is reads), refl)
row_reads called payload known read (inr is) reads =
    subst (λ (k : PacketKind). ReadsAs (opened k (length payload) known) k payload (packet.Row read)) (sym is)
    (read, binary_opens known.phase payload known read (subst (λ (k : PacketKind). RowReads known k payload read) is reads), refl)

-- a row's fields are its packet's
row_puts : (types : List ℕ) (called : PacketKind) (payload : List ℕ) (read : Row) (old new : Written) (named : PacketKind) → IsRow called
    → PutsRowFields types called read old new named → PutsPacket types called payload (packet.Row read) old new named
row_puts types called payload read old new named (inl is) put =
    subst (λ (k : PacketKind). PutsPacket types k payload (packet.Row read) old new named) (sym is)
    (let puts = subst (λ (k : PacketKind). PutsRowFields types k read old new named) is put in record { members = puts.members; has = puts.has; puts = puts.puts })
row_puts types called payload read old new named (inr is) put =
    subst (λ (k : PacketKind). PutsPacket types k payload (packet.Row read) old new named) (sym is)
    (let puts = subst (λ (k : PacketKind). PutsRowFields types k read old new named) is put in record { members = puts.members; has = puts.has; puts = puts.puts })

-- after a row nothing is known but by its kind
row_goes_on : (side : Side) (id : ℕ) (called : PacketKind) (payload : List ℕ) (read : Row) (known : SessionState) → IsRow called
    → after_kind side id called (length payload) known ≡ after_packet side id called payload (packet.Row read) known
row_goes_on side id called payload read known (inl is) =
    subst (λ (k : PacketKind). after_kind side id k (length payload) known ≡ after_packet side id k payload (packet.Row read) known) (sym is) refl
row_goes_on side id called payload read known (inr is) =
    subst (λ (k : PacketKind). after_kind side id k (length payload) known ≡ after_packet side id k payload (packet.Row read) known) (sym is) refl

-- a row that came was read and shown
row_told : (side : Side) (id : ℕ) (payload : List ℕ) (called : PacketKind) (known next : SessionState) (old new : Written) (named : PacketKind)
    → called ≡ kind_of side id payload known → IsRow called → TellsRow side id called payload known next old new named
    → Tells side id payload known next old new named
row_told side id payload called known next old new named called_so is told = record {
  packet = packet.Row told.put.row;
  reads = subst (λ (k : PacketKind). ReadsAs (opened k (length payload) known) k payload (packet.Row told.put.row)) called_so
      (row_reads called payload known told.put.row is told.put.reads);
  puts = subst (λ (k : PacketKind). PutsPacket known.types k payload (packet.Row told.put.row) old new named) called_so
      (row_puts known.types called payload told.put.row old new named is told.put.puts);
  goes_on = told.goes_on ∙ row_goes_on side id called payload told.put.row known is
      ∙ ap (λ (k : PacketKind). after_packet side id k payload (packet.Row told.put.row) known) called_so;
}

pub row_shown : (side : Side) (id : ℕ) (payload : List ℕ) (called : PacketKind) (known next : SessionState) (old new : Written) (result : Result PacketKind Stop)
    → called ≡ kind_of side id payload known → IsRow called → IfOk result (TellsRow side id called payload known next old new)
    → IfOk result (Tells side id payload known next old new)
row_shown side id payload called known next old new (Err stop) called_so is told = tt
row_shown side id payload called known next old new (Ok named) called_so is told =
    row_told side id payload called known next old new named called_so is told

-- fields that are put leave what is before them
puts_before : (written : Written) (members : List Member) → (puts written members).before ≡ written.before
unfolding put
puts_before written [] = refl
puts_before written (member ∷ members) = puts_before (put written member) members

ended_before : (written : Written) → (ended written).before ≡ written.before
unfolding ended
ended_before written = refl

-- one was read: its fields were put and ended
names_one : (form : FieldForm) (side : Side) (id : ℕ) (payload : List ℕ) (known next : SessionState) (named : PacketKind) (before : List ℕ) (begun all new : Written)
    → begun ≡ nothing_after form before → Tells side id payload known next begun all named → new ≡ ended all → NamesOne form side id payload known next new.text named
names_one form side id payload known next named before begun all new begins told ends = record {
  packet = told.packet;
  reads = told.reads;
  goes_on = told.goes_on;
  fields_are = record {
    members = told.puts.members;
    has = told.puts.has;
    is = ap (λ (written : Written). written.text)
        (ends ∙ ap ended (told.puts.puts.are ∙ ap (λ (written : Written). puts written told.puts.members) begins)
        ∙ fields_text-is form before told.puts.members);
  };
}

pub fields_shown : (side : Side) (id : ℕ) (payload : List ℕ) (known next : SessionState) (named : PacketKind) (begun all new : Written)
    → Tells side id payload known next begun all named → new ≡ ended all → ShowsFields side id payload known next begun new named
fields_shown side id payload known next named begun all new told ends = record {
  names = λ form before begins. names_one form side id payload known next named before begun all new begins told ends;
  before = ap (λ (written : Written). written.before) ends ∙ ended_before all
      ∙ ap (λ (written : Written). written.before) told.puts.puts.are ∙ puts_before begun told.puts.members;
}

-- a row's fields were put and ended, of which all but an end may have been written
pub fields_part : (side : Side) (id : ℕ) (payload : List ℕ) (called : PacketKind) (known next : SessionState) (named : PacketKind) (begun all new : Written) (before now : Option (List ℕ))
    → called ≡ kind_of side id payload known → called ≡ kind.Row → WritesRow side id called payload known next begun all before now named → new ≡ ended all
    → WritesFields side id payload known next begun new before now named
fields_part side id payload called known next named begun all new before now called_so is writes ends = record {
  whole = ended writes.whole;
  written = writes.written;
  shows = fields_shown side id payload known next named begun writes.whole (ended writes.whole)
      (row_told side id payload called known next begun writes.whole named called_so (inl is) writes.tells) refl;
  appended = writes.appended;
  ends = end_ended writes.written writes.whole all new writes.ends ends;
}

-- it was read, and its fields were put
pub row_part : {side : Side} {id : ℕ} {called : PacketKind} {payload : List ℕ} {known next : SessionState} (read : Row) {old new : Written} {before now : Option (List ℕ)} {named : PacketKind}
    → RowReads known called payload read → WritesRowFields known.types called read old new before now named → next ≡ after_kind side id called (length payload) known
    → WritesRow side id called payload known next old new before now named
row_part read reads writes goes_on = record {
  whole = writes.whole;
  written = writes.written;
  tells = record { put = record { row = read; reads = reads; puts = writes.puts }; goes_on = goes_on };
  appended = writes.appended;
  ends = writes.ends;
}
