-- The line of a packet, of which the fields are appended where it stands.
use Rattle.std.proofs.Common.{◌≡◌, ◌∙◌, ℕ, ◌≤◌, List, [], ◌++◌, [], Bool, true, false, Option, Some, None, Result, Ok, Err, length, take, drop, sym, ap, ap₂, subst, append_assoc, take-append-drop, arith, string_bytes}
use Rattle.std.proofs.KnownBytes.{Appends-nil}
use Rattle.std.proofs.Math.Seq.{drop-append_seam}
use Rattle.std.proofs.lemmas.List.{length-append, length-take, take-append-le, take_all}
use Rattle.std.specs.Prelude.{◌<◌, IfOk, OnOk}
use Rattle.mysql_wire_dump_lines.specs.declared.dump.SessionLines.{SessionLines}
use Rattle.mysql_wire_dump_lines.specs.Dumped.{field_form}
use Rattle.mysql_wire_dump_lines.specs.Dumping.{NamesOne, PushesFields, PushesRead, ShowsFields, ShowsNext, WritesFields, WritesRead, WritesTheFields, is_refused}
use Rattle.mysql_wire_dump_lines.specs.Packets.{HasFieldsIf, HasOwnFields, HasRowFields, is_shown_whole}
use Rattle.mysql_wire_dump_lines.specs.declared.lines.LineForm.{LineForm}
use Rattle.mysql_wire_dump_lines.specs.declared.lines.Seen.{Seen}
use Rattle.mysql_wire_dump_lines.specs.Lines.{line_end, packet_head, packet_line}
use Rattle.mysql_wire_dump_lines.specs.declared.packet_stream.Next.TheVariants as next
use Rattle.mysql_wire_dump_lines.specs.declared.packet_stream.PacketStream.{PacketStream}
use Rattle.mysql_wire_dump_lines.specs.PacketStreams.{payload_of}
use Rattle.mysql_wire_dump_lines.proofs.ReadLemmas.{passed_over}
use Rattle.mysql_wire_session.specs.Readings.{kind_of, passed}
use Rattle.mysql_wire_session.specs.State.{SessionState, state_of}
use Rattle.mysql_wire_session.specs.declared.packet.Packet.{Packet}
use Rattle.mysql_wire_session.specs.declared.packet.Packet.TheVariants as packet
use Rattle.mysql_wire_session.specs.declared.packet.Row.{Row}
use Rattle.mysql_wire_session.specs.declared.packet.Row.TheVariants as row
use Rattle.mysql_wire_session.specs.declared.packet_kind.PacketKind.{PacketKind}
use Rattle.mysql_wire_session.specs.declared.packet_kind.PacketKind.TheVariants as kind
use Rattle.mysql_wire_session.specs.declared.refusal.Refusal.{Refusal}
use Rattle.mysql_wire_session.specs.declared.side.Side.{Side}
use Rattle.wire_text.specs.declared.fields.FieldForm.{FieldForm}
use Rattle.wire_text.specs.declared.stop.Stop.{Stop}
use Rattle.wire_text.specs.Fields.{Member, Written, nothing_after}

-- ---- what a packet is shown as

no_refusal : (named : PacketKind) (refusal : Refusal) → is_refused named ≡ false → named ≡ kind.Refused refusal → ⊥
no_refusal named refusal never is = subst (λ (test : Bool). elim test as (λ _. Type 0) [ true ↦ Unit {0} | false ↦ ⊥ ]) (sym (ap is_refused is) ∙ never) tt

row_named : (types : List ℕ) (wanted : PacketKind) (read : Row) (named : PacketKind) (members : List Member) → is_refused named ≡ false
    → HasRowFields types wanted read named members → named ≡ wanted
row_named types wanted (row.Text columns values) named members never (None, is, rest) = is
row_named types wanted (row.Text columns values) named members never (Some refusal, is, rest) = absurd (no_refusal named refusal never is)
row_named types wanted (row.Binary columns read) named members never (None, is, rest) = is
row_named types wanted (row.Binary columns read) named members never (Some refusal, is, rest) = absurd (no_refusal named refusal never is)
row_named types wanted (row.Unread payload) named members never has = has.0
row_named types wanted (row.Refused refusal) named members never has = absurd (no_refusal named refusal never has.0)

own_named : (types : List ℕ) (wanted : PacketKind) (read : Packet) (named : PacketKind) (members : List Member) → is_refused named ≡ false
    → HasOwnFields types wanted read named members → named ≡ wanted
own_named types wanted (packet.Greeting read) named members never has = has.0
own_named types wanted (packet.TlsRequest read) named members never has = has.0
own_named types wanted (packet.Login read) named members never has = has.0
own_named types wanted (packet.AuthSwitch read) named members never has = has.0
own_named types wanted (packet.AuthMoreData read) named members never has = has.0
own_named types wanted (packet.AuthAnswer read) named members never has = has.0
own_named types wanted (packet.Ok read) named members never has = has.0
own_named types wanted (packet.RowsEnd read) named members never has = has.0
own_named types wanted (packet.Error read) named members never has = has.0
own_named types wanted (packet.Progress read) named members never has = has.0
own_named types wanted (packet.Eof read) named members never has = has.0
own_named types wanted (packet.ColumnCount read) named members never has = has.0
own_named types wanted (packet.Column read) named members never has = has.0
own_named types wanted (packet.TableColumn read) named members never has = has.0
own_named types wanted (packet.LocalInfile read) named members never has = has.0
own_named types wanted (packet.File read) named members never has = has.0
own_named types wanted (packet.Prepared read) named members never has = has.0
own_named types wanted (packet.Statistics read) named members never has = has.0
own_named types wanted (packet.BinaryLogEvent read) named members never has = has.0
own_named types wanted (packet.Command read) named members never has = has.0
own_named types wanted (packet.Prepare read) named members never has = has.0
own_named types wanted (packet.Execute read) named members never has = has.0
own_named types wanted (packet.ExecuteUnknown read) named members never has = has.0
own_named types wanted (packet.LongData read) named members never has = has.0
own_named types wanted (packet.CloseStatement read) named members never has = has.0
own_named types wanted (packet.ResetStatement read) named members never has = has.0
own_named types wanted (packet.Fetch read) named members never has = has.0
own_named types wanted (packet.FieldList read) named members never has = has.0
own_named types wanted (packet.SetOption read) named members never has = has.0
own_named types wanted (packet.StatisticsRequest read) named members never has = has.0
own_named types wanted (packet.ResetConnection read) named members never has = has.0
own_named types wanted (packet.ProcessKill read) named members never has = has.0
own_named types wanted (packet.Debug read) named members never has = has.0
own_named types wanted (packet.RegisterSlave read) named members never has = has.0
own_named types wanted (packet.BinlogDump read) named members never has = has.0
own_named types wanted (packet.BinlogDumpGtid read) named members never has = has.0
own_named types wanted (packet.OtherCommand read) named members never has = has.0
own_named types wanted packet.TooLarge named members never has = has.0
own_named types wanted (packet.Row read) named members never has = row_named types wanted read named members never has
own_named types wanted (packet.Refused refusal) named members never has = absurd (no_refusal named refusal never has.0)

any_named : (whole : Bool) (types : List ℕ) (wanted : PacketKind) (payload : List ℕ) (read : Packet) (named : PacketKind) (members : List Member) → is_refused named ≡ false
    → HasFieldsIf whole types wanted payload read named members → named ≡ wanted
any_named true types wanted payload read named members never has = has.0
any_named false types wanted payload read named members never has = own_named types wanted read named members never has

-- a packet that is not refused is shown as what it is called
pub named_so : (form : FieldForm) (side : Side) (id : ℕ) (payload : List ℕ) (known next : SessionState) (fields : List ℕ) (named : PacketKind) → is_refused named ≡ false
    → NamesOne form side id payload known next fields named → named ≡ kind_of side id payload known
named_so form side id payload known next fields named never one =
    any_named (is_shown_whole (kind_of side id payload known)) known.types (kind_of side id payload known) payload one.packet named one.fields_are.members never one.fields_are.has

-- ---- its fields

-- they were put after a text, which is what it was, with them
pub fields_pushed : {A : Type 0} (side : Side) (id : ℕ) (payload : List ℕ) (old new : SessionLines A) (begun all : Written) (result : Result PacketKind Stop)
    → begun ≡ nothing_after (field_form old.options) (string_bytes old.text)
    → IfOk result (ShowsFields side id payload (state_of old.session) (state_of new.session) begun all)
    → string_bytes new.text ≡ all.before ++ all.text → IfOk result (PushesFields side id payload old new)
fields_pushed side id payload old new begun all (Ok named) begins shown text_is = record {
  fields = all.text;
  names = shown.names (field_form old.options) (string_bytes old.text) begins;
  text = text_is ∙ ap (λ (z : List ℕ). z ++ all.text) (shown.before ∙ ap (λ (written : Written). written.before) begins);
}
fields_pushed side id payload old new begun all (Err stop) begins shown text_is = tt

-- ---- places in a text

pub first_part : (n : ℕ) (all front back : List ℕ) → n ≡ length front → all ≡ front ++ back → take n all ≡ front
first_part n all front back n_is all_is =
    ap₂ (λ (m : ℕ) (z : List ℕ). take m z) n_is all_is ∙ take-append-le (length front) front back (omega arith) ∙ take_all (length front) front (omega arith)

pub last_part : (n : ℕ) (all front back : List ℕ) → n ≡ length front → all ≡ front ++ back → drop n all ≡ back
last_part n all front back n_is all_is = ap₂ (λ (m : ℕ) (z : List ℕ). drop m z) n_is all_is ∙ drop-append_seam front back

pub part_within : (n : ℕ) (all front back : List ℕ) → n ≡ length front → all ≡ front ++ back → n ≤ length all
part_within n all front back n_is all_is = omega (arith, n_is, ap length all_is, length-append front back)

pub shorter_part : (begun head : ℕ) (all : List ℕ) → begun ≤ head → head ≤ length all → take begun (take head all) ≡ take begun all
shorter_part begun head all order within =
    sym (take-append-le begun (take head all) (drop head all) (omega (arith, order, within, length-take head all))) ∙ ap (take begun) (take-append-drop head all)

-- ---- its line

-- as far as its fields, they and the end
pub line_of_parts : (form : LineForm) (seen other : Seen) (payload before head fields all new : List ℕ) → head ≡ packet_head form seen payload → all ≡ (before ++ head) ++ fields
    → new ≡ all ++ line_end form → seen ≡ other → new ≡ before ++ packet_line form other payload fields
line_of_parts form seen other payload before head fields all new head_is all_is new_is same =
    let end = line_end form in
    new_is ∙ ap (λ (z : List ℕ). z ++ end) (all_is ∙ append_assoc before head fields) ∙ append_assoc before (head ++ fields) end
    ∙ ap (λ (z : List ℕ). before ++ (z ++ fields ++ end)) (head_is ∙ ap (λ (s : Seen). packet_head form s payload) same)

-- made again, as of a packet that is refused
pub line_again : (begun head : ℕ) (form : LineForm) (seen : Seen) (payload before front fields all new : List ℕ) → begun ≡ length before → head ≡ length (before ++ front)
    → all ≡ (before ++ front) ++ fields → new ≡ take begun all ++ packet_line form seen payload (drop head all) → new ≡ before ++ packet_line form seen payload fields
line_again begun head form seen payload before front fields all new begun_is head_is all_is new_is =
    new_is
    ∙ ap₂ (λ (a b : List ℕ). a ++ packet_line form seen payload b)
    (first_part begun all before (front ++ fields) begun_is (all_is ∙ append_assoc before front fields))
    (last_part head all (before ++ front) fields head_is all_is)

-- as far as its fields, they and the end: all but an end of the text was written
pub line_written : (form : LineForm) (seen other : Seen) (payload before head fields written left new : List ℕ) → head ≡ packet_head form seen payload
    → written ++ left ≡ (before ++ head) ++ fields → new ≡ left ++ line_end form → seen ≡ other → written ++ new ≡ before ++ packet_line form other payload fields
line_written form seen other payload before head fields written left new head_is all_is new_is same =
    line_of_parts form seen other payload before head fields (written ++ left) (written ++ new) head_is all_is
    (ap (λ (z : List ℕ). written ++ z) new_is ∙ sym (append_assoc written left (line_end form))) same

-- they were put after a text, of which all but an end was written
pub fields_written : {A : Type 0} (side : Side) (id : ℕ) (payload : List ℕ) (old new : SessionLines A) (begun all : Written) (before now : Option (List ℕ)) (result : Result PacketKind Stop)
    → begun ≡ nothing_after (field_form old.options) (string_bytes old.text)
    → IfOk result (WritesFields side id payload (state_of old.session) (state_of new.session) begun all before now)
    → string_bytes new.text ≡ all.before ++ all.text → IfOk result (WritesTheFields side id payload old new before now)
fields_written side id payload old new begun all before now (Ok named) begins writes text_is = record {
  fields = writes.whole.text;
  names = writes.shows.names (field_form old.options) (string_bytes old.text) begins;
  written = writes.written;
  appended = writes.appended;
  text = ap (λ (z : List ℕ). writes.written ++ z) text_is ∙ writes.ends
      ∙ ap (λ (z : List ℕ). z ++ writes.whole.text) (writes.shows.before ∙ ap (λ (written : Written). written.before) begins);
}
fields_written side id payload old new begun all before now (Err stop) begins writes text_is = tt

-- nothing was written
pub read_unwritten : {A T E : Type 0} (result : Result T E) (side : Side) (id len : ℕ) (payload : List ℕ) (old new : SessionLines A) (before : Option (List ℕ))
    → OnOk result (PushesRead side id len payload old new) → OnOk result (WritesRead side id len payload old new before before)
read_unwritten (Ok _) side id len payload old new before read = record {
  kind = read.kind;
  fields = read.fields;
  names = read.names;
  written = [];
  appended = Appends-nil before;
  line = read.line;
  options_are = read.options_are;
}
read_unwritten (Err _) side id len payload old new before read = tt

-- ---- the next packet of a stream

pub next_read : {A T E : Type 0} (result : Result T E) (side : Side) (source : PacketStream A) (old new : SessionLines A) (id len : ℕ) (payload : List ℕ) (before now : Option (List ℕ))
    → source.next ≡ next.Packet id → len ≡ source.len → source.len ≤ source.limit → payload ≡ payload_of source
    → OnOk result (WritesRead side id len payload old new before now) → OnOk result (ShowsNext side source old new before now)
next_read (Ok _) side source old new id len payload before now is_next len_is within payload_is read = record {
  id = id;
  kind = read.kind;
  bytes = payload;
  fields = read.fields;
  is_next = is_next;
  large = λ above. absurd (omega (arith, above, within));
  named = λ _. subst (λ (bytes : List ℕ). NamesOne (field_form old.options) side id bytes (state_of old.session) (state_of new.session) read.fields read.kind) payload_is read.names;
  held = λ _. payload_is;
  written = read.written;
  appended = read.appended;
  line = subst (λ (n : ℕ). read.written ++ string_bytes new.text ≡ string_bytes old.text
      ++ packet_line old.options.form (record { side = side; id = id; len = n; kind = read.kind }) payload read.fields) len_is read.line;
  options_are = read.options_are;
}
next_read (Err _) side source old new id len payload before now is_next len_is within payload_is read = tt

pub next_passed : {A : Type 0} (side : Side) (source : PacketStream A) (old new : SessionLines A) (id len : ℕ) (before : Option (List ℕ)) → source.next ≡ next.Packet id
    → len ≡ source.len → source.limit < source.len → state_of new.session ≡ passed side id len (state_of old.session)
    → string_bytes new.text ≡ string_bytes old.text ++ packet_line old.options.form (record { side = side; id = id; len = len; kind = kind.TooLarge }) [] []
    → new.options ≡ old.options → ShowsNext side source old new before before
next_passed side source old new id len before is_next len_is above goes line options = record {
  id = id;
  kind = kind.TooLarge;
  bytes = [];
  fields = [];
  is_next = is_next;
  large = λ _. passed_over (field_form old.options) side id source.len (state_of old.session) (state_of new.session)
      (goes ∙ ap (λ (n : ℕ). passed side id n (state_of old.session)) len_is);
  named = λ within. absurd (omega (arith, above, within));
  held = λ within. absurd (omega (arith, above, within));
  written = [];
  appended = Appends-nil before;
  line = subst (λ (n : ℕ). string_bytes new.text ≡ string_bytes old.text
      ++ packet_line old.options.form (record { side = side; id = id; len = n; kind = kind.TooLarge }) [] []) len_is line;
  options_are = options;
}
