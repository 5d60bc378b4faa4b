use Rattle.std.proofs.Common.{refl}
use Rattle.mysql_wire_statements.specs.declared.binary_value.BinaryValue.TheVariants as binary
use Rattle.wire_text.specs.Fields.{Null, Number, Word, Words}
use Rattle.mysql_wire_dump_lines.specs.TemporalTexts.{time_text}
use Rattle.mysql_wire_dump_lines.proofs.ValueLemmas.{shown_put}
use Rattle.mysql_wire_dump_lines.proofs.show.values.put_value.Goals as goal

pub returns-in-Null : goal.returns-in-Null
returns-in-Null g c = rw c.in-Null.is (shown_put c.put_at.result c.args.place binary.Null Null c.args.fields.now c.put_at.new.self refl c.put_at.ensures)

pub returns-in-Tiny : goal.returns-in-Tiny
returns-in-Tiny g c = rw c.in-Tiny.is (shown_put c.put_at-in-Tiny.result c.args.place (binary.Tiny c.in-Tiny.number) (Number c.in-Tiny.number) c.args.fields.now c.put_at-in-Tiny.new.self refl c.put_at-in-Tiny.ensures)

pub returns-in-Short : goal.returns-in-Short
returns-in-Short g c = rw c.in-Short.is (shown_put c.put_at-in-Short.result c.args.place (binary.Short c.in-Short.number) (Number c.in-Short.number) c.args.fields.now c.put_at-in-Short.new.self refl c.put_at-in-Short.ensures)

pub returns-in-Long : goal.returns-in-Long
returns-in-Long g c = rw c.in-Long.is (shown_put c.put_at-in-Long.result c.args.place (binary.Long c.in-Long.number) (Number c.in-Long.number) c.args.fields.now c.put_at-in-Long.new.self refl c.put_at-in-Long.ensures)

pub returns-in-LongLong : goal.returns-in-LongLong
returns-in-LongLong g c = rw c.in-LongLong.is (shown_put c.put_at-in-LongLong.result c.args.place (binary.LongLong c.in-LongLong.number) (Number c.in-LongLong.number) c.args.fields.now c.put_at-in-LongLong.new.self refl c.put_at-in-LongLong.ensures)

pub returns-in-Text : goal.returns-in-Text
returns-in-Text g c = rw c.in-Text.is (shown_put c.put_at-in-Text.result c.args.place (binary.Text c.in-Text.text) (Words c.in-Text.text.now) c.args.fields.now c.put_at-in-Text.new.self refl c.put_at-in-Text.ensures)

pub returns-in-Time : goal.returns-in-Time
returns-in-Time g c = rw c.in-Time.is (shown_put c.put_time.result c.args.place (binary.Time c.in-Time.time) (Word (time_text c.in-Time.time)) c.args.fields.now c.put_time.new.fields refl c.put_time.ensures)

pub returns-in-Float : goal.returns-in-Float
returns-in-Float g c = rw c.in-Float.is c.put_float.ensures

pub returns-in-Double : goal.returns-in-Double
returns-in-Double g c = rw c.in-Double.is c.put_double.ensures
