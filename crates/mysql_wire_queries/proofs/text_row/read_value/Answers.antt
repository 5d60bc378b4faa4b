use Rattle.std.proofs.Common.{rules}
use Rattle.mysql_wire_queries.proofs.TextReads.{value_read, no_value}
use Rattle.mysql_wire_queries.proofs.text_row.read_value.Goals.{in_default-via-in-Some+then-first-lt251, in_default-via-in_default}
use Rattle.mysql_wire_queries.proofs.text_row.read_value.Goals as goal

pub returns-in-Some : goal.returns-in-Some
returns-in-Some c = elim c.in_default.branch [
  | in_default-via-in-Some+then-first-lt251 w ↦
      value_read c.args.buf.now.0.now c.in-Some.text.now c.checked_eat_lenenc_str.new.self.0.now
      (search (rules, w, c.first.ensures)) (search (rules, w, c.first.ensures)) c.in-Some.ensures
  | in_default-via-in_default w ↦
      value_read c.args.buf.now.0.now c.in-Some.text.now c.checked_eat_lenenc_str.new.self.0.now
      (search (rules, w.in_default, c.first.ensures)) (search (rules, w.in_default, c.first.ensures)) c.in-Some.ensures
]

pub returns-in-None : goal.returns-in-None
returns-in-None c = elim c.in_default.branch [
  | in_default-via-in-Some+then-first-lt251 w ↦
      no_value c.args.buf.now.0.now c.checked_eat_lenenc_str.new.self.0.now
      (search (rules, w, c.first.ensures)) (search (rules, w, c.first.ensures)) c.in-None.ensures
  | in_default-via-in_default w ↦
      no_value c.args.buf.now.0.now c.checked_eat_lenenc_str.new.self.0.now
      (search (rules, w.in_default, c.first.ensures)) (search (rules, w.in_default, c.first.ensures)) c.in-None.ensures
]
