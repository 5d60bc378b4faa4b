use Rattle.std.proofs.Common.{rules}
use Rattle.mysql_wire_statements.proofs.TextReads.{text_read, no_text}
use Rattle.mysql_wire_statements.proofs.binary_value.eat_text.Goals.{in_default-via-in-Some+in_default, in_default-via-in_default}
use Rattle.mysql_wire_statements.proofs.binary_value.eat_text.Goals as goal

pub returns-in-Some : goal.returns-in-Some
returns-in-Some c = elim c.in_default.branch [
  | in_default-via-in-Some+in_default w ↦
      text_read c.args.buf.now.0.now c.in-Some.text.now c.checked_eat_lenenc_str.new.self.0.now
      (search (rules, w.in_default, c.first.ensures)) (search (rules, w.in_default, c.first.ensures)) c.in-Some.ensures
  | in_default-via-in_default w ↦
      text_read c.args.buf.now.0.now c.in-Some.text.now c.checked_eat_lenenc_str.new.self.0.now
      (search (rules, w.in_default, c.first.ensures)) (search (rules, w.in_default, c.first.ensures)) c.in-Some.ensures
]

pub returns-in-None : goal.returns-in-None
returns-in-None c = elim c.in_default.branch [
  | in_default-via-in-Some+in_default w ↦
      no_text c.args.buf.now.0.now c.checked_eat_lenenc_str.new.self.0.now
      (search (rules, w.in_default, c.first.ensures)) (search (rules, w.in_default, c.first.ensures)) c.in-None.ensures
  | in_default-via-in_default w ↦
      no_text c.args.buf.now.0.now c.checked_eat_lenenc_str.new.self.0.now
      (search (rules, w.in_default, c.first.ensures)) (search (rules, w.in_default, c.first.ensures)) c.in-None.ensures
]
