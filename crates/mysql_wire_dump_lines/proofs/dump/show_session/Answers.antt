use Rattle.mysql_wire_dump_lines.proofs.dump.show_session.Goals as goal

pub returns : goal.returns
returns g c = c.in_ok-status.ensures c.new-dump.ensures.starts
