use Rattle.std.proofs.Common.{map, string_bytes, subst, ap, Some, refl}
use Rattle.std.proofs.KnownBytes.{Keeps-refl}
use Rattle.mysql_wire_dump_lines.specs.Arguments.{Help, Dump, IsAsked, Command, command_of, session_of}
use Rattle.mysql_wire_dump.proofs.FileLemmas.{Runs, asked_sides, help_ends, runs_command, runs_nothing}
use Rattle.mysql_wire_dump.proofs.files.run_words.Given as given
use Rattle.mysql_wire_dump.proofs.files.run_words.Goals as goal

nothing : (g : given.Over) (c : goal.In-None g) → Runs (map string_bytes c.args.words.now) (g.W.Write.contents c.args.output.now) (g.W.Write.contents c.args.output.now) 1
nothing g c = runs_nothing _ _ _ 1 c.in-None.ensures refl (Keeps-refl _)

help : (g : given.Over) (c : goal.After-exit_status g)
    → Runs (map string_bytes c.args.words.now) (g.W.Write.contents c.args.output.now) (g.W.Write.contents c.help.new.output) c.exit_status.result
help g c =
    rw c.exit_status.ensures (
    runs_command _ Help _ _ _
    (subst (λ (z : Command). IsAsked (map string_bytes c.args.words.now) (Some z)) (ap command_of c.in-Some-Help.field-0-is) c.in-Some-Help.ensures)
    (help_ends c.help.result _ _ c.help.ensures)
    )

dump : (g : given.Over) (c : goal.After-exit_status-in-Some-Dump g)
    → Runs (map string_bytes c.args.words.now) (g.W.Write.contents c.args.output.now) (g.W.Write.contents c.dump_files.new.output) c.exit_status-in-Some-Dump.result
dump g c =
    let told = subst (λ (z : Command). IsAsked (map string_bytes c.args.words.now) (Some z)) (ap command_of c.in-Some-Dump.field-0-is) c.in-Some-Dump.ensures in
    rw c.exit_status-in-Some-Dump.ensures (
    runs_command _ (Dump (session_of c.in-Some-Dump.request)) _ _ _ told
    (c.dump_files.ensures (asked_sides (λ name. name.now) c.in-Some-Dump.request.client c.in-Some-Dump.request.server told.asked.3))
    )

pub returns-in-None-clause-ran : goal.returns-in-None-clause-ran
returns-in-None-clause-ran g c = (nothing g c).0

pub returns-in-None-clause-refused : goal.returns-in-None-clause-refused
returns-in-None-clause-refused g c = (nothing g c).1

pub returns-in-None-clause-untouched : goal.returns-in-None-clause-untouched
returns-in-None-clause-untouched g c = (nothing g c).2

pub returns-in-Some-Help-clause-ran : goal.returns-in-Some-Help-clause-ran
returns-in-Some-Help-clause-ran g c = (help g c).0

pub returns-in-Some-Help-clause-refused : goal.returns-in-Some-Help-clause-refused
returns-in-Some-Help-clause-refused g c = (help g c).1

pub returns-in-Some-Help-clause-untouched : goal.returns-in-Some-Help-clause-untouched
returns-in-Some-Help-clause-untouched g c = (help g c).2

pub returns-in-Some-Dump-clause-ran : goal.returns-in-Some-Dump-clause-ran
returns-in-Some-Dump-clause-ran g c = (dump g c).0

pub returns-in-Some-Dump-clause-refused : goal.returns-in-Some-Dump-clause-refused
returns-in-Some-Dump-clause-refused g c = (dump g c).1

pub returns-in-Some-Dump-clause-untouched : goal.returns-in-Some-Dump-clause-untouched
returns-in-Some-Dump-clause-untouched g c = (dump g c).2
