use Rattle.std.proofs.Common.{◌≡◌, ◌≢◌, ◌∙◌, refl, subst}
use Rattle.mysql_wire_dump_lines.specs.declared.packet_stream.Step.{Step}
use Rattle.mysql_wire_dump_lines.specs.declared.packet_stream.Step.TheVariants.{Waits}
use Rattle.mysql_wire_dump_lines.specs.PacketStreams.{Took}
use Rattle.mysql_wire_dump_lines.proofs.PacketStreamLemmas.{step_ended, step_read, step_taken}
use Rattle.mysql_wire_dump_lines.proofs.packet_stream.PacketStream.step.Goals as goal

pub returns-in_default : goal.returns-in_default
returns-in_default g c =
    let other : c.in_ok-step.step ≢ Waits = c.in_default.not-Waits in
    step_taken c.in_ok-step.step c.args.self.now c.take_read.new.self (g.R.Read.remaining c.args.input.now) c.in_ok-step.ensures other

pub returns-then-branch-eq0 : goal.returns-then-branch-eq0
returns-then-branch-eq0 g c =
    let waits : c.in_ok-step.step ≡ Waits = c.in-Waits.is in
    let took = subst (λ (s : Step). Took s c.args.self.now c.take_read.new.self) waits c.in_ok-step.ensures in
    let came = c.in_ok-read_more.ensures.came in
    step_ended c.spans_deliver.ensures c.args.self.now c.take_read.new.self _ (g.R.Read.remaining c.args.input.now) (g.R.Read.remaining c.read_more.new.input) came.0 took
    (came.1 ∙ c.if-branch-eq0.true) came.2 came.3 (c.in_ok-read_more.ensures.end c.if-branch-eq0.true) refl refl refl refl refl refl

pub returns-else-branch-eq0 : goal.returns-else-branch-eq0
returns-else-branch-eq0 g c =
    let waits : c.in_ok-step.step ≡ Waits = c.in-Waits.is in
    let took = subst (λ (s : Step). Took s c.args.self.now c.take_read.new.self) waits c.in_ok-step.ensures in
    let came = c.in_ok-read_more.ensures.came in
    step_read c.args.self.now c.take_read.new.self _ (g.R.Read.remaining c.args.input.now) (g.R.Read.remaining c.read_more.new.input) came.0 took
    came.2 came.3 refl refl refl refl refl refl refl
