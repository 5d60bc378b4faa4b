use Rattle.std.proofs.Common.{◌∙◌}
use Rattle.mysql_wire_dump_lines.specs.declared.packet_stream.End.TheVariants.{OutOfSync, Unfinished}
use Rattle.mysql_wire_dump_lines.specs.declared.packet_stream.Next.TheVariants.{Packet, Ended}
use Rattle.mysql_wire_dump_lines.specs.declared.packet_stream.Step.TheVariants.{Waits, Whole, LosesSync}
use Rattle.mysql_wire_dump_lines.proofs.PacketStreamLemmas.{goes_on, found_by, packet_looked, ended_looked}
use Rattle.mysql_wire_dump_lines.proofs.packet_stream.PacketStream.take_packet.Goals as goal

pub returns-in-Whole-clause-found : goal.returns-in-Whole-clause-found
returns-in-Whole-clause-found g c ready =
    found_by c.args.id Whole (Packet c.args.id) c.args.self.now c.spans.self c.step.new.self (g.R.Read.remaining c.args.input.now) (g.R.Read.remaining c.spans.input)
    (g.R.Read.remaining c.step.new.input) (c.spans.invariant.going ready) (rw c.in-Whole.is at c.in_ok-step.ensures) (λ begun is. is)

pub returns-in-LosesSync-clause-found : goal.returns-in-LosesSync-clause-found
returns-in-LosesSync-clause-found g c ready =
    found_by c.args.id LosesSync (Ended OutOfSync) c.args.self.now c.spans.self c.step.new.self (g.R.Read.remaining c.args.input.now) (g.R.Read.remaining c.spans.input)
    (g.R.Read.remaining c.step.new.input) (c.spans.invariant.going ready) (rw c.in-LosesSync.is at c.in_ok-step.ensures) (λ begun is. is)

pub returns-in-Waits-clause-found : goal.returns-in-Waits-clause-found
returns-in-Waits-clause-found g c ready =
    found_by c.args.id Waits (Ended Unfinished) c.args.self.now c.spans.self c.step.new.self (g.R.Read.remaining c.args.input.now) (g.R.Read.remaining c.spans.input)
    (g.R.Read.remaining c.step.new.input) (c.spans.invariant.going ready) (rw c.in-Waits.is at c.in_ok-step.ensures) (λ begun is. is)

pub spans-preserved : goal.spans-preserved
spans-preserved g c =
    let step = rw c.in-Goes.is at c.in_ok-step.ensures in
    record {
      next = step.next ∙ c.spans.invariant.next;
      limit = step.limit ∙ c.spans.invariant.limit;
      going = λ ready. goes_on c.args.id c.args.self.now c.spans.self c.step.new.self (g.R.Read.remaining c.args.input.now) (g.R.Read.remaining c.spans.input)
          (g.R.Read.remaining c.step.new.input) (c.spans.invariant.going ready) step;
    }

pub returns-in-Whole-clause-kept : goal.returns-in-Whole-clause-kept
returns-in-Whole-clause-kept g c =
    let step = c.in_ok-step.ensures in
    (step.next ∙ c.spans.invariant.next, step.limit ∙ c.spans.invariant.limit, packet_looked c.args.id, tt)

pub returns-in-LosesSync-clause-kept : goal.returns-in-LosesSync-clause-kept
returns-in-LosesSync-clause-kept g c =
    let step = c.in_ok-step.ensures in
    (step.next ∙ c.spans.invariant.next, step.limit ∙ c.spans.invariant.limit, ended_looked OutOfSync, tt)

pub returns-in-Waits-clause-kept : goal.returns-in-Waits-clause-kept
returns-in-Waits-clause-kept g c =
    let step = c.in_ok-step.ensures in
    (step.next ∙ c.spans.invariant.next, step.limit ∙ c.spans.invariant.limit, ended_looked Unfinished, step.end c.in-Waits.is)
