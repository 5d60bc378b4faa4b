use Rattle.std.proofs.Common.{ℕ, ◌≡◌, List, [], ◌∷◌, ◌++◌, Bool, true, Result, Ok, ap, ◌∙◌, sym, refl, subst, append-nil, length, ◌<◌, rules}
use Rattle.mysql_wire.specs.Framing.{framing, next_id}
use Rattle.mysql_wire.specs.PacketCodecError.{PacketCodecError}
use Rattle.mysql_wire_examples.specs.Connection.{answer_to}
use Rattle.mysql_wire_examples.proofs.ConnectionLemmas.{flat_map-on, flat_map-out}
use Rattle.mysql_wire_examples.proofs.RelayedLemmas.{err_on_ok}
use Rattle.mysql_wire_examples.proofs.connection.Connection.serve.Goals as goal

pub commands-preserved : goal.commands-preserved
commands-preserved g c =
    let told = c.in_ok-next_command.ensures in
    let is : ◌≡◌ {A = Result Bool PacketCodecError} (Ok c.in_ok-next_command.field-0) (Ok true) = ap Ok (search rules) in
    let command : List ℕ = c.next_command.new.self.unfinished.items in
    let put = c.in_ok-answer.ensures in
    let so_far = c.commands.invariant.so_far in
    record {
      awaits = put.awaits;
      so_far = (
        so_far.0 ++ command ∷ [],
        flat_map-on (framing 0) so_far.0 command _ _ _ so_far.1
            (told.whole is ∙ ap (λ bytes. framing 0 command ++ bytes) (sym put.left)),
        flat_map-out (λ command. framing (next_id 0 command) (answer_to command)) so_far.0 command _ _ _ so_far.2
            (put.answered ∙ ap (λ id. c.commands.output.items ++ framing id (answer_to command)) (told.next is)),
      );
    }

pub commands-init : goal.commands-init
commands-init g c = record {
  awaits = (rw c.as_slice.ensures.value at (c.if-not-stands_at.ensures.0 refl), c.requires);
  so_far = ([], refl, sym (append-nil c.args.output.now.items));
}

pub commands-smaller : goal.commands-smaller
commands-smaller g c =
    let is : ◌≡◌ {A = Result Bool PacketCodecError} (Ok c.in_ok-next_command.field-0) (Ok true) = ap Ok c.if-not-branch.false in
    subst (λ (z : List ℕ). length z < length c.commands.self.input.items) (sym c.answer.ensures.unread) (c.in_ok-next_command.ensures.shorter is)

pub next_command-requires : goal.next_command-requires
next_command-requires g c = c.commands.invariant.awaits

pub answer-requires : goal.answer-requires
answer-requires g c = c.in_ok-next_command.ensures.idle (ap Ok c.if-not-branch.false)

pub returns-in_err-extend_from_slice : goal.returns-in_err-extend_from_slice
returns-in_err-extend_from_slice g c = err_on_ok c.from_residual.result _ c.from_residual.ensures.0

pub returns-in_err-next_command : goal.returns-in_err-next_command
returns-in_err-next_command g c = err_on_ok c.from_residual-in_err-next_command.result _ c.from_residual-in_err-next_command.ensures.0

pub returns-in_err-answer : goal.returns-in_err-answer
returns-in_err-answer g c = err_on_ok c.from_residual-in_err-answer.result _ c.from_residual-in_err-answer.ensures.0

pub returns-then-not-stands_at : goal.returns-then-not-stands_at
returns-then-not-stands_at g c = tt
