use Rattle.std.proofs.Common.{string_bytes, option_copied, ◌∙◌, List, ℕ, subst, sym}
use Rattle.mysql_wire_dump_lines.specs.Arguments.{Reads, Asks, Dump, Session}
use Rattle.mysql_wire_dump_lines.proofs.ArgumentLemmas.{all_words, words_here, words_split, ends_waiting, ends_sideless}
use Rattle.mysql_wire_dump_lines.proofs.arguments.Request.of.Goals.{in_default-via-in-None+in_default, in_default-via-in_default}
use Rattle.mysql_wire_dump_lines.proofs.arguments.Request.of.Goals as goal

pub returns-in_err-state : goal.returns-in_err-state
returns-in_err-state g c =
    let split = words_split string_bytes c.args.words.now c.words.word-index c.word-item.result c.as_str.result.now c.words-test.true c.word-item.is c.as_str.ensures.value in
    rw c.from_residual.ensures (λ (session : Session) asks. c.in_err-state.ensures _ c.words.invariant _ session (subst (λ (z : List (List ℕ)). Asks z (Dump session)) split asks))

pub words-preserved : goal.words-preserved
words-preserved g c =
    subst (λ (z : List (List ℕ)). Reads z c.in_ok-state.state.0 (option_copied c.in_ok-state.state.1))
    (words_here string_bytes c.args.words.now c.words.word-index c.word-item.result c.as_str.result.now c.words-test.true c.word-item.is c.as_str.ensures.value)
    (c.in_ok-state.ensures _ c.words.invariant)

pub returns-in_default : goal.returns-in_default
returns-in_default g c =
    let reads = subst (λ (z : List (List ℕ)). Reads z c.words.state.0 (option_copied c.words.state.1)) (all_words string_bytes c.args.words.now c.words.word-index c.words-test.false) c.words.invariant in
    elim c.in_default.branch [
      | in_default-via-in-None+in_default w ↦ ends_sideless _ _ (rw w.in_default.is-0 at reads) (sym c.sides.ensures ∙ w.in_default.is-1)
      | in_default-via-in_default w ↦ ends_waiting _ w.in_default.field-0-0.now _ (rw w.in_default.is-0 at reads)
    ]
