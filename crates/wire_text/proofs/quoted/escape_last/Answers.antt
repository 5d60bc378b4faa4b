use Rattle.std.proofs.Common.{List, ap, length, drop, take, replicate, ℕ, ◌++◌, ◌∙◌}
use Rattle.json.specs.Print.{escape}
use Rattle.wire_text.proofs.EscapeLemmas.{filled_front}
use Rattle.wire_text.proofs.quoted.escape_last.Goals as goal

pub returns : goal.returns
returns c =
    let words = c.args.words.now in (
      c.escape_front.ensures.0,
      c.escape_front.ensures.1 ∙ ap (λ (z : List ℕ). take c.args.begin c.args.room.now ++ escape z)
          (filled_front words c.copy_from_slice.new.self (drop (length words) (replicate 48 32)) c.copy_from_slice.ensures.after),
      c.escape_front.ensures.2,
    )
