use Rattle.std.proofs.Common.{string_bytes, codes, arith}
use Rattle.std.proofs.lemmas.Slice.Eq.{slice_eq-Decides}
use Rattle.std.proofs.lemmas.Bool.Decides.{Decides-eqb}
use Rattle.mysql_wire_dump_lines.proofs.ArgumentLemmas.{one_word_is, no_one_word, word_decides}
use Rattle.mysql_wire_dump_lines.proofs.arguments.is_help.Goals as goal

pub returns-in-len1 : goal.returns-in-len1
returns-in-len1 g c =
    let one = one_word_is string_bytes c.args.words.now c.word-item.result c.as_str.result.now c.in-len1.len_at_least c.in-len1.len_below c.word-item.is c.as_str.ensures.value in
    word_decides _ c.as_str.result.now (codes "--help") c.eq.result one (slice_eq-Decides Decides-eqb _ _ _ c.eq.ensures)

pub returns-in_default : goal.returns-in_default
returns-in_default g c = no_one_word string_bytes c.args.words.now (codes "--help") (omega arith)

pub returns-in_default-2 : goal.returns-in_default-2
returns-in_default-2 g c = no_one_word string_bytes c.args.words.now (codes "--help") (omega arith)
