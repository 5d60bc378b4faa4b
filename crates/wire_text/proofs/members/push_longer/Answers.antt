use Rattle.std.proofs.Common.{◌++◌, ◌-◌, ◌∙◌, ap, arith, codes, drop, length, string_bytes, take}
use Rattle.wire_text.specs.Fields.{all_plain, in_ascii, name_part, Word}
use Rattle.wire_text.proofs.FieldLemmas.{joined, member_named, plain_utf8}
use Rattle.wire_text.proofs.PlainLemmas.{cut_and_end, front_plain_too, plain_behind, plain_in_ascii, quoted_parts, to_end}
use Rattle.wire_text.proofs.StandLemmas.{pass_behind}
use Rattle.wire_text.proofs.members.push_longer.Goals as goal

pub push_short_words-requires-clause-words : goal.push_short_words-requires-clause-words
push_short_words-requires-clause-words g c =
    let front = take 32 c.args.bytes.now in
    let len = length c.args.bytes.now - 32 in
    plain_utf8 (take len front) (front_plain_too len front (front_plain_too 32 c.args.bytes.now c.requires.plain))

pub push_short_words-requires-clause-behind : goal.push_short_words-requires-clause-behind
push_short_words-requires-clause-behind g c =
    let front = take 32 c.args.bytes.now in
    pass_behind in_ascii (length c.args.bytes.now - 32) front (plain_in_ascii front (front_plain_too 32 c.args.bytes.now c.requires.plain))

pub push_end-requires-clause-plain : goal.push_end-requires-clause-plain
push_end-requires-clause-plain g c =
    let bytes = c.args.bytes.now in
    let len = length bytes - 32 in
    ap all_plain (to_end len bytes) ∙ plain_behind len bytes c.requires.plain

pub returns : goal.returns
returns g c =
    let bytes = c.args.bytes.now in
    let len = length bytes - 32 in
    let name = name_part c.args.form c.args.is_first c.args.name.now in
    let quote = codes "\"" in
    let front = take len (take 32 bytes) in
    joined c.push_end.result (string_bytes c.args.text.now) (string_bytes c.push_short_words.new.text) (string_bytes c.push_end.new.text)
    ((name ++ quote) ++ front) (drop len bytes ++ quote) _ c.in_ok-push_short_words.ensures (rw (to_end len bytes) at c.push_end.ensures)
    (member_named c.args.form c.args.is_first c.args.name.now (Word bytes)
    ∙ quoted_parts name quote front (drop len bytes) bytes (cut_and_end len bytes (omega (arith, c.requires.long))))
