use Rattle.std.proofs.Common.{sym, ◌∙◌}
use Rattle.std.proofs.lemmas.Str.{is_utf8-from_IsUtf8}
use Rattle.wire_text.proofs.FieldLemmas.{escape-none_needs_escape, is_utf8-false, utf8_if}
use Rattle.wire_text.proofs.members.push_words.Goals as goal

pub from_utf8_unchecked-words-requires : goal.from_utf8_unchecked-words-requires
from_utf8_unchecked-words-requires g c = utf8_if c.args.bytes.now (sym c.is_ascii.ensures ∙ c.if-is_ascii.true)

pub returns-then-is_ascii : goal.returns-then-is_ascii
returns-then-is_ascii g c =
    let ascii = sym c.is_ascii.ensures ∙ c.if-is_ascii.true in
    rw (is_utf8-from_IsUtf8 c.args.bytes.now (utf8_if c.args.bytes.now ascii), ← c.from_utf8_unchecked-words.ensures)
    c.push_escaped_words.ensures

pub returns-then-none_needs_escape : goal.returns-then-none_needs_escape
returns-then-none_needs_escape g c =
    rw (
      is_utf8-from_IsUtf8 c.args.bytes.now c.in-Ok.ensures.cases.1,
      escape-none_needs_escape c.args.bytes.now (sym c.none_needs_escape.ensures ∙ c.if-none_needs_escape.true),
      ← c.in-Ok.ensures.cases.0,
    ) c.push_in_quotes.ensures

pub returns-else-none_needs_escape : goal.returns-else-none_needs_escape
returns-else-none_needs_escape g c =
    rw (is_utf8-from_IsUtf8 c.args.bytes.now c.in-Ok.ensures.cases.1, ← c.in-Ok.ensures.cases.0)
    c.push_escaped_words-else-none_needs_escape.ensures

pub returns-in-Err : goal.returns-in-Err
returns-in-Err g c = rw (is_utf8-false c.args.bytes.now c.in-Err.ensures.cases.0) c.push_octets.ensures
