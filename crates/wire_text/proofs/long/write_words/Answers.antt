use Rattle.std.proofs.lemmas.Str.{is_utf8-from_IsUtf8}
use Rattle.wire_text.proofs.FieldLemmas.{is_utf8-false}
use Rattle.wire_text.proofs.long.write_words.Goals as goal

pub returns-in-Ok : goal.returns-in-Ok
returns-in-Ok g c =
    rw (is_utf8-from_IsUtf8 c.args.bytes.now c.in-Ok.ensures.1, ← c.in-Ok.ensures.0, ← c.as_bytes-words.ensures.value)
    c.write_between.ensures

pub returns-in-Err : goal.returns-in-Err
returns-in-Err g c = rw (is_utf8-false c.args.bytes.now c.in-Err.ensures, c.octets_around.ensures.around) c.write_between-in-Err.ensures
