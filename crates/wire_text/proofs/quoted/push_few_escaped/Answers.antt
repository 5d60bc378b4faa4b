use Rattle.std.proofs.Common.{subst, sym}
use Rattle.std.specs.Str.{IsUtf8}
use Rattle.json.proofs.Printed.Utf8.{IsUtf8-quoted}
use Rattle.wire_text.proofs.EscapeLemmas.{quoted_put}
use Rattle.wire_text.proofs.quoted.push_few_escaped.Goals as goal

pub push_few-requires : goal.push_few-requires
push_few-requires g c =
    subst IsUtf8 (sym (quoted_put c.as_bytes.result.now _ _ c.escape_few-at.ensures.1 c.put_quote-len.ensures.1)) (IsUtf8-quoted c.as_bytes.result.now c.as_bytes.ensures.utf8)

pub returns : goal.returns
returns g c =
    rw (← c.as_bytes.ensures.value, ← quoted_put c.as_bytes.result.now _ _ c.escape_few-at.ensures.1 c.put_quote-len.ensures.1) c.push_few.ensures
