use Rattle.std.proofs.Common.{subst, sym, take}
use Rattle.std.specs.Str.{IsUtf8}
use Rattle.json.proofs.Printed.Utf8.{IsUtf8-quoted}
use Rattle.wire_text.proofs.EscapeLemmas.{quoted_put}
use Rattle.wire_text.proofs.FieldLemmas.{utf8_if}
use Rattle.wire_text.proofs.quoted.push_front_escaped.Goals as goal

pub push_few-requires : goal.push_few-requires
push_few-requires g c =
    subst IsUtf8 (sym (quoted_put (take c.args.len c.args.source.now) _ _ c.escape_front-at.ensures.1 c.put_quote-end.ensures.1))
    (IsUtf8-quoted (take c.args.len c.args.source.now) (utf8_if (take c.args.len c.args.source.now) c.requires.ascii))

pub returns : goal.returns
returns g c =
    rw (← quoted_put (take c.args.len c.args.source.now) _ _ c.escape_front-at.ensures.1 c.put_quote-end.ensures.1) c.push_few.ensures
