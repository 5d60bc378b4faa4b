use Rattle.std.proofs.Common.{subst, sym, take, IsUtf8}
use Rattle.std.specs.Fmt.{decimal}
use Rattle.wire_text.specs.Fields.{in_ascii}
use Rattle.wire_text.proofs.FieldLemmas.{plain_member, plain_utf8}
use Rattle.wire_text.proofs.StandLemmas.{pass_behind}
use Rattle.wire_text.proofs.members.push_short_at.Goals as goal

pub push_short-requires-clause-words : goal.push_short-requires-clause-words
push_short-requires-clause-words g c =
    subst IsUtf8 (sym (c.below_128.ensures.front c.args.len c.requires.plain)) (plain_utf8 (take c.args.len c.args.block.now) c.requires.plain)

pub push_short-requires-clause-behind : goal.push_short-requires-clause-behind
push_short-requires-clause-behind g c = pass_behind in_ascii c.args.len c.below_128.result c.below_128.ensures.ascii

pub returns : goal.returns
returns g c =
    rw (
      plain_member c.args.form c.args.is_first (decimal c.args.place) (take c.args.len c.args.block.now) c.requires.plain,
      ← c.below_128.ensures.front c.args.len c.requires.plain,
      ← c.one_digit-digit.ensures.is,
      ← c.name_of.ensures,
    ) c.push_short.ensures
