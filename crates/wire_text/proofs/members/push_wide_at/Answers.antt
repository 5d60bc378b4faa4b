use Rattle.std.proofs.Common.{subst, sym, take, IsUtf8}
use Rattle.std.specs.Fmt.{decimal}
use Rattle.wire_text.proofs.FieldLemmas.{standing_member}
use Rattle.wire_text.proofs.WideLemmas.{wide_stands, wide_utf8}
use Rattle.wire_text.proofs.members.push_wide_at.Goals as goal

pub push_short-requires-clause-words : goal.push_short-requires-clause-words
push_short-requires-clause-words g c =
    subst IsUtf8 (sym c.ascii_behind-bytes.ensures.front) (wide_utf8 (take c.args.len c.args.block.now) c.requires.wide)

pub push_short-requires-2-clause-words : goal.push_short-requires-2-clause-words
push_short-requires-2-clause-words g c =
    subst IsUtf8 (sym c.ascii_behind-bytes.ensures.front) (wide_utf8 (take c.args.len c.args.block.now) c.requires.wide)

pub returns-then-place-lt10 : goal.returns-then-place-lt10
returns-then-place-lt10 g c =
    let words = take c.args.len c.args.block.now in
    rw (
      standing_member c.args.form c.args.is_first (decimal c.args.place) words (wide_utf8 words c.requires.wide) (wide_stands words c.requires.wide),
      ← c.ascii_behind-bytes.ensures.front,
      ← c.one_digit-digit.ensures.is,
      ← c.name_of.ensures,
    ) c.push_short.ensures

pub returns : goal.returns
returns g c =
    let words = take c.args.len c.args.block.now in
    rw (
      standing_member c.args.form c.args.is_first (decimal c.args.place) words (wide_utf8 words c.requires.wide) (wide_stands words c.requires.wide),
      ← c.ascii_behind-bytes.ensures.front,
      ← c.two_digits-digits.ensures.is,
      ← c.name_of-2.ensures,
    ) c.push_short-2.ensures

pub name_of-requires : goal.name_of-requires
name_of-requires g c = c.one_digit-digit.ensures.utf8

pub name_of-requires-2 : goal.name_of-requires-2
name_of-requires-2 g c = c.two_digits-digits.ensures.utf8
