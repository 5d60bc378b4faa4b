use Rattle.std.specs.Fmt.{decimal}
use Rattle.wire_text.proofs.FieldLemmas.{plain_member}
use Rattle.wire_text.proofs.members.push_longer_at.Goals as goal

pub returns-then-place-lt10 : goal.returns-then-place-lt10
returns-then-place-lt10 g c =
    rw (
      plain_member c.args.form c.args.is_first (decimal c.args.place) c.args.bytes.now c.requires.plain,
      ← c.one_digit-digit.ensures.is,
      ← c.name_of.ensures,
    ) c.push_longer.ensures

pub returns : goal.returns
returns g c =
    rw (
      plain_member c.args.form c.args.is_first (decimal c.args.place) c.args.bytes.now c.requires.plain,
      ← c.two_digits-digits.ensures.is,
      ← c.name_of-2.ensures,
    ) c.push_longer-2.ensures

pub returns-then-capacity-len-lt-SHORT_ROOM : goal.returns-then-capacity-len-lt-SHORT_ROOM
returns-then-capacity-len-lt-SHORT_ROOM g c = c.push_any_far.ensures

pub returns-then-is_first : goal.returns-then-is_first
returns-then-is_first g c = c.push_any_far-then-is_first.ensures

pub push_longer-requires : goal.push_longer-requires
push_longer-requires g c =
    record {
      long = c.requires.long;
      plain = c.requires.plain;
    }

pub push_longer-requires-2 : goal.push_longer-requires-2
push_longer-requires-2 g c =
    record {
      long = c.requires.long;
      plain = c.requires.plain;
    }

pub name_of-requires : goal.name_of-requires
name_of-requires g c = c.one_digit-digit.ensures.utf8

pub name_of-requires-2 : goal.name_of-requires-2
name_of-requires-2 g c = c.two_digits-digits.ensures.utf8
