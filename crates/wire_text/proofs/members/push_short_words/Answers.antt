use Rattle.std.proofs.Common.{take}
use Rattle.wire_text.proofs.FieldLemmas.{line_words, first_words, pair_words}
use Rattle.wire_text.proofs.members.push_short_words.Goals as goal

pub push_short_line-requires : goal.push_short_line-requires
push_short_line-requires g c =
    record {
      within = c.requires.within;
      words = c.requires.words;
      behind = c.requires.behind;
    }

pub push_short_first-requires : goal.push_short_first-requires
push_short_first-requires g c =
    record {
      within = c.requires.within;
      words = c.requires.words;
      behind = c.requires.behind;
    }

pub push_short_pair-requires : goal.push_short_pair-requires
push_short_pair-requires g c =
    record {
      within = c.requires.within;
      words = c.requires.words;
      behind = c.requires.behind;
    }

pub returns-in-Text : goal.returns-in-Text
returns-in-Text g c =
    line_words c.push_short_line.result c.args.form c.args.is_first c.args.name.now (take c.args.len c.args.bytes) _ _ c.in-Text.is c.push_short_line.ensures

pub returns-then-is_first : goal.returns-then-is_first
returns-then-is_first g c =
    first_words c.push_short_first.result c.args.form c.args.is_first c.args.name.now (take c.args.len c.args.bytes) _ _ c.in-Json.is c.if-is_first.true c.push_short_first.ensures

pub returns-else-is_first : goal.returns-else-is_first
returns-else-is_first g c =
    pair_words c.push_short_pair.result c.args.form c.args.is_first c.args.name.now (take c.args.len c.args.bytes) _ _ c.in-Json.is c.if-is_first.false c.push_short_pair.ensures
