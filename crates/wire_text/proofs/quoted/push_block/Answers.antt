use Rattle.wire_text.proofs.EscapeLemmas.{put_ok, kept_err}
use Rattle.std.proofs.Common.{arith, rules, sym, take, ◌∙◌, refl}
use Rattle.std.proofs.lemmas.List.{length-take-le}
use Rattle.wire_text.proofs.FieldLemmas.{escape-none_needs_escape}
use Rattle.wire_text.proofs.quoted.push_block.Goals as goal

pub slice_bounds-block-end : goal.slice_bounds-block-end
slice_bounds-block-end g c = sym (length-take-le 64 c.args.bytes.now (omega (arith, c.requires.long)))

pub returns-then-none_needs_escape-clause-ok : goal.returns-then-none_needs_escape-clause-ok
returns-then-none_needs_escape-clause-ok g c =
    rw (escape-none_needs_escape (take 64 c.args.bytes.now) (sym c.none_needs_escape.ensures ∙ c.if-none_needs_escape.true)) (search (rules, c.extend_from_slice.ensures.items))

pub returns-then-none_needs_escape-clause-err : goal.returns-then-none_needs_escape-clause-err
returns-then-none_needs_escape-clause-err g c = kept_err c.extend_from_slice.result _ _ _ c.extend_from_slice.ensures.items

pub returns-then-none_needs_escape-clause-room : goal.returns-then-none_needs_escape-clause-room
returns-then-none_needs_escape-clause-room g c = refl

pub returns-clause-ok : goal.returns-clause-ok
returns-clause-ok g c =
    put_ok c.extend_from_slice-2.result _ _ _ _ c.escape_block-len.ensures.1 c.extend_from_slice-2.ensures.items

pub returns-clause-err : goal.returns-clause-err
returns-clause-err g c = kept_err c.extend_from_slice-2.result _ _ _ c.extend_from_slice-2.ensures.items

pub returns-clause-room : goal.returns-clause-room
returns-clause-room g c = c.escape_block-len.ensures.2

pub escape_block-len-requires : goal.escape_block-len-requires
escape_block-len-requires g c =
    record {
      long = c.requires.long;
      room = c.requires.room;
    }
