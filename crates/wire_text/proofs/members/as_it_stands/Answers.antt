use Rattle.std.proofs.Common.{◌∙◌, sym}
use Rattle.wire_text.proofs.FieldLemmas.{plain_stand, plain_utf8}
use Rattle.wire_text.proofs.WideLemmas.{wide_stands, wide_utf8}
use Rattle.wire_text.proofs.members.as_it_stands.Goals.{else-is_plain, then-is_plain}
use Rattle.wire_text.proofs.members.as_it_stands.Goals as goal

pub from_utf8_unchecked-requires : goal.from_utf8_unchecked-requires
from_utf8_unchecked-requires c = elim c.if-is_plain.branch [
  | then-is_plain w ↦ plain_utf8 c.args.bytes.now (sym c.is_plain.ensures ∙ w.if-is_plain.true)
  | else-is_plain w ↦ wide_utf8 c.args.bytes.now (w.is_wide.ensures (sym w.value-is ∙ c.if-is_wide.true))
]

pub returns-then-is_wide-clause-stands : goal.returns-then-is_wide-clause-stands
returns-then-is_wide-clause-stands c = elim c.if-is_plain.branch [
  | then-is_plain w ↦
      let plain = sym c.is_plain.ensures ∙ w.if-is_plain.true in
      (c.from_utf8_unchecked.ensures, plain_utf8 c.args.bytes.now plain, plain_stand c.args.bytes.now plain)
  | else-is_plain w ↦
      let wide = w.is_wide.ensures (sym w.value-is ∙ c.if-is_wide.true) in
      (c.from_utf8_unchecked.ensures, wide_utf8 c.args.bytes.now wide, wide_stands c.args.bytes.now wide)
]
