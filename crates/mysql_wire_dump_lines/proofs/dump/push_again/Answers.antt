use Rattle.std.proofs.Common.{◌≡◌, ◌++◌, ap, List, OnOk, ℕ, arith, string_bytes, subst, sym, take, ap₂, ◌∙◌, IsUtf8}
use Rattle.std.proofs.lemmas.List.{length-take}
use Rattle.std.proofs.lemmas.Str.{IsUtf8-string_bytes}
use Rattle.std.specs.String.Boundary.{IsSplitPoint}
use Rattle.mysql_wire_dump_lines.specs.Lines.{packet_line}
use Rattle.mysql_wire_dump_lines.proofs.LineLemmas.{shorter_part}
use Rattle.wire_text.proofs.FieldLemmas.{cut_place}
use Rattle.mysql_wire_dump_lines.proofs.dump.push_again.Goals as goal

pub split_off-requires : goal.split_off-requires
split_off-requires g c =
    cut_place (string_bytes c.args.text.now) c.args.head (IsUtf8-string_bytes c.args.text.now) c.requires.within c.requires.head

pub truncate-requires : goal.truncate-requires
truncate-requires g c within =
    let all = string_bytes c.args.text.now in
    subst (λ (z : List ℕ). IsSplitPoint z c.args.begun) (sym c.in_ok-fields.ensures.bytes)
    (cut_place (take c.args.head all) c.args.begun c.requires.head (omega (arith, c.requires.order, c.requires.within, length-take c.args.head all))
    (subst IsUtf8 (sym (shorter_part c.args.begun c.args.head all c.requires.order c.requires.within)) c.requires.begun))

pub returns : goal.returns
returns g c =
    let all = string_bytes c.args.text.now in
    subst (λ (z : List ℕ × List ℕ). OnOk c.push_packet.result (string_bytes c.push_packet.new.text ≡ z.0 ++ packet_line c.args.form (record { side = c.args.came.0; id = c.args.came.1; len = c.args.len; kind = c.args.came.2 }) c.args.payload.now z.1))
    (ap₂ (λ (a b : List ℕ). (a, b))
    (c.truncate.ensures.bytes ∙ ap (take c.args.begun) c.in_ok-fields.ensures.bytes ∙ shorter_part c.args.begun c.args.head all c.requires.order c.requires.within)
    (c.as_str.ensures.value ∙ c.in_ok-fields.ensures.tail)) c.push_packet.ensures
