use Rattle.std.proofs.Common.{true}
use Rattle.wire_const.specs.FlagSets.{capability_flags_bits}
use Rattle.mysql_wire_parts.specs.Again.{both_again, const_again, null_text_again, number_again}
use Rattle.mysql_wire_parts.specs.More.{if_more}
use Rattle.mysql_wire_parts.specs.Optional.{has, side}
use Rattle.mysql_wire_parts.specs.Shortest.{u8_text_again, written_back, at_input_of, both_of, exact, optional_of, part_of, text_of}
use Rattle.mysql_wire_utility.proofs.laws.com_change_user_is_written_back.Goals as goal

pub returns : goal.returns
returns c = λ capabilities input packet eaten is read.
    let bits = capability_flags_bits capabilities in
    written_back _ _ ((both_of
    (part_of (λ command. (_, (command.user, (command.auth_plugin_data, command.database))))
    (exact (both_again (const_again 0x11) (both_again (null_text_again (λ text. text.0))
    (both_again (u8_text_again (λ text. text.0)) (null_text_again (λ text. text.0)))))))
    (both_of (at_input_of (if_more (side tt true))
    (optional_of (λ command. command.character_set) (λ set. set) _
    (λ there. exact (number_again (λ n. n) 2))))
    (both_of (at_input_of (if_more (side tt (has bits 0x80000)))
    (optional_of (λ command. command.auth_plugin_name) (λ name. name) _
    (λ there. exact (null_text_again (λ text. text.0)))))
    (at_input_of (if_more (side tt (has bits 0x100000)))
    (optional_of (λ command. command.connect_attrs) (λ attrs. attrs) _
    (λ there. text_of (λ text. text.0))))))).law input is packet eaten read)
