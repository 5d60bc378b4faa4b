-- What is written of a command to change the user.
use Rattle.std.specs.Prelude.{ℕ, List, [], ◌∷◌, ◌++◌}
use Rattle.wire_buf.specs.Numbers.{le_bytes}
use Rattle.wire_field.specs.declared.row.Both.{Both}
use Rattle.wire_forms.specs.declared.lenenc.LenEnc.{LenEnc}
use Rattle.wire_forms.specs.declared.null.NullBytes.{NullBytes}
use Rattle.wire_forms.specs.declared.prefixed.U8Bytes.{U8Bytes}
use Rattle.mysql_wire_parts.specs.Fields.{Constant, Text}
use Rattle.mysql_wire_parts.specs.InOrder.{text_bytes, u8_text_bytes}
use Rattle.mysql_wire_parts.specs.NullTexts.{clean}
use Rattle.mysql_wire_parts.specs.Optional.{bytes_if, field}
use Rattle.mysql_wire_parts.specs.declared.optional.IfMore.{IfMore}
use Rattle.mysql_wire_utility.specs.declared.com_change_user.ComChangeUser.{ComChangeUser}

-- up to the name of the database
abbrev pub user_bytes : ComChangeUser → List ℕ
user_bytes command = 0x11 ∷ ((clean command.user.0 ++ 0 ∷ [])
    ++ (u8_text_bytes command.auth_plugin_data.0 ++ (clean command.database.0 ++ 0 ∷ [])))

-- and after it, each where it is there
abbrev pub set_bytes : ComChangeUser → List ℕ
set_bytes command = bytes_if (le_bytes 2) command.character_set

abbrev pub name_bytes : ComChangeUser → List ℕ
name_bytes command = bytes_if (λ name. clean name.0 ++ 0 ∷ []) command.auth_plugin_name

abbrev pub attrs_bytes : ComChangeUser → List ℕ
attrs_bytes command = bytes_if (λ attrs. text_bytes attrs.0) command.connect_attrs

-- its fields, in order
abbrev pub change_fields : ComChangeUser
    → Both (Both (Constant 0x11) (Both (Text NullBytes) (Both (Text U8Bytes) (Text NullBytes))))
    (Both (IfMore ℕ) (Both (IfMore (Text NullBytes)) (IfMore (Text LenEnc))))
change_fields command = (
  (_, (command.user, (command.auth_plugin_data, command.database))),
  (
    (field (λ set. set) _ command.character_set, _),
    (
      (field (λ name. name) _ command.auth_plugin_name, _),
      (field (λ attrs. attrs) _ command.connect_attrs, _),
    ),
  ),
)
