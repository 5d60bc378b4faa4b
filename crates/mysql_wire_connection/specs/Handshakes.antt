-- The initial handshake.
use Rattle.std.specs.Prelude.{ℕ, ◌≡◌, ◌<◌, ◌^◌, ◌-◌, ◌*◌, ◌/◌, ◌%◌, max, Bool, nat_lt, List, [], ◌∷◌, ◌++◌, length, take, drop}
use Rattle.std.proofs.Common.{arith}
use Rattle.std.specs.Cow.{cow_slice_items}
use Rattle.std.specs.List.{before_first}
use Rattle.wire_const.specs.declared.flag_sets.capability.CapabilityFlags.{CapabilityFlags}
use Rattle.wire_values.specs.declared.flags.RawFlags.{RawFlags}
use Rattle.wire_field.specs.declared.row.Both.{Both}
use Rattle.wire_field.specs.declared.row.Either.{Either}
use Rattle.wire_forms.specs.declared.halves.LeU32LowerHalf.{LeU32LowerHalf}
use Rattle.wire_forms.specs.declared.halves.LeU32UpperHalf.{LeU32UpperHalf}
use Rattle.wire_forms.specs.declared.null.NullBytes.{NullBytes}
use Rattle.wire_buf.specs.NullText.{is_zero}
use Rattle.wire_field.specs.Rows.{by_side}
use Rattle.wire_buf.specs.Numbers.{le_number, le_bytes}
use Rattle.wire_buf.specs.NumberLemmas.{le_number-le_bytes_fits}
use Rattle.mysql_wire_parts.specs.Fields.{Constant, Text}
use Rattle.mysql_wire_parts.specs.NullTexts.{clean}
use Rattle.mysql_wire_parts.specs.Optional.{bytes_if, has, side}
use Rattle.mysql_wire_connection.specs.declared.handshake.HandshakeV10.{HandshakeV10}

-- the halves of the capabilities
abbrev pub Lower : Type 0
Lower = RawFlags CapabilityFlags LeU32LowerHalf ℕ

abbrev pub Upper : Type 0
Upper = RawFlags CapabilityFlags LeU32UpperHalf ℕ

-- how many bytes the second part of the authentication data has, where both have this many
abbrev pub part_2_length : ℕ → ℕ
part_2_length both = max 13 (both - 8)

-- what is written up to the second part of the data: the capabilities in two halves
abbrev pub head_bytes : HandshakeV10 → List ℕ
head_bytes h = 0x0a ∷ ((clean h.server_version.0 ++ 0 ∷ []) ++ (le_bytes 4 h.thread_id
    ++ (h.auth_plugin_data_part_1 ++ h.filler ∷ (le_bytes 2 h.capability_flags_1.0
    ++ h.character_set ∷ (le_bytes 2 h.status_flags.0
    ++ (le_bytes 2 (h.capability_flags_2.0 / 65536)
    ++ h.auth_plugin_data_len ∷ (h.reserved ++ le_bytes 4 h.mariadb_capabilities.0)))))))

-- its fields up to there, in order
abbrev pub head_fields : HandshakeV10
    → Both (Constant 0x0a) (Both (Text NullBytes) (Both ℕ (Both (List ℕ) (Both ℕ (Both Lower (Both ℕ (Both ℕ
    (Both Upper (Both ℕ (Both (List ℕ) ℕ))))))))))
head_fields h = (
  _,
  (
    h.server_version,
    (
      h.thread_id,
      (
        h.auth_plugin_data_part_1,
        (
          h.filler,
          (
            h.capability_flags_1,
            (
              h.character_set,
              (
                h.status_flags.0,
                (
                  h.capability_flags_2,
                  (h.auth_plugin_data_len, (h.reserved, h.mariadb_capabilities.0)),
                ),
              ),
            ),
          ),
        ),
      ),
    ),
  ),
)

-- and after it: the second part, and the plugin's name
abbrev pub tail_bytes : HandshakeV10 → List ℕ
tail_bytes h = take 255 (cow_slice_items h.auth_plugin_data_part_2.0)
    ++ bytes_if (by_side (λ name. clean name.0 ++ 0 ∷ []) (λ name. cow_slice_items name.0))
    h.auth_plugin_name

-- the upper half of a number, as its place says
abbrev pub upper_half : ℕ → ℕ
upper_half n = n - n % 65536

-- a zero is among the bytes
abbrev pub has_zero : List ℕ → Bool
has_zero bytes = nat_lt (length (before_first is_zero bytes)) (length bytes)

-- how the fields after the head are read: the second part of the data by its length, and the name
-- up to a zero where one stands after that part
abbrev pub tail_at : ℕ → ℕ → List ℕ → ℕ × Either (Either (Unit {0}) (Unit {0})) (Unit {0})
tail_at upper len input = (
  part_2_length len,
  side (side tt (has_zero (drop (part_2_length len) input))) (has upper 0x80000),
)

-- a zero stands after the second part of the data
abbrev pub is_closed : HandshakeV10 → List ℕ → Bool
is_closed h rest =
    has_zero (drop (part_2_length h.auth_plugin_data_len) (tail_bytes h ++ rest))

-- ---- lemmas

pub upper_half-back : (n : ℕ) → n < 2 ^ 32
    → 65536 * le_number (le_bytes 2 (n / 65536)) ≡ upper_half n
upper_half-back n fits =
    let half : le_number (le_bytes 2 (n / 65536)) ≡ n / 65536 =
    le_number-le_bytes_fits 2 (n / 65536) (omega arith) in
    omega (arith, half)
