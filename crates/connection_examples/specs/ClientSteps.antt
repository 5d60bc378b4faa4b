-- What a client takes from a server, and what it makes of it.
use Rattle.std.specs.Prelude.{ℕ, ◌≡◌, ◌-◌, List, ◌++◌, length, take, bit_or, Result, Ok, Err}
use Rattle.std.specs.Cow.{cow_slice_items}
use Rattle.mysql_wire.specs.Codec.{expected_id}
use Rattle.mysql_wire.specs.CapabilityFlags.{CapabilityFlags}
use Rattle.mysql_wire.specs.FlagSets.{capability_flags_bits}
use Rattle.mysql_wire.specs.Rows.{by_side}
use Rattle.mysql_wire.specs.WireError.{WireError}
use Rattle.mysql_wire_parts.specs.Optional.{bytes_if}
use Rattle.mysql_wire_parts.specs.Places.{ReadsAs, ReadsUnderNone}
use Rattle.mysql_wire_connection.specs.declared.auth_answer.AuthAnswer.{AuthAnswer}
use Rattle.mysql_wire_connection.specs.declared.auth_answer.AuthAnswer.TheVariants as answer
use Rattle.mysql_wire_connection.specs.declared.first_packet.ServerFirst.{ServerFirst}
use Rattle.mysql_wire_connection.specs.declared.first_packet.ServerFirst.TheVariants as first
use Rattle.mysql_wire_connection.specs.declared.auth_more_data.AuthMoreData.{AuthMoreData}
use Rattle.mysql_wire_connection.specs.declared.auth_switch.AuthSwitchRequest.{AuthSwitchRequest}
use Rattle.mysql_wire_packets.specs.declared.err_packet.ErrPacket.{ErrPacket}
use Rattle.mysql_wire_connection.specs.declared.handshake.HandshakeV10.{HandshakeV10}
use Rattle.mysql_wire_packets.specs.declared.ok_packet.OkForm.{OkForm}
use Rattle.mysql_wire_parts.specs.declared.places.PayloadError.{PayloadError}
use Rattle.connection_examples.specs.declared.client.Greeting.{Greeting}
use Rattle.connection_examples.specs.declared.client.Greeting.TheVariants.{Greeted, Refused}
use Rattle.connection_examples.specs.declared.client.Outcome.{Outcome}
use Rattle.connection_examples.specs.declared.client.Outcome.TheVariants.{Done, Failed, Switch, MoreData}

-- what the server can do, from both halves
abbrev pub server_bits : HandshakeV10 → ℕ
server_bits greeting = bit_or greeting.capability_flags_1.0 greeting.capability_flags_2.0

-- the name of its plugin, or nothing
abbrev pub plugin_name_of : HandshakeV10 → List ℕ
plugin_name_of greeting = bytes_if
    (by_side (λ name. cow_slice_items name.0) (λ name. cow_slice_items name.0))
    greeting.auth_plugin_name

-- and the plugin's data: both parts, without the last byte of the second
abbrev pub plugin_data_of : HandshakeV10 → List ℕ
plugin_data_of greeting = greeting.auth_plugin_data_part_1
    ++ take (length (take 255 (cow_slice_items greeting.auth_plugin_data_part_2.0)) - 1)
    (take 255 (cow_slice_items greeting.auth_plugin_data_part_2.0))

-- what was read, of what is answered
abbrev pub first_of : Result Greeting PayloadError → Result ServerFirst PayloadError
first_of (Ok (Greeted next)) = Ok (first.Greeting next.greeting)
first_of (Ok (Refused error)) = Ok (first.Failed error)
first_of (Err error) = Err error

-- the payload is a greeting, or it is refused
abbrev pub IsGreeted : (List ℕ → Result HandshakeV10 WireError → ℕ → Type 0) → List ℕ
    → Result Greeting PayloadError → Type 0
IsGreeted reads payload result = ReadsAs first.Greeting reads payload (first_of result)

-- or an error, as it is read where no capabilities are in force
abbrev pub IsRefused : (CapabilityFlags → List ℕ → Result ErrPacket WireError → ℕ → Type 0)
    → List ℕ → Result Greeting PayloadError → Type 0
IsRefused reads payload result = ReadsUnderNone first.Failed reads payload (first_of result)

-- the answer to a greeting bears this id
abbrev pub AnswersGreeting : ℕ → Result Greeting PayloadError → Type 0
AnswersGreeting id (Ok (Greeted next)) = expected_id next.line.codec ≡ id
AnswersGreeting id (Ok (Refused error)) = Unit {0}
AnswersGreeting id (Err error) = Unit {0}

-- what was read, of what came of a login
abbrev pub answer_of : Result Outcome PayloadError → Result AuthAnswer PayloadError
answer_of (Ok (Done next ok)) = Ok (answer.Done ok)
answer_of (Ok (Failed error)) = Ok (answer.Failed error)
answer_of (Ok (Switch next request)) = Ok (answer.Switch request)
answer_of (Ok (MoreData next more)) = Ok (answer.MoreData more)
answer_of (Err error) = Err error

-- the payload is an OK, or it is refused
abbrev pub IsDone : (List ℕ → Result (OkForm 0) WireError → ℕ → Type 0) → List ℕ
    → Result Outcome PayloadError → Type 0
IsDone reads payload result = ReadsAs answer.Done reads payload (answer_of result)

-- or an error
abbrev pub IsFailed : (List ℕ → Result ErrPacket WireError → ℕ → Type 0) → List ℕ
    → Result Outcome PayloadError → Type 0
IsFailed reads payload result = ReadsAs answer.Failed reads payload (answer_of result)

-- or asks for another plugin
abbrev pub IsSwitch : (List ℕ → Result AuthSwitchRequest WireError → ℕ → Type 0) → List ℕ
    → Result Outcome PayloadError → Type 0
IsSwitch reads payload result = ReadsAs answer.Switch reads payload (answer_of result)

-- or is more of a plugin's data
abbrev pub IsMoreData : (List ℕ → Result AuthMoreData WireError → ℕ → Type 0) → List ℕ
    → Result Outcome PayloadError → Type 0
IsMoreData reads payload result = ReadsAs answer.MoreData reads payload (answer_of result)

-- a plugin's answer bears this id, and after an OK a command begins; these capabilities stay
abbrev pub GoesOn : ℕ → ℕ → Result Outcome PayloadError → Type 0
GoesOn id bits (Ok (Done next ok)) = (expected_id next.line.codec ≡ 0)
    × (capability_flags_bits next.capabilities ≡ bits)
GoesOn id bits (Ok (Failed error)) = Unit {0}
GoesOn id bits (Ok (Switch next request)) = (expected_id next.line.codec ≡ id)
    × (capability_flags_bits next.capabilities ≡ bits)
GoesOn id bits (Ok (MoreData next more)) = (expected_id next.line.codec ≡ id)
    × (capability_flags_bits next.capabilities ≡ bits)
GoesOn id bits (Err error) = Unit {0}
