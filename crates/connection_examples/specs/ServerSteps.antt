-- What a server takes from a client.
use Rattle.std.specs.Prelude.{ℕ, ◌≡◌, List, bit_and, Result, Ok, Err}
use Rattle.mysql_wire.specs.Codec.{expected_id}
use Rattle.mysql_wire.specs.FlagSets.{capability_flags_bits}
use Rattle.mysql_wire.specs.WireError.{WireError}
use Rattle.mysql_wire_parts.specs.Places.{ReadsAs, ReadsWhole}
use Rattle.mysql_wire_connection.specs.declared.first_packet.ClientFirst.{ClientFirst}
use Rattle.mysql_wire_connection.specs.declared.first_packet.ClientFirst.TheVariants as first
use Rattle.mysql_wire_connection.specs.declared.auth_switch_response.AuthSwitchResponse.{AuthSwitchResponse}
use Rattle.mysql_wire_connection.specs.declared.handshake_response.HandshakeResponse41.{HandshakeResponse41}
use Rattle.mysql_wire_parts.specs.declared.places.PayloadError.{PayloadError}
use Rattle.mysql_wire_connection.specs.declared.ssl_request.SslRequest.{SslRequest}
use Rattle.connection_examples.specs.declared.server.Deciding.{Deciding}
use Rattle.connection_examples.specs.declared.server.First.{First}
use Rattle.connection_examples.specs.declared.server.First.TheVariants.{Tls, Login}

-- what was read, of what is answered
abbrev pub first_of : Result First PayloadError → Result ClientFirst PayloadError
first_of (Ok (Tls next request)) = Ok (first.Tls request)
first_of (Ok (Login next login)) = Ok (first.Login login)
first_of (Err error) = Err error

-- the payload asks for TLS, or it is refused
abbrev pub IsTls : (List ℕ → Result SslRequest WireError → ℕ → Type 0) → List ℕ
    → Result First PayloadError → Type 0
IsTls reads payload result = ReadsAs first.Tls reads payload (first_of result)

-- or is a login
abbrev pub IsLogin : (List ℕ → Result HandshakeResponse41 WireError → ℕ → Type 0) → List ℕ
    → Result First PayloadError → Type 0
IsLogin reads payload result = ReadsAs first.Login reads payload (first_of result)

-- the next packet bears this id; of these capabilities those stay that the client has too
abbrev pub GoesOn : ℕ → ℕ → Result First PayloadError → Type 0
GoesOn id bits (Ok (Tls next request)) = (expected_id next.line.codec ≡ id)
    × (capability_flags_bits next.capabilities ≡ bits)
GoesOn id bits (Ok (Login next login)) = (expected_id next.line.codec ≡ id)
    × (capability_flags_bits next.capabilities ≡ bit_and bits login.client_flag.0)
GoesOn id bits (Err error) = Unit {0}

-- the payload answers a plugin, or it is refused
abbrev pub IsAnswer : (List ℕ → Result AuthSwitchResponse WireError → ℕ → Type 0) → List ℕ
    → Result (Deciding × AuthSwitchResponse) PayloadError → Type 0
IsAnswer reads payload (Ok (next, response)) = ReadsWhole reads payload (Ok response)
IsAnswer reads payload (Err error) = ReadsWhole reads payload (Err error)
