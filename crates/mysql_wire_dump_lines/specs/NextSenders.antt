-- In which order both sides' packets stand.
use Rattle.std.specs.Prelude.{ℕ, ◌==◌, if◌then◌else◌, Option, Some, None}
use Rattle.mysql_wire_session.specs.declared.phase.Phase.{Phase}
use Rattle.mysql_wire_session.specs.declared.phase.Phase.TheVariants as phase
use Rattle.mysql_wire_session.specs.declared.side.Side.{Side}
use Rattle.mysql_wire_session.specs.declared.side.Side.TheVariants.{Client, Server}

-- the side whose id follows the last packet's, the server's first; a client's packet numbered 0
-- begins another command, and else the server goes on
abbrev pub sender_by_id : ℕ → ℕ → ℕ → Side
sender_by_id next_id client_id server_id =
    if server_id == next_id then Server
    else if client_id == next_id then Client
    else if client_id == 0 then Client
    else Server

-- whose packet is next, where both sides have one: the server begins, with the id 0; where a login,
-- a command or a file is waited for, it is the client's; else it is found by the ids
abbrev pub sender_of_both : Phase → ℕ → ℕ → ℕ → Side
sender_of_both phase.Greeting next_id client_id server_id =
    if server_id == 0 then Server else Client
sender_of_both phase.Login next_id client_id server_id = Client
sender_of_both phase.Command next_id client_id server_id = Client
sender_of_both phase.File next_id client_id server_id = Client
sender_of_both phase.Closed next_id client_id server_id = Client
sender_of_both phase.Authentication next_id client_id server_id =
    sender_by_id next_id client_id server_id
sender_of_both phase.Answer next_id client_id server_id =
    sender_by_id next_id client_id server_id
sender_of_both phase.PrepareAnswer next_id client_id server_id =
    sender_by_id next_id client_id server_id
sender_of_both phase.OptionAnswer next_id client_id server_id =
    sender_by_id next_id client_id server_id
sender_of_both phase.Statistics next_id client_id server_id =
    sender_by_id next_id client_id server_id
sender_of_both phase.FieldList next_id client_id server_id =
    sender_by_id next_id client_id server_id
sender_of_both phase.BinaryLog next_id client_id server_id =
    sender_by_id next_id client_id server_id
sender_of_both (phase.Columns left behind) next_id client_id server_id =
    sender_by_id next_id client_id server_id
sender_of_both (phase.ColumnsEnd behind) next_id client_id server_id =
    sender_by_id next_id client_id server_id
sender_of_both phase.Rows next_id client_id server_id =
    sender_by_id next_id client_id server_id
sender_of_both phase.Encrypted next_id client_id server_id =
    sender_by_id next_id client_id server_id

-- whose packet is next: at this place of the session, where this id follows the last packet, and
-- each side's next packet bears these ids, where it has one
abbrev pub next_sender : Phase → ℕ → Option ℕ → Option ℕ → Option Side
next_sender at next_id None None = None
next_sender at next_id (Some client_id) None = Some Client
next_sender at next_id None (Some server_id) = Some Server
next_sender at next_id (Some client_id) (Some server_id) =
    Some (sender_of_both at next_id client_id server_id)
