-- Why a payload is no packet of its phase.
use Rattle.std.specs.Prelude.{Result, Ok, Err}
use Rattle.wire_buf.specs.declared.error.InvalidReason.{InvalidReason}
use Rattle.wire_buf.specs.declared.error.InvalidReason.TheVariants as reason
use Rattle.wire_buf.specs.declared.error.WireError.{WireError}
use Rattle.wire_buf.specs.declared.error.WireError.TheVariants as error
use Rattle.mysql_wire_parts.specs.declared.places.PayloadError.{PayloadError}
use Rattle.mysql_wire_parts.specs.declared.places.PayloadError.TheVariants as payload
use Rattle.mysql_wire_session.specs.declared.refusal.Refusal.{Refusal}
use Rattle.mysql_wire_session.specs.declared.refusal.Refusal.TheVariants as refusal
use Rattle.mysql_wire_session.specs.declared.refusal.SessionError.{SessionError}
use Rattle.mysql_wire_session.specs.declared.refusal.SessionError.TheVariants as session

-- bytes that are there, and say what they must not
abbrev pub refusal_of_reason : InvalidReason → Refusal
refusal_of_reason reason.UnknownValue = refusal.UnknownValue
refusal_of_reason reason.ConstMismatch = refusal.ConstantMismatch
refusal_of_reason reason.NoNullTerminator = refusal.NoNullTerminator
refusal_of_reason reason.VarLenTooLarge = refusal.InvalidNumber
refusal_of_reason reason.VarLenTooLong = refusal.InvalidNumber

-- a value that was not read; or memory was refused, or a reader failed
abbrev pub refusal_of_wire : WireError → Result Refusal SessionError
refusal_of_wire error.UnexpectedEof = Ok refusal.UnexpectedEnd
refusal_of_wire (error.InvalidData because) = Ok (refusal_of_reason because)
refusal_of_wire (error.Other byte) = Ok refusal.InvalidNumber
refusal_of_wire (error.Io fault) = Err session.Io
refusal_of_wire error.OutOfMemory = Err session.OutOfMemory

-- a payload that is no packet
abbrev pub refusal_of : PayloadError → Result Refusal SessionError
refusal_of (payload.Refused error) = refusal_of_wire error
refusal_of (payload.Trailing count) = Ok refusal.TrailingBytes
refusal_of (payload.OtherHeader byte) = Ok refusal.OtherHeader
refusal_of payload.OtherSpelling = Ok refusal.OtherHeader
