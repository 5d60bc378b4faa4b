-- The small reason of a private function, and the error that the public call makes of it.
use Rattle.std.specs.Prelude.{Result, Ok, Err, Bool, true, false}
use Rattle.wire_codec.specs.declared.codec.error.PacketCodecError.{PacketCodecError}
use Rattle.wire_codec.specs.declared.codec.error.PacketCodecError.TheVariants as error
use Rattle.wire_codec.specs.declared.codec.error.Refusal.{Refusal}
use Rattle.wire_codec.specs.declared.codec.error.Refusal.TheVariants.{PacketTooLarge, PacketsOutOfSync, OutOfMemory}
use Rattle.wire_codec.specs.declared.codec.packet.Outcome.{Outcome}
use Rattle.wire_codec.specs.declared.codec.packet.Outcome.TheVariants as outcome

abbrev pub error_of : Refusal → PacketCodecError
error_of PacketTooLarge = error.PacketTooLarge
error_of PacketsOutOfSync = error.PacketsOutOfSync
error_of OutOfMemory = error.OutOfMemory

-- an answer with the public error
abbrev pub answer_of : {A : Type 0} → Result A Refusal → Result A PacketCodecError
answer_of (Ok value) = Ok value
answer_of (Err refusal) = Err (error_of refusal)

-- what it is that a call comes to
abbrev pub told : Outcome → Result Bool PacketCodecError
told outcome.Whole = Ok true
told outcome.Waits = Ok false
told outcome.PacketTooLarge = Err error.PacketTooLarge
told outcome.PacketsOutOfSync = Err error.PacketsOutOfSync
told outcome.OutOfMemory = Err error.OutOfMemory
