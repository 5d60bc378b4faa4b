-- What a look for a packet that stands whole finds, by its answer.
use Rattle.std.specs.Prelude.{◌≡◌, ℤ, ◌⊎◌, Ok, Err, IsSome, IfSome, true, false}
use Rattle.wire_codec.specs.declared.codec.error.PacketCodecError.TheVariants.{OutOfMemory, PacketTooLarge, PacketsOutOfSync}
use Rattle.wire_codec.specs.Codec.{CodecState}
use Rattle.wire_codec.specs.LimitedRuns.{DecodesAligned}
use Rattle.mysql_wire_c_calls.specs.declared.codes.TheConstants.{WAITS, PACKET, TOO_LARGE, OUT_OF_SYNC, NO_MEMORY}
use Rattle.mysql_wire_c_calls.specs.declared.side.Front.{Front}
use Rattle.mysql_wire_c_calls.specs.declared.side.Front.TheVariants.{Unfinished, Lost}
use Rattle.mysql_wire_c_calls.specs.Side.{lent_at, behind_lent}
use Rattle.mysql_wire_c_calls.specs.Answers.{holding}

-- the packet that is lent, and what stands after it, are those of one call of `decode`; or that call
-- says why there is none
pub record Finds (answer : ℤ) (before : CodecState) (front : Front) (after : CodecState) : Type 0
  where
    pub packet : answer ≡ PACKET → IfSome (lent_at front after)
        (λ packet. DecodesAligned before (Ok true) (holding packet (behind_lent front after)))
    pub lent : answer ≡ PACKET → IsSome (lent_at front after)
    pub waits : answer ≡ WAITS → (front ≡ Unfinished) × DecodesAligned before (Ok false) after
    pub too_large : answer ≡ TOO_LARGE
        → (front ≡ Unfinished) × DecodesAligned before (Err PacketTooLarge) after
    pub memory : answer ≡ NO_MEMORY
        → (front ≡ Unfinished) × DecodesAligned before (Err OutOfMemory) after
    pub lost : answer ≡ OUT_OF_SYNC
        → (front ≡ Lost) × DecodesAligned before (Err PacketsOutOfSync) after
    pub answers : (answer ≡ PACKET) ⊎ (answer ≡ WAITS) ⊎ (answer ≡ TOO_LARGE)
        ⊎ (answer ≡ NO_MEMORY) ⊎ (answer ≡ OUT_OF_SYNC)
