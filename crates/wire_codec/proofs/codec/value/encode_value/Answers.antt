use Rattle.std.proofs.Common.{◌≡◌, rules, refl, inr, Result, Err}
use Rattle.wire_codec.specs.declared.codec.error.PacketCodecError.{PacketCodecError}
use Rattle.wire_codec.specs.declared.codec.error.PacketCodecError.TheVariants.{OutOfMemory, PacketTooLarge}
use Rattle.wire_codec.proofs.codec.value.encode_value.Goals as goal

not_large : ◌≡◌ {A = Result (Unit {0}) PacketCodecError} (Err OutOfMemory) (Err PacketTooLarge) → ⊥
not_large is = cc

pub returns-clause-too_large : goal.returns-clause-too_large
returns-clause-too_large g c = search rules

pub returns-in_default-clause-appended : goal.returns-in_default-clause-appended
returns-in_default-clause-appended g c = tt

pub returns-in_default-clause-next : goal.returns-in_default-clause-next
returns-in_default-clause-next g c = tt

pub returns-in_default-clause-fits : goal.returns-in_default-clause-fits
returns-in_default-clause-fits g c = tt

pub returns-in_default-clause-too_large : goal.returns-in_default-clause-too_large
returns-in_default-clause-too_large g c said = absurd (not_large said)

pub returns-in_default-clause-errors : goal.returns-in_default-clause-errors
returns-in_default-clause-errors g c = inr refl

pub returns-in_default-clause-err : goal.returns-in_default-clause-err
returns-in_default-clause-err g c = (refl, refl)

pub returns-in_default-clause-header : goal.returns-in_default-clause-header
returns-in_default-clause-header g c = refl

pub returns-in_default-clause-limit : goal.returns-in_default-clause-limit
returns-in_default-clause-limit g c = refl

pub returns-then-is_err-clause-appended : goal.returns-then-is_err-clause-appended
returns-then-is_err-clause-appended g c = tt

pub returns-then-is_err-clause-next : goal.returns-then-is_err-clause-next
returns-then-is_err-clause-next g c = tt

pub returns-then-is_err-clause-fits : goal.returns-then-is_err-clause-fits
returns-then-is_err-clause-fits g c = tt

pub returns-then-is_err-clause-too_large : goal.returns-then-is_err-clause-too_large
returns-then-is_err-clause-too_large g c said = absurd (not_large said)

pub returns-then-is_err-clause-errors : goal.returns-then-is_err-clause-errors
returns-then-is_err-clause-errors g c = inr refl

pub returns-then-is_err-clause-err : goal.returns-then-is_err-clause-err
returns-then-is_err-clause-err g c = (refl, refl)

pub returns-then-is_err-clause-header : goal.returns-then-is_err-clause-header
returns-then-is_err-clause-header g c = refl

pub returns-then-is_err-clause-limit : goal.returns-then-is_err-clause-limit
returns-then-is_err-clause-limit g c = refl
