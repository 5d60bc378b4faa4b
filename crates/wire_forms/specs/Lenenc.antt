-- Length-encoded integers are read back.
use Rattle.std.proofs.Common.{ℕ, ◌<◌, ◌^◌, List, ◌++◌, length, Result, Ok, inl}
use Rattle.wire_buf.specs.declared.error.WireError.{WireError}
use Rattle.wire_buf.specs.Reading.{Answers}
use Rattle.wire_buf.specs.Lenenc.{IsLenencOrMark, lenenc_bytes}
use Rattle.wire_buf.specs.LenencLemmas.{IsLenencOrMark-free}
use Rattle.wire_buf.specs.LenencWritten.{lenenc_bytes-is}
use Rattle.wire_forms.specs.Spelled.{Leaves, NumberOrEof, Leaves-back, NumberOrEof-back, TellsBack}

pub lenenc_bytes-told : (val : ℕ) → val < 2 ^ 64
    → TellsBack (NumberOrEof IsLenencOrMark 1) (lenenc_bytes val) val
lenenc_bytes-told val value = NumberOrEof-back IsLenencOrMark IsLenencOrMark-free 1 val
    (lenenc_bytes val) (inl (lenenc_bytes-is val value))

pub lenenc_bytes-back : (val : ℕ) (rest : List ℕ) → val < 2 ^ 64
    → (answer : Result ℕ WireError) (eaten : ℕ)
    → Leaves (NumberOrEof IsLenencOrMark 1) (lenenc_bytes val ++ rest) answer eaten
    → Answers (Ok val, length (lenenc_bytes val)) answer eaten
lenenc_bytes-back val rest value =
    Leaves-back (NumberOrEof IsLenencOrMark 1) (lenenc_bytes val) val (lenenc_bytes-told val value)
    rest
