use Rattle.std.proofs.Common.{ℕ, ◌≡◌, ◌≤◌, List, length, take, ap, ◌∙◌, arith}
use Rattle.std.proofs.lemmas.List.{length-take-le, take_all}
use Rattle.byteorder.specs.Endian.{little_from}
use Rattle.wire_buf.specs.Numbers.{le_number}
use Rattle.wire_buf.specs.NumberLemmas.{little_from-is}
use Rattle.wire_buf.proofs.io.ParseBuf.eat_u128_le.Goals as goal

-- what `byteorder` reads of the eaten bytes is their number
read-is : (count : ℕ) (old front : List ℕ) (n : ℕ) → count ≤ length old → front ≡ take count old
    → n ≡ little_from 0 count front → n ≡ le_number (take count old)
read-is count old front n there eaten read =
    let len : length (take count old) ≡ count = length-take-le count old there in
    read ∙ ap (little_from 0 count) eaten
    ∙ little_from-is count (take count old) (omega (arith, len))
    ∙ ap le_number (take_all count (take count old) (omega (arith, len)))

pub returns : goal.returns
returns c = (
  read-is 16 c.args.self.now.0.now c.eat.result.now c.read_u128.result c.requires
      c.eat.ensures.eaten c.read_u128.ensures,
  c.eat.ensures.rest,
)
