use Rattle.std.proofs.Common.{arith, take, ℕ, ◌%◌, ◌+◌, ◌*◌, ◌≡◌, ◌≤◌, ◌++◌, subst, sym}
use Rattle.std.specs.Int.RustNames.{count_ones}
use Rattle.wire_text.specs.Backslashes.{backslashed}
use Rattle.wire_text.proofs.BackslashLemmas.{low_bits, sixteen_put}
use Rattle.wire_text.proofs.quoted.put_sixteen.Goals as goal

pub returns-clause-put : goal.returns-clause-put
returns-clause-put c = λ set many is.
    subst (λ (n : ℕ). (c.args.begin + (c.args.len + count_ones (c.args.escapes % n)) ≤ c.args.begin + 2 * c.args.len)
    × (take (c.args.begin + (c.args.len + count_ones (c.args.escapes % n))) c.put_eight.new.room
    ≡ take c.args.begin c.args.room.now ++ backslashed (take c.args.len set) (take c.args.len c.args.letters)))
    (sym (low_bits c.args.len c.requires.within))
    (sixteen_put c.args.len c.args.begin c.args.escapes set c.args.letters c.last_eight.result c.args.room.now c.put_eight-at.new.room c.put_eight.new.room
    c.put_eight-at.result c.put_eight.result c.fits-letters.0 many is c.requires.within (omega (arith, c.requires.room)) c.put_eight-at.ensures.place c.put_eight-at.ensures.put
    c.put_eight.ensures.place c.put_eight.ensures.put c.last_eight.ensures)
