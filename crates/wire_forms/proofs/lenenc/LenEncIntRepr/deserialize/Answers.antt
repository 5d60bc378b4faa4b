use Rattle.std.proofs.Common.{Ok, Err, refl}
use Rattle.wire_buf.specs.declared.error.WireError.TheVariants.{UnexpectedEof}
use Rattle.wire_buf.specs.Lenenc.{IsLenencOrMark}
use Rattle.wire_forms.specs.Spelled.{NumberOrEof-left}
use Rattle.wire_forms.proofs.lenenc.LenEncIntRepr.deserialize.Goals as goal

pub returns-in-Some : goal.returns-in-Some
returns-in-Some c = NumberOrEof-left IsLenencOrMark 1 c.args.buf.now.0.now (Ok c.in-Some.number)
    c.checked_eat_lenenc_int.new.self.0.now c.in-Some.ensures

pub returns-in-None : goal.returns-in-None
returns-in-None c = NumberOrEof-left IsLenencOrMark 1 c.args.buf.now.0.now (Err UnexpectedEof)
    c.checked_eat_lenenc_int.new.self.0.now (refl, c.in-None.ensures)
