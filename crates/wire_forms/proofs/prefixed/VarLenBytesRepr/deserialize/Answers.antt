use Rattle.std.proofs.Common.{refl}
use Rattle.wire_buf.specs.declared.error.WireError.TheVariants.{UnexpectedEof}
use Rattle.wire_forms.specs.Groups.{ReadsGroups}
use Rattle.wire_forms.specs.PrefixedTexts.{read_text, short_text}
use Rattle.wire_forms.proofs.prefixed.VarLenBytesRepr.deserialize.Goals as goal

pub returns-in-Some : goal.returns-in-Some
returns-in-Some g c =
    let (enough, is, rest) = c.in-Some.ensures in
    read_text ReadsGroups c.args.buf.now.0.now c.deserialize.new.buf.0.now c.checked_eat.new.self.0.now
    c.in-Some.text.now c.in_ok-len.len c.in_ok-len.ensures enough is rest

pub returns-in-None : goal.returns-in-None
returns-in-None g c =
    let (short, same) = c.in-None.ensures in
    short_text ReadsGroups c.args.buf.now.0.now c.deserialize.new.buf.0.now c.checked_eat.new.self.0.now
    c.in_ok-len.len UnexpectedEof c.in_ok-len.ensures refl short same
