use Rattle.std.proofs.Common.{◌∷◌, ◌++◌, [], Ok, sym, ◌∙◌}
use Rattle.std.proofs.lemmas.List.{append_assoc}
use Rattle.wire_forms.specs.NullTexts.{ReadsNull}
use Rattle.wire_forms.specs.Spelled.{Reads-left}
use Rattle.wire_forms.proofs.null.NullBytesBytesRepr.deserialize.Goals as goal

pub returns-in-Some : goal.returns-in-Some
returns-in-Some g c =
    let text = c.in-Some.text.now in
    let new = c.eat_null.new.buf.0.now in
    let parts = c.in-Some.ensures.0 in
    Reads-left ReadsNull c.args.buf.now.0.now (Ok text) new (text ++ 0 ∷ [])
    (parts ∙ sym (append_assoc text (0 ∷ []) new)) c.in-Some.ensures
