use Rattle.std.proofs.Common.{List, ℕ, string_bytes, subst, sym}
use Rattle.std.proofs.lemmas.Str.{IsCharBoundary-from_take, IsUtf8-string_bytes}
use Rattle.std.specs.Str.{IsCharBoundary}
use Rattle.wire_text.proofs.fields.Fields.text.Goals as goal

pub range_from-requires : goal.range_from-requires
range_from-requires g c some =
    let fields = c.self.inside in
    subst (λ (bytes : List ℕ). IsCharBoundary bytes fields.begin) (sym c.as_str.ensures.value)
    (IsCharBoundary-from_take (string_bytes fields.text) fields.begin (IsUtf8-string_bytes fields.text) c.self.invariant.0 c.self.invariant.1)
