use Rattle.wire_text.proofs.BackslashLemmas.{eight_put, row_places}
use Rattle.wire_text.proofs.backslashes.with_backslashes.Goals as goal

pub swizzle : goal.swizzle
swizzle c = row_places c.args.escapes c.places_of.result c.places_of.ensures c.requires

pub returns : goal.returns
returns c = λ set eight is.
    eight_put c.args.letters c.places_of.result c.args.escapes set c.fits-letters.0 c.places_of.ensures c.requires eight is
