use Rattle.wire_text.proofs.BackslashLemmas.{control_places, escapes_are, letters_are, places_are}
use Rattle.wire_text.proofs.backslashes.letters_of.Goals as goal

pub swizzle : goal.swizzle
swizzle c = control_places c.args.bytes c.fits-bytes

pub returns-clause-are : goal.returns-clause-are
returns-clause-are c = letters_are c.args.bytes _ c.fits-bytes (places_are c.args.bytes c.fits-bytes.0)

pub returns-clause-escapes : goal.returns-clause-escapes
returns-clause-escapes c =
    escapes_are c.args.bytes _ c.fits-bytes (letters_are c.args.bytes _ c.fits-bytes (places_are c.args.bytes c.fits-bytes.0))
