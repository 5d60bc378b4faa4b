use Rattle.std.proofs.Common.{◌++◌, ◌∙◌, List, ap, arith, drop, length, ℕ}
use Rattle.std.proofs.lemmas.List.{length-drop}
use lib.Lanes.{put_chunk}
use Rattle.wire_text.proofs.FillLemmas.{put_behind}
use Rattle.wire_text.proofs.members.fill_with.Goals as goal

pub returns : goal.returns
returns c =
    let letters = c.args.letters.now in
    let behind = drop (length letters) c.args.place.now in
    ap (λ (z : List ℕ). put_chunk (length letters) (z ++ behind) c.args.bytes) c.copy_from_slice.ensures.after
    ∙ put_behind letters behind c.args.bytes (omega (arith, c.requires, c.fits-bytes.0, length-drop (length letters) c.args.place.now))
