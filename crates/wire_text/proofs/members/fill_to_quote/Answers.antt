use Rattle.std.proofs.Common.{◌∙◌, ap, arith, sym, ℕ}
use lib.Lanes.{put_chunk}
use lib.ListN.{set}
use Rattle.wire_text.proofs.FillLemmas.{put_before}
use Rattle.wire_text.proofs.members.fill_to_quote.Goals as goal

pub returns : goal.returns
returns c =
    ap (λ (n : ℕ). set (put_chunk 0 c.args.place.now c.args.bytes) n 34) (sym c.fits-bytes.0)
    ∙ put_before c.args.place.now c.args.bytes 34 (omega (arith, c.requires, c.fits-bytes.0))
