use Rattle.std.proofs.Common.{◌∙◌, ℕ, List, sym, ap, subst, IsNone}
use Rattle.wire_codec.specs.Codec.{CodecState}
use Rattle.wire_codec.specs.Skipping.{WouldStand}
use Rattle.wire_packet_io.proofs.SkipLemmas.{Skips, unlent}
use Rattle.wire_packet_io.proofs.reader.PacketReader.go_on_skipping.Goals as goal

pub returns-clause-skips : goal.returns-clause-skips
returns-clause-skips g c =
    let none = subst (λ z. IsNone z.lent) (sym c.self.view_is) c.requires.none in
    let src = ap (λ z. z.src.items) c.begin_skip.ensures.rest in
    let same = unlent c.self.inside.lent c.self.inside.input.src.items none in
    subst (λ z. (full : CodecState) → WouldStand c.args.skipped.now c.args.codec.now z.unread full
    → Skips full (g.R.Read.remaining z.reader) (g.R.Read.remaining c.skip.new.self.reader) z.reads c.skip.new.self.reads c.skip.result c.skip.new.skipped c.skip.new.codec c.skip.new.self.src.items)
    c.self.view_is (λ full w.
    subst (λ z. Skips full (g.R.Read.remaining z.reader) (g.R.Read.remaining c.skip.new.self.reader) z.reads c.skip.new.self.reads c.skip.result c.skip.new.skipped c.skip.new.codec c.skip.new.self.src.items)
    c.begin_skip.ensures.rest
    (c.skip.ensures.skips full (subst (λ (z : List ℕ). WouldStand c.args.skipped.now c.args.codec.now z full) (same ∙ sym src) w)))
