use Rattle.std.proofs.Common.{rules, ◌≡◌, Some, None, subst, sym}
use Rattle.wire_buf.specs.Reading.{Parses}
use Rattle.wire_values.specs.Elements.{ReadsAll, ReadsInto}
use Rattle.wire_values.proofs.ReadLemmas.{eats-none}
use Rattle.wire_values.proofs.read.read_all.Goals as goal

pub returns-in-None : goal.returns-in-None
returns-in-None g c =
    let R = Parses g.T.Size.ReadSize.SIZE (g.T.MyDeserialize.reads tt) in
    let none : g.T.Size.ReadSize.SIZE ≡ None = search rules in
    subst (λ size. ReadsInto (λ v. v.items) (ReadsAll size R c.args.count) c.args.buf.now.0.now
    c.read_some.result c.read_some.new.buf.0.now) (sym none) c.read_some.ensures

pub returns-in-Some-eq0 : goal.returns-in-Some-eq0
returns-in-Some-eq0 g c =
    let R = Parses g.T.Size.ReadSize.SIZE (g.T.MyDeserialize.reads tt) in
    let old = c.args.buf.now.0.now in
    let answer = c.read_some-in-Some-eq0.result in
    let new = c.read_some-in-Some-eq0.new.buf.0.now in
    let h = eats-none (λ v. v.items) R c.args.count old answer new
    c.read_some-in-Some-eq0.ensures in
    let zero : g.T.Size.ReadSize.SIZE ≡ Some 0 = search rules in
    subst (λ size. ReadsInto (λ v. v.items) (ReadsAll size R c.args.count) old answer new)
    (sym zero) h
