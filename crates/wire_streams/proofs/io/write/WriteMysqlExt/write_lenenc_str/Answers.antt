use Rattle.std.proofs.Common.{rules, ℕ, ◌+◌, min, ◌∙◌, sym, ap, length}
use Rattle.std.proofs.lemmas.List.{length-append}
use Rattle.std.proofs.KnownBytes.{Appends-trans}
use Rattle.std.specs.Io.KnownBytes.{Appends}
use Rattle.wire_buf.specs.Lenenc.{lenenc_bytes}
use Rattle.wire_streams.proofs.io.write.WriteMysqlExt.write_lenenc_str.Goals as goal

pub returns-clause-written : goal.returns-clause-written
returns-clause-written g c =
    let contents = g.Self.Write.contents in
    let text : Appends (contents c.write_lenenc_int.new.self) (contents c.write_all.new.self) c.args.text.now = search rules in
    Appends-trans (contents c.args.self.now) (contents c.write_lenenc_int.new.self) (contents c.write_all.new.self)
    (lenenc_bytes (length c.args.text.now)) c.args.text.now c.in_ok-count.ensures.written text

pub returns-clause-count : goal.returns-clause-count
returns-clause-count g c =
    let spelling = lenenc_bytes (length c.args.text.now) in
    c.saturating_add.ensures ∙ ap (λ (n : ℕ). min n 18446744073709551615)
    (ap (λ (n : ℕ). n + length c.args.text.now) c.in_ok-count.ensures.count ∙ sym (length-append spelling c.args.text.now))
