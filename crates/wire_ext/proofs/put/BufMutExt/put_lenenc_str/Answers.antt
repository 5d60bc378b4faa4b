use Rattle.std.proofs.Common.{rules, ◌≡◌, Err, length}
use Rattle.wire_buf.specs.declared.error.WireError.TheVariants.{OutOfMemory}
use Rattle.wire_buf.specs.Lenenc.{lenenc_bytes}
use Rattle.wire_ext.proofs.TextLemmas.{length_refused, text_refused, text_put, spare_put}
use Rattle.wire_ext.proofs.put.BufMutExt.put_lenenc_str.Goals as goal

pub returns-in_err-put_spelling-clause-text : goal.returns-in_err-put_spelling-clause-text
returns-in_err-put_spelling-clause-text g c =
    let buf = g.Self.BufMut in
    let is : c.from_residual.result ≡ Err OutOfMemory = search rules in
    length_refused c.from_residual.result (buf.written c.args.self.now) (buf.written c.put_spelling.new.buf) (buf.spare c.args.self.now)
    (lenenc_bytes (length c.args.text.now)) c.args.text.now is c.in_err-put_spelling.ensures.spare.0 c.in_err-put_spelling.ensures.err

pub returns-in_err-put_slice-clause-text : goal.returns-in_err-put_slice-clause-text
returns-in_err-put_slice-clause-text g c =
    let buf = g.Self.BufMut in
    let is : c.from_residual-in_err-put_slice.result ≡ Err OutOfMemory = search rules in
    text_refused c.from_residual-in_err-put_slice.result (buf.written c.args.self.now) (buf.written c.put_spelling.new.buf) (buf.written c.put_slice.new.self)
    (buf.spare c.args.self.now) (buf.spare c.put_spelling.new.buf) (lenenc_bytes (length c.args.text.now)) c.args.text.now is
    c.in_ok-put_spelling.ensures.ok c.in_ok-put_spelling.ensures.spare c.in_err-put_slice.ensures.spare.0 c.in_err-put_slice.ensures.err

pub returns-clause-text : goal.returns-clause-text
returns-clause-text g c =
    let buf = g.Self.BufMut in
    text_put (buf.written c.args.self.now) (buf.written c.put_spelling.new.buf) (buf.written c.put_slice.new.self)
    (lenenc_bytes (length c.args.text.now)) c.args.text.now c.in_ok-put_spelling.ensures.ok c.in_ok-put_slice.ensures.ok

pub returns-clause-spare : goal.returns-clause-spare
returns-clause-spare g c =
    let buf = g.Self.BufMut in
    spare_put (buf.spare c.args.self.now) (buf.spare c.put_spelling.new.buf) (buf.spare c.put_slice.new.self) (lenenc_bytes (length c.args.text.now)) c.args.text.now
    c.in_ok-put_spelling.ensures.spare c.in_ok-put_slice.ensures.spare
