use Rattle.std.proofs.Common.{rules, Some, None}
use Rattle.wire_buf.proofs.NullTextLemmas.{parts-found}
use Rattle.wire_buf.proofs.io.ParseBuf.eat_null_str.Goals as goal

pub returns-in-Some : goal.returns-in-Some
returns-in-Some c =
    let parts = parts-found c.args.self.now.0.now (Some c.in-Some.end) c.in-Some.ensures in
    record { text = rw parts.0 (search rules); rest = rw parts.1 (search rules) }

pub returns-in-None : goal.returns-in-None
returns-in-None c =
    let parts = parts-found c.args.self.now.0.now None c.in-None.ensures in
    record { text = rw parts.0 (search rules); rest = rw parts.1 (search rules) }
