use Rattle.std.proofs.Common.{rules, ◌<◌, inl, inr, arith}
use Rattle.byteorder.specs.Endian.{ReadsNumber, big_number, little_number}
use Rattle.wire_streams.proofs.StreamLemmas.{reads_byte, reads_behind}
use Rattle.wire_streams.proofs.io.read.ReadMysqlExt.read_lenenc_int.Goals as goal

pub returns-in_ok-n-in-252-clause-ok : goal.returns-in_ok-n-in-252-clause-ok
returns-in_ok-n-in-252-clause-ok g c =
    let remaining = g.Self.Read.remaining in
    let old = remaining c.args.self.now in
    let mid = remaining c.read_u8.new.self in
    let new = remaining c.read_u16.new.self in
    let first : ReadsNumber big_number 1 old mid c.in_ok-byte.byte = search rules in
    let more : ReadsNumber little_number 2 mid new c.in_ok-n-in-252.n = search rules in
    reads_behind 252 2 old mid new c.in_ok-byte.byte c.in_ok-n-in-252.n first (search rules)
    (λ n bytes form. inr (inl form)) more

pub returns-in_ok-n-in-253-clause-ok : goal.returns-in_ok-n-in-253-clause-ok
returns-in_ok-n-in-253-clause-ok g c =
    let remaining = g.Self.Read.remaining in
    let old = remaining c.args.self.now in
    let mid = remaining c.read_u8.new.self in
    let new = remaining c.read_u24.new.self in
    let first : ReadsNumber big_number 1 old mid c.in_ok-byte.byte = search rules in
    let more : ReadsNumber little_number 3 mid new c.in_ok-n-in-253.n = search rules in
    reads_behind 253 3 old mid new c.in_ok-byte.byte c.in_ok-n-in-253.n first (search rules)
    (λ n bytes form. inr (inr (inl form))) more

pub returns-in_ok-n-in-254-clause-ok : goal.returns-in_ok-n-in-254-clause-ok
returns-in_ok-n-in-254-clause-ok g c =
    let remaining = g.Self.Read.remaining in
    let old = remaining c.args.self.now in
    let mid = remaining c.read_u8.new.self in
    let new = remaining c.read_u64.new.self in
    let first : ReadsNumber big_number 1 old mid c.in_ok-byte.byte = search rules in
    let more : ReadsNumber little_number 8 mid new c.in_ok-n-in-254.n = search rules in
    reads_behind 254 8 old mid new c.in_ok-byte.byte c.in_ok-n-in-254.n first (search rules)
    (λ n bytes form. inr (inr (inr form))) more

pub returns-in-0-to-250-clause-ok : goal.returns-in-0-to-250-clause-ok
returns-in-0-to-250-clause-ok g c =
    let remaining = g.Self.Read.remaining in
    let old = remaining c.args.self.now in
    let new = remaining c.read_u8.new.self in
    let first : ReadsNumber big_number 1 old new c.in_ok-byte.byte = search rules in
    let low : c.in_ok-byte.byte < 251 = grind arith in
    reads_byte old new c.in_ok-byte.byte first low

pub returns-in-251-clause-ok : goal.returns-in-251-clause-ok
returns-in-251-clause-ok g c = search rules
