use Rattle.std.proofs.Common.{◌≡◌, ◌<◌, ◌⊎◌, ◌∷◌, Some, inl, inr, refl, arith}
use Rattle.wire_buf.specs.LenencLemmas.{first_byte, reads_behind, reads_byte, reads_mark}
use Rattle.wire_buf.proofs.io.ParseBuf.checked_eat_lenenc_int.Goals as goal

pub returns-in_ok-checked_eat_u16_le-in-252 : goal.returns-in_ok-checked_eat_u16_le-in-252
returns-in_ok-checked_eat_u16_le-in-252 c =
    let old = c.args.self.now.0.now in
    let mid = c.checked_eat_u8.new.self.0.now in
    let whole = first_byte old c.in_ok-byte.byte mid c.in_ok-byte.ensures in
    let is : old ≡ 252 ∷ mid = (cc) in
    reads_behind 252 2 old mid (Some _) _ is refl (λ n bytes form. inr (inl form))
    c.in_ok-checked_eat_u16_le-in-252.ensures

pub returns-in_ok-checked_eat_u24_le-in-253 : goal.returns-in_ok-checked_eat_u24_le-in-253
returns-in_ok-checked_eat_u24_le-in-253 c =
    let old = c.args.self.now.0.now in
    let mid = c.checked_eat_u8.new.self.0.now in
    let whole = first_byte old c.in_ok-byte.byte mid c.in_ok-byte.ensures in
    let is : old ≡ 253 ∷ mid = (cc) in
    reads_behind 253 3 old mid (Some _) _ is refl (λ n bytes form. inr (inr (inl form)))
    c.in_ok-checked_eat_u24_le-in-253.ensures

pub returns-in-254 : goal.returns-in-254
returns-in-254 c =
    let old = c.args.self.now.0.now in
    let mid = c.checked_eat_u8.new.self.0.now in
    let whole = first_byte old c.in_ok-byte.byte mid c.in_ok-byte.ensures in
    let is : old ≡ 254 ∷ mid = (cc) in
    reads_behind 254 8 old mid _ _ is refl (λ n bytes form. inr (inr (inr form)))
    c.checked_eat_u64_le.ensures

pub returns-in_default : goal.returns-in_default
returns-in_default c =
    let old = c.args.self.now.0.now in
    let mid = c.checked_eat_u8.new.self.0.now in
    let mark : (c.in_ok-byte.byte ≡ 0xfb) ⊎ (c.in_ok-byte.byte ≡ 0xff) = grind arith in
    reads_mark old c.in_ok-byte.byte mid (first_byte old c.in_ok-byte.byte mid c.in_ok-byte.ensures)
    mark

pub returns-then-byte-lt251 : goal.returns-then-byte-lt251
returns-then-byte-lt251 c =
    let old = c.args.self.now.0.now in
    let mid = c.checked_eat_u8.new.self.0.now in
    let low : c.in_ok-byte.byte < 251 = grind arith in
    reads_byte old c.in_ok-byte.byte mid (first_byte old c.in_ok-byte.byte mid c.in_ok-byte.ensures)
    low
