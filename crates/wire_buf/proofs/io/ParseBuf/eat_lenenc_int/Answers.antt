use Rattle.std.proofs.Common.{◌≡◌, ◌∷◌, inl, inr, refl}
use Rattle.wire_buf.specs.LenencLemmas.{eaten_byte, eats_behind}
use Rattle.wire_buf.proofs.io.ParseBuf.eat_lenenc_int.Goals as goal

pub returns-in-252 : goal.returns-in-252
returns-in-252 c =
    let old = c.args.self.now.0.now in
    let mid = c.eat_u8.new.self.0.now in
    let whole = eaten_byte old c.eat_u8.result mid c.requires c.eat_u8.ensures in
    let is : old ≡ 252 ∷ mid = (cc) in
    eats_behind 252 2 old mid _ _ c.requires is refl (λ n bytes form. inr (inl form))
    c.eat_u16_le.ensures

pub returns-in-253 : goal.returns-in-253
returns-in-253 c =
    let old = c.args.self.now.0.now in
    let mid = c.eat_u8.new.self.0.now in
    let whole = eaten_byte old c.eat_u8.result mid c.requires c.eat_u8.ensures in
    let is : old ≡ 253 ∷ mid = (cc) in
    eats_behind 253 3 old mid _ _ c.requires is refl (λ n bytes form. inr (inr (inl form)))
    c.eat_u24_le.ensures

pub returns-in-254 : goal.returns-in-254
returns-in-254 c =
    let old = c.args.self.now.0.now in
    let mid = c.eat_u8.new.self.0.now in
    let whole = eaten_byte old c.eat_u8.result mid c.requires c.eat_u8.ensures in
    let is : old ≡ 254 ∷ mid = (cc) in
    eats_behind 254 8 old mid _ _ c.requires is refl (λ n bytes form. inr (inr (inr form)))
    c.eat_u64_le.ensures
