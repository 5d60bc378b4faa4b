use Rattle.std.proofs.Common.{◌≡◌, ◌+◌, ◌-◌, ◌∙◌, ℕ, [], ap, arith, drop, inl, inr, length, length-take, sym, take}
use Rattle.std.proofs.lemmas.List.{length-replicate}
use Rattle.mysql_wire_dump_lines.proofs.RowEndLemmas.{stands_at_end}
use Rattle.mysql_wire_dump_lines.proofs.show.row_end.RowEnd.take.Goals as goal

pub returns-in-Some : goal.returns-in-Some
returns-in-Some c =
    let payload = c.args.payload.now in
    let last = c.in-Some.last.now in
    let chunk = c.in-Some.ensures.cases.1 in
    let long = ap length chunk.same ∙ chunk.long in
    stands_at_end payload [] last (drop (0 + length last) c.args.self.now.bytes) c.put_at.new.bytes c.put_at.ensures (omega (arith, long))
    (chunk.same ∙ ap (λ (k : ℕ). drop (length payload - k) payload) (sym long)) (inl long)

pub returns-in-None : goal.returns-in-None
returns-in-None c =
    let payload = c.args.payload.now in
    let zeros = c.args.self.now.bytes in
    let long = ap length c.requires ∙ length-replicate {A = ℕ} 64 0 in
    let none : length payload - length payload ≡ 0 = omega arith in
    stands_at_end payload (take (32 - length payload) zeros) payload (drop (32 - length payload + length payload) zeros)
    c.put_at-in-None.new.bytes c.put_at-in-None.ensures (omega (arith, c.in-None.ensures.cases, length-take (32 - length payload) zeros, long))
    (sym (ap (λ (k : ℕ). drop k payload) none)) (inr (omega arith))
