use Rattle.std.proofs.Common.{◌≡◌, ℕ, List, take, length, arith, ap, sym, ◌∙◌, ◌+◌, ◌≤◌, refl}
use Rattle.std.proofs.lemmas.List.{length-take-le}
use Rattle.wire_packet_io.proofs.PacketIoLemmas.{read_taken}
use Rattle.wire_packet_io.proofs.input.Input.read_behind.Goals as goal

pub returns-in-Ok-clause-ok : goal.returns-in-Ok-clause-ok
returns-in-Ok-clause-ok g c =
    let piece : List ℕ = take c.in-Ok.count c.read.new.buf in
    let n : ℕ = c.len-len.result in
    let len : n ≡ length c.args.self.now.src.items = c.len-len.ensures.value in
    let front = rw (sym c.len-len.ensures.value) at c.advance_mut.ensures.front in
    let now : take n c.as_mut_slice.result.now ≡ c.args.self.now.src.items = ap (λ (z : List ℕ). take n z) c.as_mut_slice.ensures.value ∙ front in
    let fits : c.in-Ok.count ≤ length c.read.new.buf = c.in-Ok.ensures.bound.0 in
    let whole : c.as_mut_slice.result.now ≡ c.advance_mut.new.self.items = c.as_mut_slice.ensures.value in
    let room : n + c.in-Ok.count ≤ length c.advance_mut.new.self.items = omega (arith, ap (λ (z : List ℕ). length z) whole) in
    (piece, length-take-le c.in-Ok.count c.read.new.buf fits, read_taken n c.in-Ok.count _ _ _ _ c.read.new.buf _ _ len now fits room c.truncate.ensures.items, c.in-Ok.ensures.bytes.0)

pub returns-in-Ok-clause-err : goal.returns-in-Ok-clause-err
returns-in-Ok-clause-err g c = tt

pub returns-in-Ok-clause-kept : goal.returns-in-Ok-clause-kept
returns-in-Ok-clause-kept g c = tt

pub returns-in-Ok-clause-failed : goal.returns-in-Ok-clause-failed
returns-in-Ok-clause-failed g c = tt

pub returns-in-Err-clause-ok : goal.returns-in-Err-clause-ok
returns-in-Err-clause-ok g c = tt

pub returns-in-Err-clause-small : goal.returns-in-Err-clause-small
returns-in-Err-clause-small g c = tt

pub returns-in-Err-clause-end : goal.returns-in-Err-clause-end
returns-in-Err-clause-end g c = tt

pub returns-in-Err-clause-read : goal.returns-in-Err-clause-read
returns-in-Err-clause-read g c = tt

pub returns-in-Ok-clause-dst : goal.returns-in-Ok-clause-dst
returns-in-Ok-clause-dst g c = refl

pub returns-in-Ok-clause-lost : goal.returns-in-Ok-clause-lost
returns-in-Ok-clause-lost g c = refl

pub returns-in-Err-clause-dst : goal.returns-in-Err-clause-dst
returns-in-Err-clause-dst g c = refl

pub returns-in-Err-clause-lost : goal.returns-in-Err-clause-lost
returns-in-Err-clause-lost g c = refl
