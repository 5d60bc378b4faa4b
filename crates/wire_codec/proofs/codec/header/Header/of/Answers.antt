use Rattle.std.proofs.Common.{rules, arith, ◌≡◌, ◌<◌, ◌/◌, ◌∙◌, ℕ, List, length, take, take_all, slice_index, bit_and, sym, ap, ap₂, w32}
use Rattle.std.specs.Int.{from_le_bytes}
use Rattle.wire_codec.specs.Delivery.{chunk_len}
use Rattle.wire_codec.specs.Framing.{header}
use Rattle.wire_codec.proofs.HeaderLemmas.{header_says, masked_small}
use Rattle.wire_codec.proofs.codec.header.Header.of.Goals as goal

pub returns : goal.returns
returns c =
    let bytes = c.args.bytes in
    let word = c.from_le_bytes-word.result in
    let long : length bytes ≡ 4 = search rules in
    let fit : (k : ℕ) → slice_index bytes k < 256 = search rules in
    let says = header_says bytes (omega arith) fit in
    let is : word ≡ from_le_bytes w32 (take 4 bytes) = c.from_le_bytes-word.ensures ∙ ap (λ (b : List ℕ). from_le_bytes w32 b) (sym (take_all 4 bytes (omega arith))) in
    let len : bit_and word 16777215 ≡ chunk_len bytes = ap (λ (n : ℕ). bit_and n 16777215) is ∙ says.0 in
    let id : word / 16777216 ≡ slice_index bytes 3 = ap (λ (n : ℕ). n / 16777216) is ∙ says.1 in
    record {
      len = len;
      id = id;
      small = masked_small word;
      spelled = sym (take_all 4 bytes (omega arith)) ∙ says.2 ∙ ap₂ (λ (n : ℕ) (i : ℕ). header n i) (sym len) (sym id);
    }
