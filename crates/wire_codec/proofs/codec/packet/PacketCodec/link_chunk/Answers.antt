use Rattle.std.proofs.Common.{◌+◌, ◌%◌, length, sym, inl, inr, ◌∙◌, refl, arith, Some, None, Ok, Err, eqb-true, ℕ, ap, subst}
use Rattle.std.proofs.lemmas.Bool.{eqb-false}
use Rattle.wire_codec.specs.declared.codec.chunk.ChunkInfo.TheVariants.{Middle, Last}
use Rattle.wire_codec.specs.Codec.{header_of}
use Rattle.wire_codec.specs.OneChunk.{remembered, DecodesChunk}
use Rattle.wire_codec.specs.Refusals.{error_of}
use Rattle.wire_codec.proofs.codec.packet.PacketCodec.link_chunk.Goals as goal

pub returns-then-id-expected-clause-links : goal.returns-then-id-expected-clause-links
returns-then-id-expected-clause-links g c =
    let known = rw (c.in-Ok-Some-Last.field-0-is, c.in-Ok-Some-Last.field-0-0-is) at c.in-Ok-Some-Last.ensures.chunk in
    record { said = Ok (Some (Last c.in-Ok-Some-Last.id)); chunk = known; stops = (c.if-id-expected.true, refl); id_stays = refl }

pub returns-then-id-expected-2-clause-links : goal.returns-then-id-expected-2-clause-links
returns-then-id-expected-2-clause-links g c =
    let known = rw (c.in-Ok-Some-Middle.field-0-is, c.in-Ok-Some-Middle.field-0-0-is) at c.in-Ok-Some-Middle.ensures.chunk in
    record { said = Ok (Some (Middle c.in-Ok-Some-Middle.id)); chunk = known; stops = (c.if-id-expected-2.true, refl); id_stays = refl }

pub returns-in-Err-clause-links : goal.returns-in-Err-clause-links
returns-in-Err-clause-links g c =
    record { said = Err (error_of c.in-Err.refusal); chunk = c.in-Err.ensures.chunk; stops = refl; id_stays = refl }

pub returns-in-Ok-None-clause-links : goal.returns-in-Ok-None-clause-links
returns-in-Ok-None-clause-links g c =
    let known = rw c.in-Ok-None.field-0-is at c.in-Ok-None.ensures.chunk in
    inr record { said = Ok None; chunk = known; stops = refl; id_stays = refl }

pub returns-else-id-expected-clause-links : goal.returns-else-id-expected-clause-links
returns-else-id-expected-clause-links g c =
    let known = rw (c.in-Ok-Some-Last.field-0-is, c.in-Ok-Some-Last.field-0-0-is) at c.in-Ok-Some-Last.ensures.chunk in
    let rises = ap (λ (n : ℕ). (n + 1) % 256) c.if-id-expected.false in
    record { info = Last c.in-Ok-Some-Last.id; chunk = known; expected = c.if-id-expected.false; ends = refl; id_rises = rises }

pub returns-then-is_empty-clause-links : goal.returns-then-is_empty-clause-links
returns-then-is_empty-clause-links g c =
    let known = rw (c.in-Ok-Some-Middle.field-0-is, c.in-Ok-Some-Middle.field-0-0-is) at c.in-Ok-Some-Middle.ensures.chunk in
    let rises = ap (λ (n : ℕ). (n + 1) % 256) c.if-id-expected-2.false in
    let none = eqb-true (length c.take.new.src.items) 0 (sym c.is_empty.ensures ∙ c.if-is_empty.true) in
    inl record { info = Middle c.in-Ok-Some-Middle.id; chunk = known; expected = c.if-id-expected-2.false; ends = (none, refl); id_rises = rises }

pub returns-else-is_empty-clause-links : goal.returns-else-is_empty-clause-links
returns-else-is_empty-clause-links g c =
    let known = rw (c.in-Ok-Some-Middle.field-0-is, c.in-Ok-Some-Middle.field-0-0-is) at c.in-Ok-Some-Middle.ensures.chunk in
    let rises = ap (λ (n : ℕ). (n + 1) % 256) c.if-id-expected-2.false in
    let some = eqb-false (length c.take.new.src.items) 0 (sym c.is_empty.ensures ∙ c.if-is_empty.false) in
    let known' = subst (λ (n : ℕ). DecodesChunk (header_of c.args.self.now) c.args.src.now.items (g.T.PacketDst.held c.args.dst.now) c.args.self.now.max_allowed_packet (Ok (Some (Middle n))) (remembered c.take.new.self) c.take.new.src.items (g.T.PacketDst.held c.take.new.dst)) c.if-id-expected-2.false known in
    (known', omega (arith, some), rises)

pub returns-in-Err-clause-spelled : goal.returns-in-Err-clause-spelled
returns-in-Err-clause-spelled g c = c.take.ensures.spelled

pub returns-in-Err-clause-limit : goal.returns-in-Err-clause-limit
returns-in-Err-clause-limit g c = refl

pub returns-in-Ok-None-clause-spelled : goal.returns-in-Ok-None-clause-spelled
returns-in-Ok-None-clause-spelled g c = c.take.ensures.spelled

pub returns-in-Ok-None-clause-limit : goal.returns-in-Ok-None-clause-limit
returns-in-Ok-None-clause-limit g c = refl

pub returns-then-is_empty-clause-spelled : goal.returns-then-is_empty-clause-spelled
returns-then-is_empty-clause-spelled g c = c.take.ensures.spelled

pub returns-then-is_empty-clause-limit : goal.returns-then-is_empty-clause-limit
returns-then-is_empty-clause-limit g c = refl

pub returns-else-is_empty-clause-spelled : goal.returns-else-is_empty-clause-spelled
returns-else-is_empty-clause-spelled g c = c.take.ensures.spelled

pub returns-else-is_empty-clause-limit : goal.returns-else-is_empty-clause-limit
returns-else-is_empty-clause-limit g c = refl

pub returns-then-id-expected-clause-spelled : goal.returns-then-id-expected-clause-spelled
returns-then-id-expected-clause-spelled g c = c.take.ensures.spelled

pub returns-then-id-expected-clause-limit : goal.returns-then-id-expected-clause-limit
returns-then-id-expected-clause-limit g c = refl

pub returns-else-id-expected-clause-spelled : goal.returns-else-id-expected-clause-spelled
returns-else-id-expected-clause-spelled g c = c.take.ensures.spelled

pub returns-else-id-expected-clause-limit : goal.returns-else-id-expected-clause-limit
returns-else-id-expected-clause-limit g c = refl

pub returns-then-id-expected-2-clause-spelled : goal.returns-then-id-expected-2-clause-spelled
returns-then-id-expected-2-clause-spelled g c = c.take.ensures.spelled

pub returns-then-id-expected-2-clause-limit : goal.returns-then-id-expected-2-clause-limit
returns-then-id-expected-2-clause-limit g c = refl
