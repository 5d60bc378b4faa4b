use Rattle.std.proofs.Common.{refl, sym, ◌∙◌, subst, Ok, Err, Result, Bool, true, false}
use Rattle.wire_codec.specs.declared.codec.error.PacketCodecError.{PacketCodecError}
use Rattle.wire_codec.specs.declared.codec.error.PacketCodecError.TheVariants.{OutOfMemory}
use Rattle.wire_codec.specs.Codec.{codec_state, DecodesStanding, IsChain}
use Rattle.wire_codec.specs.GoingOn.{Decodes}
use Rattle.wire_codec.proofs.AnswerLemmas.{no_ok, no_true, is_ok}
use Rattle.wire_codec.proofs.codec.packet.PacketCodec.go_on.Goals as goal

-- bytes of the chunk in front are to come
pub returns-in-Some-clause-decodes : goal.returns-in-Some-clause-decodes
returns-in-Some-clause-decodes g c = c.begin_chunk.ensures.decodes

pub returns-in-Some-clause-on : goal.returns-in-Some-clause-on
returns-in-Some-clause-on g c = c.begin_chunk.ensures.on

pub returns-in-Some-clause-chain : goal.returns-in-Some-clause-chain
returns-in-Some-clause-chain g c = (0, c.begin_chunk.ensures.chain)

pub returns-in-Some-clause-memory : goal.returns-in-Some-clause-memory
returns-in-Some-clause-memory g c said = absurd (no_ok (Err OutOfMemory) OutOfMemory _ refl (sym said))

pub returns-in-Some-clause-shorter : goal.returns-in-Some-clause-shorter
returns-in-Some-clause-shorter g c said = absurd (no_true (Ok false) refl said)

pub returns-in-Some-clause-limit : goal.returns-in-Some-clause-limit
returns-in-Some-clause-limit g c = c.begin_chunk.ensures.limit

-- the chunks that are there
pub returns-in-None-clause-decodes : goal.returns-in-None-clause-decodes
returns-in-None-clause-decodes g c =
    let held = g.T.PacketDst.held in
    let before = codec_state c.args.self.now c.args.src.now.items (held c.args.dst.now) in
    let after = codec_state c.take_all.new.self c.take_all.new.src.items (held c.take_all.new.dst) in
    subst (λ (z : Result Bool PacketCodecError). DecodesStanding before z after) (sym c.of.ensures) c.take_all.ensures.decodes

pub returns-in-None-clause-on : goal.returns-in-None-clause-on
returns-in-None-clause-on g c =
    let held = g.T.PacketDst.held in
    let before = codec_state c.args.self.now c.args.src.now.items (held c.args.dst.now) in
    let after = codec_state c.take_all.new.self c.take_all.new.src.items (held c.take_all.new.dst) in
    subst (λ (z : Result Bool PacketCodecError). Decodes before z after) (sym c.of.ensures) c.take_all.ensures.on

pub returns-in-None-clause-chain : goal.returns-in-None-clause-chain
returns-in-None-clause-chain g c =
    let held = g.T.PacketDst.held in
    let before = codec_state c.args.self.now c.args.src.now.items (held c.args.dst.now) in
    let after = codec_state c.take_all.new.self c.take_all.new.src.items (held c.take_all.new.dst) in
    subst (λ (z : Result Bool PacketCodecError). IsChain before z after) (sym c.of.ensures) c.take_all.ensures.chain

pub returns-in-None-clause-memory : goal.returns-in-None-clause-memory
returns-in-None-clause-memory g c said = c.take_all.ensures.memory (sym c.of.ensures ∙ said)

pub returns-in-None-clause-shorter : goal.returns-in-None-clause-shorter
returns-in-None-clause-shorter g c said = c.take_all.ensures.shorter (is_ok c.take_all.result true (sym c.of.ensures ∙ said))

pub returns-in-None-clause-limit : goal.returns-in-None-clause-limit
returns-in-None-clause-limit g c = c.take_all.ensures.limit
