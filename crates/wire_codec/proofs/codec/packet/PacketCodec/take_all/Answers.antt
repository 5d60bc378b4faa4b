use Rattle.std.proofs.Common.{ℕ, List, sym, ap, ap₂, ◌∙◌, subst, Result, Bool, true}
use Rattle.wire_codec.specs.declared.codec.error.PacketCodecError.{PacketCodecError}
use Rattle.wire_codec.specs.declared.codec.error.PacketCodecError.TheVariants.{OutOfMemory}
use Rattle.wire_codec.specs.declared.codec.packet.PacketCodec.{PacketCodec}
use Rattle.wire_codec.specs.Codec.{CodecState, codec_state, DecodesStanding, HasChunk, IsChain}
use Rattle.wire_codec.specs.GoingOn.{Decodes}
use Rattle.wire_codec.specs.Refusals.{answer_of}
use Rattle.wire_codec.proofs.AnswerLemmas.{no_ok, lacked, lacks_chain}
use Rattle.wire_codec.proofs.codec.packet.PacketCodec.take_all.Goals as goal

-- where there is room, nothing was changed
pub returns-clause-decodes : goal.returns-clause-decodes
returns-clause-decodes g c =
    let held = g.T.PacketDst.held in
    let src = c.args.src.now.items in
    let same = ap₂ (λ (x : PacketCodec) (y : List ℕ). codec_state x src y) c.in_ok-make_room.ensures.ok c.make_room.ensures.held in
    let after = codec_state c.take_chunks.new.self c.take_chunks.new.src.items (held c.take_chunks.new.dst) in
    subst (λ (z : CodecState). DecodesStanding z (answer_of c.take_chunks.result) after) same c.take_chunks.ensures.decodes

pub returns-clause-on : goal.returns-clause-on
returns-clause-on g c =
    let held = g.T.PacketDst.held in
    let src = c.args.src.now.items in
    let same = ap₂ (λ (x : PacketCodec) (y : List ℕ). codec_state x src y) c.in_ok-make_room.ensures.ok c.make_room.ensures.held in
    let after = codec_state c.take_chunks.new.self c.take_chunks.new.src.items (held c.take_chunks.new.dst) in
    subst (λ (z : CodecState). Decodes z (answer_of c.take_chunks.result) after) same c.take_chunks.ensures.on

pub returns-clause-chain : goal.returns-clause-chain
returns-clause-chain g c =
    let held = g.T.PacketDst.held in
    let src = c.args.src.now.items in
    let same = ap₂ (λ (x : PacketCodec) (y : List ℕ). codec_state x src y) c.in_ok-make_room.ensures.ok c.make_room.ensures.held in
    let after = codec_state c.take_chunks.new.self c.take_chunks.new.src.items (held c.take_chunks.new.dst) in
    subst (λ (z : CodecState). IsChain z (answer_of c.take_chunks.result) after) same c.take_chunks.ensures.chain

pub returns-clause-memory : goal.returns-clause-memory
returns-clause-memory g c said =
    let held = g.T.PacketDst.held in
    let src = c.args.src.now.items in
    let same = ap₂ (λ (x : PacketCodec) (y : List ℕ). codec_state x src y) c.in_ok-make_room.ensures.ok c.make_room.ensures.held in
    subst (λ (z : CodecState). HasChunk z) same (c.take_chunks.ensures.memory said)

pub returns-clause-shorter : goal.returns-clause-shorter
returns-clause-shorter g c said = c.take_chunks.ensures.shorter said

pub returns-clause-limit : goal.returns-clause-limit
returns-clause-limit g c = c.take_chunks.ensures.limit ∙ c.make_room.ensures.limit

-- where there is none
pub returns-in_err-make_room-clause-memory : goal.returns-in_err-make_room-clause-memory
returns-in_err-make_room-clause-memory g c said = c.in_err-make_room.ensures.there

pub returns-in_err-make_room-clause-limit : goal.returns-in_err-make_room-clause-limit
returns-in_err-make_room-clause-limit g c = c.make_room.ensures.limit

pub returns-in_err-make_room-clause-decodes : goal.returns-in_err-make_room-clause-decodes
returns-in_err-make_room-clause-decodes g c =
    let held = g.T.PacketDst.held in
    let src = c.args.src.now.items in
    let before = codec_state c.args.self.now src (held c.args.dst.now) in
    let after = codec_state c.make_room.new.self src (held c.make_room.new.dst) in
    subst (λ (z : Result Bool PacketCodecError). DecodesStanding before z after) (sym (lacked c.from_residual.result c.from_residual.ensures)) c.in_err-make_room.ensures.decodes

pub returns-in_err-make_room-clause-on : goal.returns-in_err-make_room-clause-on
returns-in_err-make_room-clause-on g c =
    let held = g.T.PacketDst.held in
    let src = c.args.src.now.items in
    let before = codec_state c.args.self.now src (held c.args.dst.now) in
    let after = codec_state c.make_room.new.self src (held c.make_room.new.dst) in
    subst (λ (z : Result Bool PacketCodecError). Decodes before z after) (sym (lacked c.from_residual.result c.from_residual.ensures)) c.in_err-make_room.ensures.on

pub returns-in_err-make_room-clause-chain : goal.returns-in_err-make_room-clause-chain
returns-in_err-make_room-clause-chain g c =
    lacks_chain (answer_of c.from_residual.result) _ _ _ _ _ _ _ _ _ (lacked c.from_residual.result c.from_residual.ensures) c.make_room.ensures.id c.in_err-make_room.ensures.refused

pub returns-in_err-make_room-clause-shorter : goal.returns-in_err-make_room-clause-shorter
returns-in_err-make_room-clause-shorter g c said =
    absurd (no_ok (answer_of c.from_residual.result) OutOfMemory true (lacked c.from_residual.result c.from_residual.ensures) (ap answer_of said))
