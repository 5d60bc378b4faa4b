use Rattle.std.proofs.Common.{ℕ, ◌+◌, ◌%◌, List, [], drop, sym, ap, subst, arith, None, Ok, true}
use Rattle.std.proofs.lemmas.Bool.{false≢true}
use Rattle.wire_codec.specs.Codec.{header_of, DecodesPacket, ChunkChain}
use Rattle.wire_codec.specs.LimitedRuns.{DecodesAligned}
use Rattle.wire_codec.specs.GoingOn.{Decodes}
use Rattle.wire_codec.specs.InPlace.{front_payload}
use Rattle.wire_codec.proofs.InPlaceLemmas.{state_of, front_decodes, front_on, front_aligned, front_chain}
use Rattle.wire_codec.proofs.codec.packet.PacketCodec.accept_front_in.Goals as goal

pub returns-clause-decodes : goal.returns-clause-decodes
returns-clause-decodes c stands =
    let limit = c.args.self.now.max_allowed_packet in
    let id = c.args.self.now.seq_id in
    let header = header_of c.args.self.now in
    let src = c.args.front.now in
    let rest = ap (λ (n : ℕ). drop (4 + n) src) (c.in-Some.ensures.len) in
    subst (λ (z : List ℕ). DecodesPacket (state_of limit id header src []) (Ok true) (state_of limit ((id + 1) % 256) None z (front_payload src))) (sym rest)
    (front_decodes limit id header src (omega arith) c.in-Some.ensures.spelled c.requires stands)

pub returns-clause-aligned : goal.returns-clause-aligned
returns-clause-aligned c =
    let limit = c.args.self.now.max_allowed_packet in
    let id = c.args.self.now.seq_id in
    let header = header_of c.args.self.now in
    let src = c.args.front.now in
    let rest = ap (λ (n : ℕ). drop (4 + n) src) (c.in-Some.ensures.len) in
    subst (λ (z : List ℕ). DecodesAligned (state_of limit id header src []) (Ok true) (state_of limit ((id + 1) % 256) None z (front_payload src))) (sym rest)
    (front_aligned limit id header src (omega arith) c.in-Some.ensures.spelled c.requires)

pub returns-clause-chain : goal.returns-clause-chain
returns-clause-chain c =
    let limit = c.args.self.now.max_allowed_packet in
    let id = c.args.self.now.seq_id in
    let header = header_of c.args.self.now in
    let src = c.args.front.now in
    let rest = ap (λ (n : ℕ). drop (4 + n) src) (c.in-Some.ensures.len) in
    subst (λ (z : List ℕ). ChunkChain 1 (state_of limit id header src []) (Ok true) (state_of limit ((id + 1) % 256) None z (front_payload src))) (sym rest)
    (front_chain limit id header src c.requires)

pub returns-clause-on : goal.returns-clause-on
returns-clause-on c =
    let limit = c.args.self.now.max_allowed_packet in
    let id = c.args.self.now.seq_id in
    let header = header_of c.args.self.now in
    let src = c.args.front.now in
    let rest = ap (λ (n : ℕ). drop (4 + n) src) (c.in-Some.ensures.len) in
    subst (λ (z : List ℕ). Decodes (state_of limit id header src []) (Ok true) (state_of limit ((id + 1) % 256) None z (front_payload src))) (sym rest)
    (front_on limit id header src (omega arith) c.in-Some.ensures.spelled c.requires)

pub returns-in_default : goal.returns-in_default
returns-in_default c = absurd (false≢true (c.in_default.ensures.there.1 c.requires.2))
