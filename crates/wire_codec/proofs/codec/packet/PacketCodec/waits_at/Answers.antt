use Rattle.std.proofs.Common.{refl, arith, rules}
use Rattle.std.proofs.lemmas.Bool.{false≢true}
use Rattle.wire_codec.specs.Codec.{header_of}
use Rattle.wire_codec.proofs.LinkLemmas.{few_of_none, awaits_link, awaits_on, awaits_takes}
use Rattle.wire_codec.proofs.codec.packet.PacketCodec.waits_at.Goals as goal

pub returns-then-came-lt-HEADER_LEN-clause-decodes : goal.returns-then-came-lt-HEADER_LEN-clause-decodes
returns-then-came-lt-HEADER_LEN-clause-decodes c dst is stands =
    awaits_takes c.args.self.now.max_allowed_packet c.args.self.now.seq_id (header_of c.args.self.now) c.args.unread.now dst c.has_byte_id.ensures stands (few_of_none (header_of c.args.self.now) c.args.unread.now (omega arith))

pub returns-then-came-lt-HEADER_LEN-clause-on : goal.returns-then-came-lt-HEADER_LEN-clause-on
returns-then-came-lt-HEADER_LEN-clause-on c dst is limits mark place at =
    awaits_on limits mark place c.args.self.now.max_allowed_packet c.args.self.now.seq_id (header_of c.args.self.now) c.args.unread.now dst c.has_byte_id.ensures at (few_of_none (header_of c.args.self.now) c.args.unread.now (omega arith))

pub returns-then-came-lt-HEADER_LEN-clause-chain : goal.returns-then-came-lt-HEADER_LEN-clause-chain
returns-then-came-lt-HEADER_LEN-clause-chain c dst is =
    awaits_link c.args.self.now.max_allowed_packet c.args.self.now.seq_id (header_of c.args.self.now) c.args.unread.now dst (few_of_none (header_of c.args.self.now) c.args.unread.now (omega arith))

pub returns-in-Chunk-clause-waits : goal.returns-in-Chunk-clause-waits
returns-in-Chunk-clause-waits c = search rules

pub returns-in-Chunk-clause-decodes : goal.returns-in-Chunk-clause-decodes
returns-in-Chunk-clause-decodes c dst is stands =
    awaits_takes c.args.self.now.max_allowed_packet c.args.self.now.seq_id (header_of c.args.self.now) c.args.unread.now dst c.has_byte_id.ensures stands ((returns-in-Chunk-clause-waits c).0 is)

pub returns-in-Chunk-clause-on : goal.returns-in-Chunk-clause-on
returns-in-Chunk-clause-on c dst is limits mark place at =
    awaits_on limits mark place c.args.self.now.max_allowed_packet c.args.self.now.seq_id (header_of c.args.self.now) c.args.unread.now dst c.has_byte_id.ensures at ((returns-in-Chunk-clause-waits c).0 is)

pub returns-in-Chunk-clause-chain : goal.returns-in-Chunk-clause-chain
returns-in-Chunk-clause-chain c dst is =
    awaits_link c.args.self.now.max_allowed_packet c.args.self.now.seq_id (header_of c.args.self.now) c.args.unread.now dst ((returns-in-Chunk-clause-waits c).0 is)

pub returns-then-came-lt-HEADER_LEN-clause-waits : goal.returns-then-came-lt-HEADER_LEN-clause-waits
returns-then-came-lt-HEADER_LEN-clause-waits c = (λ is. few_of_none (header_of c.args.self.now) c.args.unread.now (omega arith), λ few. refl)

pub returns-in-Idle-clause-waits : goal.returns-in-Idle-clause-waits
returns-in-Idle-clause-waits c = (λ is. absurd (false≢true is), λ few. absurd (let n = rw c.in-Idle.is at few in omega (arith, n, c.if-came-lt-HEADER_LEN.false)))

pub returns-in-Idle-clause-decodes : goal.returns-in-Idle-clause-decodes
returns-in-Idle-clause-decodes c dst is = absurd (false≢true is)

pub returns-in-Idle-clause-on : goal.returns-in-Idle-clause-on
returns-in-Idle-clause-on c dst is = absurd (false≢true is)

pub returns-in-Idle-clause-chain : goal.returns-in-Idle-clause-chain
returns-in-Idle-clause-chain c dst is = absurd (false≢true is)
