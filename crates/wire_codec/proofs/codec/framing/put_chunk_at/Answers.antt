use Rattle.std.proofs.Common.{ap, length, List, ℕ}
use Rattle.wire_codec.proofs.ChunkLemmas.{put_chunk_there}
use Rattle.wire_codec.proofs.codec.framing.put_chunk_at.Goals as goal

pub returns : goal.returns
returns c =
    put_chunk_there c.args.room.now c.put_at.new.room c.put_at-2.new.room c.bytes.result c.args.bytes.now c.args.at c.args.id
    (ap (λ (z : List ℕ). length z) c.bytes.ensures) c.bytes.ensures c.requires.room c.put_at.ensures c.put_at-2.ensures
