-- Written out, so that a body that breaks one of these is refused at once.
use Rattle.std.proofs.Common.{rules}
use Rattle.wire_codec.proofs.codec.chunk.ChunkDecoder.take.Goals as goal

pub returns-in_default-new-clause-chunk : goal.returns-in_default-new-clause-chunk
returns-in_default-new-clause-chunk g c = search rules

pub finish-requires : goal.finish-requires
finish-requires g c = search rules

pub returns-else-not-fits-clause-chunk : goal.returns-else-not-fits-clause-chunk
returns-else-not-fits-clause-chunk g c = search rules

pub returns-in-Chunk-clause-chunk : goal.returns-in-Chunk-clause-chunk
returns-in-Chunk-clause-chunk g c = search rules

pub returns-then-not-fits-clause-chunk : goal.returns-then-not-fits-clause-chunk
returns-then-not-fits-clause-chunk g c = search rules

pub returns-then-is_empty-clause-chunk : goal.returns-then-is_empty-clause-chunk
returns-then-is_empty-clause-chunk g c = search rules

pub returns-else-is_empty-clause-chunk : goal.returns-else-is_empty-clause-chunk
returns-else-is_empty-clause-chunk g c = search rules
