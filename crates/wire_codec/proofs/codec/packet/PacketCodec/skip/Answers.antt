use Rattle.std.proofs.Common.{◌∙◌, ap, refl, Ok, Err}
use Rattle.wire_codec.specs.Refusals.{error_of}
use Rattle.wire_codec.proofs.Declared.{Progress, Whole, Starved, More}
use Rattle.wire_codec.specs.Codec.{first_id}
use Rattle.wire_codec.proofs.CodecLemmas.{splits_here}
use Rattle.wire_codec.proofs.SkipLemmas.{skips_later, has_skipped_more}
use Rattle.wire_codec.proofs.codec.packet.PacketCodec.skip.Goals as goal

pub chunks-init : goal.chunks-init
chunks-init g c = record {
  same = refl;
  runs = λ full w. (full, w, splits_here (first_id full) full.limit full.held full.unread w.stands.0, refl);
}

pub returns-in-Ok-Whole : goal.returns-in-Ok-Whole
returns-in-Ok-Whole g c = record {
  skips = λ full w. skips_later (Ok Whole) c.skip_chunk.new.skipped c.skip_chunk.new.self c.skip_chunk.new.src.items w (c.chunks.invariant.runs full w) c.chunks.invariant.same (rw c.in-Ok-Whole.field-0-is at c.in-Ok-Whole.ensures.drops);
  limit = c.skip_chunk.ensures.limit ∙ c.chunks.invariant.same;
}

pub returns-in-Ok-Starved : goal.returns-in-Ok-Starved
returns-in-Ok-Starved g c = record {
  skips = λ full w. skips_later (Ok Starved) c.skip_chunk.new.skipped c.skip_chunk.new.self c.skip_chunk.new.src.items w (c.chunks.invariant.runs full w) c.chunks.invariant.same (rw c.in-Ok-Starved.field-0-is at c.in-Ok-Starved.ensures.drops);
  limit = c.skip_chunk.ensures.limit ∙ c.chunks.invariant.same;
}

pub chunks-smaller : goal.chunks-smaller
chunks-smaller g c = c.skip_chunk.ensures.more (c.in-Ok-More.is ∙ ap (λ (z : Progress). Ok z) c.in-Ok-More.field-0-is)

pub chunks-preserved : goal.chunks-preserved
chunks-preserved g c = record {
  same = c.skip_chunk.ensures.limit ∙ c.chunks.invariant.same;
  runs = λ full w. has_skipped_more _ _ _ full (skips_later (Ok More) c.skip_chunk.new.skipped c.skip_chunk.new.self c.skip_chunk.new.src.items w (c.chunks.invariant.runs full w)
      c.chunks.invariant.same (rw c.in-Ok-More.field-0-is at c.in-Ok-More.ensures.drops));
}

pub returns-in-Err : goal.returns-in-Err
returns-in-Err g c = record {
  skips = λ full w. rw c.from.ensures (skips_later (Err (error_of c.in-Err.refusal)) c.skip_chunk.new.skipped c.skip_chunk.new.self c.skip_chunk.new.src.items w (c.chunks.invariant.runs full w) c.chunks.invariant.same c.in-Err.ensures.drops);
  limit = c.skip_chunk.ensures.limit ∙ c.chunks.invariant.same;
}
