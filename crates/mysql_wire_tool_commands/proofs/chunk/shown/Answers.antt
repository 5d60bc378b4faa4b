use Rattle.wire_codec.specs.OneChunk.{chunk_state}
use Rattle.wire_codec.specs.Framing.{max_payload}
use Rattle.mysql_wire_tool_commands.proofs.chunk.shown.Goals as goal

pub returns-clause-shown : goal.returns-clause-shown
unfolding max_payload
returns-clause-shown g c = record {
  info = c.in-Ok.info;
  after = chunk_state c.decode.new.self c.decode.new.src.items c.decode.new.dst.items;
  decoded = rw c.new-payload.ensures.items at c.in-Ok.ensures.chunk;
  is = rw (c.as_slice-2.ensures.value, c.as_slice-3.ensures) at c.in_ok-text.ensures;
  ends = rw c.as_slice.ensures at c.chunk_status-status.ensures.status;
}
