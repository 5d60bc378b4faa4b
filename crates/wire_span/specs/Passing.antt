-- A packet's bytes that go by, some at a time.
use Rattle.std.specs.Prelude.{ℕ, ◌+◌, ◌*◌, ◌-◌, length}
use Rattle.wire_span.specs.Spans.{SpanPlace, AtHeader, Within, SpanState}

-- how many bytes of the open chunk are to come
abbrev pub left_in : SpanPlace → ℕ
left_in (AtHeader came) = 0
left_in (Within left is_full) = left

-- what is to come of the open chunk, and then a header; or what is to come of a header
abbrev pub most_here : SpanPlace → ℕ
most_here (AtHeader came) = 4 - length came
most_here (Within left is_full) = left + 4

-- no more bytes are to come of the open packet: each chunk that follows has a header, and one byte
-- at least within the limit, or it is the last
abbrev pub most_bytes : SpanState → ℕ
most_bytes state = most_here state.place + 5 * (state.limit - state.size)
