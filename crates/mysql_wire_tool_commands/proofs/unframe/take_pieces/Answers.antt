use Rattle.std.proofs.Common.{inl, inr, ◌+◌, ◌≡◌, ℕ, ◌<◌, ◌≤◌, List, [], ◌++◌, take, length, length-take, refl, sym, ap₂, ◌∙◌, arith, append-nil, length-append, subst, if◌then◌else◌, nat_lt, Result, Ok, Err, OnOk, IfOk}
use Rattle.std.proofs.KnownBytes.{Appends-nil, Appends-trans, Consumes-nil, Consumes-trans}
use Rattle.std.specs.Io.KnownBytes.{Consumes}
use Rattle.wire_codec.specs.Delivery.{Waiting}
use Rattle.wire_codec.specs.Limited.{place_after}
use Rattle.wire_codec.specs.LimitedRuns.{WaitsUnder}
use Rattle.std.specs.Io.KnownBytes.{Appends}
use Rattle.wire_text.specs.declared.stop.Stop.{Stop}
use Rattle.mysql_wire_tool_commands.specs.declared.traced_read.OneRead.{OneRead}
use Rattle.mysql_wire_tool_commands.specs.Reads.{AsksUpTo}
use Rattle.mysql_wire_tool_commands.specs.Unframe.{ending_status, StopsOver, UnframeEndsOver, place_limits, run_state, next_limit, bytes_left, ending_line, UnframedUnder}
use Rattle.mysql_wire_tool_commands.proofs.ReadLemmas.{Asking, asking_start, asking_more, asked_more, Waited, waited_start, waited_more, waited, none_if}
use Rattle.mysql_wire_tool_commands.proofs.UnframeLemmas.{unframing_start, limits_here, unframing_more, unframing_ended, unframing_too_large, unframing_out_of_sync, rest_cases, nothing_behind, take_apart}
use Rattle.mysql_wire_tool_commands.proofs.ReframeLemmas.{at_four, at_five}
use Rattle.mysql_wire_tool_commands.proofs.unframe.take_pieces.Given as given
use Rattle.mysql_wire_tool_commands.proofs.unframe.take_pieces.Goals as goal
use Rattle.mysql_wire_tool_commands.proofs.unframe.take_pieces.Goals.{In_ok-count}

pub reads-init : goal.reads-init
reads-init g c =
    let new = c.requires.starts in
    record {
      piece_len = c.requires.room;
      limit = new.limit_is;
      later = new.later_is;
      aligned = (unframing_start c.empty_goes_on.ensures (place_limits 0 0 0) 0 (run_state c.args.run.now) new.id new.header new.nothing_unread new.nothing_held).goes_on.aligned;
      so_far = (
        [],
        [],
        λ limits known. unframing_start c.empty_goes_on.ensures limits c.args.run.now.ahead (run_state c.args.run.now) new.id new.header new.nothing_unread new.nothing_held,
        nothing_behind c.args.run.now.ahead,
        Consumes-nil _,
        Appends-nil _,
        asking_start c.args.step c.args.run.now.ahead _,
        λ limits known. waited_start (λ (front : List ℕ). WaitsUnder limits 0 front []) _ _,
      );
    }

pub reads-preserved : goal.reads-preserved
reads-preserved g c =
    let old = c.reads.invariant.so_far in
    let ahead = c.reads.run.ahead in
    let before = run_state c.reads.run in
    let piece : List ℕ = take c.in_ok-count.count c.deref.result.now in
    let read = rw (sym c.deref.ensures.value) at c.in_ok-count.ensures.bytes in
    let apart : 0 < ahead → length piece ≤ ahead = take_apart c.in_ok-count.count c.next_read.result ahead c.deref.result.now c.in_ok-count.ensures.count c.next_read.ensures.apart in
    let takes = rw c.in-Waits.is at c.in_ok-take_piece.ensures.takes in
    let here : next_limit c.reads.run ≡ (if nat_lt 0 ahead then c.args.run.now.limit else c.args.run.now.later) =
    ap₂ (λ (a b : ℕ). if nat_lt 0 ahead then a else b) c.reads.invariant.limit c.reads.invariant.later in
    let lines = rw (append-nil takes.0) at takes.2 in
    let asks = c.next_read.ensures in
    let asking = asking_more c.args.step c.args.run.now.ahead (length old.0) ahead _ _ (g.R.TracedRead.reads c.read_piece.new.input) (record { asked = c.next_read.result; came = c.in_ok-count.count })
    old.6 old.3 asks.some asks.step asks.apart asks.no_less c.in_ok-count.ensures.noted in
    let came : length old.0 + c.in_ok-count.count ≡ length (old.0 ++ piece) =
    let len = length-append old.0 piece in let part = length-take c.in_ok-count.count c.deref.result.now in omega (arith, len, part, c.in_ok-count.ensures.count) in
    record {
      piece_len = c.read_piece.ensures.len ∙ c.reads.invariant.piece_len;
      limit = c.take_piece.ensures.limits.0 ∙ c.reads.invariant.limit;
      later = c.take_piece.ensures.limits.1 ∙ c.reads.invariant.later;
      aligned = c.in_ok-take_piece.ensures.aligned c.in-Waits.is;
      so_far = (
        old.0 ++ piece,
        old.1 ++ takes.0,
        λ limits known.
            let u = old.2 limits known in
            let took = takes.1 limits u.mark (place_after 0 u.payloads) u.goes_on
            (limits_here c.framed_length.ensures limits c.args.run.now.limit c.args.run.now.later c.args.run.now.ahead ahead (next_limit c.reads.run) before old.0 old.1 piece u known old.3 here apart) in
            unframing_more c.joined_limited_runs.ensures limits c.args.run.now.ahead ahead before (run_state c.take_piece.new.run) old.0 old.1 piece takes.0 u old.3 apart took,
        (let len = length-append old.0 piece in omega (arith, len, c.take_piece.ensures.limits.2, old.3)),
        Consumes-trans _ _ _ old.0 piece old.4 read,
        Appends-trans _ _ _ old.1 takes.0 old.5 lines,
        subst (λ (n : ℕ). Asking c.args.step c.args.run.now.ahead n (g.R.TracedRead.reads c.args.input.now) (g.R.TracedRead.reads c.read_piece.new.input)) came asking,
        λ limits known.
            let u = old.2 limits known in
            let more = waited_more (λ (front : List ℕ). WaitsUnder limits 0 front []) (length old.0) old.0 _ _ _ _ _ (record { asked = c.next_read.result; came = c.in_ok-count.count })
            (old.7 limits known) refl old.4 (u.payloads, before.held, before.unread, u.delivered) c.in_ok-count.ensures.noted in
            subst (λ (n : ℕ). Waited (λ (front : List ℕ). WaitsUnder limits 0 front []) n (g.R.TracedRead.reads c.args.input.now) (g.R.TracedRead.reads c.read_piece.new.input) (g.R.Read.remaining c.args.input.now)) came more,
      );
    }

pub returns-in-TooLarge-clause-ended : goal.returns-in-TooLarge-clause-ended
returns-in-TooLarge-clause-ended g c limits known =
    let old = c.reads.invariant.so_far in
    let ahead = c.reads.run.ahead in
    let before = run_state c.reads.run in
    let piece : List ℕ = take c.in_ok-count.count c.deref.result.now in
    let read = rw (sym c.deref.ensures.value) at c.in_ok-count.ensures.bytes in
    let apart : 0 < ahead → length piece ≤ ahead = take_apart c.in_ok-count.count c.next_read.result ahead c.deref.result.now c.in_ok-count.ensures.count c.next_read.ensures.apart in
    let takes = rw c.in-TooLarge.is at c.in_ok-take_piece.ensures.takes in
    let here : next_limit c.reads.run ≡ (if nat_lt 0 ahead then c.args.run.now.limit else c.args.run.now.later) =
    ap₂ (λ (a b : ℕ). if nat_lt 0 ahead then a else b) c.reads.invariant.limit c.reads.invariant.later in
    let u = old.2 limits known in
    let took = takes.1 limits u.mark (place_after 0 u.payloads) u.goes_on
    (limits_here c.framed_length.ensures limits c.args.run.now.limit c.args.run.now.later c.args.run.now.ahead ahead (next_limit c.reads.run) before old.0 old.1 piece u known old.3 here apart) in
    let ended = unframing_too_large c.joined_limited_runs.ensures limits c.args.run.now.ahead ahead before (run_state c.take_piece.new.run) old.0 old.1 piece takes.0 u old.3 apart took in
    record {
      cases = inr (inr (inr (inl refl)));
      text = λ _. (
        old.0 ++ piece,
        _,
        Consumes-trans _ _ _ old.0 piece old.4 read,
        ended.0,
        Appends-trans _ _ _ old.1 _ old.5 takes.2,
        ended.1,
      );
      all_read = at_four _;
    }

pub returns-in-OutOfSync-clause-ended : goal.returns-in-OutOfSync-clause-ended
returns-in-OutOfSync-clause-ended g c limits known =
    let old = c.reads.invariant.so_far in
    let ahead = c.reads.run.ahead in
    let before = run_state c.reads.run in
    let piece : List ℕ = take c.in_ok-count.count c.deref.result.now in
    let read = rw (sym c.deref.ensures.value) at c.in_ok-count.ensures.bytes in
    let apart : 0 < ahead → length piece ≤ ahead = take_apart c.in_ok-count.count c.next_read.result ahead c.deref.result.now c.in_ok-count.ensures.count c.next_read.ensures.apart in
    let takes = rw c.in-OutOfSync.is at c.in_ok-take_piece.ensures.takes in
    let here : next_limit c.reads.run ≡ (if nat_lt 0 ahead then c.args.run.now.limit else c.args.run.now.later) =
    ap₂ (λ (a b : ℕ). if nat_lt 0 ahead then a else b) c.reads.invariant.limit c.reads.invariant.later in
    let u = old.2 limits known in
    let took = takes.1 limits u.mark (place_after 0 u.payloads) u.goes_on
    (limits_here c.framed_length.ensures limits c.args.run.now.limit c.args.run.now.later c.args.run.now.ahead ahead (next_limit c.reads.run) before old.0 old.1 piece u known old.3 here apart) in
    let ended = unframing_out_of_sync c.joined_limited_runs.ensures limits c.args.run.now.ahead ahead before (run_state c.take_piece.new.run) old.0 old.1 piece takes.0 u old.3 apart took in
    record {
      cases = inr (inr (inr (inr (inl refl))));
      text = λ _. (
        old.0 ++ piece,
        _,
        Consumes-trans _ _ _ old.0 piece old.4 read,
        ended.0,
        Appends-trans _ _ _ old.1 _ old.5 takes.2,
        ended.1,
      );
      all_read = at_five _;
    }

-- an answer that is no status promises nothing
at_status : (answer : Result ℕ Stop) (P : ℕ → Type 0) (A : Type 0) (B : ℕ → Type 0) → OnOk answer A → IfOk answer B → ((status : ℕ) → A → B status → P status) → IfOk answer P
at_status (Ok status) P A B a b gives = gives status a b
at_status (Err stop) P A B a b gives = tt

pub returns-then-count-eq0-clause-ended : goal.returns-then-count-eq0-clause-ended
returns-then-count-eq0-clause-ended g c =
    let old = c.reads.invariant.so_far in
    let left : ℕ = bytes_left (run_state c.reads.run) in
    let read = subst (λ (n : ℕ). Consumes (g.R.Read.remaining c.reads.input) (g.R.Read.remaining c.read_piece.new.input) (take n c.read_piece.new.piece.items))
    c.if-count-eq0.true c.in_ok-count.ensures.bytes in
    let all = subst (λ (z : List ℕ). Consumes (g.R.Read.remaining c.args.input.now) (g.R.Read.remaining c.read_piece.new.input) z)
    (append-nil old.0) (Consumes-trans _ _ _ old.0 [] old.4 read) in
    at_status c.write_rest.result
    (λ status. UnframeEndsOver c.args.run.now.limit c.args.run.now.later c.args.run.now.ahead status (g.R.Read.remaining c.args.input.now) (g.R.Read.remaining c.read_piece.new.input)
    (g.W.Write.contents c.args.output.now) (g.W.Write.contents c.write_rest.new.output))
    (Appends (g.W.Write.contents c.reads.output) (g.W.Write.contents c.write_rest.new.output) (ending_line Waiting left))
    (λ status. status ≡ ending_status Waiting left) c.write_rest.ensures.text c.write_rest.ensures.status (λ status written is limits known.
    let u = old.2 limits known in
    let ended = unframing_ended c.framed_length.ensures limits c.args.run.now.ahead (run_state c.reads.run) old.0 old.1 u in
    record {
      cases = rest_cases status left is;
      text = λ _. (
        old.0,
        old.1 ++ ending_line Waiting left,
        all,
        subst (λ (n : ℕ). UnframedUnder limits old.0 n (old.1 ++ ending_line Waiting left)) (sym is) ended,
        Appends-trans _ _ _ old.1 _ old.5 written,
        u.apart,
      );
      all_read = λ _. c.in_ok-count.ensures.end c.if-count-eq0.true;
    })

pub returns-in_err-count-clause-reads : goal.returns-in_err-count-clause-reads
returns-in_err-count-clause-reads g c =
    let old = c.reads.invariant.so_far in
    let asks = c.next_read.ensures in
    let read : OneRead = record { asked = c.next_read.result; came = 0 } in (
      asked_more _ _ _ _ _ _ _ read old.6 old.3 asks.some asks.step asks.apart asks.no_less c.in_err-count.ensures.noted,
      λ limits known.
          let u = old.2 limits known in
          let state = run_state c.reads.run in
          waited _ _ _ _ _ (waited_more (λ (front : List ℕ). WaitsUnder limits 0 front []) (length old.0) old.0 _ _ _ _ _ read
          (old.7 limits known) refl old.4 (u.payloads, state.held, state.unread, u.delivered) c.in_err-count.ensures.noted),
    )

-- what was read with this read
reads_here : (g : given.Over) (c : In_ok-count g)
    → AsksUpTo c.args.step c.args.run.now.ahead (g.R.TracedRead.reads c.args.input.now) (g.R.TracedRead.reads c.read_piece.new.input)
    × StopsOver c.args.run.now.limit c.args.run.now.later c.args.run.now.ahead (g.R.TracedRead.reads c.args.input.now) (g.R.TracedRead.reads c.read_piece.new.input) (g.R.Read.remaining c.args.input.now)
reads_here g c =
    let old = c.reads.invariant.so_far in
    let asks = c.next_read.ensures in
    let read : OneRead = record { asked = c.next_read.result; came = c.in_ok-count.count } in (
      asked_more _ _ _ _ _ _ _ read old.6 old.3 asks.some asks.step asks.apart asks.no_less c.in_ok-count.ensures.noted,
      λ limits known.
          let u = old.2 limits known in
          let state = run_state c.reads.run in
          waited _ _ _ _ _ (waited_more (λ (front : List ℕ). WaitsUnder limits 0 front []) (length old.0) old.0 _ _ _ _ _ read
          (old.7 limits known) refl old.4 (u.payloads, state.held, state.unread, u.delivered) c.in_ok-count.ensures.noted),
    )

pub returns-then-count-eq0-clause-reads : goal.returns-then-count-eq0-clause-reads
returns-then-count-eq0-clause-reads g c = reads_here g (goal.at.returns-then-count-eq0-clause-reads g c).In_ok-count

pub returns-in_err-take_piece-clause-reads : goal.returns-in_err-take_piece-clause-reads
returns-in_err-take_piece-clause-reads g c = reads_here g (goal.at.returns-in_err-take_piece-clause-reads g c).In_ok-count

pub returns-in-TooLarge-clause-reads : goal.returns-in-TooLarge-clause-reads
returns-in-TooLarge-clause-reads g c = reads_here g (goal.at.returns-in-TooLarge-clause-reads g c).In_ok-count

pub returns-in-OutOfSync-clause-reads : goal.returns-in-OutOfSync-clause-reads
returns-in-OutOfSync-clause-reads g c = reads_here g (goal.at.returns-in-OutOfSync-clause-reads g c).In_ok-count

pub returns-clause-reads : goal.returns-clause-reads
returns-clause-reads g c =
    let old = c.reads.invariant.so_far in
    let asked = old.6 in
    (record { made = asked.made; makes = asked.makes; each = asked.each }, λ limits known. waited _ _ _ _ _ (old.7 limits known))

pub next_read-requires : goal.next_read-requires
next_read-requires g c = c.requires.some

pub take_piece-requires : goal.take_piece-requires
take_piece-requires g c = c.reads.invariant.aligned

pub returns-in_err-count-clause-ended : goal.returns-in_err-count-clause-ended
returns-in_err-count-clause-ended g c = none_if c.from_residual.result _ c.from_residual.ensures.0

pub returns-in_err-take_piece-clause-ended : goal.returns-in_err-take_piece-clause-ended
returns-in_err-take_piece-clause-ended g c = none_if c.from_residual-in_err-take_piece.result _ c.from_residual-in_err-take_piece.ensures.0

pub returns-clause-ended : goal.returns-clause-ended
returns-clause-ended g c = tt
