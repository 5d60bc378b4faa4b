use Rattle.std.proofs.Common.{rules, ◌≡◌, ℕ, List, [], ◌++◌, ap, inl, refl, sym, subst, ◌∙◌, append-nil, Ok}
use Rattle.std.specs.Io.KnownBytes.{Consumes}
use Rattle.std.proofs.KnownBytes.{Consumes-trans}
use Rattle.mysql_wire.specs.Codec.{Stands, StandsAt, codec_state, header_of}
use Rattle.mysql_wire.specs.Laws.{appended, empty_state}
use Rattle.mysql_wire.specs.Runs.{payloads, RunsTo}
use Rattle.mysql_wire_examples.proofs.CallerLemmas.{delivers_all, nil_of_length}
use Rattle.mysql_wire_examples.proofs.callers.read_packets.Goals as goal

pub take_unread-requires : goal.take_unread-requires
take_unread-requires g c =
    let came = c.in_ok-read_from.ensures.ok in
    let grown = came.2 ∙ ap (λ (z : List ℕ). z ++ came.0) c.reserve.ensures.items in
    let header = header_of c.reads.codec in
    let dst : List ℕ = c.reads.dst.items in
    let before = codec_state c.reads.codec c.reads.src.items dst in
    let stands : Stands before =
    subst (λ (n : ℕ). StandsAt n header c.reads.src.items dst) (sym c.reads.invariant.limited) c.reads.invariant.so_far.1.2 in
    subst (λ (z : List ℕ). StandsAt c.reads.codec.max_allowed_packet header z dst) (sym grown)
    ((c.appended_run.ensures before before came.0 (Ok tt) []).0 stands)

pub reads-preserved : goal.reads-preserved
reads-preserved g c =
    let came = c.in_ok-read_from.ensures.ok in
    let grown = came.2 ∙ ap (λ (z : List ℕ). z ++ came.0) c.reserve.ensures.items in
    let old = c.reads.invariant.so_far in
    let run = c.in_ok-take_unread.ensures.run in
    let dst : List ℕ = c.reads.dst.items in
    let before = codec_state c.reads.codec c.reads.src.items dst in
    let after = codec_state c.take_unread.new.codec c.take_unread.new.src.items c.take_unread.new.dst.items in
    let over : RunsTo (appended before came.0) [] (Ok tt) run.0 after =
    subst (λ (z : List ℕ). RunsTo (codec_state c.reads.codec z dst) [] (Ok tt) run.0 after) grown run.2 in
    let start = empty_state 0 c.args.limit in
    let all = c.run_goes_on.ensures start before after old.0 came.0 (Ok tt) (Ok tt) (payloads c.reads.packets.items) run.0
    (inl refl) old.1 c.reads.invariant.limited ((c.appended_run.ensures before after came.0 (Ok tt) run.0).1 over) in
    record {
      limited = c.take_unread.ensures.limit ∙ c.reads.invariant.limited;
      so_far = (
        old.0 ++ came.0,
        subst (λ (z : List (List ℕ)). RunsTo start (old.0 ++ came.0) (Ok tt) z after) (sym run.1) all,
        Consumes-trans _ _ _ old.0 came.0 old.2 came.3,
      );
    }

pub returns-then-branch-eq0-clause-packets : goal.returns-then-branch-eq0-clause-packets
returns-then-branch-eq0-clause-packets g c =
    let came = c.in_ok-read_from.ensures.ok in
    let old = c.reads.invariant.so_far in
    let none : came.0 ≡ [] = nil_of_length came.0 (came.1 ∙ c.if-branch-eq0.true) in
    let read = subst (λ (z : List ℕ). Consumes (g.R.Read.remaining c.args.reader.now) (g.R.Read.remaining c.read_from.new.from) z)
    (ap (λ (z : List ℕ). old.0 ++ z) none ∙ append-nil old.0) (Consumes-trans _ _ _ old.0 came.0 old.2 came.3) in
    delivers_all c.args.limit _ _ old.0 (payloads c.reads.packets.items) (codec_state c.reads.codec c.reads.src.items c.reads.dst.items)
    read (c.in_ok-read_from.ensures.end (search rules) c.if-branch-eq0.true) old.1
