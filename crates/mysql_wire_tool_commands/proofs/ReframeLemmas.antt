-- One packet after another.
use Rattle.std.proofs.Common.{◌≡◌, ◌≢◌, ℕ, ◌≤◌, ◌⊎◌, List, [], ◌∷◌, ◌++◌, length, refl, sym, ap, ◌∙◌, subst, arith, append_assoc, append-nil, Option, None, Some, IsSome, Ok, Err, Bool, true, ne_eqb, if◌then◌else◌, Result, inl, inr, zero-le, ◌<◌, ◌+◌, zero, suc, length-append, take, drop}
use Rattle.std.proofs.lemmas.List.{drop-drop, length-drop, take-append-drop}
use Rattle.std.proofs.lemmas.List.Elements.{All-nil}
use Rattle.wire_codec.specs.Framing.{max_payload, max_payload_is, framing, front, next_id, id_after, stream}
use Rattle.wire_codec.specs.Delivery.{chunk_len, Continues, Ending, Waiting, TooLarge, OutOfSync, Delivers, Splits}
use Rattle.wire_codec.specs.Codec.{CodecState, codec_state, first_id, expected_id, header_of, input_of, DecodesFrom, DecodesPacket, StandsAt}
use Rattle.wire_codec.specs.declared.codec.packet.PacketCodec.{PacketCodec}
use Rattle.wire_span.proofs.RenumberLemmas.{take_front}
use Rattle.wire_codec.specs.Runs.{RunsTo}
use Rattle.wire_codec.specs.Laws.{JoinedRuns, JoinedSplits, NothingRead, BetweenPackets, StreamAppend, IdAfterAppend, empty_state}
use Rattle.mysql_wire_tool_commands.specs.Unframe.{ending_status}
use Rattle.std.specs.Result.{IfOk}
use Rattle.wire_text.specs.declared.stop.Stop.{Stop}
use Rattle.wire_text.specs.declared.stop.Stop.TheVariants.{Io, Memory}
use Rattle.wire_text.specs.Stops.{exit_status_of}
use Rattle.mysql_wire_tool_commands.specs.declared.reframe.Ended.{Ended}
use Rattle.mysql_wire_tool_commands.specs.declared.reframe.Ended.TheVariants as ended
use Rattle.mysql_wire_tool_commands.specs.LongPackets.{EndsLong, IsAtHeader, LosesSync}
use Rattle.mysql_wire_tool_commands.specs.Reframe.{PassesWhole, Reframing, Reframed, ReframeEnds, Sends, Drops, EndsCopying, Finishes}
use Rattle.wire_codec.proofs.RunLemmas.{chunk_len_append, splits_extend}
use Rattle.wire_span.specs.declared.span.SpanError.TheVariants as span
use Rattle.wire_span.specs.SpanLaws.{SpansStop}
use Rattle.std.specs.Io.KnownBytes.{Appends, Consumes, IsAtEnd}
use Rattle.std.proofs.KnownBytes.{Appends-nil, Appends-trans}

-- nothing read yet
pub reframing_start : NothingRead → (limit : ℕ) (state : CodecState) (encodes : ℕ) → state.id ≡ 0 → state.header ≡ None → state.unread ≡ [] → state.held ≡ [] → state.limit ≡ limit
    → encodes ≡ 0 → Reframing limit state encodes [] []
unfolding max_payload
reframing_start nothing limit state encodes id header unread held same first =
    let here : RunsTo (empty_state 0 limit) [] (Ok tt) [] (empty_state 0 limit) = nothing 0 limit (omega arith) in
    record {
      payloads = [];
      split = rw (unread, held) here.0.splits;
      goes_on = rw (id, held) refl;
      stands = rw (header, held) here.2;
      same_limit = same;
      numbered = first;
      is = refl;
    }

-- a packet more
pub reframing_more : JoinedSplits → StreamAppend → IdAfterAppend → BetweenPackets → (limit : ℕ) (before after : CodecState) (encodes next : ℕ) (input text more packet : List ℕ)
    → (u : Reframing limit before encodes input text)
    → DecodesFrom (first_id before) (input_of before ++ more) before.held before.limit (Ok true) after.id after.header after.unread packet → after.held ≡ []
    → after.limit ≡ before.limit → next ≡ next_id encodes packet
    → Reframing limit after next (input ++ more) (text ++ framing encodes packet)
reframing_more joined stream-append id_after-append between limit before after encodes next input text more packet u d none same numbered =
    let ps = u.payloads in
    let s : ℕ = id_after 0 ps in
    let one : List (List ℕ) = packet ∷ [] in
    let here = between after (omega (arith, d.2)) d.3 none in
    let rising : first_id after ≡ next_id s packet = here.1 ∙ d.2 ∙ ap (λ (n : ℕ). next_id n packet) u.goes_on in
    let behind : front (next_id s packet) after.held ++ after.unread ≡ after.unread =
    ap (λ (n : ℕ). front n after.held ++ after.unread) (sym rising) ∙ here.2 in
    let came : front s before.held ++ (before.unread ++ more) ≡ stream s one ++ (front (id_after s one) after.held ++ after.unread) =
    sym (append_assoc (front s before.held) before.unread more)
    ∙ ap (λ (n : ℕ). (front n before.held ++ before.unread) ++ more) (sym u.goes_on)
    ∙ d.0 ∙ ap (λ (n : ℕ). framing n packet ++ after.unread) u.goes_on
    ∙ ap (λ (z : List ℕ). z ++ after.unread) (sym (append-nil (framing s packet)))
    ∙ ap (λ (z : List ℕ). stream s one ++ z) (sym behind) in
    let next_split : Splits before.held (front s before.held ++ (before.unread ++ more)) s limit one after.held after.unread = record {
      is = came;
      held_whole = u.stands.0;
      unfinished_whole = here.0.0;
      within = (subst (λ (n : ℕ). Continues before.held n packet) u.same_limit d.1, All-nil (λ (other : List ℕ). length other ≤ limit), rw none zero-le);
    } in
    let ids : id_after 0 (ps ++ one) ≡ next_id s packet = id_after-append 0 ps one in
    record {
      payloads = ps ++ one;
      split = joined [] input 0 limit ps before.held before.unread more one after.held after.unread u.split next_split;
      goes_on = rising ∙ sym ids;
      stands = here.0;
      same_limit = same ∙ u.same_limit;
      numbered = numbered ∙ ap (λ (n : ℕ). next_id n packet) u.numbered ∙ sym ids;
      is = ap (λ (z : List ℕ). z ++ framing encodes packet) u.is ∙ ap (λ (n : ℕ). stream 0 ps ++ framing n packet) u.numbered
          ∙ ap (λ (z : List ℕ). stream 0 ps ++ z) (sym (append-nil (framing s packet))) ∙ sym (stream-append 0 ps one);
    }

-- what all the bytes deliver, where no packet more does
pub all_delivered : JoinedRuns → (limit : ℕ) (before : CodecState) (encodes : ℕ) (input text more : List ℕ) (u : Reframing limit before encodes input text)
    (ending : Ending) (unfinished rest : List ℕ)
    → Delivers before.held (input_of before ++ more) (first_id before) before.limit [] ending unfinished rest
    → Delivers [] (input ++ more) 0 limit u.payloads ending unfinished rest
all_delivered joined limit before encodes input text more u ending unfinished rest d =
    let s : ℕ = id_after 0 u.payloads in
    let here : Delivers before.held ((front s before.held ++ before.unread) ++ more) s before.limit [] ending unfinished rest =
    subst (λ (z : ℕ). Delivers before.held ((front z before.held ++ before.unread) ++ more) z before.limit [] ending unfinished rest) u.goes_on d in
    let limited : Delivers before.held ((front s before.held ++ before.unread) ++ more) s limit [] ending unfinished rest =
    subst (λ (z : ℕ). Delivers before.held ((front s before.held ++ before.unread) ++ more) s z [] ending unfinished rest) u.same_limit here in
    let all = joined [] input 0 limit u.payloads before.held before.unread more [] ending unfinished rest u.split
    (subst (λ (z : List ℕ). Delivers before.held z s limit [] ending unfinished rest) (append_assoc (front s before.held) before.unread more) limited) in
    subst (λ (ps : List (List ℕ)). Delivers [] (input ++ more) 0 limit ps ending unfinished rest) (append-nil u.payloads) all

-- how many bytes are after the last whole packet
left_behind : (limit : ℕ) (before : CodecState) (encodes : ℕ) (input text more : List ℕ) (u : Reframing limit before encodes input text) (ending : Ending) (unfinished rest : List ℕ)
    → Delivers before.held (input_of before ++ more) (first_id before) before.limit [] ending unfinished rest
    → front (id_after 0 u.payloads) unfinished ++ rest ≡ input_of before ++ more
left_behind limit before encodes input text more u ending unfinished rest d =
    ap (λ (n : ℕ). front n unfinished ++ rest) (sym u.goes_on) ∙ sym d.splits.is

pub none_left : (left : List ℕ) → left ≡ [] → 0 ≡ ending_status Waiting (length left)
none_left [] is = refl
none_left (x ∷ left) is = absurd cc

pub some_left : (left : List ℕ) → left ≢ [] → 3 ≡ ending_status Waiting (length left)
some_left [] is = absurd (is refl)
some_left (x ∷ left) is = sym (ap (λ (none : Bool). if none then 0 else 3) (ne_eqb (length (x ∷ left)) 0 (λ none. absurd (omega arith))))

-- the input ended between two packets
pub reframed_whole : JoinedRuns → (limit : ℕ) (before after : CodecState) (encodes : ℕ) (input text more : List ℕ) → Reframing limit before encodes input text
    → RunsTo before more (Ok tt) [] after → input_of before ++ more ≡ [] → Reframed limit (input ++ more) 0 text
reframed_whole joined limit before after encodes input text more u run none = record {
  payloads = u.payloads;
  ending = Waiting;
  unfinished = after.held;
  rest = after.unread;
  delivered = all_delivered joined limit before encodes input text more u Waiting after.held after.unread run.0;
  is = u.is;
  ends = none_left _ (left_behind limit before encodes input text more u Waiting after.held after.unread run.0 ∙ none);
}

-- the input ended inside one
pub reframed_short : JoinedRuns → (limit : ℕ) (before after : CodecState) (encodes : ℕ) (input text more : List ℕ) → Reframing limit before encodes input text
    → RunsTo before more (Ok tt) [] after → input_of before ++ more ≢ [] → Reframed limit (input ++ more) 3 text
reframed_short joined limit before after encodes input text more u run some = record {
  payloads = u.payloads;
  ending = Waiting;
  unfinished = after.held;
  rest = after.unread;
  delivered = all_delivered joined limit before encodes input text more u Waiting after.held after.unread run.0;
  is = u.is;
  ends = some_left _ (λ none. some (sym (left_behind limit before encodes input text more u Waiting after.held after.unread run.0) ∙ none));
}

-- a packet past the limit
pub reframed_too_large : JoinedRuns → (limit : ℕ) (before : CodecState) (encodes : ℕ) (input text more unfinished rest : List ℕ) → Reframing limit before encodes input text
    → Delivers before.held (input_of before ++ more) (first_id before) before.limit [] TooLarge unfinished rest → Reframed limit (input ++ more) 4 text
reframed_too_large joined limit before encodes input text more unfinished rest u d = record {
  payloads = u.payloads;
  ending = TooLarge;
  unfinished = unfinished;
  rest = rest;
  delivered = all_delivered joined limit before encodes input text more u TooLarge unfinished rest d;
  is = u.is;
  ends = refl;
}

-- a chunk of another id
pub reframed_out_of_sync : JoinedRuns → (limit : ℕ) (before : CodecState) (encodes : ℕ) (input text more unfinished rest : List ℕ) → Reframing limit before encodes input text
    → Delivers before.held (input_of before ++ more) (first_id before) before.limit [] OutOfSync unfinished rest → Reframed limit (input ++ more) 5 text
reframed_out_of_sync joined limit before encodes input text more unfinished rest u d = record {
  payloads = u.payloads;
  ending = OutOfSync;
  unfinished = unfinished;
  rest = rest;
  delivered = all_delivered joined limit before encodes input text more u OutOfSync unfinished rest d;
  is = u.is;
  ends = refl;
}

-- a command that gave up promises nothing of what was written
gave_up : (limit : ℕ) (why : Stop) (unread left written now : Option (List ℕ)) → ReframeEnds limit (exit_status_of (Err why)) unread left written now
gave_up limit Io unread left written now = record {
  cases = inr (inl refl);
  text = λ h. absurd (omega (arith, h));
  all_read = λ h. absurd (omega (arith, h));
}
gave_up limit Memory unread left written now = record {
  cases = inr (inr (inr (inr (inr refl))));
  text = λ h. absurd (omega (arith, h));
  all_read = λ h. absurd (omega (arith, h));
}

-- what it answers, once the chunk in front has come
pub reframe_status : (limit : ℕ) (finish : Result Ended Stop) (answer : Result ℕ Stop) (unread left last written now : Option (List ℕ))
    → IfOk finish (λ at. EndsCopying limit at unread left written now) → IfOk answer (λ status. Finishes finish status left last)
    → ReframeEnds limit (exit_status_of answer) unread last written now
reframe_status limit finish (Err why) unread left last written now ends is = gave_up limit why unread last written now
reframe_status limit (Ok (ended.At expected)) (Ok status) unread left last written now ends is =
    subst (λ (z : ℕ). ReframeEnds limit z unread last written now) (sym is.0) (subst (λ (z : Option (List ℕ)). ReframeEnds limit expected unread z written now) (sym is.1) ends)
reframe_status limit (Ok (ended.OutOfSync lacking)) (Ok status) unread left last written now ends is = ends status last is
reframe_status limit (Err why) (Ok status) unread left last written now ends is = absurd is

-- of what was framed, all but what is pending was written
abbrev pub SoWritten : List ℕ → List ℕ → Option (List ℕ) → Option (List ℕ) → Type 0
SoWritten text pending before now = Sends before now text pending

pub none_written : (pending : List ℕ) (now : Option (List ℕ)) → pending ≡ [] → SoWritten [] pending now now
none_written pending now is = ([], sym is, Appends-nil now)

pub sent_on : (text pending left : List ℕ) (before between after : Option (List ℕ)) → SoWritten text pending before between → Sends between after pending left
    → SoWritten text left before after
sent_on text pending left before between after so_far sends = (
  so_far.0 ++ sends.0,
  so_far.1 ∙ ap (λ (z : List ℕ). so_far.0 ++ z) sends.1 ∙ sym (append_assoc so_far.0 sends.0 left),
  Appends-trans _ _ _ so_far.0 sends.0 so_far.2 sends.2,
)

-- a packet more, of which, and of what is pending, a front was written
pub passed_on : (text pending more left : List ℕ) (before between after : Option (List ℕ)) → SoWritten text pending before between
    → Sends between after (pending ++ more) left → SoWritten (text ++ more) left before after
passed_on text pending more left before between after so_far sends =
    let queued : SoWritten (text ++ more) (pending ++ more) before between =
    (so_far.0, ap (λ (z : List ℕ). z ++ more) so_far.1 ∙ append_assoc so_far.0 pending more, so_far.2) in
    sent_on (text ++ more) (pending ++ more) left before between after queued sends

pub none_left_pending : (text pending : List ℕ) (before now : Option (List ℕ)) → SoWritten text pending before now → pending ≡ [] → Appends before now text
none_left_pending text pending before now so_far none =
    subst (λ (z : List ℕ). Appends before now z) (sym (so_far.1 ∙ ap (λ (z : List ℕ). so_far.0 ++ z) none ∙ append-nil so_far.0)) so_far.2

pub some_lent : (lent : Option (List ℕ)) → IsSome lent → (packet : List ℕ) × (lent ≡ Some packet)
some_lent None is = absurd cc
some_lent (Some packet) is = (packet, refl)

pub none_lent : (lent : Option (List ℕ)) → (IsSome lent → ⊥) → lent ≡ None
none_lent None is = refl
none_lent (Some packet) is = absurd (is refl)

-- the input has not ended there
pub at_four : (P : Type 0) → ◌≡◌ {A = ℕ} 4 0 ⊎ ◌≡◌ {A = ℕ} 4 3 → P
at_four P (inl e) = absurd (omega (arith, e))
at_four P (inr e) = absurd (omega (arith, e))

pub at_five : (P : Type 0) → ◌≡◌ {A = ℕ} 5 0 ⊎ ◌≡◌ {A = ℕ} 5 3 → P
at_five P (inl e) = absurd (omega (arith, e))
at_five P (inr e) = absurd (omega (arith, e))

-- in front of a packet, what is to come is all that has not been taken
delivers_at : BetweenPackets → (before : CodecState) (id limit : ℕ) → id < 256 → before.id ≡ id → before.limit ≡ limit → before.header ≡ None → before.held ≡ []
    → (more unfinished rest : List ℕ) (ending : Ending) → Delivers [] (before.unread ++ more) id limit [] ending unfinished rest
    → Delivers before.held (input_of before ++ more) (first_id before) before.limit [] ending unfinished rest
delivers_at between before id limit small is same none nothing more unfinished rest ending d =
    let here = between before (subst (λ (n : ℕ). n < 256) (sym is) small) none nothing in
    subst (λ (z : List ℕ). Delivers z (input_of before ++ more) (first_id before) before.limit [] ending unfinished rest) (sym nothing)
    (subst (λ (z : List ℕ). Delivers [] (z ++ more) (first_id before) before.limit [] ending unfinished rest) (sym here.2)
    (subst (λ (n : ℕ). Delivers [] (before.unread ++ more) n before.limit [] ending unfinished rest) (sym (here.1 ∙ is))
    (subst (λ (n : ℕ). Delivers [] (before.unread ++ more) id n [] ending unfinished rest) (sym same) d)))

-- a packet that was taken whole
pub reframing_long : JoinedSplits → StreamAppend → IdAfterAppend → BetweenPackets → (limit : ℕ) (before after : CodecState) (encodes next id : ℕ) (input text more packet : List ℕ)
    → Reframing limit before encodes input text → id < 256 → before.id ≡ id → before.header ≡ None → before.held ≡ []
    → (before.unread ++ more ≡ framing id packet ++ after.unread) × (length packet ≤ limit) × (after.id ≡ next_id id packet)
    → after.header ≡ None → after.held ≡ [] → after.limit ≡ limit → next ≡ next_id encodes packet
    → Reframing limit after next (input ++ more) (text ++ framing encodes packet)
reframing_long joined stream-append id_after-append between limit before after encodes next id input text more packet u small is none nothing takes none_after held same numbered =
    let here = between before (subst (λ (n : ℕ). n < 256) (sym is) small) none nothing in
    let first : first_id before ≡ id = here.1 ∙ is in
    let limit_is = u.same_limit in
    reframing_more joined stream-append id_after-append between limit before after encodes next input text more packet u (
      ap (λ (z : List ℕ). z ++ more) here.2 ∙ takes.0 ∙ ap (λ (n : ℕ). framing n packet ++ after.unread) (sym first),
      subst (λ (z : List ℕ). Continues z before.limit packet) (sym nothing) (record { begins = refl; small = let fits = takes.1 in omega (arith, limit_is) }),
      takes.2 ∙ ap (λ (n : ℕ). next_id n packet) (sym first),
      none_after,
    ) held (same ∙ sym limit_is) numbered

-- the exit statuses
status_of : (ending : Ending) (left status : ℕ) → status ≡ ending_status ending left
    → (status ≡ 0) ⊎ (status ≡ 2) ⊎ (status ≡ 3) ⊎ (status ≡ 4) ⊎ (status ≡ 5) ⊎ (status ≡ 6)
status_of Waiting zero status is = inl is
status_of Waiting (suc left) status is =
    inr (inr (inl (is ∙ ap (λ (none : Bool). if none then 0 else 3) (ne_eqb (suc left) 0 (λ none. absurd (omega arith))))))
status_of TooLarge left status is = inr (inr (inr (inl is)))
status_of OutOfSync left status is = inr (inr (inr (inr (inl is))))

-- the packets ended in front of one
pub ended_long : JoinedRuns → BetweenPackets → (limit : ℕ) (before : CodecState) (encodes status id : ℕ) (input text more : List ℕ) (unread last written now : Option (List ℕ))
    → Reframing limit before encodes input text → id < 256 → before.id ≡ id → before.header ≡ None → before.held ≡ []
    → EndsLong id limit (before.unread ++ more) status last → Consumes unread last (input ++ more) → Appends written now text
    → ReframeEnds limit status unread last written now
ended_long joined between limit before encodes status id input text more unread last written now u small same none nothing (ending, unfinished, rest, d, is, at_end) came went =
    let here = between before (subst (λ (n : ℕ). n < 256) (sym same) small) none nothing in
    record {
      cases = status_of ending _ status is;
      text = λ _. (
        input ++ more,
        text,
        came,
        record {
          payloads = u.payloads;
          ending = ending;
          unfinished = unfinished;
          rest = rest;
          delivered = all_delivered joined limit before encodes input text more u ending unfinished rest
              (delivers_at between before id limit small same u.same_limit none nothing more unfinished rest ending d);
          is = u.is;
          ends = is ∙ ap (λ (n : ℕ). ending_status ending (length (front n unfinished ++ rest))) (sym (here.1 ∙ same) ∙ u.goes_on);
        },
        went,
      );
      all_read = at_end;
    }

no_rest : (x y z : List ℕ) → 4 ≤ length y → x ++ (y ++ z) ≢ []
no_rest x y z long none =
    let size = ap (λ (w : List ℕ). length w) none in
    let all = length-append x (y ++ z) in
    let back = length-append y z in
    absurd (omega (arith, long, size, all, back))

-- once bytes of a chunk of another id were dropped
pub dropped : SpansStop → (id limit lacking status : ℕ) (input : List ℕ) (left last : Option (List ℕ)) → LosesSync id limit input lacking → (drops : Drops lacking status left last)
    → EndsLong id limit (input ++ drops.0) status last
dropped stop id limit lacking status input left last (held, rest, splits, other, lacks) (gone, took, inl (is, all)) =
    let long = other.0 in
    let size = length-append rest gone in (
      OutOfSync,
      held,
      rest ++ gone,
      stop span.PacketsOutOfSync input id limit [] held rest splits other gone (omega (arith, long, size, all, lacks)),
      is,
      λ h. at_five _ (rw is at h),
    )
dropped stop id limit lacking status input left last (held, rest, splits, other, lacks) (gone, took, inr (is, few, at_end)) =
    let long = other.0 in
    let size = length-append rest gone in
    let same : chunk_len (rest ++ gone) ≡ chunk_len rest = chunk_len_append rest gone long in
    let whole : chunk_len rest ≢ 0 = λ none. absurd (omega (arith, long, few, lacks, none)) in
    let fits : length held + chunk_len rest ≤ limit = elim other.1 [ inl none ↦ absurd (whole none) | inr small ↦ small ] in (
      Waiting,
      held,
      rest ++ gone,
      record {
        splits = splits_extend [] input id limit [] held rest gone splits;
        ends = inr (omega (arith, same, whole), omega (arith, same, fits), omega (arith, long, size, same, few, lacks));
      },
      is ∙ some_left (front id held ++ (rest ++ gone)) (no_rest (front id held) rest gone long),
      λ _. at_end,
    )

-- the input ended, or the packets did
pub ends_here : (id limit status : ℕ) (input : List ℕ) (left : Option (List ℕ)) (ending : Ending) → (d : (unfinished : List ℕ) × (rest : List ℕ) × Delivers [] input id limit [] ending unfinished rest)
    → ((all : List ℕ) → all ≡ input → status ≡ ending_status ending (length all)) → ((status ≡ 0) ⊎ (status ≡ 3) → IsAtEnd left) → EndsLong id limit input status left
ends_here id limit status input left ending d is at_end = (ending, d.0, d.1, d.2, is (front id d.0 ++ d.1) (sym d.2.splits.is), at_end)

-- the id is that of the decoder, in front of a packet
pub renumbered : BetweenPackets → (limit : ℕ) (state : CodecState) (encodes : ℕ) (input text : List ℕ) → state.id < 256 → state.header ≡ None → state.held ≡ []
    → Reframing limit state encodes input text → Reframing limit state state.id input text
renumbered between limit state encodes input text small none nothing u = record {
  payloads = u.payloads;
  split = u.split;
  goes_on = u.goes_on;
  stands = u.stands;
  same_limit = u.same_limit;
  numbered = sym (between state small none nothing).1 ∙ u.goes_on;
  is = u.is;
}

-- all that is left was there
pub gone_is : (all gone left : List ℕ) (len : ℕ) → all ≡ gone ++ left → length left + len ≡ length all → take len all ≡ gone
gone_is all gone left len is size =
    let both = length-append gone left in
    let total = ap (λ (z : List ℕ). length z) is in
    let same : len ≡ length gone = omega (arith, both, total, size) in
    ap (λ (z : List ℕ). take len z) is ∙ ap (λ (n : ℕ). take n (gone ++ left)) same ∙ take_front gone left

-- a codec with the same id and limit, in front of the same bytes
pub begun_again : (limit : ℕ) (codec other : PacketCodec) (unread held input text : List ℕ) → expected_id other ≡ expected_id codec → header_of other ≡ header_of codec
    → other.max_allowed_packet ≡ codec.max_allowed_packet → held ≡ [] → Reframing limit (codec_state codec unread held) (expected_id codec) input text
    → Reframing limit (codec_state other unread []) (expected_id other) input text
begun_again limit codec other unread held input text id header most nothing u =
    rw (id, header, most) (subst (λ (z : List ℕ). Reframing limit (codec_state codec unread z) (expected_id codec) input text) nothing u)

-- a front, and the front of what is left
taken_more : (len more : ℕ) (all : List ℕ) → len ≤ length all → more ≤ length (drop len all) → take (len + more) all ≡ take len all ++ take more (drop len all)
taken_more len more all fits whole =
    let rest = drop len all in
    let lacks = length-drop len all in
    let dropped = length-drop more rest in
    let is : all ≡ (take len all ++ take more rest) ++ drop more rest =
    sym (append_assoc (take len all) (take more rest) (drop more rest) ∙ ap (λ (z : List ℕ). take len all ++ z) (take-append-drop more rest) ∙ take-append-drop len all) in
    gone_is all (take len all ++ take more rest) (drop more rest) (len + more) is (omega (arith, fits, whole, lacks, dropped))

-- nothing is passed over yet
pub passed_none : (codec : PacketCodec) (unread : List ℕ) → IsAtHeader codec → PassesWhole codec unread 0 codec
passed_none codec unread at = (
  zero-le,
  at,
  λ limit input text u. subst (λ (z : List ℕ). Reframing limit (codec_state codec unread []) (expected_id codec) input z) (sym (append-nil text)) u,
)

-- a packet more
pub passed_more : JoinedSplits → StreamAppend → IdAfterAppend → BetweenPackets → (first codec next : PacketCodec) (unread packet : List ℕ) (len more : ℕ)
    → PassesWhole first unread len codec → more ≤ length (drop len unread)
    → DecodesPacket (codec_state codec (drop len unread) []) (Ok true) (codec_state next (drop more (drop len unread)) packet)
    → next.max_allowed_packet ≡ codec.max_allowed_packet → PassesWhole first unread (len + more) next
passed_more joined stream-append id_after-append between first codec next unread packet len more (fits, at, so_far) whole d same =
    let rest = drop len unread in
    let before = codec_state codec rest [] in
    let after = codec_state next (drop more rest) [] in
    let id = expected_id codec in
    let here = between before at.1 at.0 refl in
    let behind : drop more rest ≡ drop (len + more) unread = drop-drop more len unread in
    let is : rest ≡ framing id packet ++ drop more rest = sym here.2 ∙ d.0 ∙ ap (λ (n : ℕ). framing n packet ++ drop more rest) here.1 in
    let dropped = length-drop more rest in
    let lacks = length-drop len unread in
    let gone : take more rest ≡ framing id packet = gone_is rest (framing id packet) (drop more rest) more is (omega (arith, dropped, whole)) in
    let total : take (len + more) unread ≡ take len unread ++ framing id packet = taken_more len more unread fits whole ∙ ap (λ (z : List ℕ). take len unread ++ z) gone in
    let rising = d.2 in (
      omega (arith, fits, whole, lacks),
      (d.3, omega (arith, rising)),
      λ limit input text u.
          let one = reframing_more joined stream-append id_after-append between limit before after id (expected_id next) input (text ++ take len unread) [] packet
          (so_far limit input text u) (append-nil (input_of before) ∙ d.0, d.1, d.2, d.3) refl same (d.2 ∙ ap (λ (n : ℕ). next_id n packet) here.1) in
          rw (← behind, total, ← append_assoc text (take len unread) (framing id packet), ← append-nil input) one,
    )

-- these bytes more are pending
pub more_sends : (text pending more : List ℕ) (before now : Option (List ℕ)) → SoWritten text pending before now → SoWritten (text ++ more) (pending ++ more) before now
more_sends text pending more before now so_far = (so_far.0, ap (λ (z : List ℕ). z ++ more) so_far.1 ∙ append_assoc so_far.0 pending more, so_far.2)

-- a packet under the limit, as it is passed on
pub fits_under : (packet bytes : List ℕ) (limit most : ℕ) → packet ≡ bytes → length bytes ≤ limit → most ≡ limit → length packet ≤ most
fits_under packet bytes limit most is fits same = omega (arith, ap length is)

-- a codec that remembers no header stands where nothing is held
pub begins_stands : (limit : ℕ) (header : Option (ℕ × ℕ)) (unread held : List ℕ) → header ≡ None → held ≡ [] → StandsAt limit header unread held
begins_stands limit header unread held none empty = rw (none, empty) (rw max_payload_is refl, tt)
