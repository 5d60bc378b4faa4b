-- How a source goes from packet to packet.
use Rattle.std.proofs.Common.{◌≡◌, ◌≢◌, ℕ, ◌+◌, ◌-◌, ◌/◌, ◌%◌, ◌<◌, ◌≤◌, Bool, true, false, List, [], ◌∷◌, ◌++◌, length, take, drop, refl, sym, ap, ap₂, ◌∙◌, subst, append-nil, append_assoc, length-append, length-drop, inr, arith, Option, Some, None, Result, Ok, Err, IfOk}
use Rattle.std.proofs.Math.Seq.{drop-append_seam, take-add}
use Rattle.std.proofs.lemmas.List.{length-take-le, take-append-drop}
use Rattle.std.proofs.KnownBytes.{Consumes-trans}
use Rattle.std.specs.Io.KnownBytes.{Consumes, IsAtEnd}
use Rattle.wire_codec.specs.Delivery.{Delivers, Waiting}
use Rattle.wire_codec.specs.Framing.{chunk, framing, header, max_payload}
use Rattle.wire_codec.specs.declared.codec.header.Header.{Header}
use Rattle.wire_codec.proofs.ChunkLemmas.{framing_short, no_blocks}
use Rattle.wire_span.specs.declared.span.SpanError.TheVariants.{PacketsOutOfSync}
use Rattle.wire_span.specs.Spans.{SpanState, CameTo, EatsSpans, IsBetween, IsOfAnotherId, StopsBefore, packets_of, opened_after, span_state}
use Rattle.wire_span.specs.SpanLaws.{SpansDeliver, SpansEnd}
use Rattle.mysql_wire_dump_lines.specs.declared.packet_stream.End.{End}
use Rattle.mysql_wire_dump_lines.specs.declared.packet_stream.End.TheVariants.{OutOfSync, Unfinished}
use Rattle.mysql_wire_dump_lines.specs.declared.packet_stream.Next.{Next}
use Rattle.mysql_wire_dump_lines.specs.declared.packet_stream.Next.TheVariants.{Unread, Packet, Ended}
use Rattle.mysql_wire_dump_lines.specs.declared.packet_stream.PacketStream.{PacketStream}
use Rattle.mysql_wire_dump_lines.specs.declared.packet_stream.Step.{Step}
use Rattle.mysql_wire_dump_lines.specs.declared.packet_stream.Step.TheVariants.{Waits, Goes, Whole, LosesSync}
use Rattle.wire_text.specs.declared.stop.Stop.{Stop}
use Rattle.mysql_wire_dump_lines.specs.PacketStreams.{BeginsWith, Collected, Collects, EndsAs, Found, HasPacket, IsFresh, IsIdle, IsReady, LiesWhole, Stands, StandsNext, Stepped, SteppedAs, Steps, Took, TookAs, behind_lent, collected, collecting, collects, framed, most, payload_in, unread_of}

-- nothing is consumed
pub consumes_none : (known : Option (List ℕ)) → Consumes known known []
consumes_none None = tt
consumes_none (Some bytes) = refl

-- what came of the packet, with what was eaten
pub came_more : (id : ℕ) (begun opened unread left : List ℕ) (spans : List (List ℕ × Bool)) (before after : SpanState)
    → before.limit ≡ most → CameTo id most begun [] opened before → (eats : EatsSpans before unread spans left after)
    → CameTo id most (begun ++ eats.0) (packets_of opened spans) (opened_after opened spans) after
came_more id begun opened unread left spans before after most_is came eats =
    let within : before.limit ≤ most = omega (arith, most_is) in
    eats.2 id most begun [] opened within came

-- what was looked for and found is told from what was not
pub packet_looked : (id : ℕ) → Packet id ≡ Unread → ⊥
packet_looked id same = cc

pub ended_looked : (end : End) → Ended end ≡ Unread → ⊥
ended_looked end same = cc

-- its header still stands in front
pub begins_more : (id : ℕ) (begun unread left eaten : List ℕ) → unread ≡ eaten ++ left
    → BeginsWith id (begun ++ unread) → BeginsWith id ((begun ++ eaten) ++ left)
begins_more id begun unread left eaten is begins = (
  begins.0,
  begins.1,
  begins.2,
  begins.3,
  append_assoc begun eaten left ∙ ap (λ (z : List ℕ). begun ++ z) (sym is) ∙ begins.4,
)

-- and after more bytes
pub begins_longer : (id : ℕ) (begun unread more : List ℕ) → BeginsWith id (begun ++ unread) → BeginsWith id (begun ++ (unread ++ more))
begins_longer id begun unread more begins = (
  begins.0,
  begins.1,
  begins.2,
  begins.3 ++ more,
  sym (append_assoc begun unread more) ∙ ap (λ (z : List ℕ). z ++ more) begins.4,
)

-- the limit is the same
within_before : (old new limit other : ℕ) → new ≡ old → other ≡ limit → new ≤ other → old ≤ limit
within_before old new limit other same same_limit within = omega (arith, same, same_limit, within)

within_longer : (old new limit other more : ℕ) → new ≡ old + more → other ≡ limit → new ≤ other → old ≤ limit
within_longer old new limit other more longer same_limit within = omega (arith, longer, same_limit, within)

pub steps_waits : (before after : Collected) → EatsSpans before.state before.unread [] after.unread after.state
    → after.unread ≡ [] → after.len ≡ before.len → after.limit ≡ before.limit → after.held ≡ before.held
    → Steps Waits before after
steps_waits before after eats empty len limit held id begun opened most_is collects = (
  eats.0,
  eats.1,
  (
    empty,
    (
      opened,
      record {
        came = came_more id begun opened before.unread after.unread [] before.state after.state most_is collects.came eats;
        small = collects.small;
        len = len ∙ collects.len;
        held = λ within. held ∙ collects.held (within_before before.len after.len before.limit after.limit len limit within);
        begins = begins_more id begun before.unread after.unread eats.0 eats.1 collects.begins;
      },
    ),
  ),
)

pub steps_goes : (before after : Collected) (bytes : List ℕ) → EatsSpans before.state before.unread ((bytes, false) ∷ []) after.unread after.state
    → after.len ≡ before.len + length bytes → after.limit ≡ before.limit → (after.len ≤ after.limit → after.held ≡ before.held ++ bytes)
    → Steps Goes before after
steps_goes before after bytes eats len limit held id begun opened most_is collects = (
  eats.0,
  eats.1,
  (
    opened ++ bytes,
    record {
      came = came_more id begun opened before.unread after.unread ((bytes, false) ∷ []) before.state after.state most_is collects.came eats;
      small = collects.small;
      len = len ∙ ap (λ (n : ℕ). n + length bytes) collects.len ∙ sym (length-append opened bytes);
      held = λ within. held within ∙ ap (λ (z : List ℕ). z ++ bytes) (collects.held (within_longer before.len after.len before.limit after.limit (length bytes) len limit within));
      begins = begins_more id begun before.unread after.unread eats.0 eats.1 collects.begins;
    },
  ),
)

pub steps_whole : SpansEnd → (before after : Collected) (bytes : List ℕ)
    → EatsSpans before.state before.unread ((bytes, true) ∷ []) after.unread after.state
    → after.len ≡ before.len + length bytes → after.limit ≡ before.limit → (after.len ≤ after.limit → after.held ≡ before.held ++ bytes)
    → IsBetween after.state → Steps Whole before after
steps_whole law before after bytes eats len limit held between id begun opened most_is collects =
    let payload : List ℕ = opened ++ bytes in
    let came = came_more id begun opened before.unread after.unread ((bytes, true) ∷ []) before.state after.state most_is collects.came eats in
    let ended = law id most (begun ++ eats.0) (payload ∷ []) [] after.state collects.small between came in (
      eats.0,
      eats.1,
      (
        payload,
        record {
          begun_is = ended.0 ∙ append-nil (framing id payload);
          len = len ∙ ap (λ (n : ℕ). n + length bytes) collects.len ∙ sym (length-append opened bytes);
          held = λ within. held within ∙ ap (λ (z : List ℕ). z ++ bytes) (collects.held (within_longer before.len after.len before.limit after.limit (length bytes) len limit within));
          between = between;
          behind = ended.2;
        },
      ),
    )

pub steps_loses : (before after : Collected) → StopsBefore before.state before.unread PacketsOutOfSync
    → after.unread ≡ before.unread → Steps LosesSync before after
steps_loses before after stops same id begun opened most_is collects =
    let within : before.state.limit ≤ most = omega (arith, most_is) in
    let stop = stops id most begun [] opened within collects.came in
    let bytes_are : begun ++ before.unread ≡ (begun ++ []) ++ after.unread =
    sym (ap (λ (z : List ℕ). z ++ after.unread) (append-nil begun) ∙ ap (λ (z : List ℕ). begun ++ z) same) in (
      [],
      sym same,
      subst (λ (bytes : List ℕ). EndsAs OutOfSync bytes) bytes_are (
        id,
        collects.begins,
        (
          opened,
          stop.0,
          stop.1,
          subst (λ (n : ℕ). IsOfAnotherId id n opened stop.0) most_is stop.2,
        ),
      ),
    )

-- what was eaten of what was read
pub took : (step : Step) (before after : Collected) (src : List ℕ) (count old_taken new_taken : ℕ) → Steps step before after
    → length after.unread ≤ length before.unread → count ≡ length before.unread - length after.unread → src ≡ drop count before.unread
    → new_taken ≡ old_taken + count → (id : ℕ) (begun opened : List ℕ) → before.state.limit ≡ most → Collects id begun opened before
    → (eaten : List ℕ) × (before.unread ≡ eaten ++ src) × (new_taken ≡ old_taken + length eaten)
    × TookAs step id (begun ++ eaten) (record after { unread = src })
took step before after src count old_taken new_taken steps shorter count_is src_is taken id begun opened most_is collects =
    let stepped = steps id begun opened most_is collects in
    let eaten : List ℕ = stepped.0 in
    let lengths : length before.unread ≡ length eaten + length after.unread = ap length stepped.1 ∙ length-append eaten after.unread in
    let eaten_is : count ≡ length eaten = omega (arith, lengths, count_is) in
    let left : src ≡ after.unread = src_is ∙ ap₂ (λ (n : ℕ) (z : List ℕ). drop n z) eaten_is stepped.1 ∙ drop-append_seam eaten after.unread in (
      eaten,
      stepped.1 ∙ ap (λ (z : List ℕ). eaten ++ z) (sym left),
      taken ∙ ap (λ (n : ℕ). old_taken + n) eaten_is,
      subst (λ (z : List ℕ). TookAs step id (begun ++ eaten) (record after { unread = z })) (sym left) stepped.2,
    )

-- a packet that comes, and what was read of it since
pub record Going {A : Type 0} (id : ℕ) (old now : PacketStream A) (unread left : Option (List ℕ)) : Type 0 where
  pub came : List ℕ
  pub begun : List ℕ
  pub opened : List ℕ
  pub consumed : Consumes unread left came
  pub split : old.src.items ++ came ≡ begun ++ now.src.items
  pub taken : now.taken ≡ length begun
  pub most_is : now.decoder.max_allowed_packet ≡ most
  pub at : now.at ≡ old.at
  pub limit : now.limit ≡ old.limit
  pub lends_none : now.lent ≡ None
  pub collects : Collects id begun opened (collecting now)

-- a source that lends nothing has what it collected
pub collected-none : {A : Type 0} (source : PacketStream A) → source.lent ≡ None → collected source ≡ collecting source
collected-none source none =
    ap (λ (lent : Option ℕ). collects source.decoder source.len source.limit (payload_in lent source.src.items source.held.items) (behind_lent lent source.src.items)) none

pub unread-none : {A : Type 0} (source : PacketStream A) → source.lent ≡ None → unread_of source ≡ source.src.items
unread-none source none = ap (λ (lent : Option ℕ). behind_lent lent source.src.items) none

-- the bytes that were there, split anew where some were eaten
pub split_on : (old came begun src eaten rest : List ℕ) → old ++ came ≡ begun ++ src → src ≡ eaten ++ rest → old ++ came ≡ (begun ++ eaten) ++ rest
split_on old came begun src eaten rest split is = split ∙ ap (λ (z : List ℕ). begun ++ z) is ∙ sym (append_assoc begun eaten rest)

-- and where more came
pub split_more : (old came begun src more : List ℕ) → old ++ came ≡ begun ++ src → old ++ (came ++ more) ≡ begun ++ (src ++ more)
split_more old came begun src more split = sym (append_assoc old came more) ∙ ap (λ (z : List ℕ). z ++ more) split ∙ append_assoc begun src more

-- and both
split_step : (old came begun src more eaten rest : List ℕ) → old ++ came ≡ begun ++ src → src ++ more ≡ eaten ++ rest
    → old ++ (came ++ more) ≡ (begun ++ eaten) ++ rest
split_step old came begun src more eaten rest split is =
    split_more old came begun src more split ∙ ap (λ (z : List ℕ). begun ++ z) is ∙ sym (append_assoc begun eaten rest)

taken_on : (new old more begun eaten : ℕ) → new ≡ old + eaten → old ≡ begun → more ≡ begun + eaten → new ≡ more
taken_on new old more begun eaten taken old_is more_is = omega (arith, taken, old_is, more_is)

-- a part of it more
pub goes_on : {A : Type 0} (id : ℕ) (old now next : PacketStream A) (unread left later : Option (List ℕ)) → Going id old now unread left
    → Stepped Goes now next left later → Going id old next unread later
goes_on id old now next unread left later going step =
    let eats = step.eats id going.begun going.opened going.most_is going.collects in
    record {
      came = going.came ++ step.came;
      begun = going.begun ++ eats.0;
      opened = eats.3.0;
      consumed = Consumes-trans unread left later going.came step.came going.consumed step.consumed;
      split = split_step old.src.items going.came going.begun now.src.items step.came eats.0 next.src.items going.split eats.1;
      taken = taken_on next.taken now.taken (length (going.begun ++ eats.0)) (length going.begun) (length eats.0) eats.2 going.taken (length-append going.begun eats.0);
      most_is = step.most_is ∙ going.most_is;
      at = step.at ∙ going.at;
      limit = step.limit ∙ going.limit;
      lends_none = step.lent ∙ going.lends_none;
      collects = eats.3.1;
    }

-- it ends so, or is lost
pub found_by : {A : Type 0} (id : ℕ) (how : Step) (stands : Next) (old now next : PacketStream A) (unread left later : Option (List ℕ))
    → Going id old now unread left → Stepped how now next left later
    → ((begun : List ℕ) → SteppedAs how id begun (collecting next) → StandsNext stands begun (collecting next)) → Found stands old next unread later
found_by id how stands old now next unread left later going step is =
    let eats = step.eats id going.begun going.opened going.most_is going.collects in
    let none : next.lent ≡ None = step.lent ∙ going.lends_none in
    record {
      came = going.came ++ step.came;
      begun = going.begun ++ eats.0;
      consumed = Consumes-trans unread left later going.came step.came going.consumed step.consumed;
      split = split_step old.src.items going.came going.begun now.src.items step.came eats.0 next.src.items going.split eats.1
          ∙ ap (λ (z : List ℕ). (going.begun ++ eats.0) ++ z) (sym (unread-none next none));
      taken = taken_on next.taken now.taken (length (going.begun ++ eats.0)) (length going.begun) (length eats.0) eats.2 going.taken (length-append going.begun eats.0);
      most_is = step.most_is ∙ going.most_is;
      at = step.at ∙ going.at;
      limit = step.limit ∙ going.limit;
      next_is = subst (λ (has : Collected). StandsNext stands (going.begun ++ eats.0) has) (sym (collected-none next none)) (is (going.begun ++ eats.0) eats.3);
    }

-- the header of what comes stays in front where more comes
pub collects_more : (id : ℕ) (begun opened : List ℕ) (has : Collected) (src more : List ℕ) → src ≡ has.unread ++ more
    → Collects id begun opened has → Collects id begun opened (record has { unread = src })
collects_more id begun opened has src more is collects =
    record {
      came = collects.came;
      small = collects.small;
      len = collects.len;
      held = collects.held;
      begins = subst (λ (z : List ℕ). BeginsWith id (begun ++ z)) (sym is) (begins_longer id begun has.unread more collects.begins);
    }

-- of a packet whose input has ended something is missing
pub unfinished : SpansDeliver → (id : ℕ) (begun opened : List ℕ) (has : Collected) → has.unread ≡ [] → Collects id begun opened has
    → EndsAs Unfinished (begun ++ has.unread)
unfinished law id begun opened has empty collects =
    let delivered = law id most begun [] opened has.state collects.came in
    let whole : begun ++ has.unread ≡ begun = ap (λ (z : List ℕ). begun ++ z) empty ∙ append-nil begun in
    inr (
      id,
      collects.begins,
      (
        delivered.0,
        delivered.1,
        subst (λ (z : List ℕ). Delivers [] z id most [] Waiting delivered.0 delivered.1) (sym whole) delivered.2,
      ),
    )

goes_waits : Goes ≡ Waits → ⊥
goes_waits same = cc

stepped_as : (how : Step) (id : ℕ) (begun : List ℕ) (has : Collected) → how ≢ Waits → TookAs how id begun has → SteppedAs how id begun has
stepped_as Waits id begun has other took = absurd (other refl)
stepped_as Goes id begun has other took = took
stepped_as Whole id begun has other took = took
stepped_as LosesSync id begun has other took = took

-- a step over what was read alone
pub step_taken : {A : Type 0} (how : Step) (old new : PacketStream A) (left : Option (List ℕ)) → Took how old new → how ≢ Waits → Stepped how old new left left
step_taken how old new left took other = record {
  came = [];
  consumed = consumes_none left;
  eats = λ id begun opened most_is collects.
      let eats = took.eats id begun opened most_is collects in (
        eats.0,
        append-nil old.src.items ∙ eats.1,
        eats.2,
        stepped_as how id (begun ++ eats.0) (collecting new) other eats.3,
      );
  most_is = took.most_is;
  at = took.at;
  limit = took.limit;
  next = took.next;
  lent = took.lent;
  end = λ waits. absurd (other waits);
}

-- and one that reads more
pub step_read : {A : Type 0} (old mid new : PacketStream A) (left later : Option (List ℕ)) (more : List ℕ) → Took Waits old mid
    → new.src.items ≡ mid.src.items ++ more → Consumes left later more → collecting new ≡ record (collecting mid) { unread = new.src.items }
    → new.taken ≡ mid.taken → new.decoder.max_allowed_packet ≡ mid.decoder.max_allowed_packet → new.at ≡ mid.at → new.limit ≡ mid.limit → new.next ≡ mid.next
    → new.lent ≡ mid.lent → Stepped Goes old new left later
step_read old mid new left later more took src consumed same taken most_is at limit next lent = record {
  came = more;
  consumed = consumed;
  eats = λ id begun opened most collects.
      let eats = took.eats id begun opened most collects in (
        eats.0,
        ap (λ (z : List ℕ). z ++ more) eats.1 ∙ append_assoc eats.0 mid.src.items more ∙ ap (λ (z : List ℕ). eats.0 ++ z) (sym src),
        taken ∙ eats.2,
        (
          eats.3.1.0,
          subst (λ (has : Collected). Collects id (begun ++ eats.0) eats.3.1.0 has) (sym same)
              (collects_more id (begun ++ eats.0) eats.3.1.0 (collecting mid) new.src.items more src eats.3.1.1),
        ),
      );
  most_is = most_is ∙ took.most_is;
  at = at ∙ took.at;
  limit = limit ∙ took.limit;
  next = next ∙ took.next;
  lent = lent ∙ took.lent;
  end = λ waits. absurd (goes_waits waits);
}

pub none_of : (more : List ℕ) → length more ≡ 0 → more ≡ []
none_of [] none = refl
none_of (byte ∷ more) none = absurd (omega (arith, none))

-- or finds the end of the input
pub step_ended : {A : Type 0} → SpansDeliver → (old mid new : PacketStream A) (left later : Option (List ℕ)) (more : List ℕ) → Took Waits old mid
    → length more ≡ 0 → new.src.items ≡ mid.src.items ++ more → Consumes left later more → IsAtEnd later
    → new.taken ≡ mid.taken → new.decoder.max_allowed_packet ≡ mid.decoder.max_allowed_packet → new.at ≡ mid.at → new.limit ≡ mid.limit → new.next ≡ mid.next
    → new.lent ≡ mid.lent → Stepped Waits old new left later
step_ended law old mid new left later more took none src consumed ended taken most_is at limit next lent = record {
  came = more;
  consumed = consumed;
  eats = λ id begun opened most collects.
      let eats = took.eats id begun opened most collects in
      let empty : new.src.items ≡ [] = src ∙ ap₂ (λ (z w : List ℕ). z ++ w) eats.3.0 (none_of more none) in (
        eats.0,
        ap (λ (z : List ℕ). z ++ more) eats.1 ∙ append_assoc eats.0 mid.src.items more ∙ ap (λ (z : List ℕ). eats.0 ++ z) (sym src),
        taken ∙ eats.2,
        unfinished law id (begun ++ eats.0) eats.3.1.0 (record (collecting mid) { unread = new.src.items }) empty
            (collects_more id (begun ++ eats.0) eats.3.1.0 (collecting mid) new.src.items more src eats.3.1.1),
      );
  most_is = most_is ∙ took.most_is;
  at = at ∙ took.at;
  limit = limit ∙ took.limit;
  next = next ∙ took.next;
  lent = lent ∙ took.lent;
  end = λ waits. ended;
}

-- a packet after others
pub framed_more : (packets : List (ℕ × List ℕ)) (packet : ℕ × List ℕ) → framed (packets ++ packet ∷ []) ≡ framed packets ++ framing packet.0 packet.1
framed_more [] packet = append-nil (framing packet.0 packet.1)
framed_more (first ∷ packets) packet =
    ap (λ (z : List ℕ). framing first.0 first.1 ++ z) (framed_more packets packet) ∙ sym (append_assoc (framing first.0 first.1) (framed packets) (framing packet.0 packet.1))

-- what stood next is passed
pub passed : {A : Type 0} (old new : PacketStream A) (packets : List (ℕ × List ℕ)) (came : List ℕ) (id : ℕ) (payload : List ℕ)
    → (stands : Stands packets came old) → HasPacket id payload stands.begun (collected old)
    → new.src.items ≡ unread_of old → new.lent ≡ None → new.at ≡ old.at + old.taken → new.taken ≡ 0 → new.len ≡ 0 → new.held.items ≡ []
    → span_state new.decoder ≡ span_state old.decoder → new.decoder.max_allowed_packet ≡ old.decoder.max_allowed_packet
    → new.next ≡ Unread → Stands (packets ++ (id, payload) ∷ []) came new
passed old new packets came id payload stands has src none at taken len held state most_is next =
    let framing_is : stands.begun ≡ framing id payload = has.begun_is in
    let has_none = collected-none new none in
    record {
      begun = [];
      is = stands.is ∙ sym (append_assoc (framed packets) stands.begun (unread_of old))
          ∙ ap₂ (λ (z w : List ℕ). z ++ w) (ap (λ (z : List ℕ). framed packets ++ z) framing_is ∙ sym (framed_more packets (id, payload)))
          (sym src ∙ sym (unread-none new none));
      at = let front = length-append (framed packets) (framing id payload) in
          let more = ap length (framed_more packets (id, payload)) in
          let begun_len = ap length framing_is in
          let at_is = stands.at in
          let taken_is = stands.taken in
          omega (arith, front, more, begun_len, at_is, taken_is, at);
      taken = taken;
      most_is = most_is ∙ stands.most_is;
      next = subst (λ (n : Next). StandsNext n [] (collected new)) (sym next)
          (subst (λ (has : Collected). IsFresh [] has) (sym has_none)
          (record { begun_is = refl; len = len; held = held; between = subst IsBetween (sym state) has.between }));
      lends = λ _. none;
    }

-- what is next was found
pub looked : {A : Type 0} (old new : PacketStream A) (next : Next) (packets : List (ℕ × List ℕ)) (came : List ℕ) (unread left : Option (List ℕ))
    → Stands packets came old → old.next ≡ Unread → next ≢ Unread → Found next old new unread left
    → (more : List ℕ) × Consumes unread left more × Stands packets (came ++ more) (record new { next = next })
looked old new next packets came unread left stands is seen found =
    let fresh = subst (λ (n : Next). StandsNext n stands.begun (collected old)) is stands.next in
    let was : came ≡ framed packets ++ old.src.items = stands.is ∙ ap (λ (z : List ℕ). framed packets ++ (z ++ unread_of old)) fresh.begun_is
    ∙ ap (λ (z : List ℕ). framed packets ++ z) (unread-none old (stands.lends is)) in (
      found.came,
      found.consumed,
      record {
        begun = found.begun;
        is = ap (λ (z : List ℕ). z ++ found.came) was ∙ append_assoc (framed packets) old.src.items found.came
            ∙ ap (λ (z : List ℕ). framed packets ++ z) found.split;
        at = found.at ∙ stands.at;
        taken = found.taken;
        most_is = found.most_is;
        next = found.next_is;
        lends = λ unseen. absurd (seen unseen);
      },
    )

-- or was found before
pub looked_before : {A : Type 0} (source : PacketStream A) (packets : List (ℕ × List ℕ)) (came : List ℕ) (left : Option (List ℕ)) → Stands packets came source
    → (more : List ℕ) × Consumes left left more × Stands packets (came ++ more) source
looked_before source packets came left stands =
    ([], consumes_none left, subst (λ (bytes : List ℕ). Stands packets bytes source) (sym (append-nil came)) stands)

-- a source that stands before a packet it has not looked at
pub idle : {A : Type 0} (source : PacketStream A) (packets : List (ℕ × List ℕ)) (came : List ℕ) → source.next ≡ Unread → Stands packets came source → IsIdle source
idle source packets came is stands =
    let none = stands.lends is in
    let fresh = subst (λ (has : Collected). IsFresh stands.begun has) (collected-none source none)
    (subst (λ (n : Next). StandsNext n stands.begun (collected source)) is stands.next) in
    record {
      most_is = stands.most_is;
      taken = stands.taken ∙ ap length fresh.begun_is;
      lends_none = none;
      fresh = record { begun_is = refl; len = fresh.len; held = fresh.held; between = fresh.between };
    }

-- what was found after a read
pub found_after : {A : Type 0} (next : Next) (old mid new : PacketStream A) (unread left later : Option (List ℕ)) (came : List ℕ) → mid.src.items ≡ old.src.items ++ came
    → Consumes unread left came → mid.at ≡ old.at → mid.limit ≡ old.limit → Found next mid new left later → Found next old new unread later
found_after next old mid new unread left later came src consumed at limit found = record {
  came = came ++ found.came;
  begun = found.begun;
  consumed = Consumes-trans unread left later came found.came consumed found.consumed;
  split = sym (append_assoc old.src.items came found.came) ∙ ap (λ (z : List ℕ). z ++ found.came) (sym src) ∙ found.split;
  taken = found.taken;
  most_is = found.most_is;
  at = found.at ∙ at;
  limit = found.limit ∙ limit;
  next_is = found.next_is;
}

-- the same of a call, which may fail
pub found_behind : {A : Type 0} (answer : Result Next Stop) (id : ℕ) (old mid new : PacketStream A) (unread left later : Option (List ℕ)) (came : List ℕ)
    → mid.src.items ≡ old.src.items ++ came → Consumes unread left came → mid.at ≡ old.at → mid.limit ≡ old.limit → (IsIdle old → IsReady id mid)
    → IfOk answer (λ next. IsReady id mid → Found next mid new left later) → IfOk answer (λ next. IsIdle old → Found next old new unread later)
found_behind (Ok next) id old mid new unread left later came src consumed at limit ready found =
    λ idle. found_after next old mid new unread left later came src consumed at limit (found (ready idle))
found_behind (Err stop) id old mid new unread left later came src consumed at limit ready found = tt

-- where no packet is next, nothing was taken
pub found_none : {A : Type 0} (end : End) (old mid : PacketStream A) (unread left : Option (List ℕ)) (came : List ℕ) → mid.src.items ≡ old.src.items ++ came
    → Consumes unread left came → mid.at ≡ old.at → mid.limit ≡ old.limit → mid.taken ≡ old.taken → mid.decoder.max_allowed_packet ≡ old.decoder.max_allowed_packet
    → mid.lent ≡ old.lent → EndsAs end mid.src.items → IsIdle old → Found (Ended end) old mid unread left
found_none end old mid unread left came src consumed at limit taken most_is lent ends idle = record {
  came = came;
  begun = [];
  consumed = consumed;
  split = sym src ∙ sym (unread-none mid (lent ∙ idle.lends_none));
  taken = taken ∙ idle.taken;
  most_is = most_is ∙ idle.most_is;
  at = at;
  limit = limit;
  next_is = subst (λ (z : List ℕ). EndsAs end z) (sym (unread-none mid (lent ∙ idle.lends_none))) ends;
}

-- one more than an id with no full chunks
with_none : (id blocks : ℕ) → blocks ≡ 0 → id + 1 ≡ id + blocks + 1
with_none id blocks none = omega (arith, none)

-- a packet of one chunk, which stands whole in front, is found there
pub found_whole : {A : Type 0} (front : Header) (old new : PacketStream A) (known : Option (List ℕ)) → LiesWhole front old.src.items
    → new.src.items ≡ old.src.items → new.lent ≡ Some (4 + front.len) → new.taken ≡ 4 + front.len
    → span_state new.decoder ≡ record (span_state old.decoder) { id = (front.seq_id + 1) % 256 }
    → new.len ≡ front.len → new.at ≡ old.at → new.limit ≡ old.limit → IsIdle old → Found (Packet front.seq_id) old new known known
unfolding chunk
found_whole front old new known lies src lent taken state len at limit ready =
    let bytes : List ℕ = old.src.items in
    let begun : List ℕ = take (4 + front.len) bytes in
    let payload : List ℕ = take front.len (drop 4 bytes) in
    let rest : length (drop 4 bytes) ≡ length bytes - 4 = length-drop 4 bytes in
    let long : length payload ≡ front.len = length-take-le front.len (drop 4 bytes) (omega (arith, rest, lies.there)) in
    let short : length payload < max_payload = omega (arith, long, lies.short) in
    let parts : begun ≡ take 4 bytes ++ payload = take-add 4 front.len bytes in
    let begun_is : begun ≡ framing front.seq_id payload =
    parts ∙ ap (λ (z : List ℕ). z ++ payload) (lies.spelled ∙ ap (λ (n : ℕ). header n front.seq_id) (sym long))
    ∙ sym (framing_short front.seq_id payload short) in
    let front_is : length (take 4 bytes) ≡ 4 = length-take-le 4 bytes (omega (arith, lies.there)) in
    let payload_is : drop 4 begun ≡ payload =
    ap₂ (λ (n : ℕ) (z : List ℕ). drop n z) (sym front_is) parts ∙ drop-append_seam (take 4 bytes) payload in
    let unread_is : unread_of new ≡ drop (4 + front.len) bytes =
    ap₂ (λ (l : Option ℕ) (z : List ℕ). behind_lent l z) lent src in
    let held_is : payload_in new.lent new.src.items new.held.items ≡ payload =
    ap₂ (λ (l : Option ℕ) (z : List ℕ). payload_in l z new.held.items) lent src ∙ payload_is in
    record {
      came = [];
      begun = begun;
      consumed = consumes_none known;
      split = append-nil bytes ∙ sym (take-append-drop (4 + front.len) bytes) ∙ ap (λ (z : List ℕ). begun ++ z) (sym unread_is);
      taken = taken ∙ sym (length-take-le (4 + front.len) bytes lies.there);
      most_is = ap (λ (s : SpanState). s.limit) state ∙ ready.most_is;
      at = at;
      limit = limit;
      next_is = (
        payload,
        record {
          begun_is = begun_is;
          len = len ∙ sym long;
          held = λ within. held_is;
          between = subst IsBetween (sym state) ready.fresh.between;
          behind = ap (λ (s : SpanState). s.id) state ∙ ap (λ (n : ℕ). n % 256) (with_none front.seq_id (length payload / max_payload) (no_blocks (length payload) short));
        },
      );
    }
