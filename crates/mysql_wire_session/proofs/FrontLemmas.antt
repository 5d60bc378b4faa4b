-- What the front of a payload tells of what is known after it.
use Rattle.std.proofs.Common.{◌≡◌, ◌⊎◌, ◌∙◌, ◌≤◌, ℕ, zero, suc, inl, inr, Bool, false, List, [], ◌∷◌, length, refl, ap, sym, subst, Result, Ok, Err, arith, take}
use Rattle.std.specs.Prelude.{IfErr, IfOk, OnOk}
use Rattle.mysql_wire_session.specs.Advance.{IsRefusedMemory, asked, opened}
use Rattle.mysql_wire_session.specs.Fronts.{FailsWhole, IsFront, KnownAfter, TakesFront, says_more}
use Rattle.mysql_wire_session.specs.Kinds.{asks_for_cursor, first_byte, is_report, kind_at, kind_by_front}
use Rattle.mysql_wire_session.specs.Opening.{opened_state}
use Rattle.mysql_wire_session.specs.declared.session.read.Opened.{Opened}
use Rattle.mysql_wire_session.specs.SilentLemmas.{execute_silent, kind_silent, silent, silent_but_for_a_cursor}
use Rattle.mysql_wire_session.specs.Readings.{ReadsAs, Receives, advanced, after_kind, after_packet, kind_of, opened_at, statement_named}
use Rattle.mysql_wire_session.specs.State.{SessionState, expectation_of}
use Rattle.mysql_wire_session.specs.declared.classify.Expectation.{Expectation}
use Rattle.mysql_wire_session.specs.declared.packet.Received.{Received}
use Rattle.mysql_wire_session.specs.declared.packet_kind.PacketKind.{PacketKind}
use Rattle.mysql_wire_session.specs.declared.packet_kind.PacketKind.TheVariants as kind
use Rattle.mysql_wire_session.specs.declared.refusal.SessionError.{SessionError}
use Rattle.mysql_wire_session.specs.declared.side.Side.{Side}
use Rattle.mysql_wire_session.specs.declared.side.Side.TheVariants.{Client, Server}

-- ---- the front is the payload's

first_of : (n : ℕ) (payload : List ℕ) → (3 ≤ n) ⊎ (n ≡ length payload) → first_byte (take n payload) ≡ first_byte payload
first_of zero [] enough = refl
first_of (suc n) [] enough = refl
first_of zero (byte ∷ bytes) (inl some) = absurd (omega (arith, some))
first_of zero (byte ∷ bytes) (inr all) = absurd (omega (arith, all))
first_of (suc n) (byte ∷ bytes) enough = refl

-- a report begins with three bytes
report_of : (n : ℕ) (payload : List ℕ) → (3 ≤ n) ⊎ (n ≡ length payload) → is_report (take n payload) ≡ is_report payload
report_of zero [] enough = refl
report_of (suc n) [] enough = refl
report_of zero (a ∷ rest) (inl some) = absurd (omega (arith, some))
report_of zero (a ∷ rest) (inr all) = absurd (omega (arith, all))
report_of (suc zero) (a ∷ []) enough = refl
report_of (suc (suc n)) (a ∷ []) enough = refl
report_of (suc zero) (a ∷ b ∷ rest) (inl some) = absurd (omega (arith, some))
report_of (suc zero) (a ∷ b ∷ rest) (inr all) = absurd (omega (arith, all))
report_of (suc (suc zero)) (a ∷ b ∷ []) enough = refl
report_of (suc (suc (suc n))) (a ∷ b ∷ []) enough = refl
report_of (suc (suc zero)) (a ∷ b ∷ c ∷ rest) (inl some) = absurd (omega (arith, some))
report_of (suc (suc zero)) (a ∷ b ∷ c ∷ rest) (inr all) = absurd (omega (arith, all))
report_of (suc (suc (suc n))) (a ∷ b ∷ c ∷ rest) enough = refl

same_kind : (expected : Expectation) (side : Side) (id : ℕ) (front payload : List ℕ) → IsFront front payload
    → kind_by_front expected side id (length payload) front ≡ kind_at expected side id payload
same_kind expected Client id front payload is =
    let first = ap first_byte is.are ∙ first_of (length front) payload is.enough in
    rw first refl
same_kind expected Server id front payload is =
    let first = ap first_byte is.are ∙ first_of (length front) payload is.enough in
    let report = ap is_report is.are ∙ report_of (length front) payload is.enough in
    rw (first, report) refl

-- ---- what came

-- what is known after what came
pub came_so : (side : Side) (id : ℕ) (payload : List ℕ) (state : SessionState) (received : Received) → Receives side id payload state received
    → advanced received state ≡ after_packet side id (kind_of side id payload state) payload received.packet state
came_so side id payload state received came =
    ap (λ (s : Side). after_packet s received.id received.kind received.payload.now received.packet state) came.side_is
    ∙ ap (λ (i : ℕ). after_packet side i received.kind received.payload.now received.packet state) came.id_is
    ∙ ap (λ (k : PacketKind). after_packet side id k received.payload.now received.packet state) came.kind_is
    ∙ ap (λ (p : List ℕ). after_packet side id (kind_of side id payload state) p received.packet state) came.payload_is

take_all : (bytes : List ℕ) → take (length bytes) bytes ≡ bytes
take_all [] = refl
take_all (byte ∷ bytes) = ap (λ (rest : List ℕ). byte ∷ rest) (take_all bytes)

-- a front of a packet that says no more
pub front_told : (side : Side) (id len : ℕ) (front : List ℕ) (state next : SessionState) (called : PacketKind)
    → called ≡ kind_by_front (expectation_of state) side id len front → says_more called (opened called len state).phase ≡ false
    → next ≡ after_kind side id called len state → TakesFront side id len front state next called
front_told side id len front state next called called_is none next_is payload len_is is =
    let so : called ≡ kind_of side id payload state =
    (called_is ∙ ap (λ (n : ℕ). kind_by_front (expectation_of state) side id n front) (sym len_is) ∙ same_kind (expectation_of state) side id front payload is) in
    let quiet : says_more (kind_of side id payload state) (opened_at side id payload state).phase ≡ false =
    subst (λ (k : PacketKind). says_more k (opened k (length payload) state).phase ≡ false) so
    (subst (λ (n : ℕ). says_more called (opened called n state).phase ≡ false) (sym len_is) none) in (
      so,
      inr (λ read reads.
          next_is ∙ ap (λ (n : ℕ). after_kind side id called n state) (sym len_is)
          ∙ ap (λ (k : PacketKind). after_kind side id k (length payload) state) so
          ∙ silent side id (kind_of side id payload state) payload read state (opened_at side id payload state).phase quiet (kind_silent (kind_of side id payload state) (opened_at side id payload state) payload read quiet reads)),
    )

-- six bytes of an execution tell whether it asks for a cursor
cursor_of : (n : ℕ) (payload : List ℕ) → 6 ≤ n → asks_for_cursor (take n payload) ≡ asks_for_cursor payload
cursor_of zero payload six = absurd (omega (arith, six))
cursor_of (suc zero) payload six = absurd (omega (arith, six))
cursor_of (suc (suc zero)) payload six = absurd (omega (arith, six))
cursor_of (suc (suc (suc zero))) payload six = absurd (omega (arith, six))
cursor_of (suc (suc (suc (suc zero)))) payload six = absurd (omega (arith, six))
cursor_of (suc (suc (suc (suc (suc zero))))) payload six = absurd (omega (arith, six))
cursor_of (suc (suc (suc (suc (suc (suc n)))))) [] six = refl
cursor_of (suc (suc (suc (suc (suc (suc n)))))) (a ∷ []) six = refl
cursor_of (suc (suc (suc (suc (suc (suc n)))))) (a ∷ b ∷ []) six = refl
cursor_of (suc (suc (suc (suc (suc (suc n)))))) (a ∷ b ∷ c ∷ []) six = refl
cursor_of (suc (suc (suc (suc (suc (suc n)))))) (a ∷ b ∷ c ∷ d ∷ []) six = refl
cursor_of (suc (suc (suc (suc (suc (suc n)))))) (a ∷ b ∷ c ∷ d ∷ e ∷ []) six = refl
cursor_of (suc (suc (suc (suc (suc (suc n)))))) (a ∷ b ∷ c ∷ d ∷ e ∷ flags ∷ rest) six = refl

-- a front of an execution that has its flags
pub execution_told : (side : Side) (id len : ℕ) (front : List ℕ) (state next : SessionState)
    → kind.Execute ≡ kind_by_front (expectation_of state) side id len front → 6 ≤ length front
    → next ≡ asked kind.Execute front (after_kind side id kind.Execute len state) → TakesFront side id len front state next kind.Execute
execution_told side id len front state next called_is six next_is payload len_is is =
    let so : kind.Execute ≡ kind_of side id payload state =
    (called_is ∙ ap (λ (n : ℕ). kind_by_front (expectation_of state) side id n front) (sym len_is) ∙ same_kind (expectation_of state) side id front payload is) in
    let cursor : asks_for_cursor front ≡ asks_for_cursor payload = ap asks_for_cursor is.are ∙ cursor_of (length front) payload six in
    let known : next ≡ asked kind.Execute payload (after_kind side id kind.Execute (length payload) state) =
    (next_is ∙ ap (λ (n : ℕ). asked kind.Execute front (after_kind side id kind.Execute n state)) (sym len_is)
    ∙ ap (λ (b : Bool). record (after_kind side id kind.Execute (length payload) state) { wants_cursor = b }) cursor) in (
      so,
      inr (λ read.
          subst (λ (k : PacketKind). ReadsAs (opened k (length payload) state) k payload read → next ≡ after_packet side id k payload read state) so
          (λ reads. known ∙ silent_but_for_a_cursor side id kind.Execute payload read state (execute_silent (statement_named payload) state.statements payload read reads))),
    )

-- a packet that came whole
pub whole_told : (side : Side) (id len : ℕ) (front : List ℕ) (state next : SessionState) (received : Received) → length front ≡ len
    → Receives side id front state received → next ≡ advanced received state → TakesFront side id len front state next received.kind
whole_told side id len front state next received all came goes payload len_is is =
    let same : front ≡ payload = (is.are ∙ ap (λ (n : ℕ). take n payload) (all ∙ sym len_is) ∙ take_all payload) in
    subst (λ (p : List ℕ). (received.kind ≡ kind_of side id p state) × KnownAfter side id p state next) same
    (came.kind_is, inl (received.packet, came.reads, goes ∙ came_so side id front state received came))

-- the same where it may have been refused memory
pub taken_whole : (side : Side) (id : ℕ) (front : List ℕ) (state next : SessionState) (received : Received) (result : Result PacketKind SessionError)
    → Receives side id front state received → IfOk result (λ kind. kind ≡ received.kind) → OnOk result (next ≡ advanced received state)
    → IfOk result (TakesFront side id (length front) front state next)
taken_whole side id front state next received (Ok called) came kind_is goes =
    subst (λ (k : PacketKind). TakesFront side id (length front) front state next k) (sym kind_is)
    (whole_told side id (length front) front state next received refl came goes)
taken_whole side id front state next received (Err error) came kind_is goes = tt

-- the same where it was: nothing is known after it
pub refused_after : (side : Side) (id : ℕ) (payload : List ℕ) (state : SessionState) (received : Received) (result : Result PacketKind SessionError)
    → Receives side id payload state received → IfErr result (IsRefusedMemory received.packet state) → IfErr result (FailsWhole side id payload state)
refused_after side id payload state received (Ok called) came refused = tt
refused_after side id payload state received (Err why) came refused = inr (received, came, refused)

-- what is not said more of in the phase that is opened
pub quiet_there : (says : Bool) (called : PacketKind) (len : ℕ) (state : SessionState) (there : Opened) → says ≡ says_more called there.phase → says ≡ false
    → opened_state there state ≡ opened called len state → says_more called (opened called len state).phase ≡ false
quiet_there says called len state there says_is none same =
    subst (λ (k : SessionState). says_more called k.phase ≡ false) same (sym says_is ∙ none)
