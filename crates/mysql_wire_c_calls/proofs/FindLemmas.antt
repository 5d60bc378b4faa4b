-- What a look for a packet finds, by what `decode` answered.
use Rattle.std.proofs.Common.{◌≡◌, Bool, true, false, Result, Ok, Err, refl, subst, inl, inr}
use Rattle.wire_codec.specs.declared.codec.error.PacketCodecError.{PacketCodecError}
use Rattle.wire_codec.specs.declared.codec.error.PacketCodecError.TheVariants.{PacketTooLarge, PacketsOutOfSync}
use Rattle.wire_codec.specs.Codec.{CodecState}
use Rattle.wire_codec.specs.LimitedRuns.{Aligned, DecodesAligned}
use Rattle.mysql_wire_c_calls.specs.declared.codes.TheConstants.{WAITS, PACKET, TOO_LARGE, OUT_OF_SYNC}
use Rattle.mysql_wire_c_calls.specs.declared.side.Front.{Front}
use Rattle.mysql_wire_c_calls.specs.declared.side.Front.TheVariants.{Unfinished, Copied, Lost}
use Rattle.mysql_wire_c_calls.specs.Side.{IsReady}
use Rattle.mysql_wire_c_calls.specs.Finding.{Finds}

-- one call of `decode` from where no packet is lent
abbrev pub Decoded : Front → CodecState → Result Bool PacketCodecError → Result Bool PacketCodecError → CodecState → Type 0
Decoded front before answer is after =
    (front ≡ Unfinished) × IsReady front before × (Aligned before → DecodesAligned before answer after) × (answer ≡ is)

decoded : (front : Front) (before : CodecState) (answer is : Result Bool PacketCodecError) (after : CodecState) → Decoded front before answer is after
    → DecodesAligned before is after
decoded front before answer is after (unfinished, ready, decodes, same) =
    subst (λ (r : Result Bool PacketCodecError). DecodesAligned before r after) same (decodes (subst (λ (f : Front). IsReady f before) unfinished ready))

pub finds_packet : (front : Front) (before : CodecState) (answer : Result Bool PacketCodecError) (after : CodecState)
    → Decoded front before answer (Ok true) after → Finds PACKET before Copied after
finds_packet front before answer after d = record {
  packet = λ _. decoded front before answer (Ok true) after d;
  lent = λ _. refl;
  waits = λ no. absurd (cc);
  too_large = λ no. absurd (cc);
  memory = λ no. absurd (cc);
  lost = λ no. absurd (cc);
  answers = inl refl;
}

pub finds_none : (front : Front) (before : CodecState) (answer : Result Bool PacketCodecError) (after : CodecState)
    → Decoded front before answer (Ok false) after → Finds WAITS before front after
finds_none front before answer after d = record {
  packet = λ no. absurd (cc);
  lent = λ no. absurd (cc);
  waits = λ _. (d.0, decoded front before answer (Ok false) after d);
  too_large = λ no. absurd (cc);
  memory = λ no. absurd (cc);
  lost = λ no. absurd (cc);
  answers = inr (inl refl);
}

pub finds_too_large : (front : Front) (before : CodecState) (answer : Result Bool PacketCodecError) (after : CodecState)
    → Decoded front before answer (Err PacketTooLarge) after → Finds TOO_LARGE before front after
finds_too_large front before answer after d = record {
  packet = λ no. absurd (cc);
  lent = λ no. absurd (cc);
  waits = λ no. absurd (cc);
  too_large = λ _. (d.0, decoded front before answer (Err PacketTooLarge) after d);
  memory = λ no. absurd (cc);
  lost = λ no. absurd (cc);
  answers = inr (inr (inl refl));
}

pub finds_lost : (front : Front) (before : CodecState) (answer : Result Bool PacketCodecError) (after : CodecState)
    → Decoded front before answer (Err PacketsOutOfSync) after → Finds OUT_OF_SYNC before Lost after
finds_lost front before answer after d = record {
  packet = λ no. absurd (cc);
  lent = λ no. absurd (cc);
  waits = λ no. absurd (cc);
  too_large = λ no. absurd (cc);
  memory = λ no. absurd (cc);
  lost = λ _. (refl, decoded front before answer (Err PacketsOutOfSync) after d);
  answers = inr (inr (inr (inr refl)));
}
