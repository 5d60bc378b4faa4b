-- Lines that are written in parts.
use Rattle.std.proofs.Common.{arith, ◌≡◌, ◌+◌, ◌<◌, ℕ, List, [], ◌∷◌, ◌++◌, length, take, get_or, Option, Vec, if◌then◌else◌, Result, Ok, Err, OnOk, refl, sym, ap, subst, ◌∙◌, append-nil, append_assoc}
use Rattle.std.proofs.Math.Numerals.{add-one}
use Rattle.std.proofs.Math.Seq.{take-suc}
use Rattle.std.proofs.lemmas.Grind.{flat_map-append}
use Rattle.std.proofs.lemmas.List.{map-append}
use Rattle.wire_codec.specs.Runs.{payloads}
use Rattle.mysql_wire_tool_commands.specs.Unframe.{packet_lines}
use Rattle.std.proofs.KnownBytes.{Appends-nil, Appends-trans}
use Rattle.std.specs.Io.KnownBytes.{Appends}
use Rattle.std.specs.Result.{is_ok}
use Rattle.std.specs.Prelude.{codes}
use Rattle.hex.specs.Hex.{encode_lower, encode_with, lower_digits}
use Rattle.wire_text.proofs.DigitLemmas.{digits_more}
use Rattle.mysql_wire_tool_commands.specs.PacketLines.{Goes}
use Rattle.mysql_wire_tool_commands.specs.Texts.{hex_or_dash, payload_line}

-- one part after the other
pub goes_on : (held text middle more left : List ℕ) (before between after : Option (List ℕ)) → Goes held text middle before between → Goes middle more left between after
    → Goes held (text ++ more) left before after
goes_on held text middle more left before between after first second = (
  first.0 ++ second.0,
  Appends-trans _ _ _ first.0 second.0 first.1 second.1,
  append_assoc first.0 second.0 left ∙ ap (λ (z : List ℕ). first.0 ++ z) second.2 ∙ sym (append_assoc first.0 middle more)
      ∙ ap (λ (z : List ℕ). z ++ more) first.2 ∙ append_assoc held text more,
)

-- a part that is only held
pub goes_held : (held text left : List ℕ) (written : Option (List ℕ)) → left ≡ held ++ text → Goes held text left written written
goes_held held text left written is = ([], Appends-nil written, is)

no_digits : encode_lower [] ≡ []
unfolding encode_with
no_digits = refl

pub digits_begin : (held : List ℕ) (written : Option (List ℕ)) → Goes held (encode_lower []) held written written
digits_begin held written = goes_held held (encode_lower []) held written (sym (ap (λ (z : List ℕ). held ++ z) no_digits ∙ append-nil held))

-- and no line yet
pub lines_begin : (held : List ℕ) (written : Option (List ℕ)) → Goes held [] held written written
lines_begin held written = goes_held held [] held written (sym (append-nil held))

pub no_bytes : (bytes : List ℕ) → length bytes ≡ 0 → bytes ≡ []
no_bytes [] none = refl
no_bytes (byte ∷ bytes) none = absurd (omega (arith, none))

-- the digits of some bytes more, of which some may have been written
pub digits_on : (held done bytes text pushed left : List ℕ) (before between after : Option (List ℕ)) → Goes held (encode_lower done) text before between
    → pushed ≡ text ++ encode_lower bytes → Goes pushed [] left between after → Goes held (encode_lower (done ++ bytes)) left before after
digits_on held done bytes text pushed left before between after so_far is goes =
    let more = goes_on held (encode_lower done) text (encode_lower bytes) pushed before between between so_far (goes_held text (encode_lower bytes) pushed between is) in
    subst (λ (z : List ℕ). Goes held z left before after)
    (append-nil (encode_lower done ++ encode_lower bytes) ∙ sym (digits_more lower_digits done bytes))
    (goes_on held (encode_lower done ++ encode_lower bytes) pushed [] left before between after more goes)

-- the line of a packet: what stands in front of its digits, and these
pub line_goes : (held payload front digits line : List ℕ) (before after : Option (List ℕ)) → (front ++ encode_lower payload) ++ codes "\n" ≡ held ++ payload_line payload
    → Goes front (encode_lower payload) digits before after → line ≡ digits ++ codes "\n" → Goes held (payload_line payload) line before after
line_goes held payload front digits line before after front_is goes line_is = (
  goes.0,
  goes.1,
  ap (λ (z : List ℕ). goes.0 ++ z) line_is ∙ sym (append_assoc goes.0 digits (codes "\n")) ∙ ap (λ (z : List ℕ). z ++ codes "\n") goes.2 ∙ front_is,
)

-- a dash, where there are no digits
dash_alone : (payload : List ℕ) → length payload ≡ 0 → codes " -" ++ encode_lower payload ≡ codes " " ++ hex_or_dash payload
unfolding encode_with
dash_alone [] is = refl
dash_alone (b ∷ rest) is = absurd (omega (arith, is))

pub dash_behind : {E : Type 0} (answer : Result (Unit {0}) E) (held payload text : List ℕ) → length payload ≡ 0 → text ≡ (if is_ok answer then held ++ codes " -" else held)
    → OnOk answer (text ++ encode_lower payload ≡ held ++ (codes " " ++ hex_or_dash payload))
dash_behind (Ok done) held payload text none is =
    ap (λ (z : List ℕ). z ++ encode_lower payload) is ∙ append_assoc held (codes " -") (encode_lower payload)
    ∙ ap (λ (z : List ℕ). held ++ z) (dash_alone payload none)
dash_behind (Err error) held payload text none is = tt

-- the lines of one packet more
lines_more : {A : Type 0} (packets : List (Vec ℕ A)) (i : ℕ) (packet : Vec ℕ A) → packet ≡ get_or packets i packet → i < length packets
    → packet_lines (payloads (take (i + 1) packets)) ≡ packet_lines (payloads (take i packets)) ++ payload_line packet.items
lines_more packets i packet is inside =
    ap (λ (n : ℕ). packet_lines (payloads (take n packets))) (add-one i) ∙ ap (λ z. packet_lines (payloads z)) (take-suc packets i packet inside)
    ∙ ap (λ z. packet_lines (payloads (take i packets ++ z ∷ []))) (sym is) ∙ ap packet_lines (map-append (λ p. p.items) (take i packets) (packet ∷ []))
    ∙ flat_map-append payload_line (payloads (take i packets)) (packet.items ∷ [])
    ∙ ap (λ (z : List ℕ). packet_lines (payloads (take i packets)) ++ z) (append-nil (payload_line packet.items))

pub packets_on : {A : Type 0} (packets : List (Vec ℕ A)) (i : ℕ) (packet : Vec ℕ A) (held shown text left : List ℕ) (before between after : Option (List ℕ))
    → packet ≡ get_or packets i packet → i < length packets → shown ≡ packet.items → Goes held (packet_lines (payloads (take i packets))) text before between
    → Goes text (payload_line shown) left between after → Goes held (packet_lines (payloads (take (i + 1) packets))) left before after
packets_on packets i packet held shown text left before between after is inside same so_far goes =
    let lines : List ℕ = packet_lines (payloads (take i packets)) in
    subst (λ (z : List ℕ). Goes held z left before after)
    (ap (λ (z : List ℕ). lines ++ payload_line z) same ∙ sym (lines_more packets i packet is inside))
    (goes_on held lines text (payload_line shown) left before between after so_far goes)

-- all of it is written
pub all_written : (held text left line shown : List ℕ) (before between after : Option (List ℕ)) → Goes held text left before between → shown ≡ left ++ line
    → Appends between after shown → Appends before after (held ++ text ++ line)
all_written held text left line shown before between after goes is written =
    subst (λ (z : List ℕ). Appends before after z)
    (ap (λ (z : List ℕ). goes.0 ++ z) is ∙ sym (append_assoc goes.0 left line) ∙ ap (λ (z : List ℕ). z ++ line) goes.2)
    (Appends-trans _ _ _ goes.0 shown goes.1 written)
