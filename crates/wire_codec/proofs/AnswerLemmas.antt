-- One answer isn't another.
use Rattle.std.proofs.Common.{◌≡◌, ◌≢◌, ℕ, List, refl, ap, Option, Result, Ok, Err, Bool, true, false}
use Rattle.wire_codec.proofs.Declared.{PacketCodecError, PacketTooLarge, OutOfMemory, PacketsOutOfSync, Io}
use Rattle.wire_codec.specs.declared.codec.error.Refusal.{Refusal}
use Rattle.wire_codec.specs.declared.codec.error.Refusal.TheVariants as refusal
use Rattle.std.proofs.lemmas.Bool.{false≢true}
use Rattle.std.specs.Result.{IsErr, IsErrAnd}
use Rattle.wire_codec.specs.OneChunk.{DecodesChunk}
use Rattle.wire_codec.specs.Chain.{ChainFrom}
use Rattle.wire_codec.specs.Codec.{StandsAt, DecodesFrom}
use Rattle.wire_codec.specs.Refusals.{answer_of, error_of}
use Rattle.wire_codec.proofs.CodecLemmas.{stands_without}

pub no_true : {E : Type 0} (answer : Result Bool E) → answer ≡ Ok false → answer ≡ Ok true → ⊥
no_true answer is also = cc

pub no_ok : {E : Type 0} (answer : Result Bool E) (error : E) (whole : Bool) → answer ≡ Err error → answer ≡ Ok whole → ⊥
no_ok answer error whole is also = cc

-- a value is answered as it is
pub is_ok : {A : Type 0} (answer : Result A Refusal) (value : A) → answer_of answer ≡ Ok value → answer ≡ Ok value
is_ok (Ok other) value is = cc
is_ok (Err refusal) value is = cc

-- after everything but a whole packet and a lost sync the codec stands
pub decoded_stands : (answer : Result Bool PacketCodecError) (first limit id : ℕ) (header : Option (ℕ × ℕ)) (input held src dst : List ℕ) → answer ≢ Ok true → answer ≢ Err PacketsOutOfSync
    → DecodesFrom first input held limit answer id header src dst → StandsAt limit header src dst
decoded_stands (Ok true) first limit id header input held src dst part sync d = absurd (part refl)
decoded_stands (Ok false) first limit id header input held src dst part sync d = d.2
decoded_stands (Err PacketTooLarge) first limit id header input held src dst part sync d = stands_without limit src dst header d.0.splits.unfinished_whole d.2
decoded_stands (Err PacketsOutOfSync) first limit id header input held src dst part sync d = absurd (sync refl)
decoded_stands (Err OutOfMemory) first limit id header input held src dst part sync d = d.2
decoded_stands (Err (Io e)) first limit id header input held src dst part sync d = absurd d

-- a refusal of memory
pub lacked : (answer : Result Bool Refusal) → IsErr answer × IsErrAnd answer (λ error. error ≡ refusal.OutOfMemory) → answer_of answer ≡ Err OutOfMemory
lacked (Ok value) is = absurd (false≢true is.0)
lacked (Err error) is = ap (λ z. Err (error_of z)) is.1

-- a chunk for which there is no memory is a chain of none
pub lacks_chain : (answer : Result Bool PacketCodecError) (limit id : ℕ) (header : Option (ℕ × ℕ)) (src held : List ℕ) (new_id : ℕ) (new_header : Option (ℕ × ℕ)) (rest filled : List ℕ) → answer ≡ Err OutOfMemory → new_id ≡ id
    → DecodesChunk header src held limit (Err OutOfMemory) new_header rest filled → (n : ℕ) × ChainFrom n limit id header src held answer new_id new_header rest filled
lacks_chain answer limit id header src held new_id new_header rest filled is stays lacks = (0, record { said = Err OutOfMemory; chunk = lacks; stops = is; id_stays = stays })
