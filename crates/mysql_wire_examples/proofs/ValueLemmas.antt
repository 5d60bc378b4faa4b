-- Values and the packets that they are written as.
use Rattle.std.proofs.Common.{◌≡◌, ℕ, List, [], ◌∷◌, ◌++◌, length, map, get_or, refl, ap, ◌∙◌, ◌<◌, sym, arith, Vec, Option, None, Some, append-nil}
use Rattle.std.proofs.lemmas.List.{get_or-map, length-map}
use Rattle.std.proofs.lemmas.List.{length-append}
use Rattle.mysql_wire.specs.Delivery.{Delivers, Ending}
use Rattle.mysql_wire.specs.Framing.{framing, front, stream, id_after, next_id}
use Rattle.mysql_wire.specs.Law.{seen}
use Rattle.mysql_wire.specs.Laws.{FramedLength}
use Rattle.mysql_wire.specs.Runs.{payloads}

-- after a whole payload nothing is seen
pub seen-nothing : (size : Option ℕ) → seen size [] ≡ []
seen-nothing None = refl
seen-nothing (Some size) = refl

-- packets that hold the values' bytes are as many
pub as_many : {X A : Type 0} (bytes : X → List ℕ) (packets : List (Vec ℕ A)) (values : List X)
    → payloads packets ≡ map bytes values → length values ≡ length packets
as_many bytes packets values are =
    sym (length-map values bytes) ∙ ap length (sym are) ∙ length-map packets (λ packet. packet.items)

-- and each holds the bytes of the value at its place
pub packet_at : {X A : Type 0} (bytes : X → List ℕ) (packets : List (Vec ℕ A)) (values : List X) (i : ℕ) (packet : Vec ℕ A) (d : X)
    → payloads packets ≡ map bytes values → i < length packets → packet ≡ get_or packets i packet
    → packet.items ≡ bytes (get_or values i d) ++ []
packet_at bytes packets values i packet d are there at =
    let here : i < length values = omega (arith, as_many bytes packets values are) in
    ap (λ packet. packet.items) at
    ∙ sym (get_or-map (λ packet. packet.items) packets i packet [] there)
    ∙ ap (λ payloads. get_or payloads i []) are
    ∙ get_or-map bytes values i d [] here
    ∙ sym (append-nil (bytes (get_or values i d)))

-- no packets are delivered of no bytes
pub delivers_nothing : (id limit : ℕ) (others : List (List ℕ)) (ending : Ending) (unfinished rest : List ℕ)
    → FramedLength → Delivers [] [] id limit others ending unfinished rest → others ≡ []
delivers_nothing id limit [] ending unfinished rest measured delivered = refl
delivers_nothing id limit (payload ∷ others) ending unfinished rest measured delivered =
    let more : List ℕ = stream (next_id id payload) others in
    let behind : List ℕ = front (id_after id (payload ∷ others)) unfinished ++ rest in
    let none : 0 ≡ length ((framing id payload ++ more) ++ behind) = ap length delivered.splits.is in
    absurd (omega (arith, none, length-append (framing id payload ++ more) behind, length-append (framing id payload) more, measured id payload))
