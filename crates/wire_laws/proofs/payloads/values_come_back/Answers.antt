use Rattle.std.specs.Prelude.{[], length, ◌≤◌, map}
use Rattle.std.proofs.lemmas.List.Elements.{All-map}
use Rattle.wire_laws.specs.PayloadsBack.{alone-back}
use Rattle.wire_laws.proofs.payloads.values_come_back.Goals as goal

pub returns-clause-delivered : goal.returns-clause-delivered
returns-clause-delivered g c = λ first_id limit values fit more delivered ending unfinished rest whole.
    c.encoded_first.ensures first_id limit (map g.T.MySerialize.bytes values) delivered more ending
    unfinished rest
    (All-map (λ payload. length payload ≤ limit) g.T.MySerialize.bytes values fit) whole

pub returns-clause-back : goal.returns-clause-back
returns-clause-back g c =
    let claim : g.claim c.lifetimes = assumption tt in
    let met = g.met.T.Wire c.lifetimes claim in
    λ ctx value is good answer eaten read. alone-back g.T.Size.ReadSize.SIZE
    (g.T.MyDeserialize.reads ctx) (g.T.Wire.kept value) g.T.Wire.takes_memory
    (g.T.MySerialize.bytes value)
    (λ size stated. met.of_size value size is stated)
    (λ answer eaten read. met.comes_back ctx value [] answer eaten is good read)
    answer eaten read
