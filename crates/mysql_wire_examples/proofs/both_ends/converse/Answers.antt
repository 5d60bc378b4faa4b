use Rattle.std.proofs.Common.{◌≡◌, ◌+◌, ℕ, List, [], ◌∷◌, ◌++◌, take, get_or, ap, sym, ◌∙◌, append_assoc, take_all}
use Rattle.std.proofs.lemmas.List.{map_more, take_more}
use Rattle.std.specs.List.{flat_map}
use Rattle.mysql_wire.specs.Runs.{payloads}
use Rattle.mysql_wire_examples.specs.BothEnds.{answer_of, answers_of, commands_of, ids_in, ids_of}
use Rattle.mysql_wire_examples.specs.declared.both_ends.Exchange.{Exchange}
use Rattle.mysql_wire_examples.proofs.BothEndsLemmas.{handed_more}
use Rattle.mysql_wire_examples.proofs.ConnectionLemmas.{flat_map-one_more}
use Rattle.mysql_wire_examples.proofs.RelayedLemmas.{err_on_ok}
use Rattle.mysql_wire_examples.proofs.both_ends.converse.Goals as goal

-- what one item more adds
flat_more : {X Y : Type 0} (f : X → List Y) (items : List X) (item : X) (taken : List X) (start old new : List Y)
    → old ≡ start ++ flat_map f items → taken ≡ items ++ item ∷ [] → new ≡ old ++ f item → new ≡ start ++ flat_map f taken
flat_more f items item taken start old new so_far is next =
    next ∙ ap (λ bytes. bytes ++ f item) so_far ∙ append_assoc start (flat_map f items) (f item)
    ∙ ap (λ bytes. start ++ bytes) (sym (flat_map-one_more f items item)) ∙ ap (λ z. start ++ flat_map f z) (sym is)

pub exchanges-preserved : goal.exchanges-preserved
exchanges-preserved g c =
    let old = c.exchanges.invariant in
    let told = c.in_ok-ask.ensures in
    let all = c.args.exchanges.now in
    let index : ℕ = c.exchanges.exchange-index in
    let exchange : Exchange = get_or all index (record { command = record { packet = record { ref_ptr = (0, 0); now = [] }; reads = record { ref_ptr = (0, 0); now = [] } }; answer = record { ref_ptr = (0, 0); now = [] } }) in
    let taken : take (index + 1) all ≡ take index all ++ exchange ∷ [] = take_more all index _ c.exchanges-test.true in
    record {
      step = told.in_step;
      commands = handed_more _ _ _ (commands_of (take index all)) (commands_of (take (index + 1) all)) exchange.command.packet.now old.commands
          (map_more (λ (exchange : Exchange). exchange.command.packet.now) all index _ c.exchanges-test.true) told.commands;
      answers = flat_more answer_of (take index all) exchange (take (index + 1) all) _ _ _ old.answers taken told.answers;
      ids = flat_more ids_in (take index all) exchange (take (index + 1) all) _ _ _ old.ids taken told.ids;
    }

pub returns : goal.returns
returns g c =
    let old = c.exchanges.invariant in
    let heard = c.args.heard.now in
    let all : take c.exchanges.exchange-index c.args.exchanges.now ≡ c.args.exchanges.now =
    take_all c.exchanges.exchange-index c.args.exchanges.now c.exchanges-test.false in
    record {
      commands = old.commands ∙ ap (λ (z : List Exchange). payloads heard.commands.items ++ commands_of z) all;
      answers = old.answers ∙ ap (λ (z : List Exchange). payloads heard.answers.items ++ answers_of z) all;
      ids = old.ids ∙ ap (λ (z : List Exchange). heard.ids.items ++ ids_of z) all;
      in_step = old.step;
    }

pub returns-in_err-ask : goal.returns-in_err-ask
returns-in_err-ask g c =
    let answer = c.from_residual.result in
    let is = c.from_residual.ensures.0 in
    record { commands = err_on_ok answer _ is; answers = err_on_ok answer _ is; ids = err_on_ok answer _ is; in_step = err_on_ok answer _ is }
