use Rattle.std.proofs.Common.{◌≡◌, ◌+◌, ◌%◌, ℕ, List, [], ◌∷◌, ◌++◌, take, map, get_or, ap, sym, ◌∙◌, arith, append-nil, take_all}
use Rattle.std.proofs.lemmas.List.{map_more}
use Rattle.mysql_wire.specs.Codec.{expected_id}
use Rattle.mysql_wire.specs.Runs.{payloads}
use Rattle.mysql_wire_examples.specs.BothEnds.{points}
use Rattle.mysql_wire_examples.specs.declared.both_ends.Sent.{Sent}
use Rattle.mysql_wire_examples.proofs.BothEndsLemmas.{in_step_back, count_after, count_after-more, noted_more, handed_more}
use Rattle.mysql_wire_examples.proofs.RelayedLemmas.{err_on_ok}
use Rattle.mysql_wire_examples.proofs.both_ends.ask.Goals as goal

pub pass_noted-requires : goal.pass_noted-requires
pass_noted-requires g c =
    let old = c.requires in
    let one = c.reset_seq_id.ensures in
    let other = c.reset_seq_id-2.ensures in
    record {
      id = 0;
      first = record { small = omega arith; id_is = one.id; header = one.header ∙ old.first.header; nothing_unread = old.first.nothing_unread; nothing_held = old.first.nothing_held };
      second = record { small = omega arith; id_is = other.id; header = other.header ∙ old.second.header; nothing_unread = old.second.nothing_unread; nothing_held = old.second.nothing_held };
      limit = one.limit ∙ old.limit ∙ sym other.limit;
    }

pub answers-init : goal.answers-init
answers-init g c =
    let told = c.in_ok-pass_noted.ensures in
    let id = told.counted 0 c.reset_seq_id.ensures.id in
    let both = told.in_step in
    record {
      step = in_step_back c.pass_noted.new.from c.pass_noted.new.to both;
      commands = told.handed;
      answers = sym (append-nil _);
      ids = told.noted ∙ ap (λ (n : ℕ). c.args.heard.now.ids.items ++ (n, n) ∷ []) id;
      id = both.second.id_is ∙ sym both.first.id_is ∙ id;
    }

pub answers-preserved : goal.answers-preserved
answers-preserved g c =
    let old = c.answers.invariant in
    let told = c.in_ok-pass_noted-2.ensures in
    let answer = c.args.exchange.answer.now in
    let command : List ℕ = c.args.exchange.command.packet.now in
    let index : ℕ = c.answers.sent-index in
    let packet_of = λ (sent : Sent). sent.packet.now in
    let passed : List (List ℕ) = map packet_of (take index answer) in
    let sent : Sent = get_or answer index (record { packet = record { ref_ptr = (0, 0); now = [] }; reads = record { ref_ptr = (0, 0); now = [] } }) in
    let all : map packet_of (take (index + 1) answer) ≡ passed ++ packet_of sent ∷ [] = map_more packet_of answer index _ c.answers-test.true in
    let id = told.counted (count_after 0 (command ∷ passed)) old.id in
    record {
      step = told.in_step;
      commands = old.commands;
      answers = handed_more _ _ _ passed (map packet_of (take (index + 1) answer)) (packet_of sent) old.answers all told.handed;
      ids =
          noted_more c.args.heard.now.ids.items c.answers.heard.ids.items c.pass_noted-in-answers.new.ids.items 0 (expected_id c.pass_noted-in-answers.new.from.codec) (command ∷ passed) (packet_of sent) old.ids id told.noted
          ∙ ap (λ (z : List (List ℕ)). c.args.heard.now.ids.items ++ points 0 (command ∷ z)) (sym all);
      id = id ∙ ap (λ (n : ℕ). n % 256) (sym (count_after-more 0 (command ∷ passed) (packet_of sent))) ∙ ap (λ (z : List (List ℕ)). count_after 0 (command ∷ z) % 256) (sym all);
    }

pub returns : goal.returns
returns g c =
    let old = c.answers.invariant in
    let command : List ℕ = c.args.exchange.command.packet.now in
    let all : take c.answers.sent-index c.args.exchange.answer.now ≡ c.args.exchange.answer.now =
    take_all c.answers.sent-index c.args.exchange.answer.now c.answers-test.false in
    let packets = ap (λ (z : List Sent). map (λ sent. sent.packet.now) z) all in
    record {
      commands = old.commands;
      answers = old.answers ∙ ap (λ (z : List (List ℕ)). payloads c.args.heard.now.answers.items ++ z) packets;
      ids = old.ids ∙ ap (λ (z : List (List ℕ)). c.args.heard.now.ids.items ++ points 0 (command ∷ z)) packets;
      in_step = in_step_back c.answers.server c.answers.client old.step;
    }

pub pass_noted-requires-in-answers : goal.pass_noted-requires-in-answers
pass_noted-requires-in-answers g c = c.answers.invariant.step

pub returns-in_err-pass_noted : goal.returns-in_err-pass_noted
returns-in_err-pass_noted g c =
    let answer = c.from_residual.result in
    let is = c.from_residual.ensures.0 in
    record { commands = err_on_ok answer _ is; answers = err_on_ok answer _ is; ids = err_on_ok answer _ is; in_step = err_on_ok answer _ is }

pub returns-in_err-pass_noted-2 : goal.returns-in_err-pass_noted-2
returns-in_err-pass_noted-2 g c =
    let answer = c.from_residual-in_err-pass_noted-2.result in
    let is = c.from_residual-in_err-pass_noted-2.ensures.0 in
    record { commands = err_on_ok answer _ is; answers = err_on_ok answer _ is; ids = err_on_ok answer _ is; in_step = err_on_ok answer _ is }
