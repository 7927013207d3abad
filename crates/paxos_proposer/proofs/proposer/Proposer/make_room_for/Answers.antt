use Rattle.std.proofs.Common.{◌≡◌, ℕ, ◌∙◌, subst, rules, tests}
use Rattle.std.specs.Prelude.{OnOk}
use Rattle.std.proofs.lemmas.Iterator.{YieldsList-from_slice}
use Rattle.std.proofs.lemmas.Iterator.Consumers.{YieldsList-from_filter, count_from_yields_List}
use Rattle.std.proofs.lemmas.List.Sums.{length-filter}
use Rattle.paxos_proposer.specs.Moves.{keeps_promise, keeps_proposal, promises_in, proposals_in}
use Rattle.paxos_proposer.specs.State.{HasRoom}
use Rattle.paxos_proposer.proofs.proposer.Proposer.make_room_for.Goals as goal

pub returns-clause-ok : goal.returns-clause-ok
returns-clause-ok g c =
    let promises : c.count-promises.result ≡ promises_in c.args.moves.now =
    count_from_yields_List c.filter.result c.count-promises.result c.count-promises.ensures.ran
    (YieldsList-from_filter _ keeps_promise (YieldsList-from_slice c.args.moves.now cc) c.filter.ensures.closure (λ x b q k. search (rules, tests)))
    ∙ length-filter keeps_promise c.args.moves.now in
    let proposals : c.count-proposals.result ≡ proposals_in c.args.moves.now =
    count_from_yields_List c.filter-2.result c.count-proposals.result c.count-proposals.ensures.ran
    (YieldsList-from_filter _ keeps_proposal (YieldsList-from_slice c.args.moves.now cc) c.filter-2.ensures.closure (λ x b q k. search (rules, tests)))
    ∙ length-filter keeps_proposal c.args.moves.now in
    subst (λ (n : ℕ). OnOk c.make_room.result (HasRoom n (proposals_in c.args.moves.now) c.make_room.new.self.room)) promises
    (subst (λ (n : ℕ). OnOk c.make_room.result (HasRoom c.count-promises.result n c.make_room.new.self.room)) proposals c.make_room.ensures.ok)
