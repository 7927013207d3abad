use Rattle.std.proofs.Common.{◌≡◌, ◌<◌, ◌≤◌, Bool, false, ◌&&◌, ◌∙◌, sym, ap, subst}
use Rattle.std.specs.Prelude.{nat_lt}
use Rattle.std.proofs.lemmas.Bool.{and_from, le-ltb, lt-ltb}
use Rattle.std.proofs.lemmas.List.{at_drop_all}
use Rattle.paxos_packets.specs.Entry.{same_entry}
use Rattle.paxos_proposer.specs.Proposals.{stands_among}
use Rattle.paxos_proposer.proofs.Listing.{stands_there, stands_behind, and_false}
use Rattle.paxos_proposer.proofs.proposals.stands_among.Goals.{else-applied-get-via-then-applied-get+else-same, else-applied-get-via-else-applied-get}
use Rattle.paxos_proposer.proofs.proposals.stands_among.Goals as goal

pub loop-vote-preserved : goal.loop-vote-preserved
loop-vote-preserved g c =
    let passed : (nat_lt c.args.applied c.vote-item.result.slot && same_entry g.B.Body.same c.vote-item.result.entry c.args.entry.now) ≡ false =
    elim c.else-applied-get.branch [
      | else-applied-get-via-then-applied-get+else-same w ↦
          and_false (nat_lt c.args.applied c.vote-item.result.slot) _ (sym w.same.ensures ∙ w.if-same.false)
      | else-applied-get-via-else-applied-get w ↦
          ap (λ (b : Bool). b && same_entry g.B.Body.same c.vote-item.result.entry c.args.entry.now)
          (le-ltb c.args.applied c.vote-item.result.slot (subst (λ n. n ≤ c.args.applied) c.get.ensures.value w.if-applied-get.false))
    ] in
    stands_behind g.B.Body.same c.args.applied c.args.entry.now c.args.votes.now c.loop-vote.vote-index c.vote-item.result c.loop-vote-test.true
    c.vote-item.is passed ∙ c.loop-vote.invariant

pub returns : goal.returns
returns g c =
    sym (at_drop_all (λ vs. stands_among g.B.Body.same c.args.applied c.args.entry.now vs) c.args.votes.now c.loop-vote.vote-index c.loop-vote-test.false)
    ∙ c.loop-vote.invariant

pub returns-then-same : goal.returns-then-same
returns-then-same g c =
    sym (stands_there g.B.Body.same c.args.applied c.args.entry.now c.args.votes.now c.loop-vote.vote-index c.vote-item.result c.loop-vote-test.true
    c.vote-item.is
    (and_from _ _ (lt-ltb c.args.applied c.vote-item.result.slot (subst (λ n. c.args.applied < n) c.get.ensures.value c.if-applied-get.true))
    (sym c.same.ensures ∙ c.if-same.true)))
