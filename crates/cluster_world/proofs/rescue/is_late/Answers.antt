use Rattle.std.proofs.Common.{◌≡◌, ◌-◌, suc, max, sym, refl, ap, ◌∙◌, rules}
use Rattle.std.specs.Prelude.{nat_lt}
use Rattle.std.proofs.lemmas.Bool.{ltb-true}
use Rattle.paxos_proposer.specs.Proposer.{round_end, round_of}
use Rattle.cluster_world.proofs.Rising.{none_left, before}
use Rattle.cluster_world.specs.Rescue.{last_rescue_round}
use Rattle.cluster_world.proofs.rescue.is_late.Goals as goal

pub returns-in_default : goal.returns-in_default
unfolding last_rescue_round round_end
returns-in_default g c =
    sym (none_left 281474976710648 281474976710656 c.args.node.now.state.proposer.seen (round_of c.args.node.now.state.rows.promised) (search rules)
    (ltb-true 281474976710649 281474976710656 refl))

pub returns : goal.returns
unfolding last_rescue_round
returns g c =
    let next : c.in-Ok.ballot.round ≡ suc c.args.node.now.state.proposer.seen = search rules in
    let other : c.round_of.result ≡ round_of c.args.node.now.state.rows.promised = search rules in
    let seen : c.in-Ok.ballot.round - 1 ≡ c.args.node.now.state.proposer.seen = before c.in-Ok.ballot.round c.args.node.now.state.proposer.seen next in
    let most : c.max.result ≡ max (c.in-Ok.ballot.round - 1) c.round_of.result = search rules in
    ap (λ r. nat_lt 281474976710648 r) (most ∙ (λ i. max (seen i) (other i)))
