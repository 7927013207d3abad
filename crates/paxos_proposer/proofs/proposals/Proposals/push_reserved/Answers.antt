use Rattle.std.specs.Map.{lookup}
use Rattle.paxos_proposer.specs.Identity.{identity_of, same_identity}
use Rattle.paxos_proposer.specs.Proposals.{IsOld}
use Rattle.paxos_proposer.proofs.Listing.{listed_more}
use Rattle.paxos_proposer.proofs.proposals.Proposals.push_reserved.Goals as goal

pub invariant_of-self : goal.invariant_of-self
invariant_of-self g c =
    let old : IsOld c.latest_with-latest.result (lookup (same_identity (identity_of c.args.vote.entry)) c.self.inside.latest.entries) =
    rw (← c.of-identity.ensures) c.latest_with-latest.ensures.old in
    rw (c.push_reserved.ensures.items, c.in-Ok.ensures.entries, c.of-identity.ensures)
    (listed_more c.self.inside.latest.entries c.self.inside.list.items c.args.vote c.latest_with-latest.result c.self.invariant
    (rw (← c.get.ensures.value) c.latest_with-latest.ensures.slot) old)
