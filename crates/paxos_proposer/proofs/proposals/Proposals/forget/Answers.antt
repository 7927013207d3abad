-- What is left after `retain` is what its test keeps.
use Rattle.std.proofs.Common.{rules, ◌≡◌, ℕ}
use Rattle.std.specs.Prelude.{nat_lt, filter}
use Rattle.std.proofs.lemmas.Fn.{filter_same}
use Rattle.std.proofs.lemmas.Map.Made.{filter_same_pairs}
use Rattle.paxos_proposer.specs.declared.identity.Identity.{Identity}
use Rattle.paxos_proposer.specs.Proposals.{behind}
use Rattle.paxos_proposer.proofs.Listing.{listed_after}
use Rattle.paxos_proposer.proofs.proposals.Proposals.forget.Goals as goal

pub invariant_of-self : goal.invariant_of-self
invariant_of-self g c =
    let votes : c.retain.new.self.items ≡ behind c.args.floor c.self.inside.list.items =
    filter_same _ (λ v. nat_lt c.args.floor v.slot) _ (λ x b f' k. search rules) c.self.inside.list.items _ c.retain.ensures.filtered in
    let table : c.retain-2.new.self.entries ≡ filter (λ (e : Identity × ℕ). nat_lt c.args.floor e.1) c.self.inside.latest.entries =
    filter_same_pairs _ (λ (e : Identity × ℕ). nat_lt c.args.floor e.1) _ (λ k v b w f' t. search rules) c.self.inside.latest.entries _
    c.retain-2.ensures.filtered in
    rw (votes, table) (listed_after c.args.floor c.self.inside.latest.entries c.self.inside.list.items c.self.invariant)

pub returns-clause-votes : goal.returns-clause-votes
returns-clause-votes g c =
    rw (← c.self.view_is)
    (filter_same _ (λ v. nat_lt c.args.floor v.slot) _ (λ x b f' k. search rules) c.self.inside.list.items _ c.retain.ensures.filtered)
