use Rattle.std.proofs.Common.{◌≡◌, ℕ, ◌+◌, ◌<◌, length, ◌∙◌, ap, subst, arith, option_copied}
use Rattle.std.specs.Prelude.{◌^◌}
use Rattle.paxos_learner.specs.Learned.{placed, all_places, Shelf}
use Rattle.paxos_learner.specs.Learner.{learned_at}
use Rattle.paxos_learner.proofs.Ahead.{ends, in_run, outside_run, lower}
use Rattle.paxos_learner.proofs.learned.LearnedEntries.find.Goals as goal

pub find_ahead-requires : goal.find_ahead-requires
find_ahead-requires g c =
    lower 0 (c.self.inside.floor + length c.self.inside.run.items) c.self.inside.ahead.entries (omega arith) c.self.invariant

pub returns-in-Some : goal.returns-in-Some
returns-in-Some g c =
    let last : c.self.inside.floor + length c.self.inside.run.items < 2 ^ 40 =
    ends (c.self.inside.floor + length c.self.inside.run.items) c.self.inside.ahead.entries c.self.invariant in
    let there : c.in-Some.place.now ≡ learned_at c.args.slot (placed (all_places c.self.inside.floor c.self.inside.run.items c.self.inside.ahead.entries)) =
    rw (← c.deref.ensures.value)
    (in_run c.self.inside.floor c.args.slot _ c.deref.result.now c.self.inside.ahead.entries c.in-Some.place.now
    (omega (arith, last, c.get-number.ensures.value, c.get-number.ensures.most, c.get.ensures.value, c.in-Some.ensures.lookup.3.0))
    c.in-Some.ensures.lookup.3.0 c.in-Some.ensures.lookup.1 (rw c.deref.ensures.value c.self.invariant)) in
    c.as_ref.ensures.value ∙ there ∙ ap (λ (s : Shelf g.row.B.Denot). learned_at c.args.slot s.learned) c.self.view_is

pub returns-in-None : goal.returns-in-None
returns-in-None g c =
    let last : c.self.inside.floor + length c.self.inside.run.items < 2 ^ 40 =
    ends (c.self.inside.floor + length c.self.inside.run.items) c.self.inside.ahead.entries c.self.invariant in
    rw (← c.self.view_is)
    (subst (λ (s : ℕ). option_copied c.find_ahead.result ≡ learned_at s (placed (all_places c.self.inside.floor c.self.inside.run.items c.self.inside.ahead.entries)))
    c.get-number.ensures.value
    (c.find_ahead.ensures
    ∙ outside_run c.self.inside.floor c.get-number.result c.self.inside.run.items c.self.inside.ahead.entries
    (λ (above : c.self.inside.floor < c.get-number.result). omega (arith, above, last, c.in-None.ensures.lookup.3, c.get.ensures.value, c.get-number.ensures.most))
    c.self.invariant))
