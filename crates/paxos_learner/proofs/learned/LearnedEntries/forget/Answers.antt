use Rattle.std.proofs.Common.{◌≡◌, ℕ, ◌+◌, ◌-◌, ◌<◌, ◌≤◌, ◌^◌, List, Option, length, drop, ◌∙◌, sym, ap, subst, arith, rules}
use Rattle.std.specs.Map.{keys_of}
use Rattle.std.specs.Prelude.{nat_lt}
use Rattle.std.proofs.lemmas.Map.Made.{filter_same_pairs}
use Rattle.paxos_packets.specs.declared.entry.Entry.{Entry}
use Rattle.paxos_learner.specs.Learned.{placed, all_places, Shelf, AreRising, KeepsPlaces, learned_above, slots_above}
use Rattle.paxos_learner.proofs.Forgetting.{places_above, placed_above, keys_above, whole_above, rest_rises, keeps_above}
use Rattle.paxos_learner.proofs.learned.LearnedEntries.forget.Goals as goal

ahead : (g : _) → (c : goal.After-floor-1 g) → c.retain.new.self.entries ≡ places_above c.args.floor c.self.inside.ahead.entries
ahead g c =
    filter_same_pairs _ (λ (p : ℕ × Option (Entry g.row.B.Denot)). nat_lt c.args.floor p.0) _ (λ k v b w f' t. search rules)
    c.self.inside.ahead.entries _ c.retain.ensures.filtered

later : (g : _) → (c : goal.After-floor-1 g) → c.self.inside.floor ≤ c.args.floor
later g c = omega (arith, ap (λ (s : Shelf g.row.B.Denot). s.floor) c.self.view_is, c.requires)

rest : (g : _) → (c : goal.After-floor-1 g)
    → all_places c.args.floor c.forget_run.new.run.items c.retain.new.self.entries
    ≡ places_above c.args.floor (all_places c.self.inside.floor c.self.inside.run.items c.self.inside.ahead.entries)
rest g c =
    (λ i. all_places c.args.floor (c.forget_run.ensures i) (ahead g c i))
    ∙ whole_above c.self.inside.floor (c.get-number.result - c.get.result) c.args.floor c.self.inside.run.items c.self.inside.ahead.entries
    (omega (arith, later g c, c.get-number.ensures.value, c.get.ensures.value))

learned : (g : _) → (c : goal.After-floor-1 g)
    → placed (all_places c.args.floor c.forget_run.new.run.items c.retain.new.self.entries) ≡ learned_above c.args.floor c.args.self.now.learned
learned g c =
    ap placed (rest g c) ∙ placed_above c.args.floor (all_places c.self.inside.floor c.self.inside.run.items c.self.inside.ahead.entries)
    ∙ ap (λ (s : Shelf g.row.B.Denot). learned_above c.args.floor s.learned) c.self.view_is

slots : (g : _) → (c : goal.After-floor-1 g)
    → keys_of (all_places c.args.floor c.forget_run.new.run.items c.retain.new.self.entries) ≡ slots_above c.args.floor c.args.self.now.places
slots g c =
    ap keys_of (rest g c) ∙ keys_above c.args.floor (all_places c.self.inside.floor c.self.inside.run.items c.self.inside.ahead.entries)
    ∙ ap (λ (s : Shelf g.row.B.Denot). slots_above c.args.floor s.places) c.self.view_is

pub invariant_of-self : goal.invariant_of-self
invariant_of-self g c =
    let most : c.args.floor < 2 ^ 40 = omega (arith, c.get-number.ensures.value, c.get-number.ensures.most) in
    let rises : AreRising (c.args.floor + length (drop (c.get-number.result - c.get.result) c.self.inside.run.items))
    (places_above c.args.floor c.self.inside.ahead.entries) =
    rest_rises c.self.inside.floor (c.get-number.result - c.get.result) c.args.floor c.self.inside.run.items c.self.inside.ahead.entries
    (omega (arith, later g c, c.get-number.ensures.value, c.get.ensures.value)) most c.self.invariant in
    subst (λ (x : List (Option (Entry g.row.B.Denot)) × List (ℕ × Option (Entry g.row.B.Denot))). AreRising (c.args.floor + length x.0) x.1)
    (λ i. (sym c.forget_run.ensures i, sym (ahead g c) i)) rises

pub returns-clause-learned : goal.returns-clause-learned
returns-clause-learned g c = learned g c

pub returns-clause-slots : goal.returns-clause-slots
returns-clause-slots g c = slots g c

pub returns-clause-places : goal.returns-clause-places
returns-clause-places g c =
    subst (λ (s : Shelf g.row.B.Denot). KeepsPlaces c.args.self.now s)
    (λ i. record { floor = c.args.floor; learned = sym (learned g c) i; places = sym (slots g c) i })
    (keeps_above c.args.self.now.floor c.args.floor c.args.self.now.learned c.args.self.now.places c.requires)
