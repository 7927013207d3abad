use Rattle.std.proofs.Common.{◌≡◌, ℕ, suc, ◌+◌, ◌-◌, ◌<◌, ◌≤◌, true, length, None, Some, ◌∙◌, sym, ap, subst, arith, nat_cmp}
use Rattle.std.specs.Map.{lookup}
use Rattle.std.specs.BTreeMap.{is_at}
use Rattle.paxos_learner.specs.Learned.{placed, all_places, shelf_of, Shelf, AreRising, has_room_on, KeepsPlaces}
use Rattle.paxos_learner.specs.Learner.{learned_at, put_learned}
use Rattle.paxos_learner.proofs.Ahead.{rising_put, put_near, keeps_near, put_far, keeps_far, look_behind, has_key, open_place}
use Rattle.paxos_learner.proofs.learned.LearnedEntries.put_in_place.Goals as goal

pub returns-then-after-len-clause-learned : goal.returns-then-after-len-clause-learned
returns-then-after-len-clause-learned g c =
    let floor : ℕ = c.self.inside.floor in
    let above : floor < c.args.slot = omega (arith, ap (λ (s : Shelf g.row.B.Denot). s.floor) c.self.view_is, c.requires.above) in
    let none : learned_at c.args.slot (placed (all_places floor c.self.inside.run.items c.self.inside.ahead.entries)) ≡ None =
    ap (λ (s : Shelf g.row.B.Denot). learned_at c.args.slot s.learned) c.self.view_is ∙ c.requires.free in
    put_near floor c.args.slot (c.get-number.result - c.get.result - 1) c.args.entry c.self.inside.run.items c.self.inside.ahead.entries
    (omega (arith, above, c.get-number.ensures.value, c.get.ensures.value))
    (omega (arith, above, c.if-after-len.true, c.len.ensures, c.get-number.ensures.value, c.get.ensures.value)) c.self.invariant none
    ∙ ap (λ (s : Shelf g.row.B.Denot). put_learned (record { slot = c.args.slot; entry = c.args.entry }) s.learned) c.self.view_is

pub returns-then-after-len-clause-places : goal.returns-then-after-len-clause-places
returns-then-after-len-clause-places g c =
    let floor : ℕ = c.self.inside.floor in
    let above : floor < c.args.slot = omega (arith, ap (λ (s : Shelf g.row.B.Denot). s.floor) c.self.view_is, c.requires.above) in
    let none : learned_at c.args.slot (placed (all_places floor c.self.inside.run.items c.self.inside.ahead.entries)) ≡ None =
    ap (λ (s : Shelf g.row.B.Denot). learned_at c.args.slot s.learned) c.self.view_is ∙ c.requires.free in
    let keeps = keeps_near floor c.args.slot (c.get-number.result - c.get.result - 1) c.args.entry c.self.inside.run.items c.self.inside.ahead.entries
    (omega (arith, above, c.get-number.ensures.value, c.get.ensures.value))
    (omega (arith, above, c.if-after-len.true, c.len.ensures, c.get-number.ensures.value, c.get.ensures.value)) c.self.invariant none in
    λ s h. keeps s (subst (λ (t : Shelf g.row.B.Denot). has_room_on s t ≡ true) (sym c.self.view_is) h)

pub unreachable-requires : goal.unreachable-requires
unreachable-requires g c =
    let floor : ℕ = c.self.inside.floor in
    let above : floor < c.args.slot = omega (arith, ap (λ (s : Shelf g.row.B.Denot). s.floor) c.self.view_is, c.requires.above) in
    let none : learned_at c.args.slot (placed (all_places floor c.self.inside.run.items c.self.inside.ahead.entries)) ≡ None =
    ap (λ (s : Shelf g.row.B.Denot). learned_at c.args.slot s.learned) c.self.view_is ∙ c.requires.free in
    let absent : lookup (is_at (nat_cmp c.args.slot)) c.self.inside.ahead.entries ≡ None =
    subst (λ (s : ℕ). lookup (is_at (nat_cmp s)) c.self.inside.ahead.entries ≡ None) c.get-number.ensures.value c.in_default.ensures.absent in
    let behind : suc floor + length c.self.inside.run.items ≤ c.args.slot =
    omega (arith, c.if-after-len.false, c.len.ensures, c.get-number.ensures.value, c.get.ensures.value) in
    has_key c.args.slot (placed (all_places floor c.self.inside.run.items c.self.inside.ahead.entries))
    (all_places floor c.self.inside.run.items c.self.inside.ahead.entries) none
    (open_place floor c.args.slot _ above
    (subst (λ (s : Shelf g.row.B.Denot). has_room_on c.args.slot s ≡ true) (sym c.self.view_is) c.requires.place))
    (look_behind (suc floor) c.args.slot c.self.inside.run.items c.self.inside.ahead.entries behind ∙ absent)

pub invariant_of-self-2 : goal.invariant_of-self-2
invariant_of-self-2 g c =
    let floor : ℕ = c.self.inside.floor in
    let rising : AreRising (floor + length c.self.inside.run.items) c.insert.new.self.entries = rw c.in-Ok.ensures.entries
    (rising_put (floor + length c.self.inside.run.items) c.get-number.result (Some c.args.entry) c.self.inside.ahead.entries
    (omega (arith, c.if-after-len.false, c.len.ensures, c.get.ensures.value)) (omega (arith, c.get-number.ensures.most)) c.self.invariant) in
    rising

pub returns-clause-learned : goal.returns-clause-learned
returns-clause-learned g c =
    let floor : ℕ = c.self.inside.floor in
    let none : learned_at c.args.slot (placed (all_places floor c.self.inside.run.items c.self.inside.ahead.entries)) ≡ None =
    ap (λ (s : Shelf g.row.B.Denot). learned_at c.args.slot s.learned) c.self.view_is ∙ c.requires.free in
    let is : placed (all_places floor c.self.inside.run.items c.insert.new.self.entries)
    ≡ put_learned (record { slot = c.args.slot; entry = c.args.entry }) (placed (all_places floor c.self.inside.run.items c.self.inside.ahead.entries)) = rw
    (c.in-Ok.ensures.entries, c.get-number.ensures.value)
    (put_far floor c.args.slot c.args.entry c.self.inside.run.items c.self.inside.ahead.entries
    (omega (arith, c.if-after-len.false, c.len.ensures, c.get-number.ensures.value, c.get.ensures.value)) c.self.invariant none) in
    is ∙ ap (λ (s : Shelf g.row.B.Denot). put_learned (record { slot = c.args.slot; entry = c.args.entry }) s.learned) c.self.view_is

pub returns-clause-places : goal.returns-clause-places
returns-clause-places g c =
    let floor : ℕ = c.self.inside.floor in
    let none : learned_at c.args.slot (placed (all_places floor c.self.inside.run.items c.self.inside.ahead.entries)) ≡ None =
    ap (λ (s : Shelf g.row.B.Denot). learned_at c.args.slot s.learned) c.self.view_is ∙ c.requires.free in
    let keeps : KeepsPlaces (shelf_of floor c.self.inside.run.items c.self.inside.ahead.entries)
    (shelf_of floor c.self.inside.run.items c.insert.new.self.entries) = rw
    (c.in-Ok.ensures.entries, c.get-number.ensures.value)
    (keeps_far floor c.args.slot c.args.entry c.self.inside.run.items c.self.inside.ahead.entries
    (omega (arith, c.if-after-len.false, c.len.ensures, c.get-number.ensures.value, c.get.ensures.value)) c.self.invariant none) in
    λ s h. keeps s (subst (λ (t : Shelf g.row.B.Denot). has_room_on s t ≡ true) (sym c.self.view_is) h)
