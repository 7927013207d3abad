use Rattle.std.proofs.Common.{◌≡◌, ℕ, suc, ◌+◌, length, Option, None, List, [], ◌∷◌, ◌++◌, ◌∙◌, sym, ap, subst, refl, arith, rules}
use Rattle.paxos_packets.specs.declared.entry.Entry.{Entry}
use Rattle.paxos_learner.specs.Learned.{placed, places_from, all_places, shelf_with, shelf_of, starts_at, KeepsPlaces}
use Rattle.paxos_learner.proofs.Ahead.{moved, free_placed, keeps_free, starts_first}
use Rattle.paxos_learner.proofs.learned.extend.Goals as goal

pub returns-then-not-stands_first-clause-learned : goal.returns-then-not-stands_first-clause-learned
returns-then-not-stands_first-clause-learned g c =
    let run : List (Option (Entry g.row.B.Denot)) = c.args.run.now.items in
    let ps : List (ℕ × Option (Entry g.row.B.Denot)) = c.args.ahead.now.entries in
    let items : c.push_reserved.new.self.items ≡ run ++ None ∷ [] =
    c.push_reserved.ensures.items ∙ ap (λ (r : List (Option (Entry g.row.B.Denot))). r ++ None ∷ []) c.reserve.ensures.items in
    ap (λ (r : List (Option (Entry g.row.B.Denot))). placed (all_places c.args.floor r ps)) items
    ∙ ap (λ (qs : List (ℕ × Option (Entry g.row.B.Denot))). placed qs) (moved (suc c.args.floor) (suc c.args.floor + length run) None run ps refl)
    ∙ free_placed (suc c.args.floor + length run) (places_from (suc c.args.floor) run) ps

pub returns-then-not-stands_first-clause-places : goal.returns-then-not-stands_first-clause-places
returns-then-not-stands_first-clause-places g c =
    let run : List (Option (Entry g.row.B.Denot)) = c.args.run.now.items in
    let ps : List (ℕ × Option (Entry g.row.B.Denot)) = c.args.ahead.now.entries in
    let items : c.push_reserved.new.self.items ≡ run ++ None ∷ [] =
    c.push_reserved.ensures.items ∙ ap (λ (r : List (Option (Entry g.row.B.Denot))). r ++ None ∷ []) c.reserve.ensures.items in
    let floor : ℕ = c.args.floor in
    let goes : all_places floor c.push_reserved.new.self.items ps ≡ places_from (suc floor) run ++ (suc floor + length run, None) ∷ ps =
    ap (λ (r : List (Option (Entry g.row.B.Denot))). all_places floor r ps) items ∙ moved (suc floor) (suc floor + length run) None run ps refl in
    subst (λ (qs : List (ℕ × Option (Entry g.row.B.Denot))). KeepsPlaces (shelf_of floor run ps) (shelf_with floor qs)) (sym goes)
    (keeps_free floor (suc floor + length run) (places_from (suc floor) run) ps)

whole : (g : _) → (c : goal.After-push_reserved-2 g)
    → all_places c.args.floor c.push_reserved-2.new.self.items c.pop_first.new.self.entries
    ≡ all_places c.args.floor c.args.run.now.items c.args.ahead.now.entries
whole g c =
    let run : List (Option (Entry g.row.B.Denot)) = c.args.run.now.items in
    let rest : List (ℕ × Option (Entry g.row.B.Denot)) = c.pop_first.new.self.entries in
    let items : c.push_reserved-2.new.self.items ≡ run ++ c.in-Some.place ∷ [] =
    c.push_reserved-2.ensures.items ∙ ap (λ (r : List (Option (Entry g.row.B.Denot))). r ++ c.in-Some.place ∷ []) c.reserve.ensures.items in
    let starts : starts_at (c.args.last + 1) c.args.ahead.now.entries = search rules in
    let first : c.in-Some.field-0-0 ≡ c.args.last + 1 =
    starts_first (c.args.last + 1) c.in-Some.field-0-0 c.in-Some.place c.args.ahead.now.entries rest starts c.in-Some.ensures.removal in
    ap (λ (r : List (Option (Entry g.row.B.Denot))). all_places c.args.floor r rest) items
    ∙ moved (suc c.args.floor) c.in-Some.field-0-0 c.in-Some.place run rest (omega (arith, first, c.requires.last))
    ∙ ap (λ (qs : List (ℕ × Option (Entry g.row.B.Denot))). all_places c.args.floor run qs) (sym c.in-Some.ensures.removal)

pub returns-clause-learned : goal.returns-clause-learned
returns-clause-learned g c = ap (λ (qs : List (ℕ × Option (Entry g.row.B.Denot))). placed qs) (whole g c)

pub returns-clause-places : goal.returns-clause-places
returns-clause-places g c =
    subst (λ (qs : List (ℕ × Option (Entry g.row.B.Denot))). KeepsPlaces (shelf_of c.args.floor c.args.run.now.items c.args.ahead.now.entries) (shelf_with c.args.floor qs))
    (sym (whole g c)) (λ s h. h)
