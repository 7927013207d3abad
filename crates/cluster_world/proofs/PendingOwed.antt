-- What is pending at a node that is up, Losts apart, is what it owes.
use Rattle.std.proofs.Common.{◌≡◌, ◌⊎◌, inl, inr, ⊎_elim, ℕ, suc, ◌+◌, ◌<◌, ◌≤◌, Bool, true, false, refl, sym, ap, ◌∙◌, subst, arith}
use Rattle.paxos_packets.specs.declared.rows.Rows.{Rows}
use Rattle.std.proofs.Common.{List, [], ◌∷◌, ◌++◌, length, append_assoc, Some}
use Rattle.std.specs.Prelude.{filter, nat_lt, not}
use Rattle.std.proofs.lemmas.List.{append-nil, length-append}
use Rattle.std.proofs.lemmas.List.Elements.{filter-append}
use Rattle.std.proofs.lemmas.Bool.{cases_eq, cases_lt, and_parts, cond-true, cond-false, leb-false}
use Rattle.cluster_world.proofs.Lists.{has_right}
use Rattle.cluster_world.proofs.EveryWorld.{found_all, whole_is, within, node_same, node_other, play_on}
use Rattle.cluster_world.proofs.Standing.{acts_after, Keeps, Cuts, Takes, Turned, turns, Ran, Began, event_cases}
use Rattle.cluster_world.proofs.Alone.{undelivered, all_idle}
use Rattle.cluster_world.proofs.Cuts.{IsCut, RestsOnCut}
use Rattle.cluster_world.proofs.Heads.{standing_on, stands_under, heads_ok, stands, cut_stands, all_rise, told_boots}
use Rattle.cluster_world.proofs.Overtaking.{snapshot_cut, longer_log}
use Rattle.cluster_world.proofs.Taking.{May, by_next, founded_each, Adds, event_adds, acts_on, same_acts, acts_ok, item_was_taken}
use Rattle.cluster_world.proofs.Booting.{new_lost_suspects, suspected_has, boot_was_had}
use Rattle.cluster_world.proofs.Owing.{filter_swap, kept, owed_by, owed_early, MayStand, Owes, Known, applies_owed, owed_push, rested_owed, boot_early, owed_is}
use Rattle.cluster_world.proofs.Pending.{has_place, none_kept, no_length, stands_so, applied_all}
use Rattle.cluster_world.specs.Has.{Has, here}
use Rattle.paxos_packets.specs.declared.entry.Entry.{Entry}
use Rattle.paxos_packets.specs.declared.entry.Entry.TheVariants.{Boot, Item}
use Rattle.paxos_packets.specs.Rows.{raised, last_boot, first_rows}
use Rattle.paxos_packets.specs.Body.{IsEquality}
use Rattle.paxos_learner.specs.Learner.{run_from}
use Rattle.replica_machine.specs.declared.roll.Standing.{Standing}
use Rattle.replica_machine.specs.declared.roll.Standing.TheVariants.{Unknown, Live}
use Rattle.replica_machine.specs.Roll.{standing_from, standing, is_wanted_by}
use Rattle.replica_machine.specs.Snapshot.{standing_from_node}
use Rattle.paxos_node.specs.declared.event.Event.{Event}
use Rattle.paxos_node.specs.declared.event.Event.TheVariants.{Take, Tick, Start, Suspect, Deliver, Cut, Crash, Restart}
use Rattle.paxos_planning.specs.Node.{NodeState, Plan, log_length}
use Rattle.paxos_planning.specs.Plan.{begun}
use Rattle.paxos_node.specs.Applying.{stands_by, stands_at, standing_of, started}
use Rattle.paxos_node.specs.Snapshots.{may_cut, boot_in}
use Rattle.paxos_node.specs.Events.{takes, new_item, new_lost, owner, possible, on_event, outcome_of, made_by}
use Rattle.cluster_world.specs.World.{World, node_at, first_boots, first_world, done, next, played, under, log_of}
use Rattle.paxos_packets.specs.Snapshot as taken
use Rattle.cluster_world.specs.Origins.{Act, acts_of}
use Rattle.cluster_world.specs.Owed.{items_after, PendingIsOwed, owed}

off : false ≡ true → ⊥
off e = cc

module _ {B : Type 0} (same : B → B → Bool) (members : ℕ) where
  -- what an event makes, Losts apart, is the acts that it adds
  abbrev Makes : Event B → NodeState B → Type 0
  Makes e x =
      ((filter kept (made_by same e x) ≡ []) × (acts_of (owner e) x.rows.boot (made_by same e x) ≡ []))
      ⊎ ((a : Act B) × (filter kept (made_by same e x) ≡ Item (owner e) x.rows.boot (suc x.taken) a.transport a.body ∷ [])
      × (acts_of (owner e) x.rows.boot (made_by same e x) ≡ a ∷ []))

  no_act : (e : Event B) (x : NodeState B) → Adds same members e x → acts_after e x ≡ x.taken
      → acts_of (owner e) x.rows.boot (made_by same e x) ≡ []
  no_act e x adds after =
      no_length (acts_of (owner e) x.rows.boot (made_by same e x))
      (zero_more (length (acts_of (owner e) x.rows.boot (made_by same e x))) (adds.own ∙ after))
    where
      zero_more : (k : ℕ) → k + x.taken ≡ x.taken → k ≡ 0
      zero_more k e = omega arith

  makes : (e : Event B) (x : NodeState B) → x.up ≡ true → possible e x ≡ true → Adds same members e x → Makes e x
  makes (Take n t body) x up p adds = go (takes x) refl
    where
      go : (z : Bool) → takes x ≡ z → Makes (Take n t body) x
      go true r =
          let is : made_by same (Take n t body) x ≡ new_item n t body x ∷ [] =
          cond-true (takes x) (new_item n t body x ∷ []) [] r in
          inr (
            record { transport = t; body = body },
            ap (λ es. filter kept es) is,
            (adds.item n x.rows.boot (suc x.taken) t body (subst (λ es. Has es (new_item n t body x)) (sym is) here)).4,
          )
      go false r =
          let is : made_by same (Take n t body) x ≡ [] = cond-false (takes x) (new_item n t body x ∷ []) [] r in
          inl (ap (λ es. filter kept es) is, ap (λ es. acts_of n x.rows.boot es) is)
  makes (Tick n) x up p adds = inl (refl, refl)
  makes (Start n) x up p adds = inl (refl, refl)
  makes (Suspect n other) x up p adds =
      inl (
        none_kept (made_by same (Suspect n other) x) (λ e h.
            let r = suspected_has other x (new_lost same n other x) (new_lost_suspects same n other x) e h in ap kept r.1),
        no_act (Suspect n other) x adds refl,
      )
  makes (Deliver q) x up p adds = inl (refl, refl)
  makes (Cut n o) x up p adds = inl (refl, refl)
  makes (Crash n) x up p adds = inl (refl, refl)
  makes (Restart n) x up p adds =
      absurd
      (off
      (sym (ap not up)
      ∙ (and_parts (not x.up) (nat_lt x.rows.boot last_boot) p).0))

  -- so what is owed grows by what is made
  owes_made : (e : Event B) (x : NodeState B) (acts : List (Act B)) (s : Standing) → MayStand x.rows.boot s (length acts) → length acts ≡ x.taken
      → Makes e x
      → owed_by (owner e) x.rows.boot s acts ++ filter kept (made_by same e x)
      ≡ owed_by (owner e) x.rows.boot s (acts ++ acts_of (owner e) x.rows.boot (made_by same e x))
  owes_made e x acts s m count (inl q) =
      ap (λ l. owed_by (owner e) x.rows.boot s acts ++ l) q.0
      ∙ append-nil (owed_by (owner e) x.rows.boot s acts)
      ∙ ap (λ l. owed_by (owner e) x.rows.boot s l) (sym (append-nil acts))
      ∙ ap (λ l. owed_by (owner e) x.rows.boot s (acts ++ l)) (sym q.1)
  owes_made e x acts s m count (inr q) =
      ap (λ l. owed_by (owner e) x.rows.boot s acts ++ l) q.1
      ∙ ap (λ k. owed_by (owner e) x.rows.boot s acts ++ Item (owner e) x.rows.boot (suc k) (q.0).transport (q.0).body ∷ []) (sym count)
      ∙ sym (owed_push (owner e) acts x.rows.boot s q.0 m)
      ∙ ap (λ l. owed_by (owner e) x.rows.boot s (acts ++ l)) (sym q.2)

  module _ (equal : IsEquality same) (seven : members ≤ 7) where
    abbrev acts_at : World B → ℕ → List (Act B)
    acts_at w k = acts_of k (node_at w.nodes k).rows.boot w.made

    pub known_at : (es : List (Event B)) (k : ℕ) → (node_at (played same members es).nodes k).up ≡ true
        → Known k (acts_at (played same members es) k) (node_at (played same members es).nodes k).rows.boot
        (node_at (played same members es).nodes k).applied
    known_at es k up =
        record {
          boots = λ c h. (boot_was_had same members equal es k k c (logged (Boot k c) h)).2;
          items = λ q t x h.
              let z = item_was_taken same members equal es k k (node_at v.nodes k).rows.boot q t x
              (logged (Item k (node_at v.nodes k).rows.boot q t x) h) in
              subst (λ i. i ≤ length (acts_at v k)) (sym z.1) (has_place (acts_at v k) z.0 (record { transport = t; body = x }) z.2);
        }
      where
        v : World B
        v = played same members es

        logged : (e : Entry B) → Has (node_at v.nodes k).applied e → Has (log_of v k) e
        logged e h =
            subst (λ l. Has l e) (sym (whole_is v.cuts (node_at v.nodes k) up)) (has_right (under v.cuts (node_at v.nodes k).rows.snapshot) h)

    abbrev AllOwe : World B → Type 0
    AllOwe w = (k : ℕ) → (node_at w.nodes k).up ≡ true → Owes k (acts_at w k) (node_at w.nodes k)

    -- the node whose event it is, in the world after it
    module _ (w : World B) (e : Event B) where
      abbrev x : NodeState B
      x = node_at w.nodes (owner e)

      abbrev v : Plan B
      v = on_event same members e (begun x)

      abbrev o : Plan B
      o = outcome_of same members e x

      abbrev later : List (Act B)
      later = acts_of (owner e) x.rows.boot (w.made ++ made_by same e x)

      -- a cut leaves it standing where it stood; and no snapshot that it takes knows an earlier boot of it than it has
      abbrev CutsStand : Type 0
      CutsStand = (s : taken.Snapshot) → may_cut (Some s) x ≡ true → (k : ℕ) → stands_at (Some s) k ≡ standing_of x k

      abbrev BootsRise : Type 0
      BootsRise = (k : Takes e x v) → boot_in (standing_of x (owner e)) ≤ boot_in (stands_at (Some k.snapshot) (owner e))

      -- if nothing is made, its acts are the same
      no_more : made_by same e x ≡ [] → acts_at w (owner e) ≡ later
      no_more none = ap (λ l. acts_of (owner e) x.rows.boot l) (sym (append-nil w.made) ∙ ap (λ l. w.made ++ l) (sym none))

      -- what it owes before what was learned is applied
      turned_owes : possible e x ≡ true → x.up ≡ true → Turned same e x v → length (acts_at w (owner e)) ≡ x.taken → Owes (owner e) (acts_at w (owner e)) x
          → CutsStand → BootsRise → Owes (owner e) later v.node
      turned_owes p up t count ok cuts rise =
          ⊎_elim kept_owes (λ r. ⊎_elim cut_owes taken_owes r) t.turn
        where
          now : acts_at w (owner e) ++ acts_of (owner e) x.rows.boot (made_by same e x) ≡ later
          now = sym (acts_on same members (owner e) x.rows.boot w.made (made_by same e x))

          stands' : MayStand x.rows.boot (standing_of x (owner e)) (length later)
          stands' =
              ⊎_elim (λ a. inl a)
              (λ (m : (q : ℕ) × (standing_of x (owner e) ≡ Live x.rows.boot q) × (q ≤ length (acts_at w (owner e)))).
              inr (m.0, m.1, grown m.0 m.2))
              ok.may
            where
              grown : (q : ℕ) → q ≤ length (acts_at w (owner e)) → q ≤ length later
              grown q h =
                  let s = ap (λ as'. length as') (sym now)
                  ∙ length-append (acts_at w (owner e)) (acts_of (owner e) x.rows.boot (made_by same e x)) in
                  more (length (acts_at w (owner e))) (length (acts_of (owner e) x.rows.boot (made_by same e x))) h s
                where
                  more : (a b : ℕ) {c : ℕ} → q ≤ a → c ≡ a + b → q ≤ c
                  more a b h s = omega arith

          kept_owes : Keeps same e x v → Owes (owner e) later v.node
          kept_owes k =
              let stood = stands_so v.node x k.base k.log (owner e) in
              record {
                may = subst (λ (z : ℕ × Standing). MayStand z.0 z.1 (length later)) (λ i. (sym t.boot i, sym stood i)) stands';
                is = ap (λ es. filter kept es) k.pending
                    ∙ filter-append kept x.pending (made_by same e x)
                    ∙ ap (λ z. z ++ filter kept (made_by same e x)) ok.is
                    ∙ owes_made e x (acts_at w (owner e)) (standing_of x (owner e)) ok.may count
                    (makes e x up p (event_adds same members e x p))
                    ∙ ap (λ z. owed_by (owner e) x.rows.boot (standing_of x (owner e)) z) now
                    ∙ (λ i. owed_by (owner e) (sym t.boot i) (sym stood i) later);
              }

          there : (s : taken.Snapshot) → v.node.rows.snapshot ≡ Some s → v.node.applied ≡ [] → standing_of v.node (owner e) ≡ stands_at (Some s) (owner e)
          there s i j = λ q. standing_from (owner e) (stands_at (i q) (owner e)) (j q)

          cut_owes : Cuts e x v → Owes (owner e) later v.node
          cut_owes k =
              let stood = there k.snapshot k.base k.log ∙ cuts k.snapshot k.may (owner e) in
              subst (λ as'. Owes (owner e) as' v.node) (no_more (ap (λ f. made_by same f x) k.event))
              (record {
                may = subst (λ (z : ℕ × Standing). MayStand z.0 z.1 (length (acts_at w (owner e)))) (λ i. (sym t.boot i, sym stood i)) ok.may;
                is = ap (λ es. filter kept es) k.pending
                    ∙ ok.is
                    ∙ (λ i. owed_by (owner e) (sym t.boot i) (sym stood i) (acts_at w (owner e)));
              })

          taken_owes : Takes e x v → Owes (owner e) later v.node
          taken_owes k =
              let stood = there k.snapshot k.base k.log in
              let low : boot_in (stands_at (Some k.snapshot) (owner e)) < x.rows.boot =
              subst (λ z. boot_in z < x.rows.boot) (sym (ap (λ o. stands_by o (owner e)) k.reads))
              (leb-false x.rows.boot (boot_in (standing_from_node 1 (owner e) k.head.standings)) k.newer) in
              let early = boot_early x.rows.boot (stands_at (Some k.snapshot) (owner e)) low in
              let was = boot_early x.rows.boot (standing_of x (owner e)) (under_it (rise k) low) in
              subst (λ as'. Owes (owner e) as' v.node) (no_more (ap (λ f. made_by same f x) k.event))
              (record {
                may =
                    subst (λ (z : ℕ × Standing). MayStand z.0 z.1 (length (acts_at w (owner e)))) (λ i. (sym t.boot i, sym stood i)) (inl early);
                is = ap (λ es. filter kept es) k.pending
                    ∙ filter_swap kept (is_wanted_by (stands_at (Some k.snapshot))) x.pending
                    ∙ ap (λ l. filter (is_wanted_by (stands_at (Some k.snapshot))) l) ok.is
                    ∙ rested_owed (owner e) x.rows.boot (stands_at (Some k.snapshot)) (standing_of x (owner e)) (acts_at w (owner e)) was early
                    ∙ (λ i. owed_by (owner e) (sym t.boot i) (sym stood i) (acts_at w (owner e)));
              })
            where
              under_it : {a b c : ℕ} → a ≤ b → b < c → a < c
              under_it p q = omega arith

      ran : possible e x ≡ true → Ran same members e x → length (acts_at w (owner e)) ≡ x.taken → Owes (owner e) (acts_at w (owner e)) x
          → CutsStand → BootsRise
          → Known (owner e) (acts_of (owner e) o.node.rows.boot (w.made ++ made_by same e x)) o.node.rows.boot o.node.applied
          → o.node.up ≡ true → Owes (owner e) (acts_of (owner e) o.node.rows.boot (w.made ++ made_by same e x)) o.node
      ran p r count ok cuts rise known up =
          subst (λ c. Owes (owner e) (acts_of (owner e) c (w.made ++ made_by same e x)) o.node) (sym r.from.boot_is)
          (applies_owed (owner e) later es v (turned_owes p r.was t count ok cuts rise)
          (record {
            boots = λ c h. subst (λ b. c ≤ b) (r.from.boot_is ∙ sym t.boot)
                (known.boots c (subst (λ log. Has log (Boot (owner e) c)) (sym log_is) (has_right v.node.applied h)));
            items = λ q t y h. items q t y h;
          })
          up)
        where
          not_down : (n : ℕ) → e ≡ Crash n → ⊥
          not_down n i = off (subst (λ f. (outcome_of same members f x).node.up ≡ true) i up)

          t : Turned same e x v
          t = turns same members x r.was e p not_down

          es : List (Entry B)
          es = run_from (suc (log_length v.node)) v.node.learner.learned

          log_is : o.node.applied ≡ v.node.applied ++ es
          log_is = applied_all (owner e) es v up

          items : (q n : ℕ) (y : B) → Has es (Item (owner e) v.node.rows.boot q n y) → q ≤ length later
          items q n y h =
              subst (λ b. q ≤ length (acts_of (owner e) b (w.made ++ made_by same e x))) r.from.boot_is
              (known.items q n y
              (subst (λ (z : List (Entry B) × ℕ). Has z.0 (Item (owner e) z.1 q n y)) (λ i. (sym log_is i, (t.boot ∙ sym r.from.boot_is) i))
              (has_right v.node.applied h)))

      started_owes : (n : ℕ) (rows : Rows B) (acts : List (Act B)) → boot_in (stands_at rows.snapshot n) < rows.boot → length acts ≡ 0
          → Owes n acts (started n rows)
      started_owes n rows acts low none =
          let early = boot_early rows.boot (stands_at rows.snapshot n) low in
          record {
            may = inl early;
            is = ap (λ l. Boot n rows.boot ∷ items_after n rows.boot 0 l) (sym (no_length acts none))
                ∙ sym (owed_early n rows.boot (stands_at rows.snapshot n) early acts);
          }

      began : boot_in (stands_at x.rows.snapshot (owner e)) ≤ x.rows.boot → Began same members e x
          → (o.node.up ≡ true → length (acts_of (owner e) o.node.rows.boot (w.made ++ made_by same e x)) ≡ o.node.taken)
          → (o.node.up ≡ true → Owes (owner e) (acts_of (owner e) o.node.rows.boot (w.made ++ made_by same e x)) o.node)
      began low r count up =
          subst (λ (y : NodeState B). (y.up ≡ true → length (acts_of (owner e) y.rows.boot (w.made ++ made_by same e x)) ≡ y.taken)
          → Owes (owner e) (acts_of (owner e) y.rows.boot (w.made ++ made_by same e x)) y) (sym r.is)
          (λ c. started_owes (owner e) (raised x.rows) (acts_of (owner e) (suc x.rows.boot) (w.made ++ made_by same e x)) (past low) (c refl))
          count
        where
          past : {a b : ℕ} → a ≤ b → a < suc b
          past l = omega arith

    owe_next : (early : List (Event B)) (e : Event B) → AllOwe (played same members early) → AllOwe (played same members (early ++ e ∷ []))
    owe_next early e ok =
        subst (λ (z : World B). AllOwe z) (sym on)
        (by_next same members (λ z. z ≡ next same members w e → AllOwe z) w e (λ g. ok) go refl)
      where
        w : World B
        w = played same members early

        on : played same members (early ++ e ∷ []) ≡ next same members w e
        on = play_on same members early (e ∷ []) (first_world members)

        y : NodeState B
        y = node_at w.nodes (owner e)

        plan : Plan B
        plan = outcome_of same members e y

        go : May same members w e → done same w e y plan ≡ next same members w e → AllOwe (done same w e y plan)
        go m g k = ⊎_elim own other (cases_eq k (owner e))
          where
            after : World B
            after = done same w e y plan

            is : played same members (early ++ e ∷ []) ≡ after
            is = on ∙ sym g

            -- of two members at least; one alone takes no snapshot
            rises : (k : Takes e y (on_event same members e (begun y))) → y.up ≡ true
                → boot_in (standing_of y (owner e)) ≤ boot_in (stands_at (Some k.snapshot) (owner e))
            rises k up =
                ⊎_elim
                (λ (l : 1 < members). let p = longer_log same equal members (two l) early e m k up in
                subst (λ (z : Standing × Standing). boot_in z.0 ≤ boot_in z.1)
                (λ i. (
                  sym (stands same equal members seven early (owner e) up (owner e)) i,
                  sym (stands_under w (heads_ok same equal members seven early) (Some k.snapshot)
                      (only k (snapshot_cut same equal members (two l) early e m k)) (owner e)) i,
                ))
                (subst (λ log. boot_in (standing (owner e) (log_of w (owner e))) ≤ boot_in (standing (owner e) log)) p.1
                (subst (λ s. boot_in (standing (owner e) (log_of w (owner e))) ≤ boot_in s)
                (sym (standing_on (owner e) Unknown (log_of w (owner e)) p.0))
                (all_rise (owner e) (standing (owner e) (log_of w (owner e))) p.0))))
                (λ (l : members ≤ 1). absurd (undelivered same members w e (all_idle same members l early).sent m.0 k.packet k.event))
                (cases_lt 1 members)
              where
                two : 1 < members → 2 ≤ members
                two l = omega arith

                only : (k : Takes e y (on_event same members e (begun y))) → IsCut w.cuts k.snapshot → RestsOnCut w.cuts (Some k.snapshot)
                only k c z i = subst (λ q. IsCut w.cuts q) (same_one z i) c
                  where
                    same_one : (z : taken.Snapshot) → Some k.snapshot ≡ Some z → k.snapshot ≡ z
                    same_one z i = cc

            at : node_at after.nodes (owner e) ≡ plan.node
            at = node_same w.nodes (owner e) plan.node (within w.nodes e (owner e) m.1)

            counts : (v : World B) → played same members (early ++ e ∷ []) ≡ v → (node_at v.nodes (owner e)).up ≡ true
                → length (acts_at v (owner e)) ≡ (node_at v.nodes (owner e)).taken
            counts v i =
                subst (λ (v : World B). (node_at v.nodes (owner e)).up ≡ true
                → length (acts_at v (owner e)) ≡ (node_at v.nodes (owner e)).taken) i
                (λ u. ((acts_ok same members (early ++ e ∷ [])).counts (owner e)).now u)

            mine : (node_at after.nodes (owner e)).up ≡ true → Owes (owner e) (acts_at after (owner e)) (node_at after.nodes (owner e))
            mine =
                subst (λ (z : NodeState B). z.up ≡ true → Owes (owner e) (acts_of (owner e) z.rows.boot after.made) z) (sym at)
                (λ u. ⊎_elim
                (λ r. ran w e m.1 r (((acts_ok same members early).counts (owner e)).now r.was) (ok (owner e) r.was)
                (λ s may j. cut_stands same equal members seven early (owner e) s r.was may j) (λ k. rises k r.was)
                (subst (λ (z : NodeState B). z.up ≡ true → Known (owner e) (acts_of (owner e) z.rows.boot after.made) z.rows.boot z.applied) at
                (subst (λ (v : World B). (node_at v.nodes (owner e)).up ≡ true
                → Known (owner e) (acts_at v (owner e)) (node_at v.nodes (owner e)).rows.boot (node_at v.nodes (owner e)).applied) is
                (known_at (early ++ e ∷ []) (owner e))) u) u)
                (λ r. began w e
                (told_boots same equal members seven early y.rows.snapshot ((found_all same equal members early).nodes (owner e)) (owner e)) r
                (subst (λ (z : NodeState B). z.up ≡ true → length (acts_of (owner e) z.rows.boot after.made) ≡ z.taken) at (counts after is)) u)
                (event_cases same members e y m.1))

            own : k ≡ owner e → (node_at after.nodes k).up ≡ true → Owes k (acts_at after k) (node_at after.nodes k)
            own i = subst (λ j. (node_at after.nodes j).up ≡ true → Owes j (acts_at after j) (node_at after.nodes j)) (sym i) mine

            other : (k ≡ owner e → ⊥) → (node_at after.nodes k).up ≡ true → Owes k (acts_at after k) (node_at after.nodes k)
            other d =
                subst (λ (z : NodeState B). z.up ≡ true → Owes k (acts_of k z.rows.boot after.made) z)
                (sym (node_other w.nodes (owner e) plan.node k d))
                (λ u. subst (λ as'. Owes k as' (node_at w.nodes k))
                (sym (same_acts same members k (node_at w.nodes k).rows.boot w.made (made_by same e y)
                ((event_adds same members e y m.1).quiet k (node_at w.nodes k).rows.boot (λ i j. d i))))
                (ok k u))

    owe_play : (todo early : List (Event B)) → AllOwe (played same members early) → AllOwe (played same members (early ++ todo))
    owe_play [] early h = subst (λ l. AllOwe (played same members l)) (sym (append-nil early)) h
    owe_play (e ∷ todo) early h =
        subst (λ l. AllOwe (played same members l)) (append_assoc early (e ∷ []) todo) (owe_play todo (early ++ e ∷ []) (owe_next early e h))

    first_owes : AllOwe (first_world members)
    first_owes k up =
        founded_each (λ j (z : NodeState B). z.up ≡ true → length (acts_of {B = B} j z.rows.boot (first_boots members)) ≡ z.taken
        → Owes j (acts_of {B = B} j z.rows.boot (first_boots members)) z)
        (λ j u c. started_owes (first_world members) (Tick 0) (suc j) first_rows (acts_of {B = B} (suc j) 1 (first_boots members)) none_yet c)
        (λ j u c. absurd (off u)) members k up (((acts_ok same members []).counts k).now up)
      where
        none_yet : 0 < 1
        none_yet = omega arith

    pub owes_all : (events : List (Event B)) (n : ℕ) → (node_at (played same members events).nodes n).up ≡ true
        → Owes n (acts_of n (node_at (played same members events).nodes n).rows.boot (played same members events).made)
        (node_at (played same members events).nodes n)
    owes_all events n up = owe_play events [] first_owes n up

    pub pending_is_owed : (events : List (Event B)) (n : ℕ) → (node_at (played same members events).nodes n).up ≡ true
        → filter kept (node_at (played same members events).nodes n).pending
        ≡ owed n (log_of (played same members events) n) (node_at (played same members events).nodes n).rows.boot
        (acts_at (played same members events) n)
    pending_is_owed events n up =
        (owe_play events [] first_owes n up).is
        ∙ ap (λ s. owed_by n (node_at (played same members events).nodes n).rows.boot s (acts_at (played same members events) n))
        (stands same equal members seven events n up n)
        ∙ owed_is n (log_of (played same members events) n) (node_at (played same members events).nodes n).rows.boot
        (acts_at (played same members events) n)

pub pendings_are_owed : {B : Type 0} (same : B → B → Bool) → IsEquality same → PendingIsOwed B same
pendings_are_owed same equal members seven events n up = pending_is_owed same members equal seven events n up
