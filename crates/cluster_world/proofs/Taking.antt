-- Each entry of a log is an act that was taken, a boot that a node had, or a suspicion.
use Rattle.std.proofs.Common.{◌≡◌, ◌⊎◌, inl, inr, ⊎_elim, ℕ, zero, suc, ◌+◌, ◌<◌, Bool, true, false, ◌&&◌, eqb, refl, sym, ap, ◌∙◌, subst, arith, List, []}
use Rattle.std.proofs.Common.{◌∷◌, ◌++◌, length, length-append, Option, Some, None}
use Rattle.std.specs.Prelude.{slice_get, slice_index_or, nat_lt}
use Rattle.std.proofs.lemmas.List.{append-nil, length-set}
use Rattle.std.proofs.lemmas.List.Elements.{filter_map-append}
use Rattle.std.proofs.lemmas.Bool.{cond_both, cond-true, cond-false, cases_eq, and_parts, and_from, eq-eqb, eqb-true}
use Rattle.cluster_world.proofs.Lists.{has_nil, has_one, has_cases, has_left, has_right}
use Rattle.cluster_world.proofs.EveryWorld.{within, node_same, node_other, among_has}
use Rattle.cluster_world.proofs.Cuts.{under_each}
use Rattle.cluster_world.proofs.Standing.{acts_after, Ran, Began, OnFrom, event_cases}
use Rattle.cluster_world.proofs.Sources.{Each, VotesGood, SentGood, NodeGood, EventGood, sent_good, outcome_good}
use Rattle.cluster_world.specs.Has.{Has, here}
use Rattle.paxos_packets.specs.Rows.{first_rows}
use Rattle.paxos_packets.specs.Snapshot as taken
use Rattle.paxos_packets.specs.declared.entry.Entry.{Entry}
use Rattle.paxos_packets.specs.declared.entry.Entry.TheVariants.{Noop, Boot, Lost, Item}
use Rattle.replica_machine.specs.Roll.{live_in}
use Rattle.paxos_node.specs.declared.event.Event.{Event}
use Rattle.paxos_node.specs.declared.event.Event.TheVariants.{Take, Tick, Start, Suspect, Deliver, Cut, Crash, Restart}
use Rattle.paxos_planning.specs.Node.{NodeState, Plan}
use Rattle.paxos_node.specs.Applying.{standing_of, started}
use Rattle.paxos_node.specs.Events.{takes, new_item, has_room, is_pending, new_lost_of, new_lost, owner, possible, outcome_of, suspected_by, made_by}
use Rattle.cluster_world.specs.World.{World, absent, node_at, put_node, founded, first_boots, first_world, was_sent, done, next, play, played, under, log_of, cut_by}
use Rattle.cluster_world.specs.World as worlds
use Rattle.cluster_world.specs.Origins.{Act, act_in, acts_of, ItemsWereTaken}
use Rattle.paxos_packets.specs.Body.{IsEquality}

off : false ≡ true → ⊥
off e = cc

module _ {B : Type 0} (same : B → B → Bool) (members : ℕ) where
  abbrev pub at' : World B → Event B → NodeState B
  at' w e = node_at w.nodes (owner e)

  abbrev pub goes : World B → Event B → Plan B
  goes w e = outcome_of same members e (at' w e)

  -- what an event makes of a world: nothing, or what its node does
  abbrev pub May : World B → Event B → Type 0
  May w e = (was_sent same e w.sent ≡ true) × (possible e (at' w e) ≡ true)

  pub by_next : (P : World B → Type 0) (w : World B) (e : Event B) → P w → (May w e → P (done same w e (at' w e) (goes w e))) → P (next same members w e)
  by_next P w e stay go =
      cond_both (was_sent same e w.sent && possible e (at' w e)) (done same w e (at' w e) (goes w e)) w P
      (λ t. go (and_parts (was_sent same e w.sent) (possible e (at' w e)) t)) (λ t. stay)

  -- the nodes are the members
  pub next_length : (w : World B) (e : Event B) → length w.nodes ≡ members → length (next same members w e).nodes ≡ members
  next_length w e h = by_next (λ z. length z.nodes ≡ members) w e h (λ m. put_length (owner e) ∙ h)
    where
      put_length : (k : ℕ) → length (put_node w.nodes k (goes w e).node) ≡ length w.nodes
      put_length zero = refl
      put_length (suc i) = length-set w.nodes i (goes w e).node

  play_length : (events : List (Event B)) (w : World B) → length w.nodes ≡ members → length (play same members events w).nodes ≡ members
  play_length [] w h = h
  play_length (e ∷ events) w h = play_length events (next same members w e) (next_length w e h)

  pub founded_length : (n : ℕ) → length (founded {B = B} n) ≡ n
  founded_length zero = refl
  founded_length (suc n) = length-append (founded {B = B} n) (started (suc n) first_rows ∷ []) ∙ (ap (λ k. k + 1) (founded_length n) ∙ plus_one n)
    where
      plus_one : (k : ℕ) → k + 1 ≡ suc k
      plus_one k = omega arith

  pub nodes_length : (events : List (Event B)) → length (played same members events).nodes ≡ members
  nodes_length events = play_length events (first_world members) (founded_length members)

  -- every entry comes from what was made

  module _ (equal : IsEquality same) (G : Entry B → Type 0) (noop : G Noop) where
    abbrev whatever : taken.Snapshot → Type 0
    whatever s = Unit {0}

    record AllGood (w : World B) : Type 0 where
      nodes : (k : ℕ) → NodeGood G whatever (node_at w.nodes k)
      sent : SentGood G whatever w.sent
      cuts : (c : worlds.Cut B) → Has w.cuts c → Each G whatever c.log

    event_good : (w : World B) (e : Event B) → AllGood w → was_sent same e w.sent ≡ true → EventGood G whatever e
    event_good w (Deliver p) ok s = ok.sent p (among_has same equal p w.sent s)
    event_good w (Cut n o) ok s = λ z i. tt
    event_good w (Take n t body) ok s = tt
    event_good w (Tick n) ok s = tt
    event_good w (Start n) ok s = tt
    event_good w (Suspect n other) ok s = tt
    event_good w (Crash n) ok s = tt
    event_good w (Restart n) ok s = tt

    -- the whole log of a node
    stood_good : (w : World B) → AllGood w → (k : ℕ) → Each G whatever (log_of w k)
    stood_good w ok k =
        cond_both (node_at w.nodes k).up (under w.cuts (node_at w.nodes k).rows.snapshot ++ (node_at w.nodes k).applied) []
        (λ l. Each G whatever l)
        (λ u e h. ⊎_elim
        (λ a. under_each (λ l. Each G whatever l) (λ f i. absurd (has_nil i)) w.cuts ok.cuts (node_at w.nodes k).rows.snapshot e a)
        (λ a. (ok.nodes k).applied e a)
        (has_cases (under w.cuts (node_at w.nodes k).rows.snapshot) (node_at w.nodes k).applied h))
        (λ u e h. absurd (has_nil h))

    cut_good : (w : World B) (e : Event B) → AllGood w → (c : worlds.Cut B) → Has (cut_by w e) c → Each G whatever c.log
    cut_good w (Cut n None) ok c h = absurd (has_nil h)
    cut_good w (Cut n (Some s)) ok c h = subst (λ (d : worlds.Cut B). Each G whatever d.log) (has_one h) (stood_good w ok n)
    cut_good w (Deliver p) ok c h = absurd (has_nil h)
    cut_good w (Take n t body) ok c h = absurd (has_nil h)
    cut_good w (Tick n) ok c h = absurd (has_nil h)
    cut_good w (Start n) ok c h = absurd (has_nil h)
    cut_good w (Suspect n other) ok c h = absurd (has_nil h)
    cut_good w (Crash n) ok c h = absurd (has_nil h)
    cut_good w (Restart n) ok c h = absurd (has_nil h)

    next_good : (w : World B) (e : Event B) → AllGood w → Each G whatever (next same members w e).made → AllGood (next same members w e)
    next_good w e ok = by_next (λ z. Each G whatever z.made → AllGood z) w e (λ g. ok) go
      where
        go : May w e → Each G whatever (done same w e (at' w e) (goes w e)).made → AllGood (done same w e (at' w e) (goes w e))
        go may g =
            let t = outcome_good G whatever same members noop e (at' w e) (ok.nodes (owner e)) (event_good w e ok may.0) (λ x h. g x (has_right w.made h)) in
            record {
              nodes = λ k. ⊎_elim
                  (λ (i : k ≡ owner e). subst (λ j. NodeGood G whatever (node_at (put_node w.nodes (owner e) (goes w e).node) j)) (sym i)
                  (subst (λ x. NodeGood G whatever x) (sym (node_same w.nodes (owner e) (goes w e).node (within w.nodes e (owner e) may.1))) t.node))
                  (λ i. subst (λ x. NodeGood G whatever x) (sym (node_other w.nodes (owner e) (goes w e).node k i)) (ok.nodes k))
                  (cases_eq k (owner e));
              sent = sent_good G whatever w.sent (goes w e).packets ok.sent t.out;
              cuts = λ c h. ⊎_elim (λ i. ok.cuts c i) (λ i. cut_good w e ok c i) (has_cases w.cuts (cut_by w e) h);
            }

    made_next : (w : World B) (e : Event B) (x : Entry B) → Has w.made x → Has (next same members w e).made x
    made_next w e x h = by_next (λ z. Has z.made x) w e h (λ m. has_left _ h)

    made_play : (events : List (Event B)) (w : World B) (x : Entry B) → Has w.made x → Has (play same members events w).made x
    made_play [] w x h = h
    made_play (e ∷ events) w x h = made_play events (next same members w e) x (made_next w e x h)

    play_good : (events : List (Event B)) (w : World B) → AllGood w → Each G whatever (play same members events w).made → AllGood (play same members events w)
    play_good [] w ok g = ok
    play_good (e ∷ events) w ok g =
        play_good events (next same members w e) (next_good w e ok (λ x h. g x (made_play events (next same members w e) x h))) g

    started_good : (k : ℕ) → G (Boot k 1) → NodeGood G whatever (started k first_rows)
    started_good k g =
        record {
          based = λ s e. tt;
          votes = λ v h. absurd (has_nil h);
          role = tt;
          learned = λ f h. absurd (has_nil h);
          applied = λ e h. absurd (has_nil h);
          pending = λ e h. subst (λ z. G z) (has_one h) g;
        }

    absent_good : NodeGood G whatever absent
    absent_good =
        record {
          based = λ s e. tt;
          votes = λ v h. absurd (has_nil h);
          role = tt;
          learned = λ f h. absurd (has_nil h);
          applied = λ e h. absurd (has_nil h);
          pending = λ e h. absurd (has_nil h);
        }

    push_good : (xs : List (NodeState B)) (x : NodeState B) → NodeGood G whatever x → ((k : ℕ) → NodeGood G whatever (slice_index_or xs k absent)) → (k : ℕ)
        → NodeGood G whatever (slice_index_or (xs ++ x ∷ []) k absent)
    push_good [] x p h zero = p
    push_good [] x p h (suc k) = absent_good
    push_good (y ∷ ys) x p h zero = h zero
    push_good (y ∷ ys) x p h (suc k) = push_good ys x p (λ j. h (suc j)) k

    founded_good : (n : ℕ) → Each G whatever (first_boots n) → (k : ℕ) → NodeGood G whatever (slice_index_or (founded n) k absent)
    founded_good zero g k = absent_good
    founded_good (suc n) g k =
        push_good (founded n) (started (suc n) first_rows) (started_good (suc n) (g (Boot (suc n) 1) (has_right (first_boots n) here)))
        (founded_good n (λ e h. g e (has_left _ h))) k

    first_good : Each G whatever (first_boots members) → AllGood (first_world members)
    first_good g = record { nodes = at; sent = λ p h. absurd (has_nil h); cuts = λ c h. absurd (has_nil h) }
      where
        at : (k : ℕ) → NodeGood G whatever (node_at (founded members) k)
        at zero = absent_good
        at (suc k) = founded_good members g k

    pub votes_good : (events : List (Event B)) → Each G whatever (played same members events).made → (k : ℕ)
        → VotesGood G whatever (node_at (played same members events).nodes k).rows.votes
    votes_good events g k =
        ((play_good events (first_world members) (first_good (λ x h. g x (made_play events (first_world members) x h))) g).nodes k).votes

    cuts_good : (events : List (Event B)) → Each G whatever (played same members events).made → (c : worlds.Cut B)
        → Has (played same members events).cuts c → Each G whatever c.log
    cuts_good events g c h =
        (play_good events (first_world members) (first_good (λ x h. g x (made_play events (first_world members) x h))) g).cuts c h

    log_good : (events : List (Event B)) → Each G whatever (played same members events).made → (k : ℕ) → Each G whatever (log_of (played same members events) k)
    log_good events g k =
        stood_good (played same members events)
        (play_good events (first_world members) (first_good (λ x h. g x (made_play events (first_world members) x h))) g) k

  pub cut_was_made : IsEquality same → (events : List (Event B)) (c : worlds.Cut B) → Has (played same members events).cuts c → (e : Entry B)
      → Has c.log e → (e ≡ Noop) ⊎ Has (played same members events).made e
  cut_was_made equal events c h e i = cuts_good equal G (inl refl) events (λ x i. inr i) c h e i
    where
      G : Entry B → Type 0
      G x = (x ≡ Noop) ⊎ Has (played same members events).made x

  pub log_was_made : IsEquality same → (events : List (Event B)) (k : ℕ) (e : Entry B) → Has (log_of (played same members events) k) e
      → (e ≡ Noop) ⊎ Has (played same members events).made e
  log_was_made equal events k e h = log_good equal G (inl refl) events (λ x i. inr i) k e h
    where
      G : Entry B → Type 0
      G x = (x ≡ Noop) ⊎ Has (played same members events).made x

  -- acts

  -- what an event adds to the acts
  pub record Adds (e : Event B) (x : NodeState B) : Type 0 where
    pub quiet : (k b : ℕ) → ((k ≡ owner e) → (b ≡ x.rows.boot) → ⊥) → acts_of k b (made_by same e x) ≡ []
    pub own : length (acts_of (owner e) x.rows.boot (made_by same e x)) + x.taken ≡ acts_after e x
    pub item : (n b q t : ℕ) (y : B) → Has (made_by same e x) (Item n b q t y)
        → (x.up ≡ true) × (n ≡ owner e) × (b ≡ x.rows.boot) × (q ≡ suc x.taken) × (acts_of n b (made_by same e x) ≡ record { transport = t; body = y } ∷ [])

  adds_none : (e : Event B) (x : NodeState B) → made_by same e x ≡ [] → acts_after e x ≡ x.taken → Adds e x
  adds_none e x none after =
      record {
        quiet = λ k b d. ap (λ l. acts_of k b l) none;
        own = ap (λ l. length (acts_of (owner e) x.rows.boot l) + x.taken) none ∙ (zero_plus x.taken ∙ sym after);
        item = λ n b q t y h. absurd (has_nil (subst (λ l. Has l (Item n b q t y)) none h));
      }
    where
      zero_plus : (k : ℕ) → 0 + k ≡ k
      zero_plus k = omega arith

  take_adds : (n t : ℕ) (body : B) (x : NodeState B) → x.up ≡ true → Adds (Take n t body) x
  take_adds n t body x up = go (takes x) refl
    where
      act : Act B
      act = record { transport = t; body = body }

      item' : Entry B
      item' = new_item n t body x

      test : ℕ → ℕ → Bool
      test k b = eqb n k && eqb x.rows.boot b

      mine : acts_of n x.rows.boot (item' ∷ []) ≡ act ∷ []
      mine = rw (and_from (eqb n n) (eqb x.rows.boot x.rows.boot) (eq-eqb n n refl) (eq-eqb x.rows.boot x.rows.boot refl)) refl

      other : (k b : ℕ) → ((k ≡ n) → (b ≡ x.rows.boot) → ⊥) → (z : Bool) → test k b ≡ z → acts_of k b (item' ∷ []) ≡ []
      other k b d true e = let p = and_parts (eqb n k) (eqb x.rows.boot b) e in absurd (d (sym (eqb-true n k p.0)) (sym (eqb-true x.rows.boot b p.1)))
      other k b d false e = rw e refl

      Goal : List (Entry B) → ℕ → Type 0
      Goal made after =
          ((k b : ℕ) → ((k ≡ n) → (b ≡ x.rows.boot) → ⊥) → acts_of k b made ≡ []) × (length (acts_of n x.rows.boot made) + x.taken ≡ after)
          × ((m b q u : ℕ) (y : B) → Has made (Item m b q u y) → (x.up ≡ true) × (m ≡ n) × (b ≡ x.rows.boot) × (q ≡ suc x.taken)
          × (acts_of m b made ≡ record { transport = u; body = y } ∷ []))

      some : Goal (item' ∷ []) (suc x.taken)
      some = (λ k b d. other k b d (test k b) refl, ap (λ l. length l + x.taken) mine ∙ one_plus x.taken, λ m b q u y h. found m b q u y (has_one h))
        where
          one_plus : (k : ℕ) → 1 + k ≡ suc k
          one_plus k = omega arith

          found : (m b q u : ℕ) (y : B) → item' ≡ Item m b q u y
              → (x.up ≡ true) × (m ≡ n) × (b ≡ x.rows.boot) × (q ≡ suc x.taken) × (acts_of m b (item' ∷ []) ≡ record { transport = u; body = y } ∷ [])
          found m b q u y e =
              let en : n ≡ m = cc in
              let eb : x.rows.boot ≡ b = cc in
              let eq : suc x.taken ≡ q = cc in
              let et : t ≡ u = cc in
              let ey : body ≡ y = cc in (
                up,
                sym en,
                sym eb,
                sym eq,
                subst (λ (z : ℕ × ℕ). acts_of z.0 z.1 (item' ∷ []) ≡ record { transport = u; body = y } ∷ []) (λ i. (en i, eb i))
                    (mine ∙ (λ i. record { transport = et i; body = ey i } ∷ [])),
              )

      none : Goal [] x.taken
      none = (λ k b d. refl, zero_plus x.taken, λ m b q u y h. absurd (has_nil h))
        where
          zero_plus : (k : ℕ) → 0 + k ≡ k
          zero_plus k = omega arith

      pack : Goal (made_by same (Take n t body) x) (acts_after (Take n t body) x) → Adds (Take n t body) x
      pack g = record { quiet = g.0; own = g.1; item = g.2 }

      go : (z : Bool) → takes x ≡ z → Adds (Take n t body) x
      go true e =
          pack
          (subst (λ (y : List (Entry B) × ℕ). Goal y.0 y.1)
          (λ i. (sym (cond-true (takes x) (item' ∷ []) [] e) i, sym (cond-true (takes x) (suc x.taken) x.taken e) i)) some)
      go false e =
          pack
          (subst (λ (y : List (Entry B) × ℕ). Goal y.0 y.1)
          (λ i. (sym (cond-false (takes x) (item' ∷ []) [] e) i, sym (cond-false (takes x) (suc x.taken) x.taken e) i)) none)

  -- an entry that is no Item adds no act
  adds_other : (e : Event B) (x : NodeState B) (lost : Entry B) → ((k b : ℕ) → act_in k b lost ≡ None) → ((n b q t : ℕ) (y : B) → lost ≡ Item n b q t y → ⊥)
      → made_by same e x ≡ lost ∷ [] → acts_after e x ≡ x.taken → Adds e x
  adds_other e x lost empties differ is after =
      record {
        quiet = λ k b d. empty k b;
        own = ap (λ l. length l + x.taken) (empty (owner e) x.rows.boot) ∙ (zero_plus x.taken ∙ sym after);
        item = λ n b q t y h. absurd (differ n b q t y (has_one (subst (λ l. Has l (Item n b q t y)) is h)));
      }
    where
      zero_plus : (k : ℕ) → 0 + k ≡ k
      zero_plus k = omega arith

      empty : (k b : ℕ) → acts_of k b (made_by same e x) ≡ []
      empty k b = ap (λ l. acts_of k b l) is ∙ rw (empties k b) refl

  suspect_adds : (n other : ℕ) (x : NodeState B) → Adds (Suspect n other) x
  suspect_adds n other x = by_other (eqb other n) refl
    where
      e : Event B
      e = Suspect n other

      lost_adds : (b : ℕ) → suspected_by (new_lost same n other x) x ≡ Lost other b ∷ [] → Adds e x
      lost_adds b is = adds_other e x (Lost other b) (λ k c. refl) (λ k c q t y d. differ k c q t y d) is refl
        where
          differ : (k c q t : ℕ) (y : B) → Lost other b ≡ Item k c q t y → ⊥
          differ k c q t y d = cc

      by_room : (b : ℕ) → new_lost same n other x ≡ Some (Lost other b) → (z : Bool) → has_room x ≡ z → Adds e x
      by_room b is true r = lost_adds b (ap (λ o. suspected_by o x) is ∙ cond-true (has_room x) (Lost other b ∷ []) [] r)
      by_room b is false r = adds_none e x (ap (λ o. suspected_by o x) is ∙ cond-false (has_room x) (Lost other b ∷ []) [] r) refl

      by_pending : (b : ℕ) → new_lost same n other x ≡ new_lost_of same other (Some b) x.pending → (z : Bool) → is_pending same x.pending (Lost other b) ≡ z
          → Adds e x
      by_pending b is true p =
          adds_none e x (ap (λ o. suspected_by o x) (is ∙ cond-true (is_pending same x.pending (Lost other b)) None (Some (Lost other b)) p)) refl
      by_pending b is false p = by_room b (is ∙ cond-false (is_pending same x.pending (Lost other b)) None (Some (Lost other b)) p) (has_room x) refl

      by_live : new_lost same n other x ≡ new_lost_of same other (live_in (standing_of x other)) x.pending → (o : Option ℕ)
          → live_in (standing_of x other) ≡ o → Adds e x
      by_live is None l = adds_none e x (ap (λ o. suspected_by o x) (is ∙ ap (λ o. new_lost_of same other o x.pending) l)) refl
      by_live is (Some b) l = by_pending b (is ∙ ap (λ o. new_lost_of same other o x.pending) l) (is_pending same x.pending (Lost other b)) refl

      by_other : (z : Bool) → eqb other n ≡ z → Adds e x
      by_other true t =
          adds_none e x
          (ap (λ o. suspected_by o x) (cond-true (eqb other n) None (new_lost_of same other (live_in (standing_of x other)) x.pending) t)) refl
      by_other false t =
          by_live (cond-false (eqb other n) None (new_lost_of same other (live_in (standing_of x other)) x.pending) t)
          (live_in (standing_of x other)) refl

  pub event_adds : (e : Event B) (x : NodeState B) → possible e x ≡ true → Adds e x
  event_adds (Take n t body) x p = take_adds n t body x (and_parts x.up (nat_lt 0 t) p).0
  event_adds (Tick n) x p = adds_none (Tick n) x refl refl
  event_adds (Start n) x p = adds_none (Start n) x refl refl
  event_adds (Suspect n other) x p = suspect_adds n other x
  event_adds (Deliver q) x p = adds_none (Deliver q) x refl refl
  event_adds (Cut n o) x p = adds_none (Cut n o) x refl refl
  event_adds (Crash n) x p = adds_none (Crash n) x refl refl
  event_adds (Restart n) x p = adds_other (Restart n) x (Boot n (suc x.rows.boot)) (λ k c. refl) (λ k c q t y d. differ k c q t y d) refl refl
    where
      differ : (k c q t : ℕ) (y : B) → Boot n (suc x.rows.boot) ≡ Item k c q t y → ⊥
      differ k c q t y d = cc

  -- a node's acts are those that it counts, and later boots have none
  pub record CountOk (made : List (Entry B)) (k : ℕ) (x : NodeState B) : Type 0 where
    pub now : x.up ≡ true → length (acts_of k x.rows.boot made) ≡ x.taken
    pub later : (b : ℕ) → x.rows.boot < b → acts_of k b made ≡ []

  abbrev pub TakenAs : List (Entry B) → ℕ → ℕ → ℕ → ℕ → B → Type 0
  TakenAs made n b q t y = (j : ℕ) × (q ≡ suc j) × (slice_get (acts_of n b made) j ≡ Some (record { transport = t; body = y }))

  pub record ActsOk (w : World B) : Type 0 where
    pub counts : (k : ℕ) → CountOk w.made k (node_at w.nodes k)
    pub taken : (n b q t : ℕ) (y : B) → Has w.made (Item n b q t y) → TakenAs w.made n b q t y

  at_left : {A : Type 0} (xs ys : List A) (j : ℕ) (x : A) → slice_get xs j ≡ Some x → slice_get (xs ++ ys) j ≡ Some x
  at_left [] ys j x e = absurd (nothing e)
    where
      nothing : slice_get [] j ≡ Some x → ⊥
      nothing e = cc
  at_left (y ∷ xs) ys zero x e = e
  at_left (y ∷ xs) ys (suc j) x e = at_left xs ys j x e

  at_end : {A : Type 0} (xs : List A) (x : A) → slice_get (xs ++ x ∷ []) (length xs) ≡ Some x
  at_end [] x = refl
  at_end (y ∷ xs) x = at_end xs x

  pub acts_on : (k b : ℕ) (made more : List (Entry B)) → acts_of k b (made ++ more) ≡ acts_of k b made ++ acts_of k b more
  acts_on k b made more = filter_map-append (act_in k b) made more

  pub same_acts : (k b : ℕ) (made more : List (Entry B)) → acts_of k b more ≡ [] → acts_of k b (made ++ more) ≡ acts_of k b made
  same_acts k b made more e = acts_on k b made more ∙ (ap (λ l. acts_of k b made ++ l) e ∙ append-nil (acts_of k b made))

  done_acts : (w : World B) (e : Event B) → possible e (at' w e) ≡ true → ActsOk w → ActsOk (done same w e (at' w e) (goes w e))
  done_acts w e p ok =
      record {
        counts = λ k. ⊎_elim
            (λ (i : k ≡ owner e). subst (λ j. CountOk (w.made ++ more) j (node_at (put_node w.nodes (owner e) o.node) j)) (sym i)
            (subst (λ y. CountOk (w.made ++ more) (owner e) y) (sym (node_same w.nodes (owner e) o.node (within w.nodes e (owner e) p))) mine))
            (λ i. subst (λ y. CountOk (w.made ++ more) k y) (sym (node_other w.nodes (owner e) o.node k i)) (record {
              now =
                  λ u.
                  ap (λ l. length l) (same_acts k (node_at w.nodes k).rows.boot w.made more (adds.quiet k (node_at w.nodes k).rows.boot (λ a b. i a)))
                  ∙ (ok.counts k).now u;
              later = λ b l. same_acts k b w.made more (adds.quiet k b (λ a c. i a)) ∙ (ok.counts k).later b l;
            }))
            (cases_eq k (owner e));
        taken = λ n b q t y h. ⊎_elim
            (λ a. let z = ok.taken n b q t y a in (
              z.0,
              z.1,
              subst (λ l. slice_get l z.0 ≡ Some (record { transport = t; body = y })) (sym (acts_on n b w.made more))
                  (at_left (acts_of n b w.made) (acts_of n b more) z.0 (record { transport = t; body = y }) z.2),
            ))
            (λ a. fresh n b q t y (adds.item n b q t y a))
            (has_cases w.made more h);
      }
    where
      x : NodeState B
      x = at' w e

      o : Plan B
      o = goes w e

      more : List (Entry B)
      more = made_by same e x

      adds : Adds e x
      adds = event_adds e x p

      old : CountOk w.made (owner e) x
      old = ok.counts (owner e)

      fresh : (n b q t : ℕ) (y : B)
          → (x.up ≡ true) × (n ≡ owner e) × (b ≡ x.rows.boot) × (q ≡ suc x.taken) × (acts_of n b more ≡ record { transport = t; body = y } ∷ [])
          → TakenAs (w.made ++ more) n b q t y
      fresh n b q t y a = (
        x.taken,
        a.3,
        subst (λ l. slice_get l x.taken ≡ Some (record { transport = t; body = y })) (sym (acts_on n b w.made more ∙ ap (λ l. acts_of n b w.made ++ l) a.4))
            (subst (λ j. slice_get (acts_of n b w.made ++ record { transport = t; body = y } ∷ []) j ≡ Some (record { transport = t; body = y })) count
            (at_end (acts_of n b w.made) (record { transport = t; body = y }))),
      )
        where
          count : length (acts_of n b w.made) ≡ x.taken
          count = ap (λ (z : ℕ × ℕ). length (acts_of z.0 z.1 w.made)) (λ i. (a.1 i, a.2 i)) ∙ old.now a.0

      ran : Ran same members e x → CountOk (w.made ++ more) (owner e) o.node
      ran r =
          record {
            now = λ u. ⊎_elim
                (λ (c : OnFrom same members e x).
                ap (λ b. length (acts_of (owner e) b (w.made ++ more))) r.from.boot_is
                ∙ (ap (λ l. length l) (acts_on (owner e) x.rows.boot w.made more)
                ∙ (length-append (acts_of (owner e) x.rows.boot w.made) (acts_of (owner e) x.rows.boot more)
                ∙ (sum (length (acts_of (owner e) x.rows.boot w.made)) (length (acts_of (owner e) x.rows.boot more)) x.taken (old.now r.was)
                ∙ (adds.own ∙ sym c.acts)))))
                (λ c. absurd (off (sym c.0 ∙ u)))
                r.from.case;
            later =
                λ b l.
                let m = subst (λ c. c < b) r.from.boot_is l in
                same_acts (owner e) b w.made more (adds.quiet (owner e) b (λ i j. apart b m j)) ∙ old.later b m;
          }
        where
          sum : (a b c : ℕ) → a ≡ c → a + b ≡ b + c
          sum a b c e = omega arith

          apart : (b : ℕ) → x.rows.boot < b → b ≡ x.rows.boot → ⊥
          apart b l j = omega arith

      began : Began same members e x → CountOk (w.made ++ more) (owner e) o.node
      began r =
          subst (λ y. CountOk (w.made ++ more) (owner e) y) (sym r.is)
          (record {
            now =
                λ u.
                ap (λ l. length l)
                (same_acts (owner e) (suc x.rows.boot) w.made more (adds.quiet (owner e) (suc x.rows.boot) (λ i j. above j))
                ∙ old.later (suc x.rows.boot) next_up);
            later = λ b l. same_acts (owner e) b w.made more (adds.quiet (owner e) b (λ i j. apart b l j)) ∙ old.later b (low b l);
          })
        where
          above : suc x.rows.boot ≡ x.rows.boot → ⊥
          above j = omega arith

          next_up : x.rows.boot < suc x.rows.boot
          next_up = omega arith

          apart : (b : ℕ) → suc x.rows.boot < b → b ≡ x.rows.boot → ⊥
          apart b l j = omega arith

          low : (b : ℕ) → suc x.rows.boot < b → x.rows.boot < b
          low b l = omega arith

      mine : CountOk (w.made ++ more) (owner e) o.node
      mine = ⊎_elim ran began (event_cases same members e x p)

  play_acts : (events : List (Event B)) (w : World B) → ActsOk w → ActsOk (play same members events w)
  play_acts [] w ok = ok
  play_acts (e ∷ events) w ok = play_acts events (next same members w e) (by_next (λ z. ActsOk z) w e ok (λ m. done_acts w e m.1 ok))

  boots_act : (n k b : ℕ) → acts_of k b (first_boots {B = B} n) ≡ []
  boots_act zero k b = refl
  boots_act (suc n) k b = acts_on k b (first_boots n) (Boot (suc n) 1 ∷ []) ∙ ap (λ l. l ++ []) (boots_act n k b)

  boots_only : (n k b q t : ℕ) (y : B) → Has (first_boots n) (Item k b q t y) → ⊥
  boots_only zero k b q t y h = has_nil h
  boots_only (suc n) k b q t y h = ⊎_elim (λ a. boots_only n k b q t y a) (λ a. differ (has_one a)) (has_cases (first_boots n) (Boot (suc n) 1 ∷ []) h)
    where
      differ : Boot (suc n) 1 ≡ Item k b q t y → ⊥
      differ e = cc

  plain_taken : (n k : ℕ) → (node_at (founded {B = B} n) k).taken ≡ 0
  plain_taken n zero = refl
  plain_taken n (suc k) = each n k
    where
      push : (xs : List (NodeState B)) (x : NodeState B) → x.taken ≡ 0 → ((j : ℕ) → (slice_index_or xs j absent).taken ≡ 0) → (j : ℕ)
          → (slice_index_or (xs ++ x ∷ []) j absent).taken ≡ 0
      push [] x p h zero = p
      push [] x p h (suc j) = refl
      push (y ∷ ys) x p h zero = h zero
      push (y ∷ ys) x p h (suc j) = push ys x p (λ i. h (suc i)) j

      each : (m j : ℕ) → (slice_index_or (founded {B = B} m) j absent).taken ≡ 0
      each zero j = refl
      each (suc m) j = push (founded m) (started (suc m) first_rows) refl (λ i. each m i) j

  pub acts_ok : (events : List (Event B)) → ActsOk (played same members events)
  acts_ok events =
      play_acts events (first_world members)
      (record {
        counts =
            λ k.
            record {
              now = λ u. ap (λ l. length l) (boots_act members k (node_at (founded {B = B} members) k).rows.boot) ∙ sym (plain_taken members k);
              later = λ b l. boots_act members k b;
            };
        taken = λ n b q t y h. absurd (boots_only members n b q t y h);
      })

  pub item_was_taken : IsEquality same → (events : List (Event B)) (k n b q t : ℕ) (y : B) → Has (log_of (played same members events) k) (Item n b q t y)
      → TakenAs (played same members events).made n b q t y
  item_was_taken equal events k n b q t y h =
      ⊎_elim (λ e. absurd (differ e)) (λ a. (acts_ok events).taken n b q t y a) (log_was_made equal events k (Item n b q t y) h)
    where
      differ : Item n b q t y ≡ Noop → ⊥
      differ e = cc

pub items_were_taken : {B : Type 0} (same : B → B → Bool) → IsEquality same → ItemsWereTaken B same
items_were_taken same equal members events k n b q t y h = item_was_taken same members equal events k n b q t y h

-- what holds in the first world and is kept by each event holds in every world
pub in_every : {B : Type 0} (same : B → B → Bool) (members : ℕ) (P : World B → Type 0)
    → ((w : World B) (e : Event B) → P w → P (next same members w e)) → (events : List (Event B)) (w : World B) → P w
    → P (play same members events w)
in_every same members P keep [] w h = h
in_every same members P keep (e ∷ events) w h = in_every same members P keep events (next same members w e) (keep w e h)

-- the nodes of the first world
pub founded_each : {B : Type 0} (P : ℕ → NodeState B → Type 0) → ((k : ℕ) → P (suc k) (started (suc k) first_rows)) → ((k : ℕ) → P k absent)
    → (n k : ℕ) → P k (node_at (founded n) k)
founded_each {B} P s a n zero = a zero
founded_each {B} P s a n (suc k) = each n k
  where
    push : (xs : List (NodeState B)) (x : NodeState B) (Q : ℕ → NodeState B → Type 0) → Q (length xs) x → ((j : ℕ) → Q j absent)
        → ((j : ℕ) → Q j (slice_index_or xs j absent)) → (j : ℕ) → Q j (slice_index_or (xs ++ x ∷ []) j absent)
    push [] x Q q b h zero = q
    push [] x Q q b h (suc j) = b (suc j)
    push (y ∷ ys) x Q q b h zero = h zero
    push (y ∷ ys) x Q q b h (suc j) = push ys x (λ i. Q (suc i)) q (λ i. b (suc i)) (λ i. h (suc i)) j

    each : (m j : ℕ) → P (suc j) (slice_index_or (founded m) j absent)
    each zero j = a (suc j)
    each (suc m) j =
        push (founded m) (started (suc m) first_rows) (λ i x. P (suc i) x)
        (subst (λ i. P (suc i) (started (suc m) first_rows)) (sym (founded_length {B = B} (λ x y. true) 0 m)) (s m))
        (λ i. a (suc i)) (λ i. each m i) j
