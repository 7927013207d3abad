-- What is pending, in every world: what a node owes, and Losts of live boots; no more than there is room for.
use Rattle.std.proofs.Common.{◌≡◌, ◌⊎◌, inl, inr, ⊎_elim, ℕ, suc, ◌+◌, ◌<◌, ◌≤◌, Bool, true, false, refl, sym, ap, ◌∙◌, subst, arith}
use Rattle.cluster_world.proofs.Booting.{made_lost}
use Rattle.std.proofs.Common.{List, [], ◌∷◌, ◌++◌, length, append_assoc, Option, Some, None}
use Rattle.std.specs.Prelude.{filter, slice_get, nat_lt, if◌then◌else◌, not}
use Rattle.std.proofs.lemmas.List.{append-nil, length-append}
use Rattle.std.proofs.lemmas.Option.{slice_get_past}
use Rattle.std.proofs.lemmas.Bool.{cond_both, cases_eq, cases_lt, and_parts, eq-eqb, ltb-true, cond-false}
use Rattle.cluster_world.proofs.Lists.{has_nil, has_one, has_cases, has_filter, has_passes}
use Rattle.cluster_world.proofs.EveryWorld.{within, node_same, node_other, play_on}
use Rattle.cluster_world.proofs.Standing.{Keeps, Cuts, Takes, Turned, turns, Ran, Began, event_cases}
use Rattle.cluster_world.proofs.Heads.{stands, cut_stands}
use Rattle.cluster_world.proofs.Taking.{May, by_next, in_every, founded_each, acts_ok}
use Rattle.cluster_world.proofs.Waiting.{suspected_is, not_itself}
use Rattle.cluster_world.proofs.Owing.{kept}
use Rattle.cluster_world.specs.Has.{Has, here, there}
use Rattle.paxos_packets.specs.declared.entry.Entry.{Entry}
use Rattle.paxos_packets.specs.declared.entry.Entry.TheVariants.{Boot, Lost}
use Rattle.paxos_packets.specs.declared.rows.Rows.{Rows}
use Rattle.paxos_packets.specs.Body.{IsEquality}
use Rattle.paxos_packets.specs.Snapshot as taken
use Rattle.paxos_packets.specs.Rows.{raised, last_boot, bare_rows, first_rows}
use Rattle.paxos_learner.specs.Learner.{run_from}
use Rattle.replica_machine.specs.declared.roll.Standing.{Standing}
use Rattle.replica_machine.specs.declared.roll.Standing.TheVariants.{Unknown, Live, Gone}
use Rattle.replica_machine.specs.Effects.{is_the}
use Rattle.replica_machine.specs.Roll.{is_live, standing_from, standing, is_wanted_by, live_in}
use Rattle.replica_machine.proofs.Places.{live_boot_is}
use Rattle.paxos_node.specs.declared.event.Event.{Event}
use Rattle.paxos_node.specs.declared.event.Event.TheVariants.{Take, Tick, Start, Suspect, Deliver, Cut, Crash, Restart}
use Rattle.paxos_planning.specs.Node.{NodeState, Plan, log_length}
use Rattle.paxos_planning.specs.Plan.{begun}
use Rattle.paxos_node.specs.Applying.{stands_at, standing_of, down, started, note, ends, go_down, apply_all}
use Rattle.paxos_node.specs.Snapshots.{may_cut}
use Rattle.paxos_node.specs.Events.{takes, new_item, has_room, most_pending, new_lost, last_number, suspected_by, owner, possible, on_event, outcome_of, made_by}
use Rattle.cluster_world.specs.World.{World, node_at, put_node, first_world, done, next, played, log_of}
use Rattle.cluster_world.specs.Owed.{TakenAreCounted, PendingLostsAreLive, PendingIsFew, DownIsRows}

off : false ≡ true → ⊥
off e = cc

-- lists

filter_few : {A : Type 0} (test : A → Bool) (xs : List A) → length (filter test xs) ≤ length xs
filter_few test [] = omega arith
filter_few test (x ∷ xs) =
    let rest = filter_few test xs in
    cond_both (test x) (x ∷ filter test xs) (filter test xs) (λ zs. length zs ≤ suc (length xs)) (λ e. omega arith) (λ e. omega arith)

pub has_place : {A : Type 0} (xs : List A) (j : ℕ) (x : A) → slice_get xs j ≡ Some x → j < length xs
has_place xs j x e = ⊎_elim (λ l. l) (λ l. absurd (never (sym (slice_get_past xs j l) ∙ e))) (cases_lt j (length xs))
  where
    never : ◌≡◌ {A = Option _} None (Some x) → ⊥
    never e = cc

pub none_kept : {B : Type 0} (es : List (Entry B)) → ((e : Entry B) → Has es e → kept e ≡ false) → filter kept es ≡ []
none_kept [] h = refl
none_kept (e ∷ es) h =
    cond-false (kept e) (e ∷ filter kept es) (filter kept es) (h e here) ∙ none_kept es (λ f i. h f (there i))

pub no_length : {A : Type 0} (xs : List A) → length xs ≡ 0 → xs ≡ []
no_length [] e = refl
no_length (x ∷ xs) e = absurd (omega arith)

-- what needs no other node

-- no more is pending than there is room for, and a node that is down has its rows alone
record Modest {B : Type 0} (n : ℕ) (x : NodeState B) : Type 0 where
  few : length x.pending ≤ most_pending
  down : (x.up ≡ true) ⊎ (x ≡ down x.rows)

-- each Lost that is pending is of another node's live boot, where the node stands
abbrev LostsOk : {B : Type 0} → ℕ → NodeState B → Type 0
LostsOk n x = (k b : ℕ) → Has x.pending (Lost k b) → (k ≡ n → ⊥) × (is_live (standing_of x k) b ≡ true)

modest_down : {B : Type 0} (n : ℕ) (rows : Rows B) → Modest n (down rows)
modest_down n rows = record { few = omega arith; down = inr refl }

losts_down : {B : Type 0} (n : ℕ) (rows : Rows B) → LostsOk n (down rows)
losts_down n rows k b h = absurd (has_nil h)

one_pending : 1 ≤ most_pending
unfolding most_pending
one_pending = omega arith

modest_started : {B : Type 0} (n : ℕ) (rows : Rows B) → Modest n (started n rows)
modest_started {B} n rows = record { few = one_pending; down = inl refl }

losts_started : {B : Type 0} (n : ℕ) (rows : Rows B) → LostsOk n (started n rows)
losts_started {B} n rows k b h = absurd (differ (has_one h))
  where
    differ : ◌≡◌ {A = Entry B} (Boot n rows.boot) (Lost k b) → ⊥
    differ e = cc

le : {a b c : ℕ} → a ≤ b → b ≤ c → a ≤ c
le a b = omega arith

-- what each applied entry keeps
applies : {B : Type 0} (n : ℕ) (P : NodeState B → Type 0) → ((rows : Rows B) → P (down rows))
    → ((e : Entry B) (o : Plan B) → P o.node → o.node.up ≡ true → P (note e o).node)
    → (es : List (Entry B)) (o : Plan B) → P o.node → o.node.up ≡ true → P (apply_all n es o).node
applies n P falls keeps [] o ok up = ok
applies n P falls keeps (e ∷ es) o ok up =
    cond_both (ends n o.node e) (go_down (note e o)) (apply_all n es (note e o)) (λ z. P z.node)
    (λ t. falls (note e o).node.rows)
    (λ t. applies n P falls keeps es (note e o) (keeps e o ok up) up)

-- a node stands so by its snapshot and what it applied above it
pub stands_so : {B : Type 0} (x y : NodeState B) → x.rows.snapshot ≡ y.rows.snapshot → x.applied ≡ y.applied → (k : ℕ)
    → standing_of x k ≡ standing_of y k
stands_so x y p q k = λ i. standing_from k (stands_at (p i) k) (q i)

module _ {B : Type 0} (n : ℕ) where
  noted : (e : Entry B) (o : Plan B) → Modest n o.node → o.node.up ≡ true → Modest n (note e o).node
  noted e o ok up =
      record {
        few = le (filter_few (is_wanted_by (standing_of (note e o).node)) o.node.pending) ok.few;
        down = inl up;
      }

  losts_noted : (e : Entry B) (o : Plan B) → LostsOk n o.node → o.node.up ≡ true → LostsOk n (note e o).node
  losts_noted e o ok up k b h = (
    (ok k b (has_filter (is_wanted_by (standing_of (note e o).node)) o.node.pending h)).0,
    has_passes (is_wanted_by (standing_of (note e o).node)) o.node.pending h,
  )

  pub applied_all : (es : List (Entry B)) (o : Plan B) → (apply_all n es o).node.up ≡ true → (apply_all n es o).node.applied ≡ o.node.applied ++ es
  applied_all [] o up = sym (append-nil o.node.applied)
  applied_all (e ∷ es) o up = go (ends n o.node e) (applied_all es (note e o)) up
    where
      go : (z : Bool) → ((apply_all n es (note e o)).node.up ≡ true → (apply_all n es (note e o)).node.applied ≡ (o.node.applied ++ e ∷ []) ++ es)
          → (if z then go_down (note e o) else apply_all n es (note e o)).node.up ≡ true
          → (if z then go_down (note e o) else apply_all n es (note e o)).node.applied ≡ o.node.applied ++ e ∷ es
      go true more up = absurd (off up)
      go false more up = more up ∙ append_assoc o.node.applied (e ∷ []) es

module _ {B : Type 0} (same : B → B → Bool) (members : ℕ) where
  -- there is room for what an event makes
  made_few : (e : Event B) (x : NodeState B) → possible e x ≡ true → x.up ≡ true → length x.pending ≤ most_pending
      → length (x.pending ++ made_by same e x) ≤ most_pending
  made_few e x p up few = go e p
    where
      nothing : length (x.pending ++ []) ≤ most_pending
      nothing = subst (λ l. length l ≤ most_pending) (sym (append-nil x.pending)) few

      one : (l : Entry B) → has_room x ≡ true → length (x.pending ++ l ∷ []) ≤ most_pending
      one l r = let s = length-append x.pending (l ∷ []) in let h = ltb-true (length x.pending) most_pending r in more (length x.pending) s h
        where
          more : (k : ℕ) {c : ℕ} → c ≡ k + 1 → k < most_pending → c ≤ most_pending
          more k s h = omega arith

      lost : (o : Option (Entry B)) → length (x.pending ++ suspected_by o x) ≤ most_pending
      lost None = nothing
      lost (Some l) =
          cond_both (has_room x) (l ∷ []) [] (λ z. length (x.pending ++ z) ≤ most_pending) (λ r. one l r) (λ r. nothing)

      go : (f : Event B) → possible f x ≡ true → length (x.pending ++ made_by same f x) ≤ most_pending
      go (Take n t body) p =
          cond_both (takes x) (new_item n t body x ∷ []) [] (λ z. length (x.pending ++ z) ≤ most_pending)
          (λ r. one (new_item n t body x) (and_parts (has_room x) (nat_lt x.taken last_number) r).0) (λ r. nothing)
      go (Tick n) p = nothing
      go (Start n) p = nothing
      go (Suspect n other) p = lost (new_lost same n other x)
      go (Deliver q) p = nothing
      go (Cut n o) p = nothing
      go (Crash n) p = nothing
      go (Restart n) p =
          absurd
          (off
          (sym (ap not up)
          ∙ (and_parts (not x.up) (nat_lt x.rows.boot last_boot) p).0))

  -- a Lost that an event makes is of another node's live boot
  made_live : (e : Event B) (x : NodeState B) (k b : ℕ) → Has (made_by same e x) (Lost k b)
      → (k ≡ owner e → ⊥) × (is_live (standing_of x k) b ≡ true)
  made_live e x k b h =
      let m = made_lost same e x k b h in
      let s = suspected_is x (new_lost same m.by k x) (Lost k b) (subst (λ (z : Event B). Has (made_by same z x) (Lost k b)) m.is h) in (
        λ i. not_itself same m.by k x (Lost k b) s.0 (sym (ap owner m.is) ∙ sym i),
        live (standing_of x k) m.live,
      )
    where
      live : (s : Standing) → live_in s ≡ Some b → is_live s b ≡ true
      live Unknown l = absurd (never l)
        where
          never : ◌≡◌ {A = Option ℕ} None (Some b) → ⊥
          never e = cc
      live (Live c q) l = eq-eqb c b (same_boot l)
        where
          same_boot : Some c ≡ Some b → c ≡ b
          same_boot e = cc
      live (Gone c) l = absurd (never l)
        where
          never : ◌≡◌ {A = Option ℕ} None (Some b) → ⊥
          never e = cc

  pub by_crash : (e : Event B) → ((n : ℕ) × (e ≡ Crash n)) ⊎ ((n : ℕ) → e ≡ Crash n → ⊥)
  by_crash (Crash n) = inl (n, refl)
  by_crash _ = inr (λ m e. cc)

  -- an event at a node that stays up
  module _ (e : Event B) (x : NodeState B) (p : possible e x ≡ true) where
    abbrev v : Plan B
    v = on_event same members e (begun x)

    abbrev es : List (Entry B)
    es = run_from (suc (log_length v.node)) v.node.learner.learned

    modest_turned : x.up ≡ true → Modest (owner e) x → Turned same e x v → Modest (owner e) v.node
    modest_turned up ok t =
        record {
          few = ⊎_elim
              (λ (k : Keeps same e x v). subst (λ l. length l ≤ most_pending) (sym k.pending) (made_few e x p up ok.few))
              (λ r. ⊎_elim
              (λ (k : Cuts e x v). subst (λ l. length l ≤ most_pending) (sym k.pending) ok.few)
              (λ (k : Takes e x v). subst (λ l. length l ≤ most_pending) (sym k.pending)
              (le (filter_few (is_wanted_by (stands_at (Some k.snapshot))) x.pending) ok.few))
              r)
              t.turn;
          down = inl (t.up ∙ up);
        }

    event_modest : Modest (owner e) x → Modest (owner e) (outcome_of same members e x).node
    event_modest ok = ⊎_elim ran began (event_cases same members e x p)
      where
        began : Began same members e x → Modest (owner e) (outcome_of same members e x).node
        began r = subst (λ y. Modest (owner e) y) (sym r.is) (modest_started (owner e) (raised x.rows))

        ran : Ran same members e x → Modest (owner e) (outcome_of same members e x).node
        ran r =
            ⊎_elim
            (λ (c : (n : ℕ) × (e ≡ Crash n)). subst (λ f. Modest (owner f) (outcome_of same members f x).node) (sym c.1) (modest_down c.0 x.rows))
            (λ d. let t = turns same members x r.was e p d in
            applies (owner e) (λ y. Modest (owner e) y) (modest_down (owner e)) (noted (owner e)) es v (modest_turned r.was ok t) (t.up ∙ r.was))
            (by_crash e)

    -- where a cut leaves it standing where it stood
    losts_turned : ((s : taken.Snapshot) → may_cut (Some s) x ≡ true → (k : ℕ) → stands_at (Some s) k ≡ standing_of x k)
        → LostsOk (owner e) x → Turned same e x v → LostsOk (owner e) v.node
    losts_turned stood ok t k b h =
        ⊎_elim
        (λ (c : Keeps same e x v). subst (λ s. (k ≡ owner e → ⊥) × (is_live s b ≡ true)) (sym (stands_so v.node x c.base c.log k))
        (⊎_elim (λ a. ok k b a) (λ a. made_live e x k b a)
        (has_cases x.pending (made_by same e x) (subst (λ l. Has l (Lost k b)) c.pending h))))
        (λ r. ⊎_elim
        (λ (c : Cuts e x v). subst (λ s. (k ≡ owner e → ⊥) × (is_live s b ≡ true))
        (sym (there c.snapshot c.base c.log ∙ stood c.snapshot c.may k)) (ok k b (subst (λ l. Has l (Lost k b)) c.pending h)))
        (λ (c : Takes e x v). let g = subst (λ l. Has l (Lost k b)) c.pending h in
        subst (λ s. (k ≡ owner e → ⊥) × (is_live s b ≡ true)) (sym (there c.snapshot c.base c.log)) (
          (ok k b (has_filter (is_wanted_by (stands_at (Some c.snapshot))) x.pending g)).0,
          has_passes (is_wanted_by (stands_at (Some c.snapshot))) x.pending g,
        ))
        r)
        t.turn
      where
        there : (s : taken.Snapshot) → v.node.rows.snapshot ≡ Some s → v.node.applied ≡ [] → standing_of v.node k ≡ stands_at (Some s) k
        there s i j = λ q. standing_from k (stands_at (i q) k) (j q)

    event_losts : ((s : taken.Snapshot) → x.up ≡ true → may_cut (Some s) x ≡ true → (k : ℕ) → stands_at (Some s) k ≡ standing_of x k)
        → LostsOk (owner e) x → LostsOk (owner e) (outcome_of same members e x).node
    event_losts stood ok = ⊎_elim ran began (event_cases same members e x p)
      where
        began : Began same members e x → LostsOk (owner e) (outcome_of same members e x).node
        began r = subst (λ y. LostsOk (owner e) y) (sym r.is) (losts_started (owner e) (raised x.rows))

        ran : Ran same members e x → LostsOk (owner e) (outcome_of same members e x).node
        ran r =
            ⊎_elim
            (λ (c : (n : ℕ) × (e ≡ Crash n)). subst (λ f. LostsOk (owner f) (outcome_of same members f x).node) (sym c.1) (losts_down c.0 x.rows))
            (λ d. let t = turns same members x r.was e p d in
            applies (owner e) (λ y. LostsOk (owner e) y) (losts_down (owner e)) (losts_noted (owner e)) es v
            (losts_turned (λ s may k. stood s r.was may k) ok t) (t.up ∙ r.was))
            (by_crash e)

  abbrev AllModest : World B → Type 0
  AllModest w = (k : ℕ) → Modest k (node_at w.nodes k)

  next_modest : (w : World B) (e : Event B) → AllModest w → AllModest (next same members w e)
  next_modest w e ok = by_next same members (λ z. AllModest z) w e ok go
    where
      o : Plan B
      o = outcome_of same members e (node_at w.nodes (owner e))

      go : May same members w e → AllModest (done same w e (node_at w.nodes (owner e)) o)
      go m k =
          ⊎_elim
          (λ (i : k ≡ owner e). subst (λ j. Modest j (node_at (put_node w.nodes (owner e) o.node) j)) (sym i)
          (subst (λ x. Modest (owner e) x) (sym (node_same w.nodes (owner e) o.node (within w.nodes e (owner e) m.1)))
          (event_modest e (node_at w.nodes (owner e)) m.1 (ok (owner e)))))
          (λ i. subst (λ x. Modest k x) (sym (node_other w.nodes (owner e) o.node k i)) (ok k))
          (cases_eq k (owner e))

  all_modest : (events : List (Event B)) → AllModest (played same members events)
  all_modest events =
      in_every same members (λ w. AllModest w) next_modest events (first_world members)
      (λ k. founded_each (λ j x. Modest j x) (λ j. modest_started (suc j) first_rows) (λ j. modest_down j _) members k)

  module _ (equal : IsEquality same) (seven : members ≤ 7) where
    abbrev AllLosts : World B → Type 0
    AllLosts w = (k : ℕ) → LostsOk k (node_at w.nodes k)

    next_losts : (early : List (Event B)) (e : Event B) → AllLosts (played same members early)
        → AllLosts (next same members (played same members early) e)
    next_losts early e ok = by_next same members (λ z. AllLosts z) w e ok go
      where
        w : World B
        w = played same members early

        o : Plan B
        o = outcome_of same members e (node_at w.nodes (owner e))

        go : May same members w e → AllLosts (done same w e (node_at w.nodes (owner e)) o)
        go m k =
            ⊎_elim
            (λ (i : k ≡ owner e). subst (λ j. LostsOk j (node_at (put_node w.nodes (owner e) o.node) j)) (sym i)
            (subst (λ x. LostsOk (owner e) x) (sym (node_same w.nodes (owner e) o.node (within w.nodes e (owner e) m.1)))
            (event_losts e (node_at w.nodes (owner e)) m.1
            (λ s up may j. cut_stands same equal members seven early (owner e) s up may j) (ok (owner e)))))
            (λ i. subst (λ x. LostsOk k x) (sym (node_other w.nodes (owner e) o.node k i)) (ok k))
            (cases_eq k (owner e))

    play_losts : (todo early : List (Event B)) → AllLosts (played same members early) → AllLosts (played same members (early ++ todo))
    play_losts [] early h = subst (λ l. AllLosts (played same members l)) (sym (append-nil early)) h
    play_losts (e ∷ todo) early h =
        subst (λ l. AllLosts (played same members l)) (append_assoc early (e ∷ []) todo)
        (play_losts todo (early ++ e ∷ [])
        (subst (λ (z : World B). AllLosts z) (sym (play_on same members early (e ∷ []) (first_world members))) (next_losts early e h)))

    all_losts : (events : List (Event B)) → AllLosts (played same members events)
    all_losts events =
        play_losts events []
        (λ k. founded_each (λ j x. LostsOk j x) (λ j. losts_started (suc j) first_rows) (λ j. losts_down j (bare_rows last_boot)) members k)

    -- the same by the whole log
    pub losts_live : (events : List (Event B)) (n k b : ℕ) → Has (node_at (played same members events).nodes n).pending (Lost k b)
        → (k ≡ n → ⊥) × (is_live (standing k (log_of (played same members events) n)) b ≡ true)
    losts_live events n k b h =
        let l = all_losts events n k b h in
        ⊎_elim
        (λ u. (l.0, ap (λ s. is_live s b) (sym (stands same equal members seven events n u k)) ∙ l.1))
        (λ d. absurd (has_nil (subst (λ (x : NodeState B). Has x.pending (Lost k b)) d h)))
        (all_modest events n).down

pub pending_losts_are_live : {B : Type 0} (same : B → B → Bool) → IsEquality same → PendingLostsAreLive B same
pending_losts_are_live same equal members seven events n k b h =
    let l = losts_live same members equal seven events n k b h in
    record {
      other = l.0;
      live = ap (λ o. is_the o b) (live_boot_is k (log_of (played same members events) n))
          ∙ the_live (standing k (log_of (played same members events) n)) b ∙ l.1;
    }
  where
    the_live : (s : Standing) (b : ℕ) → is_the (live_in s) b ≡ is_live s b
    the_live Unknown b = refl
    the_live (Live c taken) b = refl
    the_live (Gone c) b = refl

pub pending_is_few : {B : Type 0} (same : B → B → Bool) → PendingIsFew B same
pending_is_few same members events n = (all_modest same members events n).few

pub down_is_rows : {B : Type 0} (same : B → B → Bool) → DownIsRows B same
down_is_rows same members events n d = ⊎_elim (λ u. absurd (off (sym d ∙ u))) (λ e. e) (all_modest same members events n).down

pub taken_are_counted : {B : Type 0} (same : B → B → Bool) → TakenAreCounted B same
taken_are_counted same members events n up = ((acts_ok same members events).counts n).now up
