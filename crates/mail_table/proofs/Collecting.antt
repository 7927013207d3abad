-- The gatherer takes in a seat, and what it knows in the end.
use Rattle.std.proofs.Common.{◌≡◌, ◌≢◌, ℕ, zero, suc, ◌+◌, ◌≤◌, ◌⊎◌, eqb, Bool, true, false, ◌&&◌, arith, length, length-append, map}
use Rattle.std.proofs.Common.{get_or, refl, sym, ap, ◌∙◌, subst, ⊎_elim, inl, inr, List, [], ◌∷◌, ◌++◌, set, Option, Some, None}
use Rattle.std.proofs.lemmas.Bool.{eq-eqb, ne_eqb, cond-true, cond-false, cases_eq, eqb-true, and_parts, or_cases}
use Rattle.std.proofs.lemmas.List.{append-nil, map-append}
use Rattle.std.specs.List.{list_any, list_all}
use Rattle.std.specs.Prelude.{◌==◌, if◌then◌else◌, MatchBool}
use mathlib.Core.Option.{some}
use lib.ListN.{get_elem?}
use Rattle.atomic_table.proofs.Lists.{at_set, set_else}
use Rattle.atomic_table.specs.Table.{State, Joins, Final, Seen}
use Rattle.cluster_world.proofs.Agreeing.{learned_is_chosen, told_is_chosen, chosen_is_one, logs_are_prefixes}
use Rattle.cluster_world.proofs.CutLogs.{nodes_rest_on_logs}
use Rattle.cluster_world.proofs.Lists.{has_cons, has_cases, has_left, has_nil, has_one, has_right, map_has}
use Rattle.cluster_world.specs.Chosen.{Chosen}
use Rattle.cluster_world.specs.Has.{Has, here, there}
use Rattle.cluster_world.specs.Laws.{IsPrefixOf}
use Rattle.cluster_world.specs.World.{Cut, World, node_at, played, under, log_of}
use Rattle.paxos_learner.specs.declared.learned.LearnedEntry.{LearnedEntry}
use Rattle.paxos_node.specs.Applying.{base, stands_at}
use Rattle.paxos_node.specs.declared.event.Event.{Event}
use Rattle.paxos_node.specs.declared.view.Opened.{Opened}
use Rattle.paxos_node.specs.declared.view.Opened.TheVariants.{Never, With}
use Rattle.paxos_packets.specs.Body.{IsEquality}
use Rattle.paxos_packets.specs.Members.{IsMember}
use Rattle.paxos_packets.specs.Snapshot.{floor_in}
use Rattle.paxos_packets.specs.Snapshot as taken
use Rattle.paxos_packets.specs.declared.entry.Entry.{Entry}
use Rattle.paxos_packets.specs.declared.packet.Packet.{Packet}
use Rattle.paxos_packets.specs.declared.rows.Rows.{Rows}
use Rattle.paxos_planning.specs.Node.{NodeState, log_length, told_length}
use Rattle.replica_machine.specs.Roll.{standing}
use Rattle.mail_table.proofs.Covering.{shown}
use Rattle.mail_table.proofs.Moving.{behind_has}
use Rattle.mail_table.proofs.Parcels.{box_ahead}
use Rattle.mail_table.specs.Boxes.{Fits, IsAhead, Kept, Placed}
use Rattle.mail_table.specs.Covered.{Covers, Matches}
use Rattle.mail_table.specs.Gathered.{Gathered, Opening, PostsArrive, IsWholeLog, ShowsLog, LogsAgree, LearnersAgree}
use Rattle.mail_table.specs.Seats.{Mailed, Seated, all_sit, is_whole, parts_of}
use Rattle.mail_table.specs.Views.{box_of, length_shown, through}
use Rattle.mail_table.specs.declared.part.Part.{Part}

module _ {B : Type 0} (same : B → B → Bool) (n most : ℕ) where
  -- one view more is taken in
  pub joins : (id : ℕ) (v : List (Part B)) (other : ℕ) (w : List (Part B)) → Joins (Kept {B = B} same n most) id v other w (v ++ w) []
  joins id v other w s kept at apart at_w =
      record {
        part = kept.part;
        seat = seats;
        wide = kept.wide;
        high = kept.high;
        fits = fits;
        covered = kept.covered;
        posted = kept.posted;
        counted = kept.counted;
        boxes = kept.boxes;
      }
    where
      seats : ℕ → ℕ
      seats k = if kept.seat k == other then id else kept.seat k

      came : (k : ℕ) → kept.seat k ≡ other → seats k ≡ id
      came k e = cond-true (eqb (kept.seat k) other) id (kept.seat k) (eq-eqb (kept.seat k) other e)

      stayed : (k j : ℕ) → kept.seat k ≡ j → (j ≡ other → ⊥) → seats k ≡ j
      stayed k j e d = cond-false (eqb (kept.seat k) other) id (kept.seat k) (ne_eqb (kept.seat k) other (λ g. d (sym e ∙ g))) ∙ e

      else_fits : (j : ℕ) → (j ≡ other → ⊥) → (u : List (Part B)) → Fits kept.part kept.seat j u → Fits kept.part seats j u
      else_fits j d [] f = tt
      else_fits j d (z ∷ zs) f = (f.0, stayed z.me j f.1 d, else_fits j d zs f.2)

      came_fits : (u : List (Part B)) → Fits kept.part kept.seat other u → Fits kept.part seats id u
      came_fits [] f = tt
      came_fits (z ∷ zs) f = (f.0, came z.me f.1, came_fits zs f.2)

      both_fit : (a b : List (Part B)) → Fits kept.part seats id a → Fits kept.part seats id b → Fits kept.part seats id (a ++ b)
      both_fit [] b f g = g
      both_fit (z ∷ zs) b f g = (f.0, f.1, both_fit zs b f.2 g)

      away : id ≡ other → ⊥
      away e = apart (sym e)

      joined : Fits kept.part seats id (v ++ w)
      joined =
          both_fit v w (else_fits id away v (kept.fits id v at))
          (came_fits w (kept.fits other w (sym (set_else s.views id other (v ++ w) apart) ∙ at_w)))

      inner : (j : ℕ) (u : List (Part B)) → (j ≡ other → ⊥) → get_elem? (set s.views id (v ++ w)) j ≡ some u → Fits kept.part seats j u
      inner j u d e =
          ⊎_elim
          (λ (t : (j ≡ id) × (v ++ w ≡ u)). subst (λ (z : ℕ × List (Part B)). Fits kept.part seats z.0 z.1) (λ i. (sym t.0 i, t.1 i))
          joined)
          (λ (t : (j ≢ id) × (get_elem? s.views j ≡ some u)). else_fits j d u (kept.fits j u t.1))
          (at_set s.views id j (v ++ w) u e)

      fits : (j : ℕ) (u : List (Part B)) → get_elem? (set (set s.views id (v ++ w)) other []) j ≡ some u → Fits kept.part seats j u
      fits j u e =
          ⊎_elim
          (λ (t : (j ≡ other) × ([] ≡ u)). subst (λ (z : List (Part B)). Fits kept.part seats j z) t.1 tt)
          (λ (t : (j ≢ other) × (get_elem? (set s.views id (v ++ w)) j ≡ some u)). inner j u t.0 t.1)
          (at_set (set s.views id (v ++ w)) other j [] u e)

  fit_mine : (part : ℕ → Part B) (seat : ℕ → ℕ) (j : ℕ) (v : List (Part B)) → Fits part seat j v → (x : Part B) → Has v x → part x.me ≡ x
  fit_mine part seat j [] f x h = absurd (elim h [ ])
  fit_mine part seat j (z ∷ zs) f x h =
      ⊎_elim (λ (e : z ≡ x). subst (λ y. part y.me ≡ y) e f.0) (λ t. fit_mine part seat j zs f.2 x t) (has_cons h)

  -- a view with the parts of all nodes knows them, once no seat is left
  pub gathers : (id : ℕ) (v parts : List (Part B)) (words : List ℕ) (slots : List (Placed B))
      → Final (Seen (Kept {B = B} same n most) id v) words slots → ((x : Part B) → Has parts x → Has v x)
      → ((k : ℕ) → IsMember n k → (x : Part B) × Has parts x × (x.me ≡ k)) → Gathered same n most parts
  gathers id v parts words slots f among sit =
      let kept = f.1.0 in
      let mine : (x : Part B) → Has parts x → kept.part x.me ≡ x = λ x h. fit_mine kept.part kept.seat id v (kept.fits id v f.1.1) x
      (among x h) in
      record {
        part = kept.part;
        mine = mine;
        all = λ k m. let t = sit k m in subst (Has parts) (sym (mine t.0 t.1) ∙ ap kept.part t.2) t.1;
        named = λ k m. let t = sit k m in ap (λ (z : Part B). z.me) (sym (ap kept.part t.2) ∙ mine t.0 t.1) ∙ t.2;
        covered = kept.covered;
        posted = kept.posted;
        boxes = λ a b ma mb. box_ahead most f.0.homes (box_of n a b) _ _ _ _ _ (kept.boxes a b ma mb);
      }

  -- what was posted arrives
  pub posts_arrive : (parts : List (Part B)) → Gathered same n most parts → PostsArrive n most parts
  posts_arrive parts g x y hx hy mx my =
      subst (λ (z : Part B × Part B). IsAhead most (through (box_of n x.me y.me) z.0.posted) (through (box_of n x.me y.me) z.1.received))
      (λ i. (g.mine x hx i, g.mine y hy i)) (g.boxes x.me y.me mx my)

  covers : (parts : List (Part B)) (g : Gathered same n most parts) (rows : ℕ → Rows B) → Opening same n parts rows
      → Covers same n (λ k. (g.part k).seen) rows
  covers parts g rows o =
      g.covered rows
      (λ k m. subst (λ j. Matches (g.part k).seen.opened (rows j)) (g.named k m) (o.0 (g.part k) (g.all k m))) o.1

  module _ (equal : IsEquality same) (many : 3 ≤ n) where
    -- the log of a node that nobody opened is empty
    abbrev log_by : Opened B → List (Entry B) → List (Entry B)
    log_by Never l = []
    log_by (With r) l = l

    prefix_by : (a b : Opened B) (v w : List (Entry B)) → IsPrefixOf v w ⊎ IsPrefixOf w v
        → IsPrefixOf (log_by a v) (log_by b w) ⊎ IsPrefixOf (log_by b w) (log_by a v)
    prefix_by Never b v w p = inl (log_by b w, refl)
    prefix_by (With r) Never v w p = inr (v, refl)
    prefix_by (With r) (With q) v w p = p

    -- an opened node of a part is the world's
    node_shown : (parts : List (Part B)) (g : Gathered same n most parts) (rows : ℕ → Rows B) (o : Opening same n parts rows) (x : Part B)
        → Has parts x
        → IsMember n x.me → (r : Rows B) → x.seen.opened ≡ With r
        → node_at (played same n (covers parts g rows o).events).nodes x.me ≡ x.seen.node
    node_shown parts g rows o x h m r e =
        let c = covers parts g rows o in
        let is = g.mine x h in
        shown same (g.part x.me).seen.opened x.me (g.part x.me).seen.node (rows x.me) r (node_at (played same n c.events).nodes x.me)
        (ap (λ (z : Part B). z.seen.opened) is ∙ e) (c.nodes x.me m)
        ∙ ap (λ (z : Part B). z.seen.node) is

    -- a snapshot of a node stands for a log
    under_is : (few : n ≤ 7) (events : List (Event B)) (k : ℕ) (o : Option taken.Snapshot)
        → (node_at (played same n events).nodes k).rows.snapshot ≡ o
        → (length (under (played same n events).cuts o) ≡ floor_in o)
        × ((j : ℕ) → stands_at o j ≡ standing j (under (played same n events).cuts o))
    under_is few events k None e = (refl, λ j. refl)
    under_is few events k (Some s) e = let l = nodes_rest_on_logs same equal n many few events k s e in (l.long, l.stands)

    -- so a node has a whole log, as long as it tells
    module _ (cuts : List (Cut B)) (x : NodeState B) (long : length (under cuts x.rows.snapshot) ≡ floor_in x.rows.snapshot)
        (stands : (j : ℕ) → base x.rows j ≡ standing j (under cuts x.rows.snapshot)) where
      is_whole_log : (up : Bool)
          → MatchBool up (IsWholeLog x (if up then under cuts x.rows.snapshot ++ x.applied else []))
          ((if up then under cuts x.rows.snapshot ++ x.applied else []) ≡ [])
      is_whole_log true = record { below = under cuts x.rows.snapshot; is = refl; long = long; stands = stands }
      is_whole_log false = refl

      is_so_long : (up : Bool)
          → length (if up then under cuts x.rows.snapshot ++ x.applied else []) ≡ (if up then log_length x else 0)
      is_so_long true = length-append (under cuts x.rows.snapshot) x.applied ∙ ap (λ m. m + length x.applied) long
      is_so_long false = refl

    pub logs_agree : n ≤ 7 → (parts : List (Part B)) → Gathered same n most parts → LogsAgree same n parts
    logs_agree few parts g rows o =
        record {
          log = log;
          shown = λ x h m. by_opened x h (λ p l. ShowsLog p x.seen.node l) refl (λ r e. (of_node x h m r e).0);
          long = λ x h m. by_opened x h (λ p l. length l ≡ length_shown p x.seen.node) refl (λ r e. (of_node x h m r e).1);
          agree = λ j k. prefix_by (g.part j).seen.opened (g.part k).seen.opened (log_of w j) (log_of w k)
              (subst (λ es. IsPrefixOf (log_of w j) (log_of (played same n es) k) ⊎ IsPrefixOf (log_of (played same n es) k) (log_of w j))
              (append-nil events) (logs_are_prefixes same equal n many events [] j k));
        }
      where
        events : List (Event B)
        events = (covers parts g rows o).events

        w : World B
        w = played same n events

        log : ℕ → List (Entry B)
        log k = log_by (g.part k).seen.opened (log_of w k)

        -- a node that was opened is the world's
        of_node : (x : Part B) → Has parts x → IsMember n x.me → (r : Rows B) → x.seen.opened ≡ With r
            → MatchBool x.seen.node.up (IsWholeLog x.seen.node (log_of w x.me)) (log_of w x.me ≡ [])
            × (length (log_of w x.me) ≡ told_length x.seen.node)
        of_node x h m r e =
            let is = node_shown parts g rows o x h m r e in
            let u = under_is few events x.me (node_at w.nodes x.me).rows.snapshot refl in
            subst
            (λ (y : NodeState B). MatchBool y.up (IsWholeLog y (log_of w x.me)) (log_of w x.me ≡ []) × (length (log_of w x.me) ≡ told_length y))
            is (
              is_whole_log w.cuts (node_at w.nodes x.me) u.0 u.1 (node_at w.nodes x.me).up,
              is_so_long w.cuts (node_at w.nodes x.me) u.0 u.1 (node_at w.nodes x.me).up,
            )

        -- what holds of the empty log of a node that nobody opened, and of the world's log of one that was opened
        by_opened : (x : Part B) → Has parts x → (P : Opened B → List (Entry B) → Type 0) → P Never []
            → ((r : Rows B) → x.seen.opened ≡ With r → P (With r) (log_of w x.me)) → P x.seen.opened (log x.me)
        by_opened x h P never opened =
            subst (λ (q : Opened B). P x.seen.opened (log_by q (log_of w x.me)))
            (ap (λ (z : Part B). z.seen.opened) (sym (g.mine x h))) (at x.seen.opened refl)
          where
            at : (q : Opened B) → x.seen.opened ≡ q → P q (log_by q (log_of w x.me))
            at Never i = never
            at (With r) i = opened r i

    pub learners_agree : (parts : List (Part B)) → Gathered same n most parts → LearnersAgree same n parts
    learners_agree parts g rows o x y hx hy mx my a p slot e ma h kind r f opened learned at =
        let c = covers parts g rows o in
        let w = played same n c.events in
        let got : Has (through (box_of n a x.me) (g.part x.me).received) p = subst (λ (z : Part B). Has (through (box_of n a x.me)
        z.received) p) (sym (g.mine x hx)) h in
        let sent : Has (g.part a).seen.sent p =
        (g.posted a ma x.me p mx (behind_has most (through (box_of n a x.me) (g.part a).posted) (through (box_of n a x.me) (g.part
        x.me).received) p (g.boxes a x.me ma mx) got)).0 in
        let told = told_is_chosen same equal n many c.events p.sender slot e (
          p.addressee,
          subst (λ k. Has w.sent (record { sender = p.sender; addressee = p.addressee; kind = k })) kind (c.sent a p ma
              sent),
        ) in
        let chosen = learned_is_chosen same equal n many c.events y.me f
        (subst (λ (z : NodeState B). Has z.learner.learned f) (sym (node_shown parts g rows o y hy my r opened)) learned) in
        chosen_is_one same equal n many c.events slot f.entry e (subst (λ z. Chosen n w.sent z f.entry) at chosen) told

-- the seats that are whole

off : false ≡ true → ⊥
off e = cc

any_found : {A : Type 0} (test : A → Bool) (xs : List A) → list_any test xs ≡ true → (x : A) × Has xs x × (test x ≡ true)
any_found test [] e = absurd (off e)
any_found test (x ∷ xs) e =
    ⊎_elim (λ t. (x, here, t)) (λ t. let z = any_found test xs t in (z.0, there z.1, z.2)) (or_cases (test x) (list_any test xs) e)

pub all_found : {B : Type 0} (n : ℕ) (seats : List (Seated B)) → all_sit n seats ≡ true → (k : ℕ) → IsMember n k
    → (x : Part B) × Has (parts_of seats) x × (x.me ≡ k)
all_found zero seats e k m = absurd (omega (arith, m.0, m.1))
all_found (suc n) seats e k m =
    let p = and_parts (all_sit n seats) (list_any (λ s. s.part.me == suc n) seats) e in
    ⊎_elim
    (λ (i : k ≡ suc n). let z = any_found (λ s. s.part.me == suc n) seats p.1 in
    (z.0.part, map_has (λ s. s.part) z.1, eqb-true z.0.part.me (suc n) z.2 ∙ sym i))
    (λ d. all_found n seats p.0 k (m.0, omega (arith, m.1, d)))
    (cases_eq k (suc n))

pub whole_sits : {B : Type 0} (m : Mailed) (seats : List (Seated B)) → is_whole m seats ≡ true → all_sit m.members seats ≡ true
whole_sits m seats e =
    let p = and_parts (length seats == m.members) _ e in
    (and_parts (list_all (λ s. s.table == m.table) seats) (all_sit m.members seats) p.1).1

pub whole_some : {B : Type 0} (m : Mailed) (seats : List (Seated B)) → is_whole m seats ≡ true → length seats ≡ m.members
whole_some m seats e = eqb-true (length seats) m.members (and_parts (length seats == m.members) _ e).0

pub whole_table : {B : Type 0} (m : Mailed) (seats : List (Seated B)) → is_whole m seats ≡ true
    → list_all (λ s. s.table == m.table) seats ≡ true
whole_table m seats e =
    let p = and_parts (length seats == m.members) _ e in
    (and_parts (list_all (λ s. s.table == m.table) seats) (all_sit m.members seats) p.1).0

-- one is taken from the end
pub has_last : {B : Type 0} (seats rest : List (Seated B)) (s : Seated B) → seats ≡ rest ++ s ∷ [] → (x : Part B) → Has (parts_of seats) x
    → Has (parts_of rest) x ⊎ (s.part ≡ x)
has_last seats rest s e x h =
    let g = subst (λ l. Has l x) (ap parts_of e ∙ map-append (λ (z : Seated _). z.part) rest (s ∷ [])) h in
    ⊎_elim (λ t. inl t) (λ t. inr (has_one t)) (has_cases (parts_of rest) (s.part ∷ []) g)

pub set_false : (row : List Bool) (i : ℕ) → get_or (set row i false) i false ≡ false
set_false [] i = refl
set_false (x ∷ xs) zero = refl
set_false (x ∷ xs) (suc i) = set_false xs i

-- one seat more is taken in
pub one_in : {B : Type 0} (seats rest : List (Seated B)) (s : Seated B) (v w u : List (Part B)) → seats ≡ rest ++ s ∷ []
    → w ≡ s.part ∷ [] → u ≡ v ++ w
    → (x : Part B) → Has (parts_of seats) x ⊎ Has v x → Has (parts_of rest) x ⊎ Has u x
one_in seats rest s v w u e f g x h =
    ⊎_elim
    (λ a. ⊎_elim (λ b. inl b)
    (λ (b : s.part ≡ x). inr (subst (λ z. Has z x) (sym g) (has_right v (subst (λ z. Has z x) (sym f) (subst (λ z. Has (s.part ∷ []) z)
    b here)))))
    (has_last seats rest s e x a))
    (λ a. inr (subst (λ z. Has z x) (sym g) (has_left w a)))
    h

pub none_left : {B : Type 0} (seats : List (Seated B)) (v : List (Part B)) → length seats ≡ 0 → (x : Part B)
    → Has (parts_of seats) x ⊎ Has v x → Has v x
none_left [] v e x h = ⊎_elim (λ a. absurd (has_nil a)) (λ b. b) h
none_left (s ∷ ss) v e x h = absurd (omega arith)
