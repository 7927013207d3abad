-- Each transport of a running node was handed what the node's log says to it, if that says nothing to it before its boot begins.
use Rattle.std.proofs.Common.{◌≡◌, ◌⊎◌, inl, inr, ⊎_elim, ℕ, suc, ◌+◌, ◌<◌, ◌≤◌, Bool, true, false, not, ◌&&◌, eqb, refl, sym, ap, ◌∙◌, subst}
use Rattle.std.proofs.Common.{arith, List, [], ◌∷◌, ◌++◌, append_assoc}
use Rattle.std.specs.Prelude.{is_some, filter, take_while, take, if◌then◌else◌}
use Rattle.std.proofs.lemmas.List.{append-nil}
use Rattle.std.proofs.lemmas.List.Elements.{filter-append}
use Rattle.std.proofs.lemmas.Bool.{cond_both, cond-true, cond-false, cases_eq, cases_lt, and_parts, and_from, eq-eqb, eqb-true}
use Rattle.cluster_world.proofs.Alone.{nothing_handed, nothing_logged, nothing_after}
use Rattle.cluster_world.proofs.Cuts.{under_kept}
use Rattle.cluster_world.proofs.EveryWorld.{WorldOk, world_ok, event_goes, whole_is, within, node_same, node_other, plain_at, play_on}
use Rattle.cluster_world.proofs.Heads.{heads_ok, newer_unbooted, under_boots}
use Rattle.cluster_world.proofs.Logs.{before_kept, before_cut, before_taken}
use Rattle.cluster_world.proofs.Overtaking.{snapshot_cut, longer_log}
use Rattle.cluster_world.proofs.Standing.{Keeps, Cuts, Takes, Turned, turns, Ran, Began, up_from, event_cases}
use Rattle.cluster_world.proofs.Taking.{May, by_next}
use Rattle.cluster_world.specs.Answers.{IsPresent, HandedIsSaid, HandedStays, BeginsUnsaid, before_boot, log_after}
use Rattle.cluster_world.specs.Has.{Has, here, there}
use Rattle.cluster_world.specs.World.{Applied, World, node_at, put_node, first_world, was_sent, done, next, play, played, under, whole_log, log_of, log_before}
use Rattle.cluster_world.specs.World.{cut_by, handed_at, handed_in, handed}
use Rattle.cluster_world.specs.World as worlds
use Rattle.paxos_packets.specs.Body.{IsEquality}
use Rattle.paxos_packets.specs.Transport.{same_transport}
use Rattle.paxos_packets.specs.declared.entry.Entry.{Entry}
use Rattle.paxos_packets.specs.declared.entry.Entry.TheVariants.{Noop, Boot, Lost, Item}
use Rattle.paxos_packets.specs.declared.transport.Transport.{Transport}
use Rattle.replica_machine.proofs.Replaying.{sayings_append}
use Rattle.replica_machine.specs.Effects.{is_boot}
use Rattle.replica_machine.specs.Replay.{Machine, said, sayings, sayings_behind}
use Rattle.paxos_node.specs.declared.event.Event.{Event}
use Rattle.paxos_node.specs.declared.event.Event.TheVariants.{Crash}
use Rattle.paxos_node.specs.Events.{owner, packet_in, possible, on_event, outcome_of}
use Rattle.paxos_planning.specs.Node.{NodeState, Plan}
use Rattle.paxos_planning.specs.Plan.{begun}

off : false ≡ true → ⊥
off e = cc

-- lists

while_true : {A : Type 0} (p : A → Bool) (x : A) (xs : List A) → p x ≡ true → take_while p (x ∷ xs) ≡ x ∷ take_while p xs
while_true {A} p x xs e = go (p x) _ e
  where
    one_more : (k : ℕ) → 1 + k ≡ suc k
    one_more k = omega arith

    go : (b : Bool) (k : ℕ) → b ≡ true → take (if b then 1 + k else 0) (x ∷ xs) ≡ x ∷ take k xs
    go true k e = ap (λ n. take n (x ∷ xs)) (one_more k)
    go false k e = absurd (off e)

while_false : {A : Type 0} (p : A → Bool) (x : A) (xs : List A) → p x ≡ false → take_while p (x ∷ xs) ≡ []
while_false {A} p x xs e = go (p x) _ e
  where
    go : (b : Bool) (k : ℕ) → b ≡ false → take (if b then 1 + k else 0) (x ∷ xs) ≡ []
    go true k e = absurd (off (sym e))
    go false k e = refl

-- of a longer list it is longer
while_front : {A : Type 0} (p : A → Bool) (xs ys : List A) → (rest : List A) × (take_while p (xs ++ ys) ≡ take_while p xs ++ rest)
while_front p [] ys = (take_while p ys, refl)
while_front {A} p (x ∷ xs) ys = go (p x) refl (while_front p xs ys)
  where
    go : (b : Bool) → p x ≡ b → (rest : List A) × (take_while p (xs ++ ys) ≡ take_while p xs ++ rest)
        → (rest : List A) × (take_while p (x ∷ (xs ++ ys)) ≡ take_while p (x ∷ xs) ++ rest)
    go true e r = (r.0, while_true p x (xs ++ ys) e ∙ (ap (λ l. x ∷ l) r.1 ∙ ap (λ l. l ++ r.0) (sym (while_true p x xs e))))
    go false e r = ([], while_false p x (xs ++ ys) e ∙ ap (λ l. l ++ []) (sym (while_false p x xs e)))

-- it begins the list
while_begins : {A : Type 0} (p : A → Bool) (xs : List A) → (rest : List A) × (take_while p xs ++ rest ≡ xs)
while_begins p [] = ([], refl)
while_begins {A} p (x ∷ xs) = go (p x) refl (while_begins p xs)
  where
    go : (b : Bool) → p x ≡ b → (rest : List A) × (take_while p xs ++ rest ≡ xs) → (rest : List A) × (take_while p (x ∷ xs) ++ rest ≡ x ∷ xs)
    go true e r = (r.0, ap (λ l. l ++ r.0) (while_true p x xs e) ∙ ap (λ l. x ∷ l) r.1)
    go false e r = (x ∷ xs, ap (λ l. l ++ (x ∷ xs)) (while_false p x xs e))

while_all : {A : Type 0} (p : A → Bool) (xs : List A) → ((x : A) → Has xs x → p x ≡ true) → take_while p xs ≡ xs
while_all p [] h = refl
while_all p (x ∷ xs) h = while_true p x xs (h x here) ∙ ap (λ l. x ∷ l) (while_all p xs (λ y i. h y (there i)))

nil_left : {A : Type 0} (xs ys : List A) → xs ++ ys ≡ [] → xs ≡ []
nil_left [] ys e = refl
nil_left (x ∷ xs) ys e = absurd (cc)

-- a log without a Boot of the transport's boot
all_before : {B : Type 0} (t : Transport) (log : List (Entry B)) → (Has log (Boot t.node t.boot) → ⊥) → before_boot t log ≡ log
all_before {B} t log h = while_all (λ e. not (is_boot t.node t.boot e)) log (λ e i. other e i)
  where
    other : (e : Entry B) → Has log e → not (is_boot t.node t.boot e) ≡ true
    other Noop i = refl
    other (Boot k c) i = go (eqb k t.node && eqb c t.boot) refl
      where
        go : (b : Bool) → (eqb k t.node && eqb c t.boot) ≡ b → not b ≡ true
        go true e =
            let p = and_parts (eqb k t.node) (eqb c t.boot) e in
            let q = eqb-true k t.node p.0 in
            let r = eqb-true c t.boot p.1 in
            absurd (h (subst (λ z. Has log z) (λ j. Boot (q j) (r j)) i))
        go false e = refl
    other (Lost k c) i = refl
    other (Item k c q x y) i = refl

-- how an event may end a boot
by_crash : {B : Type 0} (e : Event B) → ((n : ℕ) × (e ≡ Crash n)) ⊎ ((n : ℕ) → e ≡ Crash n → ⊥)
by_crash (Crash n) = inl (n, refl)
by_crash _ = inr (λ m e. cc)

module _ {B S Y : Type 0} (m : Machine B S Y) where
  handed_append : (t : Transport) (xs ys : List (Applied B)) → handed_in m t (xs ++ ys) ≡ handed_in m t xs ++ handed_in m t ys
  handed_append t [] ys = refl
  handed_append t (x ∷ xs) ys =
      ap (λ l. handed_at m t x ++ l) (handed_append t xs ys) ∙ sym (append_assoc (handed_at m t x) (handed_in m t xs) (handed_in m t ys))

  -- one application more, of another node or another boot
  handed_other : (t : Transport) (xs : List (Applied B)) (a : Applied B) → ((a.node ≡ t.node) → (a.boot ≡ t.boot) → a.entries ≡ [])
      → handed_in m t (xs ++ a ∷ []) ≡ handed_in m t xs
  handed_other t xs a d = handed_append t xs (a ∷ []) ∙ (ap (λ l. handed_in m t xs ++ (l ++ [])) none ∙ append-nil (handed_in m t xs))
    where
      test : Bool
      test = eqb a.node t.node && eqb a.boot t.boot

      quiet : a.entries ≡ [] → filter (λ y. same_transport (m.to y) t) (sayings_behind m a.log a.entries) ≡ []
      quiet e = ap (λ l. filter (λ y. same_transport (m.to y) t) (sayings_behind m a.log l)) e

      none : handed_at m t a ≡ []
      none =
          cond_both test (filter (λ y. same_transport (m.to y) t) (sayings_behind m a.log a.entries)) [] (λ l. l ≡ [])
          (λ e. let p = and_parts (eqb a.node t.node) (eqb a.boot t.boot) e in quiet
          (d (eqb-true a.node t.node p.0) (eqb-true a.boot t.boot p.1)))
          (λ e. refl)

  -- one application more, of this node and boot
  handed_own : (t : Transport) (xs : List (Applied B)) (log es : List (Entry B)) → handed_in m t xs ≡ said m t log
      → handed_in m t (xs ++ record { node = t.node; boot = t.boot; log = log; entries = es } ∷ []) ≡ said m t (log ++ es)
  handed_own t xs log es h =
      handed_append t xs (a ∷ [])
      ∙ (ap (λ l. l ++ (handed_at m t a ++ [])) h
      ∙ (ap (λ l. said m t log ++ l) (append-nil (handed_at m t a)
      ∙ cond-true (eqb t.node t.node && eqb t.boot t.boot) (filter test (sayings_behind m log es)) []
      (and_from (eqb t.node t.node) (eqb t.boot t.boot) (eq-eqb t.node t.node refl) (eq-eqb t.boot t.boot refl)))
      ∙ (sym (filter-append test (sayings m log) (sayings_behind m log es)) ∙ ap (λ l. filter test l) (sym (sayings_append m log es)))))
    where
      a : Applied B
      a = record { node = t.node; boot = t.boot; log = log; entries = es }

      test : Y → Bool
      test y = same_transport (m.to y) t

  -- what is said along a log

  said_front : (t : Transport) (xs ys : List (Entry B)) → said m t (xs ++ ys) ≡ [] → said m t xs ≡ []
  said_front t xs ys e =
      nil_left (said m t xs) (filter test (sayings_behind m xs ys))
      (sym (ap (λ l. filter test l) (sayings_append m xs ys) ∙ filter-append test (sayings m xs) (sayings_behind m xs ys)) ∙ e)
    where
      test : Y → Bool
      test y = same_transport (m.to y) t

  unsaid_front : (t : Transport) (xs ys : List (Entry B)) → BeginsUnsaid m t (xs ++ ys) → BeginsUnsaid m t xs
  unsaid_front t xs ys e =
      let r = while_front (λ e. not (is_boot t.node t.boot e)) xs ys in
      said_front t (before_boot t xs) r.0 (ap (λ l. said m t l) (sym r.1) ∙ e)

  -- a log that says nothing
  unsaid_all : (t : Transport) (log : List (Entry B)) → said m t log ≡ [] → BeginsUnsaid m t log
  unsaid_all t log e =
      let r = while_begins (λ e. not (is_boot t.node t.boot e)) log in
      said_front t (before_boot t log) r.0 (ap (λ l. said m t l) r.1 ∙ e)

  -- without its boot a log says nothing
  unbegun_unsaid : (t : Transport) (log : List (Entry B)) → (Has log (Boot t.node t.boot) → ⊥) → BeginsUnsaid m t log → said m t log ≡ []
  unbegun_unsaid t log h e = ap (λ l. said m t l) (sym (all_before t log h)) ∙ e

  -- what a node's transports were handed is what its log says, and nothing was handed to those of later boots
  record HandedOk (as' : List (Applied B)) (k : ℕ) (up : Bool) (boot : ℕ) (log : List (Entry B)) : Type 0 where
    all : up ≡ true → (t : Transport) → t.node ≡ k → t.boot ≡ boot → BeginsUnsaid m t log → handed_in m t as' ≡ said m t log
    past : (t : Transport) → t.node ≡ k → boot < t.boot → handed_in m t as' ≡ []

  abbrev HandedAt : List (Applied B) → List (worlds.Cut B) → ℕ → NodeState B → Type 0
  HandedAt as' cuts k x = HandedOk as' k x.up x.rows.boot (whole_log cuts x)

  record TellingOk (w : World B) : Type 0 where
    each : (k : ℕ) → HandedAt w.applied w.cuts k (node_at w.nodes k)

  module _ (same : B → B → Bool) (members : ℕ) where
    abbrev new : World B → Event B → Applied B
    new w e =
        let x = node_at w.nodes (owner e) in
        let o = outcome_of same members e x in
        record { node = owner e; boot = x.rows.boot; log = log_before w e x o; entries = o.applied }

    -- another node is handed nothing
    other_ok : (w : World B) (e : Event B) (k : ℕ) (boot : ℕ) (up : Bool) (log : List (Entry B)) → (k ≡ owner e → ⊥)
        → HandedOk w.applied k up boot log → HandedOk (w.applied ++ new w e ∷ []) k up boot log
    other_ok w e k boot up log d ok =
        record {
          all = λ u t n b z. handed_other t w.applied (new w e) (λ i j. absurd (d (sym n ∙ sym i))) ∙ ok.all u t n b z;
          past = λ t n b. handed_other t w.applied (new w e) (λ i j. absurd (d (sym n ∙ sym i))) ∙ ok.past t n b;
        }

    -- said of one application
    own_ok : (as' : List (Applied B)) (k boot : ℕ) (log es : List (Entry B)) (t : Transport) → t.node ≡ k → t.boot ≡ boot
        → handed_in m t as' ≡ said m t log
        → handed_in m t (as' ++ record { node = k; boot = boot; log = log; entries = es } ∷ []) ≡ said m t (log ++ es)
    own_ok as' k boot log es t n b h =
        subst
        (λ j. handed_in m t (as' ++ record { node = j; boot = boot; log = log; entries = es } ∷ []) ≡ said m t (log ++ es)) n
        (subst (λ c. handed_in m t (as' ++ record { node = t.node; boot = c; log = log; entries = es } ∷ []) ≡ said m t (log ++ es)) b
        (handed_own t as' log es h))

    module _ (equal : IsEquality same) (many : 2 ≤ members) (few : members ≤ 7) (early : List (Event B)) where
      abbrev w : World B
      w = played same members early

      w_ok : WorldOk members w
      w_ok = world_ok same equal members many early

      module _ (e : Event B) (ok : TellingOk w) (m' : May same members w e) where
        abbrev x : NodeState B
        x = node_at w.nodes (owner e)

        abbrev u : Plan B
        u = on_event same members e (begun x)

        abbrev o : Plan B
        o = outcome_of same members e x

        abbrev cuts' : List (worlds.Cut B)
        cuts' = w.cuts ++ cut_by w e

        abbrev before : List (Entry B)
        before = log_before w e x o

        mine_ok : HandedAt w.applied w.cuts (owner e) x
        mine_ok = ok.each (owner e)

        -- what was handed before the event is what is said along the log that it starts from
        starts : x.up ≡ true → (t : Transport) → t.node ≡ owner e → t.boot ≡ x.rows.boot → Turned same e x u → BeginsUnsaid m t before
            → handed_in m t w.applied ≡ said m t before
        starts up t n b turned unsaid =
            ⊎_elim
            (λ (k : Keeps same e x u). from (before_kept same members w e k))
            (λ r. ⊎_elim (λ (c : Cuts e x u). from (before_cut same members w e c)) (λ (k : Takes e x u). taken_up k) r)
            turned.turn
          where
            from : before ≡ log_of w (owner e) → handed_in m t w.applied ≡ said m t before
            from i =
                mine_ok.all up t n b (subst (λ l. BeginsUnsaid m t l) i unsaid) ∙ ap (λ l. said m t l) (sym i)

            taken_up : Takes e x u → handed_in m t w.applied ≡ said m t before
            taken_up k =
                let i = before_taken same members w e k in
                let none : said m t before ≡ [] =
                unbegun_unsaid t before
                (λ h. newer_unbooted w (heads_ok same equal members few early) (owner e) x k.snapshot k.head (snapshot_cut same equal members many early e m' k) k.reads k.newer
                (subst (λ (z : List (Entry B) × ℕ × ℕ). Has z.0 (Boot z.1 z.2)) (λ j. (i j, n j, b j)) h)) unsaid in
                let p = longer_log same equal members many early e m' k up in
                let old : said m t (log_of w (owner e)) ≡ [] =
                said_front t (log_of w (owner e)) p.0 (ap (λ l. said m t l) (p.1 ∙ sym i) ∙ none) in
                mine_ok.all up t n b (unsaid_all t (log_of w (owner e)) old) ∙ (old ∙ sym none)

        -- and what is handed then is what is said along the log after it
        now_said : x.up ≡ true → (t : Transport) → t.node ≡ owner e → t.boot ≡ x.rows.boot → Turned same e x u
            → BeginsUnsaid m t (before ++ o.applied)
            → handed_in m t (w.applied ++ new w e ∷ []) ≡ said m t (before ++ o.applied)
        now_said up t n b turned unsaid =
            own_ok w.applied (owner e) x.rows.boot before o.applied t n b
            (starts up t n b turned (unsaid_front t before o.applied unsaid))

        whole_goes : x.up ≡ true → o.node.up ≡ true → whole_log cuts' o.node ≡ before ++ o.applied
        whole_goes up stays =
            let g = event_goes same equal members many w e w_ok m'.0 m'.1 in
            whole_is cuts' o.node stays ∙ (ap (λ l. l ++ o.node.applied) g.is ∙ g.on up stays)

        not_crash : o.node.up ≡ true → (n : ℕ) → e ≡ Crash n → ⊥
        not_crash up n i = off (subst (λ f. (outcome_of same members f x).node.up ≡ true) i up)

        ran_ok : Ran same members e x → HandedAt (w.applied ++ new w e ∷ []) cuts' (owner e) o.node
        ran_ok r =
            record {
              all =
                  λ up t n b z.
                  let i = whole_goes r.was up in
                  now_said r.was t n (b ∙ r.from.boot_is) (turns same members x r.was e m'.1 (not_crash up))
                  (subst (λ l. BeginsUnsaid m t l) i z)
                  ∙ ap (λ l. said m t l) (sym i);
              past =
                  λ t n b.
                  let l = subst (λ c. c < t.boot) r.from.boot_is b in
                  handed_other t w.applied (new w e) (λ i j. absurd (apart t l j)) ∙ mine_ok.past t n l;
            }
          where
            apart : (t : Transport) → x.rows.boot < t.boot → x.rows.boot ≡ t.boot → ⊥
            apart t l j = omega arith

        -- a node that comes back: nobody can have been told anything of its boot, and no log has it
        began_ok : Began same members e x → HandedAt (w.applied ++ new w e ∷ []) cuts' (owner e) o.node
        began_ok r =
            subst (λ y. HandedAt (w.applied ++ new w e ∷ []) cuts' (owner e) y) (sym r.is)
            (record {
              all = λ up t n b z.
                  handed_other t w.applied (new w e) (λ i j. r.news)
                  ∙ (mine_ok.past t n (up_one t b)
                  ∙ sym (unbegun_unsaid t (under cuts' x.rows.snapshot ++ []) (λ h. unbegun t n b h) z));
              past = λ t n b. handed_other t w.applied (new w e) (λ i j. r.news) ∙ mine_ok.past t n (up_two t b);
            })
          where
            up_one : (t : Transport) → t.boot ≡ suc x.rows.boot → x.rows.boot < t.boot
            up_one t b = omega arith

            up_two : (t : Transport) → suc x.rows.boot < t.boot → x.rows.boot < t.boot
            up_two t b = omega arith

            past_boot : {a b : ℕ} → a ≡ suc b → a ≤ b → ⊥
            past_boot p q = omega arith

            none : (c : ℕ) → c ≡ suc x.rows.boot → (log : List (Entry B)) → log ≡ under w.cuts x.rows.snapshot → Has log (Boot (owner e) c) → ⊥
            none c i log is h =
                past_boot i
                (under_boots same equal members early x.rows.snapshot (owner e) c (subst (λ l. Has l (Boot (owner e) c)) is h))

            unbegun : (t : Transport) → t.node ≡ owner e → t.boot ≡ suc x.rows.boot → Has (under cuts' x.rows.snapshot ++ []) (Boot t.node t.boot) → ⊥
            unbegun t n b h =
                none t.boot b (under cuts' x.rows.snapshot ++ [])
                (append-nil (under cuts' x.rows.snapshot) ∙ under_kept w.cuts (cut_by w e) x.rows.snapshot (w_ok.cuts.found.nodes (owner e)))
                (subst (λ k. Has (under cuts' x.rows.snapshot ++ []) (Boot k t.boot)) n h)

        done_told : TellingOk (done same w e x o)
        done_told =
            record {
              each = λ k. ⊎_elim
                  (λ (i : k ≡ owner e). subst (λ j. HandedAt later cuts' j (node_at (put_node w.nodes (owner e) o.node) j)) (sym i)
                  (subst (λ y. HandedAt later cuts' (owner e) y) (sym (node_same w.nodes (owner e) o.node (within w.nodes e (owner e) m'.1)))
                  (⊎_elim (λ r. ran_ok r) (λ r. began_ok r) (event_cases same members e x m'.1))))
                  (λ i. subst (λ y. HandedAt later cuts' k y) (sym (node_other w.nodes (owner e) o.node k i))
                  (subst (λ l. HandedOk later k (node_at w.nodes k).up (node_at w.nodes k).rows.boot
                  (if (node_at w.nodes k).up then l ++ (node_at w.nodes k).applied else []))
                  (sym (under_kept w.cuts (cut_by w e) (node_at w.nodes k).rows.snapshot (w_ok.cuts.found.nodes k)))
                  (other_ok w e k (node_at w.nodes k).rows.boot (node_at w.nodes k).up (log_of w k) i (ok.each k))))
                  (cases_eq k (owner e));
            }
          where
            later : List (Applied B)
            later = w.applied ++ new w e ∷ []

      next_told : (e : Event B) → TellingOk w → TellingOk (next same members w e)
      next_told e ok = by_next same members (λ z. TellingOk z) w e ok (λ p. done_told e ok p)

    module _ (equal : IsEquality same) (many : 2 ≤ members) (few : members ≤ 7) where
      play_told : (todo early : List (Event B)) → TellingOk (played same members early) → TellingOk (played same members (early ++ todo))
      play_told [] early h = subst (λ l. TellingOk (played same members l)) (sym (append-nil early)) h
      play_told (e ∷ todo) early h =
          subst (λ l. TellingOk (played same members l)) (append_assoc early (e ∷ []) todo)
          (play_told todo (early ++ e ∷ [])
          (subst (λ (z : World B). TellingOk z) (sym (play_on same members early (e ∷ []) (first_world members)))
          (next_told equal many few early e h)))

      first_told : TellingOk (first_world members)
      first_told =
          record {
            each = λ k. record {
              all = λ u t n b z. ap (λ l. said m t l) (sym (bare k u));
              past = λ t n b. refl;
            };
          }
        where
          bare : (k : ℕ) → (node_at (worlds.founded {B = B} members) k).up ≡ true → log_of {B = B} (first_world members) k ≡ []
          bare k u =
              let p = plain_at {B = B} members k in
              whole_is [] (node_at (worlds.founded {B = B} members) k) u ∙ (λ i. under [] (p.snapshot i) ++ p.applied i)

      told : (events : List (Event B)) → TellingOk (played same members events)
      told events = play_told events [] first_told

      pub present_said : (events : List (Event B)) (t : Transport) → IsPresent t (node_at (played same members events).nodes t.node)
          → BeginsUnsaid m t (log_of (played same members events) t.node)
          → handed m t (played same members events) ≡ said m t (log_of (played same members events) t.node)
      present_said events t p z = ((told events).each t.node).all p.0 t refl p.1 z

    -- a boot that is over

    abbrev here' : World B → Event B → NodeState B
    here' w e = node_at w.nodes (owner e)

    abbrev Over : Transport → NodeState B → Type 0
    Over t x = ((x.up ≡ false) × (t.boot ≤ x.rows.boot)) ⊎ (t.boot < x.rows.boot)

    record Stayed (t : Transport) (w v : World B) : Type 0 where
      over : Over t (node_at v.nodes t.node)
      is : handed m t v ≡ handed m t w

    over_done : (t : Transport) (w : World B) (e : Event B) → possible e (here' w e) ≡ true → Over t (node_at w.nodes t.node)
        → Stayed t w (done same w e (here' w e) (outcome_of same members e (here' w e)))
    over_done t w e p h = ⊎_elim mine other (cases_eq t.node (owner e))
      where
        o : Plan B
        o = outcome_of same members e (here' w e)

        other : (t.node ≡ owner e → ⊥) → Stayed t w (done same w e (here' w e) o)
        other d =
            record {
              over = subst (λ x. Over t x) (sym (node_other w.nodes (owner e) o.node t.node d)) h;
              is = handed_other t w.applied (new w e) (λ i j. absurd (d (sym i)));
            }

        put : t.node ≡ owner e → node_at (put_node w.nodes (owner e) o.node) t.node ≡ o.node
        put i =
            ap (λ k. node_at (put_node w.nodes (owner e) o.node) k) i ∙ node_same w.nodes (owner e) o.node (within w.nodes e (owner e) p)

        low : (up : (here' w e).up ≡ true) → Over t (here' w e) → t.boot < (here' w e).rows.boot
        low up c = ⊎_elim (λ (a : ((here' w e).up ≡ false) × (t.boot ≤ (here' w e).rows.boot)). absurd (off (sym a.0 ∙ up))) (λ a. a) c

        apart : t.boot < (here' w e).rows.boot → (here' w e).rows.boot ≡ t.boot → ⊥
        apart l j = omega arith

        next_boot : Over t (here' w e) → t.boot < suc (here' w e).rows.boot
        next_boot c =
            ⊎_elim (λ (a : ((here' w e).up ≡ false) × (t.boot ≤ (here' w e).rows.boot)). let l = a.1 in omega arith) (λ a. omega arith) c

        mine : t.node ≡ owner e → Stayed t w (done same w e (here' w e) o)
        mine i =
            let c : Over t (here' w e) = subst (λ k. Over t (node_at w.nodes k)) i h in
            ⊎_elim
            (λ (r : Ran same members e (here' w e)). record {
              over = subst (λ x. Over t x) (sym (put i)) (inr (subst (λ b. t.boot < b) (sym r.from.boot_is) (low r.was c)));
              is = handed_other t w.applied (new w e) (λ a j. absurd (apart (low r.was c) j));
            })
            (λ (r : Began same members e (here' w e)). record {
              over = subst (λ x. Over t x) (sym (put i ∙ r.is)) (inr (next_boot c));
              is = handed_other t w.applied (new w e) (λ a j. r.news);
            })
            (event_cases same members e (here' w e) p)

    over_next : (t : Transport) (w : World B) (e : Event B) → Over t (node_at w.nodes t.node) → Stayed t w (next same members w e)
    over_next t w e h =
        cond_both (was_sent same e w.sent && possible e (here' w e)) (done same w e (here' w e) (outcome_of same members e (here' w e))) w
        (λ z. Stayed t w z)
        (λ b. over_done t w e (and_parts (was_sent same e w.sent) (possible e (here' w e)) b).1 h)
        (λ b. record { over = h; is = refl })

    over_play : (t : Transport) (events : List (Event B)) (w : World B) → Over t (node_at w.nodes t.node)
        → handed m t (play same members events w) ≡ handed m t w
    over_play t [] w h = refl
    over_play t (e ∷ events) w h = let s = over_next t w e h in over_play t events (next same members w e) s.over ∙ s.is

    -- an event that takes a node down
    module _ (equal : IsEquality same) (many : 2 ≤ members) (few : members ≤ 7) where
      record Fell (t : Transport) (w v : World B) (e : Event B) : Type 0 where
        over : Over t (node_at v.nodes t.node)
        is : handed m t v ≡ said m t (log_after same members w e)

      fall : (t : Transport) (early : List (Event B)) (e : Event B) → IsPresent t (node_at (played same members early).nodes t.node)
          → BeginsUnsaid m t (log_after same members (played same members early) e)
          → (node_at (next same members (played same members early) e).nodes t.node).up ≡ false
          → Fell t (played same members early) (next same members (played same members early) e) e
      fall t early e h z d =
          cond_both (was_sent same e w'.sent && possible e x') (done same w' e x' o') w'
          (λ v. (node_at v.nodes t.node).up ≡ false → Fell t w' v e)
          (λ b. gone (and_parts (was_sent same e w'.sent) (possible e x') b))
          (λ b f. absurd (off (sym f ∙ h.0)))
          d
        where
          w' : World B
          w' = played same members early

          x' : NodeState B
          x' = node_at w'.nodes (owner e)

          o' : Plan B
          o' = outcome_of same members e x'

          gone : May same members w' e → (node_at (put_node w'.nodes (owner e) o'.node) t.node).up ≡ false → Fell t w' (done same w' e x' o') e
          gone p f =
              ⊎_elim mine (λ i. absurd (off (sym f ∙ (ap (λ (x : NodeState B). x.up) (node_other w'.nodes (owner e) o'.node t.node i) ∙ h.0))))
              (cases_eq t.node (owner e))
            where
              mine : t.node ≡ owner e → Fell t w' (done same w' e x' o') e
              mine i =
                  let up : x'.up ≡ true = subst (λ k. (node_at w'.nodes k).up ≡ true) i h.0 in
                  let boot : t.boot ≡ x'.rows.boot = subst (λ k. t.boot ≡ (node_at w'.nodes k).rows.boot) i h.1 in
                  let at = ap (λ k. node_at (put_node w'.nodes (owner e) o'.node) k) i
                  ∙ node_same w'.nodes (owner e) o'.node (within w'.nodes e (owner e) p.1) in
                  let kept = up_from same members x' up e p.1 in
                  record {
                    over = inl (f, no_more (boot ∙ (sym kept.boot_is ∙ sym (ap (λ (x : NodeState B). x.rows.boot) at))));
                    is = fell_said up i boot;
                  }
                where
                  no_more : {a b : ℕ} → a ≡ b → a ≤ b
                  no_more e = omega arith

                  -- a crash applies nothing
                  crashed : x'.up ≡ true → t.node ≡ owner e → t.boot ≡ x'.rows.boot → (n : ℕ) → e ≡ Crash n
                      → handed m t (done same w' e x' o') ≡ said m t (log_after same members w' e)
                  crashed up i boot n c =
                      own_ok w'.applied (owner e) x'.rows.boot (log_before w' e x' o') o'.applied t i boot
                      (((told equal many few early).each (owner e)).all up t i boot
                      (subst (λ l. BeginsUnsaid m t l) log_is (unsaid_front t (log_before w' e x' o') o'.applied z))
                      ∙ ap (λ l. said m t l) (sym log_is))
                    where
                      log_is : log_before w' e x' o' ≡ log_of w' (owner e)
                      log_is = ap (λ (f : Event B). worlds.log_over w' x' (is_some (packet_in f)) o'.change.snapshot) c

                  fell_said : x'.up ≡ true → t.node ≡ owner e → t.boot ≡ x'.rows.boot
                      → handed m t (done same w' e x' o') ≡ said m t (log_after same members w' e)
                  fell_said up i boot =
                      ⊎_elim
                      (λ (c : (n : ℕ) × (e ≡ Crash n)). crashed up i boot c.0 c.1)
                      (λ (c : (n : ℕ) → e ≡ Crash n → ⊥).
                      now_said equal many few early e (told equal many few early) p up t i boot (turns same members x' up e p.1 c) z)
                      (by_crash e)

      pub fallen_said : (early : List (Event B)) (e : Event B) (later : List (Event B)) (t : Transport)
          → IsPresent t (node_at (played same members early).nodes t.node)
          → (node_at (played same members (early ++ e ∷ [])).nodes t.node).up ≡ false
          → BeginsUnsaid m t (log_after same members (played same members early) e)
          → handed m t (played same members ((early ++ e ∷ []) ++ later)) ≡ said m t (log_after same members (played same members early) e)
      fallen_said early e later t h d z =
          let f =
          fall t early e h z
          (subst (λ (z : World B). (node_at z.nodes t.node).up ≡ false) (play_on same members early (e ∷ []) (first_world members)) d)
          in
          ap (λ z. handed m t z)
          (play_on same members (early ++ e ∷ []) later (first_world members)
          ∙ ap (λ z. play same members later z) (play_on same members early (e ∷ []) (first_world members)))
          ∙ (over_play t later (next same members (played same members early) e) f.over ∙ f.is)

two : {a : ℕ} → 1 < a → 2 ≤ a
two l = omega arith

pub handed_is_said : {B S Y : Type 0} (same : B → B → Bool) → IsEquality same → HandedIsSaid B same S Y
handed_is_said same equal m members few events t p z =
    ⊎_elim (λ l. present_said m same members equal (two l) few events t p z)
    (λ l. nothing_handed same members l m t events ∙ ap (λ log. said m t log) (sym (nothing_logged same members l events t.node)))
    (cases_lt 1 members)

pub handed_stays : {B S Y : Type 0} (same : B → B → Bool) → IsEquality same → HandedStays B same S Y
handed_stays {B} same equal m members few early e later t h d z =
    ⊎_elim (λ l. fallen_said m same members equal (two l) few early e later t h d z)
    (λ l. nothing_handed same members l m t ((early ++ e ∷ []) ++ later)
    ∙ ap (λ log. said m t log) (sym (nothing_after same members l early e (may_of early e t h d))))
    (cases_lt 1 members)
  where
    may_of : (early : List (Event B)) (e : Event B) (t : Transport) → IsPresent t (node_at (played same members early).nodes t.node)
        → (node_at (played same members (early ++ e ∷ [])).nodes t.node).up ≡ false → May same members (played same members early) e
    may_of early e t h d = go (was_sent same e w.sent && possible e (node_at w.nodes (owner e))) refl
      where
        w : World B
        w = played same members early

        go : (b : Bool) → (was_sent same e w.sent && possible e (node_at w.nodes (owner e))) ≡ b → May same members w e
        go true i = and_parts (was_sent same e w.sent) (possible e (node_at w.nodes (owner e))) i
        go false i =
            absurd
            (off
            (sym d
            ∙ (ap (λ (z : World B). (node_at z.nodes t.node).up)
            (play_on same members early (e ∷ []) (first_world members)
            ∙ cond-false (was_sent same e w.sent && possible e (node_at w.nodes (owner e)))
            (done same w e (node_at w.nodes (owner e)) (outcome_of same members e (node_at w.nodes (owner e)))) w i)
            ∙ h.0)))
