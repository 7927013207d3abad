-- The boots that nodes had, and which Boots and Losts an event makes.
use Rattle.std.proofs.Common.{◌≡◌, ⊎_elim, ℕ, zero, suc, ◌<◌, ◌≤◌, Bool, true, false, not, ◌&&◌, eqb, refl, sym, ap, ◌∙◌, subst, arith}
use Rattle.std.proofs.Common.{List, [], ◌∷◌, ◌++◌, length, Option, Some, None}
use Rattle.std.specs.Prelude.{slice_index_or, nat_lt}
use Rattle.std.proofs.lemmas.Bool.{cond_both, cases_eq, cases_lt, and_parts}
use Rattle.cluster_world.proofs.Lists.{has_nil, has_one, has_cases}
use Rattle.cluster_world.proofs.EveryWorld.{within, node_same, node_other}
use Rattle.cluster_world.proofs.Standing.{Ran, Began, event_cases}
use Rattle.cluster_world.proofs.Taking.{founded_length, log_was_made}
use Rattle.paxos_packets.specs.Rows.{first_rows}
use Rattle.paxos_packets.specs.Members.{IsMember}
use Rattle.cluster_world.specs.Has.{Has}
use Rattle.paxos_packets.specs.declared.entry.Entry.{Entry}
use Rattle.paxos_packets.specs.declared.entry.Entry.TheVariants.{Noop, Boot, Lost}
use Rattle.replica_machine.specs.Roll.{live_in}
use Rattle.paxos_node.specs.declared.event.Event.{Event}
use Rattle.paxos_node.specs.declared.event.Event.TheVariants.{Take, Suspect, Restart}
use Rattle.paxos_planning.specs.Node.{NodeState, Plan}
use Rattle.paxos_node.specs.Applying.{standing_of, started}
use Rattle.paxos_node.specs.Events.{takes, new_item, has_room, is_pending, new_lost_of, new_lost, owner, possible, outcome_of, taken_by}
use Rattle.paxos_node.specs.Events.{suspected_by, made_by}
use Rattle.cluster_world.specs.World.{World, absent, node_at, put_node, founded, first_boots, first_world, was_sent, done, next, play}
use Rattle.cluster_world.specs.World.{played, log_of}
use Rattle.cluster_world.specs.Origins.{BootsWereHad}
use Rattle.paxos_packets.specs.Body.{IsEquality}

-- which Boots and which Losts an event makes

-- a Boot is made by a Restart alone
record MadeBoot {B : Type 0} (e : Event B) (x : NodeState B) (n b : ℕ) : Type 0 where
  node : n ≡ owner e
  was : x.up ≡ false
  boot : b ≡ suc x.rows.boot

-- a Lost is made by a Suspect alone
pub record MadeLost {B : Type 0} (e : Event B) (x : NodeState B) (n b : ℕ) : Type 0 where
  pub by : ℕ
  pub is : e ≡ Suspect by n
  pub live : live_in (standing_of x n) ≡ Some b

abbrev NoBoot : {B : Type 0} → List (Entry B) → Type 0
NoBoot es = (n b : ℕ) → Has es (Boot n b) → ⊥

abbrev NoLost : {B : Type 0} → List (Entry B) → Type 0
NoLost es = (n b : ℕ) → Has es (Lost n b) → ⊥

taken_no_boot : {B : Type 0} (n t : ℕ) (body : B) (x : NodeState B) → NoBoot (taken_by n t body x)
taken_no_boot n t body x =
    cond_both (takes x) (new_item n t body x ∷ []) [] (λ l. NoBoot l) (λ t m b h. differ m b (has_one h)) (λ t m b h. has_nil h)
  where
    differ : (m b : ℕ) → new_item n t body x ≡ Boot m b → ⊥
    differ m b e = cc

taken_no_lost : {B : Type 0} (n t : ℕ) (body : B) (x : NodeState B) → NoLost (taken_by n t body x)
taken_no_lost n t body x =
    cond_both (takes x) (new_item n t body x ∷ []) [] (λ l. NoLost l) (λ t m b h. differ m b (has_one h)) (λ t m b h. has_nil h)
  where
    differ : (m b : ℕ) → new_item n t body x ≡ Lost m b → ⊥
    differ m b e = cc

-- what a suspicion makes
pub record Suspects {B : Type 0} (other : ℕ) (x : NodeState B) (o : Option (Entry B)) : Type 0 where
  pub is : (l : Entry B) → o ≡ Some l → (b : ℕ) × (l ≡ Lost other b) × (live_in (standing_of x other) ≡ Some b)

pub new_lost_suspects : {B : Type 0} (same : B → B → Bool) (me other : ℕ) (x : NodeState B) → Suspects other x (new_lost same me other x)
new_lost_suspects {B} same me other x =
    cond_both (eqb other me) None (new_lost_of same other (live_in (standing_of x other)) x.pending) (λ o. Suspects other x o)
    (λ t. nothing)
    (λ t. of (live_in (standing_of x other)) refl)
  where
    nothing : Suspects other x None
    nothing = record { is = λ l e. absurd (never l e) }
      where
        never : (l : Entry B) → None ≡ Some l → ⊥
        never l e = cc

    of : (o : Option ℕ) → live_in (standing_of x other) ≡ o → Suspects other x (new_lost_of same other o x.pending)
    of None e = nothing
    of (Some b) e =
        cond_both (is_pending same x.pending (Lost other b)) None (Some (Lost other b)) (λ o. Suspects other x o) (λ t. nothing)
        (λ t. record { is = λ l d. (b, sym (inside l d), e) })
      where
        inside : (l : Entry B) → Some (Lost other b) ≡ Some l → Lost other b ≡ l
        inside l d = cc

pub suspected_has : {B : Type 0} (other : ℕ) (x : NodeState B) (o : Option (Entry B)) → Suspects other x o → (e : Entry B)
    → Has (suspected_by o x) e → (b : ℕ) × (e ≡ Lost other b) × (live_in (standing_of x other) ≡ Some b)
suspected_has other x None s e h = absurd (has_nil h)
suspected_has other x (Some l) s e h =
    cond_both (has_room x) (l ∷ []) [] (λ z. Has z e → (b : ℕ) × (e ≡ Lost other b) × (live_in (standing_of x other) ≡ Some b))
    (λ t g. let r = s.is l refl in (r.0, sym (has_one g) ∙ r.1, r.2))
    (λ t g. absurd (has_nil g))
    h

module _ {B : Type 0} (same : B → B → Bool) where
  made_boot : (e : Event B) (x : NodeState B) → possible e x ≡ true → (n b : ℕ) → Has (made_by same e x) (Boot n b) → MadeBoot e x n b
  made_boot (Take m t body) x p n b h = absurd (taken_no_boot m t body x n b h)
  made_boot (Suspect m other) x p n b h =
      absurd (let r = suspected_has other x (new_lost same m other x) (new_lost_suspects same m other x) (Boot n b) h in differ r.0 r.1)
    where
      differ : (c : ℕ) → ◌≡◌ {A = Entry B} (Boot n b) (Lost other c) → ⊥
      differ c e = cc
  made_boot (Restart m) x p n b h =
      record {
        node = sym (names (has_one h));
        was = down x.up (and_parts (not x.up) (nat_lt x.rows.boot Rattle.paxos_packets.specs.Rows.last_boot) p).0;
        boot = sym (boots (has_one h));
      }
    where
      names : ◌≡◌ {A = Entry B} (Boot m (suc x.rows.boot)) (Boot n b) → m ≡ n
      names e = cc

      boots : ◌≡◌ {A = Entry B} (Boot m (suc x.rows.boot)) (Boot n b) → suc x.rows.boot ≡ b
      boots e = cc

      off : false ≡ true → ⊥
      off e = cc

      down : (z : Bool) → not z ≡ true → z ≡ false
      down true e = absurd (off e)
      down false e = refl
  made_boot _ x p n b h = absurd (has_nil h)

  pub made_lost : (e : Event B) (x : NodeState B) (n b : ℕ) → Has (made_by same e x) (Lost n b) → MadeLost e x n b
  made_lost (Take m t body) x n b h = absurd (taken_no_lost m t body x n b h)
  made_lost (Suspect m other) x n b h =
      let r = suspected_has other x (new_lost same m other x) (new_lost_suspects same m other x) (Lost n b) h in
      record {
        by = m;
        is = ap (λ k. Suspect m k) (sym (names r.0 r.1));
        live = subst (λ (z : ℕ × ℕ). live_in (standing_of x z.0) ≡ Some z.1) (λ i. (sym (names r.0 r.1) i, sym (boots r.0 r.1) i)) r.2;
      }
    where
      names : (c : ℕ) → ◌≡◌ {A = Entry B} (Lost n b) (Lost other c) → n ≡ other
      names c e = cc

      boots : (c : ℕ) → ◌≡◌ {A = Entry B} (Lost n b) (Lost other c) → b ≡ c
      boots c e = cc
  made_lost (Restart m) x n b h = absurd (differ (has_one h))
    where
      differ : ◌≡◌ {A = Entry B} (Boot m (suc x.rows.boot)) (Lost n b) → ⊥
      differ e = cc
  made_lost _ x n b h = absurd (has_nil h)

  module _ (members : ℕ) where
    abbrev at' : World B → Event B → NodeState B
    at' w e = node_at w.nodes (owner e)

    abbrev goes : World B → Event B → Plan B
    goes w e = outcome_of same members e (at' w e)

    -- boots

    record Had (w : World B) (n b : ℕ) : Type 0 where
      member : IsMember members n
      from : 1 ≤ b
      to : b ≤ (node_at w.nodes n).rows.boot

    record BootsOk (w : World B) : Type 0 where
      nodes : length w.nodes ≡ members
      had : (n b : ℕ) → Has w.made (Boot n b) → Had w n b

    -- no boot falls
    rises : (w : World B) (e : Event B) → possible e (at' w e) ≡ true → (n : ℕ)
        → (node_at w.nodes n).rows.boot ≤ (node_at (put_node w.nodes (owner e) (goes w e).node) n).rows.boot
    rises w e p n =
        ⊎_elim
        (λ (i : n ≡ owner e). subst (λ k. (node_at w.nodes k).rows.boot ≤
        (node_at (put_node w.nodes (owner e) (goes w e).node) k).rows.boot) (sym i)
        (subst (λ (x : NodeState B). (at' w e).rows.boot ≤ x.rows.boot)
        (sym (node_same w.nodes (owner e) (goes w e).node (within w.nodes e (owner e) p))) mine))
        (λ i. subst (λ (x : NodeState B). (node_at w.nodes n).rows.boot ≤ x.rows.boot)
        (sym (node_other w.nodes (owner e) (goes w e).node n i)) (omega arith))
        (cases_eq n (owner e))
      where
        mine : (at' w e).rows.boot ≤ (goes w e).node.rows.boot
        mine =
            ⊎_elim
            (λ (r : Ran same members e (at' w e)). let q = r.from.boot_is in omega arith)
            (λ (r : Began same members e (at' w e)). subst (λ (x : NodeState B). (at' w e).rows.boot ≤ x.rows.boot) (sym r.is)
            (omega arith))
            (event_cases same members e (at' w e) p)

    done_boots : (w : World B) (e : Event B) → possible e (at' w e) ≡ true → BootsOk w → BootsOk (done same w e (at' w e) (goes w e))
    done_boots w e p ok =
        record {
          nodes = put_length (owner e) ∙ ok.nodes;
          had = λ n b h. ⊎_elim
              (λ a. let z = ok.had n b a in let r = rises w e p n in record { member = z.member; from = z.from; to = le z.to r })
              (λ a. fresh n b (made_boot e (at' w e) p n b a))
              (has_cases w.made (made_by same e (at' w e)) h);
        }
      where
        put_length : (k : ℕ) → length (put_node w.nodes k (goes w e).node) ≡ length w.nodes
        put_length zero = refl
        put_length (suc i) = Rattle.std.proofs.lemmas.List.length-set w.nodes i (goes w e).node

        le : {a b c : ℕ} → a ≤ b → b ≤ c → a ≤ c
        le a b = omega arith

        off : false ≡ true → ⊥
        off z = cc

        fresh : (n b : ℕ) → MadeBoot e (at' w e) n b → Had (done same w e (at' w e) (goes w e)) n b
        fresh n b m =
            let inside = within w.nodes e (owner e) p in
            record {
              member =
                  subst (λ k. IsMember members k) (sym (m.node ∙ inside.is))
                  (low inside.i, high inside.i (subst (λ l. inside.i < l) ok.nodes inside.low));
              from = subst (λ c. 1 ≤ c) (sym m.boot) (low (at' w e).rows.boot);
              to =
                  subst (λ (z : ℕ × ℕ). z.1 ≤ (node_at (put_node w.nodes (owner e) (goes w e).node) z.0).rows.boot)
                  (λ i. (sym m.node i, sym m.boot i))
                  (subst (λ (x : NodeState B). suc (at' w e).rows.boot ≤ x.rows.boot)
                  (sym (node_same w.nodes (owner e) (goes w e).node inside))
                  (⊎_elim
                  (λ (r : Ran same members e (at' w e)). absurd (off (sym m.was ∙ r.was)))
                  (λ (r : Began same members e (at' w e)). subst (λ (x : NodeState B). suc (at' w e).rows.boot ≤ x.rows.boot) (sym r.is)
                  (omega arith))
                  (event_cases same members e (at' w e) p)));
            }
          where
            low : (i : ℕ) → 1 ≤ suc i
            low i = omega arith

            high : (i : ℕ) → i < members → suc i ≤ members
            high i l = omega arith

    next_boots : (w : World B) (e : Event B) → BootsOk w → BootsOk (next same members w e)
    next_boots w e ok =
        cond_both (was_sent same e w.sent && possible e (at' w e)) (done same w e (at' w e) (goes w e)) w (λ z. BootsOk z)
        (λ t. done_boots w e (and_parts (was_sent same e w.sent) (possible e (at' w e)) t).1 ok)
        (λ t. ok)

    play_boots : (events : List (Event B)) (w : World B) → BootsOk w → BootsOk (play same members events w)
    play_boots [] w ok = ok
    play_boots (e ∷ events) w ok = play_boots events (next same members w e) (next_boots w e ok)

    -- the first nodes are in boot 1

    push_low : (xs : List (NodeState B)) (y : NodeState B) (i : ℕ) → i < length xs
        → slice_index_or (xs ++ y ∷ []) i absent ≡ slice_index_or xs i absent
    push_low [] y i l = absurd (omega arith)
    push_low (x ∷ xs) y zero l = refl
    push_low (x ∷ xs) y (suc i) l = push_low xs y i (omega arith)

    push_last : (xs : List (NodeState B)) (y : NodeState B) (i : ℕ) → i ≡ length xs → slice_index_or (xs ++ y ∷ []) i absent ≡ y
    push_last [] y zero l = refl
    push_last [] y (suc i) l = absurd (omega arith)
    push_last (x ∷ xs) y zero l = absurd (omega arith)
    push_last (x ∷ xs) y (suc i) l = push_last xs y i (omega arith)

    founded_boot : (n i : ℕ) → i < n → (slice_index_or (founded {B = B} n) i absent).rows.boot ≡ 1
    founded_boot zero i l = absurd (omega arith)
    founded_boot (suc n) i l =
        ⊎_elim
        (λ (h : i < n). ap (λ (x : NodeState B). x.rows.boot)
        (push_low (founded n) (started (suc n) first_rows) i (subst (λ k. i < k) (sym (founded_length same members n)) h))
        ∙ founded_boot n i h)
        (λ (h : n ≤ i). ap (λ (x : NodeState B). x.rows.boot)
        (push_last (founded n) (started (suc n) first_rows) i (last i n l h ∙ sym (founded_length same members n))))
        (cases_lt i n)
      where
        last : (j m : ℕ) → j < suc m → m ≤ j → j ≡ m
        last j m a b = omega arith

    first_had : (k : ℕ) → k ≤ members → (n b : ℕ) → Has (first_boots {B = B} k) (Boot n b) → Had (first_world members) n b
    first_had zero l n b h = absurd (has_nil h)
    first_had (suc k) l n b h =
        ⊎_elim (λ a. first_had k (omega arith) n b a) (λ a. mine (names (has_one a)) (boots (has_one a)))
        (has_cases (first_boots k) (Boot (suc k) 1 ∷ []) h)
      where
        names : ◌≡◌ {A = Entry B} (Boot (suc k) 1) (Boot n b) → suc k ≡ n
        names e = cc

        boots : ◌≡◌ {A = Entry B} (Boot (suc k) 1) (Boot n b) → 1 ≡ b
        boots e = cc

        mine : suc k ≡ n → 1 ≡ b → Had (first_world members) n b
        mine i j =
            record {
              member = subst (λ m. IsMember members m) i (low, l);
              from = subst (λ c. 1 ≤ c) j (omega arith);
              to =
                  subst (λ (z : ℕ × ℕ). z.1 ≤ (node_at {B = B} (founded members) z.0).rows.boot) (λ q. (i q, j q))
                  (at_most (founded_boot members k (omega arith)));
            }
          where
            low : 1 ≤ suc k
            low = omega arith

            at_most : {c : ℕ} → c ≡ 1 → 1 ≤ c
            at_most e = omega arith

    boots_ok : (events : List (Event B)) → BootsOk (played same members events)
    boots_ok events =
        play_boots events (first_world members)
        (record { nodes = founded_length same members members; had = λ n b h. first_had members (omega arith) n b h })

    pub boot_made : (events : List (Event B)) (n b : ℕ) → Has (played same members events).made (Boot n b)
        → b ≤ (node_at (played same members events).nodes n).rows.boot
    boot_made events n b h = ((boots_ok events).had n b h).to

    pub boot_was_had : IsEquality same → (events : List (Event B)) (k n b : ℕ) → Has (log_of (played same members events) k) (Boot n b)
        → IsMember members n × (1 ≤ b) × (b ≤ (node_at (played same members events).nodes n).rows.boot)
    boot_was_had equal events k n b h =
        ⊎_elim (λ e. absurd (differ e)) (λ a. let z = (boots_ok events).had n b a in (z.member, z.from, z.to))
        (log_was_made same members equal events k (Boot n b) h)
      where
        differ : ◌≡◌ {A = Entry B} (Boot n b) Noop → ⊥
        differ e = cc

    pub first_no_lost : (k n b : ℕ) → Has (first_boots {B = B} k) (Lost n b) → ⊥
    first_no_lost zero n b h = has_nil h
    first_no_lost (suc k) n b h =
        ⊎_elim (λ a. first_no_lost k n b a) (λ a. differ (has_one a)) (has_cases (first_boots k) (Boot (suc k) 1 ∷ []) h)
      where
        differ : ◌≡◌ {A = Entry B} (Boot (suc k) 1) (Lost n b) → ⊥
        differ e = cc

pub boots_were_had : {B : Type 0} (same : B → B → Bool) → IsEquality same → BootsWereHad B same
boots_were_had same equal members events k n b h = boot_was_had same members equal events k n b h
