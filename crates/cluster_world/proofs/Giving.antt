-- The entries of each log are ones: of nodes 1 to 7, with boots and Items from 1 on, and transports from 1 on.
use Rattle.std.proofs.Common.{◌≡◌, ⊎_elim, ℕ, zero, suc, ◌<◌, ◌≤◌, Bool, true, false, not, ◌&&◌, leb, refl, sym, ap, subst, ◌∙◌, arith}
use Rattle.std.proofs.Common.{List, [], ◌∷◌, ◌++◌, append_assoc, append-nil}
use Rattle.std.specs.Prelude.{All, nat_lt}
use Rattle.std.proofs.lemmas.Bool.{cond_both, cases_eq, and_parts, and_from, le-leb, ltb-true}
use Rattle.std.proofs.lemmas.List.Elements.{All-nil, All-cons}
use Rattle.cluster_world.proofs.Heads.{stands}
use Rattle.cluster_world.proofs.Booting.{new_lost_suspects, suspected_has}
use Rattle.cluster_world.proofs.EveryWorld.{within, node_same, node_other, play_on}
use Rattle.cluster_world.proofs.Standing.{Ran, Began, event_cases}
use Rattle.cluster_world.proofs.Lists.{has_nil, has_one, has_cases}
use Rattle.cluster_world.proofs.Taking.{by_next, in_every, founded_each, nodes_length, log_was_made}
use Rattle.cluster_world.specs.Has.{Has, here, there}
use Rattle.paxos_packets.specs.Body.{IsEquality}
use Rattle.paxos_packets.specs.Rows.{last_boot}
use Rattle.paxos_packets.specs.declared.entry.Entry.{Entry}
use Rattle.paxos_packets.specs.declared.entry.Entry.TheVariants.{Boot}
use Rattle.paxos_node.specs.Applying.{standing_of}
use Rattle.paxos_node.specs.Snapshots.{may_cut}
use Rattle.paxos_node.specs.Events.{last_number, has_room, takes, new_item, new_lost, owner, possible, outcome_of, made_by}
use Rattle.paxos_node.specs.declared.event.Event.{Event}
use Rattle.paxos_node.specs.declared.event.Event.TheVariants.{Take, Tick, Start, Suspect, Deliver, Cut, Crash, Restart}
use Rattle.paxos_planning.specs.Node.{NodeState, Plan}
use Rattle.replica_machine.proofs.Snapshots.{live_given}
use Rattle.replica_machine.specs.Roll.{standing, live_in}
use Rattle.replica_machine.specs.Given.{is_node, is_number, is_given_entry, AreGiven}
use Rattle.cluster_world.specs.Origins.{LogsAreGiven}
use Rattle.cluster_world.specs.World.{World, node_at, put_node, first_boots, first_world, next, played, log_of}

-- what holds of each that is in a list holds of all of it
pub each_all : {A : Type 0} (P : A → Type 0) (xs : List A) → ((x : A) → Has xs x → P x) → All P xs
each_all P [] f = All-nil P
each_all P (x ∷ xs) f = All-cons P x xs (f x here) (each_all P xs (λ y h. f y (there h)))

-- numbers that are ones

is_one : (k : ℕ) → 1 ≤ k → k ≤ 281474976710655 → is_number k ≡ true
is_one k l h = and_from (leb 1 k) (leb k 281474976710655) (le-leb 1 k l) (le-leb k 281474976710655 h)

number_up : (k : ℕ) → k < 281474976710655 → is_number (suc k) ≡ true
number_up k l = is_one (suc k) (low k) (high 281474976710655 l)
  where
    low : (a : ℕ) → 1 ≤ suc a
    low a = omega arith

    high : (end : ℕ) → k < end → suc k ≤ end
    high end h = omega arith

boot_up : (k : ℕ) → k < last_boot → is_number (suc k) ≡ true
unfolding last_boot
boot_up k l = number_up k l

count_up : (k : ℕ) → k < last_number → is_number (suc k) ≡ true
unfolding last_number
count_up k l = number_up k l

last_is : is_number last_boot ≡ true
unfolding last_boot
last_is = refl

node_one : (members i k : ℕ) → members ≤ 7 → i < members → k ≡ suc i → is_node k ≡ true
node_one members i k few l e = and_from (leb 1 k) (leb k 7) (le-leb 1 k (omega arith)) (le-leb k 7 (omega arith))

positive : (t : ℕ) → nat_lt 0 t ≡ true → leb 1 t ≡ true
positive t h = le-leb 1 t (go (ltb-true 0 t h))
  where
    go : 0 < t → 1 ≤ t
    go l = omega arith

abbrev pub IsOne : {B : Type 0} → Entry B → Type 0
IsOne e = is_given_entry e ≡ true

module _ {B : Type 0} (same : B → B → Bool) where
  -- what an event makes, at a node whose number, boot and log are ones
  makes_ones : (e : Event B) (x : NodeState B) (log : List (Entry B)) → possible e x ≡ true → is_node (owner e) ≡ true
      → is_number x.rows.boot ≡ true → AreGiven log → (x.up ≡ true → (k : ℕ) → standing_of x k ≡ standing k log)
      → (y : Entry B) → Has (made_by same e x) y → IsOne y
  makes_ones (Take n t body) x log p node boot given stood y h =
      cond_both (takes x) (new_item n t body x ∷ []) [] (λ (l : List (Entry B)). Has l y → IsOne y)
      (λ k g. subst (λ (z : Entry B). IsOne z) (has_one g)
      (and_from (is_node n && (is_number x.rows.boot && leb 1 t)) (is_number (suc x.taken))
      (and_from (is_node n) (is_number x.rows.boot && leb 1 t) node
      (and_from (is_number x.rows.boot) (leb 1 t) boot (positive t (and_parts x.up (nat_lt 0 t) p).1)))
      (count_up x.taken (ltb-true x.taken last_number (and_parts (has_room x) (nat_lt x.taken last_number) k).1))))
      (λ k g. absurd (has_nil g))
      h
  makes_ones (Suspect m other) x log p node boot given stood y h =
      let r = suspected_has other x (new_lost same m other x) (new_lost_suspects same m other x) y h in
      subst (λ (z : Entry B). IsOne z) (sym r.1)
      (live_given other log r.0 given (ap (λ s. live_in s) (sym (stood p other)) ∙ r.2))
  makes_ones (Restart m) x log p node boot given stood y h =
      subst (λ (z : Entry B). IsOne z) (has_one h)
      (and_from (is_node m) (is_number (suc x.rows.boot)) node
      (boot_up x.rows.boot (ltb-true x.rows.boot last_boot (and_parts (not x.up) (nat_lt x.rows.boot last_boot) p).1)))
  makes_ones _ x log p node boot given stood y h = absurd (has_nil h)

  module _ (members : ℕ) where
    off : false ≡ true → ⊥
    off e = cc

    -- a node's boot is one
    ran_boot : (e : Event B) (x : NodeState B) → x.up ≡ true → possible e x ≡ true → is_number x.rows.boot ≡ true
        → is_number (outcome_of same members e x).node.rows.boot ≡ true
    ran_boot e x up p h =
        ⊎_elim
        (λ (r : Ran same members e x). subst (λ b. is_number b ≡ true) (sym r.from.boot_is) h)
        (λ (r : Began same members e x). absurd (off (sym r.was ∙ up)))
        (event_cases same members e x p)

    boot_on : (e : Event B) (x : NodeState B) → possible e x ≡ true → is_number x.rows.boot ≡ true
        → is_number (outcome_of same members e x).node.rows.boot ≡ true
    boot_on (Take n t body) x p h = ran_boot (Take n t body) x (and_parts x.up (nat_lt 0 t) p).0 p h
    boot_on (Tick n) x p h = ran_boot (Tick n) x p p h
    boot_on (Start n) x p h = ran_boot (Start n) x p p h
    boot_on (Suspect n other) x p h = ran_boot (Suspect n other) x p p h
    boot_on (Deliver q) x p h = ran_boot (Deliver q) x p p h
    boot_on (Cut n o) x p h = ran_boot (Cut n o) x (and_parts x.up (may_cut o x) p).0 p h
    boot_on (Crash n) x p h = ran_boot (Crash n) x p p h
    boot_on (Restart n) x p h =
        boot_up x.rows.boot (ltb-true x.rows.boot last_boot (and_parts (not x.up) (nat_lt x.rows.boot last_boot) p).1)

    abbrev BootsAreOnes : World B → Type 0
    BootsAreOnes w = (k : ℕ) → is_number (node_at w.nodes k).rows.boot ≡ true

    next_boots : (w : World B) (e : Event B) → BootsAreOnes w → BootsAreOnes (next same members w e)
    next_boots w e all =
        by_next same members (λ z. BootsAreOnes z) w e all
        (λ m k. ⊎_elim
        (λ (i : k ≡ owner e). subst (λ j. is_number (node_at (put_node w.nodes (owner e) o.node) j).rows.boot ≡ true) (sym i)
        (subst (λ (x : NodeState B). is_number x.rows.boot ≡ true) (sym (node_same w.nodes (owner e) o.node (within w.nodes e (owner e) m.1)))
        (boot_on e (node_at w.nodes (owner e)) m.1 (all (owner e)))))
        (λ i. subst (λ (x : NodeState B). is_number x.rows.boot ≡ true) (sym (node_other w.nodes (owner e) o.node k i)) (all k))
        (cases_eq k (owner e)))
      where
        o : Plan B
        o = outcome_of same members e (node_at w.nodes (owner e))

    boots_are_ones : (events : List (Event B)) → BootsAreOnes (played same members events)
    boots_are_ones events =
        in_every same members (λ w. BootsAreOnes w) next_boots events (first_world members)
        (λ k. founded_each (λ i (x : NodeState B). is_number x.rows.boot ≡ true) (λ i. refl) (λ i. last_is) members k)

    module _ (equal : IsEquality same) (few : members ≤ 7) where
      abbrev pub MadeOnes : World B → Type 0
      MadeOnes w = (y : Entry B) → Has w.made y → IsOne y

      log_ones : (events : List (Event B)) → MadeOnes (played same members events) → (k : ℕ) → AreGiven (log_of (played same members events) k)
      log_ones events all k =
          each_all (λ (e : Entry B). IsOne e) (log_of (played same members events) k)
          (λ e h. ⊎_elim (λ n. subst (λ (z : Entry B). IsOne z) (sym n) refl) (λ a. all e a) (log_was_made same members equal events k e h))

      made_next : (early : List (Event B)) (e : Event B) → MadeOnes (played same members early) → MadeOnes (played same members (early ++ e ∷ []))
      made_next early e all =
          subst (λ (z : World B). MadeOnes z) (sym (play_on same members early (e ∷ []) (first_world members)))
          (by_next same members (λ z. MadeOnes z) w e all
          (λ m y i. ⊎_elim (λ a. all y a)
          (λ a. let at = within w.nodes e (owner e) m.1 in
          makes_ones e (node_at w.nodes (owner e)) (log_of w (owner e)) m.1
          (node_one members at.i (owner e) few (subst (λ l. at.i < l) (nodes_length same members early) at.low) at.is)
          (boots_are_ones early (owner e)) (log_ones early all (owner e)) (λ u k. stands same equal members few early (owner e) u k) y a)
          (has_cases w.made (made_by same e (node_at w.nodes (owner e))) i)))
        where
          w : World B
          w = played same members early

      made_play : (todo early : List (Event B)) → MadeOnes (played same members early) → MadeOnes (played same members (early ++ todo))
      made_play [] early all = subst (λ l. MadeOnes (played same members l)) (sym (append-nil early)) all
      made_play (e ∷ todo) early all =
          subst (λ l. MadeOnes (played same members l)) (append_assoc early (e ∷ []) todo)
          (made_play todo (early ++ e ∷ []) (made_next early e all))

      first_ones : (k : ℕ) → k ≤ members → (y : Entry B) → Has (first_boots k) y → IsOne y
      first_ones zero l y h = absurd (has_nil h)
      first_ones (suc k) l y h =
          ⊎_elim (λ a. first_ones k (less l) y a)
          (λ a. subst (λ (z : Entry B). IsOne z) (has_one a)
          (and_from (is_node (suc k)) (is_number 1) (node_one members k (suc k) few (in_range l) refl) refl))
          (has_cases (first_boots k) (Boot (suc k) 1 ∷ []) h)
        where
          less : suc k ≤ members → k ≤ members
          less g = omega arith

          in_range : suc k ≤ members → k < members
          in_range g = omega arith

      pub made_are_ones : (events : List (Event B)) → MadeOnes (played same members events)
      made_are_ones events = made_play events [] (λ y h. first_ones members (itself members) y h)
        where
          itself : (a : ℕ) → a ≤ a
          itself a = omega arith

      pub log_is_given : (events : List (Event B)) (k : ℕ) → AreGiven (log_of (played same members events) k)
      log_is_given events k = log_ones events (made_are_ones events) k

pub logs_are_given : {B : Type 0} (same : B → B → Bool) → IsEquality same → LogsAreGiven B same
logs_are_given same equal members few events node = log_is_given same members equal few events node
