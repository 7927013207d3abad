-- What comes later at a node: its boot, whether it is up, and on which snapshot it rests.
use Rattle.std.proofs.Common.{◌≡◌, ◌⊎◌, inl, inr, ⊎_elim, ℕ, ◌+◌, ◌<◌, Bool, true, ◌&&◌, refl, sym, ap, ◌∙◌, subst, arith, length}
use Rattle.std.proofs.Common.{Option, Some, None}
use Rattle.std.specs.Prelude.{nat_lt, ◌==◌}
use Rattle.std.proofs.lemmas.Bool.{and_parts, eqb-true, ltb-true}
use Rattle.cluster_world.proofs.Settling.{settle_rows, settle_change}
use Rattle.cluster_world.proofs.Standing.{Keeps, Cuts, Takes, Ran, Began, turns, event_cases}
use Rattle.cluster_world.specs.Members.{IsLater, RestsAbove}
use Rattle.paxos_packets.specs.Snapshot as taken
use Rattle.paxos_packets.specs.Snapshot.{floor_in}
use Rattle.paxos_packets.specs.declared.rows.Change.{Change}
use Rattle.paxos_packets.specs.declared.rows.Rows.{Rows}
use Rattle.paxos_node.specs.declared.event.Event.{Event}
use Rattle.paxos_node.specs.declared.event.Event.TheVariants.{Take, Tick, Start, Suspect, Deliver, Cut, Crash, Restart}
use Rattle.paxos_node.specs.Events.{owner, possible, on_event, outcome_of}
use Rattle.paxos_node.specs.Snapshots.{is_head_of, may_cut}
use Rattle.paxos_planning.specs.Node.{NodeState, Plan, log_length}
use Rattle.paxos_planning.specs.Plan.{begun}
use Rattle.replica_machine.specs.Snapshot.{head_at}

-- a node rests on the snapshot that it had, and commits none
abbrev pub StillRests : {B : Type 0} → NodeState B → Plan B → Type 0
StillRests x u = (u.node.rows.snapshot ≡ x.rows.snapshot) × (u.change.snapshot ≡ None)

module _ {B : Type 0} (same : B → B → Bool) (members : ℕ) (x : NodeState B) where
  abbrev u : Event B → Plan B
  u e = on_event same members e (begun x)

  abbrev o : Event B → Plan B
  o e = outcome_of same members e x

  planned : (e : Event B) → x.up ≡ true → possible e x ≡ true → ((n : ℕ) → e ≡ Crash n → ⊥)
      → StillRests x (u e) ⊎ (Cuts e x (u e) ⊎ Takes e x (u e))
  planned e up p d =
      ⊎_elim (λ (k : Keeps same e x (u e)). inl (k.base, k.cut)) (λ (z : Cuts e x (u e) ⊎ Takes e x (u e)). inr z)
      (turns same members x up e p d).turn

  -- before what was learned is applied
  pub rests : (e : Event B) → possible e x ≡ true → StillRests x (u e) ⊎ (Cuts e x (u e) ⊎ Takes e x (u e))
  rests (Take n t body) p = planned (Take n t body) (and_parts x.up (nat_lt 0 t) p).0 p (λ m i. cc)
  rests (Tick n) p = planned (Tick n) p p (λ m i. cc)
  rests (Start n) p = planned (Start n) p p (λ m i. cc)
  rests (Suspect n other) p = planned (Suspect n other) p p (λ m i. cc)
  rests (Deliver q) p = planned (Deliver q) p p (λ m i. cc)
  rests (Cut n s) p = planned (Cut n s) (and_parts x.up (may_cut s x) p).0 p (λ m i. cc)
  rests (Crash n) p = inl (refl, refl)
  rests (Restart n) p = inl (refl, refl)

  -- and after that
  pub base_is : (e : Event B) → (o e).node.rows.snapshot ≡ (u e).node.rows.snapshot
  base_is e = ap (λ (r : Rows B). r.snapshot) (settle_rows (owner e) (u e))

  pub committed : (e : Event B) → (o e).change.snapshot ≡ (u e).change.snapshot
  committed e = ap (λ (c : Change B). c.snapshot) (settle_change (owner e) (u e))

  cut_above : (s : taken.Snapshot) → may_cut (Some s) x ≡ true → floor_in x.rows.snapshot < s.floor
  cut_above s may =
      let tests = and_parts (nat_lt 0 (length x.applied)) ((s.floor == log_length x) && is_head_of x (head_at s.octets)) may in
      rises (floor_in x.rows.snapshot) (length x.applied) (ltb-true 0 (length x.applied) tests.0)
      (eqb-true s.floor (log_length x) (and_parts (s.floor == log_length x) (is_head_of x (head_at s.octets)) tests.1).0)
    where
      rises : (a b : ℕ) {c : ℕ} → 0 < b → c ≡ a + b → a < c
      rises a b l e = omega arith

  take_above : (s : taken.Snapshot) → log_length x < s.floor → floor_in x.rows.snapshot < s.floor
  take_above s more = rises (floor_in x.rows.snapshot) (length x.applied) more
    where
      rises : (a b : ℕ) {c : ℕ} → a + b < c → a < c
      rises a b l = omega arith

  pub rests_above : (e : Event B) → possible e x ≡ true → RestsAbove x (o e).node
  rests_above e p =
      ⊎_elim
      (λ (k : StillRests x (u e)). inl (base_is e ∙ k.0))
      (λ (z : Cuts e x (u e) ⊎ Takes e x (u e)). ⊎_elim
      (λ (c : Cuts e x (u e)). inr (subst (λ s. floor_in x.rows.snapshot < floor_in s) (sym (base_is e ∙ c.base)) (cut_above c.snapshot c.may)))
      (λ (t : Takes e x (u e)). inr (subst (λ s. floor_in x.rows.snapshot < floor_in s) (sym (base_is e ∙ t.base)) (take_above t.snapshot t.more)))
      z)
      (rests e p)

pub later_same : {B : Type 0} (x : NodeState B) → IsLater x x
later_same x = record { boots = omega arith; up = λ h. h.0; rests = inl refl }

above_then : {B : Type 0} (x y z : NodeState B) → RestsAbove x y → RestsAbove y z → RestsAbove x z
above_then x y z a b =
    ⊎_elim
    (λ (i : y.rows.snapshot ≡ x.rows.snapshot). subst (λ (s : Option taken.Snapshot). (z.rows.snapshot ≡ s) ⊎ (floor_in s < floor_in z.rows.snapshot)) i b)
    (λ (l : floor_in x.rows.snapshot < floor_in y.rows.snapshot). ⊎_elim
    (λ (j : z.rows.snapshot ≡ y.rows.snapshot). inr (subst (λ (s : Option taken.Snapshot). floor_in x.rows.snapshot < floor_in s) (sym j) l))
    (λ (k : floor_in y.rows.snapshot < floor_in z.rows.snapshot). inr (omega (arith, l, k))) b)
    a

pub later_then : {B : Type 0} (x y z : NodeState B) → IsLater x y → IsLater y z → IsLater x z
later_then x y z a b =
    record {
      boots = let l = a.boots in let k = b.boots in omega (arith, l, k);
      up = λ h. let l = a.boots in let k = b.boots in let s = h.1 in
          let there : z.rows.boot ≡ y.rows.boot = omega (arith, l, k, s) in
          let here : y.rows.boot ≡ x.rows.boot = omega (arith, l, k, s) in
          a.up (b.up (h.0, there), here);
      rests = above_then x y z a.rests b.rests;
    }

-- a node that rests on one snapshot at two moments rested on it between them
pub between : {B : Type 0} (x y z : NodeState B) → RestsAbove x y → RestsAbove y z → z.rows.snapshot ≡ x.rows.snapshot
    → y.rows.snapshot ≡ x.rows.snapshot
between x y z a b is =
    ⊎_elim (λ (i : y.rows.snapshot ≡ x.rows.snapshot). i)
    (λ (l : floor_in x.rows.snapshot < floor_in y.rows.snapshot). ⊎_elim
    (λ (j : z.rows.snapshot ≡ y.rows.snapshot). sym j ∙ is)
    (λ (k : floor_in y.rows.snapshot < floor_in z.rows.snapshot).
    let level = ap (λ s. floor_in s) is in absurd (omega (arith, l, k, level))) b)
    a

-- a node after an event
pub later_event : {B : Type 0} (same : B → B → Bool) (members : ℕ) (e : Event B) (x : NodeState B) → possible e x ≡ true
    → IsLater x (outcome_of same members e x).node
later_event {B} same members e x p =
    ⊎_elim
    (λ (c : Ran same members e x).
    record { boots = (let s = c.from.boot_is in omega (arith, s)); up = λ h. c.was; rests = rests_above same members x e p })
    (λ (c : Began same members e x).
    subst (λ (y : NodeState B). IsLater x y) (sym c.is)
    (record { boots = omega arith; up = λ h. (let s = h.1 in absurd (omega (arith, s))); rests = inl refl }))
    (event_cases same members e x p)
