-- An event that a node plans but for a cut: its log goes on, or it goes on from a snapshot that came in a packet.
use Rattle.std.proofs.Common.{◌≡◌, ◌⊎◌, inl, inr, ⊎_elim, ℕ, Bool, true, false, ◌&&◌, eqb, refl, sym, ap, ◌∙◌, subst, arith, List, [], ◌++◌}
use Rattle.std.proofs.Common.{None}
use Rattle.std.specs.Prelude.{is_some}
use Rattle.std.proofs.lemmas.Bool.{and_from, eq-eqb}
use Rattle.std.proofs.lemmas.List.{append-nil}
use Rattle.paxos_packets.specs.Snapshot.{floor_in}
use Rattle.paxos_packets.specs.Snapshot as taken
use Rattle.paxos_packets.specs.declared.entry.Entry.{Entry}
use Rattle.paxos_packets.specs.declared.rows.Change.{Change}
use Rattle.paxos_node.specs.declared.event.Event.{Event}
use Rattle.paxos_node.specs.declared.event.Event.TheVariants.{Take, Tick, Start, Suspect, Deliver, Cut, Crash, Restart}
use Rattle.paxos_node.specs.Events.{owner, packet_in, possible, on_event, outcome_of}
use Rattle.paxos_node.specs.Plans.{is_planned, plans}
use Rattle.paxos_planning.specs.Node.{NodeState, Plan}
use Rattle.paxos_planning.specs.Plan.{begun}
use Rattle.replica_follower.specs.Following.{Followed}
use Rattle.cluster_world.specs.MemberSnapshots.{its_event, is_carried, may_happen, taken_over, base_of, above_of, log_from, under_from}
use Rattle.cluster_world.specs.Members.{StaysThere}
use Rattle.cluster_world.proofs.Settling.{settle_change}
use Rattle.cluster_world.proofs.Standing.{Keeps, Cuts, Takes, Ran, OnFrom, turns}

off : false ≡ true → ⊥
off e = cc

-- what is carried out is planned, and possible if it may happen

planned_carried : {B : Type 0} (e : Event B) → is_carried e ≡ true → is_planned e ≡ true
planned_carried (Take n t body) c = c
planned_carried (Tick n) c = c
planned_carried (Start n) c = c
planned_carried (Suspect n other) c = c
planned_carried (Deliver p) c = c
planned_carried (Cut n s) c = absurd (off c)
planned_carried (Crash n) c = absurd (off c)
planned_carried (Restart n) c = absurd (off c)

pub possible_carried : {B : Type 0} (e : Event B) (x : NodeState B) → is_carried e ≡ true → may_happen e x ≡ true → possible e x ≡ true
possible_carried (Take n t body) x c m = m
possible_carried (Tick n) x c m = m
possible_carried (Start n) x c m = m
possible_carried (Suspect n other) x c m = m
possible_carried (Deliver p) x c m = m
possible_carried (Cut n s) x c m = absurd (off c)
possible_carried (Crash n) x c m = absurd (off c)
possible_carried (Restart n) x c m = absurd (off c)

-- and its member plans it
pub plans_carried : {B : Type 0} (me : ℕ) (e : Event B) (x : NodeState B) → owner e ≡ me → is_carried e ≡ true → may_happen e x ≡ true
    → plans me e x ≡ true
plans_carried me e x own c m =
    and_from (eqb (owner e) me) (is_planned e && possible e x) (eq-eqb (owner e) me own)
    (and_from (is_planned e) (possible e x) (planned_carried e c) (possible_carried e x c m))

-- an event that is no Cut happens as it is

pub its_carried : {B M S Y : Type 0} (saved : S → List ℕ) (content : M → S) (f : Followed B M Y) (e : Event B) → is_carried e ≡ true
    → its_event saved content f e ≡ e
its_carried saved content f (Take n t body) c = refl
its_carried saved content f (Tick n) c = refl
its_carried saved content f (Start n) c = refl
its_carried saved content f (Suspect n other) c = refl
its_carried saved content f (Deliver p) c = refl
its_carried saved content f (Cut n s) c = absurd (off c)
its_carried saved content f (Crash n) c = absurd (off c)
its_carried saved content f (Restart n) c = absurd (off c)

module _ {B M S Y : Type 0} (saved : S → List ℕ) (content : M → S) (f : Followed B M Y) (e : Event B) (n : ℕ) where
  pub its_crash : e ≡ Crash n → its_event saved content f e ≡ e
  its_crash is = ap (λ d. its_event saved content f d) is ∙ sym is

  pub its_restart : e ≡ Restart n → its_event saved content f e ≡ e
  its_restart is = ap (λ d. its_event saved content f d) is ∙ sym is

module _ {B : Type 0} (e : Event B) (n : ℕ) (x : NodeState B) where
  pub possible_crash : e ≡ Crash n → may_happen e x ≡ true → possible e x ≡ true
  possible_crash is m = ap (λ d. possible d x) is ∙ (sym (ap (λ d. may_happen d x) is) ∙ m)

  pub possible_restart : e ≡ Restart n → may_happen e x ≡ true → possible e x ≡ true
  possible_restart is m = ap (λ d. possible d x) is ∙ (sym (ap (λ d. may_happen d x) is) ∙ m)

no_more : (b : Bool) → taken_over b None ≡ None
no_more true = refl
no_more false = refl

module _ {B : Type 0} (under over applied : List (Entry B)) where
  log_none : (b : Bool) → base_of None under over ++ above_of None applied ≡ log_from b None under over applied
  log_none true = refl
  log_none false = refl

  under_none : (b : Bool) → base_of None under over ≡ under_from b None under over applied
  under_none true = refl
  under_none false = refl

module _ {B : Type 0} (same : B → B → Bool) (members : ℕ) (e : Event B) (x : NodeState B) (up : x.up ≡ true) (carried : is_carried e ≡ true)
    (can : possible e x ≡ true) where
  abbrev u : Plan B
  u = on_event same members e (begun x)

  abbrev o : Plan B
  o = outcome_of same members e x

  committed : o.change.snapshot ≡ u.change.snapshot
  committed = ap (λ (c : Change B). c.snapshot) (settle_change (owner e) u)

  by_turn : Keeps same e x u ⊎ (Cuts e x u ⊎ Takes e x u) → Keeps same e x u ⊎ Takes e x u
  by_turn t =
      ⊎_elim (λ (k : Keeps same e x u). inl k)
      (λ (z : Cuts e x u ⊎ Takes e x u). ⊎_elim
      (λ (c : Cuts e x u). absurd (off (sym (ap (λ (f : Event B). is_carried f) c.event) ∙ carried)))
      (λ (k : Takes e x u). inr k) z) t

  turned : Keeps same e x u ⊎ Takes e x u
  turned = by_turn (turns same members x up e can (λ n is. off (sym (ap (λ (f : Event B). is_carried f) is) ∙ carried))).turn

  pub above_is : u.node.applied ≡ above_of o.change.snapshot x.applied
  above_is =
      ⊎_elim
      (λ (k : Keeps same e x u). k.log ∙ sym (ap (λ s. above_of s x.applied) (committed ∙ k.cut)))
      (λ (k : Takes e x u). k.log ∙ sym (ap (λ s. above_of s x.applied) (committed ∙ k.cut)))
      turned

  pub taken_is : taken_over (is_some (packet_in e)) o.change.snapshot ≡ o.change.snapshot
  taken_is =
      ⊎_elim
      (λ (k : Keeps same e x u). ap (λ s. taken_over (is_some (packet_in e)) s) (committed ∙ k.cut)
      ∙ (no_more (is_some (packet_in e)) ∙ sym (committed ∙ k.cut)))
      (λ (k : Takes e x u). ap (λ (f : Event B). taken_over (is_some (packet_in f)) o.change.snapshot) k.event)
      turned

  pub log_is : (under over : List (Entry B)) → base_of o.change.snapshot under over ++ above_of o.change.snapshot x.applied
      ≡ log_from (is_some (packet_in e)) o.change.snapshot under over x.applied
  log_is under over =
      ⊎_elim
      (λ (k : Keeps same e x u).
      subst (λ s. base_of s under over ++ above_of s x.applied ≡ log_from (is_some (packet_in e)) s under over x.applied)
      (sym (committed ∙ k.cut)) (log_none under over x.applied (is_some (packet_in e))))
      (λ (k : Takes e x u).
      subst (λ (f : Event B). base_of o.change.snapshot under over ++ above_of o.change.snapshot x.applied
      ≡ log_from (is_some (packet_in f)) o.change.snapshot under over x.applied) (sym k.event)
      (subst (λ s. base_of s under over ++ above_of s x.applied ≡ log_from true s under over x.applied) (sym (committed ∙ k.cut))
      (append-nil over)))
      turned

  pub under_is : (under over : List (Entry B)) → base_of o.change.snapshot under over
      ≡ under_from (is_some (packet_in e)) o.change.snapshot under over x.applied
  under_is under over =
      ⊎_elim
      (λ (k : Keeps same e x u).
      subst (λ s. base_of s under over ≡ under_from (is_some (packet_in e)) s under over x.applied)
      (sym (committed ∙ k.cut)) (under_none under over x.applied (is_some (packet_in e))))
      (λ (k : Takes e x u).
      subst (λ (f : Event B). base_of o.change.snapshot under over ≡ under_from (is_some (packet_in f)) o.change.snapshot under over x.applied)
      (sym k.event)
      (subst (λ s. base_of s under over ≡ under_from true s under over x.applied) (sym (committed ∙ k.cut)) refl))
      turned

  -- a node that stays up on the snapshot that it had took none over
  module _ (r : Ran same members e x) where
    on_base : o.node.up ≡ true → o.node.rows.snapshot ≡ u.node.rows.snapshot
    on_base h =
        ⊎_elim (λ (c : OnFrom same members e x). c.base)
        (λ (c : (o.node.up ≡ false) × (o.node.applied ≡ [])). absurd (off (sym c.0 ∙ h))) r.from.case

    pub none_taken : StaysThere x o.node → o.change.snapshot ≡ None
    none_taken h =
        ⊎_elim
        (λ (k : Keeps same e x u). committed ∙ k.cut)
        (λ (k : Takes e x u).
        let is : floor_in x.rows.snapshot ≡ k.snapshot.floor = ap (λ s. floor_in s) (sym h.1 ∙ (on_base h.0.0 ∙ k.base)) in
        let more = k.more in absurd (omega (arith, is, more)))
        turned
