-- A cut that is planned commits its snapshot, and no other plan of a cut commits one.
use Rattle.std.proofs.Common.{◌≡◌, ℕ, suc, Bool, true, false, ◌&&◌, refl, ap, ◌∙◌, List, [], ◌∷◌, Option, Some, None}
use Rattle.std.specs.Prelude.{is_some}
use Rattle.std.proofs.lemmas.Bool.{cond_both, eq-eqb, false≢true}
use Rattle.paxos_packets.specs.Snapshot.{Snapshot}
use Rattle.paxos_packets.specs.declared.entry.Entry.{Entry}
use Rattle.paxos_packets.specs.declared.rows.Change.{Change}
use Rattle.paxos_learner.specs.Learner.{run_from}
use Rattle.paxos_node.specs.Adopting.{Planned}
use Rattle.paxos_node.specs.Applying.{note, ends, go_down, apply_all, settle}
use Rattle.paxos_node.specs.Events.{on_event}
use Rattle.paxos_node.specs.Plans.{plans, unchanged}
use Rattle.paxos_node.specs.Snapshots.{may_cut}
use Rattle.paxos_node.specs.declared.event.Event.TheVariants.{Cut}
use Rattle.paxos_node.specs.declared.outcome.Outcome.{Outcome}
use Rattle.paxos_planning.specs.Node.{NodeState, Plan, log_length}
use Rattle.paxos_planning.specs.Plan.{begun}

-- what is applied at an event's end commits nothing

applied_change : {B : Type 0} (me : ℕ) (es : List (Entry B)) (t : Plan B) → (apply_all me es t).change ≡ t.change
applied_change me [] t = refl
applied_change me (e ∷ es) t =
    cond_both (ends me t.node e) (go_down (note e t)) (apply_all me es (note e t)) (λ u. u.change ≡ t.change) (λ _. refl)
    (λ _. applied_change me es (note e t))

pub settled_change : {B : Type 0} (me : ℕ) (t : Plan B) → (settle me t).change ≡ t.change
settled_change me t = applied_change me (run_from (suc (log_length t.node)) t.node.learner.learned) t

module _ {B : Type 0} (same : B → B → Bool) (me members log : ℕ) (x : NodeState B) (o : Outcome B) (up : x.up ≡ true) where
  cuts : (s : Option Snapshot) → plans me (Cut me s) x ≡ may_cut s x
  cuts s = ap (λ b. b && (x.up && may_cut s x)) (eq-eqb me me refl) ∙ ap (λ b. b && may_cut s x) up

  commits : (s : Option Snapshot) → may_cut s x ≡ true → Planned same members (Cut me s) x o → o.change.snapshot ≡ s
  commits None may planned = absurd (false≢true may)
  commits (Some s) may planned =
      ap (λ (c : Change B). c.snapshot) (planned.change ∙ settled_change me (on_event same members (Cut me (Some s)) (begun x)))

  cuts_some : (s : Option Snapshot) → may_cut s x ≡ true → is_some s ≡ true
  cuts_some None may = absurd (false≢true may)
  cuts_some (Some s) may = refl

  module _ (s : Option Snapshot) (planned : plans me (Cut me s) x ≡ true → Planned same members (Cut me s) x o) where
    pub cuts_so : (plans me (Cut me s) x ≡ false → o ≡ unchanged log) → is_some o.change.snapshot ≡ may_cut s x
    cuts_so nothing = go (may_cut s x) refl
      where
        go : (b : Bool) → may_cut s x ≡ b → is_some o.change.snapshot ≡ b
        go true may = ap is_some (commits s may (planned (cuts s ∙ may))) ∙ cuts_some s may
        go false may = ap (λ (p : Outcome B). is_some p.change.snapshot) (nothing (cuts s ∙ may))

    pub cut_planned : may_cut s x ≡ true → Planned same members (Cut me s) x o
    cut_planned may = planned (cuts s ∙ may)

    pub cut_commits : may_cut s x ≡ true → o.change.snapshot ≡ s
    cut_commits may = commits s may (planned (cuts s ∙ may))
