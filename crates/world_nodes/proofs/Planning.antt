-- What one node does in an event, stated by what it adopts.
use Rattle.std.proofs.Common.{◌≡◌, ℕ, suc, Bool, true, false, not, ◌&&◌, eqb, refl, sym, ap, ◌∙◌, subst, List, [], ◌∷◌, ◌++◌, Option, Some, None}
use Rattle.std.specs.Prelude.{is_some, nat_lt}
use Rattle.std.proofs.lemmas.Bool.{cond_both, cond-false, and_parts, eq-eqb}
use Rattle.paxos_packets.specs.Snapshot.{Snapshot}
use Rattle.paxos_packets.specs.declared.entry.Entry.{Entry}
use Rattle.paxos_packets.specs.declared.rows.Change.{Change}
use Rattle.paxos_learner.specs.Learner.{run_from}
use Rattle.paxos_acceptor.specs.Acceptor as accepting
use Rattle.paxos_node.specs.declared.event.Event.{Event}
use Rattle.paxos_node.specs.declared.event.Event.TheVariants.{Take, Start, Suspect, Cut, Crash, Restart}
use Rattle.paxos_node.specs.declared.outcome.Outcome.{Outcome}
use Rattle.paxos_planning.specs.Node.{NodeState, Plan, log_length}
use Rattle.paxos_planning.specs.Plan.{with_pending, begun}
use Rattle.paxos_planning.specs.Proposals.{push}
use Rattle.paxos_node.specs.Adopting.{adopted, stays_up, Planned}
use Rattle.paxos_node.specs.Applying.{down, note, ends, go_down, apply_all, settle}
use Rattle.paxos_node.specs.Snapshots.{may_cut}
use Rattle.paxos_node.specs.Events.{takes, with_item, has_room, new_lost, suspected, new_item, suspected_by, made_by, is_round_refused, is_full_refused}
use Rattle.paxos_planning.specs.Starting.{starts}
use Rattle.paxos_node.specs.Events.{owner, possible, on_event, outcome_of}
use Rattle.paxos_node.specs.Plans.{is_planned, plans, unchanged}
use Rattle.paxos_node.specs.Held.{Held}
use Rattle.world_nodes.specs.declared.world_node.NodeStatus.{NodeStatus}
use Rattle.world_nodes.specs.declared.world_node.NodeStatus.TheVariants.{Up, Down}
use Rattle.world_nodes.specs.Nodes.{node_in, IsOfMember, IsAtRest}

off : false ≡ true → ⊥
off e = cc

is_false : (b : Bool) → not b ≡ true → b ≡ false
is_false true e = absurd (off e)
is_false false e = refl

-- a node at which nothing waits applies nothing
pub settle_rest : {B : Type 0} (n : ℕ) (t : Plan B) → IsAtRest t.node → settle n t ≡ t
settle_rest n t r = ap (λ es. apply_all n es t) r

-- what is refused changes nothing

module _ {B : Type 0} (same : B → B → Bool) (members : ℕ) where
  pub round_refused : (e : Event B) (x : NodeState B) → IsAtRest x → is_round_refused e x ≡ true → outcome_of same members e x ≡ begun x
  round_refused (Start n) x rest r = ap (λ t. settle n t) (cond-false (starts n x) _ (begun x) (is_false (starts n x) r)) ∙ settle_rest n (begun x) rest
  round_refused _ x rest r = absurd (off r)

  suspected_refused : (n : ℕ) (x : NodeState B) (lost : Option (Entry B)) → has_room x ≡ false → suspected same members n lost (begun x) ≡ begun x
  suspected_refused n x None f = refl
  suspected_refused n x (Some lost) f =
      cond-false (has_room x) (push same members n (record (begun x) { node = with_pending (x.pending ++ lost ∷ []) x })) (begun x) f

  pub full_refused : (e : Event B) (x : NodeState B) → IsAtRest x → is_full_refused same e x ≡ true → outcome_of same members e x ≡ begun x
  full_refused (Take n t body) x rest r =
      ap (λ u. settle n u)
      (cond-false (takes x) (push same members n (record (begun x) { node = with_item n t body x })) (begun x) (is_false (takes x) r))
      ∙ settle_rest n (begun x) rest
  full_refused (Suspect n other) x rest r =
      ap (λ u. settle n u)
      (suspected_refused n x (new_lost same n other x)
      (is_false (has_room x) (and_parts (is_some (new_lost same n other x)) (not (has_room x)) r).1))
      ∙ settle_rest n (begun x) rest
  full_refused _ x rest r = absurd (off r)

-- and makes nothing
module _ {B : Type 0} (same : B → B → Bool) where
  pub round_makes : (e : Event B) (x : NodeState B) → is_round_refused e x ≡ true → [] ≡ made_by same e x
  round_makes (Take n t body) x r = absurd (off r)
  round_makes (Suspect n other) x r = absurd (off r)
  round_makes (Restart n) x r = absurd (off r)
  round_makes _ x r = refl

  suspected_makes : (lost : Option (Entry B)) (x : NodeState B) → has_room x ≡ false → [] ≡ suspected_by lost x
  suspected_makes None x f = refl
  suspected_makes (Some lost) x f = sym (cond-false (has_room x) (lost ∷ []) [] f)

  pub full_makes : (e : Event B) (x : NodeState B) → is_full_refused same e x ≡ true → [] ≡ made_by same e x
  full_makes (Take n t body) x r = sym (cond-false (takes x) (new_item n t body x ∷ []) [] (is_false (takes x) r))
  full_makes (Suspect n other) x r =
      suspected_makes (new_lost same n other x) x
      (is_false (has_room x) (and_parts (is_some (new_lost same n other x)) (not (has_room x)) r).1)
  full_makes (Restart n) x r = absurd (off r)
  full_makes _ x r = refl

-- what a node plans is possible at one that is up alone
planned_up : {B : Type 0} (e : Event B) (x : NodeState B) → is_planned e ≡ true → possible e x ≡ true → x.up ≡ true
planned_up (Take n t body) x p h = (and_parts x.up (nat_lt 0 t) h).0
planned_up (Cut n s) x p h = (and_parts x.up (may_cut s x) h).0
planned_up (Crash n) x p h = absurd (off p)
planned_up (Restart n) x p h = absurd (off p)
planned_up _ x p h = h

pub plans_up : {B : Type 0} (me : ℕ) (e : Event B) (x : NodeState B) → plans me e x ≡ true → x.up ≡ true
plans_up me e x h =
    let a = and_parts (eqb (owner e) me) (is_planned e && possible e x) h in
    let b = and_parts (is_planned e) (possible e x) a.1 in
    planned_up e x b.0 b.1

-- a cut commits a snapshot if it is one, and nothing else does

applied_change : {B : Type 0} (me : ℕ) (es : List (Entry B)) (t : Plan B) → (apply_all me es t).change ≡ t.change
applied_change me [] t = refl
applied_change me (e ∷ es) t =
    cond_both (ends me t.node e) (go_down (note e t)) (apply_all me es (note e t)) (λ u. u.change ≡ t.change) (λ _. refl)
    (λ _. applied_change me es (note e t))

settled_change : {B : Type 0} (me : ℕ) (t : Plan B) → (settle me t).change ≡ t.change
settled_change me t = applied_change me (run_from (suc (log_length t.node)) t.node.learner.learned) t

module _ {B : Type 0} (same : B → B → Bool) (me members log : ℕ) (x : NodeState B) (o : Outcome B) (up : x.up ≡ true) where
  cuts : (s : Option Snapshot) → plans me (Cut me s) x ≡ may_cut s x
  cuts s = ap (λ b. b && (x.up && may_cut s x)) (eq-eqb me me refl) ∙ ap (λ b. b && may_cut s x) up

  planned_commits : (s : Option Snapshot) → may_cut s x ≡ true → Planned same members (Cut me s) x o → is_some o.change.snapshot ≡ true
  planned_commits None may planned = absurd (off may)
  planned_commits (Some s) may planned =
      ap (λ (c : Change B). is_some c.snapshot)
      (planned.change ∙ settled_change me (on_event same members (Cut me (Some s)) (begun x)))

  module _ (s : Option Snapshot) (planned : plans me (Cut me s) x ≡ true → Planned same members (Cut me s) x o) where
    pub cuts_so : (plans me (Cut me s) x ≡ false → o ≡ unchanged log) → is_some o.change.snapshot ≡ may_cut s x
    cuts_so nothing = go (may_cut s x) refl
      where
        go : (b : Bool) → may_cut s x ≡ b → is_some o.change.snapshot ≡ b
        go true may = planned_commits s may (planned (cuts s ∙ may))
        go false may = ap (λ (p : Outcome B). is_some p.change.snapshot) (nothing (cuts s ∙ may))

    pub cut_planned : may_cut s x ≡ true → Planned same members (Cut me s) x o
    cut_planned may = planned (cuts s ∙ may)

-- a node that adopts, and is down then, has its rows alone

pub down_adopted : {B : Type 0} (me members : ℕ) (o : Outcome B) (x : NodeState B) → x.up ≡ true → (adopted me members o x).up ≡ false
    → adopted me members o x ≡ down (adopted me members o x).rows
down_adopted {B} me members o x up =
    cond_both o.is_down (down (accepting.adopted x.rows o.change)) (stays_up me members o x)
    (λ (y : NodeState B). y.up ≡ false → y ≡ down y.rows) (λ t e. refl) (λ t e. absurd (off (sym e ∙ up)))

-- a member whose node goes down as it adopts
pub fell : {B : Type 0} (me members : ℕ) (p q : NodeStatus B) (n m : Held B) (o : Outcome B) → p ≡ Up n → IsOfMember me members p
    → m.state ≡ adopted n.me n.members o n.state → m.state.up ≡ false → q ≡ Down m.state.rows
    → node_in q ≡ adopted me members o (node_in p)
fell {B} me members p q n m o is of_member a f d =
    let s = subst (λ r. IsOfMember me members r) is of_member in
    let there : adopted n.me n.members o n.state ≡ adopted me members o (node_in p) =
    λ i. adopted (s.0 i) (s.1 i) o (node_in (sym is i)) in
    ap (λ r. node_in r) d
    ∙ (ap (λ (x : NodeState B). down x.rows) a
    ∙ (sym (down_adopted n.me n.members o n.state s.2 (ap (λ (x : NodeState B). x.up) (sym a) ∙ f)) ∙ there))
