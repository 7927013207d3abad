-- The whole log of a node through an event at it: with what it applied in the event after the log that this was applied to.
use Rattle.std.proofs.Common.{◌≡◌, ℕ, Bool, true, false, refl, sym, ap, ◌∙◌, ◌++◌, append_assoc, Some, None}
use Rattle.std.specs.Prelude.{is_some}
use Rattle.cluster_world.proofs.Cuts.{under_kept, under_same}
use Rattle.cluster_world.proofs.EveryWorld.{Found, whole_is}
use Rattle.cluster_world.proofs.Settling.{settle_change}
use Rattle.cluster_world.proofs.Standing.{Keeps, Cuts, Takes, OnFrom}
use Rattle.cluster_world.specs.World.{World, node_at, under, whole_log, log_over, log_before, cut_by}
use Rattle.paxos_packets.specs.Snapshot as taken
use Rattle.paxos_packets.specs.declared.rows.Change.{Change}
use Rattle.paxos_node.specs.declared.event.Event.{Event}
use Rattle.paxos_node.specs.Events.{owner, packet_in, on_event, outcome_of}
use Rattle.paxos_planning.specs.Node.{NodeState, Plan}
use Rattle.paxos_planning.specs.Plan.{begun}

over_none : {B : Type 0} (w : World B) (x : NodeState B) (b : Bool) → log_over w x b None ≡ whole_log w.cuts x
over_none w x true = refl
over_none w x false = refl

module _ {B : Type 0} (same : B → B → Bool) (members : ℕ) (w : World B) (e : Event B) where
  abbrev x : NodeState B
  x = node_at w.nodes (owner e)

  abbrev u : Plan B
  u = on_event same members e (begun x)

  abbrev o : Plan B
  o = outcome_of same members e x

  committed : o.change.snapshot ≡ u.change.snapshot
  committed = ap (λ (c : Change B). c.snapshot) (settle_change (owner e) u)

  pub before_kept : Keeps same e x u → log_before w e x o ≡ whole_log w.cuts x
  before_kept k = ap (λ s. log_over w x (is_some (packet_in e)) s) (committed ∙ k.cut) ∙ over_none w x (is_some (packet_in e))

  pub before_cut : Cuts e x u → log_before w e x o ≡ whole_log w.cuts x
  before_cut c = ap (λ (f : Event B). log_over w x (is_some (packet_in f)) o.change.snapshot) c.event

  pub before_taken : (t : Takes e x u) → log_before w e x o ≡ under w.cuts (Some t.snapshot)
  before_taken t =
      ap (λ (f : Event B). log_over w x (is_some (packet_in f)) o.change.snapshot) t.event
      ∙ ap (λ s. log_over w x true s) (committed ∙ t.cut)

  pub whole_kept : Found w → OnFrom same members e x → x.up ≡ true → Keeps same e x u
      → whole_log (w.cuts ++ cut_by w e) o.node ≡ log_before w e x o ++ o.applied
  whole_kept ok f up k =
      whole_is (w.cuts ++ cut_by w e) o.node f.up
      ∙ ((λ i. under (w.cuts ++ cut_by w e) ((f.base ∙ k.base) i) ++ (f.log ∙ ap (λ l. l ++ o.applied) k.log) i)
      ∙ (ap (λ l. l ++ (x.applied ++ o.applied)) (under_kept w.cuts (cut_by w e) x.rows.snapshot (ok.nodes (owner e)))
      ∙ (sym (append_assoc (under w.cuts x.rows.snapshot) x.applied o.applied)
      ∙ ap (λ l. l ++ o.applied) (sym (before_kept k ∙ whole_is w.cuts x up)))))

  pub whole_taken : OnFrom same members e x → (t : Takes e x u)
      → whole_log (w.cuts ++ cut_by w e) o.node ≡ log_before w e x o ++ o.applied
  whole_taken f t =
      whole_is (w.cuts ++ cut_by w e) o.node f.up
      ∙ ((λ i. under (w.cuts ++ cut_by w e) ((f.base ∙ t.base) i) ++ (f.log ∙ ap (λ l. l ++ o.applied) t.log) i)
      ∙ (ap (λ l. l ++ o.applied) (ap (λ (g : Event B). under (w.cuts ++ cut_by w g) (Some t.snapshot)) t.event ∙ under_same w.cuts (Some t.snapshot))
      ∙ ap (λ l. l ++ o.applied) (sym (before_taken t))))
