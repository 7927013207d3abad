-- A snapshot that a node takes goes on from its log.
use Rattle.std.proofs.Common.{◌≡◌, ⊎_elim, ℕ, suc, ◌+◌, ◌<◌, ◌≤◌, Bool, true, sym, ap, ◌∙◌, subst, arith, List, length, length-append}
use Rattle.std.proofs.Common.{Some}
use Rattle.cluster_world.proofs.Agreeing.{prefixes}
use Rattle.cluster_world.proofs.Cuts.{IsCut}
use Rattle.cluster_world.proofs.EveryWorld.{WorldOk, world_ok, among_has, whole_is, whole_logged, under_long, under_logged}
use Rattle.cluster_world.proofs.Invariant.{promises}
use Rattle.cluster_world.proofs.OneChosen.{chosen_one}
use Rattle.cluster_world.proofs.Standing.{Takes}
use Rattle.cluster_world.proofs.Taking.{May}
use Rattle.cluster_world.specs.Laws.{IsPrefixOf}
use Rattle.cluster_world.specs.World.{World, node_at, was_sent, played, under, log_of}
use Rattle.paxos_packets.specs.Body.{IsEquality}
use Rattle.paxos_packets.specs.Snapshot as taken
use Rattle.paxos_node.specs.declared.event.Event.{Event}
use Rattle.paxos_node.specs.Events.{owner, on_event}
use Rattle.paxos_planning.specs.Node.{NodeState, Plan}
use Rattle.paxos_planning.specs.Plan.{begun}

module _ {B : Type 0} (same : B → B → Bool) (equal : IsEquality same) (members : ℕ) (many : 2 ≤ members) (early : List (Event B)) (e : Event B)
    (m' : May same members (played same members early) e) where
  abbrev w : World B
  w = played same members early

  w_ok : WorldOk members w
  w_ok = world_ok same equal members many early

  abbrev x : NodeState B
  x = node_at w.nodes (owner e)

  abbrev u : Plan B
  u = on_event same members e (begun x)

  pub snapshot_cut : (t : Takes e x u) → IsCut w.cuts t.snapshot
  snapshot_cut t =
      w_ok.cuts.found.shown t.packet
      (among_has same equal t.packet w.sent (ap (λ f. was_sent same f w.sent) (sym t.event) ∙ m'.0)) t.snapshot t.kind

  -- a snapshot that is taken goes on from the node's log
  pub longer_log : (t : Takes e x u) → x.up ≡ true → IsPrefixOf (log_of w (owner e)) (under w.cuts (Some t.snapshot))
  longer_log t up =
      ⊎_elim (λ p. p) (λ (p : IsPrefixOf (under w.cuts (Some t.snapshot)) (log_of w (owner e))). absurd (shorter p))
      (prefixes (log_of w (owner e)) (under w.cuts (Some t.snapshot))
      (λ i a b p q. chosen_one members (promises (node_at w.nodes)) w.sent w_ok.inv.packets (suc i) a b
      ((whole_logged same equal members many w (owner e) w_ok).at i a p)
      ((under_logged w_ok.cuts (Some t.snapshot) cut).at i b q)))
    where
      cut : (s : taken.Snapshot) → Some t.snapshot ≡ Some s → IsCut w.cuts s
      cut s i = subst (λ z. IsCut w.cuts z) (same_one s i) (snapshot_cut t)
        where
          same_one : (s : taken.Snapshot) → Some t.snapshot ≡ Some s → t.snapshot ≡ s
          same_one s i = cc

      long : length (log_of w (owner e)) < length (under w.cuts (Some t.snapshot))
      long =
          let a = ap (λ l. length l) (whole_is w.cuts x up) ∙ (length-append (under w.cuts x.rows.snapshot) x.applied
          ∙ ap (λ k. k + length x.applied) (under_long w_ok.cuts x.rows.snapshot (w_ok.cuts.found.nodes (owner e)))) in
          let b = under_long w_ok.cuts (Some t.snapshot) cut in
          less a b t.more
        where
          less : {a b c d : ℕ} → a ≡ c → b ≡ d → c < d → a < b
          less p q l = omega arith

      shorter : IsPrefixOf (under w.cuts (Some t.snapshot)) (log_of w (owner e)) → ⊥
      shorter p =
          let a = sym (ap (λ l. length l) p.1) ∙ length-append (under w.cuts (Some t.snapshot)) p.0 in less (length p.0) long a
        where
          less : {a b : ℕ} (c : ℕ) → a < b → a ≡ b + c → ⊥
          less c l q = omega arith
