-- Each snapshot that was cut stands for its log.
use Rattle.std.proofs.Common.{◌≡◌, ⊎_elim, ℕ, suc, ◌+◌, ◌≤◌, Bool, true, refl, sym, ap, ◌∙◌, subst, arith, List, length, length-append, Some}
use Rattle.cluster_world.proofs.Agreeing.{chosen_out}
use Rattle.cluster_world.proofs.Cuts.{IsCut, under_found}
use Rattle.cluster_world.proofs.EveryWorld.{WorldOk, world_ok, whole_is, under_long}
use Rattle.cluster_world.proofs.Giving.{IsOne, each_all, made_are_ones}
use Rattle.cluster_world.proofs.Heads.{heads_ok, stands}
use Rattle.cluster_world.proofs.Taking.{cut_was_made}
use Rattle.cluster_world.specs.CutLogs.{IsOfLog, CutsAreLogs, NodesRestOnLogs, PacketsBringLogs, StandsByLog, NodesStandByLogs}
use Rattle.cluster_world.specs.Has.{Has}
use Rattle.cluster_world.specs.World.{Cut, World, node_at, under, played}
use Rattle.paxos_packets.specs.Body.{IsEquality}
use Rattle.paxos_packets.specs.Snapshot as taken
use Rattle.paxos_packets.specs.declared.entry.Entry.{Entry}
use Rattle.paxos_node.specs.declared.event.Event.{Event}
use Rattle.paxos_planning.specs.Node.{NodeState}

module _ {B : Type 0} (same : B → B → Bool) (equal : IsEquality same) (members : ℕ) (many : 3 ≤ members) (few : members ≤ 7)
    (events : List (Event B)) where
  abbrev w : World B
  w = played same members events

  w_ok : WorldOk members w
  w_ok = world_ok same equal members (two many) events
    where
      two : 3 ≤ members → 2 ≤ members
      two l = omega arith

  pub cut_is_log : (c : Cut B) → Has w.cuts c → IsOfLog members w c.snapshot c.log
  cut_is_log c h =
      record {
        long = w_ok.cuts.long c h;
        chosen = λ i e g. chosen_out members w.sent (suc i) e ((w_ok.cuts.logged c h).at i e g);
        given = each_all (λ (e : Entry B). IsOne e) c.log
            (λ e g. ⊎_elim (λ n. subst (λ (z : Entry B). IsOne z) (sym n) refl) (λ a. made_are_ones same members equal few events e a)
            (cut_was_made same members equal events c h e g));
        stands = λ k. sym (heads_ok same equal members few events c h k);
      }

  pub snapshot_is_log : (s : taken.Snapshot) → IsCut w.cuts s → IsOfLog members w s (under w.cuts (Some s))
  snapshot_is_log s h =
      let f = under_found w.cuts s h in
      subst (λ (z : taken.Snapshot × List (Entry B)). IsOfLog members w z.0 z.1) (λ i. (f.2 i, sym f.3 i)) (cut_is_log f.0 f.1)

  pub node_by_log : (k : ℕ) → (node_at w.nodes k).up ≡ true → StandsByLog w k
  node_by_log k up =
      record {
        long =
            sym
            (ap (λ l. length l) (whole_is w.cuts x up)
            ∙ (length-append (under w.cuts x.rows.snapshot) x.applied
            ∙ ap (λ n. n + length x.applied) (under_long w_ok.cuts x.rows.snapshot (w_ok.cuts.found.nodes k))));
        stands = λ j. stands same equal members few events k up j;
      }
    where
      x : NodeState B
      x = node_at w.nodes k

pub cuts_are_logs : {B : Type 0} (same : B → B → Bool) → IsEquality same → CutsAreLogs B same
cuts_are_logs same equal members many few events c h = cut_is_log same equal members many few events c h

pub nodes_rest_on_logs : {B : Type 0} (same : B → B → Bool) → IsEquality same → NodesRestOnLogs B same
nodes_rest_on_logs same equal members many few events k s i =
    snapshot_is_log same equal members many few events s ((w_ok same equal members many few events).cuts.found.nodes k s i)

pub packets_bring_logs : {B : Type 0} (same : B → B → Bool) → IsEquality same → PacketsBringLogs B same
packets_bring_logs same equal members many few events k s h =
    snapshot_is_log same equal members many few events s ((w_ok same equal members many few events).cuts.found.shown _ h.1 s refl)

pub nodes_stand_by_logs : {B : Type 0} (same : B → B → Bool) → IsEquality same → NodesStandByLogs B same
nodes_stand_by_logs same equal members many few events k up = node_by_log same equal members many few events k up
