-- Lists of events, one after another.
use Rattle.std.proofs.Common.{◌≡◌, ℕ, Bool, List, [], ◌∷◌, ◌++◌, ap, sym, ◌∙◌, refl, Option, Some}
use Rattle.std.proofs.lemmas.List.{append_assoc}
use Rattle.paxos_packets.specs.declared.entry.Entry.{Entry}
use Rattle.paxos_node.specs.declared.event.Event.{Event}
use Rattle.paxos_node.specs.View.{Viewed}
use Rattle.replica_machine.specs.Replay.{Machine}
use Rattle.node_actor.specs.Snapshots.{Logs, under_after, handed_by}
use Rattle.node_actor.specs.Views.{moved_by}
use Rattle.actor_run.specs.Events.{behind, gained_by, gained_in, said_in, under_in, TakeLogs}

module _ {B : Type 0} (same : B → B → Bool) (members : ℕ) where
  pub behind_all : (made more : List (Event B)) (s : Viewed B)
      → behind same members (made ++ more) s ≡ behind same members more (behind same members made s)
  behind_all [] more s = refl
  behind_all (x ∷ xs) more s = behind_all xs more (moved_by same members (Some x) s)

  pub gained_all : (made more : List (Event B)) (s : Viewed B)
      → gained_in same members (made ++ more) s ≡ gained_in same members made s ++ gained_in same members more (behind same members made s)
  gained_all [] more s = refl
  gained_all (x ∷ xs) more s =
      let t : Viewed B = moved_by same members (Some x) s in
      ap (λ g. gained_by x s.node ++ g) (gained_all xs more t)
      ∙ sym (append_assoc (gained_by x s.node) (gained_in same members xs t) (gained_in same members more (behind same members xs t)))

  pub under_all : (logs : Logs B) (under : List (Entry B)) (made more : List (Event B)) (s : Viewed B)
      → under_in same members logs under (made ++ more) s
      ≡ under_in same members logs (under_in same members logs under made s) more (behind same members made s)
  under_all logs under [] more s = refl
  under_all logs under (x ∷ xs) more s =
      under_all logs (under_after same members logs under (Some x) s.node) xs more (moved_by same members (Some x) s)

  module _ {S Y : Type 0} (m : Machine B S Y) where
    pub said_all : (logs : Logs B) (under : List (Entry B)) (made more : List (Event B)) (s : Viewed B)
        → said_in same members m logs under (made ++ more) s
        ≡ said_in same members m logs under made s
        ++ said_in same members m logs (under_in same members logs under made s) more (behind same members made s)
    said_all logs under [] more s = refl
    said_all logs under (x ∷ xs) more s =
        let t : Viewed B = moved_by same members (Some x) s in
        let up : List (Entry B) = under_after same members logs under (Some x) s.node in
        ap (λ g. handed_by same members m logs under (Some x) s.node ++ g) (said_all logs up xs more t)
        ∙ sym (append_assoc (handed_by same members m logs under (Some x) s.node) (said_in same members m logs up xs t)
        (said_in same members m logs (under_in same members logs up xs t) more (behind same members xs t)))

    pub take_all : (loaded : List ℕ → Option S) (logs : Logs B) (made more : List (Event B)) (s : Viewed B)
        → TakeLogs same members loaded m logs (made ++ more) s
        → TakeLogs same members loaded m logs made s × TakeLogs same members loaded m logs more (behind same members made s)
    take_all loaded logs [] more s h = (tt, h)
    take_all loaded logs (x ∷ xs) more s h =
        let r = take_all loaded logs xs more (moved_by same members (Some x) s) h.1 in ((h.0, r.0), r.1)
