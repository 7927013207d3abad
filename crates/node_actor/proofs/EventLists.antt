-- Lists of events with one more at the end, or none.
use Rattle.std.proofs.Common.{◌≡◌, ℕ, Bool, List, [], ◌∷◌, ◌++◌, ap, sym, ◌∙◌, refl, Option, Some, None}
use Rattle.std.specs.Option.{option_to_list}
use Rattle.std.proofs.lemmas.List.{append-nil, append_assoc}
use Rattle.paxos_packets.specs.declared.entry.Entry.{Entry}
use Rattle.paxos_node.specs.declared.event.Event.{Event}
use Rattle.paxos_node.specs.View.{Viewed}
use Rattle.replica_machine.specs.Replay.{Machine}
use Rattle.node_actor.specs.EventLists.{behind, sent_in, said_in, under_in, TakeLogs}
use Rattle.node_actor.specs.Snapshots.{Logs, TakesLog, under_after, handed_by}
use Rattle.node_actor.specs.Views.{moved_by, sent_by}

module _ {B : Type 0} (same : B → B → Bool) (members : ℕ) where
  pub behind_more : (made : List (Event B)) (e : Option (Event B)) (s : Viewed B)
      → behind same members (made ++ option_to_list e) s ≡ moved_by same members e (behind same members made s)
  behind_more [] None s = refl
  behind_more [] (Some e) s = refl
  behind_more (x ∷ xs) e s = behind_more xs e (moved_by same members (Some x) s)

  pub sent_more : (made : List (Event B)) (e : Option (Event B)) (s : Viewed B)
      → sent_in same members (made ++ option_to_list e) s ≡ sent_in same members made s ++ sent_by same members e (behind same members made s).node
  sent_more [] None s = refl
  sent_more [] (Some e) s = append-nil (sent_by same members (Some e) s.node)
  sent_more (x ∷ xs) e s =
      let t : Viewed B = moved_by same members (Some x) s in
      ap (λ g. sent_by same members (Some x) s.node ++ g) (sent_more xs e t)
      ∙ sym (append_assoc (sent_by same members (Some x) s.node) (sent_in same members xs t) (sent_by same members e (behind same members xs t).node))

  module _ {S Y : Type 0} (m : Machine B S Y) where
    pub said_more : (logs : Logs B) (under : List (Entry B)) (made : List (Event B)) (e : Option (Event B)) (s : Viewed B)
        → said_in same members m logs under (made ++ option_to_list e) s
        ≡ said_in same members m logs under made s
        ++ handed_by same members m logs (under_in same members logs under made s) e (behind same members made s).node
    said_more logs under [] None s = refl
    said_more logs under [] (Some e) s = append-nil (handed_by same members m logs under (Some e) s.node)
    said_more logs under (x ∷ xs) e s =
        let t : Viewed B = moved_by same members (Some x) s in
        let up : List (Entry B) = under_after same members logs under (Some x) s.node in
        ap (λ g. handed_by same members m logs under (Some x) s.node ++ g) (said_more logs up xs e t)
        ∙ sym (append_assoc (handed_by same members m logs under (Some x) s.node) (said_in same members m logs up xs t)
        (handed_by same members m logs (under_in same members logs up xs t) e (behind same members xs t).node))

    pub take_more : (loaded : List ℕ → Option S) (logs : Logs B) (made : List (Event B)) (e : Option (Event B)) (s : Viewed B)
        → TakeLogs same members loaded m logs (made ++ option_to_list e) s
        → TakeLogs same members loaded m logs made s × TakesLog same members loaded m logs e (behind same members made s).node
    take_more loaded logs [] None s h = (tt, tt)
    take_more loaded logs [] (Some e) s h = (tt, h.0)
    take_more loaded logs (x ∷ xs) e s h =
        let r = take_more loaded logs xs e (moved_by same members (Some x) s) h.1 in ((h.0, r.0), r.1)

  pub under_more : (logs : Logs B) (under : List (Entry B)) (made : List (Event B)) (e : Option (Event B)) (s : Viewed B)
      → under_in same members logs under (made ++ option_to_list e) s
      ≡ under_after same members logs (under_in same members logs under made s) e (behind same members made s).node
  under_more logs under [] None s = refl
  under_more logs under [] (Some e) s = refl
  under_more logs under (x ∷ xs) e s =
      under_more logs (under_after same members logs under (Some x) s.node) xs e (moved_by same members (Some x) s)
