-- How a world goes on, event by event.
use Rattle.std.proofs.Common.{◌≡◌, Bool, true, false, ◌||◌, refl, sym, subst, List, [], ◌∷◌}
use Rattle.std.proofs.lemmas.Bool.{cond-true, cond-false, and_parts}
use Rattle.cluster_world.proofs.EveryWorld.{within, node_same, node_other, among_has, play_on}
use Rattle.cluster_world.proofs.Taking.{nodes_length}
use Rattle.paxos_packets.specs.Packet.{packet_equality, same_packet}
use Rattle.cluster_world.specs.Has.{Has, here, there}
use Rattle.paxos_packets.specs.Body.{IsEquality}
use Rattle.paxos_packets.specs.declared.packet.Packet.{Packet}
use Rattle.paxos_planning.specs.Node.{Plan}
use Rattle.paxos_planning.specs.Node.{NodeState}
use Rattle.paxos_node.specs.Events.{owner, possible, outcome_of}
use Rattle.cluster_world.specs.World.{node_at, first_world, is_among, was_sent, done}
use Rattle.cluster_world.specs.Steps.{SentIsAmong, NodesAreMembers, OneEventMore, may, Goes, EventGoes, EventStays}

or_first : (a b : Bool) → a ≡ true → (a || b) ≡ true
or_first a b e = λ i. e i || b

or_second : (a b : Bool) → b ≡ true → (a || b) ≡ true
or_second true b e = refl
or_second false b e = e

module _ {B : Type 0} (same : B → B → Bool) (equal : IsEquality same) where
  pub has_among : (p : Packet B) (sent : List (Packet B)) → Has sent p → is_among same p sent ≡ true
  has_among p sent (here {xs = qs}) = or_first (same_packet same p p) (is_among same p qs) ((packet_equality same equal).reflexive p)
  has_among p sent (there {y = q} {xs = qs} h) = or_second (same_packet same q p) (is_among same p qs) (has_among p qs h)

  pub sent_is_among : SentIsAmong B same
  sent_is_among p sent = (λ t. among_has same equal p sent t, λ h. has_among p sent h)

module _ {B : Type 0} (same : B → B → Bool) where
  pub nodes_are_members : NodesAreMembers B same
  nodes_are_members members events = nodes_length same members events

  pub one_event_more : OneEventMore B same
  one_event_more members events e = play_on same members events (e ∷ []) (first_world members)

  pub event_goes_on : EventGoes B same
  event_goes_on members w e t =
      subst (λ v. Goes same members w v e) (sym (cond-true (may same w e) (done same w e x o) w t))
      (record {
        mine = node_same w.nodes (owner e) o.node (within w.nodes e (owner e) (and_parts (was_sent same e w.sent) (possible e x) t).1);
        others = λ k d. node_other w.nodes (owner e) o.node k d;
        sent = refl;
      })
    where
      x : NodeState B
      x = node_at w.nodes (owner e)

      o : Plan B
      o = outcome_of same members e (node_at w.nodes (owner e))

  pub event_stays : EventStays B same
  event_stays members w e t =
      cond-false (may same w e) (done same w e (node_at w.nodes (owner e)) (outcome_of same members e (node_at w.nodes (owner e)))) w t
