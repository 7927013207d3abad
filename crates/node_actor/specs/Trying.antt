-- An actor whose node went on by events that are not committed yet (docs/CONSENSUS.md, "A node with its store").
use Rattle.std.specs.Prelude.{◌≡◌, ◌<◌, ◌≤◌, ◌+◌, ◌^◌, ℕ, Bool, false, List, length}
use Rattle.cluster_world.specs.Has.{Has}
use Rattle.paxos_packets.specs.declared.rows.Rows.{Rows}
use Rattle.paxos_acceptor.specs.Ahead.{IsAhead}
use Rattle.paxos_node.specs.declared.event.Event.{Event}
use Rattle.actor_parts.specs.Parts.{IsSound, Parted}
use Rattle.actor_parts.specs.Tried.{AreTried, Staged, events_in, node_behind}
use Rattle.mail_table.specs.Boxes.{Received}
use Rattle.mail_table.specs.Seats.{Seated}
use Rattle.node_actor.specs.Actor.{Acting, acting, IsSeated}

-- the parts before the events that are tried, and the actor: the same, but for the node, which is the one that the seat knows

abbrev pub parts_before : {B M K : Type 0} → Parted B M K → Seated B → Parted B M K
parts_before p s = record p { node = record p.node { state = s.part.seen.node } }

abbrev pub acting_before : {B M K : Type 0} → Parted B M K → Seated B → Acting B M K
acting_before p s = acting (parts_before p s) s

-- it serves, and these events are tried, one after another, from the node on that the seat knows; the rows are ahead by what they changed, their
-- packets were received, and the word of the node can count them, if there are any
pub record Trying {B M K : Type 0} (same : B → B → Bool) (holds : K → Rows B → Type 0) (is_failed : K → Bool) (p : Parted B M K) (s : Seated B)
    (g : Staged B) : Type 0 where
  pub sound : IsSound same holds is_failed (parts_before p s)
  pub seated : IsSeated same (acting_before p s)
  pub fresh : p.spoiled ≡ false
  pub tried : AreTried same p.node.me p.node.members g.tried s.part.seen.node
  pub node : p.node.state ≡ node_behind same p.node.me p.node.members g.tried s.part.seen.node
  pub ahead : IsAhead s.part.seen.node.rows g.ahead p.node.state.rows
  pub received : (e : Event B) → Has (events_in g.tried) e → Received s.members s.part e
  pub counts : 0 < length g.tried → s.part.events + length g.tried ≤ 2 ^ 62
