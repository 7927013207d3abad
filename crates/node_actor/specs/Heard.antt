-- What a packet shows of the other nodes' work, whatever its node makes of it. Nothing that is claimed of a cluster rests on it.
use Rattle.paxos_packets.specs.declared.packet.Kind.{Kind}
use Rattle.paxos_packets.specs.declared.packet.Kind.TheVariants.{Prepare, Promise, Accept, Accepted, Nack, Forward, Learned, Ask, Snapshot}
use Rattle.node_actor.specs.declared.heard.Heard.{Heard}
use Rattle.node_actor.specs.declared.heard.Heard.TheVariants as heard

-- a packet of a ballot names it, and says whether it is prepared; a refusal names both ballots, a report its slot, an Ask the first slot that its
-- sender lacks, and a snapshot its floor
abbrev pub heard_in : {B : Type 0} → Kind B → Heard
heard_in (Prepare ballot first) = heard.Prepare ballot
heard_in (Promise ballot floor votes) = heard.Ballot ballot
heard_in (Accept vote) = heard.Ballot vote.ballot
heard_in (Accepted vote) = heard.Ballot vote.ballot
heard_in (Nack ballot promised) = heard.Refusal ballot promised
heard_in (Forward entries) = heard.Entries
heard_in (Learned slot entry) = heard.Learned slot
heard_in (Ask first) = heard.Ask first
heard_in (Snapshot snapshot) = heard.Snapshot snapshot.floor
