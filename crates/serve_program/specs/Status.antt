-- What a node says of itself when it is asked (docs/OPERATING.md, "Start, and what it writes").
use Rattle.std.specs.Prelude.{ℕ, ◌==◌, Option, Some, None, if◌then◌else◌}
use Rattle.paxos_packets.specs.declared.ballot.Ballot.{Ballot}
use Rattle.actor_run.specs.declared.round_feed.RoundSeen.{RoundSeen}
use Rattle.serve_program.specs.declared.status.Standing.{Standing}
use Rattle.serve_program.specs.declared.status.Standing.TheVariants.{Leads, Prepares, Follows, Waits}

-- a node that does not lead takes the node whose ballot it has promised for the leader
abbrev pub follower_of : ℕ → Option Ballot → Standing
follower_of me None = Waits
follower_of me (Some ballot) = if ballot.node == me then Prepares else Follows ballot.node

abbrev pub standing_of : ℕ → RoundSeen → Standing
standing_of me seen = if seen.leads then Leads else follower_of me seen.promised
