-- What the module `laws` states of the definitions beside it.
use Rattle.std.specs.Prelude.{◌≡◌, ◌≤◌, ℕ, suc, Bool, true, Some, []}
use Rattle.paxos_packets.specs.Packet.{packet}
use Rattle.paxos_packets.specs.declared.ballot.Ballot.{Ballot}
use Rattle.paxos_packets.specs.declared.packet.Kind.TheVariants.{Prepare, Accept, Snapshot}
use Rattle.paxos_packets.specs.Snapshot as taken
use Rattle.paxos_packets.specs.declared.packet.Packet.{Packet}
use Rattle.paxos_packets.specs.declared.vote.Vote.{Vote}
use Rattle.paxos_acceptor.specs.Acceptor.{adopted, answers, judged}
use Rattle.paxos_proposer.specs.Role.{Role, Idle, Preparing, Leading}
use Rattle.paxos_proposer.specs.Proposer.{round_of}
use Rattle.paxos_node.specs.declared.event.Event.{Event}
use Rattle.paxos_node.specs.declared.event.Event.TheVariants.{Deliver}
use Rattle.paxos_learner.specs.Learner.{run_from}
use Rattle.replica_machine.specs.declared.head.Head.{Head}
use Rattle.replica_machine.specs.Snapshot.{head_at}
use Rattle.paxos_planning.specs.Node.{NodeState, log_length}
use Rattle.paxos_planning.specs.Plan.{begun}
use Rattle.paxos_planning.specs.Replies.{saw}
use Rattle.paxos_node.specs.Events.{possible, outcome_of}
use Rattle.paxos_node.specs.Snapshots.{has_boot}

-- what a node that is up commits in an event is all that changes its rows
abbrev pub CommitsItsChange : Type 0 → Type 0
CommitsItsChange B =
    (same : B → B → Bool) (members : ℕ) (e : Event B) (x : NodeState B) → x.up ≡ true → possible e x ≡ true →
    (outcome_of same members e x).node.rows ≡ adopted x.rows (outcome_of same members e x).change

-- a packet that is delivered brings about what the acceptor's rules say: the change, the packets, and the rows after it
pub record IsJudged {B : Type 0} (same : B → B → Bool) (members : ℕ) (p : Packet B) (x : NodeState B) : Type 0 where
  pub change : (outcome_of same members (Deliver p) x).change ≡ (judged x.rows p.kind).change
  pub packets : (outcome_of same members (Deliver p) x).packets ≡ answers members p.addressee p.sender (judged x.rows p.kind).answer
  pub rows : (outcome_of same members (Deliver p) x).node.rows ≡ adopted x.rows (judged x.rows p.kind).change

-- and so it is with each Prepare and each Accept
abbrev pub JudgesAsAnAcceptor : Type 0 → Type 0
JudgesAsAnAcceptor B =
    ((same : B → B → Bool) (members me sender : ℕ) (b : Ballot) (first : ℕ) (x : NodeState B)
    → IsJudged same members (packet sender (Prepare b first) me) x)
    × ((same : B → B → Bool) (members me sender : ℕ) (v : Vote B) (x : NodeState B)
    → IsJudged same members (packet sender (Accept v) me) x)

-- the round of the ballot under way
abbrev pub round_under_way : {B : Type 0} → Role B → ℕ
round_under_way Idle = 0
round_under_way (Preparing b first promises) = b.round
round_under_way (Leading b next proposed) = b.round

-- a node that is up has seen the rounds that it promised, and that of its ballot
pub record Sees {B : Type 0} (x : NodeState B) : Type 0 where
  pub promised : round_of x.rows.promised ≤ x.proposer.seen
  pub under_way : round_under_way x.proposer.role ≤ x.proposer.seen

abbrev pub SeesItsBallots : {B : Type 0} → NodeState B → Type 0
SeesItsBallots x = x.up ≡ true → Sees x

-- it stays so in each event
abbrev pub StaysSeen : Type 0 → Type 0
StaysSeen B =
    (same : B → B → Bool) (members : ℕ) (e : Event B) (x : NodeState B) → SeesItsBallots x → possible e x ≡ true →
    SeesItsBallots (outcome_of same members e x).node

-- a snapshot that has a node's present boot changes nothing of it but what it saw, if it has applied what it learned
abbrev pub KeepsItsBoot : Type 0 → Type 0
KeepsItsBoot B =
    (same : B → B → Bool) (members me sender : ℕ) (s : taken.Snapshot) (head : Head) (x : NodeState B) → head_at s.octets ≡ Some head
    → has_boot me x head ≡ true → run_from (suc (log_length x)) x.learner.learned ≡ []
    → outcome_of same members (Deliver (packet sender (Snapshot s) me)) x ≡ begun (saw (Snapshot s) x)
