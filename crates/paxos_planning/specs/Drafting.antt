-- What callers see of an event that is being planned: the node as it is with the entry that becomes pending, and what the event makes of
-- it so far.
use Rattle.std.specs.Prelude.{ℕ, max, Bool, Option, Some, None, List, [], ◌∷◌, map, filter, not, if◌then◌else◌}
use Rattle.paxos_packets.specs.declared.entry.Entry.{Entry}
use Rattle.paxos_packets.specs.declared.vote.Vote.{Vote}
use Rattle.paxos_packets.specs.Vote.{put_vote}
use Rattle.paxos_packets.specs.Members.{others}
use Rattle.paxos_packets.specs.Packet.{packet}
use Rattle.paxos_packets.specs.declared.ballot.Ballot.{Ballot}
use Rattle.paxos_packets.specs.declared.packet.Kind.TheVariants.{Prepare, Accept, Learned}
use Rattle.paxos_packets.specs.declared.packet.Packet.{Packet}
use Rattle.paxos_learner.specs.declared.learned.LearnedEntry.{LearnedEntry}
use Rattle.paxos_learner.specs.Learner.{LearnerState, is_known}
use Rattle.paxos_proposer.specs.Proposer.{prepared, own_ballot, is_spent}
use Rattle.paxos_proposer.specs.declared.promises.CountedPromise.{CountedPromise}
use Rattle.paxos_proposer.specs.Reports.{is_counted}
use Rattle.paxos_proposer.specs.Role.{Role, ProposerState}
use Rattle.paxos_acceptor.specs.Acceptor.{adopted, with_promise}
use Rattle.paxos_proposer.specs.Moves.{after_moves}
use Rattle.paxos_learner.specs.Hearing.{hear_all}
use Rattle.paxos_planning.specs.declared.effects.Effects.{Effects}
use Rattle.paxos_planning.specs.Node.{NodeState, Plan}
use Rattle.paxos_planning.specs.Plan.{with_role, and_promise}
use Rattle.paxos_planning.specs.Parts.{proposer_of, learner_of, pending_with, counted_with}

-- whose event it is
pub record Known (B : Type 0) : Type 0 where
  pub me : ℕ
  pub members : ℕ
  pub state : NodeState B
  -- the entry that becomes pending
  pub added : Option (Entry B)

abbrev pub known : {B : Type 0} → ℕ → ℕ → NodeState B → Option (Entry B) → Known B
known me members x added = record { me = me; members = members; state = x; added = added }

-- the entry becomes pending
abbrev pub with_pending_entry : {B : Type 0} → Option (Entry B) → NodeState B → NodeState B
with_pending_entry added x =
    record {
      rows = x.rows;
      up = x.up;
      proposer = x.proposer;
      learner = x.learner;
      applied = x.applied;
      pending = pending_with added x.pending;
      taken = counted_with added x.taken;
    }

pub record Drafted (B : Type 0) : Type 0 where
  pub of : Known B
  pub plan : Plan B

abbrev pub listed : {B : Type 0} → Option (Entry B) → List (Entry B)
listed None = []
listed (Some e) = e ∷ []

-- its role is this one then
abbrev pub in_role : {B : Type 0} → Role B → Plan B → Plan B
in_role role o = record o { node = with_role role o.node }

-- the vote is committed, in its slot
abbrev pub and_kept : {B : Type 0} → Vote B → Plan B → Plan B
and_kept v o =
    record o {
      node = record o.node {
        rows = record o.node.rows { votes = put_vote v o.node.rows.votes };
      };
      change = record o.change { votes = put_vote v o.change.votes };
    }

-- a ballot of this round came
abbrev pub seeing : {B : Type 0} → ℕ → Plan B → Plan B
seeing round o =
    record o { node = record o.node { proposer = record { role = o.node.proposer.role; seen = max o.node.proposer.seen round } } }

-- what these effects make of a node before anything is applied
abbrev pub plan_with_effects : {B : Type 0} → Known B → Bool → Effects B → Plan B
plan_with_effects k other e =
    record {
      node = record {
        rows = adopted k.state.rows e.change;
        up = k.state.up;
        proposer = (after_moves e.moves.items (proposer_of k.me k.members k.state)).proposer;
        learner = (hear_all e.news.items (learner_of k.members k.state)).learner;
        applied = k.state.applied;
        pending = pending_with k.added k.state.pending;
        taken = counted_with k.added k.state.taken;
      };
      change = e.change;
      packets = e.packets.items;
      applied = [];
      disagrees = other;
    }

-- it begins its next ballot, in which it reports its floor and these votes
abbrev pub with_prepared : {B : Type 0} → ℕ → ℕ → ℕ → List (Vote B) → Plan B → Plan B
with_prepared me first floor votes o =
    record o { node = record o.node { proposer = prepared me (own_ballot me o.node.proposer) first floor votes o.node.proposer } }

-- the promise is committed
abbrev pub committing : {B : Type 0} → Ballot → Plan B → Plan B
committing b o = record o { node = record o.node { rows = with_promise b o.node.rows }; change = and_promise b o.change }

-- its next ballot, if a round is left
abbrev pub next_own : {B : Type 0} → ℕ → ProposerState B → Option Ballot
next_own me p = if is_spent p then None else Some (own_ballot me p)

-- the others are asked again for a vote, unless it is known what its slot holds
abbrev pub asked_again : {B : Type 0} → ℕ → List ℕ → LearnerState B → Vote B → List (Packet B)
asked_again me others l v = if is_known v.slot l then [] else map (packet me (Accept v)) others

-- what was learned is reported to a member
abbrev pub told_to : {B : Type 0} → ℕ → ℕ → LearnedEntry B → Packet B
told_to me to l = packet me (Learned l.slot l.entry) to

-- those of the others are asked again for a promise whose promise was not counted
abbrev pub prepares_again : {B : Type 0} → ℕ → ℕ → Ballot → ℕ → List (CountedPromise B) → List (Packet B)
prepares_again members me b first promises = map (packet me (Prepare b first)) (filter (λ k. not (is_counted promises k)) (others me members))
