-- Moves that promise nothing, vote for nothing and propose nothing new.
use Rattle.std.proofs.Common.{◌≡◌, ⊎_elim, ℕ, subst, List, ◌++◌, Option}
use Rattle.cluster_world.proofs.Order.{Reaches}
use Rattle.cluster_world.proofs.Invariant.{Sent, Known, IsChosen, Grows, PacketsOk, NodeOk, Inv, promises, KindOk}
use Rattle.cluster_world.proofs.Growth.{known_grows, safe_grows, chosen_grows, vote_of_grows, role_grows}
use Rattle.cluster_world.proofs.InvariantKept.{sent_cases, known_cases}
use Rattle.cluster_world.proofs.WithNode.{with_node, Kept, plan_moved}
use Rattle.paxos_packets.specs.Snapshot.{floor_in}
use Rattle.paxos_planning.specs.Node.{NodeState}
use Rattle.paxos_packets.specs.declared.ballot.Ballot.{Ballot}
use Rattle.paxos_packets.specs.declared.packet.Kind.{Kind}
use Rattle.paxos_packets.specs.declared.packet.Packet.{Packet}
use Rattle.paxos_packets.specs.declared.vote.Vote.{Vote}
use Rattle.paxos_packets.specs.declared.packet.Kind.TheVariants.{Prepare, Promise, Accept, Accepted, Nack, Forward, Ask, Learned, Snapshot}

-- what may be sent at any time
abbrev pub QuietKind : {B : Type 0} → ℕ → List (Packet B) → ℕ → Kind B → Type 0
QuietKind members sent n (Prepare b floor) = (b.node ≡ n) × Known sent (Prepare b floor)
QuietKind members sent n (Promise b floor votes) = ⊥
QuietKind members sent n (Accept v) = (v.ballot.node ≡ n) × Known sent (Accept v)
QuietKind members sent n (Accepted v) = ⊥
QuietKind members sent n (Nack b p) = Unit {0}
QuietKind members sent n (Forward es) = Unit {0}
QuietKind members sent n (Ask s) = Unit {0}
QuietKind members sent n (Learned s e) = IsChosen members sent s e
QuietKind members sent n (Snapshot s) = Unit {0}

module _ {B : Type 0} (members : ℕ) (promised now : ℕ → Option Ballot) (sent new : List (Packet B)) (n : ℕ)
    (g : Grows promised now sent (sent ++ new))
    (quiet : (k : ℕ) (kind : Kind B) → Sent new k kind → (k ≡ n) × QuietKind members sent n kind) where
  old_asks : (b : Ballot) (f : ℕ) → Known (sent ++ new) (Prepare b f) → Known sent (Prepare b f)
  old_asks b f p = ⊎_elim (λ a. a) (λ a. (quiet a.by (Prepare b f) a.is).1.1) (known_cases sent new p)

  old_offers : (v : Vote B) → Known (sent ++ new) (Accept v) → Known sent (Accept v)
  old_offers v p = ⊎_elim (λ a. a) (λ a. (quiet a.by (Accept v) a.is).1.1) (known_cases sent new p)

  old_votes : (k : ℕ) (v : Vote B) → Sent (sent ++ new) k (Accepted v) → Sent sent k (Accepted v)
  old_votes k v p = ⊎_elim (λ a. a) (λ a. absurd ((quiet k (Accepted v) a).1)) (sent_cases sent new p)

  kind_quiet : PacketsOk members promised sent → (kind : Kind B) → QuietKind members sent n kind → KindOk members now (sent ++ new) n kind
  kind_quiet ok (Prepare b floor) q =
      record {
        owner = q.0;
        reaches = subst (λ j. Reaches (now j) b) q.0 (g.higher b.node b (ok.asked_low b floor q.1));
        one = λ f p. ok.asked_one b f floor (old_asks b f p) q.1;
      }
  kind_quiet ok (Promise b floor votes) q = absurd q
  kind_quiet ok (Accept v) q =
      record {
        owner = q.0;
        reaches = subst (λ j. Reaches (now j) v.ballot) q.0 (g.higher v.ballot.node v.ballot (ok.low v q.1));
        safe = safe_grows g (ok.safe v q.1);
        one = λ w p s b. ok.one v w q.1 (old_offers w p) s b;
      }
  kind_quiet ok (Accepted v) q = absurd q
  kind_quiet ok (Nack b p) q = tt
  kind_quiet ok (Forward es) q = tt
  kind_quiet ok (Ask s) q = tt
  kind_quiet ok (Learned s e) q = chosen_grows g q
  kind_quiet ok (Snapshot s) q = tt

  node_quiet : (x : NodeState B) → NodeOk members promised sent n x → NodeOk members now (sent ++ new) n x
  node_quiet x ok =
      record {
        rows = record {
          reached = λ w s. ok.rows.reached w (old_votes n w s);
          tops = λ w s l. ok.rows.tops w (old_votes n w s) l;
          above = ok.rows.above;
          low = ok.rows.low;
          known = λ u h. known_grows g (ok.rows.known u h);
        };
        role = role_grows g n (λ b o f p. old_asks b f p) (λ v o p. old_offers v p) x.rows.promised (floor_in x.rows.snapshot) x.proposer.role
            ok.role;
        heard = λ t i k q. vote_of_grows g (ok.heard t i k q);
        learned = λ f i. chosen_grows g (ok.learned f i);
      }

-- a move with the same promise, to a node that was right before
pub quiet_moved : {B : Type 0} (members : ℕ) (at : ℕ → NodeState B) (n : ℕ) (x y : NodeState B) (sent new : List (Packet B))
    → Inv members (with_node at n x) sent → x.rows.promised ≡ y.rows.promised → NodeOk members (promises (with_node at n x)) sent n y
    → ((k : ℕ) (kind : Kind B) → Sent new k kind → (k ≡ n) × QuietKind members sent n kind) → Kept members at n x sent y (sent ++ new)
quiet_moved members at n x y sent new inv same ok quiet =
    plan_moved members at n x y sent new inv
    (λ b h. subst (λ o. Reaches o b) same h)
    (λ k v s. absurd ((quiet k (Accepted v) s).1))
    (λ g k kind s. (
      (quiet k kind s).0,
      kind_quiet members (promises (with_node at n x)) (promises (with_node at n y)) sent new n g quiet
          inv.packets kind ((quiet k kind s).1),
    ))
    (λ g. node_quiet members (promises (with_node at n x)) (promises (with_node at n y)) sent new n g quiet y ok)
