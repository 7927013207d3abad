-- How a rescue begins: a ballot of the node, in which it sees what the helpers promised.
use Rattle.std.proofs.Common.{◌≡◌, ℕ, suc, ◌<◌, ◌≤◌, Bool, true, not, refl, sym, ap, ◌∙◌, subst, arith, List, ◌++◌}
use Rattle.std.specs.Prelude.{max, nat_lt}
use Rattle.std.proofs.lemmas.Bool.{cond-true, lt-ltb}
use Rattle.cluster_world.proofs.AtOnce.{AtRest, settle_rest}
use Rattle.cluster_world.proofs.Casting.{sent_to}
use Rattle.cluster_world.proofs.Lists.{has_right}
use Rattle.cluster_world.proofs.Looking.{Looked, Sees, Due, looks, look_then, look_turn}
use Rattle.cluster_world.proofs.Playing.{stepped, Moved, moved, none_is, AllVisited}
use Rattle.cluster_world.specs.Has.{Has}
use Rattle.paxos_packets.specs.Body.{IsEquality}
use Rattle.paxos_packets.specs.Members.{IsMember}
use Rattle.paxos_packets.specs.Packet.{packet}
use Rattle.paxos_packets.specs.Snapshot.{floor_in}
use Rattle.paxos_packets.specs.Vote.{votes_from}
use Rattle.paxos_packets.specs.declared.ballot.Ballot.{Ballot}
use Rattle.paxos_packets.specs.declared.packet.Kind.TheVariants.{Prepare}
use Rattle.paxos_acceptor.specs.Acceptor.{with_promise}
use Rattle.paxos_proposer.specs.Proposer.{round_of, round_end, new_ballot, asking}
use Rattle.paxos_node.specs.declared.event.Event.TheVariants.{Start, Deliver}
use Rattle.paxos_node.specs.Applying.{settle}
use Rattle.paxos_node.specs.Events.{outcome_of}
use Rattle.paxos_planning.specs.Node.{NodeState, Plan, log_length}
use Rattle.paxos_planning.specs.Plan.{begun}
use Rattle.paxos_planning.specs.Starting.{begin, starts}
use Rattle.cluster_world.specs.World.{World, node_at, next, play}
use Rattle.world_rescue.specs.Course.{Seat, asked_in_vain, look, seen_then}
use Rattle.cluster_world.specs.Rescue.{Apart}

-- a node that has begun the ballot
abbrev pub in_ballot : {B : Type 0} → ℕ → Ballot → NodeState B → NodeState B
in_ballot n b x =
    record x {
      rows = with_promise b x.rows;
      proposer = record {
        role = asking n b (suc (log_length x)) (floor_in x.rows.snapshot) (votes_from (suc (log_length x)) x.rows.votes);
        seen = max x.proposer.seen b.round;
      };
    }

module _ {B : Type 0} (same : B → B → Bool) (equal : IsEquality same) (members n : ℕ) (member : IsMember members n) where
  -- a start: the round of the new ballot is one above what the node saw, if it saw what it promised
  pub record Started (w v : World B) (b : Ballot) : Type 0 where
    pub own : node_at v.nodes n ≡ in_ballot n b (node_at w.nodes n)
    pub others : (j : ℕ) → (j ≡ n → ⊥) → node_at v.nodes j ≡ node_at w.nodes j
    pub asked : (k : ℕ) → IsMember members k → (k ≡ n → ⊥)
        → Has v.sent (packet n (Prepare b (suc (log_length (node_at w.nodes n)))) k)

  pub started_in : (w : World B) (b : Ballot) → (node_at w.nodes n).up ≡ true → AtRest (node_at w.nodes n)
      → new_ballot n (node_at w.nodes n).rows.promised (node_at w.nodes n).proposer ≡ b → b.round < round_end
      → Started w (next same members w (Start n)) b
  started_in w b up rest is low =
      record {
        own = m.mine ∙ (cond-true x.up o.node x up ∙ ap (λ (z : Plan B). z.node) o_is);
        others = λ j d. m.others j d;
        asked = λ k h d. subst (λ l. Has l (packet n (Prepare b first) k))
            (sym (m.sends up ∙ ap (λ (z : Plan B). w.sent ++ z.packets) o_is))
            (has_right w.sent (sent_to members n k (Prepare b first) h d));
      }
    where
      x : NodeState B
      x = node_at w.nodes n

      first : ℕ
      first = suc (log_length x)

      o : Plan B
      o = outcome_of same members (Start n) x

      m : Moved same members w (next same members w (Start n)) (Start n)
      m = moved same members w (Start n) refl

      begun_in : Plan B
      begun_in = begin members n b first (begun x)

      may : starts n x ≡ true
      may = (λ i. not (not (nat_lt (is i).round round_end))) ∙ ap (λ t. not (not t)) (lt-ltb b.round round_end low)

      o_is : o ≡ begun_in
      o_is =
          ap (λ z. settle n z)
          (cond-true (starts n x) (begin members n (new_ballot n x.rows.promised x.proposer) first (begun x)) (begun x) may
          ∙ ap (λ c. begin members n c first (begun x)) is)
          ∙ settle_rest n begun_in rest

  -- the node and the helpers, once they were asked in vain
  module _ (w : World B) (seats : List (Seat B)) (apart : Apart n seats) (others : (s : Seat B) → Has seats s → IsMember members s.number)
      (are : (s : Seat B) → Has seats s → node_at w.nodes s.number ≡ s.node) (ups : (s : Seat B) → Has seats s → s.node.up ≡ true)
      (rests : (s : Seat B) → Has seats s → AtRest s.node) (up : (node_at w.nodes n).up ≡ true) (rest : AtRest (node_at w.nodes n))
      (sees : round_of (node_at w.nodes n).rows.promised ≤ (node_at w.nodes n).proposer.seen)
      (low : suc (node_at w.nodes n).proposer.seen < round_end) where
    abbrev pub ballot : Ballot
    ballot = record { round = suc (node_at w.nodes n).proposer.seen; node = n }

    abbrev pub first : ℕ
    first = suc (log_length (node_at w.nodes n))

    abbrev pub y : NodeState B
    y = in_ballot n ballot (node_at w.nodes n)

    new_is : new_ballot n (node_at w.nodes n).rows.promised (node_at w.nodes n).proposer ≡ ballot
    new_is = λ i. record { round = suc (greatest i); node = n }
      where
        greatest : max (node_at w.nodes n).proposer.seen (round_of (node_at w.nodes n).rows.promised) ≡ (node_at w.nodes n).proposer.seen
        greatest = omega arith

    started : Started w (next same members w (Start n)) ballot
    started = started_in w ballot up rest new_is low

    seen_is : max (node_at w.nodes n).proposer.seen ballot.round ≡ ballot.round
    seen_is = omega arith

    looked : Looked same members y ballot.round (node_at (next same members w (Start n)).nodes n)
    looked = record {
      role = y.proposer.role;
      is = started.own ∙ λ i. record y
          { proposer = record { role = y.proposer.role; seen = seen_is i } };
    }

    pub opens : AllVisited same members n (Sees same members equal n first ballot refl y up rest) (λ s. s.node)
        (look_then same members equal n first ballot refl y up rest) (asked_in_vain ballot first)
        (look_turn same members equal n first ballot refl y up rest) (Due same members equal n first ballot refl y up rest) seats
        (seen_then ballot seats) (next same members w (Start n)) (play same members (look ballot first seats) w)
    opens =
        looks same members equal n first ballot refl y up rest seats (next same members w (Start n)) apart
        (λ s h. record { asked = started.asked s.number (others s h) (none_is n seats apart s h); up_is = ups s h; rests = rests s h })
        (λ s h. started.others s.number (none_is n seats apart s h) ∙ are s h)
        (record { least = omega arith; node = looked })

    pub own_then : Looked same members y (seen_then ballot seats) (node_at (play same members (look ballot first seats) w).nodes n)
    own_then = opens.own.node

    pub least_then : ballot.round ≤ seen_then ballot seats
    least_then = opens.own.least

    pub helpers_then : (s : Seat B) → Has seats s
        → node_at (play same members (look ballot first seats) w).nodes s.number
        ≡ stepped same members (Deliver (packet n (Prepare ballot first) s.number)) s.node
    helpers_then s h = opens.helpers s h

    pub others_then : (j : ℕ) → (j ≡ n → ⊥) → ((s : Seat B) → Has seats s → j ≡ s.number → ⊥)
        → node_at (play same members (look ballot first seats) w).nodes j ≡ node_at w.nodes j
    others_then j d g = opens.others j d g ∙ started.others j d
