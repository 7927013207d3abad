-- What a leader proposed is carried to the helpers, and their votes back: it learns all of it, or goes down.
use Rattle.std.proofs.Common.{◌≡◌, inl, ℕ, ◌≤◌, ◌<◌, Bool, true, refl, sym, ap, ◌∙◌, subst, arith, List, [], ◌∷◌}
use Rattle.std.proofs.lemmas.Bool.{ltb-true}
use Rattle.std.proofs.lemmas.List.{append-nil}
use Rattle.cluster_world.proofs.AtOnce.{AtRest}
use Rattle.cluster_world.proofs.Casting.{HeardOwn}
use Rattle.cluster_world.proofs.EveryWorld.{WorldOk}
use Rattle.cluster_world.proofs.Leading.{Bids}
use Rattle.cluster_world.proofs.Lists.{has_nil, has_filter, has_passes}
use Rattle.cluster_world.proofs.Looking.{up_stepped, promises_it}
use Rattle.cluster_world.proofs.Passing.{Ready, Rode, Passed, among, counted_by, passes}
use Rattle.cluster_world.proofs.Playing.{stepped, none_is}
use Rattle.cluster_world.specs.Has.{Has}
use Rattle.paxos_packets.specs.Body.{IsEquality}
use Rattle.paxos_packets.specs.Members.{IsMember, is_majority}
use Rattle.paxos_packets.specs.Packet.{packet}
use Rattle.paxos_packets.specs.Snapshot.{floor_in}
use Rattle.paxos_packets.specs.declared.ballot.Ballot.{Ballot}
use Rattle.paxos_packets.specs.declared.packet.Kind.TheVariants.{Prepare}
use Rattle.paxos_packets.specs.declared.vote.Vote.{Vote}
use Rattle.paxos_acceptor.specs.Acceptor.{may_promise}
use Rattle.paxos_proposer.specs.Proposals.{behind}
use Rattle.paxos_proposer.specs.Proposing.{proposals_of}
use Rattle.paxos_proposer.specs.Role.{Role}
use Rattle.paxos_node.specs.declared.event.Event.TheVariants.{Deliver}
use Rattle.paxos_planning.specs.Node.{NodeState, Plan}
use Rattle.std.specs.Prelude.{nat_lt}
use Rattle.cluster_world.specs.World.{World, node_at, play}
use Rattle.world_rescue.specs.Course.{Seat, pass}
use Rattle.cluster_world.specs.Rescue.{Apart}

module _ {B : Type 0} (same : B → B → Bool) (equal : IsEquality same) (members : ℕ) (many : 2 ≤ members) (n : ℕ)
    (member : IsMember members n)
    (low : n < 8) (round : ℕ) where
  abbrev pub ballot : Ballot
  ballot = record { round = round; node = n }

  -- a helper that has just promised the ballot is ready
  pub ready_after : (y x : NodeState B) (k first : ℕ) → x.up ≡ true → AtRest x → may_promise x.rows.promised ballot ≡ true
      → x.learner.floor ≡ floor_in x.rows.snapshot → HeardOwn ballot k x.learner
      → Ready same equal members many n member round y k x.rows.snapshot x.rows.votes
      (stepped same members (Deliver (packet n (Prepare ballot first) k)) x)
  ready_after y x k first up rest may level own =
      subst (λ z. Ready same equal members many n member round y k x.rows.snapshot x.rows.votes z)
      (sym (up_stepped same members (packet n (Prepare ballot first) k) x up
      ∙ ap (λ (o : Plan B). o.node) (promises_it same members n k first ballot x rest may)))
      (record { up = up; promised = refl; votes_are = refl; given_is = refl; level = level; own = own; rests = rest })

  -- the leader's proposals are passed on
  module _ (p : World B) (ok : WorldOk members p) (votes : List (Vote B)) (y : NodeState B) (r : Role B)
      (bids : Bids same members many n low ballot votes y (node_at p.nodes n) p.sent r) (seats : List (Seat B)) (apart : Apart n seats)
      (others : (s : Seat B) → Has seats s → IsMember members s.number) (lows : (s : Seat B) → Has seats s → s.number < 8)
      (enough : is_majority members (among (n ∷ counted_by seats)) ≡ true) where
    abbrev pub x : NodeState B
    x = node_at p.nodes n

    rode : Rode same equal members many n member round x x []
    rode =
        record {
          es = [];
          ride = record {
            up = bids.up;
            rows = refl;
            level = bids.level ∙ ap (λ o. floor_in o) (sym bids.base);
            role = refl;
            taken = refl;
            log = sym (append-nil x.applied);
            pending = refl;
            stands = refl;
            eights = bids.eights;
            heard = λ q j h. h;
            learned = λ slot h. h;
          };
          done = λ v h. absurd (has_nil h);
        }

    pub carries : (applied : ℕ) → floor_in x.rows.snapshot ≤ applied
        → ((s : Seat B) → Has seats s → floor_in (node_at p.nodes s.number).rows.snapshot ≤ applied)
        → ((s : Seat B) → Has seats s
        → Ready same equal members many n member round x s.number (node_at p.nodes s.number).rows.snapshot (node_at p.nodes s.number).rows.votes
        (node_at p.nodes s.number))
        → Passed same equal members many n member round x seats (λ k. (node_at p.nodes k).rows.snapshot) (λ k. (node_at p.nodes k).rows.votes)
        (behind applied (proposals_of r)) [] p (play same members (pass n seats (behind applied (proposals_of r))) p)
    carries applied low' lows' ready =
        passes same equal members many n member round x seats apart lows enough (behind applied (proposals_of r)) []
        (λ k. (node_at p.nodes k).rows.snapshot) (λ k. (node_at p.nodes k).rows.votes) p (λ v h. bids.mine v (in_all v h))
        (λ v h. further (floor_in x.rows.snapshot) applied v.slot low' (after v h))
        (λ v h. bids.heard v (in_all v h))
        (λ v s h i. bids.out v (in_all v h) s.number (others s i) (none_is n seats apart s i))
        (λ v s h i. further (floor_in (node_at p.nodes s.number).rows.snapshot) applied v.slot (lows' s i) (after v h)) ready
        (record { ok = ok; fate = inl rode })
      where
        further : (f a s : ℕ) → f ≤ a → a < s → f < s
        further f a s l h = omega arith

        after : (v : Vote B) → Has (behind applied (proposals_of r)) v → applied < v.slot
        after v h = ltb-true applied v.slot (has_passes (λ (w : Vote B). nat_lt applied w.slot) (proposals_of r) h)

        in_all : (v : Vote B) → Has (behind applied (proposals_of r)) v → Has (proposals_of r) v
        in_all v h = has_filter (λ (w : Vote B). nat_lt applied w.slot) (proposals_of r) h
