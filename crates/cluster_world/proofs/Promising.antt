-- The ballot of a rescue that the helpers promise: after their promises the node leads, and proposed what they call for.
use Rattle.std.proofs.Common.{◌≡◌, ℕ, suc, ◌+◌, ◌<◌, ◌≤◌, Bool, true, sym, ap, ◌∙◌, subst, List, [], ◌∷◌, ◌++◌, length, arith}
use Rattle.std.specs.Prelude.{max, fold}
use Rattle.std.specs.List.{flat_map}
use Rattle.std.proofs.lemmas.List.{append-nil}
use Rattle.cluster_world.proofs.AtOnce.{AtRest, settle_rest}
use Rattle.cluster_world.proofs.EveryWorld.{all_stay}
use Rattle.cluster_world.proofs.Leading.{Bids, IsIn, AreBelow, hears_promise}
use Rattle.cluster_world.proofs.Looking.{up_stepped, promises_it}
use Rattle.cluster_world.proofs.Playing.{stepped, Moved, reached, answers, Visited, AllVisited, all_visited}
use Rattle.cluster_world.specs.Has.{Has, here}
use Rattle.paxos_packets.specs.Body.{IsEquality}
use Rattle.paxos_packets.specs.Packet.{packet}
use Rattle.paxos_packets.specs.Snapshot.{floor_in}
use Rattle.paxos_packets.specs.Vote.{put_votes, votes_from}
use Rattle.paxos_packets.specs.declared.ballot.Ballot.{Ballot}
use Rattle.paxos_packets.specs.declared.packet.Kind.{Kind}
use Rattle.paxos_packets.specs.declared.packet.Kind.TheVariants.{Prepare, Promise}
use Rattle.paxos_packets.specs.declared.packet.Packet.{Packet}
use Rattle.paxos_packets.specs.declared.vote.Vote.{Vote}
use Rattle.paxos_acceptor.specs.Acceptor.{may_promise, promise_of}
use Rattle.paxos_proposer.specs.Proposer.{slot_end}
use Rattle.paxos_proposer.specs.Role.{Role}
use Rattle.paxos_node.specs.declared.event.Event.{Event}
use Rattle.paxos_node.specs.declared.event.Event.TheVariants.{Deliver}
use Rattle.paxos_learner.specs.Learner.{run_from}
use Rattle.paxos_node.specs.Applying.{settle}
use Rattle.paxos_node.specs.Events.{outcome_of}
use Rattle.paxos_planning.specs.Node.{NodeState, Plan, log_length}
use Rattle.paxos_planning.specs.Plan.{begun}
use Rattle.paxos_planning.specs.Replies.{saw, on_promise_as}
use Rattle.cluster_world.specs.World.{World, node_at, next, play}
use Rattle.world_rescue.specs.Course as course
use Rattle.cluster_world.specs.Rescue.{Apart}
use Rattle.world_rescue.specs.Course.{Seat, floor_of, votes_then, promises}

module _ {B : Type 0} (same : B → B → Bool) (equal : IsEquality same) (members : ℕ) (many : 2 ≤ members) (n : ℕ) (low : n < 8) (round : ℕ)
    (votes : List (Vote B)) (y : NodeState B) (rest : AtRest y) (first past most : ℕ) (from : first ≤ past)
    (base : ℕ) (is_base : floor_in y.rows.snapshot ≡ base) (base_under : base < first) (room : past + length y.pending ≤ most)
    (slots : most ≤ slot_end) (cast : List (Vote B)) (now : Seat B → NodeState B) where
  abbrev pub ballot : Ballot
  ballot = record { round = round; node = n }

  -- what is known of the node as the promises come
  pub record Knows (w : World B) (r : Role B) : Type 0 where
    pub bids : Bids same members many n low ballot votes y (node_at w.nodes n) w.sent r
    pub is_in : IsIn ballot first past most r

  abbrev pub question : Seat B → Packet B
  question s = packet n (Prepare ballot first) s.number

  abbrev pub answer : Seat B → Packet B
  answer s = packet s.number (Promise ballot (floor_of s) (votes_then first cast s)) n

  abbrev pub promise_then : Seat B → NodeState B
  promise_then s = stepped same members (Deliver (question s)) (now s)

  abbrev pub promise_turn : Seat B → Role B → Role B
  promise_turn s r = course.hears same members (log_length y) y.pending ballot s.number (floor_of s) (votes_then first cast s) base r

  -- what is known of a helper before it is asked
  pub record Due (w : World B) (s : Seat B) : Type 0 where
    pub asked : Has w.sent (question s)
    pub up_is : (now s).up ≡ true
    pub rests : AtRest (now s)
    pub may : may_promise (now s).rows.promised ballot ≡ true
    pub votes_are : (now s).rows.votes ≡ put_votes cast s.node.rows.votes
    pub same_base : (now s).rows.snapshot ≡ s.node.rows.snapshot
    pub under : floor_of s < first
    pub below : AreBelow past (votes_then first cast s)

  abbrev Visit : World B → World B → Seat B → Role B → Type 0
  Visit w v s r = Visited same members n Knows now promise_then (promises ballot first cast) promise_turn Due s r w v

  -- the node as a packet comes, once more was sent
  seeing : (kind : Kind B) (x : NodeState B) (all more : List (Packet B)) (r : Role B) → ((p : Packet B) → Has all p → Has more p)
      → Bids same members many n low ballot votes y x all r → Bids same members many n low ballot votes y (saw kind x) more r
  seeing kind x all more r wider ok =
      record {
        up = ok.up;
        boot = ok.boot;
        base = ok.base;
        promised = ok.promised;
        cast = ok.cast;
        role = ok.role;
        level = ok.level;
        above = ok.above;
        learned = ok.learned;
        log = ok.log;
        pending = ok.pending;
        taken = ok.taken;
        own = ok.own;
        eights = ok.eights;
        heard = ok.heard;
        mine = ok.mine;
        out = λ v h k m d. wider _ (ok.out v h k m d);
      }

  visit : (w : World B) (s : Seat B) (r : Role B) → (s.number ≡ n → ⊥) → Due w s → node_at w.nodes s.number ≡ now s → Knows w r
      → Visit w (play same members (promises ballot first cast s) w) s (promise_turn s r)
  visit w s r apart due is knows =
      record {
        helper = back.others s.number apart ∙ (m.mine ∙ ap (λ x. stepped same members (Deliver (question s)) x) is);
        own = record { bids = after; is_in = heard.1 };
        others = λ j d g. back.others j d ∙ m.others j g;
      }
    where
      vs : List (Vote B)
      vs = votes_then first cast s

      u : World B
      u = next same members w (Deliver (question s))

      v : World B
      v = next same members u (Deliver (answer s))

      m : Moved same members w u (Deliver (question s))
      m = reached same members equal w (question s) due.asked

      -- its floor is below the first slot, so all its votes from there on
      answered : promise_of (now s).rows ballot first ≡ Promise ballot (floor_of s) vs
      answered =
          λ i. Promise ballot (floor_in (due.same_base i)) (votes_from (from_first i) (due.votes_are i))
        where
          from_first : max first (suc (floor_in (now s).rows.snapshot)) ≡ first
          from_first = ap (λ k. max first (suc (floor_in k))) due.same_base ∙ least first (floor_of s) due.under
            where
              least : (a f : ℕ) → f < a → max a (suc f) ≡ a
              least a f l = omega arith

      sent : Has u.sent (answer s)
      sent =
          answers same members equal w (question s) (answer s) due.asked (ap (λ (x : NodeState B). x.up) is ∙ due.up_is)
          (subst (λ x. Has (outcome_of same members (Deliver (question s)) x).packets (answer s)) (sym is)
          (subst (λ (o : Plan B). Has o.packets (answer s)) (sym (promises_it same members n s.number first ballot
          (now s) due.rests due.may))
          (subst (λ z. Has (packet s.number z n ∷ []) (answer s)) (sym answered) here)))

      back : Moved same members u v (Deliver (answer s))
      back = reached same members equal u (answer s) sent

      x : NodeState B
      x = node_at u.nodes n

      is_x : x ≡ node_at w.nodes n
      is_x = m.others n (λ i. apart (sym i))

      t : Plan B
      t = record (begun x) { node = saw (Promise ballot (floor_of s) vs) x }

      heard : Bids same members many n low ballot votes y (on_promise_as same members n s.number ballot (floor_of s) vs r t).node
          (u.sent ++ (on_promise_as same members n s.number ballot (floor_of s) vs r t).packets) (promise_turn s r)
          × IsIn ballot first past most (promise_turn s r)
      heard =
          hears_promise same members many n low ballot votes y u.sent s.number (floor_of s) base first past most vs r t
          (seeing (Promise ballot (floor_of s) vs) x w.sent (u.sent ++ []) r
          (λ p h. subst (λ l. Has l p) (sym (append-nil u.sent)) (m.stay p h))
          (subst (λ z. Bids same members many n low ballot votes y z w.sent r) (sym is_x) knows.bids))
          knows.is_in from due.below due.under is_base base_under room slots

      o : Plan B
      o = on_promise_as same members n s.number ballot (floor_of s) vs r t

      role_is : x.proposer.role ≡ r
      role_is = ap (λ (z : NodeState B). z.proposer.role) is_x ∙ knows.bids.role

      outcome_is : outcome_of same members (Deliver (answer s)) x ≡ o
      outcome_is =
          ap (λ z. settle n (on_promise_as same members n s.number ballot (floor_of s) vs z t)) role_is
          ∙ settle_rest n o ((λ i. run_from (suc (floor_in (heard.0.base i) + length (heard.0.log i))) (heard.0.learned i)) ∙ rest)

      up_x : x.up ≡ true
      up_x = ap (λ (z : NodeState B). z.up) is_x ∙ knows.bids.up

      after : Bids same members many n low ballot votes y (node_at v.nodes n) v.sent (promise_turn s r)
      after =
          subst (λ z. Bids same members many n low ballot votes y z v.sent (promise_turn s r))
          (sym (back.mine ∙ (up_stepped same members (answer s) x up_x ∙ ap (λ (z : Plan B). z.node) outcome_is)))
          (subst (λ l. Bids same members many n low ballot votes y o.node l (promise_turn s r))
          (sym (back.sends up_x ∙ ap (λ (z : Plan B). u.sent ++ z.packets) outcome_is)) heard.0)

  due_on : (w : World B) (s : Seat B) (es : List (Event B)) → Due w s → Due (play same members es w) s
  due_on w s es d =
      record {
        asked = all_stay same members es w (question s) d.asked;
        up_is = d.up_is;
        rests = d.rests;
        may = d.may;
        votes_are = d.votes_are;
        same_base = d.same_base;
        under = d.under;
        below = d.below;
      }

  -- all helpers promised
  pub promise_all : (seats : List (Seat B)) (w : World B) (r : Role B) → Apart n seats → ((s : Seat B) → Has seats s → Due w s)
      → ((s : Seat B) → Has seats s → node_at w.nodes s.number ≡ now s) → Knows w r
      → AllVisited same members n Knows now promise_then (promises ballot first cast) promise_turn Due seats
      (fold (λ z s. promise_turn s z) r seats) w (play same members (flat_map (promises ballot first cast) seats) w)
  promise_all seats w r apart due is knows =
      all_visited same members n Knows now promise_then (promises ballot first cast) promise_turn Due due_on visit seats w r apart due is
      knows
