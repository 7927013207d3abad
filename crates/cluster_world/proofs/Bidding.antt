-- The ballot that the helpers promise, from its start on: the node leads then, and each helper has promised it.
use Rattle.std.proofs.Common.{◌≡◌, ⊎_elim, ℕ, suc, ◌+◌, ◌<◌, ◌≤◌, Bool, true, false, ◌||◌, eqb, refl, sym, ap, ◌∙◌, subst, arith}
use Rattle.std.proofs.Common.{List, [], ◌∷◌, length}
use Rattle.std.specs.Prelude.{max, fold}
use Rattle.std.proofs.lemmas.List.{append-nil}
use Rattle.std.proofs.lemmas.Bool.{or_cases, eqb-true}
use Rattle.cluster_world.proofs.AtOnce.{AtRest, alone_is_few}
use Rattle.cluster_world.proofs.Casting.{HeardOwn, AreEights}
use Rattle.cluster_world.proofs.Electing.{elected}
use Rattle.cluster_world.proofs.Leading.{AreBelow}
use Rattle.cluster_world.proofs.Lists.{has_nil, has_one}
use Rattle.cluster_world.proofs.Opening.{Started, started_in}
use Rattle.cluster_world.proofs.Passing.{among}
use Rattle.cluster_world.proofs.Playing.{none_is, AllVisited}
use Rattle.cluster_world.proofs.Promising.{Knows, Due, promise_then, promise_turn, promise_all}
use Rattle.cluster_world.specs.Has.{Has}
use Rattle.paxos_packets.specs.Body.{IsEquality}
use Rattle.paxos_packets.specs.Members.{IsMember, is_majority}
use Rattle.paxos_packets.specs.Snapshot.{floor_in}
use Rattle.paxos_packets.specs.Vote.{put_votes, votes_from}
use Rattle.paxos_packets.specs.declared.ballot.Ballot.{Ballot}
use Rattle.paxos_packets.specs.declared.vote.Vote.{Vote}
use Rattle.paxos_acceptor.specs.Acceptor.{may_promise}
use Rattle.paxos_proposer.specs.declared.promises.CountedPromise.{CountedPromise}
use Rattle.paxos_proposer.specs.Proposer.{round_of, round_end, slot_end, new_ballot, asking, is_leading}
use Rattle.paxos_proposer.specs.Role.{Role}
use Rattle.paxos_node.specs.declared.event.Event.TheVariants.{Start}
use Rattle.paxos_planning.specs.Node.{NodeState, log_length}
use Rattle.cluster_world.specs.World.{World, node_at, next, play}
use Rattle.world_rescue.specs.Course.{Seat, floor_of, votes_then, promises, lead, led}
use Rattle.cluster_world.specs.Rescue.{Apart}

module _ {B : Type 0} (same : B → B → Bool) (equal : IsEquality same) (members : ℕ) (many : 2 ≤ members) (n : ℕ)
    (member : IsMember members n)
    (low : n < 8) (u : World B) (own : Seat B) (number : own.number ≡ n) (seats : List (Seat B)) (apart : Apart n seats)
    (others : (s : Seat B) → Has seats s → IsMember members s.number) (now : Seat B → NodeState B)
    (are : (s : Seat B) → Has seats s → node_at u.nodes s.number ≡ now s) (ups : (s : Seat B) → Has seats s → (now s).up ≡ true)
    (rests : (s : Seat B) → Has seats s → AtRest (now s)) (up : (node_at u.nodes n).up ≡ true) (rest : AtRest (node_at u.nodes n))
    (seen : ℕ) (is_seen : (node_at u.nodes n).proposer.seen ≡ seen) (sees : round_of (node_at u.nodes n).rows.promised ≤ seen)
    (rounds : suc seen < round_end) (cast : List (Vote B)) (past most : ℕ) where
  abbrev pub x : NodeState B
  x = node_at u.nodes n

  abbrev pub first : ℕ
  first = suc (log_length x)

  abbrev pub ballot : Ballot
  ballot = record { round = suc seen; node = n }

  abbrev pub v : World B
  v = next same members u (Start n)

  abbrev pub y : NodeState B
  y = node_at v.nodes n

  pub new_is : new_ballot n x.rows.promised x.proposer ≡ ballot
  new_is = λ i. record { round = suc (greatest i); node = n }
    where
      greatest : max x.proposer.seen (round_of x.rows.promised) ≡ seen
      greatest = ap (λ k. max k (round_of x.rows.promised)) is_seen ∙ more (round_of x.rows.promised) sees
        where
          more : (r : ℕ) → r ≤ seen → max seen r ≡ seen
          more r l = omega arith

  pub started : Started same equal members n member u v ballot
  started = started_in same equal members n member u ballot up rest new_is rounds

  pub rest_y : AtRest y
  rest_y = subst (λ z. AtRest z) (sym started.own) rest

  module _ (from : first ≤ past) (room : past + length y.pending ≤ most) (slots : most ≤ slot_end)
      (mays : (s : Seat B) → Has seats s → may_promise (now s).rows.promised ballot ≡ true)
      (votes_are : (s : Seat B) → Has seats s → (now s).rows.votes ≡ put_votes cast s.node.rows.votes)
      (own_votes : votes_from first x.rows.votes ≡ votes_then first cast own)
      (bases : (s : Seat B) → Has seats s → (now s).rows.snapshot ≡ s.node.rows.snapshot)
      (unders : (s : Seat B) → Has seats s → floor_of s < first) (base : x.rows.snapshot ≡ own.node.rows.snapshot)
      (belows : (s : Seat B) → Has seats s → AreBelow past (votes_then first cast s))
      (own_below : AreBelow past (votes_then first cast own))
      (level : x.learner.floor ≡ floor_in x.rows.snapshot) (heard : HeardOwn ballot n x.learner) (eights : AreEights x.learner.heard)
      (enough : is_majority members (among (fold (λ ks s. s.number ∷ ks) (n ∷ []) seats)) ≡ true) where
    base_y : y.rows.snapshot ≡ x.rows.snapshot
    base_y = ap (λ (z : NodeState B). z.rows.snapshot) started.own

    -- its floor in the course is the one that it has
    pub floor_y : floor_in y.rows.snapshot ≡ floor_of own
    floor_y = ap (λ k. floor_in k) (base_y ∙ base)

    own_floor : floor_in x.rows.snapshot ≡ floor_of own
    own_floor = ap (λ k. floor_in k) base

    floor_under : floor_in x.rows.snapshot < first
    floor_under = go (floor_in x.rows.snapshot) (length x.applied)
      where
        go : (a c : ℕ) → a < suc (a + c)
        go a c = omega arith

    pub base_under : floor_of own < first
    base_under = subst (λ k. k < first) own_floor floor_under

    abbrev pub KnowsIt : World B → Role B → Type 0
    KnowsIt w r =
        Knows same equal members many n low (suc seen) x.rows.votes y rest_y first past most from (floor_of own) floor_y base_under room slots
        cast now w r

    first_role : asking n ballot first (floor_in x.rows.snapshot) (votes_from first x.rows.votes)
        ≡ asking own.number ballot first (floor_of own) (votes_then first cast own)
    first_role = λ i. asking (sym number i) ballot first (own_floor i) (own_votes i)

    knows : KnowsIt v (asking n ballot first (floor_in x.rows.snapshot) (votes_from first x.rows.votes))
    knows =
        record {
          bids = record {
            up = ap (λ (z : NodeState B). z.up) started.own ∙ up;
            boot = refl;
            base = refl;
            promised = ap (λ (z : NodeState B). z.rows.promised) started.own;
            cast = ap (λ (z : NodeState B). z.rows.votes) started.own;
            role = ap (λ (z : NodeState B). z.proposer.role) started.own;
            level = ap (λ (z : NodeState B). z.learner.floor) started.own ∙ (level ∙ ap (λ k. floor_in k) (sym base_y));
            above = tt;
            learned = refl;
            log = refl;
            pending = refl;
            taken = refl;
            own = subst (λ (z : NodeState B). HeardOwn ballot n z.learner) (sym started.own) heard;
            eights = subst (λ (z : NodeState B). AreEights z.learner.heard) (sym started.own) eights;
            heard = λ w h. absurd (has_nil h);
            mine = λ w h. absurd (has_nil h);
            out = λ w h. absurd (has_nil h);
          };
          is_in = (
            refl,
            refl,
            subst (λ l. AreBelow past l) (sym (append-nil (votes_from first x.rows.votes)))
                (subst (λ l. AreBelow past l) (sym own_votes) own_below),
            λ d h. subst (λ (z : CountedPromise B). z.floor < first) (has_one h) floor_under,
          );
        }

    -- after the promises
    pub bid : AllVisited same members n KnowsIt now
        (promise_then same equal members many n low (suc seen) x.rows.votes y rest_y first past most from (floor_of own) floor_y base_under room slots
        cast now)
        (promises ballot first cast)
        (promise_turn same equal members many n low (suc seen) x.rows.votes y rest_y first past most from (floor_of own) floor_y base_under room slots
        cast now)
        (Due same equal members many n low (suc seen) x.rows.votes y rest_y first past most from (floor_of own) floor_y base_under room slots
        cast now) seats
        (led same members (log_length y) y.pending ballot first cast own seats) v (play same members (lead ballot first cast seats) u)
    bid =
        promise_all same equal members many n low (suc seen) x.rows.votes y rest_y first past most from (floor_of own) floor_y base_under room slots
        cast now seats v
        (asking own.number ballot first (floor_of own) (votes_then first cast own)) apart
        (λ s h. record {
          asked = started.asked s.number (others s h) (none_is n seats apart s h);
          up_is = ups s h;
          rests = rests s h;
          may = mays s h;
          votes_are = votes_are s h;
          same_base = bases s h;
          under = unders s h;
          below = belows s h;
        })
        (λ s h. started.others s.number (none_is n seats apart s h) ∙ are s h)
        (subst (λ r. KnowsIt v r) first_role knows)

    -- the node leads
    pub leads : is_leading (led same members (log_length y) y.pending ballot first cast own seats) ≡ true
    leads =
        elected same members (log_length y) y.pending ballot first (floor_of own) own.number (votes_then first cast own)
        (λ s. votes_then first cast s) seats
        (alone_is_few members many (λ j. eqb own.number j || false) own.number alone)
        (subst (λ k. is_majority members (among (fold (λ ks s. s.number ∷ ks) (k ∷ []) seats)) ≡ true) (sym number) enough)
      where
        alone : (j : ℕ) → (eqb own.number j || false) ≡ true → j ≡ own.number
        alone j t = ⊎_elim (λ e. sym (eqb-true own.number j e)) (λ e. absurd (off e)) (or_cases (eqb own.number j) false t)
          where
            off : false ≡ true → ⊥
            off e = cc
