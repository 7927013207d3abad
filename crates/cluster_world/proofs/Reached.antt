-- What holds of each node of a world that events lead to, as the passes of a rescue ask for it.
use Rattle.std.proofs.Common.{◌≡◌, ⊎_elim, ℕ, zero, suc, ◌<◌, ◌≤◌, Bool, true, false, refl, sym, subst, arith, List, [], ◌∷◌, length, Some}
use Rattle.std.specs.Prelude.{slice_get}
use Rattle.std.proofs.lemmas.Bool.{cond_both, cond-true, cases_Bool, cases_eq, cases_lt, or_left, lt-ltb}
use Rattle.cluster_world.proofs.Agreeing.{log_is_chosen}
use Rattle.cluster_world.proofs.Taking.{in_every}
use Rattle.cluster_world.proofs.Casting.{HeardOwn, AreEights, eights_more}
use Rattle.cluster_world.proofs.EveryWorld.{within, node_same, node_other}
use Rattle.cluster_world.proofs.Fates.{count_heard}
use Rattle.cluster_world.proofs.Holding.{majorities_hold, new_ballots_are_fresh}
use Rattle.cluster_world.proofs.Learning.{all_keep}
use Rattle.cluster_world.proofs.Lists.{has_nil, has_filter}
use Rattle.cluster_world.proofs.Taking.{founded_each}
use Rattle.cluster_world.proofs.Taking.{by_next, nodes_length}
use Rattle.cluster_world.specs.Has.{Has}
use Rattle.paxos_node.proofs.Seeing.{stays_seen}
use Rattle.paxos_packets.specs.Ballot.{below}
use Rattle.paxos_packets.specs.Body.{IsEquality}
use Rattle.paxos_packets.specs.Members.{IsMember, IsMajority}
use Rattle.paxos_packets.specs.Snapshot.{floor_in}
use Rattle.paxos_packets.specs.declared.ballot.Ballot.{Ballot}
use Rattle.paxos_packets.specs.declared.entry.Entry.{Entry}
use Rattle.paxos_packets.specs.declared.vote.Vote.{Vote}
use Rattle.paxos_acceptor.specs.Acceptor.{may_promise}
use Rattle.paxos_learner.specs.Learned.{is_closed}
use Rattle.paxos_learner.specs.Learner.{LearnerState, hears, is_known, learn_chosen, put_learned}
use Rattle.paxos_proposer.specs.Proposer.{round_of}
use Rattle.paxos_node.specs.Laws.{SeesItsBallots}
use Rattle.paxos_node.specs.Events.{owner, outcome_of}
use Rattle.paxos_node.specs.declared.event.Event.{Event}
use Rattle.paxos_node.specs.declared.event.Event.TheVariants.{Tick}
use Rattle.paxos_planning.specs.Node.{Plan}
use Rattle.cluster_world.specs.World.{World, node_at, put_node, first_world, next, played, log_of}

off : false ≡ true → ⊥
off e = cc

pub at_least_none : (k : ℕ) → 0 ≤ k
at_least_none k = omega arith

-- a ballot of a higher round is above
pub round_below : (a b : Ballot) → a.round < b.round → below a b ≡ true
round_below a b l = or_left _ _ (lt-ltb a.round b.round l)

module _ {B : Type 0} (same : B → B → Bool) (members : ℕ) (events : List (Event B)) where
  abbrev w : World B
  w = played same members events

  -- a node that is up is a member
  pub is_member_up : (k : ℕ) → (node_at w.nodes k).up ≡ true → IsMember members k
  is_member_up k u =
      let i = within w.nodes (Tick k) k u in
      subst (λ j. IsMember members j) (sym i.is) (low i.i, high i.i (subst (λ l. i.i < l) (nodes_length same members events) i.low))
    where
      low : (i : ℕ) → 1 ≤ suc i
      low i = omega arith

      high : (i : ℕ) → i < members → suc i ≤ members
      high i l = omega arith

  -- each tally has room for all numbers of nodes
  pub all_eights : (k : ℕ) → AreEights (node_at w.nodes k).learner.heard
  all_eights k =
      all_keep same members (λ floor (l : LearnerState B). AreEights l.heard) (λ floor. record { each = λ t h. absurd (has_nil h) })
      (λ f j v l ok. ⊎_elim
      (λ c. subst (λ (m : LearnerState B). AreEights m.heard) (sym (cond-true (is_closed l.floor v.slot) l (learn_chosen members v (hears j v l)) c)) ok)
      (λ c. subst (λ hs. AreEights hs) (sym (count_heard members j v l c)) (eights_more j v l ok))
      (cases_Bool (is_closed l.floor v.slot)))
      (λ f slot e l ok. cond_both (is_known slot l) l (record l { learned = put_learned (record { slot = slot; entry = e }) l.learned })
      (λ (m : LearnerState B). AreEights m.heard) (λ t. ok) (λ t. ok))
      (λ f floor l ok. record { each = λ t h. ok.each t (has_filter _ l.heard h) })
      events k

  -- a node that is up saw what it promised
  abbrev AllSee : World B → Type 0
  AllSee v = (k : ℕ) → SeesItsBallots (node_at v.nodes k)

  next_sees : (v : World B) (e : Event B) → AllSee v → AllSee (next same members v e)
  next_sees v e all =
      by_next same members (λ z. AllSee z) v e all
      (λ m k. ⊎_elim
      (λ (i : k ≡ owner e). subst (λ j. SeesItsBallots (node_at (put_node v.nodes (owner e) o.node) j)) (sym i)
      (subst (λ x. SeesItsBallots x) (sym (node_same v.nodes (owner e) o.node (within v.nodes e (owner e) m.1)))
      (stays_seen same members e (node_at v.nodes (owner e)) (all (owner e)) m.1)))
      (λ i. subst (λ x. SeesItsBallots x) (sym (node_other v.nodes (owner e) o.node k i)) (all k))
      (cases_eq k (owner e)))
    where
      o : Plan B
      o = outcome_of same members e (node_at v.nodes (owner e))

  pub sees_promise : (k : ℕ) → (node_at w.nodes k).up ≡ true → round_of (node_at w.nodes k).rows.promised ≤
      (node_at w.nodes k).proposer.seen
  sees_promise k u =
      (in_every same members (λ v. AllSee v) next_sees events (first_world members)
      (λ j. founded_each (λ i x. SeesItsBallots x) (λ i t. record { promised = at_least_none 0; under_way = at_least_none 0 })
      (λ i t. absurd (off t)) members j)
      k u).promised

  module _ (equal : IsEquality same) (many : 3 ≤ members) where
    -- in a ballot above what its node promised nobody heard a vote
    pub heard_none : (b : Ballot) → may_promise (node_at w.nodes b.node).rows.promised b ≡ true → (k : ℕ) → HeardOwn b k
        (node_at w.nodes k).learner
    heard_none b may k =
        record { only = λ t h j q e g. absurd ((new_ballots_are_fresh same equal members many events b may).unheard k j t h q e) }

    -- a log is no longer than the slots in which a majority voted
    pub log_low : (most : ℕ) (crew : ℕ → Bool) → IsMajority members crew
        → ((k : ℕ) (v : Vote B) → crew k ≡ true → Has (node_at w.nodes k).rows.votes v → v.slot ≤ most)
        → ((k : ℕ) → crew k ≡ true → floor_in (node_at w.nodes k).rows.snapshot ≤ most) → (n : ℕ) → length (log_of w n) ≤ most
    log_low most crew enough low floors n = ⊎_elim (λ (l : most < length (log_of w n)). absurd (go l)) (λ l. l)
        (cases_lt most (length (log_of w n)))
      where
        some_at : (xs : List (Entry B)) (i : ℕ) → i < length xs → (x : Entry B) × (slice_get xs i ≡ Some x)
        some_at [] i h = absurd (omega arith)
        some_at (x ∷ xs) zero h = (x, refl)
        some_at (x ∷ xs) (suc i) h = some_at xs i (omega arith)

        above : (a : ℕ) → a ≤ most → a < suc most
        above a l = omega arith

        past : suc most ≤ most → ⊥
        past h = omega arith

        go : most < length (log_of w n) → ⊥
        go l =
            let e = some_at (log_of w n) most l in
            let k = majorities_hold same equal members many events (suc most) e.0
            (log_is_chosen same equal members many events n most e.0 e.1) crew enough
            (λ k m t. above (floor_in (node_at w.nodes k).rows.snapshot) (floors k t)) in
            past (low k.node (record { slot = suc most; ballot = k.ballot; entry = e.0 }) k.within k.has)
