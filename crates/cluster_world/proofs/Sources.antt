-- Every entry of a node and of its packets comes from what it was given: of any property of entries, kept through an event.
use Rattle.std.proofs.Common.{◌≡◌, ⊎_elim, ℕ, zero, suc, ◌+◌, ◌-◌, Bool, true, false, not, ◌&&◌, eqb, refl, sym, subst, List, [], ◌∷◌, ◌++◌}
use Rattle.std.proofs.Common.{map, Option, Some, None}
use Rattle.std.specs.Prelude.{filter, if◌then◌else◌, nat_lt, nat_le, max, take}
use Rattle.std.proofs.lemmas.Bool.{cond_both, cond-true}
use Rattle.cluster_world.proofs.Lists.{has_cons, has_nil, has_one, has_cases, has_map, has_filter}
use Rattle.cluster_world.proofs.AcceptorTests.{put_cases, has_from}
use Rattle.cluster_world.proofs.Reports.{best_has, has_reports}
use Rattle.cluster_world.proofs.Delivering.{IsOther, by_kind}
use Rattle.cluster_world.proofs.Learner.{learned_cases}
use Rattle.paxos_packets.specs.Ballot.{below, same_ballot}
use Rattle.cluster_world.specs.Has.{Has, here, there}
use Rattle.paxos_packets.specs.Members.{is_majority, others}
use Rattle.paxos_packets.specs.Packet.{packet, to_others}
use Rattle.paxos_packets.specs.Rows.{raised}
use Rattle.paxos_packets.specs.Snapshot.{floor_in}
use Rattle.paxos_packets.specs.Snapshot as taken
use Rattle.paxos_packets.specs.declared.ballot.Ballot.{Ballot}
use Rattle.paxos_packets.specs.declared.entry.Entry.{Entry}
use Rattle.paxos_packets.specs.declared.entry.Entry.TheVariants.{Noop, Boot}
use Rattle.paxos_packets.specs.declared.packet.Kind.{Kind}
use Rattle.paxos_packets.specs.declared.packet.Packet.{Packet}
use Rattle.paxos_packets.specs.declared.vote.Vote.{Vote}
use Rattle.paxos_packets.specs.declared.packet.Kind.TheVariants.{Prepare, Promise, Accept, Accepted, Nack, Forward, Ask, Learned, Snapshot}
use Rattle.paxos_acceptor.specs.Acceptor.{may_promise, may_accept, promise_of, given_by}
use Rattle.std.specs.Option.{unwrap_or}
use Rattle.paxos_proposer.specs.declared.promises.CountedPromise.{CountedPromise}
use Rattle.paxos_proposer.specs.Role.{Role, Idle, Preparing, Leading}
use Rattle.paxos_proposer.specs.Proposer.{slot_end, new_ballot, step_down, nacked, next_vote, is_leading, raised_above}
use Rattle.paxos_proposer.specs.Promises.{lowest}
use Rattle.paxos_proposer.specs.Reports.{is_counted, reports, best, past_reports, entry_or_noop, called_in, called_for}
use Rattle.paxos_learner.specs.declared.learned.LearnedEntry.{LearnedEntry}
use Rattle.paxos_learner.specs.Learner.{LearnerState}
use Rattle.paxos_learner.specs.Learned.{is_closed}
use Rattle.paxos_learner.specs.Learner.{is_known, put_learned, learn, hears, has_most, learn_chosen, count_vote, run_with, run_from}
use Rattle.paxos_node.specs.declared.event.Event.{Event}
use Rattle.paxos_node.specs.declared.event.Event.TheVariants.{Take, Tick, Start, Suspect, Deliver, Cut, Crash, Restart}
use Rattle.paxos_planning.specs.Node.{NodeState, Plan, log_length}
use Rattle.paxos_planning.specs.Plan.{with_role, with_pending, begun, voted_at, counted_at, send, promise, cast}
use Rattle.paxos_planning.specs.Proposals.{offer, propose_as, propose, propose_all, lead, stands, propose_new, propose_each, forwarded, push}
use Rattle.paxos_planning.specs.Replies.{saw, refuse, show, cast_or_show, on_prepare, on_accept, answer_ask, count_promise, on_promise_as, told_from, on_packet}
use Rattle.replica_machine.specs.declared.head.Head.{Head}
use Rattle.replica_machine.specs.Snapshot.{head_at}
use Rattle.paxos_node.specs.Applying.{started, note, ends, go_down, apply_all, settle}
use Rattle.paxos_node.specs.Snapshots.{has_boot, take_in, rest_on, on_cut, on_snapshot}
use Rattle.paxos_node.specs.Events.{takes, new_item, with_item, on_take, has_room, new_lost, deliver}
use Rattle.paxos_planning.specs.Ticking.{accepts_again, again, on_tick}
use Rattle.paxos_planning.specs.Starting.{begin, starts, on_start}
use Rattle.paxos_node.specs.Events.{suspected, outcome_of, taken_by, suspected_by, made_by}

take_has : {A : Type 0} (n : ℕ) (xs : List A) (x : A) → Has (take n xs) x → Has xs x
take_has zero xs x h = absurd (has_nil h)
take_has (suc n) [] x h = absurd (has_nil h)
take_has (suc n) (y ∷ ys) x h = ⊎_elim (λ e. subst (λ z. Has (y ∷ ys) z) e here) (λ r. there (take_has n ys x r)) (has_cons h)

-- G of entries, and F of snapshots
module _ {B : Type 0} (G : Entry B → Type 0) (F : taken.Snapshot → Type 0) where
  abbrev pub Each : List (Entry B) → Type 0
  Each es = (e : Entry B) → Has es e → G e

  abbrev pub VotesGood : List (Vote B) → Type 0
  VotesGood votes = (v : Vote B) → Has votes v → G v.entry

  abbrev pub KindGood : Kind B → Type 0
  KindGood (Prepare b floor) = Unit {0}
  KindGood (Promise b floor votes) = VotesGood votes
  KindGood (Accept v) = G v.entry
  KindGood (Accepted v) = G v.entry
  KindGood (Nack b p) = Unit {0}
  KindGood (Forward es) = (e : Entry B) → Has es e → G e
  KindGood (Ask s) = Unit {0}
  KindGood (Learned s e) = G e
  KindGood (Snapshot s) = F s

  abbrev pub SentGood : List (Packet B) → Type 0
  SentGood sent = (p : Packet B) → Has sent p → KindGood p.kind

  abbrev pub RoleGood : Role B → Type 0
  RoleGood Idle = Unit {0}
  RoleGood (Preparing b floor cs) = (c : CountedPromise B) → Has cs c → VotesGood c.votes
  RoleGood (Leading b next table) = VotesGood table

  abbrev pub LearnedGood : List (LearnedEntry B) → Type 0
  LearnedGood fs = (f : LearnedEntry B) → Has fs f → G f.entry

  pub record NodeGood (x : NodeState B) : Type 0 where
    pub based : (s : taken.Snapshot) → x.rows.snapshot ≡ Some s → F s
    pub votes : VotesGood x.rows.votes
    pub role : RoleGood x.proposer.role
    pub learned : LearnedGood x.learner.learned
    pub applied : Each x.applied
    pub pending : Each x.pending

  pub record PlanGood (t : Plan B) : Type 0 where
    pub node : NodeGood t.node
    pub out : SentGood t.packets

  each_push : (es : List (Entry B)) (x : Entry B) → Each es → G x → Each (es ++ x ∷ [])
  each_push es x f g e h = ⊎_elim (λ a. f e a) (λ a. subst (λ z. G z) (has_one a) g) (has_cases es (x ∷ []) h)

  pub sent_good : (xs ys : List (Packet B)) → SentGood xs → SentGood ys → SentGood (xs ++ ys)
  sent_good xs ys f g p h = ⊎_elim (λ a. f p a) (λ a. g p a) (has_cases xs ys h)

  one_good : (n to : ℕ) (kind : Kind B) → KindGood kind → SentGood (packet n kind to ∷ [])
  one_good n to kind k p h = subst (λ (q : Packet B). KindGood q.kind) (has_one h) k

  some_good : (n : ℕ) (ks : List ℕ) (kind : Kind B) → KindGood kind → SentGood (map (packet n kind) ks)
  some_good n ks kind k p h = let m = has_map (packet n kind) ks h in subst (λ (q : Packet B). KindGood q.kind) m.2 k

  others_good : (members n : ℕ) (kind : Kind B) → KindGood kind → SentGood (to_others members n kind)
  others_good members n kind k p h = some_good n (others n members) kind k p h

  send_good : (new : List (Packet B)) (t : Plan B) → PlanGood t → SentGood new → PlanGood (send new t)
  send_good new t ok g = record { node = ok.node; out = sent_good t.packets new ok.out g }

  role_good : (r : Role B) (seen : ℕ) (t : Plan B) → PlanGood t → RoleGood r
      → PlanGood (record t { node = record t.node { proposer = record { role = r; seen = seen } } })
  role_good r seen t ok g =
      record {
        node = record { based = ok.node.based; votes = ok.node.votes; role = g; learned = ok.node.learned; applied = ok.node.applied; pending = ok.node.pending };
        out = ok.out;
      }

  -- the learner

  learn_good : (slot : ℕ) (e : Entry B) (l : LearnerState B) → LearnedGood l.learned → G e → LearnedGood (learn slot e l).learned
  learn_good slot e l ok g =
      cond_both (is_known slot l) l (record l { learned = put_learned (record { slot = slot; entry = e }) l.learned })
      (λ (y : LearnerState B). LearnedGood y.learned) (λ t. ok)
      (λ t f h. ⊎_elim (λ s. subst (λ (z : LearnedEntry B). G z.entry) s g) (λ o. ok f o)
      (learned_cases (record { slot = slot; entry = e }) l.learned f h))

  hears_good : (k : ℕ) (v : Vote B) (l : LearnerState B) → LearnedGood l.learned → LearnedGood (hears k v l).learned
  hears_good k v l ok = ok

  count_good : (members k : ℕ) (v : Vote B) (l : LearnerState B) → LearnedGood l.learned → G v.entry → LearnedGood (count_vote members k v l).learned
  count_good members k v l ok g =
      cond_both (is_closed l.floor v.slot) l (learn_chosen members v (hears k v l)) (λ (y : LearnerState B). LearnedGood y.learned) (λ c. ok)
      (λ c. cond_both (has_most members v (hears k v l)) (learn v.slot v.entry (hears k v l)) (hears k v l)
      (λ (y : LearnerState B). LearnedGood y.learned)
      (λ t. learn_good v.slot v.entry (hears k v l) (hears_good k v l ok) g)
      (λ t. hears_good k v l ok))

  -- the acceptor

  down_good : (b : Ballot) (r : Role B) → RoleGood r → RoleGood (step_down b r)
  down_good b Idle g = tt
  down_good b (Preparing c floor cs) g = cond_both (below c b) Idle (Preparing c floor cs) (λ r. RoleGood r) (λ t. tt) (λ t. g)
  down_good b (Leading c next table) g = cond_both (below c b) Idle (Leading c next table) (λ r. RoleGood r) (λ t. tt) (λ t. g)

  voted_good : (v : Vote B) (x : NodeState B) → NodeGood x → G v.entry → NodeGood (voted_at v x)
  voted_good v x ok g =
      record {
        based = ok.based;
        votes = λ u h. ⊎_elim (λ s. subst (λ (z : Vote B). G z.entry) s g) (λ o. ok.votes u o) (put_cases v x.rows.votes u h);
        role = down_good v.ballot x.proposer.role ok.role;
        learned = ok.learned;
        applied = ok.applied;
        pending = ok.pending;
      }

  counted_good : (members k : ℕ) (v : Vote B) (x : NodeState B) → NodeGood x → G v.entry → NodeGood (counted_at members k v x)
  counted_good members k v x ok g =
      record { based = ok.based; votes = ok.votes; role = ok.role; learned = count_good members k v x.learner ok.learned g; applied = ok.applied; pending = ok.pending }

  module _ (same : B → B → Bool) (members n : ℕ) where
    cast_good : (v : Vote B) (t : Plan B) → PlanGood t → G v.entry → PlanGood (cast same members n v t)
    cast_good v t ok g =
        record {
          node = counted_good members n v (voted_at v t.node) (voted_good v t.node ok.node g) g;
          out = sent_good t.packets (to_others members n (Accepted v)) ok.out (others_good members n (Accepted v) g);
        }

    refuse_good : (from : ℕ) (b : Ballot) (t : Plan B) → PlanGood t → PlanGood (refuse n from b t)
    refuse_good from b t ok =
        send_good (packet n (Nack b (unwrap_or t.node.rows.promised b)) from ∷ []) t ok
        (one_good n from (Nack b (unwrap_or t.node.rows.promised b)) tt)

    prepare_good : (from : ℕ) (b : Ballot) (first : ℕ) (t : Plan B) → PlanGood t → PlanGood (on_prepare n from b first t)
    prepare_good from b first t ok =
        cond_both (may_promise t.node.rows.promised b) (send (packet n (promise_of t.node.rows b first) from ∷ []) (promise b t))
        (refuse n from b t) (λ u. PlanGood u)
        (λ e. record {
          node =
              record {
                based = ok.node.based;
                votes = ok.node.votes;
                role = down_good b t.node.proposer.role ok.node.role;
                learned = ok.node.learned;
                applied = ok.node.applied;
                pending = ok.node.pending;
              };
          out =
              sent_good t.packets _ ok.out
              (one_good n from (promise_of t.node.rows b first) (λ v h. ok.node.votes v (has_from low t.node.rows.votes v h)));
        })
        (λ e. refuse_good from b t ok)
      where
        low : ℕ
        low = max first (suc (floor_in t.node.rows.snapshot))

    show_good : (to : ℕ) (s : taken.Snapshot) (t : Plan B) → PlanGood t → F s → PlanGood (show n to s t)
    show_good to s t ok f = send_good (packet n (Snapshot s) to ∷ []) t ok (one_good n to (Snapshot s) f)

    -- what gives a slot is the node's snapshot
    given_good : (o : Option taken.Snapshot) (slot : ℕ) → ((s : taken.Snapshot) → o ≡ Some s → F s) → (s : taken.Snapshot)
        → given_by o slot ≡ Some s → F s
    given_good None slot f s e = absurd (never e)
      where
        never : ◌≡◌ {A = Option taken.Snapshot} None (Some s) → ⊥
        never e = cc
    given_good (Some k) slot f s e =
        cond_both (nat_le slot k.floor) (Some k) None (λ o. o ≡ Some s → F s) (λ t i. f s i) (λ t i. absurd (never i)) e
      where
        never : ◌≡◌ {A = Option taken.Snapshot} None (Some s) → ⊥
        never e = cc

    cast_or_show_good : (from : ℕ) (given : Option taken.Snapshot) (v : Vote B) (t : Plan B) → PlanGood t → G v.entry
        → ((s : taken.Snapshot) → given ≡ Some s → F s) → PlanGood (cast_or_show same members n from given v t)
    cast_or_show_good from None v t ok g f = cast_good v t ok g
    cast_or_show_good from (Some s) v t ok g f = show_good from s t ok (f s refl)

    accept_good : (from : ℕ) (v : Vote B) (t : Plan B) → PlanGood t → G v.entry → PlanGood (on_accept same members n from v t)
    accept_good from v t ok g =
        cond_both (may_accept t.node.rows.promised v.ballot) (cast_or_show same members n from (given_by t.node.rows.snapshot v.slot) v t)
        (refuse n from v.ballot t) (λ u. PlanGood u)
        (λ e. cast_or_show_good from (given_by t.node.rows.snapshot v.slot) v t ok g (given_good t.node.rows.snapshot v.slot ok.node.based))
        (λ e. refuse_good from v.ballot t ok)

    -- the proposer

    offer_good : (b : Ballot) (next : ℕ) (table : List (Vote B)) (e : Entry B) (t : Plan B) → VotesGood table → PlanGood t → G e
        → PlanGood (offer members n b next table e t)
    offer_good b next table e t rg ok g =
        record {
          node = record {
            based = ok.node.based;
            votes = ok.node.votes;
            role = λ v h. ⊎_elim (λ o. rg v o) (λ s. subst (λ (z : Vote B). G z.entry) (has_one s) g) (has_cases table (next_vote b next e ∷ []) h);
            learned = ok.node.learned;
            applied = ok.node.applied;
            pending = ok.node.pending;
          };
          out =
              sent_good t.packets (to_others members n (Accept (next_vote b next e))) ok.out (others_good members n (Accept (next_vote b next e)) g);
        }

    propose_as_good : (r : Role B) (e : Entry B) (t : Plan B) → RoleGood r → PlanGood t → G e → PlanGood (propose_as same members n r e t)
    propose_as_good Idle e t rg ok g = ok
    propose_as_good (Preparing b floor cs) e t rg ok g = ok
    propose_as_good (Leading b next table) e t rg ok g =
        cond_both (nat_lt next slot_end) (cast same members n (next_vote b next e) (offer members n b next table e t)) t (λ u. PlanGood u)
        (λ l. cast_good (next_vote b next e) (offer members n b next table e t) (offer_good b next table e t rg ok g) g)
        (λ l. ok)

    propose_good : (e : Entry B) (t : Plan B) → PlanGood t → G e → PlanGood (propose same members n e t)
    propose_good e t ok g = propose_as_good t.node.proposer.role e t ok.node.role ok g

    propose_all_good : (es : List (Entry B)) (t : Plan B) → PlanGood t → Each es → PlanGood (propose_all same members n es t)
    propose_all_good [] t ok g = ok
    propose_all_good (e ∷ es) t ok g = propose_all_good es (propose same members n e t) (propose_good e t ok (g e here)) (λ f h. g f (there h))

    propose_new_good : (e : Entry B) (t : Plan B) → PlanGood t → G e → PlanGood (propose_new same members n e t)
    propose_new_good e t ok g =
        cond_both (stands same (log_length t.node) t.node.proposer.role e) t (propose same members n e t) (λ u. PlanGood u) (λ d. ok)
        (λ d. propose_good e t ok g)

    propose_each_good : (es : List (Entry B)) (t : Plan B) → PlanGood t → Each es → PlanGood (propose_each same members n es t)
    propose_each_good [] t ok g = ok
    propose_each_good (e ∷ es) t ok g =
        propose_each_good es (propose_new same members n e t) (propose_new_good e t ok (g e here)) (λ f h. g f (there h))

    forward_good : (o : Option Ballot) (es : List (Entry B)) → Each es → SentGood (forwarded n o es)
    forward_good None es g p h = absurd (has_nil h)
    forward_good (Some b) [] g p h = absurd (has_nil h)
    forward_good (Some b) (e ∷ es) g p h =
        cond_both (eqb b.node n) [] (packet n (Forward (take 64 (e ∷ es))) b.node ∷ []) (λ l. SentGood l)
        (λ t q z. absurd (has_nil z))
        (λ t q z. subst (λ (y : Packet B). KindGood y.kind) (has_one z) (λ f i. g f (take_has 64 (e ∷ es) f i)))
        p h

    push_good : (t : Plan B) → PlanGood t → PlanGood (push same members n t)
    push_good t ok =
        cond_both (is_leading t.node.proposer.role) (propose_each same members n t.node.pending t)
        (send (forwarded n t.node.rows.promised t.node.pending) t) (λ u. PlanGood u)
        (λ d. propose_each_good t.node.pending t ok ok.node.pending)
        (λ d. send_good (forwarded n t.node.rows.promised t.node.pending) t ok (forward_good t.node.rows.promised t.node.pending ok.node.pending))

    pending_good : (pending : List (Entry B)) (taken : ℕ) (t : Plan B) → PlanGood t → Each pending
        → PlanGood (record t { node = record t.node { pending = pending; taken = taken } })
    pending_good pending taken t ok g =
        record {
          node = record { based = ok.node.based; votes = ok.node.votes; role = ok.node.role; learned = ok.node.learned; applied = ok.node.applied; pending = g };
          out = ok.out;
        }

    module _ (noop : G Noop) where
      entry_good : (slot : ℕ) (vs : List (Vote B)) → VotesGood vs → G (entry_or_noop (best slot vs))
      entry_good slot vs g = go (best slot vs) refl
        where
          go : (o : Option (Vote B)) → best slot vs ≡ o → G (entry_or_noop o)
          go None e = noop
          go (Some v) e = g v (best_has slot vs v e).0

      pub called_good : (vs : List (Vote B)) → VotesGood vs → (slot k : ℕ) (e : Entry B) → Has (called_in vs slot k) e → G e
      called_good vs g slot zero e h = absurd (has_nil h)
      called_good vs g slot (suc k) e h =
          ⊎_elim (λ s. subst (λ z. G z) s (entry_good slot vs g)) (λ o. called_good vs g (suc slot) k e o) (has_cons h)

      lead_good : (b : Ballot) (floor : ℕ) (vs : List (Vote B)) (t : Plan B) → PlanGood t → VotesGood vs → PlanGood (lead same members n b floor vs t)
      lead_good b floor vs t ok g =
          propose_all_good (called_for floor vs) (record t { node = with_role (Leading b floor []) t.node })
          (role_good (Leading b floor []) t.node.proposer.seen t ok (λ v h. absurd (has_nil h)))
          (called_good vs g floor (past_reports floor vs - floor))

      promise_as_good : (from : ℕ) (b : Ballot) (floor : ℕ) (votes : List (Vote B)) (r : Role B) (t : Plan B) → RoleGood r → PlanGood t
          → VotesGood votes → PlanGood (on_promise_as same members n from b floor votes r t)
      promise_as_good from b floor votes Idle t rg ok g = ok
      promise_as_good from b floor votes (Leading c next table) t rg ok g = ok
      promise_as_good from b floor votes (Preparing c first cs) t rg ok g =
          cond_both (same_ballot b c && not (is_counted cs from)) (count_promise same members n c first (floor_in t.node.rows.snapshot) all t) t
          (λ u. PlanGood u)
          (λ e. cond_both (is_majority members (is_counted all)) (push same members n (lead same members n c low (reports all) t))
          (record t { node = with_role (Preparing c first all) t.node }) (λ u. PlanGood u)
          (λ m. push_good (lead same members n c low (reports all) t)
          (lead_good c low (reports all) t ok (λ v h. let z = has_reports all v h in all_good z.0 z.1 v z.2)))
          (λ m. role_good (Preparing c first all) t.node.proposer.seen t ok all_good))
          (λ e. ok)
        where
          all : List (CountedPromise B)
          all = cs ++ record { node = from; floor = floor; votes = votes } ∷ []

          low : ℕ
          low = lowest first (floor_in t.node.rows.snapshot) all

          all_good : (d : CountedPromise B) → Has all d → VotesGood d.votes
          all_good d h =
              ⊎_elim (λ o. rg d o) (λ s. subst (λ (z : CountedPromise B). VotesGood z.votes) (has_one s) g)
              (has_cases cs (record { node = from; floor = floor; votes = votes } ∷ []) h)

      nacked_good : (b p : Ballot) (r : Role B) → RoleGood r → RoleGood (nacked b p r)
      nacked_good b p Idle g = tt
      nacked_good b p (Preparing c floor cs) g =
          cond_both (same_ballot b c && below c p) Idle (Preparing c floor cs) (λ r. RoleGood r) (λ t. tt) (λ t. g)
      nacked_good b p (Leading c next table) g =
          cond_both (same_ballot b c && below c p) Idle (Leading c next table) (λ r. RoleGood r) (λ t. tt) (λ t. g)

      told_good : (to slot : ℕ) (fs : List (LearnedEntry B)) → LearnedGood fs → SentGood (told_from n to slot fs)
      told_good to slot [] g p h = absurd (has_nil h)
      told_good to slot (f ∷ fs) g p h =
          ⊎_elim
          (λ a. cond_both (nat_le slot f.slot && nat_lt f.slot (slot + 64)) (packet n (Learned f.slot f.entry) to ∷ []) [] (λ l. SentGood l)
          (λ t. one_good n to (Learned f.slot f.entry) (g f here))
          (λ t q z. absurd (has_nil z))
          p a)
          (λ b. told_good to slot fs (λ z i. g z (there i)) p b)
          (has_cases (if nat_le slot f.slot && nat_lt f.slot (slot + 64) then packet n (Learned f.slot f.entry) to ∷ [] else [])
          (told_from n to slot fs) h)

      ask_good : (from slot : ℕ) (given : Option taken.Snapshot) (t : Plan B) → PlanGood t → ((s : taken.Snapshot) → given ≡ Some s → F s)
          → PlanGood (answer_ask n from slot given t)
      ask_good from slot None t ok f =
          send_good (told_from n from slot t.node.learner.learned) t ok (told_good from slot t.node.learner.learned ok.node.learned)
      ask_good from slot (Some s) t ok f =
          send_good (told_from n from (suc s.floor) t.node.learner.learned) (show n from s t) (show_good from s t ok (f s refl))
          (told_good from (suc s.floor) t.node.learner.learned ok.node.learned)

      packet_good : (from : ℕ) (kind : Kind B) (t : Plan B) → PlanGood t → KindGood kind → PlanGood (on_packet same members n from kind t)
      packet_good from (Prepare b floor) t ok g = prepare_good from b floor t ok
      packet_good from (Promise b floor votes) t ok g = promise_as_good from b floor votes t.node.proposer.role t ok.node.role ok g
      packet_good from (Accept v) t ok g = accept_good from v t ok g
      packet_good from (Accepted v) t ok g = record { node = counted_good members from v t.node ok.node g; out = ok.out }
      packet_good from (Nack b p) t ok g =
          role_good (nacked b p t.node.proposer.role) t.node.proposer.seen t ok (nacked_good b p t.node.proposer.role ok.node.role)
      packet_good from (Forward es) t ok g =
          cond_both (is_leading t.node.proposer.role) (propose_each same members n es t) t (λ u. PlanGood u) (λ d. propose_each_good es t ok g)
          (λ d. ok)
      packet_good from (Ask slot) t ok g = ask_good from slot (given_by t.node.rows.snapshot slot) t ok (given_good t.node.rows.snapshot slot ok.node.based)
      packet_good from (Snapshot s) t ok g = ok
      packet_good from (Learned slot e) t ok g =
          record {
            node =
                record {
                  based = ok.node.based;
                  votes = ok.node.votes;
                  role = ok.node.role;
                  learned = learn_good slot e t.node.learner ok.node.learned g;
                  applied = ok.node.applied;
                  pending = ok.node.pending;
                };
            out = ok.out;
          }

    start_good : (t : Plan B) → PlanGood t → PlanGood (on_start members n t)
    start_good t ok =
        cond_both (starts n t.node) (begin members n b floor t) t (λ u. PlanGood u)
        (λ e. record {
          node = record {
            based = ok.node.based;
            votes = ok.node.votes;
            role =
                λ c h v i. ok.node.votes v (has_from floor t.node.rows.votes v (subst (λ (z : CountedPromise B). Has z.votes v) (sym (has_one h)) i));
            learned = ok.node.learned;
            applied = ok.node.applied;
            pending = ok.node.pending;
          };
          out = sent_good t.packets (to_others members n (Prepare b floor)) ok.out (others_good members n (Prepare b floor) tt);
        })
        (λ e. ok)
      where
        b : Ballot
        b = new_ballot n t.node.rows.promised t.node.proposer

        floor : ℕ
        floor = suc (log_length t.node)

    accepts_good : (l : LearnerState B) (vs : List (Vote B)) → VotesGood vs → SentGood (accepts_again members n l vs)
    accepts_good l [] g p h = absurd (has_nil h)
    accepts_good l (v ∷ vs) g p h =
        sent_good (if is_known v.slot l then [] else to_others members n (Accept v)) (accepts_again members n l vs)
        (cond_both (is_known v.slot l) [] (to_others members n (Accept v)) (λ ps. SentGood ps) (λ t q z. absurd (has_nil z))
        (λ t. others_good members n (Accept v) (g v here)))
        (accepts_good l vs (λ w i. g w (there i)))
        p h

    again_good : (r : Role B) (l : LearnerState B) → RoleGood r → SentGood (again members n r l)
    again_good Idle l g p h = absurd (has_nil h)
    again_good (Preparing b floor cs) l g p h = some_good n (filter (λ j. not (is_counted cs j)) (others n members)) (Prepare b floor) tt p h
    again_good (Leading b next table) l g p h = accepts_good l table g p h

    tick_good : (t : Plan B) → PlanGood t → PlanGood (on_tick same members n t)
    tick_good t ok =
        let a =
        send_good (again members n t.node.proposer.role t.node.learner) t ok
        (again_good t.node.proposer.role t.node.learner ok.node.role) in
        let pushed = push same members n (send (again members n t.node.proposer.role t.node.learner) t) in
        send_good (to_others members n (Ask (suc (log_length pushed.node)))) pushed
        (push_good (send (again members n t.node.proposer.role t.node.learner) t) a)
        (others_good members n (Ask (suc (log_length pushed.node))) tt)

    take_good : (transport : ℕ) (body : B) (t : Plan B) → PlanGood t → Each (taken_by n transport body t.node)
        → PlanGood (on_take same members n transport body t)
    take_good transport body t ok g =
        cond_both (takes t.node) (push same members n (record t { node = with_item n transport body t.node })) t (λ u. PlanGood u)
        (λ d. push_good (record t { node = with_item n transport body t.node }) (pending_good (t.node.pending ++ item ∷ []) (suc t.node.taken) t ok
        (each_push t.node.pending item ok.node.pending (g item (subst (λ l. Has l item) (sym (cond-true (takes t.node) (item ∷ []) [] d)) here)))))
        (λ d. ok)
      where
        item : Entry B
        item = new_item n transport body t.node

    suspect_good : (lost : Option (Entry B)) (t : Plan B) → PlanGood t → Each (suspected_by lost t.node) → PlanGood (suspected same members n lost t)
    suspect_good None t ok g = ok
    suspect_good (Some lost) t ok g =
        cond_both (has_room t.node) (push same members n (record t { node = with_pending (t.node.pending ++ lost ∷ []) t.node })) t (λ u. PlanGood u)
        (λ d. push_good (record t { node = with_pending (t.node.pending ++ lost ∷ []) t.node })
        (pending_good (t.node.pending ++ lost ∷ []) t.node.taken t ok
        (each_push t.node.pending lost ok.node.pending (g lost (subst (λ l. Has l lost) (sym (cond-true (has_room t.node) (lost ∷ []) [] d)) here)))))
        (λ d. ok)

  -- what is learned is applied

  run_good : (fs : List (LearnedEntry B)) (slot : ℕ) → LearnedGood fs → Each (run_from slot fs)
  run_good [] slot g = λ e h. absurd (has_nil h)
  run_good (f ∷ fs) slot g = go (λ s. run_good fs s (λ z i. g z (there i))) (eqb f.slot slot) (nat_lt f.slot slot)
    where
      go : ((s : ℕ) → Each (run_from s fs)) → (a b : Bool) → Each (run_with a b f.entry (run_from (if a then suc slot else slot) fs))
      go rest true b = λ e h. ⊎_elim (λ s. subst (λ z. G z) s (g f here)) (λ o. rest (suc slot) e o) (has_cons h)
      go rest false true = λ e h. rest slot e h
      go rest false false = λ e h. absurd (has_nil h)

  fallen_good : (t : Plan B) → PlanGood t → PlanGood (go_down t)
  fallen_good t ok =
      record {
        node =
            record {
              based = ok.node.based;
              votes = ok.node.votes;
              role = tt;
              learned = λ f h. absurd (has_nil h);
              applied = λ e h. absurd (has_nil h);
              pending = λ e h. absurd (has_nil h);
            };
        out = ok.out;
      }

  note_good : (e : Entry B) (t : Plan B) → PlanGood t → G e → PlanGood (note e t)
  note_good e t ok g =
      record {
        node = record {
          based = ok.node.based;
          votes = ok.node.votes;
          role = ok.node.role;
          learned = ok.node.learned;
          applied = each_push t.node.applied e ok.node.applied g;
          pending = λ f h. ok.node.pending f (has_filter _ t.node.pending h);
        };
        out = ok.out;
      }

  apply_good : (n : ℕ) (es : List (Entry B)) (t : Plan B) → PlanGood t → Each es → PlanGood (apply_all n es t)
  apply_good n [] t ok g = ok
  apply_good n (e ∷ es) t ok g =
      let a = note_good e t ok (g e here) in
      cond_both (ends n t.node e) (go_down (note e t)) (apply_all n es (note e t)) (λ u. PlanGood u)
      (λ d. fallen_good (note e t) a)
      (λ d. apply_good n es (note e t) a (λ f h. g f (there h)))

  settle_good : (n : ℕ) (t : Plan B) → PlanGood t → PlanGood (settle n t)
  settle_good n t ok =
      apply_good n (run_from (suc (log_length t.node)) t.node.learner.learned) t ok
      (run_good t.node.learner.learned (suc (log_length t.node)) ok.node.learned)

  -- it rests on a snapshot
  rested_good : (over : Bool) (s : taken.Snapshot) (t : Plan B) → PlanGood t → F s → PlanGood (rest_on over s t)
  rested_good over s t ok f = either over
    where
      raised_good : (r : Role B) → RoleGood r → RoleGood (raised_above s.floor r)
      raised_good Idle g = tt
      raised_good (Preparing b first cs) g = g
      raised_good (Leading b next table) g = λ v h. g v (has_filter _ table h)

      based : (z : taken.Snapshot) → Some s ≡ Some z → F z
      based z e = subst (λ k. F k) (same z e) f
        where
          same : (z : taken.Snapshot) → Some s ≡ Some z → s ≡ z
          same z e = cc

      either : (z : Bool) → PlanGood (rest_on z s t)
      either false =
          record {
            node =
                record {
                  based = based;
                  votes = λ v h. ok.node.votes v (has_from (suc s.floor) t.node.rows.votes v h);
                  role = raised_good t.node.proposer.role ok.node.role;
                  learned = λ l h. ok.node.learned l (has_filter _ t.node.learner.learned h);
                  applied = λ e h. absurd (has_nil h);
                  pending = ok.node.pending;
                };
            out = ok.out;
          }
      either true =
          record {
            node =
                record {
                  based = based;
                  votes = λ v h. ok.node.votes v (has_from (suc s.floor) t.node.rows.votes v h);
                  role = raised_good t.node.proposer.role ok.node.role;
                  learned = λ l h. ok.node.learned l (has_filter _ t.node.learner.learned h);
                  applied = λ e h. absurd (has_nil h);
                  pending = λ e h. ok.node.pending e (has_filter _ t.node.pending h);
                };
            out = ok.out;
          }

  snapshot_good : (n : ℕ) (s : taken.Snapshot) (t : Plan B) → PlanGood t → F s → PlanGood (on_snapshot n s t)
  snapshot_good n s t ok f =
      cond_both (nat_le s.floor (log_length t.node)) t (take_in n s (head_at s.octets) t) (λ u. PlanGood u) (λ d. ok)
      (λ d. taken_good (head_at s.octets))
    where
      taken_good : (o : Option Head) → PlanGood (take_in n s o t)
      taken_good None = record { node = ok.node; out = ok.out }
      taken_good (Some head) =
          cond_both (has_boot n t.node head) t (rest_on true s t) (λ u. PlanGood u) (λ d. ok) (λ d. rested_good true s t ok f)

  delivered_good : (same : B → B → Bool) (members n : ℕ) → G Noop → (from : ℕ) (kind : Kind B) (t : Plan B) → PlanGood t → KindGood kind
      → PlanGood (deliver same members n from kind t)
  delivered_good same members n noop from kind t ok g =
      ⊎_elim
      (λ (z : (s : taken.Snapshot) × (kind ≡ Snapshot s)). subst (λ k. PlanGood (deliver same members n from k t)) (sym z.1)
      (snapshot_good n z.0 t ok (subst (λ k. KindGood k) z.1 g)))
      (λ (z : IsOther same members n from kind). subst (λ u. PlanGood u) (sym (z t)) (packet_good same members n noop from kind t ok g))
      (by_kind same members n from kind)

  -- what an event brings from elsewhere
  abbrev pub EventGood : Event B → Type 0
  EventGood (Deliver p) = KindGood p.kind
  EventGood (Cut n o) = (s : taken.Snapshot) → o ≡ Some s → F s
  EventGood _ = Unit {0}

  pub outcome_good : (same : B → B → Bool) (members : ℕ) → G Noop → (e : Event B) (x : NodeState B) → NodeGood x → EventGood e
      → Each (made_by same e x) → PlanGood (outcome_of same members e x)
  outcome_good same members noop e x ok eg g = go e eg g
    where
      start : PlanGood (begun x)
      start = record { node = ok; out = λ p h. absurd (has_nil h) }

      cut_good : (o : Option taken.Snapshot) → ((s : taken.Snapshot) → o ≡ Some s → F s) → PlanGood (on_cut o (begun x))
      cut_good None f = start
      cut_good (Some s) f = rested_good false s (begun x) start (f s refl)

      go : (f : Event B) → EventGood f → Each (made_by same f x) → PlanGood (outcome_of same members f x)
      go (Take n t body) eg g = settle_good n _ (take_good same members n t body (begun x) start g)
      go (Tick n) eg g = settle_good n _ (tick_good same members n (begun x) start)
      go (Start n) eg g = settle_good n _ (start_good same members n (begun x) start)
      go (Suspect n other) eg g = settle_good n _ (suspect_good same members n (new_lost same n other x) (begun x) start g)
      go (Deliver p) eg g =
          settle_good p.addressee _
          (delivered_good same members p.addressee noop p.sender p.kind (record (begun x) { node = saw p.kind x })
          (role_good x.proposer.role (saw p.kind x).proposer.seen (begun x) start ok.role) eg)
      go (Cut n o) eg g = settle_good n _ (cut_good o eg)
      go (Crash n) eg g = settle_good n _ (fallen_good (begun x) start)
      go (Restart n) eg g =
          settle_good n (record (begun x) { node = started n (raised x.rows) })
          (record {
            node =
                record {
                  based = ok.based;
                  votes = ok.votes;
                  role = tt;
                  learned = λ f h. absurd (has_nil h);
                  applied = λ f h. absurd (has_nil h);
                  pending = λ f h. subst (λ z. G z) (has_one h) (g (Boot n (suc x.rows.boot)) here);
                };
            out = λ p h. absurd (has_nil h);
          })
