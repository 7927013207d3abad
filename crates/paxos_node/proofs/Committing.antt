-- What a node commits in an event is all that changes its rows.
use Rattle.std.proofs.Common.{◌≡◌, ℕ, suc, Bool, true, false, not, ◌&&◌, refl, sym, ap, ◌∙◌, List, [], ◌∷◌}
use Rattle.std.proofs.Common.{◌++◌, Option, Some, None}
use Rattle.std.specs.Option.{option_or}
use Rattle.std.specs.Prelude.{nat_lt, nat_le}
use Rattle.std.proofs.lemmas.Bool.{cond_both, and_parts}
use Rattle.paxos_packets.specs.Members.{is_majority}
use Rattle.paxos_packets.specs.Ballot.{same_ballot}
use Rattle.paxos_packets.proofs.Ascending.{Ascends}
use Rattle.paxos_packets.specs.Rows.{kept_votes}
use Rattle.paxos_packets.specs.Snapshot.{floor_in}
use Rattle.paxos_packets.specs.Snapshot as taken
use Rattle.paxos_packets.specs.Packet.{packet}
use Rattle.paxos_packets.specs.declared.ballot.Ballot.{Ballot}
use Rattle.paxos_packets.specs.declared.entry.Entry.{Entry}
use Rattle.paxos_packets.specs.declared.packet.Kind.{Kind}
use Rattle.paxos_packets.specs.declared.packet.Kind.TheVariants.{Prepare, Promise, Accept, Accepted, Nack, Forward, Ask, Learned, Snapshot}
use Rattle.paxos_packets.specs.declared.rows.Rows.{Rows}
use Rattle.paxos_packets.specs.declared.vote.Vote.{Vote}
use Rattle.paxos_packets.proofs.Placing.{put_ascending}
use Rattle.paxos_acceptor.specs.Acceptor.{may_promise, may_accept, with_promise, with_vote, adopted, promise_of, given_by}
use Rattle.paxos_proposer.specs.declared.promises.CountedPromise.{CountedPromise}
use Rattle.paxos_proposer.specs.Role.{Role, Idle, Preparing, Leading}
use Rattle.paxos_proposer.specs.Proposer.{slot_end, next_vote, new_ballot, is_leading}
use Rattle.paxos_proposer.specs.Promises.{lowest}
use Rattle.paxos_proposer.specs.Reports.{is_counted, reports, called_for}
use Rattle.paxos_node.specs.declared.event.Event.{Event}
use Rattle.paxos_node.specs.declared.event.Event.TheVariants.{Take, Tick, Start, Suspect, Deliver, Cut, Crash, Restart}
use Rattle.replica_machine.specs.declared.head.Head.{Head}
use Rattle.replica_machine.specs.Snapshot.{head_at}
use Rattle.paxos_planning.specs.Node.{NodeState, Plan, log_length}
use Rattle.paxos_planning.specs.Plan.{with_role, with_pending, begun, send, promise, vote, cast}
use Rattle.paxos_planning.specs.Proposals.{offer, propose_as, propose, propose_all, lead, stands, propose_new, propose_each, forwarded, push}
use Rattle.paxos_planning.specs.Replies.{saw, refuse, cast_or_show, answer_ask, count_promise, on_promise_as, on_packet}
use Rattle.paxos_node.specs.Applying.{note, ends, go_down, apply_all, settle}
use Rattle.paxos_packets.specs.Rows.{last_boot}
use Rattle.paxos_node.specs.Events.{takes, with_item, on_take, has_room, suspected}
use Rattle.paxos_planning.specs.Ticking.{again, on_tick}
use Rattle.paxos_planning.specs.Starting.{begin, starts, on_start}
use Rattle.paxos_node.specs.Events.{new_lost, possible, deliver, outcome_of}
use Rattle.paxos_node.specs.Snapshots.{rest_on, on_cut, has_boot, take_in}
use Rattle.paxos_learner.specs.Learner.{run_from}
use Rattle.paxos_planning.proofs.Putting.{votes_put}
use Rattle.paxos_node.specs.Laws.{CommitsItsChange}

-- the rows so far are those of before with the change so far
pub record Commits {B : Type 0} (rows : Rows B) (o : Plan B) : Type 0 where
  pub is : o.node.rows ≡ adopted rows o.change
  pub ascends : Ascends o.change.votes

module _ {B : Type 0} (same : B → B → Bool) (members n : ℕ) (rows : Rows B) where
  abbrev C : Plan B → Type 0
  C o = Commits rows o

  promised : (b : Ballot) (t : Plan B) → C t → C (promise b t)
  promised b t c = record { is = ap (λ r. with_promise b r) c.is; ascends = c.ascends }

  voted : (v : Vote B) (t : Plan B) → C t → C (vote v t)
  voted v t c =
      record {
        is =
            ap (λ r. with_vote v r) c.is
            ∙ (λ i. record rows {
              promised = Some v.ballot;
              snapshot = option_or t.change.snapshot rows.snapshot;
              votes = sym (votes_put v t.change.votes (kept_votes t.change.snapshot rows.votes) c.ascends) i;
            });
        ascends = put_ascending v t.change.votes c.ascends;
      }

  casts : (v : Vote B) (t : Plan B) → C t → C (cast same members n v t)
  casts v t c = let d = voted v t c in record { is = d.is; ascends = d.ascends }

  offers : (b : Ballot) (next : ℕ) (table : List (Vote B)) (e : Entry B) (t : Plan B) → C t → C (offer members n b next table e t)
  offers b next table e t c = record { is = c.is; ascends = c.ascends }

  proposes_as : (r : Role B) (e : Entry B) (t : Plan B) → C t → C (propose_as same members n r e t)
  proposes_as Idle e t c = c
  proposes_as (Preparing b first cs) e t c = c
  proposes_as (Leading b next table) e t c =
      cond_both (nat_lt next slot_end) (cast same members n (next_vote b next e) (offer members n b next table e t)) t (λ u. C u)
      (λ l. casts (next_vote b next e) (offer members n b next table e t) (offers b next table e t c)) (λ l. c)

  proposes : (e : Entry B) (t : Plan B) → C t → C (propose same members n e t)
  proposes e t c = proposes_as t.node.proposer.role e t c

  proposes_all : (es : List (Entry B)) (t : Plan B) → C t → C (propose_all same members n es t)
  proposes_all [] t c = c
  proposes_all (e ∷ es) t c = proposes_all es (propose same members n e t) (proposes e t c)

  proposes_each : (es : List (Entry B)) (t : Plan B) → C t → C (propose_each same members n es t)
  proposes_each [] t c = c
  proposes_each (e ∷ es) t c =
      proposes_each es (propose_new same members n e t)
      (cond_both (stands same (log_length t.node) t.node.proposer.role e) t (propose same members n e t) (λ u. C u) (λ d. c)
      (λ d. proposes e t c))

  pushes : (t : Plan B) → C t → C (push same members n t)
  pushes t c =
      cond_both (is_leading t.node.proposer.role) (propose_each same members n t.node.pending t)
      (send (forwarded n t.node.rows.promised t.node.pending) t) (λ u. C u)
      (λ d. proposes_each t.node.pending t c) (λ d. record { is = c.is; ascends = c.ascends })

  leads : (b : Ballot) (first : ℕ) (vs : List (Vote B)) (t : Plan B) → C t → C (lead same members n b first vs t)
  leads b first vs t c =
      proposes_all (called_for first vs) (record t { node = with_role (Leading b first []) t.node })
      (record { is = c.is; ascends = c.ascends })

  promises_as : (from : ℕ) (b : Ballot) (floor : ℕ) (votes : List (Vote B)) (r : Role B) (t : Plan B) → C t
      → C (on_promise_as same members n from b floor votes r t)
  promises_as from b floor votes Idle t c = c
  promises_as from b floor votes (Leading d next table) t c = c
  promises_as from b floor votes (Preparing d first cs) t c =
      cond_both (same_ballot b d && not (is_counted cs from)) (count_promise same members n d first (floor_in t.node.rows.snapshot) more t) t
      (λ u. C u)
      (λ e. cond_both (is_majority members (is_counted more)) (push same members n (lead same members n d low (reports more) t))
      (record t { node = with_role (Preparing d first more) t.node }) (λ u. C u)
      (λ m. pushes (lead same members n d low (reports more) t) (leads d low (reports more) t c))
      (λ m. record { is = c.is; ascends = c.ascends }))
      (λ e. c)
    where
      more : List (CountedPromise B)
      more = cs ++ record { node = from; floor = floor; votes = votes } ∷ []

      low : ℕ
      low = lowest first (floor_in t.node.rows.snapshot) more

  shows : (from : ℕ) (s : Option taken.Snapshot) (v : Vote B) (t : Plan B) → C t → C (cast_or_show same members n from s v t)
  shows from None v t c = casts v t c
  shows from (Some s) v t c = record { is = c.is; ascends = c.ascends }

  asks : (from first : ℕ) (s : Option taken.Snapshot) (t : Plan B) → C t → C (answer_ask n from first s t)
  asks from first None t c = record { is = c.is; ascends = c.ascends }
  asks from first (Some s) t c = record { is = c.is; ascends = c.ascends }

  packets : (from : ℕ) (kind : Kind B) (t : Plan B) → C t → C (on_packet same members n from kind t)
  packets from (Prepare b first) t c =
      cond_both (may_promise t.node.rows.promised b)
      (send (packet n (promise_of t.node.rows b first) from ∷ []) (promise b t)) (refuse n from b t) (λ u. C u)
      (λ e. let d = promised b t c in record { is = d.is; ascends = d.ascends }) (λ e. record { is = c.is; ascends = c.ascends })
  packets from (Promise b floor votes) t c = promises_as from b floor votes t.node.proposer.role t c
  packets from (Accept v) t c =
      cond_both (may_accept t.node.rows.promised v.ballot) (cast_or_show same members n from (given_by t.node.rows.snapshot v.slot) v t)
      (refuse n from v.ballot t) (λ u. C u) (λ e. shows from (given_by t.node.rows.snapshot v.slot) v t c)
      (λ e. record { is = c.is; ascends = c.ascends })
  packets from (Accepted v) t c = record { is = c.is; ascends = c.ascends }
  packets from (Nack b p) t c = record { is = c.is; ascends = c.ascends }
  packets from (Forward es) t c =
      cond_both (is_leading t.node.proposer.role) (propose_each same members n es t) t (λ u. C u) (λ d. proposes_each es t c) (λ d. c)
  packets from (Ask first) t c = asks from first (given_by t.node.rows.snapshot first) t c
  packets from (Snapshot s) t c = c
  packets from (Learned s e) t c = record { is = c.is; ascends = c.ascends }

  starting : (t : Plan B) → C t → C (on_start members n t)
  starting t c =
      cond_both (starts n t.node) (begin members n (new_ballot n t.node.rows.promised t.node.proposer) (suc (log_length t.node)) t) t
      (λ u. C u)
      (λ e. record { is = ap (λ r. with_promise (new_ballot n t.node.rows.promised t.node.proposer) r) c.is; ascends = c.ascends }) (λ e. c)

  ticking : (t : Plan B) → C t → C (on_tick same members n t)
  ticking t c =
      let d = pushes (send (again members n t.node.proposer.role t.node.learner) t) (record { is = c.is; ascends = c.ascends }) in
      record { is = d.is; ascends = d.ascends }

  taking : (transport : ℕ) (body : B) (t : Plan B) → C t → C (on_take same members n transport body t)
  taking transport body t c =
      cond_both (takes t.node) (push same members n (record t { node = with_item n transport body t.node })) t (λ u. C u)
      (λ d. pushes (record t { node = with_item n transport body t.node }) (record { is = c.is; ascends = c.ascends })) (λ d. c)

  suspecting : (lost : Option (Entry B)) (t : Plan B) → C t → C (suspected same members n lost t)
  suspecting None t c = c
  suspecting (Some lost) t c =
      cond_both (has_room t.node) (push same members n (record t { node = with_pending (t.node.pending ++ lost ∷ []) t.node })) t (λ u. C u)
      (λ d. pushes (record t { node = with_pending (t.node.pending ++ lost ∷ []) t.node }) (record { is = c.is; ascends = c.ascends }))
      (λ d. c)

  applying : (es : List (Entry B)) (t : Plan B) → C t → C (apply_all n es t)
  applying [] t c = c
  applying (e ∷ es) t c =
      cond_both (ends n t.node e) (go_down (note e t)) (apply_all n es (note e t)) (λ u. C u)
      (λ d. record { is = c.is; ascends = c.ascends }) (λ d. applying es (note e t) (record { is = c.is; ascends = c.ascends }))

  settling : (t : Plan B) → C t → C (settle n t)
  settling t c = applying (run_from (suc (log_length t.node)) t.node.learner.learned) t c

-- a snapshot, its own or another's

rests : {B : Type 0} (over : Bool) (s : taken.Snapshot) (x : NodeState B) → Commits x.rows (rest_on over s (begun x))
rests true s x = record { is = refl; ascends = tt }
rests false s x = record { is = refl; ascends = tt }

cuts : {B : Type 0} (s : Option taken.Snapshot) (x : NodeState B) → Commits x.rows (on_cut s (begun x))
cuts None x = record { is = refl; ascends = tt }
cuts (Some s) x = rests false s x

takes_in : {B : Type 0} (me : ℕ) (s : taken.Snapshot) (head : Option Head) (x : NodeState B) → Commits x.rows (take_in me s head (begun x))
takes_in me s None x = record { is = refl; ascends = tt }
takes_in me s (Some head) x =
    cond_both (has_boot me x head) (begun x) (rest_on true s (begun x)) (λ u. Commits x.rows u) (λ h. record { is = refl; ascends = tt }) (λ h. rests true s x)

delivers : {B : Type 0} (same : B → B → Bool) (members me from : ℕ) (kind : Kind B) (x : NodeState B)
    → Commits x.rows (deliver same members me from kind (begun x))
delivers same members me from (Snapshot s) x =
    cond_both (nat_le s.floor (log_length x)) (begun x) (take_in me s (head_at s.octets) (begun x)) (λ u. Commits x.rows u)
    (λ h. record { is = refl; ascends = tt }) (λ h. takes_in me s (head_at s.octets) x)
delivers same members me from kind x = packets same members me x.rows from kind (begun x) (record { is = refl; ascends = tt })

pub commits_its_change : {B : Type 0} → CommitsItsChange B
commits_its_change {B} same members e x up p = (of e p).is
  where
    start : Commits x.rows (begun x)
    start = record { is = refl; ascends = tt }

    off : false ≡ true → ⊥
    off z = cc

    of : (f : Event B) → possible f x ≡ true → Commits x.rows (outcome_of same members f x)
    of (Take n t body) h = settling same members n x.rows _ (taking same members n x.rows t body (begun x) start)
    of (Tick n) h = settling same members n x.rows _ (ticking same members n x.rows (begun x) start)
    of (Start n) h = settling same members n x.rows _ (starting same members n x.rows (begun x) start)
    of (Suspect n other) h = settling same members n x.rows _ (suspecting same members n x.rows (new_lost same n other x) (begun x) start)
    of (Deliver q) h =
        settling same members q.addressee x.rows _ (delivers same members q.addressee q.sender q.kind (saw q.kind x))
    of (Cut n s) h = settling same members n x.rows _ (cuts s x)
    of (Crash n) h = record { is = refl; ascends = tt }
    of (Restart n) h = absurd (off (sym (ap not up) ∙ (and_parts (not x.up) (nat_lt x.rows.boot last_boot) h).0))
