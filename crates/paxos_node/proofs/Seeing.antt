-- A node that is up has seen the rounds that it promised, and that of its own ballot.
use Rattle.std.proofs.Common.{◌≡◌, ℕ, suc, ◌≤◌, Bool, true, false, cond, not, ◌&&◌, max, refl, sym, subst, arith, List, [], ◌∷◌, ◌++◌, Option, Some, None}
use Rattle.std.specs.Prelude.{nat_lt, nat_le}
use Rattle.std.proofs.lemmas.Bool.{cond_both}
use Rattle.paxos_packets.specs.Members.{is_majority}
use Rattle.paxos_packets.specs.Ballot.{below, same_ballot}
use Rattle.paxos_packets.specs.Packet.{packet}
use Rattle.paxos_packets.specs.Rows.{raised}
use Rattle.paxos_packets.specs.Snapshot.{floor_in}
use Rattle.paxos_packets.specs.Snapshot as taken
use Rattle.paxos_packets.specs.declared.ballot.Ballot.{Ballot}
use Rattle.paxos_packets.specs.declared.entry.Entry.{Entry}
use Rattle.paxos_packets.specs.declared.packet.Kind.{Kind}
use Rattle.paxos_packets.specs.declared.packet.Kind.TheVariants.{Prepare, Promise, Accept, Accepted, Nack, Forward, Ask, Learned, Snapshot}
use Rattle.paxos_packets.specs.declared.rows.Rows.{Rows}
use Rattle.paxos_packets.specs.declared.vote.Vote.{Vote}
use Rattle.paxos_acceptor.specs.Acceptor.{may_promise, may_accept, promise_of, given_by}
use Rattle.paxos_proposer.specs.declared.promises.CountedPromise.{CountedPromise}
use Rattle.paxos_proposer.specs.Role.{Role, Idle, Preparing, Leading}
use Rattle.paxos_proposer.specs.Proposer.{round_of, slot_end, next_vote, new_ballot, is_leading, step_down, nacked, raised_above}
use Rattle.paxos_proposer.specs.Promises.{lowest}
use Rattle.paxos_proposer.specs.Reports.{is_counted, reports, called_for}
use Rattle.paxos_learner.specs.Learner.{run_from}
use Rattle.paxos_node.specs.declared.event.Event.{Event}
use Rattle.paxos_node.specs.declared.event.Event.TheVariants.{Take, Tick, Start, Suspect, Deliver, Cut, Crash, Restart}
use Rattle.replica_machine.specs.declared.head.Head.{Head}
use Rattle.replica_machine.specs.Snapshot.{head_at}
use Rattle.paxos_planning.specs.Node.{Plan, log_length}
use Rattle.paxos_planning.specs.Plan.{with_role, with_pending, begun, send, promise, cast}
use Rattle.paxos_planning.specs.Proposals.{offer, propose_as, propose, propose_all, lead, stands, propose_new, propose_each, forwarded, push}
use Rattle.paxos_planning.specs.Replies.{round_in, saw, refuse, cast_or_show, answer_ask, count_promise, on_promise_as, on_packet}
use Rattle.paxos_node.specs.Applying.{started, note, ends, go_down, apply_all, settle}
use Rattle.paxos_node.specs.Events.{takes, with_item, on_take, has_room, suspected, new_lost}
use Rattle.paxos_planning.specs.Ticking.{again, on_tick}
use Rattle.paxos_planning.specs.Starting.{begin, starts, on_start}
use Rattle.paxos_node.specs.Events.{possible, deliver, outcome_of}
use Rattle.paxos_node.specs.Snapshots.{may_cut, rest_on, on_cut, has_boot, take_in}
use Rattle.paxos_node.specs.Laws.{round_under_way, Sees, SeesItsBallots, StaysSeen}

pub sees_started : {B : Type 0} (me : ℕ) (rows : Rows B) → SeesItsBallots (started me rows)
sees_started me rows up = record { promised = omega arith; under_way = omega arith }

-- stepping down raises no round
down_le : {B : Type 0} (b : Ballot) (r : Role B) → round_under_way (step_down b r) ≤ round_under_way r
down_le b Idle = omega arith
down_le {B} b (Preparing c first cs) = go (below c b)
  where
    go : (t : Bool) → round_under_way (cond {A = Role B} t Idle (Preparing c first cs)) ≤ c.round
    go true = omega arith
    go false = omega arith
down_le {B} b (Leading c next table) = go (below c b)
  where
    go : (t : Bool) → round_under_way (cond {A = Role B} t Idle (Leading c next table)) ≤ c.round
    go true = omega arith
    go false = omega arith

nacked_le : {B : Type 0} (b p : Ballot) (r : Role B) → round_under_way (nacked b p r) ≤ round_under_way r
nacked_le b p Idle = omega arith
nacked_le {B} b p (Preparing c first cs) = go (same_ballot b c && below c p)
  where
    go : (t : Bool) → round_under_way (cond {A = Role B} t Idle (Preparing c first cs)) ≤ c.round
    go true = omega arith
    go false = omega arith
nacked_le {B} b p (Leading c next table) = go (same_ballot b c && below c p)
  where
    go : (t : Bool) → round_under_way (cond {A = Role B} t Idle (Leading c next table)) ≤ c.round
    go true = omega arith
    go false = omega arith

-- nor does a snapshot
raised_round : {B : Type 0} (floor : ℕ) (r : Role B) → round_under_way (raised_above floor r) ≡ round_under_way r
raised_round floor Idle = refl
raised_round floor (Preparing b first promises) = refl
raised_round floor (Leading b next proposed) = refl

module _ {B : Type 0} (same : B → B → Bool) (members n : ℕ) where
  abbrev S : Plan B → Type 0
  S t = Sees t.node

  promised : (b : Ballot) (t : Plan B) → b.round ≤ t.node.proposer.seen → S t → S (promise b t)
  promised b t l s =
      let d = down_le b t.node.proposer.role in
      let u : round_under_way t.node.proposer.role ≤ t.node.proposer.seen = s.under_way in
      record { promised = l; under_way = omega arith }

  casts : (v : Vote B) (t : Plan B) → v.ballot.round ≤ t.node.proposer.seen → S t → S (cast same members n v t)
  casts v t l s =
      let d = down_le v.ballot t.node.proposer.role in
      let u : round_under_way t.node.proposer.role ≤ t.node.proposer.seen = s.under_way in
      record { promised = l; under_way = omega arith }

  proposes_as : (r : Role B) (e : Entry B) (t : Plan B) → round_under_way r ≤ t.node.proposer.seen → S t → S (propose_as same members n r e t)
  proposes_as Idle e t l s = s
  proposes_as (Preparing b first cs) e t l s = s
  proposes_as (Leading b next table) e t l s =
      cond_both (nat_lt next slot_end) (cast same members n (next_vote b next e) (offer members n b next table e t)) t (λ u. S u)
      (λ k. casts (next_vote b next e) (offer members n b next table e t) l (record { promised = s.promised; under_way = l })) (λ k. s)

  proposes : (e : Entry B) (t : Plan B) → S t → S (propose same members n e t)
  proposes e t s = proposes_as t.node.proposer.role e t s.under_way s

  proposes_all : (es : List (Entry B)) (t : Plan B) → S t → S (propose_all same members n es t)
  proposes_all [] t s = s
  proposes_all (e ∷ es) t s = proposes_all es (propose same members n e t) (proposes e t s)

  proposes_each : (es : List (Entry B)) (t : Plan B) → S t → S (propose_each same members n es t)
  proposes_each [] t s = s
  proposes_each (e ∷ es) t s =
      proposes_each es (propose_new same members n e t)
      (cond_both (stands same (log_length t.node) t.node.proposer.role e) t (propose same members n e t) (λ u. S u) (λ d. s)
      (λ d. proposes e t s))

  pushes : (t : Plan B) → S t → S (push same members n t)
  pushes t s =
      cond_both (is_leading t.node.proposer.role) (propose_each same members n t.node.pending t)
      (send (forwarded n t.node.rows.promised t.node.pending) t) (λ u. S u)
      (λ d. proposes_each t.node.pending t s) (λ d. record { promised = s.promised; under_way = s.under_way })

  leads : (b : Ballot) (first : ℕ) (vs : List (Vote B)) (t : Plan B) → b.round ≤ t.node.proposer.seen → S t
      → S (lead same members n b first vs t)
  leads b first vs t l s =
      proposes_all (called_for first vs) (record t { node = with_role (Leading b first []) t.node })
      (record { promised = s.promised; under_way = l })

  promises_as : (from : ℕ) (b : Ballot) (floor : ℕ) (votes : List (Vote B)) (r : Role B) (t : Plan B)
      → round_under_way r ≤ t.node.proposer.seen → S t → S (on_promise_as same members n from b floor votes r t)
  promises_as from b floor votes Idle t l s = s
  promises_as from b floor votes (Leading d next table) t l s = s
  promises_as from b floor votes (Preparing d first cs) t l s =
      cond_both (same_ballot b d && not (is_counted cs from)) (count_promise same members n d first (floor_in t.node.rows.snapshot) more t) t
      (λ u. S u)
      (λ e. cond_both (is_majority members (is_counted more)) (push same members n (lead same members n d low (reports more) t))
      (record t { node = with_role (Preparing d first more) t.node }) (λ u. S u)
      (λ m. pushes (lead same members n d low (reports more) t) (leads d low (reports more) t l s))
      (λ m. record { promised = s.promised; under_way = l }))
      (λ e. s)
    where
      more : List (CountedPromise B)
      more = cs ++ record { node = from; floor = floor; votes = votes } ∷ []

      low : ℕ
      low = lowest first (floor_in t.node.rows.snapshot) more

  shows : (from : ℕ) (k : Option taken.Snapshot) (v : Vote B) (t : Plan B) → v.ballot.round ≤ t.node.proposer.seen → S t
      → S (cast_or_show same members n from k v t)
  shows from None v t l s = casts v t l s
  shows from (Some k) v t l s = record { promised = s.promised; under_way = s.under_way }

  asks : (from first : ℕ) (k : Option taken.Snapshot) (t : Plan B) → S t → S (answer_ask n from first k t)
  asks from first None t s = record { promised = s.promised; under_way = s.under_way }
  asks from first (Some k) t s = record { promised = s.promised; under_way = s.under_way }

  packets : (from : ℕ) (kind : Kind B) (t : Plan B) → round_in kind ≤ t.node.proposer.seen → S t → S (on_packet same members n from kind t)
  packets from (Prepare b first) t l s =
      cond_both (may_promise t.node.rows.promised b)
      (send (packet n (promise_of t.node.rows b first) from ∷ []) (promise b t)) (refuse n from b t) (λ u. S u)
      (λ e. let d = promised b t l s in record { promised = d.promised; under_way = d.under_way })
      (λ e. record { promised = s.promised; under_way = s.under_way })
  packets from (Promise b floor votes) t l s = promises_as from b floor votes t.node.proposer.role t s.under_way s
  packets from (Accept v) t l s =
      cond_both (may_accept t.node.rows.promised v.ballot) (cast_or_show same members n from (given_by t.node.rows.snapshot v.slot) v t)
      (refuse n from v.ballot t) (λ u. S u)
      (λ e. shows from (given_by t.node.rows.snapshot v.slot) v t l s) (λ e. record { promised = s.promised; under_way = s.under_way })
  packets from (Accepted v) t l s = record { promised = s.promised; under_way = s.under_way }
  packets from (Nack b p) t l s =
      let d = nacked_le b p t.node.proposer.role in
      let u : round_under_way t.node.proposer.role ≤ t.node.proposer.seen = s.under_way in
      record { promised = s.promised; under_way = omega arith }
  packets from (Forward es) t l s =
      cond_both (is_leading t.node.proposer.role) (propose_each same members n es t) t (λ u. S u) (λ d. proposes_each es t s) (λ d. s)
  packets from (Ask first) t l s = asks from first (given_by t.node.rows.snapshot first) t s
  packets from (Snapshot k) t l s = s
  packets from (Learned k e) t l s = record { promised = s.promised; under_way = s.under_way }

  -- a snapshot raises a leader's next slot, and no round

  rests : (over : Bool) (k : taken.Snapshot) (t : Plan B) → S t → S (rest_on over k t)
  rests true k t s = let r = raised_round k.floor t.node.proposer.role in record { promised = s.promised; under_way = subst (λ (u : ℕ). u ≤ t.node.proposer.seen) (sym r) s.under_way }
  rests false k t s = let r = raised_round k.floor t.node.proposer.role in record { promised = s.promised; under_way = subst (λ (u : ℕ). u ≤ t.node.proposer.seen) (sym r) s.under_way }

  cuts : (k : Option taken.Snapshot) (t : Plan B) → S t → S (on_cut k t)
  cuts None t s = s
  cuts (Some k) t s = rests false k t s

  takes_in : (k : taken.Snapshot) (head : Option Head) (t : Plan B) → S t → S (take_in n k head t)
  takes_in k None t s = record { promised = s.promised; under_way = s.under_way }
  takes_in k (Some head) t s = cond_both (has_boot n t.node head) t (rest_on true k t) (λ u. S u) (λ d. s) (λ d. rests true k t s)

  delivers : (from : ℕ) (kind : Kind B) (t : Plan B) → round_in kind ≤ t.node.proposer.seen → S t → S (deliver same members n from kind t)
  delivers from (Snapshot k) t l s =
      cond_both (nat_le k.floor (log_length t.node)) t (take_in n k (head_at k.octets) t) (λ u. S u) (λ d. s) (λ d. takes_in k (head_at k.octets) t s)
  delivers from kind t l s = packets from kind t l s

  starting : (t : Plan B) → S t → S (on_start members n t)
  starting t s =
      cond_both (starts n t.node) (begin members n b (suc (log_length t.node)) t) t (λ u. S u)
      (λ e. record { promised = omega arith; under_way = omega arith }) (λ e. s)
    where
      b : Ballot
      b = new_ballot n t.node.rows.promised t.node.proposer

  ticking : (t : Plan B) → S t → S (on_tick same members n t)
  ticking t s =
      let d = pushes (send (again members n t.node.proposer.role t.node.learner) t) (record { promised = s.promised; under_way = s.under_way }) in
      record { promised = d.promised; under_way = d.under_way }

  taking : (transport : ℕ) (body : B) (t : Plan B) → S t → S (on_take same members n transport body t)
  taking transport body t s =
      cond_both (takes t.node) (push same members n (record t { node = with_item n transport body t.node })) t (λ u. S u)
      (λ d. pushes (record t { node = with_item n transport body t.node }) (record { promised = s.promised; under_way = s.under_way })) (λ d. s)

  suspecting : (lost : Option (Entry B)) (t : Plan B) → S t → S (suspected same members n lost t)
  suspecting None t s = s
  suspecting (Some lost) t s =
      cond_both (has_room t.node) (push same members n (record t { node = with_pending (t.node.pending ++ lost ∷ []) t.node })) t (λ u. S u)
      (λ d. pushes (record t { node = with_pending (t.node.pending ++ lost ∷ []) t.node }) (record { promised = s.promised; under_way = s.under_way }))
      (λ d. s)

  -- what is applied at the end leaves the ballots, or takes the node down

  abbrev U : Plan B → Type 0
  U t = SeesItsBallots t.node

  off : {A : Type 0} → false ≡ true → A
  off e = absurd (cc)

  applying : (es : List (Entry B)) (t : Plan B) → U t → U (apply_all n es t)
  applying [] t s = s
  applying (e ∷ es) t s =
      cond_both (ends n t.node e) (go_down (note e t)) (apply_all n es (note e t)) (λ u. U u)
      (λ d. off)
      (λ d. applying es (note e t) (λ up. let k = s up in record { promised = k.promised; under_way = k.under_way }))

  settling : (t : Plan B) → U t → U (settle n t)
  settling t s = applying (run_from (suc (log_length t.node)) t.node.learner.learned) t s

raised_seen : (a b c : ℕ) → a ≤ b → a ≤ max b c
raised_seen a b c l = omega arith

pub stays_seen : {B : Type 0} → StaysSeen B
stays_seen {B} same members e x before p = of e p
  where
    first : (a b : Bool) → (a && b) ≡ true → a ≡ true
    first true b h = refl
    first false b h = h

    of : (f : Event B) → possible f x ≡ true → SeesItsBallots (outcome_of same members f x).node
    of (Take n t body) h =
        settling same members n (on_take same members n t body (begun x)) (λ up. taking same members n t body (begun x) (before (first x.up (nat_lt 0 t) h)))
    of (Tick n) h = settling same members n (on_tick same members n (begun x)) (λ up. ticking same members n (begun x) (before h))
    of (Start n) h = settling same members n (on_start members n (begun x)) (λ up. starting same members n (begun x) (before h))
    of (Suspect n other) h = settling same members n (suspected same members n (new_lost same n other x) (begun x)) (λ up. suspecting same members n (new_lost same n other x) (begun x) (before h))
    of (Deliver q) h =
        let s = before h in
        settling same members q.addressee (deliver same members q.addressee q.sender q.kind (record (begun x) { node = saw q.kind x }))
        (λ up. delivers same members q.addressee q.sender q.kind (record (begun x) { node = saw q.kind x }) (omega arith)
        (record {
          promised = raised_seen (round_of x.rows.promised) x.proposer.seen (round_in q.kind) s.promised;
          under_way = raised_seen (round_under_way x.proposer.role) x.proposer.seen (round_in q.kind) s.under_way;
        }))
    of (Cut n c) h =
        let s = before (first x.up (may_cut c x) h) in
        settling same members n (on_cut c (begun x)) (λ up. cuts same members n c (begun x) s)
    of (Crash n) h = off same members n
    of (Restart n) h = settling same members n (record (begun x) { node = started n (raised x.rows) }) (sees_started n (raised x.rows))
