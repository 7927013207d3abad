-- Rounds that a node holds were sent, and what a leader proposed is in slots that follow one another.
use Rattle.std.proofs.Common.{◌≡◌, ◌⊎◌, inl, inr, ⊎_elim, ℕ, suc, ◌+◌, ◌<◌, ◌≤◌, Bool, true, false, not, ◌&&◌, refl, sym, ap, ◌∙◌, subst, arith}
use Rattle.cluster_world.proofs.Invariant.{Sent}
use Rattle.std.proofs.Common.{List, [], ◌∷◌, ◌++◌, length, length-append, Option, Some, None}
use Rattle.std.specs.Prelude.{max, nat_lt, nat_le}
use Rattle.std.proofs.lemmas.Bool.{cond_both, cases_eq, cases_lt, cond-true, ltb-true, lt-ltb}
use Rattle.cluster_world.proofs.Lists.{has_left, has_right}
use Rattle.cluster_world.proofs.AcceptorTests.{others_sent}
use Rattle.cluster_world.proofs.EveryWorld.{within, node_same, node_other, among_has}
use Rattle.cluster_world.proofs.Taking.{May, by_next}
use Rattle.cluster_world.proofs.Taking.{in_every}
use Rattle.cluster_world.proofs.Taking.{founded_each}
use Rattle.cluster_world.proofs.Reports.{lowest_has}
use Rattle.cluster_world.specs.Has.{Has}
use Rattle.paxos_packets.specs.Ballot.{same_ballot, below}
use Rattle.paxos_packets.specs.Body.{IsEquality}
use Rattle.paxos_packets.specs.Members.{is_majority}
use Rattle.paxos_packets.specs.Packet.{packet, to_others}
use Rattle.paxos_packets.specs.Rows.{raised, first_rows}
use Rattle.paxos_packets.specs.Snapshot.{floor_in}
use Rattle.paxos_packets.specs.Snapshot as taken
use Rattle.paxos_packets.specs.declared.ballot.Ballot.{Ballot}
use Rattle.paxos_packets.specs.declared.entry.Entry.{Entry}
use Rattle.paxos_packets.specs.declared.packet.Kind.{Kind}
use Rattle.paxos_packets.specs.declared.packet.Kind.TheVariants.{Prepare, Promise, Accept, Accepted, Nack, Forward, Ask, Learned, Snapshot}
use Rattle.paxos_packets.specs.declared.packet.Packet.{Packet}
use Rattle.paxos_packets.specs.declared.rows.Rows.{Rows}
use Rattle.paxos_packets.specs.declared.vote.Vote.{Vote}
use Rattle.paxos_acceptor.specs.Acceptor.{may_promise, may_accept, promise_of, given_by}
use Rattle.paxos_proposer.specs.declared.promises.CountedPromise.{CountedPromise}
use Rattle.paxos_proposer.specs.Role.{Role, Idle, Preparing, Leading}
use Rattle.paxos_proposer.specs.Proposals.{AreUpTo, behind}
use Rattle.paxos_proposer.specs.Proposer.{round_of, slot_end, next_vote, new_ballot, step_down, nacked, is_leading, raised_above}
use Rattle.paxos_proposer.specs.Promises.{lowest}
use Rattle.paxos_proposer.specs.Reports.{is_counted, reports, called_for}
use Rattle.paxos_node.specs.declared.event.Event.{Event}
use Rattle.paxos_node.specs.declared.event.Event.TheVariants.{Take, Tick, Start, Suspect, Deliver, Cut, Crash, Restart}
use Rattle.paxos_planning.specs.Node.{NodeState, Plan, log_length}
use Rattle.paxos_planning.specs.Plan.{with_role, with_pending, begun, send, promise, cast}
use Rattle.paxos_planning.specs.Proposals.{offer, propose_as, propose, propose_all, lead, stands, propose_new, propose_each, forwarded, push}
use Rattle.paxos_planning.specs.Replies.{round_in, saw, refuse, cast_or_show, answer_ask, count_promise, on_promise_as, on_packet}
use Rattle.paxos_planning.specs.Starting.{begin, starts, on_start}
use Rattle.paxos_planning.specs.Ticking.{again, on_tick}
use Rattle.paxos_learner.specs.Learner.{run_from}
use Rattle.paxos_node.specs.Applying.{started, note, ends, go_down, apply_all, settle}
use Rattle.paxos_node.specs.Events.{takes, with_item, on_take, has_room, suspected, new_lost, owner, deliver, on_event, outcome_of}
use Rattle.paxos_node.specs.Snapshots.{has_boot, rest_on, take_in, on_cut}
use Rattle.replica_machine.specs.declared.head.Head.{Head}
use Rattle.replica_machine.specs.Snapshot.{head_at}
use Rattle.cluster_world.proofs.Delivering.{IsOther, by_kind}
use Rattle.cluster_world.specs.World.{World, node_at, put_node, first_world, was_sent, done, next, played}
use Rattle.cluster_world.specs.Proposers.{WasSentRound, IsRoundOfRole, RoundsWereSent, FollowOneAnother, ProposalsFollow}

max_is : (a b : ℕ) → (max a b ≡ a) ⊎ (max a b ≡ b)
max_is a b = ⊎_elim (λ (l : a < b). inr (omega arith)) (λ (l : b ≤ a). inl (omega arith)) (cases_lt a b)

one_up : {B : Type 0} (slot : ℕ) (vs : List (Vote B)) (v : Vote B) → AreUpTo slot vs → 1 ≤ slot → v.slot ≡ slot → AreUpTo (suc slot) (vs ++ v ∷ [])
one_up slot [] v h l e = (subst (λ k. 1 ≤ k) (sym e) l, plus_one v.slot e, tt)
  where
    plus_one : (k : ℕ) → k ≡ slot → k + 1 ≡ suc slot
    plus_one k e = omega arith
one_up slot (w ∷ vs) v h l e =
    let longer = length-append vs (v ∷ []) in
    let is = h.1 in (
      h.0,
      more w.slot (length vs) longer is,
      one_up slot vs v h.2 l e,
    )
  where
    more : (a b : ℕ) {c : ℕ} → c ≡ b + 1 → a + suc b ≡ slot → a + suc c ≡ suc slot
    more a b s t = omega arith

-- above a floor they are right below the slot, too, to which it raises the next one

all_above : {B : Type 0} (floor slot : ℕ) (vs : List (Vote B)) → AreUpTo slot vs → floor + suc (length vs) ≤ slot → behind floor vs ≡ vs
all_above floor slot [] h l = refl
all_above {B} floor slot (v ∷ vs) h l =
    cond-true (nat_lt floor v.slot) (v ∷ behind floor vs) (behind floor vs) (lt-ltb floor v.slot (high v.slot (length vs) h.1 l))
    ∙ ap (λ ws. v ∷ ws) (all_above floor slot vs h.2 (less (length vs) l))
  where
    high : (a b : ℕ) → a + suc b ≡ slot → floor + suc (suc b) ≤ slot → floor < a
    high a b e m = omega arith

    less : (b : ℕ) → floor + suc (suc b) ≤ slot → floor + suc b ≤ slot
    less b m = omega arith

raised_up : {B : Type 0} (floor slot : ℕ) (vs : List (Vote B)) → AreUpTo slot vs → AreUpTo (max slot (suc floor)) (behind floor vs)
raised_up floor slot [] h = tt
raised_up {B} floor slot (v ∷ vs) h =
    cond_both (nat_lt floor v.slot) (v ∷ behind floor vs) (behind floor vs) (λ ws. AreUpTo (max slot (suc floor)) ws)
    (λ t. let l = ltb-true floor v.slot t in
    subst (λ (z : ℕ × List (Vote B)). AreUpTo z.0 (v ∷ z.1))
    (λ i. (sym (greater v.slot (length vs) h.1 l) i, sym (all_above floor slot vs h.2 (room v.slot (length vs) h.1 l)) i)) h)
    (λ t. raised_up floor slot vs h.2)
  where
    greater : (a b : ℕ) → a + suc b ≡ slot → floor < a → max slot (suc floor) ≡ slot
    greater a b e l = omega arith

    room : (a b : ℕ) → a + suc b ≡ slot → floor < a → floor + suc b ≤ slot
    room a b e l = omega arith

module _ {B : Type 0} (R : ℕ → Type 0) where
  -- a proposer that holds such rounds alone, and whose proposals follow one another
  abbrev pub RoleProper : Role B → Type 0
  RoleProper Idle = Unit {0}
  RoleProper (Preparing b floor cs) = R b.round × (1 ≤ floor)
  RoleProper (Leading b slot table) = R b.round × (1 ≤ slot) × AreUpTo slot table

  pub record Proper (x : NodeState B) : Type 0 where
    pub seen : R x.proposer.seen
    pub promised : R (round_of x.rows.promised)
    pub role : RoleProper x.proposer.role

  abbrev Ok : Plan B → Type 0
  Ok t = Proper t.node

  down_role : (b : Ballot) (r : Role B) → RoleProper r → RoleProper (step_down b r)
  down_role b Idle h = tt
  down_role b (Preparing c floor cs) h = cond_both (below c b) Idle (Preparing c floor cs) (λ r. RoleProper r) (λ t. tt) (λ t. h)
  down_role b (Leading c slot table) h = cond_both (below c b) Idle (Leading c slot table) (λ r. RoleProper r) (λ t. tt) (λ t. h)

  nacked_role : (b p : Ballot) (r : Role B) → RoleProper r → RoleProper (nacked b p r)
  nacked_role b p Idle h = tt
  nacked_role b p (Preparing c floor cs) h =
      cond_both (same_ballot b c && below c p) Idle (Preparing c floor cs) (λ r. RoleProper r) (λ t. tt) (λ t. h)
  nacked_role b p (Leading c slot table) h =
      cond_both (same_ballot b c && below c p) Idle (Leading c slot table) (λ r. RoleProper r) (λ t. tt) (λ t. h)

  raised_role : (floor : ℕ) (r : Role B) → RoleProper r → RoleProper (raised_above floor r)
  raised_role floor Idle h = tt
  raised_role floor (Preparing c first cs) h = h
  raised_role floor (Leading c slot table) h = (h.0, (let l = h.1 in omega arith), raised_up floor slot table h.2)

  rests : (over : Bool) (s : taken.Snapshot) (t : Plan B) → Ok t → Ok (rest_on over s t)
  rests false s t ok = record { seen = ok.seen; promised = ok.promised; role = raised_role s.floor t.node.proposer.role ok.role }
  rests true s t ok = record { seen = ok.seen; promised = ok.promised; role = raised_role s.floor t.node.proposer.role ok.role }

  takes_in : (n : ℕ) (s : taken.Snapshot) (o : Option Head) (t : Plan B) → Ok t → Ok (take_in n s o t)
  takes_in n s None t ok = record { seen = ok.seen; promised = ok.promised; role = ok.role }
  takes_in n s (Some head) t ok =
      cond_both (has_boot n t.node head) t (rest_on true s t) (λ u. Ok u) (λ d. ok) (λ d. rests true s t ok)

  cuts : (o : Option taken.Snapshot) (t : Plan B) → Ok t → Ok (on_cut o t)
  cuts None t ok = ok
  cuts (Some s) t ok = rests false s t ok

  module _ (same : B → B → Bool) (members n : ℕ) where
    cast_ok : (v : Vote B) (t : Plan B) → Ok t → R v.ballot.round → Ok (cast same members n v t)
    cast_ok v t ok r = record { seen = ok.seen; promised = r; role = down_role v.ballot t.node.proposer.role ok.role }

    proposes_as : (r : Role B) (e : Entry B) (t : Plan B) → Ok t → RoleProper r → Ok (propose_as same members n r e t)
    proposes_as Idle e t ok h = ok
    proposes_as (Preparing b floor cs) e t ok h = ok
    proposes_as (Leading b slot table) e t ok h =
        cond_both (nat_lt slot slot_end) (cast same members n (next_vote b slot e) (offer members n b slot table e t)) t (λ u. Ok u)
        (λ l. cast_ok (next_vote b slot e) (offer members n b slot table e t)
        (record { seen = ok.seen; promised = ok.promised; role = (h.0, omega arith, one_up slot table (next_vote b slot e) h.2 h.1 refl) }) h.0)
        (λ l. ok)

    proposes : (e : Entry B) (t : Plan B) → Ok t → Ok (propose same members n e t)
    proposes e t ok = proposes_as t.node.proposer.role e t ok ok.role

    proposes_all : (es : List (Entry B)) (t : Plan B) → Ok t → Ok (propose_all same members n es t)
    proposes_all [] t ok = ok
    proposes_all (e ∷ es) t ok = proposes_all es (propose same members n e t) (proposes e t ok)

    proposes_new : (e : Entry B) (t : Plan B) → Ok t → Ok (propose_new same members n e t)
    proposes_new e t ok =
        cond_both (stands same (log_length t.node) t.node.proposer.role e) t (propose same members n e t) (λ u. Ok u) (λ d. ok)
        (λ d. proposes e t ok)

    proposes_each : (es : List (Entry B)) (t : Plan B) → Ok t → Ok (propose_each same members n es t)
    proposes_each [] t ok = ok
    proposes_each (e ∷ es) t ok = proposes_each es (propose_new same members n e t) (proposes_new e t ok)

    pushes : (t : Plan B) → Ok t → Ok (push same members n t)
    pushes t ok =
        cond_both (is_leading t.node.proposer.role) (propose_each same members n t.node.pending t)
        (send (forwarded n t.node.rows.promised t.node.pending) t) (λ u. Ok u)
        (λ d. proposes_each t.node.pending t ok)
        (λ d. record { seen = ok.seen; promised = ok.promised; role = ok.role })

    promises_as : (from : ℕ) (b : Ballot) (floor : ℕ) (votes : List (Vote B)) (r : Role B) (t : Plan B) → Ok t → RoleProper r
        → Ok (on_promise_as same members n from b floor votes r t)
    promises_as from b floor votes Idle t ok h = ok
    promises_as from b floor votes (Leading c slot table) t ok h = ok
    promises_as from b floor votes (Preparing c first cs) t ok h =
        cond_both (same_ballot b c && not (is_counted cs from)) (count_promise same members n c first own more t) t (λ u. Ok u)
        (λ e. cond_both (is_majority members (is_counted more)) (push same members n (lead same members n c low (reports more) t))
        (record t { node = with_role (Preparing c first more) t.node }) (λ u. Ok u)
        (λ m. pushes (lead same members n c low (reports more) t)
        (proposes_all (called_for low (reports more)) (record t { node = with_role (Leading c low []) t.node })
        (record { seen = ok.seen; promised = ok.promised; role = (h.0, reached, tt) })))
        (λ m. record { seen = ok.seen; promised = ok.promised; role = h }))
        (λ e. ok)
      where
        more : List (CountedPromise B)
        more = cs ++ record { node = from; floor = floor; votes = votes } ∷ []

        own : ℕ
        own = floor_in t.node.rows.snapshot

        low : ℕ
        low = lowest first own more

        reached : 1 ≤ low
        reached = let l = (lowest_has first own more).0 in let f = h.1 in omega arith

    casts_or_shows : (from : ℕ) (given : Option taken.Snapshot) (v : Vote B) (t : Plan B) → Ok t → R v.ballot.round
        → Ok (cast_or_show same members n from given v t)
    casts_or_shows from None v t ok r = cast_ok v t ok r
    casts_or_shows from (Some s) v t ok r = record { seen = ok.seen; promised = ok.promised; role = ok.role }

    answers_ask : (from slot : ℕ) (given : Option taken.Snapshot) (t : Plan B) → Ok t → Ok (answer_ask n from slot given t)
    answers_ask from slot None t ok = record { seen = ok.seen; promised = ok.promised; role = ok.role }
    answers_ask from slot (Some s) t ok = record { seen = ok.seen; promised = ok.promised; role = ok.role }

    hears_packet : (from : ℕ) (kind : Kind B) (t : Plan B) → Ok t → R (round_in kind) → Ok (on_packet same members n from kind t)
    hears_packet from (Prepare b first) t ok r =
        cond_both (may_promise t.node.rows.promised b)
        (send (packet n (promise_of t.node.rows b first) from ∷ []) (promise b t)) (refuse n from b t) (λ u. Ok u)
        (λ e. record { seen = ok.seen; promised = r; role = down_role b t.node.proposer.role ok.role })
        (λ e. record { seen = ok.seen; promised = ok.promised; role = ok.role })
    hears_packet from (Promise b floor votes) t ok r = promises_as from b floor votes t.node.proposer.role t ok ok.role
    hears_packet from (Accept v) t ok r =
        cond_both (may_accept t.node.rows.promised v.ballot) (cast_or_show same members n from (given_by t.node.rows.snapshot v.slot) v t)
        (refuse n from v.ballot t) (λ u. Ok u)
        (λ e. casts_or_shows from (given_by t.node.rows.snapshot v.slot) v t ok r)
        (λ e. record { seen = ok.seen; promised = ok.promised; role = ok.role })
    hears_packet from (Accepted v) t ok r = record { seen = ok.seen; promised = ok.promised; role = ok.role }
    hears_packet from (Nack b p) t ok r =
        record { seen = ok.seen; promised = ok.promised; role = nacked_role b p t.node.proposer.role ok.role }
    hears_packet from (Forward es) t ok r =
        cond_both (is_leading t.node.proposer.role) (propose_each same members n es t) t (λ u. Ok u) (λ d. proposes_each es t ok) (λ d. ok)
    hears_packet from (Ask slot) t ok r = answers_ask from slot (given_by t.node.rows.snapshot slot) t ok
    hears_packet from (Snapshot s) t ok r = ok
    hears_packet from (Learned slot e) t ok r = record { seen = ok.seen; promised = ok.promised; role = ok.role }

    greatest : (a b : ℕ) → R a → R b → R (max a b)
    greatest a b r s = ⊎_elim (λ e. subst R (sym e) r) (λ e. subst R (sym e) s) (max_is a b)

    delivers : (from : ℕ) (kind : Kind B) (t : Plan B) → Ok t → R (round_in kind)
        → Ok (deliver same members n from kind (record t { node = saw kind t.node }))
    delivers from kind t ok r =
        ⊎_elim
        (λ (z : (s : taken.Snapshot) × (kind ≡ Snapshot s)). subst (λ k. Ok (deliver same members n from k u)) (sym z.1)
        (cond_both (nat_le z.0.floor (log_length u.node)) u (take_in n z.0 (head_at z.0.octets) u) (λ y. Ok y) (λ d. seen)
        (λ d. takes_in n z.0 (head_at z.0.octets) u seen)))
        (λ (z : IsOther same members n from kind). subst (λ y. Ok y) (sym (z u)) (hears_packet from kind u seen r))
        (by_kind same members n from kind)
      where
        u : Plan B
        u = record t { node = saw kind t.node }

        seen : Ok u
        seen = record { seen = greatest t.node.proposer.seen (round_in kind) ok.seen r; promised = ok.promised; role = ok.role }

    begins : (t : Plan B) → Ok t → (starts n t.node ≡ true → R (new_ballot n t.node.rows.promised t.node.proposer).round) → Ok (on_start members n t)
    begins t ok r =
        cond_both (starts n t.node) (begin members n b (suc (log_length t.node)) t) t (λ u. Ok u)
        (λ e. record { seen = greatest t.node.proposer.seen b.round ok.seen (r e); promised = r e; role = (r e, omega arith) })
        (λ e. ok)
      where
        b : Ballot
        b = new_ballot n t.node.rows.promised t.node.proposer

    suspects : (lost : Option (Entry B)) (t : Plan B) → Ok t → Ok (suspected same members n lost t)
    suspects None t ok = ok
    suspects (Some lost) t ok =
        cond_both (has_room t.node) (push same members n (record t { node = with_pending (t.node.pending ++ lost ∷ []) t.node })) t (λ u. Ok u)
        (λ e. pushes (record t { node = with_pending (t.node.pending ++ lost ∷ []) t.node })
        (record { seen = ok.seen; promised = ok.promised; role = ok.role }))
        (λ e. ok)

    takes_act : (transport : ℕ) (body : B) (t : Plan B) → Ok t → Ok (on_take same members n transport body t)
    takes_act transport body t ok =
        cond_both (takes t.node) (push same members n (record t { node = with_item n transport body t.node })) t (λ u. Ok u)
        (λ e. pushes (record t { node = with_item n transport body t.node })
        (record { seen = ok.seen; promised = ok.promised; role = ok.role }))
        (λ e. ok)

    ticks : (t : Plan B) → Ok t → Ok (on_tick same members n t)
    ticks t ok =
        let s = pushes (send (again members n t.node.proposer.role t.node.learner) t)
        (record { seen = ok.seen; promised = ok.promised; role = ok.role }) in
        record { seen = s.seen; promised = s.promised; role = s.role }

  applies : (n : ℕ) → R 0 → (es : List (Entry B)) (t : Plan B) → Ok t → Ok (apply_all n es t)
  applies n r [] t ok = ok
  applies n r (e ∷ es) t ok =
      cond_both (ends n t.node e) (go_down (note e t)) (apply_all n es (note e t)) (λ u. Ok u)
      (λ d. record { seen = r; promised = ok.promised; role = tt })
      (λ d. applies n r es (note e t) (record { seen = ok.seen; promised = ok.promised; role = ok.role }))

  settles : (n : ℕ) → R 0 → (t : Plan B) → Ok t → Ok (settle n t)
  settles n r t ok = applies n r (run_from (suc (log_length t.node)) t.node.learner.learned) t ok

  starts_proper : (n : ℕ) (rows : Rows B) → R (round_of rows.promised) → Proper (started n rows)
  starts_proper n rows r = record { seen = r; promised = r; role = tt }

  -- what an event brings: the round of its packet, or of the ballot that it begins
  abbrev pub Brings : Event B → NodeState B → Type 0
  Brings (Start n) x = starts n x ≡ true → R (new_ballot n x.rows.promised x.proposer).round
  Brings (Deliver p) x = R (round_in p.kind)
  Brings _ x = Unit {0}

  pub outcome_proper : (same : B → B → Bool) (members : ℕ) → R 0 → (e : Event B) (x : NodeState B) → Proper x → Brings e x
      → Proper (outcome_of same members e x).node
  outcome_proper same members r (Take n t body) x ok h =
      settles n r (on_event same members (Take n t body) (begun x)) (takes_act same members n t body (begun x) ok)
  outcome_proper same members r (Tick n) x ok h =
      settles n r (on_event same members (Tick n) (begun x)) (ticks same members n (begun x) ok)
  outcome_proper same members r (Start n) x ok h =
      settles n r (on_event same members (Start n) (begun x)) (begins same members n (begun x) ok h)
  outcome_proper same members r (Suspect n other) x ok h =
      settles n r (on_event same members (Suspect n other) (begun x)) (suspects same members n (new_lost same n other x) (begun x) ok)
  outcome_proper same members r (Deliver p) x ok h =
      settles p.addressee r (on_event same members (Deliver p) (begun x)) (delivers same members p.addressee p.sender p.kind (begun x) ok h)
  outcome_proper same members r (Cut n o) x ok h = settles n r (on_event same members (Cut n o) (begun x)) (cuts o (begun x) ok)
  outcome_proper same members r (Crash n) x ok h = record { seen = r; promised = ok.promised; role = tt }
  outcome_proper same members r (Restart n) x ok h = starts_proper n (raised x.rows) ok.promised

-- one may hold more rounds
more_rounds : {B : Type 0} (R S : ℕ → Type 0) → ((r : ℕ) → R r → S r) → (x : NodeState B) → Proper R x → Proper S x
more_rounds {B} R S h x ok = record { seen = h _ ok.seen; promised = h _ ok.promised; role = role x.proposer.role ok.role }
  where
    role : (r : Role B) → RoleProper R r → RoleProper S r
    role Idle p = tt
    role (Preparing b floor cs) p = (h _ p.0, p.1)
    role (Leading b slot table) p = (h _ p.0, p.1, p.2)

-- the packets of an event's plan are sent as they are when what was learned is applied
packets_stay : {B : Type 0} (n : ℕ) (es : List (Entry B)) (t : Plan B) → (apply_all n es t).packets ≡ t.packets
packets_stay n [] t = refl
packets_stay n (e ∷ es) t =
    cond_both (ends n t.node e) (go_down (note e t)) (apply_all n es (note e t)) (λ u. u.packets ≡ t.packets) (λ d. refl)
    (λ d. packets_stay n es (note e t))

module _ {B : Type 0} (same : B → B → Bool) (members : ℕ) where
  -- by any notion of rounds, world by world
  module _ (R : List (Packet B) → ℕ → Type 0) (grows : (sent more : List (Packet B)) (r : ℕ) → R sent r → R (sent ++ more) r)
      (none : (sent : List (Packet B)) → R sent 0)
      (brings : (w : World B) (e : Event B) → was_sent same e w.sent ≡ true
      → Brings (R (w.sent ++ (outcome_of same members e (node_at w.nodes (owner e))).packets)) e (node_at w.nodes (owner e))) where
    abbrev AllProper : World B → Type 0
    AllProper w = (k : ℕ) → Proper (R w.sent) (node_at w.nodes k)

    next_proper : (w : World B) (e : Event B) → AllProper w → AllProper (next same members w e)
    next_proper w e ok = by_next same members (λ z. AllProper z) w e ok go
      where
        o : Plan B
        o = outcome_of same members e (node_at w.nodes (owner e))

        later : (k : ℕ) → Proper (R (w.sent ++ o.packets)) (node_at w.nodes k)
        later k = more_rounds (R w.sent) (R (w.sent ++ o.packets)) (λ r h. grows w.sent o.packets r h) (node_at w.nodes k) (ok k)

        go : May same members w e → AllProper (done same w e (node_at w.nodes (owner e)) o)
        go m k =
            ⊎_elim
            (λ (i : k ≡ owner e). subst (λ j. Proper (R (w.sent ++ o.packets)) (node_at (put_node w.nodes (owner e) o.node) j)) (sym i)
            (subst (λ x. Proper (R (w.sent ++ o.packets)) x) (sym (node_same w.nodes (owner e) o.node (within w.nodes e (owner e) m.1)))
            (outcome_proper (R (w.sent ++ o.packets)) same members (none (w.sent ++ o.packets)) e (node_at w.nodes (owner e)) (later (owner e))
            (brings w e m.0))))
            (λ i. subst (λ x. Proper (R (w.sent ++ o.packets)) x) (sym (node_other w.nodes (owner e) o.node k i)) (later k))
            (cases_eq k (owner e))

    all_proper : (events : List (Event B)) → AllProper (played same members events)
    all_proper events =
        in_every same members (λ w. AllProper w) next_proper events (first_world members)
        (λ k. founded_each (λ j x. Proper (R []) x) (λ j. starts_proper (R []) (suc j) first_rows (none []))
        (λ j. record { seen = none []; promised = none []; role = tt }) members k)

pub rounds_were_sent : {B : Type 0} (same : B → B → Bool) → IsEquality same → RoundsWereSent B same
rounds_were_sent {B} same equal members many events n =
    let p = all_proper same members WasSentRound grows (λ sent. inl refl) brings events n in
    record { seen = p.seen; promised = p.promised; role = role (node_at w'.nodes n).proposer.role p.role }
  where
    w' : World B
    w' = played same members events

    R : ℕ → Type 0
    R = WasSentRound w'.sent

    role : (r : Role B) → RoleProper R r → IsRoundOfRole R r
    role Idle p = tt
    role (Preparing b floor cs) p = p.0
    role (Leading b slot table) p = p.0

    grows : (sent more : List (Packet B)) (r : ℕ) → WasSentRound sent r → WasSentRound (sent ++ more) r
    grows sent more r (inl e) = inl e
    grows sent more r (inr p) = inr (p.0, has_left more p.1, p.2)

    brings : (w : World B) (e : Event B) → was_sent same e w.sent ≡ true
        → Brings (WasSentRound (w.sent ++ (outcome_of same members e (node_at w.nodes (owner e))).packets)) e (node_at w.nodes (owner e))
    brings w (Start k) s = λ h.
        inr (
          record { sender = k; addressee = (asked h).to; kind = Prepare b floor },
          has_right w.sent
              (subst (λ l. Has l (record { sender = k; addressee = (asked h).to; kind = Prepare b floor })) (sym (packets h)) (asked h).is),
          refl,
        )
      where
        x : NodeState B
        x = node_at w.nodes k

        b : Ballot
        b = new_ballot k x.rows.promised x.proposer

        floor : ℕ
        floor = suc (log_length x)

        asked : starts k x ≡ true → Sent {B = B} (to_others members k (Prepare b floor)) k (Prepare b floor)
        asked h = others_sent members k (omega arith) (Prepare b floor)

        packets : starts k x ≡ true → (outcome_of same members (Start k) x).packets ≡ to_others members k (Prepare b floor)
        packets h =
            packets_stay k (run_from (suc (log_length (on_start members k (begun x)).node)) (on_start members k (begun x)).node.learner.learned)
            (on_start members k (begun x))
            ∙ ap (λ (t : Plan B). t.packets) (cond-true (starts k x) (begin members k b floor (begun x)) (begun x) h)
    brings w (Deliver p) s = inr (p, has_left _ (among_has same equal p w.sent s), refl)
    brings w _ s = tt

pub proposals_follow : {B : Type 0} (same : B → B → Bool) → ProposalsFollow B same
proposals_follow {B} same members events n =
    role (node_at (played same members events).nodes n).proposer.role
    (all_proper same members (λ sent r. Unit {0}) (λ sent more r h. tt) (λ sent. tt) brings events n).role
  where
    role : (r : Role B) → RoleProper (λ q. Unit {0}) r → FollowOneAnother r
    role Idle p = tt
    role (Preparing b floor cs) p = tt
    role (Leading b slot table) p = p.2

    brings : (w : World B) (e : Event B) → was_sent same e w.sent ≡ true → Brings (λ r. Unit {0}) e (node_at w.nodes (owner e))
    brings w (Start k) s = λ h. tt
    brings w _ s = tt
