-- What each learner keeps, and that nothing which a node has learned waits.
use Rattle.std.proofs.Common.{◌≡◌, ⊎_elim, ℕ, suc, ◌<◌, ◌≤◌, Bool, true, false, not, ◌&&◌, ◌||◌, eqb, refl, sym, ◌∙◌, subst, arith}
use Rattle.std.proofs.Common.{List, [], ◌∷◌, ◌++◌, Option, Some, None}
use Rattle.std.specs.Prelude.{nat_lt, nat_le, filter, if◌then◌else◌}
use Rattle.std.proofs.lemmas.Bool.{cond_both, cases_eq, ltb-true, ltb-false, eq-eqb, ne_eqb, or_from}
use Rattle.cluster_world.proofs.Taking.{in_every}
use Rattle.cluster_world.proofs.EventsAtOnce.{all_rest}
use Rattle.cluster_world.proofs.EveryWorld.{within, node_same, node_other, plain_at}
use Rattle.cluster_world.proofs.Taking.{by_next}
use Rattle.paxos_packets.specs.Ballot.{same_ballot}
use Rattle.paxos_packets.specs.Members.{is_majority}
use Rattle.paxos_packets.specs.Packet.{packet}
use Rattle.paxos_packets.specs.Snapshot.{floor_in}
use Rattle.paxos_packets.specs.Snapshot as taken
use Rattle.paxos_packets.specs.declared.ballot.Ballot.{Ballot}
use Rattle.paxos_packets.specs.declared.entry.Entry.{Entry}
use Rattle.paxos_packets.specs.declared.packet.Kind.{Kind}
use Rattle.paxos_packets.specs.declared.packet.Kind.TheVariants.{Prepare, Promise, Accept, Accepted, Nack, Forward, Ask, Learned, Snapshot}
use Rattle.paxos_packets.specs.declared.vote.Vote.{Vote}
use Rattle.paxos_acceptor.specs.Acceptor.{may_promise, may_accept, promise_of, given_by}
use Rattle.paxos_proposer.specs.declared.promises.CountedPromise.{CountedPromise}
use Rattle.paxos_proposer.specs.Role.{Role, Idle, Preparing, Leading}
use Rattle.paxos_proposer.specs.Proposer.{slot_end, next_vote, new_ballot, is_leading}
use Rattle.paxos_proposer.specs.Promises.{lowest}
use Rattle.paxos_proposer.specs.Reports.{is_counted, reports, called_for}
use Rattle.paxos_learner.specs.declared.learned.LearnedEntry.{LearnedEntry}
use Rattle.paxos_learner.specs.Learned.{is_closed, is_learned}
use Rattle.paxos_learner.specs.Learner.{LearnerState, unheard, forget, hears, has_most, put_learned, is_known, learn, learn_chosen, count_vote}
use Rattle.paxos_learner.specs.Learner.{run_with, run_from}
use Rattle.paxos_node.specs.declared.event.Event.{Event}
use Rattle.paxos_node.specs.declared.event.Event.TheVariants.{Take, Tick, Start, Suspect, Deliver, Cut, Crash, Restart}
use Rattle.paxos_planning.specs.Node.{NodeState, Plan, log_length}
use Rattle.paxos_planning.specs.Plan.{with_role, with_pending, begun, send, promise, cast}
use Rattle.paxos_planning.specs.Proposals.{offer, propose_as, propose, propose_all, lead, stands, propose_new, propose_each, forwarded, push}
use Rattle.paxos_planning.specs.Replies.{saw, refuse, cast_or_show, answer_ask, count_promise, on_promise_as, on_packet}
use Rattle.paxos_planning.specs.Starting.{begin, starts, on_start}
use Rattle.paxos_planning.specs.Ticking.{again}
use Rattle.paxos_node.specs.Applying.{note, ends, go_down, apply_all, settle}
use Rattle.paxos_node.specs.Events.{takes, with_item, on_take, has_room, suspected, new_lost, owner, deliver, on_event, outcome_of}
use Rattle.paxos_node.specs.Snapshots.{has_boot, rest_on, take_in, on_cut}
use Rattle.replica_machine.specs.declared.head.Head.{Head}
use Rattle.replica_machine.specs.Snapshot.{head_at}
use Rattle.cluster_world.proofs.Delivering.{IsOther, by_kind}
use Rattle.cluster_world.specs.Laws.{NothingWaits}
use Rattle.cluster_world.specs.World.{World, node_at, put_node, first_world, next, played}

-- what holds of a learner that has just begun at the floor of its node, and stays so as votes are counted, entries learned and slots forgotten,
-- holds of each
module _ {B : Type 0} (same : B → B → Bool) (members : ℕ) (Q : ℕ → LearnerState B → Type 0)
    (none : (floor : ℕ) → Q floor (unheard floor))
    (counts : (f k : ℕ) (v : Vote B) (l : LearnerState B) → Q f l → Q f (count_vote members k v l))
    (learns : (f slot : ℕ) (e : Entry B) (l : LearnerState B) → Q f l → Q f (learn slot e l))
    (forgets : (f floor : ℕ) (l : LearnerState B) → Q f l → Q floor (forget floor l)) where
  abbrev Ok : Plan B → Type 0
  Ok t = Q (floor_in t.node.rows.snapshot) t.node.learner

  module _ (n : ℕ) where
    proposes_as : (r : Role B) (e : Entry B) (t : Plan B) → Ok t → Ok (propose_as same members n r e t)
    proposes_as Idle e t ok = ok
    proposes_as (Preparing b floor cs) e t ok = ok
    proposes_as (Leading b slot table) e t ok =
        cond_both (nat_lt slot slot_end) (cast same members n (next_vote b slot e) (offer members n b slot table e t)) t (λ u. Ok u)
        (λ l. counts (floor_in t.node.rows.snapshot) n (next_vote b slot e) t.node.learner ok) (λ l. ok)

    proposes : (e : Entry B) (t : Plan B) → Ok t → Ok (propose same members n e t)
    proposes e t ok = proposes_as t.node.proposer.role e t ok

    proposes_all : (es : List (Entry B)) (t : Plan B) → Ok t → Ok (propose_all same members n es t)
    proposes_all [] t ok = ok
    proposes_all (e ∷ es) t ok = proposes_all es (propose same members n e t) (proposes e t ok)

    proposes_new : (e : Entry B) (t : Plan B) → Ok t → Ok (propose_new same members n e t)
    proposes_new e t ok =
        cond_both (stands same (log_length t.node) t.node.proposer.role e) t (propose same members n e t) (λ u. Ok u) (λ d. ok)
        (λ d. proposes e t ok)

    proposes_each : (es : List (Entry B)) (t : Plan B) → Ok t → Ok (propose_each same members n es t)
    proposes_each [] t ok = ok
    proposes_each (e ∷ es) t ok = proposes_each es (propose_new same members n e t) (proposes_new e t ok)

    pushes : (t : Plan B) → Ok t → Ok (push same members n t)
    pushes t ok =
        cond_both (is_leading t.node.proposer.role) (propose_each same members n t.node.pending t)
        (send (forwarded n t.node.rows.promised t.node.pending) t) (λ u. Ok u) (λ d. proposes_each t.node.pending t ok) (λ d. ok)

    promises_as : (from : ℕ) (b : Ballot) (floor : ℕ) (votes : List (Vote B)) (r : Role B) (t : Plan B) → Ok t → Ok (on_promise_as same members n from b floor votes r t)
    promises_as from b floor votes Idle t ok = ok
    promises_as from b floor votes (Leading c slot table) t ok = ok
    promises_as from b floor votes (Preparing c first cs) t ok =
        cond_both (same_ballot b c && not (is_counted cs from)) (count_promise same members n c first own more t) t (λ u. Ok u)
        (λ e. cond_both (is_majority members (is_counted more)) (push same members n (lead same members n c low (reports more) t))
        (record t { node = with_role (Preparing c first more) t.node }) (λ u. Ok u)
        (λ m. pushes (lead same members n c low (reports more) t)
        (proposes_all (called_for low (reports more)) (record t { node = with_role (Leading c low []) t.node }) ok))
        (λ m. ok))
        (λ e. ok)
      where
        more : List (CountedPromise B)
        more = cs ++ record { node = from; floor = floor; votes = votes } ∷ []

        own : ℕ
        own = floor_in t.node.rows.snapshot

        low : ℕ
        low = lowest first own more

    casts_or_shows : (from : ℕ) (given : Option taken.Snapshot) (v : Vote B) (t : Plan B) → Ok t → Ok (cast_or_show same members n from given v t)
    casts_or_shows from None v t ok = counts (floor_in t.node.rows.snapshot) n v t.node.learner ok
    casts_or_shows from (Some s) v t ok = ok

    answers_ask : (from slot : ℕ) (given : Option taken.Snapshot) (t : Plan B) → Ok t → Ok (answer_ask n from slot given t)
    answers_ask from slot None t ok = ok
    answers_ask from slot (Some s) t ok = ok

    hears_packet : (from : ℕ) (kind : Kind B) (t : Plan B) → Ok t → Ok (on_packet same members n from kind t)
    hears_packet from (Prepare b first) t ok =
        cond_both (may_promise t.node.rows.promised b)
        (send (packet n (promise_of t.node.rows b first) from ∷ []) (promise b t)) (refuse n from b t) (λ u. Ok u)
        (λ e. ok) (λ e. ok)
    hears_packet from (Promise b floor votes) t ok = promises_as from b floor votes t.node.proposer.role t ok
    hears_packet from (Accept v) t ok =
        cond_both (may_accept t.node.rows.promised v.ballot) (cast_or_show same members n from (given_by t.node.rows.snapshot v.slot) v t)
        (refuse n from v.ballot t) (λ u. Ok u)
        (λ e. casts_or_shows from (given_by t.node.rows.snapshot v.slot) v t ok) (λ e. ok)
    hears_packet from (Accepted v) t ok = counts (floor_in t.node.rows.snapshot) from v t.node.learner ok
    hears_packet from (Nack b p) t ok = ok
    hears_packet from (Forward es) t ok =
        cond_both (is_leading t.node.proposer.role) (propose_each same members n es t) t (λ u. Ok u) (λ d. proposes_each es t ok) (λ d. ok)
    hears_packet from (Ask slot) t ok = answers_ask from slot (given_by t.node.rows.snapshot slot) t ok
    hears_packet from (Snapshot s) t ok = ok
    hears_packet from (Learned slot e) t ok = learns (floor_in t.node.rows.snapshot) slot e t.node.learner ok

    begins : (t : Plan B) → Ok t → Ok (on_start members n t)
    begins t ok =
        cond_both (starts n t.node)
        (begin members n (new_ballot n t.node.rows.promised t.node.proposer) (suc (log_length t.node)) t) t (λ u. Ok u) (λ e. ok) (λ e. ok)

    suspects : (lost : Option (Entry B)) (t : Plan B) → Ok t → Ok (suspected same members n lost t)
    suspects None t ok = ok
    suspects (Some lost) t ok =
        cond_both (has_room t.node) (push same members n (record t { node = with_pending (t.node.pending ++ lost ∷ []) t.node })) t (λ u. Ok u)
        (λ e. pushes (record t { node = with_pending (t.node.pending ++ lost ∷ []) t.node }) ok) (λ e. ok)

    takes_act : (transport : ℕ) (body : B) (t : Plan B) → Ok t → Ok (on_take same members n transport body t)
    takes_act transport body t ok =
        cond_both (takes t.node) (push same members n (record t { node = with_item n transport body t.node })) t (λ u. Ok u)
        (λ e. pushes (record t { node = with_item n transport body t.node }) ok) (λ e. ok)

    applies : (es : List (Entry B)) (t : Plan B) → Ok t → Ok (apply_all n es t)
    applies [] t ok = ok
    applies (e ∷ es) t ok =
        cond_both (ends n t.node e) (go_down (note e t)) (apply_all n es (note e t)) (λ u. Ok u)
        (λ d. none (floor_in t.node.rows.snapshot)) (λ d. applies es (note e t) ok)

    rests : (over : Bool) (s : taken.Snapshot) (t : Plan B) → Ok t → Ok (rest_on over s t)
    rests false s t ok = forgets (floor_in t.node.rows.snapshot) s.floor t.node.learner ok
    rests true s t ok = forgets (floor_in t.node.rows.snapshot) s.floor t.node.learner ok

    takes_in : (s : taken.Snapshot) (o : Option Head) (t : Plan B) → Ok t → Ok (take_in n s o t)
    takes_in s None t ok = ok
    takes_in s (Some head) t ok =
        cond_both (has_boot n t.node head) t (rest_on true s t) (λ u. Ok u) (λ d. ok) (λ d. rests true s t ok)

    delivers : (from : ℕ) (kind : Kind B) (t : Plan B) → Ok t → Ok (deliver same members n from kind t)
    delivers from kind t ok =
        ⊎_elim
        (λ (z : (s : taken.Snapshot) × (kind ≡ Snapshot s)). subst (λ k. Ok (deliver same members n from k t)) (sym z.1)
        (cond_both (nat_le z.0.floor (log_length t.node)) t (take_in n z.0 (head_at z.0.octets) t) (λ u. Ok u) (λ d. ok)
        (λ d. takes_in z.0 (head_at z.0.octets) t ok)))
        (λ (z : IsOther same members n from kind). subst (λ u. Ok u) (sym (z t)) (hears_packet from kind t ok))
        (by_kind same members n from kind)

    cuts : (o : Option taken.Snapshot) (t : Plan B) → Ok t → Ok (on_cut o t)
    cuts None t ok = ok
    cuts (Some s) t ok = rests false s t ok

    settles : (t : Plan B) → Ok t → Ok (settle n t)
    settles t ok = applies (run_from (suc (log_length t.node)) t.node.learner.learned) t ok

  outcome_keeps : (e : Event B) (x : NodeState B) → Q (floor_in x.rows.snapshot) x.learner
      → Q (floor_in (outcome_of same members e x).node.rows.snapshot) (outcome_of same members e x).node.learner
  outcome_keeps (Take n t body) x ok = settles n (on_event same members (Take n t body) (begun x)) (takes_act n t body (begun x) ok)
  outcome_keeps (Tick n) x ok = settles n (on_event same members (Tick n) (begun x)) (pushes n (send (again members n x.proposer.role x.learner) (begun x)) ok)
  outcome_keeps (Start n) x ok = settles n (on_event same members (Start n) (begun x)) (begins n (begun x) ok)
  outcome_keeps (Suspect n other) x ok = settles n (on_event same members (Suspect n other) (begun x)) (suspects n (new_lost same n other x) (begun x) ok)
  outcome_keeps (Deliver p) x ok =
      settles p.addressee (on_event same members (Deliver p) (begun x)) (delivers p.addressee p.sender p.kind (record (begun x) { node = saw p.kind x }) ok)
  outcome_keeps (Cut n o) x ok = settles n (on_event same members (Cut n o) (begun x)) (cuts n o (begun x) ok)
  outcome_keeps (Crash n) x ok = none (floor_in x.rows.snapshot)
  outcome_keeps (Restart n) x ok = none (floor_in x.rows.snapshot)

  abbrev AllKeep : World B → Type 0
  AllKeep w = (k : ℕ) → Q (floor_in (node_at w.nodes k).rows.snapshot) (node_at w.nodes k).learner

  next_keeps : (w : World B) (e : Event B) → AllKeep w → AllKeep (next same members w e)
  next_keeps w e all =
      by_next same members (λ z. AllKeep z) w e all
      (λ m k. ⊎_elim
      (λ (i : k ≡ owner e). subst (λ j. Kept (node_at (put_node w.nodes (owner e) o.node) j)) (sym i)
      (subst (λ x. Kept x) (sym (node_same w.nodes (owner e) o.node (within w.nodes e (owner e) m.1)))
      (outcome_keeps e (node_at w.nodes (owner e)) (all (owner e)))))
      (λ i. subst (λ x. Kept x) (sym (node_other w.nodes (owner e) o.node k i)) (all k))
      (cases_eq k (owner e)))
    where
      o : Plan B
      o = outcome_of same members e (node_at w.nodes (owner e))

      Kept : NodeState B → Type 0
      Kept x = Q (floor_in x.rows.snapshot) x.learner

  pub all_keep : (events : List (Event B)) → AllKeep (played same members events)
  all_keep events =
      in_every same members (λ w. AllKeep w) next_keeps events (first_world members)
      (λ k. let p = plain_at {B = B} members k in
      subst (λ (z : Option taken.Snapshot × LearnerState B). Q (floor_in z.0) z.1)
      (λ i. (sym p.snapshot i, record { floor = sym p.floor i; heard = sym p.heard i; learned = sym p.learned i })) (none 0))

-- learned entries ascend by slot, from this one on

abbrev pub Climbs : {B : Type 0} → ℕ → List (LearnedEntry B) → Type 0
Climbs slot [] = Unit {0}
Climbs slot (f ∷ fs) = (slot ≤ f.slot) × Climbs (suc f.slot) fs

put_climbs : {B : Type 0} (slot : ℕ) (f : LearnedEntry B) (gs : List (LearnedEntry B)) → slot ≤ f.slot → is_learned f.slot gs ≡ false
    → Climbs slot gs → Climbs slot (put_learned f gs)
put_climbs slot f [] l h c = (l, tt)
put_climbs {B} slot f (g ∷ gs) l h c = go (nat_lt g.slot f.slot) (eqb g.slot f.slot) refl refl h (λ l i. put_climbs (suc g.slot) f gs l i c.1)
  where
    apart : g.slot ≡ f.slot → eqb g.slot f.slot ≡ false → ⊥
    apart e q = off (sym (eq-eqb g.slot f.slot e) ∙ q)
      where
        off : true ≡ false → ⊥
        off e = cc

    after : f.slot ≤ g.slot → (g.slot ≡ f.slot → ⊥) → suc f.slot ≤ g.slot
    after a b = omega arith

    go : (a b : Bool) → nat_lt g.slot f.slot ≡ a → eqb g.slot f.slot ≡ b → (b || is_learned f.slot gs) ≡ false
        → (suc g.slot ≤ f.slot → is_learned f.slot gs ≡ false → Climbs (suc g.slot) (put_learned f gs))
        → Climbs slot (if a then g ∷ put_learned f gs else f ∷ (g ∷ gs))
    go a true p q i more = absurd (off i)
      where
        off : true ≡ false → ⊥
        off e = cc
    go true false p q i more = (c.0, more (ltb-true g.slot f.slot p) i)
    go false false p q i more = (l, (after (ltb-false g.slot f.slot p) (λ e. apart e q), c.1))

learn_climbs : {B : Type 0} (slot : ℕ) (e : Entry B) (l : LearnerState B) → Climbs 0 l.learned → Climbs 0 (learn slot e l).learned
learn_climbs {B} slot e l c = go (is_known slot l) refl
  where
    f : LearnedEntry B
    f = record { slot = slot; entry = e }

    second : (a : Bool) {b : Bool} → (a || b) ≡ false → b ≡ false
    second true e = absurd (never e)
      where
        never : true ≡ false → ⊥
        never e = cc
    second false e = e

    go : (b : Bool) → is_known slot l ≡ b → Climbs 0 (if b then l else record l { learned = put_learned f l.learned }).learned
    go true q = c
    go false q = put_climbs 0 f l.learned (omega arith) (second (is_closed l.floor slot) q) c

count_climbs : {B : Type 0} (members k : ℕ) (v : Vote B) (l : LearnerState B) → Climbs 0 l.learned → Climbs 0 (count_vote members k v l).learned
count_climbs members k v l c =
    cond_both (is_closed l.floor v.slot) l (learn_chosen members v (hears k v l)) (λ z. Climbs 0 z.learned) (λ d. c)
    (λ d. cond_both (has_most members v (hears k v l)) (learn v.slot v.entry (hears k v l)) (hears k v l) (λ z. Climbs 0 z.learned)
    (λ t. learn_climbs v.slot v.entry (hears k v l) c) (λ t. c))

climbs_low : {B : Type 0} (from slot : ℕ) (fs : List (LearnedEntry B)) → from ≤ slot → Climbs slot fs → Climbs from fs
climbs_low from slot [] l c = tt
climbs_low from slot (f ∷ fs) l c = (le l c.0, c.1)
  where
    le : {a b k : ℕ} → a ≤ b → b ≤ k → a ≤ k
    le p q = omega arith

filter_climbs : {B : Type 0} (test : LearnedEntry B → Bool) (slot : ℕ) (fs : List (LearnedEntry B)) → Climbs slot fs → Climbs slot (filter test fs)
filter_climbs test slot [] c = tt
filter_climbs test slot (f ∷ fs) c =
    cond_both (test f) (f ∷ filter test fs) (filter test fs) (λ l. Climbs slot l) (λ t. (c.0, filter_climbs test (suc f.slot) fs c.1))
    (λ t. climbs_low slot (suc f.slot) (filter test fs) (up c.0) (filter_climbs test (suc f.slot) fs c.1))
  where
    up : slot ≤ f.slot → slot ≤ suc f.slot
    up l = omega arith

pub all_climb : {B : Type 0} (same : B → B → Bool) (members : ℕ) (events : List (Event B)) (k : ℕ)
    → Climbs 0 (node_at (played same members events).nodes k).learner.learned
all_climb {B} same members events k =
    all_keep same members (λ floor (l : LearnerState B). Climbs 0 l.learned) (λ floor. tt) (λ f n v l c. count_climbs members n v l c)
    (λ f slot e l c. learn_climbs slot e l c)
    (λ f floor l c. filter_climbs _ 0 l.learned c) events k

-- what is not applied next was not learned

none_below : {B : Type 0} (slot from : ℕ) (fs : List (LearnedEntry B)) → slot < from → Climbs from fs → is_learned slot fs ≡ false
none_below slot from [] l c = refl
none_below slot from (f ∷ fs) l c =
    or_from (eqb f.slot slot) (is_learned slot fs) (ne_eqb f.slot slot apart) (none_below slot (suc f.slot) fs (omega arith) c.1)
  where
    apart : f.slot ≡ slot → ⊥
    apart e = omega arith

pub rests_unlearned : {B : Type 0} (slot from : ℕ) (fs : List (LearnedEntry B)) → Climbs from fs → run_from slot fs ≡ [] → is_learned slot fs ≡ false
rests_unlearned slot from [] c h = refl
rests_unlearned {B} slot from (f ∷ fs) c h =
    go (eqb f.slot slot) (nat_lt f.slot slot) refl refl (λ k. rests_unlearned slot (suc f.slot) fs c.1 k) h
  where
    nothing : {e : Entry B} {es : List (Entry B)} → ◌≡◌ {A = List (Entry B)} (e ∷ es) [] → ⊥
    nothing h = cc

    past : slot ≤ f.slot → slot < suc f.slot
    past l = omega arith

    go : (a b : Bool) → eqb f.slot slot ≡ a → nat_lt f.slot slot ≡ b → (run_from slot fs ≡ [] → is_learned slot fs ≡ false)
        → run_with a b f.entry (run_from (if a then suc slot else slot) fs) ≡ [] → (a || is_learned slot fs) ≡ false
    go true b p q more k = absurd (nothing k)
    go false true p q more k = more k
    go false false p q more k = none_below slot (suc f.slot) fs (past (ltb-false f.slot slot q)) c.1

pub nothing_waits : {B : Type 0} (same : B → B → Bool) → NothingWaits B same
nothing_waits same members events n =
    rests_unlearned _ 0 (node_at (played same members events).nodes n).learner.learned (all_climb same members events n)
    (all_rest same members events n)

-- a learner forgets up to its node's floor

learn_floor : {B : Type 0} (slot : ℕ) (e : Entry B) (l : LearnerState B) → (learn slot e l).floor ≡ l.floor
learn_floor slot e l =
    cond_both (is_known slot l) l (record l { learned = put_learned (record { slot = slot; entry = e }) l.learned }) (λ z. z.floor ≡ l.floor)
    (λ t. refl) (λ t. refl)

pub count_floor : {B : Type 0} (members k : ℕ) (v : Vote B) (l : LearnerState B) → (count_vote members k v l).floor ≡ l.floor
count_floor members k v l =
    cond_both (is_closed l.floor v.slot) l (learn_chosen members v (hears k v l)) (λ z. z.floor ≡ l.floor) (λ c. refl)
    (λ c. cond_both (has_most members v (hears k v l)) (learn v.slot v.entry (hears k v l)) (hears k v l) (λ z. z.floor ≡ l.floor)
    (λ t. learn_floor v.slot v.entry (hears k v l)) (λ t. refl))

pub all_floors : {B : Type 0} (same : B → B → Bool) (members : ℕ) (events : List (Event B)) (k : ℕ)
    → (node_at (played same members events).nodes k).learner.floor ≡ floor_in (node_at (played same members events).nodes k).rows.snapshot
all_floors {B} same members events k =
    all_keep same members (λ floor (l : LearnerState B). l.floor ≡ floor) (λ floor. refl) (λ f n v l c. count_floor members n v l ∙ c)
    (λ f slot e l c. learn_floor slot e l ∙ c) (λ f floor l c. refl) events k
