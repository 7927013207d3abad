-- Moves that promise, vote or propose.
use Rattle.std.proofs.Common.{max, ◌≡◌, ⊎_elim, ℕ, suc, ◌<◌, ◌≤◌, true, false, refl, sym, ap, ◌∙◌, subst, arith, List, [], ◌∷◌, ◌++◌, Option}
use Rattle.std.proofs.Common.{Some, None, Bool, cond}
use Rattle.std.specs.Prelude.{nat_le}
use Rattle.std.proofs.lemmas.Bool.{cond_both, leb-false}
use Rattle.cluster_world.proofs.Order.{Lt, Le, Reaches, Over, reach, le_refl, lt_not_le, le_cases, le_from_test}
use Rattle.cluster_world.proofs.Lists.{has_one, has_cases}
use Rattle.cluster_world.proofs.Invariant.{Sent, Known, Safe, Tops, Tells, Told, RowsOk, RoleOk, LeadingOk, Grows, NodeOk, Inv, promises}
use Rattle.cluster_world.proofs.Invariant.{KindOk}
use Rattle.cluster_world.proofs.Growth.{known_grows, safe_grows, chosen_grows, vote_of_grows, role_grows}
use Rattle.cluster_world.proofs.InvariantKept.{sent_cases, known_cases, sent_right}
use Rattle.cluster_world.proofs.WithNode.{with_node, with_node_promised, Kept, mine_ok, plan_moved}
use Rattle.cluster_world.proofs.AcceptorTests.{accept_le, accept_up, accept_over, promise_lt, promise_up, put_has, put_cases, put_keeps}
use Rattle.cluster_world.proofs.AcceptorTests.{from_has, has_from, sent_to_others, sent_one, others_sent}
use Rattle.paxos_packets.specs.Ballot.{below}
use Rattle.paxos_proposer.specs.declared.promises.CountedPromise.{CountedPromise}
use Rattle.paxos_proposer.specs.Role.{Role, Idle, Preparing, Leading}
use Rattle.paxos_planning.specs.Node.{NodeState}
use Rattle.paxos_packets.specs.Packet.{packet, to_others}
use Rattle.paxos_packets.specs.Snapshot.{floor_in}
use Rattle.paxos_packets.specs.Snapshot as taken
use Rattle.paxos_acceptor.specs.Acceptor.{with_promise, may_promise, may_accept, promise_of, given_by}
use Rattle.paxos_planning.specs.Plan.{with_role, promised_at, voted_at}
use Rattle.paxos_proposer.specs.Proposer.{step_down, next_vote, asking, offered}
use Rattle.paxos_packets.specs.Vote.{put_vote, votes_from}
use Rattle.paxos_packets.specs.declared.ballot.Ballot.{Ballot}
use Rattle.paxos_packets.specs.declared.packet.Kind.{Kind}
use Rattle.paxos_packets.specs.declared.packet.Packet.{Packet}
use Rattle.paxos_packets.specs.declared.rows.Rows.{Rows}
use Rattle.paxos_packets.specs.declared.vote.Vote.{Vote}
use Rattle.paxos_packets.specs.declared.packet.Kind.TheVariants.{Prepare, Promise, Accept, Accepted}
use Rattle.paxos_packets.specs.declared.entry.Entry.{Entry}

-- kinds differ
not_accepted : {B : Type 0} (b : Ballot) (floor : ℕ) (votes : List (Vote B)) (v : Vote B) → Promise b floor votes ≡ Accepted v → ⊥
not_accepted b floor votes v e = cc

same_prepare : (B : Type 0) (b c : Ballot) (f h : ℕ) → ◌≡◌ {A = Kind B} (Prepare b f) (Prepare c h) → f ≡ h
same_prepare E b c f h e = cc

same_accept : {B : Type 0} (v w : Vote B) → Accept v ≡ Accept w → v ≡ w
same_accept v w e = cc

same_accepted : {B : Type 0} (v w : Vote B) → Accepted v ≡ Accepted w → v ≡ w
same_accepted v w e = cc

-- the rows if the promise rises and no vote is cast
rows_up : {B : Type 0} {promised now : ℕ → Option Ballot} {sent later : List (Packet B)} → Grows promised now sent later
    → (n : ℕ) (rows : Rows B) (boot : ℕ) (mine : Option Ballot) → ((a : Ballot) → Reaches rows.promised a → Reaches mine a)
    → ((w : Vote B) → Sent later n (Accepted w) → Sent sent n (Accepted w)) → RowsOk sent n rows
    → RowsOk later n (record rows { boot = boot; promised = mine })
rows_up g n rows boot mine up none ok =
    record {
      reached = λ w s. up w.ballot (ok.reached w (none w s));
      tops = λ w s l. ok.tops w (none w s) l;
      above = ok.above;
      low = λ u h. up u.ballot (ok.low u h);
      known = λ u h. known_grows g (ok.known u h);
    }

-- a slot above the floor is above the snapshot's
pub is_high : (o : Option taken.Snapshot) (next : ℕ) → floor_in o < next → (s : taken.Snapshot) → o ≡ Some s → s.floor < next
is_high o next l s e = subst (λ z. floor_in z < next) e l

-- what a node reports of itself: its votes from a slot on, which no slot above its floor that it is asked for comes before
own_tells : {B : Type 0} {promised now : ℕ → Option Ballot} {sent later : List (Packet B)} → Grows promised now sent later
    → (n : ℕ) (rows : Rows B) (b : Ballot) (first from : ℕ) → ((s : ℕ) → first ≤ s → floor_in rows.snapshot < s → from ≤ s)
    → Reaches (now n) b → ((a : Ballot) → Reaches rows.promised a → Lt a b)
    → ((w : Vote B) → Sent later n (Accepted w) → Sent sent n (Accepted w)) → RowsOk sent n rows
    → Tells now later n b first (floor_in rows.snapshot) (votes_from from rows.votes)
own_tells {B} g n rows b first from covers reaches under none ok =
    record {
      reaches = reaches;
      told = λ w l f h s. let t = ok.tops w (none w s) (is_high rows.snapshot w.slot f) in
          record {
            best = t.best;
            is = from_has from rows.votes t.best t.is (subst (λ i. from ≤ i) (sym t.slot) (covers w.slot l f));
            slot = t.slot;
            high = t.high;
          };
      low = λ u h. under u.ballot (ok.low u (has_from from rows.votes u h));
      known = λ u h. known_grows g (ok.known u (has_from from rows.votes u h));
    }

-- Prepare

role_promise : {B : Type 0} (now : ℕ → Option Ballot) (later : List (Packet B)) (n : ℕ) (o : Option Ballot) (own : ℕ) (b : Ballot)
    → may_promise o b ≡ true → (r : Role B) → RoleOk now o own later n r → RoleOk now (Some b) own later n (step_down b r)
role_promise now later n o own b m Idle ok = tt
role_promise now later n o own b m (Preparing c first ps) ok =
    cond_both (below c b) Idle (Preparing c first ps) (λ r. RoleOk now (Some b) own later n r) (λ e. tt)
    (λ e. absurd (lt_not_le (promise_lt o b m c (subst (λ z. Reaches z c) (sym ok.exact) (reach (le_refl c)))) (le_from_test c b e)))
role_promise now later n o own b m (Leading c next table) ok =
    cond_both (below c b) Idle (Leading c next table) (λ r. RoleOk now (Some b) own later n r) (λ e. tt)
    (λ e. absurd (lt_not_le (promise_lt o b m c (subst (λ z. Reaches z c) (sym ok.exact) (reach (le_refl c)))) (le_from_test c b e)))

pub promise_moved : {B : Type 0} (members : ℕ) (at : ℕ → NodeState B) (n : ℕ) (x : NodeState B) (sent : List (Packet B)) (to : ℕ)
    (b : Ballot) (first : ℕ)
    → Inv members (with_node at n x) sent → may_promise x.rows.promised b ≡ true → Known sent (Prepare b first)
    → Kept members at n x sent (promised_at b x) (sent ++ packet n (promise_of x.rows b first) to ∷ [])
promise_moved {B} members at n x sent to b first inv may asked =
    plan_moved members at n x y sent new inv (promise_up x.rows.promised b may)
    (λ k v s. absurd (not_accepted b own (votes_from from x.rows.votes) v (one k (Accepted v) s).1))
    (λ g k kind s. (
      (one k kind s).0,
      subst (λ z. KindOk members (promises (with_node at n y)) (sent ++ new) n z) (one k kind s).1
          (told g),
    ))
    (λ g. record {
      rows = rows_up g n x.rows x.rows.boot (Some b) (promise_up x.rows.promised b may) none ok.rows;
      role =
          role_promise (promises (with_node at n y)) (sent ++ new) n x.rows.promised own b may x.proposer.role
          (role_grows g n (λ c o f p. asks c f p) (λ v o p. offers v p) x.rows.promised own x.proposer.role ok.role);
      heard = λ t i k q. vote_of_grows g (ok.heard t i k q);
      learned = λ f i. chosen_grows g (ok.learned f i);
    })
  where
    y : NodeState B
    y = promised_at b x

    own : ℕ
    own = floor_in x.rows.snapshot

    from : ℕ
    from = max first (suc own)

    new : List (Packet B)
    new = packet n (promise_of x.rows b first) to ∷ []

    ok : NodeOk members (promises (with_node at n x)) sent n x
    ok = mine_ok members at n x sent inv

    one : (k : ℕ) (kind : Kind B) → Sent new k kind → (k ≡ n) × (promise_of x.rows b first ≡ kind)
    one = sent_one n to (promise_of x.rows b first)

    none : (w : Vote B) → Sent (sent ++ new) n (Accepted w) → Sent sent n (Accepted w)
    none w s =
        ⊎_elim (λ o. o) (λ o. absurd (not_accepted b own (votes_from from x.rows.votes) w (one n (Accepted w) o).1)) (sent_cases sent new s)

    asks : (c : Ballot) (f : ℕ) → Known (sent ++ new) (Prepare c f) → Known sent (Prepare c f)
    asks c f p = ⊎_elim (λ o. o) (λ o. absurd (differ (one o.by (Prepare c f) o.is).1)) (known_cases sent new p)
      where
        differ : promise_of x.rows b first ≡ Prepare c f → ⊥
        differ e = cc

    offers : (v : Vote B) → Known (sent ++ new) (Accept v) → Known sent (Accept v)
    offers v p = ⊎_elim (λ o. o) (λ o. absurd (differ (one o.by (Accept v) o.is).1)) (known_cases sent new p)
      where
        differ : promise_of x.rows b first ≡ Accept v → ⊥
        differ e = cc

    told : Grows (promises (with_node at n x)) (promises (with_node at n y)) sent (sent ++ new)
        → Told (promises (with_node at n y)) (sent ++ new) n b own (votes_from from x.rows.votes)
    told g =
        record {
          first = first;
          asked = known_grows g asked;
          tells =
              own_tells g n x.rows b first from (λ s l f. omega arith) (subst (λ o. Reaches o b) (sym (with_node_promised at n y)) (reach (le_refl b)))
              (promise_lt x.rows.promised b may) none ok.rows;
        }

-- Accept

accept_same : (o : Option Ballot) (b c : Ballot) → may_accept o b ≡ true → o ≡ Some c → below c b ≡ false → Some b ≡ Some c
accept_same o b c m e f =
    ⊎_elim (λ l. absurd (lt_not_le l (accept_le c b (subst (λ z. may_accept z b ≡ true) e m)))) (λ s. ap (λ z. Some z) s)
    (le_cases (le_from_test c b f))

role_accept : {B : Type 0} (now : ℕ → Option Ballot) (later : List (Packet B)) (n : ℕ) (o : Option Ballot) (own : ℕ) (b : Ballot)
    → may_accept o b ≡ true → (r : Role B) → RoleOk now o own later n r → RoleOk now (Some b) own later n (step_down b r)
role_accept now later n o own b m Idle ok = tt
role_accept now later n o own b m (Preparing c first ps) ok =
    cond_both (below c b) Idle (Preparing c first ps) (λ r. RoleOk now (Some b) own later n r) (λ e. tt)
    (λ e. record {
      owner = ok.owner;
      exact = accept_same o b c m ok.exact e;
      only = ok.only;
      asked = ok.asked;
      none = ok.none;
      kept = ok.kept;
    })
role_accept now later n o own b m (Leading c next table) ok =
    cond_both (below c b) Idle (Leading c next table) (λ r. RoleOk now (Some b) own later n r) (λ e. tt)
    (λ e. record {
      owner = ok.owner;
      exact = accept_same o b c m ok.exact e;
      high = ok.high;
      made = ok.made;
      own = ok.own;
      owned = ok.owned;
    })

-- a slot that the snapshot does not give is above its floor

pub not_given : (o : Option taken.Snapshot) (slot : ℕ) → given_by o slot ≡ None → (s : taken.Snapshot) → o ≡ Some s → s.floor < slot
not_given None slot g s e = absurd (cc)
not_given (Some t) slot g s e = go (nat_le slot t.floor) refl g
  where
    go : (b : Bool) → nat_le slot t.floor ≡ b → cond b (Some t) None ≡ None → s.floor < slot
    go true p q = absurd (cc)
    go false p q =
        let same : t ≡ s = cc in subst (λ (z : taken.Snapshot). z.floor < slot) same (leb-false slot t.floor p)

pub accept_moved : {B : Type 0} (members : ℕ) (at : ℕ → NodeState B) (n : ℕ) (x : NodeState B) (sent : List (Packet B)) (v : Vote B)
    → Inv members (with_node at n x) sent → may_accept x.rows.promised v.ballot ≡ true
    → ((s : taken.Snapshot) → x.rows.snapshot ≡ Some s → s.floor < v.slot) → Known sent (Accept v)
    → Kept members at n x sent (voted_at v x) (sent ++ to_others members n (Accepted v))
accept_moved {B} members at n x sent v inv may high known =
    plan_moved members at n x y sent new inv (accept_up x.rows.promised v.ballot may)
    (λ k w s. (
      (one k (Accepted w) s).0,
      subst (λ (z : Vote B). Over x.rows.promised z.ballot → ⊥) (voted k w s)
          (accept_over x.rows.promised v.ballot may),
    ))
    (λ g k kind s. (
      (one k kind s).0,
      subst (λ z. KindOk members (promises (with_node at n y)) (sent ++ new) n z) (one k kind s).1
          (known_grows g known),
    ))
    (λ g. record {
      rows = rows g;
      role =
          role_accept (promises (with_node at n y)) (sent ++ new) n x.rows.promised (floor_in x.rows.snapshot) v.ballot may x.proposer.role
          (role_grows g n (λ c o f p. asks c f p) (λ v o p. offers v p) x.rows.promised (floor_in x.rows.snapshot) x.proposer.role ok.role);
      heard = λ t i k q. vote_of_grows g (ok.heard t i k q);
      learned = λ f i. chosen_grows g (ok.learned f i);
    })
  where
    y : NodeState B
    y = voted_at v x

    new : List (Packet B)
    new = to_others members n (Accepted v)

    ok : NodeOk members (promises (with_node at n x)) sent n x
    ok = mine_ok members at n x sent inv

    one : (k : ℕ) (kind : Kind B) → Sent new k kind → (k ≡ n) × (Accepted v ≡ kind)
    one = sent_to_others members n (Accepted v)

    voted : (k : ℕ) (w : Vote B) → Sent new k (Accepted w) → v ≡ w
    voted k w s = same_accepted v w (one k (Accepted w) s).1

    asks : (c : Ballot) (f : ℕ) → Known (sent ++ new) (Prepare c f) → Known sent (Prepare c f)
    asks c f p = ⊎_elim (λ o. o) (λ o. absurd (differ (one o.by (Prepare c f) o.is).1)) (known_cases sent new p)
      where
        differ : Accepted v ≡ Prepare c f → ⊥
        differ e = cc

    offers : (w : Vote B) → Known (sent ++ new) (Accept w) → Known sent (Accept w)
    offers w p = ⊎_elim (λ o. o) (λ o. absurd (differ (one o.by (Accept w) o.is).1)) (known_cases sent new p)
      where
        differ : Accepted v ≡ Accept w → ⊥
        differ e = cc

    mine_top : (w : Vote B) → v ≡ w → Tops (put_vote v x.rows.votes) w
    mine_top w e =
        subst (λ z. Tops (put_vote v x.rows.votes) z) e
        (record { best = v; is = put_has v x.rows.votes; slot = refl; high = le_refl v.ballot })

    old_top : (w : Vote B) → Reaches x.rows.promised w.ballot → Tops x.rows.votes w → Tops (put_vote v x.rows.votes) w
    old_top w r t =
        ⊎_elim (λ h. record { best = t.best; is = h; slot = t.slot; high = t.high })
        (λ e. record {
          best = v;
          is = put_has v x.rows.votes;
          slot = sym e ∙ t.slot;
          high = low (accept_up x.rows.promised v.ballot may w.ballot r);
        })
        (put_keeps v x.rows.votes t.best t.is)
      where
        low : Reaches (Some v.ballot) w.ballot → Le w.ballot v.ballot
        low (reach h) = h

    rows : Grows (promises (with_node at n x)) (promises (with_node at n y)) sent (sent ++ new) → RowsOk (sent ++ new) n y.rows
    rows g =
        record {
          reached =
              λ w s.
              ⊎_elim (λ o. accept_up x.rows.promised v.ballot may w.ballot (ok.rows.reached w o))
              (λ o. subst (λ (z : Vote B). Reaches (Some v.ballot) z.ballot) (voted n w o) (reach (le_refl v.ballot)))
              (sent_cases sent new s);
          tops =
              λ w s l.
              ⊎_elim (λ o. old_top w (ok.rows.reached w o) (ok.rows.tops w o l)) (λ o. mine_top w (voted n w o)) (sent_cases sent new s);
          above =
              λ s e u h.
              ⊎_elim (λ i. subst (λ (z : Vote B). s.floor < z.slot) i (high s e)) (λ o. ok.rows.above s e u o)
              (put_cases v x.rows.votes u h);
          low =
              λ u h.
              ⊎_elim (λ e. subst (λ (z : Vote B). Reaches (Some v.ballot) z.ballot) e (reach (le_refl v.ballot)))
              (λ o. accept_up x.rows.promised v.ballot may u.ballot (ok.rows.low u o)) (put_cases v x.rows.votes u h);
          known =
              λ u h.
              ⊎_elim (λ e. subst (λ z. Known (sent ++ new) (Accept z)) e (known_grows g known)) (λ o. known_grows g (ok.rows.known u o))
              (put_cases v x.rows.votes u h);
        }

-- Start

abbrev pub begun_at : {B : Type 0} → ℕ → Ballot → ℕ → NodeState B → NodeState B
begun_at n b first x =
    record x {
      rows = with_promise b x.rows;
      proposer = record {
        role = asking n b first (floor_in x.rows.snapshot) (votes_from first x.rows.votes);
        seen = max x.proposer.seen b.round;
      };
    }

pub begin_moved : {B : Type 0} (members : ℕ) (at : ℕ → NodeState B) (n : ℕ) (x : NodeState B) (sent : List (Packet B)) (b : Ballot)
    (first : ℕ)
    → 2 ≤ members → Inv members (with_node at n x) sent → may_promise x.rows.promised b ≡ true → b.node ≡ n
    → Kept members at n x sent (begun_at n b first x) (sent ++ to_others members n (Prepare b first))
begin_moved {B} members at n x sent b first many inv may owner =
    plan_moved members at n x y sent new inv (promise_up x.rows.promised b may)
    (λ k v s. absurd (differ v (one k (Accepted v) s).1))
    (λ g k kind s. (
      (one k kind s).0,
      subst (λ z. KindOk members (promises (with_node at n y)) (sent ++ new) n z) (one k kind s).1
          (record { owner = owner; reaches = mine; one = λ f p. sym (only f p) }),
    ))
    (λ g. record {
      rows = rows_up g n x.rows x.rows.boot (Some b) (promise_up x.rows.promised b may) none ok.rows;
      role = record {
        owner = owner;
        exact = refl;
        only = λ f p. sym (only f p);
        asked = record { by = n; is = sent_right sent (others_sent members n many (Prepare b first)) };
        none = λ v p e. unoffered v p e;
        kept =
            λ c h.
            subst (λ (z : CountedPromise B). Tells (promises (with_node at n y)) (sent ++ new) z.node b first z.floor z.votes) (has_one h)
            (own_tells g n x.rows b first first (λ s l f. l) mine (promise_lt x.rows.promised b may) none ok.rows);
      };
      heard = λ t i k q. vote_of_grows g (ok.heard t i k q);
      learned = λ f i. chosen_grows g (ok.learned f i);
    })
  where
    y : NodeState B
    y = begun_at n b first x

    new : List (Packet B)
    new = to_others members n (Prepare b first)

    ok : NodeOk members (promises (with_node at n x)) sent n x
    ok = mine_ok members at n x sent inv

    mine : Reaches (promises (with_node at n y) n) b
    mine = subst (λ o. Reaches o b) (sym (with_node_promised at n y)) (reach (le_refl b))

    one : (k : ℕ) (kind : Kind B) → Sent new k kind → (k ≡ n) × (Prepare b first ≡ kind)
    one = sent_to_others members n (Prepare b first)

    differ : (v : Vote B) → Prepare b first ≡ Accepted v → ⊥
    differ v e = cc

    none : (w : Vote B) → Sent (sent ++ new) n (Accepted w) → Sent sent n (Accepted w)
    none w s = ⊎_elim (λ o. o) (λ o. absurd (differ w (one n (Accepted w) o).1)) (sent_cases sent new s)

    -- nothing of this ballot was there
    unreached : Reaches (promises (with_node at n x) b.node) b → ⊥
    unreached r =
        lt_not_le
        (promise_lt x.rows.promised b may b (subst (λ o. Reaches o b) (with_node_promised at n x)
        (subst (λ j. Reaches (promises (with_node at n x) j) b) owner r)))
        (le_refl b)

    only : (f : ℕ) → Known (sent ++ new) (Prepare b f) → first ≡ f
    only f p =
        ⊎_elim (λ o. absurd (unreached (inv.packets.asked_low b f o))) (λ o. same_prepare B b b first f (one o.by (Prepare b f) o.is).1)
        (known_cases sent new p)

    unoffered : (v : Vote B) → Known (sent ++ new) (Accept v) → v.ballot ≡ b → ⊥
    unoffered v p e =
        ⊎_elim (λ o. unreached (subst (λ (z : Ballot). Reaches (promises (with_node at n x) z.node) z) e (inv.packets.low v o)))
        (λ o. other (one o.by (Accept v) o.is).1)
        (known_cases sent new p)
      where
        other : Prepare b first ≡ Accept v → ⊥
        other d = cc

-- a proposal

pub offer_moved : {B : Type 0} (members : ℕ) (at : ℕ → NodeState B) (n : ℕ) (x : NodeState B) (sent : List (Packet B)) (b : Ballot)
    (next : ℕ) (table : List (Vote B)) (e : Entry B)
    → 2 ≤ members → Inv members (with_node at n x) sent → LeadingOk x.rows.promised (floor_in x.rows.snapshot) sent n b next table
    → Safe members (promises (with_node at n x)) sent (next_vote b next e)
    → Kept members at n x sent (with_role (offered b next table e) x) (sent ++ to_others members n (Accept (next_vote b next e)))
offer_moved {B} members at n x sent b next table e many inv lead safe =
    plan_moved members at n x y sent new inv (λ a h. h)
    (λ k w s. absurd (differ w (one k (Accepted w) s).1))
    (λ g k kind s. (
      (one k kind s).0,
      subst (λ z. KindOk members (promises (with_node at n y)) (sent ++ new) n z) (one k kind s).1
          (record {
            owner = lead.owner;
            reaches = subst (λ o. Reaches o b) (sym (with_node_promised at n y ∙ lead.exact)) (reach (le_refl b));
            safe = safe_grows g safe;
            one = single;
          }),
    ))
    (λ g. record {
      rows = rows_up g n x.rows x.rows.boot x.rows.promised (λ a h. h) none ok.rows;
      role = record {
        owner = lead.owner;
        exact = lead.exact;
        high = let l = lead.high in omega arith;
        made =
            λ w p d.
            ⊎_elim (λ o. let l = lead.made w o d in omega arith) (λ o. subst (λ (z : Vote B). z.slot < suc next) (same w o) (omega arith))
            (known_cases sent new p);
        own =
            λ w h.
            ⊎_elim (λ o. known_grows g (lead.own w o)) (λ d. subst (λ z. Known (sent ++ new) (Accept z)) (has_one d) there_now)
            (has_cases table (v ∷ []) h);
        owned = λ w h. ⊎_elim (λ o. lead.owned w o) (λ d. ap (λ (z : Vote B). z.ballot) (sym (has_one d))) (has_cases table (v ∷ []) h);
      };
      heard = λ t i k q. vote_of_grows g (ok.heard t i k q);
      learned = λ f i. chosen_grows g (ok.learned f i);
    })
  where
    v : Vote B
    v = next_vote b next e

    y : NodeState B
    y = with_role (offered b next table e) x

    new : List (Packet B)
    new = to_others members n (Accept v)

    ok : NodeOk members (promises (with_node at n x)) sent n x
    ok = mine_ok members at n x sent inv

    one : (k : ℕ) (kind : Kind B) → Sent new k kind → (k ≡ n) × (Accept v ≡ kind)
    one = sent_to_others members n (Accept v)

    differ : (w : Vote B) → Accept v ≡ Accepted w → ⊥
    differ w d = cc

    none : (w : Vote B) → Sent (sent ++ new) n (Accepted w) → Sent sent n (Accepted w)
    none w s = ⊎_elim (λ o. o) (λ o. absurd (differ w (one n (Accepted w) o).1)) (sent_cases sent new s)

    same : (w : Vote B) → Known new (Accept w) → v ≡ w
    same w o = same_accept v w (one o.by (Accept w) o.is).1

    there_now : Known (sent ++ new) (Accept v)
    there_now = record { by = n; is = sent_right sent (others_sent members n many (Accept v)) }

    single : (w : Vote B) → Known (sent ++ new) (Accept w) → v.slot ≡ w.slot → v.ballot ≡ w.ballot → v.entry ≡ w.entry
    single w p s d =
        ⊎_elim (λ o. let l = lead.made w o (sym d) in absurd (past l s)) (λ o. ap (λ (z : Vote B). z.entry) (same w o))
        (known_cases sent new p)
      where
        past : w.slot < next → next ≡ w.slot → ⊥
        past l q = omega arith
