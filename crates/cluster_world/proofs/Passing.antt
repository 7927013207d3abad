-- Each helper casts the votes that a leader asks for, and the leader learns them or goes down.
use Rattle.std.proofs.Common.{◌≡◌, ◌⊎◌, inl, inr, ⊎_elim, ℕ, zero, suc, ◌+◌, ◌*◌, ◌<◌, ◌≤◌, Bool, true, false, not, eqb, refl, sym, ap, ◌∙◌}
use Rattle.std.proofs.Common.{subst, arith}
use Rattle.std.proofs.Common.{List, [], ◌∷◌, ◌++◌, Option, Some, None}
use Rattle.std.specs.Prelude.{fold, nat_le, if◌then◌else◌}
use Rattle.std.specs.List.{flat_map, list_any}
use Rattle.std.proofs.lemmas.List.{append-nil, append_assoc}
use Rattle.std.proofs.lemmas.Bool.{cond-true, cond-false, ltb-true, lt-ltb, lt-leb, or_cases, eqb-true}
use Rattle.cluster_world.proofs.AtOnce.{AtRest, settle_rest, alone_is_few}
use Rattle.cluster_world.proofs.Casting.{HeardOwn, hears_own, none_closed, counts_own, sent_to, hears_itself, hears_still}
use Rattle.cluster_world.proofs.EveryWorld.{WorldOk, next_ok, all_stay, play_on}
use Rattle.cluster_world.proofs.Invariant.{IsChosen}
use Rattle.cluster_world.proofs.Fates.{Rides, Fell, comes_back, count_heard, count_keeps, learns_it}
use Rattle.cluster_world.proofs.Lists.{has_one, has_cons, has_first, has_cases}
use Rattle.cluster_world.proofs.Looking.{up_stepped}
use Rattle.cluster_world.proofs.Playing.{stepped, Moved, reached, answers, Visited, AllVisited, all_visited}
use Rattle.cluster_world.proofs.Settling.{Logged}
use Rattle.cluster_world.proofs.Stepping.{has_among}
use Rattle.cluster_world.specs.Has.{Has, here, there}
use Rattle.paxos_packets.proofs.Order.{irreflexive}
use Rattle.paxos_packets.specs.Body.{IsEquality}
use Rattle.paxos_packets.specs.Members.{count_nodes, IsMember, is_majority, is_in}
use Rattle.paxos_packets.specs.Packet.{packet}
use Rattle.paxos_packets.specs.Snapshot as taken
use Rattle.paxos_packets.specs.Snapshot.{floor_in}
use Rattle.paxos_packets.specs.Vote.{put_vote, put_votes}
use Rattle.paxos_packets.specs.declared.ballot.Ballot.{Ballot}
use Rattle.paxos_packets.specs.declared.entry.Entry.{Entry}
use Rattle.paxos_packets.specs.declared.packet.Kind.TheVariants.{Accept, Accepted}
use Rattle.paxos_packets.specs.declared.packet.Packet.{Packet}
use Rattle.paxos_packets.specs.declared.vote.Vote.{Vote}
use Rattle.paxos_acceptor.specs.Acceptor.{may_accept, given_by}
use Rattle.paxos_learner.specs.Learned.{is_closed, is_learned}
use Rattle.paxos_learner.specs.Learner.{LearnerState, hears, count_vote, run_from}
use Rattle.paxos_learner.specs.Tallies.{place_of, nodes_heard}
use Rattle.paxos_node.specs.Applying.{down, settle}
use Rattle.paxos_node.specs.Events.{outcome_of}
use Rattle.paxos_node.specs.declared.event.Event.{Event}
use Rattle.paxos_node.specs.declared.event.Event.TheVariants.{Deliver}
use Rattle.paxos_planning.specs.Node.{NodeState, Plan, log_length}
use Rattle.paxos_planning.specs.Plan.{begun, cast}
use Rattle.paxos_planning.specs.Replies.{saw, refuse, cast_or_show}
use Rattle.cluster_world.specs.World.{World, node_at, next, play}
use Rattle.world_rescue.specs.Course.{Seat, cast_by, pass}
use Rattle.cluster_world.specs.Rescue.{Apart}

least : (k : ℕ) → 0 ≤ k
least k = omega arith

-- more nodes are more

count_more : (p q : ℕ → Bool) (n : ℕ) → ((j : ℕ) → p j ≡ true → q j ≡ true) → count_nodes p n ≤ count_nodes q n
count_more p q zero h = omega arith
count_more p q (suc n) h = go (p (suc n)) (q (suc n)) refl refl (count_more p q n h)
  where
    off : false ≡ true → ⊥
    off e = cc

    go : (a c : Bool) → p (suc n) ≡ a → q (suc n) ≡ c → count_nodes p n ≤ count_nodes q n
        → (if a then 1 else 0) + count_nodes p n ≤ (if c then 1 else 0) + count_nodes q n
    go true true e f l = omega arith
    go true false e f l = absurd (off (sym f ∙ h (suc n) e))
    go false true e f l = omega arith
    go false false e f l = omega arith

pub majority_more : (members : ℕ) (p q : ℕ → Bool) → ((j : ℕ) → p j ≡ true → q j ≡ true) → is_majority members p ≡ true
    → is_majority members q ≡ true
majority_more members p q h m =
    let l = ltb-true members (2 * count_nodes p members) m in
    lt-ltb members (2 * count_nodes q members) (more (count_nodes p members) (count_nodes q members) l (count_more p q members h))
  where
    more : (a c : ℕ) → members < 2 * a → a ≤ c → members < 2 * c
    more a c l k = omega arith

-- these numbers, as a set
abbrev pub among : List ℕ → ℕ → Bool
among ks j = list_any (λ k. eqb k j) ks

pub among_has : (ks : List ℕ) (j : ℕ) → among ks j ≡ true → Has ks j
among_has [] j h = absurd (off h)
  where
    off : false ≡ true → ⊥
    off e = cc
among_has (k ∷ ks) j h = ⊎_elim (λ e. has_first ks (eqb-true k j e)) (λ e. there (among_has ks j e)) (or_cases (eqb k j) (among ks j) h)

-- the numbers of these seats, as they were counted
abbrev pub counted_by : {B : Type 0} → List (Seat B) → List ℕ
counted_by seats = fold (λ ks s. s.number ∷ ks) [] seats

-- a log of chosen entries stays one as more is sent
logged_wider : {B : Type 0} (members : ℕ) (sent later : List (Packet B)) (log : List (Entry B))
    → ((p : Packet B) → Has sent p → Has later p)
    → Logged members sent log → Logged members later log
logged_wider {B} members sent later log wider ok = record { at = λ i e h. chosen_wider (ok.at i e h) }
  where
    chosen_wider : {s : ℕ} {e : Entry B} → IsChosen members sent s e → IsChosen members later s e
    chosen_wider c =
        record {
          ballot = c.ballot;
          quorum = c.quorum;
          most = c.most;
          voted = λ k m q. let s = c.voted k m q in record { to = s.to; is = wider _ s.is };
        }

-- the snapshot gives no slot above its floor
given_none : (o : Option taken.Snapshot) (slot : ℕ) → floor_in o < slot → given_by o slot ≡ None
given_none None slot l = refl
given_none (Some s) slot l = cond-false (nat_le slot s.floor) (Some s) None (lt-leb slot s.floor l)

module _ {B : Type 0} (same : B → B → Bool) (equal : IsEquality same) (members : ℕ) (many : 2 ≤ members) (n : ℕ)
    (member : IsMember members n)
    (round : ℕ) (y : NodeState B) where
  abbrev pub ballot : Ballot
  ballot = record { round = round; node = n }

  -- a helper that promised the ballot, and has this snapshot and these votes
  pub record Ready (k : ℕ) (given : Option taken.Snapshot) (votes : List (Vote B)) (x : NodeState B) : Type 0 where
    pub up : x.up ≡ true
    pub promised : x.rows.promised ≡ Some ballot
    pub votes_are : x.rows.votes ≡ votes
    pub given_is : x.rows.snapshot ≡ given
    pub level : x.learner.floor ≡ floor_in given
    pub own : HeardOwn ballot k x.learner
    pub rests : AtRest x

  module _ (v : Vote B) (mine : v.ballot ≡ ballot) (open' : floor_in y.rows.snapshot < v.slot) where
    abbrev pub question : ℕ → Packet B
    question k = packet n (Accept v) k

    abbrev pub answer : ℕ → Packet B
    answer k = packet k (Accepted v) n

    casts_it : (k : ℕ) (given : Option taken.Snapshot) (votes : List (Vote B)) (x : NodeState B) → floor_in given < v.slot
        → Ready k given votes x
        → outcome_of same members (Deliver (question k)) x ≡ cast same members k v (record (begun x) { node = saw (Accept v) x })
    casts_it k given votes x above ready =
        ap (λ (z : Plan B). settle k z)
        (cond-true (may_accept x.rows.promised v.ballot) (cast_or_show same members k n (given_by x.rows.snapshot v.slot) v t)
        (refuse k n v.ballot t) may
        ∙ ap (λ z. cast_or_show same members k n z v t) (ap (λ z. given_by z v.slot) ready.given_is ∙ given_none given v.slot above))
        ∙ settle_rest k (cast same members k v t) rests
      where
        t : Plan B
        t = record (begun x) { node = saw (Accept v) x }

        may : may_accept x.rows.promised v.ballot ≡ true
        may = (λ i. may_accept (ready.promised i) (mine i)) ∙ ap not (irreflexive ballot)

        rests : AtRest (cast same members k v t).node
        rests =
            (λ i. run_from (suc (log_length x)) (counts_own members many ballot 0 k v x.learner
            (subst (λ f. f < v.slot) (sym ready.level) above) mine (least v.slot) ready.own i).learned) ∙ ready.rests

    after_cast : (k : ℕ) (given : Option taken.Snapshot) (votes : List (Vote B)) (x : NodeState B) → floor_in given < v.slot
        → Ready k given votes x → Ready k given (put_vote v votes) (stepped same members (Deliver (question k)) x)
    after_cast k given votes x above ready =
        subst (λ z. Ready k given (put_vote v votes) z)
        (sym (up_stepped same members (question k) x ready.up ∙ ap (λ (z : Plan B). z.node) (casts_it k given votes x above ready)))
        (record {
          up = ready.up;
          promised = ap (λ c. Some c) mine;
          votes_are = ap (put_vote v) ready.votes_are;
          given_is = ready.given_is;
          level = ap (λ (l : LearnerState B). l.floor) quiet ∙ ready.level;
          own = subst (λ l. HeardOwn ballot k l) (sym quiet) (hears_own ballot 0 k v x.learner ready.own);
          rests = (λ i. run_from (suc (log_length x)) (quiet i).learned) ∙ ready.rests;
        })
      where
        quiet : count_vote members k v x.learner ≡ hears k v x.learner
        quiet =
            counts_own members many ballot 0 k v x.learner (subst (λ f. f < v.slot) (sym ready.level) above) mine (least v.slot) ready.own

    -- what is known of the node as the vote comes back from these helpers, and these votes came back before
    module _ (passed : List (Vote B)) where
      pub record Counted (x : NodeState B) (ks : List ℕ) : Type 0 where
        pub es : List (Entry B)
        pub ride : Rides same equal members many n y x es
        pub counted : (j : ℕ) → Has (n ∷ ks) j → is_in (nodes_heard (place_of v) x.learner.heard) j ≡ true
        pub learns : is_majority members (among (n ∷ ks)) ≡ true → is_learned v.slot x.learner.learned ≡ true
        pub done : (u : Vote B) → Has passed u → is_learned u.slot x.learner.learned ≡ true

      pub record Knows (w : World B) (ks : List ℕ) : Type 0 where
        pub ok : WorldOk members w
        pub fate : Counted (node_at w.nodes n) ks ⊎ ((es : List (Entry B)) × Fell same equal members many n y (node_at w.nodes n) w.sent es)

      -- a node that was heard stays so, and what was learned stays learned
      more : (x x' : NodeState B) (ks : List ℕ) (k : ℕ) → k < 8 → x'.learner ≡ count_vote members k v x.learner → Counted x ks
          → (es : List (Entry B)) → Rides same equal members many n y x' es → Counted x' (k ∷ ks)
      more x x' ks k low is c es ride =
          record {
            es = es;
            ride = ride;
            counted = λ j h. subst (λ (l : LearnerState B). is_in (nodes_heard (place_of v) l.heard) j ≡ true) (sym is) (heard j h);
            learns = λ m. subst (λ (l : LearnerState B). is_learned v.slot l.learned ≡ true) (sym is)
                (learns_it members k v x.learner (not_closed x c.ride) (majority_more members (among (n ∷ k ∷ ks))
                (is_in (nodes_heard (place_of v) (hears k v x.learner).heard))
                (λ j a. heard_hears j (among_has (n ∷ k ∷ ks) j a)) m));
            done = λ u h. subst (λ (l : LearnerState B). is_learned u.slot l.learned ≡ true) (sym is)
                (count_keeps members k u.slot v x.learner (c.done u h));
          }
        where
          not_closed : (z : NodeState B) {fs : List (Entry B)} → Rides same equal members many n y z fs
              → is_closed z.learner.floor v.slot ≡ false
          not_closed z r = none_closed z.learner.floor v.slot (subst (λ f. f < v.slot) (sym r.level) open')

          heard_hears : (j : ℕ) → Has (n ∷ k ∷ ks) j → is_in (nodes_heard (place_of v) (hears k v x.learner).heard) j ≡ true
          heard_hears j h =
              ⊎_elim (λ e. old j (has_first ks e))
              (λ i. ⊎_elim (λ (e : k ≡ j). subst (λ z. is_in (nodes_heard (place_of v) (hears k v x.learner).heard) z ≡ true) e
              (hears_itself k low v x.learner c.ride.eights)) (λ o. old j (there o)) (has_cons i)) (has_cons h)
            where
              old : (i : ℕ) → Has (n ∷ ks) i → is_in (nodes_heard (place_of v) (hears k v x.learner).heard) i ≡ true
              old i g = hears_still k v x.learner c.ride.eights (place_of v) i (c.counted i g)

          heard : (j : ℕ) → Has (n ∷ k ∷ ks) j → is_in (nodes_heard (place_of v) (count_vote members k v x.learner).heard) j ≡ true
          heard j h = subst (λ hs. is_in (nodes_heard (place_of v) hs) j ≡ true)
              (sym (count_heard members k v x.learner (not_closed x c.ride))) (heard_hears j h)

      module _ (given : ℕ → Option taken.Snapshot) (votes : ℕ → List (Vote B)) (now : Seat B → NodeState B) where
        -- what is known of a helper before it is asked
        pub record Due (w : World B) (s : Seat B) : Type 0 where
          pub asked : Has w.sent (question s.number)
          pub low_is : s.number < 8
          pub above : floor_in (given s.number) < v.slot
          pub ready : Ready s.number (given s.number) (votes s.number) (now s)

        abbrev pub cast_then : Seat B → NodeState B
        cast_then s = stepped same members (Deliver (question s.number)) (now s)

        abbrev pub cast_turn : Seat B → List ℕ → List ℕ
        cast_turn s ks = s.number ∷ ks

        abbrev Visit : World B → World B → Seat B → List ℕ → Type 0
        Visit w u s ks = Visited same members n Knows now cast_then (cast_by n v) cast_turn Due s ks w u

        visit : (w : World B) (s : Seat B) (ks : List ℕ) → (s.number ≡ n → ⊥) → Due w s → node_at w.nodes s.number ≡ now s → Knows w ks
            → Visit w (play same members (cast_by n v s) w) s (cast_turn s ks)
        visit w s ks apart due is knows =
            record {
              helper = back.others k apart ∙ (m.mine ∙ ap (λ x. stepped same members (Deliver (question k)) x) is);
              own = record { ok = next_ok same equal members many u (Deliver (answer k)) ok_u; fate = ⊎_elim rode fallen knows.fate };
              others = λ j d g. back.others j d ∙ m.others j g;
            }
          where
            k : ℕ
            k = s.number

            u : World B
            u = next same members w (Deliver (question k))

            u' : World B
            u' = next same members u (Deliver (answer k))

            m : Moved same members w u (Deliver (question k))
            m = reached same members equal w (question k) due.asked

            ok_u : WorldOk members u
            ok_u = next_ok same equal members many w (Deliver (question k)) knows.ok

            sent : Has u.sent (answer k)
            sent =
                answers same members equal w (question k) (answer k) due.asked (ap (λ (x : NodeState B). x.up) is ∙ due.ready.up)
                (subst (λ x. Has (outcome_of same members (Deliver (question k)) x).packets (answer k)) (sym is)
                (subst (λ (o : Plan B). Has o.packets (answer k)) (sym (casts_it k (given k) (votes k) (now s) due.above due.ready))
                (sent_to members k n (Accepted v) member (λ e. apart (sym e)))))

            back : Moved same members u u' (Deliver (answer k))
            back = reached same members equal u (answer k) sent

            is_x : node_at u.nodes n ≡ node_at w.nodes n
            is_x = m.others n (λ i. apart (sym i))

            Fates : Type 0
            Fates = Counted (node_at u'.nodes n) (k ∷ ks) ⊎ ((es : List (Entry B)) × Fell same equal members many n y
                (node_at u'.nodes n) u'.sent es)

            rode : Counted (node_at w.nodes n) ks → Fates
            rode c' = go (subst (λ x. Counted x ks) (sym is_x) c')
              where
                go : Counted (node_at u.nodes n) ks → Fates
                go c =
                    ⊎_elim
                    (λ g. inl (subst (λ x. Counted x (k ∷ ks)) (sym back.mine)
                    (more (node_at u.nodes n) (stepped same members (Deliver (answer k)) (node_at u.nodes n)) ks k due.low_is g.2 c g.0
                    g.1)))
                    (λ g. inr (
                      g.0,
                      subst (λ x. Fell same equal members many n y x u'.sent g.0) (sym back.mine)
                          (subst (λ l. Fell same equal members many n y
                          (stepped same members (Deliver (answer k)) (node_at u.nodes n)) l g.0)
                          (sym (back.sends c.ride.up)) g.1),
                    ))
                    (comes_back same equal members many n y u ok_u k v (has_among same equal (answer k) u.sent sent) open' c.es c.ride)

            fallen : (es : List (Entry B)) × Fell same equal members many n y (node_at w.nodes n) w.sent es → Fates
            fallen f =
                inr (
                  f.0,
                  record {
                    down_is = back.mine ∙ (stays ∙ is_down);
                    ends = f.1.ends;
                    under = f.1.under;
                    long = f.1.long;
                    logged =
                        logged_wider members w.sent u'.sent (f.1.under ++ (y.applied ++ f.0)) (λ p h. back.stay p (m.stay p h)) f.1.logged;
                  },
                )
              where
                is_down : node_at u.nodes n ≡ down y.rows
                is_down = is_x ∙ f.1.down_is

                stays : stepped same members (Deliver (answer k)) (node_at u.nodes n) ≡ node_at u.nodes n
                stays =
                    cond-false (node_at u.nodes n).up (outcome_of same members (Deliver (answer k)) (node_at u.nodes n)).node
                    (node_at u.nodes n)
                    (ap (λ (x : NodeState B). x.up) is_down)

        due_on : (w : World B) (s : Seat B) (es : List (Event B)) → Due w s → Due (play same members es w) s
        due_on w s es d =
            record {
              asked = all_stay same members es w (question s.number) d.asked;
              low_is = d.low_is;
              above = d.above;
              ready = d.ready;
            }

        -- all helpers cast it
        pub cast_all : (seats : List (Seat B)) (w : World B) → Apart n seats → ((s : Seat B) → Has seats s → Due w s)
            → ((s : Seat B) → Has seats s → node_at w.nodes s.number ≡ now s) → Knows w []
            → AllVisited same members n Knows now cast_then (cast_by n v) cast_turn Due seats (fold (λ z s. cast_turn s z) [] seats) w
            (play same members (flat_map (cast_by n v) seats) w)
        cast_all seats w apart due is knows =
            all_visited same members n Knows now cast_then (cast_by n v) cast_turn Due due_on visit seats w [] apart due is knows

        -- and have cast it then
        pub ready_then : (s : Seat B) → floor_in (given s.number) < v.slot → Ready s.number (given s.number) (votes s.number) (now s)
            → Ready s.number (given s.number) (put_vote v (votes s.number)) (cast_then s)
        ready_then s above r = after_cast s.number (given s.number) (votes s.number) (now s) above r

  -- what is known of the node once these votes came back: it learned them all, or it went down
  pub record Rode (x : NodeState B) (passed : List (Vote B)) : Type 0 where
    pub es : List (Entry B)
    pub ride : Rides same equal members many n y x es
    pub done : (u : Vote B) → Has passed u → is_learned u.slot x.learner.learned ≡ true

  pub record KnowsAll (w : World B) (passed : List (Vote B)) : Type 0 where
    pub ok : WorldOk members w
    pub fate : Rode (node_at w.nodes n) passed ⊎ ((es : List (Entry B)) × Fell same equal members many n y (node_at w.nodes n) w.sent es)

  pub record Passed (seats : List (Seat B)) (given : ℕ → Option taken.Snapshot) (votes : ℕ → List (Vote B)) (vs passed : List (Vote B))
      (w u : World B) : Type 0
    where
      pub helpers : (s : Seat B) → Has seats s → Ready s.number (given s.number) (put_votes vs (votes s.number)) (node_at u.nodes s.number)
      pub knows : KnowsAll u (passed ++ vs)
      pub others : (j : ℕ) → (j ≡ n → ⊥) → ((s : Seat B) → Has seats s → j ≡ s.number → ⊥) → node_at u.nodes j ≡ node_at w.nodes j

  -- its own vote alone teaches it nothing
  alone : among (n ∷ []) n ≡ among (n ∷ []) n → is_majority members (among (n ∷ [])) ≡ true → ⊥
  alone i m = off (sym (alone_is_few members many (among (n ∷ [])) n (λ j t. sym (has_one (among_has (n ∷ []) j t)))) ∙ m)
    where
      off : false ≡ true → ⊥
      off e = cc

  module _ (seats : List (Seat B)) (apart : Apart n seats) (lows : (s : Seat B) → Has seats s → s.number < 8)
      (enough : is_majority members (among (n ∷ counted_by seats)) ≡ true) where
    begins : (v : Vote B) (mine : v.ballot ≡ ballot) (open' : floor_in y.rows.snapshot < v.slot) (passed : List (Vote B)) (w : World B)
        → is_in (nodes_heard (place_of v) y.learner.heard) n ≡ true → KnowsAll w passed → Knows v mine open' passed w []
    begins v mine open' passed w heard k =
        record {
          ok = k.ok;
          fate = ⊎_elim
              (λ r. inl (record {
                es = r.es;
                ride = r.ride;
                counted = λ j h. subst (λ z. is_in (nodes_heard (place_of v) (node_at w.nodes n).learner.heard) z ≡ true) (has_one h)
                    (r.ride.heard (place_of v) n heard);
                learns = λ m. absurd (alone refl m);
                done = r.done;
              }))
              (λ f. inr f) k.fate;
        }

    ends : (v : Vote B) (mine : v.ballot ≡ ballot) (open' : floor_in y.rows.snapshot < v.slot) (passed : List (Vote B)) (w : World B)
        → Knows v mine open' passed w (counted_by seats)
        → KnowsAll w (passed ++ v ∷ [])
    ends v mine open' passed w k =
        record {
          ok = k.ok;
          fate = ⊎_elim
              (λ c. inl (record {
                es = c.es;
                ride = c.ride;
                done = λ u h. ⊎_elim (λ i. c.done u i)
                    (λ i. subst (λ (z : Vote B). is_learned z.slot (node_at w.nodes n).learner.learned ≡ true) (has_one i)
                    (c.learns enough))
                    (has_cases passed (v ∷ []) h);
              }))
              (λ f. inr f) k.fate;
        }

    -- these votes of the leader are cast by all, and come back
    pub passes : (vs passed : List (Vote B)) (given : ℕ → Option taken.Snapshot) (votes : ℕ → List (Vote B)) (w : World B)
        → ((v : Vote B) → Has vs v → v.ballot ≡ ballot)
        → ((v : Vote B) → Has vs v → floor_in y.rows.snapshot < v.slot)
        → ((v : Vote B) → Has vs v → is_in (nodes_heard (place_of v) y.learner.heard) n ≡ true)
        → ((v : Vote B) (s : Seat B) → Has vs v → Has seats s → Has w.sent (packet n (Accept v) s.number))
        → ((v : Vote B) (s : Seat B) → Has vs v → Has seats s → floor_in (given s.number) < v.slot)
        → ((s : Seat B) → Has seats s → Ready s.number (given s.number) (votes s.number) (node_at w.nodes s.number)) → KnowsAll w passed
        → Passed seats given votes vs passed w (play same members (pass n seats vs) w)
    passes [] passed given votes w mine open' heard asked above ready knows =
        record { helpers = ready; knows = subst (λ l. KnowsAll w l) (sym (append-nil passed)) knows; others = λ j d g. refl }
    passes (v ∷ vs) passed given votes w mine open' heard asked above ready knows =
        joined
        (passes vs (passed ++ v ∷ []) given (λ k. put_vote v (votes k)) u (λ z h. mine z (there h)) (λ z h. open' z (there h))
        (λ z h. heard z (there h))
        (λ z s h i. all_stay same members (flat_map (cast_by n v) seats) w (packet n (Accept z) s.number) (asked z s (there h) i))
        (λ z s h i. above z s (there h) i)
        (λ s h. subst (λ x. Ready s.number (given s.number) (put_vote v (votes s.number)) x) (sym (first.helpers s h))
        (ready_then v (mine v here) (open' v here) passed given votes now s (above v s here h) (ready s h)))
        (ends v (mine v here) (open' v here) passed u first.own))
      where
        now : Seat B → NodeState B
        now s = node_at w.nodes s.number

        u : World B
        u = play same members (flat_map (cast_by n v) seats) w

        first : AllVisited same members n (Knows v (mine v here) (open' v here) passed) now
            (cast_then v (mine v here) (open' v here) passed given votes now) (cast_by n v)
            (cast_turn v (mine v here) (open' v here) passed given votes now) (Due v (mine v here) (open' v here) passed given votes now)
            seats (counted_by seats) w u
        first =
            cast_all v (mine v here) (open' v here) passed given votes now seats w apart
            (λ s h. record { asked = asked v s here h; low_is = lows s h; above = above v s here h; ready = ready s h }) (λ s h. refl)
            (begins v (mine v here) (open' v here) passed w (heard v here) knows)

        joined : Passed seats given (λ k. put_vote v (votes k)) vs (passed ++ v ∷ []) u (play same members (pass n seats vs) u)
            → Passed seats given votes (v ∷ vs) passed w (play same members (pass n seats (v ∷ vs)) w)
        joined rest =
            subst (λ z. Passed seats given votes (v ∷ vs) passed w z) (sym (play_on same members (flat_map (cast_by n v) seats)
            (pass n seats vs) w))
            (record {
              helpers = rest.helpers;
              knows = subst (λ l. KnowsAll (play same members (pass n seats vs) u) l) (append_assoc passed (v ∷ []) vs) rest.knows;
              others = λ j d g. rest.others j d g ∙ first.others j d g;
            })
