-- What becomes of a node as votes for its proposals come back: it applies what it learns, or goes down with a loss of its own boot.
use Rattle.std.proofs.Common.{◌≡◌, ◌⊎◌, inl, inr, ⊎_elim, ℕ, suc, ◌<◌, ◌≤◌, Bool, true, false, ◌||◌, eqb, refl, sym, ap, ◌∙◌, subst, List, []}
use Rattle.std.proofs.Common.{◌∷◌, ◌++◌, length, take}
use Rattle.std.proofs.Common.{append_assoc}
use Rattle.std.specs.Prelude.{nat_lt}
use Rattle.std.proofs.lemmas.Bool.{cond_both, cond-true, cond-false, cases_Bool, or_left, or_right, or_cases, eq-eqb}
use Rattle.cluster_world.proofs.Casting.{AreEights, eights_more, hears_still, none_closed}
use Rattle.cluster_world.proofs.Learning.{count_floor}
use Rattle.cluster_world.proofs.Ends.{has_end_both, end_within, pending_both}
use Rattle.paxos_node.proofs.Ending.{noted, ended, applied_at_once}
use Rattle.cluster_world.proofs.EveryWorld.{WorldOk, event_goes, whole_is, under_long}
use Rattle.cluster_world.proofs.Looking.{up_stepped}
use Rattle.cluster_world.proofs.Playing.{stepped}
use Rattle.cluster_world.proofs.Settling.{Logged, settle_change}
use Rattle.paxos_packets.specs.Body.{IsEquality}
use Rattle.paxos_packets.specs.Members.{is_in, is_majority}
use Rattle.paxos_packets.specs.Packet.{packet}
use Rattle.paxos_packets.specs.Snapshot.{floor_in}
use Rattle.paxos_packets.specs.declared.entry.Entry.{Entry}
use Rattle.paxos_packets.specs.declared.packet.Kind.TheVariants.{Accepted}
use Rattle.paxos_packets.specs.declared.packet.Packet.{Packet}
use Rattle.paxos_packets.specs.declared.vote.Vote.{Vote}
use Rattle.paxos_learner.specs.declared.tallies.SlotBallot.{SlotBallot}
use Rattle.paxos_learner.specs.declared.learned.LearnedEntry.{LearnedEntry}
use Rattle.paxos_learner.specs.Learned.{is_closed, is_learned}
use Rattle.paxos_learner.specs.Learner.{LearnerState, hears, has_most, put_learned, is_known, learn, learn_chosen, count_vote, run_from}
use Rattle.paxos_learner.specs.Tallies.{place_of, nodes_heard}
use Rattle.replica_machine.specs.declared.roll.Standing.{Standing}
use Rattle.replica_machine.specs.Roll.{standing_from, standings_from}
use Rattle.paxos_node.specs.Adopting.{pending_behind}
use Rattle.paxos_node.specs.Applying.{base, standing_of, down, count_to_end, has_end}
use Rattle.paxos_node.proofs.Rolling.{some_longer}
use Rattle.paxos_node.specs.Events.{outcome_of}
use Rattle.paxos_node.specs.declared.event.Event.TheVariants.{Deliver}
use Rattle.paxos_planning.specs.Node.{NodeState, Plan, log_length}
use Rattle.paxos_planning.specs.Plan.{begun, count}
use Rattle.paxos_planning.specs.Replies.{saw}
use Rattle.cluster_world.specs.World.{World, node_at, was_sent, under, log_over, log_before}
use Rattle.paxos_packets.specs.declared.rows.Change.{Change}

-- what is learned stays so
learned_stays : {B : Type 0} (other : ℕ) (l : LearnedEntry B) (ls : List (LearnedEntry B)) → is_learned other ls ≡ true
    → is_learned other (put_learned l ls) ≡ true
learned_stays {B} other l [] h = or_right (eqb l.slot other) (is_learned {B = B} other []) h
learned_stays {B} other l (m ∷ ms) h =
    cond_both (nat_lt m.slot l.slot) (m ∷ put_learned l ms) (l ∷ (m ∷ ms)) (λ zs. is_learned other zs ≡ true)
    (λ t. ⊎_elim (λ e. or_left (eqb m.slot other) (is_learned other (put_learned l ms)) e)
    (λ e. or_right (eqb m.slot other) (is_learned other (put_learned l ms)) (learned_stays other l ms e))
    (or_cases (eqb m.slot other) (is_learned other ms) h))
    (λ t. or_right (eqb l.slot other) (is_learned other (m ∷ ms)) h)

learn_keeps : {B : Type 0} (slot other : ℕ) (e : Entry B) (l : LearnerState B) → is_learned other l.learned ≡ true
    → is_learned other (learn slot e l).learned ≡ true
learn_keeps slot other e l h =
    cond_both (is_known slot l) l (record l { learned = put_learned (record { slot = slot; entry = e }) l.learned })
    (λ z. is_learned other z.learned ≡ true) (λ t. h) (λ t. learned_stays other (record { slot = slot; entry = e }) l.learned h)

pub count_keeps : {B : Type 0} (members k other : ℕ) (v : Vote B) (l : LearnerState B) → is_learned other l.learned ≡ true
    → is_learned other (count_vote members k v l).learned ≡ true
count_keeps members k other v l h =
    cond_both (is_closed l.floor v.slot) l (learn_chosen members v (hears k v l)) (λ z. is_learned other z.learned ≡ true) (λ c. h)
    (λ c. cond_both (has_most members v (hears k v l)) (learn v.slot v.entry (hears k v l)) (hears k v l)
    (λ z. is_learned other z.learned ≡ true)
    (λ t. learn_keeps v.slot other v.entry (hears k v l) h) (λ t. h))

pub count_heard : {B : Type 0} (members k : ℕ) (v : Vote B) (l : LearnerState B) → is_closed l.floor v.slot ≡ false
    → (count_vote members k v l).heard ≡ (hears k v l).heard
count_heard members k v l open' =
    ap (λ z. z.heard) (cond-false (is_closed l.floor v.slot) l (learn_chosen members v (hears k v l)) open')
    ∙ cond_both (has_most members v (hears k v l)) (learn v.slot v.entry (hears k v l)) (hears k v l) (λ z. z.heard ≡ (hears k v l).heard)
    (λ t. cond_both (is_known v.slot (hears k v l)) (hears k v l)
    (record (hears k v l) { learned = put_learned (record { slot = v.slot; entry = v.entry }) l.learned })
    (λ z. z.heard ≡ (hears k v l).heard) (λ u. refl) (λ u. refl))
    (λ t. refl)

learned_now : {B : Type 0} (f : LearnedEntry B) (ls : List (LearnedEntry B)) → is_learned f.slot (put_learned f ls) ≡ true
learned_now {B} f [] = or_left (eqb f.slot f.slot) (is_learned {B = B} f.slot []) (eq-eqb f.slot f.slot refl)
learned_now f (m ∷ ms) =
    cond_both (nat_lt m.slot f.slot) (m ∷ put_learned f ms) (f ∷ (m ∷ ms)) (λ zs. is_learned f.slot zs ≡ true)
    (λ t. or_right (eqb m.slot f.slot) (is_learned f.slot (put_learned f ms)) (learned_now f ms))
    (λ t. or_left (eqb f.slot f.slot) (is_learned f.slot (m ∷ ms)) (eq-eqb f.slot f.slot refl))

-- with a majority it learns what was voted for
pub learns_it : {B : Type 0} (members k : ℕ) (v : Vote B) (l : LearnerState B) → is_closed l.floor v.slot ≡ false
    → is_majority members (is_in (nodes_heard (place_of v) (hears k v l).heard)) ≡ true → is_learned v.slot
    (count_vote members k v l).learned ≡ true
learns_it members k v l open' m =
    subst (λ z. is_learned v.slot z.learned ≡ true)
    (sym (cond-false (is_closed l.floor v.slot) l (learn_chosen members v (hears k v l)) open'
    ∙ cond-true (has_most members v (hears k v l)) (learn v.slot v.entry (hears k v l)) (hears k v l) m))
    (cond_both (is_known v.slot (hears k v l)) (hears k v l)
    (record (hears k v l) { learned = put_learned (record { slot = v.slot; entry = v.entry }) l.learned })
    (λ z. is_learned v.slot z.learned ≡ true) (λ t. known (is_closed l.floor v.slot) open' t)
    (λ t. learned_now (record { slot = v.slot; entry = v.entry }) l.learned))
  where
    known : (c : Bool) → c ≡ false → (c || is_learned v.slot l.learned) ≡ true → is_learned v.slot l.learned ≡ true
    known true e h = absurd (never e)
      where
        never : true ≡ false → ⊥
        never e = cc
    known false e h = h

module _ {B : Type 0} (same : B → B → Bool) (equal : IsEquality same) (members : ℕ) (many : 2 ≤ members) (n : ℕ) (y : NodeState B) where
  -- the node goes on: it applied these entries, none of which ends its boot
  pub record Rides (x : NodeState B) (es : List (Entry B)) : Type 0 where
    pub up : x.up ≡ true
    pub rows : x.rows ≡ y.rows
    pub level : x.learner.floor ≡ floor_in y.rows.snapshot
    pub role : x.proposer.role ≡ y.proposer.role
    pub taken : x.taken ≡ y.taken
    pub log : x.applied ≡ y.applied ++ es
    pub pending : x.pending ≡ pending_behind (standing_of y) es y.pending
    pub stands : has_end n y.rows.boot (standing_of y n) es ≡ false
    pub eights : AreEights x.learner.heard
    pub heard : (p : SlotBallot) (j : ℕ) → is_in (nodes_heard p y.learner.heard) j ≡ true → is_in (nodes_heard p x.learner.heard) j ≡ true
    pub learned : (slot : ℕ) → is_learned slot y.learner.learned ≡ true → is_learned slot x.learner.learned ≡ true

  -- the node went down: it applied these entries, which are chosen, as the log is that it had, and the last of them ended its boot
  pub record Fell (x : NodeState B) (all : List (Packet B)) (es : List (Entry B)) : Type 0 where
    pub down_is : x ≡ down y.rows
    pub ends : has_end n y.rows.boot (standing_of y n) es ≡ true
    pub under : List (Entry B)
    pub long : length under ≡ floor_in y.rows.snapshot
    pub logged : Logged members all (under ++ (y.applied ++ es))

  -- a vote of node k comes back
  module _ (w : World B) (ok : WorldOk members w) (k : ℕ) (v : Vote B) (sent : was_sent same (Deliver (packet k (Accepted v) n)) w.sent
      ≡ true)
      (least : floor_in y.rows.snapshot < v.slot) (es : List (Entry B)) (ride : Rides (node_at w.nodes n) es) where
    abbrev x : NodeState B
    x = node_at w.nodes n

    abbrev back : Packet B
    back = packet k (Accepted v) n

    abbrev t : Plan B
    t = count same members k v (record (begun x) { node = saw (Accepted v) x })

    abbrev boot : ℕ
    boot = x.rows.boot

    abbrev s : Standing
    s = standing_of x n

    abbrev run : List (Entry B)
    run = run_from (suc (log_length x)) t.node.learner.learned

    abbrev fs : List (Entry B)
    fs = take (count_to_end n boot s run) run

    abbrev o : Plan B
    o = outcome_of same members (Deliver back) x

    o_is : o ≡ ended (has_end n boot s run) (noted fs t)
    o_is = applied_at_once n boot run s t refl refl

    x'_is : stepped same members (Deliver back) x ≡ (ended (has_end n boot s run) (noted fs t)).node
    x'_is = up_stepped same members back x ride.up ∙ ap (λ (z : Plan B). z.node) o_is

    opened : is_closed x.learner.floor v.slot ≡ false
    opened = none_closed x.learner.floor v.slot (subst (λ f. f < v.slot) (sym ride.level) least)

    -- where it stood, it stands after these
    stood : standing_of x ≡ standings_from (standing_of y) es
    stood = (λ i. standings_from (base (ride.rows i)) (ride.log i)) ∙ sym (some_longer (base y.rows) y.applied es)

    -- whether the boot ends goes along
    ends_is : has_end n y.rows.boot (standing_of y n) (es ++ fs) ≡ has_end n boot s run
    ends_is =
        has_end_both n y.rows.boot (standing_of y n) es fs
        ∙ ((λ i. ride.stands i || has_end n y.rows.boot (standing_from n (standing_of y n) es) fs)
        ∙ ((λ i. has_end n (sym (ap (λ r. r.boot) ride.rows) i) (sym stood i n) fs)
        ∙ end_within n boot s run))

    log_is : x.applied ++ fs ≡ y.applied ++ (es ++ fs)
    log_is = ap (λ l. l ++ fs) ride.log ∙ append_assoc y.applied es fs

    goes_on : has_end n boot s run ≡ false
        → Rides (stepped same members (Deliver back) x) (es ++ fs)
        × ((stepped same members (Deliver back) x).learner ≡ count_vote members k v x.learner)
    goes_on e =
        let is = x'_is ∙ ap (λ g. (ended g (noted fs t)).node) e in (
          subst (λ z. Rides z (es ++ fs)) (sym is)
              (record {
                up = ride.up;
                rows = ride.rows;
                level = count_floor members k v x.learner ∙ ride.level;
                role = ride.role;
                taken = ride.taken;
                log = log_is;
                pending =
                    (λ i. pending_behind (stood i) fs (ride.pending i))
                    ∙ pending_both (standing_of y) es fs y.pending;
                stands = ends_is ∙ e;
                eights = subst (λ h. AreEights h) (sym (count_heard members k v x.learner opened)) (eights_more k v x.learner ride.eights);
                heard = λ p j h. subst (λ l. is_in (nodes_heard p l) j ≡ true) (sym (count_heard members k v x.learner opened))
                    (hears_still k v x.learner ride.eights p j (ride.heard p j h));
                learned = λ slot h. count_keeps members k slot v x.learner (ride.learned slot h);
              }),
          ap (λ (z : NodeState B). z.learner) is,
        )

    goes_down : has_end n boot s run ≡ true → Fell (stepped same members (Deliver back) x) (w.sent ++ o.packets) (es ++ fs)
    goes_down e =
        record {
          down_is = x'_is ∙ (ap (λ g. (ended g (noted fs t)).node) e ∙ ap (λ r. down r) ride.rows);
          ends = ends_is ∙ e;
          under = below;
          long =
              under_long ok.cuts x.rows.snapshot (ok.cuts.found.nodes n)
              ∙ ap (λ r. floor_in r.snapshot) ride.rows;
          logged =
              subst (λ l. Logged members (w.sent ++ o.packets) l)
              (ap (λ l. before ++ l) (ap (λ (z : Plan B). z.applied) o_is ∙ applied_is (has_end n boot s run))
              ∙ (ap (λ l. l ++ fs) before_is ∙ (append_assoc below x.applied fs ∙ ap (λ l. below ++ l) log_is)))
              (event_goes same equal members many w (Deliver back) ok sent ride.up).logged;
        }
      where
        before : List (Entry B)
        before = log_before w (Deliver back) x o

        below : List (Entry B)
        below = under w.cuts x.rows.snapshot

        before_is : before ≡ below ++ x.applied
        before_is = ap (λ z. log_over w x true z) (ap (λ (c : Change B). c.snapshot) (settle_change n t)) ∙ whole_is w.cuts x ride.up

        applied_is : (g : Bool) → (ended g (noted fs t)).applied ≡ fs
        applied_is true = refl
        applied_is false = refl

    pub comes_back : ((es' : List (Entry B)) × Rides (stepped same members (Deliver back) x) es'
        × ((stepped same members (Deliver back) x).learner ≡ count_vote members k v x.learner))
        ⊎ ((es' : List (Entry B)) × Fell (stepped same members (Deliver back) x) (w.sent ++ o.packets) es')
    comes_back =
        ⊎_elim (λ e. inr (es ++ fs, goes_down e)) (λ e. let g = goes_on e in inl (es ++ fs, g.0, g.1)) (cases_Bool (has_end n boot s run))
