-- Events that were tried are committed together: what holds of the actor before, once they are made, and once a fault has ended it.
use Rattle.std.proofs.Common.{◌≡◌, ◌⊎◌, inl, inr, ◌≤◌, ◌<◌, ℕ, ◌+◌, Bool, true, false, List, [], ◌∷◌, ◌++◌, length, ap, sym, subst, ◌∙◌}
use Rattle.std.proofs.Common.{refl, arith, ⊎_elim, Option, Some, None}
use Rattle.std.specs.Prelude.{◌==◌, All, Contains}
use Rattle.std.proofs.lemmas.Bool.{eqb-true, false≢true}
use Rattle.std.proofs.lemmas.List.{append-nil, append_assoc, nil_from_length}
use Rattle.paxos_packets.specs.Members.{IsMember}
use Rattle.paxos_packets.specs.Snapshot.{floor_in}
use Rattle.paxos_packets.specs.declared.rows.Rows.{Rows}
use Rattle.paxos_acceptor.specs.Acceptor as accepting
use Rattle.paxos_acceptor.specs.Ahead.{IsAhead, taken_back}
use Rattle.store_keeper.specs.declared.fault.KeeperFault.{KeeperFault}
use Rattle.replica_machine.specs.Replay.{Steps}
use Rattle.actor_outboxes.proofs.Filing.{waits_still}
use Rattle.actor_outboxes.specs.Outboxes.{HasLimits, IsPeer, WaitBehind, Waiting, waiting}
use Rattle.paxos_node.specs.Applying.{down}
use Rattle.paxos_node.specs.Events.{outcome_of}
use Rattle.paxos_node.specs.Held.{Held}
use Rattle.paxos_node.specs.declared.event.Event.{Event}
use Rattle.paxos_planning.specs.Node.{NodeState}
use Rattle.actor_parts.specs.Parts.{IsPrefixOf, IsSound, Parted}
use Rattle.actor_parts.specs.Steps.{Falls, OnlyKeeper, StaysWho}
use Rattle.actor_parts.specs.Tried.{AreTried, FollowsTried, IsMeant, Staged, StopsTried, entries_in, events_in, node_behind, packets_in}
use Rattle.actor_parts.specs.declared.tried.FailedCommit.TheVariants.{Round}
use Rattle.actor_parts.specs.declared.tried.Tried.{Tried}
use Rattle.actor_parts.proofs.Carrying.{some_same, sound_spoiled}
use Rattle.actor_parts.proofs.Trying.{snapshot_stays, up_stays}
use Rattle.mail_table.specs.Seats.{Seated}
use Rattle.node_actor.specs.Actor.{acting, IsSeated}
use Rattle.node_actor.specs.MidRound.{FailsAll, StopsAll, Under}
use Rattle.node_actor.specs.Posts.{advanced_all, advanced_by, AreSteps, MayYet}
use Rattle.node_actor.specs.Trying.{acting_before, parts_before, Trying}
use Rattle.node_actor.specs.Turns.{StaysAt}
use Rattle.node_actor.specs.Views.{StandsFor, seen}
use Rattle.node_actor.proofs.MadeTogether.{all_together, stops_together, walks_together}
use Rattle.node_actor.proofs.Seating.{MayLeave, none_meant, seated_stands}
use Rattle.node_actor.proofs.TryingNext.{tries_none}
use Rattle.node_actor.proofs.TriedEvents.{advanced_stays, agree_tried, as_many, node_after, steps_of}

-- lists of events

applied_after : {B : Type 0} (same : B → B → Bool) (me n : ℕ) (ts : List (Tried B)) (x : NodeState B) → AreTried same me n ts x
    → (node_behind same me n ts x).applied ≡ x.applied ++ entries_in ts
applied_after same me n [] x h = sym (append-nil x.applied)
applied_after same me n (t ∷ ts) x h =
    applied_after same me n ts (outcome_of same n t.event x).node h.1
    ∙ (ap (λ es. es ++ entries_in ts) h.0.grows ∙ append_assoc x.applied t.applied (entries_in ts))

opened_after : {B : Type 0} (same : B → B → Bool) (ts : List (Tried B)) (s : Seated B)
    → (advanced_all same ts s).part.seen.opened ≡ s.part.seen.opened
opened_after same [] s = refl
opened_after same (t ∷ ts) s = opened_after same ts (advanced_by same t.event s)

-- the seat stays where it is
pub steps_stay : {B : Type 0} (same : B → B → Bool) (ts : List (Tried B)) (s t : Seated B) → t ≡ advanced_all same ts s → StaysAt s t
steps_stay same ts s t is = subst (StaysAt s) (sym is) (advanced_stays same ts s)

-- there are some, or none

pub some_left : {A : Type 0} (xs : List A) → (length xs == 0) ≡ false → 0 < length xs
some_left [] e = absurd (false≢true (sym e))
some_left (x ∷ xs) e = omega arith

pub none_left : {A : Type 0} (xs : List A) → (length xs == 0) ≡ true → xs ≡ []
none_left xs e = nil_from_length xs (eqb-true (length xs) 0 e)

-- the seat knows the node: no event is tried

module _ {B M K : Type 0} (same : B → B → Bool) (holds : K → Rows B → Type 0) (is_failed : K → Bool) where
  before_is : (q : Parted B M K) (t : Seated B) → q.node.state ≡ t.part.seen.node → parts_before q t ≡ q
  before_is q t e = λ i. record q { node = record q.node { state = sym e i } }

  -- their steps may be taken
  pub steps_due : (p : Parted B M K) (s : Seated B) (g : Staged B) → Trying same holds is_failed p s g → AreSteps same s.members g.tried s.part
  steps_due p s g tr =
      steps_of same p.node.me s.members g.tried s.part tr.seated.rows tr.seated.opened tr.seated.me
      (subst (λ n. AreTried same p.node.me n g.tried s.part.seen.node) (sym tr.seated.members) tr.tried) tr.received

  module _ (p : Parted B M K) (s : Seated B) (g : Staged B) (tr : Trying same holds is_failed p s g) (none : g.tried ≡ []) where
    node_here : p.node.state ≡ s.part.seen.node
    node_here = tr.node ∙ ap (λ ts. node_behind same p.node.me p.node.members ts s.part.seen.node) none

    sound_here : IsSound same holds is_failed p
    sound_here = subst (IsSound same holds is_failed) (before_is p s node_here) tr.sound

    seated_here : IsSeated same (acting p s)
    seated_here = subst (λ (z : Parted B M K). IsSeated same (acting z s)) (before_is p s node_here) tr.seated

    module _ {S Y : Type 0} (steps : Steps B S Y) (content : M → S) (loaded : List ℕ → Option S) (finds : K → Rows B → Type 0)
        (failures : K → ℕ) where
      follows_none : HasLimits p.waiting → FollowsTried steps content p.node.state.rows.boot [] p p []
      follows_none limits =
          let v = sound_here.serves tr.fresh in
          record {
            waits = waits_still p.waiting limits;
            applied = sym (append-nil p.log.applied);
            floor = refl;
            alive = v.alive;
            end = v.ahead;
            says = λ first under l. refl;
            follows = λ first under l. l;
          }

      -- none is made
      none_made : HasLimits p.waiting
          → Under same steps content loaded holds finds failures (acting_before p s) s (events_in g.tried) [] [] (acting p s) s
      none_made limits =
          all_together same steps content loaded holds finds failures is_failed p p s s g tr (sym (ap (λ ts. advanced_all same ts s) none))
          (record { me = refl; members = refl; waits_me = refl; waits_members = refl }) refl []
          (subst (λ (ts : List (Tried B)). FollowsTried steps content p.node.state.rows.boot ts p p []) (sym none) (follows_none limits))
          (sound_here.serves tr.fresh).held tr.fresh (omega arith)

      -- what holds then
      pub flush_none : HasLimits p.waiting → IsSound same holds is_failed p × IsSeated same (acting p s)
          × Under same steps content loaded holds finds failures (acting_before p s) s (events_in g.tried) [] [] (acting p s) s
      flush_none limits = (sound_here, seated_here, none_made limits)

-- their commit failed, and the node is down over the rows of before them

module _ {B M K : Type 0} where
  -- the actor has ended, and keeps what was to be committed
  pub record Spoils (mid q : Parted B M K) (h : Staged B) : Type 0 where
    pub failed : q.failed ≡ Some (Round h.ahead.change h.tried)
    pub spoiled : q.spoiled ≡ true
    pub state : q.node.state ≡ down (taken_back h.ahead mid.node.state.rows)
    pub me : q.node.me ≡ mid.node.me
    pub members : q.node.members ≡ mid.node.members
    pub keeper : q.keeper ≡ mid.keeper
    pub waiting : q.waiting ≡ mid.waiting
    pub log : q.log ≡ mid.log

  spoils_who : (p mid q : Parted B M K) (h : Staged B) → OnlyKeeper p mid → Spoils mid q h → StaysWho p q
  spoils_who p mid q h o w =
      record {
        me = w.me ∙ ap (λ z. z.me) o.node;
        members = w.members ∙ ap (λ z. z.members) o.node;
        waits_me = ap (λ (z : Waiting B). z.me) (w.waiting ∙ o.waiting);
        waits_members = ap (λ (z : Waiting B). z.members) (w.waiting ∙ o.waiting);
      }

module _ {B M K : Type 0} (same : B → B → Bool) (holds : K → Rows B → Type 0) (is_failed : K → Bool) (p mid q : Parted B M K) (s : Seated B)
    (g h : Staged B) (tr : Trying same holds is_failed p s g) (some : 0 < length g.tried) (only : OnlyKeeper p mid) (is : h ≡ g)
    (sp : Spoils mid q h) where
  who_off : StaysWho p q
  who_off = spoils_who p mid q h only sp

  waits_on : q.waiting ≡ p.waiting
  waits_on = sp.waiting ∙ only.waiting

  state_off : q.node.state ≡ down (taken_back g.ahead p.node.state.rows)
  state_off = sp.state ∙ (λ i. down (taken_back (is i).ahead (only.node i).state.rows))

  failed_off : q.failed ≡ Some (Round g.ahead.change g.tried)
  failed_off = sp.failed ∙ (λ i. Some (Round (is i).ahead.change (is i).tried))

  rows_back : s.part.seen.node.rows ≡ q.node.state.rows
  rows_back = sym (ap (λ (x : NodeState B). x.rows) state_off ∙ tr.ahead.back)

  is_off : (P : Type 0) → q.node.state.up ≡ true → P
  is_off P up = absurd (false≢true (sym (ap (λ (x : NodeState B). x.up) state_off) ∙ up))

  sound_failed : IsSound same holds is_failed q
  sound_failed =
      sound_spoiled same holds is_failed (parts_before p s) q tr.sound
      (record { me = who_off.me; members = who_off.members; waits_me = who_off.waits_me; waits_members = who_off.waits_members }) sp.spoiled
      (is_off (IsPrefixOf q.log.applied q.node.state.applied))

  rows_led : accepting.adopted s.part.seen.node.rows g.ahead.change ≡ (node_behind same p.node.me p.node.members g.tried s.part.seen.node).rows
  rows_led = tr.ahead.adds ∙ ap (λ (x : NodeState B). x.rows) tr.node

  is_meant : IsMeant same q.node.me q.node.members s.part.seen.node (Round g.ahead.change g.tried)
  is_meant =
      subst (λ (z : ℕ × ℕ). IsMeant same z.0 z.1 s.part.seen.node (Round g.ahead.change g.tried)) (λ i. (sym who_off.me i, sym who_off.members i))
      (tr.tried, some, rows_led)

  may_yet : MayYet same s.members s.part (Round g.ahead.change g.tried)
  may_yet = steps_due same holds is_failed p s g tr

  seated_failed : IsSeated same (acting q s)
  seated_failed =
      record {
        me = tr.seated.me ∙ sym who_off.me;
        members = tr.seated.members ∙ sym who_off.members;
        node = is_off (s.part.seen.node ≡ q.node.state);
        same_rows = rows_back;
        rows = tr.seated.rows;
        opened = tr.seated.opened;
        waits = λ k peer. subst (λ (w : Waiting B). All (Contains s.part.seen.sent) (waiting k w)) (sym waits_on)
            (tr.seated.waits k (subst (λ (z : ℕ × ℕ). IsPeer z.0 z.1 k) (λ i. (who_off.me i, who_off.members i)) peer));
        failed = λ m e. subst (MayLeave same q.node s) (some_same (Round g.ahead.change g.tried) m (sym failed_off ∙ e)) (is_meant, may_yet);
      }

  module _ {S Y : Type 0} (steps : Steps B S Y) (content : M → S) (loaded : List ℕ → Option S) (finds : K → Rows B → Type 0)
      (failures : K → ℕ) where
    -- the store finds the rows of before or those after them
    all_fail : (fault : KeeperFault) → Falls finds failures g.ahead.change s.part.seen.node.rows p.keeper mid.keeper fault
        → FailsAll same steps content loaded holds finds failures (events_in g.tried) (acting_before p s) (acting q s) fault
    all_fail fault falls =
        let f : Falls finds failures g.ahead.change s.part.seen.node.rows p.keeper q.keeper fault =
        subst (λ k. Falls finds failures g.ahead.change s.part.seen.node.rows p.keeper k fault) (sym sp.keeper) falls in
        record {
          me = who_off.me;
          members = who_off.members;
          stands = seated_stands same q s seated_failed;
          seat = refl;
          waits = waits_on;
          log = sp.log ∙ only.log;
          agree = agree_tried same p.node.me p.node.members loaded g.tried (seen s) tr.tried;
          some = subst (λ k. 0 < k) (sym (as_many g.tried)) some;
          found = λ x it. ⊎_elim (λ e. inl e) (λ e. inr (e ∙ (rows_led
              ∙ ap (λ (z : NodeState B). z.rows) (sym (node_after same p.node.me p.node.members g.tried (seen s)))))) (f.found x it);
          cause = f.cause;
        }

    -- what holds then
    pub flush_fails : (fault : KeeperFault) → Falls finds failures g.ahead.change s.part.seen.node.rows p.keeper mid.keeper fault
        → IsSound same holds is_failed q × IsSeated same (acting q s) × StaysWho p q
        × FailsAll same steps content loaded holds finds failures (events_in g.tried) (acting_before p s) (acting q s) fault
    flush_fails fault falls = (sound_failed, seated_failed, who_off, all_fail fault falls)

-- they are committed, and their steps taken

module _ {B M K : Type 0} where
  only_keeper : (p mid : Parted B M K) → OnlyKeeper p mid → mid ≡ record p { keeper = mid.keeper }
  only_keeper p mid o =
      λ i. record { node = o.node i; keeper = mid.keeper; waiting = o.waiting i; log = o.log i; failed = o.failed i; spoiled = o.spoiled i }

  -- nothing but outboxes and machine is new after the commit
  pub record OnlyTakes (mid q : Parted B M K) : Type 0 where
    pub node : q.node ≡ mid.node
    pub keeper : q.keeper ≡ mid.keeper
    pub failed : q.failed ≡ mid.failed
    pub spoiled : q.spoiled ≡ mid.spoiled
    pub me : q.waiting.me ≡ mid.waiting.me
    pub members : q.waiting.members ≡ mid.waiting.members

  pub takes_who : (p mid q : Parted B M K) → OnlyKeeper p mid → OnlyTakes mid q → StaysWho p q
  takes_who p mid q o w =
      record {
        me = ap (λ h. h.me) (w.node ∙ o.node);
        members = ap (λ h. h.members) (w.node ∙ o.node);
        waits_me = w.me ∙ ap (λ (z : Waiting B). z.me) o.waiting;
        waits_members = w.members ∙ ap (λ (z : Waiting B). z.members) o.waiting;
      }

module _ {B S Y M K : Type 0} (same : B → B → Bool) (steps : Steps B S Y) (content : M → S) (loaded : List ℕ → Option S)
    (holds : K → Rows B → Type 0) (finds : K → Rows B → Type 0) (failures : K → ℕ) (is_failed : K → Bool) (p mid q : Parted B M K)
    (s t : Seated B) (g : Staged B) (tr : Trying same holds is_failed p s g) (only : OnlyKeeper p mid) (w : OnlyTakes mid q)
    (held : holds mid.keeper p.node.state.rows) (is : t ≡ advanced_all same g.tried s) where
  abbrev me : ℕ
  me = p.node.me

  abbrev n : ℕ
  n = p.node.members

  abbrev x : NodeState B
  x = s.part.seen.node

  abbrev es : List (Event B)
  es = events_in g.tried

  who : StaysWho p q
  who = takes_who p mid q only w

  state_still : q.node.state ≡ p.node.state
  state_still = ap (λ h. h.state) (w.node ∙ only.node)

  serving_log : p.log.applied ≡ x.applied
  serving_log = (tr.sound.serves tr.fresh).followed

  log_led : p.log.applied ++ entries_in g.tried ≡ q.node.state.applied
  log_led =
      ap (λ l. l ++ entries_in g.tried) serving_log
      ∙ (sym (applied_after same me n g.tried x tr.tried) ∙ ap (λ (z : NodeState B). z.applied) (sym (state_still ∙ tr.node)))

  kept_held : holds q.keeper p.node.state.rows
  kept_held = subst (λ k. holds k p.node.state.rows) (sym w.keeper) held

  none_failed : q.failed ≡ None
  none_failed = w.failed ∙ (only.failed ∙ (tr.sound.serves tr.fresh).committed)

  stays_flushed : StaysAt s t
  stays_flushed = steps_stay same g.tried s t is

  -- the seat knows the node, also if the machine did not follow all of it
  seated_flushed : WaitBehind (packets_in g.tried) p.waiting q.waiting → IsSeated same (acting q t)
  seated_flushed waits =
      let st : StandsFor (acting q t) t =
      (walks_together same steps content loaded holds finds failures is_failed p q s t g tr is who state_still waits).stands in
      record {
        me = stays_flushed.me ∙ (tr.seated.me ∙ sym who.me);
        members = ap (λ (z : Seated B). z.members) stays_flushed.table ∙ (tr.seated.members ∙ sym who.members);
        node = λ up. sym (st.node up);
        same_rows = sym st.rows;
        rows = tr.seated.rows;
        opened = ap (λ (z : Seated B). z.part.seen.opened) is ∙ (opened_after same g.tried s ∙ tr.seated.opened);
        waits = st.waits;
        failed = none_meant (MayLeave same q.node t) q.failed none_failed;
      }

  module _ (h : Staged B) (taken_is : h ≡ g) (said : List Y) where
    -- the machine followed all
    module _ (taken : FollowsTried steps content mid.node.state.rows.boot h.tried mid q said) where
      follows : FollowsTried steps content p.node.state.rows.boot g.tried p q said
      follows =
          let here : FollowsTried steps content mid.node.state.rows.boot g.tried mid q said =
          subst (λ (z : Staged B). FollowsTried steps content mid.node.state.rows.boot z.tried mid q said) taken_is taken in
          let f : FollowsTried steps content p.node.state.rows.boot g.tried (record p { keeper = mid.keeper }) q said =
          subst (λ (z : Parted B M K). FollowsTried steps content z.node.state.rows.boot g.tried z q said) (only_keeper p mid only) here in
          record {
            waits = f.waits;
            applied = f.applied;
            floor = f.floor;
            alive = f.alive;
            end = f.end;
            says = f.says;
            follows = f.follows;
          }

      seated_all : IsSeated same (acting q t)
      seated_all = seated_flushed follows.waits

      fresh_all : q.spoiled ≡ false
      fresh_all = w.spoiled ∙ (only.spoiled ∙ tr.fresh)

      sound_all : is_failed mid.keeper ≡ false → IsSound same holds is_failed q
      sound_all whole =
          let v = tr.sound.serves tr.fresh in
          let f = follows in
          let node : q.node.state ≡ node_behind same me n g.tried x = state_still ∙ tr.node in
          let snapshot : q.node.state.rows.snapshot ≡ x.rows.snapshot =
          ap (λ (z : NodeState B). z.rows.snapshot) node ∙ snapshot_stays same me n g.tried x tr.tried in
          let followed : q.log.applied ≡ q.node.state.applied = f.applied ∙ log_led in
          record {
            me = who.waits_me ∙ (tr.sound.me ∙ sym who.me);
            members = who.waits_members ∙ (tr.sound.members ∙ sym who.members);
            member = subst (λ (z : ℕ × ℕ). IsMember z.1 z.0) (λ i. (sym who.me i, sym who.members i)) tr.sound.member;
            serves = λ fresh. record {
              up = ap (λ (z : NodeState B). z.up) node ∙ up_stays same me n g.tried x tr.tried v.up;
              held = subst (λ (z : NodeState B). holds q.keeper z.rows) (sym state_still) kept_held;
              floor = f.floor ∙ (v.floor ∙ ap floor_in (sym snapshot));
              whole = ap is_failed w.keeper ∙ whole;
              followed = followed;
              alive = f.alive;
              committed = none_failed;
              ahead = f.end;
            };
            front = λ up. ([], append-nil q.log.applied ∙ followed);
          }

      -- and no event is tried then
      tries_next : is_failed mid.keeper ≡ false → (fresh_one now : Staged B) → now ≡ fresh_one → fresh_one.tried ≡ []
          → IsAhead mid.node.state.rows fresh_one.ahead mid.node.state.rows → Trying same holds is_failed q t now
      tries_next whole fresh_one now now_is none ahead =
          subst (Trying same holds is_failed q t) (sym now_is) (tries_none same holds is_failed q t fresh_one (sound_all whole)
          seated_all fresh_all none
          (subst (λ (z : Held B). IsAhead z.state.rows fresh_one.ahead z.state.rows) (sym w.node) ahead))

      made_under : failures p.keeper ≤ failures mid.keeper
          → Under same steps content loaded holds finds failures (acting_before p s) s es [] said (acting q t) t
      made_under counts =
          all_together same steps content loaded holds finds failures is_failed p q s t g tr is who state_still said follows kept_held fresh_all
          (subst (λ k. failures p.keeper ≤ failures k) (sym w.keeper) counts)

      -- what holds then, and as events begin to be tried anew
      pub flush_makes : is_failed mid.keeper ≡ false → failures p.keeper ≤ failures mid.keeper → (fresh_one now : Staged B) → now ≡ fresh_one
          → fresh_one.tried ≡ [] → IsAhead mid.node.state.rows fresh_one.ahead mid.node.state.rows
          → IsSound same holds is_failed q × IsSeated same (acting q t) × Trying same holds is_failed q t now × (now.tried ≡ [])
          × Under same steps content loaded holds finds failures (acting_before p s) s es [] said (acting q t) t
      flush_makes whole counts fresh_one now now_is none ahead = (
        sound_all whole,
        seated_all,
        tries_next whole fresh_one now now_is none ahead,
        ap (λ (z : Staged B). z.tried) now_is ∙ none,
        made_under counts,
      )

    -- memory ran out for it, and the actor has ended
    module _ (stopped : StopsTried steps content mid.node.state.rows.boot h.tried mid q said) where
      stops : StopsTried steps content p.node.state.rows.boot g.tried p q said
      stops =
          let here : StopsTried steps content mid.node.state.rows.boot g.tried mid q said =
          subst (λ (z : Staged B). StopsTried steps content mid.node.state.rows.boot z.tried mid q said) taken_is stopped in
          let f : StopsTried steps content p.node.state.rows.boot g.tried (record p { keeper = mid.keeper }) q said =
          subst (λ (z : Parted B M K). StopsTried steps content z.node.state.rows.boot g.tried z q said) (only_keeper p mid only) here in
          record { waits = f.waits; front = f.front; says = f.says }

      abbrev ended : Parted B M K
      ended = record q { spoiled = true }

      who_ended : StaysWho p ended
      who_ended = record { me = who.me; members = who.members; waits_me = who.waits_me; waits_members = who.waits_members }

      sound_ended : IsSound same holds is_failed ended
      sound_ended =
          sound_spoiled same holds is_failed (parts_before p s) ended tr.sound
          (record { me = who.me; members = who.members; waits_me = who.waits_me; waits_members = who.waits_members }) refl
          (λ up. (stops.front.0, stops.front.1 ∙ log_led))

      seated_ended : IsSeated same (acting ended t)
      seated_ended =
          let st = seated_flushed stops.waits in
          record {
            me = st.me;
            members = st.members;
            node = st.node;
            same_rows = st.same_rows;
            rows = st.rows;
            opened = st.opened;
            waits = st.waits;
            failed = st.failed;
          }

      stopped_under : StopsAll same steps content loaded holds finds failures es (acting_before p s) (acting ended t) said
      stopped_under =
          stops_together same steps content loaded holds finds failures is_failed p ended s t g tr is who_ended state_still said
          (record { waits = stops.waits; front = stops.front; says = stops.says }) kept_held

      pub flush_stops : IsSound same holds is_failed ended × IsSeated same (acting ended t) × StaysWho p ended
          × StopsAll same steps content loaded holds finds failures es (acting_before p s) (acting ended t) said
      flush_stops = (sound_ended, seated_ended, who_ended, stopped_under)
