-- What comes of a cut.
use Rattle.std.proofs.Common.{◌≡◌, ◌<◌, ◌+◌, ◌^◌, ℕ, suc, Bool, true, false, ◌&&◌, refl, sym, ap, ◌∙◌, subst, List, [], ◌∷◌, ◌++◌, length}
use Rattle.std.proofs.Common.{Option, Some, None, Result, Ok, Err, arith, lit<}
use Rattle.std.proofs.lemmas.Bool.{and_from, cond_both, eq-eqb, false≢true, ltb-true}
use Rattle.std.proofs.lemmas.List.{length-append}
use Rattle.std.specs.Cmp.Lexicographic.{pointwise}
use Rattle.std.specs.Prelude.{◌==◌, IfSome, OnOk, is_err, is_none, nat_lt, option_map}
use Rattle.std.specs.declared.vec.Vec.{Vec}
use Rattle.std.specs.declared.alloc.Global.{Global}
use Rattle.command_codec.specs.Number.{Reading}
use Rattle.paxos_packets.specs.Snapshot.{snapshot_of}
use Rattle.paxos_packets.specs.Snapshot as taken
use Rattle.paxos_packets.specs.declared.entry.Entry.{Entry}
use Rattle.paxos_packets.specs.declared.rows.Rows.{Rows}
use Rattle.paxos_learner.specs.Learner.{run_from}
use Rattle.paxos_node.specs.Applying.{base, standing_of, note, ends, go_down, apply_all}
use Rattle.paxos_node.specs.Events.{outcome_of}
use Rattle.paxos_node.specs.Plans.{plans}
use Rattle.paxos_node.specs.Snapshots.{same_standing, seven_of, is_head_of, may_cut, on_cut}
use Rattle.paxos_node.specs.declared.event.Event.TheVariants.{Cut}
use Rattle.paxos_node.specs.declared.outcome.Outcome.{Outcome}
use Rattle.paxos_planning.specs.Node.{NodeState, Plan, log_length}
use Rattle.paxos_planning.specs.Plan.{begun}
use Rattle.replica_machine.specs.declared.head.Head.{Head}
use Rattle.replica_machine.specs.declared.roll.Standing.{Standing}
use Rattle.replica_machine.specs.declared.roll.Standing.TheVariants.{Unknown, Live, Gone}
use Rattle.replica_machine.specs.Given.{AreGiven}
use Rattle.replica_machine.specs.Roll.{standing, standing_from, standing_after, standing_in}
use Rattle.replica_machine.specs.Log.{LogState, IsLogOf, length_in, machine_from}
use Rattle.replica_machine.specs.Replay.{Steps}
use Rattle.replica_machine.specs.Snapshot.{Kept, kept_after, kept_of, kept_octets, loaded_log, of_head, head_in, head_at, head_reading, seven}
use Rattle.replica_machine.proofs.Snapshots.{kept_whole, reads_back, seven_kept}
use Rattle.cluster_world.specs.Saving.{saved_of}
use Rattle.cluster_world.proofs.Saving.{snapshot_saved}
use Rattle.cluster_world.specs.MemberSnapshots.{own_cut, LoadsSaved}
use Rattle.actor_parts.specs.declared.fault.ActorFault.{ActorFault}
use Rattle.actor_parts.specs.Parts.{Parted, IsServing}
use Rattle.actor_parts.specs.Snapshots.{is_no_log, base_log, IsBase}
use Rattle.actor_parts.proofs.Basing.{base_cut, log_is_long}
use Rattle.actor_parts.proofs.Carrying.{some_same}
use Rattle.node_actor.specs.Actor.{Acting}
use Rattle.node_actor.specs.Calls.{Acts, Cuts}
use Rattle.node_actor.specs.Turns.{Reaches}
use Rattle.node_actor.specs.Views.{View, seen}
use Rattle.node_actor.proofs.Joining.{Joins, joins_own}
use Rattle.node_actor.proofs.Viewing.{cuts_pass}

pub on_ok_still : {A E : Type 0} (r : Result A E) (P : Type 0) → P → OnOk r P
on_ok_still (Ok x) P h = h
on_ok_still (Err e) P h = tt

-- nothing is cut if no entry is applied above the floor
pub cuts_none : {B : Type 0} (snapshot : Option taken.Snapshot) (x : NodeState B) → nat_lt 0 (length x.applied) ≡ false
    → may_cut snapshot x ≡ false
cuts_none None x h = refl
cuts_none (Some s) x h = rw h refl

-- a cut disagrees with nothing

agrees_on : {B : Type 0} (me : ℕ) (es : List (Entry B)) (t : Plan B) → (apply_all me es t).disagrees ≡ t.disagrees
agrees_on me [] t = refl
agrees_on me (e ∷ es) t =
    cond_both (ends me t.node e) (go_down (note e t)) (apply_all me es (note e t)) (λ u. u.disagrees ≡ t.disagrees) (λ d. refl)
    (λ d. agrees_on me es (note e t))

pub cut_agrees : {B : Type 0} (same : B → B → Bool) (members me : ℕ) (snapshot : Option taken.Snapshot) (x : NodeState B)
    → (outcome_of same members (Cut me snapshot) x).disagrees ≡ false
cut_agrees {B} same members me snapshot x =
    agrees_on me (run_from (suc (log_length t.node)) t.node.learner.learned) t ∙ starts snapshot
  where
    t : Plan B
    t = on_cut snapshot (begun x)

    starts : (c : Option taken.Snapshot) → (on_cut c (begun x)).disagrees ≡ false
    starts None = refl
    starts (Some s) = refl

-- it is an event of a node that is up
pub cut_plans : {B : Type 0} (me : ℕ) (snapshot : Option taken.Snapshot) (x : NodeState B) → x.up ≡ true → may_cut snapshot x ≡ true
    → plans me (Cut me snapshot) x ≡ true
cut_plans me snapshot x up may =
    ap (λ b. b && (x.up && may_cut snapshot x)) (eq-eqb me me refl) ∙ and_from x.up (may_cut snapshot x) up may

-- the packet of no event had to come
pub reaches_none : {B : Type 0} (ended : Bool) (me : ℕ) (snapshot : Option taken.Snapshot) (v s : View B)
    → Reaches ended (Some (Cut me snapshot)) v s → Reaches ended None v s
reaches_none ended me snapshot v s r =
    record {
      table = r.table;
      me = r.me;
      seen = r.seen;
      events = r.events;
      posted = r.posted;
      received = r.received;
      ended = r.ended;
      alone = λ x e. absurd cc;
    }

module _ {B S Y M K : Type 0} (same : B → B → Bool) (steps : Steps B S Y) (content : M → S) (loaded : List ℕ → Option S)
    (holds : K → Rows B → Type 0) (finds : K → Rows B → Type 0) (failures : K → ℕ) (snapshot : Option taken.Snapshot) where
  -- nothing happens, as the cut is not possible
  pub cuts_idle : (old new : Acting B M K) (v : View B) (result : Result (Vec Y Global) (ActorFault Y)) → may_cut snapshot (seen v).node ≡ false
      → old.spoiled ≡ false → is_err result ≡ old.spoiled
      → Acts same steps content loaded holds finds failures None old new v result
      → Cuts same steps content loaded holds finds failures snapshot old new v result
  cuts_idle old new v (Ok says) may fresh silent h = cuts_pass same steps content loaded holds finds failures snapshot old new v says may h
  cuts_idle old new v (Err fault) may fresh silent h = absurd (false≢true (sym fresh ∙ sym silent))

module _ {B S Y M K : Type 0} (steps : Steps B S Y) (content : M → S) (loaded : List ℕ → Option S) (holds : K → Rows B → Type 0)
    (is_failed : K → Bool) (a : Parted B M K) (o : Outcome B) (serving : IsServing holds is_failed a)
    (within : log_length a.node.state < 2 ^ 40) where
  -- the machine goes on from its own log, which is cut

  pub base_own : (c : Option taken.Snapshot) → o.change.snapshot ≡ c → may_cut c a.node.state ≡ true
      → IsBase o a.node.state (base_log None o.change.snapshot a.log)
  base_own None e may = absurd (false≢true may)
  base_own (Some s) e may = base_cut content loaded holds is_failed a o serving s e may within

  pub joins_cut : (c : Option taken.Snapshot) → o.change.snapshot ≡ c → may_cut c a.node.state ≡ true
      → Joins steps content loaded false o.change.snapshot a.node.state.applied a.log (base_log None o.change.snapshot a.log)
  joins_cut None e may = absurd (false≢true may)
  joins_cut (Some s) e may =
      subst (λ c. Joins steps content loaded false c a.node.state.applied a.log (base_log None c a.log)) (sym e)
      (joins_own steps content loaded s a.node.state.applied a.log serving.followed
      (subst (λ n. n < 2 ^ 40) (sym (log_is_long holds is_failed a serving)) within))

-- what is saved of a log loads as that log

module _ {B S Y M : Type 0} (steps : Steps B S Y) (content : M → S) (saved : S → List ℕ) (loaded : List ℕ → Option S) (first : S)
    (under : List (Entry B)) (log : LogState B M) where
  pub saves_log : IsLogOf steps content first under log → (octets : List ℕ) → octets ≡ kept_octets saved (kept_of content log)
      → IfSome (loaded_log loaded octets) (λ kept. kept ≡ kept_of content log)
      → LoadsSaved saved loaded (machine_from steps first) (under ++ log.applied)
  saves_log l octets is only =
      subst (λ (k : Kept S). IfSome (loaded_log loaded (kept_octets saved k)) (λ made. made ≡ k)) (kept_whole steps content first under log l)
      (subst (λ os. IfSome (loaded_log loaded os) (λ made. made ≡ kept_of content log)) is only)

own_reads : {S : Type 0} (loaded : List ℕ → Option S) (octets : List ℕ) (kept : Kept S) (floor : Option ℕ) → loaded_log loaded octets ≡ Some kept
    → is_no_log loaded (option_map (λ n. record { floor = n; octets = octets }) floor) ≡ false
own_reads loaded octets kept None h = refl
own_reads loaded octets kept (Some n) h = ap is_none h

pub loads_back : {B M S : Type 0} (content : M → S) (saved : S → List ℕ) (loaded : List ℕ → Option S) (log : LogState B M) (octets : List ℕ)
    → octets ≡ kept_octets saved (kept_of content log) → loaded_log loaded octets ≡ Some (kept_of content log)
    → is_no_log loaded (own_cut saved content log) ≡ false
loads_back content saved loaded log octets is back =
    own_reads loaded (kept_octets saved (kept_of content log)) (kept_of content log) (taken.floor_at (kept_octets saved (kept_of content log)))
    (ap (λ os. loaded_log loaded os) (sym is) ∙ back)

-- what is saved of a log is a snapshot of the node whose log it is, if entries are applied above the floor

module _ {B : Type 0} where
  standing_on : (n : ℕ) (s : Standing) (log more : List (Entry B)) → standing_from n s (log ++ more) ≡ standing_from n (standing_from n s log) more
  standing_on n s [] more = refl
  standing_on n s (e ∷ log) more = standing_on n (standing_after n s e) log more

same_is : (s : Standing) → same_standing s s ≡ true
same_is Unknown = refl
same_is (Live b n) = and_from (b == b) (n == n) (eq-eqb b b refl) (eq-eqb n n refl)
same_is (Gone b) = eq-eqb b b refl

sevens_same : (f : ℕ → Standing) → pointwise same_standing (seven_of f) (seven_of f) ≡ true
sevens_same f =
    and_from _ _ (same_is (f 1)) (and_from _ _ (same_is (f 2)) (and_from _ _ (same_is (f 3)) (and_from _ _ (same_is (f 4))
    (and_from _ _ (same_is (f 5)) (and_from _ _ (same_is (f 6)) (and_from _ _ (same_is (f 7)) refl))))))

abbrev head_in_kept : {S : Type 0} → Kept S → Head
head_in_kept kept = record { floor = kept.floor; standings = kept.standings }

none_is_some : {A : Type 0} (x : A) → ◌≡◌ {A = Option A} None (Some x) → ⊥
none_is_some x e = cc

module _ {S : Type 0} (content : S) where
  head_of : (read : Reading Head) (kept : Kept S) → of_head (λ _. Some content) read ≡ Some kept → head_in read ≡ Some (head_in_kept kept)
  head_of (Ok read) kept e =
      ap (λ (k : Kept S). Some (head_in_kept k))
      (some_same {A = Kept S} (record { floor = read.0.floor; standings = read.0.standings; content = content }) kept e)
  head_of (Err fault) kept e = absurd (none_is_some kept e)

module _ {B S Y M K : Type 0} (steps : Steps B S Y) (content : M → S) (saved : S → List ℕ) (holds : K → Rows B → Type 0) (is_failed : K → Bool)
    (a : Parted B M K) (serving : IsServing holds is_failed a) (within : log_length a.node.state < 2 ^ 40) (first : S) (under : List (Entry B))
    (follows : IsLogOf steps content first under a.log) (stands : (k : ℕ) → base a.node.state.rows k ≡ standing k under)
    (given : AreGiven (under ++ a.log.applied)) where
  abbrev whole : List (Entry B)
  whole = under ++ a.log.applied

  short : length_in a.log < 2 ^ 40
  short = subst (λ n. n < 2 ^ 40) (sym (log_is_long holds is_failed a serving)) within

  long : length whole ≡ length_in a.log
  long = length-append under a.log.applied ∙ ap (λ n. n + length a.log.applied) follows.below

  -- its head is that of the node
  head_is : head_at (kept_octets saved (kept_of content a.log)) ≡ Some (head_in_kept (kept_of content a.log))
  head_is =
      head_of (content a.log.machine) (head_reading (kept_octets saved (kept_of content a.log))) (kept_of content a.log)
      (reads_back (λ _. Some (content a.log.machine)) (length_in a.log) a.log.roll (content a.log.machine) (saved (content a.log.machine)) short
      (seven_kept whole a.log.roll given follows.stands.1) refl)

  stands_so : (n : ℕ) → n < 256 → standing_in a.log.roll n ≡ standing_of a.node.state n
  stands_so n low =
      follows.stands.1 n low ∙ standing_on n Unknown under a.log.applied
      ∙ ap (λ s. standing_from n s a.log.applied) (sym (stands n))
      ∙ ap (λ es. standing_from n (base a.node.state.rows n) es) serving.followed

  sevens : seven a.log.roll ≡ seven_of (standing_of a.node.state)
  sevens =
      λ i. stands_so 1 (lit< tt) i ∷ stands_so 2 (lit< tt) i ∷ stands_so 3 (lit< tt) i ∷ stands_so 4 (lit< tt) i ∷ stands_so 5 (lit< tt) i
      ∷ stands_so 6 (lit< tt) i ∷ stands_so 7 (lit< tt) i ∷ []

  is_head : is_head_of a.node.state (head_at (kept_octets saved (kept_of content a.log))) ≡ true
  is_head =
      ap (is_head_of a.node.state) head_is
      ∙ and_from (length_in a.log == log_length a.node.state) _ (eq-eqb (length_in a.log) (log_length a.node.state)
      (log_is_long holds is_failed a serving))
      (ap (λ ss. pointwise same_standing ss (seven_of (standing_of a.node.state))) sevens ∙ sevens_same (standing_of a.node.state))

  -- and its floor the node's length
  own_is : own_cut saved content a.log ≡ saved_of saved (machine_from steps first) whole
  own_is =
      ap (λ k. snapshot_of (kept_octets saved k)) (kept_whole steps content first under a.log follows)
      ∙ snapshot_saved saved (machine_from steps first) whole (subst (λ n. n < 2 ^ 40) (sym long) short)

  some_log : (log : List (Entry B)) → 0 < length log → saved_of saved (machine_from steps first) log
      ≡ Some (record { floor = length log; octets = kept_octets saved (kept_after (machine_from steps first) log) })
  some_log [] l = absurd (omega (arith, l))
  some_log (e ∷ log) l = refl

  own_some : 0 < length a.node.state.applied → own_cut saved content a.log
      ≡ Some (record { floor = length_in a.log; octets = kept_octets saved (kept_of content a.log) })
  own_some l =
      let more : 0 < length whole = let n = ap (λ es. length es) serving.followed in let k = length-append under a.log.applied in
      omega (arith, l, n, k) in
      own_is ∙ (some_log whole more ∙ (λ i. Some (record {
        floor = long i;
        octets = kept_octets saved (sym (kept_whole steps content first under a.log follows) i);
      })))

  pub own_may : may_cut (own_cut saved content a.log) a.node.state ≡ nat_lt 0 (length a.node.state.applied)
  own_may = by (nat_lt 0 (length a.node.state.applied)) refl
    where
      by : (b : Bool) → nat_lt 0 (length a.node.state.applied) ≡ b → may_cut (own_cut saved content a.log) a.node.state ≡ nat_lt 0 (length
          a.node.state.applied)
      by false e = cuts_none (own_cut saved content a.log) a.node.state e ∙ sym e
      by true e =
          ap (λ s. may_cut s a.node.state) (own_some (ltb-true 0 (length a.node.state.applied) e))
          ∙ (and_from _ _ e (and_from _ _ (eq-eqb (length_in a.log) (log_length a.node.state) (log_is_long holds is_failed a serving)) is_head)
          ∙ sym e)
