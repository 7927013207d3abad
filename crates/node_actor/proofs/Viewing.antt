-- What is made of an outcome, stated for the view that the event began with.
use Rattle.std.proofs.Common.{◌≡◌, ◌⊎◌, inl, inr, ℕ, ◌≤◌, ◌-◌, Bool, not, true}
use Rattle.std.proofs.Common.{false, cond, eqb, Option, Some, None, Result, Ok, Err, List, [], ◌++◌}
use Rattle.std.proofs.Common.{length, drop, arith, sym, ap, subst, ◌∙◌, refl, ⊎_elim}
use Rattle.std.specs.Prelude.{◌==◌, ◌^◌, ◌||◌, nat_lt, filter, is_some}
use Rattle.std.proofs.lemmas.Bool.{cond-true, cond-false, ne_eqb, and_parts, and_from, eqb-true, eq-eqb, false≢true}
use Rattle.std.proofs.lemmas.List.{append-nil}
use Rattle.std.specs.declared.vec.Vec.{Vec}
use Rattle.std.specs.declared.alloc.Global.{Global}
use Rattle.circular_buffer.specs.Buffer.{keep_last}
use Rattle.paxos_packets.specs.Snapshot as taken
use Rattle.paxos_packets.specs.declared.entry.Entry.{Entry}
use Rattle.paxos_packets.specs.declared.packet.Packet.{Packet}
use Rattle.paxos_packets.specs.declared.rows.Rows.{Rows}
use Rattle.paxos_acceptor.specs.Acceptor as accepting
use Rattle.replica_machine.specs.Replay.{Steps}
use Rattle.actor_outboxes.specs.Outboxes.{most_waiting, waiting, to, IsPeer, HasLimits}
use Rattle.paxos_node.specs.declared.event.Event.{Event}
use Rattle.paxos_node.specs.declared.event.Event.TheVariants.{Take, Tick, Start, Suspect, Deliver, Cut, Crash, Restart}
use Rattle.paxos_node.specs.declared.outcome.Outcome.{Outcome}
use Rattle.paxos_planning.specs.Node.{NodeState, Plan}
use Rattle.paxos_node.specs.Adopting.{adopted, Fits, Planned}
use Rattle.paxos_node.specs.Events.{owner, possible, outcome_of, is_round_refused, is_full_refused, packet_in}
use Rattle.paxos_node.specs.Plans.{plans, is_planned, Answers}
use Rattle.paxos_node.specs.View.{moved}
use Rattle.paxos_node.specs.declared.fault.NodeFault.{NodeFault}
use Rattle.paxos_node.specs.declared.fault.NodeFault.TheVariants as node_fault
use Rattle.mail_table.specs.Boxes.{Follows, Received}
use Rattle.mail_table.specs.Seats.{Seated}
use Rattle.mail_table.specs.Views.{box_of, through}
use Rattle.actor_parts.specs.declared.fault.ActorFault.{ActorFault}
use Rattle.actor_parts.specs.declared.fault.ActorFault.TheVariants.{Failed, Rounds, Full, Keeper, Disagree, LostHere, Worn, Memory}
use Rattle.actor_parts.specs.Parts.{Parted, IsPlan, IsServing, IsSound}
use Rattle.actor_parts.specs.Handing.{handed_out}
use Rattle.actor_parts.specs.Snapshots.{is_no_log, base_log}
use Rattle.cluster_world.specs.MemberSnapshots.{taken_over}
use Rattle.node_actor.specs.Snapshots.{Logs, takes_no_log, log_before, under_after, handed_by}
use Rattle.node_actor.proofs.Joining.{Joins, joins_made, reads_made, reads_none}
use Rattle.actor_parts.specs.Steps.{OnlyKeeper, next_node}
use Rattle.actor_parts.proofs.Carrying.{Roomed, next_rows}
use Rattle.node_actor.specs.Actor.{Acting, acting, acting_since, IsSeated}
use Rattle.node_actor.specs.declared.turning.LastTurn.{LastTurn}
use Rattle.node_actor.specs.Posts.{advanced}
use Rattle.node_actor.specs.Steps.{may_advance, fault_without_plan, TakesOver, StopsBefore, StopsBehind, CarriesOut}
use Rattle.node_actor.specs.Steps.{CarriesOn, makes_none, makes_stop, carries}
use Rattle.node_actor.specs.MidRound.{OneOn, SeatGoes}
use Rattle.node_actor.specs.Turns.{Reaches, ReachesWith}
use Rattle.node_actor.specs.Views.{View, seen, is_for, posted_to, received_from, StandsFor, moved_by, received_by, Queues}
use Rattle.node_actor.specs.Calls.{take_event, turn_event, is_own, is_worn, GoesWith, Stops, IsTaken, IsAgreed, Acts, ActsWith, Cuts}
use Rattle.paxos_node.specs.Snapshots.{may_cut}
use Rattle.node_actor.proofs.Seating.{peer_of, seated_stands}
use Rattle.node_actor.proofs.Since.{since, acts_since, cuts_since}
use Rattle.replica_machine.specs.Log.{LogState, machine_from}

keep_short : {A : Type 0} (xs : List A) → length xs ≤ most_waiting → keep_last most_waiting xs ≡ xs
keep_short xs h = let z : length xs - most_waiting ≡ 0 = omega (arith, h) in ap (λ k. drop k xs) z

or_left : (a b : Bool) → a ≡ true → (a || b) ≡ true
or_left true b h = refl
or_left false b h = absurd (false≢true h)

or_right : (a b : Bool) → b ≡ true → (a || b) ≡ true
or_right true b h = refl
or_right false b h = h

not_false : (b : Bool) → not b ≡ false → b ≡ true
not_false true h = refl
not_false false h = sym h

not_true : (b : Bool) → not b ≡ true → b ≡ false
not_true true h = sym h
not_true false h = refl

pub owner_is : {B : Type 0} (me : ℕ) (e : Event B) (x : NodeState B) → plans me e x ≡ true → owner e ≡ me
owner_is me e x h = eqb-true (owner e) me (and_parts (eqb (owner e) me) _ h).0

pub possible_is : {B : Type 0} (me : ℕ) (e : Event B) (x : NodeState B) → plans me e x ≡ true → possible e x ≡ true
possible_is me e x h = (and_parts (is_planned e) _ (and_parts (eqb (owner e) me) _ h).1).1

-- an outcome that is planned fits the node, also once room was made and it was committed
pub fits_on : {B M K : Type 0} (same : B → B → Bool) (o : Outcome B) (old mid new : Parted B M K)
    → IsPlan same old.node.me old.node.members old.node.state o → Roomed old mid → OnlyKeeper mid new
    → Fits new.node.me new.node.members o new.node.state
fits_on {B} same o old mid new plan r k =
    let is_own : owner plan.event ≡ old.node.me = owner_is old.node.me plan.event old.node.state plan.plans in
    let me : owner plan.event ≡ new.node.me = is_own ∙ sym r.me ∙ ap (λ n. n.me) (sym k.node) in
    let members : old.node.members ≡ new.node.members = sym r.members ∙ ap (λ n. n.members) (sym k.node) in
    let state : old.node.state ≡ new.node.state = sym r.state ∙ ap (λ n. n.state) (sym k.node) in
    subst (Fits new.node.me new.node.members o) state
    (subst (λ n. Fits new.node.me n o old.node.state) members (subst (λ n. Fits n old.node.members o old.node.state) me plan.planned.fits))

-- and the seat may take its step
pub follows_plan : {B M K : Type 0} (same : B → B → Bool) (e : Event B) (o : Outcome B) (p : Parted B M K) (s : Seated B)
    → plans p.node.me e p.node.state ≡ true → Planned same p.node.members e p.node.state o → IsSeated same (acting p s)
    → p.node.state.up ≡ true → Received s.members s.part e
    → Follows same s.members s.part o
follows_plan same e o p s mine planned seated up received =
    record {
      event = e;
      rows = seated.rows;
      opened = seated.opened;
      own = owner_is p.node.me e p.node.state mine ∙ sym seated.me;
      may = ap (possible e) (seated.node up) ∙ possible_is p.node.me e p.node.state mine;
      is = subst (λ x. Planned same s.members e x o) (sym (seated.node up)) (subst (λ n. Planned same n e p.node.state o) (sym seated.members)
          planned);
      received = received;
    }

-- an outcome that is planned is what the event makes of the node

module _ {B : Type 0} (same : B → B → Bool) (me members : ℕ) (e : Event B) (x y : NodeState B) (o : Outcome B) where
  abbrev turn : Plan B
  turn = outcome_of same members e y

  pub node_is : owner e ≡ me → Planned same members e x o → x ≡ y → adopted me members o x ≡ turn.node
  node_is own p q = ap (λ n. adopted n members o x) (sym own) ∙ p.node ∙ ap (λ z. (outcome_of same members e z).node) q

  pub packets_are : Planned same members e x o → x ≡ y → o.packets ≡ turn.packets
  packets_are p q = p.packets ∙ ap (λ z. (outcome_of same members e z).packets) q

  pub applied_is : Planned same members e x o → x ≡ y → o.applied ≡ turn.applied
  applied_is p q = p.applied ∙ ap (λ z. (outcome_of same members e z).applied) q

  pub down_is : Planned same members e x o → x ≡ y → o.is_down ≡ not turn.node.up
  down_is p q = p.is_down ∙ ap (λ z. not (outcome_of same members e z).node.up) q

  pub agrees_is : Planned same members e x o → x ≡ y → turn.disagrees ≡ false
  agrees_is p q = ap (λ z. (outcome_of same members e z).disagrees) (sym q) ∙ p.agrees

-- a seat that took no step, since there was no memory or its word counts no more
pub unmoved : {B : Type 0} (Y : Type 0) (same : B → B → Bool) (members : ℕ) (e : Event B) (s t : Seated B) → t ≡ s
    → SeatGoes {Y = Y} same members e s t (Err (fault_without_plan s))
unmoved Y same members e s t is = by_word (may_advance s)
  where
    by_word : (b : Bool) → SeatGoes {Y = Y} same members e s t (Err (cond {A = ActorFault Y} b Memory Worn))
    by_word true = inl is
    by_word false = is

-- what a view that an event began with shares with its seat

module _ {B : Type 0} {got : List (Packet B)} (ended : Bool) (e : Option (Event B)) (v s : Seated B) (reach : ReachesWith got ended e v s) where
  pub posted_same : (k : ℕ) → posted_to k s ≡ posted_to k v
  posted_same k =
      let members : s.members ≡ v.members = ap (λ (x : Seated B). x.members) reach.table in
      λ i. through (box_of (members i) (reach.me i) k) (reach.posted i)

module _ {B M K : Type 0} where
  pub queues_still : (old new : Parted B M K) (v t : Seated B) → new.waiting ≡ old.waiting → (k : ℕ) → posted_to k t ≡ posted_to k v
      → length (waiting k old.waiting) ≤ most_waiting → Queues k [] (acting old v) (acting new t) v t
  queues_still old new v t waits k posted short =
      record {
        meanwhile = [];
        rest = waiting k old.waiting;
        posted = posted ∙ sym (append-nil (posted_to k v));
        waited = refl;
        waits = ap (waiting k) waits ∙ sym (keep_short (waiting k old.waiting) short)
            ∙ ap (keep_last most_waiting) (sym (append-nil (waiting k old.waiting)));
      }

module _ {B S Y M K : Type 0} (same : B → B → Bool) (steps : Steps B S Y) (content : M → S) (loaded : List ℕ → Option S)
    (holds : K → Rows B → Type 0) (finds : K → Rows B → Type 0) (failures : K → ℕ) (is_failed : K → Bool) where
  module _ {got : List (Packet B)} (e : Event B) (o : Outcome B) (old new : Parted B M K) (v s t : Seated B)
      (sound : IsSound same holds is_failed old) (seated : IsSeated same (acting old s)) (up : old.node.state.up ≡ true)
      (behind : IsSeated same (acting new t)) (reach : ReachesWith got old.spoiled (Some e) v s)
      (mine : plans old.node.me e old.node.state ≡ true) (planned : Planned same old.node.members e old.node.state o) where
    is_node : old.node.state ≡ (seen v).node
    is_node = sym (seated.node up) ∙ ap (λ x. x.node) reach.seen

    next_is : next_node o old ≡ (outcome_of same old.node.members e (seen v).node).node
    next_is = node_is same old.node.me old.node.members e old.node.state (seen v).node o (owner_is old.node.me e old.node.state mine)
        planned is_node

    packets : o.packets ≡ (outcome_of same old.node.members e (seen v).node).packets
    packets = packets_are same old.node.me old.node.members e old.node.state (seen v).node o planned is_node

    moved_is : t ≡ advanced o s → seen t ≡ moved_by same old.node.members (Some e) (seen v)
    moved_is is =
        let node : adopted s.part.me s.members o s.part.seen.node ≡ (outcome_of same old.node.members e (seen v).node).node =
        (λ i. adopted (seated.me i) (seated.members i) o (seated.node up i)) ∙ next_is in
        ap seen is ∙ (λ i. moved (node i) (packets i) (reach.seen i))

    -- the seat took the step, or none
    went : t ≡ advanced o s → OneOn same old.node.members e s t
    went is = (ap (λ (z : Seated B). z.part.events) is, moved_is is ∙ ap (moved_by same old.node.members (Some e)) (sym reach.seen))

    seat_out : (base : LogState B M) (result : Result (Vec Y Global) (ActorFault Y))
        → CarriesOut steps content holds finds failures base o (acting old s) (acting new t) result
        → SeatGoes same old.node.members e s t result
    seat_out base (Ok says) h = went h.3.seat
    seat_out base (Err (LostHere says)) h = went h.3.seat
    seat_out base (Err (Keeper fault)) h = h.2.seat
    seat_out base (Err Worn) h = h.2.seat
    seat_out base (Err Memory) h = ⊎_elim (λ b. inl b.seat) (λ b. inr (went b.seat)) h.2
    seat_out base (Err Failed) h = absurd h
    seat_out base (Err Rounds) h = absurd h
    seat_out base (Err Full) h = absurd h
    seat_out base (Err Disagree) h = absurd h

    pub seat_on : (result : Result (Vec Y Global) (ActorFault Y))
        → CarriesOn steps content holds finds failures loaded o (acting old s) (acting new t) result
        → SeatGoes same old.node.members e s t result
    seat_on (Err Disagree) (makes_none none spoiled stop) = stop.seat
    seat_on (Err f) (makes_stop fault is spoiled stop) =
        subst (λ x. SeatGoes {Y = Y} same old.node.members e s t (Err x)) (sym is) (unmoved Y same old.node.members e s t stop.seat)
    seat_on r (carries made result is h) = seat_out (base_log made o.change.snapshot old.log) r h

    -- the snapshot of the outcome is the event's
    commits_is : o.change.snapshot ≡ (outcome_of same old.node.members e (seen v).node).change.snapshot
    commits_is = ap (λ c. c.snapshot) planned.change ∙ ap (λ z. (outcome_of same old.node.members e z).change.snapshot) is_node

    -- the machine goes on from the log after which the event applies its entries
    module _ (base : LogState B M) (joins : Joins steps content loaded (is_some (packet_in e)) o.change.snapshot old.node.state.applied old.log base)
        (reads : is_no_log loaded (taken_over (is_some (packet_in e)) o.change.snapshot) ≡ false) where
      joined : Joins steps content loaded (is_some (packet_in e)) (outcome_of same old.node.members e (seen v).node).change.snapshot
          (seen v).node.applied old.log base
      joined =
          subst (λ es. Joins steps content loaded (is_some (packet_in e)) (outcome_of same old.node.members e (seen v).node).change.snapshot es
          old.log base) (ap (λ x. x.applied) is_node)
          (subst (λ c. Joins steps content loaded (is_some (packet_in e)) c old.node.state.applied old.log base) commits_is joins)

      reads_is : takes_no_log same old.node.members loaded (Some e) (seen v).node ≡ false
      reads_is = ap (λ c. is_no_log loaded (taken_over (is_some (packet_in e)) c)) (sym commits_is) ∙ reads

      goes_on : (says : List Y) → TakesOver steps content holds finds failures base o (acting old s) (acting new t) says
          → GoesWith same steps content loaded holds finds failures got (Some e) (acting old v) (acting new t) v says
      goes_on says h =
          record {
            next = t;
            stands = seated_stands same new t behind;
            moved = moved_is h.seat;
            received = λ k. ap (received_from k) h.seat ∙ reach.received k;
            queues = λ k peer. record {
              meanwhile = [];
              rest = waiting k old.waiting;
              posted = ap (posted_to k) h.seat ∙ posted_same old.spoiled (Some e) v s reach k ∙ sym (append-nil (posted_to k v));
              waited = refl;
              waits = h.waits k (peer_of old sound.me sound.members k peer)
                  ∙ ap (λ ps. keep_last most_waiting (waiting k old.waiting ++ to k ps)) packets;
            };
            held = subst (λ x. holds new.keeper x) (ap (λ x. x.rows) (next_is ∙ ap (λ x. x.node) (sym (moved_is h.seat)))) h.held;
            loads = reads_is;
            says = λ first under logs l takes.
                h.says first (under_after same old.node.members logs under (Some e) (seen v).node) (joined.goes first under logs l takes)
                ∙ told first under logs;
            follows = λ first under logs l takes.
                h.follows first (under_after same old.node.members logs under (Some e) (seen v).node) (joined.goes first under logs l takes);
          }
        where
          told : (first : S) (under : List (Entry B)) (logs : Logs B)
              → handed_out (machine_from steps first) old.node.me old.node.state.rows.boot
              (under_after same old.node.members logs under (Some e) (seen v).node ++ base.applied) o.applied
              ≡ handed_by same old.node.members (machine_from steps first) logs under (Some e) (seen v).node
          told first under logs =
              ap (λ log. handed_out (machine_from steps first) old.node.me old.node.state.rows.boot log o.applied) (joined.at under logs)
              ∙ (ap (λ n. handed_out (machine_from steps first) n old.node.state.rows.boot
              (log_before same old.node.members logs under (Some e) (seen v).node) o.applied)
              (sym (owner_is old.node.me e old.node.state mine))
              ∙ (ap (λ x. handed_out (machine_from steps first) (owner e) x.rows.boot
              (log_before same old.node.members logs under (Some e) (seen v).node) o.applied) is_node
              ∙ ap (handed_out (machine_from steps first) (owner e) (seen v).node.rows.boot
              (log_before same old.node.members logs under (Some e) (seen v).node))
              (applied_is same old.node.me old.node.members e old.node.state (seen v).node o planned is_node)))

    -- what is refused, and what is not
    module _ (no_round : is_round_refused e old.node.state ≡ false) (no_full : is_full_refused same e old.node.state ≡ false) where
      is_taken : IsTaken same steps content loaded holds finds failures (Some e) (acting old v) v
      is_taken = (ap (is_round_refused e) (sym is_node) ∙ no_round, ap (is_full_refused same e) (sym is_node) ∙ no_full)

      agrees : (outcome_of same old.node.members e (seen v).node).disagrees ≡ false
      agrees = agrees_is same old.node.me old.node.members e old.node.state (seen v).node o planned is_node

      worn_by : (b : Bool) → may_advance s ≡ b → is_worn (Some e) v ≡ not b
      worn_by b may = ap (λ n. not (nat_lt n (2 ^ 62))) (sym reach.events) ∙ ap not may

      is_agreed : may_advance s ≡ true → IsAgreed same steps content loaded holds finds failures (Some e) (acting old v) v
      is_agreed may = (is_taken, agrees, worn_by true may)

      abbrev up_then : Bool
      up_then = (outcome_of same old.node.members e (seen v).node).node.up

      downs : o.is_down ≡ not up_then
      downs = down_is same old.node.me old.node.members e old.node.state (seen v).node o planned is_node

      stops : (base : LogState B M)
          → StopsBefore steps content holds finds failures (acting old s) (acting new t) ⊎ StopsBehind steps content holds finds failures base o
          (acting old s) (acting new t)
          → Stops same steps content loaded holds finds failures (Some e) (acting old v) (acting new t) v
      stops base (inl b) =
          record {
            next = t;
            stands = seated_stands same new t behind;
            moved = inl (ap seen b.seat ∙ reach.seen);
            held = subst (λ x. holds new.keeper x.rows) (is_node ∙ ap (λ x. x.node) (sym (ap seen b.seat ∙ reach.seen))) b.held;
          }
      stops base (inr b) =
          record {
            next = t;
            stands = seated_stands same new t behind;
            moved = inr (moved_is b.seat);
            held = subst (λ x. holds new.keeper x) (ap (λ x. x.rows) (next_is ∙ ap (λ x. x.node) (sym (moved_is b.seat)))) b.held;
          }

      pub acts_of : (base : LogState B M)
          → Joins steps content loaded (is_some (packet_in e)) o.change.snapshot old.node.state.applied old.log base
          → is_no_log loaded (taken_over (is_some (packet_in e)) o.change.snapshot) ≡ false
          → old.spoiled ≡ false → ((k : ℕ) → IsPeer old.node.me old.node.members k → length (waiting k old.waiting) ≤ most_waiting)
          → (result : Result (Vec Y Global) (ActorFault Y)) → CarriesOut steps content holds finds failures base o (acting old s) (acting new t)
          result
          → ActsWith same steps content loaded holds finds failures got (Some e) (acting old v) (acting new t) v result
      acts_of base joins reads fresh short (Ok says) h = (fresh, h.2, is_agreed h.0, not_false up_then (sym downs ∙ h.1), goes_on base joins reads says.items h.3)
      acts_of base joins reads fresh short (Err (LostHere says)) h = (fresh, h.2, is_agreed h.0, not_true up_then (sym downs ∙ h.1), goes_on base joins reads says.items h.3)
      acts_of base joins reads fresh short (Err (Keeper fault)) h = (
        fresh,
        h.1,
        is_agreed h.0,
        record {
          next = t;
          stands = seated_stands same new t behind;
          moved = ap seen h.2.seat ∙ reach.seen;
          log = h.2.log;
          queues = λ k peer. queues_still old new v t h.2.waits k (ap (posted_to k) h.2.seat
              ∙ posted_same old.spoiled (Some e) v s reach k) (short k peer);
          loads = reads_is base joins reads;
          found = λ x it. found_by x (h.2.falls.found x it);
          cause = h.2.falls.cause;
        },
      )
        where
          found_by : (x : Rows B) → (x ≡ old.node.state.rows) ⊎ (x ≡ accepting.adopted old.node.state.rows o.change)
              → (x ≡ (seen v).node.rows) ⊎ (x ≡ (moved_by same old.node.members (Some e) (seen v)).node.rows)
          found_by x (inl is) = inl (is ∙ ap (λ y. y.rows) is_node)
          found_by x (inr is) = inr (is ∙ sym (next_rows old.node.me old.node.members o old.node.state) ∙ ap (λ y. y.rows) next_is)
      acts_of base joins reads fresh short (Err Worn) h = (
        fresh,
        h.1,
        is_taken,
        agrees,
        worn_by false h.0,
        record {
          next = t;
          stands = seated_stands same new t behind;
          moved = inl (ap seen h.2.seat ∙ reach.seen);
          held = subst (λ x. holds new.keeper x.rows) (is_node ∙ ap (λ x. x.node) (sym (ap seen h.2.seat ∙ reach.seen))) h.2.held;
        },
      )
      acts_of base joins reads fresh short (Err Memory) h = (fresh, h.1, is_agreed h.0, stops base h.2)
      acts_of base joins reads fresh short (Err Failed) h = absurd h
      acts_of base joins reads fresh short (Err Rounds) h = absurd h
      acts_of base joins reads fresh short (Err Full) h = absurd h
      acts_of base joins reads fresh short (Err Disagree) h = absurd h

      stopped_here : StopsBefore steps content holds finds failures (acting old s) (acting new t)
          → Stops same steps content loaded holds finds failures None (acting old v) (acting new t) v
      stopped_here h =
          record {
            next = t;
            stands = seated_stands same new t behind;
            moved = inl (ap seen h.seat ∙ reach.seen);
            held = subst (λ x. holds new.keeper x.rows) (is_node ∙ ap (λ x. x.node) (sym (ap seen h.seat ∙ reach.seen))) h.held;
          }

      -- the same of an event that is no cut
      pub acts_on : IsServing holds is_failed old → ((c : taken.Snapshot) → o.change.snapshot ≡ Some c → is_some (packet_in e) ≡ true)
          → old.spoiled ≡ false → ((k : ℕ) → IsPeer old.node.me old.node.members k → length (waiting k old.waiting) ≤ most_waiting)
          → (result : Result (Vec Y Global) (ActorFault Y))
          → CarriesOn steps content holds finds failures loaded o (acting old s) (acting new t) result
          → ActsWith same steps content loaded holds finds failures got (Some e) (acting old v) (acting new t) v result
      acts_on serving from fresh short (Err Disagree) (makes_none none spoiled stop) = (
        fresh,
        spoiled,
        is_taken,
        or_right (outcome_of same old.node.members e (seen v).node).disagrees _
            (ap (λ c. is_no_log loaded (taken_over (is_some (packet_in e)) c)) (sym commits_is)
            ∙ reads_none loaded (is_some (packet_in e)) o.change.snapshot from none),
        stopped_here stop,
      )
      acts_on serving from fresh short (Err f) (makes_stop fault is spoiled stop) =
          subst (λ x. ActsWith same steps content loaded holds finds failures got (Some e) (acting old v) (acting new t) v (Err x)) (sym is)
          (by_word (may_advance s) refl)
        where
          by_word : (b : Bool) → may_advance s ≡ b
              → ActsWith same steps content loaded holds finds failures got (Some e) (acting old v) (acting new t) v
              (Err (cond {A = ActorFault Y} b Memory Worn))
          by_word true may = (fresh, spoiled, is_agreed may, stops old.log (inl stop))
          by_word false may = (fresh, spoiled, is_taken, agrees, worn_by false may, stopped_here stop)
      acts_on serving from fresh short r (carries made result is h) =
          acts_of (base_log made o.change.snapshot old.log)
          (joins_made steps content loaded (is_some (packet_in e)) o.change.snapshot old.node.state.applied old.log made is from serving.followed)
          (reads_made steps content loaded (is_some (packet_in e)) o.change.snapshot made is) fresh short result h

  -- refusals

  module _ {got : List (Packet B)} (e : Event B) (p : Parted B M K) (v s : Seated B) (seated : IsSeated same (acting p s))
      (up : p.node.state.up ≡ true) (reach : ReachesWith got p.spoiled (Some e) v s) where
    stays_node : p.node.state ≡ (seen v).node
    stays_node = sym (seated.node up) ∙ ap (λ x. x.node) reach.seen

    stops_here : IsServing holds is_failed p → (f : Option (Event B)) → IsSeated same (acting (record p { spoiled = true }) s)
        → Stops same steps content loaded holds finds failures f (acting p v) (acting (record p { spoiled = true }) s) v
    stops_here serving f behind =
        record {
          next = s;
          stands = seated_stands same (record p { spoiled = true }) s behind;
          moved = inl reach.seen;
          held = subst (λ x. holds p.keeper x.rows) (sym (seated.node up)) serving.held;
        }

    taken_here : (is_round_refused e p.node.state ≡ false) × (is_full_refused same e p.node.state ≡ false)
        → IsTaken same steps content loaded holds finds failures (Some e) (acting p v) v
    taken_here h = (ap (is_round_refused e) (sym stays_node) ∙ h.0, ap (is_full_refused same e) (sym stays_node) ∙ h.1)

    agrees_here : (b : Bool) → (outcome_of same p.node.members e p.node.state).disagrees ≡ b
        → (outcome_of same p.node.members e (seen v).node).disagrees ≡ b
    agrees_here b h = ap (λ x. (outcome_of same p.node.members e x).disagrees) (sym stays_node) ∙ h

    worn_here : (b : Bool) → may_advance s ≡ b → is_worn (Some e) v ≡ not b
    worn_here b may = ap (λ n. not (nat_lt n (2 ^ 62))) (sym reach.events) ∙ ap not may

    pub disagree_acts : p.spoiled ≡ false → IsServing holds is_failed p → IsSeated same (acting (record p { spoiled = true }) s)
        → (is_round_refused e p.node.state ≡ false) × (is_full_refused same e p.node.state ≡ false)
        × ((outcome_of same p.node.members e p.node.state).disagrees ≡ true)
        → ActsWith same steps content loaded holds finds failures got (Some e) (acting p v) (acting (record p { spoiled = true }) s) v (Err Disagree)
    disagree_acts fresh serving behind h = (
      fresh,
      refl,
      taken_here (h.0, h.1),
      or_left _ (takes_no_log same p.node.members loaded (Some e) (seen v).node) (agrees_here true h.2),
      stops_here serving None behind,
    )

    pub memory_acts : p.spoiled ≡ false → IsServing holds is_failed p → IsSeated same (acting (record p { spoiled = true }) s)
        → (is_round_refused e p.node.state ≡ false) × (is_full_refused same e p.node.state ≡ false)
        → (outcome_of same p.node.members e p.node.state).disagrees ≡ false
        → ActsWith same steps content loaded holds finds failures got (Some e) (acting p v) (acting (record p { spoiled = true }) s) v
        (Err (fault_without_plan s))
    memory_acts fresh serving behind h agrees = by_word (may_advance s) refl
      where
        by_word : (b : Bool) → may_advance s ≡ b
            → ActsWith same steps content loaded holds finds failures got (Some e) (acting p v) (acting (record p { spoiled = true }) s) v
            (Err (cond {A = ActorFault Y} b Memory Worn))
        by_word true may = (fresh, refl, (taken_here h, agrees_here false agrees, worn_here true may), stops_here serving (Some e) behind)
        by_word false may = (
          fresh,
          refl,
          taken_here h,
          agrees_here false agrees,
          worn_here false may,
          stops_here serving None behind,
        )

    round_alone : (x : Event B) → is_round_refused x p.node.state ≡ true → packet_in x ≡ None
    round_alone (Deliver q) h = absurd (false≢true h)
    round_alone _ h = refl

    full_alone : (x : Event B) → is_full_refused same x p.node.state ≡ true → packet_in x ≡ None
    full_alone (Deliver q) h = absurd (false≢true h)
    full_alone _ h = refl

    pub rounds_act : p.spoiled ≡ false → is_round_refused e p.node.state ≡ true
        → ActsWith same steps content loaded holds finds failures got (Some e) (acting p v) (acting p s) v (Err Rounds)
    rounds_act fresh h = (fresh, ap (is_round_refused e) (sym stays_node) ∙ h, ap (acting p) (reach.alone e refl (round_alone e h)))

    pub full_act : p.spoiled ≡ false → is_full_refused same e p.node.state ≡ true
        → ActsWith same steps content loaded holds finds failures got (Some e) (acting p v) (acting p s) v (Err Full)
    full_act fresh h = (fresh, ap (is_full_refused same e) (sym stays_node) ∙ h, ap (acting p) (reach.alone e refl (full_alone e h)))

  -- a fault has ended the actor before
  pub failed_acts : {got : List (Packet B)} (e : Option (Event B)) (p : Parted B M K) (v s : Seated B) → p.spoiled ≡ true → ReachesWith got p.spoiled e v s
      → ActsWith same steps content loaded holds finds failures got e (acting p v) (acting p s) v (Err Failed)
  failed_acts e p v s spoiled reach = (spoiled, ap (acting p) (reach.ended spoiled))

  -- no event
  pub pass_acts : (p : Parted B M K) (v s : Seated B) (says : Vec Y Global) → says.items ≡ [] → p.spoiled ≡ false
      → IsServing holds is_failed p
      → ((k : ℕ) → IsPeer p.node.me p.node.members k → length (waiting k p.waiting) ≤ most_waiting) → IsSeated same (acting p s)
      → Reaches p.spoiled None v s → Acts same steps content loaded holds finds failures None (acting p v) (acting p s) v (Ok says)
  pass_acts p v s says silent fresh serving short seated reach = (
    fresh,
    fresh,
    ((refl, refl), refl, refl),
    ap (λ x. x.node.up) (sym reach.seen) ∙ ap (λ x. x.up) (seated.node serving.up) ∙ serving.up,
    record {
      next = s;
      stands = seated_stands same p s seated;
      moved = reach.seen;
      received = reach.received;
      queues = λ k peer. queues_still p p v s refl k (posted_same p.spoiled None v s reach k) (short k peer);
      held = subst (λ x. holds p.keeper x.rows) (sym (seated.node serving.up)) serving.held;
      loads = refl;
      says = λ first under logs l takes. silent;
      follows = λ first under logs l takes. l;
    },
  )

-- a cut

module _ {B S Y M K : Type 0} (same : B → B → Bool) (steps : Steps B S Y) (content : M → S) (loaded : List ℕ → Option S)
    (holds : K → Rows B → Type 0) (finds : K → Rows B → Type 0) (failures : K → ℕ) (snapshot : Option taken.Snapshot) where
  -- what is made of the event, if it is possible at the view's node
  pub cuts_acts : (old new : Acting B M K) (v : View B) (result : Result (Vec Y Global) (ActorFault Y))
      → may_cut snapshot (seen v).node ≡ true
      → Acts same steps content loaded holds finds failures (Some (Cut old.node.me snapshot)) old new v result
      → Cuts same steps content loaded holds finds failures snapshot old new v result
  cuts_acts old new v (Ok says) may h =
      subst (λ e. Acts same steps content loaded holds finds failures e old new v (Ok says))
      (sym (cond-true (may_cut snapshot (seen v).node) (Some (Cut old.node.me snapshot)) None may)) h
  cuts_acts old new v (Err fault) may h = h

  -- and if it is not
  pub cuts_pass : (old new : Acting B M K) (v : View B) (says : Vec Y Global) → may_cut snapshot (seen v).node ≡ false
      → Acts same steps content loaded holds finds failures None old new v (Ok says)
      → Cuts same steps content loaded holds finds failures snapshot old new v (Ok says)
  cuts_pass old new v says may h =
      subst (λ e. Acts same steps content loaded holds finds failures e old new v (Ok says))
      (sym (cond-false (may_cut snapshot (seen v).node) (Some (Cut old.node.me snapshot)) None may)) h

-- events that a call may make

pub owned_event : {B : Type 0} (me : ℕ) (e : Event B) → is_own me e ≡ true → (owner e ≡ me) × (is_planned e ≡ true) × (packet_in e ≡ None)
owned_event me (Take n t body) h = (eqb-true n me (and_parts (eqb n me) _ h).0, refl, refl)
owned_event me (Tick n) h = (eqb-true n me h, refl, refl)
owned_event me (Start n) h = (eqb-true n me h, refl, refl)
owned_event me (Suspect n other) h = (eqb-true n me h, refl, refl)
owned_event me (Deliver p) h = absurd (false≢true h)
owned_event me (Cut n snapshot) h = absurd (false≢true h)
owned_event me (Crash n) h = absurd (false≢true h)
owned_event me (Restart n) h = absurd (false≢true h)

pub possible_event : {B : Type 0} (me : ℕ) (e : Event B) (x : NodeState B) → is_own me e ≡ true → x.up ≡ true → possible e x ≡ true
possible_event me (Take n t body) x h up = and_from x.up _ up (and_parts (eqb n me) _ h).1
possible_event me (Tick n) x h up = up
possible_event me (Start n) x h up = up
possible_event me (Suspect n other) x h up = up
possible_event me (Deliver p) x h up = absurd (false≢true h)
possible_event me (Cut n snapshot) x h up = absurd (false≢true h)
possible_event me (Crash n) x h up = absurd (false≢true h)
possible_event me (Restart n) x h up = absurd (false≢true h)

module _ {B M K : Type 0} (same : B → B → Bool) (holds : K → Rows B → Type 0) (is_failed : K → Bool) where
  -- what waits is within the limit
  pub shorts : (old : Parted B M K) → IsSound same holds is_failed old → HasLimits old.waiting → (k : ℕ)
      → IsPeer old.node.me old.node.members k
      → length (waiting k old.waiting) ≤ most_waiting
  shorts old sound limits k peer = limits k (peer_of old sound.me sound.members k peer)

  -- an event of its own is possible at an actor that goes on
  pub plans_own : (a : Parted B M K) (e : Event B) → IsSound same holds is_failed a → a.spoiled ≡ false → owner e ≡ a.waiting.me
      → is_planned e ≡ true → (a.node.state.up ≡ true → possible e a.node.state ≡ true) → plans a.node.me e a.node.state ≡ true
  plans_own a e sound fresh own planned may =
      let mine : eqb (owner e) a.node.me ≡ true = eq-eqb (owner e) a.node.me (own ∙ sound.me) in
      and_from _ _ mine (and_from _ _ planned (may (sound.serves fresh).up))

  -- so is one that a call may make
  pub plans_event : (a : Parted B M K) (e : Event B) → IsSound same holds is_failed a → a.spoiled ≡ false → is_own a.node.me e ≡ true
      → plans a.node.me e a.node.state ≡ true
  plans_event a e sound fresh own =
      let o = owned_event a.node.me e own in
      plans_own a e sound fresh (o.0 ∙ sym sound.me) o.1 (possible_event a.node.me e a.node.state own)

  -- a packet that is for the node, from another member, is its event, and no other is
  for_node : (a : Parted B M K) (p : Packet B) (b : Bool) → IsSound same holds is_failed a → is_for a.waiting.me a.waiting.members p ≡ b
      → is_for a.node.me a.node.members p ≡ b
  for_node a p b sound h =
      subst (λ n. is_for n a.node.members p ≡ b) sound.me (subst (λ n. is_for a.waiting.me n p ≡ b) sound.members h)

  pub none_in : (a : Parted B M K) (p : Packet B) → IsSound same holds is_failed a → is_for a.waiting.me a.waiting.members p ≡ false
      → turn_event a.node.me a.node.members (Some p) ≡ None
  none_in a p sound h = rw (for_node a p false sound h) refl

  pub event_in : (a : Parted B M K) (p : Packet B) → IsSound same holds is_failed a → is_for a.waiting.me a.waiting.members p ≡ true
      → turn_event a.node.me a.node.members (Some p) ≡ Some (Deliver p)
  event_in a p sound h = rw (for_node a p true sound h) refl

module _ {B M K : Type 0} where
  pub addressed : (a : Parted B M K) (p : Packet B) → is_for a.waiting.me a.waiting.members p ≡ true → p.addressee ≡ a.waiting.me
  addressed a p h = eqb-true p.addressee a.waiting.me (and_parts (eqb p.addressee a.waiting.me) _ h).0

-- the seat itself is such a view of an event with which no packet comes
pub reaches_here : {B : Type 0} (ended : Bool) (e : Option (Event B)) (s : Seated B) → ReachesWith [] ended e s s
reaches_here ended e s =
    record {
      table = refl;
      me = refl;
      seen = refl;
      events = refl;
      posted = refl;
      received = λ k. sym (append-nil (received_from k s));
      ended = λ h. refl;
      alone = λ x is none. refl;
    }

-- the seat is as the event found it
pub reaches_self : {B : Type 0} (ended : Bool) (e : Option (Event B)) (s : Seated B) → received_by e ≡ [] → Reaches ended e s s
reaches_self ended e s none =
    record {
      table = refl;
      me = refl;
      seen = refl;
      events = refl;
      posted = refl;
      received = λ k. sym (append-nil (received_from k s)) ∙ ap (λ ps. received_from k s ++ filter (λ p. p.sender == k) ps) (sym none);
      ended = λ h. refl;
      alone = λ x is none. refl;
    }

module _ {B S Y M K : Type 0} (same : B → B → Bool) (steps : Steps B S Y) (content : M → S) (loaded : List ℕ → Option S)
    (holds : K → Rows B → Type 0) (finds : K → Rows B → Type 0) (failures : K → ℕ) where
  -- an event that is stated in two ways
  pub acts_by : (e f : Option (Event B)) (p : Parted B M K) (s : Seated B) (new : Acting B M K)
      (result : Result (Vec Y Global) (ActorFault Y))
      → e ≡ f → ((v : View B) → Reaches p.spoiled f v s → Acts same steps content loaded holds finds failures f (acting p v) new v result)
      → (v : View B) → Reaches p.spoiled e v s → Acts same steps content loaded holds finds failures e (acting p v) new v result
  acts_by e f p s new result is h v reach =
      subst (λ x. Acts same steps content loaded holds finds failures x (acting p v) new v result) (sym is)
      (h v (subst (λ x. Reaches p.spoiled x v s) is reach))

  -- the event of a call, stated for the value that the actor shows
  pub acts_seen : (E : ℕ → ℕ → Option (Event B)) (e : Option (Event B)) (l : LastTurn) (p : Parted B M K) (s : Seated B)
      (now new : Acting B M K) (result : Result (Vec Y Global) (ActorFault Y)) → E p.node.me p.node.members ≡ e → received_by e ≡ []
      → acting_since l p s ≡ now
      → ((v : View B) → Reaches p.spoiled e v s → Acts same steps content loaded holds finds failures e (acting p v) new v result)
      → (v : View B) → StandsFor now v
      → Acts same steps content loaded holds finds failures (E now.node.me now.node.members) now (since l new) v result
  acts_seen E e l p s now new result is none same_actor h =
      subst (λ (x : Acting B M K). (v : View B) → StandsFor x v → Acts same steps content loaded holds finds failures (E x.node.me x.node.members)
      x (since l new) v result)
      same_actor (λ v stands. subst (λ x. Acts same steps content loaded holds finds failures (E p.node.me p.node.members) (acting_since l p s)
      (since l new) x result) stands.seat
      (subst (λ f. Acts same steps content loaded holds finds failures f (acting_since l p s) (since l new) s result) (sym is)
      (acts_since same steps content loaded holds finds failures l e (acting p s) new s result (h s (reaches_self p.spoiled e s none)))))

  -- the same if nothing happens
  pub acts_passed : (E : ℕ → ℕ → Option (Event B)) (l : LastTurn) (p : Parted B M K) (s : Seated B) (now : Acting B M K)
      (result : Result (Vec Y Global) (ActorFault Y))
      → E p.node.me p.node.members ≡ None → acting_since l p s ≡ now
      → ((v : View B) → Reaches p.spoiled None v s → Acts same steps content loaded holds finds failures None (acting p v) (acting p s) v result)
      → (v : View B) → StandsFor now v → Acts same steps content loaded holds finds failures (E now.node.me now.node.members) now now v result
  acts_passed E l p s now result is same_actor h =
      subst (λ (x : Acting B M K). (v : View B) → StandsFor x v → Acts same steps content loaded holds finds failures (E x.node.me x.node.members)
      x x v result)
      same_actor (λ v stands. subst (λ x. Acts same steps content loaded holds finds failures (E p.node.me p.node.members) (acting_since l p s)
      (acting_since l p s) x result) stands.seat
      (subst (λ f. Acts same steps content loaded holds finds failures f (acting_since l p s) (acting_since l p s) s result) (sym is)
      (acts_since same steps content loaded holds finds failures l None (acting p s) (acting p s) s result
      (h s (reaches_self p.spoiled None s refl)))))

module _ {B S Y M K : Type 0} (same : B → B → Bool) (steps : Steps B S Y) (content : M → S) (loaded : List ℕ → Option S)
    (holds : K → Rows B → Type 0) (finds : K → Rows B → Type 0) (failures : K → ℕ) where
  -- a cut, stated for the value that the actor shows
  pub cuts_seen : (E : LogState B M → Option taken.Snapshot) (l : LastTurn) (p : Parted B M K) (s : Seated B) (now new : Acting B M K)
      (result : Result (Vec Y Global) (ActorFault Y)) → acting_since l p s ≡ now
      → ((v : View B) → Reaches p.spoiled (Some (Cut p.node.me (E p.log))) v s
      → Cuts same steps content loaded holds finds failures (E p.log) (acting p v) new v result)
      → (v : View B) → StandsFor now v → Cuts same steps content loaded holds finds failures (E now.log) now (since l new) v result
  cuts_seen E l p s now new result same_actor h =
      subst (λ (x : Acting B M K). (v : View B) → StandsFor x v
      → Cuts same steps content loaded holds finds failures (E x.log) x (since l new) v result) same_actor
      (λ v stands. subst (λ x. Cuts same steps content loaded holds finds failures (E p.log) (acting_since l p s) (since l new) x result)
      stands.seat
      (cuts_since same steps content loaded holds finds failures l (E p.log) (acting p s) new s result
      (h s (reaches_self p.spoiled (Some (Cut p.node.me (E p.log))) s refl))))

pub take_some : {B : Type 0} (me n number : ℕ) (body : B) → (number ≡ 0 → ⊥) → n ≡ me
    → take_event me number body ≡ Some (Take n number body)
take_some me n number body nonzero is = rw (ne_eqb number 0 nonzero) (ap (λ k. Some (Take k number body)) (sym is))

-- what a plan's result says of the refusals before it

pub told_disagree : {A : Type 0} (rounds full other : Bool) (P : A → Type 0) (f : NodeFault) → f ≡ node_fault.Disagree
    → Answers rounds full other P (Err f)
    → (rounds ≡ false) × (full ≡ false) × (other ≡ true)
told_disagree rounds full other P f e h = subst (λ x. Answers rounds full other P (Err x)) e h

pub told_memory : {A : Type 0} (rounds full other : Bool) (P : A → Type 0) (f : NodeFault) → f ≡ node_fault.Memory
    → Answers rounds full other P (Err f)
    → (rounds ≡ false) × (full ≡ false)
told_memory rounds full other P f e h = subst (λ x. Answers rounds full other P (Err x)) e h
