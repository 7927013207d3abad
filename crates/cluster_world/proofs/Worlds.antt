-- A world in code, one event on.
use Rattle.std.proofs.Common.{◌≡◌, ◌⊎◌, ⊎_elim, ℕ, zero, suc, ◌-◌, ◌+◌, ◌<◌, ◌≤◌, ◌^◌, Bool, true, false, ◌&&◌, eqb, refl, sym, ap, ◌∙◌}
use Rattle.std.proofs.Common.{subst, arith, List, [], ◌∷◌, ◌++◌, length, length-append, Option, None, Some}
use Rattle.std.specs.Prelude.{slice_get, slice_set, slice_index_or, filter, nat_lt, ◌==◌, is_some, Result, Ok, Err, OnOk, OnErr}
use Rattle.std.specs.List.{flat_map}
use Rattle.std.proofs.lemmas.Bool.{false≢true, cond_both, cond-true, cond-false, cases_eq, cases_Bool, and_parts, eqb-true}
use Rattle.std.proofs.lemmas.List.{append-nil, map-set}
use Rattle.std.proofs.lemmas.Grind.{flat_map-append}
use Rattle.paxos_packets.specs.Body.{IsEquality}
use Rattle.paxos_packets.specs.Snapshot as taken
use Rattle.paxos_packets.specs.Transport.{same_transport}
use Rattle.paxos_packets.specs.declared.entry.Entry.{Entry}
use Rattle.paxos_packets.specs.declared.packet.Kind.TheVariants.{Snapshot}
use Rattle.paxos_packets.specs.declared.packet.Packet.{Packet}
use Rattle.paxos_packets.specs.declared.transport.Transport.{Transport}
use Rattle.paxos_node.specs.declared.event.Event.{Event}
use Rattle.paxos_node.specs.declared.event.Event.TheVariants.{Take, Tick, Start, Suspect, Deliver, Cut, Crash, Restart}
use Rattle.paxos_node.specs.Events.{owner, packet_in, possible, on_event, outcome_of, made_by}
use Rattle.paxos_node.specs.Snapshots.{is_head_of, may_cut}
use Rattle.paxos_planning.specs.Node.{NodeState, Plan, log_length, told_length}
use Rattle.paxos_planning.specs.Plan.{begun}
use Rattle.replica_machine.specs.Given.{AreGiven}
use Rattle.replica_machine.specs.Replay.{Machine, sayings_behind}
use Rattle.replica_machine.specs.Snapshot.{head_at, kept_after, loaded_log}
use Rattle.replica_follower.specs.Following.{Followed, Follows, LoadsAs, handed_to}
use Rattle.world_nodes.specs.Nodes.{IsAtRest}
use Rattle.cluster_world.specs.Has.{Has}
use Rattle.cluster_world.specs.Saving.{played_of, tell_all, told, saved_of}
use Rattle.cluster_world.specs.Steps.{may}
use Rattle.cluster_world.specs.World.{Applied, World, absent, node_at, put_node, first_world, is_none_or_among, was_sent, done, next, played}
use Rattle.cluster_world.specs.World.{under, log_of, log_over, log_before, cut_by, handed, handed_at}
use Rattle.cluster_world.specs.World as worlds
use Rattle.cluster_world.specs.Members.{MemberState, nodes_of, machines_of, AreMembers, held_of, Moves, Unmoved, Goes, Happens, Rests, GoesOn}
use Rattle.cluster_world.specs.Members.{TakesOver, RestartsAt, IsInBoot, StaysThere, IsGivenUp, GivenUpStay, IsLater, AreLater, Renews}
use Rattle.cluster_world.specs.MemberSnapshots.{octets_at, with_octets, its_event, may_happen, is_carried, taken_over, log_from, under_from, Brings}
use Rattle.cluster_world.specs.MemberSnapshots.{own_cut, LoadsSaved}
use Rattle.cluster_world.specs.StandsAt.{Held, told_by, machine_at, HandsToOwn, HasLog, Shows, under_at, StandsIn, ShowsAt, StandsAt}
use Rattle.cluster_world.proofs.Attending.{nothing_to}
use Rattle.cluster_world.proofs.CutLogs.{snapshot_is_log, node_by_log}
use Rattle.cluster_world.proofs.Cuts.{IsCut, RestsOnCut, under_found, under_kept, under_same}
use Rattle.cluster_world.proofs.EveryWorld.{WorldOk, world_ok, under_long, Within, within, node_same, node_other, whole_is, cut_is, among_has, play_on}
use Rattle.cluster_world.proofs.Agreeing.{never_disagrees}
use Rattle.cluster_world.proofs.EventsAtOnce.{all_rest}
use Rattle.cluster_world.proofs.Giving.{log_is_given}
use Rattle.cluster_world.proofs.Later.{StillRests, rests, base_is, committed, later_same, later_then, later_event, between}
use Rattle.cluster_world.proofs.Lists.{has_cases}
use Rattle.cluster_world.proofs.MemberEvents.{possible_carried}
use Rattle.cluster_world.proofs.Replacing.{get_set_same, get_set_other, set_here, some_same, get_map}
use Rattle.cluster_world.proofs.Saving.{plays_told, plays_more, told_is, told_loads, own_is, its_told}
use Rattle.cluster_world.proofs.Standing.{Cuts, Takes, Ran, Began, event_cases}

off : false ≡ true → ⊥
off e = cc

-- the member at a place, and the tests of an event

pub node_of_get : {B : Type 0} (nodes : List (NodeState B)) (i : ℕ) (x : NodeState B) → slice_get nodes i ≡ Some x → node_at nodes (suc i) ≡ x
node_of_get [] i x h = absurd (cc)
node_of_get (a ∷ xs) zero x h = some_same h
node_of_get (a ∷ xs) (suc i) x h = node_of_get xs i x h

pub off_first : (a b : Bool) → a ≡ false → (a && b) ≡ false
off_first a b e = λ i. e i && b

pub off_second : (a b : Bool) → b ≡ false → (a && b) ≡ false
off_second true b e = e
off_second false b e = refl

off_both : (a b c : Bool) → (b ≡ false → c ≡ false) → (a && b) ≡ false → (a && c) ≡ false
off_both true b c f e = f e
off_both false b c f e = refl

-- an event with other octets, if it is a Cut
module _ {B : Type 0} (o : Option taken.Snapshot) where
  pub owner_with : (e : Event B) → owner (with_octets o e) ≡ owner e
  owner_with (Take n t body) = refl
  owner_with (Tick n) = refl
  owner_with (Start n) = refl
  owner_with (Suspect n other) = refl
  owner_with (Deliver p) = refl
  owner_with (Cut n s) = refl
  owner_with (Crash n) = refl
  owner_with (Restart n) = refl

  packet_with : (e : Event B) → packet_in (with_octets o e) ≡ packet_in e
  packet_with (Take n t body) = refl
  packet_with (Tick n) = refl
  packet_with (Start n) = refl
  packet_with (Suspect n other) = refl
  packet_with (Deliver p) = refl
  packet_with (Cut n s) = refl
  packet_with (Crash n) = refl
  packet_with (Restart n) = refl

  sent_with : (same : B → B → Bool) (e : Event B) (sent : List (Packet B)) → was_sent same (with_octets o e) sent ≡ was_sent same e sent
  sent_with same e sent = ap (λ p. is_none_or_among same p sent) (packet_with e)

  -- none is possible then that may not happen
  unable_with : (e : Event B) (x : NodeState B) → may_happen e x ≡ false → possible (with_octets o e) x ≡ false
  unable_with (Take n t body) x f = f
  unable_with (Tick n) x f = f
  unable_with (Start n) x f = f
  unable_with (Suspect n other) x f = f
  unable_with (Deliver p) x f = f
  unable_with (Cut n s) x f = off_first x.up (may_cut o x) f
  unable_with (Crash n) x f = f
  unable_with (Restart n) x f = f

  -- and each takes the same snapshot over
  over_with : (same : B → B → Bool) (members : ℕ) (e : Event B) (x : NodeState B)
      → taken_over (is_some (packet_in (with_octets o e))) (outcome_of same members (with_octets o e) x).change.snapshot
      ≡ taken_over (is_some (packet_in e)) (outcome_of same members e x).change.snapshot
  over_with same members (Take n t body) x = refl
  over_with same members (Tick n) x = refl
  over_with same members (Start n) x = refl
  over_with same members (Suspect n other) x = refl
  over_with same members (Deliver p) x = refl
  over_with same members (Cut n s) x = refl
  over_with same members (Crash n) x = refl
  over_with same members (Restart n) x = refl

-- a node of a number that is no member's may do nothing
pub may_within : {B : Type 0} (nodes : List (NodeState B)) (e : Event B) (k : ℕ) → may_happen e (node_at nodes k) ≡ true → Within nodes k
may_within nodes (Take n t body) k h = within nodes (Take n t body) k h
may_within nodes (Tick n) k h = within nodes (Tick n) k h
may_within nodes (Start n) k h = within nodes (Start n) k h
may_within nodes (Suspect n other) k h = within nodes (Suspect n other) k h
may_within nodes (Deliver p) k h = within nodes (Deliver p) k h
may_within nodes (Cut n s) k h = within nodes (Tick n) k h
may_within nodes (Crash n) k h = within nodes (Crash n) k h
may_within nodes (Restart n) k h = within nodes (Restart n) k h

-- one more application

module _ {B S Y : Type 0} (m : Machine B S Y) where
  handed_more : (t : Transport) (xs : List (Applied B)) (a : Applied B)
      → flat_map (handed_at m t) (xs ++ a ∷ []) ≡ flat_map (handed_at m t) xs ++ handed_at m t a
  handed_more t xs a =
      flat_map-append (handed_at m t) xs (a ∷ []) ∙ ap (λ l. flat_map (handed_at m t) xs ++ l) (append-nil (handed_at m t a))

  handed_elsewhere : (t : Transport) (a : Applied B) → (a.node ≡ t.node → ⊥) → handed_at m t a ≡ []
  handed_elsewhere t a d =
      cond_both (eqb a.node t.node && eqb a.boot t.boot) (filter (λ y. same_transport (m.to y) t) (sayings_behind m a.log a.entries)) []
      (λ l. l ≡ []) (λ e. absurd (d (eqb-true a.node t.node (and_parts (eqb a.node t.node) (eqb a.boot t.boot) e).0))) (λ e. refl)

  handed_to_none : (t : Transport) (node boot : ℕ) (log entries : List (Entry B)) → (node ≡ t.node → ⊥) → handed_to m t node boot log entries ≡ []
  handed_to_none t node boot log entries d = handed_elsewhere t (record { node = node; boot = boot; log = log; entries = entries }) d

-- a member in the place of one

module _ {B M Y : Type 0} (list : List (MemberState B M Y)) (i : ℕ) (s new : MemberState B M Y) (at : slice_get list i ≡ Some s) where
  nodes_set : nodes_of (slice_set list i new) ≡ slice_set (nodes_of list) i new.node
  nodes_set = map-set (λ (z : MemberState B M Y). z.node) list i new

  machines_set : machines_of (slice_set list i new) ≡ slice_set (machines_of list) i new.machine
  machines_set = map-set (λ (z : MemberState B M Y). z.machine) list i new

  machine_got : slice_get (machines_of list) i ≡ Some s.machine
  machine_got = get_map (λ (z : MemberState B M Y). z.machine) list i s at

  machine_new : slice_get (machines_of (slice_set list i new)) i ≡ Some new.machine
  machine_new = ap (λ l. slice_get l i) machines_set ∙ get_set_same (machines_of list) i s.machine new.machine machine_got

  machine_other : (j : ℕ) → (j ≡ i → ⊥) → slice_get (machines_of (slice_set list i new)) j ≡ slice_get (machines_of list) j
  machine_other j n = ap (λ l. slice_get l j) machines_set ∙ get_set_other (machines_of list) i j new.machine n

  node_old : node_at (nodes_of list) (suc i) ≡ s.node
  node_old = node_of_get (nodes_of list) i s.node (get_map (λ (z : MemberState B M Y). z.node) list i s at)

  node_new : node_at (nodes_of (slice_set list i new)) (suc i) ≡ new.node
  node_new =
      node_of_get (nodes_of (slice_set list i new)) i new.node
      (ap (λ l. slice_get l i) nodes_set
      ∙ get_set_same (nodes_of list) i s.node new.node (get_map (λ (z : MemberState B M Y). z.node) list i s at))

  node_other' : (j : ℕ) → (j ≡ i → ⊥) → node_at (nodes_of (slice_set list i new)) (suc j) ≡ node_at (nodes_of list) (suc j)
  node_other' j n =
      ap (λ l. slice_index_or l j absent) nodes_set
      ∙ Rattle.std.proofs.lemmas.List.get_or-set_other (nodes_of list) i j new.node absent n

  -- what holds of each machine at its place, by what held there before
  each_machine : (P Q : ℕ → Followed B M Y → Type 0) → ((j : ℕ) (f : Followed B M Y) → slice_get (machines_of list) j ≡ Some f → P j f)
      → ((j : ℕ) (f : Followed B M Y) → (j ≡ i → ⊥) → P j f → Q j f)
      → Q i new.machine → (j : ℕ) (f : Followed B M Y) → slice_get (machines_of (slice_set list i new)) j ≡ Some f → Q j f
  each_machine P Q all on p j f g =
      ⊎_elim
      (λ (q : j ≡ i). subst (λ (z : ℕ × Followed B M Y). Q z.0 z.1)
      (λ k. (sym q k, some_same (sym machine_new ∙ (ap (λ l. slice_get (machines_of (slice_set list i new)) l) (sym q) ∙ g)) k)) p)
      (λ n. on j f n (all j f (sym (machine_other j n) ∙ g)))
      (cases_eq j i)

  -- each machine has its node's log still
  logs_are : ((j : ℕ) (f : Followed B M Y) → slice_get (machines_of list) j ≡ Some f → HasLog (node_at (nodes_of list) (suc j)) f)
      → HasLog new.node new.machine
      → (j : ℕ) (f : Followed B M Y) → slice_get (machines_of (slice_set list i new)) j ≡ Some f
      → HasLog (node_at (nodes_of (slice_set list i new)) (suc j)) f
  logs_are all p j f g =
      ⊎_elim
      (λ (q : j ≡ i). subst (λ (z : NodeState B × Followed B M Y). HasLog z.0 z.1)
      (λ k. (
        (sym node_new ∙ ap (λ l. node_at (nodes_of (slice_set list i new)) (suc l)) (sym q)) k,
        some_same (sym machine_new ∙ (ap (λ l. slice_get (machines_of (slice_set list i new)) l) (sym q) ∙ g)) k,
      ))
      p)
      (λ n. subst (λ y. HasLog y f) (sym (node_other' j n)) (all j f (sym (machine_other j n) ∙ g)))
      (cases_eq j i)

-- the event happened at its member

module _ {B : Type 0} (same : B → B → Bool) (members : ℕ) (e : Event B) where
  abbrev pub x_of : World B → NodeState B
  x_of v = node_at v.nodes (owner e)

  abbrev pub o_of : World B → Plan B
  o_of v = outcome_of same members e (x_of v)

  abbrev pub new_of : World B → Applied B
  new_of v = record { node = owner e; boot = (x_of v).rows.boot; log = log_before v e (x_of v) (o_of v); entries = (o_of v).applied }

  -- the log of the snapshot that it takes over, if it takes one over
  abbrev pub over_of : World B → List (Entry B)
  over_of v = under v.cuts (taken_over (is_some (packet_in e)) (o_of v).change.snapshot)

module _ {B M Y : Type 0} (same : B → B → Bool) (members : ℕ) (e : Event B) (list : List (MemberState B M Y)) (sent later : List (Packet B))
    (made more : List (Entry B)) (first : List ℕ) (v : World B) (i : ℕ) (s new : MemberState B M Y) (at : slice_get list i ≡ Some s)
    (own : owner e ≡ suc i) (sm : s.members ≡ members) (h : Shows (held_of members list sent made first) v) where
  node_is : s.node ≡ x_of same members e v
  node_is = sym (node_old list i s new at) ∙ (λ j. node_at (h.nodes j) (sym own j))

  pub shows_on : Moves same e s new sent later made more
      → Shows (held_of members (slice_set list i new) later more first) (done same v e (x_of same members e v) (o_of same members e v))
  shows_on moves =
      record {
        nodes = nodes_set list i s new at
            ∙ ((λ j. slice_set (h.nodes j) i ((moves.node ∙ (λ k. (outcome_of same (sm k) e (node_is k)).node)) j))
            ∙ ap (λ k. put_node v.nodes k (o_of same members e v).node) (sym own));
        sent = moves.packets ∙ (λ j. h.sent j ++ (outcome_of same (sm j) e (node_is j)).packets);
        made = moves.made_is ∙ (λ j. h.made j ++ made_by same e (node_is j));
        logs = logs_are list i s new at h.logs moves.log;
      }

-- after which log the event applies entries, in words of the member, and which log is up to the floor after it

module _ {B : Type 0} (under' over applied : List (Entry B)) where
  none_from : (b : Bool) (s : Option taken.Snapshot) → s ≡ None → under_from b s under' over applied ≡ under'
  none_from true s is = ap (λ o. under_from true o under' over applied) is
  none_from false s is = ap (λ o. under_from false o under' over applied) is

cut_long : {B : Type 0} {members : ℕ} {v : World B} → WorldOk members v → (x : NodeState B) → RestsOnCut v.cuts x.rows.snapshot → (s : taken.Snapshot)
    → may_cut (Some s) x ≡ true → length (under v.cuts x.rows.snapshot ++ x.applied) ≡ s.floor
cut_long {v = v} ok x r s may =
    let tests = and_parts (nat_lt 0 (length x.applied)) ((s.floor == log_length x) && is_head_of x (head_at s.octets)) may in
    length-append (under v.cuts x.rows.snapshot) x.applied
    ∙ (ap (λ n. n + length x.applied) (under_long ok.cuts x.rows.snapshot r)
    ∙ sym (eqb-true s.floor (log_length x) (and_parts (s.floor == log_length x) (is_head_of x (head_at s.octets)) tests.1).0))

over_from : {B : Type 0} (v : World B) (x : NodeState B) → x.up ≡ true → (b : Bool) (s : Option taken.Snapshot)
    → log_over v x b s ≡ log_from b s (under v.cuts x.rows.snapshot) (under v.cuts (taken_over b s)) x.applied
over_from v x up true (Some s) = refl
over_from v x up true None = whole_is v.cuts x up
over_from v x up false s = whole_is v.cuts x up

module _ {B : Type 0} (same : B → B → Bool) (equal : IsEquality same) (members : ℕ) (many : 2 ≤ members) (v : World B) (ok : WorldOk members v)
    (e : Event B) (can : possible e (node_at v.nodes (owner e)) ≡ true) where
  abbrev x : NodeState B
  x = x_of same members e v

  abbrev o : Plan B
  o = o_of same members e v

  abbrev b : Bool
  b = is_some (packet_in e)

  abbrev from_member : Bool → Option taken.Snapshot → List (Entry B)
  from_member c s = under_from c s (under v.cuts x.rows.snapshot) (under v.cuts (taken_over c s)) x.applied

  still : StillRests x (on_event same members e (begun x))
      → under (v.cuts ++ cut_by v e) o.node.rows.snapshot ≡ from_member b o.change.snapshot
  still k =
      ap (λ s. under (v.cuts ++ cut_by v e) s) (base_is same members x e ∙ k.0)
      ∙ (under_kept v.cuts (cut_by v e) x.rows.snapshot (ok.cuts.found.nodes (owner e))
      ∙ sym (none_from (under v.cuts x.rows.snapshot) (under v.cuts (taken_over b o.change.snapshot)) x.applied b o.change.snapshot
      (committed same members x e ∙ k.1)))

  cuts : Cuts e x (on_event same members e (begun x))
      → under (v.cuts ++ cut_by v e) o.node.rows.snapshot ≡ from_member b o.change.snapshot
  cuts c =
      ap (λ s. under (v.cuts ++ cut_by v e) s) (base_is same members x e ∙ c.base)
      ∙ (ap (λ (d : Event B). under (v.cuts ++ cut_by v d) (Some c.snapshot)) c.event
      ∙ (cut_is same equal members many v (owner e) c.snapshot (log_of v (owner e)) ok (whole_is v.cuts x up) long
      ∙ sym (ap (λ (d : Event B). from_member (is_some (packet_in d)) o.change.snapshot) c.event
      ∙ ap (λ s. from_member false s) committed')))
    where
      tests : (x.up ≡ true) × (may_cut (Some c.snapshot) x ≡ true)
      tests = and_parts x.up (may_cut (Some c.snapshot) x) (ap (λ (d : Event B). possible d x) (sym c.event) ∙ can)

      up : x.up ≡ true
      up = tests.0

      long : length (under v.cuts x.rows.snapshot ++ x.applied) ≡ c.snapshot.floor
      long = cut_long ok x (ok.cuts.found.nodes (owner e)) c.snapshot c.may

      committed' : o.change.snapshot ≡ Some c.snapshot
      committed' =
          committed same members x e
          ∙ ap (λ (d : Event B). (on_event same members d (begun x)).change.snapshot) c.event

  takes : Takes e x (on_event same members e (begun x))
      → under (v.cuts ++ cut_by v e) o.node.rows.snapshot ≡ from_member b o.change.snapshot
  takes t =
      ap (λ s. under (v.cuts ++ cut_by v e) s) (base_is same members x e ∙ t.base)
      ∙ (ap (λ (d : Event B). under (v.cuts ++ cut_by v d) (Some t.snapshot)) t.event
      ∙ (under_same v.cuts (Some t.snapshot)
      ∙ sym (ap (λ (d : Event B). from_member (is_some (packet_in d)) o.change.snapshot) t.event
      ∙ ap (λ s. from_member true s) (committed same members x e ∙ t.cut))))

  pub under_then : under (v.cuts ++ cut_by v e) o.node.rows.snapshot
      ≡ under_from (is_some (packet_in e)) o.change.snapshot (under v.cuts x.rows.snapshot) (over_of same members e v) x.applied
  under_then =
      ⊎_elim (λ k. still k)
      (λ (z : Cuts e x (on_event same members e (begun x))
      ⊎ Takes e x (on_event same members e (begun x))).
      ⊎_elim (λ c. cuts c) (λ t. takes t) z)
      (rests same members x e can)

  -- what is handed out for it
  pub handed_then : {S Y : Type 0} (m : Machine B S Y) (t : Transport)
      → handed_to m t (owner e) x.rows.boot
      (log_from (is_some (packet_in e)) o.change.snapshot (under v.cuts x.rows.snapshot) (over_of same members e v) x.applied) o.applied
      ≡ handed_at m t (new_of same members e v)
  handed_then m t =
      ⊎_elim
      (λ (c : Ran same members e x).
      ap (λ log. handed_to m t (owner e) x.rows.boot log o.applied) (sym (over_from v x c.was b o.change.snapshot)))
      (λ (c : Began same members e x).
      ap (λ es. handed_to m t (owner e) x.rows.boot from es) c.news
      ∙ (nothing_to m (owner e) t x.rows.boot from
      ∙ sym (ap (λ es. handed_to m t (owner e) x.rows.boot (log_before v e x o) es) c.news
      ∙ nothing_to m (owner e) t x.rows.boot (log_before v e x o))))
      (event_cases same members e x can)
    where
      from : List (Entry B)
      from = log_from b o.change.snapshot (under v.cuts x.rows.snapshot) (over_of same members e v) x.applied

module _ {B M S Y : Type 0} (same : B → B → Bool) (equal : IsEquality same) (content : M → S) (loaded : List ℕ → Option S) (m : Machine B S Y)
    (members : ℕ) (many : 2 ≤ members) (e : Event B) where
  pub happened : (list : List (MemberState B M Y)) (sent later : List (Packet B)) (made more : List (Entry B)) (first : List ℕ) (v : World B) (i : ℕ)
      (s new : MemberState B M Y) → WorldOk members v → StandsIn content loaded m (held_of members list sent made first) v → s.members ≡ members
      → s.machine.node ≡ suc i → slice_get list i ≡ Some s → owner e ≡ suc i → possible e (node_at v.nodes (owner e)) ≡ true
      → ((c : worlds.Cut B) → Has (cut_by v e) c → LoadsAs loaded (kept_after m c.log) c.snapshot.octets)
      → Moves same e s new sent later made more → Happens same content m e (under_at v (suc i)) (over_of same members e v) s new
      → StandsIn content loaded m (held_of members (slice_set list i new) later more first)
      (done same v e (x_of same members e v) (o_of same members e v))
  happened list sent later made more first v i s new ok h sm mn at own can loads moves d =
      record {
        shows = shows_on same members e list sent later made more first v i s new at own sm h.shows moves;
        handed = handed_are;
        own = each_machine list i s new at (λ k f. HandsToOwn (suc k) f) (λ k f. HandsToOwn (suc k) f) h.own (λ j f n p. p) own_new;
        follows = each_machine list i s new at (λ k f. Follows content m (under_at v (suc k)) f) (λ k f. Follows content m (under_at after (suc k)) f)
            h.follows (λ j f n p. subst (λ l. Follows content m l f) (sym (under_other j n)) p) follows_new;
        loads = h.loads;
        cuts = λ c g. ⊎_elim (λ a. h.cuts c a) (λ a. loads c a) (has_cases v.cuts (cut_by v e) g);
      }
    where
      x : NodeState B
      x = x_of same members e v

      o : Plan B
      o = o_of same members e v

      a : Applied B
      a = new_of same members e v

      after : World B
      after = done same v e x o

      here : s.node ≡ x
      here = node_is same members e list sent later made more first v i s new at own sm h.shows

      got : slice_get (machines_of list) i ≡ Some s.machine
      got = machine_got list i s new at

      log_at : Option taken.Snapshot → List (Entry B) → List (Entry B)
      log_at s log = log_from (is_some (packet_in e)) s (under_at v (suc i)) (over_of same members e v) log

      under' : List (Entry B)
      under' = under v.cuts x.rows.snapshot

      under_is : under_at v (suc i) ≡ under'
      under_is = λ j. under v.cuts (node_at v.nodes (sym own j)).rows.snapshot

      handed_same : (t : Transport)
          → handed_to m t s.machine.node s.node.rows.boot (log_at (outcome_of same s.members e s.node).change.snapshot s.node.applied)
          (outcome_of same s.members e s.node).applied
          ≡ handed_at m t a
      handed_same t =
          (λ j. handed_to m t ((mn ∙ sym own) j) (here j).rows.boot
          (log_from (is_some (packet_in e)) (outcome_of same (sm j) e (here j)).change.snapshot (under_is j) (over_of same members e v) (here j).applied)
          (outcome_of same (sm j) e (here j)).applied)
          ∙ handed_then same equal members many v ok e can m t

      mine : (t : Transport) → t.node ≡ suc i → told_by (machine_at (machines_of (slice_set list i new)) t.node) t ≡ handed m t after
      mine t n =
          ap (λ k. told_by (machine_at (machines_of (slice_set list i new)) k) t) n
          ∙ (ap (λ f. told_by f t) (machine_new list i s new at)
          ∙ (d.handed t
          ∙ ((λ j. (sym (ap (λ k. told_by (machine_at (machines_of list) k) t) n ∙ ap (λ f. told_by f t) got) ∙ h.handed t) j
          ++ handed_same t j)
          ∙ sym (handed_more m t v.applied a))))

      elsewhere : (k : ℕ) → (k ≡ suc i → ⊥) → machine_at (machines_of (slice_set list i new)) k ≡ machine_at (machines_of list) k
      elsewhere zero n = refl
      elsewhere (suc k) n = machine_other list i s new at k (λ q. n (ap suc q))

      own_new : HandsToOwn (suc i) new.machine
      own_new t n =
          d.handed t
          ∙ (λ j. h.own i s.machine got t n j
          ++ handed_to_none m t s.machine.node s.node.rows.boot (log_at (outcome_of same s.members e s.node).change.snapshot s.node.applied)
          (outcome_of same s.members e s.node).applied (λ q. n (sym (sym mn ∙ q))) j)

      others : (t : Transport) → (t.node ≡ suc i → ⊥)
          → told_by (machine_at (machines_of (slice_set list i new)) t.node) t ≡ handed m t after
      others t n =
          ap (λ f. told_by f t) (elsewhere t.node n)
          ∙ (h.handed t
          ∙ sym (handed_more m t v.applied a
          ∙ (ap (λ l. flat_map (handed_at m t) v.applied ++ l) (handed_elsewhere m t a (λ q. n (sym q ∙ own)))
          ∙ append-nil (flat_map (handed_at m t) v.applied))))

      handed_are : (t : Transport) → told_by (machine_at (machines_of (slice_set list i new)) t.node) t ≡ handed m t after
      handed_are t = ⊎_elim (mine t) (others t) (cases_eq t.node (suc i))

      place : Within v.nodes (owner e)
      place = within v.nodes e (owner e) can

      under_other : (j : ℕ) → (j ≡ i → ⊥) → under_at after (suc j) ≡ under_at v (suc j)
      under_other j n =
          ap (λ (y : NodeState B). under (v.cuts ++ cut_by v e) y.rows.snapshot)
          (node_other v.nodes (owner e) o.node (suc j) (λ q. n (less (q ∙ own))))
          ∙ under_kept v.cuts (cut_by v e) (node_at v.nodes (suc j)).rows.snapshot (ok.cuts.found.nodes (suc j))
        where
          less : {a b : ℕ} → suc a ≡ suc b → a ≡ b
          less e = omega arith

      under_new : under_at after (suc i)
          ≡ under_from (is_some (packet_in e)) (outcome_of same s.members e s.node).change.snapshot (under_at v (suc i)) (over_of same members e v)
          s.node.applied
      under_new =
          ap (λ (y : NodeState B). under (v.cuts ++ cut_by v e) y.rows.snapshot)
          (ap (λ k. node_at (put_node v.nodes (owner e) o.node) k) (sym own) ∙ node_same v.nodes (owner e) o.node place)
          ∙ (under_then same equal members many v ok e can
          ∙ sym (λ j. under_from (is_some (packet_in e)) (outcome_of same (sm j) e (here j)).change.snapshot (under_is j) (over_of same members e v)
          (here j).applied))

      follows_new : Follows content m (under_at after (suc i)) new.machine
      follows_new = subst (λ l. Follows content m l new.machine) (sym under_new) d.follows

-- nothing happened at the member

module _ {B M Y : Type 0} (members : ℕ) (list : List (MemberState B M Y)) (sent later : List (Packet B)) (made more : List (Entry B)) (first : List ℕ)
    (v : World B) (i : ℕ) (s new : MemberState B M Y) (at : slice_get list i ≡ Some s) (u : Unmoved s new sent later made more) where
  nodes_same : nodes_of (slice_set list i new) ≡ nodes_of list
  nodes_same =
      nodes_set list i s new at
      ∙ (ap (λ y. slice_set (nodes_of list) i y) u.node
      ∙ set_here (nodes_of list) i s.node (get_map (λ (z : MemberState B M Y). z.node) list i s at))

  pub shows_back : Shows (held_of members list sent made first) v → Shows (held_of members (slice_set list i new) later more first) v
  shows_back h =
      record {
        nodes = nodes_same ∙ h.nodes;
        sent = u.packets ∙ h.sent;
        made = u.made_is ∙ h.made;
        logs = logs_are list i s new at h.logs u.log;
      }

  pub stayed : {S : Type 0} (content : M → S) (loaded : List ℕ → Option S) (m : Machine B S Y)
      → StandsIn content loaded m (held_of members list sent made first) v → Rests content m (under_at v (suc i)) s new
      → StandsIn content loaded m (held_of members (slice_set list i new) later more first) v
  stayed content loaded m h d =
      record {
        shows = shows_back h.shows;
        handed = λ t. told_same t t.node ∙ h.handed t;
        own = each_machine list i s new at (λ k f. HandsToOwn (suc k) f) (λ k f. HandsToOwn (suc k) f) h.own (λ j f n p. p)
            (λ t n. d.handed t ∙ h.own i s.machine (machine_got list i s new at) t n);
        follows = each_machine list i s new at (λ k f. Follows content m (under_at v (suc k)) f) (λ k f. Follows content m (under_at v (suc k)) f)
            h.follows (λ j f n p. p) d.follows;
        loads = h.loads;
        cuts = h.cuts;
      }
    where
      told_same : (t : Transport) (k : ℕ) → told_by (machine_at (machines_of (slice_set list i new)) k) t ≡ told_by (machine_at (machines_of list) k) t
      told_same t zero = refl
      told_same t (suc k) =
          ⊎_elim
          (λ (q : k ≡ i). ap (λ l. told_by (slice_get (machines_of (slice_set list i new)) l) t) q
          ∙ (ap (λ f. told_by f t) (machine_new list i s new at)
          ∙ (d.handed t
          ∙ (ap (λ f. told_by f t) (sym (machine_got list i s new at)) ∙ ap (λ l. told_by (slice_get (machines_of list) l) t) (sym q)))))
          (λ n. ap (λ f. told_by f t) (machine_other list i s new at k n))
          (cases_eq k i)

-- the members, what is given up, and what comes later

module _ {B M Y : Type 0} where
  pub members_kept : (members : ℕ) (list : List (MemberState B M Y)) (i : ℕ) (s new : MemberState B M Y) → AreMembers members list
      → slice_get list i ≡ Some s → new.me ≡ s.me → new.members ≡ s.members → new.machine.node ≡ s.machine.node
      → AreMembers members (slice_set list i new)
  members_kept members list i s new a at me mem node =
      record {
        count = Rattle.std.proofs.lemmas.List.length-set list i new ∙ a.count;
        each = λ j x g. ⊎_elim
            (λ (q : j ≡ i). let p = a.each i s at in
            let is = some_same (sym (get_set_same list i s new at) ∙ (ap (λ l. slice_get (slice_set list i new) l) (sym q) ∙ g)) in (
              ap (λ (z : MemberState B M Y). z.me) (sym is) ∙ (me ∙ (p.0 ∙ ap suc (sym q))),
              ap (λ (z : MemberState B M Y). z.members) (sym is) ∙ (mem ∙ p.1),
              ap (λ (z : MemberState B M Y). z.machine.node) (sym is) ∙ (node ∙ (p.2 ∙ ap suc (sym q))),
            ))
            (λ n. a.each j x (sym (get_set_other list i j new n) ∙ g))
            (cases_eq j i);
      }

  pub later_all : (w : Held B M Y) → AreLater w w
  later_all w node = later_same (node_at w.nodes node)

  pub later_both : (u v w : Held B M Y) → AreLater u v → AreLater v w → AreLater u w
  later_both u v w h k node = later_then (node_at u.nodes node) (node_at v.nodes node) (node_at w.nodes node) (h node) (k node)

  pub given_up_same : (w : Held B M Y) → GivenUpStay w w
  given_up_same w i f a u p = (f, a, (u, refl))

  pub given_up_then : (u v w : Held B M Y) → AreLater u v → AreLater v w → GivenUpStay u v → GivenUpStay v w → GivenUpStay u w
  given_up_then u v w lu lv h k i f a up p =
      let x = node_at u.nodes (suc i) in
      let y = node_at v.nodes (suc i) in
      let z = node_at w.nodes (suc i) in
      let b : x.rows.boot ≤ y.rows.boot = (lu (suc i)).boots in
      let c : y.rows.boot ≤ z.rows.boot = (lv (suc i)).boots in
      let same : z.rows.boot ≡ x.rows.boot = p.0.1 in
      let there : IsInBoot y z = (p.0.0, omega (arith, b, c, same)) in
      let here : IsInBoot x y = ((lv (suc i)).up there, omega (arith, b, c, same)) in
      let mid : y.rows.snapshot ≡ x.rows.snapshot = between x y z (lu (suc i)).rests (lv (suc i)).rests p.1 in
      let g = h i f a up (here, mid) in
      let j = k i g.0 g.1 g.2.0 (there, p.1 ∙ sym mid) in
      (j.0, j.1, (j.2.0, j.2.1 ∙ g.2.1))

-- no restart is possible

pub renews_unsent : {B M S Y : Type 0} (loaded : List ℕ → Option S) (same : B → B → Bool) (e : Event B) (w : Held B M Y)
    → false ≡ was_sent same e w.sent → Renews loaded e w w
renews_unsent loaded same e w off = λ node f is can at up.
    absurd (false≢true (off ∙ ap (λ d. was_sent same d w.sent) is))

pub renews_unable : {B M S Y : Type 0} (loaded : List ℕ → Option S) (e : Event B) (w : Held B M Y)
    → false ≡ may_happen e (node_at w.nodes (owner e)) → Renews loaded e w w
renews_unable loaded e w not_so = λ node f is can at up.
    absurd (false≢true (not_so
    ∙ (ap (λ d. may_happen d (node_at w.nodes (owner e))) is ∙ ap (λ n. possible (Restart node) (node_at w.nodes n)) (ap (λ d. owner d) is))
    ∙ ap (λ d. possible d (node_at w.nodes node)) (sym is) ∙ can))

-- the first of the events, and the only one

pub renews_first : {B M S Y : Type 0} (loaded : List ℕ → Option S) (was mid new : Held B M Y) (events : List (Event B)) (i : ℕ) (d e : Event B)
    → (i ≡ 0 → mid ≡ was) → d ≡ slice_index_or events i d → events ≡ e ∷ [] → i ≡ 0 → Renews loaded d mid new → Renews loaded e was new
renews_first {B} {M} {S} {Y} loaded was mid new events i d e begun at one none did =
    subst (λ (z : Event B × Held B M Y). Renews loaded z.0 z.1 new) (λ j. (its j, begun none j)) did
  where
    its : d ≡ e
    its = at ∙ ap (λ (z : List (Event B) × ℕ). slice_index_or z.0 z.1 d) (λ j. (one j, none j))

module _ {B M Y : Type 0} (members : ℕ) (list : List (MemberState B M Y)) (sent later : List (Packet B)) (made more : List (Entry B)) (first : List ℕ)
    (i : ℕ) (s new : MemberState B M Y) (at : slice_get list i ≡ Some s) where
  abbrev was : Held B M Y
  was = held_of members list sent made first

  abbrev is_now : Held B M Y
  is_now = held_of members (slice_set list i new) later more first

  pub renews_on : {R E S : Type 0} (r : Result R E) (loaded : List ℕ → Option S) (e : Event B) → owner e ≡ suc i
      → OnOk r ((node : ℕ) → e ≡ Restart node → new.machine.given_up ≡ true → loaded_log loaded (octets_at first s.node.rows.snapshot) ≡ None)
      → OnOk r (Renews loaded e was is_now)
  renews_on (Err x) loaded e own did = tt
  renews_on (Ok x) loaded e own did = λ node f is can there up.
      let number : node ≡ suc i = sym (ap (λ d. owner d) is) ∙ own in
      let it : f ≡ new.machine =
      some_same (sym there ∙ (ap (λ n. machine_at (machines_of (slice_set list i new)) n) number ∙ machine_new list i s new at)) in
      let node_was : node_at (nodes_of list) node ≡ s.node = ap (λ n. node_at (nodes_of list) n) number ∙ node_old list i s new at in
      ap (λ (x : NodeState B). loaded_log loaded (octets_at first x.rows.snapshot)) node_was
      ∙ did node is (sym (ap (λ (z : Followed B M Y). z.given_up) it) ∙ up)

  pub given_up_on : (s.machine.given_up ≡ true → StaysThere s.node new.node → IsGivenUp s.machine.log.applied new.machine) → GivenUpStay was is_now
  given_up_on up j f a u p =
      ⊎_elim
      (λ (q : j ≡ i).
      let f_is = some_same (sym (machine_got list i s new at) ∙ (ap (λ l. slice_get (machines_of list) l) (sym q) ∙ a)) in
      let su : s.machine.given_up ≡ true = ap (λ (z : Followed B M Y). z.given_up) f_is ∙ u in
      let there = subst (λ (z : NodeState B × NodeState B). StaysThere z.0 z.1)
      (λ k. (
        (ap (λ l. node_at (nodes_of list) (suc l)) q ∙ node_old list i s new at) k,
        (ap (λ l. node_at (nodes_of (slice_set list i new)) (suc l)) q ∙ node_new list i s new at) k,
      )) p in
      let g = up su there in (
        new.machine,
        ap (λ l. slice_get (machines_of (slice_set list i new)) l) q ∙ machine_new list i s new at,
        (g.0, g.1 ∙ ap (λ (z : Followed B M Y). z.log.applied) f_is),
      ))
      (λ n. (f, machine_other list i s new at j n ∙ a, (u, refl)))
      (cases_eq j i)

  later_at : IsLater s.node new.node → (j : ℕ) → IsLater (node_at (nodes_of list) (suc j)) (node_at (nodes_of (slice_set list i new)) (suc j))
  later_at h j =
      ⊎_elim
      (λ (q : j ≡ i). subst (λ (z : NodeState B × NodeState B). IsLater z.0 z.1)
      (λ k. (
        sym (ap (λ l. node_at (nodes_of list) (suc l)) q ∙ node_old list i s new at) k,
        sym (ap (λ l. node_at (nodes_of (slice_set list i new)) (suc l)) q ∙ node_new list i s new at) k,
      )) h)
      (λ n. subst (λ y. IsLater (node_at (nodes_of list) (suc j)) y) (sym (node_other' list i s new at j n))
      (later_same (node_at (nodes_of list) (suc j))))
      (cases_eq j i)

  later_put : IsLater s.node new.node → AreLater was is_now
  later_put h zero = later_same absent
  later_put h (suc j) = later_at h j

  pub later_on : {R E : Type 0} (r : Result R E) (same : B → B → Bool) (e : Event B)
      → OnOk r (Goes same e s new sent later made more) → OnErr r (Unmoved s new sent later made more) → AreLater was is_now
  later_on (Ok a) same e goes back =
      ⊎_elim
      (λ (can : possible e s.node ≡ true).
      later_put (subst (λ y. IsLater s.node y) (sym (goes.moves can).node) (later_event same s.members e s.node can)))
      (λ (cannot : possible e s.node ≡ false). later_put (subst (λ y. IsLater s.node y) (sym (goes.stays cannot).node) (later_same s.node)))
      (cases_Bool (possible e s.node))
  later_on (Err a) same e goes back = later_put (subst (λ y. IsLater s.node y) (sym back.node) (later_same s.node))

-- one event at a world in code

module _ {B : Type 0} (same : B → B → Bool) (members : ℕ) where
  one_more : (es : List (Event B)) (d : Event B) → played same members (es ++ d ∷ []) ≡ next same members (played same members es) d
  one_more es d = play_on same members es (d ∷ []) (first_world members)

  module _ (v : World B) (d : Event B) where
    -- which does nothing
    stays_there : may same v d ≡ false → next same members v d ≡ v
    stays_there f = cond-false (may same v d) (done same v d (x_of same members d v) (o_of same members d v)) v f

    goes_there : may same v d ≡ true → next same members v d ≡ done same v d (x_of same members d v) (o_of same members d v)
    goes_there f = cond-true (may same v d) (done same v d (x_of same members d v) (o_of same members d v)) v f

module _ {B M Y : Type 0} (same : B → B → Bool) (members : ℕ) (e : Event B) (list : List (MemberState B M Y)) (sent : List (Packet B))
    (made : List (Entry B)) (first : List ℕ) where
  abbrev w : Held B M Y
  w = held_of members list sent made first

  -- it may not happen
  module _ (f : (was_sent same e sent && may_happen e (node_at (nodes_of list) (owner e))) ≡ false) where
    may_not : (v : World B) (o : Option taken.Snapshot) → Shows w v → may same v (with_octets o e) ≡ false
    may_not v o h =
        (λ j. sent_with o same e (sym h.sent j) j && possible (with_octets o e) (node_at (sym h.nodes j) (owner_with o e j)))
        ∙ off_both (was_sent same e sent) (may_happen e (node_at (nodes_of list) (owner e)))
        (possible (with_octets o e) (node_at (nodes_of list) (owner e))) (λ g. unable_with o e (node_at (nodes_of list) (owner e)) g) f

    pub shows_still : (o : Option taken.Snapshot) (es : List (Event B)) → ShowsAt same w es → ShowsAt same w (es ++ with_octets o e ∷ [])
    shows_still o es h =
        subst (λ u. Shows w u)
        (sym (one_more same members es (with_octets o e)
        ∙ stays_there same members (played same members es) (with_octets o e) (may_not (played same members es) o h)))
        h

    pub stands_still : {S : Type 0} (content : M → S) (saved : S → List ℕ) (loaded : List ℕ → Option S) (m : Machine B S Y) (es : List (Event B))
        → StandsAt same content saved loaded m w es → StandsAt same content saved loaded m w (es ++ e ∷ [])
    stands_still content saved loaded m es h =
        let v = played_of saved m same members es in
        let o = saved_of saved m (log_of v (owner e)) in
        subst (λ u. StandsIn content loaded m w u)
        (sym (plays_more saved m same members es e
        ∙ (ap (λ d. next same members v d) (told_is saved m v e) ∙ stays_there same members v (with_octets o e) (may_not v o h.shows))))
        h

  -- it may happen at this member
  module _ (seated : AreMembers members list) (i : ℕ) (s : MemberState B M Y) (at : slice_get list i ≡ Some s) (own : owner e ≡ suc i)
      (was : was_sent same e sent ≡ true) (can : may_happen e s.node ≡ true) where
    members_here : s.members ≡ members
    members_here = (seated.each i s at).1

    machine_here : s.machine.node ≡ suc i
    machine_here = (seated.each i s at).2

    there : slice_get (machines_of list) i ≡ Some s.machine
    there = get_map (λ (z : MemberState B M Y). z.machine) list i s at

    module _ (v : World B) (h : Shows w v) where
      node_here : s.node ≡ node_at v.nodes (owner e)
      node_here =
          sym (node_of_get (nodes_of list) i s.node (get_map (λ (z : MemberState B M Y). z.node) list i s at))
          ∙ (λ j. node_at (h.nodes j) (sym own j))

      sent_here : was_sent same e v.sent ≡ true
      sent_here = ap (λ ps. was_sent same e ps) (sym h.sent) ∙ was

      -- with these octets
      may_be : (o : Option taken.Snapshot) → may same v (with_octets o e) ≡ possible (with_octets o e) s.node
      may_be o = λ j. (sent_with o same e v.sent ∙ sent_here) j
          && possible (with_octets o e) ((ap (λ k. node_at v.nodes k) (owner_with o e) ∙ sym node_here) j)

      pub log_here : HasLog s.node s.machine
      log_here =
          subst (λ y. HasLog y s.machine)
          (node_of_get (nodes_of list) i s.node (get_map (λ (z : MemberState B M Y). z.node) list i s at))
          (h.logs i s.machine there)

      module _ (o : Option taken.Snapshot) (new : MemberState B M Y) (later : List (Packet B)) (more : List (Entry B)) where
        shows_goes : Goes same (with_octets o e) s new sent later made more
            → Shows (held_of members (slice_set list i new) later more first) (next same members v (with_octets o e))
        shows_goes g =
            ⊎_elim
            (λ (c : possible (with_octets o e) s.node ≡ true).
            subst (λ u. Shows (held_of members (slice_set list i new) later more first) u)
            (sym (goes_there same members v (with_octets o e) (may_be o ∙ c)))
            (shows_on same members (with_octets o e) list sent later made more first v i s new at (owner_with o e ∙ own) members_here h (g.moves c)))
            (λ (c : possible (with_octets o e) s.node ≡ false).
            subst (λ u. Shows (held_of members (slice_set list i new) later more first) u)
            (sym (stays_there same members v (with_octets o e) (may_be o ∙ c)))
            (shows_back members list sent later made more first v i s new at (g.stays c) h))
            (cases_Bool (possible (with_octets o e) s.node))

    module _ (es : List (Event B)) (h : ShowsAt same w es) where
      pub rests_here : IsAtRest s.node
      rests_here = subst (λ x. IsAtRest x) (sym (node_here (played same members es) h)) (all_rest same members es (owner e))

      pub agrees_here : IsEquality same → 3 ≤ members → is_carried e ≡ true → (outcome_of same s.members e s.node).disagrees ≡ false
      agrees_here equal many carried =
          subst (λ (z : ℕ × NodeState B). (outcome_of same z.0 e z.1).disagrees ≡ false)
          (λ j. (sym members_here j, sym (node_here (played same members es) h) j))
          (never_disagrees same equal members many es e (sent_here (played same members es) h)
          (ap (λ x. possible e x) (sym (node_here (played same members es) h)) ∙ possible_carried e s.node carried can))

    module _ {R E : Type 0} (r : Result R E) (new : MemberState B M Y) (later : List (Packet B)) (more : List (Entry B)) where
      abbrev after : Held B M Y
      after = held_of members (slice_set list i new) later more first

      pub shows_then : (o : Option taken.Snapshot) (es : List (Event B)) → ShowsAt same w es
          → OnOk r (Goes same (with_octets o e) s new sent later made more)
          → OnOk r ((cut : Option taken.Snapshot) × ShowsAt same after (es ++ with_octets cut e ∷ []))
      shows_then o es h goes = go r goes
        where
          go : (q : Result R E) → OnOk q (Goes same (with_octets o e) s new sent later made more)
              → OnOk q ((cut : Option taken.Snapshot) × ShowsAt same after (es ++ with_octets cut e ∷ []))
          go (Err x) k = tt
          go (Ok x) k = (
            o,
            subst (λ u. Shows after u) (sym (one_more same members es (with_octets o e)))
                (shows_goes (played same members es) h o new later more k),
          )

      pub shows_as_before : (es : List (Event B)) → ShowsAt same w es → OnErr r (Unmoved s new sent later made more) → OnErr r (ShowsAt same after es)
      shows_as_before es h u = go r u
        where
          go : (q : Result R E) → OnErr q (Unmoved s new sent later made more) → OnErr q (ShowsAt same after es)
          go (Ok x) k = tt
          go (Err x) k = shows_back members list sent later made more first (played same members es) i s new at k h

-- what is known of a world that events lead to, at a member of which the event may happen

module _ {B M S Y : Type 0} (same : B → B → Bool) (equal : IsEquality same) (members : ℕ) (many : 3 ≤ members) (few : members ≤ 7) (e : Event B)
    (list : List (MemberState B M Y)) (sent : List (Packet B)) (made : List (Entry B)) (first : List ℕ) (content : M → S) (saved : S → List ℕ)
    (loaded : List ℕ → Option S) (m : Machine B S Y) (seated : AreMembers members list) (i : ℕ) (s : MemberState B M Y)
    (at : slice_get list i ≡ Some s) (own : owner e ≡ suc i) (was : was_sent same e sent ≡ true) (can : may_happen e s.node ≡ true) where
  abbrev held : Held B M Y
  held = held_of members list sent made first

  module _ (es : List (Event B)) (h : StandsIn content loaded m held (played same members es)) where
    abbrev v : World B
    v = played same members es

    ok : WorldOk members v
    ok = world_ok same equal members (omega arith) es

    here : s.node ≡ node_at v.nodes (owner e)
    here = node_here same members e list sent made first seated i s at own was can v h.shows

    node_there : s.node ≡ node_at v.nodes (suc i)
    node_there = here ∙ ap (λ k. node_at v.nodes k) own

    -- the log up to the floor
    abbrev below : List (Entry B)
    below = under_at v (suc i)

    followed : Follows content m below s.machine
    followed = h.follows i s.machine (there same members e list sent made first seated i s at own was can)

    -- a snapshot that was cut loads as its log
    cut_loads : (k : taken.Snapshot) → IsCut v.cuts k
        → AreGiven (under v.cuts (Some k)) × LoadsAs loaded (kept_after m (under v.cuts (Some k))) k.octets
    cut_loads k c =
        let f = under_found v.cuts k c in (
          (snapshot_is_log same equal members many few es k c).given,
          subst (λ (z : taken.Snapshot × List (Entry B)). LoadsAs loaded (kept_after m z.1) z.0.octets) (λ j. (f.2 j, sym f.3 j)) (h.cuts f.0 f.1),
        )

    restarts_with : (o : Option taken.Snapshot) → RestsOnCut v.cuts o
        → AreGiven (under v.cuts o) × LoadsAs loaded (kept_after m (under v.cuts o)) (octets_at first o)
    restarts_with None r = ((λ j d l. absurd (omega arith)), h.loads)
    restarts_with (Some k) r = cut_loads k (r k refl)

    restarts : RestartsAt loaded m first below s
    restarts =
        subst (λ (x : NodeState B). AreGiven below × LoadsAs loaded (kept_after m below) (octets_at first x.rows.snapshot)) (sym node_there)
        (restarts_with (node_at v.nodes (suc i)).rows.snapshot (ok.cuts.found.nodes (suc i)))

    brings : (o : Option taken.Snapshot) → RestsOnCut v.cuts o → Brings loaded m (under v.cuts o) o
    brings None r = tt
    brings (Some k) r = cut_loads k (r k refl)

    never_cut : RestsOnCut v.cuts None
    never_cut k e = absurd (none_some e)
      where
        none_some : {k : taken.Snapshot} → None ≡ Some k → ⊥
        none_some e = cc

    delivered : (p : Packet B) → was_sent same (Deliver p) v.sent ≡ true → possible (Deliver p) (node_at v.nodes p.addressee) ≡ true
        → RestsOnCut v.cuts (outcome_of same members (Deliver p) (node_at v.nodes p.addressee)).change.snapshot
    delivered p g c k is =
        ⊎_elim
        (λ (z : StillRests x (u p)). absurd (some_none (sym is ∙ (committed same members x (Deliver p) ∙ z.1))))
        (λ (z : Cuts (Deliver p) x (u p) ⊎ Takes (Deliver p) x (u p)). ⊎_elim
        (λ (z : Cuts (Deliver p) x (u p)). absurd (deliver_cut z.event))
        (λ (z : Takes (Deliver p) x (u p)).
        let same_packet : p ≡ z.packet = deliver_is z.event in
        let same_snapshot : z.snapshot ≡ k = some_same (sym (committed same members x (Deliver p) ∙ z.cut) ∙ is) in
        ok.cuts.found.shown p (among_has same equal p v.sent g) k
        (ap (λ (q : Packet B). q.kind) same_packet ∙ (z.kind ∙ ap (λ j. Snapshot j) same_snapshot)))
        z)
        (rests same members x (Deliver p) c)
      where
        x : NodeState B
        x = node_at v.nodes p.addressee

        u : Packet B → Plan B
        u q = on_event same members (Deliver q) (begun x)

        some_none : {k : taken.Snapshot} → Some k ≡ None → ⊥
        some_none e = cc

        deliver_cut : {n : ℕ} {o : Option taken.Snapshot} → Deliver p ≡ Cut n o → ⊥
        deliver_cut e = cc

        deliver_is : {q : Packet B} → Deliver p ≡ Deliver q → p ≡ q
        deliver_is e = cc

    taken_rests : (d : Event B) → was_sent same d v.sent ≡ true → may_happen d (node_at v.nodes (owner d)) ≡ true
        → RestsOnCut v.cuts (taken_over (is_some (packet_in d)) (outcome_of same members d (node_at v.nodes (owner d))).change.snapshot)
    taken_rests (Take n t body) g c = never_cut
    taken_rests (Tick n) g c = never_cut
    taken_rests (Start n) g c = never_cut
    taken_rests (Suspect n other) g c = never_cut
    taken_rests (Deliver p) g c = delivered p g c
    taken_rests (Cut n o) g c = never_cut
    taken_rests (Crash n) g c = never_cut
    taken_rests (Restart n) g c = never_cut

    abbrev over : List (Entry B)
    over = over_of same members e v

    takes_over : TakesOver same loaded m e over s
    takes_over =
        subst (λ (z : ℕ × NodeState B). Brings loaded m over (taken_over (is_some (packet_in e)) (outcome_of same z.0 e z.1).change.snapshot))
        (λ j. (sym (members_here same members e list sent made first seated i s at own was can) j, sym here j))
        (brings (taken_over (is_some (packet_in e)) (outcome_of same members e (node_at v.nodes (owner e))).change.snapshot)
        (taken_rests e (sent_here same members e list sent made first seated i s at own was can v h.shows)
        (ap (λ x. may_happen e x) (sym here) ∙ can)))

    -- a node that is up has its whole log
    module _ (up : s.node.up ≡ true) (within_slots : told_length s.node < 2 ^ 40) where
      whole : below ++ s.node.applied ≡ log_of v (owner e)
      whole =
          (λ j. under v.cuts (node_at v.nodes (sym own j)).rows.snapshot ++ (here j).applied)
          ∙ sym (whole_is v.cuts (node_at v.nodes (owner e)) (ap (λ (x : NodeState B). x.up) (sym here) ∙ up))

      given : AreGiven (below ++ s.node.applied)
      given = subst (λ l. AreGiven l) (sym whole) (log_is_given same members equal few es (owner e))

      long : length (below ++ s.node.applied) < 2 ^ 40
      long =
          subst (λ n. n < 2 ^ 40)
          (cond-true s.node.up (log_length s.node) 0 up
          ∙ (ap (λ (x : NodeState B). log_length x) here
          ∙ ((node_by_log same equal members many few es (owner e) (ap (λ (x : NodeState B). x.up) (sym here) ∙ up)).long
          ∙ ap (λ l. length l) (sym whole))))
          within_slots

      own_saved : s.machine.given_up ≡ false → own_cut saved content s.machine.log ≡ saved_of saved m (log_of v (owner e))
      own_saved alive =
          let log : s.machine.log.applied ≡ s.node.applied = log_here same members e list sent made first seated i s at own was can v h.shows up in
          own_is saved m content s.machine below alive followed (subst (λ l. length (below ++ l) < 2 ^ 40) (sym log) long)
          ∙ ap (λ l. saved_of saved m l) (ap (λ l. below ++ l) log ∙ whole)

    up_cut : (n : ℕ) (o : Option taken.Snapshot) → e ≡ Cut n o → s.node.up ≡ true
    up_cut n o is = ap (λ d. may_happen d s.node) (sym is) ∙ can

    module _ {R E : Type 0} (r : Result R E) (new : MemberState B M Y) (later : List (Packet B)) (more : List (Entry B)) where
      abbrev next_held : Held B M Y
      next_held = held_of members (slice_set list i new) later more first

      -- as it happens at the member, and in the world
      abbrev its : Event B
      its = its_event saved content s.machine e

      abbrev as_told : Event B
      as_told = told saved m v e

      goes_on_so : its ≡ as_told → ((c : worlds.Cut B) → Has (cut_by v as_told) c → LoadsAs loaded (kept_after m c.log) c.snapshot.octets)
          → Goes same its s new sent later made more → GoesOn same content m its below over s new
          → StandsIn content loaded m next_held (next same members v as_told)
      goes_on_so is loads goes on =
          ⊎_elim
          (λ (c : possible its s.node ≡ true).
          subst (λ d. StandsIn content loaded m next_held (next same members v d)) is
          (subst (λ u. StandsIn content loaded m next_held u)
          (sym (goes_there same members v its (tests ∙ c)))
          (happened same equal content loaded m members (omega arith) its list sent later made more first v i s new ok h members_are machine_is at owned
          (ap (λ x. possible its x) (sym (here ∙ ap (λ k. node_at v.nodes k) (sym (owner_with o e)))) ∙ c)
          (subst (λ d. (c : worlds.Cut B) → Has (cut_by v d) c → LoadsAs loaded (kept_after m c.log) c.snapshot.octets) (sym is) loads)
          (goes.moves c) (subst (λ l. Happens same content m its below l s new) (sym over_is) (on.moves c)))))
          (λ (c : possible its s.node ≡ false).
          subst (λ d. StandsIn content loaded m next_held (next same members v d)) is
          (subst (λ u. StandsIn content loaded m next_held u)
          (sym (stays_there same members v its (tests ∙ c)))
          (stayed members list sent later made more first v i s new at (goes.stays c) content loaded m h (on.stays c))))
          (cases_Bool (possible its s.node))
        where
          o : Option taken.Snapshot
          o = own_cut saved content s.machine.log

          owned : owner its ≡ suc i
          owned = owner_with o e ∙ own

          tests : may same v its ≡ possible its s.node
          tests = may_be same members e list sent made first seated i s at own was can v h.shows o

          members_are : s.members ≡ members
          members_are = members_here same members e list sent made first seated i s at own was can

          machine_is : s.machine.node ≡ suc i
          machine_is = machine_here same members e list sent made first seated i s at own was can

          over_is : over_of same members its v ≡ over
          over_is =
              ap (λ k. under v.cuts (taken_over (is_some (packet_in its)) (outcome_of same members its (node_at v.nodes k)).change.snapshot)) (owner_with o e)
              ∙ ap (λ z. under v.cuts z) (over_with o same members e (node_at v.nodes (owner e)))

      -- what `Member::happen` promises
      pub stands_next : told_length s.node < 2 ^ 40
          → OnOk r (Goes same its s new sent later made more)
          → OnOk r ((n : ℕ) (o : Option taken.Snapshot) → e ≡ Cut n o → s.machine.given_up ≡ false)
          → ((under : List (Entry B)) → Follows content m under s.machine → AreGiven (under ++ s.node.applied)
          → length (under ++ s.node.applied) < 2 ^ 40
          → OnOk r ((n : ℕ) (o : Option taken.Snapshot) → e ≡ Cut n o → LoadsSaved saved loaded m (under ++ s.node.applied)))
          → ((under over : List (Entry B)) → RestartsAt loaded m first under s → TakesOver same loaded m e over s → Follows content m under s.machine
          → OnOk r (GoesOn same content m its under over s new))
          → OnOk r (StandsIn content loaded m next_held (next same members v as_told))
      stands_next slots goes alive loads happens = go r goes alive (λ up. loads below followed (given up slots) (long up slots))
          (happens below over restarts takes_over followed)
        where
          go : (q : Result R E) → OnOk q (Goes same its s new sent later made more)
              → OnOk q ((n : ℕ) (o : Option taken.Snapshot) → e ≡ Cut n o → s.machine.given_up ≡ false)
              → (s.node.up ≡ true → OnOk q ((n : ℕ) (o : Option taken.Snapshot) → e ≡ Cut n o → LoadsSaved saved loaded m (below ++ s.node.applied)))
              → OnOk q (GoesOn same content m its below over s new)
              → OnOk q (StandsIn content loaded m next_held (next same members v as_told))
          go (Err x) g a l k = tt
          go (Ok x) g a l k =
              goes_on_so
              (its_told saved m content s.machine v e (λ n o is. own_saved (up_cut n o is) slots (a n o is)))
              (told_loads saved m same members loaded v e
              (λ n o is. subst (λ log. LoadsSaved saved loaded m log) (whole (up_cut n o is) slots) (l (up_cut n o is) n o is)))
              g k

      pub stands_as_before : OnErr r (Unmoved s new sent later made more)
          → ((under : List (Entry B)) → RestartsAt loaded m first under s → Follows content m under s.machine → OnErr r (Rests content m under s new))
          → OnErr r (StandsIn content loaded m next_held v)
      stands_as_before u d = go r u (d below restarts followed)
        where
          go : (q : Result R E) → OnErr q (Unmoved s new sent later made more) → OnErr q (Rests content m below s new)
              → OnErr q (StandsIn content loaded m next_held v)
          go (Ok x) k l = tt
          go (Err x) k l = stayed members list sent later made more first v i s new at k content loaded m h l

  -- and so at a world whose Cuts have what is saved
  module _ (es : List (Event B)) (h : StandsAt same content saved loaded m held es) {R E : Type 0} (r : Result R E) (new : MemberState B M Y)
      (later : List (Packet B)) (more : List (Entry B)) where
    abbrev as_played : List (Event B)
    as_played = tell_all saved m same members (first_world members) es

    is_played : played_of saved m same members es ≡ played same members as_played
    is_played = plays_told saved m same members es

    h' : StandsIn content loaded m held (played same members as_played)
    h' = subst (λ u. StandsIn content loaded m held u) is_played h

    pub stands_on : told_length s.node < 2 ^ 40
        → OnOk r (Goes same (its_event saved content s.machine e) s new sent later made more)
        → OnOk r ((n : ℕ) (o : Option taken.Snapshot) → e ≡ Cut n o → s.machine.given_up ≡ false)
        → ((under : List (Entry B)) → Follows content m under s.machine → AreGiven (under ++ s.node.applied)
        → length (under ++ s.node.applied) < 2 ^ 40
        → OnOk r ((n : ℕ) (o : Option taken.Snapshot) → e ≡ Cut n o → LoadsSaved saved loaded m (under ++ s.node.applied)))
        → ((under over : List (Entry B)) → RestartsAt loaded m first under s → TakesOver same loaded m e over s → Follows content m under s.machine
        → OnOk r (GoesOn same content m (its_event saved content s.machine e) under over s new))
        → OnOk r (StandsAt same content saved loaded m (held_of members (slice_set list i new) later more first) (es ++ e ∷ []))
    stands_on slots goes alive loads happens =
        subst (λ u. OnOk r (StandsIn content loaded m (held_of members (slice_set list i new) later more first) u))
        (sym (plays_more saved m same members es e ∙ ap (λ u. next same members u (told saved m u e)) is_played))
        (stands_next as_played h' r new later more slots goes alive loads happens)

    pub stands_back : OnErr r (Unmoved s new sent later made more)
        → ((under : List (Entry B)) → RestartsAt loaded m first under s → Follows content m under s.machine → OnErr r (Rests content m under s new))
        → OnErr r (StandsAt same content saved loaded m (held_of members (slice_set list i new) later more first) es)
    stands_back u d =
        subst (λ v. OnErr r (StandsIn content loaded m (held_of members (slice_set list i new) later more first) v)) (sym is_played)
        (stands_as_before as_played h' r new later more u d)

-- the member at whose place the event is

pub record Placed {B M Y : Type 0} (list : List (MemberState B M Y)) (e : Event B) (i : ℕ) (s : MemberState B M Y) : Type 0 where
  pub at : slice_get list i ≡ Some s
  pub own : owner e ≡ suc i
  pub can : may_happen e s.node ≡ true

pub placed : {B M Y : Type 0} (list l : List (MemberState B M Y)) (e : Event B) (n : ℕ) (s : MemberState B M Y) → n ≡ owner e → l ≡ list
    → true ≡ may_happen e (node_at (nodes_of l) (owner e)) → s ≡ slice_index_or list (n - 1) s → Placed list e (n - 1) s
placed {B} {M} {Y} list l e n s is same p q =
    record {
      at = there;
      own = number;
      can =
          sym
          (ap (λ x. may_happen e x)
          (ap (λ k. node_at (nodes_of list) k) number
          ∙ node_of_get (nodes_of list) (n - 1) s.node (get_map (λ (z : MemberState B M Y). z.node) list (n - 1) s there)))
          ∙ sym here';
    }
  where
    here' : true ≡ may_happen e (node_at (nodes_of list) (owner e))
    here' = p ∙ ap (λ k. may_happen e (node_at (nodes_of k) (owner e))) same

    number : owner e ≡ suc (n - 1)
    number = let w = may_within (nodes_of list) e (owner e) (sym here') in let k = w.is in omega (arith, k, is)

    low : (n - 1) < length list
    low =
        let w = may_within (nodes_of list) e (owner e) (sym here') in let k = w.is in let j = w.low in
        let g : length (nodes_of list) ≡ length list = Rattle.std.proofs.lemmas.List.length-map list (λ (z : MemberState B M Y). z.node) in
        omega (arith, k, is, j, g)

    there : slice_get list (n - 1) ≡ Some s
    there = Rattle.std.proofs.lemmas.Option.slice_get_read list (length list) (n - 1) s refl low q
