-- A machine stands where its node stands, event by event.
use Rattle.std.proofs.Common.{◌≡◌, ⊎_elim, ◌<◌, ◌^◌, ℕ, suc, ◌+◌, Bool, true, false, not, refl, sym, ap, ◌∙◌, subst, arith}
use Rattle.std.proofs.Common.{List, [], ◌∷◌, ◌++◌, length, Option, None}
use Rattle.std.specs.Prelude.{nat_lt, Result, Ok, Err, OnOk, OnErr, IfSome, is_some}
use Rattle.std.proofs.lemmas.Bool.{and_parts}
use Rattle.std.proofs.lemmas.List.{append-nil}
use Rattle.paxos_packets.specs.Rows.{last_boot, raised}
use Rattle.paxos_packets.specs.Snapshot.{Snapshot}
use Rattle.paxos_packets.specs.declared.packet.Packet.{Packet}
use Rattle.paxos_packets.specs.declared.entry.Entry.TheVariants.{Boot}
use Rattle.paxos_packets.specs.declared.transport.Transport.{Transport}
use Rattle.paxos_node.specs.declared.event.Event.TheVariants.{Cut, Crash, Restart}
use Rattle.paxos_packets.specs.declared.entry.Entry.{Entry}
use Rattle.paxos_node.specs.declared.event.Event.{Event}
use Rattle.paxos_node.specs.Applying.{down, started}
use Rattle.paxos_node.specs.Events.{owner, packet_in, possible, outcome_of}
use Rattle.paxos_planning.specs.Node.{NodeState, Plan}
use Rattle.world_nodes.proofs.Planning.{plans_up}
use Rattle.command_codec.specs.Number.{number_reading}
use Rattle.replica_machine.specs.Given.{AreGiven}
use Rattle.replica_machine.specs.Log.{LogState, IsLogOf, length_in, steps_of}
use Rattle.replica_machine.specs.Replay.{Machine}
use Rattle.replica_machine.specs.Snapshot.{kept_of, loaded_log}
use Rattle.replica_follower.specs.Following.{Followed, Follows, handed_to}
use Rattle.replica_follower.specs.Handed.{said_in}
use Rattle.cluster_world.specs.Members.{MemberState, Moves, Unmoved, Goes, Happens, Rests, GoesOn, StaysThere}
use Rattle.cluster_world.specs.MemberSnapshots.{is_carried, may_happen, base_of, above_of, log_from, under_from}
use Rattle.cluster_world.specs.StandsAt.{HasLog, empty_kept, LoadsFirst}
use Rattle.cluster_world.proofs.Attending.{nothing_to}
use Rattle.cluster_world.proofs.MemberEvents.{above_is, log_is, under_is, none_taken, plans_carried}
use Rattle.cluster_world.proofs.Standing.{Ran, Began, OnFrom, event_cases}

off : false ≡ true → ⊥
off e = cc

abbrev fault : {E : Type 0} → E → Result (Unit {0}) E
fault e = Err e

abbrev is_restart : {B : Type 0} → Event B → Bool
is_restart (Restart n) = true
is_restart _ = false

pub no_restart : {B A C : Type 0} (e d : Event B) → e ≡ d → is_restart d ≡ false → (node : ℕ) → e ≡ Restart node → A → C
no_restart e d is another node at a = absurd (off (sym another ∙ sym (ap (λ z. is_restart z) is) ∙ ap (λ z. is_restart z) at))

pub no_restart_then : {B R E : Type 0} (A C : Type 0) (r : Result R E) (e d : Event B) → e ≡ d → is_restart d ≡ false
    → OnOk r ((node : ℕ) → e ≡ Restart node → A → C)
no_restart_then A C (Err x) e d is another = tt
no_restart_then A C (Ok x) e d is another = no_restart e d is another

abbrev is_cut : {B : Type 0} → Event B → Bool
is_cut (Cut n s) = true
is_cut _ = false

pub no_cut : {B C : Type 0} (e d : Event B) → e ≡ d → is_cut d ≡ false → (node : ℕ) (snapshot : Option Snapshot) → e ≡ Cut node snapshot → C
no_cut e d is another node snapshot at =
    absurd (off (sym another ∙ sym (ap (λ z. is_cut z) is) ∙ ap (λ z. is_cut z) at))

pub no_cut_then : {B R E : Type 0} (C : Type 0) (r : Result R E) (e d : Event B) → e ≡ d → is_cut d ≡ false
    → OnOk r ((node : ℕ) (snapshot : Option Snapshot) → e ≡ Cut node snapshot → C)
no_cut_then C (Err x) e d is another = tt
no_cut_then C (Ok x) e d is another = no_cut e d is another

pub cut_then : {B R E : Type 0} (P : Type 0) (e : Event B) (r : Result R E) → OnOk r P
    → OnOk r ((node : ℕ) (snapshot : Option Snapshot) → e ≡ Cut node snapshot → P)
cut_then P e (Err x) h = tt
cut_then P e (Ok x) h = λ node snapshot at. h

pub restart_then : {B R E : Type 0} (P : Type 0) (e : Event B) (r : Result R E) → OnOk r P → OnOk r ((node : ℕ) → e ≡ Restart node → P)
restart_then P e (Err x) h = tt
restart_then P e (Ok x) h = λ node at. h

pub up_carried : {B : Type 0} (e : Event B) (x : NodeState B) → is_carried e ≡ true → may_happen e x ≡ true → x.up ≡ true
up_carried e x c m = plans_up (owner e) e x (plans_carried (owner e) e x refl c m)

-- a node whose log is that of its machine, and of one that is down

pub log_down : {B M Y : Type 0} (x : NodeState B) (f : Followed B M Y) → x.up ≡ false → HasLog x f
log_down x f d u = absurd (off (sym d ∙ u))

module _ {B : Type 0} (same : B → B → Bool) (members : ℕ) (e : Event B) (x : NodeState B) where
  abbrev pub o : Plan B
  o = outcome_of same members e x

  pub log_ran : {M Y : Type 0} (g : Followed B M Y) → Ran same members e x → is_carried e ≡ true → possible e x ≡ true
      → g.log.applied ≡ above_of o.change.snapshot x.applied ++ o.applied → HasLog o.node g
  log_ran g r carried can h =
      ⊎_elim
      (λ (c : OnFrom same members e x). λ u.
      h ∙ (ap (λ l. l ++ o.applied) (sym (above_is same members e x r.was carried can)) ∙ sym c.log))
      (λ (c : (o.node.up ≡ false) × (o.node.applied ≡ [])). log_down o.node g c.0)
      r.from.case

-- members in their events

module _ {B M Y : Type 0} (same : B → B → Bool) where
  pub moved : {R E : Type 0} (r : Result R E) (e : Event B) (old new : MemberState B M Y) (sent later : List (Packet B)) (made more : List (Entry B))
      → possible e old.node ≡ true → old.node.up ≡ true → is_carried e ≡ true
      → OnOk r (new.node ≡ (outcome_of same old.members e old.node).node)
      → OnOk r (later ≡ sent ++ (outcome_of same old.members e old.node).packets)
      → OnOk r (more ≡ made ++ Rattle.paxos_node.specs.Events.made_by same e old.node)
      → OnOk r (new.machine.log.applied
      ≡ above_of (outcome_of same old.members e old.node).change.snapshot old.node.applied ++ (outcome_of same old.members e old.node).applied)
      → OnOk r (Moves same e old new sent later made more)
  moved (Err a) e old new sent later made more p u d n s k l = tt
  moved (Ok a) e old new sent later made more p u d n s k l =
      record {
        node = n;
        packets = s;
        made_is = k;
        log = ⊎_elim
            (λ (c : Ran same old.members e old.node).
            subst (λ (y : NodeState B). HasLog y new.machine) (sym n) (log_ran same old.members e old.node new.machine c d p l))
            (λ (c : Began same old.members e old.node). absurd (off (sym c.was ∙ u)))
            (event_cases same old.members e old.node p);
      }

pub unmoved : {B M Y R E : Type 0} (r : Result R E) (old new : MemberState B M Y) (sent later : List (Packet B)) (made more : List (Entry B))
    → OnErr r (new.node ≡ old.node) → OnErr r (later ≡ sent) → OnErr r (more ≡ made) → OnErr r (new.machine.log.applied ≡ old.machine.log.applied)
    → HasLog old.node old.machine → OnErr r (Unmoved old new sent later made more)
unmoved (Ok a) old new sent later made more n s k l h = tt
unmoved (Err a) old new sent later made more n s k l h =
    record {
      node = n;
      packets = s;
      made_is = k;
      log = λ u. l ∙ (h (ap (λ (y : NodeState _). y.up) (sym n) ∙ u) ∙ ap (λ (y : NodeState _). y.applied) (sym n));
    }

-- a crash and a restart

is_off : (b : Bool) → not b ≡ true → b ≡ false
is_off true e = absurd (off e)
is_off false e = refl

pub restarts_down : {B : Type 0} (e : Event B) (n : ℕ) (x : NodeState B) → e ≡ Restart n → possible e x ≡ true
    → (x.up ≡ false) × (nat_lt x.rows.boot last_boot ≡ true)
restarts_down e n x is p =
    let a = and_parts (not x.up) (nat_lt x.rows.boot last_boot) (subst (λ d. possible d x ≡ true) is p) in (is_off x.up a.0, a.1)

module _ {B M Y : Type 0} (same : B → B → Bool) where
  pub crash_moves : (e : Event B) (n : ℕ) (old new : MemberState B M Y) (sent : List (Packet B)) (made : List (Entry B)) → e ≡ Crash n
      → new.node ≡ down old.node.rows → Moves same e old new sent sent made made
  crash_moves e n old new sent made is x =
      subst (λ d. Moves same d old new sent sent made made) (sym is)
      (record {
        node = x;
        packets = sym (append-nil sent);
        made_is = sym (append-nil made);
        log = log_down new.node new.machine (ap (λ (y : NodeState B). y.up) x);
      })

  pub restart_moves : {R E : Type 0} (r : Result R E) (e : Event B) (n : ℕ) (old new : MemberState B M Y) (sent : List (Packet B))
      (made more : List (Entry B)) → e ≡ Restart n → owner e ≡ old.me
      → OnOk r (new.node ≡ started old.me (raised old.node.rows)) → OnOk r (more ≡ made ++ Boot old.me (suc old.node.rows.boot) ∷ [])
      → OnOk r (new.machine.log.applied ≡ []) → OnOk r (Moves same e old new sent sent made more)
  restart_moves (Err a) e n old new sent made more is own x k l = tt
  restart_moves (Ok a) e n old new sent made more is own x k l =
      let own' : old.me ≡ n = sym (subst (λ d. owner d ≡ old.me) is own) in
      subst (λ d. Moves same d old new sent sent made more) (sym is)
      (record {
        node = x ∙ ap (λ j. started j (raised old.node.rows)) own';
        packets = sym (append-nil sent);
        made_is = k ∙ ap (λ j. made ++ Boot j (suc old.node.rows.boot) ∷ []) own';
        log = λ u. l ∙ ap (λ (y : NodeState B). y.applied) (sym x);
      })

  pub restart_unmoved : {R E : Type 0} (r : Result R E) (old new : MemberState B M Y) (sent : List (Packet B)) (made more : List (Entry B))
      → old.node.up ≡ false → OnErr r (new.node ≡ old.node) → OnErr r (more ≡ made) → OnErr r (Unmoved old new sent sent made more)
  restart_unmoved (Ok a) old new sent made more d x k = tt
  restart_unmoved (Err a) old new sent made more d x k =
      record { node = x; packets = refl; made_is = k; log = log_down new.node new.machine (ap (λ (y : NodeState B). y.up) x ∙ d) }

-- after a crash a node is down; after a restart it is in the next boot, or it is down as before

pub crashed : {B : Type 0} (x y : NodeState B) {P : Type 0} → y ≡ down x.rows → StaysThere x y → P
crashed x y is h = absurd (off (sym (ap (λ z. z.up) is) ∙ h.0.0))

pub restarted : {B R E P : Type 0} (r : Result R E) (me : ℕ) (x y : NodeState B) → x.up ≡ false → OnOk r (y ≡ started me (raised x.rows))
    → OnErr r (y ≡ x) → StaysThere x y → P
restarted (Ok a) me x y d ok err h =
    let s : suc x.rows.boot ≡ x.rows.boot = ap (λ z. z.rows.boot) (sym ok) ∙ h.0.1 in absurd (omega (arith, s))
restarted (Err a) me x y d ok err h = absurd (off (sym d ∙ (ap (λ z. z.up) (sym err) ∙ h.0.0)))

-- a machine that is given up stays so where its node stays

pub if_refused : {R E P : Type 0} (Q : Type 0) (r : Result R E) → OnErr r (P → Q) → P → OnErr r Q
if_refused Q (Ok a) h p = tt
if_refused Q (Err a) h p = h p

pub stays_given_up : {B M Y R E P : Type 0} (same : B → B → Bool) (r : Result R E) (e : Event B) (old new : MemberState B M Y)
    → possible e old.node ≡ true → old.node.up ≡ true → is_carried e ≡ true
    → OnOk r (new.node ≡ (outcome_of same old.members e old.node).node)
    → ((outcome_of same old.members e old.node).change.snapshot ≡ None → P) → OnErr r P → StaysThere old.node new.node → P
stays_given_up same (Err a) e old new p u d ok kept back there = back
stays_given_up same (Ok a) e old new p u d ok kept back there =
    ⊎_elim
    (λ (c : Ran same old.members e old.node).
    kept (none_taken same old.members e old.node u d p c (subst (λ (y : NodeState _). StaysThere old.node y) ok there)))
    (λ (c : Began same old.members e old.node). absurd (off (sym c.was ∙ u)))
    (event_cases same old.members e old.node p)

-- an event that is possible goes on so
module _ {B M Y : Type 0} (same : B → B → Bool) where
  pub goes_here : (e : Event B) (old new : MemberState B M Y) (sent later : List (Packet B)) (made more : List (Entry B))
      → possible e old.node ≡ true → Moves same e old new sent later made more → Goes same e old new sent later made more
  goes_here e old new sent later made more can moves = record { moves = λ _. moves; stays = λ never. absurd (off (sym never ∙ can)) }

  pub goes : {R E : Type 0} (r : Result R E) (e : Event B) (old new : MemberState B M Y) (sent later : List (Packet B)) (made more : List (Entry B))
      → possible e old.node ≡ true → OnOk r (Moves same e old new sent later made more) → OnOk r (Goes same e old new sent later made more)
  goes (Err a) e old new sent later made more can moves = tt
  goes (Ok a) e old new sent later made more can moves = goes_here e old new sent later made more can moves

module _ {B M S Y : Type 0} (same : B → B → Bool) (content : M → S) (m : Machine B S Y) where
  pub goes_on_here : (e : Event B) (under over : List (Entry B)) (old new : MemberState B M Y)
      → possible e old.node ≡ true → Happens same content m e under over old new → GoesOn same content m e under over old new
  goes_on_here e under over old new can happens = record { moves = λ _. happens; stays = λ never. absurd (off (sym never ∙ can)) }

  pub goes_on : {R E : Type 0} (r : Result R E) (e : Event B) (under over : List (Entry B)) (old new : MemberState B M Y)
      → possible e old.node ≡ true → OnOk r (Happens same content m e under over old new) → OnOk r (GoesOn same content m e under over old new)
  goes_on (Err a) e under over old new can happens = tt
  goes_on (Ok a) e under over old new can happens = goes_on_here e under over old new can happens

  -- nothing is applied, and nothing handed out
  pub quiet : (e : Event B) (under over : List (Entry B)) (old new : MemberState B M Y) → (outcome_of same old.members e old.node).applied ≡ []
      → new.machine.told ≡ old.machine.told
      → Follows content m
      (under_from (is_some (packet_in e)) (outcome_of same old.members e old.node).change.snapshot under over old.node.applied) new.machine
      → Happens same content m e under over old new
  quiet e under over old new none told a =
      let log = log_from (is_some (packet_in e)) (outcome_of same old.members e old.node).change.snapshot under over old.node.applied in
      record {
        handed = λ t. ap (λ u. said_in t u) told
            ∙ sym (ap (λ l. said_in t old.machine.told ++ l)
            (ap (λ es. handed_to m t old.machine.node old.node.rows.boot log es) none
            ∙ nothing_to m old.machine.node t old.node.rows.boot log)
            ∙ append-nil (said_in t old.machine.told));
        follows = a;
      }

  pub crash_happens : (e : Event B) (n : ℕ) (under over : List (Entry B)) (old new : MemberState B M Y) → e ≡ Crash n
      → new.machine ≡ old.machine → Follows content m under old.machine → Happens same content m e under over old new
  crash_happens e n under over old new is f a =
      subst (λ d. Happens same content m d under over old new) (sym is)
      (quiet (Crash n) under over old new refl (ap (λ (g : Followed B M Y). g.told) f) (subst (λ g. Follows content m under g) (sym f) a))

  pub restart_happens : {R E : Type 0} (r : Result R E) (e : Event B) (n : ℕ) (under over : List (Entry B)) (old new : MemberState B M Y)
      → e ≡ Restart n → new.machine.told ≡ old.machine.told → Follows content m under new.machine
      → OnOk r (Happens same content m e under over old new)
  restart_happens (Err b) e n under over old new is told a = tt
  restart_happens (Ok b) e n under over old new is told a =
      subst (λ d. Happens same content m d under over old new) (sym is) (quiet (Restart n) under over old new refl told a)

  pub restart_rests : {R E : Type 0} (r : Result R E) (under : List (Entry B)) (old new : MemberState B M Y)
      → new.machine.told ≡ old.machine.told → Follows content m under new.machine → OnErr r (Rests content m under old new)
  restart_rests (Ok b) under old new told a = tt
  restart_rests (Err b) under old new told a = record { handed = λ t. ap (λ u. said_in t u) told; follows = a }

  -- a node that plans the event, and its machine
  pub happens_all : {R E : Type 0} (r : Result R E) (e : Event B) (under over : List (Entry B)) (old new : MemberState B M Y)
      → old.node.up ≡ true → is_carried e ≡ true → possible e old.node ≡ true
      → OnOk r ((t : Transport) → said_in t new.machine.told ≡ said_in t old.machine.told
      ++ handed_to m t old.machine.node old.node.rows.boot
      (base_of (outcome_of same old.members e old.node).change.snapshot under over
      ++ above_of (outcome_of same old.members e old.node).change.snapshot old.node.applied)
      (outcome_of same old.members e old.node).applied)
      → OnOk r (Follows content m (base_of (outcome_of same old.members e old.node).change.snapshot under over) new.machine)
      → OnOk r (Happens same content m e under over old new)
  happens_all (Err b) e under over old new up carried can h a = tt
  happens_all (Ok b) e under over old new up carried can h a =
      record {
        handed = λ t. h t
            ∙ ap (λ log. said_in t old.machine.told
            ++ handed_to m t old.machine.node old.node.rows.boot log (outcome_of same old.members e old.node).applied)
            (log_is same old.members e old.node up carried can under over);
        follows = subst (λ l. Follows content m l new.machine) (under_is same old.members e old.node up carried can under over) a;
      }

  pub rests_all : {R E : Type 0} (r : Result R E) (under : List (Entry B)) (old new : MemberState B M Y)
      → OnErr r ((t : Transport) → said_in t new.machine.told ≡ said_in t old.machine.told) → OnErr r (Follows content m under new.machine)
      → OnErr r (Rests content m under old new)
  rests_all (Ok b) under old new h a = tt
  rests_all (Err b) under old new h a = record { handed = h; follows = a }

-- the empty log, kept

module _ {B M S Y : Type 0} (content : M → S) (m : Machine B S Y) where
  pub kept_first : (log : LogState B M) → IsLogOf (steps_of m) content m.first [] log → log.applied ≡ []
      → kept_of content log ≡ empty_kept m.first
  kept_first log h none =
      let at = subst (λ (es : List (Entry B)). Rattle.replica_machine.specs.Log.IsAt (steps_of m) content m.first es log.roll log.machine)
      none h.stands in
      let long : length_in log ≡ 0 = (let b = h.below in let l = ap (λ (es : List (Entry B)). length es) none in omega (arith, b, l)) in
      λ i. record {
        floor = long i;
        standings = at.1 1 (omega arith) i ∷ at.1 2 (omega arith) i ∷ at.1 3 (omega arith) i ∷ at.1 4 (omega arith) i ∷ at.1 5 (omega arith) i
            ∷ at.1 6 (omega arith) i ∷ at.1 7 (omega arith) i ∷ [];
        content = at.0 i;
      }

  -- what is saved of it loads again, or as nothing
  pub saves_first : (loaded : List ℕ → Option S) (octets : List ℕ) (log : LogState B M) → IsLogOf (steps_of m) content m.first [] log
      → log.applied ≡ []
      → IfSome (loaded_log loaded octets) (λ kept. kept ≡ kept_of content log) → LoadsFirst loaded m.first octets
  saves_first loaded octets log h none only =
      subst (λ same. IfSome (loaded_log loaded octets) (λ kept. kept ≡ same)) (kept_first log h none) only

-- no octets are no log
pub loads_none : {S : Type 0} (loaded : List ℕ → Option S) (first : S) (octets : List ℕ) → octets ≡ [] → LoadsFirst loaded first octets
unfolding number_reading
loads_none loaded first octets is = subst (λ os. LoadsFirst loaded first os) (sym is) tt

-- entries that are none are ones, and few
pub none_given : {B : Type 0} (log : List (Entry B)) → log ≡ [] → AreGiven log
none_given log is = subst (λ l. AreGiven l) (sym is) (λ i d l. absurd (omega arith))

pub none_long : {B M : Type 0} (log : LogState B M) → 0 ≡ log.floor → log.applied ≡ [] → length_in log < 2 ^ 40
none_long log below is = let l = ap (λ es. length es) is in omega (arith, below, l)
