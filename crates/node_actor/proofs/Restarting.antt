-- A restart among the events of the core, and why one is refused.
use Rattle.std.proofs.Common.{◌≡◌, inl, inr, ⊎_elim, ◌<◌, ◌≤◌, ◌+◌, ◌-◌, ◌++◌, ◌∙◌, append-nil, ℕ, zero, suc, Bool, true, false, not}
use Rattle.std.proofs.Common.{Some, None, [], ◌∷◌, refl, sym, ap, subst, arith}
use Rattle.std.proofs.lemmas.Bool.{and_from, lt-ltb}
use Rattle.std.specs.Prelude.{List, Option}
use Rattle.paxos_packets.specs.Rows.{last_boot, raised}
use Rattle.paxos_packets.specs.declared.rows.Rows.{Rows}
use Rattle.paxos_acceptor.specs.Acceptor as accepting
use Rattle.store_keeper.specs.Keeper.{FindsOr}
use Rattle.store_keeper.specs.declared.fault.KeeperFault.{KeeperFault}
use Rattle.store_keeper.specs.declared.fault.KeeperFault.TheVariants as store
use Rattle.actor_outboxes.specs.Outboxes.{Waiting}
use Rattle.paxos_node.specs.Applying.{started, down}
use Rattle.paxos_node.specs.Held.{Held}
use Rattle.paxos_node.specs.View.{Viewed, moved}
use Rattle.paxos_node.specs.declared.event.Event.TheVariants.{Crash}
use Rattle.paxos_node.specs.declared.view.Opened.TheVariants.{With}
use Rattle.paxos_planning.specs.Node.{NodeState}
use Rattle.mail_table.specs.Seats.{Seated}
use Rattle.actor_parts.specs.Tried.{change_of}
use Rattle.actor_parts.specs.declared.tried.FailedCommit.{FailedCommit}
use Rattle.actor_parts.specs.declared.fault.ActorFault.{ActorFault}
use Rattle.actor_parts.specs.declared.fault.ActorFault.TheVariants.{Failed, Rounds, Full, Keeper, Disagree, LostHere, Worn, Memory}
use Rattle.node_actor.specs.Compare.{fit_of}
use Rattle.node_actor.specs.declared.compare.Fit.TheVariants.{Others}
use Rattle.node_actor.specs.declared.preparing.Ready.{Ready}
use Rattle.node_actor.specs.Posts.{Posted, LeftOf, IsLeft, renewed, stepped}
use Rattle.node_actor.specs.Beginning.{IsLater, MayBegin, first_time, from_left, from_meant, seat_before, IsNodeOf, MayKeepFrom, Starts}
use Rattle.node_actor.specs.Beginning.{Begins, Renews, Leaves, begun}
use Rattle.node_actor.specs.Preparing.{raises, restarts, comes_back, moved_by_all, node_after, ArePossible, as_left, as_meant, change_in}
use Rattle.node_actor.specs.Preparing.{Returns, HasOthers}
use Rattle.node_actor.specs.Preparing.{Stays, Fits, IsWorn, worn_first, worn_left, worn_meant, IsUnmade, Refuses, unread, others}
use Rattle.node_actor.specs.Preparing.{unjudged, worn, unread_first, unmade, unbooted, strayed, Readied}
use Rattle.mail_table.specs.Views.{opened_with, reopened}
use Rattle.paxos_node.specs.declared.view.Opened.{Opened}
use Rattle.node_actor.proofs.Booting.{loads_of}
use Rattle.actor_parts.specs.Snapshots.{is_no_log}
use Rattle.paxos_packets.specs.Snapshot as taken
use Rattle.node_actor.proofs.Renewing.{leads_at, rows_of_some}
use Rattle.node_actor.proofs.StepsMeant.{moved_append, node_moved, opened_still, possible_append}

-- what is there once a boot has begun

module _ {B S K : Type 0} (same : B → B → Bool) (loaded : List ℕ → Option S) (holds finds : K → Rows B → Type 0) (is_faithful : K → Type 0)
    (is_failed : K → Bool) (failures : K → ℕ) (p : Posted B) (old new : K) (ready : Ready B)
    (r : Readied same loaded holds finds is_faithful is_failed failures p old new ready) where
  pub refused_late : {Y : Type 0} → Refuses same loaded holds finds is_faithful failures {Y = Y} p old new Memory
  refused_late {Y} =
      unbooted Memory r.mid r.rows ready.meant (λ e. absurd cc) r.fits r.readable (record { may = tt; found = r.found })
      (record { faithful = r.faithful; sound = λ f x held e. absurd cc })

  abbrev renews_of : (s : Seated B) → s ≡ renewed ready.rows (seat_before same ready.meant p.failed p.seat)
      → Renews same holds is_faithful p old new s
  renews_of s e = record { rows = ready.rows; boots = r.boots; meant = ready.meant; may = r.may; seat = e }

  pub leaves_late : {Y : Type 0} (q : Posted B)
      → q ≡ record {
        me = p.me;
        members = p.members;
        rows = Some ready.rows;
        failed = None;
        seat = renewed ready.rows
            (seat_before same ready.meant p.failed p.seat);
      }
      → Leaves same holds is_faithful {Y = Y} p old new q Memory
  leaves_late q e =
      let seat : q.seat ≡ renewed ready.rows (seat_before same ready.meant p.failed p.seat) = ap (λ (x : Posted B). x.seat) e in
      begun (renews_of q.seat seat)
      (e ∙ (λ i. record { me = p.me; members = p.members; rows = Some ready.rows; failed = None; seat = sym seat i }))

  pub begins_of : (h : Held B) (w : Waiting B) (s : Seated B) → IsNodeOf p.me p.members ready.rows h → w ≡ ready.outboxes
      → s ≡ renewed ready.rows (seat_before same ready.meant p.failed p.seat) → Begins same holds is_faithful is_failed p old new h w s
  begins_of h w s node boxes e = record { renews = renews_of s e; node = node; whole = r.whole; empty = rw boxes r.empty }

-- rows this many boots on

raises_raised : {B : Type 0} (d : ℕ) (r : Rows B) → raises d (raised r) ≡ raised (raises d r)
raises_raised zero r = refl
raises_raised (suc d) r = ap raised (raises_raised d r)

raises_are : {B : Type 0} (d : ℕ) (k : Rows B) → raises d k ≡ record k { boot = k.boot + d }
raises_are zero k = let z : k.boot ≡ k.boot + 0 = omega arith in λ i. record k { boot = z i }
raises_are (suc d) k =
    let z : suc (k.boot + d) ≡ k.boot + suc d = omega arith in
    ap raised (raises_are d k) ∙ (λ i. record k { boot = z i })

-- rows whose next boot's are these in a later boot are these, some boots on
later_raises : {B : Type 0} (k r : Rows B) → IsLater k (raised r) → (d : ℕ) × (r ≡ raises d k)
later_raises k r l =
    let low : k.boot < suc r.boot = l.later in
    let boots : r.boot ≡ k.boot + (r.boot - k.boot) = omega (arith, low) in
    (r.boot - k.boot, (λ i. record (l.rows i) { boot = boots i }) ∙ sym (raises_are (r.boot - k.boot) k))

below_last : {B : Type 0} (d : ℕ) (k r : Rows B) → r ≡ raises d k → (raised r).boot ≤ last_boot → k.boot + d < last_boot
below_last d k r e h =
    let boots : r.boot ≡ k.boot + d = ap (λ x. x.boot) (e ∙ raises_are d k) in
    omega (arith, boots, h)

-- the view goes on

module _ {B : Type 0} (same : B → B → Bool) (members me : ℕ) where
  sent_none : (x : NodeState B) (s : Viewed B) → moved x [] s ≡ record { opened = s.opened; node = x; sent = s.sent }
  sent_none x s = let e : s.sent ++ [] ≡ s.sent = append-nil s.sent in λ i. record { opened = s.opened; node = x; sent = e i }

  crashed : (s : Viewed B) → moved (down s.node.rows) [] s ≡ record { opened = s.opened; node = down s.node.rows; sent = s.sent }
  crashed s = sent_none (down s.node.rows) s

  restarts_to : (d : ℕ) (s : Viewed B) → moved_by_all same members (restarts me d) s ≡ record {
    opened = s.opened;
    node = started me
        (raised (raises d s.node.rows));
    sent = s.sent;
  }
  restarts_to zero s = sent_none (started me (raised s.node.rows)) s
  restarts_to (suc d) s =
      ap (λ v. moved_by_all same members (Crash me ∷ restarts me d) v) (sent_none (started me (raised s.node.rows)) s)
      ∙ ap (λ v. moved_by_all same members (restarts me d) v)
      (sent_none (down (raised s.node.rows)) (record { opened = s.opened; node = started me (raised s.node.rows); sent = s.sent }))
      ∙ restarts_to d (record { opened = s.opened; node = down (raised s.node.rows); sent = s.sent })
      ∙ ap (λ r. record { opened = s.opened; node = started me (raised r); sent = s.sent }) (raises_raised d s.node.rows)

  comes_to : (d : ℕ) (up : Bool) (s : Viewed B) → moved_by_all same members
      (comes_back me up d) s ≡ record { opened = s.opened; node = started me (raised (raises d s.node.rows)); sent = s.sent }
  comes_to d true s = ap (λ v. moved_by_all same members (restarts me d) v) (crashed s)
      ∙ restarts_to d (record { opened = s.opened; node = down s.node.rows; sent = s.sent })
  comes_to d false s = restarts_to d s

  restarts_possible : (d : ℕ) (x : NodeState B) → x.up ≡ false → x.rows.boot + d < last_boot → ArePossible same members (restarts me d) x
  restarts_possible zero x off below = (and_from _ _ (ap not off) (lt-ltb x.rows.boot last_boot (omega (arith, below))), tt)
  restarts_possible (suc d) x off below = (
    and_from _ _ (ap not off) (lt-ltb x.rows.boot last_boot (omega (arith, below))),
    (refl, restarts_possible d (down (raised x.rows)) refl (omega (arith, below))),
  )

  comes_possible : (d : ℕ) (up : Bool) (x : NodeState B) → x.up ≡ up → x.rows.boot + d < last_boot
      → ArePossible same members (comes_back me up d) x
  comes_possible d true x up below = (up, restarts_possible d (down x.rows) refl below)
  comes_possible d false x up below = restarts_possible d x up below

-- a seat that is renewed

with_still : {B : Type 0} (r q : Rows B) (o : Opened B) → o ≡ With q → opened_with r o ≡ o
with_still r q o e = subst (λ x. opened_with r x ≡ x) (sym e) refl

reopened_is : {B : Type 0} (n me : ℕ) (r q x : Rows B) (s : Viewed B) → n ≡ me → s.opened ≡ With q → r ≡ x
    → reopened n r s ≡ record { opened = s.opened; node = started me x; sent = s.sent }
reopened_is n me r q x s is e rows = λ i. record { opened = with_still r q s.opened e i; node = started (is i) (rows i); sent = s.sent }

module _ {B : Type 0} (same : B → B → Bool) (p : Posted B) (left : IsLeft same p) (s : Seated B) (r rows : Rows B) (is : rows ≡ raised r)
    (within : rows.boot ≤ last_boot) where
  low : (raised r).boot ≤ last_boot
  low = subst (λ x. x.boot ≤ last_boot) is within

  left_returns : (q : Rows B) → p.seat.part.seen.opened ≡ With q → (d : ℕ) → r ≡ raises d p.seat.part.seen.node.rows
      → s ≡ renewed rows p.seat
      → Returns same p r p.seat s
  left_returns q opened d e seat =
      let x = p.seat.part.seen.node in
      record {
        events = comes_back p.me x.up d;
        comes = as_left d e;
        possible = comes_possible same p.members p.me d x.up x refl (below_last d x.rows r e low);
        moved = ap (λ z. z.part.seen) seat
            ∙ reopened_is p.seat.part.me p.me rows q (raised (raises d x.rows)) p.seat.part.seen left.me opened (is ∙ ap raised e)
            ∙ sym (comes_to same p.members p.me d x.up p.seat.part.seen);
        me = ap (λ z. z.part.me) seat;
        members = ap (λ z. z.members) seat;
        posted = ap (λ z. z.part.posted) seat;
        received = ap (λ z. z.part.received) seat;
      }

  meant_returns : (q : Rows B) → p.seat.part.seen.opened ≡ With q → (d : ℕ) (m : FailedCommit B) → p.failed ≡ Some m
      → r ≡ raises d (accepting.adopted p.seat.part.seen.node.rows (change_of m)) → s ≡ renewed rows (stepped same m p.seat)
      → Returns same p r p.seat s
  meant_returns q opened d m failed e seat =
      let x = p.seat.part.seen.node in
      let on = leads_at same p left m failed in
      let t = stepped same m p.seat in
      let y = node_after same p.members on.events x in
      let back = comes_back p.me y.up d in
      let after = moved_by_all same p.members on.events p.seat.part.seen in
      let behind : r ≡ raises d y.rows = e ∙ ap (raises d) (sym on.rows) in
      let there : r ≡ raises d after.node.rows =
      behind ∙ ap (λ (z : NodeState B). raises d z.rows) (sym (node_moved same p.members on.events p.seat.part.seen)) in
      record {
        events = on.events ++ back;
        comes = as_meant d m on.events failed on.of_it e;
        possible = possible_append same p.members on.events back x on.possible
            (comes_possible same p.members p.me d y.up y refl (below_last d y.rows r behind low));
        moved = ap (λ (z : Seated B). z.part.seen) seat
            ∙ ap (reopened t.part.me rows) on.sees
            ∙ reopened_is t.part.me p.me rows q (raised (raises d after.node.rows)) after (on.stays.me ∙ left.me)
            (opened_still same p.members on.events p.seat.part.seen ∙ opened) (is ∙ ap raised there)
            ∙ sym (comes_to same p.members p.me d y.up after)
            ∙ sym (moved_append same p.members on.events back p.seat.part.seen);
        me = ap (λ (z : Seated B). z.part.me) seat ∙ on.stays.me;
        members = ap (λ (z : Seated B). z.members) (seat ∙ ap (renewed rows) on.stays.table);
        posted = ap (λ (z : Seated B). z.part.posted) seat ∙ on.stays.posted;
        received = ap (λ (z : Seated B). z.part.received) seat ∙ on.stays.received;
      }

  returns_at : p.rows ≡ Some p.seat.part.seen.node.rows → (meant : Bool) → MayBegin p rows meant
      → s ≡ renewed rows (seat_before same meant p.failed p.seat) → Returns same p r p.seat s
  returns_at some meant (first_time none off counts) seat = let both : None ≡ Some p.seat.part.seen.node.rows = sym none
      ∙ some in absurd cc
  returns_at some meant (from_left k kept off later counts) seat =
      let both : Some k ≡ Some p.seat.part.seen.node.rows = sym kept ∙ some in
      let k_is : k ≡ p.seat.part.seen.node.rows = cc in
      let opened = (rows_of_some p.rows k p.seat.part.seen kept left.rows).1 in
      let d = later_raises p.seat.part.seen.node.rows r (subst (λ x. IsLater x (raised r)) k_is (subst (IsLater k) is later)) in
      left_returns opened.0 opened.1 d.0 d.1 (subst (λ b. s ≡ renewed rows (seat_before same b p.failed p.seat)) off seat)
  returns_at some meant (from_meant k m kept failed on later counts) seat =
      let both : Some k ≡ Some p.seat.part.seen.node.rows = sym kept ∙ some in
      let k_is : k ≡ p.seat.part.seen.node.rows = cc in
      let opened = (rows_of_some p.rows k p.seat.part.seen kept left.rows).1 in
      let d = later_raises (accepting.adopted p.seat.part.seen.node.rows (change_of m)) r
      (subst (λ x. IsLater (accepting.adopted x (change_of m)) (raised r)) k_is (subst (IsLater (accepting.adopted k (change_of m))) is later)) in
      meant_returns opened.0 opened.1 d.0 m failed d.1
      (subst (λ f. s ≡ renewed rows (seat_before same true f p.seat)) failed (subst (λ b. s ≡ renewed rows
      (seat_before same b p.failed p.seat)) on seat))

  pub returns_of : (v : Seated B) → LeftOf same p v → (meant : Bool) → MayBegin p rows meant
      → s ≡ renewed rows (seat_before same meant p.failed p.seat)
      → Returns same p r v s
  returns_of v from meant may seat =
      subst (λ x. Returns same p r x s) from.seat
      (returns_at (from.rows ∙ ap (λ x. Some x.part.seen.node.rows) (sym from.seat)) meant may seat)

-- why a restart is refused

module _ {B S K : Type 0} (same : B → B → Bool) (loaded : List ℕ → Option S) (holds finds : K → Rows B → Type 0) (is_faithful : K → Type 0)
    (failures : K → ℕ) (p : Posted B) where
  keeper_is : {Y : Type 0} (f g : KeeperFault) → ◌≡◌ {A = ActorFault Y} (Keeper f) (Keeper g) → f ≡ g
  keeper_is f g e = cc

  -- no log was made of the snapshot in rows
  unmade_is : {Y : Type 0} (f : ActorFault Y) (snapshot : Option taken.Snapshot) → IsUnmade loaded snapshot f → f ≡ Keeper store.Damaged
      → is_no_log loaded snapshot ≡ true
  unmade_is (Keeper x) snapshot h is = h.1
  unmade_is Memory snapshot h is = absurd cc
  unmade_is Failed snapshot h is = absurd h
  unmade_is Rounds snapshot h is = absurd h
  unmade_is Full snapshot h is = absurd h
  unmade_is Disagree snapshot h is = absurd h
  unmade_is (LostHere says) snapshot h is = absurd h
  unmade_is Worn snapshot h is = absurd h

  unmade_may : {Y : Type 0} (f : ActorFault Y) (snapshot : Option taken.Snapshot) (m n : ℕ) → IsUnmade loaded snapshot f → MayKeepFrom m n f
  unmade_may (Keeper x) snapshot m n h = λ e. absurd (let off : store.Damaged ≡ store.Store = sym h.0 ∙ e in cc)
  unmade_may Memory snapshot m n h = tt
  unmade_may Failed snapshot m n h = h
  unmade_may Rounds snapshot m n h = h
  unmade_may Full snapshot m n h = h
  unmade_may Disagree snapshot m n h = h
  unmade_may (LostHere says) snapshot m n h = h
  unmade_may Worn snapshot m n h = absurd h

  -- if what lies below returned what was written, 62 comes of other rows alone, and of a snapshot of which no log is made
  pub exact_of : {Y : Type 0} (old new : K) (f : ActorFault Y) (r : Rows B) → Refuses same loaded holds finds is_faithful failures p old new f
      → holds old r → is_faithful new
      → f ≡ Keeper store.Damaged → HasOthers same loaded p r
  exact_of old new (Keeper x) r (unread k f some stays counted sound) held true_to is = absurd (sound true_to r held
      (keeper_is x store.Damaged is))
  exact_of old new (Keeper store.Damaged) r (others k x some loads fit) held true_to is =
      inr (k, some, subst (λ y. fit_of same (change_in p.failed) k y ≡ Others) (loads.right true_to r held) fit)
  exact_of old new Memory r (unjudged k x some loads other failed) held true_to is = absurd cc
  exact_of old new Worn r (worn w) held true_to is = absurd cc
  exact_of old new (Keeper x) r (unread_first f none counts stays counted sound) held true_to is = absurd (sound true_to r held
      (keeper_is x store.Damaged is))
  exact_of old new f r (unmade g x meant fits why) held true_to is =
      let loads = loads_of same loaded holds finds is_faithful failures p old new x meant fits in
      inl (subst (λ (y : Rows B). is_no_log loaded y.snapshot ≡ true) (loads.right true_to r held) (unmade_is f x.snapshot why is))
  exact_of old new f r (unbooted g mid x meant unworn fits readable starts whole) held true_to is =
      absurd (whole.sound true_to x (loads_of same loaded holds finds is_faithful failures p old mid x meant fits).held is)
  exact_of old new (Keeper store.Damaged) r (strayed mid x meant fits readable none starts) held true_to is = absurd (none true_to)

  may_before : {Y : Type 0} (f : ActorFault Y) (a b c : ℕ) → a ≤ b → MayKeepFrom b c f → MayKeepFrom a c f
  may_before (Keeper f) a b c low may = λ e. let high = may e in omega (arith, low, high)
  may_before Memory a b c low may = tt
  may_before Worn a b c low may = tt
  may_before _ a b c low may = may

  starts_behind : {Y : Type 0} (old mid new : K) (f : ActorFault Y) (x : Rows B) (meant : Bool)
      → Fits same holds finds is_faithful failures p old mid x meant
      → Starts holds finds failures mid new f
      → Starts holds finds failures old new f
  starts_behind old mid new f x meant fits starts =
      let loads = loads_of same loaded holds finds is_faithful failures p old mid x meant fits in
      record {
        may = may_before f (failures old) (failures mid) (failures new) loads.stays.counted starts.may;
        found = λ r held y found. ⊎_elim (λ was. inl (loads.stays.found y was)) (λ next. inr next) (starts.found r
            (loads.stays.same_rows r held) y found);
      }

  stays_found : (old new : K) (r : Rows B) → Stays same holds finds is_faithful failures old new → FindsOr finds old new (raised r)
  stays_found old new r stays = λ y found. inl (stays.found y found)

  worn_found : (old new : K) (r : Rows B) → IsWorn same holds finds is_faithful failures p old new → FindsOr finds old new (raised r)
  worn_found old new r (worn_first none is counts) = λ y found. inl (subst (λ k. finds k y) is found)
  worn_found old new r (worn_left k x some loads fit counts) = stays_found old new r loads.stays
  worn_found old new r (worn_meant k x some loads fit counts) = stays_found old new r loads.stays

  -- what is found then
  pub starts_of : {Y : Type 0} (old new : K) (f : ActorFault Y) → Refuses same loaded holds finds is_faithful failures p old new f
      → Starts holds finds failures old new f
  starts_of old new (Keeper f) (unread k g some stays counted sound) = record { may = counted; found = λ r held. stays_found old new r stays }
  starts_of old new (Keeper store.Damaged) (others k x some loads fit) = record {
    may = λ e. absurd cc;
    found = λ r held. stays_found old
        new r loads.stays;
  }
  starts_of old new Memory (unjudged k x some loads other failed) = record { may = tt; found = λ r held. stays_found old new r loads.stays }
  starts_of old new Worn (worn w) = record { may = tt; found = λ r held. worn_found old new r w }
  starts_of old new (Keeper f) (unread_first g none counts stays counted sound) =
      record { may = counted; found = λ r held. stays_found old new r stays }
  starts_of old new f (unmade g x meant fits why) =
      record {
        may = unmade_may f x.snapshot (failures old) (failures new) why;
        found = λ r held. stays_found old new r (loads_of same loaded holds finds is_faithful failures p old new x meant fits).stays;
      }
  starts_of old new f (unbooted g mid x meant unworn fits readable starts whole) = starts_behind old mid new f x meant fits starts
  starts_of old new (Keeper store.Damaged) (strayed mid x meant fits readable none starts) =
      starts_behind old mid new (Keeper store.Damaged) x meant fits starts
