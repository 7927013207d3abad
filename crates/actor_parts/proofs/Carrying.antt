-- What is made of a planned outcome, step after step.
use Rattle.std.proofs.Common.{◌≡◌, ℕ, Bool, not, true, false, cond, Option, Some, Result, Ok, Err, List, [], ◌++◌, sym, ap, subst, ◌∙◌, refl}
use Rattle.std.specs.Prelude.{OnErr}
use Rattle.std.proofs.lemmas.Bool.{false≢true}
use Rattle.std.proofs.lemmas.List.{append-nil}
use Rattle.std.specs.declared.vec.Vec.{Vec}
use Rattle.std.specs.declared.alloc.Global.{Global}
use Rattle.paxos_packets.specs.declared.entry.Entry.{Entry}
use Rattle.paxos_packets.specs.declared.rows.Rows.{Rows}
use Rattle.paxos_packets.specs.Members.{IsMember}
use Rattle.paxos_acceptor.specs.Acceptor as accepting
use Rattle.replica_machine.specs.Log.{LogState}
use Rattle.replica_machine.specs.Replay.{Steps}
use Rattle.actor_outboxes.specs.Outboxes.{WaitBehind}
use Rattle.paxos_node.specs.declared.outcome.Outcome.{Outcome}
use Rattle.paxos_planning.specs.Node.{NodeState}
use Rattle.paxos_node.specs.Adopting.{adopted, goes_on, stays_up}
use Rattle.paxos_node.specs.Applying.{down}
use Rattle.actor_parts.specs.declared.fault.ActorFault.{ActorFault}
use Rattle.actor_parts.specs.declared.fault.ActorFault.TheVariants.{Failed, Rounds, Full, Keeper, Disagree, LostHere, Worn, Memory}
use Rattle.actor_parts.specs.Parts.{Parted, IsPrefixOf, IsSound}
use Rattle.actor_parts.specs.declared.tried.FailedCommit.TheVariants.{One}
use Rattle.actor_parts.specs.Steps.{IsAtEnd, Applied, OnlyNode, OnlyKeeper, OnlyLog, OnlyWaiting, next_node, Adopts, StaysWho, AnswersUp, Takes, TakesNot, TakesIn}

-- a node that adopts an outcome has the rows with its change, is up unless the outcome says otherwise, and has applied its entries after what it
-- has, or after none if it rests on a snapshot

pub next_rows : {B : Type 0} (me members : ℕ) (o : Outcome B) (x : NodeState B) → (adopted me members o x).rows ≡ accepting.adopted x.rows o.change
next_rows {B} me members o x = by_down o.is_down
  where
    by_down : (b : Bool) → (cond {A = NodeState B} b (down (accepting.adopted x.rows o.change)) (stays_up me members o x)).rows ≡ accepting.adopted x.rows o.change
    by_down true = refl
    by_down false = refl

pub up_is : {B : Type 0} (me members : ℕ) (o : Outcome B) (x : NodeState B) → x.up ≡ true → (b : Bool) → o.is_down ≡ b
    → (adopted me members o x).up ≡ not b
up_is me members o x up true e = rw e refl
up_is me members o x up false e = rw e up

pub not_down : {B : Type 0} (me members : ℕ) (o : Outcome B) (x : NodeState B) → x.up ≡ true → (adopted me members o x).up ≡ true → o.is_down ≡ false
not_down me members o x up h = by_down o.is_down refl
  where
    by_down : (b : Bool) → o.is_down ≡ b → b ≡ false
    by_down false e = refl
    by_down true e = absurd (false≢true (sym (up_is me members o x up true e) ∙ h))

pub is_down : {B : Type 0} (me members : ℕ) (o : Outcome B) (x : NodeState B) → x.up ≡ true → (adopted me members o x).up ≡ false → o.is_down ≡ true
is_down me members o x up h = by_down o.is_down refl
  where
    by_down : (b : Bool) → o.is_down ≡ b → b ≡ true
    by_down true e = refl
    by_down false e = absurd (false≢true (sym h ∙ up_is me members o x up false e))

pub next_applied : {B : Type 0} (me members : ℕ) (o : Outcome B) (x : NodeState B) → o.is_down ≡ false
    → (adopted me members o x).applied ≡ (goes_on o x).applied ++ o.applied
next_applied me members o x e = rw e refl

-- beginnings of a log

pub prefix_whole : {A : Type 0} (xs ys : List A) → xs ≡ ys → IsPrefixOf xs ys
prefix_whole xs ys e = ([], append-nil xs ∙ e)

pub prefix_to : {A : Type 0} (xs ys zs : List A) → IsPrefixOf xs ys → ys ≡ zs → IsPrefixOf xs zs
prefix_to xs ys zs p e = (p.0, p.1 ∙ e)

pub on_err_still : {A E : Type 0} (r : Result A E) (P : Type 0) → P → OnErr r P
on_err_still (Ok x) P h = tt
on_err_still (Err e) P h = h

pub some_same : {A : Type 0} (x y : A) → ◌≡◌ {A = Option A} (Some x) (Some y) → x ≡ y
some_same x y e = cc

module _ {B M K : Type 0} where
  pub next_same : (o : Outcome B) (old new : Parted B M K) → new.node.me ≡ old.node.me → new.node.members ≡ old.node.members
      → new.node.state ≡ old.node.state → next_node o new ≡ next_node o old
  next_same o old new me members state = λ i. adopted (me i) (members i) o (state i)

  pub sound_spoiled : (same : B → B → Bool) (holds : K → Rows B → Type 0) (is_failed : K → Bool) (old new : Parted B M K)
      → IsSound same holds is_failed old → StaysWho old new → new.spoiled ≡ true
      → (new.node.state.up ≡ true → IsPrefixOf new.log.applied new.node.state.applied) → IsSound same holds is_failed new
  sound_spoiled same holds is_failed old new sound who spoiled front =
      record {
        me = who.waits_me ∙ sound.me ∙ sym who.me;
        members = who.waits_members ∙ sound.members ∙ sym who.members;
        member = subst (λ n. IsMember n new.node.me) (sym who.members) (subst (IsMember old.node.members) (sym who.me) sound.member);
        serves = λ e. absurd (false≢true (sym e ∙ spoiled));
        front = front;
      }

  -- the actor is ready to adopt an outcome: there is room for it, it is committed, and the machine is to go on from this log
  pub record Ready (holds : K → Rows B → Type 0) (is_failed : K → Bool) (base : LogState B M) (o : Outcome B) (old new : Parted B M K) : Type 0 where
    pub state : new.node.state ≡ old.node.state
    pub who : StaysWho old new
    pub waiting : new.waiting ≡ old.waiting
    pub log : new.log ≡ base
    pub failed : new.failed ≡ old.failed
    pub spoiled : new.spoiled ≡ old.spoiled
    pub held : holds new.keeper (accepting.adopted old.node.state.rows o.change)
    pub whole : is_failed new.keeper ≡ false

  -- room was made
  pub record Roomed (old new : Parted B M K) : Type 0 where
    pub state : new.node.state ≡ old.node.state
    pub me : new.node.me ≡ old.node.me
    pub members : new.node.members ≡ old.node.members
    pub rest : OnlyNode old new

  pub roomed_who : (old new : Parted B M K) → Roomed old new → StaysWho old new
  roomed_who old new r =
      record { me = r.me; members = r.members; waits_me = ap (λ w. w.me) r.rest.waiting; waits_members = ap (λ w. w.members) r.rest.waiting }

  pub kept_who : (old mid new : Parted B M K) → Roomed old mid → OnlyKeeper mid new → StaysWho old new
  kept_who old mid new r k =
      record {
        me = ap (λ n. n.me) k.node ∙ r.me;
        members = ap (λ n. n.members) k.node ∙ r.members;
        waits_me = ap (λ w. w.me) k.waiting ∙ ap (λ w. w.me) r.rest.waiting;
        waits_members = ap (λ w. w.members) k.waiting ∙ ap (λ w. w.members) r.rest.waiting;
      }

  pub who_on : (old mid new : Parted B M K) → StaysWho old mid → StaysWho mid new → StaysWho old new
  who_on old mid new a b =
      record { me = b.me ∙ a.me; members = b.members ∙ a.members; waits_me = b.waits_me ∙ a.waits_me; waits_members = b.waits_members ∙ a.waits_members }

  pub ready : (holds : K → Rows B → Type 0) (is_failed : K → Bool) (o : Outcome B) (old mid new : Parted B M K) → Roomed old mid → OnlyKeeper mid new
      → holds old.keeper old.node.state.rows → is_failed old.keeper ≡ false
      → (holds mid.keeper mid.node.state.rows → holds new.keeper (accepting.adopted mid.node.state.rows o.change))
      → (is_failed mid.keeper ≡ false → is_failed new.keeper ≡ false)
      → Ready holds is_failed old.log o old new
  ready holds is_failed o old mid new r k held whole ok stays =
      record {
        state = ap (λ n. n.state) k.node ∙ r.state;
        who = kept_who old mid new r k;
        waiting = k.waiting ∙ r.rest.waiting;
        log = k.log ∙ r.rest.log;
        failed = k.failed ∙ r.rest.failed;
        spoiled = k.spoiled ∙ r.rest.spoiled;
        held = subst (λ (x : NodeState B). holds new.keeper (accepting.adopted x.rows o.change)) r.state (ok
            (subst (λ s. holds s mid.node.state.rows) (sym r.rest.keeper)
            (subst (λ (x : NodeState B). holds old.keeper x.rows) (sym r.state) held)));
        whole = stays (ap is_failed r.rest.keeper ∙ whole);
      }

  -- once the machine has another log
  pub based : (holds : K → Rows B → Type 0) (is_failed : K → Bool) (base : LogState B M) (o : Outcome B) (old mid new : Parted B M K)
      → Ready holds is_failed old.log o old mid → OnlyLog mid new → new.log ≡ base → Ready holds is_failed base o old new
  based holds is_failed base o old mid new r l is =
      record {
        state = ap (λ n. n.state) l.node ∙ r.state;
        who = record {
          me = ap (λ n. n.me) l.node ∙ r.who.me;
          members = ap (λ n. n.members) l.node ∙ r.who.members;
          waits_me = ap (λ w. w.me) l.waiting ∙ r.who.waits_me;
          waits_members = ap (λ w. w.members) l.waiting ∙ r.who.waits_members;
        };
        waiting = l.waiting ∙ r.waiting;
        log = is;
        failed = l.failed ∙ r.failed;
        spoiled = l.spoiled ∙ r.spoiled;
        held = subst (λ k. holds k (accepting.adopted old.node.state.rows o.change)) (sym l.keeper) r.held;
        whole = ap is_failed l.keeper ∙ r.whole;
      }

module _ {B S Y M K : Type 0} (steps : Steps B S Y) (content : M → S) where
  takes_of : (o : Outcome B) (old mid new : Parted B M K) (boot : ℕ) (entries : List (Entry B)) (says : List Y) → Adopts o old mid
      → Applied steps content mid.waiting.me boot entries mid.log new.log says → entries ≡ o.applied → boot ≡ old.node.state.rows.boot
      → OnlyLog mid new → IsAtEnd new.log → Takes steps content o old new says
  takes_of o old mid new boot entries says a p entries_are boot_is l at_end =
      record {
        node = ap (λ n. n.state) l.node ∙ a.node;
        waits = subst (WaitBehind o.packets old.waiting) (sym l.waiting) a.waits;
        keeper = l.keeper ∙ a.keeper;
        failed = l.failed ∙ a.failed;
        applied = subst (λ b. Applied steps content old.waiting.me b o.applied old.log new.log says) boot_is
            (subst (λ es. Applied steps content old.waiting.me boot es old.log new.log says) entries_are
            (subst (λ n. Applied steps content n boot entries old.log new.log says) a.waits_me
            (subst (λ (log : LogState B M). Applied steps content mid.waiting.me boot entries log new.log says) a.log p)));
        end = at_end;
      }

  pub taken : (o : Outcome B) (old mid new last : Parted B M K) (boot : ℕ) (entries : List (Entry B)) (says : List Y) → Adopts o old mid
      → Applied steps content mid.waiting.me boot entries mid.log new.log says → entries ≡ o.applied → boot ≡ old.node.state.rows.boot
      → OnlyLog mid new → IsAtEnd new.log → (result : Result (Vec Y Global) (ActorFault Y)) → AnswersUp says new last result
      → TakesIn steps content o old last result
  taken o old mid new last boot entries says a p entries_are boot_is l at_end (Ok found) h =
      let t : Takes steps content o old new says = takes_of o old mid new boot entries says a p entries_are boot_is l at_end in (
        ap (λ (x : Parted B M K). x.node.state.up) h.1 ∙ h.0,
        ap (λ (x : Parted B M K). x.spoiled) h.1 ∙ l.spoiled ∙ a.spoiled,
        subst (Takes steps content o old last) (sym h.2) (subst (λ (x : Parted B M K). Takes steps content o old x says) (sym h.1) t),
      )
  taken o old mid new last boot entries says a p entries_are boot_is l at_end (Err (LostHere found)) h =
      let t : Takes steps content o old new says = takes_of o old mid new boot entries says a p entries_are boot_is l at_end in
      let u : Takes steps content o old (record new { spoiled = true }) says =
      record { node = t.node; waits = t.waits; keeper = t.keeper; failed = t.failed; applied = t.applied; end = t.end } in (
        ap (λ (x : Parted B M K). x.node.state.up) h.1 ∙ h.0,
        ap (λ (x : Parted B M K). x.spoiled) h.1,
        subst (Takes steps content o old last) (sym h.2) (subst (λ (x : Parted B M K). Takes steps content o old x says) (sym h.1) u),
      )
  taken o old mid new last boot entries says a p entries_are boot_is l at_end (Err (Keeper fault)) h = h
  taken o old mid new last boot entries says a p entries_are boot_is l at_end (Err Memory) h = absurd h
  taken o old mid new last boot entries says a p entries_are boot_is l at_end (Err Worn) h = absurd h
  taken o old mid new last boot entries says a p entries_are boot_is l at_end (Err Failed) h = h
  taken o old mid new last boot entries says a p entries_are boot_is l at_end (Err Rounds) h = h
  taken o old mid new last boot entries says a p entries_are boot_is l at_end (Err Full) h = h
  taken o old mid new last boot entries says a p entries_are boot_is l at_end (Err Disagree) h = h

  pub not_followed : (o : Outcome B) (old mid new : Parted B M K) (entries : List (Entry B)) → Adopts o old mid → OnlyLog mid new → entries ≡ o.applied
      → IsPrefixOf new.log.applied (mid.log.applied ++ entries) → TakesNot steps content o old (record new { spoiled = true })
  not_followed o old mid new entries a l entries_are front =
      record {
        node = ap (λ n. n.state) l.node ∙ a.node;
        front = prefix_to new.log.applied (mid.log.applied ++ entries) (old.log.applied ++ o.applied) front
            (λ i. (a.log i).applied ++ entries_are i);
        waits = subst (WaitBehind o.packets old.waiting) (sym l.waiting) a.waits;
        keeper = l.keeper ∙ a.keeper;
        failed = l.failed ∙ a.failed;
      }

module _ {B Y M K : Type 0} where
  pub taken_who : (o : Outcome B) (old mid new last : Parted B M K) (says : List Y) → Adopts o old mid → OnlyLog mid new
      → (result : Result (Vec Y Global) (ActorFault Y)) → AnswersUp says new last result → StaysWho old last
  taken_who o old mid new last says a l result h = who_of (last_is result h)
    where
      last_is : (result : Result (Vec Y Global) (ActorFault Y)) → AnswersUp says new last result
          → (last.node ≡ new.node) × (last.waiting ≡ new.waiting)
      last_is (Ok found) h = (ap (λ (x : Parted B M K). x.node) h.1, ap (λ (x : Parted B M K). x.waiting) h.1)
      last_is (Err (LostHere found)) h = (ap (λ (x : Parted B M K). x.node) h.1, ap (λ (x : Parted B M K). x.waiting) h.1)
      last_is (Err (Keeper fault)) h = absurd h
      last_is (Err Memory) h = absurd h
      last_is (Err Worn) h = absurd h
      last_is (Err Failed) h = absurd h
      last_is (Err Rounds) h = absurd h
      last_is (Err Full) h = absurd h
      last_is (Err Disagree) h = absurd h

      who_of : (last.node ≡ new.node) × (last.waiting ≡ new.waiting) → StaysWho old last
      who_of e =
          record {
            me = ap (λ n. n.me) e.0 ∙ ap (λ n. n.me) l.node ∙ a.me;
            members = ap (λ n. n.members) e.0 ∙ ap (λ n. n.members) l.node ∙ a.members;
            waits_me = ap (λ w. w.me) e.1 ∙ ap (λ w. w.me) l.waiting ∙ a.waits_me;
            waits_members = ap (λ w. w.members) e.1 ∙ ap (λ w. w.members) l.waiting ∙ a.waits_members;
          }

module _ {B M K : Type 0} (same : B → B → Bool) (holds : K → Rows B → Type 0) (is_failed : K → Bool) where
  pub stopped_sound : (old mid : Parted B M K) → IsSound same holds is_failed old → old.spoiled ≡ false → Roomed old mid
      → IsSound same holds is_failed (record mid { spoiled = true })
  stopped_sound old mid sound fresh r =
      let who = roomed_who old mid r in
      sound_spoiled same holds is_failed old (record mid { spoiled = true }) sound
      (record { me = who.me; members = who.members; waits_me = who.waits_me; waits_members = who.waits_members }) refl
      (λ up. prefix_whole mid.log.applied mid.node.state.applied
      (ap (λ (log : LogState B M). log.applied) r.rest.log ∙ (sound.serves fresh).followed ∙ ap (λ x. x.applied) (sym r.state)))

  pub fallen_sound : (o : Outcome B) (old mid new : Parted B M K) → IsSound same holds is_failed old → old.spoiled ≡ false
      → Roomed old mid → OnlyKeeper mid new → IsSound same holds is_failed (record new { failed = Some (One o); spoiled = true })
  fallen_sound o old mid new sound fresh r k =
      let who = kept_who old mid new r k in
      sound_spoiled same holds is_failed old (record new { failed = Some (One o); spoiled = true }) sound
      (record { me = who.me; members = who.members; waits_me = who.waits_me; waits_members = who.waits_members }) refl
      (λ up. prefix_whole new.log.applied new.node.state.applied
      (ap (λ (log : LogState B M). log.applied) (k.log ∙ r.rest.log) ∙ (sound.serves fresh).followed
      ∙ ap (λ x. x.applied) (sym (ap (λ n. n.state) k.node ∙ r.state))))

  pub spoiled_sound : (old : Parted B M K) → IsSound same holds is_failed old → old.spoiled ≡ false → IsSound same holds is_failed (record old { spoiled = true })
  spoiled_sound old sound fresh =
      sound_spoiled same holds is_failed old (record old { spoiled = true }) sound (record { me = refl; members = refl; waits_me = refl; waits_members = refl })
      refl
      (λ up. prefix_whole old.log.applied old.node.state.applied (sound.serves fresh).followed)

module _ {B M K : Type 0} where
  pub stopped_who : (old mid : Parted B M K) → Roomed old mid → StaysWho old (record mid { spoiled = true })
  stopped_who old mid r =
      let who = roomed_who old mid r in
      record { me = who.me; members = who.members; waits_me = who.waits_me; waits_members = who.waits_members }

  pub fallen_who : (o : Outcome B) (old mid new : Parted B M K) → Roomed old mid → OnlyKeeper mid new
      → StaysWho old (record new { failed = Some (One o); spoiled = true })
  fallen_who o old mid new r k =
      let who = kept_who old mid new r k in
      record { me = who.me; members = who.members; waits_me = who.waits_me; waits_members = who.waits_members }

  -- other packets wait

  pub only_waiting : (old new : Parted B M K) → OnlyWaiting old new → new ≡ record old { waiting = new.waiting }
  only_waiting old new r =
      λ i. record { node = r.node i; keeper = r.keeper i; waiting = new.waiting; log = r.log i; failed = r.failed i; spoiled = r.spoiled i }

  pub sound_still : (same : B → B → Bool) (holds : K → Rows B → Type 0) (is_failed : K → Bool) (old new : Parted B M K) → OnlyWaiting old new
      → IsSound same holds is_failed old → IsSound same holds is_failed new
  sound_still same holds is_failed old new r sound =
      subst (IsSound same holds is_failed) (sym (only_waiting old new r)) (record {
        me = r.me ∙ sound.me;
        members = r.members ∙ sound.members;
        member = sound.member;
        serves = λ e. let s = sound.serves e in record {
          up = s.up;
          held = s.held;
          floor = s.floor;
          whole = s.whole;
          followed = s.followed;
          alive = s.alive;
          committed = s.committed;
          ahead = s.ahead;
        };
        front = sound.front;
      })
