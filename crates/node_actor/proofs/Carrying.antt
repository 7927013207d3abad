-- What is made of a planned outcome, step after step, with the step at the table.
use Rattle.std.proofs.Common.{◌≡◌, inl, inr, ℕ, ◌<◌, Bool, true, false, Some, Result, Ok, Err, List, ◌++◌, sym, ap, subst, ◌∙◌, refl}
use Rattle.std.proofs.lemmas.Bool.{false≢true}
use Rattle.std.specs.declared.vec.Vec.{Vec}
use Rattle.std.specs.declared.alloc.Global.{Global}
use Rattle.paxos_packets.specs.Snapshot.{floor_in}
use Rattle.paxos_packets.specs.declared.rows.Rows.{Rows}
use Rattle.paxos_packets.specs.Members.{IsMember}
use Rattle.paxos_acceptor.specs.Acceptor as accepting
use Rattle.store_keeper.specs.declared.fault.KeeperFault.{KeeperFault}
use Rattle.replica_machine.specs.Log.{LogState}
use Rattle.replica_machine.specs.Replay.{Steps}
use Rattle.actor_outboxes.specs.Outboxes.{Waiting, WaitBehind}
use Rattle.paxos_node.specs.declared.outcome.Outcome.{Outcome}
use Rattle.paxos_planning.specs.Node.{NodeState}
use Rattle.mail_table.specs.Seats.{Seated}
use Rattle.actor_parts.specs.declared.fault.ActorFault.{ActorFault}
use Rattle.actor_parts.specs.declared.fault.ActorFault.TheVariants.{Failed, Rounds, Full, Keeper, Disagree, LostHere, Worn, Memory}
use Rattle.actor_parts.specs.Parts.{Parted, IsServing, IsSound}
use Rattle.actor_parts.specs.declared.tried.FailedCommit.TheVariants.{One}
use Rattle.actor_parts.specs.Snapshots.{IsBase}
use Rattle.actor_parts.specs.Steps.{Falls, Applied, OnlyKeeper, next_node, StaysWho, Takes, TakesIn}
use Rattle.actor_parts.proofs.Carrying.{next_rows, not_down, is_down, next_applied, prefix_whole}
use Rattle.actor_parts.proofs.Carrying.{prefix_to, next_same, sound_spoiled, Ready}
use Rattle.actor_parts.proofs.Carrying.{Roomed, who_on}
use Rattle.node_actor.specs.Actor.{acting}
use Rattle.node_actor.specs.Posts.{advanced}
use Rattle.node_actor.specs.Steps.{may_advance, TakesOver, StopsBefore, CarriesOut}

module _ {B S Y M K : Type 0} (steps : Steps B S Y) (content : M → S) (holds : K → Rows B → Type 0) (finds : K → Rows B → Type 0)
    (failures : K → ℕ) (is_failed : K → Bool) (same : B → B → Bool) where
  over_of : (base : LogState B M) (o : Outcome B) (old mid new : Parted B M K) (s t : Seated B) (says : List Y) → t ≡ advanced o s
      → IsSound same holds is_failed old → IsServing holds is_failed old
      → Ready holds is_failed base o old mid → Takes steps content o mid new says
      → TakesOver steps content holds finds failures base o (acting old s) (acting new t) says
  over_of base o old mid new s t says is sound serving r takes =
      let same_node : next_node o mid ≡ next_node o old = next_same o old mid r.who.me r.who.members r.state in
      let rows : (next_node o old).rows ≡ accepting.adopted old.node.state.rows o.change = next_rows old.node.me old.node.members o
      old.node.state in
      let p : Applied steps content old.node.me old.node.state.rows.boot o.applied base new.log says =
      subst (λ (log : LogState B M). Applied steps content old.node.me old.node.state.rows.boot o.applied log new.log says) r.log
      (subst (λ b. Applied steps content old.node.me b o.applied mid.log new.log says) (ap (λ x. x.rows.boot) r.state)
      (subst (λ n. Applied steps content n mid.node.state.rows.boot o.applied mid.log new.log says) (ap (λ w. w.me) r.waiting
      ∙ sound.me) takes.applied)) in
      record {
        node = takes.node ∙ same_node;
        held = subst (λ k. holds k (next_node o old).rows) (sym takes.keeper) (subst (holds mid.keeper) (sym rows) r.held);
        waits = subst (λ (w : Waiting B). WaitBehind o.packets w new.waiting) r.waiting takes.waits;
        failed = takes.failed ∙ r.failed ∙ serving.committed;
        seat = is;
        says = p.says;
        follows = p.follows;
      }

  pub carried_on : (base : LogState B M) (o : Outcome B) (old mid new : Parted B M K) (s t : Seated B) → t ≡ advanced o s
      → may_advance s ≡ true → IsSound same holds is_failed old → IsServing holds is_failed old
      → Ready holds is_failed base o old mid → old.spoiled ≡ false → (result : Result (Vec Y Global) (ActorFault Y))
      → TakesIn steps content o mid new result → CarriesOut steps content holds finds failures base o (acting old s) (acting new t) result
  carried_on base o old mid new s t is may sound serving r goes (Ok says) h =
      let over = over_of base o old mid new s t says.items is sound serving r h.2 in (
        may,
        not_down old.node.me old.node.members o old.node.state serving.up (ap (λ x. x.up) (sym over.node) ∙ h.0),
        h.1 ∙ r.spoiled
            ∙ goes,
        over,
      )
  carried_on base o old mid new s t is may sound serving r goes (Err (LostHere says)) h =
      let over = over_of base o old mid new s t says.items is sound serving r h.2 in
      (may, is_down old.node.me old.node.members o old.node.state serving.up (ap (λ x. x.up) (sym over.node) ∙ h.0), h.1, over)
  carried_on base o old mid new s t is may sound serving r goes (Err Memory) h =
      let rows : (next_node o old).rows ≡ accepting.adopted old.node.state.rows o.change = next_rows old.node.me old.node.members o
      old.node.state in (
        may,
        h.0,
        inr (record {
          seat = is;
          node = h.1.node ∙ next_same o old mid r.who.me r.who.members r.state;
          held = subst (λ k. holds k (next_node o old).rows) (sym h.1.keeper) (subst (holds mid.keeper) (sym rows) r.held);
          waits = subst (λ (w : Waiting B). WaitBehind o.packets w new.waiting) r.waiting h.1.waits;
          failed = h.1.failed ∙ r.failed ∙ serving.committed;
          front = prefix_to new.log.applied (mid.log.applied ++ o.applied) (base.applied ++ o.applied) h.1.front
              (ap (λ (log : LogState B M). log.applied ++ o.applied) r.log);
        }),
      )
  carried_on base o old mid new s t is may sound serving r goes (Err (Keeper fault)) h = absurd h
  carried_on base o old mid new s t is may sound serving r goes (Err Worn) h = absurd h
  carried_on base o old mid new s t is may sound serving r goes (Err Failed) h = h
  carried_on base o old mid new s t is may sound serving r goes (Err Rounds) h = h
  carried_on base o old mid new s t is may sound serving r goes (Err Full) h = h
  carried_on base o old mid new s t is may sound serving r goes (Err Disagree) h = h

  -- and the actor is sound then
  pub sound_on : (base : LogState B M) (o : Outcome B) (old mid new : Parted B M K) (s : Seated B) → IsSound same holds is_failed old
      → IsServing holds is_failed old
      → Ready holds is_failed base o old mid → IsBase o old.node.state base → StaysWho mid new → (result : Result (Vec Y Global) (ActorFault Y))
      → TakesIn steps content o mid new result → IsSound same holds is_failed new
  sound_on base o old mid new s sound serving r is_base who (Ok says) h =
      let over = over_of base o old mid new s (advanced o s) says.items refl sound serving r h.2 in
      let all : StaysWho old new = who_on old mid new r.who who in
      let down_not : o.is_down ≡ false = not_down old.node.me old.node.members o old.node.state serving.up
      (ap (λ x. x.up) (sym over.node) ∙ h.0) in
      let followed : new.log.applied ≡ new.node.state.applied =
      h.2.applied.applied ∙ ap (λ (log : LogState B M). log.applied ++ o.applied) r.log ∙ ap (λ log. log ++ o.applied) is_base.applied
      ∙ sym (next_applied old.node.me old.node.members o old.node.state down_not) ∙ ap (λ x. x.applied) (sym over.node) in
      record {
        me = all.waits_me ∙ sound.me ∙ sym all.me;
        members = all.waits_members ∙ sound.members ∙ sym all.members;
        member = subst (λ n. IsMember n new.node.me) (sym all.members) (subst (IsMember old.node.members) (sym all.me) sound.member);
        serves = λ e. record {
          up = h.0;
          held = subst (λ x. holds new.keeper x.rows) (sym over.node) over.held;
          floor = h.2.applied.floor ∙ ap (λ (log : LogState B M). log.floor) r.log ∙ is_base.floor
              ∙ ap (λ (x : Rows B). floor_in x.snapshot) (sym (next_rows old.node.me old.node.members o old.node.state))
              ∙ ap (λ (x : NodeState B). floor_in x.rows.snapshot) (sym over.node);
          whole = ap is_failed h.2.keeper ∙ r.whole;
          followed = followed;
          alive = h.2.applied.alive;
          committed = over.failed;
          ahead = h.2.end;
        };
        front = λ up. prefix_whole new.log.applied new.node.state.applied followed;
      }
  sound_on base o old mid new s sound serving r is_base who (Err (LostHere says)) h =
      sound_spoiled same holds is_failed old new sound (who_on old mid new r.who who) h.1
      (λ up. absurd (false≢true (sym h.0 ∙ up)))
  sound_on base o old mid new s sound serving r is_base who (Err Memory) h =
      let node : new.node.state ≡ next_node o old = h.1.node ∙ next_same o old mid r.who.me r.who.members r.state in
      sound_spoiled same holds is_failed old new sound (who_on old mid new r.who who) h.0
      (λ up.
      let down_not : o.is_down ≡ false = not_down old.node.me old.node.members o old.node.state serving.up (ap (λ x. x.up) (sym node)
      ∙ up) in
      prefix_to new.log.applied (mid.log.applied ++ o.applied) new.node.state.applied h.1.front
      (ap (λ (log : LogState B M). log.applied ++ o.applied) r.log ∙ ap (λ log. log ++ o.applied) is_base.applied
      ∙ sym (next_applied old.node.me old.node.members o old.node.state down_not) ∙ ap (λ x. x.applied) (sym node)))
  sound_on base o old mid new s sound serving r is_base who (Err (Keeper fault)) h = absurd h
  sound_on base o old mid new s sound serving r is_base who (Err Worn) h = absurd h
  sound_on base o old mid new s sound serving r is_base who (Err Failed) h = absurd h
  sound_on base o old mid new s sound serving r is_base who (Err Rounds) h = absurd h
  sound_on base o old mid new s sound serving r is_base who (Err Full) h = absurd h
  sound_on base o old mid new s sound serving r is_base who (Err Disagree) h = absurd h

module _ {B S Y M K : Type 0} (steps : Steps B S Y) (content : M → S) (holds : K → Rows B → Type 0) (finds : K → Rows B → Type 0)
    (failures : K → ℕ) (is_failed : K → Bool) where
  -- there was no memory for room
  pub stopped : (base : LogState B M) (o : Outcome B) (old mid : Parted B M K) (s : Seated B) → may_advance s ≡ true → IsServing holds is_failed old → Roomed old mid
      → CarriesOut steps content holds finds failures base o (acting old s) (acting (record mid { spoiled = true }) s) (Err Memory)
  stopped base o old mid s may serving r = (
    may,
    refl,
    inl (record {
      node = r.state;
      held = subst (λ k. holds k old.node.state.rows) (sym r.rest.keeper) serving.held;
      waits = r.rest.waiting;
      failed = r.rest.failed ∙ serving.committed;
      log = r.rest.log;
      seat = refl;
    }),
  )

  -- the word counts no more
  pub worn_out : (base : LogState B M) (o : Outcome B) (old : Parted B M K) (s : Seated B) → may_advance s ≡ false → IsServing holds is_failed old
      → CarriesOut steps content holds finds failures base o (acting old s) (acting (record old { spoiled = true }) s) (Err Worn)
  worn_out base o old s worn serving = (
    worn,
    refl,
    record { node = refl; held = serving.held; waits = refl; failed = serving.committed; log = refl; seat = refl },
  )

  -- the commit failed
  pub fallen : (base : LogState B M) (o : Outcome B) (old mid new : Parted B M K) (s : Seated B) (fault : KeeperFault) → may_advance s ≡ true
      → IsServing holds is_failed old → Roomed old mid → OnlyKeeper mid new
      → (holds mid.keeper mid.node.state.rows → Falls finds failures o.change mid.node.state.rows mid.keeper new.keeper fault)
      → CarriesOut steps content holds finds failures base o (acting old s) (acting (record new { failed = Some (One o); spoiled = true }) s)
      (Err (Keeper fault))
  fallen base o old mid new s fault may serving r k falls =
      let h = subst (λ (x : NodeState B). holds old.keeper x.rows) (sym r.state) serving.held in
      let f = subst (λ (x : NodeState B). Falls finds failures o.change x.rows mid.keeper new.keeper fault) r.state
      (falls (subst (λ s. holds s mid.node.state.rows) (sym r.rest.keeper) h)) in (
        may,
        refl,
        record {
          node = ap (λ n. n.state) k.node ∙ r.state;
          waits = k.waiting ∙ r.rest.waiting;
          log = k.log ∙ r.rest.log;
          falls = record { found = f.found; cause = λ e. subst (λ s. failures s < failures new.keeper) r.rest.keeper (f.cause e) };
          failed = refl;
          seat = refl;
        },
      )

  -- nothing was done but that the actor has ended
  pub ended_before : (old : Parted B M K) (s : Seated B) → IsServing holds is_failed old
      → StopsBefore steps content holds finds failures (acting old s) (acting (record old { spoiled = true }) s)
  ended_before old s serving =
      record { node = refl; held = serving.held; waits = refl; failed = serving.committed; log = refl; seat = refl }
