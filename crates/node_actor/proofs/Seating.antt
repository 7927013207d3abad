-- An actor's seat, and what an event makes of it.
use Rattle.std.proofs.Common.{◌≡◌, ℕ, true, Bool, Option, Some, None, Result, Ok, Err}
use Rattle.std.proofs.Common.{List, ◌++◌, length, get_or, sym, ap, subst, ◌∙◌, refl}
use Rattle.std.proofs.Common.{◌-◌}
use Rattle.std.specs.Prelude.{◌==◌, All, Contains}
use Rattle.std.proofs.lemmas.List.{get_or_default}
use Rattle.std.proofs.lemmas.List.Elements.{All-drop, All-append, All-weaker, All-filter, Contains-append_left, Contains-append_right}
use Rattle.std.specs.declared.vec.Vec.{Vec}
use Rattle.std.specs.declared.alloc.Global.{Global}
use Rattle.paxos_packets.specs.declared.packet.Packet.{Packet}
use Rattle.paxos_packets.specs.declared.rows.Rows.{Rows}
use Rattle.replica_machine.specs.Log.{LogState}
use Rattle.replica_machine.specs.Replay.{Steps}
use Rattle.actor_outboxes.specs.Outboxes.{most_waiting, waiting, to, IsPeer, WaitBehind}
use Rattle.paxos_node.specs.Adopting.{adopted}
use Rattle.paxos_node.specs.Held.{Held}
use Rattle.paxos_node.specs.declared.outcome.Outcome.{Outcome}
use Rattle.mail_table.specs.Boxes.{Follows}
use Rattle.mail_table.specs.Seats.{Seated}
use Rattle.actor_parts.specs.declared.fault.ActorFault.{ActorFault}
use Rattle.actor_parts.specs.declared.fault.ActorFault.TheVariants.{Failed, Rounds, Full, Keeper, Disagree, LostHere, Worn, Memory}
use Rattle.actor_parts.specs.Parts.{Parted, IsPlan, IsSound}
use Rattle.actor_parts.specs.Tried.{IsMeant}
use Rattle.actor_parts.specs.declared.tried.FailedCommit.{FailedCommit}
use Rattle.actor_parts.specs.declared.tried.FailedCommit.TheVariants.{One}
use Rattle.actor_parts.specs.Steps.{next_node, StaysWho, TakesIn, OnlyKeeper}
use Rattle.actor_parts.proofs.Carrying.{next_same, some_same, Ready, Roomed, roomed_who, kept_who, who_on}
use Rattle.node_actor.specs.Actor.{acting, IsSeated}
use Rattle.node_actor.specs.Posts.{advanced, MayYet}
use Rattle.node_actor.specs.Turns.{StaysAt}
use Rattle.node_actor.specs.Views.{StandsFor}

all_in : {A : Type 0} (xs : List A) → All (Contains xs) xs
all_in xs = λ k d h. (k, h, get_or_default xs k (get_or xs k d) d h)

-- no commit failed
pub none_meant : {F : Type 0} (P : F → Type 0) (f : Option F) → f ≡ None → (m : F) → f ≡ Some m → P m
none_meant {F = F} P f none m some = absurd (let off : ◌≡◌ {A = Option F} None (Some m) = sym none ∙ some in cc)

-- what a failed commit was to leave is planned of the node that the seat knows, and its steps may yet be taken
abbrev pub MayLeave : {B : Type 0} → (B → B → Bool) → Held B → Seated B → FailedCommit B → Type 0
MayLeave same h s m = IsMeant same h.me h.members s.part.seen.node m × MayYet same s.members s.part m

module _ {B M K : Type 0} where
  pub peer_of : (old : Parted B M K) → old.waiting.me ≡ old.node.me → old.waiting.members ≡ old.node.members → (k : ℕ)
      → IsPeer old.node.me old.node.members k → IsPeer old.waiting.me old.waiting.members k
  peer_of old me members k peer =
      subst (λ n. IsPeer n old.waiting.members k) (sym me) (subst (λ n. IsPeer old.node.me n k) (sym members) peer)

  peer_before : (old new : Parted B M K) → StaysWho old new → (k : ℕ) → IsPeer new.node.me new.node.members k
      → IsPeer old.node.me old.node.members k
  peer_before old new who k peer =
      subst (λ n. IsPeer n old.node.members k) who.me (subst (λ n. IsPeer new.node.me n k) who.members peer)

  -- what waits once more packets do was sent, or is among these
  pub sent_still : (old new : Parted B M K) (packets sent : List (Packet B)) → old.waiting.me ≡ old.node.me
      → old.waiting.members ≡ old.node.members
      → StaysWho old new → ((k : ℕ) → IsPeer old.node.me old.node.members k → All (Contains sent) (waiting k old.waiting))
      → WaitBehind packets old.waiting new.waiting → (k : ℕ) → IsPeer new.node.me new.node.members k
      → All (Contains (sent ++ packets)) (waiting k new.waiting)
  sent_still old new packets sent me members who stands waits k peer =
      let was = peer_before old new who k peer in
      let P : Packet B → Type 0 = Contains (sent ++ packets) in
      let front : All P (waiting k old.waiting) =
      All-weaker (Contains sent) P (λ p. Contains-append_left sent packets p) (waiting k old.waiting) (stands k was) in
      let new_ones : All P (to k packets) = All-filter (λ p. p.addressee == k) P packets
      (All-weaker (Contains packets) P (λ p. Contains-append_right sent packets p) packets (all_in packets)) in
      let both : All P (waiting k old.waiting ++ to k packets) = All-append P (waiting k old.waiting) (to k packets) front new_ones in
      subst (All P) (sym (waits k (peer_of old me members k was)))
      (All-drop P (length (waiting k old.waiting ++ to k packets) - most_waiting) (waiting k old.waiting ++ to k packets) both)

module _ {B M K : Type 0} (same : B → B → Bool) where
  -- the actor stands for what its seat knows
  pub seated_stands : (p : Parted B M K) (s : Seated B) → IsSeated same (acting p s) → StandsFor (acting p s) s
  seated_stands p s seated =
      record { seat = refl; node = λ up. sym (seated.node up); rows = sym seated.same_rows; waits = seated.waits }

  -- nothing of node and outboxes is new
  pub seated_still : (old new : Parted B M K) (s : Seated B) → StaysWho old new → new.node.state ≡ old.node.state
      → new.waiting ≡ old.waiting
      → ((m : FailedCommit B) → new.failed ≡ Some m → MayLeave same new.node s m) → IsSeated same (acting old s)
      → IsSeated same (acting new s)
  seated_still old new s who state waits failed seated =
      record {
        me = seated.me ∙ sym who.me;
        members = seated.members ∙ sym who.members;
        node = λ up. seated.node (ap (λ x. x.up) (sym state) ∙ up) ∙ sym state;
        same_rows = seated.same_rows ∙ ap (λ x. x.rows) (sym state);
        rows = seated.rows;
        opened = seated.opened;
        waits = λ k peer. subst (λ w. All (Contains s.part.seen.sent) (waiting k w)) (sym waits)
            (seated.waits k (peer_before old new who k peer));
        failed = failed;
      }

  -- the seat has taken the step of an outcome, and the parts took it over
  pub seated_moved : (o : Outcome B) (old new : Parted B M K) (s t : Seated B) → t ≡ advanced o s → old.waiting.me ≡ old.node.me
      → old.waiting.members ≡ old.node.members → StaysWho old new → new.node.state ≡ next_node o old
      → WaitBehind o.packets old.waiting new.waiting
      → new.failed ≡ None → old.node.state.up ≡ true → IsSeated same (acting old s) → IsSeated same (acting new t)
  seated_moved o old new s t is me members who state waits failed up seated =
      let node : (advanced o s).part.seen.node ≡ new.node.state =
      (λ i. adopted (seated.me i) (seated.members i) o (seated.node up i)) ∙ sym state in
      subst (λ z. IsSeated same (acting new z)) (sym is) (record {
        me = seated.me ∙ sym who.me;
        members = seated.members ∙ sym who.members;
        node = λ new_up. node;
        same_rows = ap (λ x. x.rows) node;
        rows = seated.rows;
        opened = seated.opened;
        waits = sent_still old new o.packets s.part.seen.sent me members who seated.waits waits;
        failed = none_meant (MayLeave same new.node (advanced o s)) new.failed failed;
      })

  -- the parts that took it over
  module _ {S Y : Type 0} (steps : Steps B S Y) (content : M → S) where
    over : (o : Outcome B) (old new : Parted B M K) (result : Result (Vec Y Global) (ActorFault Y)) → TakesIn steps content o old new result
        → (new.node.state ≡ next_node o old) × WaitBehind o.packets old.waiting new.waiting × (new.failed ≡ old.failed)
    over o old new (Ok says) h = (h.2.node, h.2.waits, h.2.failed)
    over o old new (Err (LostHere says)) h = (h.2.node, h.2.waits, h.2.failed)
    over o old new (Err Memory) h = (h.1.node, h.1.waits, h.1.failed)
    over o old new (Err (Keeper fault)) h = absurd h
    over o old new (Err Worn) h = absurd h
    over o old new (Err Failed) h = absurd h
    over o old new (Err Rounds) h = absurd h
    over o old new (Err Full) h = absurd h
    over o old new (Err Disagree) h = absurd h

    pub seated_on : (holds : K → Rows B → Type 0) (is_failed : K → Bool) (base : LogState B M) (o : Outcome B) (old mid new : Parted B M K)
        (s t : Seated B)
        → t ≡ advanced o s
        → IsSound same holds is_failed old → Ready holds is_failed base o old mid → old.failed ≡ None → old.node.state.up ≡ true
        → StaysWho mid new
        → (result : Result (Vec Y Global) (ActorFault Y)) → TakesIn steps content o mid new result → IsSeated same (acting old s)
        → IsSeated same (acting new t)
    seated_on holds is_failed base o old mid new s t is sound r none up who result h seated =
        let did = over o mid new result h in
        seated_moved o old new s t is sound.me sound.members (who_on old mid new r.who who)
        (did.0 ∙ next_same o old mid r.who.me r.who.members r.state) (subst (λ w. WaitBehind o.packets w new.waiting) r.waiting did.1)
        (did.2 ∙ r.failed ∙ none) up seated

  -- nothing but tries and packets that were received is new at the seat
  pub seated_at : (p : Parted B M K) (s t : Seated B) → p.failed ≡ None → t.members ≡ s.members → t.part.me ≡ s.part.me
      → t.part.seen ≡ s.part.seen
      → IsSeated same (acting p s) → IsSeated same (acting p t)
  seated_at p s t none members me seen seated =
      record {
        me = me ∙ seated.me;
        members = members ∙ seated.members;
        node = λ up. ap (λ x. x.node) seen ∙ seated.node up;
        same_rows = ap (λ x. x.node.rows) seen ∙ seated.same_rows;
        rows = seated.rows;
        opened = ap (λ x. x.opened) seen ∙ seated.opened;
        waits = λ k peer. subst (λ x. All (Contains x.sent) (waiting k p.waiting)) (sym seen) (seated.waits k peer);
        failed = none_meant (MayLeave same p.node t) p.failed none;
      }

  -- room was made, and the actor has ended
  pub seated_stopped : (old mid : Parted B M K) (s : Seated B) → old.failed ≡ None → Roomed old mid → IsSeated same (acting old s)
      → IsSeated same (acting (record mid { spoiled = true }) s)
  seated_stopped old mid s none r seated =
      let who = roomed_who old mid r in
      seated_still old (record mid { spoiled = true }) s
      (record { me = who.me; members = who.members; waits_me = who.waits_me; waits_members = who.waits_members }) r.state r.rest.waiting
      (none_meant (MayLeave same mid.node s) mid.failed (r.rest.failed ∙ none)) seated

  -- the commit failed
  pub seated_fallen : (o : Outcome B) (old mid new : Parted B M K) (s : Seated B) → Follows same s.members s.part o → Roomed old mid
      → OnlyKeeper mid new → IsPlan same old.node.me old.node.members old.node.state o → old.node.state.up ≡ true
      → IsSeated same (acting old s) → IsSeated same (acting (record new { failed = Some (One o); spoiled = true }) s)
  seated_fallen o old mid new s follows r k plan up seated =
      let who = kept_who old mid new r k in
      let still : IsPlan same new.node.me new.node.members s.part.seen.node o =
      subst (λ x. IsPlan same new.node.me new.node.members x o) (sym (seated.node up))
      (subst (λ n. IsPlan same new.node.me n old.node.state o) (sym who.members)
      (subst (λ n. IsPlan same n old.node.members old.node.state o) (sym who.me) plan)) in
      seated_still old (record new { failed = Some (One o); spoiled = true }) s
      (record { me = who.me; members = who.members; waits_me = who.waits_me; waits_members = who.waits_members })
      (ap (λ n. n.state) k.node ∙ r.state) (k.waiting ∙ r.rest.waiting)
      (λ m e. subst (MayLeave same new.node s) (some_same (One o) m e) (still, follows)) seated

  pub seated_spoiled : (old : Parted B M K) (s : Seated B) → IsSeated same (acting old s)
      → IsSeated same (acting (record old { spoiled = true }) s)
  seated_spoiled old s seated =
      seated_still old (record old { spoiled = true }) s (record { me = refl; members = refl; waits_me = refl; waits_members = refl }) refl
      refl
      seated.failed seated

-- what an event leaves alone at its seat

module _ {B : Type 0} where
  pub stays_there : (s : Seated B) → StaysAt s s
  stays_there s = record { table = refl; me = refl; tried = refl; received = refl; posted = refl }

  pub stays_on : (o : Outcome B) (s t : Seated B) → t ≡ advanced o s → StaysAt s t
  stays_on o s t is = subst (StaysAt s) (sym is) (record { table = refl; me = refl; tried = refl; received = refl; posted = refl })
