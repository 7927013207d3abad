-- A round goes from one other member to the next, and posts after that.
use Rattle.std.proofs.Common.{◌≡◌, ◌⊎◌, inl, inr, ◌<◌, ◌≤◌, ◌-◌, ◌+◌, ℕ, suc, Bool, not, true, false, List, [], ◌∷◌, ◌++◌, cond}
use Rattle.std.proofs.Common.{ap, sym, subst, ◌∙◌, refl, arith, ⊎_elim, Option, Result, Ok, Err}
use Rattle.std.specs.Prelude.{◌==◌, if◌then◌else◌}
use Rattle.std.specs.declared.vec.Vec.{Vec}
use Rattle.std.specs.declared.alloc.Global.{Global}
use Rattle.std.proofs.lemmas.Bool.{eq-eqb, ne_eqb}
use Rattle.std.proofs.lemmas.List.{append-nil}
use Rattle.cluster_world.specs.Has.{Has, here, there}
use Rattle.paxos_packets.specs.Members.{IsMember, is_in}
use Rattle.paxos_packets.specs.declared.packet.Packet.{Packet}
use Rattle.paxos_packets.specs.declared.rows.Rows.{Rows}
use Rattle.paxos_node.specs.declared.event.Event.{Event}
use Rattle.paxos_node.specs.View.{Viewed}
use Rattle.replica_machine.specs.Log.{IsLogOf}
use Rattle.replica_machine.specs.Replay.{Steps}
use Rattle.actor_outboxes.specs.Outboxes.{IsPeer, due_of, waiting}
use Rattle.actor_parts.specs.declared.fault.ActorFault.{ActorFault}
use Rattle.actor_parts.specs.declared.fault.ActorFault.TheVariants.{Failed}
use Rattle.actor_parts.specs.Parts.{IsSound, Parted}
use Rattle.mail_table.specs.Seats.{Seated, knows}
use Rattle.node_actor.specs.Actor.{Acting, acting, acting_since, IsSeated}
use Rattle.node_actor.specs.EventLists.{sent_in, under_in}
use Rattle.node_actor.specs.MidRound.{Amid, Ended, Heads, MakesAll, Under}
use Rattle.node_actor.specs.Rounds.{PostsAll, PostsEach, PostsNone, none_due, batch_won, batch_lost, Rounded, RoundOf}
use Rattle.node_actor.specs.Rounds.{held_own, made_own, tries_from, waits_behind}
use Rattle.node_actor.specs.Trying.{acting_before}
use Rattle.node_actor.specs.Turns.{after, others_from, round}
use Rattle.node_actor.specs.Views.{View, seen, StandsFor}
use Rattle.node_actor.specs.declared.hearing.Hearing.{Hearing}
use Rattle.node_actor.specs.declared.turning.LastTurn.{LastTurn}
use Rattle.node_actor.proofs.AllRound.{each_is_tried}
use Rattle.node_actor.proofs.RoundNext.{all_end}
use Rattle.node_actor.proofs.RoundSince.{round_since}
use Rattle.node_actor.proofs.Seating.{seated_stands}
use Rattle.node_actor.proofs.Since.{since, stands_since}
use Rattle.node_actor.proofs.TryingNext.{none_before}

has_none : {A : Type 0} (C : Type 0) (x : A) → Has [] x → C
has_none C x h = elim h [ ]

-- members

-- of the members that a round names these were looked at, and the others are still to come
abbrev pub Comes : ℕ → ℕ → ℕ → List ℕ → ℕ → ℕ → Type 0
Comes me n first at from m = (k : ℕ) → Has (round me n first) k → Has at k ⊎ Has (others_from me n from m) k

-- a member is looked at, if it is another
abbrev pub with_other : ℕ → ℕ → List ℕ → List ℕ
with_other me from at = if from == me then at else from ∷ at

one_other : (b : Bool) (from : ℕ) (at rest : List ℕ) (k : ℕ) → Has at k ⊎ Has (cond (not b) (from ∷ rest) rest) k
    → Has (cond b at (from ∷ at)) k ⊎ Has rest k
one_other true from at rest k h = h
one_other false from at rest k (inl h) = inl (there h)
one_other false from at rest k (inr here) = inl here
one_other false from at rest k (inr (there h)) = inr h

pub comes_first : (me n first : ℕ) → Comes me n first [] first n
comes_first me n first k h = inr h

pub comes_next : (me n first : ℕ) (at : List ℕ) (from step : ℕ) → step < n → Comes me n first at from (n - step)
    → Comes me n first (with_other me from at) (after n from) (n - (step + 1))
comes_next me n first at from step left comes k h =
    let one : n - step ≡ suc (n - (step + 1)) = omega (arith, left) in
    one_other (from == me) from at (others_from me n (after n from) (n - (step + 1))) k
    (subst (λ m. Has at k ⊎ Has (others_from me n from m) k) one (comes k h))

-- after the last one each other member was looked at
pub comes_last : (me n first : ℕ) (at : List ℕ) (from step : ℕ) → IsMember n first → n ≤ step → Comes me n first at from (n - step)
    → (k : ℕ) → IsPeer me n k → Has at k
comes_last me n first at from step within over comes k peer =
    let none : n - step ≡ 0 = omega (arith, over) in
    ⊎_elim (λ h. h) (λ h. has_none (Has at k) k (subst (λ m. Has (others_from me n from m) k) none h))
    (comes k (each_is_tried me n first k within peer))

pub is_self : (me from : ℕ) (at : List ℕ) → from ≡ me → with_other me from at ≡ at
is_self me from at e = rw (eq-eqb from me e) refl

pub is_other : (me from : ℕ) (at : List ℕ) → (from ≡ me → ⊥) → with_other me from at ≡ from ∷ at
is_other me from at d = rw (ne_eqb from me d) refl

-- posts

-- what waits is what the round has sent, and nothing was posted before
posts_after : {B M K : Type 0} (k : ℕ) (won : Bool) (some all : List (Packet B)) (now new : Acting B M K) (v w x : View B) → some ≡ all
    → new.waiting ≡ now.waiting → PostsNone k v w → PostsAll k won some now w x → PostsAll k won all new v x
posts_after k won some all now new v w x is still n (none_due h i j e t) =
    none_due h (sym is ∙ i) (ap (waiting k) still ∙ j) (e ∙ n.posted) (t ∙ n.tries)
posts_after k won some all now new v w x is still n (batch_won p more rest h i j e t) =
    batch_won p more rest h (sym is ∙ i) (ap (waiting k) still ∙ j) (e ∙ ap (λ ps. ps ++ due_of (p ∷ more)) n.posted)
    (t ∙ ap (λ ts. ts ++ true ∷ []) n.tries)
posts_after k won some all now new v w x is still n (batch_lost p more rest h i j e t) =
    batch_lost p more rest h (sym is ∙ i) (ap (waiting k) still ∙ j) (e ∙ n.posted) (t ∙ ap (λ ts. ts ++ false ∷ []) n.tries)

module _ {B S Y M K : Type 0} (same : B → B → Bool) (steps : Steps B S Y) (content : M → S) (loaded : List ℕ → Option S)
    (holds : K → Rows B → Type 0) (finds : K → Rows B → Type 0) (failures : K → ℕ) (own : List (Event B)) (old : Acting B M K) (v : View B)
    (start : List Y) where
  -- the own events are made, and no box is looked into yet
  pub amid_first : (from : ℕ) (tried : List (Event B)) (now : Acting B M K) (says : List Y) (noted : List Hearing) → old.spoiled ≡ false
      → (seen v).node.up ≡ true
      → Heads same steps content loaded holds finds failures old v start (made_own same old.node.members own (seen v).node) tried [] now says
      → noted ≡ [] → Amid same steps content loaded holds finds failures own old v start [] from [] tried now says noted
  amid_first from tried now says noted fresh up heads none =
      record {
        fresh = fresh;
        up = up;
        all = made_own same old.node.members own (seen v).node;
        looks = [];
        heads = heads;
        due = refl;
        shown = ap (λ ns. ns ++ []) none;
        tried_at = λ k h. h;
      }

  -- no packet is left, so it is all one whose packets they were
  pub amid_at : (at also : List ℕ) (from last : ℕ) (tried : List (Event B)) (now : Acting B M K) (says : List Y) (noted : List Hearing)
      → also ≡ at → Amid same steps content loaded holds finds failures own old v start at from [] tried now says noted
      → Amid same steps content loaded holds finds failures own old v start also last [] tried now says noted
  amid_at at also from last tried now says noted is a =
      record {
        fresh = a.fresh;
        up = a.up;
        all = a.all;
        looks = a.looks;
        heads = a.heads;
        due = a.due;
        shown = a.shown;
        tried_at = λ k h. a.tried_at k (subst (λ ks. Has ks k) is h);
      }

  -- a fault ended the round as all that were tried were to be made
  pub amid_end : (at : List ℕ) (from : ℕ) (tried : List (Event B)) (mid now : Acting B M K) (was says : List Y) (noted : List Hearing)
      (fault : ActorFault Y) → Amid same steps content loaded holds finds failures own old v start at from [] tried mid was noted
      → MakesAll same steps content loaded holds finds failures tried mid now was says (Err fault)
      → Ended same steps content loaded holds finds failures own old v start now says fault
  amid_end at from tried mid now was says noted fault a m =
      all_end same steps content loaded holds finds failures old v start a.all tried a.looks mid now was says a.heads a.fresh own [] a.due fault m

  -- a fault ended the round, whatever the actor shows of it
  pub ended_since : (o l : LastTurn) (now : Acting B M K) (says : List Y) (fault : ActorFault Y) → old.spoiled ≡ false
      → Ended same steps content loaded holds finds failures own old v start now says fault
      → (said : List Y) × (says ≡ start ++ said)
      × RoundOf same steps content loaded holds finds failures own (since o old) (since l now) v said (Err fault)
  ended_since o l now says fault fresh h =
      (h.0, h.1, round_since same steps content loaded holds finds failures o l old now v own h.0 fault fresh h.2)

  module _ (from : ℕ) (at : List ℕ) (p q : Parted B M K) (s t : Seated B) (says : List Y) (noted : List Hearing) (set : List Bool)
      (a : Amid same steps content loaded holds finds failures own old v start at from [] [] (acting p s) says noted)
      (posts : PostsEach set (acting p s) (acting q t) s t) (seated : IsSeated same (acting q t)) (up : q.node.state.up ≡ true)
      (looked : (k : ℕ) → IsPeer old.node.me old.node.members k → Has at k) where
    -- none is tried, so all are made
    u : Under same steps content loaded holds finds failures old v a.all a.looks a.heads.said (acting p s) s
    u = subst (λ es. Under same steps content loaded holds finds failures old v es a.looks a.heads.said (acting p s) s)
        (sym (a.heads.all_are ∙ append-nil a.heads.made)) a.heads.under

    peer_now : (k : ℕ) → IsPeer old.node.me old.node.members k → IsPeer p.node.me p.node.members k
    peer_now k peer = subst (λ (z : ℕ × ℕ). IsPeer z.0 z.1 k) (λ i. (sym u.me i, sym u.members i)) peer

    peer_then : (k : ℕ) → IsPeer p.node.me p.node.members k → IsPeer old.node.me old.node.members k
    peer_then k peer = subst (λ (z : ℕ × ℕ). IsPeer z.0 z.1 k) (λ i. (u.me i, u.members i)) peer

    -- each other member was looked at, and then it was posted
    rounded : (o l : LastTurn) → l.posted ≡ set → l.came ≡ noted → (held : List (Event B))
        → held ≡ held_own same old.node.members own (seen v).node
        → Rounded same steps content loaded holds finds failures own (since o old) (acting_since l q t) v held a.heads.said
    rounded o l is_posted is_came held held_are =
        record {
          next = t;
          looks = a.looks;
          made = a.all;
          all = sym (append-nil a.all) ∙ a.due;
          walks = record {
            stands = stands_since l (acting q t) t (seated_stands same q t seated);
            table = posts.beside.table ∙ ap (knows t.part) u.walks.table;
            me = posts.beside.me ∙ u.walks.me;
            moved = posts.beside.seen ∙ u.walks.moved;
            received = posts.beside.received ∙ u.walks.received;
            tries = λ k peer. subst (λ n. tries_from n t.part k ≡ tries_from n s.part k) u.members (posts.fetched k (peer_now k peer))
                ∙ u.walks.tries k peer;
            events = posts.beside.events ∙ u.walks.events;
            counted = u.walks.counted;
          };
          agree = u.agree;
          says = u.says;
          follows = λ first under logs l takes.
              subst (λ z. IsLogOf steps content first (under_in same old.node.members logs under a.all (seen v)) z) (sym posts.beside.only.log)
              (u.follows first under logs l takes);
          up = ap (λ x. x.up) (seated.node up) ∙ up;
          rows = subst (λ z. holds z (seen t).node.rows) (sym posts.beside.only.keeper)
              (subst (λ (x : Viewed B). holds p.keeper x.node.rows) (sym posts.beside.seen) u.rows);
          held_are = held_are;
          each_looked = λ k peer. a.tried_at k (looked k peer);
          posts = λ k peer. subst (λ z. PostsAll k (is_in z k) (waits_behind k (sent_in same old.node.members a.all (seen v)) old)
              (acting_since l q t) v t) (sym is_posted)
              (posts_after k (is_in set k) (waiting k p.waiting) (waits_behind k (sent_in same old.node.members a.all (seen v)) old) (acting q t)
              (acting_since l q t) v s t (u.waits k peer) refl (u.posts k peer) (posts.each k (peer_now k peer)));
          others = λ k alien. ap (λ z. is_in z k) is_posted ∙ posts.others k (λ peer. alien (peer_then k peer));
          shown = is_came ∙ sym (append-nil noted) ∙ a.shown;
        }

    pub round_done : (o l : LastTurn) → l.posted ≡ set → l.came ≡ noted → (held : Vec (Event B) Global)
        → held.items ≡ held_own same old.node.members own (seen v).node
        → (said : List Y) × (says ≡ start ++ said)
        × RoundOf same steps content loaded holds finds failures own (since o old) (acting_since l q t) v said (Ok held)
    round_done o l is_posted is_came held held_are = (
      a.heads.said,
      a.heads.are,
      (a.fresh, posts.beside.only.spoiled ∙ u.fresh, rounded o l is_posted is_came held.items held_are),
    )

-- a round began with an actor that had tried nothing

module _ {B S Y M K : Type 0} (same : B → B → Bool) (steps : Steps B S Y) (content : M → S) (loaded : List ℕ → Option S)
    (holds : K → Rows B → Type 0) (finds : K → Rows B → Type 0) (failures : K → ℕ) (is_failed : K → Bool) (own : List (Event B)) (p : Parted B M K)
    (s : Seated B) (start : List Y) (sound : IsSound same holds is_failed p) (seated : IsSeated same (acting p s)) (fresh : p.spoiled ≡ false) where
  begun_up : p.node.state.up ≡ true
  begun_up = (sound.serves fresh).up

  begun_as : acting_before p s ≡ acting p s
  begun_as = ap (λ z. acting z s) (none_before same holds is_failed p s seated begun_up)

  -- its own events are made or tried
  pub amid_begun : (from : ℕ) (tried : List (Event B)) (now : Acting B M K) (says : List Y) (noted : List Hearing)
      → Heads same steps content loaded holds finds failures (acting_before p s) s start (made_own same p.node.members own s.part.seen.node) tried []
      now says → noted ≡ [] → Amid same steps content loaded holds finds failures own (acting p s) s start [] from [] tried now says noted
  amid_begun from tried now says noted heads none =
      amid_first same steps content loaded holds finds failures own (acting p s) s start from tried now says noted fresh
      (ap (λ x. x.up) (seated.node begun_up) ∙ begun_up)
      (subst (λ a. Heads same steps content loaded holds finds failures a s start (made_own same p.node.members own s.part.seen.node) tried [] now
      says) begun_as heads) none

  -- or a fault ended it there
  pub begun_ended : (o l : LastTurn) (now : Acting B M K) (says : List Y) (fault : ActorFault Y)
      → Ended same steps content loaded holds finds failures own (acting_before p s) s start now says fault
      → (said : List Y) × (says ≡ start ++ said)
      × RoundOf same steps content loaded holds finds failures own (acting_since o p s) (since l now) s said (Err fault)
  begun_ended o l now says fault h =
      ended_since same steps content loaded holds finds failures own (acting p s) s start o l now says fault fresh
      (subst (λ a. Ended same steps content loaded holds finds failures own a s start now says fault) begun_as h)

-- so many of the members that a round names are done: the boxes of these were looked into, and what came was treated
pub record Treated {B S Y M K : Type 0} (same : B → B → Bool) (steps : Steps B S Y) (content : M → S) (loaded : List ℕ → Option S)
    (holds : K → Rows B → Type 0) (finds : K → Rows B → Type 0) (failures : K → ℕ) (me n first step from : ℕ) (was_tried : List (Event B))
    (was : Acting B M K) (said : List Y) (heard : List Hearing) (tried : List (Event B)) (now : Acting B M K) (says : List Y) (noted : List Hearing) : Type 0 where
  pub at : List ℕ
  pub last : ℕ
  pub comes : Comes me n first at from (n - step)
  pub gives : (own : List (Event B)) (old : Acting B M K) (v : View B) (start : List Y)
      → Amid same steps content loaded holds finds failures own old v start [] first [] was_tried was said heard
      → Amid same steps content loaded holds finds failures own old v start at last [] tried now says noted

module _ {B S Y M K : Type 0} (same : B → B → Bool) (steps : Steps B S Y) (content : M → S) (loaded : List ℕ → Option S)
    (holds : K → Rows B → Type 0) (finds : K → Rows B → Type 0) (failures : K → ℕ) (me n first : ℕ) (was_tried : List (Event B))
    (was : Acting B M K) (said : List Y) (heard : List Hearing) where
  pub treated_none : Treated same steps content loaded holds finds failures me n first 0 first was_tried was said heard was_tried was said heard
  treated_none =
      record {
        at = [];
        last = first;
        comes = subst (Comes me n first [] first) (omega arith) (comes_first me n first);
        gives = λ own old v start a. a;
      }

  module _ (step from : ℕ) (mid_tried : List (Event B)) (mid : Acting B M K) (told : List Y) (shown : List Hearing) (is_me : mid.node.me ≡ me)
      (left : step < n) (t : Treated same steps content loaded holds finds failures me n first step from was_tried was said heard mid_tried mid told shown) where
    -- one member more is done
    pub treated_one : (next : ℕ) (tried : List (Event B)) (now : Acting B M K) (says : List Y) (noted : List Hearing) → next ≡ after n from
        → ((own : List (Event B)) (old : Acting B M K) (v : View B) (start : List Y) (at : List ℕ) (last : ℕ)
        → Amid same steps content loaded holds finds failures own old v start at last [] mid_tried mid told shown
        → Amid same steps content loaded holds finds failures own old v start (with_other mid.node.me from at) from [] tried now says noted)
        → Treated same steps content loaded holds finds failures me n first (step + 1) next was_tried was said heard tried now says noted
    treated_one next tried now says noted is gives =
        record {
          at = with_other me from t.at;
          last = from;
          comes = subst (λ k. Comes me n first (with_other me from t.at) k (n - (step + 1))) (sym is)
              (comes_next me n first t.at from step left t.comes);
          gives = λ own old v start a.
              subst (λ k. Amid same steps content loaded holds finds failures own old v start (with_other k from t.at) from [] tried now says noted)
              is_me (gives own old v start t.at t.last (t.gives own old v start a));
        }

    -- a fault ended the round at it
    pub treated_not : (now : Acting B M K) (says : List Y) (fault : ActorFault Y)
        → ((own : List (Event B)) (old : Acting B M K) (v : View B) (start : List Y) (at : List ℕ) (last : ℕ)
        → Amid same steps content loaded holds finds failures own old v start at last [] mid_tried mid told shown
        → Ended same steps content loaded holds finds failures own old v start now says fault)
        → (own : List (Event B)) (old : Acting B M K) (v : View B) (start : List Y)
        → Amid same steps content loaded holds finds failures own old v start [] first [] was_tried was said heard
        → Ended same steps content loaded holds finds failures own old v start now says fault
    treated_not now says fault ends own old v start a = ends own old v start t.at t.last (t.gives own old v start a)

  -- all of them are
  pub treated_all : (step from : ℕ) (tried : List (Event B)) (now : Acting B M K) (says : List Y) (noted : List Hearing) → IsMember n first → n ≤ step
      → Treated same steps content loaded holds finds failures me n first step from was_tried was said heard tried now says noted
      → (own : List (Event B)) (old : Acting B M K) (v : View B) (start : List Y)
      → Amid same steps content loaded holds finds failures own old v start [] first [] was_tried was said heard
      → (at : List ℕ) × (last : ℕ) × ((k : ℕ) → IsPeer me n k → Has at k)
      × Amid same steps content loaded holds finds failures own old v start at last [] tried now says noted
  treated_all step from tried now says noted within over t own old v start a = (
    t.at,
    t.last,
    comes_last me n first t.at from step within over t.comes,
    t.gives own old v start a,
  )

-- an actor that had ended does nothing
pub round_none : {B S Y M K : Type 0} (same : B → B → Bool) (steps : Steps B S Y) (content : M → S) (loaded : List ℕ → Option S)
    (holds : K → Rows B → Type 0) (finds : K → Rows B → Type 0) (failures : K → ℕ) (own : List (Event B)) (old : Acting B M K) (v : View B)
    (says : List Y) → old.spoiled ≡ true
    → (said : List Y) × (says ≡ says ++ said) × RoundOf same steps content loaded holds finds failures own old old v said (Err Failed)
round_none same steps content loaded holds finds failures own old v says ended = ([], sym (append-nil says), (ended, refl, refl))

-- the view of an actor is what its seat knows
pub round_seen : {B S Y M K : Type 0} (same : B → B → Bool) (steps : Steps B S Y) (content : M → S) (loaded : List ℕ → Option S)
    (holds : K → Rows B → Type 0) (finds : K → Rows B → Type 0) (failures : K → ℕ) (l : LastTurn) (p : Parted B M K) (s : Seated B)
    (old new : Acting B M K) (own : List (Event B)) (start says : List Y) (result : Result (Vec (Event B) Global) (ActorFault Y))
    → acting_since l p s ≡ old
    → (said : List Y) × (says ≡ start ++ said)
    × RoundOf same steps content loaded holds finds failures own (acting_since l p s) new s said result
    → (v : View B) → StandsFor old v
    → (said : List Y) × (says ≡ start ++ said) × RoundOf same steps content loaded holds finds failures own old new v said result
round_seen {Y = Y} same steps content loaded holds finds failures l p s old new own start says result is h v stands =
    subst (λ z. (said : List Y) × (says ≡ start ++ said) × RoundOf same steps content loaded holds finds failures own old new z said result)
    (ap (λ (x : Acting _ _ _). x.seat) is ∙ stands.seat)
    (subst (λ z. (said : List Y) × (says ≡ start ++ said) × RoundOf same steps content loaded holds finds failures own z new s said result) is h)
