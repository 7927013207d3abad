-- One event of a round is tried; or all that were tried are made, and then it is carried out alone.
use Rattle.std.proofs.Common.{◌≡◌, ◌≤◌, ℕ, Bool, true, false, List, [], ◌∷◌, ◌++◌, ap, sym, subst, ◌∙◌, refl, arith, inr}
use Rattle.std.proofs.Common.{Option, Some, None, Result, Ok, Err}
use Rattle.std.proofs.lemmas.List.{map-append}
use Rattle.cluster_world.proofs.Lists.{has_nil}
use Rattle.paxos_acceptor.specs.Ahead.{IsAhead}
use Rattle.paxos_packets.specs.declared.rows.Rows.{Rows}
use Rattle.replica_machine.specs.Replay.{Steps}
use Rattle.paxos_node.specs.Events.{is_full_refused, is_round_refused, outcome_of}
use Rattle.paxos_node.specs.View.{Viewed}
use Rattle.paxos_node.specs.declared.event.Event.{Event}
use Rattle.paxos_planning.specs.Node.{NodeState}
use Rattle.actor_parts.specs.declared.fault.ActorFault.{ActorFault}
use Rattle.actor_parts.specs.declared.fault.ActorFault.TheVariants.{Full}
use Rattle.actor_parts.specs.Parts.{IsSound, Parted}
use Rattle.actor_parts.specs.Steps.{OnlyNode, StaysWho}
use Rattle.actor_parts.specs.Tried.{AreTried, Staged, Tries, events_in, node_behind}
use Rattle.actor_parts.specs.declared.tried.Tried.{Tried}
use Rattle.mail_table.specs.Seats.{Seated, knows}
use Rattle.node_actor.specs.Actor.{Acting, acting, IsSeated}
use Rattle.node_actor.specs.Calls.{has_no_room, has_no_round}
use Rattle.node_actor.specs.EventLists.{behind}
use Rattle.node_actor.specs.MidRound.{Ended, Heads, IsNext, MakesAll, MakesNext, MakesOne}
use Rattle.node_actor.specs.Rounds.{Look, came, made_in}
use Rattle.node_actor.specs.Trying.{acting_before, parts_before, Trying}
use Rattle.node_actor.specs.Turns.{StaysAt}
use Rattle.node_actor.specs.Views.{View, seen}
use Rattle.node_actor.proofs.Looking.{behind_append}
use Rattle.node_actor.proofs.RoundNext.{Alike, all_end, all_made, alone_ends, alone_full, alone_ok, comes_as, tries_on}
use Rattle.node_actor.proofs.TriedEvents.{node_after}

-- what two events, one after another, leave alone at the seat
pub stays_more : {B : Type 0} (s t u : Seated B) → StaysAt s t → StaysAt t u → StaysAt s u
stays_more s t u a b =
    record {
      table = b.table ∙ ap (knows u.part) a.table;
      me = b.me ∙ a.me;
      tried = b.tried ∙ a.tried;
      received = b.received ∙ a.received;
      posted = b.posted ∙ a.posted;
    }

-- a node that goes on by events that are tried stays up
up_behind : {B : Type 0} (same : B → B → Bool) (me members : ℕ) (ts : List (Tried B)) (x : NodeState B) → x.up ≡ true
    → AreTried same me members ts x → (node_behind same me members ts x).up ≡ true
up_behind same me members [] x up h = up
up_behind same me members (t ∷ ts) x up h = up_behind same me members ts (outcome_of same members t.event x).node h.0.up h.1

module _ {B M K : Type 0} where
  -- an event that is tried, or may not be, leaves alone who the actor is
  pub who_tried : (p q : Parted B M K) → q.node.me ≡ p.node.me → q.node.members ≡ p.node.members → OnlyNode p q → StaysWho p q
  who_tried p q me members only =
      record { me = me; members = members; waits_me = ap (λ w. w.me) only.waiting; waits_members = ap (λ w. w.members) only.waiting }

  pub alike_tried : (p q : Parted B M K) (s : Seated B) → q.node.me ≡ p.node.me → q.node.members ≡ p.node.members → OnlyNode p q
      → Alike (acting_before p s) (acting_before q s)
  alike_tried p q s me members only =
      record {
        me = me;
        members = members;
        state = refl;
        keeper = only.keeper;
        waiting = only.waiting;
        log = only.log;
        spoiled = only.spoiled;
        seat = refl;
      }

module _ {B M K : Type 0} (same : B → B → Bool) (holds : K → Rows B → Type 0) (is_failed : K → Bool) where
  -- with no event tried the actor before them is the actor, and it is one that tries none

  pub none_before : (p : Parted B M K) (s : Seated B) → IsSeated same (acting p s) → p.node.state.up ≡ true → parts_before p s ≡ p
  none_before p s seated up = λ i. record p { node = record p.node { state = seated.node up i } }

  pub tries_none : (p : Parted B M K) (s : Seated B) (g : Staged B) → IsSound same holds is_failed p → IsSeated same (acting p s)
      → p.spoiled ≡ false → g.tried ≡ [] → IsAhead p.node.state.rows g.ahead p.node.state.rows → Trying same holds is_failed p s g
  tries_none p s g sound seated fresh none ahead =
      let up : p.node.state.up ≡ true = (sound.serves fresh).up in
      let still : p ≡ parts_before p s = sym (none_before p s seated up) in
      let node : s.part.seen.node ≡ p.node.state = seated.node up in
      subst (λ (ts : List (Tried B)). Trying same holds is_failed p s (record g { tried = ts })) (sym none) (record {
        sound = subst (λ (x : Parted B M K). IsSound same holds is_failed x) still sound;
        seated = subst (λ (x : Parted B M K). IsSeated same (acting x s)) still seated;
        fresh = fresh;
        tried = tt;
        node = sym node;
        ahead = subst (λ (x : NodeState B). IsAhead x.rows g.ahead p.node.state.rows) (sym node) ahead;
        received = λ e has. absurd (has_nil has);
        counts = λ some. absurd (omega (arith, some));
      })

  -- the node of an actor by which events are tried is up
  pub tried_up : (p : Parted B M K) (s : Seated B) (g : Staged B) → Trying same holds is_failed p s g → p.node.state.up ≡ true
  tried_up p s g t =
      ap (λ (x : NodeState B). x.up) t.node
      ∙ up_behind same p.node.me p.node.members g.tried s.part.seen.node (t.sound.serves t.fresh).up t.tried

module _ {B S Y M K : Type 0} (same : B → B → Bool) (steps : Steps B S Y) (content : M → S) (loaded : List ℕ → Option S)
    (holds : K → Rows B → Type 0) (finds : K → Rows B → Type 0) (failures : K → ℕ) (is_failed : K → Bool) (old : Acting B M K) (v : View B)
    (start : List Y) (all : List (Event B)) (looks : List (Look B)) where
  abbrev n : ℕ
  n = old.node.members

  abbrev Comes : List (Event B) → Acting B M K → List Y → Type 0
  Comes tried now says = Heads same steps content loaded holds finds failures old v start all tried looks now says

  -- the parts of an actor to which a round has come, its seat, what is tried, and what was said
  module _ (p : Parted B M K) (s : Seated B) (g : Staged B) (was : List Y) (h : Comes (events_in g.tried) (acting_before p s) was) (e : Event B)
      (own rest : List (Event B)) where
    abbrev Next : List (Event B) → Acting B M K → List Y → Result (Option (Event B)) (ActorFault Y) → Type 0
    Next tried now says result = MakesNext same steps content loaded holds finds failures e own old v start all looks tried now says result

    -- the node that goes on by the events that are tried is the one after all
    node_here : Trying same holds is_failed p s g → p.node.state ≡ (behind same n all (seen v)).node
    node_here t =
        let es : List (Event B) = events_in g.tried in
        t.node ∙ (sym (node_after same p.node.me p.node.members g.tried (seen s))
        ∙ (ap (λ k. (behind same k es (seen s)).node) h.under.members
        ∙ (ap (λ (z : Viewed B). (behind same n es z).node) h.under.walks.moved
        ∙ (ap (λ (z : Viewed B). z.node) (sym (behind_append same n h.made es (seen v)))
        ∙ ap (λ (xs : List (Event B)). (behind same n xs (seen v)).node) (sym h.all_are)))))

    module _ (q : Parted B M K) (w : Staged B) (me : q.node.me ≡ p.node.me) (members : q.node.members ≡ p.node.members) (only : OnlyNode p q) where
      comes_alike : (more tried : List (Event B))
          → Heads same steps content loaded holds finds failures old v start more tried looks (acting_before p s) was
          → Heads same steps content loaded holds finds failures old v start more tried looks (acting_before q s) was
      comes_alike more tried k =
          comes_as same steps content loaded holds finds failures old v start more tried looks (acting_before p s) (acting_before q s) was
          (alike_tried p q s me members only) k

      -- it is tried
      pub next_tried : Trying same holds is_failed p s g → Tries same p.node.me p.node.members e p q g w
          → Next (events_in w.tried) (acting_before q s) was (Ok None)
      next_tried t f =
          let x = node_here t in
          let tried_are : events_in w.tried ≡ events_in g.tried ++ e ∷ [] =
          ap (λ (ts : List (Tried B)). events_in ts) f.all
          ∙ (map-append (λ (k : Tried B). k.event) g.tried (f.one ∷ []) ∙ ap (λ (k : Event B). events_in g.tried ++ k ∷ []) f.is) in
          inr (
            ap (has_no_round (Some e)) (sym x) ∙ (ap (λ (k : Event B). is_round_refused k p.node.state) (sym f.is) ∙ f.tried.some_round),
            ap (has_no_room same (Some e)) (sym x) ∙ (ap (λ (k : Event B). is_full_refused same k p.node.state) (sym f.is) ∙ f.tried.some_room),
            subst (λ (es : List (Event B)). Heads same steps content loaded holds finds failures old v start (all ++ e ∷ []) es looks
                (acting_before q s) was) (sym tried_are) (comes_alike (all ++ e ∷ []) (events_in g.tried ++ e ∷ [])
                (tries_on same steps content loaded holds finds failures old v start all (events_in g.tried) looks (acting_before p s) was e h)),
          )

      -- it is not: all that were tried are made, or a fault ends the round there
      module _ (still : w ≡ g) (r : Parted B M K) (t : Seated B) (said : List Y) where
        abbrev Flushes : Result (Unit {0}) (ActorFault Y) → Type 0
        Flushes result =
            MakesAll same steps content loaded holds finds failures (events_in w.tried) (acting_before q s) (acting r t) was said result

        comes_here : Comes (events_in w.tried) (acting_before q s) was
        comes_here =
            subst (λ (x : Staged B). Comes (events_in x.tried) (acting_before q s) was) (sym still) (comes_alike all (events_in g.tried) h)

        pub next_fails : old.spoiled ≡ false → all ++ rest ≡ made_in same n old.node.me own (came looks) (seen v) → (fault : ActorFault Y)
            → Flushes (Err fault) → Ended same steps content loaded holds finds failures own old v start (acting r t) said fault
        next_fails fresh due fault m =
            all_end same steps content loaded holds finds failures old v start all (events_in w.tried) looks (acting_before q s) (acting r t) was said
            comes_here fresh own rest due fault m

        -- then it is carried out alone
        module _ (u : Unit {0}) (flushes : Flushes (Ok u)) (back : Event B) (is : back ≡ e) (x : Parted B M K) (y : Seated B)
            (says : List Y) (who : StaysWho r x) (stays : StaysAt t y) (counted : failures r.keeper ≤ failures x.keeper)
            (next : IsNext same steps content loaded holds finds failures e own all rest looks old v) where
          flushed : Comes [] (acting r t) said
          flushed =
              all_made same steps content loaded holds finds failures old v start all (events_in w.tried) looks (acting_before q s) (acting r t)
              was said comes_here u flushes

          abbrev Alone : Result (Unit {0}) (ActorFault Y) → Type 0
          Alone result = MakesOne same steps content loaded holds finds failures back (acting r t) (acting x y) said says result

          alone_is : (result : Result (Unit {0}) (ActorFault Y)) → Alone result
              → MakesOne same steps content loaded holds finds failures e (acting r t) (acting x y) said says result
          alone_is result m =
              subst (λ (k : Event B). MakesOne same steps content loaded holds finds failures k (acting r t) (acting x y) said says result) is m

          none_now : (z : Staged B) → z.tried ≡ [] → IsSeated same (acting x y) → x.node.state.up ≡ true
              → (result : Option (Event B)) → Next [] (acting x y) says (Ok result)
              → Next (events_in z.tried) (acting_before x y) says (Ok result)
          none_now z none seated up result m =
              subst (λ (a : Acting B M K). Next (events_in z.tried) a says (Ok result))
              (ap (λ (k : Parted B M K). acting k y) (sym (none_before same holds is_failed x y seated up)))
              (subst (λ (ts : List (Tried B)). Next (events_in ts) (acting x y) says (Ok result)) (sym none) m)

          pub next_alone : (z : Staged B) → z.tried ≡ [] → IsSeated same (acting x y) → x.node.state.up ≡ true → (k : Unit {0}) → Alone (Ok k)
              → Next (events_in z.tried) (acting_before x y) says (Ok None)
          next_alone z none seated up k m =
              none_now z none seated up None
              (alone_ok same steps content loaded holds finds failures old v start all looks (acting r t) (acting x y) said says flushed e who.me
              who.members stays counted own rest next k (alone_is (Ok k) m))

          pub next_full : (z : Staged B) → z.tried ≡ [] → IsSeated same (acting x y) → IsSound same holds is_failed x → r.spoiled ≡ false
              → (fault : ActorFault Y) → fault ≡ Full → Alone (Err fault) → Next (events_in z.tried) (acting_before x y) says (Ok (Some back))
          next_full z none seated sound fresh fault full m =
              let k : Alone (Err Full) = subst (λ (f : ActorFault Y). Alone (Err f)) full m in
              let on : x.spoiled ≡ false = ap (λ (a : Acting B M K). a.spoiled) k.1 ∙ fresh in
              subst (λ (d : Event B). Next (events_in z.tried) (acting_before x y) says (Ok (Some d))) (sym is)
              (none_now z none seated (sound.serves on).up (Some e)
              (alone_full same steps content loaded holds finds failures old v start all looks (acting r t) (acting x y) said says flushed e who.me
              who.members stays counted own rest next (alone_is (Err Full) k)))

          pub next_ends : old.spoiled ≡ false → (seen v).node.up ≡ true → (fault : ActorFault Y) → (fault ≡ Full → ⊥) → Alone (Err fault)
              → Ended same steps content loaded holds finds failures own old v start (acting x y) says fault
          next_ends fresh up fault other m =
              alone_ends same steps content loaded holds finds failures old v start all looks (acting r t) (acting x y) said says flushed e who.me
              who.members stays counted own rest next fresh up fault other (alone_is (Err fault) m)
