-- A round goes on by an event that is tried, by all that were tried, and by one that is carried out alone; or a fault ends it.
use Rattle.std.proofs.Common.{◌≡◌, ◌⊎◌, inl, inr, ◌≤◌, ℕ, Bool, true, false, List, [], ◌∷◌, ◌++◌, ap, sym, subst, ◌∙◌, refl, arith, ⊎_elim}
use Rattle.std.proofs.Common.{Option, Some, None, Result, Ok, Err}
use Rattle.std.specs.Prelude.{All, Contains}
use Rattle.std.proofs.lemmas.List.{append-nil, append_assoc}
use Rattle.actor_outboxes.specs.Outboxes.{IsPeer, Waiting, waiting}
use Rattle.paxos_packets.specs.declared.rows.Rows.{Rows}
use Rattle.replica_machine.specs.Log.{IsLogOf, LogState}
use Rattle.replica_machine.specs.Replay.{Steps}
use Rattle.paxos_node.specs.declared.event.Event.{Event}
use Rattle.paxos_node.specs.View.{Viewed}
use Rattle.paxos_planning.specs.Node.{NodeState}
use Rattle.actor_parts.specs.declared.fault.ActorFault.{ActorFault}
use Rattle.actor_parts.specs.declared.fault.ActorFault.TheVariants.{Failed, Rounds, Full, Keeper, Disagree, LostHere, Worn, Memory}
use Rattle.mail_table.specs.Seats.{Seated, knows}
use Rattle.node_actor.specs.Actor.{Acting}
use Rattle.node_actor.specs.Calls.{IsTaken, has_no_room, has_no_round}
use Rattle.node_actor.specs.EventLists.{behind, under_in}
use Rattle.node_actor.specs.MidRound.{Ended, Heads, IsNext, MadeOne, MakesAll, MakesNext, MakesOne, Under}
use Rattle.node_actor.specs.Rounds.{Look, PostsNone, Walks, came, made_in, tries_from}
use Rattle.node_actor.specs.Turns.{StaysAt}
use Rattle.node_actor.specs.Views.{View, StandsFor, posted_to, seen}
use Rattle.node_actor.specs.Turns.{tries_to}
use Rattle.node_actor.proofs.ManyMade.{agree_all, goes_all, posts_all, says_some, walks_all}
use Rattle.node_actor.proofs.RoundEnds.{ends, makes_on}

-- two actors are the same but for what memory their nodes have
pub record Alike {B M K : Type 0} (a b : Acting B M K) : Type 0 where
  pub me : b.node.me ≡ a.node.me
  pub members : b.node.members ≡ a.node.members
  pub state : b.node.state ≡ a.node.state
  pub keeper : b.keeper ≡ a.keeper
  pub waiting : b.waiting ≡ a.waiting
  pub log : b.log ≡ a.log
  pub spoiled : b.spoiled ≡ a.spoiled
  pub seat : b.seat ≡ a.seat

module _ {B S Y M K : Type 0} (same : B → B → Bool) (steps : Steps B S Y) (content : M → S) (loaded : List ℕ → Option S)
    (holds : K → Rows B → Type 0) (finds : K → Rows B → Type 0) (failures : K → ℕ) (old : Acting B M K) (v : View B) where
  abbrev n : ℕ
  n = old.node.members

  abbrev s : Viewed B
  s = seen v

  abbrev UnderWay : List (Event B) → List (Look B) → List Y → Acting B M K → Type 0
  UnderWay made looks said now = Under same steps content loaded holds finds failures old v made looks said now now.seat

  abbrev Comes : List Y → List (Event B) → List (Event B) → List (Look B) → Acting B M K → List Y → Type 0
  Comes start all tried looks now says = Heads same steps content loaded holds finds failures old v start all tried looks now says

  -- the view of an actor whose seat did not move
  still_walks : (made : List (Event B)) (looks : List (Look B)) (said : List Y) (mid now : Acting B M K) → UnderWay made looks said mid
      → StandsFor now now.seat → now.seat ≡ mid.seat → Walks same steps content loaded holds finds failures made looks old now v now.seat
  still_walks made looks said mid now u stands is =
      let w = u.walks in
      record {
        stands = stands;
        table = is ∙ w.table ∙ ap (λ (z : Seated B). knows z.part v) (sym is);
        me = ap (λ (z : Seated B). z.part.me) is ∙ w.me;
        moved = ap seen is ∙ w.moved;
        received = ap (λ (z : Seated B). z.part.received) is ∙ w.received;
        tries = λ k peer. ap (λ (z : Seated B). tries_from n z.part k) is ∙ w.tries k peer;
        events = ap (λ (z : Seated B). z.part.events) is ∙ w.events;
        counted = w.counted;
      }

  still_posts : (made : List (Event B)) (looks : List (Look B)) (said : List Y) (mid now : Acting B M K) → UnderWay made looks said mid
      → now.seat ≡ mid.seat → (k : ℕ) → IsPeer old.node.me old.node.members k → PostsNone k v now.seat
  still_posts made looks said mid now u is k peer =
      record { posted = ap (posted_to k) is ∙ (u.posts k peer).posted; tries = ap (tries_to k) is ∙ (u.posts k peer).tries }

  -- an actor with other memory
  pub under_as : (made : List (Event B)) (looks : List (Look B)) (said : List Y) (mid now : Acting B M K) → Alike mid now → UnderWay made looks said mid
      → UnderWay made looks said now
  under_as made looks said mid now a u =
      let st = u.walks.stands in
      record {
        me = a.me ∙ u.me;
        members = a.members ∙ u.members;
        fresh = a.spoiled ∙ u.fresh;
        walks = still_walks made looks said mid now u (record {
          seat = refl;
          node = λ up. a.state ∙ st.node (ap (λ x. x.up) (sym a.state) ∙ up) ∙ ap (λ (z : Seated B). (seen z).node) (sym a.seat);
          rows = ap (λ x. x.rows) a.state ∙ st.rows ∙ ap (λ (z : Seated B). (seen z).node.rows) (sym a.seat);
          waits = λ k peer. subst (λ (z : Seated B). All (Contains (seen z).sent) (waiting k now.waiting)) (sym a.seat)
              (subst (λ (w : Waiting B). All (Contains (seen mid.seat).sent) (waiting k w)) (sym a.waiting)
              (st.waits k (subst (λ (z : ℕ × ℕ). IsPeer z.0 z.1 k) (λ i. (a.me i, a.members i)) peer)));
        }) a.seat;
        agree = u.agree;
        says = u.says;
        follows = λ first under logs l takes.
            subst (λ (z : LogState B M). IsLogOf steps content first (under_in same n logs under made s) z) (sym a.log) (u.follows first under logs l takes);
        waits = λ k peer. ap (waiting k) a.waiting ∙ u.waits k peer;
        posts = still_posts made looks said mid now u a.seat;
        rows = subst (λ (z : Seated B). holds now.keeper (seen z).node.rows) (sym a.seat)
            (subst (λ x. holds x (seen mid.seat).node.rows) (sym a.keeper) u.rows);
        counts = subst (λ x. failures old.keeper ≤ failures x) (sym a.keeper) u.counts;
      }

  pub comes_as : (start : List Y) (all tried : List (Event B)) (looks : List (Look B)) (mid now : Acting B M K) (says : List Y) → Alike mid now
      → Comes start all tried looks mid says → Comes start all tried looks now says
  comes_as start all tried looks mid now says a h =
      record {
        made = h.made;
        said = h.said;
        under = under_as h.made looks h.said mid now a h.under;
        all_are = h.all_are;
        are = h.are;
      }

  -- one event more is tried
  pub tries_on : (start : List Y) (all tried : List (Event B)) (looks : List (Look B)) (now : Acting B M K) (says : List Y) (e : Event B)
      → Comes start all tried looks now says → Comes start (all ++ e ∷ []) (tried ++ e ∷ []) looks now says
  tries_on start all tried looks now says e h =
      record {
        made = h.made;
        said = h.said;
        under = h.under;
        all_are = ap (λ es. es ++ e ∷ []) h.all_are ∙ append_assoc h.made tried (e ∷ []);
        are = h.are;
      }

  module _ (start : List Y) (all tried : List (Event B)) (looks : List (Look B)) (mid now : Acting B M K) (was says : List Y)
      (h : Comes start all tried looks mid was) where
    -- all that were tried are made
    pub all_made : (u : Unit {0}) → MakesAll same steps content loaded holds finds failures tried mid now was says (Ok u)
        → Comes start all [] looks now says
    all_made u m =
        record {
          made = h.made ++ tried;
          said = h.said ++ m.0;
          under = goes_all same steps content loaded holds finds failures old v h.made looks h.said mid h.under tried now m.0 m.2;
          all_are = h.all_are ∙ sym (append-nil (h.made ++ tried));
          are = m.1 ∙ ap (λ l. l ++ m.0) h.are ∙ append_assoc start h.said m.0;
        }

    -- or a fault ended the round as they were to be made
    module _ (fresh : old.spoiled ≡ false) (own rest : List (Event B))
        (due : all ++ rest ≡ made_in same n old.node.me own (came looks) s) where
      whole : (h.made ++ tried) ++ rest ≡ made_in same n old.node.me own (came looks) s
      whole = ap (λ es. es ++ rest) (sym h.all_are) ∙ due

      found_as : (x : Rows B) → now.seat ≡ mid.seat
          → (x ≡ (seen mid.seat).node.rows) ⊎ (x ≡ (behind same mid.node.members tried (seen mid.seat)).node.rows)
          → (x ≡ (seen now.seat).node.rows) ⊎ (x ≡ (behind same n tried (seen now.seat)).node.rows)
      found_as x is (inl rows) = inl (rows ∙ ap (λ (z : View B). (seen z).node.rows) (sym is))
      found_as x is (inr rows) =
          inr (rows ∙ ap (λ k. (behind same k tried (seen mid.seat)).node.rows) h.under.members
          ∙ ap (λ (z : View B). (behind same n tried (seen z)).node.rows) (sym is))

      pub all_end : (fault : ActorFault Y) → MakesAll same steps content loaded holds finds failures tried mid now was says (Err fault)
          → Ended same steps content loaded holds finds failures own old v start now says fault
      all_end (Keeper fault) m =
          let f = m.2 in (
            h.said,
            m.1 ∙ h.are,
            (
              fresh,
              m.0,
              record {
                made = h.made;
                tried = tried;
                rest = rest;
                breaks = record {
                  next = now.seat;
                  looks = looks;
                  all = sym (append_assoc h.made tried rest) ∙ whole;
                  walks = still_walks h.made looks h.said mid now h.under f.stands f.seat;
                  posts = still_posts h.made looks h.said mid now h.under f.seat;
                };
                agree = agree_all same steps content loaded holds finds failures old v h.made looks h.said mid h.under tried now f.agree;
                waits = λ k peer. ap (waiting k) f.waits ∙ h.under.waits k peer;
                says = h.under.says;
                follows = λ first under logs l takes.
                    subst (λ (z : LogState B M). IsLogOf steps content first (under_in same n logs under h.made s) z) (sym f.log)
                    (h.under.follows first under logs l takes);
                some = f.some;
                found = λ x it. found_as x f.seat (f.found x it);
                cause = λ is. let before = h.under.counts in let less = f.cause is in omega (arith, before, less);
              },
            ),
          )
      all_end Memory m =
          let f = m.1.2 in
          let more = m.1.0 in (
            h.said ++ more,
            m.1.1 ∙ ap (λ l. l ++ more) h.are ∙ append_assoc start h.said more,
            (
              fresh,
              m.0,
              record {
                made = h.made ++ tried;
                rest = rest;
                breaks = record {
                  next = now.seat;
                  looks = looks;
                  all = whole;
                  walks = walks_all same steps content loaded holds finds failures old v h.made looks h.said mid h.under tried now f.walks;
                  posts = posts_all same steps content loaded holds finds failures old v h.made looks h.said mid h.under tried now f.posts;
                };
                says = says_some same steps content loaded holds finds failures old v h.made looks h.said mid h.under tried now more f.says;
                rows = f.rows;
              },
            ),
          )
      all_end Failed m = absurd m
      all_end Rounds m = absurd m
      all_end Full m = absurd m
      all_end Disagree m = absurd m
      all_end Worn m = absurd m
      all_end (LostHere more) m = absurd m

  -- memory ran out beside any event, with none tried before it
  pub stops_here : (start : List Y) (all : List (Event B)) (looks : List (Look B)) (mid : Acting B M K) (was : List Y) (own rest : List (Event B))
      → old.spoiled ≡ false → Comes start all [] looks mid was → all ++ rest ≡ made_in same n old.node.me own (came looks) s
      → Ended same steps content loaded holds finds failures own old v start (record mid { spoiled = true }) was Memory
  stops_here start all looks mid was own rest fresh h due = (
    h.said,
    h.are,
    (
      fresh,
      refl,
      record {
        made = h.made;
        rest = rest;
        breaks = record {
          next = mid.seat;
          looks = looks;
          all = ap (λ es. es ++ rest) (sym (h.all_are ∙ append-nil h.made)) ∙ due;
          walks = record {
            stands = record { seat = refl; node = h.under.walks.stands.node; rows = h.under.walks.stands.rows; waits = h.under.walks.stands.waits };
            table = h.under.walks.table;
            me = h.under.walks.me;
            moved = h.under.walks.moved;
            received = h.under.walks.received;
            tries = h.under.walks.tries;
            events = h.under.walks.events;
            counted = h.under.walks.counted;
          };
          posts = h.under.posts;
        };
        says = λ first under logs l takes. ([], append-nil h.said ∙ h.under.says first under logs l takes);
        rows = h.under.rows;
      },
    ),
  )

  -- an event that is carried out alone, with none tried before it
  module _ (start : List Y) (all : List (Event B)) (looks : List (Look B)) (mid now : Acting B M K) (was says : List Y)
      (h : Comes start all [] looks mid was) (e : Event B) (me : now.node.me ≡ mid.node.me) (members : now.node.members ≡ mid.node.members)
      (stays : StaysAt mid.seat now.seat) (counted : failures mid.keeper ≤ failures now.keeper) (own rest : List (Event B))
      (next : IsNext same steps content loaded holds finds failures e own all rest looks old v) where
    made_is : h.made ≡ all
    made_is = sym (h.all_are ∙ append-nil h.made)

    under_all : UnderWay all looks h.said mid
    under_all = subst (λ es. UnderWay es looks h.said mid) made_is h.under

    abbrev here_now : NodeState B
    here_now = (behind same n all s).node

    node_is : (seen mid.seat).node ≡ here_now
    node_is = ap (λ (z : Viewed B). z.node) under_all.walks.moved

    abbrev Step : Result (Unit {0}) (ActorFault Y) → Type 0
    Step result = MakesOne same steps content loaded holds finds failures e mid now was says result

    abbrev Next : Result (Option (Event B)) (ActorFault Y) → Type 0
    Next result = MakesNext same steps content loaded holds finds failures e own old v start all looks [] now says result

    alone_passed : has_no_round (Some e) (seen mid.seat).node ≡ true → now ≡ mid → says ≡ was → Next (Ok None)
    alone_passed none is still =
        inl (
          ap (has_no_round (Some e)) (sym node_is) ∙ none,
          record {
            made = h.made;
            said = h.said;
            under = subst (λ (a : Acting B M K). UnderWay h.made looks h.said a) (sym is) h.under;
            all_are = h.all_are;
            are = still ∙ h.are;
          },
        )

    alone_made : (more : List Y) → now.spoiled ≡ false → MadeOne same steps content loaded holds finds failures e mid now more → says ≡ was ++ more
        → Next (Ok None)
    alone_made more fresh m are =
        inr (
          ap (has_no_round (Some e)) (sym node_is) ∙ m.agreed.0.0,
          ap (has_no_room same (Some e)) (sym node_is) ∙ m.agreed.0.1,
          record {
            made = all ++ e ∷ [];
            said = h.said ++ more;
            under = makes_on same steps content loaded holds finds failures old v all looks h.said mid now under_all e me members stays counted more m
                fresh;
            all_are = sym (append-nil (all ++ e ∷ []));
            are = are ∙ ap (λ l. l ++ more) h.are ∙ append_assoc start h.said more;
          },
        )

    pub alone_ok : (u : Unit {0}) → Step (Ok u) → Next (Ok None)
    alone_ok u m = ⊎_elim (λ p. alone_passed p.0 p.1 p.2) (λ p. alone_made p.0 m.0 p.1 p.3) m.1

    pub alone_full : Step (Err Full) → Next (Ok (Some e))
    alone_full m = (
      refl,
      ap (has_no_room same (Some e)) (sym node_is) ∙ m.0,
      record {
        made = h.made;
        said = h.said;
        under = subst (λ (a : Acting B M K). UnderWay h.made looks h.said a) (sym m.1) h.under;
        all_are = h.all_are;
        are = m.2 ∙ h.are;
      },
    )

    -- each other fault comes of an event that was not refused
    taken_by : (fault : ActorFault Y) → (fault ≡ Full → ⊥) → Step (Err fault)
        → IsTaken same steps content loaded holds finds failures (Some e) mid mid.seat
    taken_by Failed other m = absurd m
    taken_by Rounds other m = absurd m
    taken_by Full other m = absurd (other refl)
    taken_by Disagree other m = m.5
    taken_by Worn other m = m.5
    taken_by Memory other m = m.6
    taken_by (LostHere more) other m = m.2.1.agreed.0
    taken_by (Keeper fault) other m = m.1.0

    pub alone_ends : old.spoiled ≡ false → s.node.up ≡ true → (fault : ActorFault Y) → (fault ≡ Full → ⊥) → Step (Err fault) → Next (Err fault)
    alone_ends fresh up fault other m =
        let taken = taken_by fault other m in
        let first = next.first (ap (has_no_round (Some e)) (sym node_is) ∙ taken.0) (ap (has_no_room same (Some e)) (sym node_is) ∙ taken.1) in
        ends same steps content loaded holds finds failures old v all looks h.said mid now under_all e me members stays counted fresh up own first.0
        (ap (λ es. all ++ es) (sym first.1) ∙ next.due) was says start fault other h.are m
