-- How a round goes on, or ends, by what one event of it makes of the actor.
use Rattle.std.proofs.Common.{◌≡◌, ◌⊎◌, inl, inr, ◌<◌, ◌≤◌, ◌^◌, ℕ, suc, Bool, not, true, false, List, [], ◌∷◌, ◌++◌, length, length-append}
use Rattle.std.proofs.Common.{ap, sym, subst, ◌∙◌, refl, arith, Option, Some, Err}
use Rattle.std.specs.Prelude.{◌||◌, nat_lt}
use Rattle.std.proofs.lemmas.Bool.{ltb-true}
use Rattle.std.proofs.lemmas.List.{append_assoc, append-nil}
use Rattle.circular_buffer.specs.Buffer.{keep_last}
use Rattle.actor_outboxes.proofs.Filing.{keep_last_again}
use Rattle.actor_outboxes.specs.Outboxes.{IsPeer, most_waiting, to, waiting}
use Rattle.paxos_packets.specs.declared.rows.Rows.{Rows}
use Rattle.replica_machine.specs.Log.{IsLogOf, machine_from}
use Rattle.replica_machine.specs.Replay.{Steps}
use Rattle.paxos_node.specs.declared.event.Event.{Event}
use Rattle.paxos_node.specs.View.{Viewed}
use Rattle.store_keeper.specs.declared.fault.KeeperFault.{KeeperFault}
use Rattle.actor_parts.specs.declared.fault.ActorFault.{ActorFault}
use Rattle.actor_parts.specs.declared.fault.ActorFault.TheVariants.{Failed, Rounds, Full, Keeper, Disagree, LostHere, Worn, Memory}
use Rattle.mail_table.specs.Seats.{Seated, knows}
use Rattle.mail_table.specs.Views.{box_of, through}
use Rattle.node_actor.specs.Actor.{Acting}
use Rattle.node_actor.specs.Calls.{Fails, disagrees}
use Rattle.node_actor.specs.EventLists.{behind, sent_in, under_in}
use Rattle.node_actor.specs.MidRound.{OneOn, MadeOne, MakesOne, Under}
use Rattle.node_actor.specs.Rounds.{Look, PostsNone, Walks, Breaks, RoundOf, came, made_in, tries_from, waits_behind}
use Rattle.node_actor.specs.Snapshots.{takes_no_log, handed_by}
use Rattle.node_actor.specs.Turns.{StaysAt, tries_at, tries_to}
use Rattle.node_actor.specs.Views.{View, seen, posted_to, moved_by, StandsFor}
use Rattle.node_actor.proofs.EventLists.{behind_more, said_more, take_more}
use Rattle.node_actor.proofs.RoundSteps.{none_after, agree_more, agree_on, waits_on, says_on, follows_on, goes}

no_more : (b : Bool) → not b ≡ true → b ≡ false
no_more false h = refl
no_more true h = sym h

more_yet : (b : Bool) → not b ≡ false → b ≡ true
more_yet true h = refl
more_yet false h = sym h

-- a word that is not worn counts one event more
counts_one : (n : ℕ) → not (nat_lt n (2 ^ 62)) ≡ false → suc n ≤ 2 ^ 62
counts_one n h = let l : n < 2 ^ 62 = ltb-true n (2 ^ 62) (more_yet (nat_lt n (2 ^ 62)) h) in omega (arith, l)

module _ {B S Y M K : Type 0} (same : B → B → Bool) (steps : Steps B S Y) (content : M → S) (loaded : List ℕ → Option S)
    (holds : K → Rows B → Type 0) (finds : K → Rows B → Type 0) (failures : K → ℕ) (old : Acting B M K) (v : View B) (made : List (Event B))
    (looks : List (Look B)) (said : List Y) (mid now : Acting B M K)
    (u : Under same steps content loaded holds finds failures old v made looks said mid mid.seat) (e : Event B) (me : now.node.me ≡ mid.node.me)
    (members : now.node.members ≡ mid.node.members) (stays : StaysAt mid.seat now.seat) (counted : failures mid.keeper ≤ failures now.keeper) where
  abbrev n : ℕ
  n = old.node.members

  -- the view, if the event was not made, or was

  walks_here : StandsFor now now.seat → now.seat ≡ mid.seat → Walks same steps content loaded holds finds failures made looks old now v now.seat
  walks_here stands is =
      let w = u.walks in
      record {
        stands = stands;
        table = is ∙ w.table ∙ ap (λ (z : Seated B). knows z.part v) (sym is);
        me = ap (λ (z : Seated B). z.part.me) is ∙ w.me;
        moved = ap seen is ∙ w.moved;
        received = ap (λ (z : Seated B). z.part.received) is ∙ w.received;
        tries = λ k peer. ap (λ (z : Seated B). tries_from n z.part k) is ∙ w.tries k peer;
        events = ap (λ (z : Seated B). z.part.events) is ∙ w.events;
        counted = w.counted;
      }

  one_longer : length (made ++ e ∷ []) ≡ suc (length made)
  one_longer = let l = length-append made (e ∷ []) in omega (arith, l)

  moved_on : OneOn same mid.node.members e mid.seat now.seat → seen now.seat ≡ behind same n (made ++ e ∷ []) (seen v)
  moved_on one =
      one.1 ∙ (ap (λ k. moved_by same k (Some e) (seen mid.seat)) u.members
      ∙ (ap (moved_by same n (Some e)) u.walks.moved ∙ sym (behind_more same n made (Some e) (seen v))))

  walks_on : StandsFor now now.seat → OneOn same mid.node.members e mid.seat now.seat → suc mid.seat.part.events ≤ 2 ^ 62
      → Walks same steps content loaded holds finds failures (made ++ e ∷ []) looks old now v now.seat
  walks_on stands one counts =
      record {
        stands = stands;
        table = stays.table ∙ ap (knows now.seat.part) u.walks.table;
        me = stays.me ∙ u.walks.me;
        moved = moved_on one;
        received = stays.received ∙ u.walks.received;
        tries = λ k peer. (λ i. tries_at (box_of n k (stays.me i)) (stays.tried i)) ∙ u.walks.tries k peer;
        events = let l = one_longer in let before = u.walks.events in let here = one.0 in omega (arith, l, before, here);
        counted = λ some. let l = one_longer in let before = u.walks.events in omega (arith, l, before, counts);
      }

  posts_on : (k : ℕ) → IsPeer old.node.me old.node.members k → PostsNone k v now.seat
  posts_on k peer =
      let tables : now.seat.members ≡ mid.seat.members = ap (λ (x : Seated B). x.members) stays.table in
      let posted : posted_to k now.seat ≡ posted_to k mid.seat = λ i. through (box_of (tables i) (stays.me i) k) (stays.posted i) in
      let tried : tries_to k now.seat ≡ tries_to k mid.seat = λ i. tries_at (box_of (tables i) (stays.me i) k) (stays.tried i) in
      record { posted = posted ∙ (u.posts k peer).posted; tries = tried ∙ (u.posts k peer).tries }

  -- an event that was made

  module _ (more : List Y) (m : MadeOne same steps content loaded holds finds failures e mid now more) where
    abbrev at : now.seat ≡ m.goes.next
    at = m.goes.stands.seat

    stays_next : StaysAt mid.seat m.goes.next
    stays_next = subst (StaysAt mid.seat) at stays

    events_next : m.goes.next.part.events ≡ suc mid.seat.part.events
    events_next = ap (λ (z : Seated B). z.part.events) (sym at) ∙ m.seat.0

    counts_next : suc mid.seat.part.events ≤ 2 ^ 62
    counts_next = counts_one mid.seat.part.events m.agreed.2

    -- the round goes on
    pub makes_on : now.spoiled ≡ false
        → Under same steps content loaded holds finds failures old v (made ++ e ∷ []) looks (said ++ more) now now.seat
    makes_on fresh =
        subst (Under same steps content loaded holds finds failures old v (made ++ e ∷ []) looks (said ++ more) now) (sym at)
        (goes same steps content loaded holds finds failures old v made looks said mid now mid.seat u e more m.goes me members stays_next events_next
        counts_next m.agreed.1 counted fresh)

    stands_made : StandsFor now now.seat
    stands_made = subst (StandsFor now) (sym at) m.goes.stands

    rows_made : holds now.keeper (seen now.seat).node.rows
    rows_made = subst (λ (z : Seated B). holds now.keeper (seen z).node.rows) (sym at) m.goes.held

  -- an event that was refused, for want of a round
  pub passes_on : now ≡ mid → Under same steps content loaded holds finds failures old v made looks said now now.seat
  passes_on is = subst (λ (a : Acting B M K). Under same steps content loaded holds finds failures old v made looks said a a.seat) (sym is) u

  -- an event whose commit failed

  module _ (fault : KeeperFault) (f : Fails same steps content loaded holds finds failures (Some e) mid now mid.seat fault)
      (is : now.seat ≡ mid.seat) where
    waits_as : (k : ℕ) → IsPeer old.node.me old.node.members k
        → waiting k now.waiting ≡ waits_behind k (sent_in same n made (seen v)) old
    waits_as k peer =
        let here : IsPeer mid.node.me mid.node.members k =
        subst (λ (z : ℕ × ℕ). IsPeer z.0 z.1 k) (λ i. (sym u.me i, sym u.members i)) peer in
        let q = f.queues k here in
        let posted : posted_to k f.next ≡ posted_to k mid.seat = ap (posted_to k) (sym f.stands.seat ∙ is) in
        let none : q.meanwhile ≡ [] = none_after (posted_to k mid.seat) q.meanwhile (sym posted ∙ q.posted) in
        let left : q.rest ≡ waiting k mid.waiting = ap (λ l. l ++ q.rest) (sym none) ∙ sym q.waited in
        q.waits ∙ (ap (λ l. keep_last most_waiting (l ++ [])) (left ∙ u.waits k peer)
        ∙ (keep_last_again most_waiting (waiting k old.waiting ++ to k (sent_in same n made (seen v))) []
        ∙ ap (keep_last most_waiting) (append-nil (waiting k old.waiting ++ to k (sent_in same n made (seen v))))))

    found_as : (x : Rows B) → (x ≡ (seen mid.seat).node.rows) ⊎ (x ≡ (moved_by same mid.node.members (Some e) (seen mid.seat)).node.rows)
        → (x ≡ (seen now.seat).node.rows) ⊎ (x ≡ (behind same n (e ∷ []) (seen now.seat)).node.rows)
    found_as x (inl rows) = inl (rows ∙ ap (λ (z : View B). (seen z).node.rows) (sym is))
    found_as x (inr rows) =
        inr (rows ∙ ap (λ k. (moved_by same k (Some e) (seen mid.seat)).node.rows) u.members
        ∙ ap (λ (z : View B). (moved_by same n (Some e) (seen z)).node.rows) (sym is))

  -- a fault ends the round

  module _ (fresh : old.spoiled ≡ false) (up : (seen v).node.up ≡ true) (own rest : List (Event B))
      (all : made ++ e ∷ rest ≡ made_in same n old.node.me own (came looks) (seen v)) where
    breaks_here : StandsFor now now.seat → now.seat ≡ mid.seat
        → Breaks same steps content loaded holds finds failures own made (e ∷ rest) old now v
    breaks_here stands is = record { next = now.seat; looks = looks; all = all; walks = walks_here stands is; posts = posts_on }

    breaks_on : StandsFor now now.seat → OneOn same mid.node.members e mid.seat now.seat → suc mid.seat.part.events ≤ 2 ^ 62
        → Breaks same steps content loaded holds finds failures own (made ++ e ∷ []) rest old now v
    breaks_on stands one counts =
        record {
          next = now.seat;
          looks = looks;
          all = append_assoc made (e ∷ []) rest ∙ all;
          walks = walks_on stands one counts;
          posts = posts_on;
        }

    -- the last event's node, by what is known of the one before it
    at_node : (P : ℕ → View B → Type 0) → now.seat ≡ mid.seat → P mid.node.members mid.seat → P n now.seat
    at_node P is h = subst (λ (z : View B). P n z) (sym is) (subst (λ k. P k mid.seat) u.members h)

    pub ends : (was are start : List Y) (fault : ActorFault Y) → (fault ≡ Full → ⊥) → was ≡ start ++ said
        → MakesOne same steps content loaded holds finds failures e mid now was are (Err fault)
        → (told : List Y) × (are ≡ start ++ told) × RoundOf same steps content loaded holds finds failures own old now v told (Err fault)
    unfolding breaks_here breaks_on
    ends was are start Failed other said_are h = absurd h
    ends was are start Rounds other said_are h = absurd h
    ends was are start Full other said_are h = absurd (other refl)
    ends was are start Disagree other said_are h =
        let stands = subst (StandsFor now) (sym h.2.stands.seat) h.2.stands in (
          said,
          h.4 ∙ said_are,
          (
            fresh,
            h.0,
            record {
              made = made;
              event = e;
              rest = rest;
              breaks = breaks_here stands h.3;
              agree = u.agree;
              says = u.says;
              rows = subst (λ (z : View B). holds now.keeper (seen z).node.rows) (sym h.2.stands.seat) h.2.held;
              is_cause = at_node (λ k z. (disagrees same k (Some e) (seen z).node || takes_no_log same k loaded (Some e) (seen z).node) ≡ true)
                  h.3 h.1;
            },
          ),
        )
    ends was are start Worn other said_are h =
        let stands = subst (StandsFor now) (sym h.2.stands.seat) h.2.stands in (
          said,
          h.4 ∙ said_are,
          (
            fresh,
            h.0,
            record {
              made = made;
              event = e;
              rest = rest;
              breaks = breaks_here stands h.3;
              agree = u.agree;
              says = u.says;
              rows = subst (λ (z : View B). holds now.keeper (seen z).node.rows) (sym h.2.stands.seat) h.2.held;
              is_cause = at_node (λ k z. nat_lt z.part.events (2 ^ 62) ≡ false) h.3 (no_more (nat_lt mid.seat.part.events (2 ^ 62)) h.1);
            },
          ),
        )
    ends was are start Memory other said_are h = by_seat h.3
      where
        by_seat : (now.seat ≡ mid.seat) ⊎ OneOn same mid.node.members e mid.seat now.seat
            → (told : List Y) × (are ≡ start ++ told) × RoundOf same steps content loaded holds finds failures own old now v told (Err Memory)
        by_seat (inl is) = (
          said,
          h.5 ∙ said_are,
          (
            fresh,
            h.0,
            record {
              made = made;
              rest = e ∷ rest;
              breaks = breaks_here h.1 is;
              says = λ first under logs l takes. ([], append-nil said ∙ u.says first under logs l takes);
              rows = h.4;
            },
          ),
        )
        by_seat (inr one) = (
          said,
          h.5 ∙ said_are,
          (
            fresh,
            h.0,
            record {
              made = made ++ e ∷ [];
              rest = rest;
              breaks = breaks_on h.1 one (counts_one mid.seat.part.events h.2);
              says = λ first under logs l takes.
                  let m = machine_from steps first in
                  let both = take_more same n m loaded logs made (Some e) (seen v) takes in (
                    handed_by same n m logs (under_in same n logs under made (seen v)) (Some e) (behind same n made (seen v)).node,
                    ap (λ z. z ++ handed_by same n m logs (under_in same n logs under made (seen v)) (Some e) (behind same n made (seen v)).node)
                        (u.says first under logs l both.0) ∙ sym (said_more same n m logs under made (Some e) (seen v)),
                  );
              rows = h.4;
            },
          ),
        )
    ends was are start (LostHere says) other said_are h =
        let more = h.2.0 in
        let m = h.2.1 in (
          said ++ more,
          h.2.3 ∙ ap (λ z. z ++ more) said_are ∙ append_assoc start said more,
          (
            fresh,
            h.0,
            h.1,
            record {
              made = made ++ e ∷ [];
              rest = rest;
              breaks = breaks_on (stands_made more m) m.seat (counts_next more m);
              agree = agree_on same steps content loaded holds finds failures old v made looks said mid now mid.seat u e more m.goes me members
                  (stays_next more m) (events_next more m) (counts_next more m) m.agreed.1 counted;
              waits = waits_on same steps content loaded holds finds failures old v made looks said mid now mid.seat u e more m.goes me members
                  (stays_next more m) (events_next more m) (counts_next more m) m.agreed.1 counted;
              says = says_on same steps content loaded holds finds failures old v made looks said mid now mid.seat u e more m.goes me members
                  (stays_next more m) (events_next more m) (counts_next more m) m.agreed.1 counted;
              follows = follows_on same steps content loaded holds finds failures old v made looks said mid now mid.seat u e more m.goes me
                  members (stays_next more m) (events_next more m) (counts_next more m) m.agreed.1 counted;
              rows = rows_made more m;
              up = up;
              down = ap (λ (z : Viewed B). z.node.up) m.seat.1 ∙ h.2.2;
            },
          ),
        )
    ends was are start (Keeper fault) other said_are h =
        let f = h.2 in
        let stands = subst (StandsFor now) (sym f.stands.seat) f.stands in
        let node_is : (seen mid.seat).node ≡ (behind same n made (seen v)).node = ap (λ z. z.node) u.walks.moved in
        let no_other = subst (λ k. disagrees same k (Some e) (seen mid.seat).node ≡ false) u.members h.1.1 in
        let some_log = subst (λ k. takes_no_log same k loaded (Some e) (seen mid.seat).node ≡ false) u.members f.loads in (
          said,
          h.4 ∙ said_are,
          (
            fresh,
            h.0,
            record {
              made = made;
              tried = e ∷ [];
              rest = rest;
              breaks = breaks_here stands h.3;
              agree = agree_more same n loaded made e (seen v) u.agree (subst (λ x. disagrees same n (Some e) x ≡ false) node_is no_other)
                  (subst (λ x. takes_no_log same n loaded (Some e) x ≡ false) node_is some_log);
              waits = waits_as fault f h.3;
              says = u.says;
              follows = λ first under logs l takes.
                  subst (λ z. IsLogOf steps content first (under_in same n logs under made (seen v)) z) (sym f.log) (u.follows first under logs l takes);
              some = omega arith;
              found = λ x it. found_as fault f h.3 x (f.found x it);
              cause = λ is. let was_counted = u.counts in let less = f.cause is in omega (arith, was_counted, less);
            },
          ),
        )
