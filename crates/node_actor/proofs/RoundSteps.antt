-- How a round goes on by an event, and by a look into a box.
use Rattle.std.proofs.Common.{◌≡◌, ◌≤◌, ℕ, suc, ◌+◌, ◌^◌, Bool, false, List, [], ◌∷◌, ◌++◌, length, length-append, ap, sym, subst, ◌∙◌}
use Rattle.std.proofs.Common.{arith, Option, Some}
use Rattle.std.specs.Prelude.{◌==◌}
use Rattle.std.proofs.lemmas.List.{append_assoc}
use Rattle.std.proofs.lemmas.List.Elements.{filter-append}
use Rattle.circular_buffer.specs.Buffer.{keep_last}
use Rattle.actor_outboxes.proofs.Filing.{keep_last_again}
use Rattle.actor_outboxes.specs.Outboxes.{IsPeer, most_waiting, to, waiting}
use Rattle.paxos_packets.specs.declared.packet.Packet.{Packet}
use Rattle.paxos_packets.specs.declared.rows.Rows.{Rows}
use Rattle.paxos_node.specs.declared.event.Event.{Event}
use Rattle.paxos_node.specs.View.{Viewed}
use Rattle.paxos_planning.specs.Node.{NodeState}
use Rattle.replica_machine.specs.Log.{IsLogOf, machine_from}
use Rattle.replica_machine.specs.Replay.{Steps}
use Rattle.paxos_packets.specs.declared.entry.Entry.{Entry}
use Rattle.mail_table.specs.Seats.{Seated, knows}
use Rattle.mail_table.specs.Views.{box_of, through}
use Rattle.node_actor.specs.Actor.{Acting}
use Rattle.node_actor.specs.Calls.{GoesWith, disagrees}
use Rattle.node_actor.specs.EventLists.{behind, sent_in, said_in, under_in}
use Rattle.node_actor.specs.MidRound.{Under}
use Rattle.node_actor.specs.Rounds.{Look, AllAgree, SaysAll, FollowsAll, waits_behind}
use Rattle.node_actor.specs.Snapshots.{Logs, TakesLog, takes_no_log, under_after, handed_by}
use Rattle.node_actor.specs.Turns.{StaysAt, tries_at, tries_to}
use Rattle.node_actor.specs.Views.{View, seen, posted_to, moved_by, sent_by, Queues}
use Rattle.node_actor.proofs.EventLists.{behind_more, sent_more, said_more, take_more, under_more}

-- nothing comes after a list that is as long with it
pub none_after : {A : Type 0} (xs ys : List A) → xs ≡ xs ++ ys → ys ≡ []
none_after [] ys e = sym e
none_after (x ∷ xs) ys e = none_after xs ys (tail_of (x ∷ xs) (x ∷ (xs ++ ys)) e)
  where
    rest : {A : Type 0} → List A → List A
    rest [] = []
    rest (x ∷ xs) = xs

    tail_of : {A : Type 0} (ps qs : List A) → ps ≡ qs → rest ps ≡ rest qs
    tail_of ps qs p = ap rest p

module _ {B : Type 0} (same : B → B → Bool) (members : ℕ) {S : Type 0} (loaded : List ℕ → Option S) where
  -- one event more agrees
  pub agree_more : (made : List (Event B)) (e : Event B) (s : Viewed B) → AllAgree same members loaded made s
      → disagrees same members (Some e) (behind same members made s).node ≡ false
      → takes_no_log same members loaded (Some e) (behind same members made s).node ≡ false
      → AllAgree same members loaded (made ++ e ∷ []) s
  agree_more [] e s all no_other some_log = (no_other, some_log, tt)
  agree_more (x ∷ xs) e s all no_other some_log =
      (all.0, all.1, agree_more xs e (moved_by same members (Some x) s) all.2 no_other some_log)

module _ {B S Y M K : Type 0} (same : B → B → Bool) (steps : Steps B S Y) (content : M → S) (loaded : List ℕ → Option S)
    (holds : K → Rows B → Type 0) (finds : K → Rows B → Type 0) (failures : K → ℕ) where
  module _ (old : Acting B M K) (v : View B) (made : List (Event B)) (looks : List (Look B)) (said : List Y) (mid now : Acting B M K) (w : View B)
      (u : Under same steps content loaded holds finds failures old v made looks said mid w) (e : Event B) (says : List Y)
      (g : GoesWith same steps content loaded holds finds failures [] (Some e) mid now w says) (me : now.node.me ≡ mid.node.me)
      (members : now.node.members ≡ mid.node.members) (stays : StaysAt w g.next)
      (events : g.next.part.events ≡ suc w.part.events) (counts : suc w.part.events ≤ 2 ^ 62)
      (no_other : disagrees same mid.node.members (Some e) (seen w).node ≡ false) (counted : failures mid.keeper ≤ failures now.keeper) where
    abbrev n : ℕ
    n = old.node.members

    abbrev s : Viewed B
    s = seen v

    abbrev here : NodeState B
    here = (behind same n made s).node

    node_is : (seen w).node ≡ here
    node_is = ap (λ (z : Viewed B). z.node) u.walks.moved

    moved : seen g.next ≡ behind same n (made ++ e ∷ []) s
    moved =
        g.moved ∙ (ap (λ k. moved_by same k (Some e) (seen w)) u.members
        ∙ (ap (moved_by same n (Some e)) u.walks.moved ∙ sym (behind_more same n made (Some e) s)))

    -- what waits goes on
    sent_is : sent_by same mid.node.members (Some e) (seen w).node ≡ sent_by same n (Some e) here
    sent_is = ap (λ k. sent_by same k (Some e) (seen w).node) u.members ∙ ap (sent_by same n (Some e)) node_is

    peer_at : (k : ℕ) → IsPeer old.node.me old.node.members k → IsPeer mid.node.me mid.node.members k
    peer_at k = subst (λ (z : ℕ × ℕ). IsPeer z.0 z.1 k) (λ i. (sym u.me i, sym u.members i))

    filtered : (k : ℕ) (ps qs : List (Packet B)) → to k (ps ++ qs) ≡ to k ps ++ to k qs
    filtered k ps qs = filter-append (λ q. q.addressee == k) ps qs

    posted_same : (k : ℕ) → posted_to k g.next ≡ posted_to k w
    posted_same k =
        let tables : g.next.members ≡ w.members = ap (λ (x : Seated B). x.members) stays.table in
        λ i. through (box_of (tables i) (stays.me i) k) (stays.posted i)

    tried_same : (k : ℕ) → tries_to k g.next ≡ tries_to k w
    tried_same k =
        let tables : g.next.members ≡ w.members = ap (λ (x : Seated B). x.members) stays.table in
        λ i. tries_at (box_of (tables i) (stays.me i) k) (stays.tried i)

    pub waits_on : (k : ℕ) → IsPeer old.node.me old.node.members k
        → waiting k now.waiting ≡ waits_behind k (sent_in same n (made ++ e ∷ []) s) old
    waits_on k peer =
        let q : Queues k (sent_by same mid.node.members (Some e) (seen w).node) mid now w g.next = g.queues k (peer_at k peer) in
        let posted : posted_to k g.next ≡ posted_to k w = posted_same k in
        let none : q.meanwhile ≡ [] = none_after (posted_to k w) q.meanwhile (sym posted ∙ q.posted) in
        let rest : q.rest ≡ waiting k mid.waiting = ap (λ l. l ++ q.rest) (sym none) ∙ sym q.waited in
        let ps : List (Packet B) = sent_by same n (Some e) here in
        q.waits
        ∙ (ap (λ l. keep_last most_waiting (l ++ to k (sent_by same mid.node.members (Some e) (seen w).node))) (rest ∙ u.waits k peer)
        ∙ (ap (λ l. keep_last most_waiting (waits_behind k (sent_in same n made s) old ++ to k l)) sent_is
        ∙ (keep_last_again most_waiting (waiting k old.waiting ++ to k (sent_in same n made s)) (to k ps)
        ∙ ap (keep_last most_waiting) (append_assoc (waiting k old.waiting) (to k (sent_in same n made s)) (to k ps)
        ∙ ap (λ l. waiting k old.waiting ++ l) (sym (filtered k (sent_in same n made s) ps)
        ∙ ap (to k) (sym (sent_more same n made (Some e) s)))))))

    -- what is said goes on, too

    takes_here : (first : S) (logs : Logs B)
        → TakesLog same n loaded (machine_from steps first) logs (Some e) here
        → TakesLog same mid.node.members loaded (machine_from steps first) logs (Some e) (seen w).node
    takes_here first logs h =
        subst (λ k. TakesLog same k loaded (machine_from steps first) logs (Some e) (seen w).node) (sym u.members)
        (subst (λ x. TakesLog same n loaded (machine_from steps first) logs (Some e) x) (sym node_is) h)

    pub says_on : SaysAll same steps content loaded holds finds failures (made ++ e ∷ []) old v (said ++ says)
    says_on first under logs l takes =
        let m = machine_from steps first in
        let both = take_more same n m loaded logs made (Some e) s takes in
        let up : List (Entry B) = under_in same n logs under made s in
        let mine : says ≡ handed_by same n m logs up (Some e) here =
        g.says first up logs (u.follows first under logs l both.0) (takes_here first logs both.1)
        ∙ (ap (λ k. handed_by same k m logs up (Some e) (seen w).node) u.members ∙ ap (handed_by same n m logs up (Some e)) node_is) in
        ap (λ z. z ++ says) (u.says first under logs l both.0)
        ∙ (ap (λ z. said_in same n m logs under made s ++ z) mine ∙ sym (said_more same n m logs under made (Some e) s))

    pub follows_on : FollowsAll same steps content loaded holds finds failures (made ++ e ∷ []) old now v
    follows_on first under logs l takes =
        let m = machine_from steps first in
        let both = take_more same n m loaded logs made (Some e) s takes in
        let up : List (Entry B) = under_in same n logs under made s in
        let under_is : under_after same mid.node.members logs up (Some e) (seen w).node ≡ under_in same n logs under (made ++ e ∷ []) s =
        ap (λ k. under_after same k logs up (Some e) (seen w).node) u.members
        ∙ (ap (under_after same n logs up (Some e)) node_is ∙ sym (under_more same n logs under made (Some e) s)) in
        subst (λ z. IsLogOf steps content first z now.log) under_is
        (g.follows first up logs (u.follows first under logs l both.0) (takes_here first logs both.1))

    other_here : disagrees same n (Some e) here ≡ false
    other_here = sym (ap (λ k. disagrees same k (Some e) (seen w).node) u.members ∙ ap (disagrees same n (Some e)) node_is) ∙ no_other

    loads_here : takes_no_log same n loaded (Some e) here ≡ false
    loads_here = sym (ap (λ k. takes_no_log same k loaded (Some e) (seen w).node) u.members ∙ ap (takes_no_log same n loaded (Some e)) node_is) ∙ g.loads

    -- all of them agree
    pub agree_on : AllAgree same n loaded (made ++ e ∷ []) s
    agree_on = agree_more same n loaded made e s u.agree other_here loads_here

    one_longer : length (made ++ e ∷ []) ≡ suc (length made)
    one_longer = let l = length-append made (e ∷ []) in omega (arith, l)

    -- so the round goes on
    pub goes : now.spoiled ≡ false → Under same steps content loaded holds finds failures old v (made ++ e ∷ []) looks (said ++ says) now g.next
    goes fresh =
        record {
          me = me ∙ u.me;
          members = members ∙ u.members;
          fresh = fresh;
          walks = record {
            stands = g.stands;
            table = stays.table ∙ ap (knows g.next.part) u.walks.table;
            me = stays.me ∙ u.walks.me;
            moved = moved;
            received = stays.received ∙ u.walks.received;
            tries = λ k peer. (λ i. tries_at (box_of n k (stays.me i)) (stays.tried i)) ∙ u.walks.tries k peer;
            events = let l = one_longer in let before = u.walks.events in omega (arith, l, before, events);
            counted = λ some. let l = one_longer in let before = u.walks.events in omega (arith, l, before, counts);
          };
          agree = agree_on;
          says = says_on;
          follows = follows_on;
          waits = waits_on;
          posts = λ k peer. record {
            posted = posted_same k ∙ (u.posts k peer).posted;
            tries = tried_same k ∙ (u.posts k peer).tries;
          };
          rows = g.held;
          counts = let before = u.counts in omega (arith, before, counted);
        }
