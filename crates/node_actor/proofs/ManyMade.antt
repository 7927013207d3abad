-- Events that are made together go on from events that were made before them.
use Rattle.std.proofs.Common.{◌≡◌, ◌≤◌, ◌<◌, ℕ, zero, suc, ◌+◌, ◌^◌, Bool, List, [], ◌∷◌, ◌++◌, length, length-append, ap, sym}
use Rattle.std.proofs.Common.{subst, ◌∙◌, refl, arith}
use Rattle.std.proofs.Common.{Option, Some}
use Rattle.std.specs.Prelude.{◌==◌}
use Rattle.std.proofs.lemmas.List.{append_assoc}
use Rattle.std.proofs.lemmas.List.Elements.{filter-append}
use Rattle.circular_buffer.specs.Buffer.{keep_last}
use Rattle.actor_outboxes.proofs.Filing.{keep_last_again}
use Rattle.actor_outboxes.specs.Outboxes.{IsPeer, most_waiting, to, waiting}
use Rattle.paxos_packets.specs.declared.entry.Entry.{Entry}
use Rattle.paxos_packets.specs.declared.packet.Packet.{Packet}
use Rattle.paxos_packets.specs.declared.rows.Rows.{Rows}
use Rattle.paxos_node.specs.declared.event.Event.{Event}
use Rattle.paxos_node.specs.View.{Viewed}
use Rattle.replica_machine.specs.Log.{IsLogOf, machine_from}
use Rattle.replica_machine.specs.Replay.{Machine, Steps}
use Rattle.actor_parts.specs.Parts.{IsPrefixOf}
use Rattle.mail_table.specs.Seats.{knows}
use Rattle.node_actor.specs.Actor.{Acting}
use Rattle.node_actor.specs.EventLists.{behind, sent_in, said_in, under_in, TakeLogs}
use Rattle.node_actor.specs.MidRound.{Under}
use Rattle.node_actor.specs.Rounds.{Look, AllAgree, PostsNone, SaysAll, SaysSome, FollowsAll, WaitsAll, Walks, tries_from}
use Rattle.node_actor.specs.Snapshots.{Logs, under_after, handed_by}
use Rattle.node_actor.specs.Views.{View, seen, moved_by, sent_by}
use Rattle.node_actor.proofs.Looking.{behind_append}

module _ {B : Type 0} (same : B → B → Bool) (members : ℕ) where
  pub sent_append : (xs ys : List (Event B)) (s : Viewed B)
      → sent_in same members (xs ++ ys) s ≡ sent_in same members xs s ++ sent_in same members ys (behind same members xs s)
  sent_append [] ys s = refl
  sent_append (x ∷ xs) ys s =
      let t : Viewed B = moved_by same members (Some x) s in
      ap (λ g. sent_by same members (Some x) s.node ++ g) (sent_append xs ys t)
      ∙ sym (append_assoc (sent_by same members (Some x) s.node) (sent_in same members xs t) (sent_in same members ys (behind same members xs t)))

  pub under_append : (logs : Logs B) (under : List (Entry B)) (xs ys : List (Event B)) (s : Viewed B)
      → under_in same members logs under (xs ++ ys) s
      ≡ under_in same members logs (under_in same members logs under xs s) ys (behind same members xs s)
  under_append logs under [] ys s = refl
  under_append logs under (x ∷ xs) ys s =
      under_append logs (under_after same members logs under (Some x) s.node) xs ys (moved_by same members (Some x) s)

  module _ {S Y : Type 0} (m : Machine B S Y) where
    pub said_append : (logs : Logs B) (under : List (Entry B)) (xs ys : List (Event B)) (s : Viewed B)
        → said_in same members m logs under (xs ++ ys) s
        ≡ said_in same members m logs under xs s
        ++ said_in same members m logs (under_in same members logs under xs s) ys (behind same members xs s)
    said_append logs under [] ys s = refl
    said_append logs under (x ∷ xs) ys s =
        let t : Viewed B = moved_by same members (Some x) s in
        let up : List (Entry B) = under_after same members logs under (Some x) s.node in
        ap (λ g. handed_by same members m logs under (Some x) s.node ++ g) (said_append logs up xs ys t)
        ∙ sym (append_assoc (handed_by same members m logs under (Some x) s.node) (said_in same members m logs up xs t)
        (said_in same members m logs (under_in same members logs up xs t) ys (behind same members xs t)))

    pub take_append : (loaded : List ℕ → Option S) (logs : Logs B) (xs ys : List (Event B)) (s : Viewed B)
        → TakeLogs same members loaded m logs (xs ++ ys) s
        → TakeLogs same members loaded m logs xs s × TakeLogs same members loaded m logs ys (behind same members xs s)
    take_append loaded logs [] ys s h = (tt, h)
    take_append loaded logs (x ∷ xs) ys s h =
        let r = take_append loaded logs xs ys (moved_by same members (Some x) s) h.1 in ((h.0, r.0), r.1)

  pub agree_append : {S : Type 0} (loaded : List ℕ → Option S) (xs ys : List (Event B)) (s : Viewed B) → AllAgree same members loaded xs s
      → AllAgree same members loaded ys (behind same members xs s) → AllAgree same members loaded (xs ++ ys) s
  agree_append loaded [] ys s h k = k
  agree_append loaded (x ∷ xs) ys s h k = (h.0, h.1, agree_append loaded xs ys (moved_by same members (Some x) s) h.2 k)

-- a number that two parts keep below a bound, if there is one of either
counted_sum : (most v a b mid all : ℕ) → all ≡ a + b → mid ≡ v + a → (0 < a → v + a ≤ most) → (0 < b → mid + b ≤ most) → 0 < all → v + all ≤ most
counted_sum most v a zero mid all is at first second some =
    let k : 0 < a = omega (arith, is, some) in let l = first k in omega (arith, is, l)
counted_sum most v a (suc b) mid all is at first second some =
    let l = second (omega arith) in omega (arith, is, at, l)

module _ {B S Y M K : Type 0} (same : B → B → Bool) (steps : Steps B S Y) (content : M → S) (loaded : List ℕ → Option S)
    (holds : K → Rows B → Type 0) (finds : K → Rows B → Type 0) (failures : K → ℕ) (old : Acting B M K) (v : View B) (made : List (Event B))
    (looks : List (Look B)) (said : List Y) (mid : Acting B M K)
    (u : Under same steps content loaded holds finds failures old v made looks said mid mid.seat) (es : List (Event B)) (now : Acting B M K) where
  abbrev n : ℕ
  n = old.node.members

  abbrev s : Viewed B
  s = seen v

  abbrev between : Viewed B
  between = behind same n made s

  seen_is : seen mid.seat ≡ between
  seen_is = u.walks.moved

  -- what is known by the actor in the midst is known by the old one
  pub here : (P : ℕ → Viewed B → Type 0) → P mid.node.members (seen mid.seat) → P n between
  here P h = subst (λ (x : Viewed B). P n x) seen_is (subst (λ k. P k (seen mid.seat)) u.members h)

  there : (P : ℕ → Viewed B → Type 0) → P n between → P mid.node.members (seen mid.seat)
  there P h = subst (λ k. P k (seen mid.seat)) (sym u.members) (subst (λ (x : Viewed B). P n x) (sym seen_is) h)

  peer_at : (k : ℕ) → IsPeer old.node.me old.node.members k → IsPeer mid.node.me mid.node.members k
  peer_at k = subst (λ (z : ℕ × ℕ). IsPeer z.0 z.1 k) (λ i. (sym u.me i, sym u.members i))

  both_long : length (made ++ es) ≡ length made + length es
  both_long = length-append made es

  -- the view walks on by them
  pub walks_all : Walks same steps content loaded holds finds failures es [] mid now mid.seat now.seat
      → Walks same steps content loaded holds finds failures (made ++ es) looks old now v now.seat
  walks_all w =
      record {
        stands = w.stands;
        table = w.table ∙ ap (knows now.seat.part) u.walks.table;
        me = w.me ∙ u.walks.me;
        moved = here (λ k x. seen now.seat ≡ behind same k es x) w.moved ∙ sym (behind_append same n made es s);
        received = w.received ∙ u.walks.received;
        tries = λ k peer. subst (λ m. tries_from m now.seat.part k ≡ tries_from m mid.seat.part k) u.members (w.tries k (peer_at k peer))
            ∙ u.walks.tries k peer;
        events = let l = both_long in let first = u.walks.events in let second = w.events in omega (arith, l, first, second);
        counted = counted_sum (2 ^ 62) v.part.events (length made) (length es) mid.seat.part.events (length (made ++ es)) both_long u.walks.events
            u.walks.counted w.counted;
      }

  pub posts_all : ((k : ℕ) → IsPeer mid.node.me mid.node.members k → PostsNone k mid.seat now.seat)
      → (k : ℕ) → IsPeer old.node.me old.node.members k → PostsNone k v now.seat
  posts_all h k peer =
      let p = h k (peer_at k peer) in
      record { posted = p.posted ∙ (u.posts k peer).posted; tries = p.tries ∙ (u.posts k peer).tries }

  pub agree_all : AllAgree same mid.node.members loaded es (seen mid.seat) → AllAgree same n loaded (made ++ es) s
  agree_all h = agree_append same n loaded made es s u.agree (here (λ k x. AllAgree same k loaded es x) h)

  waits_all : WaitsAll same steps content loaded holds finds failures es mid now mid.seat
      → WaitsAll same steps content loaded holds finds failures (made ++ es) old now v
  waits_all h k peer =
      let first : List (Packet B) = to k (sent_in same n made s) in
      let second : List (Packet B) = to k (sent_in same n es between) in
      here (λ m x. waiting k now.waiting ≡ keep_last most_waiting (waiting k mid.waiting ++ to k (sent_in same m es x))) (h k (peer_at k peer))
      ∙ (ap (λ l. keep_last most_waiting (l ++ second)) (u.waits k peer)
      ∙ (keep_last_again most_waiting (waiting k old.waiting ++ first) second
      ∙ ap (keep_last most_waiting) (append_assoc (waiting k old.waiting) first second
      ∙ ap (λ l. waiting k old.waiting ++ l) (sym (filter-append (λ q. q.addressee == k) (sent_in same n made s) (sent_in same n es between))
      ∙ ap (to k) (sym (sent_append same n made es s))))))

  -- what is said, if what these events say is known

  said_by : (first : S) (under : List (Entry B)) (logs : Logs B) → IsLogOf steps content first under old.log
      → TakeLogs same n loaded (machine_from steps first) logs (made ++ es) s
      → said ++ said_in same n (machine_from steps first) logs (under_in same n logs under made s) es between
      ≡ said_in same n (machine_from steps first) logs under (made ++ es) s
  said_by first under logs l takes =
      let m = machine_from steps first in
      let both = take_append same n m loaded logs made es s takes in
      ap (λ z. z ++ said_in same n m logs (under_in same n logs under made s) es between) (u.says first under logs l both.0)
      ∙ sym (said_append same n m logs under made es s)

  log_mid : (first : S) (under : List (Entry B)) (logs : Logs B) → IsLogOf steps content first under old.log
      → TakeLogs same n loaded (machine_from steps first) logs (made ++ es) s
      → IsLogOf steps content first (under_in same n logs under made s) mid.log
  log_mid first under logs l takes =
      u.follows first under logs l (take_append same n (machine_from steps first) loaded logs made es s takes).0

  takes_mid : (first : S) (logs : Logs B) → TakeLogs same n loaded (machine_from steps first) logs (made ++ es) s
      → TakeLogs same mid.node.members loaded (machine_from steps first) logs es (seen mid.seat)
  takes_mid first logs takes =
      there (λ k x. TakeLogs same k loaded (machine_from steps first) logs es x)
      (take_append same n (machine_from steps first) loaded logs made es s takes).1

  says_all : (more : List Y) → SaysAll same steps content loaded holds finds failures es mid mid.seat more
      → SaysAll same steps content loaded holds finds failures (made ++ es) old v (said ++ more)
  says_all more h first under logs l takes =
      let up : List (Entry B) = under_in same n logs under made s in
      ap (λ z. said ++ z)
      (here (λ k x. more ≡ said_in same k (machine_from steps first) logs up es x)
      (h first up logs (log_mid first under logs l takes) (takes_mid first logs takes)))
      ∙ said_by first under logs l takes

  pub says_some : (more : List Y) → SaysSome same steps content loaded holds finds failures es mid mid.seat more
      → SaysSome same steps content loaded holds finds failures (made ++ es) old v (said ++ more)
  says_some more h first under logs l takes =
      let up : List (Entry B) = under_in same n logs under made s in
      let p : IsPrefixOf more (said_in same n (machine_from steps first) logs up es between) =
      here (λ k x. IsPrefixOf more (said_in same k (machine_from steps first) logs up es x))
      (h first up logs (log_mid first under logs l takes) (takes_mid first logs takes)) in
      (p.0, append_assoc said more p.0 ∙ ap (λ z. said ++ z) p.1 ∙ said_by first under logs l takes)

  follows_all : FollowsAll same steps content loaded holds finds failures es mid now mid.seat
      → FollowsAll same steps content loaded holds finds failures (made ++ es) old now v
  follows_all h first under logs l takes =
      let up : List (Entry B) = under_in same n logs under made s in
      subst (λ z. IsLogOf steps content first z now.log) (sym (under_append same n logs under made es s))
      (here (λ k x. IsLogOf steps content first (under_in same k logs up es x) now.log)
      (h first up logs (log_mid first under logs l takes) (takes_mid first logs takes)))

  -- the round goes on by them
  pub goes_all : (more : List Y) → Under same steps content loaded holds finds failures mid mid.seat es [] more now now.seat
      → Under same steps content loaded holds finds failures old v (made ++ es) looks (said ++ more) now now.seat
  goes_all more w =
      record {
        me = w.me ∙ u.me;
        members = w.members ∙ u.members;
        fresh = w.fresh;
        walks = walks_all w.walks;
        agree = agree_all w.agree;
        says = says_all more w.says;
        follows = follows_all w.follows;
        waits = waits_all w.waits;
        posts = posts_all w.posts;
        rows = w.rows;
        counts = let first = u.counts in let second = w.counts in omega (arith, first, second);
      }
