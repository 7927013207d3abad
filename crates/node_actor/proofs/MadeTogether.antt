-- What a flush makes of an actor: the events that were tried are made, in one step of a round.
use Rattle.std.proofs.Common.{◌≡◌, ◌≤◌, ℕ, ◌+◌, ◌^◌, Bool, false, List, [], ◌∷◌, ◌++◌, length, ap, sym, subst, ◌∙◌, refl, arith}
use Rattle.std.proofs.Common.{Option, Some}
use Rattle.std.specs.Prelude.{All, Contains}
use Rattle.std.proofs.lemmas.List.{append-nil, append_assoc}
use Rattle.circular_buffer.specs.Buffer.{keep_last}
use Rattle.paxos_packets.specs.declared.entry.Entry.{Entry}
use Rattle.paxos_packets.specs.declared.packet.Packet.{Packet}
use Rattle.paxos_packets.specs.declared.rows.Rows.{Rows}
use Rattle.paxos_node.specs.View.{Viewed}
use Rattle.paxos_node.specs.declared.event.Event.{Event}
use Rattle.paxos_planning.specs.Node.{NodeState}
use Rattle.replica_machine.specs.Log.{IsLogOf, machine_from}
use Rattle.replica_machine.specs.Replay.{Steps}
use Rattle.actor_outboxes.specs.Outboxes.{IsPeer, WaitBehind, most_waiting, to, waiting}
use Rattle.actor_parts.specs.Parts.{Parted}
use Rattle.actor_parts.specs.Steps.{StaysWho}
use Rattle.actor_parts.specs.Tried.{FollowsTried, Staged, StopsTried, events_in, heard_of, packets_in}
use Rattle.actor_parts.proofs.Trying.{boot_stays}
use Rattle.mail_table.specs.Seats.{Seated}
use Rattle.mail_table.specs.Views.{box_of, through}
use Rattle.node_actor.specs.Actor.{acting}
use Rattle.node_actor.specs.EventLists.{behind, sent_in, said_in}
use Rattle.node_actor.specs.MidRound.{StopsAll, Under}
use Rattle.node_actor.specs.Posts.{advanced_all}
use Rattle.node_actor.specs.Rounds.{PostsNone, Walks}
use Rattle.node_actor.specs.Snapshots.{Logs}
use Rattle.node_actor.specs.Trying.{acting_before, Trying}
use Rattle.node_actor.specs.Turns.{StaysAt, tries_at}
use Rattle.node_actor.specs.Views.{moved_by, seen, sent_by}
use Rattle.node_actor.proofs.TriedEvents.{advanced_events, advanced_seen, advanced_stays, agree_tried, as_many}
use Rattle.node_actor.proofs.TriedEvents.{node_after, said_tried, sent_tried, under_tried}
use Rattle.node_actor.proofs.Seating.{peer_of, sent_still}

-- what a view shows as sent after events
pub sent_after : {B : Type 0} (same : B → B → Bool) (n : ℕ) (es : List (Event B)) (s : Viewed B)
    → (behind same n es s).sent ≡ s.sent ++ sent_in same n es s
sent_after same n [] s = sym (append-nil s.sent)
sent_after same n (e ∷ es) s =
    sent_after same n es (moved_by same n (Some e) s)
    ∙ append_assoc s.sent (sent_by same n (Some e) s.node) (sent_in same n es (moved_by same n (Some e) s))

module _ {B S Y M K : Type 0} (same : B → B → Bool) (steps : Steps B S Y) (content : M → S) (loaded : List ℕ → Option S)
    (holds : K → Rows B → Type 0) (finds : K → Rows B → Type 0) (failures : K → ℕ) (is_failed : K → Bool) (p q : Parted B M K) (s t : Seated B)
    (g : Staged B) (tr : Trying same holds is_failed p s g) (is : t ≡ advanced_all same g.tried s) (who : StaysWho p q)
    (state : q.node.state ≡ p.node.state) where
  abbrev n : ℕ
  n = p.node.members

  abbrev me : ℕ
  me = p.node.me

  abbrev es : List (Event B)
  es = events_in g.tried

  stays : StaysAt s t
  stays = subst (StaysAt s) (sym is) (advanced_stays same g.tried s)

  members_are : s.members ≡ n
  members_are = tr.seated.members

  seen_is : seen t ≡ behind same n es (seen s)
  seen_is =
      ap seen is ∙ (advanced_seen same g.tried s ∙ ap (λ k. behind same k es (seen s)) members_are)

  node_is : q.node.state ≡ (seen t).node
  node_is =
      state ∙ (tr.node ∙ (sym (node_after same me n g.tried (seen s)) ∙ ap (λ (z : Viewed B). z.node) (sym seen_is)))

  one_each : length es ≡ length g.tried
  one_each = as_many g.tried

  events_are : t.part.events ≡ s.part.events + length es
  events_are =
      let l : length es ≡ length g.tried = one_each in
      let e : t.part.events ≡ s.part.events + length g.tried = ap (λ (z : Seated B). z.part.events) is ∙ advanced_events same g.tried s in
      omega (arith, l, e)

  sent_is : (seen t).sent ≡ (seen s).sent ++ packets_in g.tried
  sent_is =
      ap (λ (z : Viewed B). z.sent) seen_is
      ∙ (sent_after same n es (seen s) ∙ ap (λ ps. (seen s).sent ++ ps) (sym (sent_tried same me n g.tried (seen s) tr.tried)))

  tables : t.members ≡ s.members
  tables = ap (λ (x : Seated B). x.members) stays.table

  posts_are : (k : ℕ) → IsPeer p.node.me p.node.members k → PostsNone k s t
  posts_are k peer =
      record {
        posted = λ i. through (box_of (tables i) (stays.me i) k) (stays.posted i);
        tries = λ i. tries_at (box_of (tables i) (stays.me i) k) (stays.tried i);
      }

  log_is : p.log.applied ≡ (seen s).node.applied
  log_is = (tr.sound.serves tr.fresh).followed

  boot_same : p.node.state.rows.boot ≡ (seen s).node.rows.boot
  boot_same = ap (λ (x : NodeState B). x.rows.boot) tr.node ∙ boot_stays same me n g.tried (seen s).node tr.tried

  rows_are : holds q.keeper p.node.state.rows → holds q.keeper (seen t).node.rows
  rows_are held = subst (λ (r : Rows B). holds q.keeper r) (ap (λ (x : NodeState B). x.rows) (sym state ∙ node_is)) held

  -- what the machine says of them
  heard_is : (first : S) (under : List (Entry B)) (logs : Logs B)
      → heard_of (machine_from steps first) p.waiting.me p.node.state.rows.boot (under ++ p.log.applied) g.tried
      ≡ said_in same n (machine_from steps first) logs under es (seen s)
  heard_is first under logs =
      ap (λ k. heard_of (machine_from steps first) k p.node.state.rows.boot (under ++ p.log.applied) g.tried) tr.sound.me
      ∙ (ap (λ b. heard_of (machine_from steps first) me b (under ++ p.log.applied) g.tried) boot_same
      ∙ (ap (λ log. heard_of (machine_from steps first) me (seen s).node.rows.boot (under ++ log) g.tried) log_is
      ∙ said_tried same me n (machine_from steps first) logs under g.tried (seen s) tr.tried))

  module _ (waits : WaitBehind (packets_in g.tried) p.waiting q.waiting) where
    pub walks_together : Walks same steps content loaded holds finds failures es [] (acting_before p s) (acting q t) s t
    walks_together =
        record {
          stands = record {
            seat = refl;
            node = λ up. node_is;
            rows = ap (λ (x : NodeState B). x.rows) node_is;
            waits = λ k peer. subst (λ (l : List (Packet B)). All (Contains l) (waiting k q.waiting)) (sym sent_is)
                (sent_still p q (packets_in g.tried) (seen s).sent tr.sound.me tr.sound.members who tr.seated.waits waits k peer);
          };
          table = stays.table;
          me = stays.me;
          moved = seen_is;
          received = stays.received;
          tries = λ k peer. λ i. tries_at (box_of n k (stays.me i)) (stays.tried i);
          events = events_are;
          counted = λ some.
              let l : length es ≡ length g.tried = one_each in
              let c : s.part.events + length g.tried ≤ 2 ^ 62 = tr.counts (omega (arith, some, l)) in
              omega (arith, l, c);
        }

    waits_are : (k : ℕ) → IsPeer p.node.me p.node.members k
        → waiting k q.waiting ≡ keep_last most_waiting (waiting k p.waiting ++ to k (sent_in same n es (seen s)))
    waits_are k peer =
        waits k (peer_of p tr.sound.me tr.sound.members k peer)
        ∙ ap (λ ps. keep_last most_waiting (waiting k p.waiting ++ to k ps)) (sent_tried same me n g.tried (seen s) tr.tried)

  -- all are made
  pub all_together : (said : List Y) → FollowsTried steps content p.node.state.rows.boot g.tried p q said → holds q.keeper p.node.state.rows
      → q.spoiled ≡ false → failures p.keeper ≤ failures q.keeper
      → Under same steps content loaded holds finds failures (acting_before p s) s es [] said (acting q t) t
  all_together said ft held fresh counts =
      record {
        me = who.me;
        members = who.members;
        fresh = fresh;
        walks = walks_together ft.waits;
        agree = agree_tried same me n loaded g.tried (seen s) tr.tried;
        says = λ first under logs l takes. ft.says first under l ∙ heard_is first under logs;
        follows = λ first under logs l takes.
            subst (λ z. IsLogOf steps content first z q.log) (sym (under_tried same me n logs under g.tried (seen s) tr.tried))
            (ft.follows first under l);
        waits = waits_are ft.waits;
        posts = posts_are;
        rows = rows_are held;
        counts = counts;
      }

  -- all are made, and memory ran out for what the machine was to say
  pub stops_together : (said : List Y) → StopsTried steps content p.node.state.rows.boot g.tried p q said → holds q.keeper p.node.state.rows
      → StopsAll same steps content loaded holds finds failures es (acting_before p s) (acting q t) said
  stops_together said st held =
      record {
        me = who.me;
        members = who.members;
        walks = walks_together st.waits;
        posts = posts_are;
        says = λ first under logs l takes.
            let f = st.says first under l in
            (f.0, f.1 ∙ heard_is first under logs);
        rows = rows_are held;
      }
