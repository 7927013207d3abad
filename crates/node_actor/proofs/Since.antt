-- What an actor shows of its last turn is no part of what its calls make of the rest.
use Rattle.std.proofs.Common.{◌≡◌, ap, sym, subst, ◌∙◌, refl}
use Rattle.std.specs.Prelude.{ℕ, Bool, Option, Some, None, Result, Ok, Err, List, []}
use Rattle.std.specs.declared.vec.Vec.{Vec}
use Rattle.std.specs.declared.alloc.Global.{Global}
use Rattle.paxos_packets.specs.Members.{is_in}
use Rattle.paxos_packets.specs.Snapshot as taken
use Rattle.paxos_packets.specs.declared.packet.Packet.{Packet}
use Rattle.paxos_packets.specs.declared.rows.Rows.{Rows}
use Rattle.store_keeper.specs.declared.fault.KeeperFault.{KeeperFault}
use Rattle.replica_machine.specs.Replay.{Steps}
use Rattle.paxos_node.specs.declared.event.Event.{Event}
use Rattle.paxos_node.specs.declared.event.Event.TheVariants.{Cut}
use Rattle.actor_parts.specs.declared.fault.ActorFault.{ActorFault}
use Rattle.actor_parts.specs.declared.fault.ActorFault.TheVariants.{Failed, Rounds, Full, Keeper, Disagree, LostHere, Worn, Memory}
use Rattle.actor_parts.specs.Parts.{Parted}
use Rattle.mail_table.specs.Seats.{Seated}
use Rattle.node_actor.specs.Actor.{Acting, acting, acting_since}
use Rattle.node_actor.specs.Calls.{Rests, Goes, Stops, Fails, Acts, Cuts}
use Rattle.node_actor.specs.Snapshots.{cut_to}
use Rattle.node_actor.specs.Turns.{PostsTo, none_due, post_won, post_lost, PostsAlone}
use Rattle.node_actor.specs.Views.{View, seen, StandsFor, sent_by, Queues}
use Rattle.node_actor.specs.declared.turning.LastTurn.{LastTurn}

module _ {B M K : Type 0} where
  -- the same actor after another turn
  abbrev pub since : LastTurn → Acting B M K → Acting B M K
  since l a = record a { last = l }

  pub stands_since : (l : LastTurn) (a : Acting B M K) (v : View B) → StandsFor a v → StandsFor (since l a) v
  stands_since l a v s = record { seat = s.seat; node = s.node; rows = s.rows; waits = s.waits }

  queues_since : (l m : LastTurn) (k : ℕ) (packets : List (Packet B)) (old new : Acting B M K) (v w : View B) → Queues k packets old new v w
      → Queues k packets (since l old) (since m new) v w
  queues_since l m k packets old new v w q =
      record { meanwhile = q.meanwhile; rest = q.rest; posted = q.posted; waited = q.waited; waits = q.waits }

  -- posts

  posts_to_since : (l m : LastTurn) (k : ℕ) (won : Bool) (old new : Acting B M K) (v w : View B) → PostsTo k won old new v w
      → PostsTo k won (since l old) (since m new) v w
  posts_to_since l m k won old new v w (none_due n h i j t) = none_due n h i j t
  posts_to_since l m k won old new v w (post_won p rest n h i j t) = post_won p rest n h i j t
  posts_to_since l m k won old new v w (post_lost p rest n h i j t) = post_lost p rest n h i j t

  pub posts_since : (l m : LastTurn) (set : List Bool) (old new : Acting B M K) (v w : View B) → PostsAlone set old new v w
      → PostsAlone set (since l old) (since m new) v w
  posts_since l m set old new v w f =
      let b = f.beside in
      record {
        beside = record { only = b.only; table = b.table; me = b.me; seen = b.seen; events = b.events; received = b.received };
        each = λ k peer. posts_to_since l m k (is_in set k) old new v w (f.each k peer);
        others = f.others;
      }

-- events

module _ {B S Y M K : Type 0} (same : B → B → Bool) (steps : Steps B S Y) (content : M → S) (loaded : List ℕ → Option S)
    (holds : K → Rows B → Type 0) (finds : K → Rows B → Type 0) (failures : K → ℕ) (l : LastTurn) (e : Option (Event B)) (old new : Acting B M K) (v : View B) where
  goes_since : (said : List Y) → Goes same steps content loaded holds finds failures e old new v said
      → Goes same steps content loaded holds finds failures e (since l old) (since l new) v said
  goes_since said g =
      record {
        next = g.next;
        stands = stands_since l new g.next g.stands;
        moved = g.moved;
        received = g.received;
        queues = λ k peer. queues_since l l k (sent_by same old.node.members e (seen v).node) old new v g.next (g.queues k peer);
        held = g.held;
        loads = g.loads;
        says = g.says;
        follows = g.follows;
      }

  stops_since : (f : Option (Event B)) → Stops same steps content loaded holds finds failures f old new v
      → Stops same steps content loaded holds finds failures f (since l old) (since l new) v
  stops_since f s = record { next = s.next; stands = stands_since l new s.next s.stands; moved = s.moved; held = s.held }

  fails_since : (fault : KeeperFault) → Fails same steps content loaded holds finds failures e old new v fault
      → Fails same steps content loaded holds finds failures e (since l old) (since l new) v fault
  fails_since fault s =
      record {
        next = s.next;
        stands = stands_since l new s.next s.stands;
        moved = s.moved;
        log = s.log;
        queues = λ k peer. queues_since l l k [] old new v s.next (s.queues k peer);
        loads = s.loads;
        found = s.found;
        cause = s.cause;
      }

  pub acts_since : (result : Result (Vec Y Global) (ActorFault Y)) → Acts same steps content loaded holds finds failures e old new v result
      → Acts same steps content loaded holds finds failures e (since l old) (since l new) v result
  acts_since (Ok says) h = (h.0, h.1, h.2, h.3, goes_since says.items h.4)
  acts_since (Err Failed) h = (h.0, ap (since l) h.1)
  acts_since (Err Rounds) h = (h.0, h.1, ap (since l) h.2)
  acts_since (Err Full) h = (h.0, h.1, ap (since l) h.2)
  acts_since (Err Disagree) h = (h.0, h.1, h.2, h.3, stops_since None h.4)
  acts_since (Err (Keeper fault)) h = (h.0, h.1, h.2, fails_since fault h.3)
  acts_since (Err (LostHere says)) h = (h.0, h.1, h.2, h.3, goes_since says.items h.4)
  acts_since (Err Worn) h = (h.0, h.1, h.2, h.3, h.4, stops_since None h.5)
  acts_since (Err Memory) h = (h.0, h.1, h.2, stops_since e h.3)

-- nor of a cut
pub cuts_since : {B S Y M K : Type 0} (same : B → B → Bool) (steps : Steps B S Y) (content : M → S) (loaded : List ℕ → Option S)
    (holds : K → Rows B → Type 0) (finds : K → Rows B → Type 0) (failures : K → ℕ) (l : LastTurn) (snapshot : Option taken.Snapshot)
    (old new : Acting B M K) (v : View B) (result : Result (Vec Y Global) (ActorFault Y))
    → Cuts same steps content loaded holds finds failures snapshot old new v result
    → Cuts same steps content loaded holds finds failures snapshot (since l old) (since l new) v result
cuts_since same steps content loaded holds finds failures l snapshot old new v (Ok says) h =
    acts_since same steps content loaded holds finds failures l (cut_to old.node.me snapshot (seen v).node) old new v (Ok says) h
cuts_since same steps content loaded holds finds failures l snapshot old new v (Err fault) h =
    acts_since same steps content loaded holds finds failures l (Some (Cut old.node.me snapshot)) old new v (Err fault) h

-- nor of what a call without an event makes
pub rests_since : {B Y M K : Type 0} (old now : Acting B M K) (result : Result (Vec Y Global) (ActorFault Y)) → old.spoiled ≡ now.spoiled
    → Rests old old result → Rests now now result
rests_since old now result spoiled r =
    record { still = refl; silent = r.silent; failed = r.failed; spoiled = sym spoiled ∙ r.spoiled }

-- the same of a call whose actor goes on from the one that is shown
pub cut_rests : {B Y M K : Type 0} (l : LastTurn) (p q : Parted B M K) (s t : Seated B) (now : Acting B M K)
    (result : Result (Vec Y Global) (ActorFault Y)) → acting_since l p s ≡ now → Rests (acting p s) (acting q t) result
    → Rests now (acting_since l q t) result
cut_rests {Y = Y} l p q s t now result is r =
    subst (λ (x : Acting _ _ _). Rests {Y = Y} x (acting_since l q t) result) is
    (record { still = ap (since l) r.still; silent = r.silent; failed = r.failed; spoiled = r.spoiled })
