-- A turn is what its parts make of an actor.
use Rattle.std.proofs.Common.{◌≡◌, ℕ, Bool, false, List, Option, None, Result, ap, subst}
use Rattle.std.specs.declared.vec.Vec.{Vec}
use Rattle.std.specs.declared.alloc.Global.{Global}
use Rattle.paxos_packets.specs.Members.{IsMember}
use Rattle.paxos_packets.specs.declared.packet.Packet.{Packet}
use Rattle.paxos_packets.specs.declared.rows.Rows.{Rows}
use Rattle.replica_machine.specs.Replay.{Steps}
use Rattle.actor_parts.specs.declared.fault.ActorFault.{ActorFault}
use Rattle.actor_parts.specs.Parts.{Parted}
use Rattle.mail_table.specs.Seats.{Seated, knows}
use Rattle.node_actor.specs.Actor.{acting, acting_since, IsSeated}
use Rattle.node_actor.specs.Calls.{turn_event, Acts}
use Rattle.node_actor.specs.Turns.{round, Fetches, packet_got, peer_got, heard_got, PostsAlone, Turns, StaysAt, Reaches}
use Rattle.node_actor.specs.Views.{View}
use Rattle.node_actor.proofs.Rounds.{reaches_got, seen_got}
use Rattle.node_actor.specs.declared.turning.LastTurn.{LastTurn}
use Rattle.node_actor.proofs.Seating.{seated_stands, seated_at}
use Rattle.node_actor.proofs.Since.{stands_since, posts_since, acts_since}

module _ {B S Y M K : Type 0} (same : B → B → Bool) (steps : Steps B S Y) (content : M → S) (loaded : List ℕ → Option S)
    (holds : K → Rows B → Type 0) (finds : K → Rows B → Type 0) (failures : K → ℕ) where
  -- the parts p at the seat s post; q at t fetches, so that u is its seat; then the event leaves r at w; l was shown, and y is
  module _ (l y : LastTurn) (p q r : Parted B M K) (s t u w : Seated B) (seated : IsSeated same (acting q t))
      (posts : PostsAlone y.posted (acting p s) (acting q t) s t)
      (me : t.part.me ≡ p.node.me) (members : t.members ≡ p.node.members) (first : ℕ) (within : IsMember p.node.members first)
      (got : Option (ℕ × Packet B)) (table : u ≡ knows u.part t) (fetches : Fetches t.members (round t.part.me t.members first) t.part got
      u.part) where
    pub turns : (result : Result (Vec Y Global) (ActorFault Y)) → q.spoiled ≡ false → StaysAt u w
        → (y.from ≡ peer_got got) × (y.heard ≡ heard_got got)
        → ((v : View B) → Reaches q.spoiled (turn_event q.node.me q.node.members (packet_got got)) v u
        → Acts same steps content loaded holds finds failures (turn_event q.node.me q.node.members (packet_got got)) (acting q v) (acting r w) v
        result)
        → Turns same steps content loaded holds finds failures (acting_since l p s) (acting_since y r w) s result
    turns result fresh stays shows acts =
        record {
          mid = acting_since y q t;
          between = t;
          stands = stands_since y (acting q t) t (seated_stands same q t seated);
          posts = posts_since l y y.posted (acting p s) (acting q t) s t posts;
          first = first;
          within = within;
          got = got;
          behind = u.part;
          fetches = subst (λ n. Fetches n (round p.node.me n first) t.part got u.part) members
              (subst (λ k. Fetches t.members (round k t.members first) t.part got u.part) me fetches);
          acts = acts_since same steps content loaded holds finds failures y (turn_event p.node.me p.node.members (packet_got got)) (acting q t)
              (acting r w) t result
              (subst (λ n. Acts same steps content loaded holds finds failures (turn_event n.me n.members (packet_got got)) (acting q t)
              (acting r w) t result)
              posts.beside.only.node
              (acts t (subst (λ e. Reaches q.spoiled e t u) (λ i. turn_event (seated.me i) (seated.members i) (packet_got got))
              (reaches_got q.spoiled (round t.part.me t.members first) t u got fresh table fetches))));
          tried = stays.tried;
          received = stays.received;
          posted = stays.posted;
          peer = shows.0;
          heard = shows.1;
        }

-- the seat that has fetched is the actor's
pub seated_fetched : {B M K : Type 0} (same : B → B → Bool) (q : Parted B M K) (t u : Seated B) (ks : List ℕ) (got : Option (ℕ × Packet B))
    → IsSeated same (acting q t) → q.failed ≡ None → u ≡ knows u.part t → Fetches t.members ks t.part got u.part
    → IsSeated same (acting q u)
seated_fetched {B = B} same q t u ks got seated none table fetches =
    let c = seen_got ks t u got fetches in
    seated_at same q t u none (ap (λ (z : Seated B). z.members) table) c.0 c.1 seated
