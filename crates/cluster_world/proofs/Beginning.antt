-- The first pass of a rescue in a world that events lead to: what it asks for holds there.
use Rattle.std.proofs.Common.{◌≡◌, ⊎_elim, ℕ, suc, ◌+◌, ◌<◌, ◌≤◌, Bool, true, false, ◌||◌, eqb, refl, sym, ap, ◌∙◌, subst, arith}
use Rattle.std.proofs.Common.{List, [], ◌∷◌, ◌++◌, length, Option, Some, None}
use Rattle.std.specs.Prelude.{max, fold}
use Rattle.std.specs.List.{list_any}
use Rattle.std.proofs.lemmas.Bool.{cond_both, cond-false, or_left, or_right, or_cases, eqb-true, eq-eqb, ltb-true}
use Rattle.cluster_world.proofs.AcceptorTests.{has_from}
use Rattle.cluster_world.proofs.AtOnce.{AtRest}
use Rattle.cluster_world.proofs.Casting.{HeardOwn}
use Rattle.cluster_world.proofs.CutLogs.{node_by_log}
use Rattle.cluster_world.proofs.EventsAtOnce.{all_rest}
use Rattle.cluster_world.proofs.EveryWorld.{play_on}
use Rattle.cluster_world.proofs.Leading.{AreBelow}
use Rattle.cluster_world.proofs.Limits.{rounds_fit, first_most, first_slots_fit}
use Rattle.cluster_world.proofs.Lists.{has_nil, has_cons, has_first}
use Rattle.cluster_world.proofs.Looking.{WasAsked, was_asked, Looked}
use Rattle.cluster_world.proofs.OnePass as pass_of
use Rattle.cluster_world.proofs.Leaving.{kept_of, PassDone}
use Rattle.cluster_world.proofs.Opening as opening
use Rattle.cluster_world.proofs.Opening.{in_ballot}
use Rattle.cluster_world.proofs.Passing.{among, counted_by, majority_more}
use Rattle.cluster_world.proofs.Pending.{pending_is_few}
use Rattle.cluster_world.proofs.Playing.{stepped, seat_or_not}
use Rattle.cluster_world.proofs.Reached.{round_below, is_member_up, all_eights, sees_promise, heard_none, log_low}
use Rattle.cluster_world.specs.Has.{Has, here, there}
use Rattle.paxos_packets.specs.Ballot.{below}
use Rattle.paxos_packets.specs.Body.{IsEquality}
use Rattle.paxos_packets.specs.Members.{IsMember, is_majority}
use Rattle.paxos_packets.specs.Packet.{packet}
use Rattle.paxos_packets.specs.Snapshot.{floor_in}
use Rattle.paxos_packets.specs.Vote.{votes_from}
use Rattle.paxos_packets.specs.declared.ballot.Ballot.{Ballot}
use Rattle.paxos_packets.specs.declared.packet.Kind.TheVariants.{Prepare}
use Rattle.paxos_packets.specs.declared.vote.Vote.{Vote}
use Rattle.paxos_acceptor.specs.Acceptor.{may_promise}
use Rattle.paxos_proposer.specs.Proposals.{behind}
use Rattle.paxos_proposer.specs.Proposer.{round_of, round_end, own_ballot}
use Rattle.paxos_proposer.specs.Proposing.{proposals_of}
use Rattle.paxos_proposer.specs.Role.{Role}
use Rattle.paxos_node.specs.Events.{most_pending}
use Rattle.paxos_node.specs.declared.event.Event.{Event}
use Rattle.paxos_node.specs.declared.event.Event.TheVariants.{Start, Deliver}
use Rattle.paxos_planning.specs.Node.{NodeState, log_length}
use Rattle.cluster_world.specs.World.{World, node_at, first_world, next, play, played, log_of}
use Rattle.cluster_world.specs.Rescue.{Apart, round_held, last_rescue_round, last_rescue_slot}
use Rattle.world_rescue.specs.Course.{Seat, Crew, Act, floor_of, refused_round, look, lead, led, pass, seen_then, first_role, first_votes}
use Rattle.world_rescue.specs.Course.{first_pass}

-- the greatest of what is seen and what refuses

seen_least : {B : Type 0} (f : Seat B → ℕ) (seats : List (Seat B)) (r : ℕ) → r ≤ fold (λ m s. max m (f s)) r seats
seen_least f [] r = omega arith
seen_least {B} f (s ∷ seats) r = more (f s) (fold (λ m s. max m (f s)) (max r (f s)) seats) (seen_least f seats (max r (f s)))
  where
    more : (a c : ℕ) → max r a ≤ c → r ≤ c
    more a c l = omega arith

seen_each : {B : Type 0} (f : Seat B → ℕ) (seats : List (Seat B)) (r : ℕ) (s : Seat B) → Has seats s → f s ≤ fold
    (λ m s. max m (f s)) r seats
seen_each f [] r s h = absurd (has_nil h)
seen_each {B} f (t ∷ seats) r s h =
    ⊎_elim
    (λ (e : t ≡ s). subst (λ z. f z ≤ fold (λ m s. max m (f s)) (max r (f t)) seats) e
    (more (f t) (fold (λ m s. max m (f s)) (max r (f t)) seats) (seen_least f seats (max r (f t)))))
    (λ i. seen_each f seats (max r (f t)) s i) (has_cons h)
  where
    more : (a c : ℕ) → max r a ≤ c → a ≤ c
    more a c l = omega arith

seen_most : {B : Type 0} (f : Seat B → ℕ) (top : ℕ) (seats : List (Seat B)) (r : ℕ) → r ≤ top → ((s : Seat B) → Has seats s → f s ≤ top)
    → fold (λ m s. max m (f s)) r seats ≤ top
seen_most f top [] r l h = l
seen_most f top (s ∷ seats) r l h = seen_most f top seats (max r (f s)) (both (f s) (h s here)) (λ t i. h t (there i))
  where
    both : (a : ℕ) → a ≤ top → max r a ≤ top
    both a g = omega arith

-- the crew as two lists of numbers

has_among : (ks : List ℕ) (j : ℕ) → Has ks j → among ks j ≡ true
has_among [] j h = absurd (has_nil h)
has_among (k ∷ ks) j h =
    ⊎_elim (λ e. or_left (eqb k j) (among ks j) (eq-eqb k j e))
    (λ i. or_right (eqb k j) (among ks j) (has_among ks j i)) (has_cons h)

counted_old : {B : Type 0} (seats : List (Seat B)) (ks : List ℕ) (j : ℕ) → Has ks j → Has (fold (λ ks s. s.number ∷ ks) ks seats) j
counted_old [] ks j h = h
counted_old (s ∷ seats) ks j h = counted_old seats (s.number ∷ ks) j (there h)

counted_in : {B : Type 0} (seats : List (Seat B)) (ks : List ℕ) (s : Seat B) → Has seats s → Has
    (fold (λ ks s. s.number ∷ ks) ks seats) s.number
counted_in [] ks s h = absurd (has_nil h)
counted_in {B} (t ∷ seats) ks s h =
    ⊎_elim (λ (e : t ≡ s). counted_old seats (t.number ∷ ks) s.number (has_first ks (ap (λ (z : Seat B). z.number) e)))
    (λ i. counted_in seats (t.number ∷ ks) s i) (has_cons h)

pub seat_of_number : {B : Type 0} (seats : List (Seat B)) (j : ℕ) → list_any (λ (s : Seat B). eqb s.number j) seats ≡ true
    → (s : Seat B) × Has seats s × (s.number ≡ j)
seat_of_number [] j h = absurd (off h)
  where
    off : false ≡ true → ⊥
    off e = cc
seat_of_number {B} (s ∷ seats) j h =
    ⊎_elim (λ e. (s, here, eqb-true s.number j e)) (λ e. let r = seat_of_number seats j e in (r.0, there r.1, r.2))
    (or_cases (eqb s.number j) (list_any (λ (t : Seat B). eqb t.number j) seats) h)

-- rounds up to this one and slots of a node that leave room for a rescue
pub record HasRoom {B : Type 0} (top : ℕ) (x : NodeState B) : Type 0 where
  pub rounds : round_held x ≤ top
  pub slots : (v : Vote B) → Has x.rows.votes v → v.slot ≤ last_rescue_slot
  pub floor : floor_in x.rows.snapshot ≤ last_rescue_slot

module _ {B : Type 0} (same : B → B → Bool) (equal : IsEquality same) (members : ℕ) (three : 3 ≤ members) (few : members ≤ 7)
    (events : List (Event B))
    (n : ℕ) (up : (node_at (played same members events).nodes n).up ≡ true) (seats : List (Seat B)) (apart : Apart n seats)
    (are : (s : Seat B) → Has seats s → node_at (played same members events).nodes s.number ≡ s.node)
    (ups : (s : Seat B) → Has seats s → s.node.up ≡ true) (top : ℕ) (high : top ≤ suc last_rescue_round)
    (room : HasRoom top (node_at (played same members events).nodes n)) (rooms : (s : Seat B) → Has seats s → HasRoom top s.node)
    (level : (s : Seat B) → Has seats s → floor_of s ≤ log_length (node_at (played same members events).nodes n))
    (enough : is_majority members (λ k. eqb n k || list_any (λ (s : Seat B). eqb s.number k) seats) ≡ true) (act : Act B) where
  abbrev pub w : World B
  w = played same members events

  abbrev pub x0 : NodeState B
  x0 = node_at w.nodes n

  abbrev pub own : Seat B
  own = record { number = n; node = x0 }

  abbrev pub crew : Crew B
  crew = record { members = members; own = own; helpers = seats }

  abbrev b0 : Ballot
  b0 = own_ballot n x0.proposer

  abbrev pub seen : ℕ
  seen = seen_then b0 seats

  abbrev first : ℕ
  first = suc (log_length x0)

  abbrev lk : List (Event B)
  lk = look b0 first seats

  abbrev u : World B
  u = played same members (events ++ lk)

  pub two : 2 ≤ members
  two = omega arith

  pub member : IsMember members n
  member = is_member_up same members events n up

  low_of : (k : ℕ) → IsMember members k → k < 8
  low_of k m = below_eight k m.1
    where
      below_eight : (k : ℕ) → k ≤ members → k < 8
      below_eight k l = omega arith

  pub low : n < 8
  low = low_of n member

  pub others : (s : Seat B) → Has seats s → IsMember members s.number
  others s h = is_member_up same members events s.number (ap (λ (x : NodeState B). x.up) (are s h) ∙ ups s h)

  pub lows : (s : Seat B) → Has seats s → s.number < 8
  lows s h = low_of s.number (others s h)

  rest : AtRest x0
  rest = all_rest same members events n

  rests : (s : Seat B) → Has seats s → AtRest s.node
  rests s h = subst (λ x. AtRest x) (are s h) (all_rest same members events s.number)

  -- rounds

  held_seen : (x : NodeState B) → HasRoom top x → x.proposer.seen ≤ top
  held_seen x r = go x.proposer.seen (round_of x.rows.promised) r.rounds
    where
      go : (a c : ℕ) → max a c ≤ top → a ≤ top
      go a c l = omega arith

  held_promise : (x : NodeState B) → HasRoom top x → round_of x.rows.promised ≤ top
  held_promise x r = go x.proposer.seen (round_of x.rows.promised) r.rounds
    where
      go : (a c : ℕ) → max a c ≤ top → c ≤ top
      go a c l = omega arith

  refused_low : (p : Option Ballot) → refused_round b0 p ≤ round_of p
  refused_low None = omega arith
  refused_low (Some p) = cond_both (below p b0) 0 p.round (λ r. r ≤ p.round) (λ t. least p.round) (λ t. same_le p.round)
    where
      least : (k : ℕ) → 0 ≤ k
      least k = omega arith

      same_le : (k : ℕ) → k ≤ k
      same_le k = omega arith

  pub seen_low : seen ≤ suc top
  seen_low =
      seen_most (λ s. refused_round b0 s.node.rows.promised) (suc top) seats b0.round
      (up_one x0.proposer.seen (held_seen x0 room))
      (λ s h. further (refused_round b0 s.node.rows.promised) (round_of s.node.rows.promised) (refused_low s.node.rows.promised)
      (held_promise s.node (rooms s h)))
    where
      up_one : (a : ℕ) → a ≤ top → suc a ≤ suc top
      up_one a l = omega arith

      further : (a c : ℕ) → a ≤ c → c ≤ top → a ≤ suc top
      further a c g l = omega arith

  -- two more fit
  pub seen_fits : seen ≤ suc (suc last_rescue_round)
  seen_fits = more seen last_rescue_round seen_low high
    where
      more : (a r : ℕ) → a ≤ suc top → top ≤ suc r → a ≤ suc (suc r)
      more a r l h = omega arith

  first_round : suc x0.proposer.seen < round_end
  first_round = (rounds_fit x0.proposer.seen (more x0.proposer.seen last_rescue_round (held_seen x0 room) high)).0
    where
      more : (a r : ℕ) → a ≤ top → top ≤ suc r → a ≤ suc (suc r)
      more a r l h = omega arith

  -- after the look

  own_looked : Looked same members (in_ballot n b0 x0) seen (node_at (play same members lk w).nodes n)
  own_looked = opening.own_then same equal members n member w seats apart others are ups rests up rest
      (sees_promise same members events n up) first_round

  least : b0.round ≤ seen
  least = opening.least_then same equal members n member w seats apart others are ups rests up rest
      (sees_promise same members events n up) first_round

  abbrev now : Seat B → NodeState B
  now s = stepped same members (Deliver (packet n (Prepare b0 first) s.number)) s.node

  u_is : u ≡ play same members lk w
  u_is = play_on same members events lk (first_world members)

  are_u : (s : Seat B) → Has seats s → node_at u.nodes s.number ≡ now s
  are_u s h =
      ap (λ (v : World B). node_at v.nodes s.number) u_is
      ∙ opening.helpers_then same equal members n member w seats apart others are ups rests up rest
      (sees_promise same members events n up) first_round s h

  asked : (s : Seat B) → Has seats s → WasAsked same members b0 s.node (now s)
  asked s h = was_asked same members n s.number first b0 s.node (ups s h) (rests s h)

  abbrev role_seen : Role B
  role_seen = own_looked.role

  -- but for its promise and its ballot the node is as it was
  abbrev X : NodeState B
  X = record (in_ballot n b0 x0) { proposer = record { role = role_seen; seen = seen } }

  x_is : node_at u.nodes n ≡ X
  x_is = ap (λ (v : World B). node_at v.nodes n) u_is ∙ own_looked.is

  abbrev ballot : Ballot
  ballot = record { round = suc seen; node = n }

  b0_below : below b0 ballot ≡ true
  b0_below = round_below b0 ballot (more b0.round seen least)
    where
      more : (a c : ℕ) → a ≤ c → a < suc c
      more a c l = omega arith

  mays : (s : Seat B) → Has seats s → may_promise (now s).rows.promised ballot ≡ true
  mays s h = ⊎_elim (λ e. ap (λ p. may_promise p ballot) e ∙ b0_below) (λ p. old p.0 p.1 p.2 p.3) (asked s h).promised
    where
      old : (p : Ballot) → s.node.rows.promised ≡ Some p → (now s).rows.promised ≡ Some p → below p b0 ≡ false
          → may_promise (now s).rows.promised ballot ≡ true
      old p was is high =
          ap (λ a. may_promise a ballot) is
          ∙ round_below p ballot
          (more p.round seen
          (subst (λ r. r ≤ seen) (ap (λ a. refused_round b0 a) was ∙ cond-false (below p b0) 0 p.round high)
          (seen_each (λ t. refused_round b0 t.node.rows.promised) seats b0.round s h)))
        where
          more : (a c : ℕ) → a ≤ c → a < suc c
          more a c l = omega arith

  may_own : may_promise (node_at u.nodes n).rows.promised ballot ≡ true
  may_own = ap (λ (x : NodeState B). may_promise x.rows.promised ballot) x_is ∙ b0_below

  heards : (s : Seat B) → Has seats s → HeardOwn ballot s.number (now s).learner
  heards s h = subst (λ (x : NodeState B). HeardOwn ballot s.number x.learner) (are_u s h)
      (heard_none same members (events ++ lk) equal three ballot may_own s.number)

  below_past : (from : ℕ) (x : NodeState B) → HasRoom top x → AreBelow (suc last_rescue_slot) (votes_from from x.rows.votes)
  below_past from x r = record { each = λ v h. more v.slot (r.slots v (has_from from x.rows.votes v h)) }
    where
      more : (a : ℕ) → a ≤ last_rescue_slot → a < suc last_rescue_slot
      more a l = omega arith

  -- the log ends before the last slot in which the crew voted
  pub log_fits : log_length x0 ≤ last_rescue_slot
  log_fits =
      subst (λ a. a ≤ last_rescue_slot) whole
      (log_low same members events equal three last_rescue_slot (λ k. eqb n k || list_any (λ (s : Seat B). eqb s.number k) seats)
      (ltb-true _ _ enough) slots floors n)
    where
      whole : length (log_of w n) ≡ log_length x0
      whole = sym (node_by_log same equal members three few events n up).long

      floors : (k : ℕ) → (eqb n k || list_any (λ (s : Seat B). eqb s.number k) seats) ≡ true
          → floor_in (node_at w.nodes k).rows.snapshot ≤ last_rescue_slot
      floors k t =
          ⊎_elim (λ e. subst (λ j. floor_in (node_at w.nodes j).rows.snapshot ≤ last_rescue_slot) (eqb-true n k e) room.floor)
          (λ e. let s = seat_of_number seats k e in
          subst (λ j. floor_in (node_at w.nodes j).rows.snapshot ≤ last_rescue_slot) s.2
          (subst (λ (x : NodeState B). floor_in x.rows.snapshot ≤ last_rescue_slot) (sym (are s.0 s.1)) (rooms s.0 s.1).floor))
          (or_cases (eqb n k) (list_any (λ (s : Seat B). eqb s.number k) seats) t)

      slots : (k : ℕ) (v : Vote B) → (eqb n k || list_any (λ (s : Seat B). eqb s.number k) seats) ≡ true → Has
          (node_at w.nodes k).rows.votes v
          → v.slot ≤ last_rescue_slot
      slots k v t h =
          ⊎_elim (λ e. room.slots v (subst (λ j. Has (node_at w.nodes j).rows.votes v) (sym (eqb-true n k e)) h))
          (λ e. let s = seat_of_number seats k e in
          (rooms s.0 s.1).slots v
          (subst (λ (x : NodeState B). Has x.rows.votes v) (are s.0 s.1) (subst (λ j. Has (node_at w.nodes j).rows.votes v) (sym s.2) h)))
          (or_cases (eqb n k) (list_any (λ (s : Seat B). eqb s.number k) seats) t)

  pub enough_first : is_majority members (among (fold (λ ks s. s.number ∷ ks) (n ∷ []) seats)) ≡ true
  enough_first =
      majority_more members (λ k. eqb n k || list_any (λ (s : Seat B). eqb s.number k) seats)
      (among (fold (λ ks s. s.number ∷ ks) (n ∷ []) seats))
      (λ j t. has_among (fold (λ ks s. s.number ∷ ks) (n ∷ []) seats) j
      (⊎_elim (λ e. counted_old seats (n ∷ []) j (has_first [] (eqb-true n j e)))
      (λ e. let s = seat_of_number seats j e in subst (λ i. Has (fold (λ ks s. s.number ∷ ks) (n ∷ []) seats) i) s.2
      (counted_in seats (n ∷ []) s.0 s.1))
      (or_cases (eqb n j) (list_any (λ (s : Seat B). eqb s.number j) seats) t)))
      enough

  pub enough_then : is_majority members (among (n ∷ counted_by seats)) ≡ true
  enough_then =
      majority_more members (λ k. eqb n k || list_any (λ (s : Seat B). eqb s.number k) seats) (among (n ∷ counted_by seats))
      (λ j t. has_among (n ∷ counted_by seats) j
      (⊎_elim (λ e. has_first (counted_by seats) (eqb-true n j e))
      (λ e. let s = seat_of_number seats j e in there (subst (λ i. Has (counted_by seats) i) s.2 (counted_in seats [] s.0 s.1)))
      (or_cases (eqb n j) (list_any (λ (s : Seat B). eqb s.number j) seats) t)))
      enough

  -- the pass, by the node as its ballot begins
  abbrev role_of : NodeState B → Role B
  role_of a = led same members (log_length a) a.pending ballot (suc (log_length a)) [] own seats

  abbrev votes_of : NodeState B → List (Vote B)
  votes_of a = behind (log_length a) (proposals_of (role_of a))

  abbrev pub had : Seat B → List (Vote B)
  had s = (now s).rows.votes

  pub had_is : (s : Seat B) → Has seats s → had s ≡ s.node.rows.votes
  had_is s h = (asked s h).votes

  abbrev DoneAs : NodeState B → Type 0
  DoneAs a =
      PassDone same equal members two n member (suc seen) seats (kept_of a) had first_most (role_of a) (votes_of a)
      (play same members (pass n seats (votes_of a)) (play same members (lead ballot (suc (log_length a)) [] seats) u))

  pending_is : (node_at (next same members u (Start n)).nodes n).pending ≡ x0.pending
  pending_is =
      ap (λ (x : NodeState B). x.pending)
      (pass_of.y_is same equal members three two n member low (events ++ lk) own refl seats apart others lows now are_u
      (λ s h. (asked s h).up ∙ ups s h) (λ s h. subst (λ x. AtRest x) (are_u s h) (all_rest same members (events ++ lk) s.number))
      (ap (λ (x : NodeState B). x.up) x_is ∙ up) (all_rest same members (events ++ lk) n) seen
      (ap (λ (x : NodeState B). x.proposer.seen) x_is)
      (subst (λ (x : NodeState B). round_of x.rows.promised ≤ seen) (sym x_is) least) (rounds_fit seen seen_fits).0 []
      (suc last_rescue_slot) first_most)
      ∙ ap (λ (x : NodeState B). x.pending) x_is

  -- each other node that was up is up
  still_u : (j : ℕ) → (j ≡ n → ⊥) → (node_at w.nodes j).up ≡ true → (node_at u.nodes j).up ≡ true
  still_u j d h =
      ⊎_elim
      (λ s. subst (λ i. (node_at u.nodes i).up ≡ true) s.2
      (ap (λ (x : NodeState B). x.up) (are_u s.0 s.1) ∙ ((asked s.0 s.1).up ∙ ups s.0 s.1)))
      (λ g. ap (λ (x : NodeState B). x.up)
      (ap (λ (v : World B). node_at v.nodes j) u_is
      ∙ opening.others_then same equal members n member w seats apart others are ups rests up rest
      (sees_promise same members events n up) first_round j d g)
      ∙ h)
      (seat_or_not seats j)

  abbrev StillAs : NodeState B → Type 0
  StillAs a =
      (j : ℕ) → (j ≡ n → ⊥) → (node_at u.nodes j).up ≡ true
      → (node_at (play same members (pass n seats (votes_of a)) (play same members (lead ballot (suc (log_length a)) [] seats) u)).nodes
      j).up ≡ true

  whole_u : DoneAs (node_at u.nodes n) × StillAs (node_at u.nodes n)
  whole_u =
      pass_of.whole same equal members three two n member low (events ++ lk) own refl seats apart others lows now are_u
      (λ s h. (asked s h).up ∙ ups s h) (λ s h. subst (λ x. AtRest x) (are_u s h) (all_rest same members (events ++ lk) s.number))
      (ap (λ (x : NodeState B). x.up) x_is ∙ up) (all_rest same members (events ++ lk) n) seen
      (ap (λ (x : NodeState B). x.proposer.seen) x_is)
      (subst (λ (x : NodeState B). round_of x.rows.promised ≤ seen) (sym x_is) least) (rounds_fit seen seen_fits).0 []
      (suc last_rescue_slot) first_most
      (subst (λ (x : NodeState B). suc (log_length x) ≤ suc last_rescue_slot) (sym x_is) (up_one (log_length x0) log_fits))
      (subst (λ (l : List _). suc last_rescue_slot + length l ≤ first_most) (sym pending_is)
      (room_left (length x0.pending) (pending_is_few same members events n)))
      first_slots_fit mays (λ s h. (asked s h).votes)
      (λ i. votes_from (suc (log_length (node_at u.nodes n))) (x_is i).rows.votes)
      (λ s h. (asked s h).snapshot) (ap (λ (x : NodeState B). x.rows.snapshot) x_is)
      (λ s h. subst (λ (x : NodeState B). floor_of s ≤ log_length x) (sym x_is) (level s h))
      (λ s h. below_past (suc (log_length (node_at u.nodes n))) s.node (rooms s h))
      (below_past (suc (log_length (node_at u.nodes n))) x0 room) (heard_none same members (events ++ lk) equal three ballot may_own n)
      (all_eights same members (events ++ lk) n) heards enough_first enough_then
    where
      up_one : (a : ℕ) → a ≤ last_rescue_slot → suc a ≤ suc last_rescue_slot
      up_one a l = omega arith

      room_left : (a : ℕ) → a ≤ most_pending → suc last_rescue_slot + a ≤ suc last_rescue_slot + most_pending
      room_left a l = omega arith

  whole_x : DoneAs X × StillAs X
  whole_x = subst (λ a. DoneAs a × StillAs a) x_is whole_u

  -- in the terms of the course
  abbrev pub votes1 : List (Vote B)
  votes1 = first_votes same crew act

  abbrev pub before : List (Event B)
  before = events ++ first_pass same crew act

  world_is : played same members before
      ≡ play same members (pass n seats votes1) (play same members (lead ballot (suc (log_length x0)) [] seats) u)
  world_is =
      play_on same members events (first_pass same crew act) (first_world members)
      ∙ (play_on same members (lk ++ lead ballot first [] seats) (pass n seats votes1) w
      ∙ ap (λ (v : World B). play same members (pass n seats votes1) v)
      (play_on same members lk (lead ballot first [] seats) w ∙ ap (λ (v : World B). play same members (lead ballot first [] seats) v)
      (sym u_is)))

  -- the first pass is done
  pub first_done : PassDone same equal members two n member (suc seen) seats (kept_of x0) had first_most (first_role same crew act) votes1
      (played same members before)
  first_done =
      subst (λ (v : World B). PassDone same equal members two n member (suc seen) seats (kept_of x0) had first_most
      (first_role same crew act) votes1 v)
      (sym world_is) whole_x.0

  pub first_still : (j : ℕ) → (j ≡ n → ⊥) → (node_at w.nodes j).up ≡ true → (node_at (played same members before).nodes j).up ≡ true
  first_still j d h = ap (λ (v : World B). (node_at v.nodes j).up) world_is ∙ whole_x.1 j d (still_u j d h)
