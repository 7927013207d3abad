-- Where no refusal stands, what the crew of a rescue holds leaves it room, once its node is level.
use Rattle.std.proofs.Common.{◌≡◌, ⊎_elim, ℕ, suc, ◌+◌, ◌≤◌, Bool, true, false, ◌||◌, max, eqb, refl, sym, ◌∙◌, subst, arith, ◌<◌, List, length, None}
use Rattle.std.specs.List.{list_any}
use Rattle.std.proofs.lemmas.Bool.{eqb-true, ltb-true, or_cases, true≢false}
use Rattle.cluster_world.proofs.Beginning.{HasRoom, seat_of_number}
use Rattle.cluster_world.proofs.CutLogs.{node_by_log}
use Rattle.cluster_world.proofs.Giving.{each_all}
use Rattle.cluster_world.proofs.Limits.{last_round, last_slot, room_for_two}
use Rattle.cluster_world.proofs.Pending.{pending_is_few}
use Rattle.cluster_world.proofs.Reached.{log_low}
use Rattle.cluster_world.proofs.Rescuing as level
use Rattle.cluster_world.specs.Has.{Has}
use Rattle.paxos_packets.specs.Body.{IsEquality}
use Rattle.paxos_packets.specs.Rows.{last_boot}
use Rattle.paxos_packets.specs.Snapshot.{floor_in}
use Rattle.paxos_packets.specs.declared.vote.Vote.{Vote}
use Rattle.paxos_planning.specs.Node.{NodeState, log_length}
use Rattle.paxos_proposer.specs.Proposer.{round_of}
use Rattle.paxos_node.specs.Applying.{started}
use Rattle.paxos_node.specs.Events.{most_pending}
use Rattle.paxos_node.specs.declared.event.Event.{Event}
use Rattle.cluster_world.specs.Rescue.{IsCrew, RescuesHaveRoom, last_rescue_round, last_rescue_slot, rescue_refused}
use Rattle.cluster_world.specs.World.{World, node_at, played}
use Rattle.world_rescue.specs.Course.{Seat, Crew}
use Rattle.world_rescue.specs.Reaching.{reached}
use Rattle.world_rescue.specs.Room.{HoldsUpTo, IsUpTo}

module _ {B : Type 0} (top : ℕ) (x : NodeState B) (r : HasRoom top x) where
  seen_low : x.proposer.seen ≤ top
  seen_low = go x.proposer.seen (round_of x.rows.promised) r.rounds
    where
      go : (a c : ℕ) → max a c ≤ top → a ≤ top
      go a c l = omega arith

  promise_low : round_of x.rows.promised ≤ top
  promise_low = go x.proposer.seen (round_of x.rows.promised) r.rounds
    where
      go : (a c : ℕ) → max a c ≤ top → c ≤ top
      go a c l = omega arith

module _ {B : Type 0} (same : B → B → Bool) (equal : IsEquality same) (members : ℕ) (three : 3 ≤ members) (few : members ≤ 7)
    (events : List (Event B)) (n : ℕ) (c : Crew B) (is : IsCrew members (played same members events) n c)
    (free : rescue_refused members (played same members events) n ≡ None) where
  abbrev top : ℕ
  top = suc last_rescue_round

  abbrev crew : Crew B
  crew = level.crew same equal members three few events n c is free

  abbrev y : NodeState B
  y = level.y same equal members three few events n c is free

  room : HasRoom top y
  room = level.room_y same equal members three few events n c is free

  rooms : (s : Seat B) → Has c.helpers s → HasRoom top s.node
  rooms s h = level.more_room last_rescue_round s.node (level.rooms0 same equal members three few events n c is free s h)

  -- it is the node of the world in which it is level, or it has just begun

  module _ (e : level.anew same equal members three few events n c is free ≡ false) where
    none : level.anew same equal members three few events n c is free ≡ true
        → (node_at (played same members events).nodes n).rows.boot < last_boot
    none t = absurd (true≢false (sym t ∙ e))

    abbrev wl : World B
    wl = level.wl same equal members three few events n c is free none

    own_is : node_at wl.nodes n ≡ y
    own_is = level.own_is same equal members three few events n c is free none

    abbrev takes_part : ℕ → Bool
    takes_part k = eqb n k || list_any (λ (s : Seat B). eqb s.number k) c.helpers

    -- what holds of each node of the crew
    of_crew : (P : NodeState B → Type 0) → P y → ((s : Seat B) → Has c.helpers s → P s.node) → (k : ℕ) → takes_part k ≡ true
        → P (node_at wl.nodes k)
    of_crew P own others k t =
        ⊎_elim (λ i. subst (λ j. P (node_at wl.nodes j)) (eqb-true n k i) (subst (λ a. P a) (sym own_is) own))
        (λ i. let s = seat_of_number c.helpers k i in
        subst (λ j. P (node_at wl.nodes j)) s.2
        (subst (λ a. P a) (sym (level.are_l same equal members three few events n c is free none s.0 s.1)) (others s.0 s.1)))
        (or_cases (eqb n k) (list_any (λ (s : Seat B). eqb s.number k) c.helpers) t)

    log_there : log_length y ≤ last_rescue_slot
    log_there =
        subst (λ a. log_length a ≤ last_rescue_slot) own_is
        (subst (λ a. a ≤ last_rescue_slot)
        (sym (node_by_log same equal members three few before n up_l).long)
        (log_low same members before equal three last_rescue_slot takes_part (ltb-true _ _ is.enough)
        (λ k v t h. of_crew (λ a. Has a.rows.votes v → v.slot ≤ last_rescue_slot) (λ i. room.slots v i) (λ s j i. (rooms s j).slots v i) k t h)
        (λ k t. of_crew (λ a. floor_in a.rows.snapshot ≤ last_rescue_slot) room.floor (λ s j. (rooms s j).floor) k t) n))
      where
        before : List (Event B)
        before = level.before same equal members three few events n c is free none

        up_l : (node_at wl.nodes n).up ≡ true
        up_l = level.up_l same equal members three few events n c is free none

    few_there : length y.pending ≤ most_pending
    few_there =
        subst (λ (a : NodeState B). length a.pending ≤ most_pending) own_is
        (pending_is_few same members (level.before same equal members three few events n c is free none) n)

  module _ (e : level.anew same equal members three few events n c is free ≡ true) where
    begun : y ≡ started n y.rows
    begun = (level.held same equal members three few events n c is free).begun e

    log_begun : log_length y ≤ last_rescue_slot
    log_begun = subst (λ a. log_length a ≤ last_rescue_slot) (sym begun) (none_more (floor_in y.rows.snapshot) room.floor)
      where
        none_more : (a : ℕ) → a ≤ last_rescue_slot → a + 0 ≤ last_rescue_slot
        none_more a l = omega arith

    few_begun : length y.pending ≤ most_pending
    few_begun = subst (λ (a : NodeState B). length a.pending ≤ most_pending) (sym begun) (one most_pending room_for_two)
      where
        one : (a : ℕ) → 2 ≤ a → 1 ≤ a
        one a l = omega arith

  fits : (log_length y ≤ last_rescue_slot) × (length y.pending ≤ most_pending)
  fits = go (level.anew same equal members three few events n c is free) refl
    where
      go : (b : Bool) → level.anew same equal members three few events n c is free ≡ b
          → (log_length y ≤ last_rescue_slot) × (length y.pending ≤ most_pending)
      go true e = (log_begun e, few_begun e)
      go false e = (log_there e, few_there e)

  pub crew_low : IsUpTo top last_rescue_slot most_pending (reached c)
  crew_low =
      subst (λ (a : Crew B). IsUpTo top last_rescue_slot most_pending (reached a)) (level.crew_is same equal members three few events n c is free)
      (record {
        seen = seen_low top y room;
        log = fits.0;
        votes = each_all (λ (v : Vote B). v.slot ≤ last_rescue_slot) y.rows.votes room.slots;
        floor = room.floor;
        pending = fits.1;
        helpers =
            each_all (λ (s : Seat B). HoldsUpTo top last_rescue_slot s) c.helpers
            (λ s h. record {
              promised = promise_low top s.node (rooms s h);
              votes = each_all (λ (v : Vote B). v.slot ≤ last_rescue_slot) s.node.rows.votes (rooms s h).slots;
              floor = (rooms s h).floor;
            });
      })

pub rescues_have_room : {B : Type 0} (same : B → B → Bool) → IsEquality same → RescuesHaveRoom B same
rescues_have_room same equal members three few events n c is free =
    (crew_low same equal members three few events n c is free, record { rounds = last_round; slots = last_slot })
