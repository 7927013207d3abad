-- No dead end: the events of a rescue bring the act to be applied.
use Rattle.std.proofs.Common.{◌≡◌, ⊎_elim, ℕ, zero, suc, ◌<◌, ◌≤◌, Bool, true, false, not, ◌&&◌, ◌||◌, eqb, refl, sym, ap, ◌∙◌, subst}
use Rattle.std.proofs.Common.{arith}
use Rattle.std.proofs.Common.{List, [], ◌∷◌, ◌++◌, ◌+◌, length, length-append, append_assoc, Option, Some, None}
use Rattle.std.specs.Prelude.{max, filter, nat_lt, nat_le, if◌then◌else◌}
use Rattle.std.specs.List.{list_any}
use Rattle.std.proofs.lemmas.Bool.{cond-true, cond-false, or_parts, ltb-false, cases_eq, true≢false}
use Rattle.cluster_world.proofs.AcceptorTests.{has_from}
use Rattle.cluster_world.proofs.Beginning.{HasRoom, seen, two, member, low, others, lows, seen_fits, enough_first, enough_then, had, had_is}
use Rattle.cluster_world.proofs.Beginning.{first_still}
use Rattle.cluster_world.proofs.Beginning.{first_done}
use Rattle.cluster_world.proofs.Booting.{boot_was_had}
use Rattle.cluster_world.proofs.Chaining.{Chain, Brought, brings, all_shape, all_in, chain_owed}
use Rattle.cluster_world.proofs.CutLogs.{node_by_log}
use Rattle.cluster_world.proofs.EveryWorld.{play_on, whole_is}
use Rattle.cluster_world.proofs.Fading.{filter_all}
use Rattle.cluster_world.proofs.Filling.{length_map}
use Rattle.cluster_world.proofs.Going as going
use Rattle.cluster_world.proofs.Levelling.{Best, highest_is, Holds, Levelled, asked_for, holds, is_levelled}
use Rattle.cluster_world.proofs.Limits.{rounds_fit, first_most, slots_fit, room_for_two}
use Rattle.cluster_world.proofs.Lists.{has_nil, has_cons, has_right, map_has, has_passes}
use Rattle.cluster_world.proofs.Leaving.{ballot_of, kept_of, IsVoteOf, RodeOn, WentDown, PassDone}
use Rattle.cluster_world.proofs.Owing.{Owes, MayStand, Early, kept, owed_by}
use Rattle.cluster_world.proofs.Pending.{losts_live, pending_is_few, taken_are_counted}
use Rattle.cluster_world.proofs.PendingOwed.{owes_all}
use Rattle.cluster_world.proofs.Playing.{none_is}
use Rattle.cluster_world.proofs.Reached.{is_member_up}
use Rattle.cluster_world.proofs.Rebeginning.{rows_over, Rebegun, rebegins}
use Rattle.cluster_world.proofs.Restarts.{begins_anew, restarts_once}
use Rattle.cluster_world.proofs.Returning as returning
use Rattle.cluster_world.proofs.Returning.{NotLater, noop_is, votes_not_later, early_by}
use Rattle.cluster_world.proofs.Staying.{BootsBelow, BootsUpTo, early_on}
use Rattle.cluster_world.proofs.Wanting as wanting
use Rattle.cluster_world.specs.Has.{Has}
use Rattle.cluster_world.specs.Origins.{Act as OwnAct, acts_of}
use Rattle.paxos_packets.specs.Body.{IsEquality}
use Rattle.paxos_packets.specs.Members.{IsMember, is_majority}
use Rattle.paxos_packets.specs.Rows.{last_boot, raised}
use Rattle.paxos_packets.specs.Snapshot.{floor_in}
use Rattle.paxos_packets.specs.Vote.{votes_from}
use Rattle.paxos_packets.specs.declared.entry.Entry.{Entry}
use Rattle.paxos_packets.specs.declared.entry.Entry.TheVariants.{Boot, Item, Lost}
use Rattle.paxos_packets.specs.declared.rows.Rows.{Rows}
use Rattle.paxos_packets.specs.declared.vote.Vote.{Vote}
use Rattle.paxos_proposer.specs.Proposer.{round_of, round_end}
use Rattle.paxos_proposer.specs.Proposals.{behind}
use Rattle.paxos_proposer.specs.Proposing.{proposals_of}
use Rattle.paxos_proposer.specs.Role.{Role, Leading}
use Rattle.paxos_node.specs.Events.{last_number, most_pending}
use Rattle.paxos_node.specs.declared.event.Event.{Event}
use Rattle.paxos_node.specs.declared.event.Event.TheVariants.{Take, Restart}
use Rattle.paxos_planning.specs.Node.{NodeState, log_length}
use Rattle.replica_machine.specs.Roll.{is_live, is_wanted, is_wanted_by, standing, standing_from, standings, standings_from}
use Rattle.replica_machine.specs.declared.roll.Standing.{Standing}
use Rattle.replica_machine.specs.declared.roll.Standing.TheVariants.{Unknown}
use Rattle.paxos_node.proofs.Rolling.{some_longer}
use Rattle.paxos_node.specs.Adopting.{pending_behind}
use Rattle.paxos_node.specs.Applying.{standing_of, stands_at, started, has_end}
use Rattle.paxos_node.specs.Snapshots.{boot_in}
use Rattle.cluster_world.specs.World.{World, node_at, first_world, next, play, played, under, log_of}
use Rattle.cluster_world.specs.Rescue.{Apart, IsCrew, EndsWithAct, MayBeRescued, RestartsOnce, Rescues, is_up_at, has_majority_up}
use Rattle.cluster_world.specs.Rescue.{round_held, last_rescue_round, last_rescue_slot, is_crowded, any_member, rescue_refused}
use Rattle.cluster_world.specs.declared.fault.RescueFault.{RescueFault}
use Rattle.cluster_world.specs.declared.fault.RescueFault.TheVariants.{NoMajority, NodeDown, NoRoom}
use Rattle.world_rescue.specs.Reaching.{Source, floor_or, reach, reached}
use Rattle.world_rescue.specs.Course.{Seat, Crew, Act, lead, led, pass, entries_of, propose_new, first_role, first_votes, first_pass}
use Rattle.world_rescue.specs.Course.{falls, length_then, standings_then, second_votes, goes_on, again_votes, comes_back, ballot_after}
use Rattle.world_rescue.specs.Course.{source_again, fetch_again, seat_over, own_again, floor_again, votes_then, floor_of, propose_all}
use Rattle.world_rescue.specs.Course.{level_course, course}

module _ {B : Type 0} (same : B → B → Bool) (equal : IsEquality same) (members : ℕ) (three : 3 ≤ members) (few : members ≤ 7)
    (events : List (Event B))
    (n : ℕ) (up : (node_at (played same members events).nodes n).up ≡ true) (seats : List (Seat B)) (apart : Apart n seats)
    (are : (s : Seat B) → Has seats s → node_at (played same members events).nodes s.number ≡ s.node)
    (ups : (s : Seat B) → Has seats s → s.node.up ≡ true) (top : ℕ) (high : top ≤ suc last_rescue_round)
    (room : HasRoom top (node_at (played same members events).nodes n)) (rooms : (s : Seat B) → Has seats s → HasRoom top s.node)
    (level : (s : Seat B) → Has seats s → floor_of s ≤ log_length (node_at (played same members events).nodes n))
    (enough : is_majority members (λ k. eqb n k || list_any (λ (s : Seat B). eqb s.number k) seats) ≡ true) (act : Act B)
    (positive : 1 ≤ act.transport) (acts_left : (node_at (played same members events).nodes n).taken < last_number) where
  abbrev w : World B
  w = played same members events

  abbrev x : NodeState B
  x = node_at w.nodes n

  abbrev c : Crew B
  c = record { members = members; own = record { number = n; node = x }; helpers = seats }

  abbrev vs : List (Vote B)
  vs = first_votes same c act

  abbrev role : Role B
  role = first_role same c act

  abbrev after : List (Event B)
  after = events ++ first_pass same c act

  abbrev q : World B
  q = played same members after

  abbrev z : NodeState B
  z = node_at q.nodes n

  abbrev sees : ℕ
  sees = seen same equal members three few events n up seats apart are ups top high room rooms level enough act

  abbrev have : Seat B → List (Vote B)
  have = had same equal members three few events n up seats apart are ups top high room rooms level enough act

  abbrev mem : IsMember members n
  mem = member same equal members three few events n up seats apart are ups top high room rooms level enough act

  abbrev both : 2 ≤ members
  both = two same equal members three few events n up seats apart are ups top high room rooms level enough act

  abbrev Done : Type 0
  Done = PassDone same equal members both n mem (suc sees) seats (kept_of x) have first_most role vs q

  d : Done
  d = first_done same equal members three few events n up seats apart are ups top high room rooms level enough act

  q_is : q ≡ play same members (first_pass same c act) w
  q_is = play_on same members events (first_pass same c act) (first_world members)

  -- its whole log, after which the nodes stand as it says
  abbrev whole : List (Entry B)
  whole = log_of w n

  stands : standing_of x ≡ standings whole
  stands i k = (node_by_log same equal members three few events n up).stands k i

  -- the act is applied, and each other node that was up is up
  abbrev pub Achieved : World B → Type 0
  Achieved v =
      EndsWithAct v n act.transport act.body
      × ((j : ℕ) → (j ≡ n → ⊥) → (node_at w.nodes j).up ≡ true → (node_at v.nodes j).up ≡ true)

  stay : (j : ℕ) → (j ≡ n → ⊥) → (node_at w.nodes j).up ≡ true → (node_at q.nodes j).up ≡ true
  stay j e h = first_still same equal members three few events n up seats apart are ups top high room rooms level enough act j e h

  -- ---- it goes on

  module _ (ride : RodeOn same equal members both n mem (suc sees) seats (kept_of x) role vs z) where
    es : List (Entry B)
    es = entries_of vs

    abbrev acts : List (OwnAct B)
    acts = acts_of n x.rows.boot w.made

    owes : Owes n acts x
    owes = owes_all same members equal few events n up

    owes_may : MayStand x.rows.boot (standing n whole) (length acts)
    owes_may = subst (λ s. MayStand x.rows.boot s (length acts)) (λ i. stands i n) owes.may

    owes_is : filter kept x.pending ≡ owed_by n x.rows.boot (standing n whole) acts
    owes_is = owes.is ∙ ap (λ s. owed_by n x.rows.boot s acts) (λ i. stands i n)

    losts : (k b : ℕ) → Has x.pending (Lost k b) → (k ≡ n → ⊥) × (is_live (standing k whole) b ≡ true)
    losts k b h = losts_live same members equal few events n k b h

    z_log : log_of q n ≡ under q.cuts z.rows.snapshot ++ (x.applied ++ entries_of vs)
    z_log = whole_is q.cuts z ride.up ∙ ap (λ l. under q.cuts z.rows.snapshot ++ l) ride.log

    boots : BootsUpTo n x.rows.boot (entries_of vs)
    boots b h =
        subst (λ a. b ≤ a) d.boot
        (boot_was_had same members equal after n n b
        (subst (λ l. Has l (Boot n b)) (sym z_log) (has_right (under q.cuts z.rows.snapshot) (has_right x.applied h)))).2

    ends_none : has_end n x.rows.boot (standing n whole) (entries_of vs) ≡ false
    ends_none = (λ i. has_end n x.rows.boot (sym stands i n) (entries_of vs)) ∙ ride.ends

    pending_is : z.pending ≡ filter (is_wanted (whole ++ entries_of vs)) x.pending
    pending_is =
        ride.pending
        ∙ ((λ i. pending_behind (stands i) (entries_of vs) x.pending)
        ∙ wanting.left n x.rows.boot acts whole x.pending owes_may owes_is losts (entries_of vs) ends_none boots)

    -- all that was pending is there
    all : (e : Entry B) → Has x.pending e → Has (entries_of vs) e
    all e h =
        let s = all_shape same equal (log_length x) d.called (ballot_of same equal members both n mem (suc sees) seats)
        (suc (log_length x)) [] in
        let r = all_in same equal (log_length x) x.pending (ballot_of same equal members both n mem (suc sees) seats) s.0
        ([] ++ s.1) e h in
        subst (λ f. Has (entries_of vs) f) r.2
        (map_has (λ (v : Vote B). v.entry)
        (subst (λ (a : Role B). Has (proposals_of a) r.0) (sym (ap (λ (a : Role B). propose_new same (log_length x) x.pending a) s.2)
        ∙ (sym d.made ∙ d.role_is)) r.1))

    has_room : length z.pending < most_pending
    has_room =
        subst (λ (l : List (Entry B)). length l < most_pending) (sym pending_is)
        (wanting.fewer_left n x.rows.boot acts whole x.pending owes_may owes_is losts (entries_of vs) ends_none
        boots all most_pending (some most_pending room_for_two) (pending_is_few same members events n))
      where
        some : (a : ℕ) → 2 ≤ a → 0 < a
        some a l = omega arith

    chain : Chain n z.rows.boot z.taken (standing_of z n) z.pending
    chain =
        let o = owes_all same members equal few after n ride.up in
        subst (λ a. Chain n z.rows.boot a (standing_of z n) z.pending) (taken_are_counted same members after n ride.up)
        (chain_owed n z.rows.boot (standing_of z n) z.pending (acts_of n z.rows.boot q.made) o.may o.is
        (λ k b h. (losts_live same members equal few after n k b h).0))

    -- the events that are left, in the terms of the node
    abbrev rest : List (Vote B)
    rest =
        behind (log_length z) (proposals_of (propose_new same (log_length z)
        (z.pending ++ Item n z.rows.boot (suc z.taken) act.transport act.body ∷ [])
        (Leading (record { round = suc sees; node = n }) d.next vs)))

    abbrev then_taken : World B
    then_taken = played same members (after ++ Take n act.transport act.body ∷ [])

    ends : Achieved (play same members (pass n seats rest) then_taken)
    ends = (led_on.0, λ j e h. led_on.1 j e (stay j e h))
      where
        led_on : EndsWithAct (play same members (pass n seats rest) then_taken) n act.transport act.body
            × ((j : ℕ) → (j ≡ n → ⊥) → (node_at q.nodes j).up ≡ true
            → (node_at (play same members (pass n seats rest) then_taken).nodes j).up ≡ true)
        led_on =
            going.leads_on same equal members three few both n mem
            (low same equal members three few events n up seats apart are ups top high room rooms level enough act) after (suc sees) seats apart
            (others same equal members three few events n up seats apart are ups top high room rooms level enough act)
            (lows same equal members three few events n up seats apart are ups top high room rooms level enough act)
            (enough_then same equal members three few events n up seats apart are ups top high room rooms level enough act)
            (kept_of x) have first_most slots_fit role vs d ride level act.transport act.body positive
            (subst (λ a. a < last_number) (sym ride.taken) acts_left) has_room chain

    length_is : log_length z ≡ length_then same c act
    length_is =
        (λ i. floor_in (d.base i) + length (ride.log i))
        ∙ (ap (λ a. floor_in x.rows.snapshot + a)
        (length-append x.applied (entries_of vs) ∙ ap (λ a. length x.applied + a) (length_map (λ (v : Vote B). v.entry) vs))
        ∙ regroup (floor_in x.rows.snapshot) (length x.applied) (length vs))
      where
        regroup : (f a b : ℕ) → f + (a + b) ≡ (f + a) + b
        regroup f a b = omega arith

    kept_then : z.pending ≡ filter (is_wanted_by (standings_then same c act)) x.pending
    kept_then =
        pending_is ∙ (λ i. filter (is_wanted_by (sym (some_longer (λ k. Unknown) whole (entries_of vs)) i)) x.pending)
        ∙ (λ i. filter (is_wanted_by (standings_from (sym stands i) (entries_of vs))) x.pending)

    votes_are : rest ≡ second_votes same c act
    votes_are i =
        behind (length_is i) (proposals_of (propose_new same (length_is i)
        (kept_then i ++ Item n (d.boot i) (suc (ride.taken i)) act.transport act.body ∷ []) (sym d.role_is i)))

    went_on : Achieved (play same members (level_course same c act) w)
    went_on =
        subst (λ v. Achieved v) world_is (subst (λ l. Achieved (play same members (pass n seats l) then_taken)) votes_are ends)
      where
        world_is : play same members (pass n seats (second_votes same c act)) then_taken ≡ play same members (level_course same c act) w
        world_is =
            ap (λ (v : World B). play same members (pass n seats (second_votes same c act)) v)
            (play_on same members after (Take n act.transport act.body ∷ []) (first_world members)
            ∙ ap (λ (v : World B). next same members v (Take n act.transport act.body)) q_is)
            ∙ (sym (play_on same members (first_pass same c act) (goes_on same c act) w)
            ∙ ap (λ l. play same members (first_pass same c act ++ l) w)
            (sym (cond-false (falls same c act) (comes_back same c act) (goes_on same c act) (ride.ends))))

  -- ---- it comes back

  module _ (boots : x.rows.boot < last_boot) (fell : WentDown same equal members both n mem (suc sees) seats (kept_of x) vs z) where
    -- it begins its next boot, on a helper's snapshot if that gives more than its own
    abbrev source : Option Source
    source = source_again c

    floor_is : floor_in z.rows.snapshot ≡ floor_of c.own
    floor_is = ap (λ o. floor_in o) d.base

    abbrev again_events : List (Event B)
    again_events = after ++ Restart n ∷ fetch_again c

    rebegun : Rebegun same equal members three few n after z.rows fell.down_is (subst (λ a. a < last_boot) (sym d.boot) boots) (floor_of c.own)
        floor_is seats apart (λ s h. (d.helpers s h).up) (λ s h. (d.helpers s h).given_is) source (played same members again_events)
    rebegun =
        rebegins same equal members three few n after z.rows fell.down_is (subst (λ a. a < last_boot) (sym d.boot) boots) (floor_of c.own)
        floor_is seats apart (λ s h. (d.helpers s h).up) (λ s h. (d.helpers s h).given_is)

    abbrev rows : Rows B
    rows = raised (rows_over source z.rows)

    -- the same node, as the course has it
    abbrev again_own : Seat B
    again_own = own_again c

    number_is : (o : Option Source) → (seat_over o c.own).number ≡ n
    number_is None = refl
    number_is (Some t) = refl

    boot_over : (o : Option Source) → (rows_over o z.rows).boot ≡ z.rows.boot
    boot_over None = refl
    boot_over (Some t) = refl

    promised_over : (o : Option Source) → (rows_over o z.rows).promised ≡ z.rows.promised
    promised_over None = refl
    promised_over (Some t) = refl

    votes_over : (o : Option Source) (v : Vote B) → Has (rows_over o z.rows).votes v → Has z.rows.votes v
    votes_over None v h = h
    votes_over (Some t) v h = has_from (suc t.snapshot.floor) z.rows.votes v h

    base_over : (o : Option Source) → (rows_over o z.rows).snapshot ≡ (seat_over o c.own).node.rows.snapshot
    base_over None = d.base
    base_over (Some t) = refl

    own_votes : (o : Option Source)
        → votes_from (suc (floor_of (seat_over o c.own))) (rows_over o z.rows).votes
        ≡ votes_then (suc (floor_of (seat_over o c.own))) vs (seat_over o c.own)
    own_votes None = ap (λ l. votes_from (suc (floor_of c.own)) l) d.votes
    own_votes (Some t) =
        filter_all (λ (v : Vote B). nat_le (suc t.snapshot.floor) v.slot) (votes_from (suc t.snapshot.floor) z.rows.votes)
        (λ v h. has_passes (λ (u : Vote B). nat_le (suc t.snapshot.floor) u.slot) z.rows.votes h)
        ∙ ap (λ l. votes_from (suc t.snapshot.floor) l) d.votes

    own_slots : (o : Option Source) (v : Vote B) → Has (seat_over o c.own).node.rows.votes v → v.slot ≤ last_rescue_slot
    own_slots None v h = room.slots v h
    own_slots (Some t) v h = room.slots v h

    best : Best (floor_of c.own) None seats source
    best = highest_is (floor_of c.own) seats

    level_over : (o : Option Source) → ((s : Seat B) → Has seats s → floor_of s ≤ floor_or (floor_of c.own) o)
        → (s : Seat B) → Has seats s → floor_of s ≤ floor_of (seat_over o c.own)
    level_over None h = h
    level_over (Some t) h = h

    low_floor : floor_of again_own ≤ last_rescue_slot
    low_floor =
        ⊎_elim (λ e. subst (λ o. floor_of (seat_over o c.own) ≤ last_rescue_slot) (sym e) room.floor)
        (λ f. subst (λ o. floor_of (seat_over o c.own) ≤ last_rescue_slot) (sym f.1)
        (subst (λ o. floor_in o ≤ last_rescue_slot) f.3.3 (rooms f.3.0 f.3.1).floor)) best.from

    abbrev again : ℕ → List (Entry B) → List (Vote B)
    again a pending =
        behind a (proposals_of (led same members a pending (ballot_after same c act (suc sees)) (suc a) vs again_own seats))

    abbrev floor : ℕ
    floor = floor_again c

    abbrev then_led : World B
    then_led =
        play same members (lead (ballot_after same c act (suc sees)) (suc floor) vs seats)
        (played same members (again_events ++ Take n act.transport act.body ∷ []))

    abbrev passed : World B
    passed =
        play same members (pass n seats (again floor (Boot n rows.boot ∷ Item n rows.boot 1 act.transport act.body ∷ []))) then_led

    returned : Achieved passed
    returned = (led_back.0, λ j e h. led_back.1 j e (stay j e h))
      where
        led_back : EndsWithAct passed n act.transport act.body
            × ((j : ℕ) → (j ≡ n → ⊥) → (node_at q.nodes j).up ≡ true → (node_at passed.nodes j).up ≡ true)
        led_back =
            returning.leads_back same equal members three few both n mem
            (low same equal members three few events n up seats apart are ups top high room rooms level enough act) after sees
            (rounds_fit sees
            (seen_fits same equal members three few events n up seats apart are ups top high room rooms level enough act)).1
            seats apart
            (others same equal members three few events n up seats apart are ups top high room rooms level enough act)
            (lows same equal members three few events n up seats apart are ups top high room rooms level enough act)
            (enough_first same equal members three few events n up seats apart are ups top high room rooms level enough act)
            (enough_then same equal members three few events n up seats apart are ups top high room rooms level enough act)
            (kept_of x) have role vs d
            (had_is same equal members three few events n up seats apart are ups top high room rooms level enough act)
            (λ s h. (rooms s h).slots) again_events rows again_own (number_is source) rebegun.own (λ j e. rebegun.others j e)
            (ap suc (boot_over source)) (promised_over source) (votes_over source) (base_over source) (own_votes source) (own_slots source)
            (level_over source best.each) low_floor rebegun.told act.transport act.body positive

    came_back : Achieved (play same members (level_course same c act) w)
    came_back =
        subst (λ v. Achieved v) world_is (subst (λ l. Achieved (play same members (pass n seats l) then_led)) votes_are returned)
      where
        boot_is : rows.boot ≡ suc x.rows.boot
        boot_is = ap suc (boot_over source ∙ d.boot)

        votes_are : again floor (Boot n rows.boot ∷ Item n rows.boot 1 act.transport act.body ∷ []) ≡ again_votes same c act
        votes_are i = again floor (Boot n (boot_is i) ∷ Item n (boot_is i) 1 act.transport act.body ∷ [])

        rest' : List (Event B)
        rest' = lead (ballot_after same c act (suc sees)) (suc floor) vs seats ++ pass n seats (again_votes same c act)

        world_is : play same members (pass n seats (again_votes same c act)) then_led ≡ play same members (level_course same c act) w
        world_is =
            sym (play_on same members (lead (ballot_after same c act (suc sees)) (suc floor) vs seats) (pass n seats (again_votes same c act))
            (played same members (again_events ++ Take n act.transport act.body ∷ [])))
            ∙ (ap (λ (v : World B). play same members rest' v)
            (play_on same members again_events (Take n act.transport act.body ∷ []) (first_world members))
            ∙ (ap (λ (v : World B). play same members (Take n act.transport act.body ∷ rest') v)
            (play_on same members after (Restart n ∷ fetch_again c) (first_world members))
            ∙ (sym (play_on same members (Restart n ∷ fetch_again c) (Take n act.transport act.body ∷ rest') q)
            ∙ (ap (λ l. play same members l q)
            (sym (append_assoc (Restart n ∷ fetch_again c)
            (Take n act.transport act.body ∷ lead (ballot_after same c act (suc sees)) (suc floor) vs seats)
            (pass n seats (again_votes same c act))))
            ∙ (ap (λ (v : World B). play same members (comes_back same c act) v) q_is
            ∙ (sym (play_on same members (first_pass same c act) (comes_back same c act) w)
            ∙ ap (λ l. play same members (first_pass same c act ++ l) w)
            (sym (cond-true (falls same c act) (comes_back same c act) (goes_on same c act) fell.ends))))))))

  -- a node that has just begun its boot, which is after this one, does not fall: nothing of that boot was voted for
  module _ (b : ℕ) (fresh : x ≡ started n x.rows) (next : x.rows.boot ≡ suc b) (told : boot_in (stands_at x.rows.snapshot n) ≤ b)
      (old : (v : Vote B) → Has x.rows.votes v → NotLater n b v.entry)
      (olds : (s : Seat B) (v : Vote B) → Has seats s → Has s.node.rows.votes v → NotLater n b v.entry) where
    abbrev boot : ℕ
    boot = x.rows.boot

    abbrev stand : Standing
    stand = standing_of x n

    stand_is : stand ≡ stands_at x.rows.snapshot n
    stand_is i = standing_of (fresh i) n

    reported : (e : Entry B) → Has d.called e → NotLater n b e
    reported e h =
        ⊎_elim (λ i. subst (λ f. NotLater n b f) (sym i) (noop_is n b)) (λ v. subst (λ f. NotLater n b f) v.2 (of v.0 v.1)) (d.reported e h)
      where
        of : (v : Vote B) → IsVoteOf (kept_of x) seats have v → NotLater n b v.entry
        of v i =
            ⊎_elim (λ g. old v g)
            (λ s. olds s.0 v s.1 (subst (λ l. Has l v)
            (had_is same equal members three few events n up seats apart are ups top high room rooms level enough act s.0 s.1)
            s.2)) i

    abbrev shape : (later : ℕ) × (ws : List (Vote B))
        × (propose_all d.called (Leading (ballot_of same equal members both n mem (suc sees) seats) (suc (log_length x)) [])
        ≡ Leading (ballot_of same equal members both n mem (suc sees) seats) later ([] ++ ws))
        × (entries_of ws ≡ d.called)
    shape = all_shape same equal (log_length x) d.called (ballot_of same equal members both n mem (suc sees) seats) (suc (log_length x)) []

    less : (c a e : ℕ) → e ≡ suc a → c ≤ a → c < e
    less c a e i l = omega arith

    called_below : BootsBelow n boot (entries_of shape.1)
    called_below c h = less c b boot next ((reported (Boot n c) (subst (λ l. Has l (Boot n c)) shape.3 h)).boots c refl)

    early : Early boot (standing_from n stand (entries_of shape.1)) × (has_end n boot stand (entries_of shape.1) ≡ false)
    early =
        early_on n boot (entries_of shape.1) stand
        (subst (λ s. Early boot s) (sym stand_is)
        (early_by boot (stands_at x.rows.snapshot n) (less (boot_in (stands_at x.rows.snapshot n)) b boot next told)))
        called_below

    none_of : boot ≤ b → ⊥
    none_of l = not_past boot b next l
      where
        not_past : (e a : ℕ) → e ≡ suc a → e ≤ a → ⊥
        not_past e a i l = omega arith

    old_slots : (v : Vote B) → Has {A = Vote B} [] v → v.slot ≤ log_length x
    old_slots v h = absurd (has_nil h)

    abbrev Brings : Role B → Type 0
    Brings r = Brought same equal (log_length x) n boot 0 (ballot_of same equal members both n mem (suc sees) seats) [] old_slots stand r

    brought : Brings role
    brought =
        subst (λ r. Brings r)
        (sym (d.made
        ∙ ((λ i. propose_new same (log_length x) (fresh i).pending (propose_all d.called
        (Leading (ballot_of same equal members both n mem (suc sees) seats) (suc (log_length x)) [])))
        ∙ ap (λ (r : Role B). propose_new same (log_length x) (Boot n boot ∷ []) r) shape.2)))
        (brings same equal (log_length x) n boot 0 (ballot_of same equal members both n mem (suc sees) seats) [] old_slots stand
        (Boot n boot ∷ []) (standing_from n stand (entries_of shape.1)) shape.0 shape.1
        (record { node = refl; boot = refl; early = early.0 }, refl)
        (record {
          stands_is = refl;
          settles = record {
            boots = λ h. absurd (none_of ((reported (Boot n boot) (subst (λ l. Has l (Boot n boot)) shape.3 h)).boots boot refl));
            items = λ a c e h. absurd (none_of
                ((reported (Item n boot a c e) (subst (λ l. Has l (Item n boot a c e)) shape.3 h)).items boot a c e refl));
          };
          ends = early.1;
        }))

    brought_is : vs ≡ brought.ws
    brought_is = ap (λ (r : Role B). proposals_of r) (sym d.role_is ∙ brought.is)

    pub never_falls : falls same c act ≡ false
    never_falls = ap (λ l. has_end n boot stand (entries_of l)) brought_is ∙ brought.stood.ends

  pub act_applied : (falls same c act ≡ true → x.rows.boot < last_boot) → Achieved (play same members (level_course same c act) w)
  act_applied boots =
      ⊎_elim went_on
      (λ (f : WentDown same equal members both n mem (suc sees) seats (kept_of x) vs z). came_back (boots f.ends) f) d.fate

-- ---- in the terms of a world and its crew

-- what no refusal means
pub record Unrefused {B : Type 0} (members : ℕ) (w : World B) (n : ℕ) : Type 0 where
  pub up : (node_at w.nodes n).up ≡ true
  pub rooms : (k : ℕ) → IsMember members k → is_crowded (node_at w.nodes k) ≡ false

pub unrefused : {B : Type 0} (members : ℕ) (w : World B) (n : ℕ) → rescue_refused members w n ≡ None → Unrefused members w n
unrefused {B} members w n h =
    go (not (has_majority_up members w)) (not (is_up_at w n)) (any_member members (λ k. is_crowded (node_at w.nodes k))) refl refl h
  where
    some : (f : RescueFault) → Some f ≡ None → ⊥
    some f e = cc

    back : (t : Bool) → not t ≡ false → t ≡ true
    back true e = refl
    back false e = sym e

    each : (m : ℕ) → any_member m (λ k. is_crowded (node_at w.nodes k)) ≡ false → (k : ℕ) → IsMember m k → is_crowded (node_at w.nodes k)
        ≡ false
    each zero e k i = absurd (none k i)
      where
        none : (k : ℕ) → (1 ≤ k) × (k ≤ 0) → ⊥
        none k i = omega arith
    each (suc m) e k i =
        let p = or_parts (any_member m (λ k. is_crowded (node_at w.nodes k))) (is_crowded (node_at w.nodes (suc m))) e in
        ⊎_elim (λ (j : k ≡ suc m). subst (λ a. is_crowded (node_at w.nodes a) ≡ false) (sym j) p.1)
        (λ j. each m p.0 k (i.0, less k j i.1)) (cases_eq k (suc m))
      where
        less : (k : ℕ) → (k ≡ suc m → ⊥) → k ≤ suc m → k ≤ m
        less k j l = omega arith

    go : (a b c : Bool) → not (is_up_at w n) ≡ b → any_member members (λ k. is_crowded (node_at w.nodes k)) ≡ c
        → (if a then Some NoMajority else if b then Some NodeDown else if c then Some NoRoom else None) ≡ None → Unrefused members w n
    go true b c e f g = absurd (some NoMajority g)
    go false true c e f g = absurd (some NodeDown g)
    go false false true e f g = absurd (some NoRoom g)
    go false false false e f g = record { up = back (is_up_at w n) e; rooms = each members f }

pub has_room_of : {B : Type 0} (x : NodeState B) → x.up ≡ true → is_crowded x ≡ false → HasRoom last_rescue_round x
has_room_of {B} x up h =
    record {
      rounds = ltb-false last_rescue_round (round_held x) parts.0;
      slots = slots x.rows.votes later.0;
      floor = ltb-false last_rescue_slot (floor_in x.rows.snapshot) later.1;
    }
  where
    held : Bool
    held =
        list_any (λ (v : Vote B). nat_lt last_rescue_slot v.slot) x.rows.votes || nat_lt last_rescue_slot (floor_in x.rows.snapshot)

    parts : (nat_lt last_rescue_round (round_held x) ≡ false) × (held ≡ false)
    parts = or_parts _ _ (ap (λ t. t && (nat_lt last_rescue_round (round_held x) || held)) (sym up) ∙ h)

    later : (list_any (λ (v : Vote B). nat_lt last_rescue_slot v.slot) x.rows.votes ≡ false)
        × (nat_lt last_rescue_slot (floor_in x.rows.snapshot) ≡ false)
    later = or_parts _ _ parts.1

    slots : (votes : List (Vote B)) → list_any (λ (v : Vote B). nat_lt last_rescue_slot v.slot) votes ≡ false → (v : Vote B) → Has votes v
        → v.slot ≤ last_rescue_slot
    slots [] e v i = absurd (has_nil i)
    slots (u ∷ votes) e v i =
        let p = or_parts (nat_lt last_rescue_slot u.slot) (list_any (λ (t : Vote B). nat_lt last_rescue_slot t.slot) votes) e in
        ⊎_elim (λ (j : u ≡ v). subst (λ (t : Vote B). t.slot ≤ last_rescue_slot) j (ltb-false last_rescue_slot u.slot p.0))
        (λ j. slots votes p.1 v j)
        (has_cons i)

-- one round more
pub more_room : {B : Type 0} (top : ℕ) (x : NodeState B) → HasRoom top x → HasRoom (suc top) x
more_room top x r = record { rounds = more (round_held x) r.rounds; slots = r.slots; floor = r.floor }
  where
    more : (a : ℕ) → a ≤ top → a ≤ suc top
    more a l = omega arith

-- ---- the world in which the node is level

module _ {B : Type 0} (same : B → B → Bool) (equal : IsEquality same) (members : ℕ) (three : 3 ≤ members) (few : members ≤ 7)
    (events : List (Event B)) (n : ℕ) (c : Crew B) (is : IsCrew members (played same members events) n c)
    (free : rescue_refused members (played same members events) n ≡ None) where
  abbrev w0 : World B
  w0 = played same members events

  abbrev x0 : NodeState B
  x0 = node_at w0.nodes n

  abbrev pub seats0 : List (Seat B)
  seats0 = c.helpers

  pub free_of : Unrefused members w0 n
  free_of = unrefused members w0 n free

  room0 : HasRoom last_rescue_round x0
  room0 = has_room_of x0 free_of.up (free_of.rooms n (is_member_up same members events n free_of.up))

  pub rooms0 : (s : Seat B) → Has seats0 s → HasRoom last_rescue_round s.node
  rooms0 s h =
      has_room_of s.node (is.ups s h)
      (subst (λ (a : NodeState B). is_crowded a ≡ false) (is.are s h)
      (free_of.rooms s.number (is_member_up same members events s.number (ap (λ (a : NodeState B). a.up) (is.are s h) ∙ is.ups s h))))

  pub rounds0 : suc x0.proposer.seen < round_end
  rounds0 = (rounds_fit x0.proposer.seen (more x0.proposer.seen (round_of x0.rows.promised) last_rescue_round room0.rounds)).0
    where
      more : (a c top : ℕ) → max a c ≤ top → a ≤ suc (suc top)
      more a c top l = omega arith

  -- the crew, by the world
  abbrev pub crew : Crew B
  crew = record { members = members; own = record { number = n; node = x0 }; helpers = seats0 }

  pub crew_is : crew ≡ c
  crew_is i = record { members = sym is.members_is i; own = record { number = sym is.number i; node = is.own i }; helpers = c.helpers }

  abbrev asked : Option Source
  asked = asked_for same equal members three few events n free_of.up seats0 is.apart is.are is.ups rounds0

  -- the node then
  abbrev pub y : NodeState B
  y = (reached crew).own.node

  abbrev pub anew : Bool
  anew = begins_anew crew

  abbrev Held : Type 0
  Held = Holds same equal members three few events n free_of.up seats0 is.apart is.are is.ups rounds0 anew y

  pub held : Held
  held = holds same equal members three few events n free_of.up seats0 is.apart is.are is.ups rounds0

  pub room_y : HasRoom (suc last_rescue_round) y
  room_y =
      record {
        rounds = rise (round_held y) x0.proposer.seen (round_of x0.rows.promised) last_rescue_round held.held room0.rounds;
        slots = λ v h. room0.slots v (held.votes v h);
        floor = ⊎_elim (λ e. subst (λ a. a ≤ last_rescue_slot) (sym e) room0.floor)
            (λ s. subst (λ a. a ≤ last_rescue_slot) (sym s.2) (rooms0 s.0 s.1).floor) held.floor;
      }
    where
      rise : (h a c top : ℕ) → h ≤ suc a → max a c ≤ top → h ≤ suc top
      rise h a c top l m = omega arith

  module _ (boots : anew ≡ true → x0.rows.boot < last_boot) where
    abbrev pub before : List (Event B)
    before = events ++ reach crew

    abbrev pub wl : World B
    wl = played same members before

    lev : Levelled same equal members three few events n free_of.up seats0 is.apart is.are is.ups rounds0 asked wl
    lev = is_levelled same equal members three few events n free_of.up seats0 is.apart is.are is.ups rounds0 boots

    pub own_is : node_at wl.nodes n ≡ y
    own_is = lev.own

    pub others_are : (k : ℕ) → (k ≡ n → ⊥) → node_at wl.nodes k ≡ node_at w0.nodes k
    others_are k e = lev.others k e

    pub up_l : (node_at wl.nodes n).up ≡ true
    up_l = ap (λ (a : NodeState B). a.up) own_is ∙ lev.up_is

    pub are_l : (s : Seat B) → Has seats0 s → node_at wl.nodes s.number ≡ s.node
    are_l s h = others_are s.number (none_is n seats0 is.apart s h) ∙ is.are s h

    pub room_l : HasRoom (suc last_rescue_round) (node_at wl.nodes n)
    room_l = subst (λ a. HasRoom (suc last_rescue_round) a) (sym own_is) room_y

    pub rooms_l : (s : Seat B) → Has seats0 s → HasRoom (suc last_rescue_round) s.node
    rooms_l s h = more_room last_rescue_round s.node (rooms0 s h)

    pub level_l : (s : Seat B) → Has seats0 s → floor_of s ≤ log_length (node_at wl.nodes n)
    level_l s h = subst (λ a. floor_of s ≤ log_length a) (sym own_is) (lev.level s h)

    pub high_l : suc last_rescue_round ≤ suc last_rescue_round
    high_l = itself (suc last_rescue_round)
      where
        itself : (a : ℕ) → a ≤ a
        itself a = omega arith

-- no dead end
pub rescues : {B : Type 0} (same : B → B → Bool) (equal : IsEquality same) (members : ℕ) → 3 ≤ members → members ≤ 7
    → (events : List (Event B))
    (n number : ℕ) (body : B) (c : Crew B) → IsCrew members (played same members events) n c
    → rescue_refused members (played same members events) n ≡ None → MayBeRescued (node_at (played same members events).nodes n) number
    → Rescues same members (played same members events) n number body (course same c (record { transport = number; body = body }))
rescues {B} same equal members three few events n number body c is free may =
    record {
      ends = done.0;
      restarts = subst (λ a. RestartsOnce (course same a act) n) c0_is (restarts_once same c0 act never);
      stay_up = done.1;
    }
  where
    w : World B
    w = played same members events

    x : NodeState B
    x = node_at w.nodes n

    act : Act B
    act = record { transport = number; body = body }

    c0 : Crew B
    c0 = crew same equal members three few events n c is free

    c0_is : c0 ≡ c
    c0_is = crew_is same equal members three few events n c is free

    boots : begins_anew c0 ≡ true → x.rows.boot < last_boot
    boots e = may.boots

    early : List (Event B)
    early = events ++ reach c0

    v : World B
    v = played same members early

    at_v : node_at v.nodes n ≡ (reached c0).own.node
    at_v = own_is same equal members three few events n c is free boots

    others_at : (k : ℕ) → (k ≡ n → ⊥) → node_at v.nodes k ≡ node_at w.nodes k
    others_at = others_are same equal members three few events n c is free boots

    hold : Holds same equal members three few events n (free_of same equal members three few events n c is free).up c.helpers is.apart
        is.are is.ups (rounds0 same equal members three few events n c is free) (begins_anew c0) (reached c0).own.node
    hold = held same equal members three few events n c is free

    -- the crew, in that world
    c1 : Crew B
    c1 = record { members = members; own = record { number = n; node = node_at v.nodes n }; helpers = c.helpers }

    c1_is : c1 ≡ reached c0
    c1_is i = record { members = members; own = record { number = n; node = at_v i }; helpers = c.helpers }

    left : (node_at v.nodes n).taken < last_number
    left = subst (λ (a : NodeState B). a.taken < last_number) (sym at_v) (low (reached c0).own.node.taken x.taken hold.taken may.acts)
      where
        low : (a c : ℕ) → a ≤ c → c < last_number → a < last_number
        low a c l m = omega arith

    -- if it begins a boot as it is made level, it does not fall then
    never : begins_anew c0 ≡ true → falls same (reached c0) act ≡ false
    never e =
        subst (λ (a : Crew B). falls same a act ≡ false) c1_is
        (never_falls same equal members three few early n (up_l same equal members three few events n c is free boots) c.helpers is.apart
        (are_l same equal members three few events n c is free boots) is.ups (suc last_rescue_round)
        (high_l same equal members three few events n c is free boots)
        (room_l same equal members three few events n c is free boots)
        (rooms_l same equal members three few events n c is free boots)
        (level_l same equal members three few events n c is free boots) is.enough act may.number_is left x.rows.boot
        (at_v ∙ (hold.begun e ∙ (λ i. started n (sym at_v i).rows)))
        (ap (λ (a : NodeState B). a.rows.boot) at_v ∙ hold.next e)
        (subst (λ (a : NodeState B). boot_in (stands_at a.rows.snapshot n) ≤ x.rows.boot) (sym at_v) (hold.told e))
        (λ u h. votes_not_later same equal members events n n u (hold.votes u (subst (λ (a : NodeState B). Has a.rows.votes u) at_v h)))
        (λ s u i h. votes_not_later same equal members events n s.number u
        (subst (λ (a : NodeState B). Has a.rows.votes u) (sym (is.are s i)) h)))

    may_fall : falls same c1 act ≡ true → (node_at v.nodes n).rows.boot < last_boot
    may_fall h = go (begins_anew c0) refl
      where
        go : (b : Bool) → begins_anew c0 ≡ b → (node_at v.nodes n).rows.boot < last_boot
        go true e =
            absurd (true≢false (sym h ∙ (ap (λ (a : Crew B). falls same a act) c1_is ∙ never e)))
        go false e =
            subst (λ a. a < last_boot) (sym (ap (λ (a : NodeState B). a.rows.boot) at_v ∙ hold.boot e)) may.boots

    Done : World B → Type 0
    Done a = EndsWithAct a n number body × ((j : ℕ) → (j ≡ n → ⊥) → is_up_at v j ≡ true → is_up_at a j ≡ true)

    applied : Done (play same members (level_course same c1 act) v)
    applied =
        act_applied same equal members three few early n (up_l same equal members three few events n c is free boots) c.helpers is.apart
        (are_l same equal members three few events n c is free boots) is.ups (suc last_rescue_round)
        (high_l same equal members three few events n c is free boots)
        (room_l same equal members three few events n c is free boots)
        (rooms_l same equal members three few events n c is free boots)
        (level_l same equal members three few events n c is free boots) is.enough act may.number_is left may_fall

    world_is : play same members (level_course same (reached c0) act) v ≡ play same members (course same c0 act) w
    world_is =
        ap (λ (a : World B). play same members (level_course same (reached c0) act) a)
        (play_on same members events (reach c0) (first_world members))
        ∙ sym (play_on same members (reach c0) (level_course same (reached c0) act) w)

    applied_in : Done (play same members (course same c0 act) w)
    applied_in = subst (λ a. Done a) world_is (subst (λ (a : Crew B). Done (play same members (level_course same a act) v)) c1_is applied)

    done : EndsWithAct (play same members (course same c act) w) n number body
        × ((j : ℕ) → (j ≡ n → ⊥) → is_up_at w j ≡ true → is_up_at (play same members (course same c act) w) j ≡ true)
    done =
        subst
        (λ (a : Crew B). EndsWithAct (play same members (course same a act) w) n number body
        × ((j : ℕ) → (j ≡ n → ⊥) → is_up_at w j ≡ true → is_up_at (play same members (course same a act) w) j ≡ true)) c0_is
        (applied_in.0, λ j e h. applied_in.1 j e (ap (λ (a : NodeState B). a.up) (others_at j e) ∙ h))
