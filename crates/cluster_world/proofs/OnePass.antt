-- A whole pass, from the start of its ballot to the votes for all that was proposed.
use Rattle.std.proofs.Common.{◌≡◌, ◌⊎◌, inl, inr, ⊎_elim, ℕ, suc, ◌+◌, ◌-◌, ◌<◌, ◌≤◌, Bool, true, false, refl, sym, ap, ◌∙◌, subst}
use Rattle.std.proofs.Common.{arith}
use Rattle.std.proofs.Common.{List, [], ◌∷◌, ◌++◌, length, Some}
use Rattle.std.specs.Prelude.{fold}
use Rattle.std.proofs.lemmas.Bool.{cases_lt, ltb-true}
use Rattle.cluster_world.proofs.AcceptorTests.{from_has, has_from}
use Rattle.cluster_world.proofs.AtOnce.{AtRest}
use Rattle.cluster_world.proofs.Backing.{counted_is, Backed, Asks, IsPast, hears_all}
use Rattle.cluster_world.proofs.Bidding as bidding
use Rattle.cluster_world.proofs.Carrying.{carries, ready_after}
use Rattle.cluster_world.proofs.Casting.{HeardOwn, AreEights}
use Rattle.cluster_world.proofs.Concluding.{Ending, Rode_on, Went_down, concludes, put_all_cases, slots_within}
use Rattle.cluster_world.proofs.EveryWorld.{WorldOk, world_ok, all_stay, play_on}
use Rattle.cluster_world.proofs.Fates.{Rides}
use Rattle.cluster_world.proofs.Leading.{Bids, AreBelow, IsIn}
use Rattle.cluster_world.proofs.Learning.{all_floors}
use Rattle.cluster_world.proofs.Leaving.{kept_of, IsVoteOf, WasReported, RodeOn, WentDown, PassDone}
use Rattle.cluster_world.proofs.Lists.{has_one}
use Rattle.cluster_world.proofs.Passing.{Ready, Passed, among, counted_by}
use Rattle.cluster_world.proofs.Opening.{in_ballot}
use Rattle.cluster_world.proofs.Playing.{seat_or_not}
use Rattle.cluster_world.proofs.Reports.{past_has, reports_has, has_reports}
use Rattle.cluster_world.proofs.Sources.{called_good}
use Rattle.cluster_world.proofs.Slots.{AreAfter, Ordered, led_ordered, behind_whole}
use Rattle.cluster_world.specs.Has.{Has}
use Rattle.paxos_packets.specs.Body.{IsEquality}
use Rattle.paxos_packets.specs.Members.{IsMember, is_majority}
use Rattle.paxos_packets.specs.Packet.{packet}
use Rattle.paxos_packets.specs.Snapshot.{floor_in}
use Rattle.paxos_packets.specs.Vote.{put_votes, votes_from}
use Rattle.paxos_packets.specs.declared.ballot.Ballot.{Ballot}
use Rattle.paxos_packets.specs.declared.entry.Entry.{Entry}
use Rattle.paxos_packets.specs.declared.packet.Kind.TheVariants.{Accept}
use Rattle.paxos_learner.specs.Tallies.{place_of}
use Rattle.replica_machine.specs.Roll.{standings_from}
use Rattle.paxos_node.specs.Adopting.{pending_behind}
use Rattle.paxos_node.specs.Applying.{standing_of, stands_at, down, has_end}
use Rattle.paxos_packets.specs.declared.vote.Vote.{Vote}
use Rattle.paxos_acceptor.specs.Acceptor.{may_promise}
use Rattle.paxos_proposer.specs.declared.promises.CountedPromise.{CountedPromise}
use Rattle.paxos_proposer.specs.Proposals.{behind}
use Rattle.paxos_proposer.specs.Proposer.{round_of, round_end, slot_end, asking, is_leading}
use Rattle.paxos_proposer.specs.Proposing.{proposals_of}
use Rattle.paxos_proposer.specs.Reports.{is_counted, reports, past_reports, called_for}
use Rattle.paxos_proposer.specs.Role.{Role, Idle, Preparing, Leading}
use Rattle.paxos_node.specs.declared.event.Event.{Event}
use Rattle.paxos_node.specs.declared.event.Event.TheVariants.{Start}
use Rattle.paxos_planning.specs.Node.{NodeState, log_length}
use Rattle.cluster_world.specs.World.{World, node_at, first_world, next, play, played}
use Rattle.world_rescue.specs.Course.{Seat, floor_of, votes_then, lead, led, pass, entries_of, propose_all, propose_new}
use Rattle.cluster_world.specs.Rescue.{Apart}

-- a role that leads in the ballot
leading_is : {B : Type 0} (b : Ballot) (first past most : ℕ) (r : Role B) → is_leading r ≡ true → IsIn b first past most r
    → (next : ℕ) × (table : List (Vote B)) × (r ≡ Leading b next table)
leading_is b first past most Idle l i = absurd i
leading_is b first past most (Preparing c f cs) l i = absurd (off l)
  where
    off : false ≡ true → ⊥
    off e = cc
leading_is b first past most (Leading c next table) l i = (next, table, λ j. Leading (i.0 j) next table)

-- whose promise it is: the node's own, or that of a seat
pub data IsPromise {B : Type 0} (first : ℕ) (cast : List (Vote B)) (own : Seat B) (seats : List (Seat B))
    (c : CountedPromise B) : Type 0 where
  Own : c ≡ record { node = own.number; floor = floor_of own; votes = votes_then first cast own } → IsPromise first cast own seats c
  Seated : (s : Seat B) → Has seats s → c ≡ record { node = s.number; floor = floor_of s; votes = votes_then first cast s }
      → IsPromise first cast own seats c

module _ {B : Type 0} (same : B → B → Bool) (equal : IsEquality same) (members : ℕ) (three : 3 ≤ members) (two : 2 ≤ members) (n : ℕ)
    (member : IsMember members n) (low : n < 8) (before : List (Event B)) (own : Seat B) (number : own.number ≡ n) (seats : List (Seat B))
    (apart : Apart n seats) (others : (s : Seat B) → Has seats s → IsMember members s.number)
    (lows : (s : Seat B) → Has seats s → s.number < 8) (now : Seat B → NodeState B)
    (are : (s : Seat B) → Has seats s → node_at (played same members before).nodes s.number ≡ now s)
    (ups : (s : Seat B) → Has seats s → (now s).up ≡ true) (rests : (s : Seat B) → Has seats s → AtRest (now s))
    (up : (node_at (played same members before).nodes n).up ≡ true) (rest : AtRest (node_at (played same members before).nodes n))
    (seen : ℕ)
    (is_seen : (node_at (played same members before).nodes n).proposer.seen ≡ seen)
    (sees : round_of (node_at (played same members before).nodes n).rows.promised ≤ seen) (rounds : suc seen < round_end)
    (cast : List (Vote B))
    (past most : ℕ) where
  abbrev u : World B
  u = played same members before

  abbrev x : NodeState B
  x = node_at u.nodes n

  abbrev first : ℕ
  first = suc (log_length x)

  abbrev ballot : Ballot
  ballot = record { round = suc seen; node = n }

  abbrev y : NodeState B
  y = node_at (next same members u (Start n)).nodes n

  abbrev role : Role B
  role = led same members (log_length y) y.pending ballot first cast own seats

  abbrev vs : List (Vote B)
  vs = behind (log_length y) (proposals_of role)

  abbrev leading : List (Event B)
  leading = lead ballot first cast seats

  abbrev p : World B
  p = play same members leading u

  pub y_is : y ≡ in_ballot n ballot x
  y_is =
      (bidding.started same equal members two n member low u own number seats apart others now are ups rests up rest seen is_seen sees
      rounds cast past
      most).own

  module _ (from : first ≤ past) (room : past + length y.pending ≤ most) (slots : most ≤ slot_end)
      (mays : (s : Seat B) → Has seats s → may_promise (now s).rows.promised ballot ≡ true)
      (votes_are : (s : Seat B) → Has seats s → (now s).rows.votes ≡ put_votes cast s.node.rows.votes)
      (own_votes : votes_from first x.rows.votes ≡ votes_then first cast own)
      (bases : (s : Seat B) → Has seats s → (now s).rows.snapshot ≡ s.node.rows.snapshot) (base : x.rows.snapshot ≡ own.node.rows.snapshot)
      (floors : (s : Seat B) → Has seats s → floor_of s ≤ log_length x)
      (belows : (s : Seat B) → Has seats s → AreBelow past (votes_then first cast s))
      (own_below : AreBelow past (votes_then first cast own))
      (heard : HeardOwn ballot n x.learner) (eights : AreEights x.learner.heard)
      (heards : (s : Seat B) → Has seats s → HeardOwn ballot s.number (now s).learner)
      (enough : is_majority members (among (fold (λ ks s. s.number ∷ ks) (n ∷ []) seats)) ≡ true)
      (enough_too : is_majority members (among (n ∷ counted_by seats)) ≡ true) where
    level : x.learner.floor ≡ floor_in x.rows.snapshot
    level = all_floors same members before n

    levels : (s : Seat B) → Has seats s → (now s).learner.floor ≡ floor_in (now s).rows.snapshot
    levels s h = subst (λ z. z.learner.floor ≡ floor_in z.rows.snapshot) (are s h) (all_floors same members before s.number)

    own_floor : floor_of own ≤ log_length x
    own_floor = subst (λ o. floor_in o ≤ log_length x) base (within (floor_in x.rows.snapshot) (length x.applied))
      where
        within : (a c : ℕ) → a ≤ a + c
        within a c = omega arith

    up_one : (a c : ℕ) → a ≤ c → a < suc c
    up_one a c l = omega arith

    unders : (s : Seat B) → Has seats s → floor_of s < first
    unders s h = up_one (floor_of s) (log_length x) (floors s h)

    -- the node leads
    leads : is_leading role ≡ true
    leads =
        bidding.leads same equal members two n member low u own number seats apart others now are ups rests up rest seen is_seen sees rounds
        cast past
        most from room slots mays votes_are own_votes bases unders base belows own_below level heard eights enough

    abbrev Bid : Type 0
    Bid = bidding.KnowsIt same equal members two n member low u own number seats apart others now are ups rests up rest seen is_seen sees
        rounds cast
        past most from room slots mays votes_are own_votes bases unders base belows own_below level heard eights enough p role

    bid : Bid
    bid =
        (bidding.bid same equal members two n member low u own number seats apart others now are ups rests up rest seen is_seen sees rounds
        cast past
        most from room slots mays votes_are own_votes bases unders base belows own_below level heard eights enough).own

    helper_is : (s : Seat B) → Has seats s
        → Ready same equal members two n member (suc seen) (node_at p.nodes n) s.number (now s).rows.snapshot (now s).rows.votes
        (node_at p.nodes s.number)
    helper_is s h =
        subst (λ z. Ready same equal members two n member (suc seen) (node_at p.nodes n) s.number (now s).rows.snapshot (now s).rows.votes z)
        (sym
        ((bidding.bid same equal members two n member low u own number seats apart others now are ups rests up rest seen is_seen sees rounds
        cast past
        most from room slots mays votes_are own_votes bases unders base belows own_below level heard eights enough).helpers s h))
        (ready_after same equal members two n member low (suc seen) (node_at p.nodes n) (now s) s.number first (ups s h) (rests s h)
        (mays s h) (levels s h) (heards s h))

    -- what a helper has is what it reported, or below the first slot
    ready : (s : Seat B) → Has seats s
        → Ready same equal members two n member (suc seen) (node_at p.nodes n) s.number (node_at p.nodes s.number).rows.snapshot
        (node_at p.nodes s.number).rows.votes (node_at p.nodes s.number)
    ready s h =
        let r = helper_is s h in
        record {
          up = r.up;
          promised = r.promised;
          given_is = refl;
          votes_are = refl;
          level = r.level ∙ ap (λ o. floor_in o) (sym r.given_is);
          own = r.own;
          rests = r.rests;
        }

    p_is : played same members (before ++ leading) ≡ p
    p_is = play_on same members before leading (first_world members)

    ok : WorldOk members p
    ok = subst (λ w. WorldOk members w) p_is (world_ok same equal members two (before ++ leading))

    long_is : log_length y ≡ log_length x
    long_is = ap (λ (z : NodeState B). log_length z) y_is

    stands_p : standing_of (node_at p.nodes n) ≡ standing_of y
    stands_p = λ i. standings_from (stands_at (bid.bids.base i)) (bid.bids.log i)

    long_p : log_length (node_at p.nodes n) ≡ log_length y
    long_p = (λ i. floor_in (bid.bids.base i) + length (bid.bids.log i))

    -- no floor is above the log
    own_le : floor_of own ≤ log_length y
    own_le = subst (λ a. floor_of own ≤ a) (sym long_is) own_floor

    seats_le : (s : Seat B) → Has seats s → floor_of s ≤ log_length y
    seats_le s h = subst (λ a. floor_of s ≤ a) (sym long_is) (floors s h)

    own_low : floor_in (node_at p.nodes n).rows.snapshot ≤ log_length y
    own_low = subst (λ o. floor_in o ≤ log_length y) (sym bid.bids.base) (within (floor_in y.rows.snapshot) (length y.applied))
      where
        within : (a c : ℕ) → a ≤ a + c
        within a c = omega arith

    seats_low : (s : Seat B) → Has seats s → floor_in (node_at p.nodes s.number).rows.snapshot ≤ log_length y
    seats_low s h = subst (λ o. floor_in o ≤ log_length y) (sym ((helper_is s h).given_is ∙ bases s h)) (seats_le s h)

    -- all that was proposed is carried to the helpers, and back
    pub one_pass : Passed same equal members two n member (suc seen) (node_at p.nodes n) seats (λ k. (node_at p.nodes k).rows.snapshot)
        (λ k. (node_at p.nodes k).rows.votes) vs [] p (play same members (pass n seats vs) p)
    one_pass =
        carries same equal members two n member low (suc seen) p ok x.rows.votes y role bid.bids seats apart others lows enough_too
        (log_length y) own_low seats_low ready

    -- it leads with a majority behind it, and its proposals follow its log
    ordered : Ordered (log_length y) role
    ordered =
        led_ordered same members (log_length y) y.pending ballot (log_length y) (floor_of own) own_le
        (λ s. votes_then first cast s) seats (asking own.number ballot first (floor_of own) (votes_then first cast own))
        seats_le (
          ap suc (sym long_is),
          λ c h. subst (λ (z : CountedPromise B). z.floor ≤ log_length y) (has_one h) own_le,
        )

    abbrev Promised : CountedPromise B → Type 0
    Promised c = IsPromise first cast own seats c

    own_under : floor_of own < first
    own_under = up_one (floor_of own) (log_length x) own_floor

    promised_under : (c : CountedPromise B) → Promised c → c.floor < first
    promised_under c (Own e) = subst (λ (d : CountedPromise B). d.floor < first) (sym e) own_under
    promised_under c (Seated s h e) =
        subst (λ (d : CountedPromise B). d.floor < first) (sym e) (unders s h)

    backed : Backed same members (log_length y) y.pending ballot first (floor_of own) own_under Promised promised_under role
    backed =
        ⊎_elim (λ b. b)
        (λ (a : Asks same members (log_length y) y.pending ballot first (floor_of own) own_under Promised promised_under role). absurd (off
        (sym (ap (λ r. is_leading r) a.role) ∙ leads)))
        (hears_all same members (log_length y) y.pending ballot first (floor_of own) own_under Promised promised_under
        (λ s. votes_then first cast s) seats
        (asking own.number ballot first (floor_of own) (votes_then first cast own)) (λ s h. Seated s h refl)
        (inr (record {
          cs = record { node = own.number; floor = floor_of own; votes = votes_then first cast own } ∷ [];
          role = refl;
          from = λ c h. Own (sym (has_one h));
        })))
      where
        off : false ≡ true → ⊥
        off e = cc

    -- who promised is the node or a helper
    abbrev crew : ℕ → Bool
    crew k = is_counted backed.cs k

    in_crew : (k : ℕ) → crew k ≡ true → (k ≡ n) ⊎ ((s : Seat B) × Has seats s × (s.number ≡ k))
    in_crew k t = let c = counted_is backed.cs k t in go c.0 (backed.from c.0 c.1) c.2
      where
        go : (c : CountedPromise B) → Promised c → c.node ≡ k → (k ≡ n) ⊎ ((s : Seat B) × Has seats s × (s.number ≡ k))
        go c (Own e) i = inl (sym i ∙ (ap (λ (d : CountedPromise B). d.node) e ∙ number))
        go c (Seated s h e) i = inr (s, h, sym (ap (λ (d : CountedPromise B). d.node) e) ∙ i)

    -- what is reported is before the slot that it proposes in next
    shape : (next : ℕ) × (table : List (Vote B)) × (role ≡ Leading ballot next table)
    shape = leading_is ballot first past most role leads bid.is_in

    abbrev table : List (Vote B)
    table = proposals_of role

    reach : (r : Role B) → r ≡ Leading ballot shape.0 shape.1 → Ordered (log_length y) r → IsPast
        (past_reports first (reports backed.cs)) r
        → AreAfter (log_length y) (proposals_of r)
        × (past_reports first (reports backed.cs) ≤ suc (log_length y + length (proposals_of r)))
    reach Idle e o i = absurd i
    reach (Preparing b f cs) e o i = absurd i
    reach (Leading b next ws) e o i = (o.1, subst (λ k. past_reports first (reports backed.cs) ≤ k) o.0 i)

    after_table : AreAfter (log_length y) table
    after_table = (reach role shape.2 ordered backed.past).0

    past_table : past_reports first (reports backed.cs) ≤ suc (log_length y + length table)
    past_table = (reach role shape.2 ordered backed.past).1

    vs_is : vs ≡ table
    vs_is = behind_whole (log_length y) (log_length y) table (omega arith) after_table

    -- votes that a promise reports
    reported : (c : CountedPromise B) → Has backed.cs c → (v : Vote B) → Has c.votes v → v.slot ≤ log_length y + length table
    reported c h v i = go v.slot (past_reports first (reports backed.cs))
        (past_has first (reports backed.cs) v (reports_has h i)) past_table
      where
        go : (s m : ℕ) → s < m → m ≤ suc (log_length y + length table) → s ≤ log_length y + length table
        go s m l k = omega arith

    -- votes in slots of the log, or reported
    held : (c : CountedPromise B) → Has backed.cs c → (ws : List (Vote B)) → c.votes ≡ votes_from first ws → (v : Vote B) → Has ws v
        → v.slot ≤ log_length y + length table
    held c h ws e v i =
        ⊎_elim (λ (l : v.slot < first). below v.slot (log_length x) (log_length y) long_is l)
        (λ (l : first ≤ v.slot). reported c h v (subst (λ l. Has l v) (sym e) (from_has first ws v i l)))
        (cases_lt v.slot first)
      where
        below : (s a c : ℕ) → c ≡ a → s < suc a → s ≤ c + length table
        below s a c e l = omega arith

    short : (k : ℕ) (v : Vote B) → crew k ≡ true → Has (node_at p.nodes k).rows.votes v → v.slot ≤ log_length y + length table
    short k v t h = let c = counted_is backed.cs k t in go c.0 c.1 (backed.from c.0 c.1) c.2
      where
        own_case : (c : CountedPromise B) → Has backed.cs c
            → c ≡ record { node = own.number; floor = floor_of own; votes = votes_then first cast own } → k ≡ n
            → v.slot ≤ log_length y + length table
        own_case c i e at_n =
            ⊎_elim (λ g. slots_within (log_length y) table v after_table g)
            (λ g. held c i x.rows.votes (ap (λ (d : CountedPromise B). d.votes) e ∙ sym own_votes) v g)
            (put_all_cases table x.rows.votes v (subst (λ l. Has l v) bid.bids.cast
            (subst (λ j. Has (node_at p.nodes j).rows.votes v) at_n h)))

        seat_case : (c : CountedPromise B) → Has backed.cs c → (s : Seat B) → Has seats s
            → c ≡ record { node = s.number; floor = floor_of s; votes = votes_then first cast s } → s.number ≡ k
            → v.slot ≤ log_length y + length table
        seat_case c i s g e at_s =
            held c i (now s).rows.votes (ap (λ (d : CountedPromise B). d.votes) e ∙ ap (λ l. votes_from first l) (sym (votes_are s g))) v
            (subst (λ l. Has l v) (helper_is s g).votes_are (subst (λ j. Has (node_at p.nodes j).rows.votes v) (sym at_s) h))

        go : (c : CountedPromise B) → Has backed.cs c → Promised c → c.node ≡ k → v.slot ≤ log_length y + length table
        go c i (Own e) j = own_case c i e (sym j ∙ (ap (λ (d : CountedPromise B). d.node) e ∙ number))
        go c i (Seated s g e) j = seat_case c i s g e (sym (ap (λ (d : CountedPromise B). d.node) e) ∙ j)

    -- so the pass ends with all that was proposed in the log, or with the loss of the node's boot among it
    pub ends : Ending same equal members three two n member (suc seen) (before ++ leading) (pass n seats vs) vs
        (node_at (play same members (pass n seats vs) (played same members (before ++ leading))).nodes n)
    ends =
        concludes same equal members three two n member (suc seen) (before ++ leading) (pass n seats vs) seats vs table x.rows.votes
        (log_length y)
        (at_p (λ w. Passed same equal members two n member (suc seen) (node_at w.nodes n) seats
        (λ k. (node_at w.nodes k).rows.snapshot) (λ k. (node_at w.nodes k).rows.votes) vs [] w
        (play same members (pass n seats vs) w)) one_pass)
        (at_p (λ w. AreAfter (log_length (node_at w.nodes n)) vs)
        (subst (λ l. AreAfter l vs) (sym long_p) (subst (λ l. AreAfter (log_length y) l) (sym vs_is) after_table)))
        after_table (λ v h. subst (λ l. Has l v) vs_is h) (at_p (λ w. (node_at w.nodes n).rows.votes ≡ put_votes table x.rows.votes)
        bid.bids.cast)
        (at_p (λ w. (node_at w.nodes n).rows.promised ≡ Some ballot) bid.bids.promised)
        (λ v h. bid.bids.mine v (subst (λ l. Has l v) vs_is h)) crew (ltb-true _ _ backed.most) in_crew
        (λ k v t h. subst (λ w. v.slot ≤ log_length (node_at w.nodes n) + length vs) (sym p_is)
        (subst (λ a. v.slot ≤ a + length vs) (sym long_p)
        (subst (λ l. v.slot ≤ log_length y + length l) (sym vs_is) (short k v t
        (subst (λ w. Has (node_at w.nodes k).rows.votes v) p_is h)))))
        (λ s h. at_p (λ w. floor_in (node_at w.nodes s.number).rows.snapshot ≤ log_length (node_at w.nodes n))
        (subst (λ a. floor_in (node_at p.nodes s.number).rows.snapshot ≤ a) (sym long_p) (seats_low s h)))
      where
        at_p : (P : World B → Type 0) → P p → P (played same members (before ++ leading))
        at_p P h = subst P (sym p_is) h

    abbrev q : World B
    q = play same members (pass n seats vs) p

    abbrev z : NodeState B
    z = node_at q.nodes n

    -- in what way, by the world after the promises
    abbrev EndsAt : World B → Type 0
    EndsAt w =
        Rides same equal members two n (node_at w.nodes n) (node_at (play same members (pass n seats vs) w).nodes n) (entries_of vs)
        ⊎ ((node_at (play same members (pass n seats vs) w).nodes n ≡ down (node_at w.nodes n).rows)
        × (has_end n (node_at w.nodes n).rows.boot (standing_of (node_at w.nodes n) n) (entries_of vs) ≡ true))

    ends_at : EndsAt p
    ends_at = subst (λ w. EndsAt w) p_is (go ends)
      where
        go : Ending same equal members three two n member (suc seen) (before ++ leading) (pass n seats vs) vs
            (node_at (play same members (pass n seats vs) (played same members (before ++ leading))).nodes n)
            → EndsAt (played same members (before ++ leading))
        go (Rode_on r) = inl r
        go (Went_down d h) = inr (d, h)

    abbrev b : Bids same members two n low ballot x.rows.votes y (node_at p.nodes n) p.sent role
    b = bid.bids

    rows_are : z.rows ≡ (node_at p.nodes n).rows
    rows_are = ⊎_elim (λ r. r.rows) (λ d. ap (λ (a : NodeState B). a.rows) d.0) ends_at

    abbrev had : Seat B → List (Vote B)
    had s = (now s).rows.votes

    helpers_then : (s : Seat B) → Has seats s
        → Ready same equal members two n member (suc seen) z s.number s.node.rows.snapshot (put_votes vs (had s)) (node_at q.nodes s.number)
    helpers_then s h =
        let r = one_pass.helpers s h in
        record {
          up = r.up;
          promised = r.promised;
          votes_are = r.votes_are ∙ ap (λ l. put_votes vs l) (helper_is s h).votes_are;
          given_is = r.given_is ∙ still;
          level = r.level ∙ ap (λ o. floor_in o) still;
          own = r.own;
          rests = r.rests;
        }
      where
        still : (node_at p.nodes s.number).rows.snapshot ≡ s.node.rows.snapshot
        still = (helper_is s h).given_is ∙ bases s h

    short_then : (j : ℕ) (v : Vote B) → crew j ≡ true → Has (node_at q.nodes j).rows.votes v → v.slot ≤ log_length y + length vs
    short_then j v t h =
        subst (λ l. v.slot ≤ log_length y + length l) (sym vs_is)
        (⊎_elim
        (λ (e : j ≡ n). short j v t
        (subst (λ i. Has (node_at p.nodes i).rows.votes v) (sym e)
        (subst (λ r. Has r.votes v) rows_are (subst (λ i. Has (node_at q.nodes i).rows.votes v) e h))))
        (λ s. helper s.0 s.1 s.2) (in_crew j t))
      where
        helper : (s : Seat B) → Has seats s → s.number ≡ j → v.slot ≤ log_length y + length table
        helper s i e =
            ⊎_elim (λ g. slots_within (log_length y) table v after_table (subst (λ l. Has l v) vs_is g))
            (λ g. short j v t (subst (λ k. Has (node_at p.nodes k).rows.votes v) e g))
            (put_all_cases vs (node_at p.nodes s.number).rows.votes v
            (subst (λ l. Has l v) (one_pass.helpers s i).votes_are (subst (λ k. Has (node_at q.nodes k).rows.votes v) (sym e) h)))

    -- what was called for was reported
    reported_is : (e : Entry B) → Has (called_for first (reports backed.cs)) e → WasReported (kept_of x) seats had e
    reported_is e h =
        called_good (λ f. WasReported (kept_of x) seats had f) (λ s. Unit {0}) same members n (inl refl) (reports backed.cs)
        (λ v g. let c = has_reports backed.cs v g in inr (v, of c.0 (backed.from c.0 c.1) v c.2, refl)) first
        (past_reports first (reports backed.cs) - first) e h
      where
        of : (c : CountedPromise B) → Promised c → (v : Vote B) → Has c.votes v → IsVoteOf (kept_of x) seats had v
        of c (Own i) v g =
            inl
            (has_from first x.rows.votes v
            (subst (λ l. Has l v) (sym own_votes) (subst (λ (d : CountedPromise B). Has d.votes v) i g)))
        of c (Seated s j i) v g =
            inr (
              s,
              j,
              has_from first (had s) v (subst (λ l. Has (votes_from first l) v) (sym (votes_are s j))
                  (subst (λ (d : CountedPromise B). Has d.votes v) i g)),
            )

    role_at : role ≡ Leading ballot shape.0 vs
    role_at = shape.2 ∙ (λ i. Leading ballot shape.0 (table_is i))
      where
        table_is : shape.1 ≡ vs
        table_is = ap (λ (r : Role B). proposals_of r) (sym shape.2) ∙ sym vs_is

    fate_is : RodeOn same equal members two n member (suc seen) seats (kept_of y) role vs z
        ⊎ WentDown same equal members two n member (suc seen) seats (kept_of y) vs z
    fate_is = ⊎_elim (λ r. inl (rode r)) (λ d. inr (fell d.0 d.1)) ends_at
      where
        rode : Rides same equal members two n (node_at p.nodes n) z (entries_of vs)
            → RodeOn same equal members two n member (suc seen) seats (kept_of y) role vs z
        rode r =
            record {
              up = r.up;
              level = r.level ∙ ap (λ o. floor_in o) b.base;
              role_is = r.role ∙ b.role;
              taken = r.taken ∙ b.taken;
              log = r.log ∙ ap (λ l. l ++ entries_of vs) b.log;
              pending = r.pending ∙ (λ i. pending_behind (stands_p i) (entries_of vs) (b.pending i));
              ends = (λ i. has_end n (sym b.boot i) (sym stands_p i n) (entries_of vs)) ∙ r.stands;
              eights = r.eights;
              heard = λ v h. r.heard (place_of v) n (b.heard v (subst (λ l. Has l v) vs_is h));
            }

        fell : z ≡ down (node_at p.nodes n).rows
            → has_end n (node_at p.nodes n).rows.boot (standing_of (node_at p.nodes n) n) (entries_of vs) ≡ true
            → WentDown same equal members two n member (suc seen) seats (kept_of y) vs z
        fell d h =
            record {
              down_is = d ∙ ap (λ r. down r) (sym rows_are);
              ends = (λ i. has_end n (sym b.boot i) (sym stands_p i n) (entries_of vs)) ∙ h;
            }

    abbrev DoneAs : NodeState B → Type 0
    DoneAs a =
        PassDone same equal members two n member (suc seen) seats (kept_of a) had most
        (led same members (log_length a) a.pending ballot first cast own seats)
        (behind (log_length a) (proposals_of (led same members (log_length a) a.pending ballot first cast own seats)))
        (play same members
        (pass n seats (behind (log_length a) (proposals_of (led same members
        (log_length a) a.pending ballot first cast own seats)))) p)

    votes_y : y.rows.votes ≡ x.rows.votes
    votes_y = ap (λ (a : NodeState B). a.rows.votes) y_is

    done_y : DoneAs y
    done_y =
        record {
          helpers = helpers_then;
          next = shape.0;
          role_is = role_at;
          next_is = at_next role role_at ordered;
          bound = (subst (λ r. IsIn ballot first past most r) shape.2 bid.is_in).1;
          after = subst (λ l. AreAfter (log_length y) l) (sym vs_is) after_table;
          called = called_for first (reports backed.cs);
          made = backed.made ∙ (λ i. propose_new same (log_length y) y.pending
              (propose_all (called_for first (reports backed.cs)) (Leading ballot (suc (sym long_is i)) [])));
          reported = λ e h. subst (λ l. WasReported (record {
            snapshot = x.rows.snapshot;
            log = x.applied;
            pending = x.pending;
            boot = x.rows.boot;
            taken = x.taken;
            votes = l;
          })
              seats had e) (sym votes_y) (reported_is e h);
          crew = crew;
          enough = ltb-true _ _ backed.most;
          in_crew = in_crew;
          short = short_then;
          boot = ap (λ r. r.boot) rows_are ∙ b.boot;
          base = ap (λ r. r.snapshot) rows_are ∙ b.base;
          promised = ap (λ r. r.promised) rows_are ∙ b.promised;
          votes = ap (λ r. r.votes) rows_are ∙ (b.cast ∙ (λ i. put_votes (sym vs_is i) (sym votes_y i)));
          mine = λ v h. b.mine v (subst (λ l. Has l v) vs_is h);
          out = λ v h j m d. all_stay same members (pass n seats vs) p (packet n (Accept v) j)
              (b.out v (subst (λ l. Has l v) vs_is h) j m d);
          fate = fate_is;
        }
      where
        at_next : (r : Role B) → r ≡ Leading ballot shape.0 vs → Ordered (log_length y) r → shape.0 ≡ suc (log_length y + length vs)
        at_next r e o = (subst (λ a. Ordered (log_length y) a) e o).0

    -- each other node that was up stays up
    abbrev StillAs : NodeState B → Type 0
    StillAs a =
        (j : ℕ) → (j ≡ n → ⊥) → (node_at u.nodes j).up ≡ true
        → (node_at (play same members
        (pass n seats (behind (log_length a) (proposals_of (led same members
        (log_length a) a.pending ballot first cast own seats)))) p).nodes
        j).up ≡ true

    still_seat : (s : Seat B) → Has seats s → (j : ℕ) → s.number ≡ j → (node_at q.nodes j).up ≡ true
    still_seat s i j e = subst (λ k. (node_at q.nodes k).up ≡ true) e (helpers_then s i).up

    unmoved : (j : ℕ) → (j ≡ n → ⊥) → ((s : Seat B) → Has seats s → j ≡ s.number → ⊥) → node_at q.nodes j ≡ node_at u.nodes j
    unmoved j d g =
        one_pass.others j d g
        ∙ ((bidding.bid same equal members two n member low u own number seats apart others now are ups rests up rest seen is_seen sees
        rounds cast past
        most from room slots mays votes_are own_votes bases unders base belows own_below level heard eights enough).others j d g
        ∙ (bidding.started same equal members two n member low u own number seats apart others now are ups rests up rest seen is_seen sees
        rounds cast
        past most).others j d)

    still_y : (j : ℕ) → (j ≡ n → ⊥) → (node_at u.nodes j).up ≡ true → (node_at q.nodes j).up ≡ true
    still_y j d h =
        ⊎_elim {C = (node_at q.nodes j).up ≡ true} (λ s. still_seat s.0 s.1 j s.2)
        (λ g. ap (λ (a : NodeState B). a.up) (unmoved j d g) ∙ h) (seat_or_not seats j)

    pub whole : DoneAs x × StillAs x
    whole = subst (λ a. DoneAs a × StillAs a) y_is (done_y, still_y)
