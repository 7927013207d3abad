-- A leader whose pass is done takes the act, and passes what is still pending and the act: then its log ends with the act's Item.
use Rattle.std.proofs.Common.{◌≡◌, ⊎_elim, ℕ, suc, ◌+◌, ◌<◌, ◌≤◌, Bool, true, false, eqb, refl, sym, ap, ◌∙◌, subst, arith}
use Rattle.std.proofs.Common.{List, [], ◌∷◌, ◌++◌, length, length-append, append_assoc, append-nil}
use Rattle.std.specs.Prelude.{nat_lt}
use Rattle.std.proofs.lemmas.Bool.{cond-true, and_from, lt-ltb, eq-eqb}
use Rattle.std.proofs.lemmas.List.Sums.{fold-append}
use Rattle.cluster_world.proofs.AtOnce.{AtRest, settle_rest}
use Rattle.cluster_world.proofs.Carrying.{carries}
use Rattle.cluster_world.proofs.Casting.{HeardFrom}
use Rattle.cluster_world.proofs.Chaining.{Chain, Finished, finishes}
use Rattle.cluster_world.proofs.Concluding.{Ending, Rode_on, Went_down, concludes, put_all_cases, slots_within}
use Rattle.cluster_world.proofs.EventsAtOnce.{all_rest}
use Rattle.cluster_world.proofs.EveryWorld.{WorldOk, world_ok, play_on, whole_is}
use Rattle.cluster_world.proofs.Filling.{length_map}
use Rattle.cluster_world.proofs.Heads.{HeadsOk, heads_ok, standing_on, stands_under}
use Rattle.cluster_world.proofs.Invariant.{VoteOf, LeadingOk, RoleOk, promises}
use Rattle.cluster_world.proofs.Leading.{Bids, LeadsBy, pushes}
use Rattle.cluster_world.proofs.Lists.{has_nil, has_left, has_filter}
use Rattle.cluster_world.proofs.Leaving.{Kept, long_of, RodeOn, PassDone}
use Rattle.cluster_world.proofs.Passing.{Ready, Passed, among, counted_by}
use Rattle.cluster_world.proofs.Playing.{Moved, moved, none_is, seat_or_not}
use Rattle.cluster_world.proofs.Slots.{AreAfter, Ordered, new_ordered, behind_rest}
use Rattle.cluster_world.specs.Has.{Has}
use Rattle.paxos_packets.specs.Body.{IsEquality}
use Rattle.paxos_packets.specs.Members.{IsMember, is_majority}
use Rattle.paxos_packets.specs.Snapshot.{floor_in}
use Rattle.paxos_packets.specs.Vote.{put_vote, put_votes}
use Rattle.paxos_packets.specs.declared.ballot.Ballot.{Ballot}
use Rattle.paxos_packets.specs.declared.entry.Entry.{Entry}
use Rattle.paxos_packets.specs.declared.entry.Entry.TheVariants.{Item}
use Rattle.paxos_packets.specs.declared.vote.Vote.{Vote}
use Rattle.paxos_learner.specs.declared.tallies.SlotBallot.{SlotBallot}
use Rattle.paxos_learner.specs.Learner.{run_from}
use Rattle.paxos_proposer.specs.Proposals.{behind}
use Rattle.paxos_proposer.specs.Proposer.{slot_end, next_vote}
use Rattle.paxos_proposer.specs.Proposing.{proposals_of}
use Rattle.paxos_proposer.specs.Role.{Role, Leading}
use Rattle.paxos_node.specs.Applying.{standing_of, stands_at, settle, has_end}
use Rattle.paxos_node.specs.Events.{takes, with_item, last_number, most_pending, possible, outcome_of}
use Rattle.paxos_node.specs.declared.event.Event.{Event}
use Rattle.paxos_node.specs.declared.event.Event.TheVariants.{Take}
use Rattle.paxos_planning.specs.Node.{NodeState, Plan, log_length}
use Rattle.paxos_planning.specs.Plan.{begun}
use Rattle.paxos_planning.specs.Proposals.{push}
use Rattle.replica_machine.proofs.Places.{effective_is}
use Rattle.replica_machine.specs.Effects.{is_effective}
use Rattle.replica_machine.specs.declared.roll.Standing.TheVariants.{Unknown, Live}
use Rattle.replica_machine.specs.Roll.{standing, standing_from, is_next}
use Rattle.cluster_world.specs.World.{World, node_at, first_world, next, play, played, under, log_of}
use Rattle.cluster_world.specs.Rescue.{Apart, EndsWithAct}
use Rattle.world_rescue.specs.Course.{Seat, floor_of, pass, entries_of, propose_new}

-- the last Item takes effect after a log by which its node stands right before it
pub last_effective : {B : Type 0} (n b taken t : ℕ) (x : B) (log : List (Entry B)) → standing n log ≡ Live b taken
    → is_effective log (Item n b (suc taken) t x) ≡ true
last_effective n b taken t x log is =
    effective_is log (Item n b (suc taken) t x)
    ∙ (ap (λ s. is_next s b (suc taken)) is
    ∙ and_from (eqb b b) (eqb (suc taken) (taken + 1)) (eq-eqb b b refl) (eq-eqb (suc taken) (taken + 1) (plus_one taken)))
  where
    plus_one : (k : ℕ) → suc k ≡ k + 1
    plus_one k = omega arith

module _ {B : Type 0} (same : B → B → Bool) (equal : IsEquality same) (members : ℕ) (three : 3 ≤ members) (few : members ≤ 7)
    (two : 2 ≤ members) (n : ℕ) (member : IsMember members n) (low : n < 8) (before : List (Event B)) (round : ℕ) (seats : List (Seat B))
    (apart : Apart n seats)
    (others : (s : Seat B) → Has seats s → IsMember members s.number) (lows : (s : Seat B) → Has seats s → s.number < 8)
    (enough : is_majority members (among (n ∷ counted_by seats)) ≡ true) (k : Kept B) (had : Seat B → List (Vote B)) (most : ℕ)
    (fits : most + most_pending ≤ slot_end) (role : Role B) (vs : List (Vote B))
    (d : PassDone same equal members two n member round seats k had most role vs (played same members before))
    (ride : RodeOn same equal members two n member round seats k role vs (node_at (played same members before).nodes n))
    (level : (s : Seat B) → Has seats s → floor_of s ≤ long_of k) (transport : ℕ) (body : B)
    (positive : 1 ≤ transport) (left : (node_at (played same members before).nodes n).taken < last_number)
    (room : length (node_at (played same members before).nodes n).pending < most_pending) where
  abbrev q : World B
  q = played same members before

  abbrev pub z : NodeState B
  z = node_at q.nodes n

  abbrev ballot : Ballot
  ballot = record { round = round; node = n }

  abbrev pub item : Entry B
  item = Item n z.rows.boot (suc z.taken) transport body

  abbrev y : NodeState B
  y = with_item n transport body z

  abbrev act : Event B
  act = Take n transport body

  role_z : z.proposer.role ≡ Leading ballot d.next vs
  role_z = ride.role_is ∙ d.role_is

  -- nobody has voted in a slot in which it proposes next
  own_fresh : HeardFrom ballot d.next n z.learner
  own_fresh = record { only = λ t h j e b g. absurd (none t.0.slot (slot_below ((ok.inv.nodes n).heard t h j e) b) g) }
    where
      ok : WorldOk members q
      ok = world_ok same equal members two before

      leading : LeadingOk z.rows.promised (floor_in z.rows.snapshot) q.sent n ballot d.next vs
      leading = subst (λ r. RoleOk (promises (node_at q.nodes)) z.rows.promised (floor_in z.rows.snapshot) q.sent n r) role_z (ok.inv.nodes n).role

      slot_below : {p : SlotBallot} {j : ℕ} → VoteOf q.sent p j → p.ballot ≡ ballot
          → p.slot < d.next
      slot_below {p} {j} v b =
          leading.made (record { slot = p.slot; ballot = p.ballot; entry = v.entry })
          (ok.inv.packets.voted j (record { slot = p.slot; ballot = p.ballot; entry = v.entry }) v.is) b

      none : (s : ℕ) → s < d.next → d.next ≤ s → ⊥
      none s l g = omega arith

  abbrev t : Plan B
  t = record (begun z) { node = y }

  start : Bids same members two n low ballot k.votes y t.node (q.sent ++ t.packets) (Leading ballot d.next vs)
  start =
      record {
        up = ride.up;
        boot = refl;
        base = refl;
        promised = d.promised;
        cast = d.votes;
        role = role_z;
        level = ride.level ∙ ap (λ o. floor_in o) (sym d.base);
        above = subst (λ o. floor_in o < d.next) (sym d.base) (one (floor_in k.snapshot) (length k.log) (length vs) d.next d.next_is);
        learned = refl;
        log = refl;
        pending = refl;
        taken = refl;
        own = own_fresh;
        eights = ride.eights;
        heard = ride.heard;
        mine = d.mine;
        out = λ v h j m e. has_left [] (d.out v h j m e);
      }
    where
      one : (f a c next : ℕ) → next ≡ suc ((f + a) + c) → f < next
      one f a c next e = omega arith

  abbrev pub role2 : Role B
  role2 = propose_new same (log_length z) (z.pending ++ item ∷ []) (Leading ballot d.next vs)

  abbrev pushed : Plan B
  pushed = push same members n t

  goes : Bids same members two n low ballot k.votes y pushed.node (q.sent ++ pushed.packets) role2 × LeadsBy ballot
      (most + most_pending) role2
  goes =
      pushes same members two n low ballot k.votes y q.sent d.next (most + most_pending) vs t start
      (slots (length z.pending) (length (z.pending ++ item ∷ [])) (length-append z.pending (item ∷ [])) room) fits
    where
      slots : (a c : ℕ) → c ≡ a + 1 → a < most_pending → d.next + c ≤ most + most_pending
      slots a c e l = go a d.next most most_pending c e l d.bound
        where
          go : (a nx m p c : ℕ) → c ≡ a + 1 → a < p → nx ≤ m → nx + c ≤ m + p
          go a nx m p c e l g = omega arith

  takes_is : takes z ≡ true
  takes_is = and_from _ _ (lt-ltb (length z.pending) most_pending room) (lt-ltb z.taken last_number left)

  abbrev v : World B
  v = next same members q act

  m : Moved same members q v act
  m = moved same members q act refl

  may : possible act z ≡ true
  may = and_from z.up (nat_lt 0 transport) ride.up (lt-ltb 0 transport positive)

  outcome_is : outcome_of same members act z ≡ pushed
  outcome_is =
      ap (λ (o : Plan B). settle n o) (cond-true (takes z) pushed (begun z) takes_is)
      ∙ settle_rest n pushed ((λ i. run_from (suc (floor_in (goes.0.base i) + length (goes.0.log i))) (goes.0.learned i)) ∙ all_rest same members before n)

  at_v : node_at v.nodes n ≡ pushed.node
  at_v =
      m.mine
      ∙ (cond-true (possible act z) (outcome_of same members act z).node z may ∙ ap (λ (o : Plan B). o.node) outcome_is)

  bids_v : Bids same members two n low ballot k.votes y (node_at v.nodes n) v.sent role2
  bids_v =
      subst (λ x. Bids same members two n low ballot k.votes y x v.sent role2) (sym at_v)
      (subst (λ l. Bids same members two n low ballot k.votes y pushed.node l role2)
      (sym (m.sends may ∙ ap (λ (o : Plan B). q.sent ++ o.packets) outcome_is)) goes.0)

  -- the world after the event

  abbrev pub taken_events : List (Event B)
  taken_events = before ++ act ∷ []

  abbrev pub p : World B
  p = played same members taken_events

  p_is : p ≡ v
  p_is = play_on same members before (act ∷ []) (first_world members)

  abbrev x2 : NodeState B
  x2 = node_at p.nodes n

  bids : Bids same members two n low ballot k.votes y x2 p.sent role2
  bids = subst (λ (w : World B). Bids same members two n low ballot k.votes y (node_at w.nodes n) w.sent role2) (sym p_is) bids_v

  helper_is : (s : Seat B) → Has seats s → node_at p.nodes s.number ≡ node_at q.nodes s.number
  helper_is s h = ap (λ (w : World B). node_at w.nodes s.number) p_is ∙ m.others s.number (none_is n seats apart s h)

  given_at : (s : Seat B) → Has seats s → (node_at p.nodes s.number).rows.snapshot ≡ s.node.rows.snapshot
  given_at s h = ap (λ (x : NodeState B). x.rows.snapshot) (helper_is s h) ∙ (d.helpers s h).given_is

  ready : (s : Seat B) → Has seats s
      → Ready same equal members two n member round x2 s.number (node_at p.nodes s.number).rows.snapshot
      (node_at p.nodes s.number).rows.votes (node_at p.nodes s.number)
  ready s h =
      let r = d.helpers s h in
      let e = helper_is s h in
      record {
        up = ap (λ (x : NodeState B). x.up) e ∙ r.up;
        promised = ap (λ (x : NodeState B). x.rows.promised) e ∙ r.promised;
        votes_are = refl;
        given_is = refl;
        level = ap (λ (x : NodeState B). x.learner.floor) e ∙ (r.level ∙ ap (λ o. floor_in o) (sym (given_at s h)));
        own = subst (λ (x : NodeState B). HeardFrom ballot 0 s.number x.learner) (sym e) r.own;
        rests = subst (λ x. AtRest x) (sym e) r.rests;
      }

  abbrev pub vs2 : List (Vote B)
  vs2 = behind (log_length z) (proposals_of role2)

  long_x : log_length x2 ≡ log_length z
  long_x = λ i. floor_in (bids.base i) + length (bids.log i)

  z_length : log_length z ≡ long_of k + length vs
  z_length =
      (λ i. floor_in (d.base i) + length (ride.log i))
      ∙ (ap (λ c. floor_in k.snapshot + c)
      (length-append k.log (entries_of vs) ∙ ap (λ c. length k.log + c) (length_map (λ (u : Vote B). u.entry) vs))
      ∙ regroup (floor_in k.snapshot) (length k.log) (length vs))
    where
      regroup : (a b c : ℕ) → a + (b + c) ≡ (a + b) + c
      regroup a b c = omega arith

  -- no floor is above its log
  own_low : floor_in x2.rows.snapshot ≤ log_length z
  own_low = subst (λ o. floor_in o ≤ log_length z) (sym bids.base) (within (floor_in z.rows.snapshot) (length z.applied))
    where
      within : (a c : ℕ) → a ≤ a + c
      within a c = omega arith

  seats_low : (s : Seat B) → Has seats s → floor_in (node_at p.nodes s.number).rows.snapshot ≤ log_length z
  seats_low s h =
      subst (λ o. floor_in o ≤ log_length z) (sym (given_at s h))
      (subst (λ a. floor_of s ≤ a) (sym z_length) (further (floor_of s) (long_of k) (length vs) (level s h)))
    where
      further : (a b c : ℕ) → a ≤ b → a ≤ b + c
      further a b c l = omega arith

  passed : Passed same equal members two n member round x2 seats (λ j. (node_at p.nodes j).rows.snapshot)
      (λ j. (node_at p.nodes j).rows.votes) vs2 [] p (play same members (pass n seats vs2) p)
  passed =
      carries same equal members two n member low round p (world_ok same equal members two taken_events) k.votes y role2 bids seats apart
      others lows
      enough (log_length z) own_low seats_low ready

  -- each other node that was up stays up
  still_seat : (s : Seat B) → Has seats s → (j : ℕ) → s.number ≡ j → (node_at (play same members (pass n seats vs2) p).nodes j).up ≡ true
  still_seat s i j e = subst (λ a. (node_at (play same members (pass n seats vs2) p).nodes a).up ≡ true) e (passed.helpers s i).up

  still : (j : ℕ) → (j ≡ n → ⊥) → (node_at q.nodes j).up ≡ true → (node_at (play same members (pass n seats vs2) p).nodes j).up ≡ true
  still j e h =
      ⊎_elim {C = (node_at (play same members (pass n seats vs2) p).nodes j).up ≡ true} (λ s. still_seat s.0 s.1 j s.2)
      (λ g. ap (λ (x : NodeState B). x.up)
      (passed.others j e g ∙ (ap (λ (w : World B). node_at w.nodes j) p_is ∙ m.others j e)) ∙ h)
      (seat_or_not seats j)

  -- what is proposed: what is pending, in order, and the act

  old : (u : Vote B) → Has vs u → u.slot ≤ log_length z
  old u h = subst (λ c. u.slot ≤ c) (sym z_length) (slots_within (long_of k) vs u d.after h)

  module _ (chain : Chain n z.rows.boot z.taken (standing_of z n) z.pending) where
    abbrev Ended : Role B → Type 0
    Ended r = Finished same equal (log_length z) n z.rows.boot z.taken ballot vs old (standing_of z n) transport body r

    f : Ended role2
    f =
        subst (λ l. Ended (propose_new same (log_length z) (z.pending ++ item ∷ []) (Leading ballot d.next l))) (append-nil vs)
        (finishes same equal (log_length z) n z.rows.boot z.taken ballot vs old (standing_of z n) transport body z.pending
        (standing_of z n) d.next [] chain
        (record {
          stands_is = refl;
          settles = record { boots = λ h. absurd (has_nil h); items = λ a b c h. absurd (has_nil h) };
          ends = refl;
        }))

    abbrev new : List (Vote B)
    new = f.ws ++ next_vote ballot f.slot item ∷ []

    after_all : AreAfter (long_of k) (vs ++ new)
    after_all =
        (subst (λ r. Ordered (long_of k) r) f.is
        (new_ordered same (log_length z) (long_of k) (z.pending ++ item ∷ []) (Leading ballot d.next vs) (d.next_is, d.after))).1

    rest_is : (behind (log_length z) (vs ++ new) ≡ new) × AreAfter (log_length z) new
    rest_is =
        subst (λ c. (behind c (vs ++ new) ≡ new) × AreAfter c new) (sym z_length) (behind_rest (long_of k) vs new after_all)

    vs2_is : vs2 ≡ new
    vs2_is = ap (λ (r : Role B). behind (log_length z) (proposals_of r)) f.is ∙ rest_is.0

    table_is : proposals_of role2 ≡ vs ++ new
    table_is = ap (λ (r : Role B). proposals_of r) f.is

    votes_is : x2.rows.votes ≡ put_votes new z.rows.votes
    votes_is =
        bids.cast
        ∙ (ap (λ l. put_votes l k.votes) table_is ∙ (fold-append (λ us u. put_vote u us) k.votes vs new ∙ ap (λ l. put_votes new l)
        (sym d.votes)))

    short : (j : ℕ) (u : Vote B) → d.crew j ≡ true → Has (node_at p.nodes j).rows.votes u → u.slot ≤ log_length x2 + length vs2
    short j u c h =
        subst (λ a. u.slot ≤ a + length vs2) (sym long_x)
        (subst (λ l. u.slot ≤ log_length z + length l) (sym vs2_is)
        (⊎_elim (λ (e : j ≡ n). mine (subst (λ i. Has (node_at p.nodes i).rows.votes u) e h) e) (λ s. helper s.0 s.1 s.2) (d.in_crew j c)))
      where
        further : (a : ℕ) → a ≤ long_of k + length vs → a ≤ log_length z + length new
        further a l = go a (long_of k + length vs) (log_length z) (length new) z_length l
          where
            go : (a b c e : ℕ) → c ≡ b → a ≤ b → a ≤ c + e
            go a b c e i l = omega arith

        mine : Has x2.rows.votes u → j ≡ n → u.slot ≤ log_length z + length new
        mine g e =
            ⊎_elim (λ i. slots_within (log_length z) new u rest_is.1 i)
            (λ i. further u.slot (d.short j u c (subst (λ i. Has (node_at q.nodes i).rows.votes u) (sym e) i)))
            (put_all_cases new z.rows.votes u (subst (λ l. Has l u) votes_is g))

        helper : (s : Seat B) → Has seats s → s.number ≡ j → u.slot ≤ log_length z + length new
        helper s i e =
            further u.slot
            (d.short j u c
            (subst (λ a. Has (node_at q.nodes a).rows.votes u) e
            (subst (λ (x : NodeState B). Has x.rows.votes u) (helper_is s i)
            (subst (λ a. Has (node_at p.nodes a).rows.votes u) (sym e) h))))

    ending : Ending same equal members three two n member round taken_events (pass n seats vs2) vs2
        (node_at (play same members (pass n seats vs2) p).nodes n)
    ending =
        concludes same equal members three two n member round taken_events (pass n seats vs2) seats vs2 (proposals_of role2) k.votes
        (long_of k)
        passed
        (subst (λ a. AreAfter a vs2) (sym long_x)
        (subst (λ l. AreAfter (log_length z) l) (sym vs2_is) rest_is.1))
        (subst (λ l. AreAfter (long_of k) l) (sym table_is) after_all)
        (λ u h. has_filter (λ (w : Vote B). nat_lt (log_length z) w.slot) (proposals_of role2) h) bids.cast bids.promised
        (λ u h. bids.mine u (has_filter (λ (w : Vote B). nat_lt (log_length z) w.slot) (proposals_of role2) h)) d.crew d.enough
        d.in_crew short
        (λ s h. subst (λ a. floor_in (node_at p.nodes s.number).rows.snapshot ≤ a) (sym long_x) (seats_low s h))

    abbrev final : World B
    final = play same members (pass n seats vs2) p

    no_end_is : has_end n x2.rows.boot (standing_of x2 n) (entries_of vs2) ≡ false
    no_end_is = (λ i. has_end n (bids.boot i) (standing_from n (stands_at (bids.base i) n) (bids.log i)) (entries_of (vs2_is i))) ∙ f.ends

    ends_with : EndsWithAct final n transport body
    ends_with = go ending
      where
        off : false ≡ true → ⊥
        off e = cc

        go : Ending same equal members three two n member round taken_events (pass n seats vs2) vs2 (node_at final.nodes n)
            → EndsWithAct final n transport body
        go (Went_down e h) = absurd (off (sym no_end_is ∙ h))
        go (Rode_on r) =
            record {
              before = below ++ (z.applied ++ entries_of f.ws);
              item = suc z.taken;
              is = log_is ∙ ap (λ b. (below ++ (z.applied ++ entries_of f.ws)) ++ Item n b (suc z.taken) transport body ∷ []) (sym boot_is);
              takes_effect =
                  ap (λ b. is_effective (below ++ (z.applied ++ entries_of f.ws)) (Item n b (suc z.taken) transport body)) boot_is
                  ∙ last_effective n z.rows.boot z.taken transport body (below ++ (z.applied ++ entries_of f.ws)) stood;
            }
          where
            boot_is : (node_at final.nodes n).rows.boot ≡ z.rows.boot
            boot_is = ap (λ w. w.boot) r.rows ∙ bids.boot

            -- up to the floor the log is what the snapshot stands for, and there the nodes stand as its head tells
            below : List (Entry B)
            below = under final.cuts (node_at final.nodes n).rows.snapshot

            base_is : (node_at final.nodes n).rows.snapshot ≡ z.rows.snapshot
            base_is = ap (λ w. w.snapshot) r.rows ∙ bids.base

            heads : HeadsOk final
            heads =
                subst (λ (w : World B). HeadsOk w) (play_on same members taken_events (pass n seats vs2) (first_world members))
                (heads_ok same equal members few (taken_events ++ pass n seats vs2))

            stood : standing n (below ++ (z.applied ++ entries_of f.ws)) ≡ Live z.rows.boot z.taken
            stood =
                standing_on n Unknown below (z.applied ++ entries_of f.ws)
                ∙ (ap (λ s. standing_from n s (z.applied ++ entries_of f.ws))
                (sym (stands_under final heads (node_at final.nodes n).rows.snapshot (passed.knows.ok.cuts.found.nodes n) n))
                ∙ (standing_on n (stands_at (node_at final.nodes n).rows.snapshot n) z.applied (entries_of f.ws)
                ∙ ((λ i. standing_from n (standing_from n (stands_at (base_is i) n) z.applied) (entries_of f.ws)) ∙ f.stands_is)))

            log_is : log_of final n ≡ (below ++ (z.applied ++ entries_of f.ws)) ++ item ∷ []
            log_is =
                whole_is final.cuts (node_at final.nodes n) r.up
                ∙ (ap (λ l. below ++ l)
                (r.log
                ∙ ((λ i. bids.log i ++ entries_of (vs2_is i))
                ∙ (ap (λ l. z.applied ++ l) f.entries ∙ sym (append_assoc z.applied (entries_of f.ws) (item ∷ [])))))
                ∙ sym (append_assoc below (z.applied ++ entries_of f.ws) (item ∷ [])))

    pub leads_on : EndsWithAct final n transport body
        × ((j : ℕ) → (j ≡ n → ⊥) → (node_at q.nodes j).up ≡ true → (node_at final.nodes j).up ≡ true)
    leads_on = (ends_with, still)
