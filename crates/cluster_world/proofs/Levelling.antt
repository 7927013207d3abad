-- A rescue makes its node level first: after these events the node is up, no floor is above its log, and every other node is as it was.
use Rattle.std.proofs.Common.{◌≡◌, ◌⊎◌, inl, inr, ⊎_elim, ℕ, suc, ◌+◌, ◌<◌, ◌≤◌, Bool, true, false, ◌||◌, refl, sym, ap, ◌∙◌, subst, arith}
use Rattle.std.proofs.Common.{List, [], ◌∷◌, ◌++◌, length, append-nil, Option, Some, None}
use Rattle.std.specs.Prelude.{max, fold, nat_lt, nat_le, if◌then◌else◌}
use Rattle.std.proofs.lemmas.Bool.{cond-true, cond_both, lt-ltb, ltb-true, ltb-false, true≢false}
use Rattle.cluster_world.proofs.AcceptorTests.{has_from}
use Rattle.cluster_world.proofs.AtOnce.{AtRest}
use Rattle.cluster_world.proofs.Cuts.{IsCut, RestsOnCut}
use Rattle.cluster_world.proofs.EventsAtOnce.{all_rest}
use Rattle.cluster_world.proofs.EveryWorld.{CutsOk, world_ok, play_on}
use Rattle.cluster_world.proofs.Fetching.{Fetched, fetches, refuses, rides, falls, back, begun_over}
use Rattle.cluster_world.proofs.Heads.{told_boots}
use Rattle.cluster_world.proofs.Lists.{has_nil, has_cons}
use Rattle.cluster_world.proofs.Opening.{Started, started_in}
use Rattle.cluster_world.proofs.Playing.{stepped, Moved, moved, reached, none_is}
use Rattle.cluster_world.proofs.Reached.{is_member_up, sees_promise}
use Rattle.cluster_world.proofs.Restarts.{anew_by}
use Rattle.cluster_world.specs.Has.{Has, here, there}
use Rattle.cluster_world.specs.Rescue.{Apart, round_held}
use Rattle.cluster_world.specs.World.{World, node_at, first_world, next, play, played}
use Rattle.paxos_packets.specs.Body.{IsEquality}
use Rattle.paxos_packets.specs.Members.{IsMember}
use Rattle.paxos_packets.specs.Rows.{last_boot, raised}
use Rattle.paxos_packets.specs.Snapshot as taken
use Rattle.paxos_packets.specs.Snapshot.{floor_in}
use Rattle.paxos_packets.specs.Vote.{votes_from}
use Rattle.paxos_packets.specs.declared.ballot.Ballot.{Ballot}
use Rattle.paxos_packets.specs.declared.vote.Vote.{Vote}
use Rattle.paxos_proposer.specs.Proposer.{round_of, round_end, new_ballot, own_ballot}
use Rattle.paxos_node.specs.Applying.{stands_by, stands_at, down, started}
use Rattle.paxos_node.specs.Events.{possible, outcome_of}
use Rattle.paxos_node.specs.Snapshots.{boot_in, has_boot}
use Rattle.paxos_node.specs.declared.event.Event.{Event}
use Rattle.paxos_node.specs.declared.event.Event.TheVariants.{Start, Deliver, Crash, Restart}
use Rattle.paxos_planning.specs.Node.{NodeState, log_length}
use Rattle.replica_machine.specs.Snapshot.{head_at}
use Rattle.replica_machine.specs.declared.head.Head.{Head}
use Rattle.world_rescue.specs.Reaching.{Source, floor_or, higher_by, higher, highest, fetch, preparing, goes_over, begins_over}
use Rattle.world_rescue.specs.Reaching.{holds_boot, falls_after, node_over, turn_over, reach_by, reached_by}
use Rattle.world_rescue.specs.Seats.{Seat, floor_of}

at_least : (a : ℕ) → a ≤ a
at_least a = omega arith

le : {a b c : ℕ} → a ≤ b → b ≤ c → a ≤ c
le p q = omega arith

further : (a b c : ℕ) → a ≤ b → b < c → a < c
further a b c l m = omega arith

-- ---- the snapshot that the node asks for

-- what was found among these seats after `found`: no floor is above it, and it is the one that was found before, or a seat's
pub record Best {B : Type 0} (floor : ℕ) (found : Option Source) (seats : List (Seat B)) (best : Option Source) : Type 0 where
  pub before : floor_or floor found ≤ floor_or floor best
  pub each : (s : Seat B) → Has seats s → floor_of s ≤ floor_or floor best
  pub from : (best ≡ found)
      ⊎ ((t : Source) × (best ≡ Some t) × (floor < t.snapshot.floor)
      × ((s : Seat B) × Has seats s × (s.number ≡ t.number) × (s.node.rows.snapshot ≡ Some t.snapshot)))

module _ {B : Type 0} (floor : ℕ) where
  -- one more seat
  record Better (found : Option Source) (s : Seat B) (best : Option Source) : Type 0 where
    pub before : floor_or floor found ≤ floor_or floor best
    pub own : floor_of s ≤ floor_or floor best
    pub from : (best ≡ found)
        ⊎ ((t : Source) × (best ≡ Some t) × (floor_or floor found < t.snapshot.floor) × (s.number ≡ t.number)
        × (s.node.rows.snapshot ≡ Some t.snapshot))

  better : (found : Option Source) (s : Seat B) → Better found s (higher floor found s)
  better found s = go s.node.rows.snapshot refl
    where
      go : (o : Option taken.Snapshot) → s.node.rows.snapshot ≡ o → Better found s (higher_by floor found s.number o)
      go None e =
          record {
            before = at_least (floor_or floor found);
            own = subst (λ o. floor_in o ≤ floor_or floor found) (sym e) (none (floor_or floor found));
            from = inl refl;
          }
        where
          none : (a : ℕ) → 0 ≤ a
          none a = omega arith
      go (Some z) e =
          cond_both (nat_lt (floor_or floor found) z.floor) (Some (record { number = s.number; snapshot = z })) found
          (λ best. Better found s best)
          (λ h. record {
            before = less (floor_or floor found) z.floor (ltb-true (floor_or floor found) z.floor h);
            own = subst (λ o. floor_in o ≤ z.floor) (sym e) (at_least z.floor);
            from = inr (record { number = s.number; snapshot = z }, refl, ltb-true (floor_or floor found) z.floor h, refl, e);
          })
          (λ h. record {
            before = at_least (floor_or floor found);
            own = subst (λ o. floor_in o ≤ floor_or floor found) (sym e) (ltb-false (floor_or floor found) z.floor h);
            from = inl refl;
          })
        where
          less : (a b : ℕ) → a < b → a ≤ b
          less a b l = omega arith

  joined : (found : Option Source) (s : Seat B) (seats : List (Seat B)) (best : Option Source) → floor ≤ floor_or floor found
      → Better found s (higher floor found s) → Best floor (higher floor found s) seats best → Best floor found (s ∷ seats) best
  joined found s seats best l one rest =
      record {
        before = le one.before rest.before;
        each = λ r h. ⊎_elim (λ (e : s ≡ r). subst (λ z. floor_of z ≤ floor_or floor best) e (le one.own rest.before))
            (λ i. rest.each r i) (has_cons h);
        from = ⊎_elim
            (λ (e : best ≡ higher floor found s). ⊎_elim (λ (f : higher floor found s ≡ found). inl (e ∙ f))
            (λ t. inr (t.0, e ∙ t.1, further floor (floor_or floor found) t.0.snapshot.floor l t.2, (s, here, t.3, t.4))) one.from)
            (λ t. inr (t.0, t.1, t.2, (t.3.0, there t.3.1, t.3.2, t.3.3))) rest.from;
      }

  best_of : (seats : List (Seat B)) (found : Option Source) → floor ≤ floor_or floor found
      → Best floor found seats (fold (higher floor) found seats)
  best_of [] found l = record { before = at_least (floor_or floor found); each = λ s h. absurd (has_nil h); from = inl refl }
  best_of (s ∷ seats) found l =
      joined found s seats (fold (higher floor) (higher floor found s) seats) l (better found s)
      (best_of seats (higher floor found s) (le l (better found s).before))

  -- the greatest floor above this one
  pub highest_is : (seats : List (Seat B)) → Best floor None seats (highest floor seats)
  highest_is seats = best_of seats None (at_least floor)

module _ {B : Type 0} (same : B → B → Bool) (equal : IsEquality same) (members : ℕ) (three : 3 ≤ members) (few : members ≤ 7)
    (events : List (Event B))
    (n : ℕ) (up : (node_at (played same members events).nodes n).up ≡ true) (seats : List (Seat B)) (apart : Apart n seats)
    (are : (s : Seat B) → Has seats s → node_at (played same members events).nodes s.number ≡ s.node)
    (ups : (s : Seat B) → Has seats s → s.node.up ≡ true)
    (rounds : suc (node_at (played same members events).nodes n).proposer.seen < round_end)
  where
    abbrev pub w : World B
    w = played same members events

    abbrev pub x : NodeState B
    x = node_at w.nodes n

    two : 2 ≤ members
    two = omega arith

    cuts_ok : CutsOk members w
    cuts_ok = (world_ok same equal members two events).cuts

    member : IsMember members n
    member = is_member_up same members events n up

    rest : AtRest x
    rest = all_rest same members events n

    -- it begins a ballot
    abbrev b : Ballot
    b = own_ballot n x.proposer

    abbrev z : NodeState B
    z = preparing n x

    new_is : new_ballot n x.rows.promised x.proposer ≡ b
    new_is = λ i. record { round = suc (greatest i); node = n }
      where
        greatest : max x.proposer.seen (round_of x.rows.promised) ≡ x.proposer.seen
        greatest = go x.proposer.seen (round_of x.rows.promised) (sees_promise same members events n up)
          where
            go : (a c : ℕ) → c ≤ a → max a c ≡ a
            go a c l = omega arith

    abbrev ws : World B
    ws = next same members w (Start n)

    begins : Started same equal members n member w ws b
    begins = started_in same equal members n member w b up rest new_is rounds

    -- what the node holds then; and if it begins a boot, it has just begun it, and its snapshot does not tell of that boot
    pub record Holds (anew : Bool) (y : NodeState B) : Type 0 where
      pub held : round_held y ≤ suc x.proposer.seen
      pub votes : (v : Vote B) → Has y.rows.votes v → Has x.rows.votes v
      pub floor : (floor_in y.rows.snapshot ≡ floor_in x.rows.snapshot)
          ⊎ ((s : Seat B) × Has seats s × (floor_in y.rows.snapshot ≡ floor_of s))
      pub taken : y.taken ≤ x.taken
      pub boot : anew ≡ false → y.rows.boot ≡ x.rows.boot
      pub begun : anew ≡ true → y ≡ started n y.rows
      pub next : anew ≡ true → y.rows.boot ≡ suc x.rows.boot
      pub told : anew ≡ true → boot_in (stands_at y.rows.snapshot n) ≤ x.rows.boot

    -- what the world and the node are then
    pub record Levelled (o : Option Source) (v : World B) : Type 0 where
      pub own : node_at v.nodes n ≡ reached_by n x o
      pub others : (k : ℕ) → (k ≡ n → ⊥) → node_at v.nodes k ≡ node_at w.nodes k
      pub up_is : (reached_by n x o).up ≡ true
      pub level : (s : Seat B) → Has seats s → floor_of s ≤ log_length (reached_by n x o)

    module _ (t : Source) (more : log_length x < t.snapshot.floor) (s : Seat B) (seat : Has seats s) (number : s.number ≡ t.number)
        (has : s.node.rows.snapshot ≡ Some t.snapshot) (most : (r : Seat B) → Has seats r → floor_of r ≤ t.snapshot.floor) where
      distinct : t.number ≡ n → ⊥
      distinct e = none_is n seats apart s seat (number ∙ e)

      at_t : node_at w.nodes t.number ≡ s.node
      at_t = subst (λ j. node_at w.nodes j ≡ s.node) number (are s seat)

      member_t : IsMember members t.number
      member_t = is_member_up same members events t.number (ap (λ (y : NodeState B). y.up) at_t ∙ ups s seat)

      rest_t : AtRest s.node
      rest_t = subst (λ y. AtRest y) at_t (all_rest same members events t.number)

      abbrev wf : World B
      wf = play same members (fetch n (suc (log_length x)) t) ws

      fetched : Fetched same equal members n t distinct member_t z ws wf
      fetched =
          fetches same equal members n t distinct member_t ws z s.node begins.own (begins.others t.number distinct ∙ at_t) up rest refl
          (ups s seat) rest_t has more

      -- its octets begin with a head, which tells of no boot that the node had not
      cut : IsCut w.cuts t.snapshot
      cut = cuts_ok.found.nodes t.number t.snapshot (ap (λ (y : NodeState B). y.rows.snapshot) at_t ∙ has)

      headed : (h : Head) × (head_at t.snapshot.octets ≡ Some h)
      headed = let r = cuts_ok.reads cut.cut cut.has in (r.0, ap (λ (c : taken.Snapshot). head_at c.octets) (sym cut.same) ∙ r.1)

      abbrev head : Head
      head = headed.0

      told : boot_in (stands_at (Some t.snapshot) n) ≤ x.rows.boot
      told = told_boots same equal members few events (Some t.snapshot) only n
        where
          only : RestsOnCut w.cuts (Some t.snapshot)
          only c e = subst (λ y. IsCut w.cuts y) (same_one c e) cut
            where
              same_one : (c : taken.Snapshot) → Some t.snapshot ≡ Some c → t.snapshot ≡ c
              same_one c e = cc

      by_head : (y : NodeState B) → has_boot n y head ≡ holds_boot n t.snapshot y
      by_head y i = nat_le y.rows.boot (boot_in (stands_by (sym headed.1 i) n))

      abbrev bring : Event B
      bring = Deliver (back same equal members n t distinct member_t)

      -- what it becomes by what is left of the events
      record Turned (v : World B) (y : NodeState B) : Type 0 where
        pub own : node_at v.nodes n ≡ y
        pub others : (k : ℕ) → (k ≡ n → ⊥) → node_at v.nodes k ≡ node_at wf.nodes k
        pub up_is : y.up ≡ true
        pub long : t.snapshot.floor ≤ log_length y

      longer : (a c : ℕ) → a ≤ a + c
      longer a c = omega arith

      least : (a : ℕ) → 0 ≤ a
      least a = omega arith

      votes_over : (v : Vote B) → Has (votes_from (suc t.snapshot.floor) x.rows.votes) v → Has x.rows.votes v
      votes_over v h = has_from (suc t.snapshot.floor) x.rows.votes v h

      seen_on : max (max x.proposer.seen (suc x.proposer.seen)) (suc x.proposer.seen) ≤ suc x.proposer.seen
      seen_on = go x.proposer.seen
        where
          go : (a : ℕ) → max (max a (suc a)) (suc a) ≤ suc a
          go a = omega arith

      seen_anew : max (suc x.proposer.seen) (suc x.proposer.seen) ≤ suc x.proposer.seen
      seen_anew = go x.proposer.seen
        where
          go : (a : ℕ) → max (suc a) (suc a) ≤ suc a
          go a = omega arith

      -- a restart of the node, which is down
      module _ (v : World B) (y : NodeState B) (at : node_at v.nodes n ≡ down y.rows) (boot : y.rows.boot < last_boot) where
        abbrev vr : World B
        vr = next same members v (Restart n)

        mr : Moved same members v vr (Restart n)
        mr = moved same members v (Restart n) refl

        restarts : node_at vr.nodes n ≡ started n (raised y.rows)
        restarts =
            mr.mine
            ∙ (ap (λ a. stepped same members (Restart n) a) at
            ∙ cond-true (possible (Restart n) (down y.rows)) (outcome_of same members (Restart n) (down y.rows)).node (down y.rows)
            (lt-ltb y.rows.boot last_boot boot))

      -- the snapshot has its boot
      again : x.rows.boot < last_boot → holds_boot n t.snapshot z ≡ true
          → Turned (play same members (Crash n ∷ Restart n ∷ bring ∷ []) wf) (begins_over n t.snapshot z)
      again boots held =
          record {
            own = m3.mine ∙ (ap (λ a. stepped same members bring a) at2 ∙ taken_over);
            others = λ k d. m3.others k d ∙ ((mr w1 z at1 boots).others k d ∙ m1.others k d);
            up_is = refl;
            long = longer t.snapshot.floor 0;
          }
        where
          w1 : World B
          w1 = next same members wf (Crash n)

          m1 : Moved same members wf w1 (Crash n)
          m1 = moved same members wf (Crash n) refl

          at0 : node_at wf.nodes n ≡ z
          at0 = fetched.own ∙ refuses same members n t.number t.snapshot head headed.1 z up more rest (by_head z ∙ held)

          at1 : node_at w1.nodes n ≡ down z.rows
          at1 =
              m1.mine
              ∙ (ap (λ a. stepped same members (Crash n) a) at0
              ∙ cond-true z.up (outcome_of same members (Crash n) z).node z up)

          at2 : node_at (vr w1 z at1 boots).nodes n ≡ started n (raised z.rows)
          at2 = restarts w1 z at1 boots

          m3 : Moved same members (vr w1 z at1 boots) (next same members (vr w1 z at1 boots) bring) bring
          m3 =
              reached same members equal (vr w1 z at1 boots) (back same equal members n t distinct member_t)
              ((mr w1 z at1 boots).stay (back same equal members n t distinct member_t)
              (m1.stay (back same equal members n t distinct member_t) fetched.sent))

          taken_over : stepped same members bring (started n (raised z.rows)) ≡ begins_over n t.snapshot z
          taken_over =
              begun_over same members n t.number t.snapshot head headed.1 z told
              (less (floor_in x.rows.snapshot) (length x.applied) t.snapshot.floor more)
            where
              less : (a c f : ℕ) → a + c < f → a < f
              less a c f l = omega arith

      -- it goes down by what it applies above the snapshot
      fell : x.rows.boot < last_boot → holds_boot n t.snapshot z ≡ false → falls_after n t.snapshot z ≡ true
          → Turned (play same members (Restart n ∷ []) wf) (begins_over n t.snapshot z)
      fell boots free ends =
          record {
            own = restarts wf (goes_over t.snapshot z) at0 boots;
            others = λ k d. (mr wf (goes_over t.snapshot z) at0 boots).others k d;
            up_is = refl;
            long = longer t.snapshot.floor 0;
          }
        where
          at0 : node_at wf.nodes n ≡ down (goes_over t.snapshot z).rows
          at0 = fetched.own ∙ falls same members n t.number t.snapshot head headed.1 z up more (by_head z ∙ free) ends

      -- it goes on
      rode : holds_boot n t.snapshot z ≡ false → falls_after n t.snapshot z ≡ false → Turned wf (goes_over t.snapshot z)
      rode free stays =
          record {
            own = fetched.own ∙ rides same members n t.number t.snapshot head headed.1 z up more (by_head z ∙ free) stays;
            others = λ k d. refl;
            up_is = up;
            long = longer t.snapshot.floor (length (goes_over t.snapshot z).applied);
          }

      turned : (c d : Bool) → ((c || d) ≡ true → x.rows.boot < last_boot) → holds_boot n t.snapshot z ≡ c → falls_after n t.snapshot z ≡ d
          → Turned (play same members (if c then Crash n ∷ Restart n ∷ bring ∷ [] else if d then Restart n ∷ [] else []) wf)
          (if c || d then begins_over n t.snapshot z else goes_over t.snapshot z)
      turned true d boots p q = again (boots refl) p
      turned false true boots p q = fell (boots refl) p q
      turned false false boots p q = rode p q

      abbrev node_by : Bool → Bool → NodeState B
      node_by c d = if c || d then begins_over n t.snapshot z else goes_over t.snapshot z

      begins_again : Holds true (begins_over n t.snapshot z)
      begins_again =
          record {
            held = seen_anew;
            votes = votes_over;
            floor = inr (s, seat, sym (ap (λ o. floor_in o) has));
            taken = least x.taken;
            boot = λ e. absurd (true≢false e);
            begun = λ e. refl;
            next = λ e. refl;
            told = λ e. told;
          }

      holds_by : (c d : Bool) → Holds (c || d) (node_by c d)
      holds_by true d = begins_again
      holds_by false true = begins_again
      holds_by false false =
          record {
            held = seen_on;
            votes = votes_over;
            floor = inr (s, seat, sym (ap (λ o. floor_in o) has));
            taken = at_least x.taken;
            boot = λ e. refl;
            begun = λ e. absurd (true≢false (sym e));
            next = λ e. absurd (true≢false (sym e));
            told = λ e. absurd (true≢false (sym e));
          }

      pub holds_some : Holds (anew_by n x (Some t)) (reached_by n x (Some t))
      holds_some = holds_by (holds_boot n t.snapshot z) (falls_after n t.snapshot z)

      pub levels : (anew_by n x (Some t) ≡ true → x.rows.boot < last_boot)
          → Levelled (Some t) (played same members (events ++ reach_by n x (Some t)))
      levels boots =
          subst (λ v. Levelled (Some t) v) (sym world_is)
          (record {
            own = done.own;
            others = λ k d. done.others k d ∙ (fetched.others k d ∙ begins.others k d);
            up_is = done.up_is;
            level = λ r h. le (most r h) done.long;
          })
        where
          done : Turned (play same members (turn_over n t x) wf) (node_over n t.snapshot z)
          done = turned (holds_boot n t.snapshot z) (falls_after n t.snapshot z) boots refl refl

          world_is : played same members (events ++ reach_by n x (Some t)) ≡ play same members (turn_over n t x) wf
          world_is =
              play_on same members events (reach_by n x (Some t)) (first_world members)
              ∙ play_on same members (fetch n (suc (log_length x)) t) (turn_over n t x) ws

    -- without a snapshot it is as it was
    as_it_was : Holds false x
    as_it_was =
        record {
          held = go x.proposer.seen (round_of x.rows.promised) (sees_promise same members events n up);
          votes = λ v h. h;
          floor = inl refl;
          taken = at_least x.taken;
          boot = λ e. refl;
          begun = λ e. absurd (true≢false (sym e));
          next = λ e. absurd (true≢false (sym e));
          told = λ e. absurd (true≢false (sym e));
        }
      where
        go : (a c : ℕ) → c ≤ a → max a c ≤ suc a
        go a c l = omega arith

    -- the snapshot that it asks for
    abbrev pub asked_for : Option Source
    asked_for = highest (log_length x) seats

    best : Best (log_length x) None seats asked_for
    best = highest_is (log_length x) seats

    pub holds : Holds (anew_by n x asked_for) (reached_by n x asked_for)
    holds =
        ⊎_elim (λ e. subst (λ a. Holds (anew_by n x a) (reached_by n x a)) (sym e) as_it_was)
        (λ f. subst (λ a. Holds (anew_by n x a) (reached_by n x a)) (sym f.1)
        (holds_some f.0 f.2 f.3.0 f.3.1 f.3.2 f.3.3
        (subst (λ a. (s : Seat B) → Has seats s → floor_of s ≤ floor_or (log_length x) a) f.1 best.each)))
        best.from

    pub is_levelled : (anew_by n x asked_for ≡ true → x.rows.boot < last_boot)
        → Levelled asked_for (played same members (events ++ reach_by n x asked_for))
    is_levelled boots =
        ⊎_elim (λ e. subst (λ a. Good a) (sym e) none boots best.each)
        (λ f. subst (λ a. Good a) (sym f.1) (some f.0 f.2 f.3.0 f.3.1 f.3.2 f.3.3) boots best.each) best.from
      where
        Good : Option Source → Type 0
        Good a =
            (anew_by n x a ≡ true → x.rows.boot < last_boot) → ((s : Seat B) → Has seats s → floor_of s ≤ floor_or (log_length x) a)
            → Levelled a (played same members (events ++ reach_by n x a))

        none : Good None
        none boots' low =
            subst (λ l. Levelled None (played same members l)) (sym (append-nil events))
            (record { own = refl; others = λ k d. refl; up_is = up; level = low })

        some : (t : Source) → log_length x < t.snapshot.floor → (s : Seat B) → Has seats s → s.number ≡ t.number
            → s.node.rows.snapshot ≡ Some t.snapshot → Good (Some t)
        some t more s seat number has boots' low = levels t more s seat number has low boots'
