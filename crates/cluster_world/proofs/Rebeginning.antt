-- A node that went down begins its next boot; if another's floor is above its own, it rests on that one's snapshot first.
use Rattle.std.proofs.Common.{◌≡◌, ⊎_elim, ℕ, suc, ◌+◌, ◌<◌, ◌≤◌, Bool, true, refl, sym, ap, ◌∙◌, subst, arith, List, [], ◌∷◌, ◌++◌, Option, Some, None}
use Rattle.std.proofs.lemmas.Bool.{cond-true, lt-ltb}
use Rattle.cluster_world.proofs.AtOnce.{AtRest}
use Rattle.cluster_world.proofs.Cuts.{IsCut, RestsOnCut}
use Rattle.cluster_world.proofs.EventsAtOnce.{all_rest}
use Rattle.cluster_world.proofs.EveryWorld.{CutsOk, world_ok, play_on}
use Rattle.cluster_world.proofs.Fetching.{Fetched, fetches, begun_over}
use Rattle.cluster_world.proofs.Heads.{told_boots}
use Rattle.cluster_world.proofs.Levelling.{Best, highest_is}
use Rattle.cluster_world.proofs.Playing.{stepped, Moved, moved, none_is}
use Rattle.cluster_world.proofs.Reached.{is_member_up}
use Rattle.cluster_world.specs.Has.{Has}
use Rattle.cluster_world.specs.Rescue.{Apart}
use Rattle.cluster_world.specs.World.{World, node_at, first_world, next, play, played}
use Rattle.paxos_packets.specs.Body.{IsEquality}
use Rattle.paxos_packets.specs.Members.{IsMember}
use Rattle.paxos_packets.specs.Rows.{last_boot, raised}
use Rattle.paxos_packets.specs.Snapshot as taken
use Rattle.paxos_packets.specs.declared.rows.Rows.{Rows}
use Rattle.paxos_acceptor.specs.Acceptor.{with_snapshot}
use Rattle.paxos_node.specs.Applying.{stands_at, down, started}
use Rattle.paxos_node.specs.Events.{possible, outcome_of}
use Rattle.paxos_node.specs.Snapshots.{boot_in}
use Rattle.paxos_node.specs.declared.event.Event.{Event}
use Rattle.paxos_node.specs.declared.event.Event.TheVariants.{Restart}
use Rattle.paxos_planning.specs.Node.{NodeState}
use Rattle.replica_machine.specs.Snapshot.{head_at}
use Rattle.replica_machine.specs.declared.head.Head.{Head}
use Rattle.world_rescue.specs.Course.{fetch_by}
use Rattle.world_rescue.specs.Reaching.{Source, highest, fetch}
use Rattle.world_rescue.specs.Seats.{Seat}

-- the rows that rest on the snapshot, if there is one
abbrev pub rows_over : {B : Type 0} → Option Source → Rows B → Rows B
rows_over None rows = rows
rows_over (Some t) rows = with_snapshot t.snapshot rows

module _ {B : Type 0} (same : B → B → Bool) (equal : IsEquality same) (members : ℕ) (three : 3 ≤ members) (few : members ≤ 7) (n : ℕ)
    (before : List (Event B)) (rows : Rows B) (at : node_at (played same members before).nodes n ≡ down rows) (boots : rows.boot < last_boot)
    (floor : ℕ) (floor_is : taken.floor_in rows.snapshot ≡ floor) (seats : List (Seat B)) (apart : Apart n seats)
    (ups : (s : Seat B) → Has seats s → (node_at (played same members before).nodes s.number).up ≡ true)
    (given : (s : Seat B) → Has seats s → (node_at (played same members before).nodes s.number).rows.snapshot ≡ s.node.rows.snapshot) where
  abbrev q : World B
  q = played same members before

  cuts_ok : CutsOk members q
  cuts_ok = (world_ok same equal members (omega arith) before).cuts

  abbrev r : World B
  r = next same members q (Restart n)

  mr : Moved same members q r (Restart n)
  mr = moved same members q (Restart n) refl

  at_r : node_at r.nodes n ≡ started n (raised rows)
  at_r =
      mr.mine
      ∙ (ap (λ a. stepped same members (Restart n) a) at
      ∙ cond-true (possible (Restart n) (down rows)) (outcome_of same members (Restart n) (down rows)).node (down rows)
      (lt-ltb rows.boot last_boot boots))

  -- the world then: the node has begun, in a boot of which its snapshot does not tell
  pub record Rebegun (o : Option Source) (v : World B) : Type 0 where
    pub own : node_at v.nodes n ≡ started n (raised (rows_over o rows))
    pub others : (k : ℕ) → (k ≡ n → ⊥) → node_at v.nodes k ≡ node_at q.nodes k
    pub told : boot_in (stands_at (rows_over o rows).snapshot n) ≤ rows.boot

  module _ (t : Source) (more : floor < t.snapshot.floor) (s : Seat B) (seat : Has seats s) (number : s.number ≡ t.number)
      (has : s.node.rows.snapshot ≡ Some t.snapshot) where
    abbrev y : NodeState B
    y = node_at q.nodes t.number

    distinct : t.number ≡ n → ⊥
    distinct e = none_is n seats apart s seat (number ∙ e)

    up_y : y.up ≡ true
    up_y = subst (λ j. (node_at q.nodes j).up ≡ true) number (ups s seat)

    has_y : y.rows.snapshot ≡ Some t.snapshot
    has_y = subst (λ j. (node_at q.nodes j).rows.snapshot ≡ Some t.snapshot) number (given s seat ∙ has)

    member_t : IsMember members t.number
    member_t = is_member_up same members before t.number up_y

    rest_y : AtRest y
    rest_y = all_rest same members before t.number

    cut : IsCut q.cuts t.snapshot
    cut = cuts_ok.found.nodes t.number t.snapshot has_y

    headed : (h : Head) × (head_at t.snapshot.octets ≡ Some h)
    headed = let c = cuts_ok.reads cut.cut cut.has in (c.0, ap (λ (z : taken.Snapshot). head_at z.octets) (sym cut.same) ∙ c.1)

    told : boot_in (stands_at (Some t.snapshot) n) ≤ rows.boot
    told =
        subst (λ (z : NodeState B). boot_in (stands_at (Some t.snapshot) n) ≤ z.rows.boot) at
        (told_boots same equal members few before (Some t.snapshot) only n)
      where
        only : RestsOnCut q.cuts (Some t.snapshot)
        only c e = subst (λ z. IsCut q.cuts z) (same_one c e) cut
          where
            same_one : (c : taken.Snapshot) → Some t.snapshot ≡ Some c → t.snapshot ≡ c
            same_one c e = cc

    further : taken.floor_in rows.snapshot < t.snapshot.floor
    further = subst (λ a. a < t.snapshot.floor) (sym floor_is) more

    begun_more : taken.floor_in rows.snapshot + 0 < t.snapshot.floor
    begun_more = go (taken.floor_in rows.snapshot) further
      where
        go : (a : ℕ) → a < t.snapshot.floor → a + 0 < t.snapshot.floor
        go a l = omega arith

    first_is : suc (taken.floor_in rows.snapshot + 0) ≡ suc floor
    first_is = ap suc (go (taken.floor_in rows.snapshot) floor floor_is)
      where
        go : (a c : ℕ) → a ≡ c → a + 0 ≡ c
        go a c e = omega arith

    abbrev FetchedBy : ℕ → Type 0
    FetchedBy first =
        Fetched same equal members n t distinct member_t (started n (raised rows)) r (play same members (fetch n first t) r)

    fetched : FetchedBy (suc floor)
    fetched =
        subst (λ a. FetchedBy a) first_is
        (fetches same equal members n t distinct member_t r (started n (raised rows)) y at_r (mr.others t.number distinct) refl refl refl up_y
        rest_y has_y begun_more)

    pub rests : Rebegun (Some t) (played same members (before ++ Restart n ∷ fetch_by n (suc floor) (Some t)))
    rests =
        subst (λ v. Rebegun (Some t) v) (sym (play_on same members before (Restart n ∷ fetch n (suc floor) t) (first_world members)))
        (record {
          own = fetched.own ∙ begun_over same members n t.number t.snapshot headed.0 headed.1 (down rows) told further;
          others = λ k d. fetched.others k d ∙ mr.others k d;
          told = told;
        })

  pub rebegins : Rebegun (highest floor seats) (played same members (before ++ Restart n ∷ fetch_by n (suc floor) (highest floor seats)))
  rebegins = go (highest floor seats) (highest_is floor seats)
    where
      Good : Option Source → Type 0
      Good o = Rebegun o (played same members (before ++ Restart n ∷ fetch_by n (suc floor) o))

      none : Good None
      none =
          subst (λ v. Rebegun None v) (sym (play_on same members before (Restart n ∷ []) (first_world members)))
          (record { own = at_r; others = λ k d. mr.others k d; told = told_own })
        where
          told_own : boot_in (stands_at rows.snapshot n) ≤ rows.boot
          told_own =
              subst (λ (y : NodeState B). boot_in (stands_at y.rows.snapshot n) ≤ y.rows.boot) at
              (told_boots same equal members few before (node_at q.nodes n).rows.snapshot (cuts_ok.found.nodes n) n)

      go : (o : Option Source) → Best floor None seats o → Good o
      go o best =
          ⊎_elim (λ e. subst (λ a. Good a) (sym e) none)
          (λ f. subst (λ a. Good a) (sym f.1) (rests f.0 f.2 f.3.0 f.3.1 f.3.2 f.3.3)) best.from
