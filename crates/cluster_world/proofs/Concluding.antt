-- How a pass ends: the node's log goes on with all that it proposed, or the loss of its boot is among that.
use Rattle.std.proofs.Common.{◌≡◌, ◌⊎◌, inl, inr, ⊎_elim, ℕ, suc, ◌+◌, ◌≤◌, Bool, true, sym, ap, ◌∙◌, subst, arith}
use Rattle.std.proofs.Common.{List, [], ◌∷◌, ◌++◌, length, length-append, Some}
use Rattle.std.specs.Prelude.{slice_get}
use Rattle.std.proofs.lemmas.Bool.{or_left}
use Rattle.cluster_world.proofs.AcceptorTests.{put_has, put_cases, put_keeps}
use Rattle.cluster_world.proofs.Agreeing.{log_is_chosen, chosen_out}
use Rattle.cluster_world.proofs.Ends.{has_end_both}
use Rattle.cluster_world.proofs.EveryWorld.{play_on, whole_is, under_long}
use Rattle.cluster_world.proofs.Fates.{Rides, Fell}
use Rattle.cluster_world.proofs.Filling.{first_of, filled}
use Rattle.cluster_world.proofs.Lists.{has_nil, has_cons}
use Rattle.cluster_world.proofs.Passing.{Rode, Passed}
use Rattle.cluster_world.proofs.Slots.{AreAfter}
use Rattle.cluster_world.specs.Has.{Has, here, there}
use Rattle.paxos_packets.specs.Body.{IsEquality}
use Rattle.paxos_packets.specs.Members.{IsMember, IsMajority}
use Rattle.paxos_packets.specs.Snapshot.{floor_in}
use Rattle.paxos_packets.specs.Vote.{put_vote, put_votes}
use Rattle.paxos_packets.specs.declared.ballot.Ballot.{Ballot}
use Rattle.paxos_packets.specs.declared.entry.Entry.{Entry}
use Rattle.paxos_packets.specs.declared.vote.Vote.{Vote}
use Rattle.paxos_learner.specs.Learned.{is_learned}
use Rattle.paxos_node.specs.Applying.{standing_of, down, has_end}
use Rattle.paxos_node.specs.declared.event.Event.{Event}
use Rattle.paxos_planning.specs.Node.{NodeState, log_length}
use Rattle.replica_machine.specs.Roll.{standing_from}
use Rattle.cluster_world.specs.Chosen.{Chosen}
use Rattle.cluster_world.specs.World.{World, node_at, first_world, play, played, under, log_of}
use Rattle.world_rescue.specs.Course.{Seat, entries_of}

-- votes that were put one after the other

pub put_all_cases : {B : Type 0} (vs ws : List (Vote B)) (u : Vote B) → Has (put_votes vs ws) u → Has vs u ⊎ Has ws u
put_all_cases [] ws u h = inr h
put_all_cases (v ∷ vs) ws u h =
    ⊎_elim (λ i. inl (there i))
    (λ i. ⊎_elim (λ (e : v ≡ u). inl (subst (λ z. Has (v ∷ vs) z) e here)) (λ j. inr j) (put_cases v ws u i))
    (put_all_cases vs (put_vote v ws) u h)

-- a vote stays if the others are for later slots
put_all_keeps : {B : Type 0} (slot : ℕ) (vs ws : List (Vote B)) (u : Vote B) → u.slot ≤ slot → AreAfter slot vs → Has ws u → Has
    (put_votes vs ws) u
put_all_keeps slot [] ws u l a h = h
put_all_keeps {B} slot (v ∷ vs) ws u l a h =
    put_all_keeps (suc slot) vs (put_vote v ws) u (omega arith) a.1
    (⊎_elim (λ i. i) (λ (e : u.slot ≡ v.slot). absurd (apart e)) (put_keeps v ws u h))
  where
    apart : u.slot ≡ v.slot → ⊥
    apart e = go u.slot v.slot l a.0 e
      where
        go : (s t : ℕ) → s ≤ slot → t ≡ suc slot → s ≡ t → ⊥
        go s t g h i = omega arith

pub put_all_has : {B : Type 0} (slot : ℕ) (vs ws : List (Vote B)) (u : Vote B) → AreAfter slot vs → Has vs u → Has (put_votes vs ws) u
put_all_has slot [] ws u a h = absurd (has_nil h)
put_all_has {B} slot (v ∷ vs) ws u a h =
    ⊎_elim
    (λ (e : v ≡ u). subst (λ z. Has (put_votes vs (put_vote v ws)) z) e
    (put_all_keeps (suc slot) vs (put_vote v ws) v (low a.0) a.1 (put_has v ws)))
    (λ i. put_all_has (suc slot) vs (put_vote v ws) u a.1 i) (has_cons h)
  where
    low : v.slot ≡ suc slot → v.slot ≤ suc slot
    low e = omega arith

pub slots_within : {B : Type 0} (slot : ℕ) (vs : List (Vote B)) (u : Vote B) → AreAfter slot vs → Has vs u → u.slot ≤ slot + length vs
slots_within slot [] u a h = absurd (has_nil h)
slots_within {B} slot (v ∷ vs) u a h =
    ⊎_elim
    (λ (e : v ≡ u). subst (λ (z : Vote B). z.slot ≤ slot + suc (length vs)) e (first v.slot (length vs) a.0))
    (λ i. later u.slot (length vs) (slots_within (suc slot) vs u a.1 i)) (has_cons h)
  where
    first : (s c : ℕ) → s ≡ suc slot → s ≤ slot + suc c
    first s c e = omega arith

    later : (s c : ℕ) → s ≤ suc slot + c → s ≤ slot + suc c
    later s c l = omega arith

pub get_right : {A : Type 0} (xs ys : List A) (i : ℕ) → slice_get (xs ++ ys) (length xs + i) ≡ slice_get ys i
get_right [] ys i = ap (λ k. slice_get ys k) (plain i)
  where
    plain : (k : ℕ) → 0 + k ≡ k
    plain k = omega arith
get_right (x ∷ xs) ys i = ap (λ k. slice_get (x ∷ (xs ++ ys)) k) (moved (length xs) i) ∙ get_right xs ys i
  where
    moved : (c k : ℕ) → suc c + k ≡ suc (c + k)
    moved c k = omega arith

module _ {B : Type 0} (same : B → B → Bool) (equal : IsEquality same) (members : ℕ) (many : 3 ≤ members) (two : 2 ≤ members) (n : ℕ)
    (member : IsMember members n) (round : ℕ) (early later : List (Event B)) where
  abbrev p : World B
  p = played same members early

  abbrev q : World B
  q = play same members later p

  abbrev x : NodeState B
  x = node_at p.nodes n

  abbrev ballot : Ballot
  ballot = record { round = round; node = n }

  q_is : played same members (early ++ later) ≡ q
  q_is = play_on same members early later (first_world members)

  -- how a pass of these votes ends
  pub data Ending (vs : List (Vote B)) (z : NodeState B) : Type 0 where
    Rode_on : Rides same equal members two n x z (entries_of vs) → Ending vs z
    Went_down : z ≡ down x.rows → has_end n x.rows.boot (standing_of x n) (entries_of vs) ≡ true → Ending vs z

  module _ (seats : List (Seat B)) (vs table votes : List (Vote B)) (start : ℕ)
      (passed : Passed same equal members two n member round x seats (λ k. (node_at p.nodes k).rows.snapshot)
      (λ k. (node_at p.nodes k).rows.votes) vs [] p q)
      (after : AreAfter (log_length x) vs) (ordered : AreAfter start table) (among_table : (v : Vote B) → Has vs v → Has table v)
      (own_votes : x.rows.votes ≡ put_votes table votes) (own_promise : x.rows.promised ≡ Some ballot)
      (mine : (v : Vote B) → Has vs v → v.ballot ≡ ballot) (crew : ℕ → Bool) (most : IsMajority members crew)
      (in_crew : (k : ℕ) → crew k ≡ true → (k ≡ n) ⊎ ((s : Seat B) × Has seats s × (s.number ≡ k)))
      (short : (k : ℕ) (v : Vote B) → crew k ≡ true → Has (node_at p.nodes k).rows.votes v → v.slot ≤ log_length x + length vs)
      (lows : (s : Seat B) → Has seats s → floor_in (node_at p.nodes s.number).rows.snapshot ≤ log_length x) where
    abbrev z : NodeState B
    z = node_at q.nodes n

    -- entries after the log that it had
    get_whole : (under es : List (Entry B)) → length under ≡ floor_in x.rows.snapshot → (i : ℕ)
        → slice_get (under ++ (x.applied ++ es)) (log_length x + i) ≡ slice_get es i
    get_whole under es long i =
        ap (λ a. slice_get (under ++ (x.applied ++ es)) a) (place (length under) (floor_in x.rows.snapshot) (length x.applied) long)
        ∙ (get_right under (x.applied ++ es) (length x.applied + i) ∙ get_right x.applied es i)
      where
        place : (u f a : ℕ) → u ≡ f → (f + a) + i ≡ u + (a + i)
        place u f a e = omega arith

    voted : (v : Vote B) → Has vs v → Has x.rows.votes v
    voted v h = subst (λ l. Has l v) (sym own_votes) (put_all_has start table votes v ordered (among_table v h))

    -- by the node's rows, which a pass leaves alone
    module _ (rows : z.rows ≡ x.rows) where
      promised : (k : ℕ) → crew k ≡ true → (node_at q.nodes k).rows.promised ≡ Some ballot
      promised k c =
          ⊎_elim (λ (e : k ≡ n). subst (λ j. (node_at q.nodes j).rows.promised ≡ Some ballot) (sym e)
          (ap (λ r. r.promised) rows ∙ own_promise))
          (λ s. subst (λ j. (node_at q.nodes j).rows.promised ≡ Some ballot) s.2 (passed.helpers s.0 s.1).promised) (in_crew k c)

      floors : (k : ℕ) → crew k ≡ true → floor_in (node_at q.nodes k).rows.snapshot ≤ log_length x
      floors k c =
          ⊎_elim
          (λ (e : k ≡ n). subst (λ j. floor_in (node_at q.nodes j).rows.snapshot ≤ log_length x) (sym e)
          (subst (λ r. floor_in r.snapshot ≤ log_length x) (sym rows) (within (floor_in x.rows.snapshot) (length x.applied))))
          (λ s. subst (λ j. floor_in (node_at q.nodes j).rows.snapshot ≤ log_length x) s.2
          (subst (λ o. floor_in o ≤ log_length x) (sym (passed.helpers s.0 s.1).given_is) (lows s.0 s.1))) (in_crew k c)
        where
          within : (a c : ℕ) → a ≤ a + c
          within a c = omega arith

      short_then : (k : ℕ) (v : Vote B) → crew k ≡ true → Has (node_at q.nodes k).rows.votes v → v.slot ≤ log_length x + length vs
      short_then k v c h =
          ⊎_elim
          (λ (e : k ≡ n). short k v c
          (subst (λ j. Has (node_at p.nodes j).rows.votes v) (sym e)
          (subst (λ r. Has r.votes v) rows (subst (λ j. Has (node_at q.nodes j).rows.votes v) e h))))
          (λ s. helper s.0 s.1 s.2) (in_crew k c)
        where
          helper : (s : Seat B) → Has seats s → s.number ≡ k → v.slot ≤ log_length x + length vs
          helper s i e =
              ⊎_elim (λ g. slots_within (log_length x) vs v after g)
              (λ g. short k v c (subst (λ j. Has (node_at p.nodes j).rows.votes v) e g))
              (put_all_cases vs (node_at p.nodes s.number).rows.votes v
              (subst (λ l. Has l v) (passed.helpers s i).votes_are (subst (λ j. Has (node_at q.nodes j).rows.votes v) (sym e) h)))

    abbrev Here : (World B → Type 0) → Type 0
    Here P = P q → P (played same members (early ++ later))

    at_q : (P : World B → Type 0) → Here P
    at_q P h = subst P (sym q_is) h

    pub concludes : Ending vs z
    concludes = ⊎_elim rode fell passed.knows.fate
      where
        rode : Rode same equal members two n member round x z vs → Ending vs z
        rode r =
            Rode_on (subst (λ l. Rides same equal members two n x z l)
            (filled same equal members many (early ++ later) n ballot (log_length x) r.es vs crew most chosen after
            (λ v h. at_q (λ w. Has (node_at w.nodes n).rows.votes v) (subst (λ s. Has s.votes v) (sym r.ride.rows) (voted v h))) mine
            (λ k c. at_q (λ w. (node_at w.nodes k).rows.promised ≡ Some ballot) (promised r.ride.rows k c))
            (λ k v c h. short_then r.ride.rows k v c (subst (λ w. Has (node_at w.nodes k).rows.votes v) q_is h))
            (λ k c. at_q (λ w. floor_in (node_at w.nodes k).rows.snapshot ≤ log_length x) (floors r.ride.rows k c))
            (ap (λ w. log_length (node_at w.nodes n)) q_is ∙ longer)
            (λ v h. at_q (λ w. is_learned v.slot (node_at w.nodes n).learner.learned ≡ true) (r.done v h)))
            r.ride)
          where
            below : length (under q.cuts z.rows.snapshot) ≡ floor_in x.rows.snapshot
            below =
                let ok = passed.knows.ok.cuts in
                under_long ok z.rows.snapshot (ok.found.nodes n) ∙ ap (λ s. floor_in s.snapshot) r.ride.rows

            chosen : (i : ℕ) (e : Entry B) → slice_get r.es i ≡ Some e
                → Chosen members (played same members (early ++ later)).sent (suc (log_length x + i)) e
            chosen i e h =
                log_is_chosen same equal members many (early ++ later) n (log_length x + i) e
                (ap (λ w. slice_get (log_of w n) (log_length x + i)) q_is
                ∙ (ap (λ l. slice_get l (log_length x + i))
                (whole_is q.cuts z r.ride.up ∙ ap (λ l. under q.cuts z.rows.snapshot ++ l) r.ride.log)
                ∙ (get_whole (under q.cuts z.rows.snapshot) r.es below i ∙ h)))

            longer : log_length z ≡ log_length x + length r.es
            longer =
                (λ j. floor_in ((r.ride.rows j).snapshot) + length (r.ride.log j))
                ∙ (ap (λ a. floor_in x.rows.snapshot + a) (length-append x.applied r.es)
                ∙ regroup (floor_in x.rows.snapshot) (length x.applied) (length r.es))
              where
                regroup : (a c d : ℕ) → a + (c + d) ≡ (a + c) + d
                regroup a c d = omega arith

        fell : (es : List (Entry B)) × Fell same equal members two n x z q.sent es → Ending vs z
        fell f =
            let rows = ap (λ (y : NodeState B). y.rows) f.1.down_is in
            let first =
            first_of same equal members many (early ++ later) n ballot (log_length x) f.0 vs crew most chosen after
            (λ v h. at_q (λ w. Has (node_at w.nodes n).rows.votes v) (subst (λ s. Has s.votes v) (sym rows) (voted v h))) mine
            (λ k c. at_q (λ w. (node_at w.nodes k).rows.promised ≡ Some ballot) (promised rows k c))
            (λ k v c h. short_then rows k v c (subst (λ w. Has (node_at w.nodes k).rows.votes v) q_is h))
            (λ k c. at_q (λ w. floor_in (node_at w.nodes k).rows.snapshot ≤ log_length x) (floors rows k c)) in
            Went_down f.1.down_is
            (ap (λ l. has_end n x.rows.boot (standing_of x n) l) (sym first.1)
            ∙ (has_end_both n x.rows.boot (standing_of x n) f.0 first.0
            ∙ or_left (has_end n x.rows.boot (standing_of x n) f.0)
            (has_end n x.rows.boot (standing_from n (standing_of x n) f.0) first.0) f.1.ends))
          where
            chosen : (i : ℕ) (e : Entry B) → slice_get f.0 i ≡ Some e
                → Chosen members (played same members (early ++ later)).sent (suc (log_length x + i)) e
            chosen i e h =
                at_q (λ w. Chosen members w.sent (suc (log_length x + i)) e)
                (chosen_out members q.sent (suc (log_length x + i)) e
                (f.1.logged.at (log_length x + i) e (get_whole f.1.under f.0 f.1.long i ∙ h)))
