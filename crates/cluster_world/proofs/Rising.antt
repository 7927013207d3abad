-- The votes that a node has cast ascend by their slots, so the last one tells whether one is past a limit.
use Rattle.std.proofs.Common.{◌≡◌, ⊎_elim, ℕ, suc, max, not, ◌-◌, ◌+◌, ◌<◌, ◌≤◌, Bool, true, false, ◌&&◌, ◌||◌, refl, sym, ap, ◌∙◌, subst, arith, List, [], ◌∷◌, length, get_or, ltb, Option, Some, None}
use Rattle.std.specs.Prelude.{nat_lt}
use Rattle.std.specs.List.{list_any}
use Rattle.std.proofs.lemmas.Bool.{cases_eq, lt-ltb}
use Rattle.std.proofs.lemmas.Bool.Decides.{nat_tests}
use Rattle.cluster_world.proofs.Taking.{in_every}
use Rattle.cluster_world.proofs.EveryWorld.{within, node_same, node_other}
use Rattle.cluster_world.proofs.Taking.{founded_each}
use Rattle.cluster_world.proofs.Taking.{by_next}
use Rattle.cluster_world.specs.World.{World, node_at, put_node, first_world, next, played}
use Rattle.paxos_packets.proofs.Ascending.{AllAfter, Ascends}
use Rattle.paxos_packets.proofs.Behind.{from_ascending}
use Rattle.paxos_packets.proofs.Placing.{put_ascending}
use Rattle.paxos_packets.specs.Rows.{kept_votes}
use Rattle.paxos_packets.specs.Snapshot as taken
use Rattle.paxos_packets.specs.Vote.{put_vote, put_votes}
use Rattle.paxos_packets.specs.declared.vote.Vote.{Vote}
use Rattle.paxos_node.proofs.Committing.{commits_its_change}
use Rattle.paxos_node.specs.Events.{owner, possible, outcome_of}
use Rattle.paxos_node.specs.declared.event.Event.{Event}
use Rattle.paxos_node.specs.declared.event.Event.TheVariants.{Take, Tick, Start, Suspect, Deliver, Cut, Crash, Restart}
use Rattle.paxos_node.specs.Snapshots.{may_cut}
use Rattle.paxos_planning.specs.Node.{NodeState, Plan}
use Rattle.paxos_packets.specs.declared.rows.Change.{Change}
use Rattle.paxos_packets.specs.declared.rows.Rows.{Rows}

put_all : {B : Type 0} (vs ws : List (Vote B)) → Ascends ws → Ascends (put_votes vs ws)
put_all [] ws a = a
put_all (v ∷ vs) ws a = put_all vs (put_vote v ws) (put_ascending v ws a)

-- without those up to a snapshot's floor they ascend, too
kept_ascending : {B : Type 0} (s : Option taken.Snapshot) (ws : List (Vote B)) → Ascends ws → Ascends (kept_votes s ws)
kept_ascending None ws a = a
kept_ascending (Some s) ws a = from_ascending (suc s.floor) ws a

first_of : (a b : Bool) → (a && b) ≡ true → a ≡ true
first_of true b h = refl
first_of false b h = h

module _ {B : Type 0} (same : B → B → Bool) (members : ℕ) where
  -- what a node commits in an event is put in place
  commits : (e : Event B) (x : NodeState B) → x.up ≡ true → possible e x ≡ true → Ascends x.rows.votes
      → Ascends (outcome_of same members e x).node.rows.votes
  commits e x u h a =
      subst (λ (r : Rows B). Ascends r.votes) (sym (commits_its_change same members e x u h))
      (put_all c.votes (kept_votes c.snapshot x.rows.votes) (kept_ascending c.snapshot x.rows.votes a))
    where
      c : Change B
      c = (outcome_of same members e x).change

  stays : (e : Event B) (x : NodeState B) → possible e x ≡ true → Ascends x.rows.votes → Ascends (outcome_of same members e x).node.rows.votes
  stays (Take n t body) x h a = commits (Take n t body) x (first_of x.up (nat_lt 0 t) h) h a
  stays (Tick n) x h a = commits (Tick n) x h h a
  stays (Start n) x h a = commits (Start n) x h h a
  stays (Suspect n other) x h a = commits (Suspect n other) x h h a
  stays (Deliver p) x h a = commits (Deliver p) x h h a
  stays (Cut n s) x h a = commits (Cut n s) x (first_of x.up (may_cut s x) h) h a
  stays (Crash n) x h a = commits (Crash n) x h h a
  stays (Restart n) x h a = a

  abbrev AllAscend : World B → Type 0
  AllAscend v = (k : ℕ) → Ascends (node_at v.nodes k).rows.votes

  next_ascends : (v : World B) (e : Event B) → AllAscend v → AllAscend (next same members v e)
  next_ascends v e all =
      by_next same members (λ z. AllAscend z) v e all
      (λ m k. ⊎_elim
      (λ (i : k ≡ owner e). subst (λ j. Ascends (node_at (put_node v.nodes (owner e) o.node) j).rows.votes) (sym i)
      (subst (λ (x : NodeState B). Ascends x.rows.votes) (sym (node_same v.nodes (owner e) o.node (within v.nodes e (owner e) m.1)))
      (stays e (node_at v.nodes (owner e)) m.1 (all (owner e)))))
      (λ i. subst (λ (x : NodeState B). Ascends x.rows.votes) (sym (node_other v.nodes (owner e) o.node k i)) (all k))
      (cases_eq k (owner e)))
    where
      o : Plan B
      o = outcome_of same members e (node_at v.nodes (owner e))

  -- in every world that events lead to
  pub all_ascend : (events : List (Event B)) (k : ℕ) → Ascends (node_at (played same members events).nodes k).rows.votes
  all_ascend events =
      in_every same members (λ v. AllAscend v) next_ascends events (first_world members)
      (λ k. founded_each (λ j (x : NodeState B). Ascends x.rows.votes) (λ j. tt) (λ j. tt) members k)

-- one is past the limit if the last one is

not_lt : (a b : ℕ) → b ≤ a → ltb a b ≡ false
not_lt a b h = grind (arith, nat_tests)

lt_false : (a b : ℕ) → ltb a b ≡ false → b ≤ a
lt_false a b h = grind (arith, nat_tests)

below_last : {B : Type 0} (slot : ℕ) (v : Vote B) (vs : List (Vote B)) (d : Vote B) → AllAfter slot (v ∷ vs) → Ascends (v ∷ vs)
    → slot < (get_or (v ∷ vs) (length vs) d).slot
below_last slot v [] d a h = a.0
below_last slot v (w ∷ ws) d a h = below_last slot w ws d a.1 h.1

or_false : (a b : Bool) → a ≡ false → b ≡ false → a || b ≡ false
or_false false false p q = refl
or_false true b p q = absurd (cc)
or_false false true p q = absurd (cc)

none_past : {B : Type 0} (most : ℕ) (v : Vote B) (vs : List (Vote B)) (d : Vote B) → Ascends (v ∷ vs) → (get_or (v ∷ vs) (length vs) d).slot ≤ most
    → list_any (λ (u : Vote B). nat_lt most u.slot) (v ∷ vs) ≡ false
none_past most v [] d h l = or_false (nat_lt most v.slot) false (not_lt most v.slot l) refl
none_past {B} most v (w ∷ ws) d h l =
    let b : v.slot < (get_or (w ∷ ws) (length ws) d).slot = below_last v.slot w ws d h.0 h.1 in
    or_false (nat_lt most v.slot) (list_any (λ (u : Vote B). nat_lt most u.slot) (w ∷ ws)) (not_lt most v.slot (omega (arith, b, l)))
    (none_past most w ws d h.1 l)

or_right : (a b : Bool) → b ≡ true → a || b ≡ true
or_right true b e = refl
or_right false b e = e

last_past : {B : Type 0} (most : ℕ) (v : Vote B) (vs : List (Vote B)) (d : Vote B) → nat_lt most (get_or (v ∷ vs) (length vs) d).slot ≡ true
    → list_any (λ (u : Vote B). nat_lt most u.slot) (v ∷ vs) ≡ true
last_past {B} most v [] d e = ap (λ (b : Bool). b || false) e
last_past {B} most v (w ∷ ws) d e =
    or_right (nat_lt most v.slot) (list_any (λ (u : Vote B). nat_lt most u.slot) (w ∷ ws)) (last_past most w ws d e)

pub past_by_last : {B : Type 0} (most : ℕ) (vs : List (Vote B)) (last : Vote B) → Ascends vs → 0 < length vs → last ≡ get_or vs (length vs - 1) last
    → nat_lt most last.slot ≡ list_any (λ (u : Vote B). nat_lt most u.slot) vs
past_by_last most [] last h l e = absurd (omega (arith, l))
past_by_last {B} most (v ∷ vs) last h l e =
    let y : suc (length vs) - 1 ≡ length vs = omega arith in
    let z : last.slot ≡ (get_or (v ∷ vs) (length vs) last).slot =
    ap (λ (u : Vote B). u.slot) (e ∙ ap (λ (k : ℕ). get_or (v ∷ vs) k last) y) in
    go (nat_lt most last.slot) refl z
  where
    go : (b : Bool) → nat_lt most last.slot ≡ b → last.slot ≡ (get_or (v ∷ vs) (length vs) last).slot
        → b ≡ list_any (λ (u : Vote B). nat_lt most u.slot) (v ∷ vs)
    go true p z = sym (last_past most v vs last (ap (λ (s : ℕ). nat_lt most s) (sym z) ∙ p))
    go false p z =
        let q : (get_or (v ∷ vs) (length vs) last).slot ≤ most =
        lt_false most (get_or (v ∷ vs) (length vs) last).slot (ap (λ (s : ℕ). nat_lt most s) (sym z) ∙ p) in
        sym (none_past most v vs last h q)

-- no round is left
pub none_left : (last end seen other : ℕ) → not (nat_lt (suc seen) end) ≡ true → last + 1 < end → nat_lt last (max seen other) ≡ true
none_left last end seen other h l = go (nat_lt (suc seen) end) refl h
  where
    go : (b : Bool) → nat_lt (suc seen) end ≡ b → not b ≡ true → nat_lt last (max seen other) ≡ true
    go true e h = absurd (cc)
    go false e h = let k : end ≤ suc seen = lt_false (suc seen) end e in lt-ltb last (max seen other) (omega (arith, k, l))

pub before : (next seen : ℕ) → next ≡ suc seen → next - 1 ≡ seen
before next seen e = omega (arith, e)
