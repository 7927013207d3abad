-- The crew of a rescue: all other nodes that are up help, and with the node they are a majority.
use Rattle.std.proofs.Common.{◌≡◌, ⊎_elim, ℕ, zero, suc, ◌≤◌, Bool, true, false, not, ◌||◌, refl, sym, ap, ◌∙◌, subst, arith, List, [], ◌∷◌, ◌++◌}
use Rattle.std.specs.Prelude.{◌==◌, if◌then◌else◌}
use Rattle.std.specs.List.{list_any}
use Rattle.std.proofs.lemmas.Bool.{eqb-true, eq-eqb, or_left, cases_eq}
use Rattle.paxos_packets.specs.Members.{is_majority}
use Rattle.paxos_node.specs.declared.event.Event.{Event}
use Rattle.paxos_planning.specs.Node.{NodeState}
use Rattle.cluster_world.proofs.Lists.{has_cases, has_cons, has_nil, has_one, has_left, has_right}
use Rattle.cluster_world.proofs.Passing.{majority_more}
use Rattle.cluster_world.proofs.Reached.{is_member_up}
use Rattle.cluster_world.specs.Has.{Has, here, there}
use Rattle.cluster_world.specs.Helpers.{helper_at, helpers_of, seat_at}
use Rattle.cluster_world.specs.Rescue.{Apart, IsCrew}
use Rattle.cluster_world.specs.World.{World, node_at, played}
use Rattle.world_rescue.specs.Course.{Seat}
use Rattle.world_rescue.specs.Parts.{crew_of}

off : {A : Type 0} → true ≡ false → A
off e = absurd (cc)

-- it is another node than n that is up, and none after the first `most`
record IsHelper {B : Type 0} (nodes : List (NodeState B)) (n most : ℕ) (s : Seat B) : Type 0 where
  low : s.number ≤ most
  other : s.number ≡ n → ⊥
  is : node_at nodes s.number ≡ s.node
  up : s.node.up ≡ true

helps_one : {B : Type 0} (nodes : List (NodeState B)) (n k : ℕ) (s : Seat B) → Has (helper_at nodes n k) s → IsHelper nodes n k s × (s.number ≡ k)
helps_one {B} nodes n k s = go (k == n) (node_at nodes k).up refl refl
  where
    go : (a u : Bool) → (k == n) ≡ a → (node_at nodes k).up ≡ u
        → Has (if a || not u then [] else seat_at nodes k ∷ []) s → IsHelper nodes n k s × (s.number ≡ k)
    go true u e f h = absurd (has_nil h)
    go false false e f h = absurd (has_nil h)
    go false true e f h =
        subst (λ (z : Seat B). IsHelper nodes n k z × (z.number ≡ k)) (has_one h)
        (record { low = omega arith; other = λ q. off (sym (eq-eqb k n q) ∙ e); is = refl; up = f }, refl)

helps : {B : Type 0} (nodes : List (NodeState B)) (n most : ℕ) (s : Seat B) → Has (helpers_of nodes n most) s → IsHelper nodes n most s
helps nodes n zero s h = absurd (has_nil h)
helps {B} nodes n (suc k) s h =
    ⊎_elim
    (λ g. let i = helps nodes n k s g in record { low = let l : s.number ≤ k = i.low in omega (arith, l); other = i.other; is = i.is; up = i.up })
    (λ g. (helps_one nodes n (suc k) s g).0)
    (has_cases (helpers_of nodes n k) (helper_at nodes n (suc k)) h)

apart_all : {B : Type 0} (n : ℕ) (ss ts : List (Seat B)) → Apart n ss → Apart n ts
    → ((s t : Seat B) → Has ss s → Has ts t → t.number ≡ s.number → ⊥) → Apart n (ss ++ ts)
apart_all n [] ts a b d = b
apart_all {B} n (s ∷ ss) ts a b d = (
  a.0,
  λ t h e. ⊎_elim (λ g. a.1 t g e) (λ g. d s t here g e) (has_cases ss ts h),
  apart_all n ss ts a.2 b (λ u t h g. d u t (there h) g),
)

apart_one : {B : Type 0} (nodes : List (NodeState B)) (n k : ℕ) → Apart n (helper_at nodes n k)
apart_one {B} nodes n k = go (k == n) (node_at nodes k).up refl
  where
    go : (a u : Bool) → (k == n) ≡ a → Apart n (if a || not u then [] else seat_at nodes k ∷ [])
    go true u e = tt
    go false false e = tt
    go false true e = (λ q. off (sym (eq-eqb k n q) ∙ e), λ t h. absurd (has_nil h), tt)

apart : {B : Type 0} (nodes : List (NodeState B)) (n most : ℕ) → Apart n (helpers_of nodes n most)
apart nodes n zero = tt
apart {B} nodes n (suc k) =
    apart_all n (helpers_of nodes n k) (helper_at nodes n (suc k)) (apart nodes n k) (apart_one nodes n (suc k))
    (λ s t h g e.
    let l : s.number ≤ k = (helps nodes n k s h).low in
    let m : t.number ≡ suc k = (helps_one nodes n (suc k) t g).1 in
    past s.number t.number l m e)
  where
    past : (a b : ℕ) → a ≤ k → b ≡ suc k → b ≡ a → ⊥
    past a b l m e = omega (arith, l, m, e)

-- each node that is up is n or helps
taken : {B : Type 0} (nodes : List (NodeState B)) (n k : ℕ) → (node_at nodes k).up ≡ true → (k ≡ n → ⊥)
    → Has (helper_at nodes n k) (seat_at nodes k)
taken {B} nodes n k u d = go (k == n) (node_at nodes k).up refl u
  where
    go : (a v : Bool) → (k == n) ≡ a → v ≡ true
        → Has (if a || not v then [] else seat_at nodes k ∷ []) (seat_at nodes k)
    go true v e f = absurd (d (eqb-true k n e))
    go false false e f = off (sym f)
    go false true e f = here

all_help : {B : Type 0} (nodes : List (NodeState B)) (n most k : ℕ) → 1 ≤ k → k ≤ most → (node_at nodes k).up ≡ true → (k ≡ n → ⊥)
    → Has (helpers_of nodes n most) (seat_at nodes k)
all_help nodes n zero k l m u d = absurd (omega (arith, l, m))
all_help {B} nodes n (suc j) k l m u d =
    ⊎_elim
    (λ (e : k ≡ suc j). has_right (helpers_of nodes n j)
    (subst (λ (i : ℕ). Has (helper_at nodes n i) (seat_at nodes k)) e (taken nodes n k u d)))
    (λ (e : k ≡ suc j → ⊥). has_left (helper_at nodes n (suc j)) (all_help nodes n j k l (less e) u d))
    (cases_eq k (suc j))
  where
    less : (k ≡ suc j → ⊥) → k ≤ j
    less e = grind arith

or_right : (a b : Bool) → b ≡ true → a || b ≡ true
or_right true b e = refl
or_right false b e = e

any_has : {B : Type 0} (ss : List (Seat B)) (s : Seat B) (k : ℕ) → Has ss s → s.number ≡ k → list_any (λ (t : Seat B). t.number == k) ss ≡ true
any_has [] s k h e = absurd (has_nil h)
any_has {B} (t ∷ ts) s k h e =
    ⊎_elim
    (λ (p : t ≡ s). or_left (t.number == k) (list_any (λ (u : Seat B). u.number == k) ts) (eq-eqb t.number k (ap (λ (u : Seat B). u.number) p ∙ e)))
    (λ g. or_right (t.number == k) (list_any (λ (u : Seat B). u.number == k) ts) (any_has ts s k g e))
    (has_cons h)

module _ {B : Type 0} (same : B → B → Bool) (members : ℕ) (events : List (Event B)) where
  abbrev w : World B
  w = played same members events

  takes_part : (n j : ℕ) → (node_at w.nodes j).up ≡ true
      → (n == j) || list_any (λ (s : Seat B). s.number == j) (helpers_of w.nodes n members) ≡ true
  takes_part n j u =
      ⊎_elim
      (λ (e : j ≡ n). or_left (n == j) (list_any (λ (s : Seat B). s.number == j) (helpers_of w.nodes n members)) (eq-eqb n j (sym e)))
      (λ (d : j ≡ n → ⊥).
      let m = is_member_up same members events j u in
      or_right (n == j) (list_any (λ (s : Seat B). s.number == j) (helpers_of w.nodes n members))
      (any_has (helpers_of w.nodes n members) (seat_at w.nodes j) j
      (all_help w.nodes n members j m.0 m.1 u d) refl))
      (cases_eq j n)

  pub is_crew : (n : ℕ) (own : Seat B) → own.number ≡ n → own.node ≡ node_at w.nodes n → is_majority members (λ k. (node_at w.nodes k).up) ≡ true
      → IsCrew members w n (crew_of members own (helpers_of w.nodes n members))
  is_crew n own number is enough =
      record {
        members_is = refl;
        number = number;
        own = sym is;
        apart = apart w.nodes n members;
        are = λ s h. (helps w.nodes n members s h).is;
        ups = λ s h. (helps w.nodes n members s h).up;
        enough =
            majority_more members (λ k. (node_at w.nodes k).up)
            (λ k. (n == k) || list_any (λ (s : Seat B). s.number == k) (helpers_of w.nodes n members)) (λ j u. takes_part n j u) enough;
      }
