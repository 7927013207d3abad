-- Why there is no rescue, by the first cause, and what a rescue is otherwise.
use Rattle.std.proofs.Common.{◌≡◌, ℕ, ◌<◌, ◌≤◌, Bool, true, false, not, Result, Ok, Err, Option, Some, None, refl, sym, ap, ◌∙◌, subst, arith, List, [], ◌++◌, ◌+◌, suc, ◌||◌}
use Rattle.std.specs.Prelude.{IfOk, IsErrAnd, IsOkUnless, OnOk, if◌then◌else◌}
use Rattle.std.proofs.lemmas.Result.{err_from_is_err_and}
use Rattle.paxos_node.specs.declared.event.Event.{Event}
use Rattle.paxos_node.specs.Events.{last_number}
use Rattle.paxos_node.specs.Held.{Held}
use Rattle.paxos_packets.specs.Members.{is_majority, count_nodes}
use Rattle.paxos_packets.specs.Rows.{last_boot}
use Rattle.paxos_planning.specs.Node.{NodeState}
use Rattle.cluster_world.proofs.Crewing.{is_crew}
use Rattle.cluster_world.specs.declared.fault.RescueFault.{RescueFault}
use Rattle.cluster_world.specs.declared.fault.RescueFault.TheVariants.{NoMajority, NodeDown, NoRoom, Memory}
use Rattle.cluster_world.specs.Helpers.{helpers_of, seat_at}
use Rattle.cluster_world.specs.Rescue.{HasRoom, Refuses, Rescues, MayBeRescued, NoDeadEnd, RescuesHaveRoom, rescue_refused, of_course, has_majority_up, is_up_at, any_member, is_crowded}
use Rattle.cluster_world.specs.World.{World, node_at, played}
use Rattle.world_rescue.specs.Course.{Crew, Act, act, seat_of, course}
use Rattle.world_rescue.specs.Parts.{crew_of}
use Rattle.world_rescue.specs.declared.fault.CourseFault.{CourseFault}
use Rattle.world_rescue.specs.declared.fault.CourseFault.TheVariants as course_fault

-- the first cause
abbrev pub first_cause : Bool → Bool → Bool → Option RescueFault
first_cause m u c = if not m then Some NoMajority else if not u then Some NodeDown else if c then Some NoRoom else None

module _ (A : Type 0) where
  pub no_majority : (m u c : Bool) → m ≡ false → Refuses {A = A} (first_cause m u c) (Err NoMajority)
  no_majority false u c e = refl
  no_majority true u c e = absurd (cc)

  pub node_down : (m u c : Bool) → m ≡ true → u ≡ false → Refuses {A = A} (first_cause m u c) (Err NodeDown)
  node_down true false c e f = refl
  node_down true true c e f = absurd (cc)
  node_down false u c e f = absurd (cc)

  pub no_room : (m u c : Bool) → m ≡ true → u ≡ true → c ≡ true → Refuses {A = A} (first_cause m u c) (Err NoRoom)
  no_room true true true e f g = refl
  no_room true true false e f g = absurd (cc)
  no_room true false c e f g = absurd (cc)
  no_room false u c e f g = absurd (cc)

  pub no_memory : (m u c : Bool) → m ≡ true → u ≡ true → c ≡ false → Refuses {A = A} (first_cause m u c) (Err Memory)
  no_memory true true false e f g = refl
  no_memory true true true e f g = absurd (cc)
  no_memory true false c e f g = absurd (cc)
  no_memory false u c e f g = absurd (cc)

  pub last : (r : Result A RescueFault) (m u c : Bool) → m ≡ true → u ≡ true → c ≡ false → (first_cause m u c ≡ None → IsOkUnless r Memory)
      → Refuses {A = A} (first_cause m u c) r
  last r true true false e f g h = h refl
  last r true true true e f g h = absurd (cc)
  last r true false c e f g h = absurd (cc)
  last r false u c e f g h = absurd (cc)

none_refused : {A : Type 0} (o : Option RescueFault) (x : A) → Refuses o (Ok x) → o ≡ None
none_refused None x h = refl
none_refused (Some f) x h = absurd (cc)

majority : (m u c : Bool) → first_cause m u c ≡ None → m ≡ true
majority true u c e = refl
majority false u c e = absurd (cc)

-- what is given is a rescue
pub is_rescue : {A B : Type 0} (same : B → B → Bool) (members : ℕ) (es : List (Event B)) (n number : ℕ) (body : B) (items : A → List (Event B))
    (r : Result A RescueFault) → NoDeadEnd B same → 3 ≤ members → members ≤ 7 → Refuses (rescue_refused members (played same members es) n) r
    → MayBeRescued (node_at (played same members es).nodes n) number
    → ((node_at (played same members es).nodes n).rows.boot < last_boot → (node_at (played same members es).nodes n).taken < last_number →
    IfOk r (λ (x : A). items x ≡ course same (crew_of members (seat_at (played same members es).nodes n)
    (helpers_of (played same members es).nodes n members)) (act number body)))
    → IfOk r (λ (x : A). Rescues same members (played same members es) n number body (items x))
is_rescue same members es n number body items (Err f) law many few refused may gives = tt
is_rescue {A} {B} same members es n number body items (Ok x) law many few refused may gives =
    let w : World B = played same members es in
    let free : rescue_refused members w n ≡ None = none_refused (rescue_refused members w n) x refused in
    subst (λ (l : List (Event B)). Rescues same members w n number body l) (sym (gives may.boots may.acts))
    (law members many few es n number body (crew_of members (seat_at w.nodes n) (helpers_of w.nodes n members))
    (is_crew same members es n (seat_at w.nodes n) refl refl
    (majority (has_majority_up members w) (is_up_at w n) (any_member members (λ k. is_crowded (node_at w.nodes k))) free)) free may)

-- and where none is refused its crew has room
pub has_room : {B : Type 0} (same : B → B → Bool) (members : ℕ) (es : List (Event B)) (n : ℕ) (nodes : List (NodeState B))
    → nodes ≡ (played same members es).nodes → RescuesHaveRoom B same → 3 ≤ members → members ≤ 7
    → rescue_refused members (played same members es) n ≡ None → HasRoom (crew_of members (seat_at nodes n) (helpers_of nodes n members))
has_room {B} same members es n nodes p law many few free =
    let w : World B = played same members es in
    subst (λ (ns : List (NodeState B)). HasRoom (crew_of members (seat_at ns n) (helpers_of ns n members))) (sym p)
    (law members many few es n (crew_of members (seat_at w.nodes n) (helpers_of w.nodes n members))
    (is_crew same members es n (seat_at w.nodes n) refl refl
    (majority (has_majority_up members w) (is_up_at w n) (any_member members (λ k. is_crowded (node_at w.nodes k))) free)) free)

-- a course that is not listed for lack of memory
pub course_memory : {A : Type 0} (r : Result A RescueFault) (f : CourseFault) → IsErrAnd r (λ g. g ≡ of_course f) → f ≡ course_fault.Memory
    → IsOkUnless r Memory
course_memory {A} r f h m =
    let told = err_from_is_err_and r h in
    subst (λ (s : Result A RescueFault). IsOkUnless s Memory) (sym told.1) (told.2 ∙ ap of_course m)

-- by what the code tests
module _ (A : Type 0) {B : Type 0} (members n : ℕ) (nodes : List (NodeState B)) (w : World B) (p : nodes ≡ w.nodes) where
  majority_is : (b c : Bool) → b ≡ is_majority members (λ k. (node_at nodes k).up) → b ≡ c → has_majority_up members w ≡ c
  majority_is b c e f = ap (λ (ns : List (NodeState B)). is_majority members (λ k. (node_at ns k).up)) (sym p) ∙ sym e ∙ f

  up_is : (c : Bool) → (node_at nodes n).up ≡ c → is_up_at w n ≡ c
  up_is c e = ap (λ (ns : List (NodeState B)). (node_at ns n).up) (sym p) ∙ e

  crowd_is : (b c : Bool) → b ≡ any_member members (λ k. is_crowded (node_at nodes k)) → b ≡ c
      → any_member members (λ k. is_crowded (node_at w.nodes k)) ≡ c
  crowd_is b c e f = ap (λ (ns : List (NodeState B)). any_member members (λ k. is_crowded (node_at ns k))) (sym p) ∙ sym e ∙ f

  pub exit_majority : (b : Bool) → b ≡ is_majority members (λ k. (node_at nodes k).up) → b ≡ false
      → Refuses {A = A} (rescue_refused members w n) (Err NoMajority)
  exit_majority b e f = no_majority A (has_majority_up members w) (is_up_at w n) (any_member members (λ k. is_crowded (node_at w.nodes k))) (majority_is b false e f)

  pub exit_down : (b : Bool) → b ≡ is_majority members (λ k. (node_at nodes k).up) → b ≡ true → (node_at nodes n).up ≡ false
      → Refuses {A = A} (rescue_refused members w n) (Err NodeDown)
  exit_down b e f u =
      node_down A (has_majority_up members w) (is_up_at w n) (any_member members (λ k. is_crowded (node_at w.nodes k))) (majority_is b true e f) (up_is false u)

  pub exit_room : (b d : Bool) → b ≡ is_majority members (λ k. (node_at nodes k).up) → b ≡ true → (node_at nodes n).up ≡ true
      → d ≡ any_member members (λ k. is_crowded (node_at nodes k)) → d ≡ true → Refuses {A = A} (rescue_refused members w n) (Err NoRoom)
  exit_room b d e f u h i =
      no_room A (has_majority_up members w) (is_up_at w n) (any_member members (λ k. is_crowded (node_at w.nodes k))) (majority_is b true e f) (up_is true u)
      (crowd_is d true h i)

  pub exit_memory : (b d : Bool) → b ≡ is_majority members (λ k. (node_at nodes k).up) → b ≡ true → (node_at nodes n).up ≡ true
      → d ≡ any_member members (λ k. is_crowded (node_at nodes k)) → d ≡ false → Refuses {A = A} (rescue_refused members w n) (Err Memory)
  exit_memory b d e f u h i =
      no_memory A (has_majority_up members w) (is_up_at w n) (any_member members (λ k. is_crowded (node_at w.nodes k))) (majority_is b true e f) (up_is true u)
      (crowd_is d false h i)

  -- what the last call returns
  pub exit_last : (r : Result A RescueFault) (b d : Bool) → b ≡ is_majority members (λ k. (node_at nodes k).up) → b ≡ true → (node_at nodes n).up ≡ true
      → d ≡ any_member members (λ k. is_crowded (node_at nodes k)) → d ≡ false → (rescue_refused members w n ≡ None → IsOkUnless r Memory)
      → Refuses {A = A} (rescue_refused members w n) r
  exit_last r b d e f u h i memory =
      last A r (has_majority_up members w) (is_up_at w n) (any_member members (λ k. is_crowded (node_at w.nodes k))) (majority_is b true e f) (up_is true u)
      (crowd_is d false h i) memory

-- what a call gives

pub from_if_ok : {A E : Type 0} (r : Result A E) (x : A) (P : A → Type 0) → r ≡ Ok x → IfOk r P → P x
from_if_ok {A} {E} r x P e h = subst (λ (s : Result A E). IfOk s P) e h

pub appended : {A E B : Type 0} (same : B → B → Bool) (c d : Crew B) (a : Act B) (old new : List (Event B)) (r : Result A E) (x : A) → c ≡ d → old ≡ []
    → r ≡ Ok x → (c.own.node.rows.boot < last_boot → c.own.node.taken < last_number → OnOk r (new ≡ old ++ course same c a))
    → d.own.node.rows.boot < last_boot → d.own.node.taken < last_number → new ≡ course same d a
appended {A} {E} {B} same c d a old new r x p q e h boots acts =
    from_if_ok r x (λ _. new ≡ old ++ course same d a) e
    (subst (λ (k : Crew B). k.own.node.rows.boot < last_boot → k.own.node.taken < last_number → OnOk r (new ≡ old ++ course same k a)) p h boots acts)
    ∙ ap (λ (es : List (Event B)). es ++ course same d a) q

pub seated : {B : Type 0} (h : Held B) (nodes : List (NodeState B)) (n : ℕ) → h.me ≡ n → h.state ≡ node_at nodes n → seat_of h ≡ seat_at nodes n
seated h nodes n p q = λ i. record { number = p i; node = q i }

-- one node more is counted

pub count_on : (test : ℕ → Bool) (below count now : ℕ) → count ≡ count_nodes test below → count ≤ below
    → now ≡ (if test (below + 1) then 1 else 0) + count → (now ≡ count_nodes test (below + 1)) × (now ≤ below + 1)
count_on test below count now p l e = (
  e ∙ (λ i. (if test (more i) then 1 else 0) + p i) ∙ ap (λ (k : ℕ). count_nodes test k) (sym more),
  go (test (below + 1)) now e,
)
  where
    more : below + 1 ≡ suc below
    more = omega arith

    go : (b : Bool) (z : ℕ) → z ≡ (if b then 1 else 0) + count → z ≤ below + 1
    go true z q = omega (arith, q, l)
    go false z q = omega (arith, q, l)

pub any_on : (test : ℕ → Bool) (below : ℕ) (crowded now : Bool) → crowded ≡ any_member below test → now ≡ crowded || test (below + 1)
    → now ≡ any_member (below + 1) test
any_on test below crowded now p e =
    e ∙ (λ i. p i || test (more i)) ∙ ap (λ (k : ℕ). any_member k test) (sym more)
  where
    more : below + 1 ≡ suc below
    more = omega arith
