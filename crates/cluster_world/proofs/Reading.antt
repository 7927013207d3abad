-- What readers of a world in code return.
use Rattle.std.proofs.Common.{◌≡◌, Bool, false, subst, ℕ, zero, suc, ◌+◌, ◌<◌, ◌≤◌, take, append_assoc, refl, sym, ap, ◌∙◌, arith, List, [], ◌∷◌, ◌++◌, length, Option, Some, None}
use Rattle.std.specs.Prelude.{slice_get, slice_index_or, Result, Ok, Err, OnOk, OnErr}
use Rattle.std.proofs.lemmas.List.{get_or_past, length-map, append-nil, take_all}
use Rattle.std.proofs.lemmas.Option.{slice_get_past, slice_get_read}
use Rattle.paxos_planning.specs.Node.{NodeState}
use Rattle.replica_follower.specs.Following.{Followed}
use Rattle.paxos_node.specs.declared.event.Event.{Event}
use Rattle.cluster_world.specs.Members.{MemberState, nodes_of, machines_of}
use Rattle.paxos_packets.specs.Snapshot.{Snapshot}
use Rattle.cluster_world.specs.MemberSnapshots.{with_octets}
use Rattle.cluster_world.specs.StandsAt.{Held, HasLog, machine_at, Shows, ShowsAt}
use Rattle.cluster_world.specs.World.{World, absent, node_at, played}
use Rattle.cluster_world.proofs.Replacing.{get_map}
use Rattle.cluster_world.proofs.Pending.{down_is_rows}
use Rattle.cluster_world.proofs.Worlds.{node_of_get}

module _ {B M Y : Type 0} (list : List (MemberState B M Y)) where
  pub node_there : (n i : ℕ) (s : MemberState B M Y) → n ≡ suc i → slice_get list i ≡ Some s → node_at (nodes_of list) n ≡ s.node
  node_there n i s is at =
      ap (λ k. node_at (nodes_of list) k) is
      ∙ node_of_get (nodes_of list) i s.node (get_map (λ (z : MemberState B M Y). z.node) list i s at)

  pub machine_there : (n i : ℕ) (s : MemberState B M Y) → n ≡ suc i → slice_get list i ≡ Some s → machine_at (machines_of list) n ≡ Some s.machine
  machine_there n i s is at =
      ap (λ k. machine_at (machines_of list) k) is ∙ get_map (λ (z : MemberState B M Y). z.machine) list i s at

  pub node_past : (n i : ℕ) → n ≡ suc i → length list ≤ i → node_at (nodes_of list) n ≡ absent
  node_past n i is l =
      ap (λ k. node_at (nodes_of list) k) is
      ∙ get_or_past (nodes_of list) i absent (let g = length-map list (λ (z : MemberState B M Y). z.node) in omega (arith, g, l))

  pub machine_past : (n i : ℕ) → n ≡ suc i → length list ≤ i → machine_at (machines_of list) n ≡ None
  machine_past n i is l =
      ap (λ k. machine_at (machines_of list) k) is
      ∙ slice_get_past (machines_of list) i (let g = length-map list (λ (z : MemberState B M Y). z.machine) in omega (arith, g, l))

module _ {B M Y : Type 0} (w : Held B M Y) (v : World B) (h : Shows w v) where
  log_of_at : (n : ℕ) (f : Followed B M Y) → machine_at w.machines n ≡ Some f → HasLog (node_at w.nodes n) f
  log_of_at zero f e = absurd (cc)
  log_of_at (suc i) f e = h.logs i f e

  pub has_log_at : (n : ℕ) (x : NodeState B) (f : Followed B M Y) → node_at w.nodes n ≡ x → machine_at w.machines n ≡ Some f → HasLog x f
  has_log_at n x f is e = subst (λ y. HasLog y f) is (log_of_at n f e)

-- a node that is down has no log
pub none_down : {B M Y : Type 0} (same : B → B → Bool) (w : Held B M Y) (es : List (Event B)) → ShowsAt same w es
    → (n : ℕ) (x : NodeState B) → node_at w.nodes n ≡ x → x.up ≡ false → x.applied ≡ []
none_down same w es h n x is d =
    let there = ap (λ ns. node_at ns n) h.nodes in
    let here : x ≡ node_at (played same w.members es).nodes n = sym is ∙ there in
    ap (λ (y : NodeState _). y.applied)
    (here ∙ down_is_rows same w.members es n (ap (λ (y : NodeState _). y.up) (sym here) ∙ d))

-- one event on, with its octets, or not
pub leads_on : {B R F : Type 0} (P : List (Event B) → Type 0) (r : Result R F) (es : List (Event B)) (e : Event B)
    → OnOk r ((cut : Option Snapshot) × P (es ++ with_octets cut e ∷ [])) → OnErr r (P es) → (x : List (Event B)) × P x
leads_on P (Ok x) es e ok back = (es ++ with_octets ok.0 e ∷ [], ok.1)
leads_on P (Err x) es e ok back = (es, back)

-- so many more, and one
pub shows_more : {A : Type 0} (P : List A → Type 0) (es more : List A) (e : A) → P ((es ++ more) ++ e ∷ []) → (l : List A) × P (es ++ l)
shows_more P es more e h = (more ++ e ∷ [], subst (λ l. P l) (append_assoc es more (e ∷ [])) h)

-- the events so far, and one more

take_next : {A : Type 0} (xs : List A) (i : ℕ) (x : A) → slice_get xs i ≡ Some x → take i xs ++ x ∷ [] ≡ take (suc i) xs
take_next [] i x h = absurd (cc)
take_next (a ∷ xs) zero x h = ap (λ z. z ∷ []) (sym (same h))
  where
    same : {A : Type 0} {y z : A} → Some y ≡ Some z → y ≡ z
    same e = cc
take_next (a ∷ xs) (suc i) x h = ap (λ l. a ∷ l) (take_next xs i x h)

pub runs_on : {A : Type 0} (es xs : List A) (i : ℕ) (x : A) → i < length xs → x ≡ slice_index_or xs i x
    → (es ++ take i xs) ++ x ∷ [] ≡ es ++ take (i + 1) xs
runs_on es xs i x l h =
    let n : suc i ≡ i + 1 = omega arith in
    append_assoc es (take i xs) (x ∷ [])
    ∙ ap (λ k. es ++ k) (take_next xs i x (slice_get_read xs (length xs) i x refl l h) ∙ ap (λ j. take j xs) n)

pub run_none : {A : Type 0} (es xs : List A) → es ≡ es ++ take 0 xs
run_none es xs = sym (append-nil es)

pub run_whole : {A : Type 0} (es xs : List A) (i : ℕ) → length xs ≤ i → es ++ take i xs ≡ es ++ xs
run_whole es xs i l = ap (λ k. es ++ k) (take_all i xs l)
