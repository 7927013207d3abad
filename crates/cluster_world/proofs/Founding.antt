-- The first world, as its members are put in.
use Rattle.std.proofs.Common.{◌≡◌, ◌⊎◌, inl, inr, ⊎_elim, ℕ, zero, suc, ◌≤◌, refl, sym, ap, ◌∙◌, subst, arith}
use Rattle.std.proofs.Common.{List, [], ◌∷◌, ◌++◌, length, Option, Some, None}
use Rattle.std.specs.Prelude.{slice_get}
use Rattle.std.proofs.lemmas.List.{map-append, length-append}
use Rattle.paxos_packets.specs.Rows.{first_rows}
use Rattle.paxos_packets.specs.declared.entry.Entry.{Entry}
use Rattle.paxos_packets.specs.declared.entry.Entry.TheVariants.{Boot}
use Rattle.paxos_packets.specs.declared.transport.Transport.{Transport}
use Rattle.paxos_node.specs.Applying.{started}
use Rattle.replica_machine.specs.Replay.{Machine}
use Rattle.replica_follower.specs.Following.{Followed, Follows}
use Rattle.replica_follower.specs.Handed.{said_in}
use Rattle.cluster_world.specs.Members.{MemberState, machines_of, AreMembers, held_of}
use Rattle.cluster_world.specs.StandsAt.{told_by, machine_at, under_at, Shows, LoadsFirst, StandsIn}
use Rattle.cluster_world.specs.World.{founded, first_boots, first_world, node_at, under}
use Rattle.cluster_world.specs.Founding.{HasBegun, AreFounded, AllFollow, NoneGivenUp}
use Rattle.cluster_world.proofs.Lists.{has_nil}
use Rattle.cluster_world.proofs.Replacing.{get_unmap, some_same}
use Rattle.cluster_world.proofs.EveryWorld.{plain_at}

-- an element of a list with one more at its end
pub get_last : {A : Type 0} (xs : List A) (x : A) (i : ℕ) (y : A) → slice_get (xs ++ x ∷ []) i ≡ Some y
    → (slice_get xs i ≡ Some y) ⊎ ((i ≡ length xs) × (y ≡ x))
get_last [] x zero y h = inr (refl, sym (some_same h))
get_last [] x (suc i) y h = absurd (cc)
get_last (a ∷ xs) x zero y h = inl h
get_last (a ∷ xs) x (suc i) y h =
    ⊎_elim (λ g. inl g) (λ (g : (i ≡ length xs) × (y ≡ x)). inr (ap suc g.0, g.1)) (get_last xs x i y h)

pub get_seam : {A : Type 0} (xs : List A) (x : A) (ys : List A) → slice_get (xs ++ x ∷ ys) (length xs) ≡ Some x
get_seam [] x ys = refl
get_seam (a ∷ xs) x ys = get_seam xs x ys

module _ {B M Y : Type 0} (members : ℕ) where
  pub founded_more : (list : List (MemberState B M Y)) (made : List (Entry B)) (me : ℕ) (s : MemberState B M Y) → AreFounded members list made
      → me ≡ suc (length list) → s.node ≡ started me first_rows → HasBegun members (length list) s
      → AreFounded members (list ++ s ∷ []) (made ++ Boot me 1 ∷ [])
  founded_more list made me s f is n b =
      record {
        nodes =
            map-append (λ (z : MemberState B M Y). z.node) list (s ∷ [])
            ∙ ((λ j. f.nodes j ++ (n ∙ ap (λ k. started k first_rows) is) j ∷ []) ∙ ap (λ k. founded k) (sym longer));
        made_is = (λ j. f.made_is j ++ Boot (is j) 1 ∷ []) ∙ ap (λ k. first_boots k) (sym longer);
        each = λ i x g. ⊎_elim (λ h. f.each i x h)
            (λ (h : (i ≡ length list) × (x ≡ s)). subst (λ (z : ℕ × MemberState B M Y). HasBegun members z.0 z.1) (λ j. (sym h.0 j, sym h.1 j)) b)
            (get_last list s i x g);
      }
    where
      longer : length (list ++ s ∷ []) ≡ suc (length list)
      longer = let l = length-append list (s ∷ []) in omega (arith, l)

pub follow_more : {B M S Y : Type 0} (content : M → S) (m : Machine B S Y) (list : List (MemberState B M Y)) (s : MemberState B M Y)
    → AllFollow content m list → Follows content m [] s.machine → AllFollow content m (list ++ s ∷ [])
follow_more {B} {M} {S} {Y} content m list s all a i x g =
    ⊎_elim (λ h. all i x h)
    (λ (h : (i ≡ length list) × (x ≡ s)). subst (λ (z : MemberState B M Y). Follows content m [] z.machine) (sym h.1) a)
    (get_last list s i x g)

pub are_members : {B M Y : Type 0} (members : ℕ) (list : List (MemberState B M Y)) (made : List (Entry B)) → AreFounded members list made
    → length list ≡ members → AreMembers members list
are_members members list made f n =
    record { count = n; each = λ i s g. let b = f.each i s g in (b.me, b.members_are, b.node) }

-- a node that was founded has applied nothing
none_applied : {B : Type 0} (n k : ℕ) → (node_at {B = B} (founded n) k).applied ≡ []
none_applied {B} n k = (plain_at {B = B} n k).applied

pub shows_first : {B M Y : Type 0} (members : ℕ) (list : List (MemberState B M Y)) (made : List (Entry B)) (first : List ℕ)
    → AreFounded members list made → length list ≡ members → Shows (held_of members list [] made first) (first_world members)
shows_first {B} {M} {Y} members list made first f n =
    record {
      nodes = f.nodes ∙ ap (λ k. founded k) n;
      sent = refl;
      made = f.made_is ∙ ap (λ k. first_boots k) n;
      logs =
          λ i g h u.
          let s = get_unmap (λ (z : MemberState B M Y). z.machine) list i g h in
          ap (λ (z : Followed B M Y). z.log.applied) (sym s.2)
          ∙ ((f.each i s.0 s.1).log
          ∙ sym (ap (λ ns. (node_at ns (suc i)).applied) f.nodes ∙ none_applied {B = B} (length list) (suc i)));
    }

pub stands_first : {B M S Y : Type 0} (content : M → S) (loaded : List ℕ → Option S) (m : Machine B S Y) (members : ℕ)
    (list : List (MemberState B M Y)) (made : List (Entry B)) (first : List ℕ)
    → AreFounded members list made → length list ≡ members → AllFollow content m list → LoadsFirst loaded m.first first
    → StandsIn content loaded m (held_of members list [] made first) (first_world members)
stands_first {B} {M} {S} {Y} content loaded m members list made first f n all loads =
    record {
      shows = shows_first members list made first f n;
      handed = λ t. told_at t.node t;
      own =
          λ i g h t d.
          let s = get_unmap (λ (z : MemberState B M Y). z.machine) list i g h in
          ap (λ (l : List _). said_in t l) (ap (λ (z : Followed B M Y). z.told) (sym s.2) ∙ (f.each i s.0 s.1).told);
      follows =
          λ i g h.
          let s = get_unmap (λ (z : MemberState B M Y). z.machine) list i g h in
          subst (λ below. Follows content m below g) (sym (none_under (suc i)))
          (subst (λ (z : Followed B M Y). Follows content m [] z) s.2 (all i s.0 s.1));
      loads = loads;
      cuts = λ c h. absurd (has_nil h);
    }
  where
    none_under : (k : ℕ) → under_at (first_world {B = B} members) k ≡ []
    none_under k = ap (λ o. under {B = B} [] o) (plain_at {B = B} members k).snapshot

    told_some : (o : Option (Followed B M Y)) (i : ℕ) (t : Transport) → slice_get (machines_of list) i ≡ o → told_by o t ≡ []
    told_some None i t h = refl
    told_some (Some g) i t h =
        let s = get_unmap (λ (z : MemberState B M Y). z.machine) list i g h in
        ap (λ (l : List _). said_in t l) (ap (λ (z : Followed B M Y). z.told) (sym s.2) ∙ (f.each i s.0 s.1).told)

    told_at : (k : ℕ) (t : Transport) → told_by (machine_at (machines_of list) k) t ≡ []
    told_at zero t = refl
    told_at (suc i) t = told_some (slice_get (machines_of list) i) i t refl

pub none_given_up : {B M Y : Type 0} (members : ℕ) (list : List (MemberState B M Y)) (made : List (Entry B)) → AreFounded members list made
    → NoneGivenUp (machines_of list)
none_given_up members list made f i g h =
    let s = get_unmap (λ (z : MemberState _ _ _). z.machine) list i g h in
    ap (λ (z : Followed _ _ _). z.given_up) (sym s.2) ∙ (f.each i s.0 s.1).alive

-- a list of some has a first one
pub first_of : {A : Type 0} (xs : List A) (n : ℕ) → length xs ≡ n → 3 ≤ n → (x : A) × (slice_get xs 0 ≡ Some x)
first_of [] n e l = absurd (none e l)
  where
    none : {k : ℕ} → 0 ≡ k → 3 ≤ k → ⊥
    none e l = omega arith
first_of (x ∷ xs) n e l = (x, refl)
