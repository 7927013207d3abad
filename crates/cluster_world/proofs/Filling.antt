-- After a pass the log is all that was proposed: no shorter, since all was learned; no longer and no other, since a majority holds what is chosen.
use Rattle.std.proofs.Common.{◌≡◌, ⊎_elim, ℕ, zero, suc, ◌+◌, ◌<◌, ◌≤◌, Bool, true, false, refl, sym, ap, ◌∙◌, subst, arith, List, [], ◌∷◌}
use Rattle.std.proofs.Common.{◌++◌, map}
use Rattle.std.proofs.Common.{length, Some}
use Rattle.std.specs.Prelude.{slice_get}
use Rattle.std.proofs.lemmas.Bool.{cases_lt}
use Rattle.cluster_world.proofs.EveryWorld.{world_ok}
use Rattle.cluster_world.proofs.Holding.{majorities_hold}
use Rattle.cluster_world.proofs.Learning.{nothing_waits}
use Rattle.cluster_world.proofs.Order.{Reaches, reach, lt_not_le, lt_from_test}
use Rattle.cluster_world.proofs.Slots.{AreAfter, after_at}
use Rattle.cluster_world.specs.Has.{Has}
use Rattle.paxos_packets.specs.Ballot.{below}
use Rattle.paxos_packets.specs.Body.{IsEquality}
use Rattle.paxos_packets.specs.Members.{IsMajority}
use Rattle.paxos_packets.specs.Snapshot.{floor_in}
use Rattle.paxos_packets.specs.declared.ballot.Ballot.{Ballot}
use Rattle.paxos_packets.specs.declared.entry.Entry.{Entry}
use Rattle.paxos_packets.specs.declared.vote.Vote.{Vote}
use Rattle.paxos_learner.specs.Learned.{is_learned}
use Rattle.paxos_node.specs.declared.event.Event.{Event}
use Rattle.cluster_world.specs.Chosen.{Chosen}
use Rattle.cluster_world.specs.Majorities.{Holds}
use Rattle.paxos_planning.specs.Node.{log_length}
use Rattle.cluster_world.specs.World.{World, node_at, played}
use Rattle.world_rescue.specs.Course.{entries_of}

-- lists with the same elements at the same places
alike : {A : Type 0} (xs ys : List A) → length xs ≡ length ys
    → ((i : ℕ) (x : A) → slice_get xs i ≡ Some x → slice_get ys i ≡ Some x) → xs ≡ ys
alike [] [] l h = refl
alike [] (y ∷ ys) l h = absurd (cc)
alike (x ∷ xs) [] l h = absurd (cc)
alike {A} (x ∷ xs) (y ∷ ys) l h = λ i. first i ∷ alike xs ys shorter (λ j z e. h (suc j) z e) i
  where
    first : x ≡ y
    first = some_is (sym (h zero x refl))
      where
        some_is : Some x ≡ Some y → x ≡ y
        some_is e = cc

    shorter : length xs ≡ length ys
    shorter = go (length xs) (length ys) l
      where
        go : (a b : ℕ) → suc a ≡ suc b → a ≡ b
        go a b e = omega arith

-- a list whose elements another one has at the same places begins it
begins : {A : Type 0} (xs ys : List A) → ((i : ℕ) (x : A) → slice_get xs i ≡ Some x → slice_get ys i ≡ Some x) → (rest : List A)
    × (xs ++ rest ≡ ys)
begins [] ys h = (ys, refl)
begins {A} (x ∷ xs) [] h = absurd (nothing (h zero x refl))
  where
    nothing : slice_get {X = A} [] zero ≡ Some x → ⊥
    nothing e = cc
begins {A} (x ∷ xs) (y ∷ ys) h =
    let r = begins xs ys (λ i z e. h (suc i) z e) in (r.0, λ i. first (sym (h zero x refl)) i ∷ r.1 i)
  where
    first : Some x ≡ Some y → x ≡ y
    first e = cc

get_map : {A C : Type 0} (f : A → C) (xs : List A) (i : ℕ) (x : A) → slice_get xs i ≡ Some x → slice_get (map f xs) i ≡ Some (f x)
get_map f [] i x h = absurd (cc)
get_map {A} {C} f (y ∷ xs) zero x h = ap (λ (z : A). Some (f z)) (some_is h)
  where
    some_is : Some y ≡ Some x → y ≡ x
    some_is e = cc
get_map f (y ∷ xs) (suc i) x h = get_map f xs i x h

within : {A : Type 0} (xs : List A) (i : ℕ) (x : A) → slice_get xs i ≡ Some x → i < length xs
within [] i x h = absurd (cc)
within (y ∷ xs) zero x h = omega arith
within (y ∷ xs) (suc i) x h = let l = within xs i x h in omega arith

pub length_map : {A C : Type 0} (f : A → C) (xs : List A) → length (map f xs) ≡ length xs
length_map f [] = refl
length_map f (x ∷ xs) = ap suc (length_map f xs)

module _ {B : Type 0} (same : B → B → Bool) (equal : IsEquality same) (members : ℕ) (many : 3 ≤ members) (events : List (Event B)) (n : ℕ)
    (b : Ballot)
    (long : ℕ) (es : List (Entry B)) (vs : List (Vote B)) (crew : ℕ → Bool) (most : IsMajority members crew)
    (chosen : (i : ℕ) (e : Entry B) → slice_get es i ≡ Some e → Chosen members (played same members events).sent (suc (long + i)) e)
    (after : AreAfter (long) vs)
    (voted : (v : Vote B) → Has vs v → Has (node_at (played same members events).nodes n).rows.votes v)
    (mine : (v : Vote B) → Has vs v → v.ballot ≡ b)
    (promised : (k : ℕ) → crew k ≡ true → (node_at (played same members events).nodes k).rows.promised ≡ Some b)
    (short : (k : ℕ) (v : Vote B) → crew k ≡ true → Has (node_at (played same members events).nodes k).rows.votes v
    → v.slot ≤ long + length vs)
    (lows : (k : ℕ) → crew k ≡ true → floor_in (node_at (played same members events).nodes k).rows.snapshot ≤ long) where
  abbrev w : World B
  w = played same members events

  -- what the crew holds of an entry after the old log
  held : (i : ℕ) (e : Entry B) → slice_get es i ≡ Some e → Holds members w.nodes crew (suc (long + i)) e
  held i e h =
      majorities_hold same equal members many events (suc (long + i)) e (chosen i e h) crew most
      (λ k m t. above (floor_in (node_at w.nodes k).rows.snapshot) (lows k t))
    where
      above : (a : ℕ) → a ≤ long → a < suc (long + i)
      above a l = omega arith

  none_beyond : length es ≤ length vs
  none_beyond = ⊎_elim (λ (l : length vs < length es). absurd (go l)) (λ l. l) (cases_lt (length vs) (length es))
    where
      go : length vs < length es → ⊥
      go l =
          let g = get_some es (length vs) l in
          let k = held (length vs) g.0 g.1 in
          past (long) (length vs) (short k.node (record { slot = suc (long + length vs); ballot = k.ballot; entry = g.0 })
          k.within k.has)
        where
          past : (a c : ℕ) → suc (a + c) ≤ a + c → ⊥
          past a c h = omega arith

          get_some : (xs : List (Entry B)) (i : ℕ) → i < length xs → (x : Entry B) × (slice_get xs i ≡ Some x)
          get_some [] i h = absurd (omega arith)
          get_some (x ∷ xs) zero h = (x, refl)
          get_some (x ∷ xs) (suc i) h = get_some xs i (omega arith)

  -- each is the entry proposed there
  pub at : (i : ℕ) (e : Entry B) → slice_get es i ≡ Some e → slice_get (entries_of vs) i ≡ Some e
  at i e h =
      let a = after_at (long) i vs after (less (within es i e h) none_beyond) in
      let k = held i e h in
      get_map (λ (v : Vote B). v.entry) vs i a.0 a.1
      ∙ ap (λ z. Some z) (k.above n a.0 (voted a.0 a.2) a.3 (subst (λ c. below c k.ballot ≡ false) (sym (mine a.0 a.2)) (not_below k)))
    where
      less : i < length es → length es ≤ length vs → i < length vs
      less g l = omega arith

      -- nobody in the crew has a vote above the ballot
      not_below : (k : Holds members w.nodes crew (suc (long + i)) e) → below b k.ballot ≡ false
      not_below k = go (below b k.ballot) refl
        where
          low : Reaches (Some b) k.ballot
          low =
              subst (λ p. Reaches p k.ballot) (promised k.node k.within)
              (((world_ok same equal members (omega arith) events).inv.nodes k.node).rows.low
              (record { slot = suc (long + i); ballot = k.ballot; entry = e }) k.has)

          go : (g : Bool) → below b k.ballot ≡ g → below b k.ballot ≡ false
          go true t = absurd (apart low)
            where
              apart : Reaches (Some b) k.ballot → ⊥
              apart (reach {p = p} {b = c} l) = lt_not_le (lt_from_test b k.ballot t) l
          go false t = t

  -- so they are the first of them
  pub first_of : (rest : List (Entry B)) × (es ++ rest ≡ entries_of vs)
  first_of = begins es (entries_of vs) at

  -- and all of them, if the log ends with them, and all slots were learned
  module _ (log_is : log_length (node_at w.nodes n) ≡ long + length es)
      (learned : (v : Vote B) → Has vs v → is_learned v.slot (node_at w.nodes n).learner.learned ≡ true) where
    none_missing : length vs ≤ length es
    none_missing = ⊎_elim (λ (l : length es < length vs). absurd (go l)) (λ l. l) (cases_lt (length es) (length vs))
      where
        go : length es < length vs → ⊥
        go l =
            let a = after_at (long) (length es) vs after l in
            off
            (sym (nothing_waits same members events n)
            ∙ (ap (λ k. is_learned k (node_at w.nodes n).learner.learned) (next ∙ sym a.3) ∙ learned a.0 a.2))
          where
            next : suc (log_length (node_at w.nodes n)) ≡ suc (long + length es)
            next = ap suc log_is

            off : false ≡ true → ⊥
            off e = cc

    pub filled : es ≡ entries_of vs
    filled = alike es (entries_of vs) lengths at
      where
        both : (a c : ℕ) → a ≤ c → c ≤ a → a ≡ c
        both a c g h = omega arith

        lengths : length es ≡ length (entries_of vs)
        lengths = both (length es) (length vs) none_beyond none_missing ∙ sym (length_map (λ (v : Vote B). v.entry) vs)
