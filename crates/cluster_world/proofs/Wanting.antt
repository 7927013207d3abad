-- What is pending at a node is wanted, and what is left of it after entries that do not end its boot.
use Rattle.std.proofs.Common.{◌≡◌, ◌⊎◌, inl, inr, ⊎_elim, ℕ, suc, ◌<◌, ◌≤◌, Bool, true, false, not, refl, sym, ap, ◌∙◌, subst, arith}
use Rattle.std.proofs.Common.{List, [], ◌∷◌, ◌++◌, length, drop, append_assoc}
use Rattle.std.specs.Prelude.{filter}
use Rattle.std.proofs.lemmas.Bool.{cond_both, cond-false, or_parts, cases_Bool}
use Rattle.cluster_world.proofs.Ends.{has_end_both, standing_both}
use Rattle.cluster_world.proofs.Fading.{Fades, Past, past_on, past_is_over, old_boots, passes_both, left_pending}
use Rattle.cluster_world.proofs.Lists.{has_nil, has_cons, has_right, filter_has, has_filter}
use Rattle.cluster_world.proofs.Owing.{kept, owed_by, MayStand, Early, stays, owed_early, owed_live}
use Rattle.cluster_world.proofs.Staying.{BootsUpTo, live_on, lost_past, boot_old, taken_on, next_taken}
use Rattle.cluster_world.specs.Has.{Has, here}
use Rattle.cluster_world.specs.Origins.{Act}
use Rattle.cluster_world.specs.Owed.{items_after}
use Rattle.paxos_packets.specs.declared.entry.Entry.{Entry}
use Rattle.paxos_packets.specs.declared.entry.Entry.TheVariants.{Noop, Boot, Lost, Item}
use Rattle.paxos_node.specs.Adopting.{pending_behind}
use Rattle.paxos_node.specs.Applying.{has_end}
use Rattle.replica_machine.specs.declared.roll.Standing.{Standing}
use Rattle.replica_machine.specs.declared.roll.Standing.TheVariants.{Live}
use Rattle.replica_machine.specs.Roll.{standing, standings, standing_from, is_new_boot, is_live, is_wanted, was_taken, taken_in}

off : false ≡ true → ⊥
off e = cc

-- fewer pass a test that one of them fails
short : {A : Type 0} (p : A → Bool) (xs : List A) → length (filter p xs) ≤ length xs
short p [] = omega arith
short {A} p (x ∷ xs) =
    cond_both (p x) (x ∷ filter p xs) (filter p xs) (λ (l : List A). length l ≤ suc (length xs)) (λ t. both (short p xs))
    (λ t. one (short p xs))
  where
    both : length (filter p xs) ≤ length xs → suc (length (filter p xs)) ≤ suc (length xs)
    both l = omega arith

    one : length (filter p xs) ≤ length xs → length (filter p xs) ≤ suc (length xs)
    one l = omega arith

pub fewer : {A : Type 0} (p : A → Bool) (xs : List A) (x : A) → Has xs x → p x ≡ false → length (filter p xs) < length xs
fewer p [] x h f = absurd (has_nil h)
fewer {A} p (y ∷ xs) x h f =
    ⊎_elim
    (λ (e : y ≡ x). subst (λ (l : List A). length l < suc (length xs)) (sym (cond-false (p y) (y ∷ filter p xs) (filter p xs) (ap p e ∙ f)))
    (least (short p xs)))
    (λ i. cond_both (p y) (y ∷ filter p xs) (filter p xs) (λ (l : List A). length l < suc (length xs)) (λ t. both (fewer p xs x i f))
    (λ t. one (fewer p xs x i f)))
    (has_cons h)
  where
    least : length (filter p xs) ≤ length xs → length (filter p xs) < suc (length xs)
    least l = omega arith

    both : length (filter p xs) < length xs → suc (length (filter p xs)) < suc (length xs)
    both l = omega arith

    one : length (filter p xs) < length xs → length (filter p xs) < suc (length xs)
    one l = omega arith

-- an entry of node n in boot b
abbrev pub IsOwn : {B : Type 0} → ℕ → ℕ → Entry B → Type 0
IsOwn {B} n b e = (e ≡ Boot n b) ⊎ ((q : ℕ) × (t : ℕ) × (x : B) × (e ≡ Item n b q t x))

items_own : {B : Type 0} (n b j : ℕ) (acts : List (Act B)) (e : Entry B) → Has (items_after n b j acts) e → IsOwn n b e
items_own n b j [] e h = absurd (has_nil h)
items_own n b j (a ∷ acts) e h =
    ⊎_elim (λ i. inr (suc j, a.transport, a.body, sym i)) (λ i. items_own n b (suc j) acts e i) (has_cons h)

owed_own : {B : Type 0} (n b : ℕ) (s : Standing) (acts : List (Act B)) (e : Entry B) → Has (owed_by n b s acts) e → IsOwn n b e
owed_own n b s acts e =
    cond_both (is_live s b) (items_after n b (taken_in s) (drop (taken_in s) acts)) (Boot n b ∷ items_after n b 0 acts)
    (λ l. Has l e → IsOwn n b e)
    (λ t i. items_own n b (taken_in s) (drop (taken_in s) acts) e i)
    (λ t i. ⊎_elim (λ j. inl (sym j)) (λ j. items_own n b 0 acts e j) (has_cons i))

-- what is pending, by the node's standing in its log: what it owes, and losses of others' live boots
module _ {B : Type 0} (n b : ℕ) (acts : List (Act B)) (log pending : List (Entry B)) (may : MayStand b (standing n log) (length acts))
    (is : filter kept pending ≡ owed_by n b (standing n log) acts)
    (losts : (k c : ℕ) → Has pending (Lost k c) → (k ≡ n → ⊥) × (is_live (standing k log) c ≡ true)) where
  owed_one : (e : Entry B) → Has pending e → kept e ≡ true → Has (owed_by n b (standing n log) acts) e
  owed_one e h k = subst (λ l. Has l e) is (filter_has kept h k)

  pub own_one : (e : Entry B) → Has pending e → kept e ≡ true → IsOwn n b e
  own_one e h k = owed_own n b (standing n log) acts e (owed_one e h k)

  pub wants : (e : Entry B) → Has pending e → is_wanted log e ≡ true
  wants e h = ⊎_elim (λ k. owned k) (λ k. lost e h k) (cases_Bool (kept e))
    where
      owned : kept e ≡ true → is_wanted log e ≡ true
      owned k =
          (passes_both (is_wanted log) (owed_by n b (standing n log) acts) e
          (subst (λ l. Has l e) (sym (stays n b (standings log) (standing n log) acts may refl).1) (owed_one e h k))).0

      lost : (f : Entry B) → Has pending f → kept f ≡ false → is_wanted log f ≡ true
      lost Noop g k = absurd (off (sym k))
      lost (Boot j c) g k = absurd (off (sym k))
      lost (Item j c q t x) g k = absurd (off (sym k))
      lost (Lost j c) g k = (losts j c g).1

  -- entries that do not end the boot
  module _ (es : List (Entry B)) (ends : has_end n b (standing n log) es ≡ false) (boots : BootsUpTo n b es) where
    fades : (e : Entry B) → Has pending e → Fades log es e
    fades e h fs gs split over = go e h over
      where
        stands : (k : ℕ) → standing k (log ++ es) ≡ standing_from k (standing k (log ++ fs)) gs
        stands k = ap (λ l. standing k l) (ap (λ l. log ++ l) split ∙ sym (append_assoc log fs gs)) ∙ standing_both k (log ++ fs) gs

        ends_rest : has_end n b (standing n (log ++ fs)) gs ≡ false
        ends_rest =
            ap (λ s. has_end n b s gs) (standing_both n log fs)
            ∙ (or_parts (has_end n b (standing n log) fs) (has_end n b (standing_from n (standing n log) fs) gs)
            (sym (has_end_both n b (standing n log) fs gs) ∙ (ap (λ l. has_end n b (standing n log) l) (sym split) ∙ ends))).1

        boots_rest : BootsUpTo n b gs
        boots_rest c i = boots c (subst (λ l. Has l (Boot n c)) (sym split) (has_right fs i))

        back : (t : Bool) → not t ≡ false → t ≡ true
        back true q = refl
        back false q = sym q

        go : (f : Entry B) → Has pending f → is_wanted (log ++ fs) f ≡ false → is_wanted (log ++ es) f ≡ false
        go Noop g o = refl
        go (Boot k c) g o = ap (λ s. is_new_boot s c) (stands k) ∙ old_boots k c gs (standing k (log ++ fs)) o
        go (Lost k c) g o =
            ap (λ s. is_live s c) (stands k)
            ∙ past_is_over c (standing_from k (standing k (log ++ fs)) gs) (past_on k c gs (standing k (log ++ fs)) past)
          where
            past : Past c (standing k (log ++ fs))
            past =
                ⊎_elim (λ l. absurd (off (sym o ∙ l))) (λ p. p)
                (subst (λ s. (is_live s c ≡ true) ⊎ Past c s) (sym (standing_both k log fs))
                (live_on k c fs (standing k log) (inl (losts k c g).1)))
        go (Item k c q t x) g o =
            ap not
            (ap (λ s. was_taken s c q) (stands k)
            ∙ ⊎_elim (λ i. absurd (differ i)) (λ i. mine (node i.0 i.1 i.2 i.3) (boot i.0 i.1 i.2 i.3)) (own_one (Item k c q t x) g refl))
          where
            differ : ◌≡◌ {A = Entry B} (Item k c q t x) (Boot n b) → ⊥
            differ i = cc

            node : (q' t' : ℕ) (x' : B) → ◌≡◌ {A = Entry B} (Item k c q t x) (Item n b q' t' x') → k ≡ n
            node q' t' x' i = cc

            boot : (q' t' : ℕ) (x' : B) → ◌≡◌ {A = Entry B} (Item k c q t x) (Item n b q' t' x') → c ≡ b
            boot q' t' x' i = cc

            mine : k ≡ n → c ≡ b → was_taken (standing_from k (standing k (log ++ fs)) gs) c q ≡ true
            mine i j =
                subst (λ (z : ℕ × ℕ). was_taken (standing_from z.0 (standing z.0 (log ++ fs)) gs) z.1 q ≡ true) (λ a. (sym i a, sym j a))
                (taken_on n b q gs (standing n (log ++ fs))
                (subst (λ (z : ℕ × ℕ). was_taken (standing z.0 (log ++ fs)) z.1 q ≡ true) (λ a. (i a, j a))
                (back (was_taken (standing k (log ++ fs)) c q) o)) ends_rest boots_rest)

    pub left : pending_behind (standings log) es pending ≡ filter (is_wanted (log ++ es)) pending
    left = left_pending es log pending wants fades

    -- if they have all that is pending, one is no longer wanted
    module _ (all : (e : Entry B) → Has pending e → Has es e) where
      stands : (k : ℕ) → standing k (log ++ es) ≡ standing_from k (standing k log) es
      stands k = standing_both k log es

      abbrev Over : Type 0
      Over = (e : Entry B) × Has pending e × (is_wanted (log ++ es) e ≡ false)

      lost_over : (e : Entry B) → Has pending e → kept e ≡ false → Over
      lost_over Noop h k = absurd (off (sym k))
      lost_over (Boot j c) h k = absurd (off (sym k))
      lost_over (Item j c q t x) h k = absurd (off (sym k))
      lost_over (Lost j c) h k = (
        Lost j c,
        h,
        ap (λ s. is_live s c) (stands j)
            ∙ past_is_over c (standing_from j (standing j log) es) (lost_past j c es (standing j log) (inl (losts j c h).1)
            (all (Lost j c) h)),
      )

      -- the first that it owes
      boot_over : Has pending (Boot n b) → Over
      boot_over h = (Boot n b, h, ap (λ s. is_new_boot s b) (stands n) ∙ boot_old n b es (standing n log) (all (Boot n b) h))

      item_over : (q t : ℕ) (x : B) → standing n log ≡ Live b q → Has pending (Item n b (suc q) t x) → Over
      item_over q t x s h = (
        Item n b (suc q) t x,
        h,
        ap not (ap (λ s. was_taken s b (suc q)) (stands n) ∙ next_taken n b q t x es (standing n log) s ends boots
            (all (Item n b (suc q) t x) h)),
      )

      first_over : (f : Entry B) (fs : List (Entry B)) → filter kept pending ≡ f ∷ fs → Over
      first_over f fs e = ⊎_elim early live may
        where
          has : (g : Entry B) (gs : List (Entry B)) → owed_by n b (standing n log) acts ≡ g ∷ gs → Has pending g
          has g gs i = has_filter kept pending (subst (λ l. Has l g) (sym (is ∙ i)) here)

          early : Early b (standing n log) → Over
          early h = boot_over (has (Boot n b) (items_after n b 0 acts) (owed_early n b (standing n log) h acts))

          live : (q : ℕ) × (standing n log ≡ Live b q) × (q ≤ length acts) → Over
          live q = go (drop q.0 acts) refl
            where
              owed : owed_by n b (standing n log) acts ≡ items_after n b q.0 (drop q.0 acts)
              owed = ap (λ s. owed_by n b s acts) q.1 ∙ owed_live n b q.0 acts

              nothing : ◌≡◌ {A = List (Entry B)} (f ∷ fs) [] → ⊥
              nothing i = cc

              go : (more : List (Act B)) → drop q.0 acts ≡ more → Over
              go [] i = absurd (nothing (sym e ∙ (is ∙ (owed ∙ ap (λ l. items_after n b q.0 l) i))))
              go (a ∷ more) i =
                  item_over q.0 a.transport a.body q.1
                  (has (Item n b (suc q.0) a.transport a.body) (items_after n b (suc q.0) more) (owed ∙ ap (λ l. items_after n b q.0 l) i))

      pub one_over : (e : Entry B) → Has pending e → Over
      one_over e h = go (filter kept pending) refl
        where
          go : (l : List (Entry B)) → filter kept pending ≡ l → Over
          go (f ∷ fs) i = first_over f fs i
          go [] i = ⊎_elim (λ k. absurd (has_nil (subst (λ l. Has l e) i (filter_has kept h k)))) (λ k. lost_over e h k)
              (cases_Bool (kept e))

      -- so there is room for one more
      pub fewer_left : (room : ℕ) → 0 < room → length pending ≤ room → length (filter (is_wanted (log ++ es)) pending) < room
      fewer_left room some few = go pending refl
        where
          less : (a c : ℕ) → a < c → c ≤ room → a < room
          less a c l m = omega arith

          go : (l : List (Entry B)) → pending ≡ l → length (filter (is_wanted (log ++ es)) pending) < room
          go [] i = subst (λ (l : List (Entry B)). length (filter (is_wanted (log ++ es)) l) < room) (sym i) some
          go (e ∷ l) i =
              let o = one_over e (subst (λ l. Has l e) (sym i) here) in
              less (length (filter (is_wanted (log ++ es)) pending)) (length pending)
              (fewer (is_wanted (log ++ es)) pending o.0 o.1 o.2) few
