-- What a queue tells, and how queues stay those of their pairs.
use Rattle.std.proofs.Common.{Bor, ◌≡◌, ◌⊎◌, inl, inr, ℕ, zero, suc, ◌+◌, ◌<◌, ◌≤◌, Bool, true, false, cond, not, ◌&&◌, ltb, List, [], ◌∷◌}
use Rattle.std.proofs.Common.{◌++◌, length, set, get_or, Option, Some, None, refl, sym, ap, subst, ◌∙◌, arith}
use Rattle.std.specs.Prelude.{slice_get, is_some, IfSome}
use Rattle.std.specs.Option.{option_copied}
use Rattle.std.proofs.lemmas.Option.{slice_get_past}
use Rattle.std.specs.List.{find, All}
use Rattle.std.specs.Prelude.{◌==◌}
use Rattle.std.proofs.lemmas.Bool.{cases_eq, ne_eqb, eq-eqb, and_from, ltb-true, ltb-false}
use Rattle.std.proofs.lemmas.List.Elements.{All-nil, All-push}
use Rattle.std.proofs.lemmas.List.{length-append, length-set, get_or-set_same, get_or-set_other, length_push, append-nil, get_or_append_left}
use Rattle.paxos_packets.specs.Members.{is_member}
use Rattle.script_program.specs.declared.player.waiting.Sent.{Sent}
use Rattle.script_program.specs.declared.player.queue.Queue.{Queue}
use Rattle.script_program.specs.Waiting.{mark_at}
use Rattle.script_program.specs.Queue.{pair_of, is_between, places_from, delivered_at, ArePassed, IsQueueOf, AreQueues}

-- the place after those that were skipped is the first that was not delivered
pub found_here : (sent : List Sent) (places : List ℕ) (i : ℕ) → i ≤ length places → ArePassed sent places i
    → (i < length places → delivered_at sent (get_or places i 0) ≡ false) → slice_get places i ≡ find (λ place. not (delivered_at sent place)) places
found_here sent [] i within passed stops = refl
found_here sent (x ∷ xs) zero within passed stops = rw (stops (omega arith)) refl
found_here sent (x ∷ xs) (suc i) within passed stops =
    rw (passed 0 (omega arith) (omega arith))
    (found_here sent xs i (omega (arith, within)) (λ k l m. passed (suc k) (omega (arith, l)) (omega (arith, m))) (λ l. stops (omega (arith, l))))

-- one more place is skipped
pub passed_more : (sent : List Sent) (places : List ℕ) (i : ℕ) → ArePassed sent places i → delivered_at sent (get_or places i 0) ≡ true
    → ArePassed sent places (i + 1)
passed_more sent places i passed at k l m = go (cases_eq k i)
  where
    go : ((k ≡ i) ⊎ (k ≡ i → ⊥)) → delivered_at sent (get_or places k 0) ≡ true
    go (inl e) = subst (λ j. delivered_at sent (get_or places j 0) ≡ true) (sym e) at
    go (inr ne) = passed k (omega (arith, l, ne)) m

-- ---- places

module _ (members pair : ℕ) where
  place_within : (n : ℕ) (ps : List Sent) (k : ℕ) → k < length (places_from members pair n ps) → get_or (places_from members pair n ps) k 0 < n + length ps
  place_within n [] k l = absurd (omega (arith, l))
  place_within n (p ∷ ps) k l = go (is_between members pair p) k l (place_within (suc n) ps)
    where
      rest : List ℕ
      rest = places_from members pair (suc n) ps

      go : (b : Bool) (j : ℕ) → j < length (cond b (n ∷ places_from members pair (suc n) ps) (places_from members pair (suc n) ps))
          → ((i : ℕ) → i < length (places_from members pair (suc n) ps) → get_or (places_from members pair (suc n) ps) i 0 < suc n + length ps)
          → get_or (cond b (n ∷ places_from members pair (suc n) ps) (places_from members pair (suc n) ps)) j 0 < n + suc (length ps)
      go true zero m later = omega arith
      go true (suc j) m later = omega (arith, later j (omega (arith, m)))
      go false j m later = omega (arith, later j m)

  places_more : (n : ℕ) (ps : List Sent) (p : Sent)
      → places_from members pair n (ps ++ p ∷ []) ≡ places_from members pair n ps ++ cond (is_between members pair p) ((n + length ps) ∷ []) []
  places_more n [] p =
      let z : n ≡ n + 0 = omega arith in
      let e : ◌≡◌ {A = List ℕ} (n ∷ []) ((n + 0) ∷ []) = ap (λ (m : ℕ). m ∷ []) z in ap (λ xs. cond (is_between members pair p) xs []) e
  places_more n (q ∷ ps) p = go (is_between members pair q) (places_more (suc n) ps p
      ∙ ap (λ (m : ℕ). places_from members pair (suc n) ps ++ cond (is_between members pair p) (m ∷ []) [])
      (let z : suc n + length ps ≡ n + suc (length ps) = omega arith in z))
    where
      go : (b : Bool) → places_from members pair (suc n) (ps ++ p ∷ []) ≡ places_from members pair (suc n) ps ++ cond (is_between members pair p) ((n + suc (length ps)) ∷ []) []
          → cond b (n ∷ places_from members pair (suc n) (ps ++ p ∷ [])) (places_from members pair (suc n) (ps ++ p ∷ []))
          ≡ cond b (n ∷ places_from members pair (suc n) ps) (places_from members pair (suc n) ps) ++ cond (is_between members pair p) ((n + suc (length ps)) ∷ []) []
      go true later = ap (λ xs. n ∷ xs) later
      go false later = later

  places_marked : (n place : ℕ) (ps : List Sent) → places_from members pair n (mark_at place ps) ≡ places_from members pair n ps
  places_marked n place [] = refl
  places_marked n zero (p ∷ ps) = refl
  places_marked n (suc place) (p ∷ ps) =
      let later = places_marked (suc n) place ps in λ i. cond (is_between members pair p) (n ∷ later i) (later i)

-- ---- what was delivered

delivered_more : (sent : List Sent) (p : Sent) (i : ℕ) → i < length sent → delivered_at (sent ++ p ∷ []) i ≡ delivered_at sent i
delivered_more [] p i l = absurd (omega (arith, l))
delivered_more (q ∷ sent) p zero l = refl
delivered_more (q ∷ sent) p (suc i) l = delivered_more sent p i (omega (arith, l))

delivered_marked : (place : ℕ) (sent : List Sent) (i : ℕ) → delivered_at sent i ≡ true → delivered_at (mark_at place sent) i ≡ true
delivered_marked place [] i h = h
delivered_marked zero (p ∷ sent) zero h = refl
delivered_marked zero (p ∷ sent) (suc i) h = h
delivered_marked (suc place) (p ∷ sent) zero h = h
delivered_marked (suc place) (p ∷ sent) (suc i) h = delivered_marked place sent i h

pub mark_is : (place : ℕ) (sent : List Sent) (d : Sent) → place < length sent
    → set sent place (record { sender = (get_or sent place d).sender; addressee = (get_or sent place d).addressee; is_delivered = true }) ≡ mark_at place sent
mark_is place [] d l = absurd (omega (arith, l))
mark_is zero (p ∷ sent) d l = refl
mark_is (suc place) (p ∷ sent) d l = ap (λ ps. p ∷ ps) (mark_is place sent d (omega (arith, l)))

pub mark_past : (place : ℕ) (sent : List Sent) → length sent ≤ place → sent ≡ mark_at place sent
mark_past place [] l = refl
mark_past zero (p ∷ sent) l = absurd (omega (arith, l))
mark_past (suc place) (p ∷ sent) l = ap (λ ps. p ∷ ps) (mark_past place sent (omega (arith, l)))

-- ---- one queue

module _ (members pair : ℕ) (sent : List Sent) (p : Sent) (x : Queue) where
  still_passed : IsQueueOf members pair sent x → (count : ℕ) → count ≤ length x.places.items → ArePassed sent x.places.items count
      → (k : ℕ) → k < count → delivered_at (sent ++ p ∷ []) (get_or x.places.items k 0) ≡ true
  still_passed q count within passed k l =
      let m : k < length x.places.items = omega (arith, l, within) in
      let low = place_within members pair 0 sent k (subst (λ xs. k < length xs) q.places m) in
      delivered_more sent p (get_or x.places.items k 0) (subst (λ xs. get_or xs k 0 < length sent) (sym q.places) (omega (arith, low))) ∙ passed k l m

  pub grown_other : is_between members pair p ≡ false → IsQueueOf members pair sent x → IsQueueOf members pair (sent ++ p ∷ []) x
  grown_other off q = record {
    places = q.places ∙ sym (places_more members pair 0 sent p ∙ (rw off (append-nil (places_from members pair 0 sent))));
    within = q.within;
    passed = λ k l m. still_passed q x.passed q.within q.passed k l;
  }

  pub grown_own : is_between members pair p ≡ true → IsQueueOf members pair sent x → (y : Queue) → y.places.items ≡ x.places.items ++ length sent ∷ []
      → y.passed ≡ x.passed → IsQueueOf members pair (sent ++ p ∷ []) y
  grown_own here q y pushed same = record {
    places = pushed ∙ ap (λ xs. xs ++ length sent ∷ []) q.places ∙ sym
        (places_more members pair 0 sent p
        ∙ ap (λ b. places_from members pair 0 sent ++ cond b ((0 + length sent) ∷ []) []) here
        ∙ ap (λ (n : ℕ). places_from members pair 0 sent ++ (n ∷ [])) (let z : 0 + length sent ≡ length sent = omega arith in z));
    within = rw (same, pushed) (omega (arith, q.within, length_push x.places.items (length sent)));
    passed = λ k l m.
        let few : k < x.passed = subst (λ n. k < n) same l in
        let inside : k < length x.places.items = omega (arith, few, q.within) in
        rw (pushed, get_or_append_left x.places.items (length sent ∷ []) 0 k inside) (still_passed q x.passed q.within q.passed k few);
  }

pub marked_queue : (members pair place : ℕ) (sent : List Sent) (x : Queue) → IsQueueOf members pair sent x → IsQueueOf members pair (mark_at place sent) x
marked_queue members pair place sent x q = record {
  places = q.places ∙ sym (places_marked members pair 0 place sent);
  within = q.within;
  passed = λ k l m. delivered_marked place sent _ (q.passed k l m);
}

-- ---- all queues

pub set_queue : (members : ℕ) (old new : List Sent) (qs : List Queue) (pair : ℕ) (y : Queue) → pair < 64 → AreQueues members old qs
    → ((other : ℕ) (x : Queue) → (other ≡ pair → ⊥) → IsQueueOf members other old x → IsQueueOf members other new x)
    → IsQueueOf members pair new y → AreQueues members new (set qs pair y)
set_queue members old new qs pair y within are others own = record {
  count = length-set qs pair y ∙ are.count;
  each = λ other d l. go other d l (cases_eq other pair);
}
  where
    go : (other : ℕ) (d : Queue) → other < 64 → ((other ≡ pair) ⊎ (other ≡ pair → ⊥)) → IsQueueOf members other new (get_or (set qs pair y) other d)
    go other d l (inl e) =
        subst (λ n. IsQueueOf members n new (get_or (set qs pair y) n d)) (sym e)
        (subst (IsQueueOf members pair new) (sym (get_or-set_same qs pair y d (omega (arith, within, are.count)))) own)
    go other d l (inr ne) =
        subst (IsQueueOf members other new) (sym (get_or-set_other qs pair other y d ne)) (others other (get_or qs other d) ne (are.each other d l))

pub all_grown : (members : ℕ) (sent : List Sent) (p : Sent) (qs : List Queue) → ((pair : ℕ) → is_between members pair p ≡ false) → AreQueues members sent qs
    → AreQueues members (sent ++ p ∷ []) qs
all_grown members sent p qs off are = record {
  count = are.count;
  each = λ pair d l. grown_other members pair sent p (get_or qs pair d) (off pair) (are.each pair d l);
}

pub all_marked : (members place : ℕ) (sent : List Sent) (qs : List Queue) → AreQueues members sent qs → AreQueues members (mark_at place sent) qs
all_marked members place sent qs are = record {
  count = are.count;
  each = λ pair d l. marked_queue members pair place sent (get_or qs pair d) (are.each pair d l);
}

-- ---- between which members

pub between_none : (members : ℕ) (p : Sent) → (is_member members p.sender && is_member members p.addressee) ≡ false → (pair : ℕ) → is_between members pair p ≡ false
between_none members p off pair = ap (λ b. b && (pair_of p == pair)) off

pub between_other : (members pair : ℕ) (p : Sent) → (pair_of p ≡ pair → ⊥) → is_between members pair p ≡ false
between_other members pair p ne =
    ap (λ b. (is_member members p.sender && is_member members p.addressee) && b) (ne_eqb (pair_of p) pair ne)
    ∙ off (is_member members p.sender && is_member members p.addressee)
  where
    off : (b : Bool) → (b && false) ≡ false
    off true = refl
    off false = refl

pub between_own : (members pair : ℕ) (p : Sent) → (is_member members p.sender && is_member members p.addressee) ≡ true → pair_of p ≡ pair → is_between members pair p ≡ true
between_own members pair p on e = and_from _ _ on (eq-eqb (pair_of p) pair e)

-- ---- no packet

abbrev pub IsEmpty : Queue → Type 0
IsEmpty q = (q.places.items ≡ []) × (q.passed ≡ 0)

pub none_yet : (qs : List Queue) → qs ≡ [] → (length qs ≡ 0) × All IsEmpty qs
none_yet qs e = (ap (λ (xs : List Queue). length xs) e, subst (λ (xs : List Queue). All IsEmpty xs) (sym e) (All-nil IsEmpty))

pub one_empty_more : (qs later : List Queue) (q : Queue) (n : ℕ) → later ≡ qs ++ q ∷ [] → IsEmpty q → (length qs ≡ n) × All IsEmpty qs
    → (length later ≡ n + 1) × All IsEmpty later
one_empty_more qs later q n e empty was = (
  ap (λ (xs : List Queue). length xs) e ∙ length-append qs (q ∷ []) ∙ ap (λ k. k + 1) was.0,
  subst (λ (xs : List Queue). All IsEmpty xs) (sym e) (All-push IsEmpty qs q was.1 empty),
)

pub nothing_queued : (qs : List Queue) → length qs ≡ 64 → All IsEmpty qs → (members : ℕ) → AreQueues members [] qs
nothing_queued qs count none members = record {
  count = count;
  each = λ pair d l. let q = none pair d (omega (arith, l, count)) in record {
    places = q.0;
    within = rw (q.0, q.1) (omega arith);
    passed = λ k m n. absurd (omega (arith, m, q.1));
  };
}

-- ---- an element that is read

slice_get_at : (xs : List ℕ) (i d : ℕ) → i < length xs → Some (get_or xs i d) ≡ slice_get xs i
slice_get_at [] i d l = absurd (omega (arith, l))
slice_get_at (x ∷ xs) zero d l = refl
slice_get_at (x ∷ xs) (suc i) d l = slice_get_at xs i d (omega (arith, l))

pub copied_is : (xs : List ℕ) (i : ℕ) (r : Option (Bor ℕ)) → is_some r ≡ ltb i (length xs) → IfSome r (λ x. x.now ≡ get_or xs i x.now)
    → option_copied r ≡ slice_get xs i
copied_is xs i None is here = sym (slice_get_past xs i (ltb-false i (length xs) (sym is)))
copied_is xs i (Some x) is here = ap (λ (y : ℕ). Some y) here ∙ slice_get_at xs i x.now (ltb-true i (length xs) (sym is))
