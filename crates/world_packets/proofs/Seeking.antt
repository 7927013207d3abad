-- A packet is found under its numbers, or was not sent.
use Rattle.std.proofs.Common.{◌≡◌, ⊎_elim, ℕ, zero, suc, ◌+◌, ◌-◌, ◌<◌, ◌≤◌, Bool, true, false, ◌||◌, refl, sym, ap, ◌∙◌, subst, arith, List, [], ◌∷◌, length}
use Rattle.std.proofs.Common.{Option, Some, None}
use Rattle.std.specs.Prelude.{IsSome, is_some, slice_get}
use Rattle.std.specs.List.{list_any}
use Rattle.std.proofs.lemmas.Bool.{or_cases, cases_lt}
use Rattle.paxos_packets.specs.Body.{IsEquality}
use Rattle.paxos_packets.specs.Packet.{same_packet, packet_equality}
use Rattle.paxos_packets.specs.declared.packet.Packet.{Packet}
use Rattle.world_packets.specs.declared.numbers.Key.{Key}
use Rattle.world_packets.specs.declared.numbers.Numbers.{Numbers}
use Rattle.world_packets.specs.Numbers.{numbers_of}
use Rattle.world_packets.specs.Sent.{IsIndex, is_among, place_in}

off : false ≡ true → ⊥
off e = cc

-- if the test holds of one of them
pub any_at : {A : Type 0} (test : A → Bool) (xs : List A) → list_any test xs ≡ true → (i : ℕ) × (x : A) × (slice_get xs i ≡ Some x) × (test x ≡ true)
any_at test [] e = absurd (off e)
any_at test (x ∷ xs) e =
    ⊎_elim (λ t. (zero, x, refl, t)) (λ t. let r = any_at test xs t in (suc r.0, r.1, r.2, r.3)) (or_cases (test x) (list_any test xs) e)

pub any_of : {A : Type 0} (test : A → Bool) (xs : List A) (i : ℕ) (x : A) → slice_get xs i ≡ Some x → test x ≡ true → list_any test xs ≡ true
any_of test [] i x h t = absurd (cc)
any_of test (y ∷ ys) zero x h t = λ i. first i || list_any test ys
  where
    same : Some y ≡ Some x → y ≡ x
    same e = cc

    first : test y ≡ true
    first = ap test (same h) ∙ t
any_of test (y ∷ ys) (suc i) x h t = go (test y) (any_of test ys i x h t)
  where
    go : (b : Bool) → list_any test ys ≡ true → (b || list_any test ys) ≡ true
    go true e = refl
    go false e = e

-- what is kept under the ordinals below this one are other packets
pub record IsOther {B : Type 0} (same : B → B → Bool) (p : Packet B) (packets : List (Packet B)) (table : List (Key × ℕ)) (k : ℕ) : Type 0 where
  pub place : ℕ
  pub kept : place_in table (numbers_of p) k ≡ Some place
  pub other : Packet B
  pub there : slice_get packets place ≡ Some other
  pub differs : same_packet same other p ≡ false

abbrev pub ArePassed : {B : Type 0} → (B → B → Bool) → Packet B → List (Packet B) → List (Key × ℕ) → ℕ → Type 0
ArePassed same p packets table ordinal = (k : ℕ) → k < ordinal → IsOther same p packets table k

pub one_more : {B : Type 0} (same : B → B → Bool) (p : Packet B) (packets : List (Packet B)) (table : List (Key × ℕ)) (o : ℕ)
    → ArePassed same p packets table o → IsOther same p packets table o → ArePassed same p packets table (o + 1)
one_more same p packets table o h x k l = ⊎_elim (λ a. h k a) (λ a. subst (λ j. IsOther same p packets table j) (last k l a) x) (cases_lt k o)
  where
    last : (k : ℕ) → k < o + 1 → o ≤ k → o ≡ k
    last k l a = omega arith

pub some_of : {A : Type 0} {o : Option A} {x : A} → o ≡ Some x → IsSome o
some_of e = ap is_some e

pub passed_some : {B : Type 0} (same : B → B → Bool) (p : Packet B) (packets : List (Packet B)) (table : List (Key × ℕ)) (o : ℕ)
    → ArePassed same p packets table o → (k : ℕ) → k < o → IsSome (place_in table (numbers_of p) k)
passed_some same p packets table o h k l = some_of (h k l).kept

some_value : {A : Type 0} (o : Option A) → IsSome o → (x : A) × (o ≡ Some x)
some_value (Some x) s = (x, refl)
some_value None s = absurd (off s)

module _ {B : Type 0} (same : B → B → Bool) (equal : IsEquality same) (packets : List (Packet B)) (table : List (Key × ℕ)) (index : IsIndex table packets)
  where
    -- ordinals follow one another
    fill : (n : Numbers) (o d k place : ℕ) → k ≡ d + o → place_in table n k ≡ Some place → IsSome (place_in table n o)
    fill n o zero k place e h = subst (λ j. IsSome (place_in table n j)) (here e) (some_of h)
      where
        here : k ≡ 0 + o → k ≡ o
        here e = omega arith
    fill n o (suc d) k place e h =
        let r = some_value (place_in table n (d + o)) (index.below n (d + o) place (subst (λ j. place_in table n j ≡ Some place) (next e) h)) in
        fill n o d (d + o) r.0 refl r.1
      where
        next : k ≡ suc d + o → k ≡ suc (d + o)
        next e = omega arith

    pub nobody : (p : Packet B) (o : ℕ) → ArePassed same p packets table o → place_in table (numbers_of p) o ≡ None
        → is_among same p packets ≡ false
    nobody p o passed none = go (is_among same p packets) refl
      where
        clash : ◌≡◌ {A = Option ℕ} None (Some o) → ⊥
        clash e = cc

        two : {a b : ℕ} → ◌≡◌ {A = Option ℕ} (Some a) (Some b) → a ≡ b
        two e = cc

        both : {a b : Packet B} → ◌≡◌ {A = Option (Packet B)} (Some a) (Some b) → a ≡ b
        both e = cc

        found : (k place : ℕ) → place_in table (numbers_of p) k ≡ Some place → slice_get packets place ≡ Some p → k < o → ⊥
        found k place kept there l =
            let x = passed k l in
            let s = two (sym x.kept ∙ kept) in
            let q = both (sym x.there ∙ (ap (λ j. slice_get packets j) s ∙ there)) in
            off (sym x.differs ∙ (ap (λ z. same_packet same z p) q ∙ (packet_equality same equal).reflexive p))

        beyond : (k place : ℕ) → place_in table (numbers_of p) k ≡ Some place → o ≤ k → ⊥
        beyond k place kept l = off (subst (λ z. IsSome z) none (fill (numbers_of p) o (k - o) k place (split l) kept))
          where
            split : o ≤ k → k ≡ (k - o) + o
            split l = omega arith

        go : (b : Bool) → is_among same p packets ≡ b → is_among same p packets ≡ false
        go false e = e
        go true e =
            let r = any_at (λ q. same_packet same q p) packets e in
            let x = index.each r.0 p (r.2 ∙ ap Some ((packet_equality same equal).sound r.1 p r.3)) in
            absurd (⊎_elim (λ l. found x.ordinal x.place x.kept x.there l) (λ l. beyond x.ordinal x.place x.kept l) (cases_lt x.ordinal o))

    -- there are no more ordinals than packets
    pub none_left : (n : Numbers) → place_in table n (length packets) ≡ None
    none_left n = go (place_in table n (length packets)) refl
      where
        itself : {a : ℕ} → a < a → ⊥
        itself l = omega arith

        go : (o : Option ℕ) → place_in table n (length packets) ≡ o → o ≡ None
        go None e = refl
        go (Some j) e = absurd (itself (index.within n (length packets) j e).0)
