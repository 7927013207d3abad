-- A round names each other member.
use Rattle.std.proofs.Common.{◌≡◌, ℕ, zero, suc, ◌<◌, ◌≤◌, ◌+◌, ◌-◌, not, Bool, true, false, cond, List, [], ◌∷◌}
use Rattle.std.proofs.Common.{arith, sym, ap, subst, refl, ⊎_elim}
use Rattle.std.specs.Prelude.{◌==◌, filter}
use Rattle.std.proofs.lemmas.Bool.{ne_eqb, eq-eqb, cases_lt}
use Rattle.cluster_world.specs.Has.{Has, here, there}
use Rattle.node_actor.specs.Turns.{after, numbers_from, EachIsTried}

after_low : (n j : ℕ) → j < n → after n j ≡ suc j
after_low n j low = rw (ne_eqb j n (λ e. omega (arith, low, e))) refl

after_last : (n j : ℕ) → j ≡ n → after n j ≡ 1
after_last n j e = rw (eq-eqb j n e) refl

-- this many steps up
numbers_up : (m n j d k : ℕ) → k ≡ j + d → k ≤ n → d < m → Has (numbers_from n j m) k
numbers_up zero n j d k is most low = absurd (omega (arith, low))
numbers_up (suc m) n j zero k is most low =
    let z : j ≡ k = omega (arith, is) in subst (Has (numbers_from n j (suc m))) z here
numbers_up (suc m) n j (suc d) k is most low =
    let up : k ≡ suc j + d = omega (arith, is) in
    let rest = numbers_up m n (suc j) d k up most (omega (arith, low)) in
    there (subst (λ i. Has (numbers_from n i m) k) (sym (after_low n j (omega (arith, is, most)))) rest)

-- and this many up to the last one, and on from the first one
numbers_round : (m n j d k : ℕ) → n ≡ j + d → 1 ≤ k → k ≤ n → d + k < m → Has (numbers_from n j m) k
numbers_round zero n j d k is least most low = absurd (omega (arith, low))
numbers_round (suc m) n j zero k is least most low =
    let up : k ≡ 1 + (k - 1) = omega (arith, least) in
    let rest = numbers_up m n 1 (k - 1) k up most (omega (arith, low, least)) in
    there (subst (λ i. Has (numbers_from n i m) k) (sym (after_last n j (omega (arith, is)))) rest)
numbers_round (suc m) n j (suc d) k is least most low =
    let on : n ≡ suc j + d = omega (arith, is) in
    let rest = numbers_round m n (suc j) d k on least most (omega (arith, low)) in
    there (subst (λ i. Has (numbers_from n i m) k) (sym (after_low n j (omega (arith, is)))) rest)

-- a number that is not left out stays
kept : (f : ℕ → Bool) (xs : List ℕ) (k : ℕ) → Has xs k → f k ≡ true → Has (filter f xs) k
kept f [] k t stays = elim t [ ]
kept f (x ∷ xs) k here stays = rw stays here
kept f (x ∷ xs) k (there t) stays = behind (f x) (kept f xs k t stays)
  where
    behind : (b : Bool) → Has (filter f xs) k → Has (cond b (x ∷ filter f xs) (filter f xs)) k
    behind true rest = there rest
    behind false rest = rest

pub each_is_tried : EachIsTried
each_is_tried me members first k within peer =
    kept (λ j. not (j == me)) (numbers_from members first members) k
    (⊎_elim
    (λ l. numbers_round members members first (members - first) k (omega (arith, within.1)) peer.0.0 peer.0.1 (omega (arith, within.1, l)))
    (λ h. numbers_up members members first (k - first) k (omega (arith, h)) peer.0.1 (omega (arith, within.0, peer.0.0, peer.0.1)))
    (cases_lt k first))
    (ap not (ne_eqb k me peer.1))
