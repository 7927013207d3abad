-- Votes by ascending slot, and a vote that is put among them.
use Rattle.std.proofs.Common.{◌≡◌, ◌⊎◌, inl, inr, ℕ, suc, ◌<◌, ◌≤◌, Bool, true, false, cond, List, [], ◌∷◌, Some, is_some, ⊎_elim, ltb, eqb, filter, refl, ap, sym, ◌∙◌, subst, arith}
use Rattle.std.specs.Prelude.{nat_le}
use Rattle.std.specs.List.{AllByRecursion}
use Rattle.std.proofs.lemmas.Bool.{ltb-true, leb-true, eqb-true}
use Rattle.std.proofs.lemmas.Bool.Decides.{nat_tests}
use Rattle.sqlite_rules.specs.Lists.{Has}
use Rattle.paxos_packets.specs.Vote.{put_vote, vote_in, votes_from}
use Rattle.paxos_packets.specs.declared.vote.Vote.{Vote}
use Rattle.acceptor_store.specs.Store.{AscendFrom}
use Rattle.acceptor_store.specs.Once.{later, ascend_lower}

pub all_from : {A : Type 0} (P : A → Type 0) (xs : List A) → ((x : A) → Has xs x → P x) → AllByRecursion P xs
all_from P [] f = tt
all_from P (x ∷ xs) f = (f x (inl refl), all_from P xs (λ y h. f y (inr h)))

lt_false : (a b : ℕ) → ltb a b ≡ false → b ≤ a
lt_false a b h = grind (arith, nat_tests)

below_or : (a b : ℕ) → eqb a b ≡ false → b ≤ a → b < a
below_or a b e l = grind (arith, nat_tests)

eq_false : (a b : ℕ) → eqb a b ≡ false → b ≡ a → ⊥
eq_false a b e p = grind (arith, nat_tests)

pub has_put_new : {B : Type 0} (v : Vote B) (ws : List (Vote B)) → Has (put_vote v ws) v
has_put_new v [] = inl refl
has_put_new {B} v (w ∷ ws) = go (eqb v.slot w.slot) (ltb v.slot w.slot) (has_put_new v ws)
  where
    go : (a b : Bool) → Has (put_vote v ws) v → Has (cond a (v ∷ ws) (cond b (v ∷ (w ∷ ws)) (w ∷ put_vote v ws))) v
    go true b more = inl refl
    go false true more = inl refl
    go false false more = inr more

pub has_put : {B : Type 0} (v : Vote B) (ws : List (Vote B)) (x : Vote B) → Has ws x → (x.slot ≡ v.slot → ⊥) → Has (put_vote v ws) x
has_put v [] x h other = absurd h
has_put {B} v (w ∷ ws) x h other = go (eqb v.slot w.slot) (ltb v.slot w.slot) refl h (λ more. has_put v ws x more other)
  where
    go : (a b : Bool) → eqb v.slot w.slot ≡ a → Has (w ∷ ws) x → (Has ws x → Has (put_vote v ws) x)
        → Has (cond a (v ∷ ws) (cond b (v ∷ (w ∷ ws)) (w ∷ put_vote v ws))) x
    go true b e (inl same) more = absurd (other (ap (λ (u : Vote B). u.slot) same ∙ sym (eqb-true v.slot w.slot e)))
    go true b e (inr k) more = inr k
    go false true e k more = inr k
    go false false e (inl same) more = inl same
    go false false e (inr k) more = inr (more k)

pub has_put_old : {B : Type 0} (v : Vote B) (low : ℕ) (ws : List (Vote B)) (x : Vote B) → AscendFrom low ws → Has (put_vote v ws) x
    → (x ≡ v) ⊎ (Has ws x × (x.slot ≡ v.slot → ⊥))
has_put_old v low [] x up (inl e) = inl e
has_put_old v low [] x up (inr none) = absurd none
has_put_old {B} v low (w ∷ ws) x up h = go (eqb v.slot w.slot) (ltb v.slot w.slot) refl refl h (has_put_old v w.slot ws x up.1)
  where
    go : (a b : Bool) → eqb v.slot w.slot ≡ a → ltb v.slot w.slot ≡ b → Has (cond a (v ∷ ws) (cond b (v ∷ (w ∷ ws)) (w ∷ put_vote v ws))) x
        → (Has (put_vote v ws) x → (x ≡ v) ⊎ (Has ws x × (x.slot ≡ v.slot → ⊥)))
        → (x ≡ v) ⊎ (Has (w ∷ ws) x × (x.slot ≡ v.slot → ⊥))
    go true b e l (inl same) more = inl same
    go true b e l (inr k) more =
        let same : v.slot ≡ w.slot = eqb-true v.slot w.slot e in
        let after : w.slot < x.slot = later w.slot ws x up.1 k in
        inr (inr k, λ p. omega arith)
    go false true e l (inl same) more = inl same
    go false true e l (inr (inl same)) more =
        let is : x.slot ≡ w.slot = ap (λ (u : Vote B). u.slot) same in
        let less : v.slot < w.slot = ltb-true v.slot w.slot l in
        inr (inl same, λ p. omega arith)
    go false true e l (inr (inr k)) more =
        let less : v.slot < w.slot = ltb-true v.slot w.slot l in
        let after : w.slot < x.slot = later w.slot ws x up.1 k in
        inr (inr k, λ p. omega arith)
    go false false e l (inl same) more = inr (inl same, λ p. eq_false v.slot w.slot e (sym (ap (λ (u : Vote B). u.slot) same) ∙ p))
    go false false e l (inr k) more = ⊎_elim (λ q. inl q) (λ q. inr (inr q.0, q.1)) (more k)

pub ascend_put : {B : Type 0} (v : Vote B) (low : ℕ) (ws : List (Vote B)) → AscendFrom low ws → low < v.slot → AscendFrom low (put_vote v ws)
ascend_put v low [] up l = (l, tt)
ascend_put {B} v low (w ∷ ws) up l = go (eqb v.slot w.slot) (ltb v.slot w.slot) refl refl (ascend_put v w.slot ws up.1)
  where
    go : (a b : Bool) → eqb v.slot w.slot ≡ a → ltb v.slot w.slot ≡ b → (w.slot < v.slot → AscendFrom w.slot (put_vote v ws))
        → AscendFrom low (cond a (v ∷ ws) (cond b (v ∷ (w ∷ ws)) (w ∷ put_vote v ws)))
    go true b e k more = (l, subst (λ s. AscendFrom s ws) (sym (eqb-true v.slot w.slot e)) up.1)
    go false true e k more = (l, (ltb-true v.slot w.slot k, up.1))
    go false false e k more = (up.0, more (below_or v.slot w.slot e (lt_false v.slot w.slot k)))

-- the votes that pass a test, and those that are above a slot

pub ascend_filter : {B : Type 0} (p : Vote B → Bool) (low : ℕ) (vs : List (Vote B)) → AscendFrom low vs → AscendFrom low (filter p vs)
ascend_filter p low [] up = tt
ascend_filter {B} p low (v ∷ vs) up = go (p v) (ascend_filter p v.slot vs up.1)
  where
    go : (b : Bool) → AscendFrom v.slot (filter p vs) → AscendFrom low (cond b (v ∷ filter p vs) (filter p vs))
    go true more = (up.0, more)
    go false more = ascend_lower v.slot low (filter p vs) (let k : low < v.slot = up.0 in omega arith) more

pub ascend_above : {B : Type 0} (floor low : ℕ) (vs : List (Vote B)) → AscendFrom low vs → AscendFrom floor (votes_from (suc floor) vs)
ascend_above floor low [] up = tt
ascend_above {B} floor low (v ∷ vs) up =
    go (nat_le (suc floor) v.slot) refl (ascend_filter (λ (w : Vote B). nat_le (suc floor) w.slot) v.slot vs up.1) (ascend_above floor v.slot vs up.1)
  where
    go : (b : Bool) → nat_le (suc floor) v.slot ≡ b → AscendFrom v.slot (votes_from (suc floor) vs) → AscendFrom floor (votes_from (suc floor) vs)
        → AscendFrom floor (cond b (v ∷ votes_from (suc floor) vs) (votes_from (suc floor) vs))
    go true e kept more = (let k : suc floor ≤ v.slot = leb-true (suc floor) v.slot e in omega arith, kept)
    go false e kept more = more

-- a slot without a vote
pub none_in : {B : Type 0} (slot : ℕ) (vs : List (Vote B)) → is_some (vote_in slot vs) ≡ false → (x : Vote B) → Has vs x → x.slot ≡ slot → ⊥
none_in slot [] e x h s = absurd h
none_in {B} slot (v ∷ vs) e x h s = go (eqb v.slot slot) refl e h (λ e k. none_in slot vs e x k s)
  where
    go : (b : Bool) → eqb v.slot slot ≡ b → is_some (cond b (Some v) (vote_in slot vs)) ≡ false → Has (v ∷ vs) x
        → (is_some (vote_in slot vs) ≡ false → Has vs x → ⊥) → ⊥
    go true t e h more = absurd cc
    go false t e (inl same) more = eq_false v.slot slot t (sym (sym (ap (λ (u : Vote B). u.slot) same) ∙ s))
    go false t e (inr k) more = more e k

pub is_none_in : {B : Type 0} (slot : ℕ) (vs : List (Vote B)) → ((x : Vote B) → Has vs x → x.slot ≡ slot → ⊥) → is_some (vote_in slot vs) ≡ false
is_none_in slot [] f = refl
is_none_in {B} slot (v ∷ vs) f = go (eqb v.slot slot) refl (is_none_in slot vs (λ x h. f x (inr h)))
  where
    go : (b : Bool) → eqb v.slot slot ≡ b → is_some (vote_in slot vs) ≡ false → is_some (cond b (Some v) (vote_in slot vs)) ≡ false
    go true t e = absurd (f v (inl refl) (eqb-true v.slot slot t))
    go false t e = e
