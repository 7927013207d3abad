-- What is pending after a pass: an entry that is no longer wanted is not wanted again, so what the whole log leaves wanted is left.
use Rattle.std.proofs.Common.{◌≡◌, ⊎_elim, ℕ, ◌+◌, ◌<◌, ◌≤◌, Bool, true, false, ◌&&◌, eqb, refl, sym, ap, ◌∙◌, subst, arith}
use Rattle.std.proofs.Common.{List, [], ◌∷◌, ◌++◌, append_assoc, append-nil}
use Rattle.std.specs.Prelude.{filter, nat_lt, if◌then◌else◌}
use Rattle.std.proofs.lemmas.Bool.{cond_both, cond-true, cond-false, and_parts, eqb-true, ne_eqb, ltb-true, ltb-false, le-ltb}
use Rattle.cluster_world.proofs.Lists.{has_cons}
use Rattle.cluster_world.specs.Has.{Has, here, there}
use Rattle.paxos_packets.specs.declared.entry.Entry.{Entry}
use Rattle.paxos_packets.specs.declared.entry.Entry.TheVariants.{Noop, Boot, Lost, Item}
use Rattle.paxos_node.specs.Adopting.{pending_behind}
use Rattle.replica_machine.specs.declared.roll.Standing.{Standing}
use Rattle.replica_machine.specs.declared.roll.Standing.TheVariants.{Unknown, Live, Gone}
use Rattle.replica_machine.specs.Roll.{is_new_boot, is_live, is_next, gone, standing_after, standing_from, standings, is_wanted}
use Rattle.paxos_node.proofs.Rolling.{one_behind}

off : true ≡ false → ⊥
off e = cc

-- a boot that is not new is not new later

same_or_later : (a b c : ℕ) → nat_lt a b ≡ false → nat_lt a c ≡ true → nat_lt c b ≡ false
same_or_later a b c h t = le-ltb c b (go (ltb-false a b h) (ltb-true a c t))
  where
    go : b ≤ a → a < c → b ≤ c
    go l m = omega arith

pub old_boot : {B : Type 0} (n b : ℕ) (s : Standing) (e : Entry B) → is_new_boot s b ≡ false → is_new_boot (standing_after n s e) b ≡ false
old_boot n b s Noop h = h
old_boot n b s (Boot k c) h =
    cond_both (eqb k n && is_new_boot s c) (Live c 0) s (λ z. is_new_boot z b ≡ false)
    (λ t. go s h (and_parts (eqb k n) (is_new_boot s c) t).1) (λ t. h)
  where
    go : (z : Standing) → is_new_boot z b ≡ false → is_new_boot z c ≡ true → nat_lt c b ≡ false
    go Unknown g t = absurd (off g)
    go (Live d q) g t = same_or_later d b c g t
    go (Gone d) g t = same_or_later d b c g t
old_boot n b s (Lost k c) h =
    cond_both (eqb k n && is_live s c) (gone s) s (λ z. is_new_boot z b ≡ false) (λ t. go s h) (λ t. h)
  where
    go : (z : Standing) → is_new_boot z b ≡ false → is_new_boot (gone z) b ≡ false
    go Unknown g = g
    go (Live d q) g = g
    go (Gone d) g = g
old_boot n b s (Item k c q t x) h =
    cond_both (eqb k n && is_next s c q) (Live c q) s (λ z. is_new_boot z b ≡ false)
    (λ u. go s h (and_parts (eqb k n) (is_next s c q) u).1) (λ u. h)
  where
    go : (z : Standing) → is_new_boot z b ≡ false → is_next z c q ≡ true → nat_lt c b ≡ false
    go Unknown g u = absurd (off (sym u))
    go (Live d p) g u = subst (λ k. nat_lt k b ≡ false) (eqb-true d c (and_parts (eqb d c) (eqb q (p + 1)) u).0) g
    go (Gone d) g u = absurd (off (sym u))

pub old_boots : {B : Type 0} (n b : ℕ) (es : List (Entry B)) (s : Standing) → is_new_boot s b ≡ false → is_new_boot (standing_from n s es) b
    ≡ false
old_boots n b [] s h = h
old_boots n b (e ∷ es) s h = old_boots n b es (standing_after n s e) (old_boot n b s e h)

-- a boot that was live and is not is past for ever

abbrev pub Past : ℕ → Standing → Type 0
Past c Unknown = ⊥
Past c (Live d q) = c < d
Past c (Gone d) = c ≤ d

pub past_step : {B : Type 0} (k c : ℕ) (s : Standing) (e : Entry B) → Past c s → Past c (standing_after k s e)
past_step k c s Noop h = h
past_step k c s (Boot j d) h =
    cond_both (eqb j k && is_new_boot s d) (Live d 0) s (λ z. Past c z) (λ t. go s h (and_parts (eqb j k) (is_new_boot s d) t).1) (λ t. h)
  where
    more : (a : ℕ) → c ≤ a → a < d → c < d
    more a l m = omega arith

    go : (z : Standing) → Past c z → is_new_boot z d ≡ true → c < d
    go Unknown g t = absurd g
    go (Live a q) g t = more a (omega arith) (ltb-true a d t)
    go (Gone a) g t = more a g (ltb-true a d t)
past_step k c s (Lost j d) h =
    cond_both (eqb j k && is_live s d) (gone s) s (λ z. Past c z) (λ t. go s h) (λ t. h)
  where
    go : (z : Standing) → Past c z → Past c (gone z)
    go Unknown g = g
    go (Live a q) g = omega arith
    go (Gone a) g = g
past_step k c s (Item j d q t x) h =
    cond_both (eqb j k && is_next s d q) (Live d q) s (λ z. Past c z) (λ u. go s h (and_parts (eqb j k) (is_next s d q) u).1) (λ u. h)
  where
    go : (z : Standing) → Past c z → is_next z d q ≡ true → c < d
    go Unknown g u = absurd g
    go (Live a p) g u = subst (λ m. c < m) (eqb-true a d (and_parts (eqb a d) (eqb q (p + 1)) u).0) g
    go (Gone a) g u = absurd (off (sym u))

pub past_on : {B : Type 0} (k c : ℕ) (es : List (Entry B)) (s : Standing) → Past c s → Past c (standing_from k s es)
past_on k c [] s h = h
past_on k c (e ∷ es) s h = past_on k c es (standing_after k s e) (past_step k c s e h)

pub past_is_over : (c : ℕ) (s : Standing) → Past c s → is_live s c ≡ false
past_is_over c Unknown h = absurd h
past_is_over c (Live d q) h = ne_eqb d c (λ e. apart e)
  where
    apart : d ≡ c → ⊥
    apart e = omega arith
past_is_over c (Gone d) h = refl

-- what is pending

pub filter_all : {A : Type 0} (p : A → Bool) (xs : List A) → ((x : A) → Has xs x → p x ≡ true) → filter p xs ≡ xs
filter_all p [] h = refl
filter_all {A} p (x ∷ xs) h =
    cond-true (p x) (x ∷ filter p xs) (filter p xs) (h x here) ∙ ap (λ (l : List A). x ∷ l) (filter_all p xs (λ y i. h y (there i)))

-- a test that passes no element which the other fails
filter_both : {A : Type 0} (p q : A → Bool) (xs : List A) → ((x : A) → Has xs x → q x ≡ false → p x ≡ false) → filter p (filter q xs)
    ≡ filter p xs
filter_both p q [] h = refl
filter_both {A} p q (x ∷ xs) h = go (q x) refl (filter_both p q xs (λ y i. h y (there i)))
  where
    go : (m : Bool) → q x ≡ m → filter p (filter q xs) ≡ filter p xs → filter p (if m then x ∷ filter q xs else filter q xs) ≡ filter p
        (x ∷ xs)
    go true e r = ap (λ l. if p x then x ∷ l else l) r
    go false e r = r ∙ sym (cond-false (p x) (x ∷ filter p xs) (filter p xs) (h x here e))

pub passes_both : {A : Type 0} (q : A → Bool) (xs : List A) (x : A) → Has (filter q xs) x → (q x ≡ true) × Has xs x
passes_both q [] x h = absurd (elim h [ ])
passes_both {A} q (y ∷ xs) x h =
    cond_both (q y) (y ∷ filter q xs) (filter q xs) (λ l. Has l x → (q x ≡ true) × Has (y ∷ xs) x)
    (λ t g. ⊎_elim (λ (e : y ≡ x). (subst (λ z. q z ≡ true) e t, subst (λ z. Has (y ∷ xs) z) e here))
    (λ i. let r = passes_both q xs x i in (r.0, there r.1)) (has_cons g))
    (λ t g. let r = passes_both q xs x g in (r.0, there r.1))
    h

-- once it is not wanted it is not wanted in the end
abbrev pub Fades : {B : Type 0} → List (Entry B) → List (Entry B) → Entry B → Type 0
Fades {B} log es x = (fs gs : List (Entry B)) → es ≡ fs ++ gs → is_wanted (log ++ fs) x ≡ false → is_wanted (log ++ es) x ≡ false

pub left_pending : {B : Type 0} (es log pending : List (Entry B)) → ((x : Entry B) → Has pending x → is_wanted log x ≡ true)
    → ((x : Entry B) → Has pending x → Fades log es x) → pending_behind (standings log) es pending ≡ filter (is_wanted (log ++ es)) pending
left_pending [] log pending all fades =
    sym (filter_all (is_wanted (log ++ [])) pending (λ x h. ap (λ l. is_wanted l x) (append-nil log) ∙ all x h))
left_pending {B} (e ∷ es) log pending all fades =
    one_behind (λ k. Unknown) log e es pending
    ∙ (left_pending es (log ++ e ∷ []) (filter (is_wanted (log ++ e ∷ [])) pending)
    (λ x h. (passes_both (is_wanted (log ++ e ∷ [])) pending x h).0)
    (λ x h fs gs is over. ap (λ l. is_wanted l x) (append_assoc log (e ∷ []) es)
    ∙ fades x (passes_both (is_wanted (log ++ e ∷ [])) pending x h).1 (e ∷ fs) gs (ap (λ (l : List (Entry B)). e ∷ l) is)
    (ap (λ l. is_wanted l x) (sym (append_assoc log (e ∷ []) fs)) ∙ over))
    ∙ ap (λ l. filter (is_wanted l) (filter (is_wanted (log ++ e ∷ [])) pending)) (append_assoc log (e ∷ []) es)
    ∙ filter_both (is_wanted (log ++ e ∷ es)) (is_wanted (log ++ e ∷ [])) pending (λ x h over. fades x h (e ∷ []) es refl over))
