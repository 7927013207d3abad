-- The head of each snapshot that was cut tells where the nodes stand after its log; so a node stands where its whole log says.
use Rattle.std.proofs.Common.{◌≡◌, ◌⊎◌, inl, inr, ⊎_elim, ℕ, zero, suc, ◌+◌, ◌<◌, ◌≤◌, Bool, true, false, ◌&&◌, eqb, refl, sym, ap, ◌∙◌, subst, arith, List, [], ◌∷◌}
use Rattle.std.proofs.Common.{◌++◌, append_assoc, append-nil, Option, Some, None}
use Rattle.std.specs.Prelude.{◌==◌, nat_lt, length, if◌then◌else◌}
use Rattle.std.specs.Cmp.Lexicographic.{pointwise}
use Rattle.std.proofs.lemmas.Bool.{cond_both, cond-false, and_parts, and_cases, eqb-true, eq-eqb, ne_eqb, ltb-true, ltb-false, leb-false}
use Rattle.cluster_world.proofs.Booting.{boot_was_had, boot_made}
use Rattle.cluster_world.proofs.Cuts.{IsCut, RestsOnCut, under_found, under_each}
use Rattle.cluster_world.proofs.EveryWorld.{found_all, whole_is, play_on}
use Rattle.cluster_world.proofs.Lists.{has_nil, has_cons, has_one, has_cases}
use Rattle.cluster_world.proofs.Taking.{May, by_next, cut_was_made}
use Rattle.cluster_world.specs.Has.{Has, here, there}
use Rattle.cluster_world.specs.World.{World, node_at, first_world, next, played, under, log_of, cut_by}
use Rattle.cluster_world.specs.World as worlds
use Rattle.paxos_packets.specs.Body.{IsEquality, numbers_joined}
use Rattle.paxos_packets.specs.Snapshot.{Snapshot}
use Rattle.paxos_packets.specs.declared.entry.Entry.{Entry}
use Rattle.paxos_packets.specs.declared.entry.Entry.TheVariants.{Noop, Boot, Lost, Item}
use Rattle.replica_machine.specs.declared.head.Head.{Head}
use Rattle.replica_machine.specs.declared.roll.Standing.{Standing}
use Rattle.replica_machine.specs.declared.roll.Standing.TheVariants.{Unknown, Live, Gone}
use Rattle.replica_machine.specs.Roll.{is_new_boot, is_live, is_next, gone, standing_after, standing_from, standing}
use Rattle.replica_machine.specs.Snapshot.{head_at, standing_from_node}
use Rattle.paxos_node.specs.declared.event.Event.{Event}
use Rattle.paxos_node.specs.declared.event.Event.TheVariants.{Take, Tick, Start, Suspect, Deliver, Cut, Crash, Restart}
use Rattle.paxos_node.specs.Applying.{stands_by, stands_at, standing_of}
use Rattle.paxos_node.specs.Snapshots.{seven_of, same_standing, is_head_of, may_cut, boot_in, has_boot}
use Rattle.paxos_planning.specs.Node.{NodeState, log_length}

off : false ≡ true → ⊥
off e = cc

-- standings

pub standing_on : {B : Type 0} (n : ℕ) (s : Standing) (xs ys : List (Entry B))
    → standing_from n s (xs ++ ys) ≡ standing_from n (standing_from n s xs) ys
standing_on n s [] ys = refl
standing_on n s (x ∷ xs) ys = standing_on n (standing_after n s x) xs ys

-- a node without a Boot in a log
pub unbooted : {B : Type 0} (n : ℕ) (log : List (Entry B)) → ((b : ℕ) → Has log (Boot n b) → ⊥) → standing n log ≡ Unknown
unbooted n [] h = refl
unbooted {B} n (e ∷ es) h =
    ap (λ s. standing_from n s es) (still e (λ b i. h b (subst (λ z. Has (e ∷ es) z) i here))) ∙ unbooted n es (λ b i. h b (there i))
  where
    nothing : (z : Bool) → (if z && false then Unknown else Unknown) ≡ Unknown
    nothing true = refl
    nothing false = refl

    still : (e : Entry B) → ((b : ℕ) → e ≡ Boot n b → ⊥) → standing_after n Unknown e ≡ Unknown
    still Noop d = refl
    still (Boot k b) d = go (eqb k n) refl
      where
        go : (z : Bool) → eqb k n ≡ z → (if z && true then Live b 0 else Unknown) ≡ Unknown
        go true t = absurd (d b (ap (λ j. Boot j b) (eqb-true k n t)))
        go false t = refl
    still (Lost k b) d = lost (eqb k n)
      where
        lost : (z : Bool) → (if z && false then Unknown else Unknown) ≡ Unknown
        lost true = refl
        lost false = refl
    still (Item k b q t x) d = item (eqb k n)
      where
        item : (z : Bool) → (if z && false then Live b q else Unknown) ≡ Unknown
        item true = refl
        item false = refl

same_sound : (s t : Standing) → same_standing s t ≡ true → s ≡ t
same_sound Unknown Unknown h = refl
same_sound (Live b q) (Live c p) h =
    let k = numbers_joined b c (eqb q p) h in
    let l = eqb-true q p k.1 in
    λ i. Live (k.0 i) (l i)
same_sound (Gone b) (Gone c) h = ap (λ k. Gone k) (eqb-true b c h)
same_sound _ _ h = absurd (off h)

pub standings_sound : (xs ys : List Standing) → pointwise same_standing xs ys ≡ true → xs ≡ ys
standings_sound [] [] h = refl
standings_sound [] (y ∷ ys) h = absurd (off h)
standings_sound (x ∷ xs) [] h = absurd (off h)
standings_sound (x ∷ xs) (y ∷ ys) h =
    let k = and_parts (same_standing x y) (pointwise same_standing xs ys) h in
    let p = same_sound x y k.0 in
    let q = standings_sound xs ys k.1 in
    λ i. p i ∷ q i

-- a node from 1 to 7 is told of, and no other
abbrev IsTold : ℕ → Type 0
IsTold k = (1 ≤ k) × (k ≤ 7)

none_from : (first k : ℕ) (ss : List Standing) → first + length ss ≤ k → standing_from_node first k ss ≡ Unknown
none_from first k [] l = refl
none_from first k (s ∷ ss) l =
    cond-false (eqb first k) s (standing_from_node (first + 1) k ss) (ne_eqb first k apart) ∙ none_from (first + 1) k ss (omega arith)
  where
    apart : first ≡ k → ⊥
    apart e = omega arith

told_at : (f : ℕ → Standing) (k : ℕ)
    → (standing_from_node 1 k (seven_of f) ≡ f k) ⊎ ((standing_from_node 1 k (seven_of f) ≡ Unknown) × (IsTold k → ⊥))
told_at f zero = inr (refl, λ h. none h.0)
  where
    none : 1 ≤ 0 → ⊥
    none h = omega arith
told_at f (suc zero) = inl refl
told_at f (suc (suc zero)) = inl refl
told_at f (suc (suc (suc zero))) = inl refl
told_at f (suc (suc (suc (suc zero)))) = inl refl
told_at f (suc (suc (suc (suc (suc zero))))) = inl refl
told_at f (suc (suc (suc (suc (suc (suc zero)))))) = inl refl
told_at f (suc (suc (suc (suc (suc (suc (suc zero))))))) = inl refl
told_at f (suc (suc (suc (suc (suc (suc (suc (suc k)))))))) =
    inr (none_from 1 (suc (suc (suc (suc (suc (suc (suc (suc k)))))))) (seven_of f) high, λ h. none h.1)
  where
    high : 1 + 7 ≤ suc (suc (suc (suc (suc (suc (suc (suc k)))))))
    high = omega arith

    none : suc (suc (suc (suc (suc (suc (suc (suc k))))))) ≤ 7 → ⊥
    none h = omega arith

-- ---- in a world

abbrev pub HeadsOk : {B : Type 0} → World B → Type 0
HeadsOk w = (c : worlds.Cut _) → Has w.cuts c → (k : ℕ) → standing k c.log ≡ stands_at (Some c.snapshot) k

pub stands_under : {B : Type 0} (w : World B) → HeadsOk w → (o : Option Snapshot) → RestsOnCut w.cuts o → (k : ℕ)
    → stands_at o k ≡ standing k (under w.cuts o)
stands_under w ok None h k = refl
stands_under w ok (Some s) h k =
    let f = under_found w.cuts s (h s refl) in
    ap (λ z. stands_at (Some z) k) (sym f.2) ∙ (sym (ok f.0 f.1 k) ∙ ap (λ l. standing k l) (sym f.3))

-- a node stands where its whole log says
pub stands_whole : {B : Type 0} (w : World B) → HeadsOk w → (x : NodeState B) → RestsOnCut w.cuts x.rows.snapshot → (k : ℕ)
    → standing_of x k ≡ standing k (under w.cuts x.rows.snapshot ++ x.applied)
stands_whole w ok x h k =
    ap (λ s. standing_from k s x.applied) (stands_under w ok x.rows.snapshot h k)
    ∙ sym (standing_on k Unknown (under w.cuts x.rows.snapshot) x.applied)

module _ {B : Type 0} (same : B → B → Bool) (equal : IsEquality same) (members : ℕ) (few : members ≤ 7) where
  module _ (early : List (Event B)) (ok : HeadsOk (played same members early)) where
    abbrev w : World B
    w = played same members early

    node_stands : (n : ℕ) → (node_at w.nodes n).up ≡ true → (k : ℕ) → standing_of (node_at w.nodes n) k ≡ standing k (log_of w n)
    node_stands n up k =
        stands_whole w ok (node_at w.nodes n) ((found_all same equal members early).nodes n) k
        ∙ ap (λ l. standing k l) (sym (whole_is w.cuts (node_at w.nodes n) up))

    -- no log has a Boot of a node that is not told of
    elsewhere : (n k : ℕ) → (IsTold k → ⊥) → standing k (log_of w n) ≡ Unknown
    elsewhere n k d =
        unbooted k (log_of w n) (λ b h. let z = boot_was_had same members equal early n k b h in d (z.0.0, le z.0.1 few))
      where
        le : {a b c : ℕ} → a ≤ b → b ≤ c → a ≤ c
        le p q = omega arith

    head_tells : (n : ℕ) → (node_at w.nodes n).up ≡ true → (o : Option Head) → is_head_of (node_at w.nodes n) o ≡ true → (k : ℕ)
        → standing k (log_of w n) ≡ stands_by o k
    head_tells n up None h k = absurd (off h)
    head_tells n up (Some head) h k =
        let p = and_parts (head.floor == log_length (node_at w.nodes n)) (pointwise same_standing head.standings (seven_of (standing_of (node_at w.nodes n)))) h in
        let is = standings_sound head.standings (seven_of (standing_of (node_at w.nodes n))) p.1 in
        ⊎_elim (λ t. sym (ap (λ l. standing_from_node 1 k l) is ∙ (t ∙ node_stands n up k)))
        (λ t. elsewhere n k t.1 ∙ sym (ap (λ l. standing_from_node 1 k l) is ∙ t.0))
        (told_at (standing_of (node_at w.nodes n)) k)

    -- a cut leaves each node standing where it stood
    cut_stands_at : (n : ℕ) (s : Snapshot) → (node_at w.nodes n).up ≡ true → may_cut (Some s) (node_at w.nodes n) ≡ true → (k : ℕ)
        → standing k (log_of w n) ≡ stands_at (Some s) k
    cut_stands_at n s up may k =
        let q = and_parts (nat_lt 0 (length (node_at w.nodes n).applied))
        ((s.floor == log_length (node_at w.nodes n)) && is_head_of (node_at w.nodes n) (head_at s.octets)) may in
        let r = and_parts (s.floor == log_length (node_at w.nodes n)) (is_head_of (node_at w.nodes n) (head_at s.octets)) q.1 in
        head_tells n up (head_at s.octets) r.1 k

    cut_head : (e : Event B) → May same members w e → (c : worlds.Cut B) → Has (cut_by w e) c → (k : ℕ)
        → standing k c.log ≡ stands_at (Some c.snapshot) k
    cut_head (Cut n None) m c h k = absurd (has_nil h)
    cut_head (Cut n (Some s)) m c h k =
        let p = and_parts (node_at w.nodes n).up (may_cut (Some s) (node_at w.nodes n)) m.1 in
        subst (λ (d : worlds.Cut B). standing k d.log ≡ stands_at (Some d.snapshot) k) (has_one h) (cut_stands_at n s p.0 p.1 k)
    cut_head (Deliver p) m c h k = absurd (has_nil h)
    cut_head (Take n t body) m c h k = absurd (has_nil h)
    cut_head (Tick n) m c h k = absurd (has_nil h)
    cut_head (Start n) m c h k = absurd (has_nil h)
    cut_head (Suspect n other) m c h k = absurd (has_nil h)
    cut_head (Crash n) m c h k = absurd (has_nil h)
    cut_head (Restart n) m c h k = absurd (has_nil h)

    heads_next : (e : Event B) → HeadsOk (next same members w e)
    heads_next e =
        by_next same members (λ z. HeadsOk z) w e ok
        (λ m c h k. ⊎_elim (λ i. ok c i k) (λ i. cut_head e m c i k) (has_cases w.cuts (cut_by w e) h))

  heads_play : (todo early : List (Event B)) → HeadsOk (played same members early) → HeadsOk (played same members (early ++ todo))
  heads_play [] early h = subst (λ l. HeadsOk (played same members l)) (sym (append-nil early)) h
  heads_play (e ∷ todo) early h =
      subst (λ l. HeadsOk (played same members l)) (append_assoc early (e ∷ []) todo)
      (heads_play todo (early ++ e ∷ [])
      (subst (λ (z : World B). HeadsOk z) (sym (play_on same members early (e ∷ []) (first_world members))) (heads_next early h e)))

  pub heads_ok : (events : List (Event B)) → HeadsOk (played same members events)
  heads_ok events = heads_play events [] (λ c h. absurd (has_nil h))

  -- a node that is up stands where its whole log says
  pub stands : (events : List (Event B)) (n : ℕ) → (node_at (played same members events).nodes n).up ≡ true → (k : ℕ)
      → standing_of (node_at (played same members events).nodes n) k ≡ standing k (log_of (played same members events) n)
  stands events n up k = node_stands events (heads_ok events) n up k

  pub cut_stands : (events : List (Event B)) (n : ℕ) (s : Snapshot) → (node_at (played same members events).nodes n).up ≡ true
      → may_cut (Some s) (node_at (played same members events).nodes n) ≡ true → (k : ℕ)
      → stands_at (Some s) k ≡ standing_of (node_at (played same members events).nodes n) k
  cut_stands events n s up may k =
      sym (cut_stands_at events (heads_ok events) n s up may k) ∙ sym (stands events n up k)

-- ---- boots

-- the greatest boot of a node never falls along a log, and it is no lower than any Boot of it there

boot_rises : {B : Type 0} (n : ℕ) (s : Standing) (e : Entry B) → boot_in s ≤ boot_in (standing_after n s e)
boot_rises n s Noop = at_least (boot_in s)
  where
    at_least : (a : ℕ) → a ≤ a
    at_least a = omega arith
boot_rises n s (Boot k c) =
    cond_both (eqb k n && is_new_boot s c) (Live c 0) s (λ z. boot_in s ≤ boot_in z)
    (λ t. above s (and_parts (eqb k n) (is_new_boot s c) t).1) (λ t. at_least (boot_in s))
  where
    at_least : (a : ℕ) → a ≤ a
    at_least a = omega arith

    less : (a b : ℕ) → a < b → a ≤ b
    less a b l = omega arith

    above : (s : Standing) → is_new_boot s c ≡ true → boot_in s ≤ c
    above Unknown h = omega arith
    above (Live b q) h = less b c (ltb-true b c h)
    above (Gone b) h = less b c (ltb-true b c h)
boot_rises n s (Lost k c) =
    cond_both (eqb k n && is_live s c) (gone s) s (λ z. boot_in s ≤ boot_in z) (λ t. same_boot s) (λ t. at_least (boot_in s))
  where
    at_least : (a : ℕ) → a ≤ a
    at_least a = omega arith

    same_boot : (s : Standing) → boot_in s ≤ boot_in (gone s)
    same_boot Unknown = at_least 0
    same_boot (Live b q) = at_least b
    same_boot (Gone b) = at_least b
boot_rises n s (Item k c q t x) =
    cond_both (eqb k n && is_next s c q) (Live c q) s (λ z. boot_in s ≤ boot_in z)
    (λ t. same_boot s (and_parts (eqb k n) (is_next s c q) t).1) (λ t. at_least (boot_in s))
  where
    at_least : (a : ℕ) → a ≤ a
    at_least a = omega arith

    at_most : (a b : ℕ) → a ≡ b → a ≤ b
    at_most a b e = omega arith

    same_boot : (s : Standing) → is_next s c q ≡ true → boot_in s ≤ c
    same_boot Unknown h = absurd (off h)
    same_boot (Live b p) h = at_most b c (eqb-true b c (and_parts (eqb b c) (eqb q (p + 1)) h).0)
    same_boot (Gone b) h = absurd (off h)

pub all_rise : {B : Type 0} (n : ℕ) (s : Standing) (log : List (Entry B)) → boot_in s ≤ boot_in (standing_from n s log)
all_rise n s [] = at_least (boot_in s)
  where
    at_least : (a : ℕ) → a ≤ a
    at_least a = omega arith
all_rise n s (e ∷ es) = le (boot_rises n s e) (all_rise n (standing_after n s e) es)
  where
    le : {a b c : ℕ} → a ≤ b → b ≤ c → a ≤ c
    le p q = omega arith

boot_counts : (n c : ℕ) (s : Standing) → c ≤ boot_in (if eqb n n && is_new_boot s c then Live c 0 else s)
boot_counts n c s = go (eqb n n && is_new_boot s c) refl
  where
    at_least : (a : ℕ) → a ≤ a
    at_least a = omega arith

    old : (s : Standing) → is_new_boot s c ≡ false → c ≤ boot_in s
    old Unknown h = absurd (off (sym h))
    old (Live b q) h = ltb-false b c h
    old (Gone b) h = ltb-false b c h

    go : (z : Bool) → (eqb n n && is_new_boot s c) ≡ z → c ≤ boot_in (if z then Live c 0 else s)
    go true t = at_least c
    go false t =
        old s
        (⊎_elim (λ f. absurd (off (sym f ∙ eq-eqb n n refl))) (λ f. f) (and_cases (eqb n n) (is_new_boot s c) t))

pub boot_low : {B : Type 0} (n c : ℕ) (s : Standing) (log : List (Entry B)) → Has log (Boot n c) → c ≤ boot_in (standing_from n s log)
boot_low n c s [] h = absurd (has_nil h)
boot_low {B} n c s (e ∷ es) h =
    ⊎_elim
    (λ (i : e ≡ Boot n c). le
    (subst (λ z. c ≤ boot_in (standing_after n s z)) (sym i) (boot_counts n c s)) (all_rise n (standing_after n s e) es))
    (λ r. boot_low n c (standing_after n s e) es r) (has_cons h)
  where
    le : {a b d : ℕ} → a ≤ b → b ≤ d → a ≤ d
    le p q = omega arith

-- the log of a snapshot that has not a node's present boot has no Boot of it
pub newer_unbooted : {B : Type 0} (w : World B) → HeadsOk w → (n : ℕ) (x : NodeState B) (s : Snapshot) (head : Head) → IsCut w.cuts s
    → head_at s.octets ≡ Some head → has_boot n x head ≡ false → Has (under w.cuts (Some s)) (Boot n x.rows.boot) → ⊥
newer_unbooted w ok n x s head cut reads newer h =
    past
    (subst (λ z. x.rows.boot ≤ boot_in z)
    (sym (stands_under w ok (Some s) only n) ∙ ap (λ o. stands_by o n) reads)
    (boot_low n x.rows.boot Unknown (under w.cuts (Some s)) h))
    (leb-false x.rows.boot (boot_in (standing_from_node 1 n head.standings)) newer)
  where
    past : {a b : ℕ} → a ≤ b → b < a → ⊥
    past p q = omega arith

    only : RestsOnCut w.cuts (Some s)
    only z e = subst (λ y. IsCut w.cuts y) (same_one z e) cut
      where
        same_one : (z : Snapshot) → Some s ≡ Some z → s ≡ z
        same_one z e = cc

-- if no Boot of it is greater than this one, it isn't either
boot_bound : {B : Type 0} (n k : ℕ) (s : Standing) (log : List (Entry B)) → boot_in s ≤ k → ((c : ℕ) → Has log (Boot n c) → c ≤ k)
    → boot_in (standing_from n s log) ≤ k
boot_bound n k s [] l h = l
boot_bound {B} n k s (e ∷ es) l h =
    boot_bound n k (standing_after n s e) es (after s l e (λ c i. h c (subst (λ z. Has (e ∷ es) z) i here))) (λ c i. h c (there i))
  where
    at_most : (a b : ℕ) → a ≡ b → b ≤ k → a ≤ k
    at_most a b i j = omega arith

    went : (s : Standing) → boot_in s ≤ k → boot_in (gone s) ≤ k
    went Unknown l = l
    went (Live b q) l = l
    went (Gone b) l = l

    goes_on : (s : Standing) (c q : ℕ) → boot_in s ≤ k → is_next s c q ≡ true → c ≤ k
    goes_on Unknown c q l i = absurd (off i)
    goes_on (Live b p) c q l i = at_most c b (sym (eqb-true b c (and_parts (eqb b c) (eqb q (p + 1)) i).0)) l
    goes_on (Gone b) c q l i = absurd (off i)

    after : (s : Standing) → boot_in s ≤ k → (e : Entry B) → ((c : ℕ) → e ≡ Boot n c → c ≤ k) → boot_in (standing_after n s e) ≤ k
    after s l Noop d = l
    after s l (Boot j c) d =
        cond_both (eqb j n && is_new_boot s c) (Live c 0) s (λ z. boot_in z ≤ k)
        (λ t. d c (ap (λ i. Boot i c) (eqb-true j n (and_parts (eqb j n) (is_new_boot s c) t).0))) (λ t. l)
    after s l (Lost j c) d = cond_both (eqb j n && is_live s c) (gone s) s (λ z. boot_in z ≤ k) (λ t. went s l) (λ t. l)
    after s l (Item j c q x y) d =
        cond_both (eqb j n && is_next s c q) (Live c q) s (λ z. boot_in z ≤ k)
        (λ t. goes_on s c q l (and_parts (eqb j n) (is_next s c q) t).1) (λ t. l)

module _ {B : Type 0} (same : B → B → Bool) (equal : IsEquality same) (members : ℕ) where
  -- no log that was cut has a boot that its node had not
  pub under_boots : (events : List (Event B)) (o : Option Snapshot) (n c : ℕ) → Has (under (played same members events).cuts o) (Boot n c)
      → c ≤ (node_at (played same members events).nodes n).rows.boot
  under_boots events o n c h =
      under_each (λ l. Has l (Boot n c) → c ≤ (node_at w'.nodes n).rows.boot) (λ q. absurd (has_nil q)) w'.cuts
      (λ d g q. ⊎_elim (λ z. absurd (differ z)) (λ z. boot_made same members events n c z)
      (cut_was_made same members equal events d g (Boot n c) q))
      o h
    where
      w' : World B
      w' = played same members events

      differ : ◌≡◌ {A = Entry B} (Boot n c) Noop → ⊥
      differ q = cc

  -- nor does a snapshot tell of one
  pub told_boots : members ≤ 7 → (events : List (Event B)) (o : Option Snapshot) → RestsOnCut (played same members events).cuts o → (n : ℕ)
      → boot_in (stands_at o n) ≤ (node_at (played same members events).nodes n).rows.boot
  told_boots few events o h n =
      subst (λ s. boot_in s ≤ (node_at (played same members events).nodes n).rows.boot)
      (sym (stands_under (played same members events) (heads_ok same equal members few events) o h n))
      (boot_bound n (node_at (played same members events).nodes n).rows.boot Unknown (under (played same members events).cuts o)
      (at_least (node_at (played same members events).nodes n).rows.boot) (λ c i. under_boots events o n c i))
    where
      at_least : (a : ℕ) → 0 ≤ a
      at_least a = omega arith
