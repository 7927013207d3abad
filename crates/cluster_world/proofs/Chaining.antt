-- What a leader proposes of what is pending: each entry that does not stand, in order; so its Boot and its Items take effect one after the other.
use Rattle.std.proofs.Common.{◌≡◌, ◌⊎◌, inl, inr, ⊎_elim, ℕ, suc, ◌+◌, ◌-◌, ◌≤◌, Bool, true, false, ◌&&◌, eqb, refl, sym, ap, ◌∙◌, subst}
use Rattle.std.proofs.Common.{arith}
use Rattle.std.proofs.Common.{List, [], ◌∷◌, ◌++◌, length, drop, append_assoc, append-nil}
use Rattle.std.specs.Prelude.{filter, nat_lt, nat_le, if◌then◌else◌}
use Rattle.std.specs.List.{list_any}
use Rattle.std.proofs.lemmas.List.{map-append, length-drop}
use Rattle.std.proofs.lemmas.List.Sums.{fold-append}
use Rattle.std.proofs.lemmas.Bool.{cond_both, cond-true, cond-false, and_parts, and_from, and_left, and_right, or_from, or_cases}
use Rattle.std.proofs.lemmas.Bool.{cases_Bool, eq-eqb, ne_eqb, le-ltb, le-leb, leb-true}
use Rattle.cluster_world.proofs.Ends.{has_end_both}
use Rattle.cluster_world.proofs.Lists.{has_nil, has_one, has_cons, has_cases, has_left, has_right, map_has}
use Rattle.cluster_world.proofs.Owing.{kept, owed_by, MayStand, Early, owed_early, owed_live}
use Rattle.cluster_world.specs.Has.{Has, here, there}
use Rattle.cluster_world.specs.Origins.{Act}
use Rattle.cluster_world.specs.Owed.{items_after}
use Rattle.paxos_packets.specs.Body.{IsEquality}
use Rattle.paxos_packets.specs.Entry.{entry_equality, same_entry}
use Rattle.paxos_packets.specs.declared.ballot.Ballot.{Ballot}
use Rattle.paxos_packets.specs.declared.entry.Entry.{Entry}
use Rattle.paxos_packets.specs.declared.entry.Entry.TheVariants.{Noop, Boot, Lost, Item}
use Rattle.paxos_packets.specs.declared.vote.Vote.{Vote}
use Rattle.paxos_proposer.specs.Proposals.{stands}
use Rattle.paxos_proposer.specs.Proposer.{next_vote, submitted}
use Rattle.paxos_proposer.specs.Proposing.{proposals_of}
use Rattle.paxos_proposer.specs.Role.{Role, Leading}
use Rattle.paxos_node.specs.Applying.{ends_boot, has_end}
use Rattle.replica_machine.specs.declared.roll.Standing.{Standing}
use Rattle.replica_machine.specs.declared.roll.Standing.TheVariants.{Live}
use Rattle.replica_machine.specs.Roll.{is_new_boot, is_live, gone, standing_after, standing_from, was_taken}
use Rattle.world_rescue.specs.Course.{entries_of, propose_all, propose_new}

off : false ≡ true → ⊥
off e = cc

-- ---- its Boot and its Items, one after the other

pub record BootNext (n b k c : ℕ) (s : Standing) : Type 0 where
  pub node : k ≡ n
  pub boot : c ≡ b
  pub early : Early b s

pub record ItemNext (n b k c q : ℕ) (s : Standing) : Type 0 where
  pub node : k ≡ n
  pub boot : c ≡ b
  pub before : ℕ
  pub next : q ≡ suc before
  pub stands : s ≡ Live b before

-- entries that bring the node's standing on, up to this many acts; losses of others are among them
abbrev pub Chain : {B : Type 0} → ℕ → ℕ → ℕ → Standing → List (Entry B) → Type 0
Chain n b most s [] = s ≡ Live b most
Chain n b most s (Noop ∷ es) = ⊥
Chain n b most s (Boot k c ∷ es) = BootNext n b k c s × Chain n b most (Live b 0) es
Chain n b most s (Lost k c ∷ es) = (k ≡ n → ⊥) × Chain n b most s es
Chain n b most s (Item k c q t x ∷ es) = ItemNext n b k c q s × Chain n b most (Live b q) es

-- what is owed is one

head_item : {B : Type 0} (n b : ℕ) (f : Entry B) (fs : List (Entry B)) (j : ℕ) (more : List (Act B)) → f ∷ fs ≡ items_after n b j more
    → (a : Act B) × (rest : List (Act B)) × (more ≡ a ∷ rest) × (f ≡ Item n b (suc j) a.transport a.body)
    × (fs ≡ items_after n b (suc j) rest)
head_item {B} n b f fs j [] e = absurd (nothing e)
  where
    nothing : ◌≡◌ {A = List (Entry B)} (f ∷ fs) [] → ⊥
    nothing h = cc
head_item {B} n b f fs j (a ∷ rest) e = (a, rest, refl, head e, tail e)
  where
    head : ◌≡◌ {A = List (Entry B)} (f ∷ fs) (Item n b (suc j) a.transport a.body ∷ items_after n b (suc j) rest)
        → f ≡ Item n b (suc j) a.transport a.body
    head h = cc

    tail : ◌≡◌ {A = List (Entry B)} (f ∷ fs) (Item n b (suc j) a.transport a.body ∷ items_after n b (suc j) rest) → fs ≡ items_after n b
        (suc j) rest
    tail h = cc

chain_items : {B : Type 0} (n b most : ℕ) (es : List (Entry B)) (j : ℕ) (more : List (Act B)) → filter kept es ≡ items_after n b j more
    → ((k c : ℕ) → Has es (Lost k c) → k ≡ n → ⊥) → most ≡ j + length more → Chain n b most (Live b j) es
chain_items n b most [] j [] e l m = λ i. Live b ((plain j ∙ sym m) i)
  where
    plain : (k : ℕ) → k ≡ k + 0
    plain k = omega arith
chain_items {B} n b most [] j (a ∷ more) e l m = absurd (nothing e)
  where
    nothing : ◌≡◌ {A = List (Entry B)} [] (Item n b (suc j) a.transport a.body ∷ items_after n b (suc j) more) → ⊥
    nothing h = cc
chain_items {B} n b most (Noop ∷ es) j more e l m =
    let r = head_item n b Noop (filter kept es) j more e in absurd (differ r.0 r.3)
  where
    differ : (a : Act B) → ◌≡◌ {A = Entry B} Noop (Item n b (suc j) a.transport a.body) → ⊥
    differ a h = cc
chain_items {B} n b most (Boot k c ∷ es) j more e l m =
    let r = head_item n b (Boot k c) (filter kept es) j more e in absurd (differ r.0 r.3)
  where
    differ : (a : Act B) → ◌≡◌ {A = Entry B} (Boot k c) (Item n b (suc j) a.transport a.body) → ⊥
    differ a h = cc
chain_items n b most (Lost k c ∷ es) j more e l m = (l k c here, chain_items n b most es j more e (λ i d h. l i d (there h)) m)
chain_items {B} n b most (Item k c q t x ∷ es) j more e l m =
    let r = head_item n b (Item k c q t x) (filter kept es) j more e in (
      record { node = node r.0 r.3; boot = boot r.0 r.3; before = j; next = next r.0 r.3; stands = refl },
      subst (λ z. Chain n b most (Live b z) es) (sym (next r.0 r.3))
          (chain_items n b most es (suc j) r.1 r.4 (λ i d h. l i d (there h))
          (count (length r.1) (ap (λ (z : List (Act B)). length z) r.2))),
    )
  where
    node : (a : Act B) → ◌≡◌ {A = Entry B} (Item k c q t x) (Item n b (suc j) a.transport a.body) → k ≡ n
    node a h = cc

    boot : (a : Act B) → ◌≡◌ {A = Entry B} (Item k c q t x) (Item n b (suc j) a.transport a.body) → c ≡ b
    boot a h = cc

    next : (a : Act B) → ◌≡◌ {A = Entry B} (Item k c q t x) (Item n b (suc j) a.transport a.body) → q ≡ suc j
    next a h = cc

    count : (rest : ℕ) → length more ≡ suc rest → most ≡ suc j + rest
    count rest h = omega arith

chain_whole : {B : Type 0} (n b : ℕ) (s : Standing) (es : List (Entry B)) (acts : List (Act B)) → Early b s
    → filter kept es ≡ Boot n b ∷ items_after n b 0 acts → ((k c : ℕ) → Has es (Lost k c) → k ≡ n → ⊥) → Chain n b (length acts) s es
chain_whole {B} n b s [] acts h e l = absurd (nothing e)
  where
    nothing : ◌≡◌ {A = List (Entry B)} [] (Boot n b ∷ items_after n b 0 acts) → ⊥
    nothing h = cc
chain_whole {B} n b s (Noop ∷ es) acts h e l = absurd (nothing e)
  where
    nothing : ◌≡◌ {A = List (Entry B)} (Noop ∷ filter kept es) (Boot n b ∷ items_after n b 0 acts) → ⊥
    nothing h = cc
chain_whole {B} n b s (Boot k c ∷ es) acts h e l = (
  record { node = node e; boot = boot e; early = h },
  chain_items n b (length acts) es 0 acts (tail e) (λ i d g. l i d (there g)) (plain (length acts)),
)
  where
    node : ◌≡◌ {A = List (Entry B)} (Boot k c ∷ filter kept es) (Boot n b ∷ items_after n b 0 acts) → k ≡ n
    node h = cc

    boot : ◌≡◌ {A = List (Entry B)} (Boot k c ∷ filter kept es) (Boot n b ∷ items_after n b 0 acts) → c ≡ b
    boot h = cc

    tail : ◌≡◌ {A = List (Entry B)} (Boot k c ∷ filter kept es) (Boot n b ∷ items_after n b 0 acts) → filter kept es
        ≡ items_after n b 0 acts
    tail h = cc

    plain : (k : ℕ) → k ≡ 0 + k
    plain k = omega arith
chain_whole n b s (Lost k c ∷ es) acts h e l = (l k c here, chain_whole n b s es acts h e (λ i d g. l i d (there g)))
chain_whole {B} n b s (Item k c q t x ∷ es) acts h e l = absurd (nothing e)
  where
    nothing : ◌≡◌ {A = List (Entry B)} (Item k c q t x ∷ filter kept es) (Boot n b ∷ items_after n b 0 acts) → ⊥
    nothing h = cc

pub chain_owed : {B : Type 0} (n b : ℕ) (s : Standing) (es : List (Entry B)) (acts : List (Act B)) → MayStand b s (length acts)
    → filter kept es ≡ owed_by n b s acts → ((k c : ℕ) → Has es (Lost k c) → k ≡ n → ⊥) → Chain n b (length acts) s es
chain_owed n b s es acts (inl h) e l = chain_whole n b s es acts h (e ∙ owed_early n b s h acts) l
chain_owed n b s es acts (inr m) e l =
    subst (λ z. Chain n b (length acts) z es) (sym m.1)
    (chain_items n b (length acts) es m.0 (drop m.0 acts) (e ∙ (ap (λ z. owed_by n b z acts) m.1 ∙ owed_live n b m.0 acts)) l
    (count (length (drop m.0 acts)) (length-drop m.0 acts) m.2))
  where
    count : (d : ℕ) → d ≡ length acts - m.0 → m.0 ≤ length acts → length acts ≡ m.0 + d
    count d h g = omega arith

-- ---- what is proposed

module _ {B : Type 0} (same : B → B → Bool) (equal : IsEquality same) (applied : ℕ) where
  abbrev At : Entry B → Vote B → Bool
  At e v = nat_lt applied v.slot && same_entry same v.entry e

  stands_not : (e : Entry B) (votes : List (Vote B)) → ((v : Vote B) → Has votes v → (v.slot ≤ applied) ⊎ (v.entry ≡ e → ⊥)) → list_any
      (At e) votes ≡ false
  stands_not e [] h = refl
  stands_not e (v ∷ votes) h =
      or_from (At e v) (list_any (At e) votes)
      (⊎_elim (λ l. and_left (nat_lt applied v.slot) (same_entry same v.entry e) (le-ltb applied v.slot l))
      (λ d. and_right (nat_lt applied v.slot) (same_entry same v.entry e)
      (⊎_elim (λ t. absurd (d ((entry_equality same equal).sound v.entry e t))) (λ t. t) (cases_Bool (same_entry same v.entry e))))
      (h v here))
      (stands_not e votes (λ w i. h w (there i)))

  stands_at : (e : Entry B) (votes : List (Vote B)) → list_any (At e) votes ≡ true → (v : Vote B) × Has votes v × (v.entry ≡ e)
  stands_at e [] h = absurd (off h)
  stands_at e (v ∷ votes) h =
      ⊎_elim (λ t. (
        v,
        here,
        (entry_equality same equal).sound v.entry e
            (and_parts (nat_lt applied v.slot) (same_entry same v.entry e) t).1,
      ))
      (λ t. let r = stands_at e votes t in (r.0, there r.1, r.2)) (or_cases (At e v) (list_any (At e) votes) h)

  -- nothing that was proposed goes, and all that is to be proposed is there
  stays_in : (es : List (Entry B)) (b : Ballot) (next : ℕ) (table : List (Vote B)) (v : Vote B) → Has table v
      → Has (proposals_of (propose_new same applied es (Leading b next table))) v
  stays_in [] b next table v h = h
  stays_in (e ∷ es) b next table v h =
      cond_both (stands same applied (Leading b next table) e) (Leading b next table)
      (Leading b (suc next) (table ++ next_vote b next e ∷ []))
      (λ (r : Role B). Has (proposals_of (propose_new same applied es r)) v) (λ t. stays_in es b next table v h)
      (λ t. stays_in es b (suc next) (table ++ next_vote b next e ∷ []) v (has_left _ h))

  abbrev Holds : Role B → Entry B → Type 0
  Holds r e = (v : Vote B) × Has (proposals_of r) v × (v.entry ≡ e)

  pub all_in : (es : List (Entry B)) (b : Ballot) (next : ℕ) (table : List (Vote B)) (e : Entry B) → Has es e
      → Holds (propose_new same applied es (Leading b next table)) e
  all_in [] b next table e h = absurd (has_nil h)
  all_in (f ∷ es) b next table e h =
      cond_both (stands same applied (Leading b next table) f) (Leading b next table) (Leading b (suc next) new)
      (λ (r : Role B). Holds (propose_new same applied es r) e)
      (λ t. ⊎_elim (λ (i : f ≡ e). let r = stands_at f table t in (r.0, stays_in es b next table r.0 r.1, r.2 ∙ i))
      (λ i. all_in es b next table e i) (has_cons h))
      (λ t. ⊎_elim
      (λ (i : f ≡ e). (next_vote b next f, stays_in es b (suc next) new (next_vote b next f) (has_right table here), i))
      (λ i. all_in es b (suc next) new e i) (has_cons h))
    where
      new : List (Vote B)
      new = table ++ next_vote b next f ∷ []

  -- what a majority calls for
  pub all_shape : (es : List (Entry B)) (b : Ballot) (next : ℕ) (table : List (Vote B))
      → (later : ℕ) × (ws : List (Vote B)) × (propose_all es (Leading b next table) ≡ Leading b later (table ++ ws)) × (entries_of ws ≡ es)
  all_shape [] b next table = (next, [], (λ i. Leading b next (sym (append-nil table) i)), refl)
  all_shape (e ∷ es) b next table =
      let r = all_shape es b (suc next) (table ++ next_vote b next e ∷ []) in (
        r.0,
        next_vote b next e ∷ r.1,
        r.2 ∙ (λ i. Leading b r.0 (append_assoc table (next_vote b next e ∷ []) r.1 i)),
        λ i. e ∷ r.3 i,
      )

  -- ---- what is pending is proposed in order

  module _ (n b most : ℕ) (ballot : Ballot) (table : List (Vote B)) (old : (v : Vote B) → Has table v → v.slot ≤ applied)
      (start : Standing) where
    abbrev lead : ℕ → List (Vote B) → Role B
    lead next ws = Leading ballot next (table ++ ws)

    -- its own entries among these were settled
    pub record Settles (s : Standing) (ws : List (Vote B)) : Type 0 where
      pub boots : Has (entries_of ws) (Boot n b) → is_new_boot s b ≡ false
      pub items : (q t : ℕ) (x : B) → Has (entries_of ws) (Item n b q t x) → was_taken s b q ≡ true

    -- where the node stands after these votes, if none of them ends its boot
    pub record Stood (s : Standing) (ws : List (Vote B)) : Type 0 where
      pub stands_is : standing_from n start (entries_of ws) ≡ s
      pub settles : Settles s ws
      pub ends : has_end n b start (entries_of ws) ≡ false

    -- what is pending was proposed, too
    pub record Brought (r : Role B) : Type 0 where
      pub next : ℕ
      pub ws : List (Vote B)
      pub is : r ≡ lead next ws
      pub stood : Stood (Live b most) ws

    fresh : (e : Entry B) (next : ℕ) (ws : List (Vote B)) → (Has (entries_of ws) e → ⊥) → stands same applied (lead next ws) e ≡ false
    fresh e next ws none =
        stands_not e (table ++ ws)
        (λ v h. ⊎_elim (λ i. inl (old v i)) (λ i. inr (λ d. none (subst (λ z. Has (entries_of ws) z) d
        (map_has (λ (u : Vote B). u.entry) i)))) (has_cases table ws h))

    abbrev pub more : ℕ → List (Vote B) → Entry B → List (Vote B)
    more next ws e = ws ++ next_vote ballot next e ∷ []

    more_is : (next : ℕ) (ws : List (Vote B)) (e : Entry B) → entries_of (more next ws e) ≡ entries_of ws ++ e ∷ []
    more_is next ws e = map-append (λ (v : Vote B). v.entry) ws (next_vote ballot next e ∷ [])

    has_more : (next : ℕ) (ws : List (Vote B)) (e f : Entry B) → Has (entries_of (more next ws e)) f → Has (entries_of ws) f ⊎ (e ≡ f)
    has_more next ws e f h =
        ⊎_elim (λ i. inl i) (λ i. inr (has_one i)) (has_cases (entries_of ws) (e ∷ []) (subst (λ l. Has l f) (more_is next ws e) h))

    stands_more : (s s' : Standing) (next : ℕ) (ws : List (Vote B)) (e : Entry B) → Stood s ws → standing_after n s e ≡ s'
        → ends_boot n b s e ≡ false
        → Settles s' (more next ws e) → Stood s' (more next ws e)
    stands_more s s' next ws e stood after ends settles =
        record {
          stands_is =
              ap (λ l. standing_from n start l) (more_is next ws e)
              ∙ (fold-append (standing_after n) start (entries_of ws) (e ∷ []) ∙ (ap (λ z. standing_after n z e) stood.stands_is ∙ after));
          settles = settles;
          ends =
              ap (λ l. has_end n b start l) (more_is next ws e)
              ∙ (has_end_both n b start (entries_of ws) (e ∷ [])
              ∙ or_from (has_end n b start (entries_of ws)) (has_end n b (standing_from n start (entries_of ws)) (e ∷ [])) stood.ends
              (or_from (ends_boot n b (standing_from n start (entries_of ws)) e) false
              (ap (λ z. ends_boot n b z e) stood.stands_is ∙ ends) refl));
        }

    -- an entry that does not stand is proposed
    proposed : (e : Entry B) (es : List (Entry B)) (next : ℕ) (ws : List (Vote B)) → (Has (entries_of ws) e → ⊥)
        → propose_new same applied (e ∷ es) (lead next ws) ≡ propose_new same applied es (lead (suc next) (more next ws e))
    proposed e es next ws none =
        ap (λ (r : Role B). propose_new same applied es r)
        (cond-false (stands same applied (lead next ws) e) (lead next ws) (submitted e (lead next ws)) (fresh e next ws none)
        ∙ (λ i. Leading ballot (suc next) (append_assoc table ws (next_vote ballot next e ∷ []) i)))

    live_boot : (q : ℕ) → is_new_boot (Live b q) b ≡ false
    live_boot q = le-ltb b b (omega arith)

    taken_to : (q p : ℕ) → p ≤ q → was_taken (Live b q) b p ≡ true
    taken_to q p l = and_from (eqb b b) (nat_le p q) (eq-eqb b b refl) (le-leb p q l)

    not_taken : (q : ℕ) → was_taken (Live b q) b (suc q) ≡ true → ⊥
    not_taken q h = high (leb-true (suc q) q (and_parts (eqb b b) (nat_le (suc q) q) h).1)
      where
        high : suc q ≤ q → ⊥
        high l = omega arith

    boot_after : (s : Standing) → Early b s → standing_after {B = B} n s (Boot n b) ≡ Live b 0
    boot_after s h = cond-true (eqb n n && is_new_boot s b) (Live b 0) s (and_from (eqb n n) (is_new_boot s b) (eq-eqb n n refl) h.fresh)

    item_after : (q t : ℕ) (x : B) → standing_after n (Live b q) (Item n b (suc q) t x) ≡ Live b (suc q)
    item_after q t x =
        cond-true (eqb n n && (eqb b b && eqb (suc q) (q + 1))) (Live b (suc q)) (Live b q)
        (and_from (eqb n n) (eqb b b && eqb (suc q) (q + 1)) (eq-eqb n n refl)
        (and_from (eqb b b) (eqb (suc q) (q + 1)) (eq-eqb b b refl) (eq-eqb (suc q) (q + 1) (plus_one q))))
      where
        plus_one : (k : ℕ) → suc k ≡ k + 1
        plus_one k = omega arith

    -- its Boot
    with_boot : (s : Standing) (next : ℕ) (ws : List (Vote B)) → Early b s → Stood s ws → Stood (Live b 0) (more next ws (Boot n b))
    with_boot s next ws h stood =
        stands_more s (Live b 0) next ws (Boot n b) stood (boot_after s h) refl
        (record {
          boots = λ i. live_boot 0;
          items = λ q t x i. ⊎_elim (λ j. absurd (off (sym (h.untaken q) ∙ stood.settles.items q t x j))) (λ j. absurd (differ q t x j))
              (has_more next ws (Boot n b) (Item n b q t x) i);
        })
      where
        differ : (q t : ℕ) (x : B) → ◌≡◌ {A = Entry B} (Boot n b) (Item n b q t x) → ⊥
        differ q t x j = cc

    no_boot : (s : Standing) (ws : List (Vote B)) → Early b s → Stood s ws → Has (entries_of ws) (Boot n b) → ⊥
    no_boot s ws h stood i = off (sym (stood.settles.boots i) ∙ h.fresh)

    -- its next Item
    with_item : (q t : ℕ) (x : B) (next : ℕ) (ws : List (Vote B)) → Stood (Live b q) ws → Stood (Live b (suc q))
        (more next ws (Item n b (suc q) t x))
    with_item q t x next ws stood =
        stands_more (Live b q) (Live b (suc q)) next ws (Item n b (suc q) t x) stood (item_after q t x) refl
        (record {
          boots = λ i. live_boot (suc q);
          items = λ p u y i. ⊎_elim
              (λ j. taken_to (suc q) p (low p (leb-true p q (and_parts (eqb b b) (nat_le p q) (stood.settles.items p u y j)).1)))
              (λ j. taken_to (suc q) p (upto p (number p u y j)))
              (has_more next ws (Item n b (suc q) t x) (Item n b p u y) i);
        })
      where
        low : (p : ℕ) → p ≤ q → p ≤ suc q
        low p l = omega arith

        upto : (p : ℕ) → suc q ≡ p → p ≤ suc q
        upto p e = omega arith

        number : (p u : ℕ) (y : B) → ◌≡◌ {A = Entry B} (Item n b (suc q) t x) (Item n b p u y) → suc q ≡ p
        number p u y j = cc

    no_item : (q t : ℕ) (x : B) (ws : List (Vote B)) → Stood (Live b q) ws → Has (entries_of ws) (Item n b (suc q) t x) → ⊥
    no_item q t x ws stood i = not_taken q (stood.settles.items (suc q) t x i)

    -- a loss of another
    with_lost : (s : Standing) (k c : ℕ) (next : ℕ) (ws : List (Vote B)) → (k ≡ n → ⊥) → Stood s ws → Stood s (more next ws (Lost k c))
    with_lost s k c next ws d stood =
        stands_more s s next ws (Lost k c) stood (after s) (ap (λ z. (z && eqb c b) && is_live s b) (ne_eqb k n d))
        (record {
          boots = λ i. ⊎_elim (λ j. stood.settles.boots j) (λ j. absurd (boot j)) (has_more next ws (Lost k c) (Boot n b) i);
          items = λ q t x i. ⊎_elim (λ j. stood.settles.items q t x j) (λ j. absurd (item q t x j))
              (has_more next ws (Lost k c) (Item n b q t x) i);
        })
      where
        after : (s : Standing) → standing_after {B = B} n s (Lost k c) ≡ s
        after s =
            cond-false (eqb k n && is_live s c) (gone s) s (and_left (eqb k n) (is_live s c) (ne_eqb k n d))

        boot : ◌≡◌ {A = Entry B} (Lost k c) (Boot n b) → ⊥
        boot j = cc

        item : (q t : ℕ) (x : B) → ◌≡◌ {A = Entry B} (Lost k c) (Item n b q t x) → ⊥
        item q t x j = cc

    pub brings : (es : List (Entry B)) (s : Standing) (next : ℕ) (ws : List (Vote B)) → Chain n b most s es → Stood s ws
        → Brought (propose_new same applied es (lead next ws))
    brings [] s next ws c stood = record { next = next; ws = ws; is = refl; stood = subst (λ z. Stood z ws) c stood }
    brings (Noop ∷ es) s next ws c stood = absurd c
    brings (Boot k d ∷ es) s next ws c stood =
        subst (λ e. Brought (propose_new same applied (e ∷ es) (lead next ws))) (λ i. Boot (sym c.0.node i) (sym c.0.boot i))
        (subst (λ (r : Role B). Brought r) (sym (proposed (Boot n b) es next ws (λ i. no_boot s ws c.0.early stood i)))
        (brings es (Live b 0) (suc next) (more next ws (Boot n b)) c.1 (with_boot s next ws c.0.early stood)))
    brings (Lost k d ∷ es) s next ws c stood =
        cond_both (stands same applied (lead next ws) (Lost k d)) (lead next ws) (submitted (Lost k d) (lead next ws))
        (λ (r : Role B). Brought (propose_new same applied es r)) (λ t. brings es s next ws c.1 stood)
        (λ t. subst (λ l. Brought (propose_new same applied es (Leading ballot (suc next) l)))
        (sym (append_assoc table ws (next_vote ballot next (Lost k d) ∷ [])))
        (brings es s (suc next) (more next ws (Lost k d)) c.1 (with_lost s k d next ws c.0 stood)))
    brings (Item k d q t x ∷ es) s next ws c stood =
        subst (λ e. Brought (propose_new same applied (e ∷ es) (lead next ws)))
        (λ i. Item (sym c.0.node i) (sym c.0.boot i) (sym c.0.next i) t x)
        (subst (λ (r : Role B). Brought r) (sym (proposed item es next ws (λ i. no_item c.0.before t x ws at i)))
        (brings es (Live b (suc c.0.before)) (suc next) (more next ws item)
        (subst (λ z. Chain n b most (Live b z) es) c.0.next c.1) (with_item c.0.before t x next ws at)))
      where
        item : Entry B
        item = Item n b (suc c.0.before) t x

        at : Stood (Live b c.0.before) ws
        at = subst (λ z. Stood z ws) c.0.stands stood

    -- the act comes last, and takes effect
    pub record Finished (t : ℕ) (x : B) (r : Role B) : Type 0 where
      pub next : ℕ
      pub slot : ℕ
      pub ws : List (Vote B)
      pub is : r ≡ lead next (more slot ws (Item n b (suc most) t x))
      pub entries : entries_of (more slot ws (Item n b (suc most) t x)) ≡ entries_of ws ++ Item n b (suc most) t x ∷ []
      pub stands_is : standing_from n start (entries_of ws) ≡ Live b most
      pub ends : has_end n b start (entries_of (more slot ws (Item n b (suc most) t x))) ≡ false

    pub finishes : (t : ℕ) (x : B) (es : List (Entry B)) (s : Standing) (next : ℕ) (ws : List (Vote B)) → Chain n b most s es → Stood s ws
        → Finished t x (propose_new same applied (es ++ Item n b (suc most) t x ∷ []) (lead next ws))
    finishes t x es s next ws c stood =
        subst (λ (r : Role B). Finished t x r)
        (sym
        (fold-append (λ (r : Role B) e. if stands same applied r e then r else submitted e r) (lead next ws) es (item ∷ [])
        ∙ (ap (λ (r : Role B). propose_new same applied (item ∷ []) r) done.is
        ∙ proposed item [] done.next done.ws (λ i. no_item most t x done.ws done.stood i))))
        (record {
          next = suc done.next;
          slot = done.next;
          ws = done.ws;
          is = refl;
          entries = more_is done.next done.ws item;
          stands_is = done.stood.stands_is;
          ends = (with_item most t x done.next done.ws done.stood).ends;
        })
      where
        item : Entry B
        item = Item n b (suc most) t x

        done : Brought (propose_new same applied es (lead next ws))
        done = brings es s next ws c stood
