-- The votes that a leader casts in an event disagree with what was learned exactly if those of the entries do that are gone through.
use Rattle.std.proofs.Common.{◌≡◌, ◌≤◌, ◌<◌, ℕ, suc, Bool, true, false, cond, not, ◌&&◌, ◌||◌, Option, Some, None, is_some, List, [], ◌∷◌, ◌++◌, refl, ap, sym, ◌∙◌, subst, arith}
use Rattle.std.specs.Prelude.{nat_lt, nat_le, ◌==◌}
use Rattle.std.specs.List.{list_any}
use Rattle.std.proofs.lemmas.Bool.{lt-ltb, le-ltb, ltb-true, ltb-false, leb-true, leb-false, eqb-true, or_parts, or_right}
use Rattle.paxos_packets.specs.Ballot.{below, same_ballot}
use Rattle.paxos_packets.specs.Body.{IsEquality}
use Rattle.paxos_packets.specs.Members.{is_majority, is_in, set_with}
use Rattle.paxos_packets.specs.Entry.{same_entry, entry_equality}
use Rattle.paxos_packets.specs.declared.ballot.Ballot.{Ballot}
use Rattle.paxos_packets.specs.declared.entry.Entry.{Entry}
use Rattle.paxos_packets.specs.declared.vote.Vote.{Vote}
use Rattle.paxos_proposer.specs.Role.{Role, Idle, Preparing, Leading}
use Rattle.paxos_proposer.specs.Proposer.{slot_end, next_vote, is_leading}
use Rattle.paxos_proposer.specs.Proposals.{stands_among, behind}
use Rattle.paxos_learner.specs.declared.tallies.SlotBallot.{SlotBallot}
use Rattle.paxos_learner.specs.Tallies.{nodes_heard, hear, place_of, same_place}
use Rattle.paxos_learner.specs.Learned.{is_closed}
use Rattle.paxos_learner.specs.Learner.{LearnerState, learned_at, is_learned, is_known, put_learned, hears, has_most, is_other, disagrees, vote_disagrees, count_vote}
use Rattle.paxos_learner.proofs.Ahead.{learned_is}
use Rattle.paxos_learner.proofs.Counting.{most_then}
use Rattle.paxos_learner.proofs.Overlay.{at_put, nodes_put}
use Rattle.paxos_planning.specs.Node.{Plan, log_length}
use Rattle.paxos_planning.specs.Plan.{cast, send}
use Rattle.paxos_planning.specs.Proposals.{offer, propose_as, propose, propose_new, propose_each, stands, push, forwarded}
use Rattle.paxos_planning.specs.Walking.{Walked, proposes_then, differs, walk_by, walk_on, walk_all, walk_from, proposes_other}
use Rattle.paxos_planning.specs.Walking.{called_votes, slot_after, called_other, leads_to_other, called_of}
use Rattle.paxos_planning.specs.Plan.{with_role}
use Rattle.paxos_planning.specs.Proposals.{propose_all, lead}
use Rattle.paxos_planning.specs.Replies.{on_promise_as, count_promise, on_forward}
use Rattle.paxos_proposer.specs.declared.promises.CountedPromise.{CountedPromise}
use Rattle.paxos_proposer.specs.Promises.{promised, called_by, with_promises, calls, and_promise_of, lowest}
use Rattle.paxos_packets.specs.Snapshot.{floor_in}
use Rattle.paxos_proposer.specs.Reports.{called_for, reports, is_counted}
use Rattle.std.proofs.lemmas.List.{append-nil, append_assoc}

-- tests

below_self : (b : Ballot) → below b b ≡ false
below_self b = go (nat_lt b.round b.round) (nat_lt b.node b.node) refl refl
  where
    none : (n : ℕ) → nat_lt n n ≡ true → ⊥
    none n h = let k = ltb-true n n h in omega (arith, k)

    alone : (x : Bool) → x && false ≡ false
    alone true = refl
    alone false = refl

    go : (x y : Bool) → nat_lt b.round b.round ≡ x → nat_lt b.node b.node ≡ y → x || ((b.round == b.round) && y) ≡ false
    go true y p q = absurd (none b.round p)
    go false true p q = absurd (none b.node q)
    go false false p q = alone (b.round == b.round)

apart : (m n : ℕ) → m < n → n == m ≡ false
apart m n lt = go (n == m) refl
  where
    go : (t : Bool) → n == m ≡ t → t ≡ false
    go true h = absurd (let k = eqb-true n m h in omega (arith, k, lt))
    go false h = refl

apart_back : (m n : ℕ) → m < n → m == n ≡ false
apart_back m n lt = go (m == n) refl
  where
    go : (t : Bool) → m == n ≡ t → t ≡ false
    go true h = absurd (let k = eqb-true m n h in omega (arith, k, lt))
    go false h = refl

or_false : (a : Bool) → a || false ≡ a
or_false true = refl
or_false false = refl

or_both : (a b c : Bool) → (a || b) || c ≡ a || (b || c)
or_both true b c = refl
or_both false b c = refl

any_more : {X : Type 0} (f : X → Bool) (xs : List X) (x : X) → list_any f (xs ++ x ∷ []) ≡ list_any f xs || f x
any_more f [] x = or_false (f x)
any_more f (y ∷ ys) x = ap (λ (t : Bool). f y || t) (any_more f ys x) ∙ sym (or_both (f y) (list_any f ys) (f x))

among_behind : {B : Type 0} (same : B → B → Bool) (n : ℕ) (e : Entry B) (vs : List (Vote B))
    → stands_among same n e vs ≡ stands_among same n e (behind n vs)
among_behind same n e [] = refl
among_behind {B} same n e (v ∷ vs) = go (nat_lt n v.slot) refl (among_behind same n e vs)
  where
    go : (t : Bool) → nat_lt n v.slot ≡ t → stands_among same n e vs ≡ stands_among same n e (behind n vs)
        → (t && same_entry same v.entry e) || stands_among same n e vs ≡ stands_among same n e (cond t (v ∷ behind n vs) (behind n vs))
    go true p more = rw p (ap (λ (u : Bool). same_entry same v.entry e || u) more)
    go false p more = more

-- a learner that counts one vote

module _ {B : Type 0} (members me : ℕ) (v : Vote B) (m : LearnerState B) where
  -- by whether its slot is closed, a majority voted for it, and it is known what the slot holds
  abbrev counted : Bool → Bool → Bool → LearnerState B
  counted c t u = cond c m (cond t (cond u (hears me v m) (record {
    floor = m.floor;
    heard = hear me (place_of v) m.heard;
    learned = put_learned (record { slot = v.slot; entry = v.entry }) m.learned;
  })) (hears me v m))

  counted_floor : (count_vote members me v m).floor ≡ m.floor
  counted_floor = go (is_closed m.floor v.slot) (has_most members v (hears me v m)) (is_known v.slot m)
    where
      go : (c t u : Bool) → (counted c t u).floor ≡ m.floor
      go true t u = refl
      go false true true = refl
      go false true false = refl
      go false false u = refl

  counted_heard : (count_vote members me v m).heard ≡ cond (is_closed m.floor v.slot) m.heard (hear me (place_of v) m.heard)
  counted_heard = go (is_closed m.floor v.slot) (has_most members v (hears me v m)) (is_known v.slot m)
    where
      go : (c t u : Bool) → (counted c t u).heard ≡ cond c m.heard (hear me (place_of v) m.heard)
      go true t u = refl
      go false true true = refl
      go false true false = refl
      go false false u = refl

  free : (o : Option (Entry B)) → is_some o ≡ false → o ≡ None
  free None h = refl
  free (Some e) h = absurd (cc)

  counted_learned : (s : ℕ) → v.slot == s ≡ false → learned_at s (count_vote members me v m).learned ≡ learned_at s m.learned
  counted_learned s other = go (is_closed m.floor v.slot) (has_most members v (hears me v m)) (is_known v.slot m) refl
    where
      go : (c t u : Bool) → is_known v.slot m ≡ u → learned_at s (counted c t u).learned ≡ learned_at s m.learned
      go true t u p = refl
      go false true true p = refl
      go false true false p =
          let q : is_learned v.slot m.learned ≡ false = (or_parts (is_closed m.floor v.slot) (is_learned v.slot m.learned) p).1 in
          at_put s v.slot v.entry m.learned (free (learned_at v.slot m.learned) (sym (learned_is v.slot m.learned) ∙ q))
          ∙ ap (λ (t : Bool). cond t (Some v.entry) (learned_at s m.learned)) other
      go false false u p = refl

  heard_elsewhere : (p : SlotBallot) → same_place p (place_of v) ≡ false
      → nodes_heard p (count_vote members me v m).heard ≡ nodes_heard p m.heard
  heard_elsewhere p other = ap (λ h. nodes_heard p h) counted_heard ∙ go (is_closed m.floor v.slot)
    where
      go : (c : Bool) → nodes_heard p (cond c m.heard (hear me (place_of v) m.heard)) ≡ nodes_heard p m.heard
      go true = refl
      go false =
          nodes_put p (place_of v) (set_with (nodes_heard (place_of v) m.heard) me) m.heard
          ∙ ap (λ (t : Bool). cond t (set_with (nodes_heard (place_of v) m.heard) me) (nodes_heard p m.heard)) other

module _ {B : Type 0} (same : B → B → Bool) (ok : IsEquality same) (members me n : ℕ) (b : Ballot) (l : LearnerState B) where
  -- a vote by what was heard and learned

  vote_parts : (v : Vote B) (m : LearnerState B) → vote_disagrees same members me v m
      ≡ is_majority members (is_in (set_with (nodes_heard (place_of v) m.heard) me))
      && (not (is_closed m.floor v.slot) && is_other same v.entry (learned_at v.slot m.learned))
  vote_parts v m = ap (λ (t : Bool). t && disagrees same v.slot v.entry m) (most_then members me v m)

  votes_alike : (v : Vote B) (m : LearnerState B) → m.floor ≡ l.floor → nodes_heard (place_of v) m.heard ≡ nodes_heard (place_of v) l.heard
      → learned_at v.slot m.learned ≡ learned_at v.slot l.learned → vote_disagrees same members me v m ≡ vote_disagrees same members me v l
  votes_alike v m f h k =
      vote_parts v m
      ∙ (λ i. is_majority members (is_in (set_with (h i) me)) && (not (is_closed (f i) v.slot) && is_other same v.entry (k i)))
      ∙ sym (vote_parts v l)

  -- a leader at this slot, which proposed these in its ballot; of this slot and later ones its learner knows what the first one does
  record At (next : ℕ) (proposed : List (Vote B)) (other : Bool) (o : Plan B) : Type 0 where
    leads : o.node.proposer.role ≡ Leading b next proposed
    length_is : log_length o.node ≡ n
    other_is : o.disagrees ≡ other
    floor : o.node.learner.floor ≡ l.floor
    heard : (s : ℕ) → next ≤ s → nodes_heard (record { slot = s; ballot = b }) o.node.learner.heard ≡ nodes_heard (record { slot = s; ballot = b }) l.heard
    learned : (s : ℕ) → next ≤ s → learned_at s o.node.learner.learned ≡ learned_at s l.learned

  offers : (e : Entry B) (next : ℕ) (proposed : List (Vote B)) (other : Bool) (o : Plan B) → At next proposed other o → nat_lt next slot_end ≡ true
      → At (suc next) (proposed ++ next_vote b next e ∷ []) (other || vote_disagrees same members me (next_vote b next e) l)
      (propose same members me e o)
  offers e next proposed other o a lt =
      let v : Vote B = next_vote b next e in
      let done : Plan B = cast same members me v (offer members me b next proposed e o) in
      let after : At (suc next) (proposed ++ v ∷ []) (other || vote_disagrees same members me v l) done = record {
        leads = ap (λ (t : Bool). cond {A = Role B} t Idle (Leading b (suc next) (proposed ++ v ∷ []))) (below_self b);
        length_is = a.length_is;
        other_is = (λ i. a.other_is i || vote_disagrees same members me v o.node.learner)
            ∙ ap (λ (t : Bool). other || t) (votes_alike v o.node.learner a.floor (a.heard next (omega arith)) (a.learned next (omega arith)));
        floor = counted_floor members me v o.node.learner ∙ a.floor;
        heard = λ s le. heard_elsewhere members me v o.node.learner (record { slot = s; ballot = b })
            (ap (λ (t : Bool). t && same_ballot b b) (apart next s le)) ∙ a.heard s (omega arith);
        learned = λ s le. counted_learned members me v o.node.learner s (apart_back next s le) ∙ a.learned s (omega arith);
      } in
      subst (λ (r : Role B). At (suc next) (proposed ++ v ∷ []) (other || vote_disagrees same members me v l) (propose_as same members me r e o))
      (sym a.leads)
      (subst (λ (t : Bool). At (suc next) (proposed ++ v ∷ []) (other || vote_disagrees same members me v l) (cond t done o)) (sym lt) after)

  none_left : (e : Entry B) (next : ℕ) (proposed : List (Vote B)) (other : Bool) (o : Plan B) → At next proposed other o → nat_lt next slot_end ≡ false
      → propose same members me e o ≡ o
  none_left e next proposed other o a spent =
      ap (λ (r : Role B). propose_as same members me r e o) a.leads
      ∙ ap (λ (t : Bool). cond t (cast same members me (next_vote b next e) (offer members me b next proposed e o)) o) spent

  module _ (before : List (Vote B)) where
    any_recent : List (Entry B) → Entry B → Bool
    any_recent recent d = list_any (λ x. same_entry same x d) recent

    -- what stands was proposed before the event, or is among the entries gone through last; at an applied slot, only the first
    record Tied (proposed : List (Vote B)) (w : Walked B) : Type 0 where
      stand : nat_lt w.next slot_end ≡ true → (d : Entry B)
          → stands_among same n d proposed ≡ stands_among same n d before || list_any (λ x. same_entry same x d) w.recent
      old : nat_lt n w.next ≡ false → (d : Entry B) → stands_among same n d proposed ≡ stands_among same n d before

    record Goes (p : Bool) (e : Entry B) (w : Walked B) (o : Plan B) : Type 0 where
      proposed : List (Vote B)
      at : At (walk_by same members me n b before l p e w).next proposed (walk_by same members me n b before l p e w).other (propose_new same members me e o)
      tied : Tied proposed (walk_by same members me n b before l p e w)

    module _ (e : Entry B) (w : Walked B) (proposed : List (Vote B)) (o : Plan B) (a : At w.next proposed w.other o) (t : Tied proposed w) where
      stands_is : stands same (log_length o.node) o.node.proposer.role e ≡ stands_among same n e proposed
      stands_is i = stands same (a.length_is i) (a.leads i) e

      stays : propose_new same members me e o ≡ o → At w.next proposed (w.other || false) (propose_new same members me e o)
      stays k =
          subst (λ (u : Plan B). At w.next proposed (w.other || false) u) (sym k)
          (subst (λ (x : Bool). At w.next proposed x o) (sym (or_false w.other)) a)

      spent : nat_lt w.next slot_end ≡ false → Goes false e w o
      spent p =
          let none : propose same members me e o ≡ o = none_left e w.next proposed w.other o a p in
          let k : propose_new same members me e o ≡ o = either (stands same (log_length o.node) o.node.proposer.role e) none in
          record {
            proposed = proposed;
            at = stays k;
            tied = record { stand = λ q. absurd (let c = sym p ∙ q in cc); old = t.old };
          }
        where
          either : (x : Bool) → propose same members me e o ≡ o → cond x o (propose same members me e o) ≡ o
          either true h = refl
          either false h = h

      -- an equal entry stands with this one
      with_it : (d : Entry B) → stands_among same n e before || list_any (λ x. same_entry same x e) w.recent ≡ true
          → stands_among same n d before || list_any (λ x. same_entry same x d) w.recent
          ≡ stands_among same n d before || list_any (λ x. same_entry same x d) (w.recent ++ e ∷ [])
      with_it d h =
          go (same_entry same e d) refl ∙ ap (λ (x : Bool). stands_among same n d before || x) (sym (any_more (λ x. same_entry same x d) w.recent e))
        where
          go : (x : Bool) → same_entry same e d ≡ x → stands_among same n d before || list_any (λ y. same_entry same y d) w.recent
              ≡ stands_among same n d before || (list_any (λ y. same_entry same y d) w.recent || x)
          go true q =
              let same_one : e ≡ d = (entry_equality same ok).sound e d q in
              let k : stands_among same n d before || list_any (λ y. same_entry same y d) w.recent ≡ true =
              subst (λ (z : Entry B). stands_among same n z before || list_any (λ y. same_entry same y z) w.recent ≡ true) same_one h in
              k ∙ sym (sym (or_both (stands_among same n d before) (list_any (λ y. same_entry same y d) w.recent) true)
              ∙ or_right (stands_among same n d before || list_any (λ y. same_entry same y d) w.recent) true refl)
          go false q = ap (λ (x : Bool). stands_among same n d before || x) (sym (or_false (list_any (λ y. same_entry same y d) w.recent)))

      passed : nat_lt w.next slot_end ≡ true → stands_among same n e before || list_any (λ x. same_entry same x e) w.recent ≡ true
          → Goes false e w o
      passed p h =
          let k : propose_new same members me e o ≡ o =
          ap (λ (x : Bool). cond x o (propose same members me e o)) (stands_is ∙ t.stand p e ∙ h) in
          record {
            proposed = proposed;
            at = stays k;
            tied = record { stand = λ q d. t.stand q d ∙ with_it d h; old = t.old };
          }

      more : (d : Entry B) → stands_among same n d (proposed ++ next_vote b w.next e ∷ [])
          ≡ stands_among same n d proposed || (nat_lt n w.next && same_entry same e d)
      more d = any_more (λ (v : Vote B). nat_lt n v.slot && same_entry same v.entry d) proposed (next_vote b w.next e)

      none_more : nat_lt n w.next ≡ false → (d : Entry B)
          → stands_among same n d (proposed ++ next_vote b w.next e ∷ []) ≡ stands_among same n d before
      none_more q d =
          more d ∙ ap (λ (x : Bool). stands_among same n d proposed || (x && same_entry same e d)) q
          ∙ or_false (stands_among same n d proposed) ∙ t.old q d

      goes : nat_lt w.next slot_end ≡ true → stands_among same n e before || list_any (λ x. same_entry same x e) w.recent ≡ false
          → Goes true e w o
      goes p h =
          let k : propose_new same members me e o ≡ propose same members me e o =
          ap (λ (x : Bool). cond x o (propose same members me e o)) (stands_is ∙ t.stand p e ∙ h) in
          record {
            proposed = proposed ++ next_vote b w.next e ∷ [];
            at = subst (λ (u : Plan B). At (suc w.next) (proposed ++ next_vote b w.next e ∷ []) (w.other || differs same members me b l w.next e) u)
                (sym k)
                (subst (λ (x : Bool). At (suc w.next) (proposed ++ next_vote b w.next e ∷ [])
                (w.other || (x && vote_disagrees same members me (next_vote b w.next e) l)) (propose same members me e o)) (sym p)
                (offers e w.next proposed w.other o a p));
            tied = go (nat_le w.next n) refl;
          }
        where
          above : nat_le w.next n ≡ false → nat_lt n w.next ≡ true
          above q = lt-ltb n w.next (let c = leb-false w.next n q in omega (arith, c))

          not_above : nat_le w.next n ≡ true → nat_lt n w.next ≡ false
          not_above q = le-ltb n w.next (leb-true w.next n q)

          go : (x : Bool) → nat_le w.next n ≡ x → Tied (proposed ++ next_vote b w.next e ∷ []) (record {
            next = suc w.next;
            recent = cond x [] (w.recent ++ e ∷ []);
            other = w.other || differs same members me b l w.next e;
          })
          go true q = record {
            stand = λ r d. none_more (not_above q) d ∙ sym (or_false (stands_among same n d before));
            old = λ r d. none_more (not_above q) d;
          }
          go false q = record {
            stand = λ r d.
                more d ∙ ap (λ (x : Bool). stands_among same n d proposed || (x && same_entry same e d)) (above q)
                ∙ ap (λ (x : Bool). x || same_entry same e d) (t.stand p d)
                ∙ or_both (stands_among same n d before) (list_any (λ x. same_entry same x d) w.recent) (same_entry same e d)
                ∙ ap (λ (x : Bool). stands_among same n d before || x) (sym (any_more (λ x. same_entry same x d) w.recent e));
            old = λ r. absurd (let c = ltb-true n w.next (above q) in let f = ltb-false n (suc w.next) r in omega (arith, c, f));
          }

      goes_on : Goes (proposes_then same n before w.next w.recent e) e w o
      goes_on = go (nat_lt w.next slot_end) (stands_among same n e before) (list_any (λ x. same_entry same x e) w.recent) refl refl refl
        where
          go : (x y z : Bool) → nat_lt w.next slot_end ≡ x → stands_among same n e before ≡ y
              → list_any (λ d. same_entry same d e) w.recent ≡ z → Goes (x && (not y && not z)) e w o
          go false y z p q r = spent p
          go true true z p q r = passed p (ap (λ (u : Bool). u || list_any (λ d. same_entry same d e) w.recent) q)
          go true false true p q r = passed p (or_right (stands_among same n e before) (list_any (λ d. same_entry same d e) w.recent) r)
          go true false false p q r = goes p (λ i. q i || r i)

    each_walked : (es : List (Entry B)) (w : Walked B) (proposed : List (Vote B)) (o : Plan B) → At w.next proposed w.other o → Tied proposed w
        → (propose_each same members me es o).disagrees ≡ (walk_all same members me n b before l es w).other
    each_walked [] w proposed o a t = a.other_is
    each_walked (e ∷ es) w proposed o a t =
        let g : Goes (proposes_then same n before w.next w.recent e) e w o = goes_on e w proposed o a t in
        each_walked es (walk_on same members me n b before l e w) g.proposed (propose_new same members me e o) g.at g.tied

module _ {B : Type 0} (same : B → B → Bool) (ok : IsEquality same) (members me : ℕ) where
  -- a leader proposes these

  pub each_is : (es : List (Entry B)) (o : Plan B) → o.disagrees ≡ false → is_leading o.node.proposer.role ≡ true
      → (propose_each same members me es o).disagrees
      ≡ proposes_other same members me (log_length o.node) o.node.learner o.node.proposer.role es
  each_is es o none leads = go o.node.proposer.role refl leads
    where
      go : (r : Role B) → o.node.proposer.role ≡ r → is_leading r ≡ true
          → (propose_each same members me es o).disagrees ≡ proposes_other same members me (log_length o.node) o.node.learner r es
      go Idle p q = absurd (cc)
      go (Preparing b first promises) p q = absurd (cc)
      go (Leading b next proposed) p q =
          each_walked same ok members me (log_length o.node) b o.node.learner (behind (log_length o.node) proposed) es (walk_from next false) proposed o
          (record { leads = p; length_is = refl; other_is = none; floor = refl; heard = λ s le. refl; learned = λ s le. refl })
          (record {
            stand = λ r d. among_behind same (log_length o.node) d proposed
                ∙ sym (or_false (stands_among same (log_length o.node) d (behind (log_length o.node) proposed)));
            old = λ r d. among_behind same (log_length o.node) d proposed;
          })

  not_leading : (n : ℕ) (l : LearnerState B) (r : Role B) (es : List (Entry B)) → is_leading r ≡ false → false ≡ proposes_other same members me n l r es
  not_leading n l Idle es h = refl
  not_leading n l (Preparing b first promises) es h = refl
  not_leading n l (Leading b next proposed) es h = absurd (cc)

  -- it pushes what is pending

  pub push_is : (o : Plan B) → o.disagrees ≡ false → (push same members me o).disagrees
      ≡ proposes_other same members me (log_length o.node) o.node.learner o.node.proposer.role o.node.pending
  push_is o none = go (is_leading o.node.proposer.role) refl
    where
      go : (x : Bool) → is_leading o.node.proposer.role ≡ x
          → (cond x (propose_each same members me o.node.pending o) (send (forwarded me o.node.rows.promised o.node.pending) o)).disagrees
          ≡ proposes_other same members me (log_length o.node) o.node.learner o.node.proposer.role o.node.pending
      go true p = each_is o.node.pending o none p
      go false p = none ∙ not_leading (log_length o.node) o.node.learner o.node.proposer.role o.node.pending p

  pub forward_is : (es : List (Entry B)) (o : Plan B) → o.disagrees ≡ false → (on_forward same members me es o).disagrees
      ≡ proposes_other same members me (log_length o.node) o.node.learner o.node.proposer.role es
  forward_is es o none = go (is_leading o.node.proposer.role) refl
    where
      go : (x : Bool) → is_leading o.node.proposer.role ≡ x → (cond x (propose_each same members me es o) o).disagrees
          ≡ proposes_other same members me (log_length o.node) o.node.learner o.node.proposer.role es
      go true p = each_is es o none p
      go false p = none ∙ not_leading (log_length o.node) o.node.learner o.node.proposer.role es p

  -- a promise makes it lead

  kept_as : (r : Role B) (e : Entry B) (o : Plan B) → (propose_as same members me r e o).node.pending ≡ o.node.pending
  kept_as Idle e o = refl
  kept_as (Preparing b first promises) e o = refl
  kept_as (Leading b next proposed) e o = go (nat_lt next slot_end)
    where
      go : (x : Bool) → (cond x (cast same members me (next_vote b next e) (offer members me b next proposed e o)) o).node.pending ≡ o.node.pending
      go true = refl
      go false = refl

  kept_pending : (es : List (Entry B)) (o : Plan B) → (propose_all same members me es o).node.pending ≡ o.node.pending
  kept_pending [] o = refl
  kept_pending (e ∷ es) o = kept_pending es (propose same members me e o) ∙ kept_as o.node.proposer.role e o

  module _ (n : ℕ) (b : Ballot) (l : LearnerState B) where
    all_spent : (es : List (Entry B)) (slot : ℕ) (proposed : List (Vote B)) (other : Bool) (o : Plan B)
        → At same ok members me n b l slot proposed other o → nat_lt slot slot_end ≡ false → propose_all same members me es o ≡ o
    all_spent [] slot proposed other o a p = refl
    all_spent (e ∷ es) slot proposed other o a p =
        ap (λ (u : Plan B). propose_all same members me es u) (none_left same ok members me n b l e slot proposed other o a p)
        ∙ all_spent es slot proposed other o a p

    none_called : (es : List (Entry B)) (slot : ℕ) → nat_lt slot slot_end ≡ false → called_other same members me b l slot es ≡ false
    none_called [] slot p = refl
    none_called (e ∷ es) slot p =
        let q : nat_lt (suc slot) slot_end ≡ false = le-ltb (suc slot) slot_end (let c = ltb-false slot slot_end p in omega (arith, c)) in
        λ i. (p i && vote_disagrees same members me (next_vote b slot e) l) || none_called es (suc slot) q i

    offers_all : (es : List (Entry B)) (slot : ℕ) (proposed : List (Vote B)) (other : Bool) (o : Plan B)
        → At same ok members me n b l slot proposed other o
        → At same ok members me n b l (slot_after slot es) (proposed ++ called_votes b slot es) (other || called_other same members me b l slot es)
        (propose_all same members me es o)
    offers_all [] slot proposed other o a =
        subst (λ (vs : List (Vote B)). At same ok members me n b l slot vs (other || false) o) (sym (append-nil proposed))
        (subst (λ (x : Bool). At same ok members me n b l slot proposed x o) (sym (or_false other)) a)
    offers_all (e ∷ es) slot proposed other o a = go (nat_lt slot slot_end) refl
        (λ p. offers_all es (suc slot) (proposed ++ v ∷ []) (other || vote_disagrees same members me v l) (propose same members me e o)
        (offers same ok members me n b l e slot proposed other o a p))
      where
        v : Vote B
        v = next_vote b slot e

        To : Bool → Type 0
        To x = At same ok members me n b l (cond x (slot_after (suc slot) es) slot) (proposed ++ cond x (v ∷ called_votes b (suc slot) es) [])
            (other || ((x && vote_disagrees same members me v l) || called_other same members me b l (suc slot) es))
            (propose_all same members me es (propose same members me e o))

        go : (x : Bool) → nat_lt slot slot_end ≡ x
            → (nat_lt slot slot_end ≡ true → At same ok members me n b l (slot_after (suc slot) es) ((proposed ++ v ∷ []) ++ called_votes b (suc slot) es)
            ((other || vote_disagrees same members me v l) || called_other same members me b l (suc slot) es)
            (propose_all same members me es (propose same members me e o)))
            → To x
        go true p more =
            subst (λ (vs : List (Vote B)). At same ok members me n b l (slot_after (suc slot) es) vs
            (other || (vote_disagrees same members me v l || called_other same members me b l (suc slot) es))
            (propose_all same members me es (propose same members me e o)))
            (append_assoc proposed (v ∷ []) (called_votes b (suc slot) es))
            (subst (λ (x : Bool). At same ok members me n b l (slot_after (suc slot) es) ((proposed ++ v ∷ []) ++ called_votes b (suc slot) es) x
            (propose_all same members me es (propose same members me e o)))
            (or_both other (vote_disagrees same members me v l) (called_other same members me b l (suc slot) es)) (more p))
        go false p more =
            let q : nat_lt (suc slot) slot_end ≡ false = le-ltb (suc slot) slot_end (let c = ltb-false slot slot_end p in omega (arith, c)) in
            let done : propose_all same members me es (propose same members me e o) ≡ o = all_spent (e ∷ es) slot proposed other o a p in
            subst (λ (u : Plan B). At same ok members me n b l slot (proposed ++ []) (other || called_other same members me b l (suc slot) es) u) (sym done)
            (subst (λ (vs : List (Vote B)). At same ok members me n b l slot vs (other || called_other same members me b l (suc slot) es) o)
            (sym (append-nil proposed))
            (subst (λ (x : Bool). At same ok members me n b l slot proposed x o)
            (sym (ap (λ (x : Bool). other || x) (none_called es (suc slot) q) ∙ or_false other)) a))

  lead_is : (b : Ballot) (first : ℕ) (votes : List (Vote B)) (o : Plan B) → o.disagrees ≡ false
      → (push same members me (lead same members me b first votes o)).disagrees
      ≡ leads_to_other same members me (log_length o.node) o.node.learner b first (called_for first votes) o.node.pending
  lead_is b first votes o none =
      ap (λ (x : Bool). (cond x (propose_each same members me led.node.pending led)
      (send (forwarded me led.node.rows.promised led.node.pending) led)).disagrees) (ap is_leading a.leads)
      ∙ each_walked same ok members me n b l (called_votes b first called) led.node.pending
      (walk_from (slot_after first called) (called_other same members me b l first called)) (called_votes b first called) led a
      (record {
        stand = λ r d. sym (or_false (stands_among same n d (called_votes b first called)));
        old = λ r d. refl;
      })
      ∙ ap (λ (es : List (Entry B)). leads_to_other same members me n l b first called es) (kept_pending called begun)
    where
      n : ℕ
      n = log_length o.node

      l : LearnerState B
      l = o.node.learner

      called : List (Entry B)
      called = called_for first votes

      begun : Plan B
      begun = record o { node = with_role (Leading b first []) o.node }

      led : Plan B
      led = propose_all same members me called begun

      a : At same ok members me n b l (slot_after first called) (called_votes b first called) (called_other same members me b l first called) led
      a = offers_all n b l called first [] false begun (record {
        leads = refl;
        length_is = refl;
        other_is = none;
        floor = refl;
        heard = λ s le. refl;
        learned = λ s le. refl;
      })

  pub promise_is : (sender : ℕ) (b : Ballot) (floor : ℕ) (votes : List (Vote B)) (r : Role B) (o : Plan B) → o.disagrees ≡ false
      → (on_promise_as same members me sender b floor votes r o).disagrees
      ≡ called_of same members me (log_length o.node) o.node.learner o.node.pending
      (promised members sender b floor votes (floor_in o.node.rows.snapshot) r) (called_by members sender b floor votes (floor_in o.node.rows.snapshot) r)
  promise_is sender b floor votes Idle o none = none
  promise_is sender b floor votes (Leading c next proposed) o none = none
  promise_is sender b floor votes (Preparing c first promises) o none = go (same_ballot b c && not (is_counted promises sender))
    where
      own : ℕ
      own = floor_in o.node.rows.snapshot

      all : List (CountedPromise B)
      all = and_promise_of sender floor votes promises

      low : ℕ
      low = lowest first own all

      most : (m : Bool) → (cond m (push same members me (lead same members me c low (reports all) o))
          (record o { node = with_role (Preparing c first all) o.node })).disagrees
          ≡ called_of same members me (log_length o.node) o.node.learner o.node.pending (cond m (Leading c low []) (Preparing c first all))
          (cond m (Some (called_for low (reports all))) None)
      most true = lead_is c low (reports all) o none
      most false = none

      go : (t : Bool) → (cond t (count_promise same members me c first own all o) o).disagrees
          ≡ called_of same members me (log_length o.node) o.node.learner o.node.pending
          (cond t (with_promises members c first own all) (Preparing c first promises)) (cond t (calls members first own all) None)
      go true = most (is_majority members (is_counted all))
      go false = none
