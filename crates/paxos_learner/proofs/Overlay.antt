-- What a learner would be that hears more, stated by the sets that change and the entries that are gained.
use Rattle.std.proofs.Common.{◌≡◌, ℕ, ltb, eqb, Bool, true, false, cond, Option, Some, None, is_some, List, [], ◌∷◌, ◌++◌}
use Rattle.std.proofs.Common.{refl, sym, ap, ◌∙◌, subst, eq-eqb}
use Rattle.std.specs.Prelude.{option_map, ◌==◌, ◌<◌, ◌^◌}
use Rattle.std.specs.Option.{option_or, unwrap_or}
use Rattle.std.specs.List.{find}
use Rattle.std.specs.Map.{lookup}
use Rattle.std.proofs.lemmas.Bool.{eqb-true, and_parts}
use Rattle.paxos_packets.specs.Ballot.{same_ballot, ballot_sound}
use Rattle.paxos_packets.specs.Members.{is_majority, is_in, no_nodes, set_with}
use Rattle.paxos_packets.specs.declared.entry.Entry.{Entry}
use Rattle.paxos_packets.specs.declared.vote.Vote.{Vote}
use Rattle.paxos_learner.specs.declared.hearing.News.{News}
use Rattle.paxos_learner.specs.declared.hearing.News.TheVariants.{Cast, Told}
use Rattle.paxos_learner.specs.declared.learned.LearnedEntry.{LearnedEntry}
use Rattle.paxos_learner.specs.declared.tallies.SlotBallot.{SlotBallot}
use Rattle.paxos_learner.specs.Tallies.{Heard, same_place, place_of, nodes_heard, hear, insert_entry}
use Rattle.paxos_learner.specs.Learner.{LearnerState, State, learned_at, is_learned, is_known, put_learned, learn, learn_among, hears, has_most, count_vote}
use Rattle.paxos_learner.specs.Hearing.{hear_news, hear_all, over, gain, IsOver}
use Rattle.paxos_learner.proofs.Ahead.{learned_is}
use Rattle.paxos_learner.specs.Learned.{is_closed, Rises}
use Rattle.paxos_learner.proofs.Counting.{place_same, few_voted, most_voted, learn_parts, learn_closed, closed_voted, open_above}
use Rattle.paxos_learner.proofs.Rising.{learn_rises}

-- one more is heard last

pub heard_last : {B : Type 0} (news : List (News B)) (n : News B) (s : State B) → hear_all (news ++ n ∷ []) s ≡ hear_news n (hear_all news s)
heard_last [] n s = refl
heard_last (m ∷ ms) n s = heard_last ms n (hear_news m s)

members_one : {B : Type 0} (n : News B) (s : State B) → (hear_news n s).members ≡ s.members
members_one (Cast node v) s = refl
members_one (Told slot e) s = refl

pub members_stay : {B : Type 0} (news : List (News B)) (s : State B) → (hear_all news s).members ≡ s.members
members_stay [] s = refl
members_stay (m ∷ ms) s = members_stay ms (hear_news m s) ∙ members_one m s

floor_one : {B : Type 0} (n : News B) (s : State B) → (hear_news n s).learner.floor ≡ s.learner.floor
floor_one {B} (Cast node v) s = go (is_closed s.learner.floor v.slot) (has_most s.members v (hears node v s.learner)) (is_known v.slot s.learner)
  where
    heard : LearnerState B
    heard = hears node v s.learner

    go : (c t u : Bool) → (cond c s.learner (cond t (cond u heard (record heard { learned = put_learned (record { slot = v.slot; entry = v.entry }) heard.learned })) heard)).floor
        ≡ s.learner.floor
    go true t u = refl
    go false true true = refl
    go false true false = refl
    go false false u = refl
floor_one {B} (Told slot e) s = go (is_known slot s.learner)
  where
    go : (u : Bool) → (cond u s.learner (record s.learner { learned = put_learned (record { slot = slot; entry = e }) s.learner.learned })).floor
        ≡ s.learner.floor
    go true = refl
    go false = refl

pub floor_stays : {B : Type 0} (news : List (News B)) (s : State B) → (hear_all news s).learner.floor ≡ s.learner.floor
floor_stays [] s = refl
floor_stays (m ∷ ms) s = floor_stays ms (hear_news m s) ∙ floor_one m s

-- sets at their places

place_sound : (p q : SlotBallot) → same_place p q ≡ true → p ≡ q
place_sound p q h =
    let k = and_parts (eqb p.slot q.slot) (same_ballot p.ballot q.ballot) h in
    let s = eqb-true p.slot q.slot k.0 in
    let b = ballot_sound p.ballot q.ballot k.1 in
    λ i. record { slot = s i; ballot = b i }

found_put : (p q : SlotBallot) (set : List Bool) (ts : Heard)
    → lookup (same_place p) (insert_entry same_place ts q set) ≡ cond (same_place p q) (Some set) (lookup (same_place p) ts)
found_put p q set [] = refl
found_put p q set (t ∷ ts) = go (same_place q t.0) (same_place p q) (same_place p t.0) refl refl refl (found_put p q set ts)
  where
    go : (x y z : Bool) → same_place q t.0 ≡ x → same_place p q ≡ y → same_place p t.0 ≡ z
        → lookup (same_place p) (insert_entry same_place ts q set) ≡ cond (same_place p q) (Some set) (lookup (same_place p) ts)
        → lookup (same_place p) (cond x ((t.0, set) ∷ ts) (t ∷ insert_entry same_place ts q set))
        ≡ cond y (Some set) (cond z (Some t.1) (lookup (same_place p) ts))
    go true true true a b c more = rw c refl
    go true true false a b c more = absurd (let k = place_sound p q b in let l = place_sound q t.0 a in let m = rw (k, l) at c in
        let n = place_same t.0 in cc)
    go true false true a b c more = absurd (let k = place_sound p t.0 c in let l = place_sound q t.0 a in let m = rw (k, l) at b in
        let n = place_same t.0 in cc)
    go true false false a b c more = rw c refl
    go false true true a b c more = absurd (let k = place_sound p q b in let l = place_sound p t.0 c in
        let m : same_place q t.0 ≡ true = subst (λ (r : SlotBallot). same_place r t.0 ≡ true) k c in cc)
    go false true false a b c more = rw (c, more, b) refl
    go false false true a b c more = rw c refl
    go false false false a b c more = rw (c, more, b) refl

pub nodes_put : (p q : SlotBallot) (set : List Bool) (heard : Heard)
    → nodes_heard p (insert_entry same_place heard q set) ≡ cond (same_place p q) set (nodes_heard p heard)
nodes_put p q set heard = ap (λ (o : Option (List Bool)). unwrap_or o no_nodes) (found_put p q set heard) ∙ go (same_place p q)
  where
    go : (b : Bool) → unwrap_or (cond b (Some set) (lookup (same_place p) heard)) no_nodes ≡ cond b set (nodes_heard p heard)
    go true = refl
    go false = refl

pub over_heard : {B : Type 0} (changed : Heard) (gained : List (LearnedEntry B)) (old new : LearnerState B) (node : ℕ) (q : SlotBallot) (nodes : List Bool)
    → IsOver changed gained old new → nodes ≡ set_with (nodes_heard q new.heard) node
    → (p : SlotBallot) → nodes_heard p (hear node q new.heard) ≡ unwrap_or (lookup (same_place p) (insert_entry same_place changed q nodes)) (nodes_heard p old.heard)
over_heard changed gained old new node q nodes is e p =
    nodes_put p q (set_with (nodes_heard q new.heard) node) new.heard ∙ go (same_place p q)
    ∙ ap (λ (o : Option (List Bool)). unwrap_or o (nodes_heard p old.heard)) (sym (found_put p q nodes changed))
  where
    go : (b : Bool) → cond b (set_with (nodes_heard q new.heard) node) (nodes_heard p new.heard)
        ≡ unwrap_or (cond b (Some nodes) (lookup (same_place p) changed)) (nodes_heard p old.heard)
    go true = sym e
    go false = is.heard p

-- entries in their slots

pub at_put : {B : Type 0} (s slot : ℕ) (e : Entry B) (ls : List (LearnedEntry B)) → learned_at slot ls ≡ None
    → learned_at s (put_learned (record { slot = slot; entry = e }) ls) ≡ cond (eqb slot s) (Some e) (learned_at s ls)
at_put {B} s slot e [] h = go (eqb slot s)
  where
    go : (b : Bool) → option_map (λ (l : LearnedEntry B). l.entry) (cond b (Some (record { slot = slot; entry = e })) None) ≡ cond b (Some e) None
    go true = refl
    go false = refl
at_put {B} s slot e (m ∷ ms) h = go (ltb m.slot slot) (eqb m.slot s) (eqb slot s) refl refl (at_put s slot e ms)
  where
    l : LearnedEntry B
    l = record { slot = slot; entry = e }

    rest : eqb m.slot slot ≡ false → learned_at slot ms ≡ None
    rest d = let k = rw d at h in k

    apart : (b : Bool) → eqb m.slot slot ≡ b → b ≡ false
    apart true d = absurd (let k = rw d at h in cc)
    apart false d = refl

    go : (x y z : Bool) → eqb m.slot s ≡ y → eqb slot s ≡ z
        → (learned_at slot ms ≡ None → learned_at s (put_learned l ms) ≡ cond (eqb slot s) (Some e) (learned_at s ms))
        → learned_at s (cond x (m ∷ put_learned l ms) (l ∷ (m ∷ ms))) ≡ cond z (Some e) (option_map (λ (n : LearnedEntry B). n.entry) (cond y (Some m) (find (λ n. n.slot == s) ms)))
    go true true true b c more = absurd (
        let k = eqb-true m.slot s b in let j = eqb-true slot s c in
        let n : eqb m.slot slot ≡ true = eq-eqb m.slot slot (k ∙ sym j) in
        let o = apart (eqb m.slot slot) refl in cc)
    go true true false b c more = rw b refl
    go true false true b c more = rw b (more (rest (apart (eqb m.slot slot) refl)) ∙ rw c refl)
    go true false false b c more = rw b (more (rest (apart (eqb m.slot slot) refl)) ∙ rw c refl)
    go false y true b c more = rw c refl
    go false true false b c more = rw (c, b) refl
    go false false false b c more = rw (c, b) refl

pub over_gain : {B : Type 0} (changed : Heard) (gained : List (LearnedEntry B)) (old new : LearnerState B) (slot : ℕ) (e : Entry B)
    → IsOver changed gained old new
    → (s : ℕ) → learned_at s (learn_among slot e new.learned) ≡ over s (gain slot e (over slot gained old.learned) gained) old.learned
over_gain {B} changed gained old new slot e is s = go (over slot gained old.learned) refl
  where
    first : (x y : Option (Entry B)) → option_or x y ≡ None → x ≡ None
    first None y h = refl
    first (Some x) y h = absurd (cc)

    pick : (b : Bool) → cond b (Some e) (learned_at s new.learned) ≡ option_or (cond b (Some e) (learned_at s gained)) (learned_at s old.learned)
    pick true = refl
    pick false = is.learned s

    go : (o : Option (Entry B)) → over slot gained old.learned ≡ o
        → learned_at s (learn_among slot e new.learned) ≡ over s (gain slot e o gained) old.learned
    go (Some d) h =
        let k : is_learned slot new.learned ≡ true = learned_is slot new.learned ∙ ap is_some (is.learned slot ∙ h) in
        rw k (is.learned s)
    go None h =
        let k : is_learned slot new.learned ≡ false = learned_is slot new.learned ∙ ap is_some (is.learned slot ∙ h) in
        let f : learned_at slot gained ≡ None = first (learned_at slot gained) (learned_at slot old.learned) h in
        rw k (at_put s slot e new.learned (is.learned slot ∙ h) ∙ pick (eqb slot s)
        ∙ ap (λ (o : Option (Entry B)). option_or o (learned_at s old.learned)) (sym (at_put s slot e gained f)))

-- a learner that hears one more

pub over_none : {B : Type 0} (l : LearnerState B) → Rises l.floor l.learned → IsOver [] [] l l
over_none l r = record { floor = refl; heard = λ p. refl; learned = λ s. refl; rises = r }

pub over_few : {B : Type 0} (members node : ℕ) (v : Vote B) (changed : Heard) (gained : List (LearnedEntry B)) (old new : LearnerState B) (nodes : List Bool)
    → IsOver changed gained old new → is_closed new.floor v.slot ≡ false → nodes ≡ set_with (nodes_heard (place_of v) new.heard) node
    → is_majority members (is_in nodes) ≡ false
    → IsOver (insert_entry same_place changed (place_of v) nodes) gained old (count_vote members node v new)
over_few {B} members node v changed gained old new nodes is o e few =
    let q = few_voted members node v new o (ap (λ (set : List Bool). is_majority members (is_in set)) (sym e) ∙ few) in
    subst (λ (l : LearnerState B). IsOver (insert_entry same_place changed (place_of v) nodes) gained old l) q
    (record {
      floor = is.floor;
      heard = over_heard changed gained old new node (place_of v) nodes is e;
      learned = is.learned;
      rises = is.rises;
    })

pub over_most : {B : Type 0} (members node : ℕ) (v : Vote B) (changed : Heard) (gained : List (LearnedEntry B)) (old new : LearnerState B) (nodes : List Bool)
    → IsOver changed gained old new → is_closed new.floor v.slot ≡ false → nodes ≡ set_with (nodes_heard (place_of v) new.heard) node
    → is_majority members (is_in nodes) ≡ true → v.slot < 2 ^ 40
    → IsOver (insert_entry same_place changed (place_of v) nodes) (gain v.slot v.entry (over v.slot gained old.learned) gained) old (count_vote members node v new)
over_most {B} members node v changed gained old new nodes is o e most high =
    let q = most_voted members node v new o (ap (λ (set : List Bool). is_majority members (is_in set)) (sym e) ∙ most) in
    subst (λ (l : LearnerState B).
    IsOver (insert_entry same_place changed (place_of v) nodes) (gain v.slot v.entry (over v.slot gained old.learned) gained) old l) q
    (record {
      floor = is.floor;
      heard = over_heard changed gained old new node (place_of v) nodes is e;
      learned = over_gain changed gained old new v.slot v.entry is;
      rises = learn_rises new.floor v.slot v.entry new.learned (open_above new.floor v.slot o) high is.rises;
    })

pub over_told : {B : Type 0} (changed : Heard) (gained : List (LearnedEntry B)) (old new : LearnerState B) (slot : ℕ) (e : Entry B)
    → IsOver changed gained old new → is_closed new.floor slot ≡ false → slot < 2 ^ 40
    → IsOver changed (gain slot e (over slot gained old.learned) gained) old (learn slot e new)
over_told {B} changed gained old new slot e is o high =
    subst (λ (l : LearnerState B). IsOver changed (gain slot e (over slot gained old.learned) gained) old l) (sym (learn_parts slot e new o))
    (record {
      floor = is.floor;
      heard = is.heard;
      learned = over_gain changed gained old new slot e is;
      rises = learn_rises new.floor slot e new.learned (open_above new.floor slot o) high is.rises;
    })

-- what is heard of a closed slot changes nothing

pub over_closed : {B : Type 0} (changed : Heard) (gained : List (LearnedEntry B)) (old new : LearnerState B) (members node : ℕ) (v : Vote B)
    → IsOver changed gained old new → is_closed new.floor v.slot ≡ true → IsOver changed gained old (count_vote members node v new)
over_closed {B} changed gained old new members node v is o =
    subst (λ (l : LearnerState B). IsOver changed gained old l) (closed_voted members node v new o) is

pub over_untold : {B : Type 0} (changed : Heard) (gained : List (LearnedEntry B)) (old new : LearnerState B) (slot : ℕ) (e : Entry B)
    → IsOver changed gained old new → is_closed new.floor slot ≡ true → IsOver changed gained old (learn slot e new)
over_untold {B} changed gained old new slot e is o =
    subst (λ (l : LearnerState B). IsOver changed gained old l) (learn_closed slot e new o) is

-- what is stated of equal parts

pub over_same : {B : Type 0} (changed c : Heard) (gained g : List (LearnedEntry B)) (old new : LearnerState B)
    → c ≡ changed → g ≡ gained → IsOver changed gained old new → IsOver c g old new
over_same {B} changed c gained g old new p q is =
    subst (λ (h : Heard). IsOver h g old new) (sym p) (subst (λ (ls : List (LearnedEntry B)). IsOver changed ls old new) (sym q) is)

-- and of what is heard last

pub over_cast : {B : Type 0} (node : ℕ) (v : Vote B) (news : List (News B)) (s : State B) (changed : Heard) (gained : List (LearnedEntry B))
    → IsOver changed gained s.learner (count_vote (hear_all news s).members node v (hear_all news s).learner)
    → IsOver changed gained s.learner (hear_all (news ++ Cast node v ∷ []) s).learner
over_cast {B} node v news s changed gained is =
    subst (λ (t : State B). IsOver changed gained s.learner t.learner) (sym (heard_last news (Cast node v) s)) is

pub over_tell : {B : Type 0} (slot : ℕ) (e : Entry B) (news : List (News B)) (s : State B) (changed : Heard) (gained : List (LearnedEntry B))
    → IsOver changed gained s.learner (learn slot e (hear_all news s).learner)
    → IsOver changed gained s.learner (hear_all (news ++ Told slot e ∷ []) s).learner
over_tell {B} slot e news s changed gained is =
    subst (λ (t : State B). IsOver changed gained s.learner t.learner) (sym (heard_last news (Told slot e) s)) is
