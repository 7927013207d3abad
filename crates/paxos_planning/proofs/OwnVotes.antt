-- What a leader would propose, gone through: one vote, one entry, and all of them.
use Rattle.std.proofs.Common.{◌≡◌, ◌≤◌, ◌<◌, ℕ, zero, suc, ◌+◌, ◌-◌, ◌^◌, max, Bool, true, false, cond, not, ◌&&◌, ◌||◌, Option, Some, None, List, [], ◌∷◌, ◌++◌, take, drop, length, get_or, refl, ap, sym, ◌∙◌, arith}
use Rattle.std.specs.Prelude.{nat_lt}
use Rattle.std.proofs.lemmas.Bool.{lt-ltb, ltb-true, ltb-false, and_right}
use Rattle.std.proofs.lemmas.List.{take_more}
use Rattle.paxos_packets.specs.declared.ballot.Ballot.{Ballot}
use Rattle.paxos_packets.specs.declared.entry.Entry.{Entry}
use Rattle.paxos_packets.specs.declared.vote.Vote.{Vote}
use Rattle.paxos_packets.specs.Entry.{same_entry}
use Rattle.paxos_proposer.specs.Proposer.{slot_end, next_vote}
use Rattle.paxos_learner.specs.Learned.{is_closed}
use Rattle.paxos_learner.specs.Learner.{LearnerState, learned_at, hears, has_most, is_other, disagrees, vote_disagrees, makes_majority}
use Rattle.paxos_learner.proofs.Counting.{most_then}
use Rattle.paxos_proposer.proofs.Reporting.{rest_is}
use Rattle.paxos_proposer.specs.Role.{Role, Idle, Preparing, Leading}
use Rattle.paxos_proposer.specs.Proposer.{is_leading, slots_spent}
use Rattle.paxos_proposer.specs.Proposals.{stands_among, behind}
use Rattle.std.specs.List.{list_any}
use Rattle.paxos_planning.specs.declared.walking.Walk.{Walk}
use Rattle.paxos_planning.specs.Walking.{Walked, walked_through, proposes_then, differs, walk_by, walk_on, walk_all, walk_from, proposes_other}
use Rattle.paxos_planning.specs.Walking.{called_votes, slot_after, called_other, called_of}
use Rattle.paxos_proposer.specs.Reports.{called_in, called_for, past_reports, entry_or_noop, best}

-- one vote

module _ {B : Type 0} (same : B → B → Bool) (members me : ℕ) (b : Ballot) (l : LearnerState B) (slot : ℕ) (e : Entry B) where
  pub differs_if : (o : Option (Entry B)) → slot < slot_end → is_closed l.floor slot ≡ false → makes_majority members me b slot l ≡ true
      → o ≡ learned_at slot l.learned → is_other same e o ≡ differs same members me b l slot e
  differs_if o lt above m at =
      let k : has_most members (next_vote b slot e) (hears me (next_vote b slot e) l) ≡ true = most_then members me (next_vote b slot e) l ∙ m in
      rw (lt-ltb slot slot_end lt, k, above, at) refl

  pub closed_differ : is_closed l.floor slot ≡ true → false ≡ differs same members me b l slot e
  closed_differ closed = go (nat_lt slot slot_end) (has_most members (next_vote b slot e) (hears me (next_vote b slot e) l))
    where
      go : (t m : Bool) → false ≡ t && (m && disagrees same slot e l)
      go true true = rw closed refl
      go true false = refl
      go false m = refl

  pub few_differ : makes_majority members me b slot l ≡ false → false ≡ differs same members me b l slot e
  few_differ m =
      let k : has_most members (next_vote b slot e) (hears me (next_vote b slot e) l) ≡ false = most_then members me (next_vote b slot e) l ∙ m in
      go (nat_lt slot slot_end) k
    where
      go : (t : Bool) → has_most members (next_vote b slot e) (hears me (next_vote b slot e) l) ≡ false
          → false ≡ t && vote_disagrees same members me (next_vote b slot e) l
      go true k = rw k refl
      go false k = refl

  pub none_differ : None ≡ learned_at slot l.learned → false ≡ differs same members me b l slot e
  none_differ at = go (nat_lt slot slot_end) (has_most members (next_vote b slot e) (hears me (next_vote b slot e) l))
    where
      go : (t m : Bool) → false ≡ t && (m && disagrees same slot e l)
      go true true = rw (sym at) (sym (and_right (not (is_closed l.floor slot)) false refl))
      go true false = refl
      go false m = refl

or_false : (a : Bool) → a || false ≡ a
or_false true = refl
or_false false = refl

module _ {B : Type 0} (same : B → B → Bool) (members me applied : ℕ) (b : Ballot) (proposed : List (Vote B)) (l : LearnerState B) where
  -- one entry more

  pub walk_more : (es : List (Entry B)) (i : ℕ) (e : Entry B) (w v : Walk) (all : Walked B) → i < length es → e ≡ get_or es i e
      → walked_through (take i es ++ e ∷ []) v ≡ walk_on same members me applied b proposed l e (walked_through (take i es) w)
      → walk_all same members me applied b proposed l (drop i es) (walked_through (take i es) w) ≡ all
      → walk_all same members me applied b proposed l (drop (i + 1) es) (walked_through (take (i + 1) es) v) ≡ all
  walk_more es i e w v all lt at on h =
      let rest : drop i es ≡ e ∷ drop (i + 1) es = rest_is es i e lt at in
      let first : take (i + 1) es ≡ take i es ++ e ∷ [] = take_more es i e lt ∙ ap (λ (d : Entry B). take i es ++ d ∷ []) (sym at) in
      ap (λ (ds : List (Entry B)). walk_all same members me applied b proposed l (drop (i + 1) es) (walked_through ds v)) first
      ∙ ap (λ (x : Walked B). walk_all same members me applied b proposed l (drop (i + 1) es) x) on
      ∙ ap (λ (ds : List (Entry B)). walk_all same members me applied b proposed l ds (walked_through (take i es) w)) (sym rest)
      ∙ h

  pub walk_end : (es : List (Entry B)) (e : Entry B) (w : Walked B)
      → walk_all same members me applied b proposed l (es ++ e ∷ []) w
      ≡ walk_on same members me applied b proposed l e (walk_all same members me applied b proposed l es w)
  walk_end [] e w = refl
  walk_end (d ∷ es) e w = walk_end es e (walk_on same members me applied b proposed l d w)

  -- once no slot is left

  pub walk_spent : (es : List (Entry B)) (next : ℕ) (recent : List (Entry B)) (other : Bool) → nat_lt next slot_end ≡ false
      → (walk_all same members me applied b proposed l es (record { next = next; recent = recent; other = other })).other ≡ other
  walk_spent [] next recent other h = refl
  walk_spent (e ∷ es) next recent other h =
      let w : Walked B = record { next = next; recent = recent; other = other } in
      let p : proposes_then same applied proposed next recent e ≡ false =
      ap (λ (t : Bool). t && (not (stands_among same applied e proposed) && not (list_any (λ d. same_entry same d e) recent))) h in
      ap (λ (t : Bool). (walk_all same members me applied b proposed l es (walk_by same members me applied b proposed l t e w)).other) p
      ∙ walk_spent es next (recent ++ e ∷ []) (other || false) h ∙ or_false other

-- a member that does not lead, or has no slot left

pub none_leads : {B : Type 0} (same : B → B → Bool) (members me applied : ℕ) (l : LearnerState B) (r : Role B)
    → (is_leading r ≡ true → slots_spent r ≡ false → ⊥) → (es : List (Entry B)) → proposes_other same members me applied l r es ≡ false
none_leads same members me applied l Idle h es = refl
none_leads same members me applied l (Preparing b first promises) h es = refl
none_leads {B} same members me applied l (Leading b next proposed) h es = go (nat_lt next slot_end) refl
  where
    go : (t : Bool) → nat_lt next slot_end ≡ t
        → (walk_all same members me applied b (behind applied proposed) l es (walk_from next false)).other ≡ false
    go true k = absurd (h refl (ap not k))
    go false k = walk_spent same members me applied b (behind applied proposed) l es next [] false k

-- what a promise calls for, slot by slot

same_slot : (slot past : ℕ) → slot < past → past - slot ≡ suc (past - (slot + 1))
same_slot slot past lt = omega (arith, lt)

next_slot : (slot : ℕ) → suc slot ≡ slot + 1
next_slot slot = omega arith

module _ {B : Type 0} (votes : List (Vote B)) where
  called_next : (slot past : ℕ) → slot < past
      → called_in votes slot (past - slot) ≡ entry_or_noop (best slot votes) ∷ called_in votes (slot + 1) (past - (slot + 1))
  called_next slot past lt =
      ap (λ (k : ℕ). called_in votes slot k) (same_slot slot past lt)
      ∙ ap (λ (s : ℕ). entry_or_noop (best slot votes) ∷ called_in votes s (past - (slot + 1))) (next_slot slot)

  called_end : (slot past : ℕ) → past ≤ slot → called_in votes slot (past - slot) ≡ []
  called_end slot past le = let k : past - slot ≡ 0 = omega (arith, le) in ap (λ (n : ℕ). called_in votes slot n) k

  after_run : (n slot : ℕ) → slot + n ≤ slot_end → slot_after slot (called_in votes slot n) ≡ slot + n
  after_run zero slot le = sym (omega arith)
  after_run (suc n) slot le =
      let lt : nat_lt slot slot_end ≡ true = lt-ltb slot slot_end (omega (arith, le)) in
      let on : suc slot + n ≡ slot + suc n = omega arith in
      ap (λ (t : Bool). cond t (slot_after (suc slot) (called_in votes (suc slot) n)) slot) lt ∙ after_run n (suc slot) (omega (arith, le)) ∙ on

  past_run : (first past : ℕ) → first ≤ past → past ≤ max first slot_end → slot_after first (called_in votes first (past - first)) ≡ past
  past_run first past least most = go (nat_lt first slot_end) refl
    where
      go : (t : Bool) → nat_lt first slot_end ≡ t → slot_after first (called_in votes first (past - first)) ≡ past
      go true p =
          let lt = ltb-true first slot_end p in
          let whole : first + (past - first) ≡ past = omega (arith, least) in
          after_run (past - first) first (omega (arith, lt, least, most)) ∙ whole
      go false p =
          let le = ltb-false first slot_end p in
          let none : past ≡ first = omega (arith, le, least, most) in
          ap (λ (es : List (Entry B)). slot_after first es) (called_end first past (omega (arith, none))) ∙ sym none

  pub past_is : (first past : ℕ) → past ≡ past_reports first votes → first ≤ past → past ≤ max first (2 ^ 40)
      → past ≡ slot_after first (called_for first votes)
  unfolding slot_end
  past_is first past is least most =
      sym (past_run first past least most) ∙ ap (λ (n : ℕ). slot_after first (called_in votes first (n - first))) is

  module _ (same : B → B → Bool) (members me : ℕ) (b : Ballot) (l : LearnerState B) (slot past : ℕ) where
    pub other_step : slot < past → called_other same members me b l slot (called_in votes slot (past - slot))
        ≡ differs same members me b l slot (entry_or_noop (best slot votes))
        || called_other same members me b l (slot + 1) (called_in votes (slot + 1) (past - (slot + 1)))
    other_step lt =
        ap (λ (es : List (Entry B)). called_other same members me b l slot es) (called_next slot past lt)
        ∙ ap (λ (s : ℕ). differs same members me b l slot (entry_or_noop (best slot votes))
        || called_other same members me b l s (called_in votes (slot + 1) (past - (slot + 1)))) (next_slot slot)

    pub other_end : past ≤ slot → called_other same members me b l slot (called_in votes slot (past - slot)) ≡ false
    other_end le = ap (λ (es : List (Entry B)). called_other same members me b l slot es) (called_end slot past le)

  module _ (same : B → B → Bool) (b : Ballot) (slot past : ℕ) where
    pub called_step : (n : ℕ) (e : Entry B) → slot < past → slot < slot_end
        → stands_among same n e (called_votes b slot (called_in votes slot (past - slot)))
        ≡ (nat_lt n slot && same_entry same (entry_or_noop (best slot votes)) e)
        || stands_among same n e (called_votes b (slot + 1) (called_in votes (slot + 1) (past - (slot + 1))))
    called_step n e lt left =
        ap (λ (es : List (Entry B)). stands_among same n e (called_votes b slot es)) (called_next slot past lt)
        ∙ ap (λ (t : Bool). stands_among same n e (cond t (next_vote b slot (entry_or_noop (best slot votes))
        ∷ called_votes b (suc slot) (called_in votes (slot + 1) (past - (slot + 1)))) [])) (lt-ltb slot slot_end left)
        ∙ ap (λ (s : ℕ). (nat_lt n slot && same_entry same (entry_or_noop (best slot votes)) e)
        || stands_among same n e (called_votes b s (called_in votes (slot + 1) (past - (slot + 1))))) (next_slot slot)

    pub called_none : (n : ℕ) (e : Entry B) → past ≤ slot
        → stands_among same n e (called_votes b slot (called_in votes slot (past - slot))) ≡ false
    called_none n e le = ap (λ (es : List (Entry B)). stands_among same n e (called_votes b slot es)) (called_end slot past le)

-- a member that a promise makes lead

pub called_is : {B : Type 0} (same : B → B → Bool) (members me n : ℕ) (l : LearnerState B) (pending : List (Entry B)) (r : Role B)
    (calls : Option (List (Entry B))) (b : Ballot) (first : ℕ) (votes : List (Vote B)) (next : ℕ) (other : Bool)
    → Some (called_for first votes) ≡ calls → r ≡ Leading b first [] → next ≡ slot_after first (called_for first votes)
    → other ≡ called_other same members me b l first (called_for first votes)
    → called_of same members me n l pending r calls
    ≡ (walk_all same members me n b (called_votes b first (called_for first votes)) l pending (walk_from next other)).other
called_is {B} same members me n l pending r calls b first votes next other c p q o =
    (λ i. called_of same members me n l pending (p i) (sym c i))
    ∙ (λ i. (walk_all same members me n b (called_votes b first (called_for first votes)) l pending (walk_from (sym q i) (sym o i))).other)
