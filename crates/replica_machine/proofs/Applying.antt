-- What one entry more does to a log that a machine follows.
use Rattle.std.proofs.Common.{subst, inl, inr, ◌≡◌, ℕ, ◌+◌, ◌-◌, ◌<◌, ◌≤◌, ◌^◌, Bool, true, false, cond, eqb, leb, ltb}
use Rattle.std.proofs.Common.{refl, sym, ap, ◌∙◌, arith, List, [], ◌∷◌, ◌++◌, length, Option, Some, None}
use Rattle.std.specs.Prelude.{slice_get}
use Rattle.std.specs.Map.{lookup}
use Rattle.std.specs.Option.{option_map_or}
use Rattle.std.specs.List.{filter_map, fold, cons_option}
use Rattle.std.proofs.lemmas.List.{append-nil, append_assoc, length-append}
use Rattle.std.proofs.lemmas.Bool.{le-leb, lt-leb, lt-ltb, leb-true, eq-eqb, ne_eqb, and_parts, cond-true, cond-false, false≢true}
use Rattle.std.proofs.lemmas.Bool.Decides.{leb_tells}
use Rattle.std.proofs.lemmas.Option.{slice_get-get_or, slice_get_cases}
use Rattle.std.proofs.Math.ListN.{get_or-append}
use Rattle.std.proofs.Math.Seq.{get_or-append_seam}
use Rattle.paxos_packets.specs.declared.entry.Entry.{Entry}
use Rattle.replica_machine.specs.declared.roll.Standing.{Standing}
use Rattle.replica_machine.specs.declared.input.Input.{Input}
use Rattle.replica_machine.specs.Roll.{takes_effect, IsRollOf}
use Rattle.replica_machine.specs.Replay.{Machine, input_of, inputs_behind, sayings_from, sayings_behind, state, Steps}
use Rattle.replica_machine.specs.Log.{LogState, is_slot, learned_in, length_in, next_slot, cut_log, Learns, Applies, machine_from, next_by, says_by}
use Rattle.replica_machine.specs.Log.{IsAt, IsLogOf}
use Rattle.replica_machine.proofs.Places.{effective_is}
use Rattle.replica_machine.proofs.Replaying.{state_append}

-- a roll of a log that an entry more makes
pub rolled_longer : {B : Type 0} (under old new : List (Entry B)) (e : Entry B) (roll : List Standing) → new ≡ old ++ e ∷ []
    → IsRollOf ((under ++ old) ++ e ∷ []) roll → IsRollOf (under ++ new) roll
rolled_longer under old new e roll longer rolled =
    subst (λ l. IsRollOf l roll) (append_assoc under old (e ∷ []) ∙ ap (λ l. under ++ l) (sym longer)) rolled

-- what one entry gives a machine
inputs_of_one : {B : Type 0} (log : List (Entry B)) (e : Entry B) (took : Bool) → takes_effect log e ≡ took
    → inputs_behind log (e ∷ []) ≡ cond took (cons_option (input_of e) []) []
inputs_of_one log e took h = ap (λ t. filter_map input_of (cond t (e ∷ []) [] ++ [])) h ∙ go took
  where
    go : (t : Bool) → filter_map input_of (cond t (e ∷ []) [] ++ []) ≡ cond t (cons_option (input_of e) []) []
    go true = refl
    go false = refl

-- the entry at a place of a list that gains one at its end
entry_within : {B : Type 0} (xs : List (Entry B)) (e : Entry B) (i : ℕ) → i < length xs → slice_get (xs ++ e ∷ []) i ≡ slice_get xs i
entry_within xs e i within =
    slice_get-get_or (xs ++ e ∷ []) i e (omega (arith, length-append xs (e ∷ [])))
    ∙ ap (λ x. Some x) (get_or-append xs (e ∷ []) e i within)
    ∙ sym (slice_get-get_or xs i e within)

entry_last : {B : Type 0} (xs : List (Entry B)) (e : Entry B) → slice_get (xs ++ e ∷ []) (length xs) ≡ Some e
entry_last xs e =
    slice_get-get_or (xs ++ e ∷ []) (length xs) e (omega (arith, length-append xs (e ∷ [])))
    ∙ ap (λ x. Some x) (get_or-append_seam xs e [] e)

guarded : {A : Type 0} (b : Bool) (x y : Option A) → (b ≡ true → x ≡ y) → cond b x None ≡ cond b y None
guarded true x y f = f refl
guarded false x y f = refl

-- what is learned in a slot, by the floor, the entries applied and those ahead
abbrev pub found : {B : Type 0} → ℕ → ℕ → List (Entry B) → List (ℕ × Entry B) → Option (Entry B)
found slot floor applied ahead =
    cond (leb slot floor) None
    (cond (leb slot (floor + length applied)) (slice_get applied (slot - floor - 1)) (lookup (λ s. eqb slot s) ahead))

pub found_below : {B : Type 0} (slot floor : ℕ) (applied : List (Entry B)) (ahead : List (ℕ × Entry B)) → slot ≤ floor
    → found slot floor applied ahead ≡ None
found_below slot floor applied ahead h = cond-true (leb slot floor) None
    (cond (leb slot (floor + length applied)) (slice_get applied (slot - floor - 1)) (lookup (λ s. eqb slot s) ahead)) (le-leb slot floor h)

above_floor : {B : Type 0} (slot floor : ℕ) (applied : List (Entry B)) (ahead : List (ℕ × Entry B)) → floor < slot
    → found slot floor applied ahead
    ≡ cond (leb slot (floor + length applied)) (slice_get applied (slot - floor - 1)) (lookup (λ s. eqb slot s) ahead)
above_floor slot floor applied ahead h = cond-false (leb slot floor) None
    (cond (leb slot (floor + length applied)) (slice_get applied (slot - floor - 1)) (lookup (λ s. eqb slot s) ahead)) (lt-leb slot floor h)

found_applied : {B : Type 0} (slot floor : ℕ) (applied : List (Entry B)) (ahead : List (ℕ × Entry B)) → floor < slot
    → slot ≤ floor + length applied → found slot floor applied ahead ≡ slice_get applied (slot - floor - 1)
found_applied slot floor applied ahead above h =
    above_floor slot floor applied ahead above
    ∙ ap (λ b. cond b (slice_get applied (slot - floor - 1)) (lookup (λ s. eqb slot s) ahead)) (le-leb slot (floor + length applied) h)

found_ahead : {B : Type 0} (slot floor : ℕ) (applied : List (Entry B)) (ahead : List (ℕ × Entry B)) → floor + length applied < slot
    → found slot floor applied ahead ≡ lookup (λ s. eqb slot s) ahead
found_ahead slot floor applied ahead h =
    above_floor slot floor applied ahead (omega arith)
    ∙ ap (λ b. cond b (slice_get applied (slot - floor - 1)) (lookup (λ s. eqb slot s) ahead)) (lt-leb slot (floor + length applied) h)

least : (slot : ℕ) → is_slot slot ≡ true → 1 ≤ slot
least slot h = leb-true 1 slot (and_parts (leb 1 slot) (ltb slot (2 ^ 40)) h).0

slot_is : (b : Bool) (slot n : ℕ) → Some slot ≡ cond b (Some n) None → (b ≡ true) × (slot ≡ n)
slot_is true slot n h = (refl, cc)
slot_is false slot n h = cc

module _ {B M : Type 0} where
  learned_found : (slot : ℕ) (log : LogState B M) → is_slot slot ≡ true → learned_in slot log ≡ found slot log.floor log.applied log.ahead
  learned_found slot log h = ap (λ b. cond b (found slot log.floor log.applied log.ahead) None) h

  -- if nothing is learned in a slot above the floor, it is after the entries applied
  lies_ahead : (slot : ℕ) (log : LogState B M) → is_slot slot ≡ true → log.floor < slot → None ≡ learned_in slot log → length_in log < slot
  lies_ahead slot log h above none = elim (leb_tells slot (length_in log)) [ inl t ↦ absurd (contra t.1) | inr f ↦ f.1 ]
    where
      contra : slot ≤ length_in log → ⊥
      contra le = elim (slice_get_cases log.applied (slot - log.floor - 1)).1 [
        | inl x ↦ (let e : None ≡ Some x.0 = none ∙ learned_found slot log h ∙ found_applied slot log.floor log.applied log.ahead above le ∙ x.2 in cc)
        | inr past ↦ (let g = least slot h in let p = past.0 in omega arith)
      ]

  -- an entry that is put ahead is learned there, and no other is lost
  learns_ahead : (slot : ℕ) (entry : Entry B) (old : LogState B M) (ahead : List (ℕ × Entry B)) → is_slot slot ≡ true
      → old.floor < slot → None ≡ learned_in slot old
      → ((q : ℕ) → lookup (λ s. eqb q s) ahead ≡ cond (eqb slot q) (Some entry) (lookup (λ s. eqb q s) old.ahead))
      → Learns slot entry old (record old { ahead = ahead })
  learns_ahead slot entry old ahead h above none put =
      let behind = lies_ahead slot old h above none in
      record {
        learned = learned_found slot (record old { ahead = ahead }) h ∙ found_ahead slot old.floor old.applied ahead behind ∙ put slot
            ∙ ap (λ b. cond b (Some entry) (lookup (λ s. eqb slot s) old.ahead)) (eq-eqb slot slot refl);
        others = λ other differs.
            ap (λ o. cond (is_slot other) (cond (leb other old.floor) None
            (cond (leb other (length_in old)) (slice_get old.applied (other - old.floor - 1)) o)) None)
            (put other
            ∙ ap (λ b. cond b (Some entry) (lookup (λ s. eqb other s) old.ahead)) (ne_eqb slot other (λ e. differs (sym e))));
        floor = refl;
        applied = refl;
        roll = refl;
        machine = refl;
        failed = refl;
      }

  pub learns : (slot : ℕ) (entry : Entry B) (now inside : LogState B M) (ahead : List (ℕ × Entry B)) → inside ≡ now → is_slot slot ≡ true
      → now.floor < slot → None ≡ learned_in slot now
      → ((q : ℕ) → lookup (λ s. eqb q s) ahead ≡ cond (eqb slot q) (Some entry) (lookup (λ s. eqb q s) inside.ahead))
      → Learns slot entry now (record inside { ahead = ahead })
  learns slot entry now inside ahead e h above none put =
      subst (λ (v : LogState B M). Learns slot entry v (record inside { ahead = ahead })) e
      (learns_ahead slot entry inside ahead h (subst (λ (v : LogState B M). v.floor < slot) (sym e) above)
      (subst (λ (v : LogState B M). None ≡ learned_in slot v) (sym e) none) put)

  -- what is found of slots stays as the entry that is ahead in the next slot is applied
  found_stays : (old : LogState B M) (e : Entry B) (ahead : List (ℕ × Entry B)) (slot other : ℕ) → slot ≡ next_slot old
      → Some e ≡ lookup (λ s. eqb slot s) old.ahead
      → ((q : ℕ) → lookup (λ s. eqb q s) ahead ≡ cond (eqb slot q) None (lookup (λ s. eqb q s) old.ahead)) → is_slot other ≡ true
      → found other old.floor (old.applied ++ e ∷ []) ahead ≡ found other old.floor old.applied old.ahead
  found_stays old e ahead slot other is stands taken h = elim (leb_tells other old.floor) [
    | inl below ↦ found_below other old.floor (old.applied ++ e ∷ []) ahead below.1
        ∙ sym (found_below other old.floor old.applied old.ahead below.1)
    | inr above ↦ elim (leb_tells other (length_in old)) [
      | inl t ↦ found_applied other old.floor (old.applied ++ e ∷ []) ahead above.1 (let le = t.1 in omega (arith, longer))
          ∙ entry_within old.applied e (other - old.floor - 1) (let le = t.1 in let g = above.1 in omega arith)
          ∙ sym (found_applied other old.floor old.applied old.ahead above.1 t.1)
      | inr f ↦ elim (leb_tells other (length_in old + 1)) [
        | inl t ↦ (let at : other ≡ slot = (let le = t.1 in let gt = f.1 in omega arith) in
            found_applied other old.floor (old.applied ++ e ∷ []) ahead above.1 (let le = t.1 in omega (arith, longer))
            ∙ ap (λ i. slice_get (old.applied ++ e ∷ []) i)
            (let le = t.1 in let gt = f.1 in let z : other - old.floor - 1 ≡ length old.applied = omega arith in z)
            ∙ entry_last old.applied e
            ∙ stands
            ∙ ap (λ n. lookup (λ s. eqb n s) old.ahead) (sym at)
            ∙ sym (found_ahead other old.floor old.applied old.ahead f.1))
        | inr g ↦ found_ahead other old.floor (old.applied ++ e ∷ []) ahead (let gt = g.1 in omega (arith, longer))
            ∙ taken other
            ∙ ap (λ b. cond b None (lookup (λ s. eqb other s) old.ahead)) (ne_eqb slot other (λ eq. let gt = g.1 in omega arith))
            ∙ sym (found_ahead other old.floor old.applied old.ahead f.1)
      ]
    ]
  ]
    where
      longer : length (old.applied ++ e ∷ []) ≡ length old.applied + 1
      longer = length-append old.applied (e ∷ [])

  next_at : (log : LogState B M) (slot : ℕ) (e : Entry B) → Some slot ≡ cond (is_slot (next_slot log)) (Some (next_slot log)) None
      → Some e ≡ lookup (λ s. eqb slot s) log.ahead → learned_in (next_slot log) log ≡ Some e
  next_at log slot e next stands =
      let at = slot_is (is_slot (next_slot log)) slot (next_slot log) next in
      learned_found (next_slot log) log at.0
      ∙ found_ahead (next_slot log) log.floor log.applied log.ahead (omega arith)
      ∙ ap (λ n. lookup (λ s. eqb n s) log.ahead) (sym at.1)
      ∙ sym stands

  -- the entry that is ahead in the next slot is learned there
  pub learned_next : (now inside : LogState B M) (slot : ℕ) (e : Entry B) → inside ≡ now
      → Some slot ≡ cond (is_slot (next_slot now)) (Some (next_slot now)) None → Some e ≡ lookup (λ s. eqb slot s) inside.ahead
      → learned_in (next_slot now) now ≡ Some e
  learned_next now inside slot e same next stands =
      next_at now slot e next (stands ∙ ap (λ (v : LogState B M). lookup (λ s. eqb slot s) v.ahead) same)

module _ {B S Y : Type 0} where
  said_at_one : (m : Machine B S Y) (s : S) (input : Option (Input B))
      → option_map_or (λ i. m.says s i) input [] ≡ sayings_from m s (cons_option input [])
  said_at_one m s None = refl
  said_at_one m s (Some i) = sym (append-nil (m.says s i))

  next_at_one : (m : Machine B S Y) (s : S) (input : Option (Input B))
      → option_map_or (λ i. m.next s i) input s ≡ fold m.next s (cons_option input [])
  next_at_one m s None = refl
  next_at_one m s (Some i) = refl

  says_by_is : (m : Machine B S Y) (s : S) (took : Bool) (input : Option (Input B))
      → says_by m.says took s input ≡ sayings_from m s (cond took (cons_option input []) [])
  says_by_is m s true input = said_at_one m s input
  says_by_is m s false input = refl

  next_by_is : (m : Machine B S Y) (s : S) (took : Bool) (input : Option (Input B))
      → next_by m.next took s input ≡ fold m.next s (cond took (cons_option input []) [])
  next_by_is m s true input = next_at_one m s input
  next_by_is m s false input = refl

  -- what a machine in the log's state says at one entry more, and what becomes of it
  pub said_behind : (m : Machine B S Y) (log : List (Entry B)) (e : Entry B)
      → says_by m.says (takes_effect log e) (state m log) (input_of e) ≡ sayings_behind m log (e ∷ [])
  said_behind m log e =
      says_by_is m (state m log) (takes_effect log e) (input_of e)
      ∙ ap (λ is. sayings_from m (state m log) is) (sym (inputs_of_one log e (takes_effect log e) refl))

  pub state_behind : (m : Machine B S Y) (log : List (Entry B)) (e : Entry B)
      → next_by m.next (takes_effect log e) (state m log) (input_of e) ≡ state m (log ++ e ∷ [])
  state_behind m log e =
      next_by_is m (state m log) (takes_effect log e) (input_of e)
      ∙ ap (λ is. fold m.next (state m log) is) (sym (inputs_of_one log e (takes_effect log e) refl))
      ∙ sym (state_append m log (e ∷ []))

module _ {B M S Y : Type 0} (steps : Steps B S Y) (content : M → S) where
  -- a machine and a roll that stand where a log leads to go on over one entry more
  pub at_on : (first : S) (log : List (Entry B)) (e : Entry B) (roll more : List Standing) (machine made : M) (took : Bool)
      → IsAt steps content first log roll machine
      → ((l : List (Entry B)) → IsRollOf l roll → took ≡ takes_effect l e)
      → ((l : List (Entry B)) → IsRollOf l roll → IsRollOf (l ++ e ∷ []) more)
      → content made ≡ next_by steps.next took (content machine) (input_of e) → IsAt steps content first (log ++ e ∷ []) more made
  at_on first log e roll more machine made took stands took_is rolls goes = (
    goes
        ∙ ap (λ t. next_by steps.next t (content machine) (input_of e)) (took_is log stands.1)
        ∙ ap (λ s. next_by steps.next (takes_effect log e) s (input_of e)) stands.0
        ∙ state_behind (machine_from steps first) log e,
    rolls log stands.1,
  )

  pub said_at : (first : S) (log : List (Entry B)) (e : Entry B) (roll : List Standing) (machine : M) (took : Bool) (said : List Y)
      → IsAt steps content first log roll machine
      → ((l : List (Entry B)) → IsRollOf l roll → took ≡ takes_effect l e)
      → said ≡ says_by steps.says took (content machine) (input_of e) → said ≡ sayings_behind (machine_from steps first) log (e ∷ [])
  said_at first log e roll machine took said stands took_is said_is =
      said_is
      ∙ ap (λ t. says_by steps.says t (content machine) (input_of e)) (took_is log stands.1)
      ∙ ap (λ s. says_by steps.says (takes_effect log e) s (input_of e)) stands.0
      ∙ said_behind (machine_from steps first) log e

  -- the same after entries that are forgotten
  pub at_longer : (first : S) (under old new : List (Entry B)) (e : Entry B) (roll : List Standing) (machine : M) → new ≡ old ++ e ∷ []
      → IsAt steps content first ((under ++ old) ++ e ∷ []) roll machine → IsAt steps content first (under ++ new) roll machine
  at_longer first under old new e roll machine longer stands =
      subst (λ l. IsAt steps content first l roll machine) (append_assoc under old (e ∷ []) ∙ ap (λ l. under ++ l) (sym longer)) stands

  applies_inside : (old new : LogState B M) (slot : ℕ) (e : Entry B) (took : Bool) (said : List Y)
      → Some slot ≡ cond (is_slot (next_slot old)) (Some (next_slot old)) None → Some e ≡ lookup (λ s. eqb slot s) old.ahead
      → ((q : ℕ) → lookup (λ s. eqb q s) new.ahead ≡ cond (eqb slot q) None (lookup (λ s. eqb q s) old.ahead))
      → new.floor ≡ old.floor → new.applied ≡ old.applied ++ e ∷ [] → new.failed ≡ false
      → ((l : List (Entry B)) → IsRollOf l old.roll → took ≡ takes_effect l e)
      → ((l : List (Entry B)) → IsRollOf l old.roll → IsRollOf (l ++ e ∷ []) new.roll)
      → content new.machine ≡ next_by steps.next took (content old.machine) (input_of e)
      → said ≡ says_by steps.says took (content old.machine) (input_of e) → Applies steps content old new slot took said
  applies_inside old new slot e took said at stands taken floor longer alive took_is rolls goes said_is =
      let here = slot_is (is_slot (next_slot old)) slot (next_slot old) at in
      record {
        entry = e;
        slot_is = here.1;
        learned = ap (λ n. learned_in n old) here.1 ∙ next_at old slot e at stands;
        floor = floor;
        applied = longer;
        others = λ other.
            ap (λ f. cond (is_slot other) (found other f new.applied new.ahead) None) floor
            ∙ ap (λ l. cond (is_slot other) (found other old.floor l new.ahead) None) longer
            ∙ guarded (is_slot other) (found other old.floor (old.applied ++ e ∷ []) new.ahead) (found other old.floor old.applied old.ahead)
            (λ h. found_stays old e new.ahead slot other here.1 stands taken h);
        failed = alive;
        took_is = λ under rolled. took_is (under ++ old.applied) rolled ∙ sym (effective_is (under ++ old.applied) e);
        says_is = λ first under follows.
            said_at first (under ++ old.applied) e old.roll old.machine took said follows.stands took_is said_is;
        follows = λ first under follows. record {
          below = follows.below ∙ sym floor;
          stands = at_longer first under old.applied new.applied e new.roll new.machine longer
              (at_on first (under ++ old.applied) e old.roll new.roll old.machine new.machine took follows.stands took_is rolls goes);
        };
      }

  -- what one step of a log owes, from what its parts did
  pub applies : (now inside new : LogState B M) (slot : ℕ) (e : Entry B) (took : Bool) (said : List Y) → inside ≡ now
      → Some slot ≡ cond (is_slot (next_slot now)) (Some (next_slot now)) None → Some e ≡ lookup (λ s. eqb slot s) inside.ahead
      → ((q : ℕ) → lookup (λ s. eqb q s) new.ahead ≡ cond (eqb slot q) None (lookup (λ s. eqb q s) inside.ahead))
      → new.floor ≡ inside.floor → new.applied ≡ inside.applied ++ e ∷ [] → new.failed ≡ false
      → ((l : List (Entry B)) → IsRollOf l inside.roll → took ≡ takes_effect l e)
      → ((l : List (Entry B)) → IsRollOf l inside.roll → IsRollOf (l ++ e ∷ []) new.roll)
      → content new.machine ≡ next_by steps.next took (content inside.machine) (input_of e)
      → said ≡ says_by steps.says took (content inside.machine) (input_of e) → Applies steps content now new slot took said
  applies now inside new slot e took said same at stands taken floor longer alive took_is rolls goes said_is =
      subst (λ (v : LogState B M). Applies steps content v new slot took said) same
      (applies_inside inside new slot e took said
      (subst (λ (v : LogState B M). Some slot ≡ cond (is_slot (next_slot v)) (Some (next_slot v)) None) (sym same) at)
      stands taken floor longer alive took_is rolls goes said_is)

  -- a log that is cut stands for the same one
  cut_at : (b : Bool) (first : S) (under : List (Entry B)) (old : LogState B M) → b ≡ true → IsLogOf steps content first under old
      → IsLogOf steps content first (under ++ old.applied) (cond b (record old { floor = length_in old; applied = [] }) old)
  cut_at true first under old h stands = record {
    below = length-append under old.applied ∙ ap (λ n. n + length old.applied) stands.below;
    stands = subst (λ l. IsAt steps content first l old.roll old.machine) (sym (append-nil (under ++ old.applied))) stands.stands;
  }
  cut_at false first under old h stands = absurd (false≢true h)

  pub cut_stands : (first : S) (under : List (Entry B)) (old : LogState B M) → length_in old < 2 ^ 40 → IsLogOf steps content first under old
      → IsLogOf steps content first (under ++ old.applied) (cut_log old)
  cut_stands first under old within stands =
      cut_at (ltb (length_in old) (2 ^ 40)) first under old (lt-ltb (length_in old) (2 ^ 40) within) stands
