-- What is kept of a log is read again, and a log that is made of it stands for the same one.
use Rattle.std.proofs.Common.{◌≡◌, ◌⊎◌, inl, inr, ℕ, zero, suc, ◌+◌, ◌<◌, ◌≤◌, ◌^◌, Bool, true, false, ◌&&◌, cond, eqb, leb, refl, sym, ap}
use Rattle.std.proofs.Common.{lit<, ◌∙◌, subst, arith, get_or, List, [], ◌∷◌, ◌++◌, length, Option, Some, None, Ok, IfSome}
use Rattle.std.specs.Int.{bytes_high_first}
use Rattle.std.proofs.lemmas.Bool.{false≢true, and_parts, and_from, cond_both, cond-true, cond-false, eqb-true, eqb-false, ne_eqb, le-leb, leb-true, cases_Bool}
use Rattle.std.proofs.lemmas.Bool.Decides.{leb_tells}
use Rattle.std.proofs.lemmas.List.Elements.{All-head, All-tail}
use Rattle.std.proofs.lemmas.List.{append-nil, append_assoc, length-append}
use Rattle.paxos_packets.specs.declared.entry.Entry.{Entry}
use Rattle.paxos_packets.specs.declared.entry.Entry.TheVariants.{Noop, Boot, Lost, Item}
use Rattle.command_codec.specs.declared.number.Form.{Form}
use Rattle.command_codec.specs.Coder.{and_then}
use Rattle.command_codec.specs.Number.{Reading, number_octets, number_reading, is_within}
use Rattle.command_codec.proofs.Numbers.{number_again}
use Rattle.replica_machine.specs.declared.input.Input.{Input}
use Rattle.replica_machine.specs.declared.input.Input.TheVariants as Given
use Rattle.replica_machine.specs.declared.roll.Standing.{Standing}
use Rattle.replica_machine.specs.declared.roll.Standing.TheVariants.{Unknown, Live, Gone}
use Rattle.replica_machine.specs.Roll.{is_new_boot, is_live, is_next, gone, live_in, standing_after, standing_from, standing, standings, standing_in, takes_effect, IsRollOf}
use Rattle.replica_machine.specs.Given.{is_node, is_number, is_given_entry, IsGiven, AreGiven}
use Rattle.replica_machine.specs.Log.{LogState, length_in, IsAt, IsLogOf, machine_from, next_by}
use Rattle.replica_machine.specs.Replay.{Machine, input_of, state, Steps}
use Rattle.replica_machine.specs.Snapshot.{floor_form, count_form, flag_form, numbers_octets, standing_octets, standing_by, unless_none}
use Rattle.replica_machine.specs.Snapshot.{standing_reading, standings_octets, seven_reading, seven_of, seven, standing_from_node, head_octets, head_reading}
use Rattle.replica_machine.specs.Snapshot.{Kept, kept_after, with_content, of_head, loaded_log, kept_of, IsLoaded}
use Rattle.replica_machine.proofs.Applying.{state_behind}

-- ---- what is written is read, whatever follows

number_here : (form : Form) (n : ℕ) (rest : List ℕ) → form.high < 256 ^ form.width → is_within form n ≡ true
    → number_reading form (bytes_high_first form.width n ++ rest) ≡ Ok (n, rest)
unfolding number_octets
number_here form n rest fits h = number_again form n rest fits h

then_ok : {A C : Type 0} (r : Reading A) (a : A) (rest : List ℕ) (next : A → List ℕ → Reading C) → r ≡ Ok (a, rest)
    → and_then r next ≡ next a rest
then_ok r a rest next h = ap (λ q. and_then q next) h

-- a boot or 0, no or yes, and a count are read again
numbers_again : (boot live taken : ℕ) (rest : List ℕ) (s : Standing) → is_within count_form boot ≡ true → is_within flag_form live ≡ true
    → is_within count_form taken ≡ true → standing_by boot live taken ≡ Some s
    → standing_reading (numbers_octets boot live taken ++ rest) ≡ Ok (s, rest)
numbers_again boot live taken rest s a b c is =
    ap standing_reading (append_assoc (bytes_high_first 8 boot) (bytes_high_first 1 live ++ bytes_high_first 8 taken) rest
    ∙ ap (λ l. bytes_high_first 8 boot ++ l) (append_assoc (bytes_high_first 1 live) (bytes_high_first 8 taken) rest))
    ∙ then_ok (number_reading count_form (bytes_high_first 8 boot ++ (bytes_high_first 1 live ++ (bytes_high_first 8 taken ++ rest))))
    boot (bytes_high_first 1 live ++ (bytes_high_first 8 taken ++ rest))
    (λ boot rest. and_then (number_reading flag_form rest) (λ live rest. and_then (number_reading count_form rest)
    (λ taken rest. unless_none (standing_by boot live taken) rest)))
    (number_here count_form boot (bytes_high_first 1 live ++ (bytes_high_first 8 taken ++ rest)) (lit< tt) a)
    ∙ then_ok (number_reading flag_form (bytes_high_first 1 live ++ (bytes_high_first 8 taken ++ rest))) live
    (bytes_high_first 8 taken ++ rest)
    (λ live rest. and_then (number_reading count_form rest) (λ taken rest. unless_none (standing_by boot live taken) rest))
    (number_here flag_form live (bytes_high_first 8 taken ++ rest) (lit< tt) b)
    ∙ then_ok (number_reading count_form (bytes_high_first 8 taken ++ rest)) taken rest
    (λ taken rest. unless_none (standing_by boot live taken) rest) (number_here count_form taken rest (lit< tt) c)
    ∙ ap (λ o. unless_none o rest) is

-- a standing whose numbers are ones of octets
abbrev pub is_kept : Standing → Bool
is_kept Unknown = true
is_kept (Live boot taken) = is_number boot && leb taken 281474976710655
is_kept (Gone boot) = is_number boot

not_zero : (boot : ℕ) → is_number boot ≡ true → eqb boot 0 ≡ false
not_zero boot h = let l = leb-true 1 boot (and_parts (leb 1 boot) (leb boot 281474976710655) h).0 in
    ne_eqb boot 0 (λ e. omega arith)

count_fits : (n : ℕ) → leb n 281474976710655 ≡ true → is_within count_form n ≡ true
count_fits n h = and_from (leb 0 n) (leb n 281474976710655) (le-leb 0 n (omega arith)) h

boot_fits : (boot : ℕ) → is_number boot ≡ true → is_within count_form boot ≡ true
boot_fits boot h = count_fits boot (and_parts (leb 1 boot) (leb boot 281474976710655) h).1

standing_again : (s : Standing) (rest : List ℕ) → is_kept s ≡ true → standing_reading (standing_octets s ++ rest) ≡ Ok (s, rest)
standing_again Unknown rest h = numbers_again 0 0 0 rest Unknown refl refl refl refl
standing_again (Live boot taken) rest h =
    let p = and_parts (is_number boot) (leb taken 281474976710655) h in
    numbers_again boot 1 taken rest (Live boot taken) (boot_fits boot p.0) refl (count_fits taken p.1)
    (cond-false (eqb boot 0) None (Some (Live boot taken)) (not_zero boot p.0))
standing_again (Gone boot) rest h =
    numbers_again boot 0 0 rest (Gone boot) (boot_fits boot h) refl refl
    (ap (λ s. Some s) (cond-false (eqb boot 0) Unknown (Gone boot) (not_zero boot h)))

standing_then : (s : Standing) (more rest : List ℕ) → is_kept s ≡ true
    → standing_reading ((standing_octets s ++ more) ++ rest) ≡ Ok (s, more ++ rest)
standing_then s more rest h =
    ap standing_reading (append_assoc (standing_octets s) more rest) ∙ standing_again s (more ++ rest) h

abbrev pub AreKept : List Standing → Type 0
AreKept [] = Unit {0}
AreKept (s ∷ standings) = (is_kept s ≡ true) × AreKept standings

seven_again : (a b c d e f g : Standing) (rest : List ℕ) → AreKept (a ∷ b ∷ c ∷ d ∷ e ∷ f ∷ g ∷ [])
    → seven_reading (standings_octets (a ∷ b ∷ c ∷ d ∷ e ∷ f ∷ g ∷ []) ++ rest) ≡ Ok (a ∷ b ∷ c ∷ d ∷ e ∷ f ∷ g ∷ [], rest)
seven_again a b c d e f g rest kept =
    then_ok _ a _ _ (standing_then a (standings_octets (b ∷ c ∷ d ∷ e ∷ f ∷ g ∷ [])) rest kept.0)
    ∙ then_ok _ b _ _ (standing_then b (standings_octets (c ∷ d ∷ e ∷ f ∷ g ∷ [])) rest kept.1.0)
    ∙ then_ok _ c _ _ (standing_then c (standings_octets (d ∷ e ∷ f ∷ g ∷ [])) rest kept.1.1.0)
    ∙ then_ok _ d _ _ (standing_then d (standings_octets (e ∷ f ∷ g ∷ [])) rest kept.1.1.1.0)
    ∙ then_ok _ e _ _ (standing_then e (standings_octets (f ∷ g ∷ [])) rest kept.1.1.1.1.0)
    ∙ then_ok _ f _ _ (standing_then f (standings_octets (g ∷ [])) rest kept.1.1.1.1.1.0)
    ∙ then_ok _ g _ _ (standing_then g [] rest kept.1.1.1.1.1.1.0)

head_again : (floor : ℕ) (a b c d e f g : Standing) (rest : List ℕ) → floor < 2 ^ 40 → AreKept (a ∷ b ∷ c ∷ d ∷ e ∷ f ∷ g ∷ [])
    → head_reading (head_octets floor (a ∷ b ∷ c ∷ d ∷ e ∷ f ∷ g ∷ []) ++ rest)
    ≡ Ok (record { floor = floor; standings = a ∷ b ∷ c ∷ d ∷ e ∷ f ∷ g ∷ [] }, rest)
head_again floor a b c d e f g rest within kept =
    let octets = standings_octets (a ∷ b ∷ c ∷ d ∷ e ∷ f ∷ g ∷ []) in
    ap head_reading (append_assoc (bytes_high_first 8 floor) octets rest)
    ∙ then_ok (number_reading floor_form (bytes_high_first 8 floor ++ (octets ++ rest))) floor (octets ++ rest) _
    (number_here floor_form floor (octets ++ rest) (lit< tt)
    (and_from (leb 0 floor) (leb floor 1099511627775) (le-leb 0 floor (omega arith)) (le-leb floor 1099511627775 (omega arith))))
    ∙ then_ok (seven_reading (octets ++ rest)) (a ∷ b ∷ c ∷ d ∷ e ∷ f ∷ g ∷ []) rest _ (seven_again a b c d e f g rest kept)

-- ---- where nodes stand after entries that are ones

-- no entry of these is of another node
other : (n k : ℕ) (b : Bool) (s : Standing) → is_node n ≡ false → is_node k ≡ true → cond (eqb k n && b) s Unknown ≡ Unknown
other n k b s none one = elim (cases_Bool (eqb k n)) [
  | inl h ↦ absurd (false≢true (sym none ∙ ap is_node (sym (eqb-true k n h)) ∙ one))
  | inr h ↦ ap (λ t. cond (t && b) s Unknown) h
]

live_kept : (s : Standing) (b : ℕ) → is_kept s ≡ true → live_in s ≡ Some b → is_number b ≡ true
live_kept Unknown b kept is = absurd (cc)
live_kept (Live c taken) b kept is =
    let same : c ≡ b = cc in
    subst (λ k. is_number k ≡ true) same (and_parts (is_number c) (leb taken 281474976710655) kept).0
live_kept (Gone c) b kept is = absurd (cc)

module _ {B : Type 0} where
  first_given : (e : Entry B) (log : List (Entry B)) → AreGiven (e ∷ log) → is_given_entry e ≡ true
  first_given e log given = All-head (λ (x : Entry B). is_given_entry x ≡ true) e log given

  rest_given : (e : Entry B) (log : List (Entry B)) → AreGiven (e ∷ log) → AreGiven log
  rest_given e log given = All-tail (λ (x : Entry B). is_given_entry x ≡ true) e log given

  kept_next : (n : ℕ) (s : Standing) (e : Entry B) → is_kept s ≡ true → is_given_entry e ≡ true → is_kept (standing_after n s e) ≡ true
  kept_next n s Noop kept given = kept
  kept_next n s (Boot k b) kept given =
      cond_both (eqb k n && is_new_boot s b) (Live b 0) s (λ t. is_kept t ≡ true)
      (λ _. and_from (is_number b) true (and_parts (is_node k) (is_number b) given).1 refl) (λ _. kept)
  kept_next n s (Lost k b) kept given = cond_both (eqb k n && is_live s b) (gone s) s (λ t. is_kept t ≡ true) (λ _. ends s kept) (λ _. kept)
    where
      ends : (t : Standing) → is_kept t ≡ true → is_kept (gone t) ≡ true
      ends Unknown h = refl
      ends (Live c taken) h = (and_parts (is_number c) (leb taken 281474976710655) h).0
      ends (Gone c) h = h
  kept_next n s (Item k b q t x) kept given =
      let p = and_parts (is_node k && (is_number b && leb 1 t)) (is_number q) given in
      let o = and_parts (is_node k) (is_number b && leb 1 t) p.0 in
      cond_both (eqb k n && is_next s b q) (Live b q) s (λ t. is_kept t ≡ true)
      (λ _. and_from (is_number b) (leb q 281474976710655) (and_parts (is_number b) (leb 1 t) o.1).0
      (and_parts (leb 1 q) (leb q 281474976710655) p.1).1) (λ _. kept)

  kept_from : (n : ℕ) (s : Standing) (log : List (Entry B)) → is_kept s ≡ true → AreGiven log → is_kept (standing_from n s log) ≡ true
  kept_from n s [] kept given = kept
  kept_from n s (e ∷ log) kept given = kept_from n (standing_after n s e) log (kept_next n s e kept (first_given e log given)) (rest_given e log given)

  unknown_after : (n : ℕ) (e : Entry B) → is_node n ≡ false → is_given_entry e ≡ true → standing_after n Unknown e ≡ Unknown
  unknown_after n Noop none given = refl
  unknown_after n (Boot k b) none given = other n k true (Live b 0) none (and_parts (is_node k) (is_number b) given).0
  unknown_after n (Lost k b) none given = other n k false Unknown none (and_parts (is_node k) (is_number b) given).0
  unknown_after n (Item k b q t x) none given =
      other n k false (Live b q) none
      (and_parts (is_node k) (is_number b && leb 1 t)
      (and_parts (is_node k && (is_number b && leb 1 t)) (is_number q) given).0).0

  unknown_from : (n : ℕ) (log : List (Entry B)) → is_node n ≡ false → AreGiven log → standing n log ≡ Unknown
  unknown_from n [] none given = refl
  unknown_from n (e ∷ log) none given =
      ap (λ s. standing_from n s log) (unknown_after n e none (first_given e log given)) ∙ unknown_from n log none (rest_given e log given)

  -- a boot that is live after entries that are ones is one, and so is its node
  pub live_given : (n : ℕ) (log : List (Entry B)) (b : ℕ) → AreGiven log → live_in (standing n log) ≡ Some b → (is_node n && is_number b) ≡ true
  live_given n log b given is = elim (cases_Bool (is_node n)) [
    | inl t ↦ and_from (is_node n) (is_number b) t (live_kept (standing n log) b (kept_from n Unknown log refl given) is)
    | inr f ↦ absurd (none (sym is ∙ ap live_in (unknown_from n log f given)))
  ]
    where
      none : ◌≡◌ {A = Option ℕ} (Some b) None → ⊥
      none e = cc

-- ---- the standings of nodes 1 to 7

abbrev from_node : (ℕ → Standing) → ℕ → ℕ → List Standing
from_node stands first zero = []
from_node stands first (suc count) = stands first ∷ from_node stands (first + 1) count

above : (first n : ℕ) → first ≤ n → (first ≡ n → ⊥) → first + 1 ≤ n
above first n l differ = elim (leb_tells n first) [ inl a ↦ absurd (differ (let u = a.1 in omega arith)) | inr b ↦ (let u = b.1 in omega arith) ]

named_in : (stands : ℕ → Standing) (first count n : ℕ) → first ≤ n → n < first + count
    → standing_from_node first n (from_node stands first count) ≡ stands n
named_in stands first zero n l h = absurd (omega arith)
named_in stands first (suc count) n l h = elim (cases_Bool (eqb first n)) [
  | inl t ↦ cond-true (eqb first n) (stands first) (standing_from_node (first + 1) n (from_node stands (first + 1) count)) t
      ∙ ap stands (eqb-true first n t)
  | inr f ↦ cond-false (eqb first n) (stands first) (standing_from_node (first + 1) n (from_node stands (first + 1) count)) f
      ∙ named_in stands (first + 1) count n (above first n l (eqb-false first n f)) (omega arith)
]

named_out : (stands : ℕ → Standing) (first count n : ℕ) → (n < first) ⊎ (first + count ≤ n)
    → standing_from_node first n (from_node stands first count) ≡ Unknown
named_out stands first zero n h = refl
named_out stands first (suc count) n h =
    cond-false (eqb first n) (stands first) (standing_from_node (first + 1) n (from_node stands (first + 1) count))
    (ne_eqb first n (λ e. elim h [ inl a ↦ omega arith | inr b ↦ omega arith ]))
    ∙ named_out stands (first + 1) count n (elim h [ inl a ↦ inl (omega arith) | inr b ↦ inr (omega arith) ])

node_within : (n : ℕ) → is_node n ≡ true → (1 ≤ n) × (n < 8)
node_within n h = let p = and_parts (leb 1 n) (leb n 7) h in (leb-true 1 n p.0, (let l = leb-true n 7 p.1 in omega arith))

node_without : (n : ℕ) → is_node n ≡ false → (n < 1) ⊎ (8 ≤ n)
node_without n h = elim (leb_tells 1 n) [
  | inl a ↦ elim (leb_tells n 7) [
    | inl b ↦ absurd (false≢true (sym h ∙ and_from (leb 1 n) (leb n 7) (le-leb 1 n a.1) (le-leb n 7 b.1)))
    | inr b ↦ inr (let l = b.1 in omega arith)
  ]
  | inr a ↦ inl a.1
]

-- what a roll of seven standings says of each node, one test after the other
pub named_by_one : (seven : List Standing) (n : ℕ) → length seven ≡ 7
    → cond (eqb 1 n) (get_or seven 0 Unknown) (cond (eqb 2 n) (get_or seven 1 Unknown) (cond (eqb 3 n) (get_or seven 2 Unknown)
    (cond (eqb 4 n) (get_or seven 3 Unknown) (cond (eqb 5 n) (get_or seven 4 Unknown) (cond (eqb 6 n) (get_or seven 5 Unknown)
    (cond (eqb 7 n) (get_or seven 6 Unknown) Unknown))))))
    ≡ standing_from_node 1 n seven
named_by_one (a ∷ b ∷ c ∷ d ∷ e ∷ f ∷ g ∷ []) n h = refl
named_by_one [] n h = absurd (omega arith)
named_by_one (a ∷ []) n h = absurd (omega arith)
named_by_one (a ∷ b ∷ []) n h = absurd (omega arith)
named_by_one (a ∷ b ∷ c ∷ []) n h = absurd (omega arith)
named_by_one (a ∷ b ∷ c ∷ d ∷ []) n h = absurd (omega arith)
named_by_one (a ∷ b ∷ c ∷ d ∷ e ∷ []) n h = absurd (omega arith)
named_by_one (a ∷ b ∷ c ∷ d ∷ e ∷ f ∷ []) n h = absurd (omega arith)
named_by_one (a ∷ b ∷ c ∷ d ∷ e ∷ f ∷ g ∷ k ∷ rest) n h = absurd (omega arith)

-- where each node stands after entries that are ones, by the standings of nodes 1 to 7
named : {B : Type 0} (stands : ℕ → Standing) (log : List (Entry B)) (n : ℕ) → AreGiven log → (is_node n ≡ true → stands n ≡ standing n log)
    → standing_from_node 1 n (seven_of stands) ≡ standing n log
named stands log n given are = elim (cases_Bool (is_node n)) [
  | inl t ↦ named_in stands 1 7 n (node_within n t).0 (node_within n t).1 ∙ are t
  | inr f ↦ named_out stands 1 7 n (node_without n f) ∙ sym (unknown_from n log f given)
]

-- ---- a log that is made of what is kept of another stands for the same one

module _ {B S Y M : Type 0} (steps : Steps B S Y) (content : M → S) where
  pub loaded_stands : (first : S) (under : List (Entry B)) (old new : LogState B M) → IsLogOf steps content first under old
      → AreGiven (under ++ old.applied) → IsLoaded content (kept_of content old) new
      → IsLogOf steps content first (under ++ old.applied) new
  loaded_stands first under old new stands given loaded =
      let whole = under ++ old.applied in
      let all : whole ++ new.applied ≡ whole = ap (λ l. whole ++ l) loaded.applied ∙ append-nil whole in
      record {
        below = length-append under old.applied ∙ ap (λ n. n + length old.applied) stands.below ∙ sym loaded.floor;
        stands = subst (λ l. IsAt steps content first l new.roll new.machine) (sym all) (
          loaded.machine ∙ stands.stands.0,
          λ n within. loaded.roll n within ∙ named (standing_in old.roll) whole n given (λ _. stands.stands.1 n within),
        );
      }

  -- what is kept of a log is what is kept of the whole one that it stands for
  pub kept_whole : (first : S) (under : List (Entry B)) (log : LogState B M) → IsLogOf steps content first under log
      → kept_of content log ≡ kept_after (machine_from steps first) (under ++ log.applied)
  kept_whole first under log stands =
      let whole = under ++ log.applied in
      let floor : length_in log ≡ length whole = sym (length-append under log.applied ∙ ap (λ n. n + length log.applied) stands.below) in
      let at : (n : ℕ) → n < 256 → standing_in log.roll n ≡ standing n whole = stands.stands.1 in
      λ i. record {
        floor = floor i;
        standings =
            at 1 (lit< tt) i ∷ at 2 (lit< tt) i ∷ at 3 (lit< tt) i ∷ at 4 (lit< tt) i ∷ at 5 (lit< tt) i ∷ at 6 (lit< tt) i ∷ at 7 (lit< tt) i ∷ [];
        content = stands.stands.0 i;
      }

  -- and a log that is made of it stands for that one
  pub loaded_whole : (first : S) (under : List (Entry B)) (log : LogState B M) → AreGiven under
      → IsLoaded content (kept_after (machine_from steps first) under) log → IsLogOf steps content first under log
  loaded_whole first under log given loaded =
      let all : under ++ log.applied ≡ under = ap (λ l. under ++ l) loaded.applied ∙ append-nil under in
      record {
        below = sym loaded.floor;
        stands = subst (λ l. IsAt steps content first l log.roll log.machine) (sym all) (
          loaded.machine,
          λ n within. loaded.roll n within ∙ named (standings under) under n given (λ _. refl),
        );
      }

-- ---- what a log is saved as loads

roll_kept : {B : Type 0} (log : List (Entry B)) (roll : List Standing) (n : ℕ) → n < 256 → AreGiven log → IsRollOf log roll
    → is_kept (standing_in roll n) ≡ true
roll_kept log roll n within given stands = ap is_kept (stands n within) ∙ kept_from n Unknown log refl given

pub seven_kept : {B : Type 0} (log : List (Entry B)) (roll : List Standing) → AreGiven log → IsRollOf log roll → AreKept (seven roll)
seven_kept log roll given stands =
    let k : (n : ℕ) → n < 256 → is_kept (standing_in roll n) ≡ true = λ n w. roll_kept log roll n w given stands in
    (k 1 (lit< tt), (k 2 (lit< tt), (k 3 (lit< tt), (k 4 (lit< tt), (k 5 (lit< tt), (k 6 (lit< tt), (k 7 (lit< tt), tt)))))))

pub reads_back : {S : Type 0} (loaded : List ℕ → Option S) (floor : ℕ) (roll : List Standing) (s : S) (octets : List ℕ)
    → floor < 2 ^ 40 → AreKept (seven roll) → loaded octets ≡ Some s
    → loaded_log loaded (head_octets floor (seven roll) ++ octets) ≡ Some (record { floor = floor; standings = seven roll; content = s })
reads_back loaded floor roll s octets within kept is =
    ap (λ r. of_head loaded r) (head_again floor (standing_in roll 1) (standing_in roll 2) (standing_in roll 3) (standing_in roll 4)
    (standing_in roll 5) (standing_in roll 6) (standing_in roll 7) octets within kept)
    ∙ ap (λ o. with_content (record { floor = floor; standings = seven roll }) o) is

-- if the machine's octets are read as its content or as none, those of the log are read as that log or as none
pub reads_only : {S : Type 0} (loaded : List ℕ → Option S) (floor : ℕ) (roll : List Standing) (s : S) (octets all : List ℕ)
    → floor < 2 ^ 40 → AreKept (seven roll) → IfSome (loaded octets) (λ made. made ≡ s) → all ≡ head_octets floor (seven roll) ++ octets
    → IfSome (loaded_log loaded all) (λ kept. kept ≡ record { floor = floor; standings = seven roll; content = s })
reads_only {S} loaded floor roll s octets all within kept only are =
    subst (λ (o : Option (Kept S)). IfSome o (λ k. k ≡ record { floor = floor; standings = seven roll; content = s }))
    (sym (ap (λ l. loaded_log loaded l) are
    ∙ ap (λ r. of_head loaded r) (head_again floor (standing_in roll 1) (standing_in roll 2) (standing_in roll 3) (standing_in roll 4)
    (standing_in roll 5) (standing_in roll 6) (standing_in roll 7) octets within kept))) (by (loaded octets) only)
  where
    by : (o : Option S) → IfSome o (λ made. made ≡ s)
        → IfSome (with_content (record { floor = floor; standings = seven roll }) o)
        (λ k. k ≡ record { floor = floor; standings = seven roll; content = s })
    by None is = tt
    by (Some made) is = ap (λ c. record { floor = floor; standings = seven roll; content = c }) is

-- ---- a content stays sound along entries that are ones

module _ {B S Y : Type 0} (m : Machine B S Y) (is_sound : S → Type 0)
    (keeps : (s : S) (input : Input B) → IsGiven input → is_sound s → is_sound (m.next s input)) where
  sound_by : (took : Bool) (s : S) (e : Entry B) → is_given_entry e ≡ true → is_sound s → is_sound (next_by m.next took s (input_of e))
  sound_by false s e given sound = sound
  sound_by true s Noop given sound = sound
  sound_by true s (Boot n b) given sound = keeps s (Given.Boot n b) given sound
  sound_by true s (Lost n b) given sound = keeps s (Given.Lost n b) given sound
  sound_by true s (Item n b q t x) given sound =
      keeps s (Given.Item (record { node = n; boot = b; number = t }) x)
      (and_parts (is_node n && (is_number b && leb 1 t)) (is_number q) given).0 sound

  sound_on : (log es : List (Entry B)) → AreGiven es → is_sound (state m log) → is_sound (state m (log ++ es))
  sound_on log [] given sound = subst (λ l. is_sound (state m l)) (sym (append-nil log)) sound
  sound_on log (e ∷ es) given sound =
      subst (λ l. is_sound (state m l)) (append_assoc log (e ∷ []) es)
      (sound_on (log ++ e ∷ []) es (rest_given e es given)
      (subst is_sound (state_behind m log e) (sound_by (takes_effect log e) (state m log) e (first_given e es given) sound)))

  pub sound_state : (log : List (Entry B)) → AreGiven log → is_sound m.first → is_sound (state m log)
  sound_state log given sound = sound_on [] log given sound

module _ {B S Y M : Type 0} (steps : Steps B S Y) (content : M → S)
    (is_sound : S → Type 0) (keeps : (s : S) (input : Input B) → IsGiven input → is_sound s → is_sound (steps.next s input)) where
  -- the octets of a log whose first content is sound and whose entries are ones load
  pub saves_back : (loaded : List ℕ → Option S) (first : S) (under : List (Entry B)) (log : LogState B M) (machine octets : List ℕ)
      → IsLogOf steps content first under log → is_sound first → AreGiven (under ++ log.applied)
      → length_in log < 2 ^ 40 → (is_sound (content log.machine) → loaded machine ≡ Some (content log.machine))
      → octets ≡ head_octets (length_in log) (seven log.roll) ++ machine → loaded_log loaded octets ≡ Some (kept_of content log)
  saves_back loaded first under log machine octets stands sound given within back are =
      let whole = under ++ log.applied in
      let so = subst is_sound (sym stands.stands.0) (sound_state (machine_from steps first) is_sound keeps whole given sound) in
      ap (λ o. loaded_log loaded o) are
      ∙ reads_back loaded (length_in log) log.roll (content log.machine) machine within (seven_kept whole log.roll given stands.stands.1)
      (back so)
