-- What is due between two members, by the number of the pair.
use Rattle.std.proofs.Common.{◌≡◌, ℕ, ◌+◌, ◌*◌, ◌/◌, ◌%◌, ◌<◌, ◌≤◌, Bool, true, false, not, ◌&&◌, leb, List, refl, sym, ap, subst, ◌∙◌, arith}
use Rattle.std.specs.Prelude.{◌||◌, ◌==◌, nat_lt}
use Rattle.std.proofs.lemmas.Bool.{false≢true, and_parts, leb-true, eqb-true, lt-ltb, le-ltb}
use Rattle.std.proofs.lemmas.Bool.Decides.{nat_tests}
use Rattle.paxos_packets.specs.Members.{is_member, is_in}
use Rattle.script_program.specs.declared.player.waiting.Sent.{Sent}
use Rattle.script_program.specs.Waiting.{is_listed, is_due}
use Rattle.script_program.specs.Queue.{pair_of}
use Rattle.script_program.proofs.Firsts.{waits}

and_off : (b : Bool) → (b && false) ≡ false
and_off true = refl
and_off false = refl

bits : (d m i n j e : Bool) → (n ≡ true → e ≡ true → ((m && i) ≡ true) × ((n && j) ≡ true))
    → ((not d && ((m && i) && (n && j))) && e) ≡ (not d && ((m && n) && e))
bits d m i n j false h = rw (and_off (m && n), and_off (not d)) (and_off (not d && ((m && i) && (n && j))))
bits d m i false j true h = rw (and_off (m && i), and_off m, and_off (not d)) refl
bits true true true true true true h = refl
bits false true true true true true h = refl
bits d true true true false true h = absurd (false≢true (h refl refl).1)
bits d true false true j true h = absurd (false≢true (h refl refl).0)
bits d false i true j true h = absurd (false≢true (h refl refl).0)

bits_off : (d l k e : Bool) → (e ≡ true → l ≡ true → k ≡ true → ⊥) → ((not d && (l && k)) && e) ≡ false
bits_off d l k false h = and_off (not d && (l && k))
bits_off d false k true h = rw (and_off (not d)) refl
bits_off d true false true h = rw (and_off (not d)) refl
bits_off d true true true h = absurd (h refl refl refl)

parts : (s t pair : ℕ) → t < 8 → s * 8 + t ≡ pair → (pair / 8 ≡ s) × (pair % 8 ≡ t)
parts s t pair small e = (omega (arith, small, e), omega (arith, small, e))

module _ (members : ℕ) (among : List Bool) (pair : ℕ) (few : members ≤ 7) where
  small : (t : ℕ) → is_member members t ≡ true → t < 8
  small t h = omega (arith, leb-true t members (and_parts (leb 1 t) (leb t members) h).1, few)

  pub due_between : (sent : List Sent) → is_listed members among (pair / 8) ≡ true → is_listed members among (pair % 8) ≡ true → (p : Sent)
      → (is_due members among p && (pair_of p == pair)) ≡ waits sent members pair p
  due_between sent first second p =
      bits p.is_delivered (is_member members p.sender) (is_in among p.sender) (is_member members p.addressee) (is_in among p.addressee) (pair_of p == pair)
      (λ member here. let k = parts p.sender p.addressee pair (small p.addressee member) (eqb-true (pair_of p) pair here) in
      (subst (λ n. is_listed members among n ≡ true) k.0 first, subst (λ n. is_listed members among n ≡ true) k.1 second))

  pub due_elsewhere : (is_listed members among (pair / 8) ≡ true → is_listed members among (pair % 8) ≡ true → ⊥) → (p : Sent)
      → (is_due members among p && (pair_of p == pair)) ≡ false
  due_elsewhere off p =
      bits_off p.is_delivered (is_listed members among p.sender) (is_listed members among p.addressee) (pair_of p == pair)
      (λ here first second. let k = parts p.sender p.addressee pair (small p.addressee (and_parts _ (is_in among p.addressee) second).0) (eqb-true (pair_of p) pair here) in
      off (subst (λ n. is_listed members among n ≡ true) (sym k.0) first) (subst (λ n. is_listed members among n ≡ true) (sym k.1) second))

-- ---- pair by pair

or_and : (a b c : Bool) → (a && (b || c)) ≡ ((a && b) || (a && c))
or_and true b c = refl
or_and false b c = refl

more : (x pair : ℕ) → nat_lt x (pair + 1) ≡ (nat_lt x pair || (x == pair))
more x pair = grind (arith, nat_tests)

and_on : (a b : Bool) → (a ≡ true → b ≡ true) → (a && b) ≡ a
and_on true b h = h refl
and_on false b h = refl

last_of : (d l k : Bool) → (not d && (l && k)) ≡ true → (l ≡ true) × (k ≡ true)
last_of d l k h = let rest = (and_parts (not d) (l && k) h).1 in and_parts l k rest

module _ (members : ℕ) (among : List Bool) where
  pub due_more : (pair : ℕ) (p : Sent)
      → (is_due members among p && nat_lt (pair_of p) (pair + 1)) ≡ ((is_due members among p && nat_lt (pair_of p) pair) || (is_due members among p && (pair_of p == pair)))
  due_more pair p = ap (λ b. is_due members among p && b) (more (pair_of p) pair) ∙ or_and (is_due members among p) (nat_lt (pair_of p) pair) (pair_of p == pair)

  -- no pair was passed
  pub due_none : (p : Sent) → (is_due members among p && nat_lt (pair_of p) 0) ≡ false
  due_none p = ap (λ b. is_due members among p && b) (le-ltb (pair_of p) 0 (omega arith)) ∙ and_off (is_due members among p)

  -- no pair is left
  pub due_all : members ≤ 7 → (pairs : ℕ) → 8 * (members + 1) ≤ pairs → (p : Sent) → (is_due members among p && nat_lt (pair_of p) pairs) ≡ is_due members among p
  due_all few pairs all p =
      and_on (is_due members among p) (nat_lt (pair_of p) pairs)
      (λ due. let k = last_of p.is_delivered (is_listed members among p.sender) (is_listed members among p.addressee) due in
      let s = leb-true p.sender members (and_parts (leb 1 p.sender) _ (and_parts (is_member members p.sender) _ k.0).0).1 in
      let t = leb-true p.addressee members (and_parts (leb 1 p.addressee) _ (and_parts (is_member members p.addressee) _ k.1).0).1 in
      lt-ltb (pair_of p) pairs (omega (arith, s, t, few, all)))
