-- A packet is put after the others.
use Rattle.std.proofs.Common.{◌≡◌, ◌⊎◌, inl, inr, ⊎_elim, ℕ, zero, suc, ◌+◌, ◌<◌, ◌≤◌, Bool, true, false, refl, sym, ap, ◌∙◌, subst, arith, List, [], ◌∷◌}
use Rattle.std.proofs.Common.{◌++◌, ◌-◌, min, length, length-append, Option, Some, None, cond}
use Rattle.std.specs.Prelude.{IsSome, slice_get}
use Rattle.std.specs.Map.{lookup}
use Rattle.std.proofs.lemmas.Bool.{cond-true, cond-false, cases_Bool}
use Rattle.paxos_packets.specs.Body.{IsEquality}
use Rattle.paxos_packets.specs.Packet.{same_packet, packet_equality}
use Rattle.paxos_packets.specs.declared.packet.Packet.{Packet}
use Rattle.world_packets.specs.declared.numbers.Key.{Key}
use Rattle.world_packets.specs.declared.numbers.Numbers.{Numbers}
use Rattle.world_packets.specs.Numbers.{numbers_of, same_key}
use Rattle.world_packets.specs.Sent.{IsIndex, IsListed, is_among, place_in}
use Rattle.world_packets.proofs.Keys.{key_sound}
use Rattle.world_packets.proofs.Seeking.{any_at, some_of}

off : false ≡ true → ⊥
off e = cc

get_left : {A : Type 0} (xs ys : List A) (i : ℕ) (x : A) → slice_get xs i ≡ Some x → slice_get (xs ++ ys) i ≡ Some x
get_left [] ys i x h = absurd (cc)
get_left (z ∷ zs) ys zero x h = h
get_left (z ∷ zs) ys (suc i) x h = get_left zs ys i x h

get_last : {A : Type 0} (xs : List A) (x : A) → slice_get (xs ++ x ∷ []) (length xs) ≡ Some x
get_last [] x = refl
get_last (z ∷ zs) x = get_last zs x

get_cases : {A : Type 0} (xs : List A) (y : A) (i : ℕ) (x : A) → slice_get (xs ++ y ∷ []) i ≡ Some x → (slice_get xs i ≡ Some x) ⊎ (y ≡ x)
get_cases [] y zero x h = inr same
  where
    same : y ≡ x
    same = cc
get_cases [] y (suc i) x h = absurd (cc)
get_cases (z ∷ zs) y zero x h = inl h
get_cases (z ∷ zs) y (suc i) x h = get_cases zs y i x h

longer : {A : Type 0} (xs : List A) (x : A) → length (xs ++ x ∷ []) ≡ suc (length xs)
longer xs x = length-append xs (x ∷ []) ∙ plus_one (length xs)
  where
    plus_one : (k : ℕ) → k + 1 ≡ suc k
    plus_one k = omega arith

-- if there is room for the rest, there is for its first one
pub room_for : {A : Type 0} (rest after : List A) (x : A) (room : ℕ) → length rest ≤ room → rest ≡ x ∷ after → 1 ≤ room
room_for rest after x room h step = let some : length rest ≡ suc (length after) = ap length step in omega (arith, h, some)

-- room for n in both
pub room_in_both : (cap len spare more : ℕ) → len + more ≤ cap → more ≤ spare → more ≤ min (cap - len) spare
room_in_both cap len spare more fits few = omega (arith, fits, few)

-- if there is room for one, both the list and the table have it, and use up no more
pub spare_for : (cap len spare room : ℕ) → min (cap - len) spare ≡ room → 1 ≤ room → 0 < spare
spare_for cap len spare room is h = omega (arith, is, h)

pub cap_for : (cap len spare room : ℕ) → min (cap - len) spare ≡ room → 1 ≤ room → len < cap
cap_for cap len spare room is h = omega (arith, is, h)

pub one_less : (cap len spare room cap_then len_then spare_then : ℕ) → min (cap - len) spare ≡ room → cap_then ≡ cap → len_then ≡ len + 1
    → spare ≤ spare_then + 1 → room ≤ min (cap_then - len_then) spare_then + 1
one_less cap len spare room cap_then len_then spare_then is same more less = omega (arith, is, same, more, less)

-- the same packets and entries have the same index
pub index_still : {B : Type 0} (packets then_packets : List (Packet B)) (table then_table : List (Key × ℕ)) → then_packets ≡ packets → then_table ≡ table
    → IsIndex table packets → IsIndex then_table then_packets
index_still packets then_packets table then_table same alike index =
    subst (λ t. IsIndex t then_packets) (sym alike) (subst (λ ps. IsIndex table ps) (sym same) index)

module _ {B : Type 0} (packets : List (Packet B)) (table : List (Key × ℕ)) (index : IsIndex table packets) (p : Packet B) where
  listed_on : (q : Packet B) → IsListed table packets q → IsListed table (packets ++ p ∷ []) q
  listed_on q x = record { ordinal = x.ordinal; place = x.place; kept = x.kept; there = get_left packets (p ∷ []) x.place q x.there }

  -- an equal one was sent
  pub again : (same : B → B → Bool) → IsEquality same → is_among same p packets ≡ true → IsIndex table (packets ++ p ∷ [])
  again same equal e =
      record {
        each = λ i q h. ⊎_elim (λ o. listed_on q (index.each i q o)) (λ s. subst (λ z. IsListed table (packets ++ p ∷ []) z) s (listed_on p mine))
            (get_cases packets p i q h);
        below = index.below;
        within = λ n o j h. let w = index.within n o j h in (more w.0, more w.1);
      }
    where
      mine : IsListed table packets p
      mine = let r = any_at (λ q. same_packet same q p) packets e in index.each r.0 p (r.2 ∙ ap Some ((packet_equality same equal).sound r.1 p r.3))

      more : {a : ℕ} → a < length packets → a < length (packets ++ p ∷ [])
      more {a} l = subst (λ k. a < k) (sym (longer packets p)) (wider l)
        where
          wider : {a b : ℕ} → a < b → a < suc b
          wider l = omega arith

  -- its place is kept under the first ordinal that is free
  module _ (o : ℕ) (few : o ≤ length packets) (free : place_in table (numbers_of p) o ≡ None)
      (filled : (k : ℕ) → k < o → IsSome (place_in table (numbers_of p) k)) (later : List (Key × ℕ)) where
    abbrev key : Key
    key = record { numbers = numbers_of p; ordinal = o }

    module _ (updates : (q : Key) → lookup (same_key q) later ≡ cond (same_key key q) (Some (length packets)) (lookup (same_key q) table))
        (put : lookup (same_key key) later ≡ Some (length packets)) where
      clash : {j : ℕ} → ◌≡◌ {A = Option ℕ} None (Some j) → ⊥
      clash e = cc

      kept : (n : Numbers) (k j : ℕ) → place_in table n k ≡ Some j → place_in later n k ≡ Some j
      kept n k j h =
          updates q
          ∙ ⊎_elim
          (λ t. absurd (clash (sym free ∙ (ap (λ z. lookup (same_key z) table) (key_sound key q t) ∙ h))))
          (λ f. cond-false (same_key key q) (Some (length packets)) (lookup (same_key q) table) f ∙ h)
          (cases_Bool (same_key key q))
        where
          q : Key
          q = record { numbers = n; ordinal = k }

      came : (n : Numbers) (k j : ℕ) → place_in later n k ≡ Some j
          → ((key ≡ record { numbers = n; ordinal = k }) × (length packets ≡ j)) ⊎ (place_in table n k ≡ Some j)
      came n k j h =
          ⊎_elim
          (λ t. inl (key_sound key q t, two (sym (cond-true (same_key key q) (Some (length packets)) (lookup (same_key q) table) t) ∙ (sym (updates q) ∙ h))))
          (λ f. inr (sym (cond-false (same_key key q) (Some (length packets)) (lookup (same_key q) table) f) ∙ (sym (updates q) ∙ h)))
          (cases_Bool (same_key key q))
        where
          q : Key
          q = record { numbers = n; ordinal = k }

          two : {a b : ℕ} → ◌≡◌ {A = Option ℕ} (Some a) (Some b) → a ≡ b
          two e = cc

      kept_some : (n : Numbers) (k : ℕ) → IsSome (place_in table n k) → IsSome (place_in later n k)
      kept_some n k s = go (place_in table n k) refl s
        where
          go : (z : Option ℕ) → place_in table n k ≡ z → IsSome z → IsSome (place_in later n k)
          go None e s = absurd (off s)
          go (Some j) e s = some_of (kept n k j e)

      listed_later : (q : Packet B) → IsListed table packets q → IsListed later (packets ++ p ∷ []) q
      listed_later q x =
          record {
            ordinal = x.ordinal;
            place = x.place;
            kept = kept (numbers_of q) x.ordinal x.place x.kept;
            there = get_left packets (p ∷ []) x.place q x.there;
          }

      mine : IsListed later (packets ++ p ∷ []) p
      mine = record { ordinal = o; place = length packets; kept = put; there = get_last packets p }

      pub kept_new : IsIndex later (packets ++ p ∷ [])
      kept_new =
          record {
            each = λ i q h. ⊎_elim (λ a. listed_later q (index.each i q a)) (λ s. subst (λ z. IsListed later (packets ++ p ∷ []) z) s mine)
                (get_cases packets p i q h);
            below =
                λ n k j h.
                ⊎_elim
                (λ (c : (key ≡ record { numbers = n; ordinal = suc k }) × (length packets ≡ j)).
                kept_some n k (subst (λ (z : Key). IsSome (place_in table z.numbers k)) c.0
                (filled k (under (ap (λ (z : Key). z.ordinal) c.0)))))
                (λ a. kept_some n k (index.below n k j a))
                (came n (suc k) j h);
            within =
                λ n k j h.
                subst (λ l. (k < l) × (j < l)) (sym (longer packets p))
                (⊎_elim
                (λ (c : (key ≡ record { numbers = n; ordinal = k }) × (length packets ≡ j)).
                (up_to (ap (λ (z : Key). z.ordinal) c.0), last c.1))
                (λ a. let w = index.within n k j a in (wider w.0, wider w.1))
                (came n k j h));
          }
        where
          under : {k : ℕ} → o ≡ suc k → k < o
          under e = omega arith

          up_to : {k : ℕ} → o ≡ k → k < suc (length packets)
          up_to e = omega arith

          last : {j : ℕ} → length packets ≡ j → j < suc (length packets)
          last e = omega arith

          wider : {a b : ℕ} → a < b → a < suc b
          wider l = omega arith
