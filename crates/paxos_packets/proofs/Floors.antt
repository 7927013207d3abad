-- The floor that octets begin with.
use Rattle.std.proofs.Common.{◌≡◌, ℕ, zero, suc, ◌≤◌, ◌<◌, Bool, true, false, ◌&&◌, cond, Some, None, List, [], ◌∷◌, ◌++◌, length, get_or, take, drop, leb, refl, ap, sym, ◌∙◌, arith, length-take-le, take-append-drop}
use Rattle.std.proofs.lemmas.Bool.{and_parts, leb-true}
use Rattle.std.proofs.lemmas.Nat.{be_bytes_8}
use Rattle.paxos_packets.specs.Snapshot.{number_at, is_floor, floor_at, Begins}

held : (b : Bool) (n f : ℕ) → cond b (Some n) None ≡ Some f → (b ≡ true) × (n ≡ f)
held true n f h = (refl, cc)
held false n f h = cc

pub floor_is : (octets : List ℕ) (f : ℕ) → floor_at octets ≡ Some f → (8 ≤ length octets) × (number_at octets ≡ f)
floor_is octets f h =
    let k = held (leb 8 (length octets) && is_floor (number_at octets)) (number_at octets) f h in
    let l = and_parts (leb 8 (length octets)) (is_floor (number_at octets)) k.0 in
    (leb-true 8 (length octets) l.0, k.1)

-- octets are below 256, also those of a front
front : (n : ℕ) (xs : List ℕ) → ((i : ℕ) → get_or xs i 0 < 256) → (i : ℕ) → get_or (take n xs) i 0 < 256
front zero xs h zero = omega arith
front zero xs h (suc i) = omega arith
front (suc n) [] h zero = omega arith
front (suc n) [] h (suc i) = omega arith
front (suc n) (x ∷ xs) h zero = h 0
front (suc n) (x ∷ xs) h (suc i) = front n xs (λ j. h (suc j)) i

pub begins : (octets : List ℕ) (f : ℕ) → ((i : ℕ) → get_or octets i 0 < 256) → floor_at octets ≡ Some f
    → Begins f octets
unfolding number_at
begins octets f small h =
    let k = floor_is octets f h in
    let l : length (take 8 octets) ≡ 8 = length-take-le 8 octets k.0 in
    sym (take-append-drop 8 octets)
    ∙ ap (λ (first : List ℕ). first ++ drop 8 octets) (sym (be_bytes_8 (take 8 octets) f l (front 8 octets small) (sym k.1)))
