-- Numbers as octets: what is spelled is read again, and what is read was spelled so.
use Rattle.std.proofs.Common.{◌≡◌, ℕ, zero, suc, ◌+◌, ◌*◌, ◌/◌, ◌%◌, ◌^◌, ◌<◌, ◌≤◌, Bool, true, false, ◌||◌, cond, ltb, leb, refl}
use Rattle.std.proofs.Common.{sym, ap, ◌∙◌}
use Rattle.std.proofs.Common.{subst, get_or, Fits, w8, arith, List, [], ◌∷◌, ◌++◌, Ok, Err}
use Rattle.std.specs.Int.{byte_at, bytes_high_first}
use Rattle.std.proofs.lemmas.Bool.{ltb-false, lt-ltb, le-ltb, leb-true, le-leb, and_parts, and_from}
use Rattle.std.proofs.lemmas.Nat.{pow-add}
use Rattle.std.proofs.Math.Nat.{pow-suc, div-div-eq-div-mul, div-eq_of_lt}
use Rattle.command_codec.specs.declared.fault.CodecFault.TheVariants.{Short, Range}
use Rattle.command_codec.specs.declared.number.Form.{Form}
use Rattle.command_codec.specs.Coder.{AreOctets}
use Rattle.command_codec.specs.Number.{Reading, cut, number_from, number_reading, number_octets, is_within}

-- a shift by n octets
pub shift_is : (k : ℕ) → 2 ^ (8 * k) ≡ 256 ^ k
shift_is zero = refl
shift_is (suc k) =
    ap (λ e. 2 ^ e) (let e : 8 * suc k ≡ 8 * k + 8 = omega arith in e)
    ∙ pow-add 2 (8 * k) 8
    ∙ ap (λ n. n * 256) (shift_is k)
    ∙ sym (pow-suc 256 k)

cut_suc : (n k : ℕ) → cut n (suc k) ≡ cut n k / 256
cut_suc n k = ap (λ u. n / u) (pow-suc 256 k) ∙ sym (div-div-eq-div-mul n (256 ^ k) 256)

cut_more : (n k : ℕ) → cut n (suc k) * 256 + cut n k % 256 ≡ cut n k
cut_more n k = ap (λ c. c * 256 + cut n k % 256) (cut_suc n k) ∙ (let m = cut n k in omega arith)

cut_zero : (n : ℕ) → cut n 0 ≡ n
cut_zero n = omega arith

byte_is : (k n : ℕ) → byte_at k n ≡ cut n k % 256
byte_is zero n = ap (λ m. m % 256) (sym (cut_zero n))
byte_is (suc k) n = refl

cut_le : (a b k : ℕ) → a ≤ b → cut a k ≤ cut b k
cut_le a b zero h = omega arith
cut_le a b (suc k) h =
    let ih = cut_le a b k h in
    let x = cut_suc a k in
    let y = cut_suc b k in
    omega arith

-- a number in its range is read again
read_from : (k n so_far low high : ℕ) (rest : List ℕ) → so_far ≡ cut n k → low ≤ n → n ≤ high
    → number_from so_far k low high (bytes_high_first k n ++ rest) ≡ Ok (n, rest)
read_from zero n so_far low high rest come least most = ap (λ m. Ok (m, rest)) (come ∙ cut_zero n)
read_from (suc k) n so_far low high rest come least most =
    ap (λ v. cond (ltb v (cut low k) || ltb (cut high k) v) (Err Range) (number_from v k low high (bytes_high_first k n ++ rest))) here
    ∙ ap (λ t. cond (t || ltb (cut high k) (cut n k)) (Err Range) (number_from (cut n k) k low high (bytes_high_first k n ++ rest)))
    (le-ltb (cut n k) (cut low k) (cut_le low n k least))
    ∙ ap (λ t. cond t (Err Range) (number_from (cut n k) k low high (bytes_high_first k n ++ rest))) (le-ltb (cut high k) (cut n k)
    (cut_le n high k most))
    ∙ read_from k n (cut n k) low high rest refl least most
  where
    here : so_far * 256 + byte_at k n ≡ cut n k
    here = ap (λ b. so_far * 256 + b) (byte_is k n) ∙ ap (λ s. s * 256 + cut n k % 256) come ∙ cut_more n k

-- one octet more of a number: it is wrong, or the number goes on
pub goes_wrong : (so_far left after low high octet : ℕ) (all rest : List ℕ) → left ≡ suc after → all ≡ octet ∷ rest
    → (ltb (so_far * 256 + octet) (cut low after) || ltb (cut high after) (so_far * 256 + octet)) ≡ true
    → number_from so_far left low high all ≡ Err Range
goes_wrong so_far left after low high octet all rest is front h =
    let come = so_far * 256 + octet in
    ap (λ n. number_from so_far n low high all) is
    ∙ ap (λ l. number_from so_far (suc after) low high l) front
    ∙ ap (λ t. cond t (Err Range) (number_from come after low high rest)) h

pub goes_on : (so_far left after low high octet : ℕ) (all rest : List ℕ) → left ≡ suc after → all ≡ octet ∷ rest
    → (ltb (so_far * 256 + octet) (cut low after) || ltb (cut high after) (so_far * 256 + octet)) ≡ false
    → number_from so_far left low high all ≡ number_from (so_far * 256 + octet) after low high rest
goes_on so_far left after low high octet all rest is front h =
    let come = so_far * 256 + octet in
    ap (λ n. number_from so_far n low high all) is
    ∙ ap (λ l. number_from so_far (suc after) low high l) front
    ∙ ap (λ t. cond t (Err Range) (number_from come after low high rest)) h

-- what was read, and what is left
pub same_ok : {A : Type 0} (x y : A) (p q : List ℕ) → ◌≡◌ {A = Reading A} (Ok (x, p)) (Ok (y, q)) → (x ≡ y) × (p ≡ q)
same_ok {A} x y p q h = let e : ◌≡◌ {A = A × List ℕ} (x, p) (y, q) = cc in (ap (λ r. r.0) e, ap (λ r. r.1) e)

-- what follows from the tests of a number's octet
parts : (s t : Bool) (x : Reading ℕ) (n : ℕ) (rest : List ℕ) → cond (s || t) (Err Range) x ≡ Ok (n, rest)
    → (s ≡ false) × (t ≡ false) × (x ≡ Ok (n, rest))
parts true t x n rest h = cc
parts false true x n rest h = cc
parts false false x n rest h = (refl, refl, h)

short : {P : Type 0} (n : ℕ) (rest : List ℕ) → ◌≡◌ {A = Reading ℕ} (Err Short) (Ok (n, rest)) → P
short n rest h = cc

-- what is read is in its range
bounds : (k so_far low high n : ℕ) (octets rest : List ℕ) → number_from so_far (suc k) low high octets ≡ Ok (n, rest)
    → (low ≤ n) × (n ≤ high)
bounds k so_far low high n [] rest h = short n rest h
bounds zero so_far low high n (o ∷ os) rest h =
    let come = so_far * 256 + o in
    let p = parts (ltb come (cut low 0)) (ltb (cut high 0) come) (Ok (come, os)) n rest h in
    let same : come ≡ n = (same_ok come n os rest p.2).0 in
    let least = ltb-false come (cut low 0) p.0 in
    let most = ltb-false (cut high 0) come p.1 in
    (omega arith, omega arith)
bounds (suc k) so_far low high n (o ∷ os) rest h =
    let come = so_far * 256 + o in
    let p = parts (ltb come (cut low (suc k))) (ltb (cut high (suc k)) come) (number_from come (suc k) low high os) n rest h in
    bounds k come low high n os rest p.2

-- what is read was spelled so
spelled_from : (k so_far low high n : ℕ) (octets rest : List ℕ) → AreOctets octets → number_from so_far k low high octets ≡ Ok (n, rest)
    → (octets ≡ bytes_high_first k n ++ rest) × (cut n k ≡ so_far)
spelled_from zero so_far low high n octets rest all h =
    let same = same_ok so_far n octets rest h in
    (same.1, cut_zero n ∙ sym same.0)
spelled_from (suc k) so_far low high n [] rest all h = short n rest h
spelled_from (suc k) so_far low high n (o ∷ os) rest all h =
    let come = so_far * 256 + o in
    let p = parts (ltb come (cut low k)) (ltb (cut high k) come) (number_from come k low high os) n rest h in
    let ih = spelled_from k come low high n os rest all.1 p.2 in
    let small = all.0 in
    let m = cut n k in
    let is : m ≡ so_far * 256 + o = ih.1 in
    let first : o ≡ byte_at k n = (let z : m % 256 ≡ o = omega arith in sym (byte_is k n ∙ z)) in
    (ap (λ b. b ∷ os) first ∙ ap (λ l. byte_at k n ∷ l) ih.0, cut_suc n k ∙ (let z : m / 256 ≡ so_far = omega arith in z))

within_parts : (form : Form) (n : ℕ) → is_within form n ≡ true → (form.low ≤ n) × (n ≤ form.high)
within_parts form n h = let p = and_parts (leb form.low n) (leb n form.high) h in (leb-true form.low n p.0, leb-true n form.high p.1)

pub number_again : (form : Form) (n : ℕ) (rest : List ℕ) → form.high < 256 ^ form.width → is_within form n ≡ true
    → number_reading form (number_octets form n ++ rest) ≡ Ok (n, rest)
unfolding number_reading number_octets
number_again form n rest fits h =
    let w = within_parts form n h in
    read_from form.width n 0 form.low form.high rest (sym (div-eq_of_lt (let most = w.1 in omega arith))) w.0 w.1

pub number_bounds : (form : Form) (k n : ℕ) (octets rest : List ℕ) → form.width ≡ suc k → number_reading form octets ≡ Ok (n, rest)
    → (form.low ≤ n) × (n ≤ form.high)
unfolding number_reading
number_bounds form k n octets rest wide h = bounds k 0 form.low form.high n octets rest (subst
    (λ w. number_from 0 w form.low form.high octets ≡ Ok (n, rest)) wide h)

pub number_spelled : (form : Form) (k n : ℕ) (octets rest : List ℕ) → form.width ≡ suc k → AreOctets octets
    → number_reading form octets ≡ Ok (n, rest) → (is_within form n ≡ true) × (octets ≡ number_octets form n ++ rest)
unfolding number_reading number_octets
number_spelled form k n octets rest wide all h =
    let b = number_bounds form k n octets rest wide h in (
      and_from (leb form.low n) (leb n form.high) (le-leb form.low n b.0) (le-leb n form.high b.1),
      (spelled_from form.width 0 form.low form.high n octets rest all h).0,
    )

-- the octets of a slice
pub octets_are : (xs : List ℕ) → ((i : ℕ) → Fits w8 (get_or xs i 0)) → AreOctets xs
octets_are [] f = tt
octets_are (x ∷ xs) f = ((f 0).fits, octets_are xs (λ i. f (suc i)))

-- what has come is below, or above or neither
pub below_is : (come left low high : ℕ) → come < low / 2 ^ (8 * left) → true ≡ (ltb come (cut low left) || ltb (cut high left) come)
below_is come left low high h =
    sym (ap (λ b. b || ltb (cut high left) come) (lt-ltb come (cut low left) (subst (λ u. come < low / u) (shift_is left) h)))

pub above_is : (come left low high : ℕ) → low / 2 ^ (8 * left) ≤ come
    → ltb (high / 2 ^ (8 * left)) come ≡ (ltb come (cut low left) || ltb (cut high left) come)
above_is come left low high h =
    ap (λ u. ltb (high / u) come) (shift_is left)
    ∙ sym (ap (λ b. b || ltb (cut high left) come) (le-ltb come (cut low left) (subst (λ u. low / u ≤ come) (shift_is left) h)))
