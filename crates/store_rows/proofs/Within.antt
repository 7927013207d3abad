-- Numbers that were read are within their ranges.
use Rattle.std.proofs.Common.{◌≡◌, ◌≢◌, ◌∙◌, sym, ℕ, pos, negsuc, ◌&&◌, ◌||◌, not, Bool, true, false, cond, List, [], ◌∷◌, Option, Some, None, Result, Ok, Err, refl, subst, ◌+◌, ◌<◌, ◌≤◌, arith}
use Rattle.std.specs.Prelude.{IfErr, nat_le, option_map, option_and_then}
use Rattle.std.proofs.lemmas.Bool.{and_parts, and_from, le-leb}
use Rattle.sqlite_value.specs.declared.value.Value.{Value}
use Rattle.sqlite_value.specs.declared.value.Value.TheVariants.{Null, Int, Real, Text, Blob}
use Rattle.sqlite_value.specs.Order.{Row, column}
use Rattle.store_keeper.specs.declared.fault.KeeperFault.{KeeperFault}
use Rattle.store_keeper.specs.declared.fault.KeeperFault.TheVariants.{Damaged, Version, Memory, Failed, Boots}
use Rattle.store_rows.specs.Faults.{LiesBelow}
use Rattle.paxos_packets.specs.declared.ballot.Ballot.{Ballot}
use Rattle.store_rows.specs.declared.rows.Numbers.{Numbers}
use Rattle.store_rows.specs.Rows.{number, is_number, within, boot_in, round_in, node_in, ballot_in, promise_in, numbers_of, numbers_in}
use Rattle.store_rows.specs.Numbers.{is_ballot, is_promise, are_numbers}
use Rattle.store_rows.proofs.Options.{and_then_is, map_is}

within_bounds : (low high : ℕ) (v : Value) (n : ℕ) → within low high v ≡ Some n → nat_le low n && nat_le n high ≡ true
within_bounds low high (Int (pos m)) n h = go (nat_le low m && nat_le m high) refl h
  where
    go : (b : Bool) → nat_le low m && nat_le m high ≡ b → cond b (Some m) None ≡ Some n → nat_le low n && nat_le n high ≡ true
    go true t h = let e : m ≡ n = cc in subst (λ k. nat_le low k && nat_le k high ≡ true) e t
    go false t h = absurd cc
within_bounds low high (Int (negsuc m)) n h = absurd cc
within_bounds low high Null n h = absurd cc
within_bounds low high (Real x) n h = absurd cc
within_bounds low high (Text t) n h = absurd cc
within_bounds low high (Blob b) n h = absurd cc

ballot_within : (round node : Value) (b : Ballot) → ballot_in round node ≡ Some b → is_ballot b ≡ true
ballot_within round node b h =
    let r = and_then_is _ (round_in round) b h in
    let n = map_is _ (node_in node) b r.2 in
    let low = within_bounds 1 281474976710655 round r.0 r.1 in
    let high = within_bounds 1 7 node n.0 n.1 in
    subst (λ c. is_ballot c ≡ true) n.2
    (and_from (nat_le 1 r.0 && nat_le r.0 281474976710655) (nat_le 1 n.0 && nat_le n.0 7) low high)

promise_within : (round node : Value) (p : Option Ballot) → promise_in round node ≡ Some p → is_promise p ≡ true
promise_within round node p h = go (is_number 0 (number round) && is_number 0 (number node)) h
  where
    go : (b : Bool) → cond b (Some None) (option_map Some (ballot_in round node)) ≡ Some p → is_promise p ≡ true
    go true h = let e : None ≡ p = cc in subst (λ q. is_promise q ≡ true) e refl
    go false h =
        let k = map_is Some (ballot_in round node) p h in
        subst (λ q. is_promise q ≡ true) k.2 (ballot_within round node k.0 k.1)

abbrev numbers_shown : ℕ → Row → Option Numbers
numbers_shown floor row =
    option_and_then (λ boot. option_map (λ promised. record { boot = boot; promised = promised; floor = floor }) (promise_in (column row 3) (column row 4))) (boot_in (column row 2))

row_within : (version floor : ℕ) (row : Row) (n : Numbers) → numbers_of version floor row ≡ Some n → are_numbers n ≡ true
row_within version floor row n h = go (is_number 1 (number (column row 0))) (is_number version (number (column row 1))) h
  where
    go : (a b : Bool) → cond (not a || not b) None (numbers_shown floor row) ≡ Some n → are_numbers n ≡ true
    go false b h = absurd cc
    go true false h = absurd cc
    go true true h =
        let boot = and_then_is _ (boot_in (column row 2)) n h in
        let promised = map_is _ (promise_in (column row 3) (column row 4)) n boot.2 in
        let least = and_parts (nat_le 0 boot.0) (nat_le boot.0 281474976710655) (within_bounds 0 281474976710655 (column row 2) boot.0 boot.1) in
        subst (λ m. are_numbers m ≡ true) promised.2
        (and_from (nat_le boot.0 281474976710655) (is_promise promised.0) least.1 (promise_within (column row 3) (column row 4) promised.0 promised.1))

pub numbers_within : (version floor : ℕ) (metas : List Row) (n : Numbers) → numbers_in version floor metas ≡ Some n → are_numbers n ≡ true
numbers_within version floor [] n h = absurd cc
numbers_within version floor (row ∷ []) n h = row_within version floor row n h
numbers_within version floor (row ∷ other ∷ rows) n h = absurd cc

-- a fault that rows show is none of a keeper's own

pub damaged_below : (fault : KeeperFault) (P : Type 0) → (fault ≢ Memory → (fault ≡ Damaged) × P) → LiesBelow fault
damaged_below fault P h = (
  λ is.
      let d = (h (λ m. let both : Failed ≡ Memory = sym is ∙ m in absurd cc)).0 in
      let both : Failed ≡ Damaged = sym is ∙ d in
      absurd cc,
  λ is.
      let d = (h (λ m. let both : Boots ≡ Memory = sym is ∙ m in absurd cc)).0 in
      let both : Boots ≡ Damaged = sym is ∙ d in
      absurd cc,
)

pub version_below : LiesBelow Version
version_below = (λ is. absurd (let e : Version ≡ Failed = is in cc), λ is. absurd (let e : Version ≡ Boots = is in cc))

pub damaged_below_err : {A : Type 0} (P : Type 0) (r : Result A KeeperFault) → IfErr r (λ fault. fault ≢ Memory → (fault ≡ Damaged) × P) → IfErr r LiesBelow
damaged_below_err P (Ok x) h = tt
damaged_below_err P (Err fault) h = damaged_below fault P h

-- one boot more leaves the numbers within their ranges
pub raised_within : (boot : ℕ) (promised : Option Ballot) (floor : ℕ) → are_numbers (record { boot = boot; promised = promised; floor = floor }) ≡ true
    → boot < 281474976710655 → are_numbers (record { boot = boot + 1; promised = promised; floor = floor }) ≡ true
raised_within boot promised floor h low =
    let parts = and_parts (nat_le boot 281474976710655) (is_promise promised) h in
    let next : boot + 1 ≤ 281474976710655 = omega arith in
    and_from (nat_le (boot + 1) 281474976710655) (is_promise promised) (le-leb (boot + 1) 281474976710655 next) parts.1
