-- Which nodes' promises were counted, as a set of nodes: whether they are a majority.
use Rattle.std.proofs.Common.{◌≡◌, ℕ, zero, suc, ◌+◌, ◌≤◌, Bool, true, false, cond, ◌&&◌, ◌||◌, nat_lt, List, [], ◌∷◌, eqb, refl, sym, ap, ◌∙◌}
use Rattle.std.proofs.Common.{lt-ltb, arith}
use Rattle.std.proofs.lemmas.Bool.Decides.{nat_tests}
use Rattle.std.proofs.lemmas.List.Folds.{list_any-append}
use Rattle.std.specs.Prelude.{◌==◌, ◌*◌}
use Rattle.paxos_packets.specs.Members.{count_nodes, is_majority}
use Rattle.paxos_packets.specs.declared.vote.Vote.{Vote}
use Rattle.paxos_proposer.specs.declared.promises.CountedPromise.{CountedPromise}
use Rattle.paxos_proposer.specs.Promises.{and_promise_of}
use Rattle.paxos_proposer.specs.Reports.{is_counted}

count_same : (p q : ℕ → Bool) (m : ℕ) → ((n : ℕ) → n ≤ m → p n ≡ q n) → count_nodes p m ≡ count_nodes q m
count_same p q zero h = refl
count_same p q (suc m) h =
    ap (λ b. cond b 1 0 + count_nodes p m) (h (suc m) (omega arith))
    ∙ ap (λ k. cond (q (suc m)) 1 0 + k) (count_same p q m (λ n l. h n (omega arith)))

turned : (a b : ℕ) → eqb a b ≡ eqb b a
turned a b = grind (arith, nat_tests)

pub majority_with : {B : Type 0} (members node floor : ℕ) (votes : List (Vote B)) (cs : List (CountedPromise B)) (p q : ℕ → Bool) → members ≤ 7
    → ((n : ℕ) → p n ≡ (is_counted cs n && nat_lt n 8)) → ((n : ℕ) → q n ≡ (p n || ((n == node) && nat_lt n 8)))
    → is_majority members q ≡ is_majority members (is_counted (and_promise_of node floor votes cs))
majority_with {B} members node floor votes cs p q l f g =
    ap (λ k. nat_lt members (2 * k)) (count_same q (is_counted (and_promise_of node floor votes cs)) members each)
  where
    by : (a b c d e : Bool) → c ≡ true → d ≡ (a && c) → e ≡ (d || (b && c)) → e ≡ (a || (b || false))
    by true b true true true i j k = refl
    by false true true false true i j k = refl
    by false false true false false i j k = refl
    by a b c d e i j k = cc

    each : (n : ℕ) → n ≤ members → q n ≡ is_counted (and_promise_of node floor votes cs) n
    each n m =
        by (is_counted cs n) (eqb n node) (nat_lt n 8) (p n) (q n) (lt-ltb n 8 (omega arith)) (f n) (g n)
        ∙ (ap (λ b. is_counted cs n || (b || false)) (turned n node)
        ∙ sym (list_any-append (λ (c : CountedPromise B). c.node == n) cs (record { node = node; floor = floor; votes = votes } ∷ [])))
