-- Equality of entries, given a test for bodies.
use Rattle.std.proofs.Common.{◌≡◌, Bool, true, false, ◌&&◌, eqb, refl}
use Rattle.std.specs.Prelude.{◌==◌}
use Rattle.std.specs.Cmp.Lexicographic.{pointwise}
use Rattle.std.proofs.lemmas.Bool.{eqb-true, and_from}
use Rattle.paxos_packets.specs.Body.{IsEquality, number_same, numbers_joined}
use Rattle.paxos_packets.specs.List.{list_equality}
use Rattle.paxos_packets.specs.declared.entry.Entry.{Entry}
use Rattle.paxos_packets.specs.declared.entry.Entry.TheVariants.{Noop, Boot, Lost, Item}

abbrev pub same_entry : {B : Type 0} → (B → B → Bool) → Entry B → Entry B → Bool
same_entry same Noop Noop = true
same_entry same (Boot n b) (Boot m c) = (n == m) && (b == c)
same_entry same (Lost n b) (Lost m c) = (n == m) && (b == c)
same_entry same (Item n b q t x) (Item m c r u y) = (n == m) && ((b == c) && ((q == r) && ((t == u) && same x y)))
same_entry same _ _ = false

-- the test is equality
pub entry_equality : {B : Type 0} (same : B → B → Bool) → IsEquality same → IsEquality (same_entry same)
entry_equality {B} same ok = record { reflexive = all; sound = equal }
  where
    all : (x : Entry B) → same_entry same x x ≡ true
    all Noop = refl
    all (Boot n b) = and_from _ _ (number_same n) (number_same b)
    all (Lost n b) = and_from _ _ (number_same n) (number_same b)
    all (Item n b q t x) =
        and_from _ _ (number_same n)
        (and_from _ _ (number_same b) (and_from _ _ (number_same q) (and_from _ _ (number_same t) (ok.reflexive x))))

    equal : (x y : Entry B) → same_entry same x y ≡ true → x ≡ y
    equal Noop Noop h = refl
    equal (Boot n b) (Boot m c) h =
        let k = numbers_joined n m (eqb b c) h in
        let l = eqb-true b c k.1 in
        λ i. Boot (k.0 i) (l i)
    equal (Lost n b) (Lost m c) h =
        let k = numbers_joined n m (eqb b c) h in
        let l = eqb-true b c k.1 in
        λ i. Lost (k.0 i) (l i)
    equal (Item n b q t x) (Item m c r u y) h =
        let k = numbers_joined n m _ h in
        let l = numbers_joined b c _ k.1 in
        let o = numbers_joined q r _ l.1 in
        let p = numbers_joined t u _ o.1 in
        let e = ok.sound x y p.1 in
        λ i. Item (k.0 i) (l.0 i) (o.0 i) (p.0 i) (e i)
    equal _ _ h = cc

pub entries_equality : {B : Type 0} (same : B → B → Bool) → IsEquality same → IsEquality (pointwise (same_entry same))
entries_equality same ok = list_equality (same_entry same) (entry_equality same ok)
