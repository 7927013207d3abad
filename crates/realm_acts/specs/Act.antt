-- Which acts are equal: the same case, the same draw, and what was read the same.
use Rattle.std.proofs.Common.{◌≡◌, Bool, true, false, ◌&&◌, refl}
use Rattle.std.specs.Prelude.{◌==◌}
use Rattle.std.proofs.lemmas.Bool.{and_from}
use Rattle.paxos_packets.specs.Body.{number_same, numbers_joined}
use Rattle.wamp_message_types.specs.declared.read_result.Read.{Read}
use Rattle.wamp_message_types.specs.contracts.read_result.Read.{the_row}
use Rattle.realm_acts.specs.declared.act.Act.{Act}
use Rattle.realm_acts.specs.declared.act.Act.TheVariants.{Connect, Said, Hung}
use Rattle.realm_acts.specs.Tree.{same_by, by_itself, by_is}

unfoldable pub same_read : Read → Read → Bool
same_read x y = same_by the_row.coded x y

pub read_itself : (x : Read) → same_read x x ≡ true
unfolding same_read
read_itself x = by_itself the_row.coded x

pub read_is : (x y : Read) → same_read x y ≡ true → x ≡ y
unfolding same_read
read_is x y h = by_is the_row.coded x y h

abbrev pub same_act : Act → Act → Bool
same_act Connect Connect = true
same_act (Said d r) (Said e s) = (d == e) && same_read r s
same_act Hung Hung = true
same_act _ _ = false

-- the test is equality
pub act_itself : (x : Act) → same_act x x ≡ true
act_itself Connect = refl
act_itself (Said d r) = and_from _ _ (number_same d) (read_itself r)
act_itself Hung = refl

pub act_is : (x y : Act) → same_act x y ≡ true → x ≡ y
act_is Connect Connect h = refl
act_is (Said d r) (Said e s) h =
    let k = numbers_joined d e (same_read r s) h in
    let p = read_is r s k.1 in
    λ i. Said (k.0 i) (p i)
act_is Hung Hung h = refl
act_is _ _ h = cc
