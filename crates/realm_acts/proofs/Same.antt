-- A test of whether two reads are equal is the test of specs/.
use Rattle.std.proofs.Common.{◌≡◌, Bool, true, subst}
use Rattle.std.specs.Prelude.{IsTrue, ◌↔◌}
use Rattle.std.specs.Bool.{Decides}
use Rattle.std.proofs.lemmas.Bool.Decides.{same_from_decides}
use Rattle.wamp_message_types.specs.declared.read_result.Read.{Read}
use Rattle.realm_acts.specs.Act.{same_read, read_itself, read_is}

read_decides : (x y : Read) → Decides (same_read x y) (x ≡ y)
read_decides x y = (read_is x y, λ p. subst (λ z. same_read x z ≡ true) p (read_itself x))

pub read_decided : (result : Bool) (x y : Read) → IsTrue result ↔ (x ≡ y) → result ≡ same_read x y
read_decided result x y h = same_from_decides result (same_read x y) h (read_decides x y)
