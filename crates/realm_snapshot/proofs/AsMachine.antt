-- What loading a realm says of the machine that it is.
use Rattle.std.proofs.Common.{◌≡◌, false, Option, None, Some, Result, Ok, Err, IfOk, IsErrOf, option_map, refl, subst}
use Rattle.replica_machine.specs.declared.fault.LoadFault.{LoadFault}
use Rattle.replica_machine.specs.declared.fault.LoadFault.TheVariants.{Damaged, Memory}
use Rattle.realm_machine.specs.Realm.{State}
use Rattle.realm_machine.specs.Machine.{Live, live_of, has_failed}
use Rattle.realm_snapshot.specs.Fault.{Loads}
use Rattle.realm_snapshot.specs.Snapshot.{state_of}

some_is : {A : Type 0} {x y : A} → Some x ≡ Some y → x ≡ y
some_is h = cc

none_is : {A R : Type 0} {x : A} → None ≡ Some x → R
none_is h = absurd (none h)
  where
    none : {A : Type 0} {x : A} → None ≡ Some x → ⊥
    none h = cc

-- the machine has what the octets are
pub has_content : (result : Result State LoadFault) (o : Option Live) → Loads result (option_map state_of o)
    → IfOk result (λ made. o ≡ Some (live_of made))
has_content (Ok made) (Some live) h = subst (λ (s : State). Some live ≡ Some (live_of s)) (some_is h) refl
has_content (Ok made) None h = none_is h
has_content (Err e) o h = tt

-- and has not failed
pub is_alive : (result : Result State LoadFault) (o : Option Live) → Loads result (option_map state_of o)
    → IfOk result (λ made. has_failed made ≡ false)
is_alive (Ok made) (Some live) h = subst (λ (s : State). has_failed s ≡ false) (some_is h) refl
is_alive (Ok made) None h = none_is h
is_alive (Err e) o h = tt

-- damaged octets are none
pub are_none : (result : Result State LoadFault) (o : Option Live) → Loads result (option_map state_of o) → IsErrOf result Damaged → o ≡ None
are_none (Err Damaged) None h is = refl
are_none (Err Damaged) (Some live) h is = absurd (some h)
  where
    some : {x : State} → Some x ≡ None → ⊥
    some e = cc
are_none (Err Memory) o h is = absurd (other is)
  where
    other : ◌≡◌ {A = Result State LoadFault} (Err Memory) (Err Damaged) → ⊥
    other e = cc
are_none (Ok made) o h is = absurd (other is)
  where
    other : {x : State} {e : LoadFault} → Ok x ≡ Err e → ⊥
    other e = cc
