-- What is refused for another cause than that memory ran out.
use Rattle.std.proofs.Common.{◌≡◌, ◌≢◌, Result, Err, refl, sym}
use Rattle.realm_sessions.specs.declared.fault.RealmFault.{RealmFault}
use Rattle.realm_sessions.specs.declared.fault.RealmFault.TheVariants.{InvalidUri, InvalidArgument, Limit, AlreadyExists}
use Rattle.realm_sessions.specs.declared.fault.RealmFault.TheVariants.{NoSuchRegistration, NoSuchSubscription, NoSuchProcedure}
use Rattle.realm_sessions.specs.declared.fault.RealmFault.TheVariants.{NotOpen, Memory}
use Rattle.realm_sessions.specs.Fault.{Answers}

pub refusal_wanted : {A : Type 0} (fault : RealmFault) (wanted : Result A RealmFault) → fault ≢ Memory → Answers (Err fault) wanted
    → wanted ≡ Err fault
refusal_wanted InvalidUri wanted apart h = sym h
refusal_wanted InvalidArgument wanted apart h = sym h
refusal_wanted Limit wanted apart h = sym h
refusal_wanted AlreadyExists wanted apart h = sym h
refusal_wanted NoSuchRegistration wanted apart h = sym h
refusal_wanted NoSuchSubscription wanted apart h = sym h
refusal_wanted NoSuchProcedure wanted apart h = sym h
refusal_wanted NotOpen wanted apart h = sym h
refusal_wanted Memory wanted apart h = absurd (apart refl)
