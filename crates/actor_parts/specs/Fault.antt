-- The numbers of an actor's faults.
use Rattle.std.specs.Prelude.{ℕ}
use Rattle.store_keeper.specs.Fault as keeping
use Rattle.actor_parts.specs.declared.fault.ActorFault.{ActorFault}
use Rattle.actor_parts.specs.declared.fault.ActorFault.TheVariants.{Failed, Rounds, Full, Keeper, Disagree, LostHere, Worn, Memory}

abbrev pub number_of : {Y : Type 0} → ActorFault Y → ℕ
number_of Failed = 71
number_of Rounds = 51
number_of Full = 74
number_of (Keeper fault) = keeping.number_of fault
number_of Disagree = 72
number_of (LostHere says) = 73
number_of Worn = 75
number_of Memory = 76
