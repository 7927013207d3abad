-- The numbers of the faults of a node, and which of them end it.
use Rattle.std.specs.Prelude.{◌≡◌, ◌⊎◌, ℕ, Bool, true, false}
use Rattle.store_keeper.specs.Fault as keeping
use Rattle.serve_program.specs.declared.fault.NodeFault.{NodeFault}
use Rattle.serve_program.specs.declared.fault.NodeFault.TheVariants.{Store, Failed, Rounds, Full, Disagree, Lost, Worn, NoMember, OtherCluster, Memory}
use Rattle.serve_program.specs.declared.fault.ServeFault.{ServeFault}
use Rattle.serve_program.specs.declared.fault.ServeFault.TheVariants as cluster

-- the number of this fault: an actor's is the actor's own, a store's the store's
abbrev pub number_of : NodeFault → ℕ
number_of (Store fault) = keeping.number_of fault
number_of Failed = 71
number_of Rounds = 51
number_of Full = 74
number_of Disagree = 72
number_of Lost = 73
number_of Worn = 75
number_of NoMember = 77
number_of OtherCluster = 78
number_of Memory = 76

-- the fault ends a boot: an event for which no round or no room is left ends nothing
abbrev pub is_fatal : NodeFault → Bool
is_fatal (Store fault) = true
is_fatal Failed = true
is_fatal Rounds = false
is_fatal Full = false
is_fatal Disagree = true
is_fatal Lost = true
is_fatal Worn = true
is_fatal NoMember = true
is_fatal OtherCluster = true
is_fatal Memory = true

-- the fault ends a node: one that is lost in its boot begins its next one
abbrev pub is_ending : NodeFault → Bool
is_ending (Store fault) = true
is_ending Failed = true
is_ending Rounds = false
is_ending Full = false
is_ending Disagree = true
is_ending Lost = false
is_ending Worn = true
is_ending NoMember = true
is_ending OtherCluster = true
is_ending Memory = true

abbrev pub IsEnding : NodeFault → Type 0
IsEnding fault = is_ending fault ≡ true

-- this becomes of a node's fault: memory that ran out is the cluster's own fault, and any other is told with the node
abbrev pub FaultAt : ℕ → NodeFault → ServeFault → Type 0
FaultAt node fault (cluster.Node other cause) = (other ≡ node) × (cause ≡ fault)
FaultAt node fault cluster.Memory = (number_of fault ≡ 76) ⊎ (number_of fault ≡ 64)
FaultAt node fault cluster.Port = ⊥
FaultAt node fault cluster.Write = ⊥

-- the fault ends a cluster: that of a node ends the node, too
abbrev pub EndsAll : ServeFault → Type 0
EndsAll (cluster.Node node fault) = IsEnding fault
EndsAll cluster.Memory = Unit {0}
EndsAll cluster.Port = Unit {0}
EndsAll cluster.Write = Unit {0}
