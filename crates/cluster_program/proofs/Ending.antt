-- The faults of a served cluster are none that ends no node.
use Rattle.std.proofs.Common.{◌≡◌, false, refl}
use Rattle.std.proofs.lemmas.Bool.{false≢true}
use Rattle.serve_program.specs.declared.fault.NodeFault.{NodeFault}
use Rattle.serve_program.specs.declared.fault.NodeFault.TheVariants as node
use Rattle.serve_program.specs.declared.fault.ServeFault.{ServeFault}
use Rattle.serve_program.specs.declared.fault.ServeFault.TheVariants as serve
use Rattle.serve_program.specs.Fault.{number_of, EndsAll, IsEnding}
use Rattle.store_keeper.specs.Fault as keeping
use Rattle.store_keeper.specs.declared.fault.KeeperFault.{KeeperFault}
use Rattle.store_keeper.specs.declared.fault.KeeperFault.TheVariants as store
use Rattle.stream_program.specs.declared.fault.RunFault.TheVariants.{Store}
use Rattle.cluster_program.specs.Fault.{ends_nothing, serve_fault_of}

stored : (f : KeeperFault) → ends_nothing (Store (keeping.number_of f)) ≡ false
stored store.Store = refl
stored store.Damaged = refl
stored store.Version = refl
stored store.Memory = refl
stored store.Failed = refl
stored store.Boots = refl

of_node : (f : NodeFault) → IsEnding f → ends_nothing (Store (number_of f)) ≡ false
of_node (node.Store f) ends = stored f
of_node node.Failed ends = refl
of_node node.Rounds ends = absurd (false≢true ends)
of_node node.Full ends = absurd (false≢true ends)
of_node node.Disagree ends = refl
of_node node.Lost ends = absurd (false≢true ends)
of_node node.Worn ends = refl
of_node node.NoMember ends = refl
of_node node.OtherCluster ends = refl
of_node node.Memory ends = refl

pub ends_all : (f : ServeFault) → EndsAll f → ends_nothing (serve_fault_of f) ≡ false
ends_all (serve.Node n f) ends = of_node f ends
ends_all serve.Memory ends = refl
ends_all serve.Port ends = refl
ends_all serve.Write ends = refl
