use Rattle.std.proofs.Common.{◌≡◌, ⊎_elim, subst, Err, Result}
use Rattle.paxos_packets.specs.declared.rows.Rows.{Rows}
use Rattle.store_keeper.specs.declared.fault.KeeperFault.{KeeperFault}
use Rattle.store_keeper.specs.declared.fault.KeeperFault.TheVariants.{Failed, Boots}
use Rattle.acceptor_store.proofs.Refusing.{told_unfit}
use Rattle.acceptor_store.proofs.calls.boot_from.Goals as goal

pub returns-in-Err-clause-last : goal.returns-in-Err-clause-last
returns-in-Err-clause-last g c clean rows holds spent =
    ⊎_elim
    (λ e. c.in-Err.ensures.last clean rows holds (subst (λ (f : KeeperFault). ◌≡◌ {A = Result (Rows g.row.B.Denot) KeeperFault} (Err f) (Err Boots)) e spent))
    (λ e. let both : ◌≡◌ {A = Result (Rows g.row.B.Denot) KeeperFault} (Err Failed) (Err Boots)
    = subst (λ (f : KeeperFault). ◌≡◌ {A = Result (Rows g.row.B.Denot) KeeperFault} (Err f) (Err Boots)) e spent in absurd cc)
    c.count_refusal.ensures.fault

pub returns-in-Err-clause-sound : goal.returns-in-Err-clause-sound
returns-in-Err-clause-sound g c clean rows holds unfit =
    c.in-Err.ensures.sound clean rows holds (told_unfit c.in-Err.fault c.count_refusal.result c.count_refusal.ensures.fault unfit)
