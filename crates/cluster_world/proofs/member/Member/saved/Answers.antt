-- What the octets load as is what its machine's do.
use Rattle.std.proofs.Common.{◌≡◌, ap, subst, ◌<◌, ◌++◌, List}
use Rattle.std.specs.Prelude.{IfOk, IfSome}
use Rattle.paxos_packets.specs.declared.entry.Entry.{Entry}
use Rattle.replica_machine.specs.Given.{AreGiven}
use Rattle.replica_machine.specs.Log.{LogState, IsLogOf, length_in}
use Rattle.replica_machine.specs.Snapshot.{kept_of, loaded_log}
use Rattle.cluster_world.specs.Members.{MemberState}
use Rattle.cluster_world.proofs.member.Member.saved.Goals as goal

pub returns-clause-only : goal.returns-clause-only
returns-clause-only g c =
    let machine = g.M.Machine in
    subst (λ (log : LogState g.row.M-Body.Denot g.row.M.Denot). (first : machine.Content) → (under : List (Entry g.row.M-Body.Denot))
    → IsLogOf machine.steps machine.content first under log → AreGiven (under ++ log.applied) → length_in log < 1099511627776
    → IfOk c.saved.result (λ octets. IfSome (loaded_log machine.loaded octets.items) (λ kept. kept ≡ kept_of machine.content log)))
    (ap (λ (v : MemberState g.row.M-Body.Denot g.row.M.Denot g.row.M-Say.Denot). v.machine.log) c.self.view_is) c.saved.ensures.only
