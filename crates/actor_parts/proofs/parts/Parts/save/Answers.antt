-- It is the log's.
use Rattle.std.proofs.Common.{◌≡◌, ◌<◌, ◌++◌, ap, subst, List}
use Rattle.std.specs.Prelude.{IfOk, IfSome}
use Rattle.paxos_packets.specs.declared.entry.Entry.{Entry}
use Rattle.replica_machine.specs.Given.{AreGiven}
use Rattle.replica_machine.specs.Log.{LogState, IsLogOf, length_in}
use Rattle.replica_machine.specs.Snapshot.{kept_of, loaded_log}
use Rattle.actor_parts.specs.Parts.{Parted}
use Rattle.actor_parts.proofs.parts.Parts.save.Goals as goal

pub returns-clause-only : goal.returns-clause-only
returns-clause-only g c =
    let machine = g.M.Machine in
    subst (λ (log : LogState g.row.M-Body.Denot g.row.M.Denot). (first : machine.Content) → (under : List (Entry g.row.M-Body.Denot))
    → IsLogOf machine.steps machine.content first under log → AreGiven (under ++ log.applied) → length_in log < 1099511627776
    → IfOk c.save.result (λ octets. IfSome (loaded_log machine.loaded octets.items) (λ kept. kept ≡ kept_of machine.content log)))
    (ap (λ (v : Parted g.row.M-Body.Denot g.row.M.Denot g.row.K.Denot). v.log) c.self.view_is) c.save.ensures.only
