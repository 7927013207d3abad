-- What the module `laws` states of a log that is kept as octets.
use Rattle.std.specs.Prelude.{◌<◌, ◌^◌, List, ◌++◌}
use Rattle.paxos_packets.specs.declared.entry.Entry.{Entry}
use Rattle.replica_machine.specs.Given.{AreGiven}
use Rattle.replica_machine.specs.Log.{LogState, length_in, cut_log, IsLogOf}
use Rattle.replica_machine.specs.Snapshot.{kept_of, IsLoaded}
use Rattle.replica_machine.specs.Replay.{Steps}

-- a log that is made of what is kept of another stands for the same one, if its entries are ones
abbrev pub LoadedStands : Type 0 → Type 0 → Type 0 → Type 0 → Type 0
LoadedStands B S Y M =
    (steps : Steps B S Y) (content : M → S) (first : S) (under : List (Entry B))
    (old new : LogState B M) → IsLogOf steps content first under old → AreGiven (under ++ old.applied)
    → IsLoaded content (kept_of content old) new → IsLogOf steps content first (under ++ old.applied) new

-- so does one whose applied entries are forgotten
abbrev pub CutStands : Type 0 → Type 0 → Type 0 → Type 0 → Type 0
CutStands B S Y M =
    (steps : Steps B S Y) (content : M → S) (first : S) (under : List (Entry B))
    (old : LogState B M) → length_in old < 2 ^ 40 → IsLogOf steps content first under old
    → IsLogOf steps content first (under ++ old.applied) (cut_log old)
