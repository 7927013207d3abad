use Rattle.replica_machine.specs.Log.{machine_from}
use Rattle.replica_machine.proofs.Snapshots.{sound_state}
use Rattle.replica_machine.proofs.laws.soundness.Goals as goal

pub returns : goal.returns
returns g c = λ first log given sound.
    sound_state (machine_from g.M.Machine.steps first) g.M.Machine.is_sound g.met.M.Machine.keeps log given sound
