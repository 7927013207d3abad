use Rattle.realm_snapshot.specs.Snapshot.{loaded}
use Rattle.realm_snapshot.proofs.AsMachine.{has_content, is_alive, are_none}
use Rattle.realm_snapshot.proofs.machine.KeptRealmMachine.load.Goals as goal

pub returns : goal.returns
returns c = record {
  content = has_content _ (loaded c.args.octets.now) c.load.ensures;
  alive = is_alive _ (loaded c.args.octets.now) c.load.ensures;
  damaged = are_none _ (loaded c.args.octets.now) c.load.ensures;
}
