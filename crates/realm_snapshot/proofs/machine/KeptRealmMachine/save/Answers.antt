use Rattle.realm_laws.proofs.Kept.{comes_back}
use Rattle.realm_snapshot.proofs.machine.KeptRealmMachine.save.Goals as goal

pub returns : goal.returns
returns c = record {
  failed = c.save.ensures.failed;
  octets = c.save.ensures.octets;
  back = λ sound. c.save.ensures.back (comes_back _ _ sound);
  only = c.save.ensures.only;
  fault = c.save.ensures.fault;
}
