-- Of one world there is one list.
use Rattle.cluster_world.proofs.Telling.{handed_is_one}
use Rattle.cluster_world.proofs.laws.handed_once.Goals as goal

pub returns : goal.returns
returns g c = λ m w a b h k. handed_is_one m w a b h k
