use Rattle.mail_table.proofs.Loading.{loads_leave}
use Rattle.mail_table.proofs.laws.loads.Goals as goal

pub returns : goal.returns
returns g c = loads_leave
