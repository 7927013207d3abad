use Rattle.realm_laws.proofs.Order.{leaves_in_order}
use Rattle.realm_laws.proofs.laws.sessions_leave_in_order.Goals as goal

pub returns : goal.returns
returns c = leaves_in_order
