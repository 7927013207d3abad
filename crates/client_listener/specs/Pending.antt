-- What clauses see of what a client has sent and is not put yet.
use Rattle.std.specs.Prelude.{ℕ, List, Option}
use Rattle.client_listener.specs.declared.fault.ListenFault.{ListenFault}
use Rattle.client_listener.specs.declared.items.FromClient.{FromClient}

-- the octets that are not cut into frames yet, if they show no fault; the item that waits for room; and the fault by which the inlet failed
pub record Pending : Type 0 where
  pub held : Option (List ℕ)
  pub next : Option FromClient
  pub fault : Option ListenFault
