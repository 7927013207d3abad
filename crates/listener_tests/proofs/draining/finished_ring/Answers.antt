use Rattle.std.proofs.Common.{Option, subst}
use Rattle.std.specs.Prelude.{IfSome}
use Rattle.std.specs.declared.alloc.Global.{Global}
use Rattle.client_listener.specs.declared.items.FromClient.{FromClient}
use Rattle.rtrb.specs.Ring.{IsFinishedOf, IsPair}
use Rattle.rtrb.specs.declared.AnyItems.{AnyItems}
use Rattle.rtrb.specs.declared.consumer.Consumer.{Consumer}
use Rattle.rtrb.specs.declared.finished.Finished.{Finished}
use Rattle.listener_tests.proofs.draining.finished_ring.Goals as goal

-- what finished is of each ring's other end
pub returns-in-Some : goal.returns-in-Some
returns-in-Some c =
    (subst (λ (r : Option (Finished FromClient Global AnyItems)). IfSome r (λ f.
    (d : Consumer FromClient Global AnyItems) → IsPair c.in_ok-producer.producer d → IsFinishedOf f d)) c.in-Some.is
    c.read_transport-outcome.ensures.ring) c.in_ok-producer.consumer c.in_ok-producer.ensures.pair
