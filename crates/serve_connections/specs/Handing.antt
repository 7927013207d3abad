-- What a connection's porter hands to its node besides the requests.
use Rattle.std.specs.Prelude.{◌≡◌, ◌∷◌, List}
use Rattle.std.specs.declared.alloc.Global.{Global}
use Rattle.rtrb.specs.Ring.{IsFinishedOf}
use Rattle.rtrb.specs.declared.consumer.Consumer.{Consumer}
use Rattle.rtrb.specs.declared.AnyItems.{AnyItems}
use Rattle.client_listener.specs.declared.items.FromClient.{FromClient}
use Rattle.serve_connections.specs.declared.requests.Handed.{Handed}
use Rattle.serve_connections.specs.declared.requests.Handed.TheVariants.{Ring, Last}

-- this end of the ring of requests was handed over first
abbrev pub RingFirst : List Handed → Consumer FromClient Global AnyItems → Type 0
RingFirst handed ring = (others : List Handed) × (handed ≡ Ring ring ∷ others)

-- a `Last` shows what was put into the ring that was handed over first
abbrev pub MayCome : List Handed → Handed → Type 0
MayCome before (Ring ring) = Unit {0}
MayCome before (Last finished) = (ring : Consumer FromClient Global AnyItems) → RingFirst before ring → IsFinishedOf finished ring
