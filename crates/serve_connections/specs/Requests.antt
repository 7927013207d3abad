-- What a node takes of what its porter puts.
use Rattle.std.specs.Prelude.{◌≡◌, ◌<◌, ◌++◌, ◌∷◌, [], List, Option, Some}
use Rattle.std.specs.declared.alloc.Global.{Global}
use Rattle.rtrb.specs.Ends.{SameRing}
use Rattle.rtrb.specs.Ring.{sent, received, known_free, known_items, all_sent, IsFinishedOf}
use Rattle.rtrb.specs.declared.producer.Producer.{Producer}
use Rattle.rtrb.specs.declared.consumer.Consumer.{Consumer}
use Rattle.rtrb.specs.declared.finished.Finished.{Finished}
use Rattle.rtrb.specs.declared.AnyItems.{AnyItems}
use Rattle.client_listener.specs.declared.items.FromClient.{FromClient}
use Rattle.serve_connections.specs.declared.requests.Handed.{Handed}
use Rattle.serve_connections.specs.declared.requests.Handed.TheVariants.{Last}
use Rattle.serve_connections.specs.declared.requests.OneRing.{OneRing}
use Rattle.serve_connections.specs.declared.requests.Found.{Found}
use Rattle.serve_connections.specs.declared.requests.Found.TheVariants.{Nothing, Request, End}
use Rattle.serve_connections.specs.Handing.{MayCome}

-- what shows all that was put into this ring may be handed over, and there is room for it
abbrev pub HandsOver : Producer FromClient Global AnyItems → Producer Handed Global OneRing → Type 0
HandsOver ring handing = (0 < known_free handing)
    × ((finished : Finished FromClient Global AnyItems) → SameRing ring.end finished.end → MayCome (sent handing) (Last finished))

-- what is handed over next shows all that was put into this ring
abbrev pub IsHanded : Consumer FromClient Global AnyItems → Consumer Handed Global OneRing → Type 0
IsHanded ring handed = (finished : Finished FromClient Global AnyItems)
    → MayCome (received handed) (Last finished) → IsFinishedOf finished ring

-- all that was ever put into the ring was taken out of it
abbrev pub IsAllOf : Consumer FromClient Global AnyItems → Finished FromClient Global AnyItems → Type 0
IsAllOf ring finished = IsFinishedOf finished ring × (all_sent finished ≡ received ring)

-- nothing is found only if no item was known; a request is the next that was put; at the end all that was put has been taken
abbrev pub Finds : Found → Consumer FromClient Global AnyItems → Consumer FromClient Global AnyItems
    → Option (Finished FromClient Global AnyItems) → Type 0
Finds Nothing old new last = (received new ≡ received old) × (known_items old ≡ [])
Finds (Request request) old new last = received new ≡ received old ++ request ∷ []
Finds End old new last = (received new ≡ received old)
    × ((finished : Finished FromClient Global AnyItems) × (last ≡ Some finished) × IsAllOf new finished)
