-- What a node says to the clients of its connections.
use Rattle.std.specs.Prelude.{◌==◌, ◌&&◌, ℕ, List, [], if◌then◌else◌}
use Rattle.std.specs.List.{flat_map}
use Rattle.realm_machine.specs.declared.sayings.say.Out.{Out}
use Rattle.realm_machine.specs.declared.sayings.say.Out.TheVariants as out
use Rattle.realm_machine.specs.declared.sayings.say.Say.{Say}
use Rattle.client_listener.specs.declared.items.ToClient.{ToClient}
use Rattle.client_listener.specs.declared.items.ToClient.TheVariants as item
use Rattle.serve_feed.specs.Hears.{one}

-- a saying in the form in which a porter takes it
abbrev pub item_of : Out → ToClient
item_of (out.Send message) = item.Send message
item_of out.Close = item.Close

-- what one saying is to the client under this number: only those to the node's transports of its present boot are for its clients
abbrev pub said_one : ℕ → ℕ → Say → ℕ → List ToClient
said_one node boot say number =
    if say.transport.node == node && say.transport.boot == boot then one say.transport.number (item_of say.out) number else []

-- what is said to the client under this number, in order
abbrev pub said_to : ℕ → ℕ → List Say → ℕ → List ToClient
said_to node boot says number = flat_map (λ say. said_one node boot say number) says
