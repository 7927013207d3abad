-- What is known of the events that a feed of clients gave, for the crates above.
use Rattle.std.specs.Prelude.{List}
use Rattle.paxos_node.specs.declared.event.Event.{Event}
use Rattle.realm_acts.specs.declared.act.Act.{Act}
use Rattle.serve_feed.specs.declared.feed.ClientFeed.{ClientFeed}
use Rattle.serve_feed.specs.Saw.{Saw}

-- of each connection that is there, the acts among these events are the requests that were taken from it
abbrev pub HasGiven : ClientFeed → List (Event Act) → Type 0
HasGiven feed given = Saw feed.node feed.lanes.sources given
