-- What is known of the events that a feed gave.
use Rattle.std.specs.Prelude.{ℕ, List}
use Rattle.paxos_node.specs.declared.event.Event.{Event}
use Rattle.actor_run.specs.Events.{asked_in}
use Rattle.realm_acts.specs.declared.act.Act.{Act}
use Rattle.serve_feed.specs.declared.sources.Sources.{Sources}
use Rattle.serve_feed.specs.Tells.{Tells}

-- the acts among all events that were given since the boot began are those of the requests that were taken
abbrev pub Saw : ℕ → Sources → List (Event Act) → Type 0
Saw node sources given = Tells sources (asked_in node given)
