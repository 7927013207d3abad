use Rattle.std.proofs.Common.{◌≡◌, ◌++◌, drop}
use Rattle.std.specs.List.{flat_map}
use Rattle.realm_machine.specs.Sayings.Events.{event_to}
use Rattle.realm_machine.proofs.sayings.events.add_events_to.Given as goal

-- what is said so far and the events of the receivers that are left is all of it
abbrev pub invariant-loop-receiver : goal.invariant-loop-receiver
invariant-loop-receiver l =
    l.says.items ++ flat_map (event_to l.sessions.list l.topic l.publication l.args) (drop l.receiver-index l.receivers)
    ≡ l.initial.says.items ++ flat_map (event_to l.sessions.list l.topic l.publication l.args) l.receivers
