-- The events so far were run.
use Rattle.std.proofs.Common.{◌≡◌, ◌≤◌, ◌++◌, List, [], ◌∷◌, take, length}
use Rattle.paxos_node.specs.declared.event.Event.{Event}
use Rattle.replica_machine.specs.Log.{machine_from}
use Rattle.cluster_world.specs.Members.{GivenUpStay, AreLater, Renews}
use Rattle.cluster_world.specs.StandsAt.{ShowsAt, StandsAt}
use Rattle.cluster_world.proofs.world.World.run_all.Given as goal

abbrev pub invariant-loop-index : goal.invariant-loop-index
invariant-loop-index g l =
    (l.self.members ≡ l.initial.self.members)
    × (l.index ≤ length l.fn.events)
    × ((es : List (Event _)) → ShowsAt g.M.Body.Body.same l.initial.self es → (more : List (Event _)) × ShowsAt g.M.Body.Body.same l.self (es ++ more))
    × ((first : g.M.Machine.Content) (es : List (Event _)) → StandsAt g.M.Body.Body.same g.M.Machine.content g.M.Machine.saved g.M.Machine.loaded
    (machine_from g.M.Machine.steps first) l.initial.self es
    → StandsAt g.M.Body.Body.same g.M.Machine.content g.M.Machine.saved g.M.Machine.loaded
    (machine_from g.M.Machine.steps first) l.self (es ++ take l.index l.fn.events))
    × AreLater l.initial.self l.self
    × GivenUpStay l.initial.self l.self
    × (l.self.first ≡ l.initial.self.first)
    × (l.index ≡ 0 → l.self ≡ l.initial.self)
    × ((e : Event _) → l.fn.events ≡ e ∷ [] → l.index ≡ 1 → Renews g.M.Machine.loaded e l.initial.self l.self)
