-- The pending entries at the front that stand already (an equal one is proposed), which a push need not look at.
use Rattle.std.specs.Prelude.{◌≡◌, ℕ, Bool, true, List, [], ◌∷◌, take}
use Rattle.paxos_packets.specs.Body.{IsEquality}
use Rattle.paxos_packets.specs.declared.entry.Entry.{Entry}
use Rattle.paxos_proposer.specs.Role.{Role}
use Rattle.paxos_proposer.specs.Proposer.{is_leading}
use Rattle.paxos_planning.specs.Node.{log_length}
use Rattle.paxos_planning.specs.Drafting.{Drafted}
use Rattle.paxos_planning.specs.Proposals.{stands}

-- each of them stands
abbrev pub AllStand : {B : Type 0} → (B → B → Bool) → ℕ → Role B → List (Entry B) → Type 0
AllStand same applied role [] = Unit {0}
AllStand same applied role (e ∷ es) = (stands same applied role e ≡ true) × AllStand same applied role es

-- the first n of the entries stand if it leads, whatever the test of bodies is
abbrev pub IsFront : {B : Type 0} → ℕ → ℕ → Role B → List (Entry B) → Type 0
IsFront {B} n applied role es =
    (same : B → B → Bool) → IsEquality same → is_leading role ≡ true → AllStand same applied role (take n es)

-- the first n of those that were pending before an event stand in what it makes of the node so far
abbrev pub FrontOf : {B : Type 0} → ℕ → Drafted B → Type 0
FrontOf n d = IsFront n (log_length d.plan.node) d.plan.node.proposer.role d.of.state.pending
