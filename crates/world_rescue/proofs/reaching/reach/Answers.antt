use Rattle.std.proofs.Common.{◌≡◌, ℕ, List, Option, None, ap, ◌∙◌, subst}
use Rattle.std.specs.Prelude.{OnOk, map}
use Rattle.paxos_node.specs.Applying.{standing_of}
use Rattle.paxos_planning.specs.Node.{NodeState, log_length}
use Rattle.replica_machine.specs.Roll.{HasStandings}
use Rattle.world_rescue.proofs.Listing.{shown}
use Rattle.world_rescue.specs.Course.{Seat, seat_of}
use Rattle.world_rescue.specs.Reaching.{Source, highest, reached_by}
use Rattle.world_rescue.proofs.reaching.reach.Goals as goal

pub returns-in_default-highest-clause-roll : goal.returns-in_default-highest-clause-roll
returns-in_default-highest-clause-roll g c =
    let x : NodeState g.row.B.Denot = c.args.own.now.state in
    let seats : List (Seat g.row.B.Denot) = map (λ h. seat_of h.now) c.args.helpers.now in
    let none : None ≡ highest (log_length x) seats =
    c.in_default-highest.ensures ∙ ap (λ (k : ℕ). highest k seats) c.applied.ensures.length in
    subst (λ (o : Option Source). OnOk c.as_it_is.result (HasStandings (standing_of (reached_by c.args.own.now.me x o)) c.args.roll.now)) none
    (shown c.as_it_is.result c.requires)

pub returns-clause-roll : goal.returns-clause-roll
returns-clause-roll g c =
    let x : NodeState g.row.B.Denot = c.args.own.now.state in
    let seats : List (Seat g.row.B.Denot) = map (λ h. seat_of h.now) c.args.helpers.now in
    subst (λ (o : Option Source). OnOk c.reach_over.result (HasStandings (standing_of (reached_by c.args.own.now.me x o)) c.reach_over.new.roll))
    (c.in-Some.ensures ∙ ap (λ (k : ℕ). highest k seats) c.applied.ensures.length) c.reach_over.ensures.roll
