use Rattle.std.proofs.Common.{◌≡◌, suc, false, [], ◌∷◌, ◌++◌, subst, rules}
use Rattle.std.specs.Prelude.{IfOk, OnOk, if◌then◌else◌}
use Rattle.paxos_planning.specs.Node.{NodeState, log_length}
use Rattle.paxos_node.specs.Applying.{standing_of}
use Rattle.paxos_node.specs.declared.event.Event.TheVariants.{Start, Restart}
use Rattle.replica_machine.specs.Roll.{HasStandings}
use Rattle.world_rescue.proofs.Listing.{on_ok}
use Rattle.world_rescue.proofs.Levelling.{over_events, free_turn, free_node}
use Rattle.world_rescue.specs.Level.{IsLevelOf}
use Rattle.world_rescue.specs.Reaching.{Source, fetch, holds_boot, falls_after, begins_over, goes_over, preparing}
use Rattle.world_rescue.proofs.reaching.reach_over.Goals as goal

pub returns-clause-events : goal.returns-clause-events
returns-clause-events g c =
    let n = c.args.own.now.me in
    let t : Source = c.args.source.now in
    let x : NodeState g.row.B.Denot = c.args.own.now.state in
    let starts : c.happen.new.events.items ≡ c.args.events.now.items ++ Start n ∷ [] = search rules in
    let gets : c.fetch.new.events.items ≡ c.happen.new.events.items ++ fetch n (suc (log_length x)) t = search rules in
    let free : false ≡ holds_boot n t.snapshot x = search rules in
    on_ok c.goes_over.result
    (λ h. over_events n t x c.args.events.now.items c.happen.new.events.items c.fetch.new.events.items c.goes_over.new.events.items
    (if falls_after n t.snapshot x then Restart n ∷ [] else []) starts gets h (free_turn n t x free))
    (subst (λ (v : Source). OnOk c.goes_over.result (c.goes_over.new.events.items ≡ c.fetch.new.events.items
    ++ (if falls_after n v.snapshot x then Restart n ∷ [] else []))) c.source.view_is c.goes_over.ensures.events)

pub returns-clause-level : goal.returns-clause-level
returns-clause-level g c =
    let n = c.args.own.now.me in
    let t : Source = c.args.source.now in
    let x : NodeState g.row.B.Denot = c.args.own.now.state in
    let free : false ≡ holds_boot n t.snapshot x = search rules in
    subst (λ (y : NodeState g.row.B.Denot). IfOk c.goes_over.result (λ level. IsLevelOf x.rows.votes level y)) (free_node n t x free)
    (subst (λ (v : Source). IfOk c.goes_over.result (λ level. IsLevelOf x.rows.votes level
    (if falls_after n v.snapshot x then begins_over n v.snapshot (preparing n x) else goes_over v.snapshot (preparing n x)))) c.source.view_is
    c.goes_over.ensures.level)

pub returns-clause-roll : goal.returns-clause-roll
returns-clause-roll g c =
    let n = c.args.own.now.me in
    let t : Source = c.args.source.now in
    let x : NodeState g.row.B.Denot = c.args.own.now.state in
    let free : false ≡ holds_boot n t.snapshot x = search rules in
    subst (λ (y : NodeState g.row.B.Denot). OnOk c.goes_over.result (HasStandings (standing_of y) c.goes_over.new.roll)) (free_node n t x free)
    (subst (λ (v : Source). OnOk c.goes_over.result (HasStandings (standing_of
    (if falls_after n v.snapshot x then begins_over n v.snapshot (preparing n x) else goes_over v.snapshot (preparing n x))) c.goes_over.new.roll))
    c.source.view_is c.goes_over.ensures.roll)
