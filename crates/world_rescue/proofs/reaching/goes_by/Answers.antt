use Rattle.std.proofs.Common.{◌≡◌, Bool, false, Some, ◌∙◌, subst}
use Rattle.std.specs.Prelude.{OnOk, if◌then◌else◌}
use Rattle.paxos_node.specs.Applying.{standing_of, stands_at, has_end}
use Rattle.paxos_planning.specs.Node.{NodeState}
use Rattle.replica_machine.specs.Roll.{HasStandings}
use Rattle.world_rescue.specs.Reaching.{falls_after, begins_over, goes_over, preparing}
use Rattle.world_rescue.proofs.reaching.goes_by.Goals as goal

pub returns-clause-roll : goal.returns-clause-roll
returns-clause-roll g c =
    let n = c.args.own.now.me in
    let s = c.args.snapshot.now in
    let x : NodeState g.row.B.Denot = c.args.own.now.state in
    let up : false ≡ falls_after n s x =
    c.if-falls_in.ensures (stands_at (Some s)) c.roll_at.ensures
    ∙ (λ i. has_end (c.me.ensures i) (c.boot.ensures i) (stands_at (Some s) (c.me.ensures i)) (c.requires.run i)) in
    subst (λ (b : Bool). OnOk c.rides.result (HasStandings (standing_of
    (if b then begins_over n s (preparing n x) else goes_over s (preparing n x))) c.rides.new.roll)) up c.rides.ensures.roll
