use Rattle.std.proofs.Common.{◌≡◌, ◌<◌, suc, ◌++◌, subst, rules}
use Rattle.paxos_planning.specs.Node.{NodeState, log_length}
use Rattle.paxos_proposer.specs.Proposer.{round_end, slot_end}
use Rattle.paxos_node.specs.Applying.{standing_of}
use Rattle.replica_machine.specs.Roll.{HasStandings}
use Rattle.world_rescue.proofs.Lacking.{handed}
use Rattle.world_rescue.proofs.Listing.{joined, on_ok}
use Rattle.world_rescue.proofs.Levelling.{reached_boot, reached_taken, level_low, log_low, has_round, has_slot}
use Rattle.world_rescue.specs.Course.{Crew, Act, act, level_course}
use Rattle.world_rescue.specs.Level.{IsLevelOf}
use Rattle.world_rescue.specs.Reaching.{source_of, reach, reached}
use Rattle.world_rescue.specs.declared.fault.CourseFault.TheVariants as fault
use Rattle.world_rescue.proofs.crew.Crew.course.Goals as goal

pub returns-clause-course : goal.returns-clause-course
returns-clause-course g c = λ boots acts.
    let crew : Crew g.row.B.Denot = c.args.self.now in
    let a : Act g.row.B.Denot = act c.args.number c.args.body.now in
    let x : NodeState g.row.B.Denot = (reached crew).own.node in
    let is : IsLevelOf crew.own.node.rows.votes c.in_ok-level.level x =
    subst (λ (v : Crew g.row.B.Denot). IsLevelOf v.own.node.rows.votes c.in_ok-level.level (reached v).own.node) c.self.view_is c.in_ok-level.ensures.level in
    let stood : HasStandings (standing_of x) c.reach.new.roll =
    subst (λ (v : Crew g.row.B.Denot). HasStandings (standing_of (reached v).own.node) c.reach.new.roll) c.self.view_is c.in_ok-level.ensures.roll in
    let reaches : c.reach.new.events.items ≡ c.args.events.now.items ++ reach crew = search rules in
    on_ok c.level_course-done.result
    (joined c.args.events.now.items c.reach.new.events.items c.level_course-done.new.events.items (reach crew) (level_course g.B.Body.same (reached crew) a)
    reaches)
    (c.level_course-done.ensures.course x is stood (reached_boot crew.own.number crew.own.node (source_of crew) boots)
    (reached_taken crew.own.number crew.own.node (source_of crew) acts))

pub returns-clause-room : goal.returns-clause-room
returns-clause-room g c = λ round slot most low room.
    let crew : Crew g.row.B.Denot = c.args.self.now in
    let x : NodeState g.row.B.Denot = (reached crew).own.node in
    let is : IsLevelOf crew.own.node.rows.votes c.in_ok-level.level x =
    subst (λ (v : Crew g.row.B.Denot). IsLevelOf v.own.node.rows.votes c.in_ok-level.level (reached v).own.node) c.self.view_is c.in_ok-level.ensures.level in
    c.level_course-done.ensures.room round slot most (level_low crew c.in_ok-level.level x is round slot most low)
    (log_low crew c.in_ok-level.level x is round slot most low) room

pub returns-in_err-level-clause-room : goal.returns-in_err-level-clause-room
returns-in_err-level-clause-room g c = λ round slot most low room.
    let crew : Crew g.row.B.Denot = c.args.self.now in
    handed c.from_residual.result c.in_err-level.field-0.0 c.from_residual.ensures.1
    (subst (λ (v : Crew g.row.B.Denot). suc (reached v).own.node.proposer.seen < round_end → log_length (reached v).own.node < slot_end
    → c.in_err-level.field-0.0 ≡ fault.Memory) c.self.view_is c.in_err-level.ensures.room (has_round (reached crew) round slot most low room)
    (has_slot (reached crew) round slot most low room))
