use Rattle.std.proofs.Common.{◌≡◌, suc, sym, ap, ◌∙◌, subst, rules}
use Rattle.std.specs.Prelude.{map}
use Rattle.paxos_node.specs.Events.{most_pending}
use Rattle.cluster_world.proofs.Refusing.{appended, course_memory}
use Rattle.cluster_world.specs.Helpers.{helpers_of}
use Rattle.cluster_world.specs.Rescue.{last_rescue_round, last_rescue_slot}
use Rattle.world_rescue.specs.Course.{Crew, act, seat_of}
use Rattle.world_rescue.specs.Parts.{crew_of}
use Rattle.world_rescue.specs.Reaching.{reached}
use Rattle.world_rescue.specs.Room.{IsUpTo}
use Rattle.cluster_world.proofs.world.World.events_for.Goals as goal

pub returns-clause-course : goal.returns-clause-course
returns-clause-course g c =
    let members : c.self.inside.members ≡ c.args.self.now.members = search rules in
    let helpers : map (λ h. seat_of h.now) c.deref.result.now ≡ helpers_of c.args.self.now.nodes c.args.node c.args.self.now.members =
    ap (λ hs. map (λ h. seat_of h.now) hs) c.deref.ensures.value ∙ c.in_ok-helpers.ensures in
    let crew : c.of.result ≡ crew_of c.args.self.now.members (seat_of c.args.own.now) (helpers_of c.args.self.now.nodes c.args.node c.args.self.now.members) =
    c.of.ensures ∙ (λ i. crew_of (members i) (seat_of c.args.own.now) (helpers i)) in
    appended g.M.Body.Body.same c.of.result (crew_of c.args.self.now.members (seat_of c.args.own.now)
    (helpers_of c.args.self.now.nodes c.args.node c.args.self.now.members)) (act c.args.number c.args.body.now) c.new-events.result.items
    c.course.new.events.items c.course.result c.in_ok-course.field-0 crew c.new-events.ensures.items c.in_ok-course.was c.course.ensures.course

pub returns-in_err-course-clause-room : goal.returns-in_err-course-clause-room
returns-in_err-course-clause-room g c = λ room.
    let members : c.self.inside.members ≡ c.args.self.now.members = search rules in
    let helpers : map (λ h. seat_of h.now) c.deref.result.now ≡ helpers_of c.args.self.now.nodes c.args.node c.args.self.now.members =
    ap (λ hs. map (λ h. seat_of h.now) hs) c.deref.ensures.value ∙ c.in_ok-helpers.ensures in
    let crew : c.of.result ≡ crew_of c.args.self.now.members (seat_of c.args.own.now) (helpers_of c.args.self.now.nodes c.args.node c.args.self.now.members) =
    c.of.ensures ∙ (λ i. crew_of (members i) (seat_of c.args.own.now) (helpers i)) in
    course_memory c.from_residual-in_err-course.result c.in_err-course.field-0.0 c.from_residual-in_err-course.ensures.1
    (c.in_err-course.ensures.room (suc last_rescue_round) last_rescue_slot most_pending
    (subst (λ (v : Crew g.row.M-Body.Denot). IsUpTo (suc last_rescue_round) last_rescue_slot most_pending (reached v)) (sym crew) room.0) room.1)
